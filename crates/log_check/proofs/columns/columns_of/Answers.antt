use Rattle.std.proofs.Common.{◌∷◌, [], ◌++◌, ◌∙◌, List, ℤ, ap, arith}
use Rattle.path_trace.specs.Matrices.{columns}
use Rattle.log_check.proofs.MatrixSteps.{columns_more, columns_end}
use Rattle.log_check.proofs.columns.columns_of.Goals as goal

pub loop-k-preserved : goal.loop-k-preserved
loop-k-preserved c =
    columns_more c.args.n c.loop-k.k c.loop-k-test.true c.loop-k.made.items c.push_reserved.new.self.items c.in_ok-column.column c.args.matrix.now (columns c.args.n c.args.matrix.now)
    (c.push_reserved.ensures.items ∙ ap (λ (z : List (List ℤ)). z ++ c.in_ok-column.column ∷ []) c.reserve.ensures.items) c.in_ok-column.ensures c.loop-k.invariant

pub returns : goal.returns
returns c = columns_end c.args.n c.loop-k.k (omega arith) c.loop-k.made.items c.args.matrix.now (columns c.args.n c.args.matrix.now) c.loop-k.invariant
