use Rattle.std.proofs.Common.{arith, subst}
use Rattle.std.specs.Prelude.{pos}
use Rattle.cayley.specs.Valid.{IsHeight}
use Rattle.int_vectors.proofs.Each.{each_all, same_read}
use Rattle.cayley.proofs.second_heights.first_outside.Goals as goal

pub returns : goal.returns
returns c =
    let m = c.loop-k-test.false in
    each_all IsHeight c.args.heights.now (λ k d l. subst IsHeight (same_read c.args.heights.now k (pos 0) d l) (c.loop-k.invariant k (omega (arith, m, l))))
