use Rattle.std.proofs.Common.{◌∙◌, ap, unsigned_abs, FitsSigned, to_z-of_z}
use Rattle.std.specs.Int.{w128}
use Rattle.int_vectors.specs.RowSteps.{negated}
use Rattle.reduced_rows.proofs.InverseSums.{negated_shares}
use Rattle.reduced_rows.proofs.reduced.Reduced.scaled_column.Goals as goal

pub returns : goal.returns
returns c =
    let fd : FitsSigned w128 c.args.den = c.ranges.den in
    let h = simp to_z-of_z at c.in_ok-v.ensures in
    (h.0, c.negate.ensures ∙ ap negated h.1 ∙ negated_shares c.args.column 0 (unsigned_abs c.args.den) c.args.self.now)
