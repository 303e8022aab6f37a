use Rattle.std.proofs.Common.{rules, ◌≡◌, ◌*ℤ◌, ◌-ℤ◌, pos, get_or, FitsSigned, to_z-of_z}
use Rattle.std.specs.Int.{w64}
use Rattle.carried_inverse.proofs.EntrySteps.{whole_below, whole_left}
use Rattle.carried_inverse.proofs.entries.combined_at.Goals as goal

pub place-requires-clause-left : goal.place-requires-clause-left
place-requires-clause-left c =
    let fp : FitsSigned w64 c.args.pivot = c.ranges.pivot in
    let fx : FitsSigned w64 (get_or c.args.entries.now c.args.i (pos 0)) = search rules in
    let r = whole_below c.args.pivot c.args.factor c.args.entries.now c.args.by.now c.args.i c.requires.lengths c.requires.place c.requires.room in
    simp to_z-of_z r.0

pub place-requires-clause-right : goal.place-requires-clause-right
place-requires-clause-right c =
    let ff : FitsSigned w64 c.args.factor = c.ranges.factor in
    let fy : FitsSigned w64 (get_or c.args.by.now c.args.i (pos 0)) = search rules in
    let r = whole_below c.args.pivot c.args.factor c.args.entries.now c.args.by.now c.args.i c.requires.lengths c.requires.place c.requires.room in
    simp to_z-of_z r.1

pub returns : goal.returns
returns c =
    let fp : FitsSigned w64 c.args.pivot = c.ranges.pivot in
    let ff : FitsSigned w64 c.args.factor = c.ranges.factor in
    let fx : FitsSigned w64 (get_or c.args.entries.now c.args.i (pos 0)) = search rules in
    let fy : FitsSigned w64 (get_or c.args.by.now c.args.i (pos 0)) = search rules in
    let fz : FitsSigned w64 c.place.result = search rules in
    let z : c.place.result ≡ c.args.pivot *ℤ get_or c.args.entries.now c.args.i (pos 0) -ℤ c.args.factor *ℤ get_or c.args.by.now c.args.i (pos 0) = simp to_z-of_z at c.place.ensures in
    simp to_z-of_z (λ d h. whole_left d c.args.pivot c.args.factor c.place.result c.args.entries.now c.args.by.now c.args.i c.requires.lengths c.requires.place z h)
