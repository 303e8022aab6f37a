use Rattle.std.proofs.Common.{rules, ◌∙◌, sym, refl, arith, FitsSigned}
use Rattle.std.proofs.Math.Facts.{to_z-of_z}
use Rattle.std.specs.Int.{w128}
use Rattle.int_vectors.specs.Vectors.{add, at_place}
use Rattle.start_system.proofs.Making.Entries.{all_equal, length-moved}
use Rattle.start_system.proofs.vectors.is_moved.Goals as goal

pub returns : goal.returns
returns c =
    let g : FitsSigned w128 c.args.d = search rules in
    let x = c.args.x.now in
    let w = add c.args.m.now (at_place c.args.k c.args.d) in
    let l = length-moved c.args.m.now c.args.k c.args.d c.requires.place in
    let e = c.len-j-end.ensures in
    let n = c.loop-j-test.false in
    (λ t. all_equal x w (c.requires.lengths ∙ sym l) (λ i h. let q = simp to_z-of_z at (c.loop-j.invariant i (omega (arith, e, h, n))) in q), λ t. refl)
