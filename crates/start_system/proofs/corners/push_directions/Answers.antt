use Rattle.std.proofs.Common.{rules, ◌≡◌, ◌∙◌, ap, map, arith, FitsSigned}
use Rattle.std.proofs.Math.Facts.{to_z-of_z}
use Rattle.std.specs.Int.{w128, w64}
use Rattle.std.proofs.lemmas.List.{map-append}
use Rattle.cayley.specs.Stored.{point}
use Rattle.cayley.specs.Paths.{corner, direction_corners}
use Rattle.cayley.specs.Problems.{origin}
use Rattle.start_system.proofs.Path.Supports.{length-directions}
use Rattle.start_system.proofs.Making.Entries.{more_behind, all_behind}
use Rattle.start_system.proofs.Making.Directions.{direction_is}
use Rattle.start_system.proofs.corners.push_directions.Goals as goal

pub loop-k-preserved : goal.loop-k-preserved
loop-k-preserved c =
    let g : FitsSigned w128 c.args.d = search rules in
    let z : FitsSigned w64 c.start_of.result = search rules in
    let m = c.args.m.now in
    let starts = c.args.starts.now in
    let n = c.loop-k-test.true in
    let e = c.len-k-end.ensures in
    let l = c.requires.lengths in
    let w = length-directions m c.args.d c.args.own 0 starts c.requires.own in
    let own = c.start_of.ensures.own in
    let before = c.start_of.ensures.before in
    let after = c.start_of.ensures.after in
    let coordinates = simp to_z-of_z at c.in_ok-coords.ensures in
    let made = simp to_z-of_z at c.corner.ensures in
    let inv = simp to_z-of_z at c.loop-k.invariant in
    let is : point c.corner.result ≡ _ = made ∙ ap (λ v. corner v c.start_of.result) coordinates
    ∙ direction_is m c.args.d c.args.own c.loop-k.k starts c.start_of.result c.requires.own (omega (arith, n, e, l)) own before after in
    simp to_z-of_z (ap (map point) c.in_ok-push.ensures ∙ map-append _ _ _
    ∙ more_behind (direction_corners m c.args.d c.args.own 0 starts) (map point c.args.made.now.items) (map point c.loop-k.made.items) c.loop-k.k (point c.corner.result) origin inv (omega (arith, n, e, l, w)) is)

pub returns : goal.returns
returns c =
    let g : FitsSigned w128 c.args.d = search rules in
    let m = c.args.m.now in
    let starts = c.args.starts.now in
    let n = c.loop-k-test.false in
    let e = c.len-k-end.ensures in
    let l = c.requires.lengths in
    let w = length-directions m c.args.d c.args.own 0 starts c.requires.own in
    let inv = simp to_z-of_z at c.loop-k.invariant in
    all_behind (direction_corners m c.args.d c.args.own 0 starts) (map point c.args.made.now.items) (map point c.loop-k.made.items) c.loop-k.k inv (omega (arith, n, e, l, w))
