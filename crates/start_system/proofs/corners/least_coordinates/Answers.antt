use Rattle.std.proofs.Common.{rules, ◌∙◌, map, subst, sym, arith, FitsSigned}
use Rattle.std.proofs.Math.Facts.{to_z-of_z}
use Rattle.std.proofs.Math.IntN.{pos}
use Rattle.std.specs.Int.{w128}
use Rattle.int_vectors.specs.Fits.{AllFit}
use Rattle.cayley.specs.Stored.{file_point}
use Rattle.cayley.specs.Paths.{least_coordinates}
use Rattle.start_system.proofs.Making.Entries.{next_taken, last_taken}
use Rattle.start_system.proofs.Making.Numbers.{small_fit}
use Rattle.start_system.proofs.Making.Least.{least_long, least_small}
use Rattle.start_system.proofs.corners.least_coordinates.Goals as goal

pub loop-k-preserved : goal.loop-k-preserved
loop-k-preserved c =
    let f : FitsSigned w128 c.least_at.result = search rules in
    let n = c.loop-k-test.true in
    let points = map file_point c.args.points.now in
    let l = least_long c.args.dim points c.requires in
    let p = simp to_z-of_z at c.in_ok-push.ensures in
    p ∙ next_taken (least_coordinates points) c.loop-k.made.items c.loop-k.k c.least_at.result (pos 0) c.loop-k.invariant (omega (arith, n, l)) c.least_at.ensures

pub from_vec-requires : goal.from_vec-requires
from_vec-requires c =
    let n = c.loop-k-test.false in
    let points = map file_point c.args.points.now in
    let l = least_long c.args.dim points c.requires in
    subst AllFit (sym (last_taken (least_coordinates points) c.loop-k.made.items c.loop-k.k c.loop-k.invariant (omega (arith, n, l))))
    (small_fit (least_coordinates points) (least_small c.args.dim points c.requires.1))

pub returns : goal.returns
returns c =
    let n = c.loop-k-test.false in
    let points = map file_point c.args.points.now in
    let l = least_long c.args.dim points c.requires in
    c.from_vec.ensures ∙ last_taken (least_coordinates points) c.loop-k.made.items c.loop-k.k c.loop-k.invariant (omega (arith, n, l))
