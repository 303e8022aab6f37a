use Rattle.std.proofs.Common.{rules, ◌≡◌, pos, get_or, FitsSigned, to_z-of_z, arith}
use Rattle.std.proofs.lemmas.List.{take_more}
use Rattle.std.specs.Int.{w64, w128}
use Rattle.int_vectors.specs.Bounds.{IsNarrow}
use Rattle.int_vectors.proofs.DifferenceSums.{each_at}
use Rattle.int_vectors.proofs.narrow.narrow_copy.Goals as goal

pub narrowed-requires : goal.narrowed-requires
narrowed-requires c =
    let f : FitsSigned w128 (get_or c.args.v.now c.loop-x.x-index (pos 0)) = search rules in
    simp to_z-of_z (each_at IsNarrow c.args.v.now c.loop-x.x-index c.loop-x-test.true c.requires)

pub loop-x-preserved : goal.loop-x-preserved
loop-x-preserved c =
    let f : FitsSigned w128 (get_or c.args.v.now c.loop-x.x-index (pos 0)) = search rules in
    let g : FitsSigned w64 c.narrowed.result = search rules in
    let e : c.narrowed.result ≡ get_or c.args.v.now c.loop-x.x-index (pos 0) = simp to_z-of_z at c.narrowed.ensures in
    let h = rw e at (simp to_z-of_z at c.in_ok-push.ensures.items) in
    let t = take_more c.args.v.now c.loop-x.x-index (pos 0) c.loop-x-test.true in
    search (rules, h, t)
