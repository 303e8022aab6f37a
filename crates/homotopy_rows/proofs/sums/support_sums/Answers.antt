use Rattle.std.proofs.Common.{rules, ◌<◌, ◌∙◌, ℤ, List, [], ◌∷◌, ◌++◌, length, map, sym, ap, subst, arith, FitsSigned}
use Rattle.std.specs.Int.{w128}
use Rattle.std.proofs.lemmas.Int.{to_z-of_z}
use Rattle.std.proofs.lemmas.List.{length-map}
use Rattle.int_vectors.specs.Fits.{AllFit}
use Rattle.int_vectors.proofs.Differences.{all-append}
use Rattle.cell_certificate.specs.Sides.{seen}
use Rattle.homotopy_rows.proofs.Collected.{sums_more, free_more}
use Rattle.homotopy_rows.proofs.sums.support_sums.Goals as goal

pub loop-place-preserved : goal.loop-place-preserved
loop-place-preserved c =
    let den = c.args.listed.now.normal.den in
    let v = c.args.listed.now.normal.v in
    let s = map seen c.args.points.now in
    let k = c.loop-place.place in
    let sum = c.in-Some.sum in
    let fs : FitsSigned w128 c.in-Some.sum = search rules in
    let h = c.in-Some.ensures in
    let inv = c.loop-place.invariant in
    let more = c.push_reserved.ensures.items ∙ ap (λ (z : ℤ). c.reserve-in-loop-place.new.self.items ++ z ∷ []) (to_z-of_z w128 c.in-Some.sum fs)
    ∙ ap (λ (l : List ℤ). l ++ c.in-Some.sum ∷ []) c.reserve-in-loop-place.ensures.items in
    let l : c.loop-place.place < length (map seen c.args.points.now) = omega (arith, c.loop-place-test.true, length-map c.args.points.now seen) in
    record {
      made = more ∙ sums_more den v s c.args.pair.0 c.args.pair.1 c.loop-place.sums.items k sum l inv.made h.0;
      fits = subst AllFit (sym more) (all-append c.loop-place.sums.items sum inv.fits h.1);
      free = free_more den v s c.args.pair.0 c.args.pair.1 k inv.free h.2;
    }
