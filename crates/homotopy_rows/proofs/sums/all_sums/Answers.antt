use Rattle.std.proofs.Common.{◌≡◌, ◌+◌, ◌-◌, ◌<◌, ◌≤◌, ℤ, List, [], ◌∷◌, ◌++◌, length, map, drop, get_or, sym, ap, subst, ◌∙◌, arith}
use Rattle.cayley.specs.Cells.{Cell}
use Rattle.cayley.specs.Files.{plain_problem}
use Rattle.cayley.specs.Problems.{unperturbed}
use Rattle.cayley.specs.Stored.{file_point}
use Rattle.cayley.proofs.Ranking.Unperturbed.{same_unperturbed, same_of}
use Rattle.cell_certificate.specs.Sides.{seen, FitsSupport}
use Rattle.cell_certificate.proofs.Levels.{level_from}
use Rattle.cell_certificate.proofs.PlainSums.{sums_fit, flat}
use Rattle.cell_certificate.proofs.Supports.{supports_count, support_is, near_is, pair_is, cell_count}
use Rattle.cell_certificate.proofs.Turns.{pair_at}
use Rattle.homotopy_rows.specs.Flat.{IsFlatAt, IsFlat}
use Rattle.homotopy_rows.specs.Points.{IsLevelPair}
use Rattle.homotopy_rows.specs.Powers.{sums, sums_over}
use Rattle.homotopy_rows.proofs.Collected.{all_more, all_whole, some_here, some_later, some_none, sums_unranked, some_unranked}
use Rattle.homotopy_rows.proofs.FlatLines.{line_fault}
use Rattle.homotopy_rows.proofs.sums.all_sums.Goals as goal

pub bounds-pairs-k : goal.bounds-pairs-k
bounds-pairs-k c =
    let p = plain_problem c.args.file.now in
    let of = same_of p (unperturbed p) c.args.listed.now.cell (same_unperturbed p) c.requires.listed.0 in
    let n = cell_count c.args.file.now c.args.listed.now.cell c.dim-k-end.ensures.valid of in
    let same = ap length c.pairs-pairs.ensures.same in
    omega (arith, c.loop-k-test.true, c.dim-k-end.ensures.value, n, same)

pub support_sums-requires-clause-near : goal.support_sums-requires-clause-near
support_sums-requires-clause-near c =
    let file = c.args.file.now in
    let k = c.loop-k.k in
    let valid = c.dim-k-end.ensures.valid in
    let h : k < file.dimension = omega (arith, c.loop-k-test.true, c.dim-k-end.ensures.value) in
    let d : k + 1 - 1 ≡ k = omega arith in
    let e = subst (λ z. map file_point c.support.result.now ≡ get_or file.supports z []) d c.support.ensures.value in
    near_is file c.support.result.now k _ valid h c.requires.listed.1 e

pub support_sums-requires-clause-pair : goal.support_sums-requires-clause-pair
support_sums-requires-clause-pair c =
    let file = c.args.file.now in
    let x = c.args.listed.now in
    let p = plain_problem file in
    let of = same_of p (unperturbed p) x.cell (same_unperturbed p) c.requires.listed.0 in
    let k = c.loop-k.k in
    let valid = c.dim-k-end.ensures.valid in
    let h : k < file.dimension = omega (arith, c.loop-k-test.true, c.dim-k-end.ensures.value) in
    let d : k + 1 - 1 ≡ k = omega arith in
    let e = subst (λ z. map file_point c.support.result.now ≡ get_or file.supports z []) d c.support.ensures.value in
    pair_is file x.cell c.pairs-pairs.result.now c.support.result.now k valid of h e c.pairs-pairs.ensures.same

pub support_sums-requires-clause-fits : goal.support_sums-requires-clause-fits
support_sums-requires-clause-fits c =
    let file = c.args.file.now in
    let x = c.args.listed.now in
    let p = plain_problem file in
    let of = same_of p (unperturbed p) x.cell (same_unperturbed p) c.requires.listed.0 in
    let k = c.loop-k.k in
    let valid = c.dim-k-end.ensures.valid in
    let h : k < file.dimension = omega (arith, c.loop-k-test.true, c.dim-k-end.ensures.value) in
    let d : k + 1 - 1 ≡ k = omega arith in
    let e = subst (λ z. map file_point c.support.result.now ≡ get_or file.supports z []) d c.support.ensures.value in
    let hc : k < length x.cell = omega (arith, h, cell_count file x.cell valid of) in
    let own = (pair_at (unperturbed p).supports x.cell (FitsSupport x.normal.den x.normal.v) k ((sums_fit p x.cell x.normal.v x.normal.den).0 c.requires.fits) hc).1 in
    let at_points = subst (λ s. FitsSupport x.normal.den x.normal.v s (get_or x.cell k (0, 0)).0 (get_or x.cell k (0, 0)).1) (support_is file c.support.result.now k valid h e) own in
    subst (λ (ps : Cell). FitsSupport x.normal.den x.normal.v (map seen c.support.result.now) (get_or ps k (0, 0)).0 (get_or ps k (0, 0)).1) (sym c.pairs-pairs.ensures.same) at_points

pub support_sums-requires-clause-level : goal.support_sums-requires-clause-level
support_sums-requires-clause-level c =
    let file = c.args.file.now in
    let x = c.args.listed.now in
    let p = plain_problem file in
    let of = same_of p (unperturbed p) x.cell (same_unperturbed p) c.requires.listed.0 in
    let k = c.loop-k.k in
    let valid = c.dim-k-end.ensures.valid in
    let h : k < file.dimension = omega (arith, c.loop-k-test.true, c.dim-k-end.ensures.value) in
    let d : k + 1 - 1 ≡ k = omega arith in
    let e = subst (λ z. map file_point c.support.result.now ≡ get_or file.supports z []) d c.support.ensures.value in
    let hc : k < length x.cell = omega (arith, h, cell_count file x.cell valid of) in
    let levels = (flat p x.cell x.normal.v x.normal.den).0 (level_from p x.cell c.requires.listed.0 x.normal.v x.normal.den c.requires.level) in
    let own = (pair_at (unperturbed p).supports x.cell (IsLevelPair x.normal.den x.normal.v) k levels hc).1 in
    let at_points = subst (λ s. IsLevelPair x.normal.den x.normal.v s (get_or x.cell k (0, 0)).0 (get_or x.cell k (0, 0)).1) (support_is file c.support.result.now k valid h e) own in
    subst (λ (ps : Cell). IsLevelPair x.normal.den x.normal.v (map seen c.support.result.now) (get_or ps k (0, 0)).0 (get_or ps k (0, 0)).1) (sym c.pairs-pairs.ensures.same) at_points

pub returns-in-Err : goal.returns-in-Err
returns-in-Err c =
    let file = c.args.file.now in
    let x = c.args.listed.now in
    let p = plain_problem file in
    let of = same_of p (unperturbed p) x.cell (same_unperturbed p) c.requires.listed.0 in
    let k = c.loop-k.k in
    let valid = c.dim-k-end.ensures.valid in
    let h : k < file.dimension = omega (arith, c.loop-k-test.true, c.dim-k-end.ensures.value) in
    let d : k + 1 - 1 ≡ k = omega arith in
    let e = subst (λ z. map file_point c.support.result.now ≡ get_or file.supports z []) d c.support.ensures.value in
    let hs : k < length (unperturbed p).supports = omega (arith, h, supports_count file valid) in
    let hc : k < length x.cell = omega (arith, h, cell_count file x.cell valid of) in
    let is = support_is file c.support.result.now k valid h e in
    let f = rw c.pairs-pairs.ensures.same at c.in-Err.ensures in
    line_fault _ (IsFlat p x) x.line c.in-Err.fault
    (λ t. (some_unranked x.normal.den x.normal.v p.supports x.cell).1
    (some_here x.normal.den x.normal.v (unperturbed p).supports x.cell k (IsFlatAt x.normal.den x.normal.v) hs hc c.loop-k.invariant.flat.1
    (subst (λ s. IsFlatAt x.normal.den x.normal.v s (get_or x.cell k (0, 0)).0 (get_or x.cell k (0, 0)).1) (sym is) t)))
    f

pub loop-k-preserved : goal.loop-k-preserved
loop-k-preserved c =
    let file = c.args.file.now in
    let x = c.args.listed.now in
    let p = plain_problem file in
    let of = same_of p (unperturbed p) x.cell (same_unperturbed p) c.requires.listed.0 in
    let k = c.loop-k.k in
    let den = x.normal.den in
    let v = x.normal.v in
    let ss = (unperturbed p).supports in
    let valid = c.dim-k-end.ensures.valid in
    let h : k < file.dimension = omega (arith, c.loop-k-test.true, c.dim-k-end.ensures.value) in
    let d : k + 1 - 1 ≡ k = omega arith in
    let e = subst (λ z. map file_point c.support.result.now ≡ get_or file.supports z []) d c.support.ensures.value in
    let hs : k < length (unperturbed p).supports = omega (arith, h, supports_count file valid) in
    let hc : k < length x.cell = omega (arith, h, cell_count file x.cell valid of) in
    let is = support_is file c.support.result.now k valid h e in
    let g = rw c.pairs-pairs.ensures.same at c.in-Ok.ensures in
    let made = subst (λ s. c.in-Ok.own ≡ sums_over den v s (get_or x.cell k (0, 0)).0) (sym is) g.0 in
    let free = subst (λ s. ¬ (IsFlatAt den v s (get_or x.cell k (0, 0)).0 (get_or x.cell k (0, 0)).1)) (sym is) g.1 in
    let more = c.push_reserved.ensures.items ∙ ap (λ (l : List (List ℤ)). l ++ c.in-Ok.own ∷ []) c.reserve.ensures.items in
    let inv = c.loop-k.invariant in
    record {
      made = ap (λ (l : List (List ℤ)). l ++ sums den v (drop (k + 1) ss) (drop (k + 1) x.cell)) more
          ∙ all_more den v ss x.cell k c.loop-k.sums.items c.in-Ok.own hs hc inv.made made;
      flat = some_later den v ss x.cell k (IsFlatAt den v) hs hc inv.flat free;
    }

pub returns : goal.returns
returns c =
    let file = c.args.file.now in
    let x = c.args.listed.now in
    let p = plain_problem file in
    let k = c.loop-k.k in
    let den = x.normal.den in
    let v = x.normal.v in
    let valid = c.dim-k-end.ensures.valid in
    let n : length (unperturbed p).supports ≤ k = omega (arith, c.loop-k-test.false, c.dim-k-end.ensures.value, supports_count file valid) in
    let inv = c.loop-k.invariant in (
      all_whole den v (unperturbed p).supports x.cell k c.loop-k.sums.items n inv.made ∙ sums_unranked den v p.supports x.cell,
      (λ t. some_none den v (unperturbed p).supports x.cell k (IsFlatAt den v) n inv.flat ((some_unranked den v p.supports x.cell).0 t)),
    )
