-- when a further point is above under every normal of its cell: by its sum, and where that is 0 by its circuit
use Rattle.std.proofs.Common.{◌≡◌, ◌↔◌, ℕ, zero, suc, ◌≤◌, List, [], ◌∷◌, length, arith, refl, sym, ap, ap₂, subst, ◌∙◌, ◌<ℤ◌, inl, inr}
use Rattle.std.proofs.lemmas.Int.{ints}
use Rattle.std.proofs.Math.IntN.{ℤ, pos, ◌+ℤ◌, ◌*ℤ◌, *ℤ-zero}
use Rattle.wide_int.proofs.Order.{zero_product}
use Rattle.int_vectors.specs.Vectors.{IsPositive, add, scale, at}
use Rattle.int_vectors.proofs.Entries.{at-scale, at-add}
use Rattle.cayley.specs.Times.{time_zero}
use Rattle.cayley.specs.Problems.{Point, Problem, IsProblem, point_at}
use Rattle.cayley.specs.Cells.{Cell, EachPair, IsOf, IsIndependent}
use Rattle.cayley.specs.Normals.{Normal, mark, height, IsNormal}
use Rattle.cayley.specs.Mixed.{HasFirstEntries}
use Rattle.cayley.specs.Dependencies.{Numbers, pair_at, IsFurtherAt, total, sum_of_heights, sum_at, IsPositiveDependency, nth_support}
use Rattle.cayley.proofs.Flipping.Places.{further_bound}
use Rattle.cayley.proofs.OneCell.CellNormals.{a_normal}
use Rattle.cayley.proofs.Flipping.CellNumbers.{total-same}
use Rattle.cayley.proofs.OneCell.OneDependency.{sum_gap, sides}
use Rattle.cayley.proofs.Lists.Pairs.{pairs_long}
use Rattle.inner_normal.specs.Orders.{in_order, ordered}
use Rattle.inner_normal.proofs.RankOrder.{sum_in, numbers_in, sign_in, ranked_pairs, numbers_are, marked, sum_is, HaveRanksFrom, rise_is}
use Rattle.inner_normal.specs.RankedNumbers.{Ranked, ranked}
use Rattle.cell_certificate.specs.Tests.{sum_of}
use Rattle.cell_certificate.specs.Ties.{IsOverAt}
use Rattle.cell_certificate.proofs.FirstEntries.{first_entries_of, over_first, below_first, level_first}
use Rattle.cell_certificate.proofs.Levels.{AreFlat}

-- ---- the sum of heights entry by entry
heights_at : (ms : List (ℤ × ℤ)) (supports : List (List Point)) (cell : Cell) (e : ℕ) → at (sum_of_heights time_zero ms supports cell) e ≡ total ms supports cell (λ q. at (height time_zero q) e)
heights_at [] supports cell e = refl
heights_at (m ∷ ms) [] cell e = refl
heights_at (m ∷ ms) (s ∷ supports) [] e = refl
heights_at (m ∷ ms) (s ∷ supports) (x ∷ cell) e =
    at-add (add (scale m.0 (height time_zero (point_at s x.0))) (scale m.1 (height time_zero (point_at s x.1)))) (sum_of_heights time_zero ms supports cell) e
    ∙ ap₂ ◌+ℤ◌ (at-add (scale m.0 (height time_zero (point_at s x.0))) (scale m.1 (height time_zero (point_at s x.1))) e ∙ ap₂ ◌+ℤ◌ (at-scale m.0 (height time_zero (point_at s x.0)) e) (at-scale m.1 (height time_zero (point_at s x.1)) e)) (heights_at ms supports cell e)

later_mark : (b : ℤ) (r e : ℕ) → at (add (b ∷ []) (mark (pos 1) r)) (suc e) ≡ at (mark (pos 1) r) (suc e)
later_mark b zero e = refl
later_mark b (suc r) e = refl

later_height : (x : Point) (e : ℕ) → at (height time_zero x) (suc e) ≡ marked (suc e) x
later_height x e = later_mark (pos 1 *ℤ x.base) x.rank e

later_sum : (numbers : Numbers) (p : Problem) (cell : Cell) (c : Point) (e : ℕ)
    → at (sum_at time_zero numbers p cell c) (suc e) ≡ total numbers.pairs p.supports cell (marked (suc e)) +ℤ numbers.last *ℤ marked (suc e) c
later_sum numbers p cell c e =
    at-add (sum_of_heights time_zero numbers.pairs p.supports cell) (scale numbers.last (height time_zero c)) (suc e)
    ∙ ap₂ ◌+ℤ◌ (heights_at numbers.pairs p.supports cell (suc e) ∙ total-same numbers.pairs p.supports cell (λ q. at (height time_zero q) (suc e)) (marked (suc e)) (λ q. later_height q e))
    (at-scale numbers.last (height time_zero c) (suc e) ∙ ap (λ z. numbers.last *ℤ z) (later_height c e))

-- ---- of a cell with its level normal v / den
module _ (p : Problem) (cell : Cell) (well : IsProblem p) (of : IsOf p cell) (ind : IsIndependent p cell) (v : List ℤ) (den : ℤ) (long : length v ≡ p.dimension) (h : pos 0 <ℤ den)
    (levels : EachPair p.supports cell (AreFlat v den)) where
  first_of : (w : Normal) → IsNormal p cell time_zero w → HasFirstEntries w v den
  first_of w n = first_entries_of p cell v den w long ind levels n

  some_normal : (w : Normal) × IsNormal p cell time_zero w
  some_normal = a_normal p cell well of ind time_zero

  pub over_up : (j c : ℕ) → pos 0 <ℤ sum_of p cell v den j c → IsOverAt p cell j c
  over_up j c r f w n = over_first w v den (point_at (nth_support p.supports j) (pair_at cell j).0) (point_at (nth_support p.supports j) c) h (first_of w n) r

  pub over_not : (j c : ℕ) → IsFurtherAt p cell j c → sum_of p cell v den j c <ℤ pos 0 → ¬ (IsOverAt p cell j c)
  over_not j c f r o =
      let n = some_normal in
      below_first n.0 v den (point_at (nth_support p.supports j) (pair_at cell j).0) (point_at (nth_support p.supports j) c) h (first_of n.0 n.1) r (o f n.0 n.1)

  module _ (ranks : HaveRanksFrom 1 p.supports) (j c : ℕ) (further : IsFurtherAt p cell j c) (tie : sum_of p cell v den j c ≡ pos 0) (numbers : Numbers) (dep : IsPositiveDependency p cell j c numbers) where
    abbrev point : Point
    point = point_at (nth_support p.supports j) c

    abbrev sum : List ℤ
    sum = sum_at time_zero numbers p cell point

    abbrev listed : List Ranked
    listed = in_order 0 j c (ranked (nth_support p.supports j) c numbers.last) (ranked_pairs numbers.pairs p.supports cell) cell

    count : length p.supports ≡ length cell
    count = pairs_long p.supports cell _ of

    bound : suc j ≤ length cell
    bound = further_bound p.supports cell j c count further

    first_sum : at sum 0 ≡ pos 0
    first_sum =
        let n = some_normal in
        let g = level_first n.0 v den (point_at (nth_support p.supports j) (pair_at cell j).0) point h (first_of n.0 n.1) tie in
        let s = sum_gap p cell j c numbers bound dep.1.0 dep.1.1 time_zero n.0 n.1 0 ∙ ap (λ z. numbers.last *ℤ z) g ∙ *ℤ-zero numbers.last in
        elim (zero_product n.0.over (at sum 0) s) [ inl i ↦ absurd (let q = n.0.positive in omega (arith, ints, i, q)) | inr i ↦ i ]

    later : (e : ℕ) → at sum (suc e) ≡ sum_in (suc e) listed
    later e =
        later_sum numbers p cell point e
        ∙ sym (sum_is (suc e) 0 j c (ranked (nth_support p.supports j) c numbers.last) numbers.pairs p.supports cell (omega arith) (let b = bound in omega (arith, b)) dep.1.0 count)

    by_numbers : IsPositive sum ↔ IsPositive (numbers_in listed)
    by_numbers = sign_in sum listed (rise_is 1 0 j j c numbers.last numbers.pairs p.supports cell (omega arith) ranks of further) first_sum later

    pub over_tie : IsOverAt p cell j c ↔ IsPositive (ordered cell j c numbers)
    over_tie =
        let r = by_numbers in
        let e = numbers_are 0 j c (ranked (nth_support p.supports j) c numbers.last) numbers.pairs p.supports cell dep.1.0 count in (
          (λ o. let n = some_normal in subst IsPositive e (r.0 ((sides p cell j c numbers bound dep time_zero n.0 n.1).above.1 (o further n.0 n.1)))),
          (λ q f w n. (sides p cell j c numbers bound dep time_zero w n).above.0 (r.1 (subst IsPositive (sym e) q))),
        )
