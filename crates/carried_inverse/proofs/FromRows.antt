-- the scaled columns of the reduced rows are the inverse of the cell's differences, in lowest terms
use Rattle.std.proofs.Common.{◌≡◌, ◌≢◌, ℕ, zero, suc, ◌+◌, ◌<◌, ℤ, pos, ◌+ℤ◌, ◌-ℤ◌, ◌*ℤ◌, ◌<ℤ◌, neg_ℤ, List, [], ◌∷◌, length, arith, refl, sym, ap, ap₂, subst, ◌∙◌}
use Rattle.std.proofs.Math.IntN.{*ℤ-zero}
use Rattle.std.proofs.lemmas.Int.{ints}
use Rattle.std.proofs.lemmas.List.{get_or-map}
use Rattle.wide_int.proofs.Order.{mul_cancel}
use Rattle.wide_int.proofs.Ring.{as_D, Ds, same_D}
use Rattle.int_vectors.specs.Vectors.{Each, at, at_place, dot, sub, row_at}
use Rattle.int_vectors.proofs.Weighing.{weigh-scale}
use Rattle.reduced_rows.specs.Carried.{unit, HaveUnits}
use Rattle.reduced_rows.specs.CellRefusals.{IsEliminated}
use Rattle.reduced_rows.specs.Denominators.{lcm_from}
use Rattle.reduced_rows.specs.Spans.{IsReducedOf}
use Rattle.reduced_rows.proofs.Picking.{each_at}
use Rattle.cayley.specs.Cells.{Cell, IsOf, IsIndependent}
use Rattle.cayley.specs.Problems.{Point, Problem, IsProblem, point_at}
use Rattle.cayley.specs.Rows.{edge_rows, edges}
use Rattle.cayley.proofs.OneCell.CellNormals.{kills_to, long-edges, length-edges}
use Rattle.cayley.proofs.OneCell.CellRows.{rows_independent, rows_width}
use Rattle.cayley.proofs.Algebra.Kernel as kernel
use Rattle.cayley.proofs.Algebra.Kernel.{Solves, solve}
use Rattle.cayley.proofs.Algebra.RowDependencies.{weigh-solves, dot-place}
use Rattle.inner_normal.specs.Inverses.{inverse_of}
use Rattle.inner_normal.specs.Coefficients.{products}
use Rattle.inner_normal.proofs.Meaning.{length-columns, reduced_of, columns_long}
use Rattle.inner_normal.proofs.RowUnits.{rows_units}
use Rattle.inner_normal.proofs.ScaledSums.{scaled_dependency}
use Rattle.carried_inverse.specs.Systems.{Inverts, IsInverseOfCell}
use Rattle.carried_inverse.proofs.LowestRows.{inverse_lowest}

pub differences_are : (supports : List (List Point)) (cell : Cell) → edges supports cell ≡ edges supports cell
differences_are [] cell = refl
differences_are (s ∷ supports) [] = refl
differences_are (s ∷ supports) (pair ∷ cell) = ap (λ l. sub (point_at s pair.1).coordinates (point_at s pair.0).coordinates ∷ l) (differences_are supports cell)

pub edges_independent : (p : Problem) (cell : Cell) → IsOf p cell → IsIndependent p cell → kernel.Independent p.dimension (edges p.supports cell)
edges_independent p cell of ind v l k = ind v l (kills_to p.supports cell v _ of k)

at-place : (m i : ℕ) → at (at_place m (pos 1)) i ≡ unit m i
at-place zero zero = refl
at-place zero (suc i) = refl
at-place (suc m) zero = refl
at-place (suc m) (suc i) = at-place m i

pub unit_turn : (m i : ℕ) → unit m i ≡ unit i m
unit_turn zero zero = refl
unit_turn zero (suc i) = refl
unit_turn (suc m) zero = refl
unit_turn (suc m) (suc i) = unit_turn m i

solves_at : (rows : List (List ℤ)) (bs : List ℤ) (k : ℤ) (v : List ℤ) (i : ℕ) → i < length rows → Solves rows bs k v → dot (row_at rows i) v ≡ k *ℤ at bs i
solves_at [] bs k v i lt s = absurd (omega (arith, lt))
solves_at (r ∷ rows) [] k v zero lt s = s.0 ∙ sym (*ℤ-zero k)
solves_at (r ∷ rows) [] k v (suc i) lt s = solves_at rows [] k v i (omega (arith, lt)) s.1
solves_at (r ∷ rows) (b ∷ bs) k v zero lt s = s.0
solves_at (r ∷ rows) (b ∷ bs) k v (suc i) lt s = solves_at rows bs k v i (omega (arith, lt)) s.1

length-products : (v : List ℤ) (columns : List (List ℤ)) → length (products v columns) ≡ length columns
length-products v [] = refl
length-products v (x ∷ columns) = ap suc (length-products v columns)

module _ (p : Problem) (cell : Cell) (well : IsProblem p) (of : IsOf p cell) (made : List (List ℤ)) (r : IsReducedOf p.dimension (edge_rows p cell) made) where
  abbrev pub den : ℤ
  den = (inverse_of made).den

  abbrev pub columns : List (List ℤ)
  columns = (inverse_of made).columns

  columns_count : length (inverse_of made).columns ≡ p.dimension
  columns_count = length-columns (length made) (length made + 2) (lcm_from 0 1 made) made ∙ r.count

  rows_long : Each (edges p.supports cell) (λ x. length x ≡ p.dimension)
  rows_long = long-edges p.dimension p.supports cell of well.points

  rows_many : length (edges p.supports cell) ≡ p.dimension
  rows_many = length-edges p.supports cell _ of ∙ well.supports

  pub inverse_inverts : Inverts p.dimension (edges p.supports cell) (inverse_of made).den (inverse_of made).columns
  inverse_inverts i m li lm =
      let s = solve p.dimension (edges p.supports cell) (at_place m (pos 1)) rows_many (edges_independent p cell of (rows_independent p cell well of r.independent)) in
      let v = row_at (edges p.supports cell) i in
      let lv = each_at (λ x. length x ≡ p.dimension) (edges p.supports cell) i [] (omega (arith, li, rows_many)) rows_long in
      let ms = products v (inverse_of made).columns in
      let e = scaled_dependency p cell well of made r v lv s.v s.long in
      let w = weigh-solves ms (edges p.supports cell) (at_place m (pos 1)) s.k s.v (length-products v (inverse_of made).columns ∙ columns_count ∙ sym rows_many) s.solves ∙ ap (λ z. s.k *ℤ z) (dot-place ms m) in
      let d = solves_at (edges p.supports cell) (at_place m (pos 1)) s.k s.v i (omega (arith, li, rows_many)) s.solves ∙ ap (λ z. s.k *ℤ z) (at-place m i ∙ unit_turn m i) in
      let f = weigh-scale (neg_ℤ (pos 1)) ms (edges p.supports cell) (λ r. dot r s.v) in
      let a = get_or-map (dot v) (inverse_of made).columns m [] (pos 0) (omega (arith, lm, columns_count)) in
      sym a ∙ last (at ms m) (inverse_of made).den (unit i m) s.k s.apart
      (sym (ap₂ (λ x y. x +ℤ (inverse_of made).den *ℤ y) (f ∙ ap (λ z. neg_ℤ (pos 1) *ℤ z) w) d) ∙ e)
    where
      ring : (x d u k : ℤ) → neg_ℤ (pos 1) *ℤ (k *ℤ x) +ℤ d *ℤ (k *ℤ u) ≡ (d *ℤ u) *ℤ k -ℤ x *ℤ k
      ring x d u k = minus (k *ℤ x) (d *ℤ (k *ℤ u)) ∙ ap₂ (λ a b. a -ℤ b) (turn d u k) (swap k x)
        where
          minus : (a b : ℤ) → neg_ℤ (pos 1) *ℤ a +ℤ b ≡ b -ℤ a
          minus a b = omega (arith, ints)

          turn : (d u k : ℤ) → d *ℤ (k *ℤ u) ≡ (d *ℤ u) *ℤ k
          turn d u k = rw (as_D d, as_D u, as_D k) (simp Ds (same_D _ _ _ _ (omega arith)))

          swap : (k x : ℤ) → k *ℤ x ≡ x *ℤ k
          swap k x = rw (as_D k, as_D x) (simp Ds (same_D _ _ _ _ (omega arith)))

      last : (x d u k : ℤ) → k ≢ pos 0 → neg_ℤ (pos 1) *ℤ (k *ℤ x) +ℤ d *ℤ (k *ℤ u) ≡ pos 0 → x ≡ d *ℤ u
      last x d u k n e = mul_cancel x (d *ℤ u) k n (let f = sym (ring x d u k) ∙ e in omega (arith, ints, f))

  pub scaled_inverse : HaveUnits (p.dimension + 2) 0 (edge_rows p cell) → pos 0 <ℤ (inverse_of made).den → IsInverseOfCell p cell (inverse_of made)
  scaled_inverse units positive = record {
    count = columns_count;
    long = subst (λ n. Each (inverse_of made).columns (λ x. length x ≡ n)) r.count (columns_long (length made) (length made + 2) (lcm_from 0 1 made) made);
    positive = positive;
    inverts = subst (λ rows. Inverts p.dimension rows (inverse_of made).den (inverse_of made).columns) (sym (differences_are p.supports cell)) inverse_inverts;
    lowest = inverse_lowest p.dimension (edge_rows p cell) made r units
        (let k : p.dimension + suc (suc p.dimension) ≡ p.dimension + 2 + p.dimension = omega arith in subst (λ m. Each made (λ row. length row ≡ m)) k (r.long (p.dimension + suc (suc p.dimension)) (rows_width p cell well of))) positive;
  }

pub inverse_of_cell : (p : Problem) (cell : Cell) → IsProblem p → IsOf p cell → (made : List (List ℤ)) → IsEliminated p.dimension (edge_rows p cell) made → pos 0 <ℤ (inverse_of made).den → IsInverseOfCell p cell (inverse_of made)
inverse_of_cell p cell well of made done positive = scaled_inverse p cell well of made (reduced_of p cell well of made done) (rows_units p cell well of) positive
