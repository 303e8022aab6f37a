-- the scaled columns are the inverse
use Rattle.std.proofs.Common.{◌≡◌, ℕ, zero, suc, ◌+◌, ◌<◌, ℤ, pos, ◌*ℤ◌, ◌+ℤ◌, neg_ℤ, int_div, List, [], ◌∷◌, length, refl, sym, ap, ap₂, ◌∙◌, arith}
use Rattle.std.proofs.lemmas.Int.{ints}
use Rattle.wide_int.proofs.Ring.{as_D, Ds, same_D}
use Rattle.wide_int.proofs.Dividing.{quot_exact}
use Rattle.int_vectors.specs.Vectors.{Each, at, dot, weigh}
use Rattle.int_vectors.specs.RowSteps.{negated}
use Rattle.reduced_rows.specs.Carried.{HaveUnits}
use Rattle.reduced_rows.specs.Denominators.{share, shares, lcm_from}
use Rattle.reduced_rows.specs.Solutions.{scaled_column, column_products, InverseColumns}
use Rattle.reduced_rows.specs.Spans.{InSpan, IsReduced}
use Rattle.reduced_rows.proofs.Carrying.{weigh_by, by_nothing, by_mix, by_same, carried_by, span_carries}
use Rattle.reduced_rows.proofs.Orthogonal.{PivotsDivide, pivots_divide}

-- minus the shares are the scaled column
pub negated_shares : (k j l : ℕ) (rows : List (List ℤ)) → negated (shares k j l rows) ≡ scaled_column k j l rows
unfolding negated shares scaled_column
negated_shares k j l [] = refl
negated_shares k j l (row ∷ rows) = ap₂ (λ x xs. x ∷ xs) (twice (share k j l row)) (negated_shares k (suc j) l rows)
  where
    twice : (x : ℤ) → neg_ℤ (neg_ℤ x) ≡ x
    twice x = omega (arith, ints)

-- the sum by the products, as one by a function of the place
products_by : (off l : ℕ) (rows : List (List ℤ)) (v : List ℤ) (xs : List (List ℤ)) (m : ℕ) (f : List ℤ → ℤ) → length xs ≡ m
    → weigh (column_products m off l rows v) xs f ≡ weigh_by (λ i. dot v (scaled_column (off + i) 0 l rows)) xs f
unfolding column_products
products_by off l rows v [] zero f e = refl
products_by off l rows v [] (suc m) f e = absurd (omega arith)
products_by off l rows v (x ∷ xs) zero f e = absurd (omega arith)
products_by off l rows v (x ∷ xs) (suc m) f e =
    let z : off + 0 ≡ off = omega arith in
    ap₂ (λ a b. a *ℤ f x +ℤ b) (ap (λ c. dot v (scaled_column c 0 l rows)) (sym z))
    (products_by (suc off) l rows v xs m f (omega arith) ∙ by_same (λ i. dot v (scaled_column (suc off + i) 0 l rows)) (λ i. dot v (scaled_column (off + suc i) 0 l rows)) xs f (λ i. ap (λ c. dot v (scaled_column c 0 l rows)) (shift i)))
  where
    shift : (i : ℕ) → suc off + i ≡ off + suc i
    shift i = omega arith

module _ (n off l : ℕ) (given : List (List ℤ)) (units : HaveUnits off 0 given) (e : ℕ) (below : e < n) where
  f : List ℤ → ℤ
  f g = at g e

  sum : List ℤ → ℕ → List (List ℤ) → ℤ
  sum v j rows = weigh_by (λ i. dot v (scaled_column (off + i) j l rows)) given (λ g. at g e)

  carried : (row : List ℤ) → InSpan given row → weigh_by (λ i. at row (off + i)) given (λ g. at g e) ≡ at row e
  carried row s = sym (carried_by off row given (λ g. at g e)) ∙ sym (span_carries off given row units s e)

  -- one row's part of the sum
  one_more : (x : ℤ) (v : List ℤ) (j : ℕ) (row : List ℤ) (rows : List (List ℤ)) → InSpan given row
      → weigh_by (λ i. dot (x ∷ v) (scaled_column (off + i) j l (row ∷ rows))) given (λ g. at g e)
      ≡ (x *ℤ int_div (pos l) (at row j)) *ℤ at row e +ℤ weigh_by (λ i. dot v (scaled_column (off + i) (suc j) l rows)) given (λ g. at g e)
  unfolding scaled_column
  one_more x v j row rows s =
      by_same (λ i. dot (x ∷ v) (scaled_column (off + i) j l (row ∷ rows))) (λ i. (x *ℤ int_div (pos l) (at row j)) *ℤ at row (off + i) +ℤ dot v (scaled_column (off + i) (suc j) l rows)) given (λ g. at g e)
      (λ i. turn x (at row (off + i)) (int_div (pos l) (at row j)) (dot v (scaled_column (off + i) (suc j) l rows)))
      ∙ by_mix (x *ℤ int_div (pos l) (at row j)) (λ i. at row (off + i)) (λ i. dot v (scaled_column (off + i) (suc j) l rows)) given (λ g. at g e)
      ∙ ap (λ z. (x *ℤ int_div (pos l) (at row j)) *ℤ z +ℤ weigh_by (λ i. dot v (scaled_column (off + i) (suc j) l rows)) given (λ g. at g e)) (carried row s)
    where
      turn : (x a q s : ℤ) → x *ℤ (a *ℤ q) +ℤ s ≡ (x *ℤ q) *ℤ a +ℤ s
      turn x a q s = rw (as_D x, as_D a, as_D q, as_D s) (simp Ds (same_D _ _ _ _ (omega arith)))

  -- rows with their pivot elsewhere
  nothing : (v : List ℤ) (j : ℕ) (rows : List (List ℤ)) → length v ≡ length rows → e < j → IsReduced n j rows → Each rows (InSpan given)
      → weigh_by (λ i. dot v (scaled_column (off + i) j l rows)) given (λ g. at g e) ≡ pos 0
  unfolding scaled_column
  nothing [] j [] c lt r s = by_nothing given (λ g. at g e)
  nothing [] j (row ∷ rows) c lt r s = absurd (omega arith)
  nothing (x ∷ v) j [] c lt r s = absurd (omega arith)
  nothing (x ∷ v) j (row ∷ rows) c lt r s =
      one_more x v j row rows s.0
      ∙ step (x *ℤ int_div (pos l) (at row j)) _ _ (r.1 e below (λ h. omega (arith, h, lt))) (nothing v (suc j) rows (omega arith) (omega arith) r.2 s.1)
    where
      step : (a b c : ℤ) → b ≡ pos 0 → c ≡ pos 0 → a *ℤ b +ℤ c ≡ pos 0
      step a b c h k = rw (h, k) (omega (arith, ints))

  -- the row with its pivot in column e gives l times the vector's entry
  found : (v : List ℤ) (j i : ℕ) (rows : List (List ℤ)) → length v ≡ length rows → e ≡ j + i → i < length rows → IsReduced n j rows → PivotsDivide j l rows → Each rows (InSpan given)
      → weigh_by (λ i. dot v (scaled_column (off + i) j l rows)) given (λ g. at g e) ≡ pos l *ℤ at v i
  unfolding PivotsDivide
  found [] j i [] c p lt r d s = absurd (omega arith)
  found [] j i (row ∷ rows) c p lt r d s = absurd (omega arith)
  found (x ∷ v) j i [] c p lt r d s = absurd (omega arith)
  found (x ∷ v) j zero (row ∷ rows) c p lt r d s =
      let same : e ≡ j = omega (arith, p) in
      one_more x v j row rows s.0
      ∙ step x (int_div (pos l) (at row j)) (at row e) (at row j) (pos l) _ (ap (at row) same) (quot_exact (pos l) (at row j) d.0) (nothing v (suc j) rows (omega arith) (omega (arith, same)) r.2 s.1)
    where
      turn : (x q b : ℤ) → (x *ℤ q) *ℤ b ≡ (b *ℤ q) *ℤ x
      turn x q b = rw (as_D x, as_D q, as_D b) (simp Ds (same_D _ _ _ _ (omega arith)))

      step : (x q a b l c : ℤ) → a ≡ b → b *ℤ q ≡ l → c ≡ pos 0 → (x *ℤ q) *ℤ a +ℤ c ≡ l *ℤ x
      step x q a b l c h k z = rw (h, z) (let t = turn x q b ∙ ap (λ y. y *ℤ x) k in omega (arith, ints, t))
  found (x ∷ v) j (suc i) (row ∷ rows) c p lt r d s =
      one_more x v j row rows s.0
      ∙ step (x *ℤ int_div (pos l) (at row j)) _ _ _ (r.1 e below (λ h. omega (arith, h, p))) (found v (suc j) i rows (omega arith) (omega (arith, p)) (omega arith) r.2 d.1 s.1)
    where
      step : (a b c t : ℤ) → b ≡ pos 0 → c ≡ t → a *ℤ b +ℤ c ≡ t
      step a b c t h k = rw (h, k) (omega (arith, ints))

pub inverse_columns : InverseColumns
inverse_columns n off given made v r u c w e lt =
    let l = lcm_from 0 1 made in
    sym (products_by off l made v given n (λ g. at g e) c
    ∙ found n off l given u e lt v 0 e made (w ∙ sym r.count) (omega arith) (let k = r.count in omega (arith, k)) r.reduced (pivots_divide 0 1 made) r.span.1)
