-- the normal by the inverse of a cell's differences
use Rattle.std.proofs.Common.{◌≡◌, ℕ, zero, suc, ◌+◌, ◌<◌, ℤ, pos, ◌+ℤ◌, ◌-ℤ◌, ◌*ℤ◌, ◌<ℤ◌, neg_ℤ, List, [], ◌∷◌, ◌++◌, length, arith, refl, sym, ap, ap₂, subst, ◌∙◌, inl, inr, length-append}
use Rattle.std.proofs.Math.IntN.{*ℤ-zero, *ℤ_comm}
use Rattle.std.proofs.lemmas.Bool.{cases_lt}
use Rattle.std.proofs.lemmas.Int.{ints}
use Rattle.wide_int.proofs.Ring.{as_D, Ds, same_D}
use Rattle.int_vectors.specs.Vectors.{Each, at, dot, weigh, sub, row_at}
use Rattle.int_vectors.proofs.Weighing.{weigh_none}
use Rattle.reduced_rows.specs.Carried.{unit}
use Rattle.reduced_rows.proofs.Picking.{each_at}
use Rattle.cayley.specs.Cells.{Cell, EachPair, IsOf, IsIndependent}
use Rattle.cayley.specs.Problems.{Point, Problem, IsProblem, point_at}
use Rattle.cayley.proofs.OneCell.CellNormals.{long-edges, length-edges}
use Rattle.cayley.proofs.Algebra.Kernel.{dot_comm}
use Rattle.cayley.specs.Rows.{edges}
use Rattle.cayley.proofs.Lists.Pairs.{pairs_together}
use Rattle.inner_normal.specs.Inverses.{Inverse}
use Rattle.inner_normal.proofs.ScaledSums.{for_products}
use Rattle.inner_normal.specs.declared.moving.MovingNormal.{MovingNormal}
use Rattle.inner_normal.specs.MovingNormals.{IsMovingNormal}
use Rattle.inner_normal.proofs.PairEquations.{moving_of}
use Rattle.carried_inverse.specs.Sums.{IsSum, base_falls, speed_falls}
use Rattle.carried_inverse.specs.Systems.{Inverts, IsInverseOfCell}
use Rattle.carried_inverse.proofs.FromRows.{differences_are}

at-front : (xs : List ℤ) (y : ℤ) (e : ℕ) → e < length xs → at (xs ++ y ∷ []) e ≡ at xs e
at-front [] y e lt = absurd (omega (arith, lt))
at-front (x ∷ xs) y zero lt = refl
at-front (x ∷ xs) y (suc e) lt = at-front xs y e (omega (arith, lt))

at-last : (xs : List ℤ) (y : ℤ) (e : ℕ) → e ≡ length xs → at (xs ++ y ∷ []) e ≡ y
at-last [] y zero e = refl
at-last [] y (suc k) e = absurd (omega (arith, e))
at-last (x ∷ xs) y zero e = absurd (omega (arith, e))
at-last (x ∷ xs) y (suc k) e = at-last xs y k (omega (arith, e))

pub sum_push : (n : ℕ) (bs : List ℤ) (columns : List (List ℤ)) (v : List ℤ) (y : ℤ) → IsSum n bs columns v → y ≡ weigh bs columns (λ x. at x n) → IsSum (n + 1) bs columns (v ++ y ∷ [])
sum_push n bs columns v y h is = (
  let l = length-append v (y ∷ []) in let k = h.0 in omega (arith, l, k),
  λ e lt. elim (cases_lt e n) [
    | inl b ↦ at-front v y e (let k = h.0 in omega (arith, b, k)) ∙ h.1 e b
    | inr b ↦ let same : e ≡ n = omega (arith, lt, b) in at-last v y e (let k = h.0 in omega (arith, same, k)) ∙ is ∙ ap (λ m. weigh bs columns (λ x. at x m)) (sym same)
  ],
)

-- sums weighed by one row of the identity
pub weigh_unit : (bs : List ℤ) (columns : List (List ℤ)) (f : List ℤ → ℤ) (den : ℤ) (j : ℕ) → length bs ≡ length columns → ((i : ℕ) → i < length columns → f (row_at columns i) ≡ den *ℤ unit j i) → weigh bs columns f ≡ den *ℤ at bs j
weigh_unit [] [] f den j e z = sym (*ℤ-zero den)
weigh_unit [] (x ∷ columns) f den j e z = absurd (omega (arith, e))
weigh_unit (b ∷ bs) [] f den j e z = absurd (omega (arith, e))
weigh_unit (b ∷ bs) (x ∷ columns) f den zero e z =
    ap₂ (λ u v. b *ℤ u +ℤ v) (z 0 (omega arith)) (weigh_none bs columns f (λ i lt. z (suc i) (omega (arith, lt)) ∙ *ℤ-zero den)) ∙ own b den
  where
    own : (b d : ℤ) → b *ℤ (d *ℤ pos 1) +ℤ pos 0 ≡ d *ℤ b
    own b d = ap (λ z. b *ℤ z +ℤ pos 0) (one d) ∙ less (b *ℤ d) ∙ *ℤ_comm b d
      where
        one : (d : ℤ) → d *ℤ pos 1 ≡ d
        one d = omega (arith, ints)

        less : (a : ℤ) → a +ℤ pos 0 ≡ a
        less a = omega (arith, ints)
weigh_unit (b ∷ bs) (x ∷ columns) f den (suc j) e z =
    ap₂ (λ u v. b *ℤ u +ℤ v) (z 0 (omega arith) ∙ *ℤ-zero den) (weigh_unit bs columns f den j (omega (arith, e)) (λ i lt. z (suc i) (omega (arith, lt)))) ∙ nothing b (den *ℤ at bs j)
  where
    nothing : (b c : ℤ) → b *ℤ pos 0 +ℤ c ≡ c
    nothing b c = omega (arith, ints)

-- the product of a row and a sum of columns
pub row_sum : (n : ℕ) (rows : List (List ℤ)) (a : Inverse) (bs v : List ℤ) (j : ℕ) → j < n → length rows ≡ n → Each rows (λ r. length r ≡ n) → length bs ≡ n → length a.columns ≡ n → Inverts n rows a.den a.columns → IsSum n bs a.columns v
    → dot (row_at rows j) v ≡ a.den *ℤ at bs j
row_sum n rows a bs v j lt many long lb count inverts s =
    let r = row_at rows j in
    let lr = each_at (λ x. length x ≡ n) rows j [] (omega (arith, lt, many)) long in
    let e = for_products bs a.columns v (pos 1) n (λ k below. one (at v k) ∙ s.1 k below) r lr in
    dot_comm r v ∙ sym (one (dot v r)) ∙ e
    ∙ weigh_unit bs a.columns (λ x. dot x r) a.den j (lb ∙ sym count) (λ i b. dot_comm (row_at a.columns i) r ∙ inverts j i lt (omega (arith, b, count)))
  where
    one : (z : ℤ) → pos 1 *ℤ z ≡ z
    one z = omega (arith, ints)

-- the equations of all pairs
base_levels : (supports : List (List Point)) (cell : Cell) (P : List Point → ℕ → ℕ → Type 0) (v : List ℤ) (den : ℤ) → EachPair supports cell P
    → ((j : ℕ) → j < length supports → dot (row_at (edges supports cell) j) v ≡ den *ℤ at (base_falls supports cell) j)
    → EachPair supports cell (λ s a b. dot (sub (point_at s b).coordinates (point_at s a).coordinates) v +ℤ den *ℤ ((point_at s b).base -ℤ (point_at s a).base) ≡ pos 0)
base_levels [] [] P v den e f = tt
base_levels [] (x ∷ cell) P v den e f = e
base_levels (s ∷ supports) [] P v den e f = e
base_levels (s ∷ supports) (x ∷ cell) P v den e f =
    (level (dot (sub (point_at s x.1).coordinates (point_at s x.0).coordinates) v) den (point_at s x.0).base (point_at s x.1).base (f 0 (omega arith)), base_levels supports cell P v den e.1 (λ j lt. f (suc j) (omega (arith, lt))))
  where
    level : (d den a b : ℤ) → d ≡ den *ℤ (a -ℤ b) → d +ℤ den *ℤ (b -ℤ a) ≡ pos 0
    level d den a b e = ap (λ z. z +ℤ den *ℤ (b -ℤ a)) e ∙ turn den a b
      where
        turn : (den a b : ℤ) → den *ℤ (a -ℤ b) +ℤ den *ℤ (b -ℤ a) ≡ pos 0
        turn den a b = let e = minus den a b in omega (arith, ints, e)
          where
            minus : (den a b : ℤ) → den *ℤ (b -ℤ a) ≡ neg_ℤ (den *ℤ (a -ℤ b))
            minus den a b = rw (as_D den, as_D a, as_D b) (simp Ds (same_D _ _ _ _ (omega arith)))

speed_levels : (supports : List (List Point)) (cell : Cell) (P : List Point → ℕ → ℕ → Type 0) (v : List ℤ) (den : ℤ) → EachPair supports cell P
    → ((j : ℕ) → j < length supports → dot (row_at (edges supports cell) j) v ≡ den *ℤ at (speed_falls supports cell) j)
    → EachPair supports cell (λ s a b. dot (sub (point_at s b).coordinates (point_at s a).coordinates) v +ℤ den *ℤ ((point_at s b).speed -ℤ (point_at s a).speed) ≡ pos 0)
speed_levels [] [] P v den e f = tt
speed_levels [] (x ∷ cell) P v den e f = e
speed_levels (s ∷ supports) [] P v den e f = e
speed_levels (s ∷ supports) (x ∷ cell) P v den e f =
    (level (dot (sub (point_at s x.1).coordinates (point_at s x.0).coordinates) v) den (point_at s x.0).speed (point_at s x.1).speed (f 0 (omega arith)), speed_levels supports cell P v den e.1 (λ j lt. f (suc j) (omega (arith, lt))))
  where
    level : (d den a b : ℤ) → d ≡ den *ℤ (a -ℤ b) → d +ℤ den *ℤ (b -ℤ a) ≡ pos 0
    level d den a b e = ap (λ z. z +ℤ den *ℤ (b -ℤ a)) e ∙ turn den a b
      where
        turn : (den a b : ℤ) → den *ℤ (a -ℤ b) +ℤ den *ℤ (b -ℤ a) ≡ pos 0
        turn den a b = let e = minus den a b in omega (arith, ints, e)
          where
            minus : (den a b : ℤ) → den *ℤ (b -ℤ a) ≡ neg_ℤ (den *ℤ (a -ℤ b))
            minus den a b = rw (as_D den, as_D a, as_D b) (simp Ds (same_D _ _ _ _ (omega arith)))

pub rows_shape : (p : Problem) (cell : Cell) → IsProblem p → IsOf p cell → (length (edges p.supports cell) ≡ p.dimension) × Each (edges p.supports cell) (λ r. length r ≡ p.dimension)
rows_shape p cell well of = (
  ap length (differences_are p.supports cell) ∙ length-edges p.supports cell _ of ∙ well.supports,
  subst (λ (rows : List (List ℤ)). Each rows (λ r. length r ≡ p.dimension)) (sym (differences_are p.supports cell)) (long-edges p.dimension p.supports cell of well.points),
)

falls_count : (supports : List (List Point)) (cell : Cell) (P : List Point → ℕ → ℕ → Type 0) → EachPair supports cell P → (length (base_falls supports cell) ≡ length supports) × (length (speed_falls supports cell) ≡ length supports)
falls_count [] [] P e = (refl, refl)
falls_count [] (x ∷ cell) P e = absurd e
falls_count (s ∷ supports) [] P e = absurd e
falls_count (s ∷ supports) (x ∷ cell) P e = let r = falls_count supports cell P e.1 in (ap suc r.0, ap suc r.1)

-- the columns need not be in lowest terms
pub normal_by_columns : (p : Problem) (cell : Cell) → IsProblem p → IsOf p cell → IsIndependent p cell → (a : Inverse) (m : MovingNormal) → length a.columns ≡ p.dimension → pos 0 <ℤ a.den
    → Inverts p.dimension (edges p.supports cell) a.den a.columns → m.den ≡ a.den
    → IsSum p.dimension (base_falls p.supports cell) a.columns m.p → IsSum p.dimension (speed_falls p.supports cell) a.columns m.q → IsMovingNormal p cell m
normal_by_columns p cell well of ind a m count positive inverts d sp sq =
    let r = rows_shape p cell well of in
    let f = falls_count p.supports cell _ of in
    moving_of p cell well of ind m (subst (λ z. pos 0 <ℤ z) (sym d) positive) sp.0 sq.0
    (pairs_together p.supports cell _ _
    (base_levels p.supports cell _ m.p m.den of (λ j lt. row_sum p.dimension (edges p.supports cell) a (base_falls p.supports cell) m.p j (let k = well.supports in omega (arith, lt, k)) r.0 r.1 (f.0 ∙ well.supports) count inverts sp ∙ ap (λ z. z *ℤ at (base_falls p.supports cell) j) (sym d)))
    (speed_levels p.supports cell _ m.q m.den of (λ j lt. row_sum p.dimension (edges p.supports cell) a (speed_falls p.supports cell) m.q j (let k = well.supports in omega (arith, lt, k)) r.0 r.1 (f.1 ∙ well.supports) count inverts sq ∙ ap (λ z. z *ℤ at (speed_falls p.supports cell) j) (sym d))))

pub normal_by_inverse : (p : Problem) (cell : Cell) → IsProblem p → IsOf p cell → IsIndependent p cell → (a : Inverse) (m : MovingNormal) → IsInverseOfCell p cell a → m.den ≡ a.den
    → IsSum p.dimension (base_falls p.supports cell) a.columns m.p → IsSum p.dimension (speed_falls p.supports cell) a.columns m.q → IsMovingNormal p cell m
normal_by_inverse p cell well of ind a m h d sp sq = normal_by_columns p cell well of ind a m h.count h.positive h.inverts d sp sq
