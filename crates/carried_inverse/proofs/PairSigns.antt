-- the signs of a dependency by one column of the inverse
use Rattle.std.proofs.Common.{◌≡◌, ℕ, zero, suc, ◌<◌, ℤ, pos, ◌+ℤ◌, ◌-ℤ◌, ◌*ℤ◌, neg_ℤ, List, [], ◌∷◌, length, arith, refl, sym, ap, ap₂, subst, ◌∙◌}
use Rattle.std.proofs.Math.IntN.{*ℤ-zero, *ℤ_comm}
use Rattle.std.proofs.lemmas.Int.{ints}
use Rattle.std.proofs.lemmas.List.{get_or-map}
use Rattle.wide_int.proofs.Ring.{as_D, Ds, same_D}
use Rattle.int_vectors.specs.Vectors.{Each, add, at, comb, dot, weigh, scale, row_at}
use Rattle.int_vectors.proofs.Weighing.{weigh-scale}
use Rattle.int_vectors.proofs.Entries.{length-scale}
use Rattle.cayley.specs.declared.found.Sign.{Sign}
use Rattle.cayley.specs.Cells.{Cell, IsOf}
use Rattle.cayley.specs.Dependencies.{number_at}
use Rattle.cayley.specs.Problems.{Problem, IsProblem}
use Rattle.cayley.proofs.OneCell.CellRows.{InRange}
use Rattle.cayley.proofs.Algebra.Kernel as kernel
use Rattle.cayley.proofs.OneCell.OneDependency.{numbers_of_rows, pairs_from}
use Rattle.cayley.proofs.Algebra.RowDependencies.{IsDependency}
use Rattle.cayley.proofs.Algebra.ScaledInverse.{apply, dot-add, dot-scale, dot-comb, dot-zero, length-add, length-comb, length-apply}
use Rattle.cayley.specs.Rows.{edges}
use Rattle.cayley.specs.Signs.{HasSign, HaveSigns}
use Rattle.inner_normal.specs.Inverses.{Inverse}
use Rattle.inner_normal.specs.Coefficients.{difference, products}
use Rattle.inner_normal.proofs.Reading.{cell_long}
use Rattle.carried_inverse.specs.Answers.{HasPairSigns}
use Rattle.carried_inverse.specs.Systems.{Inverts, IsScaledInverse, IsInverseOfCell}
use Rattle.carried_inverse.proofs.FromRows.{differences_are}
use Rattle.carried_inverse.proofs.Independence.{rows_free}
use Rattle.carried_inverse.proofs.Normals.{rows_shape, weigh_unit}
use Rattle.carried_inverse.proofs.OneInverse.{kills_from}

at-apply : (rows : List (List ℤ)) (y : List ℤ) (j : ℕ) → j < length rows → at (apply rows y) j ≡ dot (row_at rows j) y
at-apply [] y j lt = absurd (omega (arith, lt))
at-apply (r ∷ rows) y zero lt = refl
at-apply (r ∷ rows) y (suc j) lt = at-apply rows y j (omega (arith, lt))

-- one double sum in both orders
swapped : (d y : List ℤ) (rows columns : List (List ℤ)) → length rows ≡ length columns → weigh (products d columns) rows (λ r. dot r y) ≡ weigh (apply rows y) columns (dot d)
swapped d y [] [] e = refl
swapped d y [] (x ∷ columns) e = absurd (omega (arith, e))
swapped d y (r ∷ rows) [] e = absurd (omega (arith, e))
swapped d y (r ∷ rows) (x ∷ columns) e = ap₂ ◌+ℤ◌ (*ℤ_comm (dot d x) (dot r y)) (swapped d y rows columns (omega (arith, e)))

-- minus the products, and the denominator, are a dependency of the rows and a vector; the columns need not be in lowest terms
pub columns_dependency : (n : ℕ) (rows : List (List ℤ)) (a : Inverse) → length rows ≡ n → length a.columns ≡ n → Each a.columns (λ column. length column ≡ n) → Inverts n rows a.den a.columns → kernel.Independent n rows
    → (d : List ℤ) → IsDependency n rows d (scale (neg_ℤ (pos 1)) (products d a.columns)) a.den
columns_dependency n rows a many columns wide inverts free d y ly =
    let cs = apply rows y in
    let z = comb cs a.columns in
    let u = add (scale (neg_ℤ a.den) y) z in
    let lu = length-add (scale (neg_ℤ a.den) y) z n (length-scale (neg_ℤ a.den) y ∙ ly) (length-comb cs a.columns n wide) in
    let count = length-apply rows y ∙ many ∙ sym columns in
    let killed = kills_from rows u (λ j lj.
    let r = row_at rows j in
    dot-add r (scale (neg_ℤ a.den) y) z ∙ ap₂ ◌+ℤ◌ (dot-scale r (neg_ℤ a.den) y)
    (dot-comb r cs a.columns ∙ weigh_unit cs a.columns (dot r) a.den j count (λ i b. inverts j i (omega (arith, lj, many)) (omega (arith, b, columns))) ∙ ap (λ x. a.den *ℤ x) (at-apply rows y j lj))
    ∙ nothing a.den (dot r y)) in
    let zero_vector = free u lu killed in
    let e = sym (dot-add d (scale (neg_ℤ a.den) y) z ∙ ap₂ ◌+ℤ◌ (dot-scale d (neg_ℤ a.den) y) (dot-comb d cs a.columns)) ∙ dot-zero d u zero_vector in
    let s = weigh-scale (neg_ℤ (pos 1)) (products d a.columns) rows (λ r. dot r y) ∙ ap (λ x. neg_ℤ (pos 1) *ℤ x) (swapped d y rows a.columns (many ∙ sym columns)) in
    ap (λ x. x +ℤ a.den *ℤ dot d y) s ∙ last a.den (dot d y) (weigh cs a.columns (dot d)) e
  where
    nothing : (d x : ℤ) → neg_ℤ d *ℤ x +ℤ d *ℤ x ≡ pos 0
    nothing d x = let e = minus d x in omega (arith, ints, e)
      where
        minus : (d x : ℤ) → neg_ℤ d *ℤ x ≡ neg_ℤ (d *ℤ x)
        minus d x = rw (as_D d, as_D x) (simp Ds (same_D _ _ _ _ (omega arith)))

    last : (d x w : ℤ) → neg_ℤ d *ℤ x +ℤ w ≡ pos 0 → neg_ℤ (pos 1) *ℤ w +ℤ d *ℤ x ≡ pos 0
    last d x w e = let f = minus d x in omega (arith, ints, e, f)
      where
        minus : (d x : ℤ) → neg_ℤ d *ℤ x ≡ neg_ℤ (d *ℤ x)
        minus d x = rw (as_D d, as_D x) (simp Ds (same_D _ _ _ _ (omega arith)))

pub inverse_dependency : (n : ℕ) (rows : List (List ℤ)) (a : Inverse) → length rows ≡ n → IsScaledInverse n rows a → (d : List ℤ) → IsDependency n rows d (scale (neg_ℤ (pos 1)) (products d a.columns)) a.den
inverse_dependency n rows a many h d = columns_dependency n rows a many h.count h.long h.inverts (rows_free n rows a many h) d

-- the numbers at the pair of the point's own support
own_numbers : (bs : List ℤ) (j : ℕ) (g : ℤ) (cell : Cell) → j < length cell → number_at (pairs_from bs j g cell) j ≡ (neg_ℤ (at bs j +ℤ g), at bs j)
own_numbers bs j g [] lt = absurd (omega (arith, lt))
own_numbers [] zero g (x ∷ cell) lt = refl
own_numbers (b ∷ bs) zero g (x ∷ cell) lt = refl
own_numbers [] (suc j) g (x ∷ cell) lt = own_numbers [] j g cell (omega (arith, lt))
own_numbers (b ∷ bs) (suc j) g (x ∷ cell) lt = own_numbers bs j g cell (omega (arith, lt))

-- the signs at the pair
pub pair_signs : (p : Problem) (cell : Cell) (j c : ℕ) → IsProblem p → IsOf p cell → j < p.dimension → (a : Inverse) → IsInverseOfCell p cell a → (m : ℤ) → m ≡ dot (difference p cell j c) (row_at a.columns j)
    → (signs : Sign × Sign) → HasSign signs.0 (m -ℤ a.den) → HasSign signs.1 (pos 0 -ℤ m) → HasPairSigns p cell j c signs
pair_signs p cell j c well of below a h m is signs x y =
    let d = difference p cell j c in
    let bs = scale (neg_ℤ (pos 1)) (products d a.columns) in
    let lc : j < length cell = (let l = cell_long p.supports cell InRange of in let e = well.supports in omega (arith, below, e, l)) in
    let dep = subst (λ (rows : List (List ℤ)). IsDependency p.dimension rows d bs a.den) (differences_are p.supports cell) (inverse_dependency p.dimension (edges p.supports cell) a (rows_shape p cell well of).0 h d) in
    let own = own_numbers bs j a.den cell lc in
    let b : at bs j ≡ neg_ℤ (pos 1) *ℤ m = at-scale (neg_ℤ (pos 1)) (products d a.columns) j ∙ ap (λ z. neg_ℤ (pos 1) *ℤ z) (get_or-map (dot d) a.columns j [] (pos 0) (let n = h.count in omega (arith, below, n)) ∙ sym is) in (
      record { pairs = pairs_from bs j a.den cell; last = a.den },
      numbers_of_rows p cell j c well of (let l = lc in omega (arith, l)) bs a.den h.positive dep,
      subst (HaveSigns signs) (sym own)
          (subst (HasSign signs.0) (first m a.den (at bs j) b) x, subst (HasSign signs.1) (second m (at bs j) b) y),
    )
  where
    at-scale : (k : ℤ) (v : List ℤ) (i : ℕ) → at (scale k v) i ≡ k *ℤ at v i
    at-scale k [] i = sym (*ℤ-zero k)
    at-scale k (x ∷ v) zero = refl
    at-scale k (x ∷ v) (suc i) = at-scale k v i

    first : (m g b : ℤ) → b ≡ neg_ℤ (pos 1) *ℤ m → m -ℤ g ≡ neg_ℤ (b +ℤ g)
    first m g b e = omega (arith, ints, e)

    second : (m b : ℤ) → b ≡ neg_ℤ (pos 1) *ℤ m → pos 0 -ℤ m ≡ b
    second m b e = omega (arith, ints, e)
