-- the sum of the products of a difference of vectors, one place at a time
use Rattle.std.proofs.Common.{◌≡◌, ◌↔◌, ℕ, zero, suc, ◌+◌, ◌*◌, ◌<◌, ◌≤◌, unsigned_abs, ℤ, pos, ◌+ℤ◌, ◌-ℤ◌, ◌*ℤ◌, List, [], ◌∷◌, length, get_or, drop, arith, sym, ap, subst, ◌∙◌, drop_of_length-le}
use Rattle.std.proofs.Math.IntN.{+ℤ_idr}
use Rattle.std.proofs.lemmas.Int.{ints}
use Rattle.wide_int.specs.Whole.{FitsWhole}
use Rattle.int_vectors.specs.Vectors.{Each, dot, sub}
use Rattle.int_vectors.specs.Fits.{FitsDot}
use Rattle.int_vectors.proofs.DotSteps as steps
use Rattle.int_vectors.specs.Bounds.{Room}
use Rattle.int_vectors.proofs.BoundSums.{room_at}

pub each_at : (P : ℤ → Type 0) (xs : List ℤ) (i : ℕ) → i < length xs → Each xs P → P (get_or xs i (pos 0))
each_at P [] i lt e = absurd (omega arith)
each_at P (x ∷ xs) zero lt e = e.0
each_at P (x ∷ xs) (suc i) lt e = each_at P xs i (omega arith) e.1

pub sub_at : (c a : List ℤ) (i : ℕ) → i < length c → length c ≡ length a → get_or (sub c a) i (pos 0) ≡ get_or c i (pos 0) -ℤ get_or a i (pos 0)
sub_at [] a i lt e = absurd (omega arith)
sub_at (x ∷ c) [] i lt e = absurd (omega arith)
sub_at (x ∷ c) (y ∷ a) zero lt e = omega (arith, ints)
sub_at (x ∷ c) (y ∷ a) (suc i) lt e = sub_at c a i (omega arith) (omega arith)

pub long_sub : (c a : List ℤ) → length c ≡ length a → length (sub c a) ≡ length c
long_sub [] [] e = omega arith
long_sub [] (y ∷ a) e = absurd (omega arith)
long_sub (x ∷ c) [] e = absurd (omega arith)
long_sub (x ∷ c) (y ∷ a) e = ap suc (long_sub c a (omega arith))

module _ (start t : ℤ) (a c v : List ℤ) (i : ℕ) (la : length a ≡ length v) (lc : length c ≡ length v) (lt : i < length v) where
  long : i < length (sub c a)
  long = let e = long_sub c a (lc ∙ sym la) in omega (arith, lt, e, lc)

  product_is : get_or (sub c a) i (pos 0) *ℤ get_or v i (pos 0) ≡ (get_or c i (pos 0) -ℤ get_or a i (pos 0)) *ℤ get_or v i (pos 0)
  product_is = ap (λ x. x *ℤ get_or v i (pos 0)) (sub_at c a i (omega (arith, lt, lc)) (lc ∙ sym la))

  pub value_more : t +ℤ dot (drop i (sub c a)) (drop i v) ≡ start +ℤ dot (sub c a) v
      → (t +ℤ (get_or c i (pos 0) -ℤ get_or a i (pos 0)) *ℤ get_or v i (pos 0)) +ℤ dot (drop (i + 1) (sub c a)) (drop (i + 1) v) ≡ start +ℤ dot (sub c a) v
  value_more e = subst (λ z. (t +ℤ z) +ℤ dot (drop (i + 1) (sub c a)) (drop (i + 1) v) ≡ start +ℤ dot (sub c a) v) product_is (steps.value_more start t (sub c a) v i long lt e)

  pub room_between : (m : ℕ) → Room m t (drop i (sub c a)) (drop i v)
      → (unsigned_abs ((get_or c i (pos 0) -ℤ get_or a i (pos 0)) *ℤ get_or v i (pos 0)) < m) × (unsigned_abs (t +ℤ (get_or c i (pos 0) -ℤ get_or a i (pos 0)) *ℤ get_or v i (pos 0)) < m)
      × Room m (t +ℤ (get_or c i (pos 0) -ℤ get_or a i (pos 0)) *ℤ get_or v i (pos 0)) (drop (i + 1) (sub c a)) (drop (i + 1) v)
  room_between m r =
      subst (λ z. (unsigned_abs z < m) × (unsigned_abs (t +ℤ z) < m) × Room m (t +ℤ z) (drop (i + 1) (sub c a)) (drop (i + 1) v)) product_is
      (room_at m t (sub c a) v i long lt r)

  pub no_product : (FitsDot start (sub c a) v → FitsDot t (drop i (sub c a)) (drop i v)) → ¬ (FitsWhole ((get_or c i (pos 0) -ℤ get_or a i (pos 0)) *ℤ get_or v i (pos 0))) → ¬ (FitsDot start (sub c a) v)
  no_product f n = steps.no_product start t (sub c a) v i long lt f (λ h. n (subst FitsWhole product_is h))

  pub no_sum : (FitsDot start (sub c a) v → FitsDot t (drop i (sub c a)) (drop i v)) → ¬ (FitsWhole (t +ℤ (get_or c i (pos 0) -ℤ get_or a i (pos 0)) *ℤ get_or v i (pos 0))) → ¬ (FitsDot start (sub c a) v)
  no_sum f n = steps.no_sum start t (sub c a) v i long lt f (λ h. n (subst (λ z. FitsWhole (t +ℤ z)) product_is h))

  pub rest_more : (FitsDot start (sub c a) v ↔ FitsDot t (drop i (sub c a)) (drop i v)) → FitsWhole ((get_or c i (pos 0) -ℤ get_or a i (pos 0)) *ℤ get_or v i (pos 0)) → FitsWhole (t +ℤ (get_or c i (pos 0) -ℤ get_or a i (pos 0)) *ℤ get_or v i (pos 0))
      → FitsDot start (sub c a) v ↔ FitsDot (t +ℤ (get_or c i (pos 0) -ℤ get_or a i (pos 0)) *ℤ get_or v i (pos 0)) (drop (i + 1) (sub c a)) (drop (i + 1) v)
  rest_more r p s =
      subst (λ z. FitsDot start (sub c a) v ↔ FitsDot (t +ℤ z) (drop (i + 1) (sub c a)) (drop (i + 1) v)) product_is
      (steps.rest_more start t (sub c a) v i long lt r (subst FitsWhole (sym product_is) p) (subst (λ z. FitsWhole (t +ℤ z)) (sym product_is) s))

  pub fits_more : FitsDot t (drop i (sub c a)) (drop i v)
      → FitsWhole ((get_or c i (pos 0) -ℤ get_or a i (pos 0)) *ℤ get_or v i (pos 0)) × FitsWhole (t +ℤ (get_or c i (pos 0) -ℤ get_or a i (pos 0)) *ℤ get_or v i (pos 0))
      × FitsDot (t +ℤ (get_or c i (pos 0) -ℤ get_or a i (pos 0)) *ℤ get_or v i (pos 0)) (drop (i + 1) (sub c a)) (drop (i + 1) v)
  fits_more f =
      subst (λ z. FitsWhole z × FitsWhole (t +ℤ z) × FitsDot (t +ℤ z) (drop (i + 1) (sub c a)) (drop (i + 1) v)) product_is
      (subst (λ T. T) (steps.fits-step t (sub c a) v i long lt) f)

-- past the last place
pub at_end : (start t : ℤ) (a c v : List ℤ) (i : ℕ) → length a ≡ length v → length c ≡ length v → length v ≤ i → t +ℤ dot (drop i (sub c a)) (drop i v) ≡ start +ℤ dot (sub c a) v → t ≡ start +ℤ dot (sub c a) v
at_end start t a c v i la lc le e =
    let l = long_sub c a (lc ∙ sym la) in
    let d : drop i (sub c a) ≡ [] = drop_of_length-le (sub c a) (omega (arith, l, lc, le)) in
    sym (+ℤ_idr t) ∙ (rw d at e)

pub fits_end : (start t : ℤ) (a c v : List ℤ) (i : ℕ) → length a ≡ length v → length c ≡ length v → length v ≤ i → t +ℤ dot (drop i (sub c a)) (drop i v) ≡ start +ℤ dot (sub c a) v
    → (FitsDot t (drop i (sub c a)) (drop i v) → FitsDot start (sub c a) v) → FitsWhole t → FitsDot start (sub c a) v × (t ≡ start +ℤ dot (sub c a) v)
fits_end start t a c v i la lc le e f w = let l = long_sub c a (lc ∙ sym la) in steps.at_end start t (sub c a) v i (omega (arith, le, l, lc)) le e f w
