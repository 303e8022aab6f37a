-- sums of products, one more at a time
use Rattle.std.proofs.Common.{◌≡◌, ◌↔◌, ℕ, ◌+◌, ◌<◌, ◌≤◌, ℤ, pos, ◌+ℤ◌, ◌*ℤ◌, List, length, get_or, drop, refl, sym, ap, subst, ◌∙◌, drop-cons, add-one, drop_of_length-le}
use Rattle.std.proofs.Math.IntN.{+ℤ_assoc, +ℤ_idr}
use Rattle.wide_int.specs.Whole.{FitsWhole}
use Rattle.int_vectors.specs.Vectors.{dot}
use Rattle.int_vectors.specs.Fits.{FitsDot}

-- one step: the products from place i on
pub dot-step : (xs ys : List ℤ) (i : ℕ) → i < length xs → i < length ys → dot (drop i xs) (drop i ys) ≡ get_or xs i (pos 0) *ℤ get_or ys i (pos 0) +ℤ dot (drop (i + 1) xs) (drop (i + 1) ys)
dot-step xs ys i h k = rw (add-one, drop-cons xs i (pos 0), drop-cons ys i (pos 0)) refl

pub fits-step : (total : ℤ) (xs ys : List ℤ) (i : ℕ) → i < length xs → i < length ys
    → FitsDot total (drop i xs) (drop i ys) ≡ (FitsWhole (get_or xs i (pos 0) *ℤ get_or ys i (pos 0)) × FitsWhole (total +ℤ get_or xs i (pos 0) *ℤ get_or ys i (pos 0)) × FitsDot (total +ℤ get_or xs i (pos 0) *ℤ get_or ys i (pos 0)) (drop (i + 1) xs) (drop (i + 1) ys))
unfolding FitsDot
fits-step total xs ys i h k = rw (add-one, drop-cons xs i (pos 0), drop-cons ys i (pos 0)) refl

module _ (start t : ℤ) (a b : List ℤ) (i : ℕ) (la : i < length a) (lb : i < length b) where
  x : ℤ
  x = get_or a i (pos 0)

  y : ℤ
  y = get_or b i (pos 0)

  pub no_product : (FitsDot start a b → FitsDot t (drop i a) (drop i b)) → ¬ (FitsWhole (get_or a i (pos 0) *ℤ get_or b i (pos 0))) → ¬ (FitsDot start a b)
  no_product f n h = n (subst (λ T. T) (fits-step t a b i la lb) (f h)).0

  pub no_sum : (FitsDot start a b → FitsDot t (drop i a) (drop i b)) → ¬ (FitsWhole (t +ℤ get_or a i (pos 0) *ℤ get_or b i (pos 0))) → ¬ (FitsDot start a b)
  no_sum f n h = n (subst (λ T. T) (fits-step t a b i la lb) (f h)).1

  pub rest_more : (FitsDot start a b ↔ FitsDot t (drop i a) (drop i b)) → FitsWhole (get_or a i (pos 0) *ℤ get_or b i (pos 0)) → FitsWhole (t +ℤ get_or a i (pos 0) *ℤ get_or b i (pos 0))
      → FitsDot start a b ↔ FitsDot (t +ℤ get_or a i (pos 0) *ℤ get_or b i (pos 0)) (drop (i + 1) a) (drop (i + 1) b)
  rest_more r p s = (
    (λ h. (subst (λ T. T) (fits-step t a b i la lb) (r.0 h)).2),
    (λ h. r.1 (subst (λ T. T) (sym (fits-step t a b i la lb)) (p, s, h))),
  )

  pub value_more : t +ℤ dot (drop i a) (drop i b) ≡ start +ℤ dot a b → (t +ℤ get_or a i (pos 0) *ℤ get_or b i (pos 0)) +ℤ dot (drop (i + 1) a) (drop (i + 1) b) ≡ start +ℤ dot a b
  value_more e = +ℤ_assoc t (get_or a i (pos 0) *ℤ get_or b i (pos 0)) (dot (drop (i + 1) a) (drop (i + 1) b)) ∙ ap (λ z. t +ℤ z) (sym (dot-step a b i la lb)) ∙ e

-- at the end
pub at_end : (start t : ℤ) (a b : List ℤ) (i : ℕ) → length a ≤ i → length b ≤ i → t +ℤ dot (drop i a) (drop i b) ≡ start +ℤ dot a b
    → (FitsDot t (drop i a) (drop i b) → FitsDot start a b) → FitsWhole t → FitsDot start a b × (t ≡ start +ℤ dot a b)
unfolding FitsDot
at_end start t a b i la lb e f w =
    let p = drop_of_length-le a la in
    (f (rw p w), sym (+ℤ_idr t) ∙ (rw p at e))
