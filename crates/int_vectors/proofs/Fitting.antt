-- entries that fit
use Rattle.std.proofs.Common.{◌≡◌, ℕ, zero, suc, ◌^◌, ◌<◌, ℤ, pos, negsuc, ◌<ℤ◌, unsigned_abs, List, [], ◌∷◌, length, get_or, set, refl, sym, subst, arith}
use Rattle.std.proofs.lemmas.Int.{ints, unsigned_abs-mul}
use Rattle.wide_int.specs.Whole.{FitsWhole}
use Rattle.int_vectors.specs.RowSteps.{eliminated, FitsEliminated}
use Rattle.int_vectors.specs.Vectors.{scale}
use Rattle.int_vectors.specs.Fits.{AllFit}
use Rattle.int_vectors.specs.Contents.{primitive, content}
use Rattle.wide_int.proofs.Signed.{below_product}
use Rattle.int_vectors.proofs.EntryDivisors.{scale-primitive, primitive_small}

pub fits_entry : (xs : List ℤ) (i : ℕ) → i < length xs → AllFit xs → FitsWhole (get_or xs i (pos 0))
fits_entry [] i h f = absurd (omega arith)
fits_entry (x ∷ xs) zero h f = f.0
fits_entry (x ∷ xs) (suc i) h f = fits_entry xs i (omega arith) f.1

pub fits-set : (xs : List ℤ) (i : ℕ) (y : ℤ) → AllFit xs → FitsWhole y → AllFit (set xs i y)
fits-set [] i y f g = tt
fits-set (x ∷ xs) zero y f g = (g, f.1)
fits-set (x ∷ xs) (suc i) y f g = (f.0, fits-set xs i y f.1 g)

pub fits_scale : (g : ℕ) (xs : List ℤ) → 0 < g → AllFit (scale (pos g) xs) → AllFit xs
fits_scale g [] h f = tt
fits_scale g (x ∷ xs) h f =
    let e = unsigned_abs-mul (pos g) x in
    (below_product g (unsigned_abs x) h (subst (λ n. n < 2 ^ 127) e f.0), fits_scale g xs h f.1)

-- exact quotients of entries that fit
pub fits_quotients : (g : ℤ) (old new : List ℤ) → pos 0 <ℤ g → old ≡ scale g new → AllFit old → AllFit new
fits_quotients (pos n) old new p e f = fits_scale n new (omega (arith, ints)) (subst AllFit e f)
fits_quotients (negsuc n) old new p e f = absurd (omega (arith, ints))

pub fits-primitive : (xs : List ℤ) → AllFit xs → AllFit (primitive xs)
fits-primitive xs f = by_content (content xs) refl
  where
    by_content : (n : ℕ) → content xs ≡ n → AllFit (primitive xs)
    by_content zero e = subst AllFit (sym (primitive_small xs (omega arith))) f
    by_content (suc n) e = fits_scale (content xs) (primitive xs) (omega arith) (subst AllFit (sym (scale-primitive xs)) f)

pub fits-eliminated : (p f : ℤ) (xs ys : List ℤ) → FitsEliminated p f xs ys → AllFit (eliminated p f xs ys)
unfolding eliminated FitsEliminated
fits-eliminated p f [] ys h = tt
fits-eliminated p f (x ∷ xs) [] h = tt
fits-eliminated p f (x ∷ xs) (y ∷ ys) h = (h.0.2, fits-eliminated p f xs ys h.1)

pub fits_any : (xs : List ℤ) (i : ℕ) (d : ℤ) → i < length xs → AllFit xs → FitsWhole (get_or xs i d)
fits_any [] i d h f = absurd (omega arith)
fits_any (x ∷ xs) zero d h f = f.0
fits_any (x ∷ xs) (suc i) d h f = fits_any xs i d (omega arith) f.1
