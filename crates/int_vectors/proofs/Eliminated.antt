-- a combination of two rows, place after place
use Rattle.std.proofs.Common.{◌≡◌, ℕ, zero, suc, ◌+◌, ◌<◌, ℤ, pos, ◌*ℤ◌, ◌-ℤ◌, List, [], ◌∷◌, ◌++◌, length, get_or, take, refl, ap, arith, length-take}
use Rattle.std.proofs.lemmas.List.{take_more}
use Rattle.wide_int.specs.Whole.{FitsMulSub}
use Rattle.int_vectors.specs.RowSteps.{eliminated, FitsEliminated}

eliminated-append : (p f x y : ℤ) (xs ys : List ℤ) → length xs ≡ length ys → eliminated p f (xs ++ x ∷ []) (ys ++ y ∷ []) ≡ eliminated p f xs ys ++ (p *ℤ x -ℤ f *ℤ y) ∷ []
unfolding eliminated
eliminated-append p f x y [] [] e = refl
eliminated-append p f x y [] (b ∷ ys) e = absurd (omega arith)
eliminated-append p f x y (a ∷ xs) [] e = absurd (omega arith)
eliminated-append p f x y (a ∷ xs) (b ∷ ys) e = ap (λ l. (p *ℤ a -ℤ f *ℤ b) ∷ l) (eliminated-append p f x y xs ys (omega arith))

fits-append : (p f x y : ℤ) (xs ys : List ℤ) → length xs ≡ length ys → FitsEliminated p f xs ys → FitsMulSub p x f y → FitsEliminated p f (xs ++ x ∷ []) (ys ++ y ∷ [])
unfolding FitsEliminated
fits-append p f x y [] [] e h k = (k, tt)
fits-append p f x y [] (b ∷ ys) e h k = absurd (omega arith)
fits-append p f x y (a ∷ xs) [] e h k = absurd (omega arith)
fits-append p f x y (a ∷ xs) (b ∷ ys) e h k = (h.0, fits-append p f x y xs ys (omega arith) h.1 k)

pub fits_at : (p f : ℤ) (xs ys : List ℤ) (i : ℕ) → i < length xs → i < length ys → FitsEliminated p f xs ys → FitsMulSub p (get_or xs i (pos 0)) f (get_or ys i (pos 0))
unfolding FitsEliminated
fits_at p f [] ys i h k s = absurd (omega arith)
fits_at p f (x ∷ xs) [] i h k s = absurd (omega arith)
fits_at p f (x ∷ xs) (y ∷ ys) zero h k s = s.0
fits_at p f (x ∷ xs) (y ∷ ys) (suc i) h k s = fits_at p f xs ys i (omega arith) (omega arith) s.1

same_front : (xs ys : List ℤ) (i : ℕ) → length xs ≡ length ys → length (take i xs) ≡ length (take i ys)
same_front xs ys i e = omega (arith, length-take i xs, length-take i ys)

pub eliminated-more : (p f : ℤ) (xs ys : List ℤ) (i : ℕ) → length xs ≡ length ys → i < length xs
    → eliminated p f (take (i + 1) xs) (take (i + 1) ys) ≡ eliminated p f (take i xs) (take i ys) ++ (p *ℤ get_or xs i (pos 0) -ℤ f *ℤ get_or ys i (pos 0)) ∷ []
eliminated-more p f xs ys i e h =
    let k : i < length ys = omega arith in
    rw (take_more xs i (pos 0), take_more ys i (pos 0)) (eliminated-append p f _ _ _ _ (same_front xs ys i e))

pub fits-more : (p f : ℤ) (xs ys : List ℤ) (i : ℕ) → length xs ≡ length ys → i < length xs → FitsEliminated p f (take i xs) (take i ys) → FitsMulSub p (get_or xs i (pos 0)) f (get_or ys i (pos 0))
    → FitsEliminated p f (take (i + 1) xs) (take (i + 1) ys)
fits-more p f xs ys i e h s t =
    let k : i < length ys = omega arith in
    rw (take_more xs i (pos 0), take_more ys i (pos 0)) (fits-append p f _ _ _ _ (same_front xs ys i e) s t)
