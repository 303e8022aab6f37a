-- differences, one entry at a time
use Rattle.std.proofs.Common.{◌≡◌, ℕ, zero, suc, ◌+◌, ◌<◌, ℤ, pos, ◌+ℤ◌, ◌-ℤ◌, ◌*ℤ◌, neg_ℤ, List, [], ◌∷◌, ◌++◌, length, get_or, take, ap, subst, arith, length-take}
use Rattle.std.proofs.lemmas.Int.{ints}
use Rattle.std.proofs.lemmas.List.{take_more}
use Rattle.wide_int.specs.Whole.{FitsWhole}
use Rattle.int_vectors.specs.Fits.{AllFit}
use Rattle.int_vectors.specs.Vectors.{sub}

pub minus_one : (x y : ℤ) → x +ℤ neg_ℤ (pos 1) *ℤ y ≡ x -ℤ y
minus_one x y = omega (arith, ints)

sub-append : (x y : ℤ) (xs ys : List ℤ) → length xs ≡ length ys → sub (xs ++ x ∷ []) (ys ++ y ∷ []) ≡ sub xs ys ++ (x -ℤ y) ∷ []
sub-append x y [] [] e = ap (λ z. z ∷ []) (minus_one x y)
sub-append x y [] (b ∷ ys) e = absurd (omega arith)
sub-append x y (a ∷ xs) [] e = absurd (omega arith)
sub-append x y (a ∷ xs) (b ∷ ys) e = ap (λ l. (a +ℤ neg_ℤ (pos 1) *ℤ b) ∷ l) (sub-append x y xs ys (omega arith))

pub sub-more : (xs ys : List ℤ) (i : ℕ) → length xs ≡ length ys → i < length xs → sub (take (i + 1) xs) (take (i + 1) ys) ≡ sub (take i xs) (take i ys) ++ (get_or xs i (pos 0) -ℤ get_or ys i (pos 0)) ∷ []
sub-more xs ys i e h =
    let k : i < length ys = omega arith in
    rw (take_more xs i (pos 0), take_more ys i (pos 0)) (sub-append _ _ _ _ (omega (arith, length-take i xs, length-take i ys)))

pub all-append : (xs : List ℤ) (x : ℤ) → AllFit xs → FitsWhole x → AllFit (xs ++ x ∷ [])
all-append [] x a f = (f, tt)
all-append (y ∷ xs) x a f = (a.0, all-append xs x a.1 f)

-- a difference that doesn't fit
pub sub_not : (xs ys : List ℤ) (i : ℕ) → length xs ≡ length ys → i < length xs → ¬ (FitsWhole (get_or xs i (pos 0) -ℤ get_or ys i (pos 0))) → ¬ (AllFit (sub xs ys))
sub_not [] ys i e h n f = absurd (omega arith)
sub_not (x ∷ xs) [] i e h n f = absurd (omega arith)
sub_not (x ∷ xs) (y ∷ ys) zero e h n f = n (subst FitsWhole (minus_one x y) f.0)
sub_not (x ∷ xs) (y ∷ ys) (suc i) e h n f = sub_not xs ys i (omega arith) (omega arith) n f.1
