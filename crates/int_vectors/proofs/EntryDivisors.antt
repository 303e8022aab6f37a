-- gcds of numbers and of rows
use Rattle.std.proofs.Common.{◌≡◌, ◌≢◌, ℕ, zero, suc, ◌+◌, ◌<◌, ◌≤◌, ℤ, pos, negsuc, unsigned_abs, int_div, List, [], ◌∷◌, ◌++◌, length, get_or, take, drop, refl, sym, ap, ap₂, subst, ◌∙◌, arith, ◌⊎◌, inl, inr}
use Rattle.std.proofs.Math.Nat.{one-dvd}
use Prim.Native.Nat.{◌∣◌}
use Rattle.std.specs.Int.{IsGcd}
use Rattle.std.proofs.Math.IntN.{*ℤ_comm}
use Rattle.std.proofs.lemmas.Int.{ints}
use Rattle.std.proofs.lemmas.List.{take_more}
use Rattle.std.proofs.lemmas.Nat.Gcd.{dvd-zero, dvd_trans, dvd_antisymm}
use Rattle.int_vectors.specs.Vectors.{scale}
use Rattle.wide_int.proofs.Dividing.{quot_exact}
use Rattle.wide_int.proofs.Order.{mul_cancel}
use Rattle.int_vectors.specs.Contents.{content, DividesEach, IsContent, divided, primitive}
use Rattle.wide_int.proofs.CommonDivisors.{gcd_is}

pub divides_trans : (d g : ℕ) (xs : List ℤ) → d ∣ g → DividesEach g xs → DividesEach d xs
divides_trans d g [] h k = tt
divides_trans d g (x ∷ xs) h k = (dvd_trans d h k.0, divides_trans d g xs h k.1)

pub divides-append : (d : ℕ) (x : ℤ) (xs : List ℤ) → DividesEach d xs → d ∣ unsigned_abs x → DividesEach d (xs ++ x ∷ [])
divides-append d x [] h k = (k, tt)
divides-append d x (y ∷ xs) h k = (h.0, divides-append d x xs h.1 k)

pub divides_front : (d : ℕ) (x : ℤ) (xs : List ℤ) → DividesEach d (xs ++ x ∷ []) → DividesEach d xs × (d ∣ unsigned_abs x)
divides_front d x [] h = (tt, h.0)
divides_front d x (y ∷ xs) h = let k = divides_front d x xs h.1 in ((h.0, k.0), k.1)

divides-take : (d n : ℕ) (xs : List ℤ) → DividesEach d xs → DividesEach d (take n xs)
divides-take d zero xs h = tt
divides-take d (suc n) [] h = tt
divides-take d (suc n) (x ∷ xs) h = (h.0, divides-take d n xs h.1)

pub one_divides_each : (xs : List ℤ) → DividesEach 1 xs
one_divides_each [] = tt
one_divides_each (x ∷ xs) = (one-dvd (unsigned_abs x), one_divides_each xs)

pub content_is : (xs : List ℤ) → IsContent xs (content xs)
unfolding content
content_is [] = (tt, λ d h. dvd-zero d)
content_is (x ∷ xs) =
    let k = content_is xs in
    let g = gcd_is (unsigned_abs x) (content xs) in
    ((g.0, divides_trans _ _ xs g.1 k.0), λ d h. g.2 d h.0 (k.1 d h.1))

pub same_content : (xs : List ℤ) (g : ℕ) → IsContent xs g → g ≡ content xs
same_content xs g h = let k = content_is xs in dvd_antisymm (k.1 g h.0) (h.1 (content xs) k.0)

content-append : (xs : List ℤ) (x : ℤ) (g h : ℕ) → IsContent xs g → IsGcd g (unsigned_abs x) h → IsContent (xs ++ x ∷ []) h
content-append xs x g h k l =
    (divides-append h x xs (divides_trans h g xs l.0 k.0) l.1, λ d e. let f = divides_front d x xs e in l.2 d (k.1 d f.0) f.1)

pub content_more : (xs : List ℤ) (i g h : ℕ) → i < length xs → IsContent (take i xs) g → IsGcd g (unsigned_abs (get_or xs i (pos 0))) h → IsContent (take (i + 1) xs) h
content_more xs i g h lt k l = rw (take_more xs i (pos 0) lt) (content-append (take i xs) (get_or xs i (pos 0)) g h k l)

-- one as a gcd of some entries is the gcd of all
pub content_one : (xs : List ℤ) (i : ℕ) → IsContent (take i xs) 1 → content xs ≡ 1
content_one xs i h = sym (same_content xs 1 (one_divides_each xs, λ d e. h.1 d (divides-take d i xs e)))

pub divides_at : (g : ℕ) (xs : List ℤ) (i : ℕ) → i < length xs → DividesEach g xs → g ∣ unsigned_abs (get_or xs i (pos 0))
divides_at g [] i h d = absurd (omega arith)
divides_at g (x ∷ xs) zero h d = d.0
divides_at g (x ∷ xs) (suc i) h d = divides_at g xs i (omega arith) d.1

pub scale-divided : (g : ℕ) (xs : List ℤ) → DividesEach g xs → scale (pos g) (divided (pos g) xs) ≡ xs
unfolding divided
scale-divided g [] h = refl
scale-divided g (x ∷ xs) h = ap₂ (λ y ys. y ∷ ys) (quot_exact x (pos g) h.0) (scale-divided g xs h.1)

-- a row is its gcd times its primitive row
pub scale-primitive : (xs : List ℤ) → scale (pos (content xs)) (primitive xs) ≡ xs
unfolding primitive
scale-primitive xs = scale-divided (content xs) xs (content_is xs).0

head_of : (x y : ℤ) (xs ys : List ℤ) → x ∷ xs ≡ y ∷ ys → x ≡ y
head_of x y xs ys e = ap (λ l. get_or l 0 (pos 0)) e

tail_of : (x y : ℤ) (xs ys : List ℤ) → x ∷ xs ≡ y ∷ ys → xs ≡ ys
tail_of x y xs ys e = ap (drop 1) e

pub scale_cancel : (g : ℤ) (xs ys : List ℤ) → g ≢ pos 0 → scale g xs ≡ scale g ys → xs ≡ ys
scale_cancel g [] [] n e = refl
scale_cancel g [] (y ∷ ys) n e = absurd (let l = ap length e in omega arith)
scale_cancel g (x ∷ xs) [] n e = absurd (let l = ap length e in omega arith)
scale_cancel g (x ∷ xs) (y ∷ ys) n e =
    ap₂ (λ a l. a ∷ l) (mul_cancel x y g n (*ℤ_comm x g ∙ head_of _ _ _ _ e ∙ *ℤ_comm g y)) (scale_cancel g xs ys n (tail_of _ _ _ _ e))

-- what exact division leaves
pub divided_is : (old new : List ℤ) → 0 < content old → old ≡ scale (pos (content old)) new → new ≡ primitive old
divided_is old new p e = scale_cancel (pos (content old)) new (primitive old) (λ z. omega (arith, ints, z)) (sym e ∙ sym (scale-primitive old))

zero_row : (xs : List ℤ) → DividesEach 0 xs → divided (pos 0) xs ≡ xs
unfolding divided
zero_row [] h = refl
zero_row (x ∷ xs) h = ap₂ (λ a l. a ∷ l) (zero_entry x (dvd_antisymm h.0 (dvd-zero (unsigned_abs x)))) (zero_row xs h.1)
  where
    zero_entry : (x : ℤ) → 0 ≡ unsigned_abs x → int_div x (pos 0) ≡ x
    zero_entry (pos zero) e = refl
    zero_entry (pos (suc n)) e = absurd (omega arith)
    zero_entry (negsuc n) e = absurd (omega arith)

times_one : (xs : List ℤ) → scale (pos 1) xs ≡ xs
times_one [] = refl
times_one (x ∷ xs) = ap₂ (λ a l. a ∷ l) (omega (arith, ints)) (times_one xs)

primitive_zero : (xs : List ℤ) → content xs ≡ 0 → primitive xs ≡ xs
unfolding primitive
primitive_zero xs z = ap (λ g. divided (pos g) xs) z ∙ zero_row xs (subst (λ g. DividesEach g xs) z (content_is xs).0)

zero_or_one : (n : ℕ) → n ≤ 1 → (n ≡ 0) ⊎ (n ≡ 1)
zero_or_one zero h = inl refl
zero_or_one (suc n) h = inr (omega arith)

-- where the gcd is 0 or 1 nothing changes
pub primitive_small : (xs : List ℤ) → content xs ≤ 1 → primitive xs ≡ xs
primitive_small xs h = elim (zero_or_one (content xs) h) [
  | inl z ↦ primitive_zero xs z
  | inr o ↦ sym (times_one (primitive xs)) ∙ ap (λ g. scale (pos g) (primitive xs)) (sym o) ∙ scale-primitive xs
]

pub divides_both : (d : ℕ) (xs ys : List ℤ) → DividesEach d xs → DividesEach d ys → DividesEach d (xs ++ ys)
divides_both d [] ys h k = k
divides_both d (x ∷ xs) ys h k = (h.0, divides_both d xs ys h.1 k)

pub divides_apart : (d : ℕ) (xs ys : List ℤ) → DividesEach d (xs ++ ys) → DividesEach d xs × DividesEach d ys
divides_apart d [] ys h = (tt, h)
divides_apart d (x ∷ xs) ys h = let k = divides_apart d xs ys h.1 in ((h.0, k.0), k.1)
