-- sums of absolute values
use Rattle.std.proofs.Common.{◌≡◌, ℕ, zero, suc, ◌+◌, ◌-◌, ◌*◌, ◌^◌, ◌<◌, ◌≤◌, ℤ, pos, negsuc, ◌+ℤ◌, ◌*ℤ◌, ◌-ℤ◌, neg_ℤ, unsigned_abs, List, [], ◌∷◌, length, get_or, drop, refl, ap, subst, arith, drop-cons, add-one}
use Rattle.std.proofs.lemmas.Int.{ints, unsigned_abs-mul}
use Rattle.int_vectors.specs.Vectors.{dot}
use Rattle.int_vectors.specs.Fits.{FitsDot}
use Rattle.int_vectors.specs.Bounds.{size, Within, Room}
use borrow.Author.Differences.{up, down, sum_is_lem}

pub abs_neg : (a : ℤ) → unsigned_abs (neg_ℤ a) ≡ unsigned_abs a
abs_neg (pos zero) = refl
abs_neg (pos (suc n)) = refl
abs_neg (negsuc n) = refl

pub abs_is : (a : ℤ) → unsigned_abs a ≡ up a + down a
abs_is (pos n) = omega (arith, ints)
abs_is (negsuc n) = omega (arith, ints)

pub abs_add : (a b : ℤ) → unsigned_abs (a +ℤ b) ≤ unsigned_abs a + unsigned_abs b
abs_add a b = omega (arith, ints, abs_is a, abs_is b, abs_is (a +ℤ b), sum_is_lem a b)

pub abs_sub : (a b : ℤ) → unsigned_abs (a -ℤ b) ≤ unsigned_abs a + unsigned_abs b
abs_sub a b = omega (arith, abs_add a (neg_ℤ b), abs_neg b)

-- over plain numbers
pub mul_le : (x y w : ℕ) → y ≤ w → x * y ≤ x * w
mul_le x y w h =
    let k = w - y in
    let e : w ≡ y + k = omega arith in
    let q = ap (λ z. x * z) e in
    omega (arith, q)

step_sum : (m a x y w s t p : ℕ) → a + (x + s) * w < m → y ≤ w → p ≡ x * y → t ≤ a + p → (p < m) × (t < m) × (t + s * w < m)
step_sum m a x y w s t p h k e l =
    let q = mul_le x y w k in
    (omega arith, omega arith, omega arith)

pub room_step : (m : ℕ) (t x y : ℤ) (xs ys : List ℤ) → Room m t (x ∷ xs) (y ∷ ys)
    → (unsigned_abs (x *ℤ y) < m) × (unsigned_abs (t +ℤ x *ℤ y) < m) × Room m (t +ℤ x *ℤ y) xs ys
room_step m t x y xs ys r =
    let s = step_sum m (unsigned_abs t) (unsigned_abs x) (unsigned_abs y) r.0 (size xs) (unsigned_abs (t +ℤ x *ℤ y)) (unsigned_abs (x *ℤ y))
    r.2 r.1.0 (unsigned_abs-mul x y) (abs_add t (x *ℤ y)) in
    (s.0, s.1, (r.0, r.1.1, s.2))

pub start_below : (m : ℕ) (t : ℤ) (xs ys : List ℤ) → Room m t xs ys → unsigned_abs t < m
start_below m t xs ys r = let h = r.2 in step (unsigned_abs t) (size xs * r.0) m h
  where
    step : (a b m : ℕ) → a + b < m → a < m
    step a b m h = omega arith

-- one bound, and each product and partial sum fits
pub room_fits : (t : ℤ) (xs ys : List ℤ) → Room (2 ^ 127) t xs ys → FitsDot t xs ys
unfolding FitsDot
room_fits t [] ys r = start_below (2 ^ 127) t [] ys r
room_fits t (x ∷ xs) [] r = start_below (2 ^ 127) t (x ∷ xs) [] r
room_fits t (x ∷ xs) (y ∷ ys) r =
    let s = room_step (2 ^ 127) t x y xs ys r in
    (s.0, s.1, room_fits (t +ℤ x *ℤ y) xs ys s.2)

-- the exact form, with the greatest number that fits
pub sum_fits : (w : ℕ) (t : ℤ) (xs ys : List ℤ) → Within w ys → size xs * w + unsigned_abs t ≤ 2 ^ 127 - 1 → FitsDot t xs ys
sum_fits w t xs ys b h = room_fits t xs ys (w, b, step (size xs * w) (unsigned_abs t) h)
  where
    step : (a b : ℕ) → a + b ≤ 2 ^ 127 - 1 → b + a < 2 ^ 127
    step a b h = omega arith

-- a sum of products is at most the row's size scale the bound
abs_step : (x y w s p d t : ℕ) → y ≤ w → p ≡ x * y → d ≤ s * w → t ≤ p + d → t ≤ (x + s) * w
abs_step x y w s p d t k e h l = let q = mul_le x y w k in omega arith

pub abs_dot : (w : ℕ) (xs ys : List ℤ) → Within w ys → unsigned_abs (dot xs ys) ≤ size xs * w
abs_dot w [] ys h = omega arith
abs_dot w (x ∷ xs) [] h = omega arith
abs_dot w (x ∷ xs) (y ∷ ys) h =
    abs_step (unsigned_abs x) (unsigned_abs y) w (size xs) (unsigned_abs (x *ℤ y)) (unsigned_abs (dot xs ys)) (unsigned_abs (x *ℤ y +ℤ dot xs ys))
    h.0 (unsigned_abs-mul x y) (abs_dot w xs ys h.1) (abs_add (x *ℤ y) (dot xs ys))

-- a place of a loop
module _ (m : ℕ) (t : ℤ) (a b : List ℤ) (i : ℕ) (la : i < length a) (lb : i < length b) (r : Room m t (drop i a) (drop i b)) where
  pub room_at : (unsigned_abs (get_or a i (pos 0) *ℤ get_or b i (pos 0)) < m) × (unsigned_abs (t +ℤ get_or a i (pos 0) *ℤ get_or b i (pos 0)) < m)
      × Room m (t +ℤ get_or a i (pos 0) *ℤ get_or b i (pos 0)) (drop (i + 1) a) (drop (i + 1) b)
  room_at =
      rw add-one (room_step m t (get_or a i (pos 0)) (get_or b i (pos 0)) (drop (suc i) a) (drop (suc i) b)
      (subst (λ p. Room m t (get_or a i (pos 0) ∷ drop (suc i) a) p) (drop-cons b i (pos 0) lb) (subst (λ p. Room m t p (drop i b)) (drop-cons a i (pos 0) la) r)))
