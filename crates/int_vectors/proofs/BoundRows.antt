-- sums and bounds of a row, and one step on a row
use Rattle.std.proofs.Common.{◌≡◌, ℕ, zero, suc, ◌+◌, ◌*◌, ◌^◌, ◌<◌, ◌≤◌, ℤ, pos, ◌*ℤ◌, ◌-ℤ◌, unsigned_abs, List, [], ◌∷◌, ◌++◌, length, get_or, take, drop, sym, ap, ap₂, subst, ◌∙◌, arith, take_all, drop_of_length-le, append-nil}
use Rattle.std.proofs.lemmas.Int.{unsigned_abs-mul}
use Rattle.std.proofs.lemmas.List.{take_more}
use Rattle.int_vectors.specs.RowSteps.{eliminated, FitsEliminated}
use Rattle.int_vectors.specs.Bounds.{size, Within, StepRoom, NarrowStepRoom}
use Rattle.int_vectors.specs.Fits.{AllFit}
use Rattle.int_vectors.proofs.Fitting.{fits-eliminated}
use Rattle.int_vectors.proofs.TakingOff.{off_read}
use Rattle.int_vectors.proofs.BoundSums.{abs_sub, mul_le}
use Rattle.int_vectors.specs.Vectors.{at}

pub size-append : (xs : List ℤ) (x : ℤ) → size (xs ++ x ∷ []) ≡ size xs + unsigned_abs x
size-append [] x = omega arith
size-append (y ∷ xs) x = let e = size-append xs x in omega (arith, e)

pub size_more : (xs : List ℤ) (i : ℕ) → i < length xs → size (take (i + 1) xs) ≡ size (take i xs) + unsigned_abs (get_or xs i (pos 0))
size_more xs i h = rw (take_more xs i (pos 0)) (size-append (take i xs) (get_or xs i (pos 0)))

pub size_front : (i : ℕ) (xs : List ℤ) → size (take i xs) ≤ size xs
size_front zero xs = omega arith
size_front (suc i) [] = omega arith
size_front (suc i) (x ∷ xs) = let e = size_front i xs in omega (arith, e)

pub size_not : (xs : List ℤ) (i t m : ℕ) → i < length xs → t ≡ size (take i xs) → ¬ (t + unsigned_abs (get_or xs i (pos 0)) < m) → ¬ (size xs < m)
size_not xs i t m h e n k = n (omega (arith, e, size_more xs i h, size_front (i + 1) xs))

pub size_end : (xs : List ℤ) (i t m : ℕ) → length xs ≤ i → t ≡ size (take i xs) → t < m → (size xs < m) × (t ≡ size xs)
size_end xs i t m h e l = let a = ap size (take_all i xs h) in (omega (arith, e, a), e ∙ a)

pub within_weaker : (v w : ℕ) (xs : List ℤ) → v ≤ w → Within v xs → Within w xs
within_weaker v w [] h k = tt
within_weaker v w (x ∷ xs) h k = let a = k.0 in (omega (arith, a), within_weaker v w xs h k.1)

within-append : (w : ℕ) (xs : List ℤ) (x : ℤ) → Within w xs → unsigned_abs x ≤ w → Within w (xs ++ x ∷ [])
within-append w [] x h k = (k, tt)
within-append w (y ∷ xs) x h k = (h.0, within-append w xs x h.1 k)

pub within_more : (v w : ℕ) (xs : List ℤ) (i : ℕ) → i < length xs → Within v (take i xs) → v ≤ w → unsigned_abs (get_or xs i (pos 0)) ≤ w → Within w (take (i + 1) xs)
within_more v w xs i h k l m = rw (take_more xs i (pos 0)) (within-append w (take i xs) (get_or xs i (pos 0)) (within_weaker v w (take i xs) l k) m)

within_front : (w : ℕ) (xs : List ℤ) (x : ℤ) → Within w (xs ++ x ∷ []) → Within w xs × (unsigned_abs x ≤ w)
within_front w [] x h = (tt, h.0)
within_front w (y ∷ xs) x h = let k = within_front w xs x h.1 in ((h.0, k.0), k.1)

pub within_less : (w : ℕ) (xs : List ℤ) (i : ℕ) → i < length xs → Within w (take (i + 1) xs) → Within w (take i xs) × (unsigned_abs (get_or xs i (pos 0)) ≤ w)
within_less w xs i h k = within_front w (take i xs) (get_or xs i (pos 0)) (subst (Within w) (take_more xs i (pos 0) h) k)

pub within_at : (w : ℕ) (xs : List ℤ) (i : ℕ) → i < length xs → Within w xs → unsigned_abs (get_or xs i (pos 0)) ≤ w
within_at w [] i h k = absurd (omega arith)
within_at w (x ∷ xs) zero h k = k.0
within_at w (x ∷ xs) (suc i) h k = within_at w xs i (omega arith) k.1

-- one place of p x - f y, over plain numbers
step_below : (m p u f v x y a b d : ℕ) → p * u + f * v < m → x ≤ u → y ≤ v → a ≡ p * x → b ≡ f * y → d ≤ a + b → (a < m) × (b < m) × (d < m)
step_below m p u f v x y a b d h k l e g n =
    let q = mul_le p x u k in let r = mul_le f y v l in
    (omega arith, omega arith, omega arith)

pub place_below : (m u v : ℕ) (p f x y : ℤ) → unsigned_abs p * u + unsigned_abs f * v < m → unsigned_abs x ≤ u → unsigned_abs y ≤ v
    → (unsigned_abs (p *ℤ x) < m) × (unsigned_abs (f *ℤ y) < m) × (unsigned_abs (p *ℤ x -ℤ f *ℤ y) < m)
place_below m u v p f x y h k l =
    step_below m (unsigned_abs p) u (unsigned_abs f) v (unsigned_abs x) (unsigned_abs y) _ _ _ h k l (unsigned_abs-mul p x) (unsigned_abs-mul f y) (abs_sub (p *ℤ x) (f *ℤ y))

-- one bound, and each number of p x - f y fits
pub step_fits : (p f : ℤ) (xs ys : List ℤ) → StepRoom (2 ^ 127) p f xs ys → FitsEliminated p f xs ys
unfolding FitsEliminated
step_fits p f [] ys r = tt
step_fits p f (x ∷ xs) [] r = tt
step_fits p f (x ∷ xs) (y ∷ ys) r = (place_below (2 ^ 127) r.0 r.1 p f x y r.4 r.2.0 r.3.0, step_fits p f xs ys (r.0, r.1, r.2.1, r.3.1, r.4))

-- a place of a loop that rewrites a row
pub off_below : (p f : ℤ) (old by now : List ℤ) (i : ℕ) (e : length old ≡ length by) (lt : i < length old) (is : now ≡ eliminated p f (take i old) (take i by) ++ drop i old) (m : ℕ) → StepRoom m p f old by
    → (unsigned_abs (p *ℤ get_or now i (pos 0)) < m) × (unsigned_abs (f *ℤ get_or by i (pos 0)) < m) × (unsigned_abs (p *ℤ get_or now i (pos 0) -ℤ f *ℤ get_or by i (pos 0)) < m)
off_below p f old by now i e lt is m r =
    subst (λ x. (unsigned_abs (p *ℤ x) < m) × (unsigned_abs (f *ℤ get_or by i (pos 0)) < m) × (unsigned_abs (p *ℤ x -ℤ f *ℤ get_or by i (pos 0)) < m)) (sym (off_read p f old by now i e lt is))
    (place_below m r.0 r.1 p f (get_or old i (pos 0)) (get_or by i (pos 0)) r.4 (within_at r.0 old i lt r.2) (within_at r.1 by i (omega arith) r.3))

pub off_all : (p f : ℤ) (old by now : List ℤ) (i : ℕ) → length old ≡ length by → length old ≤ i → now ≡ eliminated p f (take i old) (take i by) ++ drop i old → now ≡ eliminated p f old by
off_all p f old by now i e le is =
    let o = take_all i old le in let b = take_all i by (omega arith) in
    is ∙ ap₂ (λ a c. a ++ c) (ap₂ (eliminated p f) o b) (drop_of_length-le old le) ∙ append-nil (eliminated p f old by)

-- what is written behind the bound fits
pub behind_fits : (p f : ℤ) (old by now : List ℤ) → StepRoom (2 ^ 127) p f old by → now ≡ eliminated p f old by → FitsEliminated p f old by × (now ≡ eliminated p f old by) × AllFit now
behind_fits p f old by now r e = let h = step_fits p f old by r in (h, e, subst AllFit (sym e) (fits-eliminated p f old by h))

-- the same in 64 bits
pub narrow_at : (p f : ℤ) (old by now : List ℤ) (i : ℕ) (e : length old ≡ length by) (lt : i < length old) (is : now ≡ eliminated p f (take i old) (take i by) ++ drop i old) → NarrowStepRoom p f old by
    → (unsigned_abs (get_or now i (pos 0)) < 2 ^ 62) × (unsigned_abs (get_or by i (pos 0)) < 2 ^ 62) × (unsigned_abs (p *ℤ get_or now i (pos 0)) < 2 ^ 62) × (unsigned_abs (f *ℤ get_or by i (pos 0)) < 2 ^ 62)
narrow_at p f old by now i e lt is (u, v, hu, hv, (hp, hf, ku, kv, h)) =
    let b = off_below p f old by now i e lt is (2 ^ 62) (u, v, hu, hv, h) in
    let y = within_at v by i (omega arith) hv in
    let x = within_at u old i lt hu in (
      subst (λ z. unsigned_abs z < 2 ^ 62) (sym (off_read p f old by now i e lt is)) (omega (arith, x, ku)),
      omega (arith, y, kv),
      b.0,
      b.1,
    )

pub step_wider : (p f : ℤ) (xs ys : List ℤ) → NarrowStepRoom p f xs ys → StepRoom (2 ^ 127) p f xs ys
step_wider p f xs ys (u, v, hu, hv, (hp, hf, ku, kv, h)) = (u, v, hu, hv, below (unsigned_abs p * u) (unsigned_abs f * v) h)
  where
    below : (a b : ℕ) → a + b < 2 ^ 62 → a + b < 2 ^ 127
    below a b h = omega (arith, h)

pub within_entry : (w : ℕ) (xs : List ℤ) (e : ℕ) → Within w xs → unsigned_abs (at xs e) ≤ w
within_entry w [] e h = omega arith
within_entry w (x ∷ xs) zero h = h.0
within_entry w (x ∷ xs) (suc e) h = within_entry w xs e h.1
