-- combinations that are divided column by column
use Rattle.std.proofs.Common.{◌≡◌, ℕ, zero, suc, ◌+◌, ◌-◌, ◌*◌, ◌/◌, ◌^◌, ◌<◌, ◌≤◌, unsigned_abs, ℤ, pos, ◌*ℤ◌, ◌<ℤ◌, List, [], ◌∷◌, ◌++◌, length, map, get_or, take, drop, set, arith, refl, sym, ap, ap₂, subst, ◌∙◌, take_all, length-take}
use Prim.Native.Nat.{◌∣◌}
use Rattle.std.proofs.Math.Nat.{le-div_iff_mul-le, mul-div-le}
use Rattle.std.proofs.lemmas.Int.{unsigned_abs-mul}
use Rattle.std.proofs.lemmas.List.{take-append-le, take-set, length-map}
use Rattle.std.proofs.lemmas.Nat.Gcd.{dvd_trans, dvd_refl}
use Rattle.std.specs.Int.{IsGcd}
use Rattle.wide_int.proofs.Ring.{as_D, Ds, same_D}
use Rattle.wide_int.proofs.Signed.{abs_positive}
use Rattle.int_vectors.specs.Bounds.{Within, StepRoom}
use Rattle.int_vectors.specs.Contents.{DividesEach}
use Rattle.int_vectors.specs.RowSteps.{eliminated}
use Rattle.int_vectors.specs.Vectors.{Each, scale}
use Rattle.int_vectors.proofs.BoundRows.{place_below}
use Rattle.int_vectors.proofs.BoundSums.{mul_le}
use Rattle.int_vectors.proofs.Entries.{length-scale}
use Rattle.carried_inverse.specs.Exchanges.{combined, IsDivisorOf, IsDividedTo, HasRoom}
use Rattle.carried_inverse.proofs.ColumnSteps.{step_room, quotients_more, lowest_found}

scale_twice : (a b : ℤ) (xs : List ℤ) → scale a (scale b xs) ≡ scale (a *ℤ b) xs
scale_twice a b [] = refl
scale_twice a b (x ∷ xs) = ap₂ (λ z l. z ∷ l) (ring a b x) (scale_twice a b xs)
  where
    ring : (a b x : ℤ) → a *ℤ (b *ℤ x) ≡ (a *ℤ b) *ℤ x
    ring a b x = rw (as_D a, as_D b, as_D x) (simp Ds (same_D _ _ _ _ (omega arith)))

scale_all : (a b : ℤ) (xs : List (List ℤ)) → map (scale a) (map (scale b) xs) ≡ map (scale (a *ℤ b)) xs
scale_all a b [] = refl
scale_all a b (x ∷ xs) = ap₂ (λ (z : List ℤ) (l : List (List ℤ)). z ∷ l) (scale_twice a b x) (scale_all a b xs)

-- the columns in front multiplied
pub multiplied_long : (n k : ℕ) (f : ℤ) (xs : List (List ℤ)) → Each xs (λ x. length x ≡ n) → Each (map (scale f) (take k xs) ++ drop k xs) (λ x. length x ≡ n)
multiplied_long n zero f xs h = h
multiplied_long n (suc k) f [] h = tt
multiplied_long n (suc k) f (x ∷ xs) h = (length-scale f x ∙ h.0, multiplied_long n k f xs h.1)

pub multiplied_count : (k : ℕ) (f : ℤ) (xs : List (List ℤ)) → length (map (scale f) (take k xs) ++ drop k xs) ≡ length xs
multiplied_count zero f xs = refl
multiplied_count (suc k) f [] = refl
multiplied_count (suc k) f (x ∷ xs) = ap suc (multiplied_count k f xs)

pub multiplied_front : (k : ℕ) (f : ℤ) (old now : List (List ℤ)) → k ≤ length old → now ≡ map (scale f) (take k old) ++ drop k old → take k now ≡ map (scale f) (take k old)
multiplied_front k f old now le e =
    let l : length (map (scale f) (take k old)) ≡ k = length-map (take k old) (scale f) ∙ omega (arith, length-take k old, le) in
    ap (take k) e ∙ take-append-le k (map (scale f) (take k old)) (drop k old) (omega (arith, l)) ∙ take_all k (map (scale f) (take k old)) (omega (arith, l))

pub front_at : (w k i : ℕ) (d : List ℤ) (xs : List (List ℤ)) → i < k → i < length xs → Each (take k xs) (Within w) → Within w (get_or xs i d)
front_at w zero i d xs a b h = absurd (omega (arith, a))
front_at w (suc k) i d [] a b h = absurd (omega (arith, b))
front_at w (suc k) zero d (x ∷ xs) a b h = h.0
front_at w (suc k) (suc i) d (x ∷ xs) a b h = front_at w k i d xs (omega (arith, a)) (omega (arith, b)) h.1

-- bounds
eliminated_within : (p f : ℤ) (xs ys : List ℤ) → StepRoom (2 ^ 62) p f xs ys → Within (2 ^ 62 - 1) (eliminated p f xs ys)
unfolding eliminated
eliminated_within p f [] ys r = tt
eliminated_within p f (x ∷ xs) [] r = tt
eliminated_within p f (x ∷ xs) (y ∷ ys) r =
    (let b = (place_below (2 ^ 62) r.0 r.1 p f x y r.4 r.2.0 r.3.0).2 in omega (arith, b), eliminated_within p f xs ys (r.0, r.1, r.2.1, r.3.1, r.4))

front_within : (k : ℕ) (p : ℤ) (fs : List ℤ) (xs : List (List ℤ)) (by : List ℤ) → length fs ≡ length xs → HasRoom p fs xs by → Each (combined p (take k fs) (take k xs) by) (Within (2 ^ 62 - 1))
unfolding combined
front_within zero p fs xs by e r = tt
front_within (suc k) p [] xs by e r = tt
front_within (suc k) p (f ∷ fs) [] by e r = tt
front_within (suc k) p (f ∷ fs) (x ∷ xs) by e r =
    (eliminated_within p f x by (step_room p (f ∷ fs) (x ∷ xs) by 0 [] e (omega arith) r), front_within k p fs xs by (omega (arith, e)) (r.0, r.1, r.2, r.3, r.4.1, r.5.1, r.6, r.7))

unscaled_within : (g : ℤ) (m : ℕ) (xs : List ℤ) → 0 < unsigned_abs g → Within m (scale g xs) → Within (m / unsigned_abs g) xs
unscaled_within g m [] p h = tt
unscaled_within g m (x ∷ xs) p h =
    ((le-div_iff_mul-le {k = unsigned_abs g} {x = unsigned_abs x} {y = m} p).1 (let e = unsigned_abs-mul g x in let a = h.0 in omega (arith, e, a)), unscaled_within g m xs p h.1)

pub unscaled_all : (g : ℤ) (m : ℕ) (xs : List (List ℤ)) → 0 < unsigned_abs g → Each (map (scale g) xs) (Within m) → Each xs (Within (m / unsigned_abs g))
unscaled_all g m [] p h = tt
unscaled_all g m (x ∷ xs) p h = (unscaled_within g m x p h.0, unscaled_all g m xs p h.1)

module _ (k : ℕ) (start g p : ℤ) (fs : List ℤ) (xs : List (List ℤ)) (by : List ℤ) (made : List (List ℤ)) (v : IsDividedTo k start g p fs xs by made) where
  -- a lesser divisor leaves room for its factor
  pub less_room : (less t : ℤ) → length fs ≡ length xs → HasRoom p fs xs by → pos 0 <ℤ less → less *ℤ t ≡ g → (w : ℕ) × Each (take k made) (Within w) × (unsigned_abs t * w < 2 ^ 62)
  less_room less t e r positive is =
      let above : 0 < unsigned_abs g = abs_positive g v.positive in
      let w = (2 ^ 62 - 1) / unsigned_abs g in (
        w,
        unscaled_all g (2 ^ 62 - 1) (take k made) above (subst (λ (l : List (List ℤ)). Each l (Within (2 ^ 62 - 1))) v.front (front_within k p fs xs by e r)),
        below (unsigned_abs less) (unsigned_abs t) (unsigned_abs g) w (abs_positive less positive) (sym (unsigned_abs-mul less t) ∙ ap unsigned_abs is) (mul-div-le (2 ^ 62 - 1) (unsigned_abs g)),
      )
    where
      below : (l t g w : ℕ) → 0 < l → l * t ≡ g → g * w ≤ 2 ^ 62 - 1 → t * w < 2 ^ 62
      below l t g w a e h =
          let q = mul_le (t * w) 1 l a in
          let s : l * t * w ≡ g * w = ap (λ n. n * w) e in
          omega (arith, q, s, h)

  pub divided_less : (less t : ℤ) (left : ℕ) (now : List (List ℤ)) → pos 0 <ℤ less → IsGcd left (unsigned_abs g) (unsigned_abs less) → ((d : ℕ) → Each (combined p fs xs by) (DividesEach d) → d ∣ left)
      → less *ℤ t ≡ g → take k now ≡ map (scale t) (take k made) → IsDividedTo k start less p fs xs by now
  divided_less less t left now positive gcd all is e = record {
    positive = positive;
    divides = dvd_trans (unsigned_abs less) gcd.1 v.divides;
    greatest = λ d a b. gcd.2 d (all d b) (v.greatest d a b);
    front = v.front ∙ ap (λ z. map (scale z) (take k made)) (sym is) ∙ sym (scale_all less t (take k made)) ∙ ap (map (scale less)) (sym e);
  }

  pub divided_next : (q : List ℤ) (d : List ℤ) → length fs ≡ length xs → k < length xs → length made ≡ length xs → eliminated p (get_or fs k (pos 0)) (get_or xs k d) by ≡ scale g q
      → IsDividedTo (k + 1) start g p fs xs by (set made k q)
  divided_next q d e lt l h = record {
    positive = v.positive;
    divides = v.divides;
    greatest = v.greatest;
    front = quotients_more p g fs xs made by q k d e lt l v.front h;
  }

  pub divided_set : (q : List ℤ) → IsDividedTo k start g p fs xs by (set made k q)
  divided_set q = record {
    positive = v.positive;
    divides = v.divides;
    greatest = v.greatest;
    front = v.front ∙ ap (map (scale g)) (sym (take-set made k q));
  }

  pub divided_all : length fs ≡ length xs → length made ≡ length xs → length xs ≤ k → IsDivisorOf (unsigned_abs start) (combined p fs xs by) (unsigned_abs g) × (combined p fs xs by ≡ map (scale g) made)
  divided_all e l le =
      let whole : combined p fs xs by ≡ map (scale g) made =
      ap₂ (λ a b. combined p a b by) (sym (take_all k fs (omega (arith, e, le)))) (sym (take_all k xs le)) ∙ v.front ∙ ap (map (scale g)) (take_all k made (omega (arith, l, le))) in
      (lowest_found (unsigned_abs start) g (combined p fs xs by) made whole v.divides v.greatest, whole)

pub divided_start : (k : ℕ) (start p : ℤ) (fs : List ℤ) (xs : List (List ℤ)) (by : List ℤ) (made : List (List ℤ)) → pos 0 <ℤ start → combined p (take k fs) (take k xs) by ≡ map (scale start) (take k made) → IsDividedTo k start start p fs xs by made
divided_start k start p fs xs by made a e = record {
  positive = a;
  divides = dvd_refl (unsigned_abs start);
  greatest = λ d b c. b;
  front = e;
}

pub divided_then : (k l : ℕ) (start g h p : ℤ) (fs : List ℤ) (xs : List (List ℤ)) (by : List ℤ) (old made : List (List ℤ)) → IsDividedTo k start g p fs xs by old → IsDividedTo l g h p fs xs by made → IsDividedTo l start h p fs xs by made
divided_then k l start g h p fs xs by old made v w = record {
  positive = w.positive;
  divides = dvd_trans (unsigned_abs h) w.divides v.divides;
  greatest = λ d a b. w.greatest d (v.greatest d a b) b;
  front = w.front;
}
