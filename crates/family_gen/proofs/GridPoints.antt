-- The next point of a grid, and its place among all points.
use Rattle.std.proofs.Common.{◌≡◌, ℕ, zero, suc, ◌+◌, ◌*◌, ◌^◌, ◌<◌, ◌≤◌, inl, inr, Bool, true, false, cond, List, [], ◌∷◌, ◌++◌, length, take, drop, get_or, set, refl, ap, ap₂, sym, ◌∙◌, append_assoc, append-nil, arith, drop-cons}
use Rattle.std.proofs.Math.Seq.{take-suc, set-append_seam, get_or-append_seam}
use Rattle.std.proofs.Math.Nat.{suc-mul, pow-suc, pow-zero, mul_comm, mul-le-mul_right}
use Rattle.std.specs.Prelude.{if◌then◌else◌, ◌==◌, ◌&&◌}
use Rattle.std.proofs.lemmas.Bool.{eqb-true}
use Rattle.std.proofs.lemmas.Bool.Decides.{eqb_tells}
use Rattle.std.proofs.lemmas.List.{length-take-le, drop_all, take_all}
use Rattle.int_vectors.specs.Vectors.{Each}
use Rattle.family_gen.specs.Scatter.{are_all, next}

abbrev pub Within : ℕ → List ℕ → Type 0
Within side xs = Each xs (λ c. c ≤ side)

-- one coordinate more in front
next_some : (side : ℕ) (x y : ℕ) (xs : List ℕ) (rises : Bool) → rises ≡ are_all side xs → y ≡ (if rises then (if x == side then 0 else x + 1) else x) → y ∷ next side xs ≡ next side (x ∷ xs)
unfolding next
next_some side x y xs rises f g = ap (λ (z : ℕ). z ∷ next side xs) (g ∙ ap (λ (b : Bool). if b then (if x == side then 0 else x + 1) else x) f)

-- a walk from the last coordinate to the first
module _ (side : ℕ) (old now : List ℕ) (j : ℕ) (lt : j < length old) (h : now ≡ take (suc j) old ++ next side (drop (suc j) old)) where
  split : now ≡ take j old ++ get_or old j 0 ∷ next side (drop (suc j) old)
  split = h ∙ ap (λ (l : List ℕ). l ++ next side (drop (suc j) old)) (take-suc old j 0 lt) ∙ append_assoc (take j old) (get_or old j 0 ∷ []) (next side (drop (suc j) old))

  front : length (take j old) ≡ j
  front = length-take-le j old (omega arith)

  pub read_back : get_or now j 0 ≡ get_or old j 0
  read_back =
      let seam = get_or-append_seam (take j old) (get_or old j 0) (next side (drop (suc j) old)) 0 in
      ap (λ (l : List ℕ). get_or l j 0) split ∙ ap (λ (i : ℕ). get_or (take j old ++ get_or old j 0 ∷ next side (drop (suc j) old)) i 0) (sym front) ∙ seam

  pub write_back : (y : ℕ) (rises : Bool) → rises ≡ are_all side (drop (suc j) old) → y ≡ (if rises then (if get_or now j 0 == side then 0 else get_or now j 0 + 1) else get_or now j 0) → set now j y ≡ take j old ++ next side (drop j old)
  write_back y rises e g =
      let tail = next side (drop (suc j) old) in
      let seam = set-append_seam (take j old) (get_or old j 0) tail y in
      let value : y ≡ (if rises then (if get_or old j 0 == side then 0 else get_or old j 0 + 1) else get_or old j 0) = g ∙ ap (λ (x : ℕ). if rises then (if x == side then 0 else x + 1) else x) read_back in
      ap (λ (l : List ℕ). set l j y) split ∙ ap (λ (i : ℕ). set (take j old ++ get_or old j 0 ∷ tail) i y) (sym front) ∙ seam
      ∙ ap (λ (l : List ℕ). take j old ++ l) (next_some side (get_or old j 0) y (drop (suc j) old) rises e value ∙ ap (next side) (sym (drop-cons old j 0 lt)))

  pub rises_back : (rises : Bool) → rises ≡ are_all side (drop (suc j) old) → (b : Bool) → b ≡ (get_or now j 0 == side && rises) → b ≡ are_all side (drop j old)
  rises_back rises e b g = g ∙ ap₂ (λ (x : ℕ) (r : Bool). x == side && r) read_back e ∙ ap (are_all side) (sym (drop-cons old j 0 lt))

pub within_at : (side : ℕ) (xs : List ℕ) (j : ℕ) → Within side xs → j < length xs → get_or xs j 0 ≤ side
within_at side [] j h lt = absurd (omega arith)
within_at side (x ∷ xs) zero h lt = h.0
within_at side (x ∷ xs) (suc j) h lt = within_at side xs j h.1 (omega arith)

pub next-length : (side : ℕ) (xs : List ℕ) → length (next side xs) ≡ length xs
unfolding next
next-length side [] = refl
next-length side (x ∷ xs) = ap suc (next-length side xs)

pub next_within : (side : ℕ) (xs : List ℕ) → Within side xs → Within side (next side xs)
unfolding next
next_within side [] h = tt
next_within side (x ∷ xs) h = (by (are_all side xs), next_within side xs h.1)
  where
    inner : (if x == side then 0 else x + 1) ≤ side
    inner = elim (eqb_tells x side) [
      | inl p ↦ rw p.0 (omega arith)
      | inr p ↦ rw p.0 (let l = h.0 in let n = p.1 in omega arith)
    ]

    by : (b : Bool) → (if b then (if x == side then 0 else x + 1) else x) ≤ side
    by true = inner
    by false = h.0

-- the number of a point in the order of all points
abbrev pub rank : ℕ → List ℕ → ℕ
rank side [] = 0
rank side (x ∷ xs) = x * (side + 1) ^ length xs + rank side xs

pub rank_below : (side : ℕ) (xs : List ℕ) → Within side xs → rank side xs < (side + 1) ^ length xs
rank_below side [] h = rw (pow-zero (side + 1)) (omega arith)
rank_below side (x ∷ xs) h =
    let n = (side + 1) ^ length xs in
    let r = rank_below side xs h.1 in
    let whole : (side + 1) ^ suc (length xs) ≡ n * (side + 1) = pow-suc (side + 1) (length xs) in
    let more : (side + 1) * n ≡ side * n + n = ap (λ (k : ℕ). k * n) (suc_is side) ∙ suc-mul side n in
    let bound : x * n ≤ side * n = mul-le-mul_right n h.0 in
    rw whole (rw (mul_comm n (side + 1)) (omega arith))
  where
    suc_is : (k : ℕ) → k + 1 ≡ suc k
    suc_is k = omega arith

-- the arithmetic of a step: the number of the coordinates behind, with whether these were the last, and of the first coordinate
step : (side x n r new : ℕ) (a b : Bool) → new + cond a n 0 ≡ r + 1 → (b ≡ true → x ≡ side)
    → (if a then (if b then 0 else x + 1) else x) * n + new + cond (b && a) (n * (side + 1)) 0 ≡ x * n + r + 1
step side x n r new true true e f = rw (f refl) (omega (arith, more side n, e))
  where
    more : (k n : ℕ) → n * (k + 1) ≡ k * n + n
    more k n = mul_comm n (k + 1) ∙ ap (λ (j : ℕ). j * n) (suc_is k) ∙ suc-mul k n
      where
        suc_is : (k : ℕ) → k + 1 ≡ suc k
        suc_is k = omega arith
step side x n r new true false e f = omega (arith, more x n, e)
  where
    more : (k n : ℕ) → (k + 1) * n ≡ k * n + n
    more k n = ap (λ (j : ℕ). j * n) (suc_is k) ∙ suc-mul k n
      where
        suc_is : (k : ℕ) → k + 1 ≡ suc k
        suc_is k = omega arith
step side x n r new false true e f = omega (arith, e)
step side x n r new false false e f = omega (arith, e)

-- the next point has the next number, and the first point number 0
pub rank-next : (side : ℕ) (xs : List ℕ) → rank side (next side xs) + cond (are_all side xs) ((side + 1) ^ length xs) 0 ≡ rank side xs + 1
unfolding next
rank-next side [] = rw (pow-zero (side + 1)) refl
rank-next side (x ∷ xs) =
    let n = (side + 1) ^ length xs in
    let head = (if are_all side xs then (if x == side then 0 else x + 1) else x) in
    let one = step side x n (rank side xs) (rank side (next side xs)) (are_all side xs) (x == side) (rank-next side xs) (λ t. eqb-true x side t) in
    let size : (side + 1) ^ length (next side xs) ≡ n = ap (λ (k : ℕ). (side + 1) ^ k) (next-length side xs) in
    rw (size, pow-suc (side + 1) (length xs)) one

pub carry_start : (side : ℕ) (xs : List ℕ) → (xs ≡ take (length xs) xs ++ next side (drop (length xs) xs)) × (true ≡ are_all side (drop (length xs) xs))
unfolding next
carry_start side xs =
    let t = take_all (length xs) xs (omega arith) in
    let d = drop_all (length xs) xs (omega arith) in
    (sym (ap₂ (λ (a b : List ℕ). a ++ next side b) t d ∙ append-nil xs), sym (ap (are_all side) d))

pub carry_end : (side : ℕ) (old now : List ℕ) (j : ℕ) → j ≡ 0 → now ≡ take j old ++ next side (drop j old) → now ≡ next side old
carry_end side old now j e h = h ∙ ap (λ (i : ℕ). take i old ++ next side (drop i old)) e
    ∙ by old
  where
    by : (xs : List ℕ) → take 0 xs ++ next side (drop 0 xs) ≡ next side xs
    by [] = refl
    by (x ∷ xs) = refl

-- a vector that is written back whole
pub written_whole : (n : ℕ) (new old : List ℕ) → n ≡ length old → length new ≡ length old → take n (new ++ drop (length new) old) ≡ new
written_whole n new old e f =
    let rest : drop (length new) old ≡ [] = drop_all (length new) old (omega arith) in
    ap₂ (λ (i : ℕ) (l : List ℕ). take i (new ++ l)) (e ∙ sym f) rest ∙ ap (take (length new)) (append-nil new) ∙ take_all (length new) new (omega arith)
