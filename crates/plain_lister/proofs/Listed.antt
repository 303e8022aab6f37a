-- the pairs in order: each is the next of the one before, and then comes none
use Rattle.std.proofs.Common.{◌≡◌, ℕ, zero, suc, ◌+◌, ◌-◌, ◌<◌, ◌≤◌, List, [], ◌∷◌, ◌++◌, length, map, flat_map, get_or, arith, sym, ap, subst, ◌∙◌}
use Rattle.std.specs.List.{range_with_len}
use Rattle.plain_lister.specs.Order.{Pair, IsPair, IsNextPair, IsLastPair, pair_left, all_pairs}
use Rattle.plain_lister.proofs.Odometer.{next_second, next_first, no_next, left_second, left_first}

abbrev row : ℕ → ℕ → List Pair
row m a = map (λ b. (a, b)) (range_with_len (a + 1) (m - a))

abbrev Steps : ℕ → Pair → Pair → Type 0
Steps m x y = IsNextPair m x y × (pair_left m y < pair_left m x)

-- these pairs come after x
abbrev Follow : ℕ → Pair → List Pair → Type 0
Follow m x [] = IsLastPair m x
Follow m x (y ∷ ys) = Steps m x y × Follow m y ys

along_row : (m a b k : ℕ) (rest : List Pair) → 1 ≤ a → a < b → b + k ≡ m → Follow m (a, m) rest → Follow m (a, b) (map (λ c. (a, c)) (range_with_len (b + 1) k) ++ rest)
along_row m a b zero rest p q e f = let i : m ≡ b = omega arith in subst (λ n. Follow m (a, n) rest) i f
along_row m a b (suc k) rest p q e f =
    let x : Pair = (a, b) in
    let is : IsPair m x = (p, q, omega arith) in
    let below : b < m = omega arith in
    ((next_second m x is below, left_second m x is below), along_row m a (b + 1) k rest p (omega arith) (omega arith) f)

along_rows : (m a k : ℕ) → 1 ≤ a → a + k + 1 ≡ m → Follow m (a, m) (flat_map (row m) (range_with_len (a + 1) k))
along_rows m a zero p e = no_next m (a, m) (p, omega arith, omega arith) (omega arith) (omega arith)
along_rows m a (suc k) p e =
    let x : Pair = (a, m) in
    let is : IsPair m x = (p, omega arith, omega arith) in
    let whole : m ≤ m = omega arith in
    let below : a + 1 < m = omega arith in
    let n : m - (a + 1) ≡ suc k = omega arith in
    let two : a + 2 ≡ a + 1 + 1 = omega arith in
    rw (n, sym two) ((next_first m x is whole below, left_first m x is whole below), along_row m (a + 1) (a + 2) k (flat_map (row m) (range_with_len (a + 2) k)) (omega arith) (omega arith) (omega arith) (subst (λ b. Follow m (a + 1, m) (flat_map (row m) (range_with_len b k))) (sym two) (along_rows m (a + 1) k (omega arith) (omega arith))))

-- the first pair, and those that follow it
abbrev after_first : ℕ → List Pair
after_first j = map (λ b. (1, b)) (range_with_len (2 + 1) j) ++ flat_map (row (suc (suc j))) (range_with_len (1 + 1) j)

all_follow : (j : ℕ) → (all_pairs (suc (suc j)) ≡ (1, 2) ∷ after_first j) × Follow (suc (suc j)) (1, 2) (after_first j)
all_follow j =
    let e : suc (suc j) - 1 ≡ suc j = omega arith in
    (ap (λ k. flat_map (row (suc (suc j))) (range_with_len 1 k)) e ∙ ap (λ l. l ++ flat_map (row (suc (suc j))) (range_with_len 2 j)) (ap (λ k. map (λ (b : ℕ). let z : Pair = (1, b) in z) (range_with_len 2 k)) e), along_row (suc (suc j)) 1 2 j _ (omega arith) (omega arith) (omega arith) (along_rows (suc (suc j)) 1 j (omega arith) (omega arith)))

step_at : (m : ℕ) (x : Pair) (xs : List Pair) (k : ℕ) (d : Pair) → Follow m x xs → k < length xs → Steps m (get_or (x ∷ xs) k d) (get_or xs k d)
step_at m x [] k d f l = absurd (omega arith)
step_at m x (y ∷ ys) zero d f l = f.0
step_at m x (y ∷ ys) (suc k) d f l = step_at m y ys k d f.1 (omega arith)

last_at : (m : ℕ) (x : Pair) (xs : List Pair) (d : Pair) → Follow m x xs → IsLastPair m (get_or (x ∷ xs) (length xs) d)
last_at m x [] d f = f
last_at m x (y ∷ ys) d f = last_at m y ys d f.1

-- at a place of the list
module _ (m k : ℕ) (least : 2 ≤ m) (d : Pair) where
  pub next_listed : k + 1 < length (all_pairs m) → IsNextPair m (get_or (all_pairs m) k d) (get_or (all_pairs m) (k + 1) d) × (pair_left m (get_or (all_pairs m) (k + 1) d) < pair_left m (get_or (all_pairs m) k d))
  next_listed l = go m least l
    where
      go : (m : ℕ) → 2 ≤ m → k + 1 < length (all_pairs m) → Steps m (get_or (all_pairs m) k d) (get_or (all_pairs m) (k + 1) d)
      go zero h l = absurd (omega arith)
      go (suc zero) h l = absurd (omega arith)
      go (suc (suc j)) h l =
          let a = all_follow j in
          let e : k + 1 ≡ suc k = omega arith in
          let f = ap length a.0 in
          rw (a.0, e) (step_at (suc (suc j)) (1, 2) (after_first j) k d a.1 (omega arith))

  pub last_listed : k + 1 ≡ length (all_pairs m) → IsLastPair m (get_or (all_pairs m) k d)
  last_listed l = go m least l
    where
      go : (m : ℕ) → 2 ≤ m → k + 1 ≡ length (all_pairs m) → IsLastPair m (get_or (all_pairs m) k d)
      go zero h l = absurd (omega arith)
      go (suc zero) h l = absurd (omega arith)
      go (suc (suc j)) h l =
          let a = all_follow j in
          let f = ap length a.0 in
          let e : k ≡ length (after_first j) = omega arith in
          rw (a.0, e) (last_at (suc (suc j)) (1, 2) (after_first j) d a.1)

  pub first_listed : get_or (all_pairs m) 0 d ≡ (1, 2)
  first_listed = go m least
    where
      go : (m : ℕ) → 2 ≤ m → get_or (all_pairs m) 0 d ≡ (1, 2)
      go zero h = absurd (omega arith)
      go (suc zero) h = absurd (omega arith)
      go (suc (suc j)) h = ap (λ l. get_or l 0 d) (all_follow j).0
