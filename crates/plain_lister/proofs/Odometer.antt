-- the step from a choice to the next one in cell order
use Rattle.std.proofs.Common.{◌≡◌, ◌⊎◌, inl, inr, ℕ, zero, suc, ◌+◌, ◌*◌, ◌-◌, ◌<◌, ◌≤◌, List, [], ◌∷◌, ◌++◌, length, take, drop, get_or, arith, refl, sym, ap, ap₂, subst}
use Rattle.cayley.specs.Cells.{Cell, IsLess}
use Rattle.plain_lister.specs.Choices.{HavePairs}
use Rattle.plain_lister.specs.Order.{Pair, IsPair, IsPairLess, IsNextPair, IsLastPair, IsChoice, IsFirst, IsLast, IsNext, firsts, room, pair_left, left_after}

same_pair : (x y : Pair) → x.0 ≡ y.0 → x.1 ≡ y.1 → x ≡ y
same_pair x y p q = ap₂ (λ (a b : ℕ). let z : Pair = (a, b) in z) p q

-- the first pair decides, or the rest where the first pairs are equal
less_to : (x y : Pair) (c d : Cell) → IsLess (x ∷ c) (y ∷ d) → IsPairLess x y ⊎ ((x ≡ y) × IsLess c d)
less_to x y c d (inl h) = inl (inl h)
less_to x y c d (inr h) = elim h.1 [ inl k ↦ inl (inr (h.0, k)) | inr k ↦ inr (same_pair x y h.0 k.0, k.1) ]

less_first : (x y : Pair) (c d : Cell) → IsPairLess x y → IsLess (x ∷ c) (y ∷ d)
less_first x y c d (inl h) = inl h
less_first x y c d (inr h) = inr (h.0, inl h.1)

less_rest : (x : Pair) (c d : Cell) → IsLess c d → IsLess (x ∷ c) (x ∷ d)
less_rest x c d h = inr (refl, inr (refl, h))

pub less_or_same : (a b : ℕ) → a ≤ b → (a < b) ⊎ (a ≡ b)
less_or_same zero zero h = inr refl
less_or_same zero (suc b) h = inl (omega arith)
less_or_same (suc a) zero h = absurd (omega arith)
less_or_same (suc a) (suc b) h = elim (less_or_same a b (omega arith)) [ inl k ↦ inl (omega arith) | inr k ↦ inr (ap suc k) ]

head_of : (x y : Pair) (c d : Cell) → x ∷ c ≡ y ∷ d → x ≡ y
head_of x y c d e = same_pair x y (ap (λ l. (get_or l 0 x).0) e) (ap (λ l. (get_or l 0 x).1) e)

tail_of : (x y : Pair) (c d : Cell) → x ∷ c ≡ y ∷ d → c ≡ d
tail_of x y c d e = ap (drop 1) e

next_tail : (m : ℕ) (counts : List ℕ) (x : Pair) (cell next : Cell) → IsNext counts cell next → IsNext (m ∷ counts) (x ∷ cell) (x ∷ next)
next_tail m counts x cell next n [] c = absurd c
next_tail m counts x cell next n (y ∷ other) c = (
  (λ h. elim (less_to y x other next h) [
    | inl k ↦ inl (less_first y x other cell k)
    | inr k ↦ elim ((n other c.1).0 k.1) [
      | inl l ↦ inl (subst (λ z. IsLess (z ∷ other) (x ∷ cell)) (sym k.0) (less_rest x other cell l))
      | inr l ↦ inr (ap₂ (λ a b. a ∷ b) k.0 l)
    ]
  ]),
  (λ h. elim h [
    | inl k ↦ elim (less_to y x other cell k) [
      | inl l ↦ less_first y x other next l
      | inr l ↦ subst (λ z. IsLess (z ∷ other) (x ∷ next)) (sym l.0) (less_rest x other next ((n other c.1).1 (inl l.1)))
    ]
    | inr e ↦ subst (λ z. IsLess (z ∷ other) (x ∷ next)) (sym (head_of y x other cell e)) (less_rest x other next ((n other c.1).1 (inr (tail_of y x other cell e))))
  ]),
)

next_head : (m : ℕ) (counts : List ℕ) (x q : Pair) (cell start : Cell) → IsNextPair m x q → IsLast counts cell → IsFirst counts start → IsNext (m ∷ counts) (x ∷ cell) (q ∷ start)
next_head m counts x q cell start n last first [] c = absurd c
next_head m counts x q cell start n last first (y ∷ other) c = (
  (λ h. elim (less_to y q other start h) [
    | inl k ↦ elim ((n.1 y c.0).0 k) [
      | inl l ↦ inl (less_first y x other cell l)
      | inr l ↦ elim (last other c.1) [
        | inl i ↦ inl (subst (λ z. IsLess (z ∷ other) (x ∷ cell)) (sym l) (less_rest x other cell i))
        | inr i ↦ inr (ap₂ (λ a b. a ∷ b) l i)
      ]
    ]
    | inr k ↦ absurd (first other c.1 k.1)
  ]),
  (λ h. elim h [
    | inl k ↦ elim (less_to y x other cell k) [
      | inl l ↦ less_first y q other start ((n.1 y c.0).1 (inl l))
      | inr l ↦ less_first y q other start ((n.1 y c.0).1 (inr l.0))
    ]
    | inr e ↦ less_first y q other start ((n.1 y c.0).1 (inr (head_of y x other cell e)))
  ]),
)

last_more : (m : ℕ) (counts : List ℕ) (x : Pair) (cell : Cell) → IsLastPair m x → IsLast counts cell → IsLast (m ∷ counts) (x ∷ cell)
last_more m counts x cell l last [] c = absurd c
last_more m counts x cell l last (y ∷ other) c = elim (l y c.0) [
  | inl k ↦ inl (less_first y x other cell k)
  | inr k ↦ elim (last other c.1) [
    | inl i ↦ inl (subst (λ z. IsLess (z ∷ other) (x ∷ cell)) (sym k) (less_rest x other cell i))
    | inr i ↦ inr (ap₂ (λ a b. a ∷ b) k i)
  ]
]

pub last_none : IsLast [] []
last_none [] c = inr refl
last_none (x ∷ other) c = absurd c

pub first_is : (counts : List ℕ) → IsFirst counts (firsts counts)
first_is [] other c h = h
first_is (m ∷ counts) [] c h = c
first_is (m ∷ counts) (y ∷ other) c h = elim (less_to y (1, 2) other (firsts counts) h) [
  | inl k ↦ below y c.0 k
  | inr k ↦ first_is counts other c.1 k.1
]
  where
    below : (y : Pair) → IsPair m y → IsPairLess y (1, 2) → ⊥
    below y p (inl k) = let a = p.0 in omega arith
    below y p (inr k) = let a = k.0 in let b = k.1 in let d = p.1 in omega arith

pub firsts_choice : (counts : List ℕ) → HavePairs counts → IsChoice counts (firsts counts)
firsts_choice [] h = tt
firsts_choice (m ∷ counts) h = ((omega arith, omega arith, h.0), firsts_choice counts h.1)

pub have_pairs : (counts : List ℕ) (cell : Cell) → IsChoice counts cell → HavePairs counts
have_pairs [] cell c = tt
have_pairs (m ∷ counts) [] c = absurd c
have_pairs (m ∷ counts) (x ∷ cell) c = (let a = c.0.0 in let b = c.0.1 in let d = c.0.2 in omega arith, have_pairs counts cell c.1)

-- steps between pairs
module _ (m : ℕ) (x : Pair) (p : IsPair m x) where
  pub next_second : x.1 < m → IsNextPair m x (x.0, x.1 + 1)
  next_second h = (
    (p.0, (let a = p.1 in omega arith), omega arith),
    λ z pz. (
      (λ l. elim l [
        | inl k ↦ inl (inl k)
        | inr k ↦ let e = k.0 in let f = k.1 in within z e (omega arith)
      ]),
      (λ l. elim l [
        | inl k ↦ elim k [ inl i ↦ inl i | inr i ↦ let e = i.1 in inr (i.0, omega arith) ]
        | inr e ↦ let f = ap (λ (y : Pair). y.1) e in inr (ap (λ (y : Pair). y.0) e, omega arith)
      ]),
    ),
  )
    where
      within : (z : Pair) → z.0 ≡ x.0 → z.1 ≤ x.1 → IsPairLess z x ⊎ (z ≡ x)
      within z e f = elim (less_or_same z.1 x.1 f) [ inl k ↦ inl (inr (e, k)) | inr k ↦ inr (same_pair z x e k) ]

  pub next_first : m ≤ x.1 → x.0 + 1 < m → IsNextPair m x (x.0 + 1, x.0 + 2)
  next_first f h = (
    (omega arith, omega arith, omega arith),
    λ z pz. (
      (λ l. elim l [
        | inl k ↦ below z pz (omega arith)
        | inr k ↦ absurd (let e = k.0 in let g = k.1 in let i = pz.1 in omega arith)
      ]),
      (λ l. elim l [
        | inl k ↦ elim k [ inl i ↦ inl (omega arith) | inr i ↦ let e = i.0 in inl (omega arith) ]
        | inr e ↦ let g = ap (λ (y : Pair). y.0) e in inl (omega arith)
      ]),
    ),
  )
    where
      below : (z : Pair) → IsPair m z → z.0 ≤ x.0 → IsPairLess z x ⊎ (z ≡ x)
      below z pz e = elim (less_or_same z.0 x.0 e) [
        | inl k ↦ inl (inl k)
        | inr k ↦ elim (less_or_same z.1 x.1 (let g = pz.2 in omega arith)) [ inl i ↦ inl (inr (k, i)) | inr i ↦ inr (same_pair z x k i) ]
      ]

  pub no_next : m ≤ x.1 → m ≤ x.0 + 1 → IsLastPair m x
  no_next f h z pz =
      elim (less_or_same z.0 x.0 (let g = pz.1 in let i = pz.2 in omega arith)) [
        | inl k ↦ inl (inl k)
        | inr k ↦ elim (less_or_same z.1 x.1 (let g = pz.2 in omega arith)) [ inl i ↦ inl (inr (k, i)) | inr i ↦ inr (same_pair z x k i) ]
      ]

  pub left_second : x.1 < m → pair_left m (x.0, x.1 + 1) < pair_left m x
  left_second h = omega arith

  pub left_first : m ≤ x.1 → x.0 + 1 < m → pair_left m (x.0 + 1, x.0 + 2) < pair_left m x
  left_first f h =
      let k = m - (x.0 + 1) in
      let e : m - x.0 ≡ k + 1 = omega arith in
      step (m - (x.0 + 1)) (m - x.0) m (m - (x.0 + 2)) (m - x.1) e (let a = p.0 in omega arith)
    where
      step : (k l m r s : ℕ) → l ≡ k + 1 → r < m → k * m + r < l * m + s
      step k l m r s e h = rw e (omega arith)

-- the number that falls stays below its bound
pub left_below : (counts : List ℕ) (cell : Cell) → IsChoice counts cell → left_after counts cell < room counts
left_below [] [] c = omega arith
left_below [] (x ∷ cell) c = absurd c
left_below (m ∷ counts) [] c = absurd c
left_below (m ∷ counts) (x ∷ cell) c = step (pair_left m x) (m * m) (room counts) (left_after counts cell) (own m x c.0) (left_below counts cell c.1)
  where
    step : (k s t l : ℕ) → k < s → l < t → k * t + l < s * t
    step k s t l h i = let r = s - suc k in let e : s ≡ suc k + r = omega arith in rw e (omega arith)

    inner : (k m r : ℕ) → suc k ≡ m → r < m → k * m + r < m * m
    inner k m r e h = let f : m * m ≡ suc k * m = ap (λ n. n * m) (sym e) in omega (arith, f)

    own : (m : ℕ) (x : Pair) → IsPair m x → pair_left m x < m * m
    own m x p = bound (m - x.0) (m - 1) m (m - x.1) (let a = p.0 in omega arith) (let a = p.0 in let b = p.1 in let d = p.2 in omega arith) (let b = p.1 in let d = p.2 in omega arith)
      where
        bound : (j k m r : ℕ) → j ≤ k → suc k ≡ m → r < m → j * m + r < m * m
        bound j k m r a b d = let i = k - j in let e : k ≡ j + i = omega arith in let h = inner k m r b d in let f : k * m ≡ (j + i) * m = ap (λ n. n * m) e in omega (arith, h, f)

-- where the pair at a place has a next one and those after it are the last ones, the next choice
pub next_at : (i : ℕ) (counts : List ℕ) (old : Cell) (q d : Pair) → i < length counts → IsChoice counts old → IsNextPair (get_or counts i 0) (get_or old i d) q
    → IsLast (drop (suc i) counts) (drop (suc i) old) → IsNext counts old (take i old ++ (q ∷ firsts (drop (suc i) counts)))
next_at i [] old q d lt c n last = absurd (omega arith)
next_at i (m ∷ counts) [] q d lt c n last = absurd c
next_at zero (m ∷ counts) (x ∷ old) q d lt c n last = next_head m counts x q old (firsts counts) n last (first_is counts)
next_at (suc i) (m ∷ counts) (x ∷ old) q d lt c n last = next_tail m counts x old _ (next_at i counts old q d (omega arith) c.1 n last)

pub choice_at : (i : ℕ) (counts : List ℕ) (old : Cell) (q : Pair) → i < length counts → IsChoice counts old → IsPair (get_or counts i 0) q
    → IsChoice counts (take i old ++ (q ∷ firsts (drop (suc i) counts)))
choice_at i [] old q lt c p = absurd (omega arith)
choice_at i (m ∷ counts) [] q lt c p = absurd c
choice_at zero (m ∷ counts) (x ∷ old) q lt c p = (p, firsts_choice counts (have_pairs counts old c.1))
choice_at (suc i) (m ∷ counts) (x ∷ old) q lt c p = (c.0, choice_at i counts old q (omega arith) c.1 p)

pub left_at : (i : ℕ) (counts : List ℕ) (old : Cell) (q d : Pair) → i < length counts → IsChoice counts old → pair_left (get_or counts i 0) q < pair_left (get_or counts i 0) (get_or old i d)
    → left_after counts (take i old ++ (q ∷ firsts (drop (suc i) counts))) < left_after counts old
left_at i [] old q d lt c h = absurd (omega arith)
left_at i (m ∷ counts) [] q d lt c h = absurd c
left_at zero (m ∷ counts) (x ∷ old) q d lt c h =
    step (pair_left m q) (pair_left m x) (room counts) (left_after counts (firsts counts)) (left_after counts old) h (left_below counts (firsts counts) (firsts_choice counts (have_pairs counts old c.1)))
  where
    step : (k l t a b : ℕ) → k < l → a < t → k * t + a < l * t + b
    step k l t a b h i = let r = l - suc k in let e : l ≡ suc k + r = omega arith in rw e (omega arith)
left_at (suc i) (m ∷ counts) (x ∷ old) q d lt c h = let r = left_at i counts old q d (omega arith) c.1 h in omega (arith, r)

pub pair_at : (i : ℕ) (counts : List ℕ) (old : Cell) (d : Pair) → i < length counts → IsChoice counts old → IsPair (get_or counts i 0) (get_or old i d)
pair_at i [] old d lt c = absurd (omega arith)
pair_at i (m ∷ counts) [] d lt c = absurd c
pair_at zero (m ∷ counts) (x ∷ old) d lt c = c.0
pair_at (suc i) (m ∷ counts) (x ∷ old) d lt c = pair_at i counts old d (omega arith) c.1

pub last_at : (i : ℕ) (counts : List ℕ) (old : Cell) (d : Pair) → i < length counts → IsChoice counts old → IsLastPair (get_or counts i 0) (get_or old i d)
    → IsLast (drop (suc i) counts) (drop (suc i) old) → IsLast (drop i counts) (drop i old)
last_at i [] old d lt c l last = absurd (omega arith)
last_at i (m ∷ counts) [] d lt c l last = absurd c
last_at zero (m ∷ counts) (x ∷ old) d lt c l last = last_more m counts x old l last
last_at (suc i) (m ∷ counts) (x ∷ old) d lt c l last = last_at i counts old d (omega arith) c.1 l last

pub length-choice : (counts : List ℕ) (cell : Cell) → IsChoice counts cell → length counts ≡ length cell
length-choice [] [] c = refl
length-choice [] (x ∷ cell) c = absurd c
length-choice (m ∷ counts) [] c = absurd c
length-choice (m ∷ counts) (x ∷ cell) c = ap suc (length-choice counts cell c.1)
