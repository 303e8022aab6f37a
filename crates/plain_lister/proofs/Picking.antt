-- the pairs of positions, as read from the places of a pool of positions
use Rattle.std.proofs.Common.{◌≡◌, refl, sym, ap, ap₂, subst, ◌∙◌, arith, ℕ, zero, suc, ◌+◌, ◌-◌, ◌<◌, ◌≤◌, List, [], ◌∷◌, ◌++◌, map, flat_map, length, append_assoc, get_or, slice_index_or}
use Rattle.std.specs.List.{range_with_len}
use Rattle.std.proofs.lemmas.List.{map-append}
use Rattle.itertools.specs.Odometer.{numbers, ways}
use Rattle.itertools.specs.Pool.{ascending_low, ascending_high, ClonesAt, reads_tuple}
use Rattle.plain_lister.specs.Order.{all_pairs}

-- the positions at two places
abbrev pub places_pair : List ℕ → ℕ × ℕ
places_pair ds = (get_or ds 0 0 + 1, get_or ds 1 0 + 1)

-- all places are below n
abbrev pub Below : ℕ → List ℕ → Type 0
Below n [] = Unit {0}
Below n (d ∷ ds) = (d < n) × Below n ds

-- the places of each list are below n
abbrev pub Inside : ℕ → List (List ℕ) → Type 0
Inside n [] = Unit {0}
Inside n (ds ∷ more) = Below n ds × Inside n more

inside-append : (n : ℕ) (xs ys : List (List ℕ)) → Inside n xs → Inside n ys → Inside n (xs ++ ys)
inside-append n [] ys p q = q
inside-append n (ds ∷ xs) ys p q = (p.0, inside-append n xs ys p.1 q)

-- the ways that begin with d
row_read : (d a k : ℕ) → map places_pair (map (λ ds. d ∷ ds) (flat_map (λ e. map (λ ds. e ∷ ds) ([] ∷ [])) (numbers a k))) ≡ map (λ b. (d + 1, b)) (range_with_len (a + 1) k)
row_read d a zero = refl
row_read d a (suc k) = ap (λ l. (d + 1, a + 1) ∷ l) (row_read d (a + 1) k)

row_inside : (n d a k : ℕ) → d < n → a + k ≤ n → Inside n (map (λ ds. d ∷ ds) (flat_map (λ e. map (λ ds. e ∷ ds) ([] ∷ [])) (numbers a k)))
row_inside n d a zero p q = tt
row_inside n d a (suc k) p q = ((p, (omega arith, tt)), row_inside n d (a + 1) k p (omega arith))

rows_read : (n a k : ℕ) → map places_pair (flat_map (λ d. map (λ ds. d ∷ ds) (ways ascending_low (ascending_high n 2) 1 ([] ++ d ∷ []))) (numbers a k))
    ≡ flat_map (λ a. map (λ b. (a, b)) (range_with_len (a + 1) (n - a))) (range_with_len (a + 1) k)
rows_read n a zero = refl
rows_read n a (suc k) =
    let e : n + 1 + 1 - 2 - (a + 1) ≡ n - (a + 1) = omega arith in
    let row : map places_pair (map (λ ds. a ∷ ds) (ways ascending_low (ascending_high n 2) 1 ([] ++ a ∷ []))) ≡ map (λ b. (a + 1, b)) (range_with_len (a + 1 + 1) (n - (a + 1))) =
    rw (sym e) (row_read a (a + 1) (n + 1 + 1 - 2 - (a + 1))) in
    rw (map-append places_pair (map (λ ds. a ∷ ds) (ways ascending_low (ascending_high n 2) 1 ([] ++ a ∷ []))) _, row, rows_read n (a + 1) k) refl

pub ways_pairs : (n : ℕ) → map places_pair (ways ascending_low (ascending_high n 2) 2 []) ≡ all_pairs n
ways_pairs n =
    let e : n + 1 + 0 - 2 - 0 ≡ n - 1 = omega arith in
    rows_read n 0 (n + 1 + 0 - 2 - 0) ∙ ap (λ k. flat_map (λ a. map (λ b. (a, b)) (range_with_len (a + 1) (n - a))) (range_with_len 1 k)) e

rows_inside : (n a k : ℕ) → a + k ≤ n → Inside n (flat_map (λ d. map (λ ds. d ∷ ds) (ways ascending_low (ascending_high n 2) 1 ([] ++ d ∷ []))) (numbers a k))
rows_inside n a zero p = tt
rows_inside n a (suc k) p = inside-append n (map (λ ds. a ∷ ds) (flat_map (λ e. map (λ ds. e ∷ ds) ([] ∷ [])) (numbers (a + 1) (n + 1 + 1 - 2 - (a + 1))))) _
    (row_inside n a (a + 1) (n + 1 + 1 - 2 - (a + 1)) (omega arith) (omega arith))
    (rows_inside n (a + 1) k (omega arith))

pub all_inside : (n : ℕ) → Inside n (ways ascending_low (ascending_high n 2) 2 [])
all_inside n = rows_inside n 0 (n + 1 + 0 - 2 - 0) (omega arith)

read_number : (a n d v : ℕ) → d < n → slice_index_or (range_with_len a n) d v ≡ a + d
read_number a zero d v l = absurd (omega arith)
read_number a (suc n) zero v l = omega arith
read_number a (suc n) (suc d) v l = let e = read_number (a + 1) n d v (omega arith) in omega (arith, e)

pub read_pair : (n : ℕ) (pool ds : List ℕ) (u : ℕ × ℕ) → pool ≡ range_with_len 1 n → Below n ds → reads_tuple (λ x c. c ≡ x) (λ t. t.0 ∷ t.1 ∷ []) pool ds u → u ≡ places_pair ds
read_pair n pool ds u e b r = go ds r.0 b r.1 r.3
  where
    go : (ds vs : List ℕ) → Below n ds → ClonesAt (λ x c. c ≡ x) pool ds vs → vs ≡ (u.0 ∷ u.1 ∷ []) ++ r.2 → u ≡ places_pair ds
    go [] [] b c f = absurd (let l = ap length f in omega arith)
    go [] (v ∷ vs) b c f = absurd c
    go (d ∷ ds) [] b c f = absurd c
    go (d ∷ []) (v ∷ []) b c f = absurd (let l = ap length f in omega arith)
    go (d ∷ []) (v ∷ w ∷ vs) b c f = absurd c.1
    go (d ∷ i ∷ ds) (v ∷ []) b c f = absurd c.1
    go (d ∷ i ∷ ds) (v ∷ w ∷ vs) b c f =
        let x : u.0 ≡ slice_index_or pool d v = ap (λ l. get_or l 0 0) (sym f) ∙ c.0 in
        let y : u.1 ≡ slice_index_or pool i w = ap (λ l. get_or l 1 0) (sym f) ∙ c.1.0 in
        let g : slice_index_or pool d v ≡ 1 + d = ap (λ l. slice_index_or l d v) e ∙ read_number 1 n d v b.0 in
        let h : slice_index_or pool i w ≡ 1 + i = ap (λ l. slice_index_or l i w) e ∙ read_number 1 n i w b.1.0 in
        ap₂ (λ (a b : ℕ). let z : ℕ × ℕ = (a, b) in z) (omega (arith, x, g)) (omega (arith, y, h))

pub start : (n len : ℕ) (pool : List ℕ) (left : List (List ℕ)) → pool ≡ range_with_len 1 n → len ≡ length pool → left ≡ ways ascending_low (ascending_high len 2) 2 []
    → (map places_pair left ≡ all_pairs n) × Inside n left
start n len pool left e m f =
    let k = m ∙ ap length e ∙ length-range 1 n in
    let g = f ∙ ap (λ j. ways ascending_low (ascending_high j 2) 2 []) k in
    (ap (map places_pair) g ∙ ways_pairs n, subst (Inside n) (sym g) (all_inside n))
  where
    length-range : (a n : ℕ) → length (range_with_len a n) ≡ n
    length-range a zero = refl
    length-range a (suc n) = ap suc (length-range (a + 1) n)

pub next : (n : ℕ) (pool : List ℕ) (left more : List (List ℕ)) (ds : List ℕ) (u : ℕ × ℕ) (made longer : List (ℕ × ℕ)) → pool ≡ range_with_len 1 n → left ≡ ds ∷ more → Inside n left
    → reads_tuple (λ x c. c ≡ x) (λ t. t.0 ∷ t.1 ∷ []) pool ds u → made ++ map places_pair left ≡ all_pairs n → longer ≡ made ++ u ∷ []
    → (longer ++ map places_pair more ≡ all_pairs n) × Inside n more
next n pool left more ds u made longer e f i r m l =
    let j = subst (Inside n) f i in
    let s = read_pair n pool ds u e j.0 r in (
      ap (λ k. k ++ map places_pair more) l ∙ append_assoc made (u ∷ []) (map places_pair more) ∙ ap (λ x. made ++ x ∷ map places_pair more) s ∙ ap (λ k. made ++ map places_pair k) (sym f) ∙ m,
      j.1,
    )
