-- All seats of a pool, in order, and what they offered and took together.
use Rattle.std.proofs.Common.{◌≡◌, ℕ, zero, suc, ◌<◌, ◌≤◌, ◌+◌, ◌-◌, min, List, [], ◌∷◌, ◌++◌, map, length, get_or, set, drop, reverse, refl, ap, sym, ◌∙◌, arith, cond, ◌==◌, subst, append_assoc}
use Rattle.std.specs.Prelude.{IsPermutation}
use Rattle.std.specs.List.{flat_map, range_with_len, sum_by, swap}
use Rattle.std.proofs.lemmas.List.{length-map, get_or-map}
use Rattle.std.proofs.lemmas.List.Folds.{flat_map-map}
use Rattle.std.proofs.lemmas.List.Sums.{sum_by-cons}
use Rattle.std.proofs.lemmas.List.Sorted.{IsPermutation-refl, IsPermutation-sym, IsPermutation-trans, IsPermutation-map, IsPermutation-keeps, IsPermutation-append_left, IsPermutation-append_comm, IsPermutation-append_right, IsPermutation-reverse, sum_by-IsPermutation, length_permutation}
use Rattle.std.proofs.lemmas.Bool.Decides.{nat_tests}
use Rattle.branch_pool.specs.Parts.{Numbered, taken_with}
use Rattle.branch_pool.specs.Seats.{SeatData, PoolData, AreAllSeats}
use Rattle.branch_pool.proofs.Balance.{exchange}
use Rattle.branch_pool.proofs.Fresh.{length_range, map_map}

-- how often j stands in a list
abbrev one_if : ℕ → ℕ → ℕ
one_if j x = cond (x == j) 1 0

abbrev count : ℕ → List ℕ → ℕ
count j xs = sum_by (one_if j) xs

one_here : (j : ℕ) → one_if j j ≡ 1
one_here j = grind (arith, nat_tests)

none_here : (x j : ℕ) → j < x → one_if j x ≡ 0
none_here x j lt = grind (arith, nat_tests)

none_below : (j a n : ℕ) → j < a → count j (range_with_len a n) ≡ 0
none_below j a zero lt = refl
none_below j a (suc n) lt = omega (arith, sum_by-cons (one_if j) a (range_with_len (a + 1) n), none_here a j lt, none_below j (a + 1) n (omega arith))

none_less : (j x : ℕ) (xs : List ℕ) → j < x → ((i d : ℕ) → i < length xs → x ≤ get_or xs i d) → count j xs ≡ 0
none_less j x [] lt all = refl
none_less j x (y ∷ ys) lt all =
    let h : x ≤ y = all 0 y (omega arith) in
    omega (arith, sum_by-cons (one_if j) y ys, none_here y j (omega arith), none_less j x ys lt (λ i d l. all (suc i) d (omega arith)))

-- a list that rises and holds what a range holds is that range
ordered : (a n : ℕ) (xs : List ℕ) → ((i j d : ℕ) → i ≤ j → j < length xs → get_or xs i d ≤ get_or xs j d) → ((j : ℕ) → count j xs ≡ count j (range_with_len a n)) → xs ≡ range_with_len a n
ordered a zero [] up same = refl
ordered a zero (x ∷ xs) up same =
    let e : count x (x ∷ xs) ≡ 0 = same x in
    absurd (omega (arith, e, sum_by-cons (one_if x) x xs, one_here x))
ordered a (suc n) [] up same =
    let e : 0 ≡ count a (a ∷ range_with_len (a + 1) n) = same a in
    absurd (omega (arith, e, sum_by-cons (one_if a) a (range_with_len (a + 1) n), one_here a))
ordered a (suc n) (x ∷ xs) up same =
    let cx = sum_by-cons (one_if x) x xs in
    let ca = sum_by-cons (one_if a) a (range_with_len (a + 1) n) in
    let cxa = sum_by-cons (one_if a) x xs in
    let sx : count x (x ∷ xs) ≡ count x (a ∷ range_with_len (a + 1) n) = same x in
    let sa : count a (x ∷ xs) ≡ count a (a ∷ range_with_len (a + 1) n) = same a in
    let least : a ≤ x = at_least x a (λ lt. let z : count x (a ∷ range_with_len (a + 1) n) ≡ 0 = none_below x a (suc n) lt in omega (arith, z, sx, cx, one_here x)) in
    let most : x ≤ a = at_least a x (λ lt. let z = none_less a x xs lt (λ i d l. up 0 (suc i) d (omega arith) (omega arith)) in omega (arith, z, none_here x a lt, cxa, sa, ca, one_here a)) in
    let e : x ≡ a = omega (arith, least, most) in
    let rest : (j : ℕ) → count j xs ≡ count j (range_with_len (a + 1) n) =
    λ j. let s : count j (x ∷ xs) ≡ count j (a ∷ range_with_len (a + 1) n) = same j in
    let h : one_if j x ≡ one_if j a = ap (one_if j) e in
    omega (arith, s, h, sum_by-cons (one_if j) x xs, sum_by-cons (one_if j) a (range_with_len (a + 1) n)) in
    rw e (ap (λ l. a ∷ l) (ordered (a + 1) n xs (λ i j d le lt. up (suc i) (suc j) d (omega arith) (omega arith)) rest))
  where
    at_least : (x a : ℕ) → (x < a → ⊥) → a ≤ x
    at_least x zero never = omega arith
    at_least zero (suc a) never = absurd (never (omega arith))
    at_least (suc x) (suc a) never = let h : a ≤ x = at_least x a (λ lt. never (omega arith)) in omega (arith, h)

numbered_range : {X : Type 0} (f : X → ℕ) (a n : ℕ) (xs : List X) → map f xs ≡ range_with_len a n → Numbered (λ k x. f x ≡ k) a xs
numbered_range f a n [] e = tt
numbered_range f a zero (x ∷ xs) e = absurd (let z : suc (length (map f xs)) ≡ 0 = ap length e in omega (arith, z))
numbered_range f a (suc n) (x ∷ xs) e = (ap (λ l. get_or l 0 a) e, numbered_range f (a + 1) n xs (ap (drop 1) e))

pub in_turn : {X : Type 0} (f : X → ℕ) (xs ys : List X) (n : ℕ) → IsPermutation (map f xs) (range_with_len 1 n) → IsPermutation xs ys → ((i j : ℕ) (d : X) → i ≤ j → j < length ys → f (get_or ys i d) ≤ f (get_or ys j d)) → Numbered (λ k x. f x ≡ k) 1 ys
in_turn f xs ys n all moved up =
    let p : IsPermutation (range_with_len 1 n) (map f ys) = IsPermutation-trans _ _ _ (IsPermutation-sym _ _ all) (IsPermutation-map f xs ys moved) in
    numbered_range f 1 n ys (ordered 1 n (map f ys) (rising f ys up) (λ j. sum_by-IsPermutation (one_if j) (range_with_len 1 n) (map f ys) p))
  where
    rising : {X : Type 0} (f : X → ℕ) (ys : List X) → ((i j : ℕ) (d : X) → i ≤ j → j < length ys → f (get_or ys i d) ≤ f (get_or ys j d)) → (i j d : ℕ) → i ≤ j → j < length (map f ys) → get_or (map f ys) i d ≤ get_or (map f ys) j d
    rising f [] up i j d le lt = absurd (omega arith)
    rising f (y ∷ ys) up i j d le lt =
        let n : length (map f (y ∷ ys)) ≡ length (y ∷ ys) = length-map (y ∷ ys) f in
        let a : get_or (map f (y ∷ ys)) i d ≡ f (get_or (y ∷ ys) i y) = get_or-map f (y ∷ ys) i y d (omega (arith, n)) in
        let b : get_or (map f (y ∷ ys)) j d ≡ f (get_or (y ∷ ys) j y) = get_or-map f (y ∷ ys) j y d (omega (arith, n)) in
        let h = up i j y le (omega (arith, n)) in
        omega (arith, a, b, h)

-- the one image of two lists that agree in another
pub same_image : {X Y Z : Type 0} (f : X → Y) (h : Y → Z) (xs ys : List X) → map f xs ≡ map f ys → map (λ x. h (f x)) xs ≡ map (λ x. h (f x)) ys
same_image f h xs ys e = sym (map_map f h xs) ∙ ap (map h) e ∙ map_map f h ys

module _ {B : Type 0} where
  pulled : {X : Type 0} (f : X → List B) (xs : List X) (x : X) (b : ℕ) (d : X) → b < length xs → IsPermutation (f x ++ flat_map f xs) (f (get_or xs b d) ++ flat_map f (set xs b x))
  pulled f [] x b d lt = absurd (omega arith)
  pulled f (y ∷ ys) x zero d lt = exchange (f x) (f y) (flat_map f ys)
  pulled f (y ∷ ys) x (suc b) d lt =
      IsPermutation-trans _ _ _ (exchange (f x) (f y) (flat_map f ys))
      (IsPermutation-trans _ _ _ (IsPermutation-append_right (f y) _ _ (pulled f ys x b d (omega arith))) (exchange (f y) (f (get_or ys b d)) (flat_map f (set ys b x))))

  swapped : {X : Type 0} (f : X → List B) (xs : List X) (i j : ℕ) (d : X) → i < length xs → j < length xs → IsPermutation (flat_map f xs) (flat_map f (set (set xs i (get_or xs j d)) j (get_or xs i d)))
  swapped f [] i j d lt lt' = absurd (omega arith)
  swapped f (x ∷ xs) zero zero d lt lt' = IsPermutation-refl _
  swapped f (x ∷ xs) zero (suc b) d lt lt' = pulled f xs x b d (omega arith)
  swapped f (x ∷ xs) (suc a) zero d lt lt' = pulled f xs x a d (omega arith)
  swapped f (x ∷ xs) (suc a) (suc b) d lt lt' = IsPermutation-append_right (f x) _ _ (swapped f xs a b d (omega arith) (omega arith))

  swap_one : {X : Type 0} (f : X → List B) (xs : List X) (i j : ℕ) → i < length xs → j < length xs → IsPermutation (flat_map f xs) (flat_map f (swap xs i j))
  swap_one f [] i j lt lt' = absurd (omega arith)
  swap_one f (x ∷ xs) i j lt lt' = swapped f (x ∷ xs) i j x lt lt'

  -- the lists of the elements, when these stand in another order
  pub flat_permutation : {X : Type 0} (f : X → List B) (xs ys : List X) → IsPermutation xs ys → IsPermutation (flat_map f xs) (flat_map f ys)
  flat_permutation f xs ys moved = IsPermutation-keeps xs (λ l. IsPermutation (flat_map f xs) (flat_map f l)) (IsPermutation-refl _) (λ l i j p q h. IsPermutation-trans _ _ _ h (swap_one f l i j p q)) ys moved

  pub flat_by_map : {X Y : Type 0} (f : X → List B) (h : Y → List B) (xs : List X) (ys : List Y) → map f xs ≡ map h ys → flat_map f xs ≡ flat_map h ys
  flat_by_map f h xs ys e = sym (flat_map-map (λ (l : List B). l) f xs) ∙ ap (flat_map (λ (l : List B). l)) e ∙ flat_map-map (λ (l : List B). l) h ys

  -- a list takes the place of an empty one
  put_in : (ls : List (List B)) (m : ℕ) (x : List B) → m < length ls → get_or ls m [] ≡ [] → IsPermutation (flat_map (λ l. l) (set ls m x)) (x ++ flat_map (λ l. l) ls)
  put_in [] m x lt none = absurd (omega (arith, lt))
  put_in (l ∷ ls) zero x lt none = rw none (IsPermutation-refl _)
  put_in (l ∷ ls) (suc m) x lt none =
      IsPermutation-trans _ _ _ (IsPermutation-append_right l _ _ (put_in ls m x (omega (arith, lt)) none)) (exchange l x (flat_map (λ l. l) ls))

  -- what a seat took: its worker's list, and its passes'
  pub taken_apart : {Q : Type 0} (t : Q → List B) (ps : List Q) (number : ℕ) (own : List B) → number - 1 < length ps → get_or (map t ps) (number - 1) [] ≡ [] → IsPermutation (flat_map (λ l. l) (taken_with number own (map t ps))) (own ++ flat_map t ps)
  taken_apart t ps number own lt none =
      subst (λ (x : List B). IsPermutation (flat_map (λ l. l) (taken_with number own (map t ps))) (own ++ x)) (flat_map-map (λ (l : List B). l) t ps)
      (put_in (map t ps) (number - 1) own (omega (arith, lt, length-map ps t)) none)

  -- one seat more is taken apart
  pub parted_step : (start a a' w w' r r' s u v : List B) → a' ≡ a ++ s → w' ≡ w ++ u → r' ≡ r ++ v → IsPermutation s (u ++ v) → IsPermutation start (a' ++ (w ++ r)) → IsPermutation start (a ++ (w' ++ r'))
  parted_step start a a' w w' r r' s u v ea ew er split h =
      let p : IsPermutation (s ++ (w ++ r)) ((u ++ v) ++ (w ++ r)) = IsPermutation-append_left (w ++ r) s (u ++ v) split in
      let q : IsPermutation ((u ++ v) ++ (w ++ r)) (u ++ (w ++ (r ++ v))) =
      subst (λ (x : List B). IsPermutation x (u ++ (w ++ (r ++ v)))) (sym (append_assoc u v (w ++ r)))
      (IsPermutation-append_right u _ _ (IsPermutation-trans _ _ _ (exchange v w r) (IsPermutation-append_right w _ _ (IsPermutation-append_comm v r)))) in
      let k : IsPermutation (u ++ (w ++ (r ++ v))) (w' ++ r') =
      subst (λ (x : List B). IsPermutation (u ++ (w ++ (r ++ v))) (x ++ r')) (sym ew)
      (subst (λ (x : List B). IsPermutation (u ++ (w ++ (r ++ v))) ((w ++ u) ++ x)) (sym er)
      (subst (λ (x : List B). IsPermutation (u ++ (w ++ (r ++ v))) x) (sym (append_assoc w u (r ++ v))) (exchange u w (r ++ v)))) in
      let whole : IsPermutation start (a ++ (s ++ (w ++ r))) = subst (λ (x : List B). IsPermutation start x) (ap (λ (x : List B). x ++ (w ++ r)) ea ∙ append_assoc a s (w ++ r)) h in
      IsPermutation-trans _ _ _ whole (IsPermutation-append_right a _ _ (IsPermutation-trans _ _ _ p (IsPermutation-trans _ _ _ q k)))

  -- the workers are turned round
  pub turned_workers : {X : Type 0} (f : X → List B) (ws : List X) (start rows : List B) → IsPermutation start (flat_map f ws ++ rows) → IsPermutation start (flat_map f (reverse ws) ++ rows)
  turned_workers f ws start rows h = IsPermutation-trans _ _ _ h (IsPermutation-append_left rows _ _ (flat_permutation f ws (reverse ws) (IsPermutation-reverse ws)))

  pub how_many : (p : PoolData) (seats : List (SeatData B)) → AreAllSeats p seats → length seats ≡ length p.deques
  how_many p seats all =
      let e = length_permutation (map (λ (s : SeatData B). s.number) seats) (range_with_len 1 (length p.deques)) all.each_once in
      omega (arith, e, length_range 1 (length p.deques), length-map seats (λ (s : SeatData B). s.number))

pub capped_sum : {S : Type 0} (f : S → ℕ) (n : ℕ) (xs : List S) → sum_by (λ x. min (f x) n) xs ≤ sum_by f xs
capped_sum f n [] = omega arith
capped_sum f n (x ∷ xs) = omega (arith, sum_by-cons (λ y. min (f y) n) x xs, sum_by-cons f x xs, capped_sum f n xs)

pub capped_total : {S : Type 0} (f : S → ℕ) (n : ℕ) (xs : List S) → min (sum_by (λ x. min (f x) n) xs) n ≡ min (sum_by f xs) n
capped_total f n [] = refl
capped_total f n (x ∷ xs) = omega (arith, sum_by-cons (λ y. min (f y) n) x xs, sum_by-cons f x xs, capped_total f n xs)
