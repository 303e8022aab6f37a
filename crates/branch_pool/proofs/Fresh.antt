-- Workers and rows become seats.
use Rattle.std.proofs.Common.{◌≡◌, ℕ, zero, suc, ◌<◌, ◌≤◌, ◌-◌, ◌+◌, ◌^◌, min, List, [], ◌∷◌, ◌++◌, map, length, get_or, set, refl, ap, sym, ◌∙◌, arith, cond, ◌==◌, Bool, true, false, subst, None, Some, Global, reverse}
use Rattle.std.proofs.lemmas.List.{length-map, get_or-map, reverse-append}
use Rattle.std.proofs.lemmas.Bool.Decides.{nat_tests}
use Rattle.std.proofs.lemmas.List.FromFn.{get_or-map-range_with_len}
use Rattle.std.specs.List.{All, range_with_len, flat_map}
use Rattle.std.specs.Prelude.{IsPermutation}
use Rattle.std.proofs.lemmas.List.Sorted.{IsPermutation-refl}
use Rattle.std.proofs.lemmas.List.Elements.{All-pop, All-cons}
use Rattle.crossbeam_deque.specs.Handles.{Pass, view}
use Rattle.branch_pool.specs.declared.rule.SeatView.{SeatView}
use Rattle.branch_pool.specs.Rule.{view_of}
use Rattle.branch_pool.specs.Parts.{Numbered, IsRow, keeps, worker_views, row, taken_with}
use Rattle.branch_pool.specs.Seats.{DequeId, SeatData, fresh_seat, all_taken, AreAllSeats}

pub map_map : {X Y Z : Type 0} (f : X → Y) (h : Y → Z) (xs : List X) → map h (map f xs) ≡ map (λ x. h (f x)) xs
map_map f h [] = refl
map_map f h (x ∷ xs) = ap (λ l. h (f x) ∷ l) (map_map f h xs)

pub length_range : (a n : ℕ) → length (range_with_len a n) ≡ n
length_range a zero = refl
length_range a (suc n) = ap suc (length_range (a + 1) n)

-- two functions that agree on the range
pub alike_range : {X : Type 0} (f h : ℕ → X) (a n : ℕ) → ((k : ℕ) → a ≤ k → k < a + n → f k ≡ h k) → map f (range_with_len a n) ≡ map h (range_with_len a n)
alike_range f h a zero same = refl
alike_range f h a (suc n) same = rw (same a (omega arith) (omega arith)) (ap (λ l. h a ∷ l) (alike_range f h (a + 1) n (λ k least most. same k (omega arith) (omega arith))))

pub numbered_snoc : {X : Type 0} (P : ℕ → X → Type 0) (k : ℕ) (xs : List X) (x : X) → Numbered P k xs → P (k + length xs) x → Numbered P k (xs ++ x ∷ [])
numbered_snoc P k [] x old new = (subst (λ n. P n x) (omega arith) new, tt)
numbered_snoc P k (y ∷ ys) x old new = (old.0, numbered_snoc P (k + 1) ys x old.1 (subst (λ n. P n x) (omega arith) new))

pub numbered_more : {X : Type 0} (P : ℕ → X → Type 0) (k n : ℕ) (xs ys : List X) (x : X) → ys ≡ xs ++ x ∷ [] → Numbered P k xs → k + length xs ≡ n → P n x → Numbered P k ys
numbered_more P k n xs ys x more old at new = rw more (numbered_snoc P k xs x old (subst (λ m. P m x) (sym at) new))

split : {X : Type 0} (P : ℕ → X → Type 0) (k : ℕ) (xs : List X) (x : X) → Numbered P k (xs ++ x ∷ []) → Numbered P k xs × P (k + length xs) x
split P k [] x all = (tt, subst (λ n. P n x) (omega arith) all.0)
split P k (y ∷ ys) x all = let r = split P (k + 1) ys x all.1 in ((all.0, r.0), subst (λ n. P n x) (omega arith) r.1)

-- the last is taken off
pub numbered_pop : {X : Type 0} (P : ℕ → X → Type 0) (k n : ℕ) (xs ys : List X) (x : X) → ys ≡ xs ++ x ∷ [] → k + length xs ≡ n → Numbered P k ys → Numbered P k xs × P n x
numbered_pop P k n xs ys x more at all =
    let r = split P k xs x (subst (λ l. Numbered P k l) more all) in
    (r.0, subst (λ m. P m x) at r.1)

pub numbered_by : {X : Type 0} (P : ℕ → X → Type 0) (k : ℕ) (xs : List X) → ((i : ℕ) (d : X) → i < length xs → P (k + i) (get_or xs i d)) → Numbered P k xs
numbered_by P k [] all = tt
numbered_by P k (x ∷ xs) all = (subst (λ n. P n x) (omega arith) (all 0 x (omega arith)), numbered_by P (k + 1) xs (λ i d lt. subst (λ n. P n (get_or xs i d)) (omega arith) (all (suc i) d (omega arith))))

-- the last is taken off a list with one property
pub all_pop : {X : Type 0} (P : X → Type 0) (xs ys : List X) (x : X) → ys ≡ xs ++ x ∷ [] → All P ys → All P xs × P x
all_pop P xs ys x more all = All-pop P ys xs (Some x) more all

-- each stands at its own place
pub numbered_places : {X D : Type 0} (f : X → D) (ws : List X) → Numbered (λ k w. get_or (map f ws) (k - 1) (f w) ≡ f w) 1 ws
numbered_places f ws = numbered_by (λ k w. get_or (map f ws) (k - 1) (f w) ≡ f w) 1 ws (λ i d lt. let z : 1 + i - 1 ≡ i = omega arith in rw z (get_or-map f ws i d (f (get_or ws i d)) lt))

-- what a worker keeps in the end
pub keeps_last : (m n k : ℕ) → m ≡ n → k < n → n ≤ 64 → keeps m 0 (k + 1) ≡ 65 - n
keeps_last m n k e lt most = rw e (grind (arith, nat_tests))

-- between two rows
pub next_row : {B : Type 0} (seats m n : ℕ) → m < n → n ≤ 64 → worker_views {B = B} seats m n n ≡ worker_views seats (m + 1) 0 n
next_row {B = B} seats m n lt most = alike_range (λ k. view_of {B = B} seats (keeps m n k) [] []) (λ k. view_of seats (keeps (m + 1) 0 k) [] []) 1 n (λ k least below. ap (λ x. view_of {B = B} seats x [] []) (same m n k least below lt most))
  where
    same : (m n k : ℕ) → 1 ≤ k → k < 1 + n → m < n → n ≤ 64 → keeps m n k ≡ keeps (m + 1) 0 k
    same m n k least below lt most = grind (arith, nat_tests)

pub same_const : {X Y Z : Type 0} (z : Z) (xs : List X) (ys : List Y) → length xs ≡ length ys → map (λ (x : X). z) xs ≡ map (λ (y : Y). z) ys
same_const z [] [] e = refl
same_const z [] (y ∷ ys) e = absurd (omega (arith, e))
same_const z (x ∷ xs) [] e = absurd (omega (arith, e))
same_const z (x ∷ xs) (y ∷ ys) e = ap (λ l. z ∷ l) (same_const z xs ys (omega (arith, e)))

pub flat_none : {X B : Type 0} (xs : List X) → flat_map (λ (l : List B). l) (map (λ (x : X). []) xs) ≡ []
flat_none [] = refl
flat_none (x ∷ xs) = flat_none xs

one_more : {X : Type 0} (F : ℕ → X) (m n : ℕ) → m < n → map F (range_with_len (1 + m) (n - m)) ≡ F (m + 1) ∷ map F (range_with_len (1 + (m + 1)) (n - (m + 1)))
one_more F m n lt =
    let a : n - m ≡ suc (n - (m + 1)) = omega arith in
    let b : 1 + m ≡ m + 1 = omega arith in
    let c : (m + 1) + 1 ≡ 1 + (m + 1) = omega arith in
    rw (a, b) (ap (λ k. F (m + 1) ∷ map F (range_with_len k (n - (m + 1)))) c)

pub fresh_list : {S : Type 0} (F : ℕ → S) (list list' : List S) (s : S) (m k m' n : ℕ) → m < n → k ≡ m → m' ≡ m + 1 → list' ≡ list ++ s ∷ [] → s ≡ F (k + 1) → reverse list ≡ map F (range_with_len (1 + m') (n - m')) → reverse list' ≡ map F (range_with_len (1 + m) (n - m))
fresh_list F list list' s m k m' n lt at next more is old =
    let old' : reverse list ≡ map F (range_with_len (1 + (m + 1)) (n - (m + 1))) = old ∙ ap (λ k. map F (range_with_len (1 + k) (n - k))) next in
    ap reverse more ∙ reverse-append list (s ∷ []) ∙ ap (λ l. s ∷ l) old' ∙ ap (λ x. x ∷ map F (range_with_len (1 + (m + 1)) (n - (m + 1)))) (is ∙ ap (λ j. F (j + 1)) at) ∙ sym (one_more F m n lt)

abbrev P : Type 0 → Type 0
P B = Pass B (SeatView B) Global

-- a pass with a part has the number of seats
with_part : (b : Bool) (n : ℕ) → 0 < cond b 0 1 → cond b 0 n ≡ n
with_part true n some_part = absurd (let h : 0 < 0 = some_part in omega (arith, h))
with_part false n some_part = refl

module _ {B : Type 0} where
  abbrev nothing : List B
  nothing = []

  abbrev D : P B → DequeId
  D p = (p.rows, p.heap)

  abbrev T : P B → List B
  T p = p.me.view.client.taken

  abbrev N : P B → ℕ
  N p = p.me.view.client.parts

  abbrev Quiet : P B → Type 0
  Quiet p = (p.me.hand ≡ None) × (p.me.spare ≡ None) × (p.me.view.client.offered ≡ [])

  row_length : (ds : List DequeId) (k : ℕ) (ps : List (P B)) → IsRow ds k ps → length ps ≡ length ds
  row_length ds k ps row = sym (length-map ps D) ∙ ap length row.own

  row_parts : (ds : List DequeId) (k : ℕ) (ps : List (P B)) → IsRow ds k ps → map N ps ≡ row k (length ds)
  row_parts ds k ps r = sym (map_map (λ (p : P B). view p) (λ (h : SeatView B). h.parts) ps) ∙ ap (map (λ (h : SeatView B). h.parts)) r.views ∙ map_map (λ n. view_of {B = B} (cond (n == k) 0 (length ds)) (cond (n == k) 0 1) [] []) (λ (h : SeatView B). h.parts) (range_with_len 1 (length ds))

  row_taken : (ds : List DequeId) (k : ℕ) (ps : List (P B)) → IsRow ds k ps → map T ps ≡ map (λ d. []) ds
  row_taken ds k ps r =
      sym (map_map (λ (p : P B). view p) (λ (h : SeatView B). h.taken) ps) ∙ ap (map (λ (h : SeatView B). h.taken)) r.views ∙ map_map (λ n. view_of {B = B} (cond (n == k) 0 (length ds)) (cond (n == k) 0 1) [] []) (λ (h : SeatView B). h.taken) (range_with_len 1 (length ds))
      ∙ same_const [] (range_with_len 1 (length ds)) ds (length_range 1 (length ds))

  row_offered : (ds : List DequeId) (k : ℕ) (ps : List (P B)) → IsRow ds k ps → map (λ (p : P B). p.me.view.client.offered) ps ≡ map (λ d. []) ds
  row_offered ds k ps r =
      sym (map_map (λ (p : P B). view p) (λ (h : SeatView B). h.offered) ps) ∙ ap (map (λ (h : SeatView B). h.offered)) r.views ∙ map_map (λ n. view_of {B = B} (cond (n == k) 0 (length ds)) (cond (n == k) 0 1) [] []) (λ (h : SeatView B). h.offered) (range_with_len 1 (length ds))
      ∙ same_const [] (range_with_len 1 (length ds)) ds (length_range 1 (length ds))

  nothing_at : {X : Type 0} (ds : List X) (i : ℕ) → get_or (map (λ (d : X). nothing) ds) i [] ≡ []
  nothing_at [] i = refl
  nothing_at (d ∷ ds) zero = refl
  nothing_at (d ∷ ds) (suc i) = nothing_at ds i

  nothing_put : {X : Type 0} (ds : List X) (i : ℕ) → set (map (λ (d : X). nothing) ds) i nothing ≡ map (λ (d : X). nothing) ds
  nothing_put [] i = refl
  nothing_put (d ∷ ds) zero = refl
  nothing_put (d ∷ ds) (suc i) = ap (λ l. nothing ∷ l) (nothing_put ds i)

  row_quiet : (ds : List DequeId) (k : ℕ) (ps : List (P B)) → IsRow ds k ps → All Quiet ps
  row_quiet ds k ps r = λ i d lt.
      let q = r.quiet i d lt in
      let e : (get_or ps i d).me.view.client.offered ≡ [] =
      sym (get_or-map (λ (p : P B). p.me.view.client.offered) ps i d [] lt) ∙ ap (λ l. get_or l i []) (row_offered ds k ps r) ∙ nothing_at ds i in
      (q.0, q.1, e)

  row_seats : (ds : List DequeId) (k : ℕ) (ps : List (P B)) → IsRow ds k ps → All (λ (p : P B). 0 < p.me.view.client.parts → p.me.view.client.seats ≡ length ps) ps
  row_seats ds k ps r = λ i d lt.
      let len = row_length ds k ps r in
      let F : ℕ → SeatView B = λ n. view_of (cond (n == k) 0 (length ds)) (cond (n == k) 0 1) [] [] in
      let e : view (get_or ps i d) ≡ F (i + 1) =
      sym (get_or-map (λ (p : P B). view p) ps i d (view_of 0 0 [] []) lt) ∙ ap (λ l. get_or l i (view_of 0 0 [] [])) r.views ∙ get_or-map-range_with_len F 1 (length ds) i (i + 1) (view_of 0 0 [] []) (omega (arith, lt, len)) (omega arith) in
      subst (λ (h : SeatView B). 0 < h.parts → h.seats ≡ length ps) (sym e) (λ some_part. with_part (i + 1 == k) (length ds) some_part ∙ sym len)

  none_taken : (ds : List DequeId) (number : ℕ) (v : SeatView B) (ps : List (P B)) (m n : ℕ) → IsRow ds number ps → v ≡ view_of m n [] [] → taken_with number v.taken (map T ps) ≡ map (λ d. []) ds
  none_taken ds number v ps m n r is = rw (is, row_taken ds number ps r) (nothing_put ds (number - 1))

  pub fresh_invariant : (ds : List DequeId) (number flavor port : ℕ) (own : DequeId) (v : SeatView B) (ps : List (P B)) → 1 ≤ number → number ≤ length ds → length ds ≤ 64 → IsRow ds number ps
      → (flavor ≡ 1) × (port ≡ 0) → v ≡ view_of (length ds) (65 - length ds) [] [] → get_or ds (number - 1) own ≡ own
      → (1 ≤ number) × (number ≤ length ps) × (length ps ≤ 64) × ((flavor ≡ 1) × (port ≡ 0)) × (v.parts ≡ 65 - length ps) × (0 ≡ length v.offered) × All Quiet ps × (map N ps ≡ row number (length ps))
      × (0 ≡ min (length (flat_map (λ l. l) (taken_with number v.taken (map T ps)))) (2 ^ 64 - 1)) × (get_or (map D ps) (number - 1) own ≡ own) × (get_or (map T ps) (number - 1) [] ≡ []) × (v.seats ≡ length ps)
      × All (λ (p : P B). 0 < p.me.view.client.parts → p.me.view.client.seats ≡ length ps) ps
  fresh_invariant ds number flavor port own v ps one below most r lifo is tie =
      let len = row_length ds number ps r in
      let none : length (flat_map (λ l. l) (taken_with number v.taken (map T ps))) ≡ 0 = ap (λ (l : List (List B)). length (flat_map (λ l. l) l)) (none_taken ds number v ps (length ds) (65 - length ds) r is) ∙ ap length (flat_none {B = B} ds) in (
        one,
        omega (arith, len, below),
        omega (arith, len, most),
        lifo,
        ap (λ (h : SeatView B). h.parts) is ∙ ap (λ n. 65 - n) (sym len),
        sym (ap (λ (h : SeatView B). length h.offered) is),
        row_quiet ds number ps r,
        row_parts ds number ps r ∙ ap (row number) (sym len),
        omega (arith, none),
        ap (λ l. get_or l (number - 1) own) r.own ∙ tie,
        ap (λ l. get_or l (number - 1) []) (row_taken ds number ps r) ∙ nothing_at ds (number - 1),
        ap (λ (h : SeatView B). h.seats) is ∙ sym len,
        row_seats ds number ps r,
      )

  pub fresh_view : (ds : List DequeId) (number m n : ℕ) (v : SeatView B) (ps : List (P B)) → IsRow ds number ps → v ≡ view_of m n [] []
      → record { number = number; deques = map D ps; offered = v.offered; taken = taken_with number v.taken (map T ps) } ≡ fresh_seat ds number
  fresh_view ds number m n v ps r is = rw (none_taken ds number v ps m n r is, ap (λ (h : SeatView B). h.offered) is, r.own) refl

  pub fresh_all : (ds : List DequeId) (n : ℕ) → length ds ≡ n → AreAllSeats {B = B} record { deques = ds } (map (λ k. fresh_seat ds k) (range_with_len 1 n))
  fresh_all ds n len = record {
    own = each ds 1 n;
    each_once = subst (λ (l : List ℕ). IsPermutation (map (λ (s : SeatData B). s.number) (map (λ k. fresh_seat {B = B} ds k) (range_with_len 1 n))) l) (numbers ds 1 n ∙ ap (range_with_len 1) (sym len)) (IsPermutation-refl _);
  }
    where
      each : (ds : List DequeId) (a n : ℕ) → All (λ (s : SeatData B). s.deques ≡ ds) (map (λ k. fresh_seat ds k) (range_with_len a n))
      each ds a zero = λ i d lt. absurd (omega (arith, lt))
      each ds a (suc n) = All-cons (λ (s : SeatData B). s.deques ≡ ds) (fresh_seat ds a) (map (λ k. fresh_seat ds k) (range_with_len (a + 1) n)) refl (each ds (a + 1) n)

      numbers : (ds : List DequeId) (a n : ℕ) → map (λ (s : SeatData B). s.number) (map (λ k. fresh_seat {B = B} ds k) (range_with_len a n)) ≡ range_with_len a n
      numbers ds a zero = refl
      numbers ds a (suc n) = ap (λ l. a ∷ l) (numbers ds (a + 1) n)

  pub fresh_empty : (ds : List DequeId) (a n : ℕ) → All (λ (s : SeatData B). (s.offered ≡ []) × (all_taken s ≡ [])) (map (λ k. fresh_seat ds k) (range_with_len a n))
  fresh_empty ds a zero = λ i d lt. absurd (omega (arith, lt))
  fresh_empty ds a (suc n) = All-cons (λ (s : SeatData B). (s.offered ≡ []) × (all_taken s ≡ [])) (fresh_seat ds a) (map (λ k. fresh_seat ds k) (range_with_len (a + 1) n)) (refl, flat_none {B = B} ds) (fresh_empty ds (a + 1) n)
