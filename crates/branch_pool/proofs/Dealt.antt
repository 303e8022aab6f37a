-- The parts in the middle of dealing a row.
use Rattle.std.proofs.Common.{◌≡◌, ◌≢◌, ℕ, zero, suc, ◌<◌, ◌-◌, ◌+◌, List, [], ◌∷◌, ◌++◌, map, length, set, get_or, refl, ap, sym, ◌∙◌, arith, cond, ◌==◌, take}
use Rattle.std.proofs.lemmas.List.{map-set, length-map, get_or-map, map-append}
use Rattle.std.proofs.lemmas.List.FromFn.{get_or-map-range_with_len}
use Rattle.std.proofs.lemmas.Bool.Decides.{nat_tests}
use Rattle.std.specs.List.{range_with_len, All}
use Rattle.std.proofs.lemmas.List.Elements.{All-append}
use Rattle.branch_pool.specs.declared.rule.SeatView.{SeatView}
use Rattle.branch_pool.specs.Rule.{view_of}
use Rattle.branch_pool.specs.Parts.{keeps, worker_views, pass_views}

later_range : {X : Type 0} (f h : ℕ → X) (a b n : ℕ) → b < a → ((k : ℕ) → k ≢ b → f k ≡ h k) → map f (range_with_len a n) ≡ map h (range_with_len a n)
later_range f h a b zero lt same = refl
later_range f h a b (suc n) lt same = rw (same a (λ e. absurd (omega (arith, e)))) (ap (λ l. h a ∷ l) (later_range f h (a + 1) b n (omega arith) same))

pub set_range : {X : Type 0} (f h : ℕ → X) (a n i : ℕ) → i < n → ((k : ℕ) → k ≢ a + i → f k ≡ h k) → set (map f (range_with_len a n)) i (h (a + i)) ≡ map h (range_with_len a n)
set_range f h a zero i lt same = absurd (omega arith)
set_range f h a (suc n) zero lt same =
    let z : a + 0 ≡ a = omega arith in
    rw z (ap (λ l. h a ∷ l) (later_range f h (a + 1) a n (omega arith) (λ k no. same k (λ e. no (e ∙ z)))))
set_range f h a (suc n) (suc i) lt same =
    let at : a + suc i ≡ (a + 1) + i = omega arith in
    rw (same a (λ e. absurd (omega (arith, e)))) (rw at (ap (λ l. h a ∷ l) (set_range f h (a + 1) n i (omega arith) (λ k no. same k (λ e. no (e ∙ at))))))

snoc : {X : Type 0} (f : ℕ → X) (a n : ℕ) → map f (range_with_len a (suc n)) ≡ map f (range_with_len a n) ++ f (a + n) ∷ []
snoc f a zero = let z : a + 0 ≡ a = omega arith in rw z refl
snoc f a (suc n) = let z : a + suc n ≡ (a + 1) + n = omega arith in rw z (ap (λ l. f a ∷ l) (snoc f (a + 1) n))

snoc_range : {X : Type 0} (f : ℕ → X) (a n : ℕ) → map f (range_with_len a (n + 1)) ≡ map f (range_with_len a n) ++ f (a + n) ∷ []
snoc_range f a n = let z : n + 1 ≡ suc n = omega arith in rw z (snoc f a n)

take_more : {X : Type 0} (xs : List X) (n : ℕ) (d : X) → n < length xs → take (suc n) xs ≡ take n xs ++ get_or xs n d ∷ []
take_more [] n d lt = absurd (omega arith)
take_more (x ∷ xs) zero d lt = refl
take_more (x ∷ xs) (suc n) d lt = ap (λ l. x ∷ l) (take_more xs n d (omega arith))

pub take_snoc : {X : Type 0} (xs : List X) (n : ℕ) (d : X) → n < length xs → take (n + 1) xs ≡ take n xs ++ get_or xs n d ∷ []
take_snoc xs n d lt = let z : n + 1 ≡ suc n = omega arith in rw z (take_more xs n d lt)

keeps_other : (m at k : ℕ) → k ≢ at + 1 → keeps m at k ≡ keeps m (at + 1) k
keeps_other m at k h = grind (arith, nat_tests)

pub keeps_more : (m at : ℕ) → at ≢ m → at < 64 → m < 64 → 1 < keeps m at (at + 1)
keeps_more m at h lt most = grind (arith, nat_tests)

pub deques_step : {W V D : Type 0} (f : W → D) (h : V → D) (ps qs : List W) (ws : List V) (at : ℕ) (p : W) (d : V) → qs ≡ ps ++ p ∷ [] → map f ps ≡ take at (map h ws) → at < length ws → f p ≡ h (get_or ws at d) → map f qs ≡ take (at + 1) (map h ws)
deques_step f h ps qs ws at p d more e lt is =
    ap (map f) more ∙ map-append f ps (p ∷ []) ∙ ap (λ l. l ++ f p ∷ []) e ∙ ap (λ x. take at (map h ws) ++ x ∷ []) (is ∙ sym (get_or-map h ws at d (f p) lt)) ∙ sym (take_snoc (map h ws) at (f p) (omega (arith, lt, length-map ws h)))

all_one : {X : Type 0} (P : X → Type 0) (p : X) → P p → (k : ℕ) (d : X) → k < 1 → P (get_or (p ∷ []) k d)
all_one P p h zero d lt = h
all_one P p h (suc k) d lt = absurd (omega arith)

pub all_more : {X : Type 0} (P : X → Type 0) (ps qs : List X) (p : X) → qs ≡ ps ++ p ∷ [] → All P ps → P p → All P qs
all_more P ps qs p more old new = rw more (All-append P ps (p ∷ []) old (all_one P p new))

keeps_all : (k : ℕ) → 0 < k → keeps 0 0 k ≡ 64
keeps_all k h = grind (arith, nat_tests)

pub both_more : {W V D : Type 0} (f : W → D) (h : V → D) (ps qs : List W) (us vs : List V) (p : W) (u : V) → qs ≡ ps ++ p ∷ [] → vs ≡ us ++ u ∷ [] → map f ps ≡ map h us → f p ≡ h u → map f qs ≡ map h vs
both_more f h ps qs us vs p u more more' e is =
    ap (map f) more ∙ map-append f ps (p ∷ []) ∙ ap (λ l. l ++ f p ∷ []) e ∙ ap (λ x. map h us ++ x ∷ []) is ∙ sym (ap (map h) more' ∙ map-append h us (u ∷ []))

module _ {B : Type 0} where
  pub views_step : {W : Type 0} (f : W → SeatView B) (ws : List W) (seats m at n : ℕ) (w : W) → map f ws ≡ worker_views seats m at n → at < n → f w ≡ view_of seats (keeps m (at + 1) (at + 1)) [] [] → map f (set ws at w) ≡ worker_views seats m (at + 1) n
  views_step f ws seats m at n w e lt is =
      let H : ℕ → SeatView B = λ k. view_of seats (keeps m (at + 1) k) [] [] in
      let turn : at + 1 ≡ 1 + at = omega arith in
      let is' : f w ≡ H (1 + at) = is ∙ ap H turn in
      map-set f ws at w ∙ ap (λ l. set l at (f w)) e ∙ ap (λ x. set (worker_views seats m at n) at x) is'
      ∙ set_range (λ k. view_of seats (keeps m at k) [] []) H 1 n at lt (λ k no. ap (λ x. view_of seats x [] []) (keeps_other m at k (λ e. no (e ∙ turn))))

  pub passes_step : {W : Type 0} (f : W → SeatView B) (ps qs : List W) (seats number at : ℕ) (p : W) → qs ≡ ps ++ p ∷ [] → map f ps ≡ pass_views seats number at → f p ≡ view_of (cond (at + 1 == number) 0 seats) (cond (at + 1 == number) 0 1) [] [] → map f qs ≡ pass_views seats number (at + 1)
  passes_step f ps qs seats number at p more e is =
      let F : ℕ → SeatView B = λ k. view_of (cond (k == number) 0 seats) (cond (k == number) 0 1) [] [] in
      ap (map f) more ∙ map-append f ps (p ∷ []) ∙ ap (λ l. l ++ f p ∷ []) e ∙ ap (λ x. pass_views seats number at ++ x ∷ []) is ∙ sym (snoc_range F 1 at ∙ ap (λ k. map F (range_with_len 1 at) ++ F k ∷ []) (omega arith))

  pub view_at : {W : Type 0} (f : W → SeatView B) (ws : List W) (seats m at n i : ℕ) (d : W) → map f ws ≡ worker_views seats m at n → length ws ≡ n → i < n → f (get_or ws i d) ≡ view_of seats (keeps m at (i + 1)) [] []
  view_at f ws seats m at n i d e len lt =
      sym (get_or-map f ws i d (view_of 0 0 [] []) (omega (arith, len))) ∙ ap (λ l. get_or l i (view_of 0 0 [] [])) e
      ∙ get_or-map-range_with_len (λ k. view_of seats (keeps m at k) [] []) 1 n i (i + 1) (view_of 0 0 [] []) lt (omega arith)

  pub views_more : {W : Type 0} (f : W → SeatView B) (ps qs : List W) (seats at : ℕ) (p : W) → qs ≡ ps ++ p ∷ [] → map f ps ≡ worker_views seats 0 0 at → f p ≡ view_of seats 64 [] [] → map f qs ≡ worker_views seats 0 0 (at + 1)
  views_more f ps qs seats at p more e is =
      let F : ℕ → SeatView B = λ k. view_of seats (keeps 0 0 k) [] [] in
      ap (map f) more ∙ map-append f ps (p ∷ []) ∙ ap (λ l. l ++ f p ∷ []) e ∙ ap (λ x. worker_views seats 0 0 at ++ x ∷ []) (is ∙ ap (λ x. view_of seats x [] []) (sym (keeps_all (1 + at) (omega arith)))) ∙ sym (snoc_range F 1 at)
