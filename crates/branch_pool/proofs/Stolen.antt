-- One pass of a seat changes.
use Rattle.std.proofs.Common.{◌≡◌, ◌≢◌, ℕ, zero, suc, ◌<◌, ◌≤◌, ◌+◌, ◌-◌, ◌^◌, min, None, subst, append_assoc, append-nil, length-append, List, [], ◌∷◌, ◌++◌, map, length, set, get_or, refl, ap, sym, ◌∙◌, arith, cond, ◌==◌, Global}
use Rattle.std.proofs.lemmas.List.{map-set, length-map, length-set, get_or-map, set_comm, set-set, get_or-set_same, get_or-set_other}
use Rattle.std.proofs.lemmas.List.Elements.{All-set, All-get_or}
use Rattle.std.specs.List.{All, flat_map}
use Rattle.std.specs.Prelude.{IsPermutation}
use Rattle.std.proofs.lemmas.List.Sorted.{IsPermutation-trans, IsPermutation-sym, IsPermutation-append_left, IsPermutation-append_right, IsPermutation-middle, IsPermutation-refl, length_permutation}
use Rattle.std.proofs.lemmas.List.FromFn.{get_or-map-range_with_len}
use Rattle.std.proofs.Math.Seq.{map-set_same}
use Rattle.std.proofs.lemmas.Bool.Decides.{nat_tests}
use Rattle.crossbeam_deque.specs.Handles.{Pass, view}
use Rattle.branch_pool.specs.declared.rule.SeatView.{SeatView}
use Rattle.branch_pool.specs.Rule.{HoldsAtMost}
use Rattle.branch_pool.specs.Parts.{row, taken_with}
use Rattle.branch_pool.specs.Seats.{DequeId, PoolData, SeatData, IsSeatOf, taken_from, all_taken, with_taken, own_view, other_view}
use Rattle.branch_pool.proofs.Balance.{part_of}

pub same_place : {X Y D : Type 0} (f : X → D) (h : Y → D) (xs : List X) (ys : List Y) (i : ℕ) (d : X) (e : Y) → map f xs ≡ map h ys → i < length xs → f (get_or xs i d) ≡ h (get_or ys i e)
same_place f h xs ys i d e eq lt =
    let n : length xs ≡ length ys = sym (length-map xs f) ∙ ap length eq ∙ length-map ys h in
    sym (get_or-map f xs i d (f d) lt) ∙ ap (λ l. get_or l i (f d)) eq ∙ get_or-map h ys i e (f d) (omega (arith, n))

abbrev unless_own : ℕ → ℕ → ℕ
unless_own number k = cond (k == number) 0 1

one_elsewhere : (k number : ℕ) → k ≢ number → unless_own number k ≡ 1
one_elsewhere k number h = grind (arith, nat_tests)

abbrev P : Type 0 → Type 0
P B = Pass B (SeatView B) Global

module _ {B : Type 0} where
  pub some_part : (ps : List (P B)) (number i : ℕ) (d : P B) → map (λ (p : P B). p.me.view.client.parts) ps ≡ row number (length ps) → i < length ps → i + 1 ≢ number → (view (get_or ps i d)).parts ≡ 1
  some_part ps number i d rows lt other =
      sym (get_or-map (λ (p : P B). p.me.view.client.parts) ps i d 0 lt) ∙ ap (λ l. get_or l i 0) rows
      ∙ get_or-map-range_with_len (unless_own number) 1 (length ps) i (i + 1) 0 lt (omega arith) ∙ one_elsewhere (i + 1) number other

  pub has_part : (ps : List (P B)) (number i : ℕ) (d : P B) → map (λ (p : P B). p.me.view.client.parts) ps ≡ row number (length ps) → i < length ps → i + 1 ≢ number → 0 < (view (get_or ps i d)).parts
  has_part ps number i d rows lt other = let e = some_part ps number i d rows lt other in omega (arith, e)

  -- a pass with a part has the number of seats
  abbrev pub Seated : ℕ → P B → Type 0
  Seated n p = 0 < p.me.view.client.parts → p.me.view.client.seats ≡ n

  pub its_seats : (ps : List (P B)) (number i : ℕ) (d : P B) → map (λ (p : P B). p.me.view.client.parts) ps ≡ row number (length ps) → i < length ps → i + 1 ≢ number → All (Seated (length ps)) ps → (view (get_or ps i d)).seats ≡ length ps
  its_seats ps number i d rows lt other seated = seated i d lt (has_part ps number i d rows lt other)

  abbrev D : P B → DequeId
  D p = (p.rows, p.heap)

  abbrev T : P B → List B
  T p = p.me.view.client.taken

  abbrev seen : ℕ → List DequeId → List B → List (List B) → SeatData B
  seen n deques offered taken = record { number = n; deques = deques; offered = offered; taken = taken }

  -- a list of lists in which one grows at its end
  own_more : (ls : List (List B)) (m : ℕ) (own own' : List B) (b : B) → m < length ls → own' ≡ own ++ b ∷ [] → set ls m own' ≡ set (set ls m own) m (get_or (set ls m own) m [] ++ b ∷ [])
  own_more ls m own own' b lt more =
      ap (set ls m) more ∙ ap (λ (x : List B). set ls m (x ++ b ∷ [])) (sym (get_or-set_same ls m own [] lt)) ∙ sym (set-set ls m own (get_or (set ls m own) m [] ++ b ∷ []))

  other_more : (ls : List (List B)) (i m : ℕ) (own : List B) (b : B) → i ≢ m → set (set ls i (get_or ls i [] ++ b ∷ [])) m own ≡ set (set ls m own) i (get_or (set ls m own) i [] ++ b ∷ [])
  other_more ls i m own b other =
      set_comm ls i m (get_or ls i [] ++ b ∷ []) own other ∙ ap (λ (x : List B). set (set ls m own) i (x ++ b ∷ [])) (sym (get_or-set_other ls m i own [] other))

  -- the seat after it took from its own deque
  pub took_view : (n : ℕ) (ds : List DequeId) (o o' t t' : List B) (ls : List (List B)) (b : B) → n - 1 < length ls → o' ≡ o → t' ≡ t ++ b ∷ [] → seen n ds o' (taken_with n t' ls) ≡ with_taken (seen n ds o (taken_with n t ls)) n b
  took_view n ds o o' t t' ls b lt same more = rw same (ap (λ x. seen n ds o x) (own_more ls (n - 1) t t' b lt more))

  -- a seat, as its worker and its passes tell of it
  abbrev pub told : ℕ → List B → List B → List (P B) → SeatData B
  told n offered own ps = seen n (map D ps) offered (taken_with n own (map T ps))

  pub taken_length : (n : ℕ) (own : List B) (ps : List (P B)) → length (taken_with n own (map T ps)) ≡ length ps
  taken_length n own ps = length-set (map T ps) (n - 1) own ∙ length-map ps T

  -- where the pass of another seat's deque stands
  pub its_place : (p : PoolData) (s : SeatData B) (n k : ℕ) (offered own : List B) (ps : List (P B)) → told n offered own ps ≡ s → IsSeatOf p s → 1 ≤ k → k ≤ length p.deques → k ≢ s.number → 1 ≤ n
      → (k - 1 < length ps) × ((k - 1) + 1 ≢ n) × (k - 1 ≢ n - 1) × (k - 1 < length (taken_with n own (map T ps)))
  its_place p s n k offered own ps is of least most other one =
      let m : length p.deques ≡ length ps = ap length (sym of ∙ sym (ap (λ (s : SeatData B). s.deques) is)) ∙ length-map ps D in
      let e : n ≡ s.number = ap (λ (s : SeatData B). s.number) is in (
        omega (arith, m),
        (λ x. other (omega (arith, x, e, least))),
        (λ x. other (omega (arith, x, e, least, one))),
        omega (arith, m, taken_length n own ps),
      )

  -- the seat after it stole
  pub stolen_view : (n k : ℕ) (offered own : List B) (ps : List (P B)) (q d : P B) (b : B) → k - 1 < length ps → k - 1 ≢ n - 1 → d ≡ get_or ps (k - 1) d → q.rows ≡ d.rows → q.heap ≡ d.heap → T q ≡ T d ++ b ∷ []
      → told n offered own (set ps (k - 1) q) ≡ with_taken (told n offered own ps) k b
  stolen_view n k offered own ps q d b lt other v r h t =
      let i = k - 1 in
      let ds : map D (set ps i q) ≡ map D ps = map-set_same D ps i q d (rw (r ∙ ap (λ (p : P B). p.rows) v) (rw (h ∙ ap (λ (p : P B). p.heap) v) refl)) in
      let ts : map T (set ps i q) ≡ set (map T ps) i (get_or (map T ps) i [] ++ b ∷ []) = map-set T ps i q ∙ ap (λ x. set (map T ps) i x) (t ∙ ap (λ (x : List B). x ++ b ∷ []) (ap T v ∙ sym (get_or-map T ps i d [] lt))) in
      let both : taken_with n own (map T (set ps i q)) ≡ set (taken_with n own (map T ps)) i (get_or (taken_with n own (map T ps)) i [] ++ b ∷ []) =
      ap (λ l. taken_with n own l) ts ∙ other_more (map T ps) i (n - 1) own b other in
      rw ds (ap (λ l. seen n (map D ps) offered l) both)

  pub same_view : (n : ℕ) (offered own : List B) (ps : List (P B)) (i : ℕ) (q d : P B) → d ≡ get_or ps i d → q.rows ≡ d.rows → q.heap ≡ d.heap → T q ≡ T d → told n offered own (set ps i q) ≡ told n offered own ps
  same_view n offered own ps i q d v r h t =
      let ds : map D (set ps i q) ≡ map D ps = map-set_same D ps i q d (rw (r ∙ ap (λ (p : P B). p.rows) v) (rw (h ∙ ap (λ (p : P B). p.heap) v) refl)) in
      let ts : map T (set ps i q) ≡ map T ps = map-set_same T ps i q d (t ∙ ap T v) in
      rw ds (rw ts refl)

  -- what the rules of the deques know of a seat
  pub own_seen : (n : ℕ) (v : SeatView B) (ps : List (P B)) → 1 ≤ n → n ≤ length ps → v.parts ≡ 65 - length ps → v.seats ≡ length ps → v ≡ own_view (told n v.offered v.taken ps)
  own_seen n v ps one below parts seats =
      let len : length (map D ps) ≡ length ps = length-map ps D in
      let tl : length (map T ps) ≡ length ps = length-map ps T in
      let t : get_or (taken_with n v.taken (map T ps)) (n - 1) [] ≡ v.taken = get_or-set_same (map T ps) (n - 1) v.taken [] (omega (arith, tl, one, below)) in
      let e : 65 - length (map D ps) ≡ v.parts = omega (arith, len, parts) in
      let m : length (map D ps) ≡ v.seats = len ∙ sym seats in
      sym (rw (e, t, m) refl)

  pub other_seen : (n k : ℕ) (offered own : List B) (ps : List (P B)) (d : P B) → k - 1 < length ps → k - 1 ≢ n - 1 → (k - 1) + 1 ≢ n → d ≡ get_or ps (k - 1) d → map (λ (p : P B). p.me.view.client.parts) ps ≡ row n (length ps)
      → All (λ (p : P B). (p.me.hand ≡ None) × (p.me.spare ≡ None) × (p.me.view.client.offered ≡ [])) ps → All (Seated (length ps)) ps → view d ≡ other_view (told n offered own ps) k
  other_seen n k offered own ps d lt other apart v rows quiet seated =
      let i = k - 1 in
      let one : (view d).parts ≡ 1 = ap (λ (p : P B). (view p).parts) v ∙ some_part ps n i d rows lt apart in
      let none : (view d).offered ≡ [] = ap (λ (p : P B). (view p).offered) v ∙ (quiet i d lt).2 in
      let t : get_or (taken_with n own (map T ps)) i [] ≡ T d = get_or-set_other (map T ps) (n - 1) i own [] other ∙ get_or-map T ps i d [] lt ∙ sym (ap T v) in
      let many : length (map D ps) ≡ (view d).seats = length-map ps D ∙ sym (ap (λ (p : P B). (view p).seats) v ∙ its_seats ps n i d rows lt apart seated) in
      sym (rw (t, sym one, sym none, many) refl)

  abbrev pub Quiet : P B → Type 0
  Quiet p = (p.me.hand ≡ None) × (p.me.spare ≡ None) × (p.me.view.client.offered ≡ [])

  -- what a seat's invariant asks of its passes, apart from how much they took
  pub seat_kept : (number parts seats : ℕ) (own : DequeId) (ps : List (P B)) (i : ℕ) (q d : P B) → i < length ps → i ≢ number - 1 → d ≡ get_or ps i d
      → number ≤ length ps → length ps ≤ 64 → parts ≡ 65 - length ps → All Quiet ps → map (λ (p : P B). p.me.view.client.parts) ps ≡ row number (length ps) → get_or (map D ps) (number - 1) own ≡ own
      → get_or (map T ps) (number - 1) [] ≡ [] → seats ≡ length ps → All (Seated (length ps)) ps
      → q.rows ≡ d.rows → q.heap ≡ d.heap → q.me.hand ≡ None → q.me.spare ≡ None → q.me.view.client.parts ≡ d.me.view.client.parts → q.me.view.client.offered ≡ d.me.view.client.offered → q.me.view.client.seats ≡ d.me.view.client.seats
      → (number ≤ length (set ps i q)) × (length (set ps i q) ≤ 64) × (parts ≡ 65 - length (set ps i q)) × All Quiet (set ps i q) × (map (λ (p : P B). p.me.view.client.parts) (set ps i q) ≡ row number (length (set ps i q))) × (get_or (map D (set ps i q)) (number - 1) own ≡ own)
      × (get_or (map T (set ps i q)) (number - 1) [] ≡ []) × (seats ≡ length (set ps i q)) × All (Seated (length (set ps i q))) (set ps i q)
  seat_kept number parts seats own ps i q d lt other v below most all quiet rows tie none many seated r h hand spare same offers carries =
      let len : length (set ps i q) ≡ length ps = length-set ps i q in
      let here = All-get_or Quiet ps i d lt quiet in
      let new : Seated (length ps) q = λ some_part. carries ∙ ap (λ (p : P B). p.me.view.client.seats) v ∙ seated i d lt (subst (λ n. 0 < n) (same ∙ ap (λ (p : P B). p.me.view.client.parts) v) some_part) in
      let ds : map D (set ps i q) ≡ map D ps = map-set_same D ps i q d (rw (r ∙ ap (λ (p : P B). p.rows) v) (rw (h ∙ ap (λ (p : P B). p.heap) v) refl)) in (
        omega (arith, len, below),
        omega (arith, len, most),
        omega (arith, len, all),
        All-set Quiet ps i q (hand, spare, offers ∙ ap (λ (p : P B). p.me.view.client.offered) v ∙ here.2) quiet,
        map-set_same (λ (p : P B). p.me.view.client.parts) ps i q d (same ∙ ap (λ (p : P B). p.me.view.client.parts) v) ∙ rows ∙ ap (row number) (sym len),
        ap (λ l. get_or l (number - 1) own) ds ∙ tie,
        ap (λ l. get_or l (number - 1) []) (map-set T ps i q) ∙ get_or-set_other (map T ps) i (number - 1) (T q) [] (λ e. other (sym e)) ∙ none,
        many ∙ sym len,
        subst (λ m. All (Seated m) (set ps i q)) (sym len) (All-set (Seated (length ps)) ps i q new seated),
      )

  more_flat : (ls : List (List B)) (i : ℕ) (b : B) → i < length ls → IsPermutation (b ∷ flat_map (λ l. l) ls) (flat_map (λ l. l) (set ls i (get_or ls i [] ++ b ∷ [])))
  more_flat [] i b lt = absurd (omega (arith, lt))
  more_flat (l ∷ ls) zero b lt =
      IsPermutation-trans _ _ _ (IsPermutation-sym _ _ (IsPermutation-middle l b (flat_map (λ l. l) ls)))
      (subst (λ (x : List B). IsPermutation x ((l ++ b ∷ []) ++ flat_map (λ l. l) ls)) (append_assoc l (b ∷ []) (flat_map (λ l. l) ls)) (IsPermutation-append_left (flat_map (λ l. l) ls) _ _ (IsPermutation-refl (l ++ b ∷ []))))
  more_flat (l ∷ ls) (suc i) b lt =
      IsPermutation-trans _ _ _ (IsPermutation-sym _ _ (IsPermutation-middle l b (flat_map (λ l. l) ls)))
      (IsPermutation-append_right l _ _ (more_flat ls i b (omega (arith, lt))))

  -- what a seat took in all, after one branch more from one deque
  pub more_taken : (s s' : SeatData B) (k : ℕ) (b : B) → k - 1 < length s.taken → s' ≡ with_taken s k b → IsPermutation (b ∷ all_taken s) (all_taken s')
  more_taken s s' k b lt e = subst (λ (u : SeatData B). IsPermutation (b ∷ all_taken s) (all_taken u)) (sym e) (more_flat s.taken (k - 1) b lt)

  -- the count, which stands at its last value
  pub count_taken : (s s' : SeatData B) (k : ℕ) (b : B) (n m : ℕ) → k - 1 < length s.taken → s' ≡ with_taken s k b → n ≡ min (length (all_taken s)) (2 ^ 64 - 1) → m ≡ min (n + 1) (2 ^ 64 - 1) → m ≡ min (length (all_taken s')) (2 ^ 64 - 1)
  count_taken s s' k b n m lt e was now = let l = length_permutation _ _ (more_taken s s' k b lt e) in omega (arith, l, was, now)

  pub same_deques : (ps : List (P B)) (i : ℕ) (q d : P B) → d ≡ get_or ps i d → q.rows ≡ d.rows → q.heap ≡ d.heap → map D (set ps i q) ≡ map D ps
  same_deques ps i q d v r h = map-set_same D ps i q d (rw (r ∙ ap (λ (p : P B). p.rows) v) (rw (h ∙ ap (λ (p : P B). p.heap) v) refl))

  -- a pool of one seat
  one_list : (ls : List (List B)) (m : ℕ) → length ls ≡ 1 → m ≡ 0 → flat_map (λ l. l) ls ≡ get_or ls m []
  one_list [] m one at = absurd (omega (arith, one))
  one_list (l ∷ []) m one at = append-nil l ∙ sym (ap (λ j. get_or (l ∷ []) j []) at)
  one_list (l ∷ x ∷ ls) m one at = absurd (omega (arith, one))

  pub all_taken_alone : (s : SeatData B) → length s.deques ≡ 1 → length s.taken ≡ 1 → s.number - 1 ≡ 0 → HoldsAtMost 0 0 (own_view s) → IsPermutation s.offered (all_taken s)
  all_taken_alone s one taken at none =
      let p = part_of (own_view s) none in
      let all : 65 - length s.deques ≡ 64 = omega (arith, one) in
      let rest : taken_from s s.number ++ p.0 ≡ all_taken s = ap (λ (l : List B). taken_from s s.number ++ l) (p.2 all) ∙ append-nil (taken_from s s.number) ∙ sym (one_list s.taken (s.number - 1) taken at) in
      subst (λ (l : List B). IsPermutation s.offered l) rest p.1

  pub some_left_alone : (s : SeatData B) (b : B) (rest : List B) → length s.taken ≡ 1 → s.number - 1 ≡ 0 → IsPermutation s.offered (taken_from s s.number ++ b ∷ rest) → IsPermutation s.offered (all_taken s) → ⊥
  some_left_alone s b rest taken at held all =
      let h = length_permutation _ _ held in
      let a = length_permutation _ _ all in
      omega (arith, h, a, ap (λ (l : List B). length l) (one_list s.taken (s.number - 1) taken at), length-append (taken_from s s.number) (b ∷ rest))
