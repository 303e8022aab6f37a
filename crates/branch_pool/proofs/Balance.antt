-- Each step keeps the pool rule.
use Rattle.std.proofs.Common.{◌≡◌, ◌≢◌, ◌⊎◌, inl, inr, ℕ, zero, suc, ◌+◌, ◌-◌, ◌<◌, ◌≤◌, List, [], ◌∷◌, ◌++◌, length, drop, set, sym, refl, ap, ◌∙◌, subst, append_assoc, append-nil, arith, length-append}
use Rattle.std.specs.Prelude.{IsPermutation}
use Rattle.std.specs.List.{All, flat_map, sum_by}
use Rattle.std.proofs.lemmas.List.Concat.{flat_map-append}
use Rattle.std.proofs.lemmas.List.Sums.{sum_by-cons, sum_by-append}
use Rattle.std.proofs.lemmas.List.Elements.{All-cons, All-head, All-tail, All-set, All-push, All-nil}
use Rattle.std.proofs.lemmas.List.Sorted.{IsPermutation-refl, IsPermutation-sym, IsPermutation-trans, IsPermutation-cons, IsPermutation-middle, IsPermutation-to_front, IsPermutation-append_left, IsPermutation-append_right, IsPermutation-append_comm, length_permutation}
use mathlib.Core.Option.{some, some-injective, some-ne-none}
use lib.ListN.{get_elem?}
use Rattle.crossbeam_deque.specs.Tasks.{Pushes, Pops, Takes, Finds, FindsFew, Forks, Merges, Admits}
use Rattle.std.proofs.lemmas.List.{set_comm}
use Rattle.std.proofs.Common.{⊎_elim}
use Rattle.atomic_table.proofs.Lists.{at_set, set_else}
use Rattle.branch_pool.specs.declared.rule.SeatView.{SeatView}
use Rattle.branch_pool.specs.Rule.{view_of, OffersNothing, IsEmpty, Carries, IsEmptyIfSpent, IsBalanced, HoldsAtMost}

module _ {B : Type 0} where
  abbrev pub O : SeatView B → List B
  O v = v.offered

  abbrev pub T : SeatView B → List B
  T v = v.taken

  abbrev N : SeatView B → ℕ
  N v = v.parts

  -- all views but one
  abbrev pub others : List (SeatView B) → ℕ → List (SeatView B)
  others [] n = []
  others (v ∷ vs) zero = vs
  others (v ∷ vs) (suc n) = v ∷ others vs n

  pub exchange : (a b c : List B) → IsPermutation (a ++ (b ++ c)) (b ++ (a ++ c))
  exchange a b c =
      let p : IsPermutation ((a ++ b) ++ c) ((b ++ a) ++ c) = IsPermutation-append_left c (a ++ b) (b ++ a) (IsPermutation-append_comm a b) in
      subst (λ (l : List B). IsPermutation (a ++ (b ++ c)) l) (append_assoc b a c) (subst (λ (l : List B). IsPermutation l ((b ++ a) ++ c)) (append_assoc a b c) p)

  -- the lists of all views: that of one, and those of the others
  pull : (f : SeatView B → List B) (views : List (SeatView B)) (port : ℕ) (v : SeatView B) → get_elem? views port ≡ some v → IsPermutation (flat_map f views) (f v ++ flat_map f (others views port))
  pull f [] port v e = absurd (some-ne-none v (sym e))
  pull f (x ∷ xs) zero v e = subst (λ (u : SeatView B). IsPermutation (f x ++ flat_map f xs) (f u ++ flat_map f xs)) (some-injective x v e) (IsPermutation-refl _)
  pull f (x ∷ xs) (suc n) v e =
      IsPermutation-trans _ _ _ (IsPermutation-append_right (f x) _ _ (pull f xs n v e)) (exchange (f x) (f v) (flat_map f (others xs n)))

  pull_set : (f : SeatView B → List B) (views : List (SeatView B)) (port : ℕ) (v w : SeatView B) → get_elem? views port ≡ some v → IsPermutation (flat_map f (set views port w)) (f w ++ flat_map f (others views port))
  pull_set f [] port v w e = absurd (some-ne-none v (sym e))
  pull_set f (x ∷ xs) zero v w e = IsPermutation-refl _
  pull_set f (x ∷ xs) (suc n) v w e =
      IsPermutation-trans _ _ _ (IsPermutation-append_right (f x) _ _ (pull_set f xs n v w e)) (exchange (f x) (f w) (flat_map f (others xs n)))

  parts_pull : (views : List (SeatView B)) (port : ℕ) (v : SeatView B) → get_elem? views port ≡ some v → sum_by N views ≡ v.parts + sum_by N (others views port)
  parts_pull [] port v e = absurd (some-ne-none v (sym e))
  parts_pull (x ∷ xs) zero v e = sum_by-cons N x xs ∙ ap (λ (u : SeatView B). u.parts + sum_by N xs) (some-injective x v e)
  parts_pull (x ∷ xs) (suc n) v e = omega (arith, sum_by-cons N x xs, sum_by-cons N x (others xs n), parts_pull xs n v e)

  parts_set : (views : List (SeatView B)) (port : ℕ) (v w : SeatView B) → get_elem? views port ≡ some v → sum_by N (set views port w) ≡ w.parts + sum_by N (others views port)
  parts_set [] port v w e = absurd (some-ne-none v (sym e))
  parts_set (x ∷ xs) zero v w e = sum_by-cons N w xs
  parts_set (x ∷ xs) (suc n) v w e = omega (arith, sum_by-cons N x (set xs n w), sum_by-cons N x (others xs n), parts_set xs n v w e)

  -- where no part is left, nothing was offered or taken
  none_left : (f : SeatView B → List B) → ((v : SeatView B) → (v.offered ≡ []) × (v.taken ≡ []) → f v ≡ []) → (views : List (SeatView B)) → All IsEmptyIfSpent views → sum_by N views ≡ 0 → flat_map f views ≡ []
  none_left f empty [] old nought = refl
  none_left f empty (x ∷ xs) old nought =
      let s = sum_by-cons N x xs in
      let h : x.parts ≡ 0 = omega (arith, s, nought) in
      let t : sum_by N xs ≡ 0 = omega (arith, s, nought) in
      rw (empty x (All-head IsEmptyIfSpent x xs old h)) (none_left f empty xs (All-tail IsEmptyIfSpent x xs old) t)

  spent_others : (views : List (SeatView B)) (port : ℕ) → All IsEmptyIfSpent views → All IsEmptyIfSpent (others views port)
  spent_others [] port old = All-nil IsEmptyIfSpent
  spent_others (x ∷ xs) zero old = All-tail IsEmptyIfSpent x xs old
  spent_others (x ∷ xs) (suc n) old = All-cons IsEmptyIfSpent x (others xs n) (All-head IsEmptyIfSpent x xs old) (spent_others xs n (All-tail IsEmptyIfSpent x xs old))

  -- the lists stay together where the view keeps its own
  same_all : (f : SeatView B → List B) (views : List (SeatView B)) (port : ℕ) (v w : SeatView B) → get_elem? views port ≡ some v → f w ≡ f v → IsPermutation (flat_map f views) (flat_map f (set views port w))
  same_all f views port v w e same =
      IsPermutation-trans _ _ _ (pull f views port v e)
      (subst (λ (l : List B). IsPermutation (l ++ flat_map f (others views port)) (flat_map f (set views port w))) same
      (IsPermutation-sym _ _ (pull_set f views port v w e)))

  -- one more at the end of a view's list
  more_all : (f : SeatView B → List B) (views : List (SeatView B)) (port : ℕ) (v w : SeatView B) (x : B) → get_elem? views port ≡ some v → f w ≡ f v ++ x ∷ [] → IsPermutation (x ∷ flat_map f views) (flat_map f (set views port w))
  more_all f views port v w x e more =
      let rest = flat_map f (others views port) in
      let at : (f v ++ x ∷ []) ++ rest ≡ f v ++ x ∷ rest = append_assoc (f v) (x ∷ []) rest in
      IsPermutation-trans _ _ _ (IsPermutation-cons x _ _ (pull f views port v e))
      (IsPermutation-sym _ _ (IsPermutation-trans _ _ _ (pull_set f views port v w e)
      (subst (λ (l : List B). IsPermutation (l ++ rest) (x ∷ (f v ++ rest))) (sym more)
      (subst (λ (l : List B). IsPermutation l (x ∷ (f v ++ rest))) (sym at) (IsPermutation-middle (f v) x rest)))))

  -- the views that offer nothing
  at_all : (P : SeatView B → Type 0) (views : List (SeatView B)) (port : ℕ) (v : SeatView B) → get_elem? views port ≡ some v → All P views → P v
  at_all P [] port v e old = absurd (some-ne-none v (sym e))
  at_all P (x ∷ xs) zero v e old = subst P (some-injective x v e) (All-head P x xs old)
  at_all P (x ∷ xs) (suc n) v e old = at_all P xs n v e (All-tail P x xs old)

  nothing_all : (views : List (SeatView B)) → All OffersNothing views → flat_map O views ≡ []
  nothing_all [] old = refl
  nothing_all (x ∷ xs) old = rw (All-head OffersNothing x xs old) (nothing_all xs (All-tail OffersNothing x xs old))

  -- a fact of all views but the first
  later_first : (P : SeatView B → Type 0) (views : List (SeatView B)) (port : ℕ) (w : SeatView B) → port ≡ 0 → All P (drop 1 views) → All P (drop 1 (set views port w))
  later_first P [] port w e old = old
  later_first P (x ∷ xs) zero w e old = old
  later_first P (x ∷ xs) (suc n) w e old = absurd (omega (arith, e))

  later_new : (P : SeatView B → Type 0) (views : List (SeatView B)) (port : ℕ) (w : SeatView B) → P w → All P (drop 1 views) → All P (drop 1 (set views port w))
  later_new P [] port w new old = old
  later_new P (x ∷ xs) zero w new old = old
  later_new P (x ∷ xs) (suc n) w new old = All-set P xs n w new old

  later_same : (P : SeatView B → Type 0) (views : List (SeatView B)) (port : ℕ) (v w : SeatView B) → get_elem? views port ≡ some v → (P v → P w) → All P (drop 1 views) → All P (drop 1 (set views port w))
  later_same P [] port v w at same old = old
  later_same P (x ∷ xs) zero v w at same old = old
  later_same P (x ∷ xs) (suc n) v w at same old = All-set P xs n w (same (at_all P xs n v at old)) old

  later_push : (P : SeatView B → Type 0) (views : List (SeatView B)) (r : SeatView B) → P r → All P (drop 1 views) → All P (drop 1 (views ++ r ∷ []))
  later_push P [] r new old = old
  later_push P (x ∷ xs) r new old = All-push P xs r old new

  -- where no part is left, each view is spent
  all_spent : (views : List (SeatView B)) → sum_by N views ≡ 0 → All (λ v. v.parts ≡ 0) views
  all_spent [] nought = All-nil (λ v. v.parts ≡ 0)
  all_spent (x ∷ xs) nought =
      let s = sum_by-cons N x xs in
      All-cons (λ v. v.parts ≡ 0) x xs (omega (arith, s, nought)) (all_spent xs (omega (arith, s, nought)))

  -- a fact of one view, and of all others, which are spent
  one_alone : (P : SeatView B → Type 0) (views : List (SeatView B)) (port : ℕ) (w : SeatView B) → ((v : SeatView B) → v.parts ≡ 0 → P v) → sum_by N (others views port) ≡ 0 → P w → All P (set views port w)
  one_alone P [] port w spent nought new = All-nil P
  one_alone P (x ∷ xs) zero w spent nought new = All-cons P w xs new (λ i d lt. spent _ (all_spent xs nought i d lt))
  one_alone P (x ∷ xs) (suc n) w spent nought new =
      let s = sum_by-cons N x (others xs n) in
      All-cons P x (set xs n w) (spent x (omega (arith, s, nought))) (one_alone P xs n w spent (omega (arith, s, nought)) new)

  -- where the first has all parts, the others are empty
  later_empty : (views : List (SeatView B)) (port : ℕ) (w : SeatView B) → port ≡ 0 → All IsEmptyIfSpent views → sum_by N (others views port) ≡ 0 → All IsEmpty (drop 1 (set views port w))
  later_empty [] port w e spent nought = All-nil IsEmpty
  later_empty (x ∷ xs) zero w e spent nought = λ i d lt. All-tail IsEmptyIfSpent x xs spent i d lt (all_spent xs nought i d lt)
  later_empty (x ∷ xs) (suc n) w e spent nought = absurd (omega (arith, e))

  owner_others : (views : List (SeatView B)) (port : ℕ) → port ≡ 0 → All OffersNothing (drop 1 views) → flat_map O (others views port) ≡ []
  owner_others [] port e old = refl
  owner_others (x ∷ xs) zero e old = nothing_all xs old
  owner_others (x ∷ xs) (suc n) e old = absurd (omega (arith, e))

  pub offers : (port : ℕ) (v : SeatView B) (x : B) → port ≡ 0 → 0 < v.parts → Pushes IsBalanced port v (x ∷ []) (λ w. w ≡ view_of v.seats v.parts (v.offered ++ x ∷ []) v.taken)
  offers port v x first some_part items views b at =
      let w = view_of v.seats v.parts (v.offered ++ x ∷ []) v.taken in
      let step : IsPermutation (x ∷ (items ++ flat_map T views)) ((items ++ x ∷ []) ++ flat_map T views) =
      subst (λ (l : List B). IsPermutation (x ∷ (items ++ flat_map T views)) l) (sym (append_assoc items (x ∷ []) (flat_map T views)))
      (IsPermutation-sym _ _ (IsPermutation-middle items x (flat_map T views))) in
      let kept : IsPermutation (flat_map O (set views port w)) ((items ++ x ∷ []) ++ flat_map T (set views port w)) =
      IsPermutation-trans _ _ _ (IsPermutation-sym _ _ (more_all O views port v w x at refl))
      (IsPermutation-trans _ _ _ (IsPermutation-cons x _ _ b.kept)
      (IsPermutation-trans _ _ _ step (IsPermutation-append_right (items ++ x ∷ []) _ _ (same_all T views port v w at refl)))) in (
        w,
        record {
          kept = kept;
          whole = omega (arith, b.whole, parts_pull views port v at, parts_set views port v w at);
          spent = All-set IsEmptyIfSpent views port w (λ nought. absurd (omega (arith, some_part, nought))) b.spent;
          owner = later_first OffersNothing views port w first b.owner;
          seats = b.seats;
          carried = All-set (Carries b.seats) views port w (at_all (Carries b.seats) views port v at b.carried) b.carried;
          alone = λ one. later_first IsEmpty views port w first (b.alone one);
        },
        refl,
      )

  pub learns : (port : ℕ) (v : SeatView B) (items : List B) (views : List (SeatView B)) → IsBalanced items views → get_elem? views port ≡ some v → v.parts ≡ 64 → IsPermutation v.offered (items ++ v.taken)
  learns port v items views b at all =
      let rest = others views port in
      let nought : sum_by N rest ≡ 0 = omega (arith, b.whole, parts_pull views port v at, all) in
      let spent = spent_others views port b.spent in
      let no_o : flat_map O rest ≡ [] = none_left O (λ u h. h.0) rest spent nought in
      let no_t : flat_map T rest ≡ [] = none_left T (λ u h. h.1) rest spent nought in
      let o : IsPermutation (flat_map O views) (v.offered) = subst (λ (l : List B). IsPermutation (flat_map O views) l) (ap (λ (l : List B). v.offered ++ l) no_o ∙ append-nil v.offered) (pull O views port v at) in
      let t : IsPermutation (flat_map T views) (v.taken) = subst (λ (l : List B). IsPermutation (flat_map T views) l) (ap (λ (l : List B). v.taken ++ l) no_t ∙ append-nil v.taken) (pull T views port v at) in
      IsPermutation-trans _ _ _ (IsPermutation-sym _ _ o) (IsPermutation-trans _ _ _ b.kept (IsPermutation-append_right items _ _ t))

  -- one left, of a list in which it stood anywhere
  leaves : (port : ℕ) (v : SeatView B) (x : B) (before items : List B) (views : List (SeatView B)) → (port ≡ 0) ⊎ (v.seats ≢ 1) → 0 < v.parts → IsPermutation before (x ∷ items) → IsBalanced before views → get_elem? views port ≡ some v
      → (w : SeatView B) × IsBalanced items (set views port w) × (w ≡ view_of v.seats v.parts v.offered (v.taken ++ x ∷ []))
  leaves port v x before items views who some_part moved b at =
      let w = view_of v.seats v.parts v.offered (v.taken ++ x ∷ []) in
      let first : IsPermutation (flat_map O views) (x ∷ (items ++ flat_map T views)) = IsPermutation-trans _ _ _ b.kept (IsPermutation-append_left (flat_map T views) before (x ∷ items) moved) in
      let kept : IsPermutation (flat_map O (set views port w)) (items ++ flat_map T (set views port w)) =
      IsPermutation-trans _ _ _ (IsPermutation-sym _ _ (same_all O views port v w at refl))
      (IsPermutation-trans _ _ _ first
      (IsPermutation-trans _ _ _ (IsPermutation-sym _ _ (IsPermutation-middle items x (flat_map T views)))
      (IsPermutation-append_right items _ _ (more_all T views port v w x at refl)))) in (
        w,
        record {
          kept = kept;
          whole = omega (arith, b.whole, parts_pull views port v at, parts_set views port v w at);
          spent = All-set IsEmptyIfSpent views port w (λ nought. absurd (omega (arith, some_part, nought))) b.spent;
          owner = later_same OffersNothing views port v w at (λ e. e) b.owner;
          seats = b.seats;
          carried = All-set (Carries b.seats) views port w (at_all (Carries b.seats) views port v at b.carried) b.carried;
          alone = λ one. ⊎_elim (λ first. later_first IsEmpty views port w first (b.alone one)) (λ more. absurd (more (at_all (Carries b.seats) views port v at b.carried some_part ∙ one))) who;
        },
        refl,
      )

  -- all that was offered to the deque: what it holds, what its own seat took, and what the others took
  holds : (port : ℕ) (v : SeatView B) (items : List B) (views : List (SeatView B)) → port ≡ 0 → IsBalanced items views → get_elem? views port ≡ some v → IsPermutation v.offered (items ++ (v.taken ++ flat_map T (others views port)))
  holds port v items views first b at =
      let o : IsPermutation (flat_map O views) v.offered = subst (λ (l : List B). IsPermutation (flat_map O views) l) (ap (λ (l : List B). v.offered ++ l) (owner_others views port first b.owner) ∙ append-nil v.offered) (pull O views port v at) in
      IsPermutation-trans _ _ _ (IsPermutation-sym _ _ o) (IsPermutation-trans _ _ _ b.kept (IsPermutation-append_right items _ _ (pull T views port v at)))

  abbrev pub Took : SeatView B → List B → SeatView B → Type 0
  Took v xs w = (w ≡ view_of v.seats v.parts v.offered (v.taken ++ xs)) × ((rest : List B) × IsPermutation v.offered (v.taken ++ (xs ++ rest)))

  pub takes : (port : ℕ) (v : SeatView B) → port ≡ 0 → 0 < v.parts → Pops IsBalanced port v (Took v)
  takes port v first some_part x items views b at =
      let before = items ++ x ∷ [] in
      let l = leaves port v x before items views (inl first) some_part (IsPermutation-to_front items x) b at in
      let R = flat_map T (others views port) in
      let p : IsPermutation v.offered (x ∷ (items ++ (v.taken ++ R))) = IsPermutation-trans _ _ _ (holds port v before views first b at) (IsPermutation-append_left (v.taken ++ R) before (x ∷ items) (IsPermutation-to_front items x)) in
      (l.0, l.1, (l.2, (items ++ R, IsPermutation-trans _ _ _ p (exchange (x ∷ items) v.taken R))))

  pub steals : (port : ℕ) (v : SeatView B) → v.seats ≢ 1 → 0 < v.parts → Takes IsBalanced port v 1 (λ xs w. w ≡ view_of v.seats v.parts v.offered (v.taken ++ xs))
  steals port v more some_part [] items views least one b at = absurd (omega (arith, least))
  steals port v more some_part (x ∷ []) items views least one b at = leaves port v x (x ∷ items) items views (inr more) some_part (IsPermutation-refl _) b at
  steals port v more some_part (x ∷ y ∷ ys) items views least one b at = absurd (omega (arith, one))

  pub deals : (port : ℕ) (v : SeatView B) → 1 < v.parts → Forks IsBalanced port v (view_of v.seats (v.parts - 1) v.offered v.taken) (view_of v.seats 1 [] [])
  deals port v more items views b at =
      let l = view_of v.seats (v.parts - 1) v.offered v.taken in
      let r : SeatView B = view_of v.seats 1 [] [] in
      let vs = set views port l in
      let o : IsPermutation (flat_map O (vs ++ r ∷ [])) (flat_map O views) =
      rw (flat_map-append O vs (r ∷ []), append-nil (flat_map O vs)) (IsPermutation-sym _ _ (same_all O views port v l at refl)) in
      let t : IsPermutation (flat_map T views) (flat_map T (vs ++ r ∷ [])) =
      rw (flat_map-append T vs (r ∷ []), append-nil (flat_map T vs)) (same_all T views port v l at refl) in
      record {
        kept = IsPermutation-trans _ _ _ o (IsPermutation-trans _ _ _ b.kept (IsPermutation-append_right items _ _ t));
        whole = omega (arith, more, b.whole, parts_pull views port v at, parts_set views port v l at, sum_by-append N vs (r ∷ []), sum_by-cons N r []);
        spent = All-push IsEmptyIfSpent vs r (All-set IsEmptyIfSpent views port l (λ nought. absurd (omega (arith, more, nought))) b.spent) (λ nought. (refl, refl));
        owner = later_push OffersNothing vs r refl (later_same OffersNothing views port v l at (λ e. e) b.owner);
        seats = b.seats;
        carried = let here = at_all (Carries b.seats) views port v at b.carried (omega (arith, more)) in All-push (Carries b.seats) vs r (All-set (Carries b.seats) views port l (λ some_part. here) b.carried) (λ some_part. here);
        alone = λ one. later_push IsEmpty vs r (refl, refl) (later_same IsEmpty views port v l at (λ e. e) (b.alone one));
      }

  -- the first view, while it has all parts, learns the number of seats
  pub settles : (port : ℕ) (v : SeatView B) (n : ℕ) → port ≡ 0 → v.parts ≡ 64 → Forks IsBalanced port v (view_of n v.parts v.offered v.taken) (view_of 0 0 [] [])
  settles port v n first all items views b at =
      let l = view_of n v.parts v.offered v.taken in
      let r : SeatView B = view_of 0 0 [] [] in
      let vs = set views port l in
      let nought : sum_by N (others views port) ≡ 0 = omega (arith, b.whole, parts_pull views port v at, all) in
      let o : IsPermutation (flat_map O (vs ++ r ∷ [])) (flat_map O views) =
      rw (flat_map-append O vs (r ∷ []), append-nil (flat_map O vs)) (IsPermutation-sym _ _ (same_all O views port v l at refl)) in
      let t : IsPermutation (flat_map T views) (flat_map T (vs ++ r ∷ [])) =
      rw (flat_map-append T vs (r ∷ []), append-nil (flat_map T vs)) (same_all T views port v l at refl) in
      record {
        kept = IsPermutation-trans _ _ _ o (IsPermutation-trans _ _ _ b.kept (IsPermutation-append_right items _ _ t));
        whole = omega (arith, b.whole, parts_pull views port v at, parts_set views port v l at, sum_by-append N vs (r ∷ []), sum_by-cons N r []);
        spent = All-push IsEmptyIfSpent vs r (All-set IsEmptyIfSpent views port l (λ none. absurd (omega (arith, all, none))) b.spent) (λ none. (refl, refl));
        owner = later_push OffersNothing vs r refl (later_same OffersNothing views port v l at (λ e. e) b.owner);
        seats = n;
        carried = All-push (Carries n) vs r (one_alone (Carries n) views port l (λ u none some_part. absurd (omega (arith, none, some_part))) nought (λ some_part. refl)) (λ none. absurd (omega (arith, none)));
        alone = λ one. later_push IsEmpty vs r (refl, refl) (later_empty views port l first b.spent nought);
      }

  -- the lists of two views stand in the one, and the other's is empty
  both_all : (f : SeatView B → List B) (views : List (SeatView B)) (port other : ℕ) (v u both spent : SeatView B) → ¬ (other ≡ port) → get_elem? views port ≡ some v → get_elem? views other ≡ some u
      → f both ≡ f v ++ f u → f spent ≡ [] → IsPermutation (flat_map f views) (flat_map f (set (set views port both) other spent))
  both_all f views port other v u both spent apart at there joined empty =
      let vs = set views other spent in
      let at' : get_elem? vs port ≡ some v = set_else views other port spent (λ e. apart (sym e)) ∙ at in
      let X = flat_map f (others views other) in
      let Y = flat_map f (others vs port) in
      let first : IsPermutation (flat_map f views) (f u ++ X) = pull f views other u there in
      let second : IsPermutation X (flat_map f vs) = let p = pull_set f views other u spent there in IsPermutation-sym _ _ (subst (λ (l : List B). IsPermutation (flat_map f vs) (l ++ X)) empty p) in
      let third : IsPermutation (flat_map f vs) (f v ++ Y) = pull f vs port v at' in
      let fourth : IsPermutation (f u ++ (f v ++ Y)) ((f v ++ f u) ++ Y) = subst (λ (l : List B). IsPermutation (f u ++ (f v ++ Y)) l) (sym (append_assoc (f v) (f u) Y)) (exchange (f u) (f v) Y) in
      let fifth : IsPermutation ((f v ++ f u) ++ Y) (flat_map f (set vs port both)) = subst (λ (l : List B). IsPermutation (l ++ Y) (flat_map f (set vs port both))) joined (IsPermutation-sym _ _ (pull_set f vs port v both at')) in
      subst (λ (l : List (SeatView B)). IsPermutation (flat_map f views) (flat_map f l)) (set_comm views other port spent both apart)
      (IsPermutation-trans _ _ _ first (IsPermutation-trans _ _ _ (IsPermutation-append_right (f u) _ _ (IsPermutation-trans _ _ _ second third)) (IsPermutation-trans _ _ _ fourth fifth)))

  both_parts : (views : List (SeatView B)) (port other : ℕ) (v u both spent : SeatView B) → ¬ (other ≡ port) → get_elem? views port ≡ some v → get_elem? views other ≡ some u
      → both.parts ≡ v.parts + u.parts → spent.parts ≡ 0 → sum_by N (set (set views port both) other spent) ≡ sum_by N views
  both_parts views port other v u both spent apart at there joined empty =
      let vs = set views other spent in
      let at' : get_elem? vs port ≡ some v = set_else views other port spent (λ e. apart (sym e)) ∙ at in
      rw (sym (set_comm views other port spent both apart))
      (omega (arith, joined, empty, parts_pull views other u there, parts_set views other u spent there, parts_pull vs port v at', parts_set vs port v both at'))

  pub joins : (port : ℕ) (v : SeatView B) (other : ℕ) (u : SeatView B) → port ≡ 0 → 0 < v.parts → Merges IsBalanced port v other u (view_of v.seats (v.parts + u.parts) (v.offered ++ u.offered) (v.taken ++ u.taken)) (view_of 0 0 [] [])
  joins port v other u first some_part items views b at apart at' =
      let both = view_of v.seats (v.parts + u.parts) (v.offered ++ u.offered) (v.taken ++ u.taken) in
      let spent : SeatView B = view_of 0 0 [] [] in
      let there : get_elem? views other ≡ some u = ⊎_elim (λ x. absurd (apart x.0)) (λ x. x.1) (at_set views port other both u at') in
      record {
        kept = IsPermutation-trans _ _ _ (IsPermutation-sym _ _ (both_all O views port other v u both spent apart at there refl refl))
            (IsPermutation-trans _ _ _ b.kept (IsPermutation-append_right items _ _ (both_all T views port other v u both spent apart at there refl refl)));
        whole = both_parts views port other v u both spent apart at there refl refl ∙ b.whole;
        spent = All-set IsEmptyIfSpent (set views port both) other spent (λ nought. (refl, refl)) (All-set IsEmptyIfSpent views port both (λ nought. absurd (omega (arith, some_part, nought))) b.spent);
        owner = later_new OffersNothing (set views port both) other spent refl (later_first OffersNothing views port both first b.owner);
        seats = b.seats;
        carried = All-set (Carries b.seats) (set views port both) other spent (λ none. absurd (omega (arith, none))) (All-set (Carries b.seats) views port both (λ all. at_all (Carries b.seats) views port v at b.carried some_part) b.carried);
        alone = λ one. later_new IsEmpty (set views port both) other spent (refl, refl) (later_first IsEmpty views port both first (b.alone one));
      }

  pub finds : (port : ℕ) (v : SeatView B) → port ≡ 0 → Finds IsBalanced port v (HoldsAtMost 0 0 v)
  finds port v first views b at = record { items = []; views = views; rule = b; seen = ap (λ n. get_elem? views n) (sym first) ∙ at; few = omega arith }

  pub finds_few : (port : ℕ) (v : SeatView B) → FindsFew IsBalanced 1 port v ((place : ℕ) × HoldsAtMost 1 place v)
  finds_few port v items views few b at = (port, record { items = items; views = views; rule = b; seen = at; few = few })

  nothing_held : (xs : List B) → length xs ≤ 0 → xs ≡ []
  nothing_held [] few = refl
  nothing_held (x ∷ xs) few = absurd (omega (arith, few))

  -- what an empty deque's own seat took of it is part of what it offered, and all, where it has all parts
  pub part_of : (v : SeatView B) → HoldsAtMost 0 0 v → (rest : List B) × IsPermutation v.offered (v.taken ++ rest) × (v.parts ≡ 64 → rest ≡ [])
  part_of v h =
      let rest = others h.views 0 in (
        flat_map T rest,
        subst (λ (l : List B). IsPermutation v.offered (l ++ (v.taken ++ flat_map T rest))) (nothing_held h.items h.few) (holds 0 v h.items h.views refl h.rule h.seen),
        λ all.
            let nought : sum_by N rest ≡ 0 = omega (arith, h.rule.whole, parts_pull h.views 0 v h.seen, all) in
            none_left T (λ u e. e.1) rest (spent_others h.views 0 h.rule.spent) nought,
      )

  pub guests : Admits {T = B} IsBalanced (view_of 0 0 [] [])
  guests items views b =
      let r : SeatView B = view_of 0 0 [] [] in
      record {
        kept = rw (flat_map-append O views (r ∷ []), flat_map-append T views (r ∷ []), append-nil (flat_map O views), append-nil (flat_map T views)) b.kept;
        whole = omega (arith, b.whole, sum_by-append N views (r ∷ []), sum_by-cons N r []);
        spent = All-push IsEmptyIfSpent views r b.spent (λ nought. (refl, refl));
        owner = later_push OffersNothing views r refl b.owner;
        seats = b.seats;
        carried = All-push (Carries b.seats) views r b.carried (λ none. absurd (omega (arith, none)));
        alone = λ one. later_push IsEmpty views r (refl, refl) (b.alone one);
      }
