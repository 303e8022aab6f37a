-- several jobs together
use Rattle.std.proofs.Common.{◌≡◌, ◌⊎◌, ℕ, zero, suc, ◌+◌, ◌≤◌, List, [], ◌∷◌, ◌++◌, Option, None, min, reverse, map, length, rules, arith, refl, sym, ap, subst, ◌∙◌, inl, inr, append_assoc, append-nil}
use Rattle.std.specs.Prelude.{IsPermutation, IfSome, Contains, flat_map}
use Rattle.std.specs.List.{All, range_with_len}
use Rattle.std.proofs.lemmas.Grind.{flat_map-append}
use Rattle.std.proofs.lemmas.List.{map-append}
use Rattle.std.proofs.lemmas.List.Folds.{flat_map-map}
use Rattle.std.proofs.lemmas.List.Elements.{Contains-append_left, Contains-append_right, Contains-append_cases}
use Rattle.std.proofs.lemmas.List.Sorted.{IsPermutation-refl, IsPermutation-trans, IsPermutation-reverse, IsPermutation-append_left, IsPermutation-append_right, IsPermutation-append_comm}
use Rattle.cayley.specs.declared.found.FoundCell.{FoundCell}
use Rattle.cayley.specs.Problems.{Problem}
use Rattle.cayley.specs.Cells.{Cell}
use Rattle.int_vectors.proofs.Each.{each_append}
use Rattle.branch_pool.specs.Seats.{PoolData, SeatData, IsSeatOf, AreAllSeats, all_taken, offered_by, taken_by}
use Rattle.branch_pool.proofs.Closed.{flat_permutation}
use Rattle.searcher.specs.declared.branches.Branch.{Branch}
use Rattle.searcher.specs.declared.expansions.HaltCause.{HaltCause}
use Rattle.searcher.specs.declared.expansions.HaltCause.TheVariants.{Tie, Overflow, OutOfMemory}
use Rattle.searcher.specs.Workings.{FitsWorking}
use Rattle.searcher.specs.Expansions.{HasLowestNormal}
use Rattle.searcher.specs.Searches.{IsOfLeft, top}
use Rattle.search_team.specs.declared.stopping.Part.{Part}
use Rattle.search_team.specs.Accounts.{IsMade}
use Rattle.search_team.specs.Searchers.{IsTold, IsWhole, given_to, given_by}
use Rattle.search_team.specs.Teams.{all_left, all_found}
use Rattle.search_team.proofs.Balances.{balance_sum, balance_permuted}
use Rattle.search_team.proofs.Members.{if_some, each_made}
use Rattle.search_team.proofs.Begun.{not_first}

-- ---- four lists
module _ {B : Type 0} (G T g t : List B) where
  pub into_left : (a : B) → Contains (G ++ T) a → Contains ((G ++ g) ++ (T ++ t)) a
  into_left a h = elim (Contains-append_cases G T a h) [
    | inl c ↦ Contains-append_left (G ++ g) (T ++ t) a (Contains-append_left G g a c)
    | inr c ↦ Contains-append_right (G ++ g) (T ++ t) a (Contains-append_left T t a c)
  ]

  pub into_right : (a : B) → Contains (g ++ t) a → Contains ((G ++ g) ++ (T ++ t)) a
  into_right a h = elim (Contains-append_cases g t a h) [
    | inl c ↦ Contains-append_left (G ++ g) (T ++ t) a (Contains-append_right G g a c)
    | inr c ↦ Contains-append_right (G ++ g) (T ++ t) a (Contains-append_right T t a c)
  ]

  four : IsPermutation ((G ++ T) ++ (g ++ t)) ((G ++ g) ++ (T ++ t))
  four =
      let inner : IsPermutation (T ++ (g ++ t)) (g ++ (T ++ t)) =
      subst (λ l. IsPermutation (T ++ (g ++ t)) l) (append_assoc g T t)
      (subst (λ l. IsPermutation l ((g ++ T) ++ t)) (append_assoc T g t) (IsPermutation-append_left t (T ++ g) (g ++ T) (IsPermutation-append_comm T g))) in
      subst (λ l. IsPermutation l ((G ++ g) ++ (T ++ t))) (sym (append_assoc G T (g ++ t)))
      (subst (λ l. IsPermutation (G ++ (T ++ (g ++ t))) l) (sym (append_assoc G g (T ++ t))) (IsPermutation-append_right G (T ++ (g ++ t)) (g ++ (T ++ t)) inner))

-- ---- causes of more branches
pub of_more : (p : Problem) (left more : List Branch) → ((c : Cell) → Contains (map (λ (b : Branch). b.cell) left) c → Contains (map (λ (b : Branch). b.cell) more) c)
    → (cause : HaltCause) → IsOfLeft p left cause → IsOfLeft p more cause
of_more p left more f (Tie proof) h = f proof.cell h
of_more p left more f (Overflow cell) h = (f cell h.0, h.1, h.2)
of_more p left more f OutOfMemory h = tt

pub cells_left : (L l : List Branch) (c : Cell) → Contains (map (λ (b : Branch). b.cell) L) c → Contains (map (λ (b : Branch). b.cell) (L ++ l)) c
cells_left L l c h = subst (λ k. Contains k c) (sym (map-append (λ (b : Branch). b.cell) L l)) (Contains-append_left (map (λ (b : Branch). b.cell) L) (map (λ (b : Branch). b.cell) l) c h)

pub cells_right : (L l : List Branch) (c : Cell) → Contains (map (λ (b : Branch). b.cell) l) c → Contains (map (λ (b : Branch). b.cell) (L ++ l)) c
cells_right L l c h = subst (λ k. Contains k c) (sym (map-append (λ (b : Branch). b.cell) L l)) (Contains-append_right (map (λ (b : Branch). b.cell) L) (map (λ (b : Branch). b.cell) l) c h)

module _ (p : Problem) where
  told_left : (L l : List Branch) (cause : HaltCause) → IsTold p L cause → IsTold p (L ++ l) cause
  told_left L l cause h = (of_more p L (L ++ l) (cells_left L l) cause h.0, h.1, h.2)

  told_right : (L l : List Branch) (cause : HaltCause) → IsTold p l cause → IsTold p (L ++ l) cause
  told_right L l cause h = (of_more p l (L ++ l) (cells_right L l) cause h.0, h.1, h.2)

  pub whole_sum : (G T O L g t o l : List Branch) (F f : List FoundCell) (n m s : ℕ) (r q u : Option HaltCause)
      → IsWhole p G T O L F n r → IsWhole p g t o l f m q → s ≡ min (n + m) top
      → (u ≡ r) ⊎ (u ≡ q) → (u ≡ None → (r ≡ None) × (q ≡ None))
      → IsWhole p (G ++ g) (T ++ t) (O ++ o) (L ++ l) (F ++ f) s u
  whole_sum G T O L g t o l F f n m s r q u a b e one both =
      let ins = (G ++ g) ++ (T ++ t) in
      record {
        account = (
          a.account.0 + b.account.0,
          (let x = a.account.1 in let y = b.account.1 in omega (arith, e, x, y)),
          balance_permuted p ((G ++ T) ++ (g ++ t)) ins ((O ++ L) ++ (o ++ l)) ((O ++ o) ++ (L ++ l)) (F ++ f) (F ++ f) (a.account.0 + b.account.0) (four G T g t) (four O L o l) (IsPermutation-refl (F ++ f))
              (balance_sum p (G ++ T) (O ++ L) (g ++ t) (o ++ l) F f a.account.0 b.account.0 a.account.2 b.account.2),
        );
        normals = each_append (HasLowestNormal p) F f a.normals b.normals;
        fit = each_append (λ (x : FoundCell). FitsWorking p x.cell) F f a.fit b.fit;
        made = each_append (IsMade p (G ++ g) ins) O o
            (each_made p G (G ++ g) (G ++ T) ins (λ x c. Contains-append_left G g x c) (into_left G T g t) O a.made)
            (each_made p g (G ++ g) (g ++ t) ins (λ x c. Contains-append_right G g x c) (into_right G T g t) o b.made);
        kept = each_append (IsMade p ins ins) L l
            (each_made p (G ++ T) ins (G ++ T) ins (into_left G T g t) (into_left G T g t) L a.kept)
            (each_made p (g ++ t) ins (g ++ t) ins (into_right G T g t) (into_right G T g t) l b.kept);
        calm = λ z. let k = both z in ap (λ x. x ++ l) (a.calm k.0) ∙ b.calm k.1;
        told = elim one [
          | inl i ↦ subst (λ x. IfSome x (IsTold p (L ++ l))) (sym i) (if_some (IsTold p L) (IsTold p (L ++ l)) r (told_left L l) a.told)
          | inr i ↦ subst (λ x. IfSome x (IsTold p (L ++ l))) (sym i) (if_some (IsTold p l) (IsTold p (L ++ l)) q (told_right L l) b.told)
        ];
      }

-- ---- one more at the end
pub flat_snoc : {X Y : Type 0} (f : X → List Y) (xs : List X) (x : X) → flat_map f (xs ++ x ∷ []) ≡ flat_map f xs ++ f x
flat_snoc f xs x = flat_map-append f xs (x ∷ []) ∙ ap (λ l. flat_map f xs ++ l) (append-nil (f x))

pub left_snoc : (parts rest : List Part) (part : Part) → parts ≡ rest ++ part ∷ [] → all_left parts ≡ all_left rest ++ part.left.items
left_snoc parts rest part e = ap all_left e ∙ flat_snoc (λ (p : Part). p.left.items) rest part

pub found_snoc : (parts rest : List Part) (part : Part) → parts ≡ rest ++ part ∷ [] → all_found parts ≡ all_found rest ++ part.found.items
found_snoc parts rest part e = ap all_found e ∙ flat_snoc (λ (p : Part). p.found.items) rest part

no_more : {X : Type 0} (xs ys : List X) → xs ++ ys ≡ [] → (xs ≡ []) × (ys ≡ [])
no_more [] ys e = (refl, e)
no_more (x ∷ xs) ys e = absurd (search (e, rules))

pub none_rest : (parts rest : List Part) (part : Part) → parts ≡ rest ++ part ∷ [] → all_left parts ≡ [] → all_left rest ≡ []
none_rest parts rest part e n = (no_more (all_left rest) part.left.items (sym (left_snoc parts rest part e) ∙ n)).0

pub moved_found : {X : Type 0} (all cells cells' rest more : List X) → IsPermutation all ((rest ++ more) ++ cells) → cells' ≡ cells ++ more → IsPermutation all (rest ++ cells')
moved_found all cells cells' rest more p e =
    subst (λ l. IsPermutation all (rest ++ l)) (sym e)
    (IsPermutation-trans all (rest ++ (more ++ cells)) (rest ++ (cells ++ more)) (subst (λ l. IsPermutation all l) (append_assoc rest more cells) p) (IsPermutation-append_right rest _ _ (IsPermutation-append_comm more cells)))

-- what the seats and parts of some jobs are together
abbrev pub IsTeam : Problem → List Branch → List (SeatData Branch) → List Part → ℕ → Option HaltCause → Type 0
IsTeam p given seats parts solves report = IsWhole p (given_by given seats) (taken_by seats) (offered_by seats) (all_left parts) (all_found parts) solves report

pub one_more : (p : Problem) (given : List Branch) (seats seats' : List (SeatData Branch)) (parts parts' : List Part) (solves m s number : ℕ) (report q u : Option HaltCause) (seat : SeatData Branch) (part : Part)
    → IsTeam p given seats parts solves report → seat.number ≡ number → IsWhole p (given_to given number) (all_taken seat) seat.offered part.left.items part.found.items m q
    → seats' ≡ seats ++ seat ∷ [] → parts' ≡ parts ++ part ∷ []
    → s ≡ min (solves + m) top → (u ≡ report) ⊎ (u ≡ q) → (u ≡ None → (report ≡ None) × (q ≡ None))
    → IsTeam p given seats' parts' s u
one_more p given seats seats' parts parts' solves m s number report q u seat part a is b es ep e one both =
    let own = subst (λ n. IsWhole p (given_to given n) (all_taken seat) seat.offered part.left.items part.found.items m q) (sym is) b in
    let sum = whole_sum p (given_by given seats) (taken_by seats) (offered_by seats) (all_left parts) (given_to given seat.number) (all_taken seat) seat.offered part.left.items (all_found parts) part.found.items solves m s report q u a own e one both in
    subst (λ x. IsTeam p given x parts' s u) (sym es) (subst (λ x. IsTeam p given (seats ++ seat ∷ []) x s u) (sym ep)
    (subst (λ x. IsWhole p x (taken_by (seats ++ seat ∷ [])) (offered_by (seats ++ seat ∷ [])) (all_left (parts ++ part ∷ [])) (all_found (parts ++ part ∷ [])) s u) (sym (flat_snoc (λ (s : SeatData Branch). given_to given s.number) seats seat))
    (subst (λ x. IsWhole p (given_by given seats ++ given_to given seat.number) x (offered_by (seats ++ seat ∷ [])) (all_left (parts ++ part ∷ [])) (all_found (parts ++ part ∷ [])) s u) (sym (flat_snoc (λ (s : SeatData Branch). all_taken s) seats seat))
    (subst (λ x. IsWhole p (given_by given seats ++ given_to given seat.number) (taken_by seats ++ all_taken seat) x (all_left (parts ++ part ∷ [])) (all_found (parts ++ part ∷ [])) s u) (sym (flat_snoc (λ (s : SeatData Branch). s.offered) seats seat))
    (subst (λ x. IsWhole p (given_by given seats ++ given_to given seat.number) (taken_by seats ++ all_taken seat) (offered_by seats ++ seat.offered) x (all_found (parts ++ part ∷ [])) s u) (sym (flat_snoc (λ (p : Part). p.left.items) parts part))
    (subst (λ x. IsWhole p (given_by given seats ++ given_to given seat.number) (taken_by seats ++ all_taken seat) (offered_by seats ++ seat.offered) (all_left parts ++ part.left.items) x s u) (sym (flat_snoc (λ (p : Part). p.found.items) parts part)) sum))))))

-- ---- the seats
pub seats_whole : (pool : PoolData) (seats : List (SeatData Branch)) → All (IsSeatOf pool) seats → reverse (map (λ (s : SeatData Branch). s.number) seats) ≡ range_with_len 1 (length pool.deques) → AreAllSeats pool seats
seats_whole pool seats own e = record { own = own; each_once = subst (λ l. IsPermutation (map (λ (s : SeatData Branch). s.number) seats) l) e (IsPermutation-reverse (map (λ (s : SeatData Branch). s.number) seats)) }

none_later : (given : List Branch) (k m : ℕ) → 2 ≤ k → flat_map (given_to given) (range_with_len k m) ≡ []
none_later given k zero l = refl
none_later given k (suc m) l = ap (λ x. x ++ flat_map (given_to given) (range_with_len (k + 1) m)) (not_first given k (λ e. absurd (omega (arith, e, l)))) ∙ none_later given (k + 1) m (omega (arith, l))

first_gives : (given : List Branch) (n : ℕ) → 1 ≤ n → flat_map (given_to given) (range_with_len 1 n) ≡ given
first_gives given zero l = absurd (omega (arith, l))
first_gives given (suc n) l = ap (λ l. given ++ l) (none_later given 2 n (omega arith)) ∙ append-nil given

pub given_back : (given : List Branch) (pool : PoolData) (seats : List (SeatData Branch)) → AreAllSeats pool seats → 1 ≤ length pool.deques → IsPermutation (given_by given seats) given
given_back given pool seats all l =
    let numbers = map (λ (s : SeatData Branch). s.number) seats in
    let moved = flat_permutation (given_to given) numbers (range_with_len 1 (length pool.deques)) all.each_once in
    subst (λ x. IsPermutation x given) (flat_map-map (given_to given) (λ (s : SeatData Branch). s.number) seats)
    (subst (λ x. IsPermutation (flat_map (given_to given) numbers) x) (first_gives given (length pool.deques) l) moved)
