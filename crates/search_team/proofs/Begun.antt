-- the jobs as the searchers begin
use Rattle.std.proofs.Common.{◌≡◌, ◌≢◌, ℕ, zero, suc, ◌+◌, ◌<◌, ◌≤◌, List, [], ◌∷◌, ◌++◌, Option, None, length, map, reverse, take, get_or, set, cond, ◌==◌, false, arith, refl, sym, ap, ap₂, subst, ◌∙◌, append_assoc, append-nil, inl}
use Rattle.std.specs.Prelude.{IsPermutation, IfSome, Contains}
use Rattle.std.specs.List.{All, range_with_len}
use Rattle.std.proofs.lemmas.List.{get_or-map, length-map, map-id, reverse-append}
use Rattle.std.proofs.lemmas.List.FromFn.{get_or-range_with_len, length-range_with_len, map-range_with_len_more}
use Rattle.std.proofs.lemmas.List.Elements.{All-cons, Contains-append_left, Contains-append_right}
use Rattle.std.proofs.lemmas.List.Sorted.{IsPermutation-refl, IsPermutation-sym, IsPermutation-trans, IsPermutation-append_right, IsPermutation-append_comm, Contains-permutation}
use Rattle.std.proofs.lemmas.Bool.Decides.{nat_tests}
use Rattle.cayley.specs.Problems.{Problem}
use Rattle.cayley.proofs.Ranking.MovedProblems.{map_push}
use Rattle.branch_pool.specs.Seats.{PoolData, IsSeatOf, all_taken}
use Rattle.searcher.specs.declared.branches.Branch.{Branch}
use Rattle.searcher.specs.declared.expansions.HaltCause.{HaltCause}
use Rattle.searcher.specs.declared.expansions.HaltCause.TheVariants.{OutOfMemory}
use Rattle.search_team.specs.declared.jobs.Job.{Job}
use Rattle.search_team.specs.Accounts.{IsMade}
use Rattle.search_team.specs.Searchers.{IsTold, IsWhole, IsJob, IsFresh, given_to}
use Rattle.search_team.proofs.Balances.{balance_none, balance_permuted}
use Rattle.search_team.proofs.Members.{each_member, if_some}

-- ---- lists
pub map_reverse : {X Y : Type 0} (f : X → Y) (xs : List X) → map f (reverse xs) ≡ reverse (map f xs)
map_reverse f [] = refl
map_reverse f (x ∷ xs) = ap (map f) (reverse-append (x ∷ []) xs) ∙ map_push f (reverse xs) x ∙ ap (λ l. l ++ f x ∷ []) (map_reverse f xs) ∙ sym (reverse-append (f x ∷ []) (map f xs))

-- a step of a pop and a push, where what was pushed stands reversed
pub moved_on : {Y : Type 0} (rest xs before : List Y) (y : Y) → xs ≡ rest ++ y ∷ [] → (rest ++ reverse (before ++ y ∷ [])) ≡ xs ++ reverse before
moved_on rest xs before y e = ap (λ l. rest ++ l) (reverse-append before (y ∷ [])) ∙ sym (append_assoc rest (y ∷ []) (reverse before)) ∙ ap (λ l. l ++ reverse before) (sym e)

-- jobs are made of the seats, the last first
pub popped_seats : {S J : Type 0} (f : J → S) (seats rest : List S) (seat : S) (jobs jobs' : List J) (j : J) (whole : List S) → seats ≡ rest ++ seat ∷ [] → jobs' ≡ jobs ++ j ∷ [] → f j ≡ seat
    → seats ++ reverse (map f jobs) ≡ whole → rest ++ reverse (map f jobs') ≡ whole
popped_seats f seats rest seat jobs jobs' j whole popped pushed is e =
    ap (λ l. rest ++ reverse l) (ap (map f) pushed ∙ map_push f jobs j ∙ ap (λ x. map f jobs ++ x ∷ []) is) ∙ moved_on rest seats (map f jobs) seat popped ∙ e

pub popped_numbers : {J : Type 0} (f : J → ℕ) (n m : ℕ) (jobs jobs' : List J) (j : J) (whole : List ℕ) → m ≡ n + 1 → jobs' ≡ jobs ++ j ∷ [] → f j ≡ n + 1
    → range_with_len 1 m ++ reverse (map f jobs) ≡ whole → range_with_len 1 n ++ reverse (map f jobs') ≡ whole
popped_numbers f n m jobs jobs' j whole more pushed is e =
    let popped : range_with_len 1 m ≡ range_with_len 1 n ++ (n + 1) ∷ [] = ap (range_with_len 1) more ∙ sym (map-id (range_with_len 1 (n + 1))) ∙ map-range_with_len_more (λ k. k) 1 n (n + 1) (omega arith) ∙ ap (λ l. l ++ (n + 1) ∷ []) (map-id (range_with_len 1 n)) in
    popped_seats f (range_with_len 1 m) (range_with_len 1 n) (n + 1) jobs jobs' j whole popped pushed is e

pub maps_same : {X Y : Type 0} (f : X → Y) (xs ys : List X) → length ys ≡ length xs → ((i : ℕ) (d : X) → i < length xs → f (get_or ys i d) ≡ f (get_or xs i d)) → map f ys ≡ map f xs
maps_same f [] [] l h = refl
maps_same f [] (y ∷ ys) l h = absurd (omega (arith, l))
maps_same f (x ∷ xs) [] l h = absurd (omega (arith, l))
maps_same f (x ∷ xs) (y ∷ ys) l h = ap₂ (λ a b. a ∷ b) (h 0 x (omega arith)) (maps_same f xs ys (omega (arith, l)) (λ i d lt. h (suc i) d (omega (arith, lt))))

pub take_front : {X : Type 0} (n : ℕ) (ys zs : List X) → n ≡ length ys → take n (ys ++ zs) ≡ ys
take_front zero [] zs e = refl
take_front (suc n) [] zs e = absurd (omega (arith, e))
take_front zero (y ∷ ys) zs e = absurd (omega (arith, e))
take_front (suc n) (y ∷ ys) zs e = ap (λ l. y ∷ l) (take_front n ys zs (omega (arith, e)))

-- what holds of each image holds of each
pub all_unmapped : {X Y : Type 0} (f : X → Y) (P : Y → Type 0) (xs : List X) (ys : List Y) → map f xs ≡ ys → All P ys → All (λ x. P (f x)) xs
all_unmapped f P xs ys e h = λ k d l. subst P (ap (λ z. get_or z k (f d)) (sym e) ∙ get_or-map f xs k d (f d) l) (h k (f d) (subst (λ z. k < length z) e (let m = length-map xs f in omega (arith, l, m))))

-- a branch from the end of what is to be offered goes to the end of what was
pub offered_more : {B : Type 0} (all o rest xs : List B) (b : B) → IsPermutation all (o ++ xs) → xs ≡ rest ++ b ∷ [] → IsPermutation all ((o ++ b ∷ []) ++ rest)
offered_more all o rest xs b p e =
    let turn : IsPermutation (o ++ (rest ++ b ∷ [])) (o ++ (b ∷ [] ++ rest)) = IsPermutation-append_right o _ _ (IsPermutation-append_comm rest (b ∷ [])) in
    IsPermutation-trans _ _ _ (subst (λ l. IsPermutation all (o ++ l)) e p) (subst (λ l. IsPermutation (o ++ (rest ++ b ∷ [])) l) (sym (append_assoc o (b ∷ []) rest)) turn)

-- ---- numbers
pub number_at : {J : Type 0} (number : J → ℕ) (jobs : List J) (k n : ℕ) (d : J) → map number jobs ≡ range_with_len 1 n → k < length jobs → number (get_or jobs k d) ≡ suc k
number_at number jobs k n d e l =
    let long : length jobs ≡ n = sym (length-map jobs number) ∙ ap length e ∙ length-range_with_len 1 n in
    sym (get_or-map number jobs k d 0 l) ∙ ap (λ z. get_or z k 0) e ∙ get_or-range_with_len 1 n k 0 (omega (arith, l, long)) ∙ omega arith

pub begun_all : {J : Type 0} (P : J → Type 0) (jobs : List J) (q : J) → 1 ≤ length jobs → P q → ((k : ℕ) (d : J) → suc k < length jobs → P (get_or jobs (suc k) d)) → All P (set jobs 0 q)
begun_all P [] q l p h = absurd (omega (arith, l))
begun_all P (j ∷ js) q l p h = All-cons P q js p (λ k d lt. h k d (omega (arith, lt)))

later_test : (n : ℕ) → (suc (suc n) == 1) ≡ false
later_test n = grind (arith, nat_tests)

pub not_first : (given : List Branch) (n : ℕ) → n ≢ 1 → given_to given n ≡ []
not_first given zero ne = refl
not_first given (suc zero) ne = absurd (ne refl)
not_first given (suc (suc n)) ne = ap (λ b. cond b given []) (later_test n)

is_first : (given : List Branch) (n : ℕ) → n ≡ 1 → given_to given n ≡ given
is_first given n e = subst (λ m. given_to given m ≡ given) (sym e) refl

-- ---- jobs
no_memory : (p : Problem) (left : List Branch) → IsTold p left OutOfMemory
no_memory p left = (tt, tt, λ f. tt)

module _ (p : Problem) where
  pub whole_begun : (given o hand : List Branch) (report : Option HaltCause) → IsPermutation given (o ++ hand) → (report ≡ None → hand ≡ []) → IfSome report (λ cause. cause ≡ OutOfMemory)
      → IsWhole p given [] o hand [] 0 report
  whole_begun given o hand report moved calm told =
      let back = IsPermutation-sym given (o ++ hand) moved in
      let there : (b : Branch) → Contains (o ++ hand) b → Contains given b = λ b c. Contains-permutation (o ++ hand) given b back c in
      let all : (b : Branch) → Contains given b → Contains (given ++ []) b = λ b c. Contains-append_left given [] b c in
      record {
        account = (0, omega arith, balance_permuted p given (given ++ []) given (o ++ hand) [] [] 0 (subst (λ l. IsPermutation given l) (sym (append-nil given)) (IsPermutation-refl given)) moved (IsPermutation-refl []) (balance_none p given));
        normals = tt;
        fit = tt;
        made = each_member (IsMade p given (given ++ [])) o (λ b c. inl (there b (Contains-append_left o hand b c)));
        kept = each_member (IsMade p (given ++ []) (given ++ [])) hand (λ b c. inl (all b (there b (Contains-append_right o hand b c))));
        calm = calm;
        told = if_some (λ cause. cause ≡ OutOfMemory) (IsTold p hand) report (λ cause e. subst (IsTold p hand) (sym e) (no_memory p hand)) told;
      }

  pub job_begun : (pool : PoolData) (given : List Branch) (j : Job) → j.number ≡ 1 → 1 ≤ length pool.deques → IsSeatOf pool j.seat → j.seat.number ≡ j.number
      → all_taken j.seat ≡ [] → j.found.items ≡ [] → j.solves ≡ 0
      → IsPermutation given (j.seat.offered ++ j.hand.items) → (j.report ≡ None → j.hand.items ≡ []) → IfSome j.report (λ cause. cause ≡ OutOfMemory)
      → IsJob p pool given j
  job_begun pool given j first some own number taken found solves moved calm told =
      let h = j.hand.items in
      let o = j.seat.offered in
      record {
        seat = own;
        number = number;
        range = subst (λ n. (1 ≤ n) × (n ≤ length pool.deques)) (sym first) (omega arith, some);
        whole =
            subst (λ g. IsWhole p g (all_taken j.seat) o h j.found.items j.solves j.report) (sym (is_first given j.number first))
            (subst (λ t. IsWhole p given t o h j.found.items j.solves j.report) (sym taken)
            (subst (λ f. IsWhole p given [] o h f j.solves j.report) (sym found)
            (subst (λ n. IsWhole p given [] o h [] n j.report) (sym solves) (whole_begun given o h j.report moved calm told))));
      }

  pub job_idle : (pool : PoolData) (given : List Branch) (j : Job) → IsFresh pool j → j.number ≢ 1 → 1 ≤ j.number → j.number ≤ length pool.deques → IsJob p pool given j
  job_idle pool given j f other least most =
      let o = j.seat.offered in
      let h = j.hand.items in
      let none : IsPermutation [] (o ++ h) = subst (λ l. IsPermutation [] (l ++ h)) (sym f.offered) (subst (λ l. IsPermutation [] l) (sym f.hand) (IsPermutation-refl [])) in
      record {
        seat = f.seat;
        number = f.number;
        range = (least, most);
        whole =
            subst (λ g. IsWhole p g (all_taken j.seat) o h j.found.items j.solves j.report) (sym (not_first given j.number other))
            (subst (λ t. IsWhole p [] t o h j.found.items j.solves j.report) (sym f.taken)
            (subst (λ x. IsWhole p [] [] o h x j.solves j.report) (sym f.found)
            (subst (λ n. IsWhole p [] [] o h [] n j.report) (sym f.solves)
            (whole_begun [] o h j.report none (λ e. f.hand) (subst (λ r. IfSome r (λ cause. cause ≡ OutOfMemory)) (sym f.report) tt)))));
      }
