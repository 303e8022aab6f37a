-- a turn keeps a job whole
use Rattle.std.proofs.Common.{◌≡◌, ◌≤◌, ℕ, suc, ◌+◌, List, [], ◌∷◌, ◌++◌, Option, None, Some, rules, arith, refl, sym, ap, subst, ◌∙◌, inl, inr, append_assoc, append-nil, length}
use Rattle.std.specs.Prelude.{IsPermutation, IfSome, Contains}
use Rattle.std.proofs.lemmas.List.Elements.{Contains-append_left}
use Rattle.std.proofs.lemmas.List.Sorted.{IsPermutation-refl, IsPermutation-trans, IsPermutation-append_right, IsPermutation-append_comm, Contains-permutation}
use Rattle.int_vectors.specs.Vectors.{Each}
use Rattle.cayley.specs.declared.found.FoundCell.{FoundCell}
use Rattle.cayley.specs.Problems.{Problem}
use Rattle.cayley.specs.Valid.{IsStillProblem}
use Rattle.cayley.specs.Shares.{Solved}
use Rattle.cayley.specs.Ties.{IsTieFree}
use Rattle.int_vectors.proofs.Each.{each_append, each_weaker}
use Rattle.cayley.proofs.Algebra.RowDependencies.{each-left, each-right}
use Rattle.branch_pool.specs.Seats.{PoolData, IsSeatOf, all_taken}
use Rattle.searcher.specs.declared.branches.Branch.{Branch}
use Rattle.searcher.specs.declared.expansions.Expansion.{Expansion}
use Rattle.searcher.specs.declared.expansions.HaltCause.{HaltCause}
use Rattle.searcher.specs.Branches.{branch_of}
use Rattle.searcher.specs.Workings.{FitsWorking}
use Rattle.searcher.specs.Expansions.{IsExpansion, IsCause, HasLowestNormal, ShowsTieAtEnd, HasNoTie}
use Rattle.searcher.specs.Searches.{opened, found_in, top}
use Rattle.searcher.proofs.Turns.{turn_normals, turn_fit}
use Rattle.searcher.proofs.Results.{cause_left}
use Rattle.search_team.specs.declared.jobs.Job.{Job}
use Rattle.search_team.specs.Accounts.{IsBalance, IsMade, IsChildOf}
use Rattle.search_team.specs.Searchers.{IsTold, IsWhole, IsJob, given_to}
use Rattle.search_team.proofs.Balances.{balance_sum, balance_more, balance_permuted}
use Rattle.search_team.proofs.Members.{each_made}
use Rattle.search_team.proofs.Expanded.{expansion_balance, opened_children}

-- one that stands at the end of the first goes to the second
to_second : {B : Type 0} (g t t' : List B) (b : B) → IsPermutation (b ∷ t) t' → IsPermutation ((g ++ t) ++ b ∷ []) (g ++ t')
to_second g t t' b p =
    subst (λ l. IsPermutation l (g ++ t')) (sym (append_assoc g t (b ∷ [])))
    (IsPermutation-append_right g (t ++ b ∷ []) t' (IsPermutation-trans (t ++ b ∷ []) (b ∷ t) t' (IsPermutation-append_comm t (b ∷ [])) p))

last_there : {B : Type 0} (xs : List B) (b : B) → Contains (xs ++ b ∷ []) b
last_there [] b = (0, omega arith, refl)
last_there (x ∷ xs) b = let c = last_there xs b in (suc c.0, omega (arith, c.1), c.2)

module _ (p : Problem) (g t t' : List Branch) (b : Branch) (moved : IsPermutation (b ∷ t) t') where
  grown : (a : Branch) → Contains (g ++ t) a → Contains (g ++ t') a
  grown a h = Contains-permutation ((g ++ t) ++ b ∷ []) (g ++ t') a (to_second g t t' b moved) (Contains-append_left (g ++ t) (b ∷ []) a h)

  newest : Contains (g ++ t') b
  newest = Contains-permutation ((g ++ t) ++ b ∷ []) (g ++ t') b (to_second g t t' b moved) (last_there (g ++ t) b)

  made_on : (xs : List Branch) → Each xs (IsMade p g (g ++ t)) → Each xs (IsMade p g (g ++ t'))
  made_on xs h = each_made p g g (g ++ t) (g ++ t') (λ a c. c) grown xs h

  kids_made : (kids : List Branch) → Each kids (IsChildOf p b) → Each kids (IsMade p g (g ++ t'))
  kids_made kids h = each_weaker (IsChildOf p b) (IsMade p g (g ++ t')) kids (λ k c. inr (b, newest, c)) h

  -- the branch was expanded
  pub turned_by : (still : IsStillProblem p) (e : Expansion) → IsExpansion p b e → (o o' hand hand' : List Branch) (found found' : List FoundCell) (before after : ℕ) (report report' : Option HaltCause)
      → IsWhole p g t o hand found before report → report ≡ None
      → Solved p top (branch_of b) before after
      → o' ++ hand' ≡ o ++ opened e → found' ≡ found ++ found_in e
      → (report' ≡ None → hand' ≡ []) → IfSome report' (IsTold p hand')
      → IsWhole p g t' o' hand' found' after report'
  turned_by still e is o o' hand hand' found found' before after report report' was none solved outs finds calm told =
      let a = was.account in
      let few : before ≤ top = let e = a.1 in omega (arith, e) in
      let x = expansion_balance p still b e is before after few solved in
      let out : (o ++ hand) ++ opened e ≡ o' ++ hand' = ap (λ l. (o ++ l) ++ opened e) (was.calm none) ∙ ap (λ l. l ++ opened e) (append-nil o) ∙ sym outs in
      let all : Each (o' ++ hand') (IsMade p g (g ++ t')) = subst (λ l. Each l (IsMade p g (g ++ t'))) (sym outs) (each_append (IsMade p g (g ++ t')) o (opened e) (made_on o was.made) (kids_made (opened e) (opened_children p b e is))) in
      record {
        account = (
          a.0 + x.0,
          (let d = a.1 in let f = x.1 in omega (arith, d, f)),
          subst (λ l. IsBalance p (g ++ t') (o' ++ hand') l (a.0 + x.0)) (sym finds)
              (balance_permuted p ((g ++ t) ++ b ∷ []) (g ++ t') ((o ++ hand) ++ opened e) (o' ++ hand') (found ++ found_in e) (found ++ found_in e) (a.0 + x.0) (to_second g t t' b moved)
              (subst (λ l. IsPermutation ((o ++ hand) ++ opened e) l) out (IsPermutation-refl ((o ++ hand) ++ opened e))) (IsPermutation-refl (found ++ found_in e))
              (balance_sum p (g ++ t) (o ++ hand) (b ∷ []) (opened e) found (found_in e) a.0 x.0 a.2 x.2)),
        );
        normals = subst (λ l. Each l (HasLowestNormal p)) (sym finds) (turn_normals p b e is found was.normals);
        fit = subst (λ l. Each l (λ (x : FoundCell). FitsWorking p x.cell)) (sym finds) (turn_fit p b e is found was.fit);
        made = each-left (IsMade p g (g ++ t')) o' hand' all;
        kept = each_made p g (g ++ t') (g ++ t') (g ++ t') (λ a c. Contains-append_left g t' a c) (λ a c. c) hand' (each-right (IsMade p g (g ++ t')) o' hand' all);
        calm = calm;
        told = told;
      }

  -- it was refused and is held
  pub held_by : (o hand hand' : List Branch) (found : List FoundCell) (solves : ℕ) (report : Option HaltCause) (cause : HaltCause)
      → IsWhole p g t o hand found solves report → report ≡ None → hand' ≡ hand ++ b ∷ []
      → IsCause p b cause → ShowsTieAtEnd p cause → (IsTieFree p → HasNoTie cause)
      → IsWhole p g t' o hand' found solves (Some cause)
  held_by o hand hand' found solves report cause was none holds why tie untied =
      let a = was.account in
      let there : hand' ≡ b ∷ [] = holds ∙ ap (λ l. l ++ b ∷ []) (was.calm none) in
      record {
        account = (
          a.0,
          a.1,
          balance_permuted p ((g ++ t) ++ b ∷ []) (g ++ t') ((o ++ hand) ++ b ∷ []) (o ++ hand') found found a.0 (to_second g t t' b moved)
              (subst (λ l. IsPermutation ((o ++ hand) ++ b ∷ []) l) (append_assoc o hand (b ∷ []) ∙ ap (λ l. o ++ l) (sym holds)) (IsPermutation-refl ((o ++ hand) ++ b ∷ [])))
              (IsPermutation-refl found) (balance_more p (g ++ t) (o ++ hand) (b ∷ []) found a.0 a.2),
        );
        normals = was.normals;
        fit = was.fit;
        made = made_on o was.made;
        kept = subst (λ l. Each l (IsMade p (g ++ t') (g ++ t'))) (sym there) (inl newest, tt);
        calm = λ e. absurd (search (e, rules));
        told = (cause_left p hand' hand b cause holds why, tie, untied);
      }

module _ (p : Problem) (pool : PoolData) (given : List Branch) (j j' : Job) (was : IsJob p pool given j) (number : j'.number ≡ j.number) (seat_number : j'.seat.number ≡ j.seat.number) (own : IsSeatOf pool j'.seat) where
  at_job : IsWhole p (given_to given j.number) (all_taken j'.seat) j'.seat.offered j'.hand.items j'.found.items j'.solves j'.report → IsJob p pool given j'
  at_job w = record {
    seat = own;
    number = seat_number ∙ was.number ∙ sym number;
    range = subst (λ n. (1 ≤ n) × (n ≤ length pool.deques)) (sym number) was.range;
    whole = subst (λ n. IsWhole p (given_to given n) (all_taken j'.seat) j'.seat.offered j'.hand.items j'.found.items j'.solves j'.report) (sym number) w;
  }

  pub turned : (still : IsStillProblem p) (b : Branch) (e : Expansion) → IsExpansion p b e → j.report ≡ None
      → IsPermutation (b ∷ all_taken j.seat) (all_taken j'.seat)
      → Solved p top (branch_of b) j.solves j'.solves
      → j'.seat.offered ++ j'.hand.items ≡ j.seat.offered ++ opened e → j'.found.items ≡ j.found.items ++ found_in e
      → (j'.report ≡ None → j'.hand.items ≡ []) → IfSome j'.report (IsTold p j'.hand.items)
      → IsJob p pool given j'
  turned still b e is none moved solved outs finds calm told =
      at_job (turned_by p (given_to given j.number) (all_taken j.seat) (all_taken j'.seat) b moved still e is j.seat.offered j'.seat.offered j.hand.items j'.hand.items j.found.items j'.found.items j.solves j'.solves j.report j'.report
      was.whole none solved outs finds calm told)

  pub held : (b : Branch) (cause : HaltCause) → j.report ≡ None → j'.report ≡ Some cause
      → IsPermutation (b ∷ all_taken j.seat) (all_taken j'.seat)
      → j'.seat.offered ≡ j.seat.offered → j'.hand.items ≡ j.hand.items ++ b ∷ [] → j'.found.items ≡ j.found.items → j'.solves ≡ j.solves
      → IsCause p b cause → ShowsTieAtEnd p cause → (IsTieFree p → HasNoTie cause)
      → IsJob p pool given j'
  held b cause none some moved offers holds finds solves why tie untied =
      at_job
      (subst (λ r. IsWhole p (given_to given j.number) (all_taken j'.seat) j'.seat.offered j'.hand.items j'.found.items j'.solves r) (sym some)
      (subst (λ o. IsWhole p (given_to given j.number) (all_taken j'.seat) o j'.hand.items j'.found.items j'.solves (Some cause)) (sym offers)
      (subst (λ f. IsWhole p (given_to given j.number) (all_taken j'.seat) j.seat.offered j'.hand.items f j'.solves (Some cause)) (sym finds)
      (subst (λ n. IsWhole p (given_to given j.number) (all_taken j'.seat) j.seat.offered j'.hand.items j.found.items n (Some cause)) (sym solves)
      (held_by p (given_to given j.number) (all_taken j.seat) (all_taken j'.seat) b moved j.seat.offered j.hand.items j'.hand.items j.found.items j.solves j.report cause was.whole none holds why tie untied)))))

  -- nothing but the report changed
  pub quiet : (r : Option HaltCause) → j'.report ≡ r → (r ≡ None → j.hand.items ≡ []) → IfSome r (IsTold p j.hand.items)
      → j'.seat ≡ j.seat → j'.hand.items ≡ j.hand.items → j'.found.items ≡ j.found.items → j'.solves ≡ j.solves
      → IsJob p pool given j'
  quiet r report calm told seat holds finds solves =
      let w = was.whole in
      let now : IsWhole p (given_to given j.number) (all_taken j.seat) j.seat.offered j.hand.items j.found.items j.solves r = record {
        account = w.account;
        normals = w.normals;
        fit = w.fit;
        made = w.made;
        kept = w.kept;
        calm = calm;
        told = told;
      } in
      at_job
      (subst (λ s. IsWhole p (given_to given j.number) (all_taken s) s.offered j'.hand.items j'.found.items j'.solves j'.report) (sym seat)
      (subst (λ h. IsWhole p (given_to given j.number) (all_taken j.seat) j.seat.offered h j'.found.items j'.solves j'.report) (sym holds)
      (subst (λ f. IsWhole p (given_to given j.number) (all_taken j.seat) j.seat.offered j.hand.items f j'.solves j'.report) (sym finds)
      (subst (λ n. IsWhole p (given_to given j.number) (all_taken j.seat) j.seat.offered j.hand.items j.found.items n j'.report) (sym solves)
      (subst (λ r. IsWhole p (given_to given j.number) (all_taken j.seat) j.seat.offered j.hand.items j.found.items j.solves r) (sym report) now)))))
