-- which branches a searcher expands by its walk
use Rattle.std.proofs.Common.{◌≡◌, List, ◌∷◌, ◌++◌, arith, refl, sym, subst, inl, inr}
use Rattle.std.specs.Prelude.{IsPermutation, Contains}
use Rattle.std.specs.List.{All}
use Rattle.std.proofs.lemmas.List.Elements.{All-contains, Contains-append_left, Contains-append_right}
use Rattle.std.proofs.lemmas.List.Sorted.{IsPermutation-sym, Contains-permutation}
use Rattle.int_vectors.specs.Vectors.{Each}
use Rattle.cayley.specs.declared.found.Begin.TheVariants.{Start}
use Rattle.cayley.specs.Problems.{Problem, IsProblem}
use Rattle.int_vectors.proofs.Each.{each_append, each_weaker}
use Rattle.cayley.proofs.Algebra.RowDependencies.{each-left}
use Rattle.searcher.specs.declared.branches.Branch.{Branch}
use Rattle.searcher.specs.declared.expansions.Expansion.{Expansion}
use Rattle.searcher.specs.Expansions.{IsExpansion}
use Rattle.searcher.specs.Searches.{opened}
use Rattle.searcher.specs.Walks.{IsMade}
use Rattle.searcher.proofs.MadeBranches.{opened_made}
use Rattle.search_team.specs.Walkers.{IsReady}
use Rattle.search_team.proofs.Members.{each_member, member_each}

-- what a seat took was offered
pub was_offered : {B : Type 0} (offered taken rest : List B) (b : B) → IsPermutation offered (taken ++ b ∷ rest) → Contains offered b
was_offered offered taken rest b moved =
    Contains-permutation (taken ++ b ∷ rest) offered b (IsPermutation-sym offered (taken ++ b ∷ rest) moved)
    (Contains-append_right taken (b ∷ rest) b (0, omega arith, refl))

module _ (p : Problem) where
  pub ready_member : (offered : List Branch) (b : Branch) → Each offered (IsReady p) → Contains offered b → IsReady p b
  ready_member offered b h c = member_each (IsReady p) offered b h c

  -- given branches that begin at the start
  pub ready_given : (given offered hand : List Branch) → All (λ (b : Branch). b.begin ≡ Start) given → IsPermutation given (offered ++ hand) → Each offered (IsReady p)
  ready_given given offered hand starts moved =
      each_member (IsReady p) offered
      (λ b c. inl (All-contains (λ (x : Branch). x.begin ≡ Start) given b starts
      (Contains-permutation (offered ++ hand) given b (IsPermutation-sym given (offered ++ hand) moved) (Contains-append_left offered hand b c))))

  -- after a turn
  pub ready_turned : (well : IsProblem p) (b : Branch) (e : Expansion) → IsExpansion p b e → (o o' hand' : List Branch) → o' ++ hand' ≡ o ++ opened e → Each o (IsReady p) → Each o' (IsReady p)
  ready_turned well b e is o o' hand' outs h =
      each-left (IsReady p) o' hand'
      (subst (λ l. Each l (IsReady p)) (sym outs) (each_append (IsReady p) o (opened e) h (each_weaker (IsMade p) (IsReady p) (opened e) (λ k m. inr m) (opened_made p well b e is))))
