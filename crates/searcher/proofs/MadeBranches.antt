-- the branches that a search made stand behind the given ones
use Rattle.std.proofs.Common.{min, drop, ◌≡◌, ℕ, zero, suc, ◌≤◌, List, [], ◌∷◌, ◌++◌, length, map, arith, ap, subst, ◌∙◌, inr}
use Rattle.int_vectors.specs.Vectors.{Each}
use Rattle.cayley.specs.Problems.{Problem, IsProblem}
use Rattle.cayley.specs.Parents.{IsParent}
use Rattle.cayley.specs.Shares as shares
use Rattle.cayley.specs.Shares.{IsTrueBranch, IsChildren}
use Rattle.int_vectors.proofs.Each.{each_append}
use Rattle.cayley.proofs.Searching.Shares.{list_has}
use Rattle.cayley.proofs.Algebra.RowDependencies.{each-left}
use Rattle.cayley.proofs.Order.Lined.{each_has}
use Rattle.cayley.proofs.Searching.Listing.{has-map}
use Rattle.cayley.proofs.Searching.Steps.{each_in}
use Rattle.searcher.specs.declared.branches.Branch.{Branch}
use Rattle.searcher.specs.declared.expansions.Expansion.{Expansion}
use Rattle.searcher.specs.declared.expansions.Expansion.TheVariants.{Inner, Target, Endless, Stranger}
use Rattle.searcher.specs.Branches.{branch_of, branches_of, children_of}
use Rattle.searcher.specs.Expansions.{IsExpansion}
use Rattle.searcher.specs.Searches.{opened}
use Rattle.searcher.specs.Walks.{IsMade}
use Rattle.searcher.proofs.TwoEnds.{some_alive}
use Rattle.searcher.proofs.UntiedChildren.{untied_child}

-- ---- lists behind a place
drop_all : {A : Type 0} (P : A → Type 0) (n : ℕ) (xs : List A) → length xs ≤ n → Each (drop n xs) P
drop_all P zero [] l = tt
drop_all P zero (x ∷ xs) l = absurd (omega (arith, l))
drop_all P (suc n) [] l = tt
drop_all P (suc n) (x ∷ xs) l = drop_all P n xs (omega (arith, l))

each_last : {A : Type 0} (P : A → Type 0) (n : ℕ) (rest : List A) (b : A) → n ≤ length rest → Each (drop n (rest ++ b ∷ [])) P → P b
each_last P zero [] b l h = h.0
each_last P zero (r ∷ rest) b l h = each_last P zero rest b (omega arith) h.1
each_last P (suc n) [] b l h = absurd (omega (arith, l))
each_last P (suc n) (r ∷ rest) b l h = each_last P n rest b (omega (arith, l)) h

each_drop : {A : Type 0} (P : A → Type 0) (n m : ℕ) (rest xs ys : List A) → m ≡ min n (length rest) → Each (drop n (rest ++ ys)) P → Each xs P → Each (drop m (rest ++ xs)) P
each_drop P zero zero rest xs ys e h k = each_append P rest xs (each-left P rest ys h) k
each_drop P zero (suc m) rest xs ys e h k = absurd (omega (arith, e))
each_drop P (suc n) zero [] xs ys e h k = k
each_drop P (suc n) (suc m) [] xs ys e h k = absurd (omega (arith, e))
each_drop P (suc n) zero (r ∷ rest) xs ys e h k = absurd (omega (arith, e))
each_drop P (suc n) (suc m) (r ∷ rest) xs ys e h k = each_drop P n m rest xs ys (omega (arith, e)) h k

-- ---- what an expansion opens
module _ (p : Problem) (well : IsProblem p) where
  kids_made : (b : Branch) (kids : List Branch) → IsChildren p b.cell (branches_of kids) → ((k : Branch) → IsParent p b.cell k.cell → IsTrueBranch p (branch_of k) → IsMade p k) → Each kids (IsMade p)
  kids_made b kids children made = each_in (IsMade p) kids
      (λ k h.
      let there = has-map branch_of k kids h in
      made k
      (list_has (λ c. IsParent p b.cell c) (map (λ (x : shares.Branch). x.cell) (branches_of kids)) children.1 k.cell (has-map (λ (x : shares.Branch). x.cell) (branch_of k) (branches_of kids) there))
      (each_has (IsTrueBranch p) (branches_of kids) (branch_of k) children.0 there))

  pub opened_made : (b : Branch) (e : Expansion) → IsExpansion p b e → Each (opened e) (IsMade p)
  opened_made b (Inner children) h =
      kids_made b (children_of children) h.1
      (λ k parent true. ((some_alive p k.cell k.begin true).1.0, true, untied_child p b.cell k.cell well parent (λ t. h.0.1 (inr t))))
  opened_made b (Target found) h = tt
  opened_made b Endless h = tt
  opened_made b (Stranger branch) h = tt

  pub turn_made : (b : Branch) (left rest : List Branch) → left ≡ rest ++ b ∷ [] → (e : Expansion) → IsExpansion p b e → (given now count : ℕ) → count ≡ length rest → now ≡ min given count
      → Each (drop given left) (IsMade p) → Each (drop now (rest ++ opened e)) (IsMade p)
  turn_made b left rest popped e told given now count long q h =
      each_drop (IsMade p) given now rest (opened e) (b ∷ []) (q ∙ ap (min given) long) (subst (λ l. Each (drop given l) (IsMade p)) popped h) (opened_made b e told)

pub last_made : (p : Problem) (b : Branch) (left rest : List Branch) → left ≡ rest ++ b ∷ [] → (given count : ℕ) → count ≡ length rest → Each (drop given left) (IsMade p) → given ≤ count → IsMade p b
last_made p b left rest popped given count long h l =
    each_last (IsMade p) given rest b (omega (arith, l, long)) (subst (λ z. Each (drop given z) (IsMade p)) popped h)

pub given_made : (p : Problem) (given : List Branch) (n : ℕ) → n ≡ length given → Each (drop n given) (IsMade p)
given_made p given n e = drop_all (IsMade p) n given (omega (arith, e))
