-- each branch that is left leads back to a given one
use Rattle.std.proofs.Common.{◌≡◌, ℕ, zero, suc, ◌<◌, List, [], ◌∷◌, ◌++◌, map, arith, sym, subst, inl, inr, append_assoc, Option}
use Rattle.std.specs.Prelude.{IsPermutation, Contains}
use Rattle.std.proofs.lemmas.List.Elements.{Contains-append_left, Contains-append_right, Contains-append_cases}
use Rattle.std.proofs.lemmas.List.Sorted.{IsPermutation-refl, IsPermutation-sym, IsPermutation-trans, IsPermutation-append_left, IsPermutation-append_right, IsPermutation-append_comm, Contains-permutation}
use Rattle.int_vectors.specs.Vectors.{Each}
use Rattle.cayley.specs.declared.found.FoundCell.{FoundCell}
use Rattle.cayley.specs.Problems.{Problem, IsProblem}
use Rattle.cayley.specs.Cells.{Cell}
use Rattle.cayley.specs.Parents.{InChain}
use Rattle.cayley.specs.Parents.InChain.{here}
use Rattle.cayley.specs.Shares as shares
use Rattle.cayley.specs.Shares.{IsLed}
use Rattle.int_vectors.proofs.Each.{each_append, each_weaker}
use Rattle.cayley.proofs.Searching.Chains.{rank, rank_parent, chain_trans}
use Rattle.cayley.proofs.Searching.Members.{has_contains, contains_has, map_has}
use Rattle.cayley.proofs.Searching.Steps.{led_child}
use Rattle.searcher.specs.declared.branches.Branch.{Branch}
use Rattle.searcher.specs.declared.expansions.HaltCause.{HaltCause}
use Rattle.searcher.specs.declared.expansions.HaltCause.TheVariants.{Tie, Overflow, OutOfMemory}
use Rattle.searcher.specs.Branches.{branch_of, branches_of}
use Rattle.searcher.specs.Expansions.{ShowsTieAtEnd}
use Rattle.searcher.specs.Searches.{IsLeft, IsOfLeft}
use Rattle.searcher.proofs.Turns.{led as led_of}
use Rattle.search_team.specs.Accounts.{IsMade, IsChildOf}
use Rattle.search_team.specs.Searchers.{IsWhole, IsDivided}
use Rattle.search_team.specs.Teams.{IsBehind, IsCauseBehind}
use Rattle.search_team.proofs.Balances.{balance_permuted, balance_less}
use Rattle.search_team.proofs.Members.{each_member, member_each, each_made}

child_left : (p : Problem) (given : List Branch) (a b : Branch) → IsLeft p given a → IsChildOf p a b → IsLeft p given b
child_left p given a b l child = inr (child.0, led_child p (branches_of given) (branch_of a) (branch_of b) child.1 (led_of p given a l))

-- ---- what was offered, taken and left when a pool is closed
module _ (p : Problem) (well : IsProblem p) (given T O left : List Branch) (made : Each O (IsMade p given (given ++ T))) (closed : IsPermutation O (left ++ T)) where
  taken_offered : (b : Branch) → Contains T b → Contains O b
  taken_offered b c = Contains-permutation (left ++ T) O b (IsPermutation-sym O (left ++ T) closed) (Contains-append_right left T b c)

  leads_by : (n : ℕ) (b : Branch) → rank p well b.cell < n → Contains O b → IsLeft p given b
  leads_by zero b l h = absurd (omega (arith, l))
  leads_by (suc n) b l h = elim (member_each (IsMade p given (given ++ T)) O b made h) [
    | inl c ↦ inl c
    | inr m ↦ elim (Contains-append_cases given T m.0 m.1) [
      | inl c ↦ child_left p given m.0 b (inl c) m.2
      | inr c ↦
          let f = rank_parent p well m.0.cell b.cell m.2.1 in
          child_left p given m.0 b (leads_by n m.0 (omega (arith, f, l)) (taken_offered m.0 c)) m.2
    ]
  ]

  offered_led : (b : Branch) → Contains O b → IsLeft p given b
  offered_led b h = leads_by (suc (rank p well b.cell)) b (omega arith) h

  come_led : (b : Branch) → Contains (given ++ T) b → IsLeft p given b
  come_led b h = elim (Contains-append_cases given T b h) [
    | inl c ↦ inl c
    | inr c ↦ offered_led b (taken_offered b c)
  ]

  kept_led : (b : Branch) → IsMade p (given ++ T) (given ++ T) b → IsLeft p given b
  kept_led b (inl c) = come_led b c
  kept_led b (inr m) = child_left p given m.0 b (come_led m.0 m.1) m.2

  all_led : (L : List Branch) → Each L (IsMade p (given ++ T) (given ++ T)) → Each (L ++ left) (IsLeft p given)
  all_led L kept =
      each_append (IsLeft p given) L left (each_weaker (IsMade p (given ++ T) (given ++ T)) (IsLeft p given) L kept_led kept)
      (each_member (IsLeft p given) left (λ b c. offered_led b (Contains-permutation (left ++ T) O b (IsPermutation-sym O (left ++ T) closed) (Contains-append_left left T b c))))

module _ (p : Problem) (well : IsProblem p) where
  -- a closed team: what was given is found or left
  pub divided : (given G T O L left : List Branch) (F : List FoundCell) (n : ℕ) (r : Option HaltCause) → IsWhole p G T O L F n r → IsPermutation G given → IsPermutation O (left ++ T)
      → IsDivided p given (L ++ left) F n
  divided given G T O L left F n r a back closed =
      let come : IsPermutation (G ++ T) (given ++ T) = IsPermutation-append_left T G given back in
      let over : (b : Branch) → Contains G b → Contains given b = λ b c. Contains-permutation G given b back c in
      let all : (b : Branch) → Contains (G ++ T) b → Contains (given ++ T) b = λ b c. Contains-permutation (G ++ T) (given ++ T) b come c in
      let gone : IsPermutation (O ++ L) ((L ++ left) ++ T) =
      IsPermutation-trans (O ++ L) (L ++ O) ((L ++ left) ++ T) (IsPermutation-append_comm O L)
      (subst (λ l. IsPermutation (L ++ O) l) (sym (append_assoc L left T)) (IsPermutation-append_right L O (left ++ T) closed)) in
      record {
        account = (
          a.account.0,
          a.account.1,
          balance_less p given (L ++ left) T F a.account.0 (balance_permuted p (G ++ T) (given ++ T) (O ++ L) ((L ++ left) ++ T) F F a.account.0 come gone (IsPermutation-refl F) a.account.2),
        );
        normals = a.normals;
        fit = a.fit;
        led = all_led p well given T O left (each_made p G given (G ++ T) (given ++ T) over all O a.made) closed L (each_made p (G ++ T) (given ++ T) (G ++ T) (given ++ T) all all L a.kept);
      }

-- ---- a search after another
behind_of : (p : Problem) (given : List Branch) (b : Branch) → IsLed p (branches_of given) (branch_of b) → IsBehind p given b.cell
behind_of p given b l =
    let m = map_has branch_of l.0 given (contains_has (branches_of given) l.0 l.1) in
    (m.0, has_contains given m.0 m.1, subst (λ (a : shares.Branch). InChain p a.cell b.cell) m.2 l.2)

then_left : (p : Problem) (given left : List Branch) → Each left (IsLeft p given) → (b : Branch) → IsLeft p left b → IsLeft p given b
then_left p given left e b (inl c) = member_each (IsLeft p given) left b e c
then_left p given left e b (inr h) =
    let a = behind_of p left b h.1 in
    let l = led_of p given a.0 (member_each (IsLeft p given) left a.0 e a.1) in
    inr (h.0, (l.0, l.1, chain_trans p l.0.cell a.0.cell b.cell l.2 a.2))

pub led_then : (p : Problem) (given left rest : List Branch) → Each left (IsLeft p given) → Each rest (IsLeft p left) → Each rest (IsLeft p given)
led_then p given left rest e h = each_weaker (IsLeft p left) (IsLeft p given) rest (then_left p given left e) h

-- ---- causes
pub found_left : (P : Branch → Type 0) (left : List Branch) (c : Cell) → Each left P → Contains (map (λ (b : Branch). b.cell) left) c → (b : Branch) × P b × (b.cell ≡ c)
found_left P [] c h (i, l, e) = absurd (omega (arith, l))
found_left P (x ∷ left) c h (zero, l, e) = (x, h.0, e)
found_left P (x ∷ left) c h (suc i, l, e) = found_left P left c h.1 (i, omega (arith, l), e)

left_behind : (p : Problem) (given : List Branch) (b : Branch) → IsLeft p given b → IsBehind p given b.cell
left_behind p given b (inl c) = (b, c, here)
left_behind p given b (inr h) = behind_of p given b h.1

cell_behind : (p : Problem) (given left : List Branch) (c : Cell) → Each left (IsLeft p given) → Contains (map (λ (b : Branch). b.cell) left) c → IsBehind p given c
cell_behind p given left c led h =
    let f = found_left (IsLeft p given) left c led h in
    subst (IsBehind p given) f.2 (left_behind p given f.0 f.1)

pub cause_behind : (p : Problem) (given left : List Branch) → Each left (IsLeft p given) → (cause : HaltCause) → IsOfLeft p left cause → ShowsTieAtEnd p cause → IsCauseBehind p given cause
cause_behind p given left led (Tie proof) h tie = (tie, cell_behind p given left proof.cell led h)
cause_behind p given left led (Overflow cell) h tie = (h.1, h.2, cell_behind p given left cell led h.0)
cause_behind p given left led OutOfMemory h tie = tt

pub tie_shown : (p : Problem) (given : List Branch) (cause : HaltCause) → IsCauseBehind p given cause → ShowsTieAtEnd p cause
tie_shown p given (Tie proof) h = h.0
tie_shown p given (Overflow cell) h = tt
tie_shown p given OutOfMemory h = tt
