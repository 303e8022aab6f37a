-- a turn of the walk: the last branch is expanded, and its children stand behind the others, the first of them last
use Rattle.std.proofs.Common.{◌≡◌, ℕ, ◌+◌, ◌<◌, List, [], ◌∷◌, ◌++◌, map, length, reverse, arith, refl, sym, ap, ap₂, subst, ◌∙◌, inl, inr, append_assoc, length-append}
use Rattle.std.specs.Prelude.{IsPermutation, sum_by}
use Rattle.std.proofs.lemmas.List.{map-append, reverse-append, reverse-reverse}
use Rattle.std.proofs.lemmas.List.Sorted.{IsPermutation-refl, IsPermutation-sym, IsPermutation-trans, IsPermutation-map, IsPermutation-append_right, IsPermutation-append_comm, IsPermutation-reverse, Contains-permutation, sum_by-IsPermutation}
use Rattle.int_vectors.specs.Vectors.{Each}
use Rattle.cayley.specs.declared.found.Begin.TheVariants.{Start}
use Rattle.cayley.specs.declared.found.FoundCell.{FoundCell}
use Rattle.cayley.specs.Problems.{Problem}
use Rattle.cayley.specs.Valid.{IsStillProblem}
use Rattle.cayley.specs.Paths.{start_cell}
use Rattle.cayley.specs.Cells.{Cell, IsListOf}
use Rattle.cayley.specs.Parents.{IsParent}
use Rattle.cayley.specs.Shares as shares
use Rattle.cayley.specs.Shares.{IsTrueBranch, GivesSizes, IsChildren, Solved}
use Rattle.int_vectors.proofs.Each.{each_append}
use Rattle.cayley.proofs.Searching.Members.{has_contains, contains_has}
use Rattle.cayley.proofs.Searching.Shares.{true_of}
use Rattle.cayley.proofs.Searching.Steps.{weight, each_in}
use Rattle.cayley.proofs.Order.Lined.{each_has}
use Rattle.start_system.specs.Started.{IsOnlyEarly}
use Rattle.searcher.specs.declared.branches.Branch.{Branch}
use Rattle.searcher.specs.declared.expansions.Expansion.{Expansion}
use Rattle.searcher.specs.Branches.{branch_of, branches_of}
use Rattle.searcher.specs.Expansions.{IsExpansion}
use Rattle.searcher.specs.Searches.{IsLeft, opened, found_in, top}
use Rattle.searcher.proofs.Turns.{turn_of, turn_falls, turn_left}
use Rattle.search_team.specs.Accounts.{IsBalance}
use Rattle.search_team.proofs.Balances.{balance_more, balance_permuted, balance_then}
use Rattle.search_team.proofs.Expanded.{expansion_balance}
use Rattle.path_trace.specs.declared.trace.TraceNode.{TraceNode}
use Rattle.path_trace.specs.Preorders.{ArePreorders, IsPreorder, cells_in}
use Rattle.path_trace.specs.Preorders.ArePreorders.{none, next}

abbrev pub start_of : Problem → Branch
start_of p = record { cell = start_cell p; begin = Start }

abbrev pub cells_left : List Branch → List Cell
cells_left branches = map (λ (b : Branch). b.cell) branches

-- the nodes, with the preorders of what is left, are the preorder of the start cell
abbrev pub IsOnWay : Problem → List Branch → List TraceNode → Type 0
IsOnWay p left nodes = (cells : List Cell) → ArePreorders p (cells_left (reverse left)) cells → IsPreorder p (start_cell p) (cells_in nodes ++ cells)

-- ---- preorders
record IsSplit (p : Problem) (xs ys cells : List Cell) : Type 0 where
  below : List Cell
  after : List Cell
  down : ArePreorders p xs below
  on : ArePreorders p ys after
  whole : cells ≡ below ++ after

split : (p : Problem) (xs ys cells : List Cell) → ArePreorders p (xs ++ ys) cells → IsSplit p xs ys cells
split p [] ys cells are = record { below = []; after = cells; down = none; on = are; whole = refl }
split p (x ∷ xs) ys _ (next {below = below} {after = after} list down on) =
    let r = split p xs ys after on in
    record {
      below = x ∷ (below ++ r.below);
      after = r.after;
      down = next list down r.down;
      on = r.on;
      whole = ap (λ l. x ∷ l) (ap (λ l. below ++ l) r.whole ∙ sym (append_assoc below r.below r.after));
    }

cells_of_branches : (kids : List Branch) → map (λ (b : shares.Branch). b.cell) (branches_of kids) ≡ cells_left kids
cells_of_branches [] = refl
cells_of_branches (k ∷ kids) = ap (λ l. k.cell ∷ l) (cells_of_branches kids)

-- ---- lists in any order
pub each_moved : {A : Type 0} (P : A → Type 0) (xs ys : List A) → IsPermutation xs ys → Each xs P → Each ys P
each_moved P xs ys moved e = each_in P ys (λ y h. each_has P xs y e (contains_has xs y (Contains-permutation ys xs y (IsPermutation-sym xs ys moved) (has_contains ys y h))))

turned : (rest kids : List Branch) → IsPermutation (rest ++ kids) (rest ++ reverse kids)
turned rest kids = IsPermutation-append_right rest kids (reverse kids) (IsPermutation-reverse kids)

module _ (p : Problem) (still : IsStillProblem p) (b : Branch) (left rest now : List Branch) (popped : left ≡ rest ++ b ∷ []) (e : Expansion) (is : IsExpansion p b e) (begins : IsTrueBranch p (branch_of b))
    (put : now ≡ rest ++ reverse (opened e)) where
  children : IsChildren p b.cell (branches_of (opened e))
  children = elim (turn_of p still b e is) [ inl t ↦ t.2 | inr t ↦ absurd (t.0 begins) ]

  listed : IsListOf (λ kid. IsParent p b.cell kid) (cells_left (opened e))
  listed = subst (IsListOf (λ kid. IsParent p b.cell kid)) (cells_of_branches (opened e)) children.1

  left_before : cells_left (reverse left) ≡ b.cell ∷ cells_left (reverse rest)
  left_before = ap cells_left (ap reverse popped ∙ reverse-append rest (b ∷ []))

  left_after : cells_left (reverse now) ≡ cells_left (opened e) ++ cells_left (reverse rest)
  left_after =
      ap cells_left (ap reverse put ∙ reverse-append rest (reverse (opened e)) ∙ ap (λ l. l ++ reverse rest) (reverse-reverse (opened e)))
      ∙ map-append (λ (b : Branch). b.cell) (opened e) (reverse rest)

  pub turn_on : (nodes new : List TraceNode) (node : TraceNode) → node.cell ≡ b.cell → new ≡ nodes ++ node ∷ [] → IsOnWay p left nodes → IsOnWay p now new
  turn_on nodes new node same more way cells are =
      let s = split p (cells_left (opened e)) (cells_left (reverse rest)) cells (subst (λ l. ArePreorders p l cells) left_after are) in
      let one : ArePreorders p (b.cell ∷ cells_left (reverse rest)) (b.cell ∷ (s.below ++ s.after)) = next listed s.down s.on in
      let all = way (b.cell ∷ (s.below ++ s.after)) (subst (λ l. ArePreorders p l (b.cell ∷ (s.below ++ s.after))) (sym left_before) one) in
      subst (IsPreorder p (start_cell p)) (
      ap₂ (λ (c : Cell) (l : List Cell). cells_in nodes ++ (c ∷ l)) (sym same) (sym s.whole)
      ∙ sym (ap (λ (l : List TraceNode). cells_in l ++ cells) more ∙ ap (λ l. l ++ cells) (map-append (λ (x : TraceNode). x.cell) nodes (node ∷ [])) ∙ append_assoc (cells_in nodes) (node.cell ∷ []) cells)) all

  one_solve : Solved p top (branch_of b) 0 1
  one_solve = ((λ of. omega arith), (λ m. absurd (m (true_of p (branch_of b) begins))))

  turn_balance : IsBalance p left now (found_in e) 1
  turn_balance =
      let x = expansion_balance p still b e is 0 1 (omega arith) one_solve in
      let k : x.0 ≡ 1 = let f = x.1 in omega (arith, f) in
      let come : IsPermutation ((b ∷ []) ++ rest) left = subst (λ l. IsPermutation ((b ∷ []) ++ rest) l) (sym popped) (IsPermutation-append_comm (b ∷ []) rest) in
      let go : IsPermutation (opened e ++ rest) now =
      subst (λ l. IsPermutation (opened e ++ rest) l) (sym put)
      (IsPermutation-trans (opened e ++ rest) (rest ++ opened e) (rest ++ reverse (opened e)) (IsPermutation-append_comm (opened e) rest) (turned rest (opened e))) in
      balance_permuted p ((b ∷ []) ++ rest) left (opened e ++ rest) now (found_in e) (found_in e) 1 come go (IsPermutation-refl (found_in e))
      (balance_more p (b ∷ []) (opened e) rest (found_in e) 1 (subst (λ n. IsBalance p (b ∷ []) (opened e) (found_in e) n) k x.2))

  pub turn_weighs : (given : List Branch) (found more : List FoundCell) (nodes new : List TraceNode) (node : TraceNode) → new ≡ nodes ++ node ∷ [] → more ≡ found ++ found_in e
      → IsBalance p given left found (length nodes) → IsBalance p given now more (length new)
  turn_weighs given found more nodes new node longer kept was =
      let n : length nodes + 1 ≡ length new = sym (ap length longer ∙ length-append nodes (node ∷ [])) in
      subst (λ k. IsBalance p given now more k) n (subst (λ l. IsBalance p given now l (length nodes + 1)) (sym kept) (balance_then p given left now found (found_in e) (length nodes) 1 was turn_balance))

  pub turn_leads : (given : List Branch) → Each left (IsLeft p given) → Each now (IsLeft p given)
  turn_leads given l =
      subst (λ k. Each k (IsLeft p given)) (sym put) (each_moved (IsLeft p given) (rest ++ opened e) (rest ++ reverse (opened e)) (turned rest (opened e)) (turn_left p given left rest b e popped is l))

  pub turn_shrinks : (size : shares.Branch → ℕ) → GivesSizes p size → sum_by (weight size) (branches_of now) < sum_by (weight size) (branches_of left)
  turn_shrinks size gives =
      let f = turn_falls p still b left rest popped e is size gives in
      let s = sum_by-IsPermutation (weight size) (branches_of (rest ++ opened e)) (branches_of (rest ++ reverse (opened e))) (IsPermutation-map branch_of (rest ++ opened e) (rest ++ reverse (opened e)) (turned rest (opened e))) in
      let n = ap (λ l. sum_by (weight size) (branches_of l)) put in
      omega (arith, f, s, n)

-- a branch that is left begins where it says
pub left_begins : (p : Problem) → IsOnlyEarly p (start_cell p) → (b : Branch) → IsLeft p (start_of p ∷ []) b → IsTrueBranch p (branch_of b)
left_begins p early b (inl c) = elim (contains_has (start_of p ∷ []) b c) [
  | inl e ↦ subst (λ (x : Branch). IsTrueBranch p (branch_of x)) (sym e) early.0
  | inr n ↦ absurd n
]
left_begins p early b (inr h) = h.0

pub each_more : {A : Type 0} (P : A → Type 0) (xs ys : List A) (x : A) → ys ≡ xs ++ x ∷ [] → Each xs P → P x → Each ys P
each_more P xs ys x e h k = subst (λ l. Each l P) (sym e) (each_append P xs (x ∷ []) h (k, tt))

-- a step for each node
pub one_step : (start was now : ℕ) (nodes new : List TraceNode) (node : TraceNode) → new ≡ nodes ++ node ∷ [] → now ≡ was + 1 → was ≡ start + length nodes → now ≡ start + length new
one_step start was now nodes new node more step count = let n = ap length more ∙ length-append nodes (node ∷ []) in omega (arith, n, step, count)
