-- balances add up, and what stands on both sides may go
use Rattle.std.proofs.Common.{◌≡◌, ℕ, ◌+◌, List, [], ◌∷◌, ◌++◌, arith, refl, sym, ap, subst, ◌∙◌, append_assoc}
use Rattle.std.specs.Prelude.{IsPermutation, sum_by}
use Rattle.std.proofs.lemmas.List.Sums.{sum_by-cons, sum_by-append}
use Rattle.std.proofs.lemmas.List.Sorted.{IsPermutation-map, IsPermutation-trans, IsPermutation-append_right, sum_by-IsPermutation}
use Rattle.cayley.specs.declared.found.FoundCell.{FoundCell}
use Rattle.cayley.specs.Problems.{Problem}
use Rattle.cayley.specs.Cells.{Cell}
use Rattle.cayley.specs.Shares as shares
use Rattle.cayley.specs.Shares.{GivesShares, GivesSizes, GivesCosts}
use Rattle.cayley.proofs.Searching.Counting.{count, count-nil, count-append, count_permutation, permutation_counts}
use Rattle.cayley.specs.Stored.{cells_of}
use Rattle.searcher.specs.declared.branches.Branch.{Branch}
use Rattle.searcher.specs.Branches.{branch_of, branches_of}
use Rattle.searcher.specs.Searches.{KeepShares, all_shares}
use Rattle.searcher.proofs.Turns.{found_list}
use Rattle.search_team.specs.Accounts.{IsBalance}

-- how often a cell is in the share of a branch, and what a branch costs
abbrev pub weight : (shares.Branch → List Cell) → Cell → Branch → ℕ
weight share c b = count c (share (branch_of b))

abbrev pub price : (shares.Branch → ℕ) → Branch → ℕ
price cost b = cost (branch_of b)

pub in_shares : (share : shares.Branch → List Cell) (c : Cell) (bs : List Branch) → count c (all_shares share bs) ≡ sum_by (weight share c) bs
in_shares share c [] = count-nil c
in_shares share c (b ∷ bs) =
    count-append c (share (branch_of b)) (all_shares share bs) ∙ ap (λ n. count c (share (branch_of b)) + n) (in_shares share c bs) ∙ sym (sum_by-cons (weight share c) b bs)

pub in_costs : (cost : shares.Branch → ℕ) (bs : List Branch) → sum_by cost (branches_of bs) ≡ sum_by (price cost) bs
in_costs cost [] = refl
in_costs cost (b ∷ bs) = sum_by-cons cost (branch_of b) (branches_of bs) ∙ ap (λ n. cost (branch_of b) + n) (in_costs cost bs) ∙ sym (sum_by-cons (price cost) b bs)

module _ (p : Problem) where
  -- a balance by its weights
  pub by_weights : (ins outs : List Branch) (found : List FoundCell) (n : ℕ)
      → ((share : shares.Branch → List Cell) → GivesShares p share → (c : Cell) → sum_by (weight share c) ins ≡ count c (cells_of found) + sum_by (weight share c) outs)
      → ((size cost : shares.Branch → ℕ) → GivesSizes p size → GivesCosts p size cost → n + sum_by (price cost) outs ≡ sum_by (price cost) ins)
      → IsBalance p ins outs found n
  by_weights ins outs found n f g = record {
    shares = λ share gives. permutation_counts (all_shares share ins) (cells_of found ++ all_shares share outs) (λ c.
        in_shares share c ins ∙ f share gives c ∙ ap (λ m. count c (cells_of found) + m) (sym (in_shares share c outs)) ∙ sym (count-append c (cells_of found) (all_shares share outs)));
    costs = λ size cost gives costs. ap (λ m. n + m) (in_costs cost outs) ∙ g size cost gives costs ∙ sym (in_costs cost ins);
  }

  pub weighs : (ins outs : List Branch) (found : List FoundCell) (n : ℕ) → IsBalance p ins outs found n
      → (share : shares.Branch → List Cell) → GivesShares p share → (c : Cell) → sum_by (weight share c) ins ≡ count c (cells_of found) + sum_by (weight share c) outs
  weighs ins outs found n b share gives c =
      sym (in_shares share c ins) ∙ count_permutation c (all_shares share ins) (cells_of found ++ all_shares share outs) (b.shares share gives)
      ∙ count-append c (cells_of found) (all_shares share outs) ∙ ap (λ m. count c (cells_of found) + m) (in_shares share c outs)

  pub costs : (ins outs : List Branch) (found : List FoundCell) (n : ℕ) → IsBalance p ins outs found n
      → (size cost : shares.Branch → ℕ) → GivesSizes p size → GivesCosts p size cost → n + sum_by (price cost) outs ≡ sum_by (price cost) ins
  costs ins outs found n b size cost gives given = ap (λ m. n + m) (sym (in_costs cost outs)) ∙ b.costs size cost gives given ∙ in_costs cost ins

  -- nothing was done
  pub balance_none : (bs : List Branch) → IsBalance p bs bs [] 0
  balance_none bs = by_weights bs bs [] 0 (λ share gives c. let z = count-nil c in omega (arith, z)) (λ size cost gives given. omega arith)

  pub balance_sum : (ins outs more others : List Branch) (F f : List FoundCell) (n m : ℕ) → IsBalance p ins outs F n → IsBalance p more others f m
      → IsBalance p (ins ++ more) (outs ++ others) (F ++ f) (n + m)
  balance_sum ins outs more others F f n m a b =
      by_weights (ins ++ more) (outs ++ others) (F ++ f) (n + m)
      (λ share gives c.
      let w = weighs ins outs F n a share gives c in
      let v = weighs more others f m b share gives c in
      let i = sum_by-append (weight share c) ins more in
      let o = sum_by-append (weight share c) outs others in
      let s = ap (count c) (found_list F f) ∙ count-append c (cells_of F) (cells_of f) in
      omega (arith, w, v, i, o, s))
      (λ size cost gives given.
      let w = costs ins outs F n a size cost gives given in
      let v = costs more others f m b size cost gives given in
      let i = sum_by-append (price cost) ins more in
      let o = sum_by-append (price cost) outs others in
      omega (arith, w, v, i, o))

  pub balance_permuted : (ins ins' outs outs' : List Branch) (F F' : List FoundCell) (n : ℕ) → IsPermutation ins ins' → IsPermutation outs outs' → IsPermutation F F'
      → IsBalance p ins outs F n → IsBalance p ins' outs' F' n
  balance_permuted ins ins' outs outs' F F' n moved gone found a =
      by_weights ins' outs' F' n
      (λ share gives c.
      let w = weighs ins outs F n a share gives c in
      let i = sum_by-IsPermutation (weight share c) ins ins' moved in
      let o = sum_by-IsPermutation (weight share c) outs outs' gone in
      let s = count_permutation c (cells_of F) (cells_of F') (IsPermutation-map (λ (x : FoundCell). x.cell) F F' found) in
      omega (arith, w, i, o, s))
      (λ size cost gives given.
      let w = costs ins outs F n a size cost gives given in
      let i = sum_by-IsPermutation (price cost) ins ins' moved in
      let o = sum_by-IsPermutation (price cost) outs outs' gone in
      omega (arith, w, i, o))

  -- branches that come in and go out
  pub balance_more : (ins outs more : List Branch) (F : List FoundCell) (n : ℕ) → IsBalance p ins outs F n → IsBalance p (ins ++ more) (outs ++ more) F n
  balance_more ins outs more F n a =
      by_weights (ins ++ more) (outs ++ more) F n
      (λ share gives c.
      let w = weighs ins outs F n a share gives c in
      let i = sum_by-append (weight share c) ins more in
      let o = sum_by-append (weight share c) outs more in
      omega (arith, w, i, o))
      (λ size cost gives given.
      let w = costs ins outs F n a size cost gives given in
      let i = sum_by-append (price cost) ins more in
      let o = sum_by-append (price cost) outs more in
      omega (arith, w, i, o))

  pub balance_less : (ins outs more : List Branch) (F : List FoundCell) (n : ℕ) → IsBalance p (ins ++ more) (outs ++ more) F n → IsBalance p ins outs F n
  balance_less ins outs more F n a =
      by_weights ins outs F n
      (λ share gives c.
      let w = weighs (ins ++ more) (outs ++ more) F n a share gives c in
      let i = sum_by-append (weight share c) ins more in
      let o = sum_by-append (weight share c) outs more in
      omega (arith, w, i, o))
      (λ size cost gives given.
      let w = costs (ins ++ more) (outs ++ more) F n a size cost gives given in
      let i = sum_by-append (price cost) ins more in
      let o = sum_by-append (price cost) outs more in
      omega (arith, w, i, o))

  -- one search after the other
  pub shares_then : (given left rest : List Branch) (F f : List FoundCell) → KeepShares p given (cells_of F) left → KeepShares p left (cells_of f) rest → KeepShares p given (cells_of (F ++ f)) rest
  shares_then given left rest F f a b = λ share gives.
      let S = all_shares share in
      subst (λ l. IsPermutation (S given) l) (sym (append_assoc (cells_of F) (cells_of f) (S rest)) ∙ ap (λ l. l ++ S rest) (sym (found_list F f)))
      (IsPermutation-trans (S given) (cells_of F ++ S left) (cells_of F ++ (cells_of f ++ S rest)) (a share gives) (IsPermutation-append_right (cells_of F) (S left) (cells_of f ++ S rest) (b share gives)))

  pub balance_then : (given left rest : List Branch) (F f : List FoundCell) (n m : ℕ) → IsBalance p given left F n → IsBalance p left rest f m → IsBalance p given rest (F ++ f) (n + m)
  balance_then given left rest F f n m a b = record {
    shares = shares_then given left rest F f a.shares b.shares;
    costs = λ size cost gives given.
        let w = a.costs size cost gives given in
        let v = b.costs size cost gives given in
        omega (arith, w, v);
  }
