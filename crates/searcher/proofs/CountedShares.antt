-- what is counted of the cells that a search finds
use Rattle.std.proofs.Common.{min, ◌≡◌, ℕ, ◌+◌, List, [], ◌∷◌, ◌++◌, length, arith, sym, ap, subst, ◌∙◌, append-nil}
use Rattle.std.specs.Prelude.{flat_map}
use Rattle.std.proofs.lemmas.List.{length-map, length-append}
use Rattle.std.proofs.lemmas.List.Sorted.{length_permutation}
use Rattle.cayley.specs.declared.found.FoundCell.{FoundCell}
use Rattle.cayley.specs.Problems.{Problem, IsProblem}
use Rattle.cayley.specs.Valid.{IsStillProblem}
use Rattle.cayley.specs.Cells.{Cell}
use Rattle.cayley.specs.Mixed.{IsMixedCell}
use Rattle.cayley.specs.Shares as shares
use Rattle.cayley.specs.Shares.{GivesShares}
use Rattle.cayley.proofs.Life.LifeLaws.{one_share_law}
use Rattle.cayley.proofs.Searching.FilePoints.{dec_mixed}
use Rattle.cayley.proofs.Searching.Steps.{Keeps, keeps_begin, keeps_end, shares_exist}
use Rattle.cayley.specs.Stored.{cells_of}
use Rattle.searcher.specs.declared.branches.Branch.{Branch}
use Rattle.searcher.specs.declared.counting.Counted.{Counted}
use Rattle.searcher.specs.declared.expansions.Expansion.{Expansion}
use Rattle.searcher.specs.Branches.{branch_of, branches_of}
use Rattle.searcher.specs.Expansions.{IsExpansion}
use Rattle.searcher.specs.Searches.{all_shares, opened, found_in, top}
use Rattle.searcher.specs.Counts.{CountsShares, CountsShare, CountsSize, IsCounted}
use Rattle.searcher.proofs.Turns.{turn_keeps}
use Rattle.searcher.proofs.Results.{cost_of_one}

-- the count is the number of cells that were found, or the greatest count; with the shares of what is left they are those of the given branches
abbrev pub Tallies : Problem → List Branch → List Branch → ℕ → Type 0
Tallies p given left cells =
    (found : List FoundCell) × (cells ≡ min (length found) top) × ((share : shares.Branch → List Cell) → GivesShares p share → Keeps share (branches_of given) (cells_of found) (branches_of left))

pub tally_begin : (p : Problem) (given : List Branch) → Tallies p given given 0
tally_begin p given = ([], omega arith, λ share gives. keeps_begin share (branches_of given))

pub tally_turn : (p : Problem) → IsStillProblem p → (b : Branch) (left rest : List Branch) → left ≡ rest ++ b ∷ [] → (e : Expansion) → IsExpansion p b e → (given : List Branch) (cells after : ℕ)
    → ((m : ℕ) → cells ≡ min m top → after ≡ min (m + length (found_in e)) top) → Tallies p given left cells → Tallies p given (rest ++ opened e) after
tally_turn p still b left rest popped e is given cells after more t = (
  t.0 ++ found_in e,
  more (length t.0) t.1 ∙ ap (λ n. min n top) (sym (length-append t.0 (found_in e))),
  λ share gives. turn_keeps p still b left rest popped e is share gives given t.0 (t.2 share gives),
)

pub tally_end : (p : Problem) (given left : List Branch) (cells : ℕ) → left ≡ [] → Tallies p given left cells → (n : ℕ) × CountsShares p given n × (cells ≡ min n top)
tally_end p given left cells none t = (
  length t.0,
  (λ share gives.
      let whole = subst (λ l. Keeps share (branches_of given) (cells_of t.0) l) (ap branches_of none) (t.2 share gives) in
      sym (length-map t.0 (λ (f : FoundCell). f.cell)) ∙ length_permutation (flat_map share (branches_of given)) (cells_of t.0) (keeps_end share (branches_of given) (cells_of t.0) whole)),
  t.1,
)

pub counts_share : (p : Problem) → IsProblem p → (given : List Branch) (counted : Counted) → IsCounted p given counted → CountsShare p given counted
counts_share p well given counted is b cells only share =
    let all = shares_exist p well (IsMixedCell p) (dec_mixed p well) in
    let one : all_shares all.0 given ≡ all.0 (branch_of b) = ap (all_shares all.0) only ∙ append-nil (all.0 (branch_of b)) in
    let same : all.0 (branch_of b) ≡ cells = (one_share_law p (branch_of b)).0 (all.0 (branch_of b)) cells (all.1 (branch_of b)) share in
    is.cells.2 ∙ ap (λ n. min n top) (is.cells.1 all.0 all.1 ∙ ap length (one ∙ same))

pub counts_size : (p : Problem) → IsProblem p → (given : List Branch) (counted : Counted) → IsCounted p given counted → CountsSize p given counted
counts_size p well given counted is b n only size some = is.solves.2 ∙ ap (λ m. min m top) (cost_of_one p well given is.solves.0 is.solves.1 b n only size some)
