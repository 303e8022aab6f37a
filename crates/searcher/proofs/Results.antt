-- what a search has found where no branch is left, and where it halts
use Rattle.std.proofs.Common.{min, ◌≡◌, ℕ, zero, suc, ◌+◌, ◌≤◌, List, [], ◌∷◌, ◌++◌, map, arith, refl, sym, ap, ap₂, subst, ◌∙◌, inl, inr, append-nil}
use Rattle.std.specs.Prelude.{Contains, IsPermutation, flat_map, sum_by}
use Rattle.std.proofs.lemmas.List.Sums.{sum_by-cons}
use Rattle.std.proofs.lemmas.List.Sorted.{IsPermutation-map, IsPermutation-trans, IsPermutation-sym, Contains-permutation}
use Rattle.int_vectors.specs.Vectors.{Each}
use Rattle.cayley.specs.declared.found.FoundCell.{FoundCell}
use Rattle.cayley.specs.declared.found.TieProof.{TieProof}
use Rattle.cayley.specs.Problems.{Problem, IsProblem}
use Rattle.cayley.specs.Cells.{Cell, IsOf}
use Rattle.cayley.specs.Mixed.{IsMixedCell}
use Rattle.cayley.specs.Shares as shares
use Rattle.cayley.specs.Shares.{IsShare, IsSize, GivesShares, GivesSizes, GivesCosts}
use Rattle.cayley.proofs.Life.Decisions.{dec_of}
use Rattle.cayley.proofs.Searching.Listing.{Has, has-right, has-map}
use Rattle.cayley.proofs.Searching.Members.{has_contains, contains_has, sorted_from}
use Rattle.cayley.proofs.Searching.Counting.{sorted_same}
use Rattle.cayley.proofs.Searching.FilePoints.{dec_mixed}
use Rattle.cayley.proofs.Searching.Shares.{one_size}
use Rattle.cayley.proofs.Searching.Steps.{Keeps, Counts, keeps_end, shares_exist, sizes_exist, costs_exist, counts_end, each_in}
use Rattle.cayley.specs.Stored.{cells_of}
use Rattle.cayley.proofs.Order.Lined.{each_has}
use Rattle.searcher.specs.declared.branches.Branch.{Branch}
use Rattle.searcher.specs.declared.expansions.HaltCause.{HaltCause}
use Rattle.searcher.specs.declared.expansions.HaltCause.TheVariants.{Tie, Overflow, OutOfMemory}
use Rattle.searcher.specs.declared.searching.Found.{Found}
use Rattle.searcher.specs.declared.searching.Stopped.{Stopped}
use Rattle.searcher.specs.Branches.{branch_of, branches_of}
use Rattle.searcher.specs.Workings.{FitsWorking}
use Rattle.searcher.specs.Ends.{NamesEnd}
use Rattle.searcher.specs.Expansions.{IsCause, HasLowestNormal}
use Rattle.searcher.specs.Searches.{NeverFalls, all_shares, AreSharesOf, CostOf, IsFound, IsStopped, IsLeft, IsOfLeft, FindsShare, FindsSize, top}
use Rattle.searcher.proofs.Orders.{as_counted}

-- ---- the cells
pub all_found : (p : Problem) (given left : List Branch) (found sorted : List FoundCell) → left ≡ [] → IsPermutation found sorted
    → ((share : shares.Branch → List Cell) → GivesShares p share → Keeps share (branches_of given) (cells_of found) (branches_of left)) → AreSharesOf p given (cells_of sorted)
all_found p given left found sorted none moved keeps share gives =
    IsPermutation-trans (flat_map share (branches_of given)) (cells_of found) (cells_of sorted)
    (keeps_end share (branches_of given) (cells_of found) (subst (λ l. Keeps share (branches_of given) (cells_of found) l) (ap branches_of none) (keeps share gives)))
    (IsPermutation-map (λ (f : FoundCell). f.cell) found sorted moved)

-- what each cell has, each has in any order
pub each_sorted : (P : FoundCell → Type 0) (found sorted : List FoundCell) → IsPermutation found sorted → Each found P → Each sorted P
each_sorted P found sorted moved n = each_in P sorted (λ f h.
    each_has P found f n (contains_has found f (Contains-permutation sorted found f (IsPermutation-sym found sorted moved) (has_contains sorted f h))))

-- ---- the count
cost_by_size : (p : Problem) (b : shares.Branch) (m : ℕ) (x y : ℕ)
    → (1 ≤ m → x ≡ m) × (m ≡ 0 → IsOf p b.cell → x ≡ 1) × (¬ (IsOf p b.cell) → x ≡ 0)
    → (1 ≤ m → y ≡ m) × (m ≡ 0 → IsOf p b.cell → y ≡ 1) × (¬ (IsOf p b.cell) → y ≡ 0) → x ≡ y
cost_by_size p b (suc m) x y f g = f.0 (omega arith) ∙ sym (g.0 (omega arith))
cost_by_size p b zero x y f g = elim (dec_of p b.cell) [
  | yes of ↦ f.1 refl of ∙ sym (g.1 refl of)
  | no m ↦ f.2 m ∙ sym (g.2 m)
]

-- a branch has one cost
one_cost : (p : Problem) (size cost other_size other_cost : shares.Branch → ℕ) → GivesSizes p size → GivesCosts p size cost → GivesSizes p other_size → GivesCosts p other_size other_cost
    → (b : shares.Branch) → cost b ≡ other_cost b
one_cost p size cost other_size other_cost gives costs other_gives other_costs b =
    cost_by_size p b (size b) (cost b) (other_cost b) (costs b)
    (subst (λ m. (1 ≤ m → other_cost b ≡ m) × (m ≡ 0 → IsOf p b.cell → other_cost b ≡ 1) × (¬ (IsOf p b.cell) → other_cost b ≡ 0)) (one_size p b (other_size b) (size b) (other_gives b) (gives b)) (other_costs b))

sum_same : (f g : shares.Branch → ℕ) → ((b : shares.Branch) → f b ≡ g b) → (bs : List shares.Branch) → sum_by f bs ≡ sum_by g bs
sum_same f g same [] = refl
sum_same f g same (b ∷ bs) = sum_by-cons f b bs ∙ ap₂ (λ m n. m + n) (same b) (sum_same f g same bs) ∙ sym (sum_by-cons g b bs)

pub all_counted : (p : Problem) → IsProblem p → (given left : List Branch) (solves : ℕ) → left ≡ [] → solves ≤ top
    → ((size cost : shares.Branch → ℕ) → GivesSizes p size → GivesCosts p size cost → Counts cost top (branches_of given) solves (branches_of left)) → (n : ℕ) × CostOf p given n × (solves ≡ min n top)
all_counted p well given left solves none few counts =
    let sizes = sizes_exist p well in
    let costs = costs_exist p well sizes.0 sizes.1 in (
      sum_by costs.0 (branches_of given),
      (λ size cost gives c. sum_same costs.0 cost (one_cost p sizes.0 costs.0 size cost sizes.1 costs.1 gives c) (branches_of given)),
      counts_end costs.0 top (branches_of given) (branches_of left) solves (ap branches_of none) few (counts sizes.0 costs.0 sizes.1 costs.1),
    )

pub found_whole : (p : Problem) → IsProblem p → (given left : List Branch) (cells : List FoundCell) (found : Found) → left ≡ [] → IsPermutation cells found.cells.items → NeverFalls (cells_of found.cells.items)
    → ((share : shares.Branch → List Cell) → GivesShares p share → Keeps share (branches_of given) (cells_of cells) (branches_of left))
    → ((size cost : shares.Branch → ℕ) → GivesSizes p size → GivesCosts p size cost → Counts cost top (branches_of given) found.solves (branches_of left)) → found.solves ≤ top
    → Each cells (HasLowestNormal p) → IsFound p given found
found_whole p well given left cells found none moved order keeps counts few normals = record {
  cells = all_found p given left cells found.cells.items none moved keeps;
  order = order;
  normals = each_sorted (HasLowestNormal p) cells found.cells.items moved normals;
  solves = all_counted p well given left found.solves none few counts;
}

-- ---- of one branch
pub finds_share : (p : Problem) → IsProblem p → (given : List Branch) (found : Found) → IsFound p given found → FindsShare p given found
finds_share p well given found is b only =
    let all = shares_exist p well (IsMixedCell p) (dec_mixed p well) in
    let share = all.0 in
    let one : all_shares share given ≡ share (branch_of b) = ap (all_shares share) only ∙ append-nil (share (branch_of b)) in
    let moved = subst (λ l. IsPermutation l (cells_of found.cells.items)) one (is.cells share all.1) in
    subst (IsShare p (branch_of b)) (sorted_same (share (branch_of b)) (cells_of found.cells.items) (sorted_from (share (branch_of b)) (all.1 (branch_of b)).0) (as_counted (cells_of found.cells.items) is.order) moved) (all.1 (branch_of b))

-- one given branch costs its size, where that isn't 0
pub cost_of_one : (p : Problem) → IsProblem p → (given : List Branch) (cost : ℕ) → CostOf p given cost → (b : Branch) (n : ℕ) → given ≡ b ∷ [] → IsSize p (branch_of b) n → 1 ≤ n → cost ≡ n
cost_of_one p well given cost is b n only size some =
    let sizes = sizes_exist p well in
    let costs = costs_exist p well sizes.0 sizes.1 in
    let same : sizes.0 (branch_of b) ≡ n = one_size p (branch_of b) (sizes.0 (branch_of b)) n (sizes.1 (branch_of b)) size in
    let one : costs.0 (branch_of b) ≡ n = (costs.1 (branch_of b)).0 (subst (λ m. 1 ≤ m) (sym same) some) ∙ same in
    let whole : cost ≡ sum_by costs.0 (branch_of b ∷ []) = is sizes.0 costs.0 sizes.1 costs.1 ∙ ap (λ l. sum_by costs.0 (branches_of l)) only in
    let last = sum_by-cons costs.0 (branch_of b) [] in
    omega (arith, one, whole, last)

pub finds_size : (p : Problem) → IsProblem p → (given : List Branch) (found : Found) → IsFound p given found → FindsSize p given found
finds_size p well given found is b n only size some = is.solves.2 ∙ ap (λ m. min m top) (cost_of_one p well given is.solves.0 is.solves.1 b n only size some)

-- ---- the cause of a halt
named_cell : (p : Problem) (cell : Cell) (proof : TieProof) → NamesEnd p cell proof → proof.cell ≡ cell
named_cell p cell proof (inl h) = h.2.0
named_cell p cell proof (inr h) = h.1.2.0

pub cause_left : (p : Problem) (left rest : List Branch) (b : Branch) (cause : HaltCause) → left ≡ rest ++ b ∷ [] → IsCause p b cause → IsOfLeft p left cause
cause_left p left rest b cause popped is = by_cause cause is
  where
    there : Contains (map (λ (x : Branch). x.cell) left) b.cell
    there = has_contains (map (λ (x : Branch). x.cell) left) b.cell (has-map (λ (x : Branch). x.cell) b left (subst (λ l. Has b l) (sym popped) (has-right b rest (b ∷ []) (inl refl))))

    by_cause : (cause : HaltCause) → IsCause p b cause → IsOfLeft p left cause
    by_cause (Tie proof) h = subst (λ c. Contains (map (λ (x : Branch). x.cell) left) c) (sym (named_cell p b.cell proof h.1)) there
    by_cause (Overflow cell) h =
        subst (λ c. Contains (map (λ (x : Branch). x.cell) left) c × IsOf p c × ¬ (FitsWorking p c)) (sym h.1) (there, h.0.0, h.0.1)
    by_cause OutOfMemory h = tt

pub stopped_with : (p : Problem) (given left : List Branch) (cells : List FoundCell) (stopped : Stopped) → stopped.left.items ≡ left → stopped.found.cells.items ≡ cells
    → ((share : shares.Branch → List Cell) → GivesShares p share → Keeps share (branches_of given) (cells_of cells) (branches_of left))
    → Each cells (HasLowestNormal p) → Each left (IsLeft p given) → IsOfLeft p left stopped.cause → IsStopped p given stopped
stopped_with p given left cells stopped e f keeps normals led cause = record {
  cells = λ share gives.
      subst (λ l. Keeps share (branches_of given) (cells_of stopped.found.cells.items) (branches_of l)) (sym e)
      (subst (λ l. Keeps share (branches_of given) (cells_of l) (branches_of left)) (sym f) (keeps share gives));
  normals = subst (λ l. Each l (HasLowestNormal p)) (sym f) normals;
  left = subst (λ l. Each l (IsLeft p given)) (sym e) led;
  cause = subst (λ l. IsOfLeft p l stopped.cause) (sym e) cause;
}
