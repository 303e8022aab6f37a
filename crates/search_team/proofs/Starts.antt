-- a search from the start branch of a path
use Rattle.std.proofs.Common.{◌≡◌, ◌≤◌, ℕ, zero, suc, List, [], ◌∷◌, length, arith, refl, sym, subst}
use Rattle.std.specs.Prelude.{Contains}
use Rattle.int_vectors.specs.Vectors.{Each}
use Rattle.cayley.specs.declared.found.Begin.TheVariants.{Start}
use Rattle.cayley.specs.declared.found.FoundCell.{FoundCell}
use Rattle.cayley.specs.Problems.{Problem, IsStill}
use Rattle.cayley.specs.Valid.{IsValidProblem}
use Rattle.cayley.specs.Paths.{start_cell}
use Rattle.cayley.specs.Cells.{Cell}
use Rattle.cayley.specs.Parents.{IsParent, InChain, IsInTree}
use Rattle.cayley.specs.Ties.{IsTieFree}
use Rattle.cayley.proofs.Searching.Shares.{a_size}
use Rattle.cayley.proofs.Searching.Steps.{size_some}
use Rattle.start_system.specs.Started.{start_branch, IsStarted, IsSearched, IsTreeSize}
use Rattle.start_system.proofs.Path.Still.{form_still}
use Rattle.start_system.proofs.Started.SearchLaws.{started_form, started_law}
use Rattle.searcher.specs.declared.branches.Branch.{Branch}
use Rattle.searcher.specs.declared.expansions.HaltCause.{HaltCause}
use Rattle.searcher.specs.declared.expansions.HaltCause.TheVariants.{Tie, Overflow, OutOfMemory}
use Rattle.searcher.specs.declared.searching.Found.{Found}
use Rattle.searcher.specs.Expansions.{HasNoTie}
use Rattle.searcher.specs.Workings.{FitsWorking}
use Rattle.searcher.specs.Searches.{IsFound, FindsShare, FindsSize}
use Rattle.search_team.specs.declared.stopping.TeamStopped.{TeamStopped}
use Rattle.search_team.specs.Teams.{IsBehind, IsCauseBehind, IsTeamStopped}
use Rattle.search_team.specs.PathSearches.{IsWalked, IsHalted}

pub started_still : (p : Problem) → IsValidProblem p → IsStarted p → IsStill p
started_still p valid started = form_still p (started_form p valid.shape started)

pub only : {X : Type 0} (x y : X) → Contains (x ∷ []) y → x ≡ y
only x y (zero, l, e) = e
only x y (suc i, l, e) = absurd (omega (arith, l))

pub first_in : (P : Cell → Type 0) (cells : List Cell) → ((cell : Cell) → Contains cells cell → P cell) → 1 ≤ length cells → (x : Cell) × P x
first_in P [] f l = absurd (omega (arith, l))
first_in P (x ∷ cells) f l = (x, f x (0, omega arith, refl))

abbrev start : Problem → Branch
start p = record { cell = start_cell p; begin = Start }

module _ (p : Problem) (valid : IsValidProblem p) (started : IsStarted p) (given : List Branch) (alone : given ≡ start p ∷ []) where
  searched : IsSearched p
  searched = started_law p valid started

  some_tree : (n : ℕ) × IsTreeSize p n × (1 ≤ n)
  some_tree =
      let n = a_size p valid.shape.problem (start_branch p) in
      (n.0, (searched.size n.0).0 n.1, size_some p (start_branch p) n.0 n.1 searched.early.0)

  no_parent : (rho : Cell) → ¬ (IsParent p rho (start_cell p))
  no_parent =
      let t = some_tree in
      (first_in (IsInTree p (start_cell p)) t.1.0 (λ cell h. (t.1.1.1 cell).0 h) (subst (λ k. 1 ≤ k) (sym t.1.2) t.2)).1.0

  pub walked : (found : Found) → IsFound p given found → FindsShare p given found → FindsSize p given found → Each found.cells.items (λ (x : FoundCell). FitsWorking p x.cell) → IsWalked p found
  walked found f share size fit =
      let n = a_size p valid.shape.problem (start_branch p) in
      record {
        cells = share (start p) alone;
        normals = f.normals;
        workings = fit;
        tree = (n.0, (searched.size n.0).0 n.1, size (start p) n.0 alone n.1 (size_some p (start_branch p) n.0 n.1 searched.early.0));
      }

  in_tree : (cell : Cell) → IsBehind p given cell → IsInTree p (start_cell p) cell
  in_tree cell b =
      let e = only (start p) b.0 (subst (λ g. Contains g b.0) alone b.1) in
      (no_parent, subst (λ (x : Branch). InChain p x.cell cell) (sym e) b.2)

  halted_by : (cause : HaltCause) → IsCauseBehind p given cause → (IsTieFree p → HasNoTie cause) → IsHalted p cause
  halted_by (Tie proof) h none = (none, h.0, in_tree proof.cell h.1)
  halted_by (Overflow cell) h none = (in_tree cell h.2, h.1)
  halted_by OutOfMemory h none = tt

  pub halted : (s : TeamStopped) → IsTeamStopped p given s → IsHalted p s.cause
  halted s h = halted_by s.cause h.behind h.untied
