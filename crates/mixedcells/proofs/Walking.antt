-- What a search from the start branch of a path says of the path, and of its file.
use Rattle.std.proofs.Common.{◌≡◌, ◌≤◌, ◌∙◌, ℕ, List, [], ◌∷◌, map, refl, sym, subst, inl, inr, Result, Ok, Err}
use Rattle.std.specs.Prelude.{Contains, IfOk, IfErr, MatchResult}
use Rattle.int_vectors.specs.Vectors.{Each}
use Rattle.cayley.specs.Times.{time_zero}
use Rattle.cayley.specs.Problems.{Problem, IsProblem, Version, version1, version2, file_points}
use Rattle.cayley.specs.Files.{File, plain_problem}
use Rattle.cayley.specs.Paths.{path, start_cell}
use Rattle.cayley.specs.Valid.{IsValidFile}
use Rattle.cayley.specs.Cells.{Cell, IsListOf}
use Rattle.cayley.specs.Normals.{IsNormal}
use Rattle.cayley.specs.Mixed.{IsAlive, IsMixedCell, IsLowestNormal}
use Rattle.cayley.specs.Parents.{IsParent, InChain, IsInTree}
use Rattle.cayley.specs.Shares as shares
use Rattle.cayley.specs.Ties.{IsTieFree}
use Rattle.cayley.specs.declared.found.Begin.TheVariants.{Start}
use Rattle.cayley.specs.declared.found.FoundCell.{FoundCell}
use Rattle.int_vectors.proofs.Each.{each_weaker}
use Rattle.cayley.proofs.Searching.FilePoints.{dec_mixed}
use Rattle.cayley.proofs.Searching.Shares.{a_size, a_share}
use Rattle.cayley.proofs.Searching.Steps.{size_some}
use Rattle.start_system.specs.Started.{start_branch, IsSearched, IsTreeSize}
use Rattle.start_system.proofs.Started.SearchLaws.{path_law}
use Rattle.searcher.specs.declared.branches.Branch.{Branch}
use Rattle.searcher.specs.declared.expansions.HaltCause.{HaltCause}
use Rattle.searcher.specs.declared.expansions.HaltCause.TheVariants.{Tie, Overflow, OutOfMemory}
use Rattle.searcher.specs.declared.searching.Found.{Found}
use Rattle.searcher.specs.declared.searching.Stopped.{Stopped}
use Rattle.searcher.specs.declared.counting.Counted.{Counted}
use Rattle.searcher.specs.Counts.{IsCounted, IsBehind, CountsShare, CountsSize}
use Rattle.searcher.specs.Expansions.{HasLowestNormal, ShowsTieAtEnd, HasNoTie}
use Rattle.searcher.specs.Workings.{FitsWorking}
use Rattle.searcher.specs.Branches.{branch_of}
use Rattle.searcher.specs.Searches.{IsFound, IsStopped, IsLeft, IsOfLeft, FindsShare, FindsSize}
use Rattle.listing_text.specs.Listings.{AreMixedCells}
use Rattle.path_trace.specs.declared.trace.Trace.{Trace}
use Rattle.path_tracer.specs.Traced.{IsTraced}
use Rattle.cell_certificate.proofs.PlainPoints.{own_points}
use Rattle.mixedcells.specs.Walks.{IsSafe, AreReached, AreReachedCells}
use Rattle.search_team.specs.PathSearches.{IsWalked, IsHalted}
use Rattle.search_team.proofs.Starts.{only, first_in}
use Rattle.search_team.proofs.Chained.{found_left}
use Rattle.mixedcells.specs.Journeys.{HasWalked, HasCounted, HasHalted, IsPathCount}

-- ---- a search of a path
abbrev start : Problem → Branch
start p = record { cell = start_cell p; begin = Start }

module _ (p : Problem) (well : IsProblem p) (s : IsSearched p) (given : List Branch) (alone : given ≡ start p ∷ []) where
  some_tree : (n : ℕ) × IsTreeSize p n × (1 ≤ n)
  some_tree =
      let n = a_size p well (start_branch p) in
      (n.0, (s.size n.0).0 n.1, size_some p (start_branch p) n.0 n.1 s.early.0)

  no_parent : (rho : Cell) → ¬ (IsParent p rho (start_cell p))
  no_parent =
      let t = some_tree in
      (first_in (IsInTree p (start_cell p)) t.1.0 (λ cell h. (t.1.1.1 cell).0 h) (subst (λ k. 1 ≤ k) (sym t.1.2) t.2)).1.0

  in_tree : (b : Branch) → IsLeft p given b → IsInTree p (start_cell p) b.cell
  in_tree b (inl c) =
      let e = only (start p) b (subst (λ g. Contains g b) alone c) in
      subst (λ (x : Branch). IsInTree p (start_cell p) x.cell) e (no_parent, InChain.here)
  in_tree b (inr h) =
      let l = subst (λ (g : List Branch). Contains (map branch_of g) h.1.0) alone h.1.1 in
      (no_parent, subst (λ (x : shares.Branch). InChain p x.cell b.cell) (sym (only (start_branch p) h.1.0 l)) h.1.2)

  pub walked : (found : Found) → IsFound p given found → FindsShare p given found → FindsSize p given found → Each found.cells.items (λ x. FitsWorking p x.cell) → IsWalked p found
  walked found f share size fit =
      let n = a_size p well (start_branch p) in
      record {
        cells = share (start p) alone;
        normals = f.normals;
        workings = fit;
        tree = (n.0, (s.size n.0).0 n.1, size (start p) n.0 alone n.1 (size_some p (start_branch p) n.0 n.1 s.early.0));
      }

  counted : (c : Counted) → IsCounted p given c → CountsShare p given c → CountsSize p given c → IsPathCount p c
  counted c f share size =
      let n = a_size p well (start_branch p) in
      let cells = a_share p well (IsMixedCell p) (dec_mixed p well) (start_branch p) in
      record {
        cells = (cells.0, cells.1, share (start p) cells.0 alone cells.1);
        tree = (n.0, (s.size n.0).0 n.1, size (start p) n.0 alone n.1 (size_some p (start_branch p) n.0 n.1 s.early.0));
      }

  told_in_tree : (left : List Branch) (cell : Cell) → Each left (IsLeft p given) → Contains (map (λ (b : Branch). b.cell) left) cell → IsInTree p (start_cell p) cell
  told_in_tree left cell each c =
      let f = found_left (IsLeft p given) left cell each c in
      subst (IsInTree p (start_cell p)) f.2 (in_tree f.0 f.1)

  halted_by : (left : List Branch) (cause : HaltCause) → Each left (IsLeft p given) → IsOfLeft p left cause → ShowsTieAtEnd p cause → (IsTieFree p → HasNoTie cause) → IsHalted p cause
  halted_by left (Tie proof) each of shows none = (none, shows, told_in_tree left proof.cell each of)
  halted_by left (Overflow cell) each of shows none = (told_in_tree left cell each of.0, of.2)
  halted_by left OutOfMemory each of shows none = tt

  pub halted : (stopped : Stopped) → IsStopped p given stopped → ShowsTieAtEnd p stopped.cause → (IsTieFree p → HasNoTie stopped.cause) → IsHalted p stopped.cause
  halted stopped h shows none = halted_by stopped.left.items stopped.cause h.left h.cause shows none

  pub count_walked : (r : Result Counted HaltCause) → MatchResult r (IsCounted p given) (IsBehind p given) → IfOk r (CountsShare p given) → IfOk r (CountsSize p given) → IfErr r (ShowsTieAtEnd p)
      → (IsTieFree p → IfErr r HasNoTie) → MatchResult r (IsPathCount p) (IsHalted p)
  count_walked (Ok c) f share size shows none = counted c f share size
  count_walked (Err cause) h share size shows none = halted_by h.0 cause h.1 h.2 shows none

-- ---- the path of a file
first_version : (v : Version) → ¬ (v ≡ version2) → v ≡ version1
first_version version1 n = refl
first_version version2 n = absurd (n refl)

module _ (file : File) (valid : IsValidFile file) where
  pub path_searched : IsSearched (path file)
  path_searched = (path_law file valid).3

  pub points_same : file_points (path file) ≡ file_points (plain_problem file)
  points_same = (path_law file valid).2 ∙ sym (own_points file valid)

  pub lowest_plain : (x : FoundCell) → HasLowestNormal (path file) x → IsLowestNormal (plain_problem file) x.cell x.normal.v x.normal.den
  lowest_plain x n = (n.0, n.1, (n.2.0, subst (λ q. IsNormal q x.cell time_zero n.2.0) points_same n.2.1, n.2.2))

  pub file_walked : (p : Problem) → p ≡ path file → (found : Found) → IsWalked p found → HasWalked file found
  file_walked p e found w =
      let v = subst (λ q. IsWalked q found) e w in
      record {
        cells = record {
          cells = v.cells;
          workings = v.workings;
          normals = each_weaker (HasLowestNormal (path file)) (λ (x : FoundCell). IsLowestNormal (plain_problem file) x.cell x.normal.v x.normal.den) found.cells.items lowest_plain v.normals;
        };
        tree = v.tree;
      }

  path_halted : (cause : HaltCause) → IsHalted (path file) cause → HasHalted file cause
  path_halted (Tie proof) h = (first_version file.version (λ e. h.0 (path_searched.perturbed e)), h.1, h.2)
  path_halted (Overflow cell) h = h
  path_halted OutOfMemory h = tt

  pub file_halted : (p : Problem) → p ≡ path file → (cause : HaltCause) → IsHalted p cause → HasHalted file cause
  file_halted p e cause h = path_halted cause (subst (λ q. IsHalted q cause) e h)

  pub file_walk : (p : Problem) → p ≡ path file → (r : Result Found HaltCause) → MatchResult r (IsWalked p) (IsHalted p) → MatchResult r (HasWalked file) (HasHalted file)
  file_walk p e (Ok found) h = file_walked p e found h
  file_walk p e (Err cause) h = file_halted p e cause h

  pub file_count : (p : Problem) → p ≡ path file → (r : Result Counted HaltCause) → MatchResult r (IsPathCount p) (IsHalted p) → MatchResult r (HasCounted file) (HasHalted file)
  file_count p e (Ok counted) h = subst (λ q. IsPathCount q counted) e h
  file_count p e (Err cause) h = file_halted p e cause h

  pub file_trace : (p : Problem) → p ≡ path file → (r : Result Trace HaltCause) → MatchResult r (IsTraced p) (IsHalted p) → MatchResult r (IsTraced (path file)) (HasHalted file)
  file_trace p e (Ok trace) h = subst (λ q. IsTraced q trace) e h
  file_trace p e (Err cause) h = file_halted p e cause h

  -- ---- a path without a tie
  pub free_of : IsSafe file → IsTieFree (path file)
  free_of (inl v) = path_searched.perturbed v
  free_of (inr free) = free

  pub all_mixed : IsSafe file → (cells : List Cell) → AreReached file cells → IsListOf (IsMixedCell (plain_problem file)) cells
  all_mixed safe cells r = subst (λ q. IsListOf (λ cell. IsAlive q cell time_zero) cells) points_same (((path_searched.complete (free_of safe)).0 cells).0 r)

  pub all_reached : IsSafe file → (found : List FoundCell) → AreReachedCells file found → AreMixedCells file found
  all_reached safe found r = record { cells = all_mixed safe (map (λ (x : FoundCell). x.cell) found) r.cells; normals = r.normals }
