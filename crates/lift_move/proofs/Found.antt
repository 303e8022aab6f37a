-- the answers of a move, from what is reached at time 1
use Rattle.std.proofs.Common.{◌≡◌, inl, inr, ℕ, ◌+◌, ◌<◌, ◌++◌, List, [], ◌∷◌, length, take, ap, ap₂, sym, ◌∙◌, subst}
use Rattle.std.specs.Prelude.{slice_index_or, Contains}
use Rattle.std.specs.Option.{option_map}
use Rattle.std.proofs.lemmas.List.{map_push, take_more}
use Rattle.int_vectors.specs.Vectors.{Each}
use Rattle.cayley.specs.declared.found.FoundCell.{FoundCell}
use Rattle.cayley.specs.Times.{time_zero}
use Rattle.cayley.specs.Problems.{Problem, IsProblem, IsStill, HasNoCorners, file_points}
use Rattle.cayley.specs.Valid.{IsValidProblem}
use Rattle.cayley.specs.Cells.{Cell, IsListOf}
use Rattle.cayley.specs.Mixed.{IsMixedCell}
use Rattle.cayley.specs.TieProofs.{spot_of}
use Rattle.cayley.proofs.Life.ShownTies.{shown_tie_law}
use Rattle.int_vectors.proofs.Each.{each_append}
use Rattle.cayley.proofs.Order.Lines.{before_trans}
use Rattle.cayley.proofs.Order.Times.{never_before}
use Rattle.cayley.proofs.Searching.Listing.{Has}
use Rattle.cayley.proofs.Searching.Members.{has_contains}
use Rattle.cayley.proofs.Searching.Shares.{list_has}
use Rattle.cayley.specs.Stored.{cells_of}
use Rattle.cayley.proofs.Searching.Steps.{each_in}
use Rattle.inner_normal.specs.Workings.{FitsNormalWorking}
use Rattle.searcher.specs.declared.expansions.HaltCause.{HaltCause}
use Rattle.searcher.specs.declared.expansions.HaltCause.TheVariants.{Tie, Overflow, OutOfMemory}
use Rattle.searcher.specs.Expansions.{HasLowestNormal, HasNoTie}
use Rattle.searcher.specs.Passes.{IsReached, IsHaltOnTheWay}
use Rattle.lift_move.specs.Segments.{IsSegment, IsGeneric, end_of}
use Rattle.lift_move.specs.Moves.{AreMoved, IsMoveHalt, AreAll, FitAllOnTheWay, HasNoOverflow, AreUnfit, IsUnfitCell}
use Rattle.lift_move.proofs.Ends.{own_points, end_alone, end_still, mixed_at_end}
use Rattle.lift_move.proofs.Complete.{all_reached}

-- ---- the loop over the cells
pub next_cells : (cells : List Cell) (found new : List FoundCell) (k : ℕ) (cell : Cell) (f : FoundCell) → cell ≡ slice_index_or cells k cell → k < length cells → f.cell ≡ cell
    → cells_of found ≡ take k cells → new ≡ found ++ f ∷ [] → cells_of new ≡ take (k + 1) cells
next_cells cells found new k cell f is l e before n =
    ap cells_of n ∙ map_push (λ (x : FoundCell). x.cell) found f ∙ ap₂ (λ xs x. xs ++ x ∷ []) before (e ∙ is) ∙ sym (take_more cells k cell l)

pub next_normals : (p : Problem) (found new : List FoundCell) (f : FoundCell) → HasLowestNormal p f → Each found (HasLowestNormal p) → new ≡ found ++ f ∷ [] → Each new (HasLowestNormal p)
next_normals p found new f h before n = subst (λ l. Each l (HasLowestNormal p)) (sym n) (each_append (HasLowestNormal p) found (f ∷ []) before (h, tt))

-- a cell that is read at a place is among the cells
pub unfit_among : (p : Problem) (cells : List Cell) (cell : Cell) (cause : HaltCause) → Has cell cells → IsUnfitCell p cell cause → AreUnfit p cells cause
unfit_among p cells cell (Tie proof) h u = u
unfit_among p cells cell (Overflow z) h u = (subst (λ c. Contains cells c) (sym u.0) (has_contains cells cell h), subst (λ c. ¬ (FitsNormalWorking p c)) (sym u.0) u.1)
unfit_among p cells cell OutOfMemory h u = tt

-- ---- the whole move
module _ (p second : Problem) (well : IsProblem p) (seg : IsSegment p) (valid : IsValidProblem second) (e : second ≡ end_of p) (given : List Cell) where
  pub own : file_points second ≡ second
  own = own_points second valid.ranks (subst HasNoCorners (sym e) (end_alone p seg.1))

  pub still : IsStill second
  still = subst IsStill (sym e) (end_still p seg.1)

  mixed_of : (cell : Cell) → IsReached p given cell → IsMixedCell second cell
  mixed_of cell r = (mixed_at_end p second cell seg.1 valid.ranks e).0 r.0

  module _ (reached : List Cell) (is : IsListOf (IsReached p given) reached) where
    pub all_mixed : Each reached (IsMixedCell second)
    all_mixed = each_in (IsMixedCell second) reached (λ c h. mixed_of c (list_has (IsReached p given) reached is c h))

    pub moved : (found : List FoundCell) → cells_of found ≡ reached → Each found (HasLowestNormal second) → AreMoved p second given found
    moved found q n = record { cells = subst (IsListOf (IsReached p given)) (sym q) is; normals = n }

    pub moved_mixed : (found : List FoundCell) → cells_of found ≡ reached → Each (cells_of found) (IsMixedCell second)
    moved_mixed found q = subst (λ l. Each l (IsMixedCell second)) (sym q) all_mixed

    pub moved_full : IsGeneric p → AreAll p given → (found : List FoundCell) → cells_of found ≡ reached → IsListOf (IsMixedCell second) (cells_of found)
    moved_full generic all found q = subst (IsListOf (IsMixedCell second)) (sym q) (
      is.0,
      λ c. (
        (λ h. mixed_of c ((is.1 c).0 h)),
        (λ m. (is.1 c).1 (all_reached p well generic given all c ((mixed_at_end p second c seg.1 valid.ranks e).1 m))),
      ),
    )

    -- a normal that doesn't fit
    pub unfit_halt : (cause : HaltCause) → AreUnfit second reached cause → IsMoveHalt p second given cause
    unfit_halt (Tie proof) u = absurd u
    unfit_halt (Overflow z) u = let r = (is.1 z).0 u.0 in (r.1, inr (r, u.1))
    unfit_halt OutOfMemory u = tt

  pub way_halt : (cause : HaltCause) → IsHaltOnTheWay p given cause → IsMoveHalt p second given cause
  way_halt (Tie proof) h = h
  way_halt (Overflow z) h = (h.2, inl h.1)
  way_halt OutOfMemory h = tt

  pub halt_untied : IsGeneric p → (cause : HaltCause) → IsMoveHalt p second given cause → HasNoTie cause
  halt_untied generic (Tie proof) h =
      let w = h.0 in
      let s = shown_tie_law p proof.cell w.0 (spot_of proof.first) (option_map spot_of proof.second) well w.4.0 in
      generic.0 proof.cell w.0 (λ k. never_before time_zero (before_trans time_zero w.0 time_zero w.2 (inl k))) w.3 s.0 s.1
  halt_untied generic (Overflow z) h = tt
  halt_untied generic OutOfMemory h = tt

  pub halt_fits : FitAllOnTheWay p second given → (cause : HaltCause) → IsMoveHalt p second given cause → HasNoOverflow cause
  halt_fits fits (Tie proof) h = tt
  halt_fits fits (Overflow z) (l, inl n) = n (fits.0 z l)
  halt_fits fits (Overflow z) (l, inr u) = u.1 (fits.1 z u.0)
  halt_fits fits OutOfMemory h = tt
