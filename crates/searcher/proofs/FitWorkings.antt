-- the whole working of a cell from its parts
use Rattle.std.proofs.Common.{◌≡◌, ◌∙◌, List, ℤ, Result, Ok, Err, refl, sym, subst}
use Rattle.reduced_rows.specs.CellRefusals.{IsEliminated}
use Rattle.reduced_rows.specs.Steps.{elimination, FitsElimination}
use Rattle.cayley.specs.Problems.{Problem}
use Rattle.cayley.specs.Cells.{Cell}
use Rattle.cayley.specs.Rows.{edge_rows}
use Rattle.cone_walls.specs.Workings.{FitsWallWorking}
use Rattle.searcher.specs.Workings.{FitAllCircuits, FitsWorking}

abbrev Makes : List (List ℤ) → Result (List (List ℤ)) (List ℤ) → Type 0
Makes made (Ok other) = made ≡ other
Makes made (Err kernel) = ⊥

same_made : (made other : List (List ℤ)) (r : Result (List (List ℤ)) (List ℤ)) → r ≡ Ok made → r ≡ Ok other → made ≡ other
same_made made other r e f = subst (Makes made) f (subst (Makes made) (sym e) refl)

module _ (p : Problem) (cell : Cell) where
  pub fits_whole : (made : List (List ℤ)) → IsEliminated p.dimension (edge_rows p cell) made → FitsWallWorking p cell → FitAllCircuits p cell made → FitsWorking p cell
  fits_whole made e w c = (w.0, λ other o. (w.1 other o, subst (FitAllCircuits p cell) (same_made made other (elimination p.dimension (edge_rows p cell)) e.1 o) c))

  pub unfit_circuits : (made : List (List ℤ)) → IsEliminated p.dimension (edge_rows p cell) made → ¬ (FitAllCircuits p cell made) → ¬ (FitsWorking p cell)
  unfit_circuits made e n w = n (w.1 made e.1).1

  pub unfit_walls : ¬ (FitsWallWorking p cell) → ¬ (FitsWorking p cell)
  unfit_walls n w = n (w.0, λ made e. (w.1 made e).0)

  pub fits_dependent : (kernel : List ℤ) → FitsElimination p.dimension (edge_rows p cell) → elimination p.dimension (edge_rows p cell) ≡ Err kernel → FitsWorking p cell
  fits_dependent kernel f e = (f, λ made o. absurd (apart made (sym o ∙ e)))
    where
      apart : (made : List (List ℤ)) → Ok made ≡ Err kernel → ⊥
      apart made h = cc
