-- what the working of a cell and the entry of its lines say of a branch
use Rattle.std.proofs.Common.{◌≡◌, inr, List, [], ℤ, sym, subst}
use Rattle.std.specs.Prelude.{Option, Some, None, MatchOption}
use Rattle.reduced_rows.specs.CellRefusals.{IsEliminated}
use Rattle.reduced_rows.specs.Steps.{elimination, FitsElimination}
use Rattle.std.specs.Prelude.{Err}
use Rattle.cayley.specs.Problems.{Problem}
use Rattle.cayley.specs.Cells.{Cell, IsOf, IsIndependent}
use Rattle.cayley.specs.Rows.{edge_rows}
use Rattle.cone_walls.specs.Workings.{FitsWallWorking}
use Rattle.crossing.specs.declared.line.WallLine.{WallLine}
use Rattle.crossing.specs.declared.entry.Entry.{Entry}
use Rattle.crossing.specs.declared.exit.Exit.{Exit}
use Rattle.crossing.specs.Entries.{IsEntry}
use Rattle.crossing.specs.Exits.{IsExit}
use Rattle.inner_normal.specs.Coefficients.{difference, FitsCoefficients}
use Rattle.inner_normal.specs.Inverses.{Inverse, inverse_of}
use Rattle.inner_normal.specs.declared.moving.MovingNormal.{MovingNormal}
use Rattle.searcher.specs.declared.branches.Branch.{Branch}
use Rattle.searcher.specs.CellWalls.{AreLinesOf, FitCircuitsBy, IsLowestBegin, IsSaid}
use Rattle.searcher.specs.Expansions.{IsOfKind, stranger, overflow, IsSettled}
use Rattle.searcher.specs.Workings.{FitAllCircuits}
use Rattle.searcher.proofs.FitWorkings.{fits_whole, unfit_circuits, unfit_walls, fits_dependent}
use Rattle.searcher.proofs.TwoEnds.{some_alive, said_true, true_said}

module _ (p : Problem) (b : Branch) (made : List (List ℤ)) (normal : MovingNormal) (lines : List WallLine) (answer : IsEliminated p.dimension (edge_rows p b.cell) made) (w : AreLinesOf p b.cell normal lines) where
  pub circuits_overflow : ¬ (FitAllCircuits p b.cell made) → IsOfKind p b overflow
  circuits_overflow n = (w.moving.of, unfit_circuits p b.cell made answer n)

  module _ (c : FitAllCircuits p b.cell made) where
    circuits_by : (inverse : Inverse) → inverse ≡ inverse_of made → FitCircuitsBy p b.cell inverse
    circuits_by inverse e = ((made, answer, e), λ j d f. subst (λ i. FitsCoefficients j i (difference p b.cell j d)) (sym e) (c j d f).1)

    pub circuits_option : (o : Option Inverse) → MatchOption o (lines ≡ []) (λ inverse. inverse ≡ inverse_of made) → MatchOption o (lines ≡ []) (λ inverse. FitCircuitsBy p b.cell inverse)
    circuits_option None h = h
    circuits_option (Some inverse) h = circuits_by inverse h

    module _ (whole : FitsWallWorking p b.cell) (e : Entry) (x : Exit) (ie : IsEntry lines e) (ix : IsExit lines x) where
      pub settled_is : IsSaid b.begin e → IsSettled p b
      settled_is s = (w.moving.of, fits_whole p b.cell made answer whole c, said_true p b.cell w.moving.problem lines w.life x ix b.begin e ie s)

      pub stranger_is : IsLowestBegin b.begin → ¬ (IsSaid b.begin e) → IsOfKind p b stranger
      stranger_is low n = inr (fits_whole p b.cell made answer whole c, λ t. n (true_said p b.cell w.moving.problem lines w.life x ix b.begin e low ie t))

-- a dependent cell is never alive
module _ (p : Problem) (b : Branch) where
  pub dependent_stranger : (cell : Cell) → cell ≡ b.cell → (kernel : List ℤ) → FitsElimination p.dimension (edge_rows p cell) → elimination p.dimension (edge_rows p cell) ≡ Err kernel → ¬ (IsIndependent p cell) → IsOfKind p b stranger
  dependent_stranger cell q kernel f e n =
      inr (
        fits_dependent p b.cell kernel (subst (λ z. FitsElimination p.dimension (edge_rows p z)) q f) (subst (λ z. elimination p.dimension (edge_rows p z) ≡ Err kernel) q e),
        λ t. n (subst (IsIndependent p) (sym q) (some_alive p b.cell b.begin t).1.1),
      )

  pub walls_overflow : IsOf p b.cell → ¬ (FitsWallWorking p b.cell) → IsOfKind p b overflow
  walls_overflow of n = (of, unfit_walls p b.cell n)
