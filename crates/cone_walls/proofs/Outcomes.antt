-- what the answers say of the working and of the cell
use Rattle.std.proofs.Common.{◌≡◌, List, ℤ, length, sym, ap, subst, ◌∙◌}
use Rattle.reduced_rows.specs.CellRefusals.{IsEliminated}
use Rattle.cayley.specs.Problems.{Problem, IsProblem}
use Rattle.cayley.specs.Cells.{Cell, IsOf}
use Rattle.cayley.specs.Rows.{edge_rows}
use Rattle.inner_normal.proofs.CellAnswers.{beyond_rows}
use Rattle.inner_normal.proofs.Meaning.{reduced_of}
use Rattle.inner_normal.specs.declared.moving.MovingNormal.{MovingNormal}
use Rattle.inner_normal.specs.Workings.{denominator, FitsNormal, IsNormalFrom}
use Rattle.reduced_rows.specs.Denominators.{shares}
use Rattle.cone_walls.specs.Workings.{normal_of_rows, FitsWalls, FitsCircuits, FitsRest, FitsWallWorking}

pub working_fits : (p : Problem) (cell : Cell) (made : List (List ℤ)) → IsEliminated p.dimension (edge_rows p cell) made → FitsRest p cell made → FitsWallWorking p cell
working_fits p cell made e r = beyond_rows p.dimension (edge_rows p cell) made (FitsRest p cell) e r

-- the normal is the one that its rows give
normal_is : (made : List (List ℤ)) (m : MovingNormal) → IsNormalFrom made m → m ≡ normal_of_rows made
normal_is made m h =
    ap (λ (ps : List ℤ). record m { p = ps }) h.resting
    ∙ ap (λ (qs : List ℤ). record m { p = shares (length made) 0 (denominator made) made; q = qs }) h.moving
    ∙ ap (λ (d : ℤ). record (normal_of_rows made) { den = d }) h.over

made_count : (p : Problem) (cell : Cell) (made : List (List ℤ)) → IsProblem p → IsOf p cell → IsEliminated p.dimension (edge_rows p cell) made → length made ≡ p.dimension
made_count p cell made well of e = (reduced_of p cell well of made e).count

pub normal_fits : (p : Problem) (cell : Cell) (made : List (List ℤ)) → IsProblem p → IsOf p cell → IsEliminated p.dimension (edge_rows p cell) made → FitsRest p cell made → FitsNormal (length made) made
normal_fits p cell made well of e r = subst (λ n. FitsNormal n made) (sym (made_count p cell made well of e)) r.0

pub rest_from : (p : Problem) (cell : Cell) (made : List (List ℤ)) (m : MovingNormal) → IsProblem p → IsOf p cell → IsEliminated p.dimension (edge_rows p cell) made → IsNormalFrom made m → FitsNormal (length made) made → FitsWalls p cell m
    → FitsCircuits p cell made → FitsRest p cell made
rest_from p cell made m well of e h f w c = (subst (λ n. FitsNormal n made) (made_count p cell made well of e) f, subst (FitsWalls p cell) (normal_is made m h) w, c)

pub walls_from : (p : Problem) (cell : Cell) (made : List (List ℤ)) (m : MovingNormal) → IsNormalFrom made m → FitsRest p cell made → FitsWalls p cell m
walls_from p cell made m h r = subst (FitsWalls p cell) (sym (normal_is made m h)) r.1
