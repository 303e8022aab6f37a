-- the lines that a node's matrix gives
use Rattle.std.proofs.Common.{◌≡◌, ◌↔◌, ℕ, suc, ◌-◌, ◌≤◌, List, [], map, arith, refl, sym, ap, subst, ◌∙◌}
use Rattle.int_vectors.specs.Vectors.{Each}
use Rattle.cayley.specs.Problems.{Problem}
use Rattle.cayley.specs.Valid.{IsValidProblem}
use Rattle.cayley.specs.Cells.{Cell, IsOf}
use Rattle.cayley.specs.Dependencies.{IsFurtherAt}
use Rattle.int_vectors.proofs.Each.{all_each, each_unmap, each_weaker, each_both}
use Rattle.crossing.specs.declared.line.WallLine.{WallLine}
use Rattle.crossing.specs.Lines.{FitsLine}
use Rattle.inner_normal.specs.Coefficients.{difference, FitsCoefficients}
use Rattle.inner_normal.specs.Inverses.{Inverse}
use Rattle.cone_walls.specs.Listed.{wall_lines, coarse}
use Rattle.cone_walls.specs.Parts.{IsFurtherLine, FitsCircuitOf, AreRefined}
use Rattle.cone_walls.specs.Places.{AreOfFurtherPoints, HasNumbers}
use Rattle.cone_walls.proofs.FurtherLines.{each_has, of_further_points, have_numbers, are_further, further_lines, no_parts}
use Rattle.cone_walls.proofs.Fining.{coarse_same, refined_coarse, refined_fit, refined_parts}
use Rattle.cone_walls.proofs.Telling.{tell_sides_by}
use Rattle.path_trace.specs.declared.trace.TraceNode.{TraceNode}
use Rattle.cone_walls.proofs.Making.{in_order, has_line}
use Rattle.log_check.specs.Nodes.{HasInverse}
use Rattle.log_check.specs.Numbers.{inverse_of, normal_of}
use Rattle.log_check.specs.Walled.{HasLines}
use Rattle.log_check.proofs.Inverting.{moves, depends}

-- ---- which numbers fit
module _ (p : Problem) (cell : Cell) (lines : List WallLine) (listed : AreOfFurtherPoints p cell lines) (inverse : Inverse) where
  pub circuits_all : Each lines (FitsCircuitOf p cell inverse) → (j c : ℕ) → IsFurtherAt p cell j c → FitsCoefficients j inverse (difference p cell j c)
  circuits_all h j c e =
      let w : j ≡ suc j - 1 = omega arith in
      subst (λ z. FitsCoefficients z inverse (difference p cell z c)) (sym w)
      (each_has (λ k d. FitsCoefficients (k - 1) inverse (difference p cell (k - 1) d)) lines (suc j) c h ((listed.1 (suc j) c).1 (omega arith, subst (λ z. IsFurtherAt p cell z c) w e)))

pub circuits_each : (p : Problem) (cell : Cell) (inverse : Inverse) (lines : List WallLine) → Each lines (IsFurtherLine p cell) → ((j c : ℕ) → IsFurtherAt p cell j c → FitsCoefficients j inverse (difference p cell j c)) → Each lines (FitsCircuitOf p cell inverse)
circuits_each p cell inverse lines further h = each_weaker (IsFurtherLine p cell) (FitsCircuitOf p cell inverse) lines (λ l f. h (l.support - 1) l.position f.2) further

-- ---- the lines of a node
module _ (p : Problem) (node : TraceNode) (valid : IsValidProblem p) (of : IsOf p node.cell) (h : HasInverse p node) (lines made : List WallLine) (is : lines ≡ wall_lines (normal_of p node) 1 p.supports node.cell) where
  pub their_points : Each lines (IsFurtherLine p node.cell)
  their_points = subst (λ ls. Each ls (IsFurtherLine p node.cell)) (sym is) (further_lines (normal_of p node) p node.cell valid.shape.problem.supports)

  pub listed : AreOfFurtherPoints p node.cell lines
  listed = subst (AreOfFurtherPoints p node.cell) (sym is) (of_further_points (normal_of p node) p node.cell of)

  pub walled : AreRefined p node.cell (inverse_of p node) lines made → HasLines p node made
  walled r =
      let m = normal_of p node in
      let whole : map coarse made ≡ wall_lines m 1 p.supports node.cell =
      refined_coarse p node.cell (inverse_of p node) lines made r ∙ ap (map coarse) is ∙ coarse_same p node.cell valid [] (wall_lines m 1 p.supports node.cell) (no_parts m p node.cell) in
      let places = subst (AreOfFurtherPoints p node.cell) (sym whole) (of_further_points m p node.cell of) in
      let further = each_unmap coarse (λ l. IsFurtherAt p node.cell (l.support - 1) l.position) made (subst (λ ls. Each ls (λ l. IsFurtherAt p node.cell (l.support - 1) l.position)) (sym whole) (are_further m p node.cell)) in
      let values = each_unmap coarse (HasNumbers p node.cell m) made (subst (λ ls. Each ls (HasNumbers p node.cell m)) (sym whole) (have_numbers m p node.cell)) in
      record {
        places = (in_order made places.0, λ j c. subst (λ (A : Type 0). A ↔ ((1 ≤ j) × IsFurtherAt p node.cell (j - 1) c)) (has_line made j c) (places.1 j c));
        sides = tell_sides_by p node.cell m (moves p node valid.shape.problem of h) (inverse_of p node) refl (depends p node valid.shape.problem of h) made
            (each_both (λ l. IsFurtherAt p node.cell (l.support - 1) l.position) (HasNumbers p node.cell m) made further values) (refined_parts p node.cell (inverse_of p node) lines made r);
        fit = λ k d l. all_each FitsLine made (refined_fit p node.cell (inverse_of p node) lines made r) k d l;
      }
