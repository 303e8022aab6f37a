-- the columns beside the reduced ones solve the equations of a cell's pairs
use Rattle.std.proofs.Common.{◌≡◌, ℕ, suc, ◌+◌, ◌<◌, List, [], ◌∷◌, ◌++◌, length, unsigned_abs, arith, refl, sym, ap, ap₂, subst, subst₂, ◌∙◌, ◌<ℤ◌}
use Rattle.std.proofs.Math.IntN.{ℤ, pos, ◌+ℤ◌, ◌-ℤ◌, ◌*ℤ◌}
use Rattle.wide_int.proofs.Ring.{as_D, Ds, same_D, D-pos}
use Rattle.int_vectors.specs.Vectors.{Each, dot, IsOrthogonal, zeros}
use Rattle.reduced_rows.specs.Denominators.{shares}
use Rattle.reduced_rows.specs.CellRefusals.{IsEliminated}
use Rattle.reduced_rows.specs.Spans.{IsReducedOf}
use Rattle.reduced_rows.specs.Steps.{OfLength}
use Rattle.reduced_rows.proofs.Orthogonal.{length-shares}
use Rattle.reduced_rows.proofs.Outcome.{reduced_means}
use Rattle.reduced_rows.proofs.Solving.{column_solves}
use Rattle.reduced_rows.proofs.Run.{each_longer}
use Rattle.cayley.specs.Problems.{Problem, IsProblem, point_at}
use Rattle.cayley.specs.Cells.{Cell, EachPair, IsOf}
use Rattle.cayley.specs.Rows.{edge_rows}
use Rattle.cayley.proofs.OneCell.CellRows.{pairs_orthogonal, rows_independent, rows_count, rows_width}
use Rattle.cayley.proofs.Lists.Pairs.{pairs_map, pairs_together}
use Rattle.inner_normal.specs.declared.moving.MovingNormal.{MovingNormal}
use Rattle.inner_normal.specs.MovingNormals.{IsMovingNormal}
use Rattle.inner_normal.specs.Workings.{denominator, IsNormalFrom}
use Rattle.inner_normal.proofs.PairEquations.{difference, moving_of}

append_assoc : (xs ys zs : List ℤ) → (xs ++ ys) ++ zs ≡ xs ++ (ys ++ zs)
append_assoc [] ys zs = refl
append_assoc (x ∷ xs) ys zs = ap (λ l. x ∷ l) (append_assoc xs ys zs)

module _ (p : Problem) (cell : Cell) (well : IsProblem p) (of : IsOf p cell) (made : List (List ℤ)) (eliminated : IsEliminated p.dimension (edge_rows p cell) made) where
  pub reduced_of : IsReducedOf p.dimension (edge_rows p cell) made
  reduced_of = reduced_means p.dimension (p.dimension + suc (suc p.dimension)) (edge_rows p cell) made (rows_count p cell well of) (rows_width p cell well of) eliminated.1

  widths : OfLength (p.dimension + suc (suc p.dimension)) made
  widths = reduced_of.long (p.dimension + suc (suc p.dimension)) (rows_width p cell well of)

  -- both columns are there
  pub resting_inside : Each made (λ row. length made < length row)
  resting_inside = let e = reduced_of.count in each_longer (p.dimension + suc (suc p.dimension)) (length made) made (omega (arith, e)) widths

  pub moving_inside : Each made (λ row. suc (length made) < length row)
  moving_inside = let e = reduced_of.count in each_longer (p.dimension + suc (suc p.dimension)) (suc (length made)) made (omega (arith, e)) widths

  resting_solved : IsOrthogonal (edge_rows p cell) (shares p.dimension 0 (denominator made) made ++ (pos (denominator made) ∷ []))
  unfolding zeros
  resting_solved =
      let e : p.dimension + 0 ≡ p.dimension = omega arith in
      subst (IsOrthogonal (edge_rows p cell))
      (append_assoc (shares (p.dimension + 0) 0 (denominator made) made) [] (pos (denominator made) ∷ []) ∙ ap (λ k. shares k 0 (denominator made) made ++ (pos (denominator made) ∷ [])) e)
      (column_solves p.dimension 0 (edge_rows p cell) made reduced_of)

  moving_solved : IsOrthogonal (edge_rows p cell) (shares (suc p.dimension) 0 (denominator made) made ++ (pos 0 ∷ pos (denominator made) ∷ []))
  unfolding zeros
  moving_solved =
      let e : p.dimension + 1 ≡ suc p.dimension = omega arith in
      subst (IsOrthogonal (edge_rows p cell))
      (append_assoc (shares (p.dimension + 1) 0 (denominator made) made) (pos 0 ∷ []) (pos (denominator made) ∷ []) ∙ ap (λ k. shares k 0 (denominator made) made ++ (pos 0 ∷ pos (denominator made) ∷ [])) e)
      (column_solves p.dimension 1 (edge_rows p cell) made reduced_of)

  long_shares : (k : ℕ) → length (shares k 0 (denominator made) made) ≡ p.dimension
  long_shares k = length-shares k 0 (denominator made) made ∙ reduced_of.count

  module _ (m : MovingNormal) (from : IsNormalFrom made m) where
    p_is : m.p ≡ shares p.dimension 0 (denominator made) made
    p_is = from.resting ∙ ap (λ k. shares k 0 (denominator made) made) reduced_of.count

    q_is : m.q ≡ shares (suc p.dimension) 0 (denominator made) made
    q_is = from.moving ∙ ap (λ k. shares (suc k) 0 (denominator made) made) reduced_of.count

    lp : length m.p ≡ p.dimension
    lp = ap length p_is ∙ long_shares p.dimension

    lq : length m.q ≡ p.dimension
    lq = ap length q_is ∙ long_shares (suc p.dimension)

    rest_levels : EachPair p.supports cell (λ s a b. dot (difference s a b) m.p +ℤ m.den *ℤ ((point_at s b).base -ℤ (point_at s a).base) ≡ pos 0)
    rest_levels =
        pairs_map p.supports cell _ _ (λ s a b h. ap (λ z. dot (difference s a b) m.p +ℤ z) (step m.den ((point_at s b).base -ℤ (point_at s a).base)) ∙ h)
        (pairs_orthogonal p.dimension 0 p.supports cell m.p (m.den ∷ []) lp (omega arith) well.points of
        (subst₂ (λ x d. IsOrthogonal (edge_rows p cell) (x ++ (d ∷ []))) (sym p_is) (sym from.over) resting_solved))
      where
        step : (d r : ℤ) → d *ℤ r ≡ r *ℤ d +ℤ pos 0
        step d r = rw (as_D d, as_D r, D-pos 0) (simp Ds (same_D _ _ _ _ (omega arith)))

    moving_levels : EachPair p.supports cell (λ s a b. dot (difference s a b) m.q +ℤ m.den *ℤ ((point_at s b).speed -ℤ (point_at s a).speed) ≡ pos 0)
    moving_levels =
        pairs_map p.supports cell _ _ (λ s a b h. ap (λ z. dot (difference s a b) m.q +ℤ z) (step m.den ((point_at s b).base -ℤ (point_at s a).base) ((point_at s b).speed -ℤ (point_at s a).speed)) ∙ h)
        (pairs_orthogonal p.dimension 0 p.supports cell m.q (pos 0 ∷ m.den ∷ []) lq (omega arith) well.points of
        (subst₂ (λ x d. IsOrthogonal (edge_rows p cell) (x ++ (pos 0 ∷ d ∷ []))) (sym q_is) (sym from.over) moving_solved))
      where
        step : (d r s : ℤ) → d *ℤ s ≡ r *ℤ pos 0 +ℤ (s *ℤ d +ℤ pos 0)
        step d r s = rw (as_D d, as_D r, as_D s, D-pos 0) (simp Ds (same_D _ _ _ _ (omega arith)))

    -- the numbers of the working are the normal at every time
    pub moving_from : pos 0 <ℤ m.den → IsMovingNormal p cell m
    moving_from positive =
        moving_of p cell well of (rows_independent p cell well of reduced_of.independent) m positive lp lq
        (pairs_together p.supports cell (λ s a b. dot (difference s a b) m.p +ℤ m.den *ℤ ((point_at s b).base -ℤ (point_at s a).base) ≡ pos 0) (λ s a b. dot (difference s a b) m.q +ℤ m.den *ℤ ((point_at s b).speed -ℤ (point_at s a).speed) ≡ pos 0) rest_levels moving_levels)

-- the two solutions over the denominator are the numbers of the working
pub from_solutions : (made : List (List ℤ)) (m : MovingNormal) (i j : ℕ) (den : ℤ) → i ≡ length made → j ≡ suc i → m.den ≡ den → den ≡ pos (denominator made)
    → m.p ≡ shares i 0 (unsigned_abs den) made → m.q ≡ shares j 0 (unsigned_abs den) made → IsNormalFrom made m
from_solutions made m i j den ei ej ed e p q = record {
  resting = p ∙ ap₂ (λ k l. shares k 0 l made) ei (ap unsigned_abs e);
  moving = q ∙ ap₂ (λ k l. shares k 0 l made) (ej ∙ ap suc ei) (ap unsigned_abs e);
  over = ed ∙ e;
}
