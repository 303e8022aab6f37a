-- the mirror image of the flip law: a cell that begins with one level point has a parent
use Rattle.std.proofs.Common.{◌≡◌, ℕ, arith, refl, sym, ap, subst, ◌∙◌, inl, inr, ◌<ℤ◌}
use Rattle.std.proofs.lemmas.Int.{ints}
use Rattle.std.proofs.Math.IntN.{pos}
use Rattle.wide_int.proofs.Order.{sign_cases}
use Rattle.cayley.proofs.Flipping.Exchange.{here_of, Circuit, turn, cycle, negate, rising_is, rising_turn, a_circuit}
use Rattle.cayley.proofs.Flipping.FlipScenes.{Scene, turn_scene, cycle_scene, other_scene}
use Rattle.cayley.proofs.Flipping.FlipSides.{rises_where_after, precedes_scene}
use Rattle.cayley.proofs.Life.Decisions.{alive_after}
use Rattle.cayley.proofs.Flipping.FlipSpots.{scene_of, line_level}
use Rattle.cayley.proofs.Searching.Parents.{parent_exists}
use Rattle.cayley.specs.Problems.{IsProblem}
use Rattle.cayley.specs.Times.{Time}
use Rattle.cayley.specs.Cells.{Cell}
use Rattle.cayley.specs.Lives.{AliveJustAfter, BeginsAt}
use Rattle.cayley.specs.Parents.{Precedes, IsParent}
use Rattle.cayley.specs.Flips.{rising}
use Rattle.cayley.proofs.Flipping.OneSupport.{OneSupport, problem_of, with_pair, LevelPoint, IsSuccessor}
use Rattle.cayley.proofs.OneCell.CellRows.{InRange}

module _ (o : OneSupport) (t : Time) (a b c : ℕ) (well : IsProblem (problem_of o)) (after : AliveJustAfter (problem_of o) (with_pair o (a, b)) t)
    (l : LevelPoint o a b c t) (k : Circuit o a b c) (plus : pos 0 <ℤ k.lz) where
  falls_turned : pos 0 <ℤ k.line.slope → (negate o a b c k).line.slope <ℤ pos 0
  unfolding negate
  falls_turned p = omega (arith, ints)

  back_scene : Scene o t a b c
  back_scene =
      let h = (alive_after (problem_of o) (with_pair o (a, b)) t after).1 in
      scene_of o t a b c well h.0 h.1 l (negate o a b c k) (falls_turned (rises_where_after o t a b c k l.further (line_level o t a b c l k) after plus))

  same_pair : with_pair o (rising a b) ≡ with_pair o (a, b)
  same_pair = ap (with_pair o) (rising_is a b (here_of InRange o (a, b) (alive_after (problem_of o) (with_pair o (a, b)) t after).1.0).1)

  other_order : (x y : ℕ) → with_pair o (rising x y) ≡ with_pair o (rising y x)
  other_order x y = ap (with_pair o) (rising_turn x y)

  -- the cells that precede it take c in place of a point whose number is negative
  pub preceded_by : (rho : Cell) → IsSuccessor o a b c k.lx k.ly rho → Precedes (problem_of o) rho (with_pair o (a, b)) t
  unfolding back_scene scene_of turn_scene turn cycle_scene cycle other_scene negate
  preceded_by rho (inl h) =
      let n = h.1 in
      let p = plus in
      subst (λ i. Precedes (problem_of o) rho i t) same_pair (subst (λ i. Precedes (problem_of o) i (with_pair o (rising a b)) t) (sym h.0)
      (precedes_scene o t a c b (other_scene o t a b c back_scene) (omega (arith, ints, n)) (omega (arith, ints, p))))
  preceded_by rho (inr h) =
      let n = h.1 in
      let p = plus in
      subst (λ i. Precedes (problem_of o) rho i t) (other_order b a ∙ same_pair) (subst (λ i. Precedes (problem_of o) i (with_pair o (rising b a)) t) (sym h.0)
      (precedes_scene o t b c a (cycle_scene o t a b c back_scene) (omega (arith, ints, n)) (omega (arith, ints, p))))

  pub a_predecessor : (rho : Cell) × Precedes (problem_of o) rho (with_pair o (a, b)) t
  a_predecessor =
      let s = k.sum in
      let p = plus in
      let x = with_pair o (rising a c) in
      let y = with_pair o (rising b c) in
      sign_cases k.ly
      (λ n. (x, preceded_by x (inl (refl, n))))
      (λ z. (y, preceded_by y (inr (refl, omega (arith, ints, s, p, z)))))
      (λ m. (y, preceded_by y (inr (refl, omega (arith, ints, s, p, m)))))

-- a cell that begins at t with one level point has a parent
pub has_parent : (o : OneSupport) (t : Time) (a b c : ℕ) → IsProblem (problem_of o) → BeginsAt (problem_of o) (with_pair o (a, b)) t → LevelPoint o a b c t → (rho : Cell) × IsParent (problem_of o) rho (with_pair o (a, b))
has_parent o t a b c well begins l =
    let h = (alive_after (problem_of o) (with_pair o (a, b)) t begins.0).1 in
    let k = a_circuit o a b c well h.0 h.1 in
    let r = a_predecessor o t a b c well begins.0 l k.circuit k.positive in
    parent_exists (problem_of o) r.0 (with_pair o (a, b)) well t begins r.1
