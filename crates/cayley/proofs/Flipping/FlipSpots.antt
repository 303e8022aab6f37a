-- the successors of a cell at the time at which one further point is level, and their predecessors
use Rattle.std.proofs.Common.{◌≡◌, ◌⊎◌, ◌↔◌, ℕ, List, arith, refl, sym, ap, subst, ◌∙◌, inl, inr, ◌<ℤ◌}
use Rattle.std.proofs.lemmas.Int.{ints}
use Rattle.std.proofs.Math.IntN.{pos}
use Rattle.wide_int.proofs.Order.{sign_cases}
use Rattle.cayley.proofs.Order.Proportion.{zero_in_proportion}
use Rattle.cayley.proofs.Order.Lines.{line_at}
use Rattle.cayley.proofs.Searching.Parents.{precedes_same}
use Rattle.cayley.proofs.Flipping.Exchange.{others_of, here_of, all_of, IsOrthogonal, Circuit, turn, cycle, seen, rising_is, rising_turn}
use Rattle.cayley.proofs.Flipping.FlipScenes.{IsLevel, FurtherAbove, Scene, turn_scene, cycle_scene, other_scene}
use Rattle.cayley.proofs.Flipping.FlipSides.{falls_where_before, precedes_scene, begins_rising}
use Rattle.cayley.proofs.Flipping.FlipNeighbours.{successors_of, predecessors_of}
use Rattle.cayley.proofs.Life.Decisions.{begins_at_once, alive_before}
use Rattle.int_vectors.specs.Vectors.{IsZero, IsPositive}
use Rattle.cayley.specs.Times.{Time}
use Rattle.cayley.specs.Problems.{Point, point_at, IsProblem}
use Rattle.cayley.specs.Normals.{Normal, gap}
use Rattle.cayley.specs.Cells.{Cell, EachPair, IsOf, IsIndependent, IsFurther, IsLess}
use Rattle.cayley.specs.Lives.{AliveJustBefore, BeginsAt}
use Rattle.cayley.specs.Parents.{Precedes, IsParent}
use Rattle.cayley.specs.Flips.{rising}
use Rattle.cayley.proofs.Flipping.OneSupport.{OneSupport, problem_of, with_pair, LevelPoint, IsSuccessor, IsPredecessor}
use Rattle.cayley.proofs.Lists.Pairs.{pairs_map, pairs_together}
use Rattle.cayley.proofs.OneCell.CellRows.{InRange}

pub above_where : (t : Time) (v : Normal) (supports : List (List Point)) (cell : Cell)
    → EachPair supports cell (λ s a b. (c : ℕ) → IsFurther s a b c → IsPositive (gap t v (point_at s a) (point_at s c)) ⊎ IsZero (gap t v (point_at s a) (point_at s c)))
    → EachPair supports cell (λ s a b. (c : ℕ) → IsFurther s a b c → ¬ (IsZero (gap t v (point_at s a) (point_at s c))))
    → EachPair supports cell (FurtherAbove t v)
above_where t v supports cell e f =
    pairs_map supports cell _ (FurtherAbove t v) (λ s a b h c i. elim (h.0 c i) [ inl p ↦ p | inr z ↦ absurd (h.1 c i z) ])
    (pairs_together supports cell _ _ e f)

-- a scene from one of its cells, where the line falls
unfoldable pub scene_of : (o : OneSupport) (t : Time) (a b c : ℕ) → IsProblem (problem_of o) → IsOf (problem_of o) (with_pair o (a, b)) → IsIndependent (problem_of o) (with_pair o (a, b))
    → LevelPoint o a b c t → (k : Circuit o a b c) → k.line.slope <ℤ pos 0 → Scene o t a b c
scene_of o t a b c well of ind l k falls =
    let r = here_of InRange o (a, b) of in
    let Q : List Point → ℕ → ℕ → Type 0 = λ s a b. (f : ℕ) → IsFurther s a b f → IsPositive (gap t l.v (point_at s a) (point_at s f)) ⊎ IsZero (gap t l.v (point_at s a) (point_at s f)) in
    let n = others_of Q o (a, b) l.none_below in
    record {
      well = well;
      range = others_of InRange o (a, b) of;
      in_x = (r.0, omega (arith, r));
      in_y = (omega (arith, r), r.2);
      in_z = (l.further.0, l.further.1);
      xy = λ e. omega (arith, r.1, e);
      xz = λ e. l.further.2 (sym e);
      yz = λ e. l.further.3 (sym e);
      v = l.v;
      long = l.normal.0;
      others_level = others_of (IsLevel t l.v) o (a, b) l.normal.1;
      others_above = (above_where t l.v o.sb o.cb n.0 l.left, above_where t l.v o.sa o.ca n.1 l.right);
      level_xy = here_of (IsLevel t l.v) o (a, b) l.normal.1;
      level_xz = l.level;
      above = λ f i x y z. elim (here_of Q o (a, b) l.none_below f (i.0, i.1, x, y)) [ inl p ↦ p | inr e ↦ absurd (z (l.only f (i.0, i.1, x, y) e)) ];
      apart = λ w lw e f g. ind w lw (all_of (IsOrthogonal w) o (a, b) e f);
      circuit = k;
      falls = falls;
    }

pub line_level : (o : OneSupport) (t : Time) (a b c : ℕ) (l : LevelPoint o a b c t) (k : Circuit o a b c) → IsZero (line_at k.line t)
line_level o t a b c l k =
    let h = l.v.positive in
    zero_in_proportion (gap t l.v (point_at o.s a) (point_at o.s c)) (line_at k.line t) k.lz l.v.over (λ e. omega (arith, ints)) (λ e. sym (seen o a b c k t l.v l.normal e)) l.level

pub scene_before_time : (o : OneSupport) (t : Time) (a b c : ℕ) → IsProblem (problem_of o) → AliveJustBefore (problem_of o) (with_pair o (a, b)) t → LevelPoint o a b c t → (k : Circuit o a b c) → pos 0 <ℤ k.lz → Scene o t a b c
scene_before_time o t a b c well before l k plus =
    let h = (alive_before (problem_of o) (with_pair o (a, b)) t before).1 in
    scene_of o t a b c well h.0 h.1 l k (falls_where_before o t a b c k l.further (line_level o t a b c l k) before plus)

module _ (o : OneSupport) (t : Time) (a b c : ℕ) (well : IsProblem (problem_of o)) (before : AliveJustBefore (problem_of o) (with_pair o (a, b)) t)
    (l : LevelPoint o a b c t) (k : Circuit o a b c) (plus : pos 0 <ℤ k.lz) where
  scene : Scene o t a b c
  scene = scene_before_time o t a b c well before l k plus

  sigma_is : with_pair o (rising a b) ≡ with_pair o (a, b)
  sigma_is = ap (with_pair o) (rising_is a b (here_of InRange o (a, b) (alive_before (problem_of o) (with_pair o (a, b)) t before).1.0).1)

  turned : (x y : ℕ) → with_pair o (rising x y) ≡ with_pair o (rising y x)
  turned x y = ap (with_pair o) (rising_turn x y)

  -- the successors are exactly the cells that sigma precedes
  pub precedes_successor : (tau : Cell) → IsSuccessor o a b c k.lx k.ly tau → Precedes (problem_of o) (with_pair o (a, b)) tau t
  unfolding scene scene_before_time scene_of turn_scene turn
  precedes_successor tau (inl h) =
      subst (λ i. Precedes (problem_of o) i tau t) sigma_is (subst (λ i. Precedes (problem_of o) (with_pair o (rising a b)) i t) (sym h.0) (precedes_scene o t a b c scene plus h.1))
  precedes_successor tau (inr h) =
      subst (λ i. Precedes (problem_of o) i tau t) (turned b a ∙ sigma_is) (subst (λ i. Precedes (problem_of o) (with_pair o (rising b a)) i t) (sym h.0) (precedes_scene o t b a c (turn_scene o t a b c scene) plus h.1))

  pub successor_preceded : (tau : Cell) → Precedes (problem_of o) (with_pair o (a, b)) tau t → IsSuccessor o a b c k.lx k.ly tau
  unfolding scene scene_before_time scene_of
  successor_preceded tau h = successors_of o t a b c scene tau (subst (λ i. Precedes (problem_of o) i tau t) (sym sigma_is) h)

  pub successors_are : (tau : Cell) → IsSuccessor o a b c k.lx k.ly tau ↔ Precedes (problem_of o) (with_pair o (a, b)) tau t
  successors_are tau = (precedes_successor tau, successor_preceded tau)

  -- there is one
  pub some_successor : (tau : Cell) × IsSuccessor o a b c k.lx k.ly tau
  some_successor =
      let s = k.sum in
      sign_cases k.ly
      (λ n. (with_pair o (rising a c), inl (refl, n)))
      (λ z. (with_pair o (rising b c), inr (refl, omega (arith, ints))))
      (λ p. (with_pair o (rising b c), inr (refl, omega (arith, ints))))

  -- each begins at t
  pub successor_begins : (tau : Cell) → IsSuccessor o a b c k.lx k.ly tau → BeginsAt (problem_of o) tau t
  unfolding scene scene_before_time scene_of turn_scene turn cycle_scene cycle other_scene
  successor_begins tau (inl h) = subst (λ i. BeginsAt (problem_of o) i t) (sym h.0) (begins_rising o t a c b (other_scene o t a b c scene) h.1)
  successor_begins tau (inr h) = subst (λ i. BeginsAt (problem_of o) i t) (sym h.0) (begins_rising o t b c a (cycle_scene o t a b c scene) h.1)

  -- each predecessor precedes each successor
  pub crosses : (rho tau : Cell) → IsPredecessor o a b c k.lx k.ly rho → IsSuccessor o a b c k.lx k.ly tau → Precedes (problem_of o) rho tau t
  unfolding scene scene_before_time scene_of turn_scene turn cycle_scene cycle
  crosses rho tau (inl e) s = subst (λ i. Precedes (problem_of o) i tau t) (sym e) (precedes_successor tau s)
  crosses rho tau (inr (inl h)) (inl s) = let x = h.1 in let y = s.1 in absurd (omega (arith, ints, x, y))
  crosses rho tau (inr (inl h)) (inr s) =
      subst (λ i. Precedes (problem_of o) i tau t) (turned c a ∙ sym h.0) (subst (λ i. Precedes (problem_of o) (with_pair o (rising c a)) i t) (turned c b ∙ sym s.0)
      (precedes_scene o t c a b (cycle_scene o t b c a (cycle_scene o t a b c scene)) h.1 s.1))
  crosses rho tau (inr (inr h)) (inl s) =
      subst (λ i. Precedes (problem_of o) i tau t) (turned c b ∙ sym h.0) (subst (λ i. Precedes (problem_of o) (with_pair o (rising c b)) i t) (turned c a ∙ sym s.0)
      (precedes_scene o t c b a (turn_scene o t b c a (cycle_scene o t a b c scene)) h.1 s.1))
  crosses rho tau (inr (inr h)) (inr s) = let x = h.1 in let y = s.1 in absurd (omega (arith, ints, x, y))

  -- what precedes a successor is a predecessor
  pub predecessor_of : (rho tau : Cell) → IsSuccessor o a b c k.lx k.ly tau → Precedes (problem_of o) rho tau t → IsPredecessor o a b c k.lx k.ly rho
  unfolding scene scene_before_time scene_of turn_scene turn cycle_scene cycle other_scene
  predecessor_of rho tau (inl s) h =
      elim (predecessors_of o t a c b (other_scene o t a b c scene) rho (subst (λ i. Precedes (problem_of o) rho i t) s.0 h)) [
        | inl e ↦ inl (e.0 ∙ sigma_is)
        | inr e ↦ inr (inr (e.0 ∙ turned c b, e.1))
      ]
  predecessor_of rho tau (inr s) h =
      elim (predecessors_of o t b c a (cycle_scene o t a b c scene) rho (subst (λ i. Precedes (problem_of o) rho i t) s.0 h)) [
        | inl e ↦ inl (e.0 ∙ turned b a ∙ sigma_is)
        | inr e ↦ inr (inl (e.0 ∙ turned c a, e.1))
      ]

  -- the predecessors are exactly the cells that precede a successor
  pub predecessors_are : (rho : Cell) → IsPredecessor o a b c k.lx k.ly rho ↔ ((tau : Cell) × IsSuccessor o a b c k.lx k.ly tau × Precedes (problem_of o) rho tau t)
  predecessors_are rho = (
    (λ h. let s = some_successor in (s.0, s.1, crosses rho s.0 h s.1)),
    (λ h. predecessor_of rho h.0 h.1 h.2),
  )

  -- sigma is the parent of a successor exactly where no predecessor is less
  pub parent_is : (tau : Cell) → IsSuccessor o a b c k.lx k.ly tau
      → ((rho : Cell) → IsPredecessor o a b c k.lx k.ly rho → ¬ (IsLess rho (with_pair o (a, b)))) ↔ IsParent (problem_of o) (with_pair o (a, b)) tau
  parent_is tau s = (
    (λ h. (t, successor_begins tau s, precedes_successor tau s, λ rho q. h rho (predecessor_of rho tau s q))),
    (λ h rho q.
        let same = begins_at_once (problem_of o) tau well t h.0 (successor_begins tau s) h.1 in
        h.3 rho (precedes_same (problem_of o) rho tau t h.0 same (crosses rho tau q s))),
  )
