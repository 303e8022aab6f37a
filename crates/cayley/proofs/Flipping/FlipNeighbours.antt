-- the cells that differ from a pair of a scene in one point and share a normal with it are the other pairs of the scene
use Rattle.std.proofs.Common.{◌≡◌, ◌⊎◌, ℕ, ◌<◌, List, [], ◌∷◌, ◌++◌, arith, sym, ap, ap₂, subst, ◌∙◌, inl, inr, ◌<ℤ◌}
use Rattle.std.proofs.Math.IntN.{pos}
use native.Mathlib.Decide.{ℕ_discrete}
use Rattle.cayley.proofs.Life.Decisions.{alive_after, alive_before}
use Rattle.cayley.proofs.OneCell.Neighbours.{level_pair, level_back}
use Rattle.cayley.proofs.OneCell.CellLines.{point_line}
use Rattle.cayley.proofs.Flipping.Exchange.{others_of, here_of, turn, cycle, by_rising, rising_is, rising_turn}
use Rattle.cayley.proofs.Flipping.FlipScenes.{IsLevel, FurtherAbove, Scene, turn_scene, cycle_scene, other_scene, of_scene, normal_scene}
use Rattle.cayley.proofs.Flipping.FlipSides.{rising_after, rising_before}
use Rattle.int_vectors.specs.Vectors.{IsPositive}
use Rattle.int_vectors.proofs.Entries.{not_zero}
use Rattle.cayley.specs.Times.{Time}
use Rattle.cayley.specs.Problems.{Point, point_at}
use Rattle.cayley.specs.Normals.{Normal, gap, IsNormal}
use Rattle.cayley.specs.Cells.{Cell, EachPair, IsOf, IsIndependent, IsFurther}
use Rattle.cayley.specs.Lives.{AliveJustAfter, AliveJustBefore}
use Rattle.cayley.specs.Parents.{Precedes, ShareOne, DifferInOne}
use Rattle.cayley.specs.Flips.{rising}
use Rattle.cayley.proofs.Flipping.OneSupport.{OneSupport, problem_of, with_pair}
use Rattle.cayley.proofs.Life.Exits.{differ_sym}
use Rattle.cayley.proofs.Lists.Pairs.{pairs_map, pairs_together}
use Rattle.cayley.proofs.OneCell.CellRows.{InRange}

-- the point that is new in a pair that has one point of another
pub record NewPoint (t : Time) (w : Normal) (s : List Point) (a b : ℕ) (pair : ℕ × ℕ) : Type 0 where
  pub f : ℕ
  pub further : IsFurther s a b f
  pub level : IsLevel t w s a f
  pub pair_is : (pair ≡ rising a f) ⊎ (pair ≡ rising b f)

pub new_point : (t : Time) (w : Normal) (s : List Point) (a b d e : ℕ) → InRange s a b → IsLevel t w s a b → InRange s d e → IsLevel t w s d e → ShareOne (a, b) (d, e) → NewPoint t w s a b (d, e)
new_point t w s a b d e r l r' l' (inl h) = record {
  f = e;
  further = let q = h.0 in (omega (arith, r'), r'.2, λ i. omega (arith, i, q, r'.1), λ i. h.1 (sym i));
  level = subst (λ i. IsLevel t w s i e) (sym h.0) l';
  pair_is = inl (ap (λ i. (i, e)) (sym h.0) ∙ sym (rising_is a e (let q = h.0 in omega (arith, q, r'.1))));
}
new_point t w s a b d e r l r' l' (inr (inl h)) = record {
  f = d;
  further = let q = h.0 in (r'.0, omega (arith, r'), λ i. h.1 (sym i), λ i. omega (arith, i, q, r'.1));
  level = let l2 : IsLevel t w s d b = subst (λ i. IsLevel t w s d i) (sym h.0) l' in
      level_pair t w (point_at s b) (point_at s a) (point_at s d) (level_back t w (point_at s a) (point_at s b) l) (level_back t w (point_at s d) (point_at s b) l2);
  pair_is = inr (ap (λ i. (d, i)) (sym h.0) ∙ sym (rising_is d b (let q = h.0 in omega (arith, q, r'.1))) ∙ rising_turn d b);
}
new_point t w s a b d e r l r' l' (inr (inr (inl h))) = record {
  f = d;
  further = (r'.0, omega (arith, r'), λ i. omega (arith, i, h, r'.1), λ i. omega (arith, i, h, r'.1, r.1));
  level = level_back t w (point_at s d) (point_at s a) (subst (λ i. IsLevel t w s d i) (sym h) l');
  pair_is = inl (ap (λ i. (d, i)) (sym h) ∙ sym (rising_is d a (omega (arith, h, r'.1))) ∙ rising_turn d a);
}
new_point t w s a b d e r l r' l' (inr (inr (inr h))) = record {
  f = e;
  further = (omega (arith, r'), r'.2, λ i. omega (arith, i, h, r'.1, r.1), λ i. omega (arith, i, h, r'.1));
  level = level_pair t w (point_at s b) (point_at s a) (point_at s e) (level_back t w (point_at s a) (point_at s b) l) (subst (λ i. IsLevel t w s i e) (sym h) l');
  pair_is = inr (ap (λ i. (i, e)) (sym h) ∙ sym (rising_is b e (omega (arith, h, r'.1))));
}

abbrev pub Flat : Time → Normal → List Point → ℕ → ℕ → Type 0
Flat t w s a b = InRange s a b × IsLevel t w s a b

abbrev pub Tight : Time → Normal → List Point → ℕ → ℕ → Type 0
Tight t w s a b = InRange s a b × (IsLevel t w s a b × FurtherAbove t w s a b)

-- no pair changes where all further points are above
pub none_changes : (t : Time) (w : Normal) (supports : List (List Point)) (cell tau : Cell) → EachPair supports cell (Tight t w) → EachPair supports tau (Flat t w) → ¬ (DifferInOne cell tau)
none_changes t w supports [] tau e f d = d
none_changes t w supports (x ∷ cell) [] e f d = d
none_changes t w [] (x ∷ cell) (y ∷ tau) e f d = e
none_changes t w (s ∷ supports) (x ∷ cell) (y ∷ tau) e f (inl d) =
    let q = new_point t w s x.0 x.1 y.0 y.1 e.0.0 e.0.1.0 f.0.0 f.0.1 d.0 in
    not_zero (gap t w (point_at s x.0) (point_at s q.f)) (e.0.1.1 q.f q.further) q.level
none_changes t w (s ∷ supports) (x ∷ cell) (y ∷ tau) e f (inr d) = none_changes t w supports cell tau e.1 f.1 d.1

pub record Changed (t : Time) (w : Normal) (s : List Point) (cb : Cell) (x : ℕ × ℕ) (ca tau : Cell) : Type 0 where
  pub y : ℕ × ℕ
  pub tau_is : tau ≡ cb ++ y ∷ ca
  pub share : ShareOne x y
  pub flat : Flat t w s y.0 y.1

-- so the pair that changes is the one at the spot
pub changed : (t : Time) (w : Normal) (sb : List (List Point)) (s : List Point) (sa : List (List Point)) (cb : Cell) (x : ℕ × ℕ) (ca tau : Cell)
    → EachPair sb cb (Tight t w) → EachPair sa ca (Tight t w) → EachPair (sb ++ s ∷ sa) tau (Flat t w) → DifferInOne (cb ++ x ∷ ca) tau → Changed t w s cb x ca tau
changed t w [] s sa (z ∷ cb) x ca tau e f g d = absurd e
changed t w (r ∷ sb) s sa [] x ca tau e f g d = absurd e
changed t w [] s sa [] x ca [] e f g d = absurd d
changed t w [] s sa [] x ca (y ∷ tau) e f g (inl d) = record { y = y; tau_is = ap (λ l. y ∷ l) (sym d.1); share = d.0; flat = g.0 }
changed t w [] s sa [] x ca (y ∷ tau) e f g (inr d) = absurd (none_changes t w sa ca tau f g.1 d.1)
changed t w (r ∷ sb) s sa (z ∷ cb) x ca [] e f g d = absurd d
changed t w (r ∷ sb) s sa (z ∷ cb) x ca (y ∷ tau) e f g (inl d) =
    let q = new_point t w r z.0 z.1 y.0 y.1 e.0.0 e.0.1.0 g.0.0 g.0.1 d.0 in
    absurd (not_zero (gap t w (point_at r z.0) (point_at r q.f)) (e.0.1.1 q.f q.further) q.level)
changed t w (r ∷ sb) s sa (z ∷ cb) x ca (y ∷ tau) e f g (inr d) =
    let q = changed t w sb s sa cb x ca tau e.1 f g.1 d.1 in
    record { y = q.y; tau_is = ap₂ (λ i l. i ∷ l) (sym d.0) q.tau_is; share = q.share; flat = q.flat }

module _ (o : OneSupport) (t : Time) (x y z : ℕ) (c : Scene o t x y z) (less : x < y) (ind : IsIndependent (problem_of o) (with_pair o (x, y))) (w : Normal) (is : IsNormal (problem_of o) (with_pair o (x, y)) t w) where
  -- above at one normal, above at the other
  carried : (p q : Point) → IsPositive (gap t c.v p q) → IsPositive (gap t w p q)
  carried p q h =
      let l = point_line (problem_of o) (with_pair o (x, y)) p q c.well (of_scene o t x y z c less) ind in
      (l.above t w is).0 ((l.above t c.v (normal_scene o t x y z c)).1 h)

  tight : (supports : List (List Point)) (cell : Cell) → EachPair supports cell InRange → EachPair supports cell (IsLevel t w) → EachPair supports cell (FurtherAbove t c.v) → EachPair supports cell (Tight t w)
  tight supports cell a b d =
      pairs_together supports cell InRange (λ s a b. IsLevel t w s a b × FurtherAbove t w s a b) a
      (pairs_together supports cell (IsLevel t w) (FurtherAbove t w) b
      (pairs_map supports cell (FurtherAbove t c.v) (FurtherAbove t w) (λ s a b h f i. carried (point_at s a) (point_at s f) (h f i)) d))

  pub neighbour : (tau : Cell) → IsOf (problem_of o) tau → IsNormal (problem_of o) tau t w → DifferInOne (with_pair o (x, y)) tau
      → (tau ≡ with_pair o (rising x z)) ⊎ (tau ≡ with_pair o (rising y z))
  neighbour tau of it d =
      let l = others_of (IsLevel t w) o (x, y) is.1 in
      let q = changed t w o.sb o.s o.sa o.cb (x, y) o.ca tau (tight o.sb o.cb c.range.0 l.0 c.others_above.0) (tight o.sa o.ca c.range.1 l.1 c.others_above.1)
      (pairs_together (o.sb ++ o.s ∷ o.sa) tau InRange (IsLevel t w) of it.1) d in
      let n = new_point t w o.s x y q.y.0 q.y.1 (c.in_x.0, less, c.in_y.1) (here_of (IsLevel t w) o (x, y) is.1) q.flat.0 q.flat.1 q.share in
      let fz : n.f ≡ z = elim (ℕ_discrete n.f z) [
        | yes e ↦ e
        | no m ↦ absurd (not_zero (gap t w (point_at o.s x) (point_at o.s n.f)) (carried (point_at o.s x) (point_at o.s n.f) (c.above n.f (n.further.0, n.further.1) n.further.2 n.further.3 m)) n.level)
      ] in
      elim n.pair_is [
        | inl e ↦ inl (q.tau_is ∙ ap (λ i. o.cb ++ i ∷ o.ca) (e ∙ ap (rising x) fz))
        | inr e ↦ inr (q.tau_is ∙ ap (λ i. o.cb ++ i ∷ o.ca) (e ∙ ap (rising y) fz))
      ]

pub swap_sum : {A B : Type 0} → A ⊎ B → B ⊎ A
swap_sum (inl a) = inr a
swap_sum (inr b) = inl b

pub neighbour_rising : (o : OneSupport) (t : Time) (x y z : ℕ) (c : Scene o t x y z) (tau : Cell) → IsIndependent (problem_of o) (with_pair o (rising x y)) → IsOf (problem_of o) tau → DifferInOne (with_pair o (rising x y)) tau
    → (w : Normal) → IsNormal (problem_of o) (with_pair o (rising x y)) t w → IsNormal (problem_of o) tau t w → (tau ≡ with_pair o (rising x z)) ⊎ (tau ≡ with_pair o (rising y z))
neighbour_rising o t x y z c tau =
    by_rising (λ q. IsIndependent (problem_of o) (with_pair o q) → IsOf (problem_of o) tau → DifferInOne (with_pair o q) tau
    → (w : Normal) → IsNormal (problem_of o) (with_pair o q) t w → IsNormal (problem_of o) tau t w → (tau ≡ with_pair o (rising x z)) ⊎ (tau ≡ with_pair o (rising y z))) x y c.xy
    (λ l ind of d w is it. neighbour o t x y z c l ind w is tau of it d)
    (λ l ind of d w is it. swap_sum (neighbour o t y x z (turn_scene o t x y z c) l ind w is tau of it d))

-- alive somewhere
-- the other two pairs of the scene, with the sign of the point each leaves out
pub successors_of : (o : OneSupport) (t : Time) (x y z : ℕ) (c : Scene o t x y z) (tau : Cell) → Precedes (problem_of o) (with_pair o (rising x y)) tau t
    → ((tau ≡ with_pair o (rising x z)) × (c.circuit.ly <ℤ pos 0)) ⊎ ((tau ≡ with_pair o (rising y z)) × (c.circuit.lx <ℤ pos 0))
unfolding other_scene turn_scene cycle_scene turn cycle
successors_of o t x y z c tau h =
    let a = (alive_before (problem_of o) (with_pair o (rising x y)) t h.1).1 in
    let b = (alive_after (problem_of o) tau t h.2).1 in
    elim (neighbour_rising o t x y z c tau a.1 b.0 h.0 h.3.0 h.3.1 h.3.2) [
      | inl e ↦ inl (e, rising_after o t x z y (other_scene o t x y z c) (subst (λ i. AliveJustAfter (problem_of o) i t) e h.2))
      | inr e ↦ inr (e, rising_after o t y z x (cycle_scene o t x y z c) (subst (λ i. AliveJustAfter (problem_of o) i t) e h.2))
    ]

pub predecessors_of : (o : OneSupport) (t : Time) (x y z : ℕ) (c : Scene o t x y z) (rho : Cell) → Precedes (problem_of o) rho (with_pair o (rising x y)) t
    → ((rho ≡ with_pair o (rising x z)) × (pos 0 <ℤ c.circuit.ly)) ⊎ ((rho ≡ with_pair o (rising y z)) × (pos 0 <ℤ c.circuit.lx))
unfolding other_scene turn_scene cycle_scene turn cycle
predecessors_of o t x y z c rho h =
    let a = (alive_after (problem_of o) (with_pair o (rising x y)) t h.2).1 in
    let b = (alive_before (problem_of o) rho t h.1).1 in
    elim (neighbour_rising o t x y z c rho a.1 b.0 (differ_sym rho (with_pair o (rising x y)) h.0) h.3.0 h.3.2 h.3.1) [
      | inl e ↦ inl (e, rising_before o t x z y (other_scene o t x y z c) (subst (λ i. AliveJustBefore (problem_of o) i t) e h.1))
      | inr e ↦ inr (e, rising_before o t y z x (cycle_scene o t x y z c) (subst (λ i. AliveJustBefore (problem_of o) i t) e h.1))
    ]
