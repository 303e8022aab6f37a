-- the pairs of a scene: alive just before exactly where the number of the point left out is positive, just after exactly where it is negative
use Rattle.std.proofs.Common.{◌≡◌, ◌≢◌, ℕ, [], ◌∷◌, ◌++◌, arith, refl, sym, ap, ◌∙◌, inl, inr, ◌<ℤ◌}
use Rattle.std.proofs.lemmas.Int.{ints}
use Rattle.std.proofs.Math.IntN.{ℤ, pos, ◌*ℤ◌, neg_ℤ}
use Rattle.wide_int.proofs.Order.{sign_cases}
use Rattle.cayley.proofs.Order.Lexicographic.{positive-same, not_both, minus_one}
use Rattle.cayley.proofs.Order.Proportion.{in_proportion, zero_in_proportion}
use Rattle.cayley.proofs.Order.Lines.{Line, line_at, Before, rises, level, middle}
use Rattle.cayley.proofs.Flipping.Exchange.{here_of, Circuit, turn, cycle, negate, opposite, opposite-at, seen, by_rising, independent_rising}
use Rattle.cayley.proofs.Order.Times.{turned, turned_both}
use Rattle.cayley.proofs.Order.Lined.{turned_line, turn-at}
use Rattle.cayley.proofs.Flipping.FlipScenes.{FurtherAbove, Scene, turn_scene, cycle_scene, other_scene, independent_scene, of_scene, normal_scene, none_below_scene, line_zero_scene, after_scene, before_scene}
use Rattle.int_vectors.specs.Vectors.{IsZero, IsPositive, at}
use Rattle.int_vectors.proofs.Entries.{at-scale, zero_from, not_zero, at-zero}
use Rattle.cayley.specs.Times.{Time}
use Rattle.cayley.specs.Cells.{Cell, IsOf, IsIndependent, IsFurther}
use Rattle.cayley.specs.Problems.{point_at}
use Rattle.cayley.specs.Normals.{gap, IsNormal, NoneBelow}
use Rattle.cayley.specs.Mixed.{IsAlive}
use Rattle.cayley.specs.Lives.{AliveJustAfter, AliveJustBefore, BeginsAt}
use Rattle.cayley.specs.Parents.{Precedes, ShareOne, DifferInOne}
use Rattle.cayley.specs.Flips.{rising}
use Rattle.cayley.proofs.Flipping.OneSupport.{OneSupport, problem_of, with_pair}

-- a line and its opposite aren't both positive
pub not_opposite : (l : Line) (t : Time) → IsPositive (line_at l t) → ¬ (IsPositive (line_at (opposite l) t))
not_opposite l t p q =
    not_both (line_at l t) p (positive-same (line_at (opposite l) t) _ (λ e. opposite-at l t e ∙ sym (at-scale (neg_ℤ (pos 1)) (line_at l t) e ∙ minus_one (at (line_at l t) e))) q)

-- a line that is zero at t and falls is positive before
pub falls_before : (l : Line) (t u : Time) → l.slope <ℤ pos 0 → IsZero (line_at l t) → Before u t → IsPositive (line_at l u)
unfolding turned_line
falls_before l t u f z b =
    positive-same _ _ (turn-at l u)
    (rises (turned_line l) (turned t) (turned u) (omega (arith, ints)) (turned_both u t b) (inr (zero_from _ (λ e. turn-at l t e ∙ at-zero (line_at l t) e z))))

-- and negative after
pub falls_after : (l : Line) (t u : Time) → l.slope <ℤ pos 0 → IsZero (line_at l t) → Before t u → IsPositive (line_at (opposite l) u)
falls_after l t u f z b = rises (opposite l) t u (omega (arith, ints)) b (inr (zero_from _ (λ e. let a = at-zero (line_at l t) e z in opposite-at l t e ∙ omega (arith, ints, a))))

module _ (o : OneSupport) (x y z : ℕ) (k : Circuit o x y z) (further : IsFurther o.s x y z) (u : Time) (h : IsAlive (problem_of o) (with_pair o (x, y)) u) where
  gap_alive : IsPositive (gap u h.2.0 (point_at o.s x) (point_at o.s z))
  gap_alive = here_of (FurtherAbove u h.2.0) o (x, y) h.2.2 z further

  -- the line at a time at which the cell is alive
  pub line_alive : pos 0 <ℤ k.lz → IsPositive (line_at k.line u)
  line_alive p = in_proportion (gap u h.2.0 (point_at o.s x) (point_at o.s z)) (line_at k.line u) k.lz h.2.0.over p h.2.0.positive (λ e. sym (seen o x y z k u h.2.0 h.2.1 e)) gap_alive

  pub opposite_alive : k.lz <ℤ pos 0 → IsPositive (line_at (opposite k.line) u)
  unfolding negate
  opposite_alive p =
      in_proportion (gap u h.2.0 (point_at o.s x) (point_at o.s z)) (line_at (opposite k.line) u) (neg_ℤ k.lz) h.2.0.over (omega (arith, ints)) h.2.0.positive (λ e. sym (seen o x y z (negate o x y z k) u h.2.0 h.2.1 e)) gap_alive

  pub zero_alive : k.lz ≡ pos 0 → IsZero (line_at k.line u)
  zero_alive q =
      let d = h.2.0.positive in
      zero_in_proportion [] (line_at k.line u) (pos 0) h.2.0.over (λ e. omega (arith, ints)) (λ e. sym (seen o x y z k u h.2.0 h.2.1 e ∙ ap (λ l. l *ℤ at (gap u h.2.0 (point_at o.s x) (point_at o.s z)) e) q ∙ nothing (at (gap u h.2.0 (point_at o.s x) (point_at o.s z)) e))) tt
    where
      nothing : (a : ℤ) → pos 0 *ℤ a ≡ pos 0 *ℤ pos 0
      nothing a = omega (arith, ints)

  -- the line isn't zero where the cell is alive
  pub some_alive : k.lz ≢ pos 0 → ¬ (IsZero (line_at k.line u))
  some_alive some q =
      not_zero (gap u h.2.0 (point_at o.s x) (point_at o.s z)) gap_alive (zero_in_proportion (line_at k.line u) _ h.2.0.over k.lz some (seen o x y z k u h.2.0 h.2.1) q)

-- alive just before, and the point left out is level: its line falls
pub falls_where_before : (o : OneSupport) (t : Time) (x y z : ℕ) (k : Circuit o x y z) → IsFurther o.s x y z → IsZero (line_at k.line t) → AliveJustBefore (problem_of o) (with_pair o (x, y)) t → pos 0 <ℤ k.lz → k.line.slope <ℤ pos 0
falls_where_before o t x y z k f q h p =
    let m = middle h.0 t h.1 in
    let a = line_alive o x y z k f m.m (h.2 m.m m.after m.before) p in
    sign_cases k.line.slope (λ n. n)
    (λ e. absurd (not_zero (line_at k.line t) (level k.line m.m t e a) q))
    (λ r. absurd (not_zero (line_at k.line t) (rises k.line m.m t r m.before (inl a)) q))

-- alive just after: its line rises
pub rises_where_after : (o : OneSupport) (t : Time) (x y z : ℕ) (k : Circuit o x y z) → IsFurther o.s x y z → IsZero (line_at k.line t) → AliveJustAfter (problem_of o) (with_pair o (x, y)) t → pos 0 <ℤ k.lz → pos 0 <ℤ k.line.slope
rises_where_after o t x y z k f q h p =
    let m = middle t h.0 h.1 in
    let a = line_alive o x y z k f m.m (h.2 m.m m.after m.before) p in
    sign_cases k.line.slope
    (λ n. absurd (not_opposite k.line m.m a (falls_after k.line t m.m n q m.after)))
    (λ e. absurd (not_zero (line_at k.line t) (level k.line m.m t e a) q))
    (λ r. r)

module _ (o : OneSupport) (t : Time) (x y z : ℕ) (c : Scene o t x y z) where
  further_scene : IsFurther o.s x y z
  further_scene = (c.in_z.0, c.in_z.1, λ e. c.xz (sym e), λ e. c.yz (sym e))

  pub scene_after : AliveJustAfter (problem_of o) (with_pair o (x, y)) t → c.circuit.lz <ℤ pos 0
  scene_after h =
      let m = middle t h.0 h.1 in
      let n = falls_after c.circuit.line t m.m c.falls (line_zero_scene o t x y z c) m.after in
      let a = h.2 m.m m.after m.before in
      sign_cases c.circuit.lz (λ q. q)
      (λ e. absurd (not_zero (line_at (opposite c.circuit.line) m.m) n (zero_from _ (λ i. let u = at-zero (line_at c.circuit.line m.m) i (zero_alive o x y z c.circuit further_scene m.m a e) in opposite-at c.circuit.line m.m i ∙ omega (arith, ints, u)))))
      (λ q. absurd (not_opposite c.circuit.line m.m (line_alive o x y z c.circuit further_scene m.m a q) n))

  pub scene_before : AliveJustBefore (problem_of o) (with_pair o (x, y)) t → pos 0 <ℤ c.circuit.lz
  scene_before h =
      let m = middle h.0 t h.1 in
      let n = falls_before c.circuit.line t m.m c.falls (line_zero_scene o t x y z c) m.before in
      let a = h.2 m.m m.after m.before in
      sign_cases c.circuit.lz
      (λ q. absurd (not_opposite c.circuit.line m.m n (opposite_alive o x y z c.circuit further_scene m.m a q)))
      (λ e. absurd (not_zero (line_at c.circuit.line m.m) n (zero_alive o x y z c.circuit further_scene m.m a e)))
      (λ q. q)

  -- not alive at t
  pub scene_dead : c.circuit.lz ≢ pos 0 → ¬ (IsAlive (problem_of o) (with_pair o (x, y)) t)
  scene_dead some h = some_alive o x y z c.circuit further_scene t h some (line_zero_scene o t x y z c)

-- the same for the pair in rising order
module _ (o : OneSupport) (t : Time) (x y z : ℕ) (c : Scene o t x y z) where
  pub after_rising : c.circuit.lz <ℤ pos 0 → AliveJustAfter (problem_of o) (with_pair o (rising x y)) t
  unfolding turn_scene turn
  after_rising n = by_rising (λ q. AliveJustAfter (problem_of o) (with_pair o q) t) x y c.xy (λ l. after_scene o t x y z c l n) (λ l. after_scene o t y x z (turn_scene o t x y z c) l n)

  pub before_rising : pos 0 <ℤ c.circuit.lz → AliveJustBefore (problem_of o) (with_pair o (rising x y)) t
  unfolding turn_scene turn
  before_rising n = by_rising (λ q. AliveJustBefore (problem_of o) (with_pair o q) t) x y c.xy (λ l. before_scene o t x y z c l n) (λ l. before_scene o t y x z (turn_scene o t x y z c) l n)

  pub rising_after : AliveJustAfter (problem_of o) (with_pair o (rising x y)) t → c.circuit.lz <ℤ pos 0
  unfolding turn_scene turn
  rising_after = by_rising (λ q. AliveJustAfter (problem_of o) (with_pair o q) t → c.circuit.lz <ℤ pos 0) x y c.xy (λ l h. scene_after o t x y z c h) (λ l h. scene_after o t y x z (turn_scene o t x y z c) h)

  pub rising_before : AliveJustBefore (problem_of o) (with_pair o (rising x y)) t → pos 0 <ℤ c.circuit.lz
  unfolding turn_scene turn
  rising_before = by_rising (λ q. AliveJustBefore (problem_of o) (with_pair o q) t → pos 0 <ℤ c.circuit.lz) x y c.xy (λ l h. scene_before o t x y z c h) (λ l h. scene_before o t y x z (turn_scene o t x y z c) h)

  pub rising_dead : c.circuit.lz ≢ pos 0 → ¬ (IsAlive (problem_of o) (with_pair o (rising x y)) t)
  unfolding turn_scene turn
  rising_dead n = by_rising (λ q. ¬ (IsAlive (problem_of o) (with_pair o q) t)) x y c.xy (λ l. scene_dead o t x y z c n) (λ l. scene_dead o t y x z (turn_scene o t x y z c) n)

  pub of_rising : IsOf (problem_of o) (with_pair o (rising x y))
  unfolding turn_scene turn
  of_rising = by_rising (λ q. IsOf (problem_of o) (with_pair o q)) x y c.xy (λ l. of_scene o t x y z c l) (λ l. of_scene o t y x z (turn_scene o t x y z c) l)

  pub independent_scene_rising : c.circuit.lz ≢ pos 0 → IsIndependent (problem_of o) (with_pair o (rising x y))
  independent_scene_rising n = independent_rising o x y c.xy (independent_scene o t x y z c n)

  pub normal_rising : IsNormal (problem_of o) (with_pair o (rising x y)) t c.v
  unfolding turn_scene turn
  normal_rising = by_rising (λ q. IsNormal (problem_of o) (with_pair o q) t c.v) x y c.xy (λ l. normal_scene o t x y z c) (λ l. normal_scene o t y x z (turn_scene o t x y z c))

  pub none_below_rising : NoneBelow (problem_of o) (with_pair o (rising x y)) t c.v
  unfolding turn_scene turn
  none_below_rising = by_rising (λ q. NoneBelow (problem_of o) (with_pair o q) t c.v) x y c.xy (λ l. none_below_scene o t x y z c) (λ l. none_below_scene o t y x z (turn_scene o t x y z c))

  -- the successor begins at t
  pub begins_rising : c.circuit.lz <ℤ pos 0 → BeginsAt (problem_of o) (with_pair o (rising x y)) t
  begins_rising n = (after_rising n, rising_dead (λ e. omega (arith, ints)))

pub differ_at : (before after : Cell) (x y : ℕ × ℕ) → ShareOne x y → DifferInOne (before ++ x ∷ after) (before ++ y ∷ after)
differ_at [] after x y h = inl (h, refl)
differ_at (z ∷ before) after x y h = inr (refl, differ_at before after x y h)

-- two pairs of three points have one in common
pub share_rising : (x y z : ℕ) → x ≢ y → x ≢ z → y ≢ z → ShareOne (rising x y) (rising x z)
share_rising x y z xy xz yz =
    by_rising (λ q. ShareOne q (rising x z)) x y xy
    (λ l. by_rising (λ q. ShareOne (x, y) q) x z xz (λ m. inl (refl, yz)) (λ m. inr (inr (inl refl))))
    (λ l. by_rising (λ q. ShareOne (y, x) q) x z xz (λ m. inr (inr (inr refl))) (λ m. inr (inl (refl, yz))))

-- the pair without a point of sign plus precedes the pair without a point of sign minus
pub precedes_scene : (o : OneSupport) (t : Time) (x y z : ℕ) (c : Scene o t x y z) → pos 0 <ℤ c.circuit.lz → c.circuit.ly <ℤ pos 0 → Precedes (problem_of o) (with_pair o (rising x y)) (with_pair o (rising x z)) t
unfolding other_scene turn_scene cycle_scene turn cycle
precedes_scene o t x y z c plus minus =
    let d = other_scene o t x y z c in (
      differ_at o.cb o.ca (rising x y) (rising x z) (share_rising x y z c.xy c.xz c.yz),
      before_rising o t x y z c plus,
      after_rising o t x z y d minus,
      (c.v, normal_rising o t x y z c, normal_rising o t x z y d, none_below_rising o t x y z c, none_below_rising o t x z y d),
    )
