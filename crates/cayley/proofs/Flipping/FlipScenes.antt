-- three points of one support that are level at a time, all others above: which pairs are alive just before and just after
use Rattle.std.proofs.Common.{◌≡◌, ◌≢◌, ◌⊎◌, ℕ, ◌<◌, ◌≤◌, List, length, arith, sym, ap, subst, ◌∙◌, inl, inr, ◌<ℤ◌}
use Rattle.std.proofs.lemmas.Int.{ints}
use Rattle.std.proofs.Math.IntN.{ℤ, pos, ◌+ℤ◌, ◌-ℤ◌, ◌*ℤ◌, neg_ℤ}
use native.Mathlib.Decide.{ℕ_discrete}
use Rattle.wide_int.proofs.Ring.{as_D, Ds, same_D}
use Rattle.wide_int.proofs.Order.{zero_product}
use Rattle.cayley.proofs.Order.Proportion.{in_proportion, zero_in_proportion}
use Rattle.cayley.proofs.Order.Lines.{Line, line_at}
use Rattle.cayley.proofs.OneCell.Neighbours.{level_pair, level_back, dot-sub}
use Rattle.cayley.proofs.Life.Soon.{SoonAbove, soon_above_now, alive_soon}
use Rattle.cayley.proofs.Flipping.PairOrder.{above_other}
use Rattle.cayley.proofs.Flipping.Exchange.{Others, others_of, here_of, all_of, IsOrthogonal, Circuit, turn, cycle, negate, opposite, opposite-at, seen, orthogonal}
use Rattle.cayley.proofs.Life.Mirror.{LateAbove, late_above_now, alive_lately}
use Rattle.int_vectors.specs.Vectors.{IsZero, IsPositive, dot}
use Rattle.int_vectors.proofs.Entries.{zero_from, at-zero}
use Rattle.cayley.specs.Times.{Time}
use Rattle.cayley.specs.Problems.{Point, point_at, IsProblem}
use Rattle.cayley.specs.Normals.{Normal, gap, IsNormal, NoneBelow}
use Rattle.cayley.specs.Cells.{IsOf, IsIndependent, IsFurther}
use Rattle.cayley.specs.Lives.{AliveJustAfter, AliveJustBefore}
use Rattle.cayley.proofs.Flipping.OneSupport.{OneSupport, problem_of, with_pair}
use Rattle.cayley.proofs.Lists.Pairs.{pairs_map}
use Rattle.cayley.proofs.OneCell.CellRows.{InRange}

abbrev pub IsLevel : Time → Normal → List Point → ℕ → ℕ → Type 0
IsLevel t v s a b = IsZero (gap t v (point_at s a) (point_at s b))

abbrev pub FurtherAbove : Time → Normal → List Point → ℕ → ℕ → Type 0
FurtherAbove t v s a b = (f : ℕ) → IsFurther s a b f → IsPositive (gap t v (point_at s a) (point_at s f))

pub record Scene (o : OneSupport) (t : Time) (x y z : ℕ) : Type 0 where
  pub well : IsProblem (problem_of o)
  pub range : Others o InRange
  pub in_x : (1 ≤ x) × (x ≤ length o.s)
  pub in_y : (1 ≤ y) × (y ≤ length o.s)
  pub in_z : (1 ≤ z) × (z ≤ length o.s)
  pub xy : x ≢ y
  pub xz : x ≢ z
  pub yz : y ≢ z
  pub v : Normal
  pub long : length v.entries ≡ o.n
  pub others_level : Others o (IsLevel t v)
  pub others_above : Others o (FurtherAbove t v)
  pub level_xy : IsLevel t v o.s x y
  pub level_xz : IsLevel t v o.s x z
  pub above : (f : ℕ) → (1 ≤ f) × (f ≤ length o.s) → f ≢ x → f ≢ y → f ≢ z → IsPositive (gap t v (point_at o.s x) (point_at o.s f))
  pub apart : (w : List ℤ) → length w ≡ o.n → Others o (IsOrthogonal w) → IsOrthogonal w o.s x y → IsOrthogonal w o.s x z → IsZero w
  pub circuit : Circuit o x y z
  pub falls : circuit.line.slope <ℤ pos 0

pub orthogonal_turn : (w : List ℤ) (s : List Point) (a b : ℕ) → IsOrthogonal w s a b → IsOrthogonal w s b a
orthogonal_turn w s a b e =
    let c = dot-sub (point_at s b).coordinates (point_at s a).coordinates w in
    let d = dot-sub (point_at s a).coordinates (point_at s b).coordinates w in
    omega (arith, ints, c, d, e)

pub orthogonal_pair : (w : List ℤ) (s : List Point) (a b c : ℕ) → IsOrthogonal w s a b → IsOrthogonal w s a c → IsOrthogonal w s b c
orthogonal_pair w s a b c e f =
    let g = dot-sub (point_at s b).coordinates (point_at s a).coordinates w in
    let h = dot-sub (point_at s c).coordinates (point_at s a).coordinates w in
    let i = dot-sub (point_at s c).coordinates (point_at s b).coordinates w in
    omega (arith, ints, e, f, g, h, i)

unfoldable pub turn_scene : (o : OneSupport) (t : Time) (x y z : ℕ) → Scene o t x y z → Scene o t y x z
unfolding turn
turn_scene o t x y z c =
    let p = point_at o.s x in
    let q = point_at o.s y in
    let r = point_at o.s z in
    record {
      well = c.well;
      range = c.range;
      in_x = c.in_y;
      in_y = c.in_x;
      in_z = c.in_z;
      xy = λ e. c.xy (sym e);
      xz = c.yz;
      yz = c.xz;
      v = c.v;
      long = c.long;
      others_level = c.others_level;
      others_above = c.others_above;
      level_xy = level_back t c.v p q c.level_xy;
      level_xz = level_pair t c.v p q r c.level_xy c.level_xz;
      above = λ f i a b d. above_other t c.v p q (point_at o.s f) c.level_xy (c.above f i b a d);
      apart = λ w l e f g. c.apart w l e (orthogonal_turn w o.s y x f) (orthogonal_pair w o.s y x z f g);
      circuit = turn o x y z c.circuit;
      falls = c.falls;
    }

unfoldable pub cycle_scene : (o : OneSupport) (t : Time) (x y z : ℕ) → Scene o t x y z → Scene o t y z x
unfolding cycle
cycle_scene o t x y z c =
    let p = point_at o.s x in
    let q = point_at o.s y in
    let r = point_at o.s z in
    record {
      well = c.well;
      range = c.range;
      in_x = c.in_y;
      in_y = c.in_z;
      in_z = c.in_x;
      xy = c.yz;
      xz = λ e. c.xy (sym e);
      yz = λ e. c.xz (sym e);
      v = c.v;
      long = c.long;
      others_level = c.others_level;
      others_above = c.others_above;
      level_xy = level_pair t c.v p q r c.level_xy c.level_xz;
      level_xz = level_back t c.v p q c.level_xy;
      above = λ f i a b d. above_other t c.v p q (point_at o.s f) c.level_xy (c.above f i d a b);
      apart = λ w l e f g. c.apart w l e (orthogonal_turn w o.s y x g) (orthogonal_pair w o.s y x z g f);
      circuit = cycle o x y z c.circuit;
      falls = c.falls;
    }

-- the point left out of the pair changes: z for y
unfoldable pub other_scene : (o : OneSupport) (t : Time) (x y z : ℕ) → Scene o t x y z → Scene o t x z y
unfolding turn_scene cycle_scene
other_scene o t x y z c = cycle_scene o t y x z (turn_scene o t x y z c)

module _ (o : OneSupport) (t : Time) (x y z : ℕ) (c : Scene o t x y z) where
  -- exchange at the scene
  pub independent_scene : c.circuit.lz ≢ pos 0 → IsIndependent (problem_of o) (with_pair o (x, y))
  independent_scene some w l e =
      let a = others_of (IsOrthogonal w) o (x, y) e in
      let b = here_of (IsOrthogonal w) o (x, y) e in
      let X = dot (point_at o.s x).coordinates w in
      let Y = dot (point_at o.s y).coordinates w in
      let Z = dot (point_at o.s z).coordinates w in
      let d = dot-sub (point_at o.s y).coordinates (point_at o.s x).coordinates w in
      let h = dot-sub (point_at o.s z).coordinates (point_at o.s x).coordinates w in
      let f : c.circuit.lz *ℤ (Z -ℤ X) ≡ pos 0 = step c.circuit.lx c.circuit.ly c.circuit.lz X Y Z c.circuit.sum (let u = b in omega (arith, ints, d, u)) (orthogonal o x y z c.circuit w l a) in
      let g : Z -ℤ X ≡ pos 0 = elim (zero_product c.circuit.lz (Z -ℤ X) f) [ inl i ↦ absurd (some i) | inr i ↦ i ] in
      c.apart w l a b (h ∙ g)
    where
      ring : (lx ly lz a d : ℤ) → lx *ℤ a +ℤ ly *ℤ a +ℤ lz *ℤ d ≡ (lx +ℤ ly +ℤ lz) *ℤ a +ℤ lz *ℤ (d -ℤ a)
      ring lx ly lz a d = rw (as_D lx, as_D ly, as_D lz, as_D a, as_D d) (simp Ds (same_D _ _ _ _ (omega arith)))

      step : (lx ly lz a b d : ℤ) → lx +ℤ ly +ℤ lz ≡ pos 0 → b ≡ a → lx *ℤ a +ℤ ly *ℤ b +ℤ lz *ℤ d ≡ pos 0 → lz *ℤ (d -ℤ a) ≡ pos 0
      step lx ly lz a b d s e h =
          let r = ring lx ly lz a d in
          let u : lx *ℤ a +ℤ ly *ℤ a +ℤ lz *ℤ d ≡ pos 0 = ap (λ q. lx *ℤ a +ℤ ly *ℤ q +ℤ lz *ℤ d) (sym e) ∙ h in
          let z : (lx +ℤ ly +ℤ lz) *ℤ a ≡ pos 0 = rw s (omega (arith, ints)) in
          omega (arith, ints, r, u, z)

  pub of_scene : x < y → IsOf (problem_of o) (with_pair o (x, y))
  of_scene l = all_of InRange o (x, y) c.range (c.in_x.0, l, c.in_y.1)

  pub normal_scene : IsNormal (problem_of o) (with_pair o (x, y)) t c.v
  normal_scene = (c.long, all_of (IsLevel t c.v) o (x, y) c.others_level c.level_xy)

  pub none_below_scene : NoneBelow (problem_of o) (with_pair o (x, y)) t c.v
  none_below_scene =
      let Q : List Point → ℕ → ℕ → Type 0 = λ s a b. (f : ℕ) → IsFurther s a b f → IsPositive (gap t c.v (point_at s a) (point_at s f)) ⊎ IsZero (gap t c.v (point_at s a) (point_at s f)) in
      all_of Q o (x, y) (pairs_map o.sb o.cb (FurtherAbove t c.v) Q (λ s a b h f i. inl (h f i)) c.others_above.0, pairs_map o.sa o.ca (FurtherAbove t c.v) Q (λ s a b h f i. inl (h f i)) c.others_above.1)
      (λ f i. elim (ℕ_discrete f z) [
        | yes e ↦ inr (subst (λ j. IsZero (gap t c.v (point_at o.s x) (point_at o.s j))) (sym e) c.level_xz)
        | no n ↦ inl (c.above f (i.0, i.1) i.2 i.3 n)
      ])

  -- the line is zero at t
  pub line_zero_scene : IsZero (line_at c.circuit.line t)
  line_zero_scene =
      let h = c.v.positive in
      zero_in_proportion (gap t c.v (point_at o.s x) (point_at o.s z)) (line_at c.circuit.line t) c.circuit.lz c.v.over (λ e. omega (arith, ints)) (λ e. sym (seen o x y z c.circuit t c.v normal_scene e)) c.level_xz

  rises_opposite : (l : Line) → l.slope <ℤ pos 0 → pos 0 <ℤ (opposite l).slope
  rises_opposite l f = omega (arith, ints)

  zero_opposite : (l : Line) → IsZero (line_at l t) → IsZero (line_at (opposite l) t)
  zero_opposite l q = zero_from (line_at (opposite l) t) (λ e. let a = at-zero (line_at l t) e q in opposite-at l t e ∙ omega (arith, ints, a))

  -- the point left out, over the pair, with a rising line
  module _ (l : x < y) (negative : c.circuit.lz <ℤ pos 0) where
    ind_after : IsIndependent (problem_of o) (with_pair o (x, y))
    ind_after = independent_scene (λ e. let h = negative in omega (arith, ints, e))

    left_after : SoonAbove (problem_of o) (with_pair o (x, y)) t (point_at o.s x) (point_at o.s z)
    unfolding negate
    left_after = let n = negative in record {
      line = opposite c.circuit.line;
      above = λ u v is q. in_proportion (line_at (opposite c.circuit.line) u) (gap u v (point_at o.s x) (point_at o.s z)) v.over (neg_ℤ c.circuit.lz) v.positive (omega (arith, ints, n)) (seen o x y z (negate o x y z c.circuit) u v is) q;
      sign = inr (zero_opposite c.circuit.line line_zero_scene, rises_opposite c.circuit.line c.falls);
    }

    pub after_scene : AliveJustAfter (problem_of o) (with_pair o (x, y)) t
    after_scene =
        let p = problem_of o in
        let cell = with_pair o (x, y) in
        let Q : List Point → ℕ → ℕ → Type 0 = λ s a b. (f : ℕ) → IsFurther s a b f → SoonAbove p cell t (point_at s a) (point_at s f) in
        let now = λ (s : List Point) (a b : ℕ) (h : FurtherAbove t c.v s a b) (f : ℕ) (i : IsFurther s a b f). soon_above_now p cell t (point_at s a) (point_at s f) c.well (of_scene l) ind_after c.v normal_scene (h f i) in
        alive_soon p cell t c.well (of_scene l) ind_after (all_of Q o (x, y)
        (pairs_map o.sb o.cb (FurtherAbove t c.v) Q now c.others_above.0, pairs_map o.sa o.ca (FurtherAbove t c.v) Q now c.others_above.1)
        (λ f i. elim (ℕ_discrete f z) [
          | yes e ↦ subst (λ j. SoonAbove p cell t (point_at o.s x) (point_at o.s j)) (sym e) left_after
          | no n ↦ soon_above_now p cell t (point_at o.s x) (point_at o.s f) c.well (of_scene l) ind_after c.v normal_scene (c.above f (i.0, i.1) i.2 i.3 n)
        ]))

  -- and with a falling line
  module _ (l : x < y) (positive : pos 0 <ℤ c.circuit.lz) where
    ind_before : IsIndependent (problem_of o) (with_pair o (x, y))
    ind_before = independent_scene (λ e. let h = positive in omega (arith, ints, e))

    left_before : LateAbove (problem_of o) (with_pair o (x, y)) t (point_at o.s x) (point_at o.s z)
    left_before = record {
      line = c.circuit.line;
      above = λ u v is q. in_proportion (line_at c.circuit.line u) (gap u v (point_at o.s x) (point_at o.s z)) v.over c.circuit.lz v.positive positive (seen o x y z c.circuit u v is) q;
      sign = inr (line_zero_scene, c.falls);
    }

    pub before_scene : AliveJustBefore (problem_of o) (with_pair o (x, y)) t
    before_scene =
        let p = problem_of o in
        let cell = with_pair o (x, y) in
        let Q : List Point → ℕ → ℕ → Type 0 = λ s a b. (f : ℕ) → IsFurther s a b f → LateAbove p cell t (point_at s a) (point_at s f) in
        let now = λ (s : List Point) (a b : ℕ) (h : FurtherAbove t c.v s a b) (f : ℕ) (i : IsFurther s a b f). late_above_now p cell t (point_at s a) (point_at s f) c.well (of_scene l) ind_before c.v normal_scene (h f i) in
        alive_lately p cell t c.well (of_scene l) ind_before (all_of Q o (x, y)
        (pairs_map o.sb o.cb (FurtherAbove t c.v) Q now c.others_above.0, pairs_map o.sa o.ca (FurtherAbove t c.v) Q now c.others_above.1)
        (λ f i. elim (ℕ_discrete f z) [
          | yes e ↦ subst (λ j. LateAbove p cell t (point_at o.s x) (point_at o.s j)) (sym e) left_before
          | no n ↦ late_above_now p cell t (point_at o.s x) (point_at o.s f) c.well (of_scene l) ind_before c.v normal_scene (c.above f (i.0, i.1) i.2 i.3 n)
        ]))
