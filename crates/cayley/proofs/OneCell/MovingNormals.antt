-- a normal that moves with the time, its wall lines, and a cell's life read off them
use Rattle.std.proofs.Common.{◌≡◌, ◌≢◌, ◌⊎◌, ℕ, zero, suc, ◌+◌, ◌<◌, ◌≤◌, Bool, true, false, if◌then◌else◌, ◌==◌, ◌-◌, ◌++◌, List, [], ◌∷◌, length, map, arith, refl, sym, ap, ap₂, subst, ◌∙◌, inl, inr, ◌<ℤ◌}
use Rattle.std.proofs.lemmas.Int.{ints}
use Rattle.std.specs.Prelude.{slice_index_or}
use Rattle.std.proofs.lemmas.Bool.{eq-eqb, eqb-true}
use native.Mathlib.Decide.{ℕ_discrete}
use Rattle.std.proofs.Math.IntN.{ℤ, pos, ◌+ℤ◌, ◌-ℤ◌, ◌*ℤ◌, neg_ℤ, *ℤ-zero}
use Rattle.wide_int.proofs.Ring.{as_D, Ds, same_D, D-pos}
use Rattle.wide_int.proofs.Order.{mul_pos_ℤ}
use Rattle.int_vectors.specs.Vectors.{Each, IsZero, IsPositive, add, sub, scale, dot, at, entries_at}
use Rattle.int_vectors.proofs.Entries.{at-scale, at-add, zero_from, at-zero}
use Rattle.cayley.specs.Times.{Time}
use Rattle.cayley.specs.Problems.{Point, Problem, IsProblem, origin, point_at}
use Rattle.cayley.specs.Cells.{Cell, EachPair, IsOf, IsIndependent, IsFurther}
use Rattle.cayley.specs.Normals.{Normal, mark, height, gap, IsNormal, values}
use Rattle.cayley.specs.Mixed.{IsAlive}
use Rattle.cayley.proofs.Algebra.RowNormals.{gap-at}
use Rattle.cayley.proofs.OneCell.OneNormal.{all_above_any}
use Rattle.cayley.proofs.Life.Ends.{Late}
use Rattle.cayley.proofs.Searching.ComputedLaw.{late_from}
use Rattle.cayley.proofs.Order.Lined.{Lined, SignEarly, early_from, Ahead, mirrored, after_from, ahead_from, turned_line, SignBefore, sign_turned}
use Rattle.cayley.proofs.Order.Lexicographic.{minus_one}
use Rattle.cayley.proofs.Order.Proportion.{in_proportion}
use Rattle.cayley.proofs.Order.Times.{turned}
use Rattle.cayley.proofs.Order.Lines.{Line, line_at, SignAfter}
use Rattle.cayley.proofs.OneCell.CellLines.{base_of, height-at}
use Rattle.int_vectors.proofs.Each.{each_append}
use Rattle.cayley.proofs.Lists.Pairs.{pairs_map}

-- over p / den moving by q / den: the values (Q p + P q) / (Q den) at the time P / Q
pub record Moving : Type 0 where
  pub den : ℤ
  pub positive : pos 0 <ℤ den
  pub starts : List ℤ
  pub slopes : List ℤ
  pub long : length starts ≡ length slopes

unfoldable pub moving : Moving → Time → Normal
moving m t = record { entries = values t m.starts m.slopes; over = m.den *ℤ t.over; positive = mul_pos_ℤ m.den t.over m.positive t.positive }

abbrev pub bases : Point → List ℤ
bases x = add (x.base ∷ []) (mark (pos 1) x.rank)

-- the wall line of y against x
abbrev pub wall : Moving → Point → Point → Line
wall m x y = record {
  start = add (dot (sub y.coordinates x.coordinates) m.starts ∷ []) (scale m.den (sub (bases y) (bases x)));
  slope = dot (sub y.coordinates x.coordinates) m.slopes +ℤ m.den *ℤ (y.speed -ℤ x.speed);
}

unit : ℕ → ℤ
unit zero = pos 1
unit (suc e) = pos 0

unit_is : (x : ℤ) (e : ℕ) → at (x ∷ []) e ≡ x *ℤ unit e
unfolding unit
unit_is x zero = omega (arith, ints)
unit_is x (suc e) = omega (arith, ints)

zeros : (q u x : ℤ) → pos 0 ≡ q *ℤ (pos 0 *ℤ u) +ℤ pos 0 *ℤ x
zeros q u x = rw (as_D q, as_D u, as_D x, D-pos 0) (simp Ds (same_D _ _ _ _ (omega arith)))

dot_values : (t : Time) (ds ps qs : List ℤ) (e : ℕ) → length ps ≡ length qs → dot ds (entries_at e (values t ps qs)) ≡ t.over *ℤ (dot ds ps *ℤ unit e) +ℤ dot ds qs *ℤ at t.entries e
dot_values t [] ps qs e l = zeros t.over (unit e) (at t.entries e)
dot_values t (d ∷ ds) [] [] e l = zeros t.over (unit e) (at t.entries e)
dot_values t (d ∷ ds) [] (q ∷ qs) e l = absurd (omega (arith, l))
dot_values t (d ∷ ds) (p ∷ ps) [] e l = absurd (omega (arith, l))
dot_values t (d ∷ ds) (p ∷ ps) (q ∷ qs) e l =
    ap₂ (λ x y. d *ℤ x +ℤ y)
    (at-add ((t.over *ℤ p) ∷ []) (scale q t.entries) e ∙ ap₂ ◌+ℤ◌ (unit_is (t.over *ℤ p) e) (at-scale q t.entries e))
    (dot_values t ds ps qs e (omega (arith, l)))
    ∙ step d t.over p q (unit e) (at t.entries e) (dot ds ps) (dot ds qs)
  where
    step : (d o p q u x a b : ℤ) → d *ℤ (o *ℤ p *ℤ u +ℤ q *ℤ x) +ℤ (o *ℤ (a *ℤ u) +ℤ b *ℤ x) ≡ o *ℤ ((d *ℤ p +ℤ a) *ℤ u) +ℤ (d *ℤ q +ℤ b) *ℤ x
    step d o p q u x a b = rw (as_D d, as_D o, as_D p, as_D q, as_D u, as_D x, as_D a, as_D b) (simp Ds (same_D _ _ _ _ (omega arith)))

rise-at : (t : Time) (x y : Point) (e : ℕ) → at (sub (height t y) (height t x)) e ≡ t.over *ℤ at (sub (bases y) (bases x)) e +ℤ (y.speed -ℤ x.speed) *ℤ at t.entries e
unfolding base_of
rise-at t x y e =
    at-add (height t y) (scale (neg_ℤ (pos 1)) (height t x)) e
    ∙ ap₂ ◌+ℤ◌ (height-at t y e) (at-scale (neg_ℤ (pos 1)) (height t x) e ∙ minus_one _ ∙ ap neg_ℤ (height-at t x e))
    ∙ step t.over (at (bases y) e) (at (bases x) e) y.speed x.speed (at t.entries e)
    ∙ ap (λ z. t.over *ℤ z +ℤ (y.speed -ℤ x.speed) *ℤ at t.entries e) (sym (at-add (bases y) (scale (neg_ℤ (pos 1)) (bases x)) e ∙ ap (λ z. at (bases y) e +ℤ z) (at-scale (neg_ℤ (pos 1)) (bases x) e ∙ minus_one _)))
  where
    step : (o a b s r z : ℤ) → o *ℤ a +ℤ s *ℤ z +ℤ neg_ℤ (o *ℤ b +ℤ r *ℤ z) ≡ o *ℤ (a +ℤ neg_ℤ b) +ℤ (s -ℤ r) *ℤ z
    step o a b s r z = rw (as_D o, as_D a, as_D b, as_D s, as_D r, as_D z) (simp Ds (same_D _ _ _ _ (omega arith)))

-- the gap is the wall line, up to the time's denominator
pub moving_gap : (m : Moving) (t : Time) (x y : Point) (e : ℕ) → at (gap t (moving m t) x y) e ≡ t.over *ℤ at (line_at (wall m x y) t) e
unfolding moving
moving_gap m t x y e =
    let d = sub y.coordinates x.coordinates in
    let b = sub (bases y) (bases x) in
    gap-at d (values t m.starts m.slopes) (sub (height t y) (height t x)) t.over (m.den *ℤ t.over) e
    ∙ ap₂ (λ z w. t.over *ℤ z +ℤ m.den *ℤ t.over *ℤ w) (dot_values t d m.starts m.slopes e m.long) (rise-at t x y e)
    ∙ step t.over m.den (dot d m.starts) (unit e) (dot d m.slopes) (at t.entries e) (at b e) (y.speed -ℤ x.speed)
    ∙ ap (λ z. t.over *ℤ z) (sym (
    at-add (scale t.over (add (dot d m.starts ∷ []) (scale m.den b))) (scale (dot d m.slopes +ℤ m.den *ℤ (y.speed -ℤ x.speed)) t.entries) e
    ∙ ap₂ ◌+ℤ◌
    (at-scale t.over (add (dot d m.starts ∷ []) (scale m.den b)) e ∙ ap (λ z. t.over *ℤ z) (at-add (dot d m.starts ∷ []) (scale m.den b) e ∙ ap₂ ◌+ℤ◌ (unit_is (dot d m.starts) e) (at-scale m.den b e)))
    (at-scale (dot d m.slopes +ℤ m.den *ℤ (y.speed -ℤ x.speed)) t.entries e)))
  where
    step : (o g a u s x b r : ℤ) → o *ℤ (o *ℤ (a *ℤ u) +ℤ s *ℤ x) +ℤ g *ℤ o *ℤ (o *ℤ b +ℤ r *ℤ x) ≡ o *ℤ (o *ℤ (a *ℤ u +ℤ g *ℤ b) +ℤ (s +ℤ g *ℤ r) *ℤ x)
    step o g a u s x b r = rw (as_D o, as_D g, as_D a, as_D u, as_D s, as_D x, as_D b, as_D r) (simp Ds (same_D _ _ _ _ (omega arith)))

-- ---- the wall lines of one cell
-- the lines of the points from position k on, but for those at a and b
abbrev pub walls_from : Moving → Point → ℕ → ℕ → ℕ → List Point → List Line
walls_from m x a b k [] = []
walls_from m x a b k (y ∷ ys) =
    if k == a then walls_from m x a b (suc k) ys
    else if k == b then walls_from m x a b (suc k) ys
    else wall m x y ∷ walls_from m x a b (suc k) ys

abbrev pub walls : Moving → List (List Point) → Cell → List Line
walls m [] cell = []
walls m (s ∷ supports) [] = []
walls m (s ∷ supports) (x ∷ cell) = walls_from m (point_at s x.0) x.0 x.1 1 s ++ walls m supports cell

choose : (Q : Line → Type 0) (test : Bool) (xs ys : List Line) → (test ≡ true → Each xs Q) → (test ≡ false → Each ys Q) → Each (if test then xs else ys) Q
choose Q true xs ys f g = f refl
choose Q false xs ys f g = g refl

chosen : {R : Type 0} (Q : Line → Type 0) (test : Bool) (xs ys : List Line) → Each (if test then xs else ys) Q → (test ≡ true → Each xs Q → R) → (test ≡ false → Each ys Q → R) → R
chosen Q true xs ys e f g = f refl e
chosen Q false xs ys e f g = g refl e

abbrev Holds : Bool → Type 0
Holds true = Unit {0}
Holds false = ⊥

pub apart : (k a : ℕ) → (k == a) ≡ false → k ≢ a
apart k a e q = subst Holds (sym (eq-eqb k a q) ∙ e) tt

-- the points at positions k, .. but for a and b
abbrev Beyond : (Line → Type 0) → Moving → Point → ℕ → ℕ → ℕ → List Point → Type 0
Beyond Q m x a b k ys = (c : ℕ) → k ≤ c → c < k + length ys → c ≢ a → c ≢ b → Q (wall m x (slice_index_or ys (c - k) origin))

beyond_first : (Q : Line → Type 0) (m : Moving) (x : Point) (a b k : ℕ) (y : Point) (ys : List Point) → Beyond Q m x a b k (y ∷ ys) → Beyond Q m x a b (suc k) ys
beyond_first Q m x a b k y ys f c l h n i =
    let e : c - k ≡ suc (c - suc k) = omega (arith, l) in
    subst (λ j. Q (wall m x (slice_index_or (y ∷ ys) j origin))) e (f c (omega (arith, l)) (omega (arith, h)) n i)

walls_each : (Q : Line → Type 0) (m : Moving) (x : Point) (a b k : ℕ) (ys : List Point) → Beyond Q m x a b k ys → Each (walls_from m x a b k ys) Q
walls_each Q m x a b k [] f = tt
walls_each Q m x a b k (y ∷ ys) f =
    let rest = walls_each Q m x a b (suc k) ys (beyond_first Q m x a b k y ys f) in
    choose Q (k == a) (walls_from m x a b (suc k) ys) _ (λ e. rest)
    (λ n. choose Q (k == b) (walls_from m x a b (suc k) ys) (wall m x y ∷ walls_from m x a b (suc k) ys) (λ e. rest)
    (λ i. (subst (λ j. Q (wall m x (slice_index_or (y ∷ ys) j origin))) (same k) (f k (omega arith) (omega arith) (apart k a n) (apart k b i)), rest)))
  where
    same : (k : ℕ) → k - k ≡ 0
    same k = omega arith

beyond_later : (Q : Line → Type 0) (m : Moving) (x : Point) (a b k : ℕ) (y : Point) (ys : List Point) → Beyond Q m x a b (suc k) ys → (c : ℕ) → k ≤ c → c < k + suc (length ys) → c ≢ a → c ≢ b → c ≢ k → Q (wall m x (slice_index_or (y ∷ ys) (c - k) origin))
beyond_later Q m x a b k y ys f c l h n i s =
    let e : suc (c - suc k) ≡ c - k = omega (arith, l, s) in
    subst (λ j. Q (wall m x (slice_index_or (y ∷ ys) j origin))) e (f c (omega (arith, l, s)) (omega (arith, h)) n i)

each_beyond : (Q : Line → Type 0) (m : Moving) (x : Point) (a b k : ℕ) (ys : List Point) → Each (walls_from m x a b k ys) Q → Beyond Q m x a b k ys
each_beyond Q m x a b k [] e c l h n i = absurd (omega (arith, l, h))
each_beyond Q m x a b k (y ∷ ys) e c l h n i =
    let later = λ (rest : Each (walls_from m x a b (suc k) ys) Q) (s : c ≢ k). beyond_later Q m x a b k y ys (each_beyond Q m x a b (suc k) ys rest) c l h n i s in
    chosen Q (k == a) (walls_from m x a b (suc k) ys) (if k == b then walls_from m x a b (suc k) ys else wall m x y ∷ walls_from m x a b (suc k) ys) e
    (λ q rest. later rest (λ s. n (s ∙ eqb-true k a q)))
    (λ q more. chosen Q (k == b) (walls_from m x a b (suc k) ys) (wall m x y ∷ walls_from m x a b (suc k) ys) more
    (λ r rest. later rest (λ s. i (s ∙ eqb-true k b r)))
    (λ r here. elim (ℕ_discrete c k) [
      | yes s ↦ subst (λ j. Q (wall m x (slice_index_or (y ∷ ys) j origin))) (zero_is s) here.0
      | no s ↦ later here.1 s
    ]))
  where
    zero_is : c ≡ k → 0 ≡ c - k
    zero_is s = omega (arith, s)

each_parts : {A : Type 0} (Q : A → Type 0) (xs ys : List A) → Each (xs ++ ys) Q → Each xs Q × Each ys Q
each_parts Q [] ys h = (tt, h)
each_parts Q (x ∷ xs) ys h = let r = each_parts Q xs ys h.1 in ((h.0, r.0), r.1)

abbrev pub FurtherHas : (Line → Type 0) → Moving → List Point → ℕ → ℕ → Type 0
FurtherHas Q m s a b = (c : ℕ) → IsFurther s a b c → Q (wall m (point_at s a) (point_at s c))

pub all_walls : (Q : Line → Type 0) (m : Moving) (supports : List (List Point)) (cell : Cell) → EachPair supports cell (FurtherHas Q m) → Each (walls m supports cell) Q
all_walls Q m [] cell e = tt
all_walls Q m (s ∷ supports) [] e = tt
all_walls Q m (s ∷ supports) (x ∷ cell) e =
    each_append Q (walls_from m (point_at s x.0) x.0 x.1 1 s) (walls m supports cell)
    (walls_each Q m (point_at s x.0) x.0 x.1 1 s (λ c l h n i. e.0 c (l, omega (arith, h), n, i)))
    (all_walls Q m supports cell e.1)

pub walls_all : (Q : Line → Type 0) (m : Moving) (P : List Point → ℕ → ℕ → Type 0) (supports : List (List Point)) (cell : Cell) → EachPair supports cell P → Each (walls m supports cell) Q → EachPair supports cell (FurtherHas Q m)
walls_all Q m P [] [] o e = tt
walls_all Q m P [] (x ∷ cell) o e = absurd o
walls_all Q m P (s ∷ supports) [] o e = absurd o
walls_all Q m P (s ∷ supports) (x ∷ cell) o e =
    let r = each_parts Q (walls_from m (point_at s x.0) x.0 x.1 1 s) (walls m supports cell) e in
    ((λ c f. each_beyond Q m (point_at s x.0) x.0 x.1 1 s r.0 c f.0 (let l = f.1 in omega (arith, l)) f.2 f.3), walls_all Q m P supports cell o.1 r.1)

-- the two points of each pair are level at all times
abbrev pub IsFrame : Problem → Cell → Moving → Type 0
IsFrame p cell m = (length m.starts ≡ p.dimension)
    × EachPair p.supports cell (λ s a b. IsZero (wall m (point_at s a) (point_at s b)).start × ((wall m (point_at s a) (point_at s b)).slope ≡ pos 0))

long_values : (t : Time) (ps qs : List ℤ) → length ps ≡ length qs → length (values t ps qs) ≡ length ps
long_values t [] qs l = refl
long_values t (p ∷ ps) [] l = absurd (omega (arith, l))
long_values t (p ∷ ps) (q ∷ qs) l = ap suc (long_values t ps qs (omega (arith, l)))

flat_line : (l : Line) (t : Time) (e : ℕ) → IsZero l.start → l.slope ≡ pos 0 → at (line_at l t) e ≡ pos 0
flat_line l t e z s =
    at-add (scale t.over l.start) (scale l.slope t.entries) e ∙ ap₂ ◌+ℤ◌ (at-scale t.over l.start e ∙ ap (λ x. t.over *ℤ x) (at-zero l.start e z)) (at-scale l.slope t.entries e ∙ ap (λ x. x *ℤ at t.entries e) s)
    ∙ sym (zeros_of t.over (at t.entries e))
  where
    zeros_of : (q x : ℤ) → pos 0 ≡ q *ℤ pos 0 +ℤ pos 0 *ℤ x
    zeros_of q x = rw (as_D q, as_D x, D-pos 0) (simp Ds (same_D _ _ _ _ (omega arith)))

-- the sign of a gap is that of the wall line
pub positive_gap : (m : Moving) (t : Time) (x y : Point) → IsPositive (line_at (wall m x y) t) → IsPositive (gap t (moving m t) x y)
positive_gap m t x y h = in_proportion (line_at (wall m x y) t) (gap t (moving m t) x y) t.over (pos 1) t.positive (omega (arith, ints)) (λ e. sym (moving_gap m t x y e) ∙ omega (arith, ints)) h

pub gap_positive : (m : Moving) (t : Time) (x y : Point) → IsPositive (gap t (moving m t) x y) → IsPositive (line_at (wall m x y) t)
gap_positive m t x y h = in_proportion (gap t (moving m t) x y) (line_at (wall m x y) t) (pos 1) t.over (omega (arith, ints)) t.positive (λ e. omega (arith, ints) ∙ moving_gap m t x y e) h

module _ (p : Problem) (cell : Cell) (well : IsProblem p) (of : IsOf p cell) (ind : IsIndependent p cell) (m : Moving) (frame : IsFrame p cell m) where
  pub moving_normal : (t : Time) → IsNormal p cell t (moving m t)
  unfolding moving
  moving_normal t = (
    long_values t m.starts m.slopes m.long ∙ frame.0,
    pairs_map p.supports cell _ _ (λ s a b h. zero_from (gap t (moving m t) (point_at s a) (point_at s b)) (λ e. moving_gap m t (point_at s a) (point_at s b) e ∙ ap (λ x. t.over *ℤ x) (flat_line (wall m (point_at s a) (point_at s b)) t e h.0 h.1) ∙ *ℤ-zero t.over))
        frame.1,
  )

  -- alive at a time exactly where all wall lines are positive
  unfoldable pub lined_frame : Lined (IsAlive p cell)
  lined_frame = record {
    list = walls m p.supports cell;
    to = λ t h.
        all_walls (λ l. IsPositive (line_at l t)) m p.supports cell
        (pairs_map p.supports cell _ _ (λ s a b k c f. gap_positive m t (point_at s a) (point_at s c) (k c f)) (all_above_any p cell t (moving m t) well (moving_normal t) h));
    from = λ t h. (
      of,
      ind,
      (
        moving m t,
        moving_normal t,
        pairs_map p.supports cell _ _ (λ s a b k c f. positive_gap m t (point_at s a) (point_at s c) (k c f)) (walls_all (λ l. IsPositive (line_at l t)) m _ p.supports cell of h),
      ),
    );
  }

-- positive, or zero and falling: alive just before
signs_turned : (t : Time) (ls : List Line) → Each ls (SignBefore t) → Each (map turned_line ls) (SignAfter (turned t))
signs_turned t [] h = tt
signs_turned t (l ∷ ls) h = (sign_turned t l h.0, signs_turned t ls h.1)

pub ahead_signs : (P : Time → Type 0) (p : Lined P) (t : Time) → Each p.list (SignBefore t) → Ahead P t
unfolding mirrored
ahead_signs P p t h = ahead_from P p t (after_from (λ x. P (turned x)) (mirrored P p) (turned t) (signs_turned t p.list h))

-- rising, or at rest and positive: alive at all late times
abbrev pub SignLate : Line → Type 0
SignLate l = (pos 0 <ℤ l.slope) ⊎ ((l.slope ≡ pos 0) × IsPositive l.start)

sign_late : (l : Line) → SignLate l → SignEarly (turned_line l)
unfolding turned_line
sign_late l (inl h) = inl (omega (arith, ints, h))
sign_late l (inr h) = let e = h.0 in inr (omega (arith, ints, e), h.1)

signs_late : (ls : List Line) → Each ls SignLate → Each (map turned_line ls) SignEarly
signs_late [] h = tt
signs_late (l ∷ ls) h = (sign_late l h.0, signs_late ls h.1)

pub late_signs : (P : Time → Type 0) (p : Lined P) → Each p.list SignLate → Late P
unfolding mirrored
late_signs P p h = late_from P p (early_from (λ t. P (turned t)) (mirrored P p) (signs_late p.list h))
