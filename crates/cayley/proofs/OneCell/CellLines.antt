-- the line of a further point of an independent cell: its sign is that of above, level or below at every time
use Rattle.std.proofs.Common.{◌≡◌, ◌↔◌, ℕ, zero, suc, List, [], ◌∷◌, length, map, arith, refl, sym, ap, ap₂, ◌∙◌, ◌<ℤ◌}
use Rattle.std.proofs.lemmas.Int.{ints}
use Rattle.std.proofs.Math.IntN.{ℤ, pos, ◌+ℤ◌, ◌-ℤ◌, ◌*ℤ◌, neg_ℤ, *ℤ-zero, *ℤ_comm}
use Rattle.wide_int.proofs.Ring.{as_D, Ds, same_D, D-pos}
use Rattle.int_vectors.proofs.Weighing.{weigh-lin}
use Rattle.cayley.proofs.Order.Proportion.{in_proportion}
use Rattle.cayley.proofs.Algebra.Kernel.{Independent, weigh_map}
use Rattle.cayley.proofs.Algebra.ScaledInverse.{inverse, apply, at-comb}
use Rattle.cayley.proofs.Algebra.RowDependencies.{IsDependency}
use Rattle.cayley.proofs.Order.Lexicographic.{minus_one}
use Rattle.cayley.proofs.Algebra.RowNormals.{weigh-swap, weigh-factor, square_pos, sum_is_gap}
use Rattle.cayley.proofs.Order.Lines.{Line, line_at}
use Rattle.cayley.proofs.OneCell.CellNormals.{rises, length-rises, normal_from, rows_independent, long_rows}
use Rattle.int_vectors.specs.Vectors.{IsPositive, weigh, scale, dot, at, add, sub, comb, at_place}
use Rattle.int_vectors.proofs.Entries.{at-scale, at-add}
use Rattle.cayley.specs.Times.{Time}
use Rattle.cayley.specs.Problems.{Point, Problem, point_at, IsProblem}
use Rattle.cayley.specs.Normals.{Normal, height, gap, mark, IsNormal}
use Rattle.cayley.specs.Cells.{Cell, IsOf, IsIndependent}
use Rattle.cayley.specs.Rows.{edges}

pub record ADependency (n : ℕ) (rows : List (List ℤ)) (d : List ℤ) : Type 0 where
  pub bs : List ℤ
  pub g : ℤ
  pub positive : pos 0 <ℤ g
  pub is : IsDependency n rows d bs g

apply_map : (rows : List (List ℤ)) (v : List ℤ) → map (λ r. dot r v) rows ≡ apply rows v
apply_map [] v = refl
apply_map (r ∷ rows) v = ap (λ l. dot r v ∷ l) (apply_map rows v)

-- a dependency exists
pub a_dependency : (n : ℕ) (rows : List (List ℤ)) (d : List ℤ) → length rows ≡ n → Independent n rows → ADependency n rows d
a_dependency n rows d e ind =
    let i = inverse n rows e ind in
    record {
      bs = map (λ x. neg_ℤ i.g *ℤ dot d x) i.xs;
      g = i.g *ℤ i.g;
      positive = square_pos i.g i.apart;
      is = λ y ly.
          ap (λ x. x +ℤ i.g *ℤ i.g *ℤ dot d y)
          (weigh-swap i.xs rows (λ x. neg_ℤ i.g *ℤ dot d x) (λ r. dot r y)
          ∙ ap (λ l. weigh l i.xs (λ x. neg_ℤ i.g *ℤ dot d x)) (apply_map rows y)
          ∙ weigh-factor (apply rows y) i.xs (neg_ℤ i.g) (dot d)
          ∙ ap (λ s. neg_ℤ i.g *ℤ s) (i.left y d ly))
          ∙ step i.g (dot d y);
    }
  where
    step : (g x : ℤ) → neg_ℤ g *ℤ (g *ℤ x) +ℤ g *ℤ g *ℤ x ≡ pos 0
    step g x = rw (as_D g, as_D x, D-pos 0) (simp Ds (same_D _ _ _ _ (omega arith)))

-- a height as a line: entry by entry base * over + speed * time
unfoldable pub base_of : Point → List ℤ
base_of p = add (p.base ∷ []) (mark (pos 1) p.rank)

at_place-scale : (k : ℕ) (q : ℤ) (e : ℕ) → at (at_place k q) e ≡ q *ℤ at (at_place k (pos 1)) e
at_place-scale zero q zero = omega (arith, ints)
at_place-scale zero q (suc e) = sym (*ℤ-zero q)
at_place-scale (suc k) q zero = sym (*ℤ-zero q)
at_place-scale (suc k) q (suc e) = at_place-scale k q e

mark-scale : (q : ℤ) (r e : ℕ) → at (mark q r) e ≡ q *ℤ at (mark (pos 1) r) e
mark-scale q zero e = sym (*ℤ-zero q)
mark-scale q (suc r) e = at_place-scale (suc r) q e

single-scale : (q b : ℤ) (e : ℕ) → at ((q *ℤ b) ∷ []) e ≡ q *ℤ at (b ∷ []) e
single-scale q b zero = refl
single-scale q b (suc e) = sym (*ℤ-zero q)

pub height-at : (t : Time) (p : Point) (e : ℕ) → at (height t p) e ≡ t.over *ℤ at (base_of p) e +ℤ p.speed *ℤ at t.entries e
unfolding base_of
height-at t p e =
    at-add ((t.over *ℤ p.base) ∷ []) (add (scale p.speed t.entries) (mark t.over p.rank)) e
    ∙ ap₂ ◌+ℤ◌ (single-scale t.over p.base e) (at-add (scale p.speed t.entries) (mark t.over p.rank) e ∙ ap₂ ◌+ℤ◌ (at-scale p.speed t.entries e) (mark-scale t.over p.rank e))
    ∙ step t.over (at (p.base ∷ []) e) (p.speed *ℤ at t.entries e) (at (mark (pos 1) p.rank) e)
    ∙ ap (λ x. t.over *ℤ x +ℤ p.speed *ℤ at t.entries e) (sym (at-add (p.base ∷ []) (mark (pos 1) p.rank) e))
  where
    step : (q b s m : ℤ) → q *ℤ b +ℤ (s +ℤ q *ℤ m) ≡ q *ℤ (b +ℤ m) +ℤ s
    step q b s m = rw (as_D q, as_D b, as_D s, as_D m) (simp Ds (same_D _ _ _ _ (omega arith)))

-- the difference of two heights as a line
unfoldable pub rise_line : Point → Point → Line
rise_line p q = record { start = sub (base_of q) (base_of p); slope = q.speed -ℤ p.speed }

rise-at : (t : Time) (p q : Point) (e : ℕ) → at (sub (height t q) (height t p)) e ≡ at (line_at (rise_line p q) t) e
unfolding rise_line
rise-at t p q e =
    at-add (height t q) (scale (neg_ℤ (pos 1)) (height t p)) e
    ∙ ap₂ ◌+ℤ◌ (height-at t q e) (at-scale (neg_ℤ (pos 1)) (height t p) e ∙ ap (λ x. neg_ℤ (pos 1) *ℤ x) (height-at t p e) ∙ minus_one _)
    ∙ step t.over (at (base_of q) e) q.speed (at t.entries e) (at (base_of p) e) p.speed
    ∙ sym (at-add (scale t.over (sub (base_of q) (base_of p))) (scale (q.speed -ℤ p.speed) t.entries) e ∙ ap₂ ◌+ℤ◌ (at-scale t.over (sub (base_of q) (base_of p)) e ∙ ap (λ x. t.over *ℤ x) (at-add (base_of q) (scale (neg_ℤ (pos 1)) (base_of p)) e ∙ ap (λ x. at (base_of q) e +ℤ x) (at-scale (neg_ℤ (pos 1)) (base_of p) e ∙ minus_one _))) (at-scale (q.speed -ℤ p.speed) t.entries e))
  where
    step : (q a s x b r : ℤ) → q *ℤ a +ℤ s *ℤ x +ℤ neg_ℤ (q *ℤ b +ℤ r *ℤ x) ≡ q *ℤ (a +ℤ neg_ℤ b) +ℤ (s -ℤ r) *ℤ x
    step q a s x b r = rw (as_D q, as_D a, as_D s, as_D x, as_D b, as_D r) (simp Ds (same_D _ _ _ _ (omega arith)))

unfoldable pub lines : List (List Point) → Cell → List Line
lines [] cell = []
lines (s ∷ supports) [] = []
lines (s ∷ supports) (pair ∷ cell) = rise_line (point_at s pair.0) (point_at s pair.1) ∷ lines supports cell

weigh-rises : (bs : List ℤ) (t : Time) (supports : List (List Point)) (cell : Cell) (e : ℕ)
    → weigh bs (rises t supports cell) (λ h. at h e) ≡ weigh bs (lines supports cell) (λ l. t.over *ℤ at l.start e +ℤ at t.entries e *ℤ l.slope)
unfolding lines
weigh-rises [] t supports cell e = refl
weigh-rises (b ∷ bs) t [] cell e = refl
weigh-rises (b ∷ bs) t (s ∷ supports) [] e = refl
weigh-rises (b ∷ bs) t (s ∷ supports) (pair ∷ cell) e =
    ap₂ (λ x y. b *ℤ x +ℤ y) (rise-at t (point_at s pair.0) (point_at s pair.1) e ∙ line-at (rise_line (point_at s pair.0) (point_at s pair.1)) t e) (weigh-rises bs t supports cell e)
  where
    line-at : (l : Line) (t : Time) (e : ℕ) → at (line_at l t) e ≡ t.over *ℤ at l.start e +ℤ at t.entries e *ℤ l.slope
    line-at l t e = at-add (scale t.over l.start) (scale l.slope t.entries) e ∙ ap₂ ◌+ℤ◌ (at-scale t.over l.start e) (at-scale l.slope t.entries e ∙ *ℤ_comm l.slope (at t.entries e))

-- the line of the sum of a dependency's numbers times the heights
unfoldable pub sum_line : List ℤ → ℤ → List Line → Line → Line
sum_line bs g ls l = record {
  start = add (comb bs (map (λ (k : Line). k.start) ls)) (scale g l.start);
  slope = weigh bs ls (λ k. k.slope) +ℤ g *ℤ l.slope;
}

pub sum_line-at : (bs : List ℤ) (g : ℤ) (t : Time) (supports : List (List Point)) (cell : Cell) (a c : Point) (e : ℕ)
    → at (add (comb bs (rises t supports cell)) (scale g (sub (height t c) (height t a)))) e ≡ at (line_at (sum_line bs g (lines supports cell) (rise_line a c)) t) e
unfolding sum_line
sum_line-at bs g t supports cell a c e =
    let ls = lines supports cell in
    let l = rise_line a c in
    at-add (comb bs (rises t supports cell)) (scale g (sub (height t c) (height t a))) e
    ∙ ap₂ ◌+ℤ◌ (at-comb bs (rises t supports cell) e ∙ weigh-rises bs t supports cell e ∙ weigh-lin bs ls t.over (at t.entries e) (λ k. at k.start e) (λ k. k.slope))
    (at-scale g (sub (height t c) (height t a)) e ∙ ap (λ x. g *ℤ x) (rise-at t a c e ∙ at-add (scale t.over l.start) (scale l.slope t.entries) e ∙ ap₂ ◌+ℤ◌ (at-scale t.over l.start e) (at-scale l.slope t.entries e)))
    ∙ step t.over (weigh bs ls (λ k. at k.start e)) (at t.entries e) (weigh bs ls (λ k. k.slope)) g (at l.start e) l.slope
    ∙ sym (at-add (scale t.over (add (comb bs (map (λ (k : Line). k.start) ls)) (scale g l.start))) (scale (weigh bs ls (λ k. k.slope) +ℤ g *ℤ l.slope) t.entries) e
    ∙ ap₂ ◌+ℤ◌ (at-scale t.over (add (comb bs (map (λ (k : Line). k.start) ls)) (scale g l.start)) e ∙ ap (λ x. t.over *ℤ x) (at-add (comb bs (map (λ (k : Line). k.start) ls)) (scale g l.start) e ∙ ap₂ ◌+ℤ◌ (at-comb bs (map (λ (k : Line). k.start) ls) e ∙ weigh_map bs (λ (k : Line). k.start) ls (λ x. at x e)) (at-scale g l.start e)))
    (at-scale (weigh bs ls (λ k. k.slope) +ℤ g *ℤ l.slope) t.entries e))
  where
    step : (q a x b g s m : ℤ) → q *ℤ a +ℤ x *ℤ b +ℤ g *ℤ (q *ℤ s +ℤ m *ℤ x) ≡ q *ℤ (a +ℤ g *ℤ s) +ℤ (b +ℤ g *ℤ m) *ℤ x
    step q a x b g s m = rw (as_D q, as_D a, as_D x, as_D b, as_D g, as_D s, as_D m) (simp Ds (same_D _ _ _ _ (omega arith)))

-- a line that is the gap, up to positive numbers
pub record ExactLine (p : Problem) (cell : Cell) (a c : Point) : Type 0 where
  pub line : Line
  pub g : ℤ
  pub positive : pos 0 <ℤ g
  pub is : (t : Time) (v : Normal) → IsNormal p cell t v → (e : ℕ) → v.over *ℤ at (line_at line t) e ≡ g *ℤ at (gap t v a c) e

unfoldable pub exact_line : (p : Problem) (cell : Cell) (a c : Point) → IsProblem p → IsOf p cell → IsIndependent p cell → ExactLine p cell a c
exact_line p cell a c well of ind =
    let d = a_dependency p.dimension (edges p.supports cell) (sub c.coordinates a.coordinates) (long_rows p cell well of ind) (rows_independent p cell well of ind) in
    record {
      line = sum_line d.bs d.g (lines p.supports cell) (rise_line a c);
      g = d.g;
      positive = d.positive;
      is = λ t v n e.
          let s = add (comb d.bs (rises t p.supports cell)) (scale d.g (sub (height t c) (height t a))) in
          let q = sum_is_gap p.dimension (edges p.supports cell) (rises t p.supports cell) (sub c.coordinates a.coordinates) (sub (height t c) (height t a)) d.bs d.g t.over v.over v.entries
          (length-rises t p.supports cell) n.0 d.is (normal_from t p.supports cell v n.1) e in
          ap (λ x. v.over *ℤ x) (sym (sum_line-at d.bs d.g t p.supports cell a c e)) ∙ sym (at-scale v.over s e) ∙ q ∙ at-scale d.g (gap t v a c) e;
    }

-- on problems: above at a time is a positive line
pub record APointLine (p : Problem) (cell : Cell) (a c : Point) : Type 0 where
  pub line : Line
  pub above : (t : Time) (v : Normal) → IsNormal p cell t v → IsPositive (line_at line t) ↔ IsPositive (gap t v a c)

pub point_line : (p : Problem) (cell : Cell) (a c : Point) → IsProblem p → IsOf p cell → IsIndependent p cell → APointLine p cell a c
point_line p cell a c well of ind =
    let l = exact_line p cell a c well of ind in
    record {
      line = l.line;
      above = λ t v n. (
        (λ q. in_proportion (line_at l.line t) (gap t v a c) v.over l.g v.positive l.positive (l.is t v n) q),
        (λ q. in_proportion (gap t v a c) (line_at l.line t) l.g v.over l.positive v.positive (λ e. sym (l.is t v n e)) q),
      );
    }
