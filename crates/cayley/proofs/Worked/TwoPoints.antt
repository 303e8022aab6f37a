-- Two points of different height on a line: the path is tie free, and the two points are its mixed cell.
use Rattle.std.proofs.Common.{◌≡◌, ◌≢◌, ◌⊎◌, ℕ, zero, suc, ◌<◌, ◌≤◌, [], ◌∷◌, length, None, arith, refl, sym, subst, ◌∙◌, inl, inr}
use Rattle.std.proofs.lemmas.Int.{ints}
use Rattle.std.proofs.Math.IntN.{ℤ, pos, negsuc, ◌+ℤ◌, ◌-ℤ◌, ◌*ℤ◌}
use Rattle.wide_int.proofs.Ring.{as_D, Ds, same_D}
use Rattle.wide_int.proofs.Order.{zero_product}
use Rattle.int_vectors.specs.Vectors.{IsZero, at}
use Rattle.int_vectors.proofs.Entries.{at-scale, at-add, at-zero}
use Rattle.cayley.specs.Times.{Time, time_zero}
use Rattle.cayley.specs.Problems.{Point, Problem, IsProblem, point_at, file_points}
use Rattle.cayley.specs.Problems.Version.{version1}
use Rattle.cayley.specs.Files.{FilePoint, File}
use Rattle.cayley.specs.Paths.{path}
use Rattle.cayley.specs.Cells.{Cell, IsOf, IsIndependent, IsFurther}
use Rattle.cayley.specs.Normals.{Normal, IsNormal}
use Rattle.cayley.specs.Mixed.{IsMixedCell}
use Rattle.cayley.specs.Dependencies.{pair_at, nth_support}
use Rattle.cayley.specs.Ties.{IsLevelAt, IsTie, IsTieFree}
use Rattle.cayley.proofs.Order.Lines.{Line, line_at}
use Rattle.cayley.proofs.Order.Spans.{two_zeros}
use Rattle.cayley.proofs.OneCell.MovingNormals.{Moving, IsFrame, wall, lined_frame}
use Rattle.cayley.proofs.OneCell.MovingWalls.{wall_level}
use Rattle.cayley.proofs.Searching.FilePoints.{file_points_well}

abbrev file_point : ℤ → ℤ → FilePoint
file_point x height = record { coordinates = x ∷ []; height = height }

abbrev pub two_points : File
two_points = record { version = version1; dimension = 1; supports = (file_point (pos 0) (pos 0) ∷ file_point (pos 2) (pos 1) ∷ []) ∷ []; starts = None }

abbrev point : ℤ → ℤ → ℤ → Point
point x base speed = record { coordinates = x ∷ []; base = base; speed = speed; rank = 0 }

abbrev pub two : Problem
two = record { version = version1; dimension = 1; files = 2 ∷ []; supports = (point (pos 0) (pos 0) (pos 0) ∷ point (pos 2) (pos 1) (pos 0) ∷ point (pos 0) (pos 0) (pos 1) ∷ point (pos 2) (pos 0) (pos 1) ∷ []) ∷ [] }

pub two_path : path two_points ≡ two
two_path = refl

pub two_well : IsProblem two
two_well = record { supports = refl; points = ((refl, (refl, (refl, (refl, tt)))), tt) }

-- ---- lines that are zero at one time are in proportion
cross : (l k : Line) (t : Time) → IsZero (line_at l t) → IsZero (line_at k t) → k.slope *ℤ at l.start 0 ≡ l.slope *ℤ at k.start 0
cross l k t z w =
    let a : t.over *ℤ at l.start 0 +ℤ l.slope *ℤ at t.entries 0 ≡ pos 0 = simp (at-add, at-scale) at (at-zero (line_at l t) 0 z) in
    let b : t.over *ℤ at k.start 0 +ℤ k.slope *ℤ at t.entries 0 ≡ pos 0 = simp (at-add, at-scale) at (at-zero (line_at k t) 0 w) in
    let o = t.positive in
    by_over t.over (at l.start 0) l.slope (at k.start 0) k.slope (at t.entries 0) (λ q. omega (arith, ints, o, q)) a b
  where
    ring : (q a b c d x : ℤ) → q *ℤ (d *ℤ a -ℤ b *ℤ c) ≡ d *ℤ (q *ℤ a +ℤ b *ℤ x) -ℤ b *ℤ (q *ℤ c +ℤ d *ℤ x)
    ring q a b c d x = rw (as_D q, as_D a, as_D b, as_D c, as_D d, as_D x) (simp Ds (same_D _ _ _ _ (omega arith)))

    nothing : (d b : ℤ) → d *ℤ pos 0 -ℤ b *ℤ pos 0 ≡ pos 0
    nothing d b = omega (arith, ints)

    by_over : (q a b c d x : ℤ) → q ≢ pos 0 → q *ℤ a +ℤ b *ℤ x ≡ pos 0 → q *ℤ c +ℤ d *ℤ x ≡ pos 0 → d *ℤ a ≡ b *ℤ c
    by_over q a b c d x some e f =
        let g : q *ℤ (d *ℤ a -ℤ b *ℤ c) ≡ pos 0 = ring q a b c d x ∙ rw (e, f) (nothing d b) in
        elim (zero_product q (d *ℤ a -ℤ b *ℤ c) g) [ inl h ↦ absurd (some h) | inr h ↦ omega (arith, ints, h) ]

-- ---- a cell whose two further points come level at two times has no tie
only_place : (i e : ℕ) → 1 ≤ e → e ≤ length (nth_support two.supports i) → i ≡ 0
only_place zero e p q = refl
only_place (suc i) e p q = absurd (omega (arith, p, q))

module _ (cell : Cell) (of : IsOf two cell) (ind : IsIndependent two cell) (m : Moving) (frame : IsFrame two cell m) where
  abbrev line : ℕ → Line
  line e = wall m (point_at (nth_support two.supports 0) (pair_at cell 0).0) (point_at (nth_support two.supports 0) e)

  abbrev OneOf : ℕ → ℕ → ℕ → Type 0
  OneOf c d e = (e ≡ c) ⊎ (e ≡ d)

  abbrev Two : ℕ → ℕ → Type 0
  Two c d = (e : ℕ) → IsFurther (nth_support two.supports 0) (pair_at cell 0).0 (pair_at cell 0).1 e → OneOf c d e

  at_one : (t : Time) (v : Normal) (i e : ℕ) → IsLevelAt two cell t v i e → IsLevelAt two cell t v 0 e
  at_one t v i e h = subst (λ k. IsLevelAt two cell t v k e) (only_place i e h.0.0 h.0.1) h

  zero_line : (t : Time) (v : Normal) (i e : ℕ) → IsNormal two cell t v → IsLevelAt two cell t v i e → IsZero (line_at (line e) t)
  zero_line t v i e n h = (wall_level two cell two_well of ind m frame (point_at (nth_support two.supports 0) (pair_at cell 0).0) (point_at (nth_support two.supports 0) e) t v n).1 (at_one t v i e h).1

  untied_by : (c d : ℕ) → Two c d → (line c).slope ≢ pos 0 → (line d).slope ≢ pos 0 → (line d).slope *ℤ at (line c).start 0 ≢ (line c).slope *ℤ at (line d).start 0
      → (t : Time) (v : Normal) → ¬ (IsTie two cell t v)
  untied_by c d only moves_c moves_d apart t v h = elim h.4 [
    | inl both ↦
        let i = both.0 in let e = both.1 in let j = both.2 in let f = both.3 in
        let same = only_place i e both.5.0.0 both.5.0.1 ∙ sym (only_place j f both.6.0.0 both.6.0.1) in
        meet e f (λ q. both.4 (same, q)) (only e (at_one t v i e both.5).0) (only f (at_one t v j f both.6).0) (zero_line t v i e h.2 both.5) (zero_line t v j f h.2 both.6)
    | inr twice ↦
        let i = twice.0 in let e = twice.1 in let u = twice.2 in let w = twice.3 in
        let z = zero_line t v i e h.2 twice.6 in
        let y = zero_line u w i e twice.5 twice.7 in
        still e (only e (at_one t v i e twice.6).0) (elim twice.4 [ inl k ↦ two_zeros (line e) t u k z y | inr k ↦ two_zeros (line e) u t k y z ])
  ]
    where
      meet : (e f : ℕ) → e ≢ f → OneOf c d e → OneOf c d f → IsZero (line_at (line e) t) → IsZero (line_at (line f) t) → ⊥
      meet e f n (inl p) (inl q) z y = n (p ∙ sym q)
      meet e f n (inr p) (inr q) z y = n (p ∙ sym q)
      meet e f n (inl p) (inr q) z y = apart (cross (line c) (line d) t (subst (λ k. IsZero (line_at (line k) t)) p z) (subst (λ k. IsZero (line_at (line k) t)) q y))
      meet e f n (inr p) (inl q) z y = apart (cross (line c) (line d) t (subst (λ k. IsZero (line_at (line k) t)) q y) (subst (λ k. IsZero (line_at (line k) t)) p z))

      still : (e : ℕ) → OneOf c d e → (line e).slope ≢ pos 0
      still e (inl p) q = moves_c (subst (λ k. (line k).slope ≡ pos 0) p q)
      still e (inr p) q = moves_d (subst (λ k. (line k).slope ≡ pos 0) p q)

-- ---- the six pairs of positions
abbrev pub mixed : Cell
mixed = (1, 2) ∷ []

-- v = -1 / 2
frozen : Moving
frozen = record { den = pos 2; positive = record { lt = tt }; starts = negsuc 0 ∷ []; slopes = pos 0 ∷ []; long = refl }

pairs : (a b : ℕ) → (1 ≤ a) × (a < b) × (b ≤ 4) → (t : Time) (v : Normal) → ¬ (IsTie two ((a, b) ∷ []) t v)
unfolding frozen
pairs zero b o t v h = omega (arith, o.0)
pairs (suc zero) zero o t v h = omega (arith, o.1)
pairs (suc zero) (suc zero) o t v h = omega (arith, o.1)
pairs (suc zero) (suc (suc zero)) o t v h =
    untied_by ((1, 2) ∷ []) h.0 h.1 frozen (refl, (((refl, tt), refl), tt)) 3 4 only (λ q. omega (arith, ints, q)) (λ q. omega (arith, ints, q)) (λ q. omega (arith, ints, q)) t v h
  where
    only : (e : ℕ) → IsFurther (nth_support two.supports 0) 1 2 e → (e ≡ 3) ⊎ (e ≡ 4)
    only zero f = absurd (let a = f.0 in omega (arith, a))
    only (suc zero) f = absurd (f.2 refl)
    only (suc (suc zero)) f = absurd (f.3 refl)
    only (suc (suc (suc zero))) f = inl refl
    only (suc (suc (suc (suc zero)))) f = inr refl
    only (suc (suc (suc (suc (suc e))))) f = absurd (let a = f.1 in omega (arith, a))
pairs (suc zero) (suc (suc (suc zero))) o t v h = let e = (h.1 (pos 1 ∷ []) refl (refl, tt)).0 in omega (arith, ints, e)
pairs (suc zero) (suc (suc (suc (suc zero)))) o t v h =
    untied_by ((1, 4) ∷ []) h.0 h.1 (record { den = pos 2; positive = record { lt = tt }; starts = pos 0 ∷ []; slopes = negsuc 0 ∷ []; long = refl }) (refl, (((refl, tt), refl), tt)) 2 3 only
    (λ q. omega (arith, ints, q)) (λ q. omega (arith, ints, q)) (λ q. omega (arith, ints, q)) t v h
  where
    only : (e : ℕ) → IsFurther (nth_support two.supports 0) 1 4 e → (e ≡ 2) ⊎ (e ≡ 3)
    only zero f = absurd (let a = f.0 in omega (arith, a))
    only (suc zero) f = absurd (f.2 refl)
    only (suc (suc zero)) f = inl refl
    only (suc (suc (suc zero))) f = inr refl
    only (suc (suc (suc (suc zero)))) f = absurd (f.3 refl)
    only (suc (suc (suc (suc (suc e))))) f = absurd (let a = f.1 in omega (arith, a))
pairs (suc zero) (suc (suc (suc (suc (suc b))))) o t v h = omega (arith, o.2)
pairs (suc (suc zero)) zero o t v h = omega (arith, o.1)
pairs (suc (suc zero)) (suc zero) o t v h = omega (arith, o.1)
pairs (suc (suc zero)) (suc (suc zero)) o t v h = omega (arith, o.1)
pairs (suc (suc zero)) (suc (suc (suc zero))) o t v h =
    untied_by ((2, 3) ∷ []) h.0 h.1 (record { den = pos 2; positive = record { lt = tt }; starts = negsuc 0 ∷ []; slopes = pos 1 ∷ []; long = refl }) (refl, (((refl, tt), refl), tt)) 1 4 only
    (λ q. omega (arith, ints, q)) (λ q. omega (arith, ints, q)) (λ q. omega (arith, ints, q)) t v h
  where
    only : (e : ℕ) → IsFurther (nth_support two.supports 0) 2 3 e → (e ≡ 1) ⊎ (e ≡ 4)
    only zero f = absurd (let a = f.0 in omega (arith, a))
    only (suc zero) f = inl refl
    only (suc (suc zero)) f = absurd (f.2 refl)
    only (suc (suc (suc zero))) f = absurd (f.3 refl)
    only (suc (suc (suc (suc zero)))) f = inr refl
    only (suc (suc (suc (suc (suc e))))) f = absurd (let a = f.1 in omega (arith, a))
pairs (suc (suc zero)) (suc (suc (suc (suc zero)))) o t v h = let e = (h.1 (pos 1 ∷ []) refl (refl, tt)).0 in omega (arith, ints, e)
pairs (suc (suc zero)) (suc (suc (suc (suc (suc b))))) o t v h = omega (arith, o.2)
pairs (suc (suc (suc zero))) zero o t v h = omega (arith, o.1)
pairs (suc (suc (suc zero))) (suc zero) o t v h = omega (arith, o.1)
pairs (suc (suc (suc zero))) (suc (suc zero)) o t v h = omega (arith, o.1)
pairs (suc (suc (suc zero))) (suc (suc (suc zero))) o t v h = omega (arith, o.1)
pairs (suc (suc (suc zero))) (suc (suc (suc (suc zero)))) o t v h =
    untied_by ((3, 4) ∷ []) h.0 h.1 (record { den = pos 1; positive = record { lt = tt }; starts = pos 0 ∷ []; slopes = pos 0 ∷ []; long = refl }) (refl, (((refl, tt), refl), tt)) 1 2 only
    (λ q. omega (arith, ints, q)) (λ q. omega (arith, ints, q)) (λ q. omega (arith, ints, q)) t v h
  where
    only : (e : ℕ) → IsFurther (nth_support two.supports 0) 3 4 e → (e ≡ 1) ⊎ (e ≡ 2)
    only zero f = absurd (let a = f.0 in omega (arith, a))
    only (suc zero) f = inl refl
    only (suc (suc zero)) f = inr refl
    only (suc (suc (suc zero))) f = absurd (f.2 refl)
    only (suc (suc (suc (suc zero)))) f = absurd (f.3 refl)
    only (suc (suc (suc (suc (suc e))))) f = absurd (let a = f.1 in omega (arith, a))
pairs (suc (suc (suc zero))) (suc (suc (suc (suc (suc b))))) o t v h = omega (arith, o.2)
pairs (suc (suc (suc (suc a)))) b o t v h = let p = o.1 in let q = o.2 in omega (arith, p, q)

pub two_tie_free : IsTieFree two
two_tie_free [] t v h = h.0
two_tie_free (x ∷ y ∷ cell) t v h = h.0.1
two_tie_free (x ∷ []) t v h = pairs x.0 x.1 h.0.0 t v h

-- ---- the mixed cell
mixed_independent : IsIndependent (file_points two) mixed
mixed_independent [] l e = absurd (omega (arith, l))
mixed_independent (x ∷ []) l e = let a = e.0 in (omega (arith, ints, a), tt)
mixed_independent (x ∷ y ∷ v) l e = absurd (omega (arith, l))

pub mixed_is_mixed : IsMixedCell two mixed
unfolding lined_frame frozen
mixed_is_mixed =
    (lined_frame (file_points two) mixed (file_points_well two two_well refl) ((omega arith, omega arith, omega arith), tt) mixed_independent frozen (refl, (((refl, tt), refl), tt))).from time_zero tt
