-- Ties of a cell on a line, told by the wall lines of its further points.
use Rattle.std.proofs.Common.{◌≡◌, ◌≢◌, ℕ, zero, suc, ◌≤◌, List, [], ◌∷◌, length, arith, refl, sym, subst, ◌∙◌, inl, inr, ◌<ℤ◌, ◌≤ℤ◌}
use Rattle.std.proofs.lemmas.Int.{ints}
use Rattle.std.proofs.Math.IntN.{ℤ, pos, ◌+ℤ◌, ◌*ℤ◌}
use Rattle.int_vectors.specs.Vectors.{Each, IsZero, at}
use Rattle.int_vectors.proofs.Entries.{at-scale, at-add, at-zero}
use Rattle.cayley.specs.Times.{Time}
use Rattle.cayley.specs.Problems.{Point, Problem, IsProblem, point_at}
use Rattle.cayley.specs.Problems.Version.{version1}
use Rattle.cayley.specs.Cells.{Cell, IsOf, IsIndependent, IsFurther}
use Rattle.cayley.specs.Normals.{Normal, IsNormal, NoneBelow}
use Rattle.cayley.specs.Ties.{IsLevelAt, IsUntied}
use Rattle.cayley.proofs.Order.Lines.{Line, line_at}
use Rattle.cayley.proofs.Order.Spans.{two_zeros}
use Rattle.cayley.proofs.Searching.Listing.{Has}
use Rattle.cayley.proofs.OneCell.MovingNormals.{Moving, IsFrame, wall}
use Rattle.cayley.proofs.OneCell.MovingWalls.{wall_above, wall_level}
use Rattle.cayley.specs.Dependencies.{nth_support}
use Rattle.start_system.proofs.Path.Shape.{first_not_negative}

-- a problem of one support, of which so many are file points
abbrev pub on_a_line : ℕ → List Point → Problem
on_a_line f s = record { version = version1; dimension = 1; files = f ∷ []; supports = s ∷ [] }

-- a line's first entry at the time x / q, times q
abbrev pub value : Line → ℤ → ℤ → ℤ
value l q x = q *ℤ at l.start 0 +ℤ l.slope *ℤ x

value_is : (l : Line) (t : Time) → at (line_at l t) 0 ≡ value l t.over (at t.entries 0)
value_is l t = simp (at-add, at-scale) refl

only_place : (s : List Point) (i e : ℕ) → 1 ≤ e → e ≤ length (nth_support (s ∷ []) i) → i ≡ 0
only_place s zero e p q = refl
only_place s (suc i) e p q = absurd (omega (arith, p, q))

-- ---- one cell with a moving normal
module _ (f : ℕ) (s : List Point) (well : IsProblem (on_a_line f s)) (a b : ℕ) (m : Moving) (frame : IsFrame (on_a_line f s) ((a, b) ∷ []) m) where
  abbrev p : Problem
  p = on_a_line f s

  abbrev cell : Cell
  cell = (a, b) ∷ []

  abbrev line : ℕ → Line
  line e = wall m (point_at s a) (point_at s e)

  abbrev Level : Time → ℕ → Type 0
  Level t k = value (line k) t.over (at t.entries 0) ≡ pos 0

  -- at no time are these two level with no further point below
  abbrev Apart : ℕ → ℕ → Type 0
  Apart c d = (q x : ℤ) → pos 0 <ℤ q → value (line c) q x ≡ pos 0 → value (line d) q x ≡ pos 0 → ((e : ℕ) → IsFurther s a b e → pos 0 ≤ℤ value (line e) q x) → ⊥

  abbrev AllApart : List ℕ → Type 0
  AllApart [] = Unit {0}
  AllApart (c ∷ cs) = Each cs (λ d. Apart c d) × AllApart cs

  -- not level at two times
  abbrev Moves : ℕ → Type 0
  Moves c = (q x : ℤ) → pos 0 <ℤ q → (line c).slope ≡ pos 0 → value (line c) q x ≡ pos 0 → ⊥

  at_one : (t : Time) (v : Normal) (i e : ℕ) → IsLevelAt p cell t v i e → IsLevelAt p cell t v 0 e
  at_one t v i e h = subst (λ k. IsLevelAt p cell t v k e) (only_place s i e h.0.0 h.0.1) h

  zero_line : IsOf p cell → IsIndependent p cell → (t : Time) (v : Normal) (i e : ℕ) → IsNormal p cell t v → IsLevelAt p cell t v i e → IsZero (line_at (line e) t)
  zero_line of ind t v i e n h = (wall_level p cell well of ind m frame (point_at s a) (point_at s e) t v n).1 (at_one t v i e h).1

  zero_value : (t : Time) (e : ℕ) → IsZero (line_at (line e) t) → Level t e
  zero_value t e z = sym (value_is (line e) t) ∙ at-zero (line_at (line e) t) 0 z

  not_below : IsOf p cell → IsIndependent p cell → (t : Time) (v : Normal) → IsNormal p cell t v → NoneBelow p cell t v → (e : ℕ) → IsFurther s a b e → pos 0 ≤ℤ value (line e) t.over (at t.entries 0)
  not_below of ind t v n none e g =
      subst (λ z. pos 0 ≤ℤ z) (value_is (line e) t) (first_not_negative (line_at (line e) t) (elim (none.0 e g) [
        | inl h ↦ inl ((wall_above p cell well of ind m frame (point_at s a) (point_at s e) t v n).1 h)
        | inr z ↦ inr ((wall_level p cell well of ind m frame (point_at s a) (point_at s e) t v n).1 z)
      ]))

  -- a cell of whose further points no two are level at once and none is level twice has no tie
  pub untied_by : (cs : List ℕ) → ((k : ℕ) → IsFurther s a b k → Has k cs) → AllApart cs → Each cs Moves → (t : Time) → IsUntied p cell t
  untied_by cs among far moves t v h = elim h.4 [
    | inl two ↦
        let i = two.0 in let k = two.1 in let j = two.2 in let l = two.3 in
        let same = only_place s i k two.5.0.0 two.5.0.1 ∙ sym (only_place s j l two.6.0.0 two.6.0.1) in
        meet cs far k l (λ q. two.4 (same, q)) (among k (at_one t v i k two.5).0) (among l (at_one t v j l two.6).0)
        (zero_value t k (zero_line h.0 h.1 t v i k h.2 two.5)) (zero_value t l (zero_line h.0 h.1 t v j l h.2 two.6))
    | inr twice ↦
        let i = twice.0 in let k = twice.1 in let u = twice.2 in let w = twice.3 in
        let z = zero_line h.0 h.1 t v i k h.2 twice.6 in
        let y = zero_line h.0 h.1 u w i k twice.5 twice.7 in
        still cs moves k (among k (at_one t v i k twice.6).0) (elim twice.4 [ inl r ↦ two_zeros (line k) t u r z y | inr r ↦ two_zeros (line k) u t r y z ]) (zero_value t k z)
  ]
    where
      part : (c d : ℕ) → Apart c d → Level t c → Level t d → ⊥
      part c d far z w = far t.over (at t.entries 0) t.positive z w (not_below h.0 h.1 t v h.2 h.3)

      one : (cs : List ℕ) (c l : ℕ) → Each cs (λ d. Apart c d) → Has l cs → Level t c → Level t l → ⊥
      one [] c l far q z w = q
      one (d ∷ cs) c l far (inl q) z w = part c d far.0 z (subst (λ n. Level t n) q w)
      one (d ∷ cs) c l far (inr q) z w = one cs c l far.1 q z w

      meet : (cs : List ℕ) → AllApart cs → (k l : ℕ) → k ≢ l → Has k cs → Has l cs → Level t k → Level t l → ⊥
      meet [] far k l n x y z w = x
      meet (c ∷ cs) far k l n (inl x) (inl y) z w = n (x ∙ sym y)
      meet (c ∷ cs) far k l n (inl x) (inr y) z w = one cs c l far.0 y (subst (λ n. Level t n) x z) w
      meet (c ∷ cs) far k l n (inr x) (inl y) z w = one cs c k far.0 x (subst (λ n. Level t n) y w) z
      meet (c ∷ cs) far k l n (inr x) (inr y) z w = meet cs far.1 k l n x y z w

      still : (cs : List ℕ) → Each cs Moves → (k : ℕ) → Has k cs → (line k).slope ≡ pos 0 → Level t k → ⊥
      still [] moves k x e z = x
      still (c ∷ cs) moves k (inl x) e z = moves.0 t.over (at t.entries 0) t.positive (subst (λ n. (line n).slope ≡ pos 0) x e) (subst (λ n. Level t n) x z)
      still (c ∷ cs) moves k (inr x) e z = still cs moves.1 k x e z

-- the normal (start + slope t) / (den + 1)
abbrev pub over : ℕ → ℤ → ℤ → Moving
over den start slope = record { den = pos (suc den); positive = omega (arith, ints); starts = start ∷ []; slopes = slope ∷ []; long = refl }
