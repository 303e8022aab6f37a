-- The named ties of two points of equal height on a line: of the start cell at its upper end, of the two file points at their lower end.
use Rattle.std.proofs.Common.{◌≡◌, ◌⊎◌, ℕ, zero, suc, ◌-◌, ◌≤◌, [], ◌∷◌, length, Some, arith, refl, sym, subst, inl, inr}
use Rattle.std.proofs.lemmas.Int.{ints}
use Rattle.std.proofs.Math.IntN.{pos}
use Rattle.int_vectors.specs.Vectors.{IsZero}
use Rattle.cayley.specs.Times.{Time, time_zero}
use Rattle.cayley.specs.Problems.{Point, IsProblem, point_at}
use Rattle.cayley.specs.Cells.{Cell, IsFurther}
use Rattle.cayley.specs.Normals.{Normal, IsNormal, IsAbove, IsLevel}
use Rattle.cayley.specs.Dependencies.{pair_at, IsFurtherAt, nth_support}
use Rattle.cayley.specs.StoredTies.{Spot, IsEarlier, IsFurtherSpot, IsAlwaysLevel, ShowsTie}
use Rattle.cayley.specs.NamedTies.{InSpan, IsLowerEnd, IsUpperEnd, IsLevelThen, AreFirstTwo, IsLowerTie, IsNamedTie}
use Rattle.cayley.proofs.Order.Lines.{Line, line_at, NotNegative}
use Rattle.cayley.proofs.Order.Times.{Same, same_sym, time_cases, before_same}
use Rattle.cayley.proofs.Order.Spans.{two_zeros, rising_lower, falling_upper}
use Rattle.cayley.proofs.OneCell.MovingNormals.{Moving, IsFrame, wall}
use Rattle.cayley.proofs.OneCell.MovingWalls.{wall_above, wall_level}
use Rattle.cayley.proofs.Life.NamedTies.{named_is_shown_law}
use Rattle.cayley.proofs.Worked.LevelPoints.{level_path, seven, flat, start_tie, least_tie}

level_well : IsProblem level_path
level_well = record { supports = refl; points = ((refl, (refl, (refl, (refl, tt)))), tt) }

abbrev at_position : ℕ → Point
at_position c = point_at (nth_support level_path.supports 0) c

-- v = 0
abbrev at_rest : Moving
at_rest = record { den = pos 1; positive = record { lt = tt }; starts = pos 0 ∷ []; slopes = pos 0 ∷ []; long = refl }

-- every point is of support 1
only_place : (j c : ℕ) → 1 ≤ c → c ≤ length (nth_support level_path.supports j) → j ≡ 0
only_place zero c p q = refl
only_place (suc j) c p q = absurd (omega (arith, p, q))

one_support : (cell : Cell) (x : Spot) → IsFurtherSpot level_path cell x → x.0 ≡ 1
one_support cell x f = let e = only_place (x.0 - 1) x.1 f.1.0 f.1.1 in let a = f.0 in omega (arith, e, a)

further_one : (cell : Cell) (x : Spot) → IsFurtherSpot level_path cell x → IsFurther (nth_support level_path.supports 0) (pair_at cell 0).0 (pair_at cell 0).1 x.1
further_one cell x f = subst (λ k. IsFurtherAt level_path cell k x.1) (only_place (x.0 - 1) x.1 f.1.0 f.1.1) f.1

level_one : (cell : Cell) (t : Time) (v : Normal) (x : Spot) → IsFurtherSpot level_path cell x → IsLevel t v (nth_support level_path.supports (x.0 - 1)) (pair_at cell (x.0 - 1)).0 x.1
    → IsLevel t v (nth_support level_path.supports 0) (pair_at cell 0).0 x.1
level_one cell t v x f z = subst (λ k. IsLevel t v (nth_support level_path.supports k) (pair_at cell k).0 x.1) (only_place (x.0 - 1) x.1 f.1.0 f.1.1) z

-- ---- the start cell 3 4
abbrev pub start : Cell
start = (3, 4) ∷ []

start_frame : IsFrame level_path start at_rest
start_frame = (refl, (((refl, tt), refl), tt))

start_level : (c : ℕ) (t : Time) (v : Normal) → IsNormal level_path start t v → IsZero (line_at (wall at_rest (at_position 3) (at_position c)) t) → IsLevel t v (nth_support level_path.supports 0) 3 c
start_level c t v n z = (wall_level level_path start level_well start_tie.0 start_tie.1 at_rest start_frame (at_position 3) (at_position c) t v n).0 z

start_further : (c : ℕ) → IsFurther (nth_support level_path.supports 0) 3 4 c → (c ≡ 1) ⊎ (c ≡ 2)
start_further zero f = absurd (let a = f.0 in omega (arith, a))
start_further (suc zero) f = inl refl
start_further (suc (suc zero)) f = inr refl
start_further (suc (suc (suc zero))) f = absurd (f.2 refl)
start_further (suc (suc (suc (suc zero)))) f = absurd (f.3 refl)
start_further (suc (suc (suc (suc (suc c))))) f = absurd (let a = f.1 in omega (arith, a))

start_first : IsFurther (nth_support level_path.supports 0) 3 4 1
start_first = (omega arith, omega arith, (λ e. omega (arith, e)), (λ e. omega (arith, e)))

start_second : IsFurther (nth_support level_path.supports 0) 3 4 2
start_second = (omega arith, omega arith, (λ e. omega (arith, e)), (λ e. omega (arith, e)))

-- at time 0 both are above
start_span_zero : InSpan level_path start time_zero
start_span_zero = (
  flat,
  (refl, ((refl, tt), tt)),
  (
    (λ c f. elim (start_further c f) [
      | inl e ↦ inl (subst (λ k. IsAbove time_zero flat (nth_support level_path.supports 0) 3 k) (sym e) (inl (omega (arith, ints))))
      | inr e ↦ inl (subst (λ k. IsAbove time_zero flat (nth_support level_path.supports 0) 3 k) (sym e) (inl (omega (arith, ints))))
    ]),
    tt,
  ),
)

start_moves : (z : Spot) → ¬ (IsAlwaysLevel level_path start z)
start_moves z h =
    let l = level_one start time_zero flat z h.0 (h.1 time_zero flat (refl, ((refl, tt), tt))) in
    elim (start_further z.1 (further_one start z h.0)) [
      | inl e ↦ let k = (subst (λ k. IsLevel time_zero flat (nth_support level_path.supports 0) 3 k) e l).0 in absurd (omega (arith, ints, k))
      | inr e ↦ let k = (subst (λ k. IsLevel time_zero flat (nth_support level_path.supports 0) 3 k) e l).0 in absurd (omega (arith, ints, k))
    ]

abbrev start_line : Line
start_line = wall at_rest (at_position 3) (at_position 1)

start_tells : (x : Time) → InSpan level_path start x → NotNegative (line_at start_line x)
start_tells x s = elim (s.2.0 1 start_first) [
  | inl a ↦ inl ((wall_above level_path start level_well start_tie.0 start_tie.1 at_rest start_frame (at_position 3) (at_position 1) x s.0 s.1).1 a)
  | inr z ↦ inr ((wall_level level_path start level_well start_tie.0 start_tie.1 at_rest start_frame (at_position 3) (at_position 1) x s.0 s.1).1 z)
]

start_span : InSpan level_path start seven
start_span = (flat, start_tie.2, start_tie.3)

start_upper : IsUpperEnd level_path start seven
start_upper = falling_upper (InSpan level_path start) start_line start_tells seven start_span (refl, tt) (omega (arith, ints))

-- the span has no lower end at 7: time 0 is in it
level_at_seven : (l : Line) (u : Time) → IsZero (line_at l seven) → IsZero (line_at l u) → ¬ (l.slope ≡ pos 0) → Same u seven
level_at_seven l u z w falls = time_cases u seven (λ b. absurd (falls (two_zeros l u seven b w z))) (λ s. s) (λ b. absurd (falls (two_zeros l seven u b z w)))

start_only_upper : (u : Time) (z w : Spot) → ¬ (IsLowerTie level_path start u z w)
start_only_upper u z w h =
    let s = h.0.0 in
    let k = h.1.0.0 in
    let there = λ (c : ℕ) (m : IsLevel u s.0 (nth_support level_path.supports 0) 3 c). (wall_level level_path start level_well start_tie.0 start_tie.1 at_rest start_frame (at_position 3) (at_position c) u s.0 s.1).1 m in
    let l = level_one start u s.0 z k.0 (k.1 s.0 s.1) in
    let same : Same u seven = elim (start_further z.1 (further_one start z k.0)) [
      | inl e ↦ level_at_seven start_line u (refl, tt) (there 1 (subst (λ c. IsLevel u s.0 (nth_support level_path.supports 0) 3 c) e l)) (λ q. omega (arith, ints, q))
      | inr e ↦ level_at_seven (wall at_rest (at_position 3) (at_position 2)) u (refl, tt) (there 2 (subst (λ c. IsLevel u s.0 (nth_support level_path.supports 0) 3 c) e l)) (λ q. omega (arith, ints, q))
    ] in
    h.0.1 time_zero (before_same time_zero seven u (same_sym u seven same) (inl (omega (arith, ints)))) start_span_zero

start_two : AreFirstTwo (IsLevelThen level_path start seven) (1, 1) (1, 2)
start_two = (
  (((omega arith, start_first), (λ v n. start_level 1 seven v n (refl, tt))), (λ y k l. before_first y k.0 l)),
  ((((omega arith, start_second), (λ v n. start_level 2 seven v n (refl, tt))), inr (refl, omega arith)), (λ y k l. before_second y k.0.0 k.1 l)),
)
  where
    before_first : (y : Spot) → IsFurtherSpot level_path start y → ¬ (IsEarlier y (1, 1))
    before_first y f (inl l) = let a = f.0 in omega (arith, l, a)
    before_first y f (inr l) = let a = f.1.0 in let b = l.1 in omega (arith, a, b)

    before_second : (y : Spot) → IsFurtherSpot level_path start y → IsEarlier (1, 1) y → ¬ (IsEarlier y (1, 2))
    before_second y f h (inl l) = let a = f.0 in omega (arith, l, a)
    before_second y f (inl k) (inr l) = let a = l.0 in omega (arith, k, a)
    before_second y f (inr k) (inr l) = let a = k.1 in let b = l.1 in omega (arith, a, b)

-- at 7, points 1 and 2
pub start_named : IsNamedTie level_path start seven (1, 1) (Some (1, 2))
start_named = (start_tie.0, start_tie.1, (start_moves, inr (start_only_upper, (start_upper, start_two))))

-- ---- the cell 1 2
abbrev pub least : Cell
least = (1, 2) ∷ []

least_frame : IsFrame level_path least at_rest
least_frame = (refl, (((refl, tt), refl), tt))

least_level : (c : ℕ) (t : Time) (v : Normal) → IsNormal level_path least t v → IsZero (line_at (wall at_rest (at_position 1) (at_position c)) t) → IsLevel t v (nth_support level_path.supports 0) 1 c
least_level c t v n z = (wall_level level_path least level_well least_tie.0 least_tie.1 at_rest least_frame (at_position 1) (at_position c) t v n).0 z

least_further : (c : ℕ) → IsFurther (nth_support level_path.supports 0) 1 2 c → (c ≡ 3) ⊎ (c ≡ 4)
least_further zero f = absurd (let a = f.0 in omega (arith, a))
least_further (suc zero) f = absurd (f.2 refl)
least_further (suc (suc zero)) f = absurd (f.3 refl)
least_further (suc (suc (suc zero))) f = inl refl
least_further (suc (suc (suc (suc zero)))) f = inr refl
least_further (suc (suc (suc (suc (suc c))))) f = absurd (let a = f.1 in omega (arith, a))

least_first : IsFurther (nth_support level_path.supports 0) 1 2 3
least_first = (omega arith, omega arith, (λ e. omega (arith, e)), (λ e. omega (arith, e)))

least_second : IsFurther (nth_support level_path.supports 0) 1 2 4
least_second = (omega arith, omega arith, (λ e. omega (arith, e)), (λ e. omega (arith, e)))

least_moves : (z : Spot) → ¬ (IsAlwaysLevel level_path least z)
least_moves z h =
    let l = level_one least time_zero flat z h.0 (h.1 time_zero flat (refl, ((refl, tt), tt))) in
    elim (least_further z.1 (further_one least z h.0)) [
      | inl e ↦ let k = (subst (λ k. IsLevel time_zero flat (nth_support level_path.supports 0) 1 k) e l).0 in absurd (omega (arith, ints, k))
      | inr e ↦ let k = (subst (λ k. IsLevel time_zero flat (nth_support level_path.supports 0) 1 k) e l).0 in absurd (omega (arith, ints, k))
    ]

abbrev least_line : Line
least_line = wall at_rest (at_position 1) (at_position 3)

least_tells : (x : Time) → InSpan level_path least x → NotNegative (line_at least_line x)
least_tells x s = elim (s.2.0 3 least_first) [
  | inl a ↦ inl ((wall_above level_path least level_well least_tie.0 least_tie.1 at_rest least_frame (at_position 1) (at_position 3) x s.0 s.1).1 a)
  | inr z ↦ inr ((wall_level level_path least level_well least_tie.0 least_tie.1 at_rest least_frame (at_position 1) (at_position 3) x s.0 s.1).1 z)
]

least_span : InSpan level_path least seven
least_span = (flat, least_tie.2, least_tie.3)

least_lower : IsLowerEnd level_path least seven
least_lower = rising_lower (InSpan level_path least) least_line least_tells seven least_span (refl, tt) (omega (arith, ints))

least_two : AreFirstTwo (IsLevelThen level_path least seven) (1, 3) (1, 4)
least_two = (
  (((omega arith, least_first), (λ v n. least_level 3 seven v n (refl, tt))), (λ y k l. before_first y k.0 l)),
  ((((omega arith, least_second), (λ v n. least_level 4 seven v n (refl, tt))), inr (refl, omega arith)), (λ y k l. before_second y k.0.0 k.1 l)),
)
  where
    before_first : (y : Spot) → IsFurtherSpot level_path least y → ¬ (IsEarlier y (1, 3))
    before_first y f (inl l) = let a = f.0 in omega (arith, l, a)
    before_first y f (inr l) = let b = l.1 in elim (least_further y.1 (further_one least y f)) [ inl e ↦ omega (arith, e, b) | inr e ↦ omega (arith, e, b) ]

    before_second : (y : Spot) → IsFurtherSpot level_path least y → IsEarlier (1, 3) y → ¬ (IsEarlier y (1, 4))
    before_second y f h (inl l) = let a = f.0 in omega (arith, l, a)
    before_second y f (inl k) (inr l) = let a = l.0 in omega (arith, k, a)
    before_second y f (inr k) (inr l) = let a = k.1 in let b = l.1 in omega (arith, a, b)

-- at 7, points 3 and 4
pub least_named : IsNamedTie level_path least seven (1, 3) (Some (1, 4))
least_named = (least_tie.0, least_tie.1, (least_moves, inl (least_lower, least_two)))

pub least_shown : ShowsTie level_path least seven (1, 3) (Some (1, 4))
least_shown = named_is_shown_law level_path least seven (1, 3) (Some (1, 4)) least_named
