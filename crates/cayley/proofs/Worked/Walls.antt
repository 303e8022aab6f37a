-- Two walls of the cell 1 4 where point 2 comes level, one with two successors and one with two predecessors; they meet the premises of the laws of flips.
use Rattle.std.proofs.Common.{◌≡◌, ℕ, zero, suc, [], ◌∷◌, arith, refl, inl, inr}
use Rattle.std.proofs.lemmas.Int.{ints}
use Rattle.std.proofs.Math.IntN.{ℤ, pos, negsuc, ◌+ℤ◌, ◌*ℤ◌}
use Rattle.int_vectors.specs.Vectors.{at}
use Rattle.cayley.specs.Times.{Time}
use Rattle.cayley.specs.Problems.{Point, Problem, IsProblem}
use Rattle.cayley.specs.Problems.Version.{version1}
use Rattle.cayley.specs.Cells.{Cell, IsOf, IsIndependent, IsListOf}
use Rattle.cayley.specs.Normals.{Normal, IsNormal}
use Rattle.cayley.specs.Mixed.{IsAlive}
use Rattle.cayley.specs.Lives.{AliveJustBefore}
use Rattle.cayley.specs.Parents.{Precedes, IsParent}
use Rattle.cayley.specs.Dependencies.{Numbers, total, IsFurtherAt, IsPositiveDependency}
use Rattle.cayley.specs.Ties.{IsLevelAt}
use Rattle.cayley.specs.Flips.{IsOnlyLevel, IsSuccessorAt, IsPredecessorAt, IsLeastPredecessor, Flips}
use Rattle.cayley.specs.declared.found.Sign.TheVariants.{Minus, Plus}
use Rattle.cayley.proofs.Order.Lined.{Lined}
use Rattle.cayley.proofs.OneCell.MovingNormals.{Moving, moving, IsFrame, lined_frame, moving_normal, ahead_signs}
use Rattle.cayley.proofs.Flipping.FlipPlaces.{flip_law}
use Rattle.cayley.proofs.Flipping.FlipSigns.{flip_rule, predecessor_rule}

abbrev point : ℤ → ℤ → ℤ → Point
point x base speed = record { coordinates = x ∷ []; base = base; speed = speed; rank = 0 }

-- points 1 and 4 rise together, point 2 rests at 5 and point 3 at 9; this is no path
abbrev pub walled : ℤ → ℤ → ℤ → Problem
walled a b d = record {
  version = version1;
  dimension = 1;
  files = 4 ∷ [];
  supports = (point a (pos 0) (pos 1) ∷ point b (pos 5) (pos 0) ∷ point b (pos 9) (pos 0) ∷ point d (pos 0) (pos 1) ∷ []) ∷ [];
}

abbrev pub cell : Cell
cell = (1, 4) ∷ []

abbrev pub five : Time
five = record { entries = pos 5 ∷ []; over = pos 1; positive = record { lt = tt } }

-- v = 0
abbrev at_rest : Moving
at_rest = record { den = pos 1; positive = record { lt = tt }; starts = pos 0 ∷ []; slopes = pos 0 ∷ []; long = refl }

further : (a b d : ℤ) → IsFurtherAt (walled a b d) cell 0 2
further a b d = (omega arith, omega arith, (λ e. omega (arith, e)), (λ e. omega (arith, e)))

-- ---- point 2 between: 0, 1, 2
abbrev pub between : Problem
between = walled (pos 0) (pos 1) (pos 2)

pub between_well : IsProblem between
between_well = record { supports = refl; points = ((refl, (refl, (refl, (refl, tt)))), tt) }

between_of : IsOf between cell
between_of = ((omega arith, omega arith, omega arith), tt)

between_independent : IsIndependent between cell
between_independent [] l e = absurd (omega (arith, l))
between_independent (x ∷ []) l e = let a = e.0 in (omega (arith, ints, a), tt)
between_independent (x ∷ y ∷ v) l e = absurd (omega (arith, l))

between_frame : IsFrame between cell at_rest
between_frame = (refl, (((refl, tt), refl), tt))

unfoldable between_lined : Lined (IsAlive between cell)
between_lined = lined_frame between cell between_well between_of between_independent at_rest between_frame

pub between_before : AliveJustBefore between cell five
unfolding between_lined lined_frame
between_before = ahead_signs (IsAlive between cell) between_lined five (inr ((refl, tt), omega (arith, ints)), (inl (inl (omega (arith, ints))), tt))

unfoldable pub between_normal : Normal
between_normal = moving at_rest five

pub between_is_normal : IsNormal between cell five between_normal
unfolding between_normal
between_is_normal = moving_normal between cell between_well between_of between_independent at_rest between_frame five

between_level : (i d : ℕ) → IsLevelAt between cell five between_normal i d → (i ≡ 0) × (d ≡ 2)
unfolding between_normal moving
between_level zero zero h = absurd (omega (arith, h.0.0))
between_level zero (suc zero) h = absurd (h.0.2 refl)
between_level zero (suc (suc zero)) h = (refl, refl)
between_level zero (suc (suc (suc zero))) h = absurd (let e = h.1.0 in omega (arith, ints, e))
between_level zero (suc (suc (suc (suc zero)))) h = absurd (h.0.3 refl)
between_level zero (suc (suc (suc (suc (suc d))))) h = absurd (omega (arith, h.0.1))
between_level (suc i) d h = absurd (let a = h.0.0 in let b = h.0.1 in omega (arith, a, b))

pub between_only : IsOnlyLevel between cell five between_normal 0 2
unfolding between_normal moving
between_only = ((further (pos 0) (pos 1) (pos 2), (refl, tt)), between_level)

abbrev pub between_numbers : Numbers
between_numbers = record { pairs = (negsuc 0, negsuc 0) ∷ []; last = pos 2 }

pub between_dependency : IsPositiveDependency between cell 0 2 between_numbers
between_dependency = (omega (arith, ints), (refl, ((λ n. let e = n.1 in omega (arith, ints, e)), (refl, tt), killed)))
  where
    killed : (k : ℕ) → total between_numbers.pairs between.supports cell (λ x. at x.coordinates k) +ℤ pos 2 *ℤ at (pos 1 ∷ []) k ≡ pos 0
    killed zero = refl
    killed (suc k) = refl

-- two successors, in cell order, and the cell keeps both
pub between_successors : IsListOf (IsSuccessorAt cell 0 2 (negsuc 0, negsuc 0)) (((1, 2) ∷ []) ∷ ((2, 4) ∷ []) ∷ [])
between_successors = (flip_rule between cell 0 2 (negsuc 0, negsuc 0) Minus Minus between_of (further (pos 0) (pos 1) (pos 2)) (omega (arith, ints)) (omega (arith, ints))).0

pub between_keeps : IsLeastPredecessor cell 0 2 (negsuc 0, negsuc 0)
between_keeps = (flip_rule between cell 0 2 (negsuc 0, negsuc 0) Minus Minus between_of (further (pos 0) (pos 1) (pos 2)) (omega (arith, ints)) (omega (arith, ints))).1.1 (tt, tt)

pub between_flips : Flips between cell 0 2 (negsuc 0, negsuc 0) five
between_flips = flip_law between cell 0 2 between_numbers five between_normal between_well between_before between_is_normal between_only between_dependency

pub parent_of_both : IsParent between cell ((1, 2) ∷ []) × IsParent between cell ((2, 4) ∷ [])
parent_of_both = (
  (between_flips.keeps ((1, 2) ∷ []) (inl (refl, omega (arith, ints)))).0 between_keeps,
  (between_flips.keeps ((2, 4) ∷ []) (inr (refl, omega (arith, ints)))).0 between_keeps,
)

-- ---- point 2 outside: 1, 2, 0
abbrev pub outside : Problem
outside = walled (pos 1) (pos 2) (pos 0)

pub outside_well : IsProblem outside
outside_well = record { supports = refl; points = ((refl, (refl, (refl, (refl, tt)))), tt) }

outside_of : IsOf outside cell
outside_of = ((omega arith, omega arith, omega arith), tt)

outside_independent : IsIndependent outside cell
outside_independent [] l e = absurd (omega (arith, l))
outside_independent (x ∷ []) l e = let a = e.0 in (omega (arith, ints, a), tt)
outside_independent (x ∷ y ∷ v) l e = absurd (omega (arith, l))

outside_frame : IsFrame outside cell at_rest
outside_frame = (refl, (((refl, tt), refl), tt))

unfoldable outside_lined : Lined (IsAlive outside cell)
outside_lined = lined_frame outside cell outside_well outside_of outside_independent at_rest outside_frame

pub outside_before : AliveJustBefore outside cell five
unfolding outside_lined lined_frame
outside_before = ahead_signs (IsAlive outside cell) outside_lined five (inr ((refl, tt), omega (arith, ints)), (inl (inl (omega (arith, ints))), tt))

unfoldable pub outside_normal : Normal
outside_normal = moving at_rest five

pub outside_is_normal : IsNormal outside cell five outside_normal
unfolding outside_normal
outside_is_normal = moving_normal outside cell outside_well outside_of outside_independent at_rest outside_frame five

outside_level : (i d : ℕ) → IsLevelAt outside cell five outside_normal i d → (i ≡ 0) × (d ≡ 2)
unfolding outside_normal moving
outside_level zero zero h = absurd (omega (arith, h.0.0))
outside_level zero (suc zero) h = absurd (h.0.2 refl)
outside_level zero (suc (suc zero)) h = (refl, refl)
outside_level zero (suc (suc (suc zero))) h = absurd (let e = h.1.0 in omega (arith, ints, e))
outside_level zero (suc (suc (suc (suc zero)))) h = absurd (h.0.3 refl)
outside_level zero (suc (suc (suc (suc (suc d))))) h = absurd (omega (arith, h.0.1))
outside_level (suc i) d h = absurd (let a = h.0.0 in let b = h.0.1 in omega (arith, a, b))

pub outside_only : IsOnlyLevel outside cell five outside_normal 0 2
unfolding outside_normal moving
outside_only = ((further (pos 1) (pos 2) (pos 0), (refl, tt)), outside_level)

abbrev pub outside_numbers : Numbers
outside_numbers = record { pairs = (negsuc 1, pos 1) ∷ []; last = pos 1 }

pub outside_dependency : IsPositiveDependency outside cell 0 2 outside_numbers
outside_dependency = (omega (arith, ints), (refl, ((λ n. let e = n.1 in omega (arith, ints, e)), (refl, tt), killed)))
  where
    killed : (k : ℕ) → total outside_numbers.pairs outside.supports cell (λ x. at x.coordinates k) +ℤ pos 1 *ℤ at (pos 2 ∷ []) k ≡ pos 0
    killed zero = refl
    killed (suc k) = refl

-- one successor
pub outside_successors : IsListOf (IsSuccessorAt cell 0 2 (negsuc 1, pos 1)) (((2, 4) ∷ []) ∷ [])
outside_successors = (flip_rule outside cell 0 2 (negsuc 1, pos 1) Minus Plus outside_of (further (pos 1) (pos 2) (pos 0)) (omega (arith, ints)) (omega (arith, ints))).0

-- two predecessors, of which the cell isn't the least
pub outside_predecessors : IsListOf (IsPredecessorAt cell 0 2 (negsuc 1, pos 1)) (((1, 2) ∷ []) ∷ ((1, 4) ∷ []) ∷ [])
outside_predecessors =
    predecessor_rule outside cell 0 2 (negsuc 1, pos 1) Minus Plus outside_of (further (pos 1) (pos 2) (pos 0)) (omega (arith, ints)) (omega (arith, ints)) (λ h. let a = h.0 in omega (arith, ints, a))

pub outside_gives_up : ¬ (IsLeastPredecessor cell 0 2 (negsuc 1, pos 1))
outside_gives_up h =
    let k = (flip_rule outside cell 0 2 (negsuc 1, pos 1) Minus Plus outside_of (further (pos 1) (pos 2) (pos 0)) (omega (arith, ints)) (omega (arith, ints))).1.0 h in
    let l = k.1 in omega (arith, l)

pub outside_flips : Flips outside cell 0 2 (negsuc 1, pos 1) five
outside_flips = flip_law outside cell 0 2 outside_numbers five outside_normal outside_well outside_before outside_is_normal outside_only outside_dependency

-- the cell precedes its successor, and isn't its parent
pub precedes_only : Precedes outside cell ((2, 4) ∷ []) five × ¬ (IsParent outside cell ((2, 4) ∷ []))
precedes_only = (
  (outside_flips.successors ((2, 4) ∷ [])).0 (inr (refl, omega (arith, ints))),
  (λ h. outside_gives_up ((outside_flips.keeps ((2, 4) ∷ []) (inr (refl, omega (arith, ints)))).1 h)),
)
