-- Three points of height 0 on a line, perturbed: the start cell ends where the infinitesimal of the third point begins a new cell.
use Rattle.std.proofs.Common.{◌≡◌, ℕ, zero, suc, [], ◌∷◌, arith, refl, inl, inr, None}
use Rattle.std.proofs.lemmas.Int.{ints}
use Rattle.std.proofs.Math.IntN.{ℤ, pos, negsuc, ◌+ℤ◌, ◌*ℤ◌}
use Rattle.int_vectors.specs.Vectors.{at}
use Rattle.cayley.specs.Times.{Time}
use Rattle.cayley.specs.Problems.{Point, Problem, IsProblem, IsStill, HasRanks}
use Rattle.cayley.specs.Problems.Version.{version2}
use Rattle.cayley.specs.Files.{FilePoint, File}
use Rattle.cayley.specs.Paths.{path, start_cell}
use Rattle.cayley.specs.Valid.{IsValidProblem, AreDistinct}
use Rattle.cayley.specs.Cells.{Cell, IsOf, IsIndependent}
use Rattle.cayley.specs.Normals.{Normal, IsNormal}
use Rattle.cayley.specs.Mixed.{IsAlive}
use Rattle.cayley.specs.Lives.{AliveJustBefore, AliveEarly, BeginsAt, BeginsAs}
use Rattle.cayley.specs.Lives.Begin.{at_time}
use Rattle.cayley.specs.Dependencies.{Numbers, total, IsPositiveDependency}
use Rattle.cayley.specs.LongerTimes.{HasRanksUpTo, IsZeroPast}
use Rattle.cayley.specs.Ties.{IsLevelAt}
use Rattle.cayley.specs.Flips.{IsOnlyLevel, Flips}
use Rattle.cayley.proofs.Order.Lined.{Lined, early_from}
use Rattle.cayley.proofs.OneCell.MovingNormals.{Moving, moving, IsFrame, lined_frame, moving_normal, ahead_signs}
use Rattle.cayley.proofs.Flipping.FlipPlaces.{flip_law}
use Rattle.cayley.proofs.Life.LongerTimes.{longer_times_law}
use Rattle.cayley.proofs.Worked.ThreePoints.{independent_by}

abbrev file_point : ℤ → FilePoint
file_point x = record { coordinates = x ∷ []; height = pos 0 }

abbrev pub perturbed_points : File
perturbed_points = record { version = version2; dimension = 1; supports = (file_point (pos 0) ∷ file_point (pos 1) ∷ file_point (pos 2) ∷ []) ∷ []; starts = None }

abbrev point : ℤ → ℤ → ℕ → Point
point x speed rank = record { coordinates = x ∷ []; base = pos 0; speed = speed; rank = rank }

abbrev pub perturbed : Problem
perturbed = record {
  version = version2;
  dimension = 1;
  files = 3 ∷ [];
  supports = (point (pos 0) (pos 0) 1 ∷ point (pos 1) (pos 0) 2 ∷ point (pos 2) (pos 0) 3 ∷ point (pos 0) (pos 1) 0 ∷ point (pos 2) (pos 1) 0 ∷ []) ∷ [];
}

pub perturbed_path : path perturbed_points ≡ perturbed
perturbed_path = refl

pub perturbed_well : IsProblem perturbed
perturbed_well = record { supports = refl; points = ((refl, (refl, (refl, (refl, (refl, tt))))), tt) }

pub perturbed_ranks : HasRanks perturbed
perturbed_ranks = refl

pub perturbed_still : IsStill perturbed
perturbed_still = ((refl, (refl, (refl, tt))), tt)

pub perturbed_valid : IsValidProblem perturbed
perturbed_valid = record {
  ranks = perturbed_ranks;
  shape = record {
    dimension = (omega arith, omega arith);
    problem = perturbed_well;
    counts = ((omega arith, omega arith), tt);
    corners = inr (refl, tt);
    still = inl perturbed_still;
    moving = ((refl, (refl, tt)), tt);
  };
  limits = (
    (
      (((omega arith, tt), omega arith, omega arith), (((omega arith, tt), omega arith, omega arith), (((omega arith, tt), omega arith, omega arith), tt))),
      (((omega arith, tt), (omega (arith, ints), omega (arith, ints))), (((omega arith, tt), (omega (arith, ints), omega (arith, ints))), tt)),
    ),
    tt,
  );
  distinct = (distinct, tt);
}
  where
    distinct : AreDistinct ((pos 0 ∷ []) ∷ (pos 1 ∷ []) ∷ (pos 2 ∷ []) ∷ [])
    distinct zero zero p q e = absurd (omega (arith, p))
    distinct zero (suc zero) p q e = cc
    distinct zero (suc (suc zero)) p q e = cc
    distinct zero (suc (suc (suc l))) p q e = absurd (omega (arith, q))
    distinct (suc k) zero p q e = absurd (omega (arith, p))
    distinct (suc k) (suc zero) p q e = absurd (omega (arith, p))
    distinct (suc zero) (suc (suc zero)) p q e = cc
    distinct (suc (suc k)) (suc (suc zero)) p q e = absurd (omega (arith, p))
    distinct (suc k) (suc (suc (suc l))) p q e = absurd (omega (arith, q))

-- ---- the start cell, at v = 0
abbrev pub start : Cell
start = (4, 5) ∷ []

pub start_is : start_cell perturbed ≡ start
start_is = refl

start_of : IsOf perturbed start
start_of = ((omega arith, omega arith, omega arith), tt)

start_independent : IsIndependent perturbed start
start_independent = independent_by perturbed 4 5 refl refl (λ x e. omega (arith, ints, e))

abbrev start_moving : Moving
start_moving = record { den = pos 1; positive = record { lt = tt }; starts = pos 0 ∷ []; slopes = pos 0 ∷ []; long = refl }

start_frame : IsFrame perturbed start start_moving
start_frame = (refl, (((refl, tt), refl), tt))

unfoldable start_lined : Lined (IsAlive perturbed start)
start_lined = lined_frame perturbed start perturbed_well start_of start_independent start_moving start_frame

pub start_early : AliveEarly perturbed start
unfolding start_lined lined_frame
start_early = early_from (IsAlive perturbed start) start_lined (inl (omega (arith, ints)), (inl (omega (arith, ints)), (inl (omega (arith, ints)), tt)))

-- the time with 1 in the entry of rank 3
abbrev pub third : Time
third = record { entries = pos 0 ∷ pos 0 ∷ pos 0 ∷ pos 1 ∷ []; over = pos 1; positive = record { lt = tt } }

start_before : AliveJustBefore perturbed start third
unfolding start_lined lined_frame
start_before = ahead_signs (IsAlive perturbed start) start_lined third (
  inl (inr (refl, inl (omega (arith, ints)))),
  (
    inl (inr (refl, inr (refl, inl (omega (arith, ints))))),
    (inr ((refl, (refl, (refl, (refl, tt)))), omega (arith, ints)), tt),
  ),
)

unfoldable start_normal : Normal
start_normal = moving start_moving third

start_is_normal : IsNormal perturbed start third start_normal
unfolding start_normal
start_is_normal = moving_normal perturbed start perturbed_well start_of start_independent start_moving start_frame third

start_level : (i d : ℕ) → IsLevelAt perturbed start third start_normal i d → (i ≡ 0) × (d ≡ 3)
unfolding start_normal moving
start_level zero zero h = absurd (omega (arith, h.0.0))
start_level zero (suc zero) h = absurd (let e = h.1.1.0 in omega (arith, ints, e))
start_level zero (suc (suc zero)) h = absurd (let e = h.1.1.1.0 in omega (arith, ints, e))
start_level zero (suc (suc (suc zero))) h = (refl, refl)
start_level zero (suc (suc (suc (suc zero)))) h = absurd (h.0.2 refl)
start_level zero (suc (suc (suc (suc (suc zero))))) h = absurd (h.0.3 refl)
start_level zero (suc (suc (suc (suc (suc (suc d)))))) h = absurd (omega (arith, h.0.1))
start_level (suc i) d h = absurd (let a = h.0.0 in let b = h.0.1 in omega (arith, a, b))

start_only : IsOnlyLevel perturbed start third start_normal 0 3
unfolding start_normal moving
start_only = (((omega arith, omega arith, (λ e. omega (arith, e)), (λ e. omega (arith, e))), (refl, (refl, (refl, (refl, tt))))), start_level)

abbrev start_numbers : Numbers
start_numbers = record { pairs = (pos 0, negsuc 0) ∷ []; last = pos 1 }

start_dependency : IsPositiveDependency perturbed start 0 3 start_numbers
start_dependency = (omega (arith, ints), (refl, ((λ n. let e = n.1 in omega (arith, ints, e)), (refl, tt), killed)))
  where
    killed : (k : ℕ) → total start_numbers.pairs perturbed.supports start (λ x. at x.coordinates k) +ℤ pos 1 *ℤ at (pos 2 ∷ []) k ≡ pos 0
    killed zero = refl
    killed (suc k) = refl

start_flips : Flips perturbed start 0 3 (pos 0, negsuc 0) third
start_flips = flip_law perturbed start 0 3 start_numbers third start_normal perturbed_well start_before start_is_normal start_only start_dependency

-- ---- the cell of the third point and the first corner begins there
pub next_begins : BeginsAt perturbed ((3, 4) ∷ []) third
next_begins = start_flips.begins ((3, 4) ∷ []) (inl (refl, omega (arith, ints)))

pub begin_met : BeginsAs perturbed ((3, 4) ∷ []) (at_time (pos 0 ∷ pos 0 ∷ pos 0 ∷ pos 1 ∷ []) (pos 1))
begin_met = (third, refl, refl, next_begins)

-- ---- ranks go up to 3 and not to 2, and so do the times at which a cell begins
pub perturbed_ranks_to : HasRanksUpTo perturbed 3
perturbed_ranks_to = ((omega arith, (omega arith, (omega arith, (omega arith, (omega arith, tt))))), tt)

pub not_to_two : ¬ (HasRanksUpTo perturbed 2)
not_to_two h = let k = h.0.1.1.0 in omega (arith, k)

pub third_ends_there : IsZeroPast 3 third
third_ends_there = (longer_times_law perturbed ((3, 4) ∷ []) 3 third perturbed_well perturbed_ranks_to).begins next_begins

pub third_passes_two : ¬ (IsZeroPast 2 third)
third_passes_two h = let e = h 3 (omega arith) in omega (arith, ints, e)
