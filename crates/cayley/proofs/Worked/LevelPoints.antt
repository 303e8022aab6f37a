-- Two points of equal height on a line: the path has a tie where both come level at once.
use Rattle.std.proofs.Common.{◌≡◌, ◌≢◌, ℕ, zero, suc, [], ◌∷◌, arith, refl, sym, subst, ◌⊎◌, ◌≤◌, inl, inr, None}
use Rattle.std.proofs.lemmas.Int.{ints}
use Rattle.std.proofs.Math.IntN.{ℤ, pos}
use Rattle.int_vectors.specs.Vectors.{dot, sub}
use Rattle.cayley.specs.Times.{Time, time_zero}
use Rattle.cayley.specs.Problems.{Point, Problem, IsStill, point_at, file_points}
use Rattle.cayley.specs.Problems.Version.{version1}
use Rattle.cayley.specs.Files.{FilePoint, File}
use Rattle.cayley.specs.Paths.{path, start_cell}
use Rattle.cayley.specs.Cells.{IsIndependent, IsFurther}
use Rattle.cayley.specs.Normals.{Normal, IsLevel}
use Rattle.cayley.specs.Mixed.{IsAlive, IsMixedCell}
use Rattle.cayley.specs.StillLaws.{AllRest}
use Rattle.cayley.specs.Ties.{IsTie, IsTieFree}
use Rattle.cayley.specs.Dependencies.{nth_support}
use Rattle.cayley.proofs.Life.Still.{still_law, file_points_rest}

abbrev file_point : ℤ → FilePoint
file_point x = record { coordinates = x ∷ []; height = pos 7 }

abbrev pub level_points : File
level_points = record { version = version1; dimension = 1; supports = (file_point (pos 0) ∷ file_point (pos 1) ∷ []) ∷ []; starts = None }

abbrev point : ℤ → ℤ → ℤ → Point
point x base speed = record { coordinates = x ∷ []; base = base; speed = speed; rank = 0 }

abbrev pub level_path : Problem
level_path = record { version = version1; dimension = 1; files = 2 ∷ []; supports = (point (pos 0) (pos 7) (pos 0) ∷ point (pos 1) (pos 7) (pos 0) ∷ point (pos 0) (pos 0) (pos 1) ∷ point (pos 1) (pos 0) (pos 1) ∷ []) ∷ [] }

pub level_path_is : path level_points ≡ level_path
level_path_is = refl

abbrev pub seven : Time
seven = record { entries = pos 7 ∷ []; over = pos 1; positive = record { lt = tt } }

abbrev pub flat : Normal
flat = record { entries = (pos 0 ∷ []) ∷ []; over = pos 1; positive = record { lt = tt } }

independent_by : (a b : ℕ) → ((x : ℤ) → dot (sub (point_at (nth_support level_path.supports 0) b).coordinates (point_at (nth_support level_path.supports 0) a).coordinates) (x ∷ []) ≡ pos 0 → x ≡ pos 0) → IsIndependent level_path ((a, b) ∷ [])
independent_by a b f [] l e = absurd (omega (arith, l))
independent_by a b f (x ∷ []) l e = (f x e.0, tt)
independent_by a b f (x ∷ y ∷ v) l e = absurd (omega (arith, l))

-- at time 7 every point is level at the normal 0
all_level : (a c : ℕ) → 1 ≤ c → c ≤ 4 → (a ≡ 1) ⊎ (a ≡ 3) → IsLevel seven flat (nth_support level_path.supports 0) a c
all_level a zero p q e = absurd (omega (arith, p))
all_level a (suc zero) p q (inl e) = subst (λ k. IsLevel seven flat (nth_support level_path.supports 0) k 1) (sym e) (refl, tt)
all_level a (suc zero) p q (inr e) = subst (λ k. IsLevel seven flat (nth_support level_path.supports 0) k 1) (sym e) (refl, tt)
all_level a (suc (suc zero)) p q (inl e) = subst (λ k. IsLevel seven flat (nth_support level_path.supports 0) k 2) (sym e) (refl, tt)
all_level a (suc (suc zero)) p q (inr e) = subst (λ k. IsLevel seven flat (nth_support level_path.supports 0) k 2) (sym e) (refl, tt)
all_level a (suc (suc (suc zero))) p q (inl e) = subst (λ k. IsLevel seven flat (nth_support level_path.supports 0) k 3) (sym e) (refl, tt)
all_level a (suc (suc (suc zero))) p q (inr e) = subst (λ k. IsLevel seven flat (nth_support level_path.supports 0) k 3) (sym e) (refl, tt)
all_level a (suc (suc (suc (suc zero)))) p q (inl e) = subst (λ k. IsLevel seven flat (nth_support level_path.supports 0) k 4) (sym e) (refl, tt)
all_level a (suc (suc (suc (suc zero)))) p q (inr e) = subst (λ k. IsLevel seven flat (nth_support level_path.supports 0) k 4) (sym e) (refl, tt)
all_level a (suc (suc (suc (suc (suc c))))) p q e = absurd (omega (arith, q))

further : (a b c : ℕ) → 1 ≤ c → c ≤ 4 → c ≢ a → c ≢ b → IsFurther (nth_support level_path.supports 0) a b c
further a b c p q n i = (p, q, n, i)

-- the start cell with the two file points, where a walk meets it
pub start_tie : IsTie level_path (start_cell level_path) seven flat
start_tie = (
  ((omega arith, omega arith, omega arith), tt),
  independent_by 3 4 (λ x e. omega (arith, ints, e)),
  (refl, ((refl, tt), tt)),
  ((λ c f. inr (all_level 3 c f.0 f.1 (inr refl))), tt),
  inl (
    0,
    1,
    0,
    2,
    (λ e. let k = e.1 in omega (arith, k)),
    (further 3 4 1 (omega arith) (omega arith) (λ e. omega (arith, e)) (λ e. omega (arith, e)), (refl, tt)),
    (further 3 4 2 (omega arith) (omega arith) (λ e. omega (arith, e)) (λ e. omega (arith, e)), (refl, tt)),
  ),
)

-- the cell of the two file points with the two corners, the least cell that has a tie
pub least_tie : IsTie level_path ((1, 2) ∷ []) seven flat
least_tie = (
  ((omega arith, omega arith, omega arith), tt),
  independent_by 1 2 (λ x e. omega (arith, ints, e)),
  (refl, ((refl, tt), tt)),
  ((λ c f. inr (all_level 1 c f.0 f.1 (inl refl))), tt),
  inl (
    0,
    3,
    0,
    4,
    (λ e. let k = e.1 in omega (arith, k)),
    (further 1 2 3 (omega arith) (omega arith) (λ e. omega (arith, e)) (λ e. omega (arith, e)), (refl, tt)),
    (further 1 2 4 (omega arith) (omega arith) (λ e. omega (arith, e)) (λ e. omega (arith, e)), (refl, tt)),
  ),
)

pub not_tie_free : ¬ (IsTieFree level_path)
not_tie_free free = free (start_cell level_path) seven flat start_tie

-- ---- the file points alone: they rest, so what is alive at one time is alive at all
level_still : IsStill level_path
level_still = ((refl, (refl, tt)), tt)

pub file_points_are_still : AllRest (file_points level_path)
file_points_are_still = file_points_rest level_path level_still

file_cell_alive : IsAlive (file_points level_path) ((1, 2) ∷ []) seven
file_cell_alive = (
  ((omega arith, omega arith, omega arith), tt),
  independent_by 1 2 (λ x e. omega (arith, ints, e)),
  (flat, (refl, ((refl, tt), tt)), ((λ c f. let p = f.0 in let q = f.1 in let n = f.2 in let i = f.3 in absurd (omega (arith, p, q, n, i))), tt)),
)

pub file_cell_always : (t : Time) → IsAlive (file_points level_path) ((1, 2) ∷ []) t
file_cell_always t = still_law (file_points level_path) ((1, 2) ∷ []) seven t file_points_are_still file_cell_alive

pub file_cell_mixed : IsMixedCell level_path ((1, 2) ∷ [])
file_cell_mixed = file_cell_always time_zero
