-- The path of two squares and its start cell meet the premises of the laws of one cell, of flips, lives, parents and shares.
use Rattle.std.proofs.Common.{◌≡◌, ◌<ℤ◌, ◌∙◌, sym, ℕ, zero, suc, List, [], ◌∷◌, arith, refl, inl, inr, subst, Some}
use Rattle.std.proofs.lemmas.Int.{ints}
use Rattle.std.proofs.Math.IntN.{ℤ, pos, negsuc, ◌+ℤ◌, ◌*ℤ◌}
use Rattle.int_vectors.specs.Vectors.{at}
use Rattle.cayley.specs.Times.{Time, time_zero, IsSameTime}
use Rattle.cayley.specs.Problems.{Point, Problem, IsProblem, point_at, file_points}
use Rattle.cayley.specs.Problems.Version.{version1}
use Rattle.cayley.specs.Files.{FilePoint, File}
use Rattle.cayley.specs.Paths.{path, start_cell}
use Rattle.cayley.specs.Cells.{Cell, IsOf, IsIndependent, IsLess}
use Rattle.cayley.specs.Normals.{Normal, IsNormal}
use Rattle.cayley.specs.Mixed.{IsAlive, IsMixedCell}
use Rattle.cayley.specs.Lives.{AliveJustBefore, AliveEarly, AliveLate, BeginsAt, EndsAt}
use Rattle.cayley.specs.Lives.Begin.{at_start, at_time}
use Rattle.cayley.specs.Parents.{IsParent}
use Rattle.cayley.specs.Shares.{Branch, IsTrueBranch, IsChildren}
use Rattle.cayley.specs.Dependencies.{pair_at, Numbers, total, IsFurtherAt, IsPositiveDependency, nth_support}
use Rattle.cayley.specs.Ties.{IsLevelAt, IsUntied}
use Rattle.cayley.specs.Flips.{IsOnlyLevel, IsSuccessorAt, IsLeastPredecessor, OneLevel, Flips}
use Rattle.cayley.specs.declared.found.Sign.TheVariants.{Minus}
use Rattle.cayley.proofs.Order.Lined.{Lined, early_from}
use Rattle.cayley.proofs.OneCell.MovingNormals.{Moving, moving, IsFrame, lined_frame, moving_normal, ahead_signs, late_signs}
use Rattle.cayley.proofs.Searching.Parents.{less_irrefl}
use Rattle.cayley.proofs.Searching.FilePoints.{file_points_well}
use Rattle.cayley.proofs.Flipping.FlipPlaces.{flip_law}
use Rattle.cayley.proofs.Flipping.FlipChildren.{children_law}
use Rattle.cayley.proofs.Flipping.FlipSigns.{flip_rule}
use Rattle.cayley.proofs.Life.LifeLaws.{parent_law, tie_free_law}
use Rattle.cayley.proofs.OneCell.MovingWalls.{wall_level}
use Rattle.cayley.proofs.OneCell.MovingNormals.{wall}
use Rattle.cayley.proofs.Order.Lines.{Line, zero_of}
use Rattle.cayley.proofs.Order.Times.{same_before, before_same, never_before}
use Rattle.cayley.proofs.Order.Zeros.{only_zero}

-- ---- the file and its path
abbrev file_point : ℤ → ℤ → ℤ → FilePoint
file_point x y height = record { coordinates = x ∷ y ∷ []; height = height }

abbrev pub two_squares : File
two_squares = record {
  version = version1;
  dimension = 2;
  supports = (file_point (pos 0) (pos 0) (pos 3) ∷ file_point (pos 1) (pos 0) (pos 10) ∷ file_point (pos 0) (pos 1) (pos 20) ∷ file_point (pos 1) (pos 1) (pos 90) ∷ [])
      ∷ (file_point (pos 0) (pos 0) (pos 5) ∷ file_point (pos 1) (pos 0) (pos 40) ∷ file_point (pos 0) (pos 1) (pos 9) ∷ file_point (pos 1) (pos 1) (pos 1) ∷ []) ∷ [];
  starts = Some ((pos 100 ∷ []) ∷ (pos 100 ∷ []) ∷ []);
}

abbrev point : ℤ → ℤ → ℤ → ℤ → Point
point x y base speed = record { coordinates = x ∷ y ∷ []; base = base; speed = speed; rank = 0 }

abbrev pub squares : Problem
squares = record {
  version = version1;
  dimension = 2;
  files = 4 ∷ 4 ∷ [];
  supports = (point (pos 0) (pos 0) (pos 3) (pos 0) ∷ point (pos 1) (pos 0) (pos 10) (pos 0) ∷ point (pos 0) (pos 1) (pos 20) (pos 0) ∷ point (pos 1) (pos 1) (pos 90) (pos 0)
      ∷ point (pos 0) (pos 0) (pos 0) (pos 1) ∷ point (pos 2) (pos 0) (pos 0) (pos 1) ∷ point (pos 0) (pos 2) (pos 100) (pos 1) ∷ [])
      ∷ (point (pos 0) (pos 0) (pos 5) (pos 0) ∷ point (pos 1) (pos 0) (pos 40) (pos 0) ∷ point (pos 0) (pos 1) (pos 9) (pos 0) ∷ point (pos 1) (pos 1) (pos 1) (pos 0)
      ∷ point (pos 0) (pos 0) (pos 0) (pos 1) ∷ point (pos 2) (pos 0) (pos 100) (pos 1) ∷ point (pos 0) (pos 2) (pos 0) (pos 1) ∷ []) ∷ [];
}

pub squares_path : path two_squares ≡ squares
squares_path = refl

abbrev pub start : Cell
start = (5, 6) ∷ (5, 7) ∷ []

pub start_is : start_cell squares ≡ start
start_is = refl

-- each of the coordinates is two
pub squares_well : IsProblem squares
squares_well = record { supports = refl; points = ((refl, (refl, (refl, (refl, (refl, (refl, (refl, tt))))))), ((refl, (refl, (refl, (refl, (refl, (refl, (refl, tt))))))), tt)) }

pub start_of : IsOf squares start
start_of = ((omega arith, omega arith, omega arith), ((omega arith, omega arith, omega arith), tt))

pub start_independent : IsIndependent squares start
start_independent [] l e = absurd (omega (arith, l))
start_independent (x ∷ []) l e = absurd (omega (arith, l))
start_independent (x ∷ y ∷ []) l e = let a = e.0 in let b = e.1.0 in (omega (arith, ints, a), (omega (arith, ints, b), tt))
start_independent (x ∷ y ∷ z ∷ v) l e = absurd (omega (arith, l))

-- ---- the life of the start cell, by its normal 0
abbrev pub at_rest : Moving
at_rest = record { den = pos 1; positive = record { lt = tt }; starts = pos 0 ∷ pos 0 ∷ []; slopes = pos 0 ∷ pos 0 ∷ []; long = refl }

pub start_frame : IsFrame squares start at_rest
start_frame = (refl, (((refl, tt), refl), (((refl, tt), refl), tt)))

unfoldable pub start_lined : Lined (IsAlive squares start)
start_lined = lined_frame squares start squares_well start_of start_independent at_rest start_frame

abbrev pub one : Time
one = record { entries = pos 1 ∷ []; over = pos 1; positive = record { lt = tt } }

-- file points fall, the two other corners stay
pub start_early : AliveEarly squares start
unfolding start_lined lined_frame
start_early = early_from (IsAlive squares start) start_lined
    (inl (omega (arith, ints)), (inl (omega (arith, ints)), (inl (omega (arith, ints)), (inl (omega (arith, ints)), (inr (refl, inl (omega (arith, ints))), (inl (omega (arith, ints)), (inl (omega (arith, ints)), (inl (omega (arith, ints)), (inl (omega (arith, ints)), (inr (refl, inl (omega (arith, ints))), tt))))))))))

pub start_alive : IsAlive squares start time_zero
unfolding start_lined lined_frame
start_alive = start_lined.from time_zero
    (inl (omega (arith, ints)), (inl (omega (arith, ints)), (inl (omega (arith, ints)), (inl (omega (arith, ints)), (inl (omega (arith, ints)), (inl (omega (arith, ints)), (inl (omega (arith, ints)), (inl (omega (arith, ints)), (inl (omega (arith, ints)), (inl (omega (arith, ints)), tt))))))))))

-- at time 1 the point 4 of the second support comes level
pub start_before : AliveJustBefore squares start one
unfolding start_lined lined_frame
start_before = ahead_signs (IsAlive squares start) start_lined one
    (inl (inl (omega (arith, ints))), (inl (inl (omega (arith, ints))), (inl (inl (omega (arith, ints))), (inl (inl (omega (arith, ints))), (inl (inl (omega (arith, ints))), (inl (inl (omega (arith, ints))), (inl (inl (omega (arith, ints))), (inl (inl (omega (arith, ints))), (inr ((refl, tt), omega (arith, ints)), (inl (inl (omega (arith, ints))), tt))))))))))

unfoldable pub normal_at_one : Normal
normal_at_one = moving at_rest one

pub start_normal : IsNormal squares start one normal_at_one
unfolding normal_at_one
start_normal = moving_normal squares start squares_well start_of start_independent at_rest start_frame one

level_in_first : (d : ℕ) → ¬ (IsLevelAt squares start one normal_at_one 0 d)
unfolding normal_at_one moving
level_in_first zero h = omega (arith, h.0.0)
level_in_first (suc zero) h = let e = h.1.0 in omega (arith, ints, e)
level_in_first (suc (suc zero)) h = let e = h.1.0 in omega (arith, ints, e)
level_in_first (suc (suc (suc zero))) h = let e = h.1.0 in omega (arith, ints, e)
level_in_first (suc (suc (suc (suc zero)))) h = let e = h.1.0 in omega (arith, ints, e)
level_in_first (suc (suc (suc (suc (suc zero))))) h = h.0.2 refl
level_in_first (suc (suc (suc (suc (suc (suc zero)))))) h = h.0.3 refl
level_in_first (suc (suc (suc (suc (suc (suc (suc zero))))))) h = let e = h.1.0 in omega (arith, ints, e)
level_in_first (suc (suc (suc (suc (suc (suc (suc (suc d)))))))) h = omega (arith, h.0.1)

level_in_second : (d : ℕ) → IsLevelAt squares start one normal_at_one 1 d → d ≡ 4
unfolding normal_at_one moving
level_in_second zero h = absurd (omega (arith, h.0.0))
level_in_second (suc zero) h = absurd (let e = h.1.0 in omega (arith, ints, e))
level_in_second (suc (suc zero)) h = absurd (let e = h.1.0 in omega (arith, ints, e))
level_in_second (suc (suc (suc zero))) h = absurd (let e = h.1.0 in omega (arith, ints, e))
level_in_second (suc (suc (suc (suc zero)))) h = refl
level_in_second (suc (suc (suc (suc (suc zero))))) h = absurd (h.0.2 refl)
level_in_second (suc (suc (suc (suc (suc (suc zero)))))) h = absurd (let e = h.1.0 in omega (arith, ints, e))
level_in_second (suc (suc (suc (suc (suc (suc (suc zero))))))) h = absurd (h.0.3 refl)
level_in_second (suc (suc (suc (suc (suc (suc (suc (suc d)))))))) h = absurd (omega (arith, h.0.1))

level_where : (i d : ℕ) → IsLevelAt squares start one normal_at_one i d → (i ≡ 1) × (d ≡ 4)
level_where zero d h = absurd (level_in_first d h)
level_where (suc zero) d h = (refl, level_in_second d h)
level_where (suc (suc i)) d h = absurd (let a = h.0.0 in let b = h.0.1 in omega (arith, a, b))

pub start_further : IsFurtherAt squares start 1 4
start_further = (omega arith, omega arith, (λ e. omega (arith, e)), (λ e. omega (arith, e)))

pub start_only : IsOnlyLevel squares start one normal_at_one 1 4
unfolding normal_at_one moving
start_only = ((start_further, (refl, tt)), level_where)

-- ---- the dependency of the start cell and that point
abbrev pub numbers : Numbers
numbers = record { pairs = (pos 1, negsuc 0) ∷ (negsuc 0, negsuc 0) ∷ []; last = pos 2 }

pub start_dependency : IsPositiveDependency squares start 1 4 numbers
start_dependency = (omega (arith, ints), (refl, ((λ n. let e = n.1 in omega (arith, ints, e)), (refl, (refl, tt)), killed)))
  where
    killed : (k : ℕ) → total numbers.pairs squares.supports start (λ x. at x.coordinates k) +ℤ pos 2 *ℤ at (pos 1 ∷ pos 1 ∷ []) k ≡ pos 0
    killed zero = refl
    killed (suc zero) = refl
    killed (suc (suc k)) = refl

-- ---- so it splits in two at time 1
pub start_flips : Flips squares start 1 4 (negsuc 0, negsuc 0) one
start_flips = flip_law squares start 1 4 numbers one normal_at_one squares_well start_before start_normal start_only start_dependency

abbrev pub first_child : Cell
first_child = (5, 6) ∷ (4, 5) ∷ []

abbrev pub second_child : Cell
second_child = (5, 6) ∷ (4, 7) ∷ []

pub first_follows : IsSuccessorAt start 1 4 (negsuc 0, negsuc 0) first_child
first_follows = inl (refl, omega (arith, ints))

pub second_follows : IsSuccessorAt start 1 4 (negsuc 0, negsuc 0) second_child
second_follows = inr (refl, omega (arith, ints))

pub start_least : IsLeastPredecessor start 1 4 (negsuc 0, negsuc 0)
start_least rho (inl e) l = less_irrefl start (subst (λ z. IsLess z start) e l)
start_least rho (inr (inl h)) l = let p = h.1 in absurd (omega (arith, ints, p))
start_least rho (inr (inr h)) l = let p = h.1 in absurd (omega (arith, ints, p))

pub first_begins : BeginsAt squares first_child one
first_begins = start_flips.begins first_child first_follows

pub second_begins : BeginsAt squares second_child one
second_begins = start_flips.begins second_child second_follows

pub first_parent : IsParent squares start first_child
first_parent = (start_flips.keeps first_child first_follows).0 start_least

pub start_ends : EndsAt squares start one
start_ends = (parent_law squares start first_child one squares_well first_begins first_parent).0

abbrev pub start_branch : Branch
start_branch = record { cell = start; begin = at_start }

abbrev pub kids : List Branch
kids = record { cell = first_child; begin = at_time (pos 1 ∷ []) (pos 1) } ∷ record { cell = second_child; begin = at_time (pos 1 ∷ []) (pos 1) } ∷ []

pub start_true : IsTrueBranch squares start_branch
start_true = start_early

pub start_children : IsChildren squares start kids
start_children =
    let l = (flip_rule squares start 1 4 (negsuc 0, negsuc 0) Minus Minus start_of start_further (omega (arith, ints)) (omega (arith, ints))).0 in
    let c = λ (tau : Cell). children_law squares start 1 4 numbers one normal_at_one squares_well start_before start_normal start_only start_dependency tau in (
      ((one, refl, refl, first_begins), ((one, refl, refl, second_begins), tt)),
      (l.0, λ tau. ((λ h. (c tau).1 ((l.1 tau).0 h, start_least)), (λ h. (l.1 tau).1 ((c tau).0 h).0))),
    )

-- ---- a mixed cell of the target, which is alive at all late times
abbrev pub target : Cell
target = (1, 2) ∷ (1, 4) ∷ []

abbrev pub target_moving : Moving
target_moving = record { den = pos 1; positive = record { lt = tt }; starts = negsuc 6 ∷ pos 11 ∷ []; slopes = pos 0 ∷ pos 0 ∷ []; long = refl }

pub files_well : IsProblem (file_points squares)
files_well = file_points_well squares squares_well refl

target_of : IsOf squares target
target_of = ((omega arith, omega arith, omega arith), ((omega arith, omega arith, omega arith), tt))

target_of_files : IsOf (file_points squares) target
target_of_files = ((omega arith, omega arith, omega arith), ((omega arith, omega arith, omega arith), tt))

target_independent : IsIndependent squares target
target_independent [] l e = absurd (omega (arith, l))
target_independent (x ∷ []) l e = absurd (omega (arith, l))
target_independent (x ∷ y ∷ []) l e = let a = e.0 in let b = e.1.0 in (omega (arith, ints, a), (omega (arith, ints, a, b), tt))
target_independent (x ∷ y ∷ z ∷ v) l e = absurd (omega (arith, l))

pub target_mixed : IsMixedCell squares target
unfolding lined_frame
target_mixed =
    (lined_frame (file_points squares) target files_well target_of_files target_independent target_moving (refl, (((refl, tt), refl), (((refl, tt), refl), tt)))).from time_zero
    (inl (omega (arith, ints)), (inl (omega (arith, ints)), (inl (omega (arith, ints)), (inl (omega (arith, ints)), tt))))

pub target_late : AliveLate squares target
unfolding lined_frame
target_late =
    late_signs (IsAlive squares target) (lined_frame squares target squares_well target_of target_independent target_moving (refl, (((refl, tt), refl), (((refl, tt), refl), tt))))
    (inr (refl, inl (omega (arith, ints))), (inr (refl, inl (omega (arith, ints))), (inl (omega (arith, ints)), (inl (omega (arith, ints)), (inl (omega (arith, ints)), (inr (refl, inl (omega (arith, ints))), (inr (refl, inl (omega (arith, ints))), (inl (omega (arith, ints)), (inl (omega (arith, ints)), (inl (omega (arith, ints)), tt))))))))))

-- ---- the start cell has no tie at its end
level_one : (v : Normal) → IsNormal squares start one v → (i c : ℕ) → IsLevelAt squares start one v i c → (i ≡ 1) × (c ≡ 4)
level_one v n i c l =
    let a = point_at (nth_support squares.supports i) (pair_at start i).0 in
    let x = point_at (nth_support squares.supports i) c in
    let by = λ (w : Normal) (k : IsNormal squares start one w). wall_level squares start squares_well start_of start_independent at_rest start_frame a x one w k in
    level_where i c (l.0, (by normal_at_one start_normal).0 ((by v n).1 l.1))

abbrev falling_line : Line
falling_line = wall at_rest (point (pos 0) (pos 0) (pos 0) (pos 1)) (point (pos 1) (pos 1) (pos 1) (pos 0))

falls : falling_line.slope <ℤ pos 0
falls = omega (arith, ints)

-- the point 4 of the second support is level at time 1 only
level_once : (u : Time) (w : Normal) → IsNormal squares start u w → IsLevelAt squares start u w 1 4 → IsSameTime u (zero_of falling_line falls)
level_once u w n l =
    only_zero falling_line falls u
    ((wall_level squares start squares_well start_of start_independent at_rest start_frame (point (pos 0) (pos 0) (pos 0) (pos 1)) (point (pos 1) (pos 1) (pos 1) (pos 0)) u w n).1 l.1)

pub start_untied : IsUntied squares start one
start_untied v h = elim h.4 [
  | inl two ↦
      let a = level_one v h.2 two.0 two.1 two.5 in
      let b = level_one v h.2 two.2 two.3 two.6 in
      two.4 (a.0 ∙ sym b.0, a.1 ∙ sym b.1)
  | inr twice ↦
      let u = twice.2 in
      let w = twice.3 in
      let e = level_one v h.2 twice.0 twice.1 twice.6 in
      let at_four = λ (x : Time) (k : Normal) (l : IsLevelAt squares start x k twice.0 twice.1). subst (λ c. IsLevelAt squares start x k 1 c) e.1 (subst (λ i. IsLevelAt squares start x k i twice.1) e.0 l) in
      let z = zero_of falling_line falls in
      let a = level_once one v h.2 (at_four one v twice.6) in
      let b = level_once u w twice.5 (at_four u w twice.7) in
      elim twice.4 [
        | inl early ↦ never_before z (same_before one z z a (before_same one u z b early))
        | inr late ↦ never_before z (same_before u z z b (before_same u one z a late))
      ]
]

pub start_one_level : OneLevel squares start one
start_one_level = (tie_free_law squares start one squares_well start_untied).1 start_ends
