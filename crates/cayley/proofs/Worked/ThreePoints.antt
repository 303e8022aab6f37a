-- Three points on a line, the middle one lowest: the path has five cells, and two of them are the mixed cells of the target.
use Rattle.std.proofs.Common.{◌≡◌, ◌⊎◌, ◌↔◌, ℕ, zero, suc, ◌<◌, ◌≤◌, List, [], ◌∷◌, length, arith, refl, sym, subst, ◌∙◌, inl, inr, ◌<ℤ◌, Contains, None}
use Rattle.std.proofs.lemmas.Int.{ints}
use Rattle.std.proofs.Math.IntN.{ℤ, pos, negsuc, ◌+ℤ◌, ◌*ℤ◌}
use Rattle.int_vectors.specs.Vectors.{IsZero, at, dot, sub}
use Rattle.cayley.specs.Times.{Time, time_zero}
use Rattle.cayley.specs.Problems.{Point, Problem, IsProblem, point_at, file_points}
use Rattle.cayley.specs.Problems.Version.{version1}
use Rattle.cayley.specs.Files.{FilePoint, File}
use Rattle.cayley.specs.Paths.{path, start_cell}
use Rattle.cayley.specs.Valid.{IsStillProblem}
use Rattle.cayley.specs.Cells.{Cell, EachPair, IsOf, IsIndependent, IsLess, IsListOf}
use Rattle.cayley.specs.Normals.{Normal, IsNormal}
use Rattle.cayley.specs.Mixed.{IsAlive, IsMixedCell}
use Rattle.cayley.specs.Lives.{AliveJustBefore, AliveEarly, AliveLate}
use Rattle.cayley.specs.Lives.Begin.{at_start, at_time}
use Rattle.cayley.specs.Parents.{IsParent, InChain, IsInTree}
use Rattle.cayley.specs.Parents.InChain.{here, up}
use Rattle.cayley.specs.Shares.{Branch, IsTrueBranch, IsChildren, IsShare, IsSize}
use Rattle.cayley.specs.Dependencies.{Numbers, total, IsPositiveDependency, nth_support}
use Rattle.cayley.specs.Ties.{IsLevelAt}
use Rattle.cayley.specs.Flips.{IsOnlyLevel, IsLeastPredecessor, Flips}
use Rattle.cayley.proofs.Order.Lined.{Lined, early_from, early_nowhere}
use Rattle.cayley.proofs.Life.Decisions.{lined_cell}
use Rattle.cayley.proofs.OneCell.MovingNormals.{Moving, moving, IsFrame, lined_frame, moving_normal, ahead_signs, late_signs}
use Rattle.cayley.proofs.Searching.Parents.{less_irrefl}
use Rattle.cayley.proofs.Searching.Listing.{Has}
use Rattle.cayley.proofs.Searching.Members.{contains_has, has_contains}
use Rattle.cayley.proofs.Searching.FilePoints.{file_points_well}
use Rattle.cayley.proofs.OneCell.OneNormal.{all_above_any}
use Rattle.cayley.proofs.Flipping.FlipPlaces.{flip_law}
use Rattle.cayley.proofs.Flipping.FlipChildren.{children_law}
use Rattle.cayley.proofs.Life.LifeLaws.{child_law}

abbrev file_point : ℤ → ℤ → FilePoint
file_point x height = record { coordinates = x ∷ []; height = height }

abbrev pub three_points : File
three_points = record { version = version1; dimension = 1; supports = (file_point (pos 0) (pos 0) ∷ file_point (pos 1) (negsuc 1) ∷ file_point (pos 3) (pos 0) ∷ []) ∷ []; starts = None }

abbrev point : ℤ → ℤ → ℤ → Point
point x base speed = record { coordinates = x ∷ []; base = base; speed = speed; rank = 0 }

abbrev pub three : Problem
three = record {
  version = version1;
  dimension = 1;
  files = 3 ∷ [];
  supports = (point (pos 0) (pos 0) (pos 0) ∷ point (pos 1) (negsuc 1) (pos 0) ∷ point (pos 3) (pos 0) (pos 0) ∷ point (pos 0) (pos 0) (pos 1) ∷ point (pos 3) (pos 0) (pos 1) ∷ []) ∷ [];
}

pub three_path : path three_points ≡ three
three_path = refl

pub three_well : IsProblem three
three_well = record { supports = refl; points = ((refl, (refl, (refl, (refl, (refl, tt))))), tt) }

pub files_well : IsProblem (file_points three)
files_well = file_points_well three three_well refl

pub independent_by : (p : Problem) (a b : ℕ) → p.dimension ≡ 1 → length p.supports ≡ 1
    → ((x : ℤ) → dot (sub (point_at (nth_support p.supports 0) b).coordinates (point_at (nth_support p.supports 0) a).coordinates) (x ∷ []) ≡ pos 0 → x ≡ pos 0) → IsIndependent p ((a, b) ∷ [])
independent_by p a b n s f v l e = vector v (l ∙ n) (first p.supports s e)
  where
    first : (supports : List (List Point)) → length supports ≡ 1 → EachPair supports ((a, b) ∷ []) (λ s a b. dot (sub (point_at s b).coordinates (point_at s a).coordinates) v ≡ pos 0)
        → dot (sub (point_at (nth_support supports 0) b).coordinates (point_at (nth_support supports 0) a).coordinates) v ≡ pos 0
    first [] s e = absurd e
    first (s ∷ supports) k e = e.0

    vector : (v : List ℤ) → length v ≡ 1 → dot (sub (point_at (nth_support p.supports 0) b).coordinates (point_at (nth_support p.supports 0) a).coordinates) v ≡ pos 0 → IsZero v
    vector [] l e = absurd (omega (arith, l))
    vector (x ∷ []) l e = (f x e, tt)
    vector (x ∷ y ∷ v) l e = absurd (omega (arith, l))

-- ---- v = 0
abbrev pub start : Cell
start = (4, 5) ∷ []

start_of : IsOf three start
start_of = ((omega arith, omega arith, omega arith), tt)

start_independent : IsIndependent three start
start_independent = independent_by three 4 5 refl refl (λ x e. omega (arith, ints, e))

abbrev start_moving : Moving
start_moving = record { den = pos 1; positive = record { lt = tt }; starts = pos 0 ∷ []; slopes = pos 0 ∷ []; long = refl }

start_frame : IsFrame three start start_moving
start_frame = (refl, (((refl, tt), refl), tt))

unfoldable start_lined : Lined (IsAlive three start)
start_lined = lined_frame three start three_well start_of start_independent start_moving start_frame

pub start_early : AliveEarly three start
unfolding start_lined lined_frame
start_early = early_from (IsAlive three start) start_lined (inl (omega (arith, ints)), (inl (omega (arith, ints)), (inl (omega (arith, ints)), tt)))

-- ---- v = 2 + t
abbrev pub left : Cell
left = (2, 4) ∷ []

left_of : IsOf three left
left_of = ((omega arith, omega arith, omega arith), tt)

left_independent : IsIndependent three left
left_independent = independent_by three 2 4 refl refl (λ x e. omega (arith, ints, e))

abbrev left_moving : Moving
left_moving = record { den = pos 1; positive = record { lt = tt }; starts = pos 2 ∷ []; slopes = pos 1 ∷ []; long = refl }

left_frame : IsFrame three left left_moving
left_frame = (refl, (((refl, tt), refl), tt))

unfoldable left_lined : Lined (IsAlive three left)
left_lined = lined_frame three left three_well left_of left_independent left_moving left_frame

-- ---- v = -1 - t / 2
abbrev pub right : Cell
right = (2, 5) ∷ []

right_of : IsOf three right
right_of = ((omega arith, omega arith, omega arith), tt)

right_independent : IsIndependent three right
right_independent = independent_by three 2 5 refl refl (λ x e. omega (arith, ints, e))

abbrev right_moving : Moving
right_moving = record { den = pos 2; positive = record { lt = tt }; starts = negsuc 1 ∷ []; slopes = negsuc 0 ∷ []; long = refl }

right_frame : IsFrame three right right_moving
right_frame = (refl, (((refl, tt), refl), tt))

unfoldable right_lined : Lined (IsAlive three right)
right_lined = lined_frame three right three_well right_of right_independent right_moving right_frame

-- ---- v = 2
abbrev pub left_mixed : Cell
left_mixed = (1, 2) ∷ []

left_mixed_of : IsOf three left_mixed
left_mixed_of = ((omega arith, omega arith, omega arith), tt)

left_mixed_independent : IsIndependent three left_mixed
left_mixed_independent = independent_by three 1 2 refl refl (λ x e. omega (arith, ints, e))

abbrev left_mixed_moving : Moving
left_mixed_moving = record { den = pos 1; positive = record { lt = tt }; starts = pos 2 ∷ []; slopes = pos 0 ∷ []; long = refl }

left_mixed_frame : IsFrame three left_mixed left_mixed_moving
left_mixed_frame = (refl, (((refl, tt), refl), tt))

unfoldable left_mixed_lined : Lined (IsAlive three left_mixed)
left_mixed_lined = lined_frame three left_mixed three_well left_mixed_of left_mixed_independent left_mixed_moving left_mixed_frame

pub left_mixed_late : AliveLate three left_mixed
unfolding left_mixed_lined lined_frame
left_mixed_late = late_signs (IsAlive three left_mixed) left_mixed_lined (inr (refl, inl (omega (arith, ints))), (inl (omega (arith, ints)), (inl (omega (arith, ints)), tt)))

pub left_mixed_is_mixed : IsMixedCell three left_mixed
unfolding lined_frame
left_mixed_is_mixed =
    (lined_frame (file_points three) left_mixed files_well ((omega arith, omega arith, omega arith), tt) (independent_by (file_points three) 1 2 refl refl (λ x e. omega (arith, ints, e))) left_mixed_moving (refl, (((refl, tt), refl), tt))).from time_zero
    (inl (omega (arith, ints)), tt)

-- ---- v = -1
abbrev pub right_mixed : Cell
right_mixed = (2, 3) ∷ []

right_mixed_of : IsOf three right_mixed
right_mixed_of = ((omega arith, omega arith, omega arith), tt)

right_mixed_independent : IsIndependent three right_mixed
right_mixed_independent = independent_by three 2 3 refl refl (λ x e. omega (arith, ints, e))

abbrev right_mixed_moving : Moving
right_mixed_moving = record { den = pos 1; positive = record { lt = tt }; starts = negsuc 0 ∷ []; slopes = pos 0 ∷ []; long = refl }

right_mixed_frame : IsFrame three right_mixed right_mixed_moving
right_mixed_frame = (refl, (((refl, tt), refl), tt))

unfoldable right_mixed_lined : Lined (IsAlive three right_mixed)
right_mixed_lined = lined_frame three right_mixed three_well right_mixed_of right_mixed_independent right_mixed_moving right_mixed_frame

pub right_mixed_late : AliveLate three right_mixed
unfolding right_mixed_lined lined_frame
right_mixed_late = late_signs (IsAlive three right_mixed) right_mixed_lined (inr (refl, inl (omega (arith, ints))), (inl (omega (arith, ints)), (inl (omega (arith, ints)), tt)))

pub right_mixed_is_mixed : IsMixedCell three right_mixed
unfolding lined_frame
right_mixed_is_mixed =
    (lined_frame (file_points three) right_mixed files_well ((omega arith, omega arith, omega arith), tt) (independent_by (file_points three) 2 3 refl refl (λ x e. omega (arith, ints, e))) right_mixed_moving (refl, (((refl, tt), refl), tt))).from time_zero
    (inl (omega (arith, ints)), tt)

-- ---- where 4 5 ends: point 2 comes level at -2
abbrev pub start_time : Time
start_time = record { entries = negsuc 1 ∷ []; over = pos 1; positive = record { lt = tt } }

start_before : AliveJustBefore three start start_time
unfolding start_lined lined_frame
start_before = ahead_signs (IsAlive three start) start_lined start_time (inl (inl (omega (arith, ints))), (inr ((refl, tt), omega (arith, ints)), (inl (inl (omega (arith, ints))), tt)))

unfoldable start_normal : Normal
start_normal = moving start_moving start_time

start_is_normal : IsNormal three start start_time start_normal
unfolding start_normal
start_is_normal = moving_normal three start three_well start_of start_independent start_moving start_frame start_time

start_level : (i d : ℕ) → IsLevelAt three start start_time start_normal i d → (i ≡ 0) × (d ≡ 2)
unfolding start_normal moving
start_level zero zero h = absurd (omega (arith, h.0.0))
start_level zero (suc zero) h = absurd (let e = h.1.0 in omega (arith, ints, e))
start_level zero (suc (suc zero)) h = (refl, refl)
start_level zero (suc (suc (suc zero))) h = absurd (let e = h.1.0 in omega (arith, ints, e))
start_level zero (suc (suc (suc (suc zero)))) h = absurd (h.0.2 refl)
start_level zero (suc (suc (suc (suc (suc zero))))) h = absurd (h.0.3 refl)
start_level zero (suc (suc (suc (suc (suc (suc d)))))) h = absurd (omega (arith, h.0.1))
start_level (suc i) d h = absurd (let a = h.0.0 in let b = h.0.1 in omega (arith, a, b))

start_only : IsOnlyLevel three start start_time start_normal 0 2
unfolding start_normal moving
start_only = (((omega arith, omega arith, (λ e. omega (arith, e)), (λ e. omega (arith, e))), (refl, tt)), start_level)

abbrev start_numbers : Numbers
start_numbers = record { pairs = (negsuc 1, negsuc 0) ∷ []; last = pos 3 }

start_dependency : IsPositiveDependency three start 0 2 start_numbers
start_dependency = (omega (arith, ints), (refl, ((λ n. let e = n.1 in omega (arith, ints, e)), (refl, tt), killed)))
  where
    killed : (k : ℕ) → total start_numbers.pairs three.supports start (λ x. at x.coordinates k) +ℤ pos 3 *ℤ at (pos 1 ∷ []) k ≡ pos 0
    killed zero = refl
    killed (suc k) = refl

start_least : IsLeastPredecessor start 0 2 (negsuc 1, negsuc 0)
start_least rho (inl e) l = less_irrefl start (subst (λ z. IsLess z start) e l)
start_least rho (inr (inl h)) l = let p = h.1 in absurd (omega (arith, ints, p))
start_least rho (inr (inr h)) l = let p = h.1 in absurd (omega (arith, ints, p))

pub start_children : (tau : Cell) → IsParent three start tau ↔ ((tau ≡ left) ⊎ (tau ≡ right))
start_children tau =
    let k = children_law three start 0 2 start_numbers start_time start_normal three_well start_before start_is_normal start_only start_dependency tau in
    ((λ h. elim (k.0 h).0 [ inl e ↦ inl e.0 | inr e ↦ inr e.0 ]), (λ h. elim h [ inl e ↦ k.1 (inl (e, omega (arith, ints)), start_least) | inr e ↦ k.1 (inr (e, omega (arith, ints)), start_least) ]))

-- ---- where 2 4 ends: point 1 comes level at 0
abbrev pub left_time : Time
left_time = record { entries = pos 0 ∷ []; over = pos 1; positive = record { lt = tt } }

left_before : AliveJustBefore three left left_time
unfolding left_lined lined_frame
left_before = ahead_signs (IsAlive three left) left_lined left_time (inr ((refl, tt), omega (arith, ints)), (inl (inl (omega (arith, ints))), (inl (inl (omega (arith, ints))), tt)))

unfoldable left_normal : Normal
left_normal = moving left_moving left_time

left_is_normal : IsNormal three left left_time left_normal
unfolding left_normal
left_is_normal = moving_normal three left three_well left_of left_independent left_moving left_frame left_time

left_level : (i d : ℕ) → IsLevelAt three left left_time left_normal i d → (i ≡ 0) × (d ≡ 1)
unfolding left_normal moving
left_level zero zero h = absurd (omega (arith, h.0.0))
left_level zero (suc zero) h = (refl, refl)
left_level zero (suc (suc zero)) h = absurd (h.0.2 refl)
left_level zero (suc (suc (suc zero))) h = absurd (let e = h.1.0 in omega (arith, ints, e))
left_level zero (suc (suc (suc (suc zero)))) h = absurd (h.0.3 refl)
left_level zero (suc (suc (suc (suc (suc zero))))) h = absurd (let e = h.1.0 in omega (arith, ints, e))
left_level zero (suc (suc (suc (suc (suc (suc d)))))) h = absurd (omega (arith, h.0.1))
left_level (suc i) d h = absurd (let a = h.0.0 in let b = h.0.1 in omega (arith, a, b))

left_only : IsOnlyLevel three left left_time left_normal 0 1
unfolding left_normal moving
left_only = (((omega arith, omega arith, (λ e. omega (arith, e)), (λ e. omega (arith, e))), (refl, tt)), left_level)

abbrev left_numbers : Numbers
left_numbers = record { pairs = (pos 0, negsuc 0) ∷ []; last = pos 1 }

left_dependency : IsPositiveDependency three left 0 1 left_numbers
left_dependency = (omega (arith, ints), (refl, ((λ n. let e = n.1 in omega (arith, ints, e)), (refl, tt), killed)))
  where
    killed : (k : ℕ) → total left_numbers.pairs three.supports left (λ x. at x.coordinates k) +ℤ pos 1 *ℤ at (pos 0 ∷ []) k ≡ pos 0
    killed zero = refl
    killed (suc k) = refl

left_least : IsLeastPredecessor left 0 1 (pos 0, negsuc 0)
left_least rho (inl e) l = less_irrefl left (subst (λ z. IsLess z left) e l)
left_least rho (inr (inl h)) l = let p = h.1 in absurd (omega (arith, ints, p))
left_least rho (inr (inr h)) l = let p = h.1 in absurd (omega (arith, ints, p))

pub left_children : (tau : Cell) → IsParent three left tau ↔ (tau ≡ left_mixed)
left_children tau =
    let k = children_law three left 0 1 left_numbers left_time left_normal three_well left_before left_is_normal left_only left_dependency tau in
    ((λ h. elim (k.0 h).0 [ inl e ↦ e.0 | inr e ↦ absurd (let p = e.1 in omega (arith, ints, p)) ]), (λ h. k.1 (inl (h, omega (arith, ints)), left_least)))

-- ---- where 2 5 ends: point 3 comes level at 0
abbrev pub right_time : Time
right_time = record { entries = pos 0 ∷ []; over = pos 1; positive = record { lt = tt } }

right_before : AliveJustBefore three right right_time
unfolding right_lined lined_frame
right_before = ahead_signs (IsAlive three right) right_lined right_time (inl (inl (omega (arith, ints))), (inr ((refl, tt), omega (arith, ints)), (inl (inl (omega (arith, ints))), tt)))

unfoldable right_normal : Normal
right_normal = moving right_moving right_time

right_is_normal : IsNormal three right right_time right_normal
unfolding right_normal
right_is_normal = moving_normal three right three_well right_of right_independent right_moving right_frame right_time

right_level : (i d : ℕ) → IsLevelAt three right right_time right_normal i d → (i ≡ 0) × (d ≡ 3)
unfolding right_normal moving
right_level zero zero h = absurd (omega (arith, h.0.0))
right_level zero (suc zero) h = absurd (let e = h.1.0 in omega (arith, ints, e))
right_level zero (suc (suc zero)) h = absurd (h.0.2 refl)
right_level zero (suc (suc (suc zero))) h = (refl, refl)
right_level zero (suc (suc (suc (suc zero)))) h = absurd (let e = h.1.0 in omega (arith, ints, e))
right_level zero (suc (suc (suc (suc (suc zero))))) h = absurd (h.0.3 refl)
right_level zero (suc (suc (suc (suc (suc (suc d)))))) h = absurd (omega (arith, h.0.1))
right_level (suc i) d h = absurd (let a = h.0.0 in let b = h.0.1 in omega (arith, a, b))

right_only : IsOnlyLevel three right right_time right_normal 0 3
unfolding right_normal moving
right_only = (((omega arith, omega arith, (λ e. omega (arith, e)), (λ e. omega (arith, e))), (refl, tt)), right_level)

abbrev right_numbers : Numbers
right_numbers = record { pairs = (pos 0, negsuc 0) ∷ []; last = pos 1 }

right_dependency : IsPositiveDependency three right 0 3 right_numbers
right_dependency = (omega (arith, ints), (refl, ((λ n. let e = n.1 in omega (arith, ints, e)), (refl, tt), killed)))
  where
    killed : (k : ℕ) → total right_numbers.pairs three.supports right (λ x. at x.coordinates k) +ℤ pos 1 *ℤ at (pos 3 ∷ []) k ≡ pos 0
    killed zero = refl
    killed (suc k) = refl

right_least : IsLeastPredecessor right 0 3 (pos 0, negsuc 0)
right_least rho (inl e) l = less_irrefl right (subst (λ z. IsLess z right) e l)
right_least rho (inr (inl h)) l = let p = h.1 in absurd (omega (arith, ints, p))
right_least rho (inr (inr h)) l = let p = h.1 in absurd (omega (arith, ints, p))

pub right_children : (tau : Cell) → IsParent three right tau ↔ (tau ≡ right_mixed)
right_children tau =
    let k = children_law three right 0 3 right_numbers right_time right_normal three_well right_before right_is_normal right_only right_dependency tau in
    ((λ h. elim (k.0 h).0 [ inl e ↦ e.0 | inr e ↦ absurd (let p = e.1 in omega (arith, ints, p)) ]), (λ h. k.1 (inl (h, omega (arith, ints)), right_least)))

-- ---- the path tree
pub start_is : start_cell three ≡ start
start_is = refl

abbrev pub tree : List Cell
tree = left_mixed ∷ right_mixed ∷ left ∷ right ∷ start ∷ []

start_first : (rho : Cell) → ¬ (IsParent three rho start)
start_first rho h = early_nowhere (IsAlive three start) (lined_cell three start three_well) h.0 start_early h.1

chain_cells : (cell : Cell) → InChain three start cell → Has cell tree
chain_cells cell here = inr (inr (inr (inr (inl refl))))
chain_cells cell (up {rho = rho} q c) = elim (chain_cells rho c) [
  | inl e ↦ absurd ((child_law three left_mixed cell three_well).1 left_mixed_late (subst (λ x. IsParent three x cell) e q))
  | inr (inl e) ↦ absurd ((child_law three right_mixed cell three_well).1 right_mixed_late (subst (λ x. IsParent three x cell) e q))
  | inr (inr (inl e)) ↦ inl ((left_children cell).0 (subst (λ x. IsParent three x cell) e q))
  | inr (inr (inr (inl e))) ↦ inr (inl ((right_children cell).0 (subst (λ x. IsParent three x cell) e q)))
  | inr (inr (inr (inr (inl e)))) ↦ elim ((start_children cell).0 (subst (λ x. IsParent three x cell) e q)) [ inl i ↦ inr (inr (inl i)) | inr i ↦ inr (inr (inr (inl i))) ]
  | inr (inr (inr (inr (inr e)))) ↦ absurd e
]

left_chain : InChain three start left
left_chain = up ((start_children left).1 (inl refl)) here

right_chain : InChain three start right
right_chain = up ((start_children right).1 (inr refl)) here

cells_chain : (cell : Cell) → Has cell tree → InChain three start cell
cells_chain cell (inl e) = up ((left_children cell).1 e) left_chain
cells_chain cell (inr (inl e)) = up ((right_children cell).1 e) right_chain
cells_chain cell (inr (inr (inl e))) = subst (λ x. InChain three start x) (sym e) left_chain
cells_chain cell (inr (inr (inr (inl e)))) = subst (λ x. InChain three start x) (sym e) right_chain
cells_chain cell (inr (inr (inr (inr (inl e))))) = subst (λ x. InChain three start x) (sym e) here
cells_chain cell (inr (inr (inr (inr (inr e))))) = absurd e

pub three_tree : (cell : Cell) → IsInTree three start cell ↔ Contains tree cell
three_tree cell = ((λ h. has_contains tree cell (chain_cells cell h.1)), (λ h. (start_first, cells_chain cell (contains_has tree cell h))))

abbrev pub start_branch : Branch
start_branch = record { cell = start; begin = at_start }

pub three_size : IsSize three start_branch 5
three_size = (
  tree,
  (
    (inl (omega arith), (inr (refl, inl (omega arith)), (inr (refl, inl (omega arith)), (inl (omega arith), tt)))),
    λ cell. (
      (λ h. (start_early, tt, cells_chain cell (contains_has tree cell h))),
      (λ h. has_contains tree cell (chain_cells cell h.2)),
    ),
  ),
  refl,
)

-- ---- the two mixed cells
pub not_outer : ¬ (IsMixedCell three ((1, 3) ∷ []))
not_outer h =
    let v : Normal = record { entries = (pos 0 ∷ []) ∷ []; over = pos 1; positive = record { lt = tt } } in
    let a = all_above_any (file_points three) ((1, 3) ∷ []) time_zero v files_well (refl, ((refl, tt), tt)) h in
    below (a.0 2 (omega arith, omega arith, (λ e. omega (arith, e)), (λ e. omega (arith, e))))
  where
    below : ¬ ((pos 0 <ℤ negsuc 1) ⊎ ((negsuc 1 ≡ pos 0) × ⊥))
    below (inl p) = omega (arith, ints, p)
    below (inr p) = p.1

abbrev mixed : List Cell
mixed = left_mixed ∷ right_mixed ∷ []

-- pairs of three positions
mixed_pairs : (a b : ℕ) → (1 ≤ a) × (a < b) × (b ≤ 3) → IsMixedCell three ((a, b) ∷ []) → Has ((a, b) ∷ []) mixed
mixed_pairs zero b o h = absurd (omega (arith, o.0))
mixed_pairs (suc zero) zero o h = absurd (omega (arith, o.1))
mixed_pairs (suc zero) (suc zero) o h = absurd (omega (arith, o.1))
mixed_pairs (suc zero) (suc (suc zero)) o h = inl refl
mixed_pairs (suc zero) (suc (suc (suc zero))) o h = absurd (not_outer h)
mixed_pairs (suc zero) (suc (suc (suc (suc b)))) o h = absurd (omega (arith, o.2))
mixed_pairs (suc (suc zero)) zero o h = absurd (omega (arith, o.1))
mixed_pairs (suc (suc zero)) (suc zero) o h = absurd (omega (arith, o.1))
mixed_pairs (suc (suc zero)) (suc (suc zero)) o h = absurd (omega (arith, o.1))
mixed_pairs (suc (suc zero)) (suc (suc (suc zero))) o h = inr (inl refl)
mixed_pairs (suc (suc zero)) (suc (suc (suc (suc b)))) o h = absurd (omega (arith, o.2))
mixed_pairs (suc (suc (suc a))) b o h = absurd (let p = o.1 in let q = o.2 in omega (arith, p, q))

mixed_has : (cell : Cell) → IsMixedCell three cell → Has cell mixed
mixed_has [] h = absurd h.0
mixed_has (x ∷ []) h = mixed_pairs x.0 x.1 h.0.0 h
mixed_has (x ∷ y ∷ cell) h = absurd h.0.1

has_mixed : (cell : Cell) → Has cell mixed → IsMixedCell three cell
has_mixed cell (inl e) = subst (λ x. IsMixedCell three x) (sym e) left_mixed_is_mixed
has_mixed cell (inr (inl e)) = subst (λ x. IsMixedCell three x) (sym e) right_mixed_is_mixed
has_mixed cell (inr (inr e)) = absurd e

has_tree : (cell : Cell) → Has cell mixed → Has cell tree
has_tree cell (inl e) = inl e
has_tree cell (inr (inl e)) = inr (inl e)
has_tree cell (inr (inr e)) = absurd e

pub three_mixed : IsListOf (IsMixedCell three) mixed
three_mixed = ((inl (omega arith), tt), λ cell. ((λ h. has_mixed cell (contains_has mixed cell h)), (λ h. has_contains mixed cell (mixed_has cell h))))

-- the share of the start is all of them
pub three_share : IsShare three start_branch mixed
three_share = (
  (inl (omega arith), tt),
  λ cell. (
    (λ h. let k = contains_has mixed cell h in (start_early, has_mixed cell k, cells_chain cell (has_tree cell k))),
    (λ h. has_contains mixed cell (mixed_has cell h.1)),
  ),
)

-- ---- the branches of the tree: the cells begin at -2 and 0
abbrev pub left_branch : Branch
left_branch = record { cell = left; begin = at_time (negsuc 1 ∷ []) (pos 1) }

abbrev pub right_branch : Branch
right_branch = record { cell = right; begin = at_time (negsuc 1 ∷ []) (pos 1) }

abbrev pub left_mixed_branch : Branch
left_mixed_branch = record { cell = left_mixed; begin = at_time (pos 0 ∷ []) (pos 1) }

abbrev pub right_mixed_branch : Branch
right_mixed_branch = record { cell = right_mixed; begin = at_time (pos 0 ∷ []) (pos 1) }

start_flips : Flips three start 0 2 (negsuc 1, negsuc 0) start_time
start_flips = flip_law three start 0 2 start_numbers start_time start_normal three_well start_before start_is_normal start_only start_dependency

pub left_true : IsTrueBranch three left_branch
left_true = (start_time, refl, refl, start_flips.begins left (inl (refl, omega (arith, ints))))

pub right_true : IsTrueBranch three right_branch
right_true = (start_time, refl, refl, start_flips.begins right (inr (refl, omega (arith, ints))))

pub left_mixed_true : IsTrueBranch three left_mixed_branch
left_mixed_true =
    (left_time, refl, refl, (flip_law three left 0 1 left_numbers left_time left_normal three_well left_before left_is_normal left_only left_dependency).begins left_mixed (inl (refl, omega (arith, ints))))

pub right_mixed_true : IsTrueBranch three right_mixed_branch
right_mixed_true =
    (right_time, refl, refl, (flip_law three right 0 3 right_numbers right_time right_normal three_well right_before right_is_normal right_only right_dependency).begins right_mixed (inl (refl, omega (arith, ints))))

-- ---- the children of each cell
pub start_kids : IsChildren three start (left_branch ∷ right_branch ∷ [])
start_kids = ((left_true, (right_true, tt)), ((inr (refl, inl (omega arith)), tt), λ tau. ((λ h. (start_children tau).1 (one_of tau (contains_has (left ∷ right ∷ []) tau h))), (λ h. has_contains (left ∷ right ∷ []) tau (among tau ((start_children tau).0 h))))))
  where
    one_of : (tau : Cell) → Has tau (left ∷ right ∷ []) → (tau ≡ left) ⊎ (tau ≡ right)
    one_of tau (inl e) = inl e
    one_of tau (inr (inl e)) = inr e
    one_of tau (inr (inr e)) = absurd e

    among : (tau : Cell) → (tau ≡ left) ⊎ (tau ≡ right) → Has tau (left ∷ right ∷ [])
    among tau (inl e) = inl e
    among tau (inr e) = inr (inl e)

only_child : (sigma child : Cell) → ((tau : Cell) → IsParent three sigma tau ↔ (tau ≡ child)) → IsListOf (λ tau. IsParent three sigma tau) (child ∷ [])
only_child sigma child is = (tt, λ tau. ((λ h. (is tau).1 (the_one tau (contains_has (child ∷ []) tau h))), (λ h. has_contains (child ∷ []) tau (inl ((is tau).0 h)))))
  where
    the_one : (tau : Cell) → Has tau (child ∷ []) → tau ≡ child
    the_one tau (inl e) = e
    the_one tau (inr e) = absurd e

pub left_kids : IsChildren three left (left_mixed_branch ∷ [])
left_kids = ((left_mixed_true, tt), only_child left left_mixed left_children)

pub right_kids : IsChildren three right (right_mixed_branch ∷ [])
right_kids = ((right_mixed_true, tt), only_child right right_mixed right_children)

-- ---- the file points rest, and the corners have speed 1
pub three_still : IsStillProblem three
three_still = record { problem = three_well; ranks = refl; still = ((refl, (refl, (refl, tt))), tt); corners = ((refl, (refl, tt)), tt) }
