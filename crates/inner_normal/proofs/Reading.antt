-- points and pairs by their places
use Rattle.std.proofs.Common.{◌≡◌, ℕ, zero, suc, ◌<◌, ◌≤◌, List, [], ◌∷◌, length, arith, refl, sym}
use Rattle.std.specs.Prelude.{slice_index_or}
use Rattle.int_vectors.specs.Vectors.{Each}
use Rattle.cayley.specs.Problems.{Point, Problem, point_at}
use Rattle.cayley.specs.Cells.{Cell, EachPair}
use Rattle.cayley.specs.Dependencies.{pair_at, nth_support}
use Rattle.cayley.specs.Valid.{IsValidProblem, IsCornerCoordinate}
use Rattle.cayley.proofs.OneCell.CellRows.{InRange, each_position}
use Rattle.cayley.proofs.Lists.Supports.{valid_points}
use Rattle.cayley.proofs.Lists.Pairs.{pairs_long}

pub support_read : (supports : List (List Point)) (j : ℕ) → slice_index_or supports j [] ≡ nth_support supports j
support_read [] j = refl
support_read (s ∷ supports) zero = refl
support_read (s ∷ supports) (suc j) = support_read supports j

pub pair_read : (cell : Cell) (j : ℕ) (d : ℕ × ℕ) → j < length cell → slice_index_or cell j d ≡ pair_at cell j
pair_read [] j d l = absurd (omega (arith, l))
pair_read (x ∷ cell) zero d l = refl
pair_read (x ∷ cell) (suc j) d l = pair_read cell j d (omega (arith, l))

pub cell_long : (supports : List (List Point)) (cell : Cell) (P : List Point → ℕ → ℕ → Type 0) → EachPair supports cell P → length cell ≡ length supports
cell_long supports cell P e = sym (pairs_long supports cell P e)

-- the pair of a support is in its range
pub pair_range : (supports : List (List Point)) (cell : Cell) (j : ℕ) → j < length cell → EachPair supports cell InRange → InRange (nth_support supports j) (pair_at cell j).0 (pair_at cell j).1
pair_range [] [] j l of = absurd (omega (arith, l))
pair_range [] (x ∷ cell) j l of = absurd of
pair_range (s ∷ supports) [] j l of = absurd of
pair_range (s ∷ supports) (x ∷ cell) zero l of = of.0
pair_range (s ∷ supports) (x ∷ cell) (suc j) l of = pair_range supports cell j (omega (arith, l)) of.1

pub each_support_at : (P : List Point → Type 0) (supports : List (List Point)) (j : ℕ) → j < length supports → Each supports P → P (nth_support supports j)
each_support_at P [] j l e = absurd (omega (arith, l))
each_support_at P (s ∷ supports) zero l e = e.0
each_support_at P (s ∷ supports) (suc j) l e = each_support_at P supports j (omega (arith, l)) e.1

-- what a point of a valid problem has
abbrev pub IsNear : ℕ → Point → Type 0
IsNear n x = (length x.coordinates ≡ n) × Each x.coordinates IsCornerCoordinate

pub near_at : (p : Problem) → IsValidProblem p → (j c : ℕ) → j < p.dimension → 1 ≤ c → c ≤ length (nth_support p.supports j) → IsNear p.dimension (point_at (nth_support p.supports j) c)
near_at p v j c l least most =
    each_position (IsNear p.dimension) (nth_support p.supports j) c least most
    (each_support_at (λ s. Each s (IsNear p.dimension)) p.supports j (let e = v.shape.problem.supports in omega (arith, l, e)) (valid_points p v))
