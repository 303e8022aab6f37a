-- a cell that is led to another pair by pair
use Rattle.std.proofs.Common.{◌≡◌, ℕ, zero, suc, ◌+◌, ◌<◌, ◌≤◌, List, [], ◌∷◌, length, take, slice_index_or, drop, arith, refl, sym, ap, ap₂, ◌∙◌, take_all, add-one}
use Rattle.cayley.specs.Cells.{Cell, EachPair}
use Rattle.cayley.specs.Flips.{put_pair}
use Rattle.cayley.specs.Problems.{Point}
use Rattle.cayley.proofs.OneCell.CellRows.{InRange}
use Rattle.cayley.specs.Dependencies.{nth_support}

pub of_put : (supports : List (List Point)) (cell : Cell) (j : ℕ) (y : ℕ × ℕ) → EachPair supports cell InRange → (1 ≤ y.0) × (y.0 < y.1) × (y.1 ≤ length (nth_support supports j)) → EachPair supports (put_pair cell j y) InRange
of_put [] [] j y e h = e
of_put [] (x ∷ cell) j y e h = absurd e
of_put (s ∷ supports) [] j y e h = e
of_put (s ∷ supports) (x ∷ cell) zero y e h = (h, e.1)
of_put (s ∷ supports) (x ∷ cell) (suc j) y e h = (e.0, of_put supports cell j y e.1 h)

pub at_place : (supports : List (List Point)) (cell : Cell) (i : ℕ) → EachPair supports cell InRange → i < length cell → InRange (nth_support supports i) (slice_index_or cell i (0, 0)).0 (slice_index_or cell i (0, 0)).1
at_place [] [] i e l = absurd (omega (arith, l))
at_place [] (x ∷ cell) i e l = absurd e
at_place (s ∷ supports) [] i e l = absurd e
at_place (s ∷ supports) (x ∷ cell) zero e l = e.0
at_place (s ∷ supports) (x ∷ cell) (suc i) e l = at_place supports cell i e.1 (omega (arith, l))

-- one pair more is that of the other cell
put_next : (at cell : Cell) (i : ℕ) → i < length at → i < length cell → take i at ≡ take i cell → take (suc i) (put_pair at i (slice_index_or cell i (0, 0))) ≡ take (suc i) cell
put_next [] cell i la lc e = absurd (omega (arith, la))
put_next (x ∷ at) [] i la lc e = absurd (omega (arith, lc))
put_next (x ∷ at) (y ∷ cell) zero la lc e = refl
put_next (x ∷ at) (y ∷ cell) (suc i) la lc e = ap₂ (λ (z : ℕ × ℕ) (l : Cell). z ∷ l) (ap (λ (l : Cell). slice_index_or l 0 (0, 0)) e) (put_next at cell i (omega (arith, la)) (omega (arith, lc)) (ap (λ (l : Cell). drop 1 l) e))

pub put_more : (at cell : Cell) (i : ℕ) → i < length at → i < length cell → take i at ≡ take i cell → take (i + 1) (put_pair at i (slice_index_or cell i (0, 0))) ≡ take (i + 1) cell
put_more at cell i la lc e = rw add-one (put_next at cell i la lc e)

pub put_same : (cell : Cell) (i : ℕ) (y : ℕ × ℕ) → i < length cell → slice_index_or cell i (0, 0) ≡ y → cell ≡ put_pair cell i y
put_same [] i y l e = absurd (omega (arith, l))
put_same (x ∷ cell) zero y l e = ap (λ (z : ℕ × ℕ). z ∷ cell) e
put_same (x ∷ cell) (suc i) y l e = ap (λ (c : Cell). x ∷ c) (put_same cell i y (omega (arith, l)) e)

pub same_end : (at cell : Cell) (i : ℕ) → length at ≡ length cell → length cell ≤ i → take i at ≡ take i cell → at ≡ cell
same_end at cell i e le h = sym (take_all i at (omega (arith, e, le))) ∙ h ∙ take_all i cell le
