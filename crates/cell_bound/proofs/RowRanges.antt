-- the ranges of supports bound the rows of a cell
use Rattle.std.proofs.Common.{◌≡◌, ℕ, zero, suc, ◌+◌, ◌-◌, ◌≤◌, ℤ, pos, ◌-ℤ◌, unsigned_abs, List, [], ◌∷◌, ◌++◌, length, take, replicate, arith, refl, ap, sym, ◌∙◌}
use Rattle.int_vectors.specs.Vectors.{at, sub}
use Rattle.int_vectors.specs.Bounds.{size}
use Rattle.cayley.specs.Problems.{Point, point_at}
use Rattle.cayley.specs.Cells.{Cell, EachPair}
use Rattle.cayley.specs.Rows.{unit_row, edge_row, edge_rows_from}
use Rattle.cayley.proofs.OneCell.CellRows.{HaveLength, InRange, edge_long}
use Rattle.elimination_bound.specs.Bounds.{front_size, IsRowBound, AreWithin}
use Rattle.inner_normal.proofs.RowUnits.{at-past}
use Rattle.cell_bound.specs.Ranges.{AreNear, HaveRanges}

zero_small : (n k : ℕ) → unsigned_abs (at (replicate n (pos 0)) k) ≤ 1
zero_small zero k = omega arith
zero_small (suc n) zero = omega arith
zero_small (suc n) (suc k) = zero_small n k

unit_small : (n i k : ℕ) → unsigned_abs (at (unit_row n i) k) ≤ 1
unit_small zero i k = omega arith
unit_small (suc n) zero zero = omega arith
unit_small (suc n) zero (suc k) = zero_small n k
unit_small (suc n) (suc i) zero = omega arith
unit_small (suc n) (suc i) (suc k) = unit_small n i k

size-front : (xs ys : List ℤ) → size (take (length xs) (xs ++ ys)) ≡ size xs
size-front [] ys = refl
size-front (x ∷ xs) ys = ap (λ m. unsigned_abs x + m) (size-front xs ys)

front_is : (n : ℕ) (xs ys : List ℤ) → length xs ≡ n → front_size n (xs ++ ys) ≡ size xs
front_is n xs ys e = ap (λ m. size (take m (xs ++ ys))) (sym e) ∙ size-front xs ys

further_small : (n i h : ℕ) (b s : ℤ) → 1 ≤ h → unsigned_abs b ≤ h → unsigned_abs s ≤ h → (k : ℕ) → unsigned_abs (at (b ∷ s ∷ unit_row n i) k) ≤ h
further_small n i h b s one p q zero = p
further_small n i h b s one p q (suc zero) = q
further_small n i h b s one p q (suc (suc k)) = let u = unit_small n i k in omega (arith, u, one)

pub edge_bound : (n i f h : ℕ) (a b : Point) → length (sub b.coordinates a.coordinates) ≡ n → 1 ≤ f → 1 ≤ h → AreNear f h a b → IsRowBound n (edge_row n i a b) f h
edge_bound n i f h a b long f_some h_some near =
    let rest = (b.base -ℤ a.base) ∷ (b.speed -ℤ a.speed) ∷ unit_row n i in
    let front = front_is n (sub b.coordinates a.coordinates) rest long in (
      f_some,
      (let r = near.0 in omega (arith, front, r)),
      (λ c le.
          let e = at-past (sub b.coordinates a.coordinates) rest c (c - n) (omega (arith, long, le)) in
          let m = further_small n i h (b.base -ℤ a.base) (b.speed -ℤ a.speed) h_some near.1 near.2 (c - n) in
          let t = ap unsigned_abs e in
          omega (arith, t, m)),
    )

pub rows_within : (n i : ℕ) (fs hs : List ℕ) (supports : List (List Point)) (cell : Cell) → HaveRanges fs hs supports → HaveLength n supports → EachPair supports cell InRange → AreWithin n fs hs (edge_rows_from n i supports cell)
rows_within n i [] [] [] cell w l of = tt
rows_within n i [] [] (s ∷ supports) cell w l of = absurd w
rows_within n i [] (h ∷ hs) supports cell w l of = absurd w
rows_within n i (f ∷ fs) [] supports cell w l of = absurd w
rows_within n i (f ∷ fs) (h ∷ hs) [] cell w l of = absurd w
rows_within n i (f ∷ fs) (h ∷ hs) (s ∷ supports) [] w l of = absurd of
rows_within n i (f ∷ fs) (h ∷ hs) (s ∷ supports) (x ∷ cell) w l of =
    let in_range = of.0 in
    let near = w.0.2 x.0 x.1 in_range.0 (omega (arith, in_range.1, in_range.2)) (omega (arith, in_range.0, in_range.1)) in_range.2 in
    (edge_bound n i f h (point_at s x.0) (point_at s x.1) (edge_long n s x.0 x.1 of.0 l.0) w.0.0 w.0.1 near, rows_within n (suc i) fs hs supports cell w.1 l.1 of.1)
