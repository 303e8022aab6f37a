-- the rows of a cell: their lengths, and what is orthogonal to them
use Rattle.std.proofs.Common.{◌≡◌, ℕ, zero, suc, ◌+◌, ◌-◌, ◌<◌, ◌≤◌, List, [], ◌∷◌, ◌++◌, length, arith, refl, sym, ap, ap₂, ◌∙◌, length-append}
use Rattle.std.specs.Prelude.{slice_index_or}
use Rattle.std.proofs.lemmas.List.{length-set, length-replicate}
use Rattle.std.proofs.lemmas.Int.{ints}
use Rattle.std.proofs.Math.IntN.{ℤ, pos, ◌+ℤ◌, ◌-ℤ◌, ◌*ℤ◌, neg_ℤ}
use Rattle.int_vectors.specs.Vectors.{Each, add, sub, scale, dot, IsOrthogonal, Independent}
use Rattle.int_vectors.proofs.Entries.{length-scale}
use Rattle.cayley.specs.Problems.{Point, Problem, IsProblem, origin, point_at}
use Rattle.cayley.specs.Cells.{Cell, EachPair, IsOf, IsIndependent}
use Rattle.cayley.specs.Rows.{unit_row, edge_rows_from, edge_rows}

-- a product with a longer list ends with the shorter one
pub dot-front : (xs ys zs : List ℤ) → length zs ≡ length xs → dot (xs ++ ys) zs ≡ dot xs zs
dot-front [] ys [] e = zero_right ys
  where
    zero_right : (ys : List ℤ) → dot ys [] ≡ pos 0
    zero_right [] = refl
    zero_right (y ∷ ys) = refl
dot-front [] ys (z ∷ zs) e = absurd (omega arith)
dot-front (x ∷ xs) ys [] e = absurd (omega arith)
dot-front (x ∷ xs) ys (z ∷ zs) e = ap (λ s. x *ℤ z +ℤ s) (dot-front xs ys zs (omega arith))

-- a product of two lists part by part
pub dot-append : (xs ys zs ws : List ℤ) → length zs ≡ length xs → dot (xs ++ ys) (zs ++ ws) ≡ dot xs zs +ℤ dot ys ws
dot-append [] ys [] ws e = omega (arith, ints)
dot-append [] ys (z ∷ zs) ws e = absurd (omega arith)
dot-append (x ∷ xs) ys [] ws e = absurd (omega arith)
dot-append (x ∷ xs) ys (z ∷ zs) ws e = rw (dot-append xs ys zs ws (omega arith)) (omega (arith, ints))

pub long_sub : (n : ℕ) (xs ys : List ℤ) → length xs ≡ n → length ys ≡ n → length (sub xs ys) ≡ n
long_sub n xs ys p q = sums n xs (scale (neg_ℤ (pos 1)) ys) p (length-scale (neg_ℤ (pos 1)) ys ∙ q)
  where
    sums : (n : ℕ) (a b : List ℤ) → length a ≡ n → length b ≡ n → length (add a b) ≡ n
    sums n [] b p q = q
    sums n (x ∷ a) [] p q = p
    sums zero (x ∷ a) (y ∷ b) p q = absurd (omega arith)
    sums (suc n) (x ∷ a) (y ∷ b) p q = ap suc (sums n a b (omega arith) (omega arith))

-- what holds of each point of a support holds of the one at a position
pub each_position : (P : Point → Type 0) (s : List Point) (k : ℕ) → 1 ≤ k → k ≤ length s → Each s P → P (point_at s k)
each_position P s k p q e = at_index s (k - 1) (omega arith) e
  where
    at_index : (s : List Point) (i : ℕ) → i < length s → Each s P → P (slice_index_or s i origin)
    at_index [] i l e = absurd (omega arith)
    at_index (x ∷ s) zero l e = e.0
    at_index (x ∷ s) (suc i) l e = at_index s i (omega arith) e.1

abbrev pub HaveLength : ℕ → List (List Point) → Type 0
HaveLength n supports = Each supports (λ s. Each s (λ (x : Point). length x.coordinates ≡ n))

abbrev pub InRange : List Point → ℕ → ℕ → Type 0
InRange s a b = (1 ≤ a) × (a < b) × (b ≤ length s)

module _ (n : ℕ) where
  pub first_long : (s : List Point) (a b : ℕ) → InRange s a b → Each s (λ (x : Point). length x.coordinates ≡ n) → length (point_at s a).coordinates ≡ n
  first_long s a b r e = each_position (λ x. length x.coordinates ≡ n) s a r.0 (omega (arith, r.1, r.2)) e

  pub second_long : (s : List Point) (a b : ℕ) → InRange s a b → Each s (λ (x : Point). length x.coordinates ≡ n) → length (point_at s b).coordinates ≡ n
  second_long s a b r e = each_position (λ x. length x.coordinates ≡ n) s b (omega (arith, r.0, r.1)) r.2 e

  pub edge_long : (s : List Point) (a b : ℕ) → InRange s a b → Each s (λ (x : Point). length x.coordinates ≡ n)
      → length (sub (point_at s b).coordinates (point_at s a).coordinates) ≡ n
  edge_long s a b r e = long_sub n (point_at s b).coordinates (point_at s a).coordinates (second_long s a b r e) (first_long s a b r e)

  -- the pairs' equations, from those of the rows: a vector for the coordinates, and more for the columns that follow
  pub pairs_orthogonal : (i : ℕ) (supports : List (List Point)) (cell : Cell) (v more : List ℤ) → length v ≡ n → length more ≤ 2 → HaveLength n supports → EachPair supports cell InRange
      → IsOrthogonal (edge_rows_from n i supports cell) (v ++ more)
      → EachPair supports cell (λ s a b.
      dot (sub (point_at s b).coordinates (point_at s a).coordinates) v
      +ℤ dot (((point_at s b).base -ℤ (point_at s a).base) ∷ ((point_at s b).speed -ℤ (point_at s a).speed) ∷ []) more ≡ pos 0)
  pairs_orthogonal i [] [] v more l k well of e = tt
  pairs_orthogonal i [] (x ∷ cell) v more l k well of e = absurd of
  pairs_orthogonal i (s ∷ supports) [] v more l k well of e = absurd of
  pairs_orthogonal i (s ∷ supports) (x ∷ cell) v more l k well of e =
      let a = point_at s x.0 in
      let b = point_at s x.1 in (
        ap (λ z. dot (sub b.coordinates a.coordinates) v +ℤ z) (sym (two (b.base -ℤ a.base) (b.speed -ℤ a.speed) (unit_row n i) more k))
            ∙ sym (dot-append (sub b.coordinates a.coordinates) _ v more (l ∙ sym (edge_long s x.0 x.1 of.0 well.0)))
            ∙ e.0,
        pairs_orthogonal (suc i) supports cell v more l k well.1 of.1 e.1,
      )
    where
      two : (x y : ℤ) (us more : List ℤ) → length more ≤ 2 → dot (x ∷ y ∷ us) more ≡ dot (x ∷ y ∷ []) more
      two x y us [] k = refl
      two x y us (g ∷ []) k = refl
      two x y [] (g ∷ h ∷ []) k = refl
      two x y (u ∷ us) (g ∷ h ∷ []) k = refl
      two x y us (g ∷ h ∷ j ∷ more) k = absurd (omega (arith, k))

  -- a vector is orthogonal to the rows exactly where it is to the differences of the pairs
  pub rows_from_pairs : (i : ℕ) (supports : List (List Point)) (cell : Cell) (v : List ℤ) → length v ≡ n → HaveLength n supports → EachPair supports cell InRange
      → EachPair supports cell (λ s a b. dot (sub (point_at s b).coordinates (point_at s a).coordinates) v ≡ pos 0) → IsOrthogonal (edge_rows_from n i supports cell) v
  rows_from_pairs i [] cell v l well of e = tt
  rows_from_pairs i (s ∷ supports) [] v l well of e = tt
  rows_from_pairs i (s ∷ supports) (x ∷ cell) v l well of e = (
    dot-front (sub (point_at s x.1).coordinates (point_at s x.0).coordinates) _ v (l ∙ sym (edge_long s x.0 x.1 of.0 well.0)) ∙ e.0,
    rows_from_pairs (suc i) supports cell v l well.1 of.1 e.1,
  )

  pub pairs_from_rows : (i : ℕ) (supports : List (List Point)) (cell : Cell) (v : List ℤ) → length v ≡ n → HaveLength n supports → EachPair supports cell InRange
      → IsOrthogonal (edge_rows_from n i supports cell) v → EachPair supports cell (λ s a b. dot (sub (point_at s b).coordinates (point_at s a).coordinates) v ≡ pos 0)
  pairs_from_rows i [] [] v l well of e = tt
  pairs_from_rows i [] (x ∷ cell) v l well of e = absurd of
  pairs_from_rows i (s ∷ supports) [] v l well of e = absurd of
  pairs_from_rows i (s ∷ supports) (x ∷ cell) v l well of e = (
    sym (dot-front (sub (point_at s x.1).coordinates (point_at s x.0).coordinates) _ v (l ∙ sym (edge_long s x.0 x.1 of.0 well.0))) ∙ e.0,
    pairs_from_rows (suc i) supports cell v l well.1 of.1 e.1,
  )

-- the rows are independent exactly where the cell is
pub rows_independent : (p : Problem) (cell : Cell) → IsProblem p → IsOf p cell → Independent p.dimension (edge_rows p cell) → IsIndependent p cell
rows_independent p cell well of ind v l e = ind v l (rows_from_pairs p.dimension 0 p.supports cell v l well.points of e)

pub length-rows : (n i : ℕ) (supports : List (List Point)) (cell : Cell) (P : List Point → ℕ → ℕ → Type 0) → EachPair supports cell P → length (edge_rows_from n i supports cell) ≡ length supports
length-rows n i [] cell P e = refl
length-rows n i (s ∷ supports) [] P e = absurd e
length-rows n i (s ∷ supports) (x ∷ cell) P e = ap suc (length-rows n (suc i) supports cell P e.1)

pub length-unit_row : (n i : ℕ) → length (unit_row n i) ≡ n
length-unit_row n i = simp (length-set, length-replicate) refl

rows_long : (n i : ℕ) (supports : List (List Point)) (cell : Cell) → HaveLength n supports → EachPair supports cell InRange → Each (edge_rows_from n i supports cell) (λ row. length row ≡ n + suc (suc n))
rows_long n i [] cell well of = tt
rows_long n i (s ∷ supports) [] well of = tt
rows_long n i (s ∷ supports) (x ∷ cell) well of = (
  length-append (sub (point_at s x.1).coordinates (point_at s x.0).coordinates) _ ∙ ap₂ (λ a b. a + suc (suc b)) (edge_long n s x.0 x.1 of.0 well.0) (length-unit_row n i),
  rows_long n (suc i) supports cell well.1 of.1,
)

-- one row for each support, of 2 n + 2 numbers
pub rows_count : (p : Problem) (cell : Cell) → IsProblem p → IsOf p cell → length (edge_rows p cell) ≡ p.dimension
rows_count p cell well of = length-rows p.dimension 0 p.supports cell _ of ∙ well.supports

pub rows_width : (p : Problem) (cell : Cell) → IsProblem p → IsOf p cell → Each (edge_rows p cell) (λ row. length row ≡ p.dimension + suc (suc p.dimension))
rows_width p cell well of = rows_long p.dimension 0 p.supports cell well.points of
