-- the rows of a cell, one number and one row at a time
use Rattle.std.proofs.Common.{◌≡◌, ℕ, zero, suc, ◌+◌, ◌-◌, ◌*◌, ◌<◌, ◌≤◌, ℤ, pos, ◌-ℤ◌, neg_ℤ, unsigned_abs, List, [], ◌∷◌, ◌++◌, length, take, arith, refl, ap, ap₂, sym, ◌∙◌, append_assoc, length-append, FitsSigned, replicate}
use Rattle.std.specs.Prelude.{slice_index_or, slice_set}
use Rattle.std.specs.Int.{w128}
use Rattle.std.proofs.lemmas.Int.{ints}
use Rattle.std.proofs.lemmas.List.{take_all, take_more, set-append_right}
use Rattle.wide_int.specs.Whole.{FitsWhole}
use Rattle.int_vectors.specs.Fits.{AllFit}
use Rattle.int_vectors.proofs.Differences.{sub-more}
use Rattle.int_vectors.specs.Vectors.{Each, scale, sub}
use Rattle.int_vectors.proofs.DifferenceSums.{long_sub}
use Rattle.cayley.specs.Cells.{EachPair}
use Rattle.cayley.specs.Problems.{Point, origin, point_at}
use Rattle.cayley.specs.Rows.{edge_row, edge_rows_from, unit_row}
use Rattle.cayley.specs.Valid.{IsCornerCoordinate}
use Rattle.int_vectors.proofs.Each.{all_each}
use Rattle.cayley.proofs.OneCell.CellRows.{length-unit_row}

pub abs_sub : (x y : ℤ) → unsigned_abs x ≤ 33000000 → unsigned_abs y ≤ 33000000 → unsigned_abs (x -ℤ y) ≤ 66000000
abs_sub x y p q = omega (arith, ints)

pub small_fits : (x y : ℤ) → unsigned_abs x ≤ 33000000 → unsigned_abs y ≤ 33000000 → FitsSigned w128 (x -ℤ y)
small_fits x y p q = let r = abs_sub x y p q in omega (arith, ints)

pub fits-append : (xs ys : List ℤ) → AllFit xs → AllFit ys → AllFit (xs ++ ys)
fits-append [] ys f g = g
fits-append (x ∷ xs) ys f g = (f.0, fits-append xs ys f.1 g)

fits_small : (xs : List ℤ) → Each xs IsCornerCoordinate → AllFit xs
fits_small [] f = tt
fits_small (x ∷ xs) f = let p = f.0 in (omega arith, fits_small xs f.1)

fits_turned : (xs : List ℤ) → Each xs IsCornerCoordinate → AllFit (scale (neg_ℤ (pos 1)) xs)
fits_turned [] f = tt
fits_turned (x ∷ xs) f = let p = f.0 in (omega (arith, ints), fits_turned xs f.1)

pub fits_sub : (xs ys : List ℤ) → Each xs IsCornerCoordinate → Each ys IsCornerCoordinate → AllFit (sub xs ys)
fits_sub [] ys f g = fits_turned ys g
fits_sub (x ∷ xs) [] f g = fits_small (x ∷ xs) f
fits_sub (x ∷ xs) (y ∷ ys) f g = let p = f.0 in let q = g.0 in (omega (arith, ints), fits_sub xs ys f.1 g.1)

fits_zeros : (n : ℕ) → AllFit (replicate n (pos 0))
fits_zeros zero = tt
fits_zeros (suc n) = (omega arith, fits_zeros n)

pub fits_unit : (n i : ℕ) → AllFit (unit_row n i)
fits_unit zero i = tt
fits_unit (suc n) zero = (omega arith, fits_zeros n)
fits_unit (suc n) (suc i) = (omega arith, fits_unit n i)

pub unit_set : (old new : List ℤ) (start len n place : ℕ) → start ≡ length old → len ≡ length old → place < n → new ≡ take (start + n) old ++ replicate (start + n - len) (pos 0)
    → slice_set new (start + place) (pos 1) ≡ old ++ unit_row n place
unit_set old new start len n place e h l is =
    let f : start + n - len ≡ n = omega arith in
    let g : start + place - start ≡ place = omega arith in
    let same = is ∙ ap₂ (λ xs m. xs ++ replicate m (pos 0)) (take_all (start + n) old (omega arith)) f in
    ap (λ xs. slice_set xs (start + place) (pos 1)) same
    ∙ set-append_right old (replicate n (pos 0)) start (start + place) (pos 1) (sym e) (omega arith)
    ∙ ap (λ k. old ++ slice_set (replicate n (pos 0)) k (pos 1)) g

pub one_more : (old row new to from : List ℤ) (k : ℕ) → row ≡ old ++ sub (take k to) (take k from) → new ≡ row ++ (slice_index_or to k (pos 0) -ℤ slice_index_or from k (pos 0)) ∷ []
    → length to ≡ length from → k < length to → new ≡ old ++ sub (take (k + 1) to) (take (k + 1) from)
one_more old row new to from k e f l p = rw (f, e, sub-more to from k l p) (simp append_assoc)

pub row_long : (d : List ℤ) (x y : ℤ) (first second third : List ℤ) → first ≡ [] ++ d → second ≡ first ++ x ∷ [] → third ≡ second ++ y ∷ [] → length third ≡ length d + 2
row_long d x y first second third e f g = rw (g, f, e) (simp length-append (omega arith))

pub row_joined : (d unit : List ℤ) (x y : ℤ) (first second third : List ℤ) → first ≡ [] ++ d → second ≡ first ++ x ∷ [] → third ≡ second ++ y ∷ []
    → third ++ unit ≡ d ++ (x ∷ y ∷ unit)
row_joined d unit x y first second third e f g = rw (g, f, e) (simp append_assoc)

-- a row in place k, which counts from 0
pub edge_row_at : (n j : ℕ) (ss : List (List Point)) (cell : List (ℕ × ℕ)) (k : ℕ) (r : List ℤ) (d : List Point) (e : ℕ × ℕ) → k < length ss → length ss ≡ length cell
    → slice_index_or (edge_rows_from n j ss cell) k r
    ≡ edge_row n (j + k) (point_at (slice_index_or ss k d) (slice_index_or cell k e).0) (point_at (slice_index_or ss k d) (slice_index_or cell k e).1)
edge_row_at n j [] cell k r d e l m = absurd (omega arith)
edge_row_at n j (s ∷ ss) [] k r d e l m = absurd (omega arith)
edge_row_at n j (s ∷ ss) (x ∷ cell) zero r d e l m =
    let f : j ≡ j + 0 = omega arith in ap (λ j. edge_row n j (point_at s x.0) (point_at s x.1)) f
edge_row_at n j (s ∷ ss) (x ∷ cell) (suc k) r d e l m =
    let f : suc j + k ≡ j + suc k = omega arith in
    edge_row_at n (suc j) ss cell k r d e (omega arith) (omega arith)
    ∙ ap (λ j. edge_row n j (point_at (slice_index_or ss k d) (slice_index_or cell k e).0) (point_at (slice_index_or ss k d) (slice_index_or cell k e).1)) f

pub length-edge_rows : (n j : ℕ) (ss : List (List Point)) (cell : List (ℕ × ℕ)) → length ss ≡ length cell → length (edge_rows_from n j ss cell) ≡ length ss
length-edge_rows n j [] cell e = refl
length-edge_rows n j (s ∷ ss) [] e = absurd (omega arith)
length-edge_rows n j (s ∷ ss) (x ∷ cell) e = ap suc (length-edge_rows n (suc j) ss cell (omega arith))

pub edge_fits : (n i : ℕ) (a b : Point) → Each b.coordinates IsCornerCoordinate → Each a.coordinates IsCornerCoordinate → FitsWhole (b.base -ℤ a.base) → FitsWhole (b.speed -ℤ a.speed)
    → AllFit (edge_row n i a b)
edge_fits n i a b f g p q = fits-append (sub b.coordinates a.coordinates) _ (fits_sub b.coordinates a.coordinates f g) (p, (q, fits_unit n i))

pub next_row : (n : ℕ) (ss : List (List Point)) (cell : List (ℕ × ℕ)) (k : ℕ) (row : List ℤ) (s : List Point) (e : ℕ × ℕ) → k < length ss → length ss ≡ length cell → s ≡ slice_index_or ss k []
    → row ≡ edge_row n k (point_at s (slice_index_or cell k e).0) (point_at s (slice_index_or cell k e).1) → row ≡ slice_index_or (edge_rows_from n 0 ss cell) k row
next_row n ss cell k row s e l m is r =
    let f : k ≡ 0 + k = omega arith in
    r ∙ ap₂ (λ j s. edge_row n j (point_at s (slice_index_or cell k e).0) (point_at s (slice_index_or cell k e).1)) f is
    ∙ sym (edge_row_at n 0 ss cell k row [] e l m)

pub more_rows : (rows : List (List ℤ)) (made new : List (List ℤ)) (k : ℕ) (row : List ℤ) → made ≡ take k rows → new ≡ made ++ row ∷ [] → row ≡ slice_index_or rows k row → k < length rows
    → new ≡ take (k + 1) rows
more_rows rows made new k row m e r l = e ∙ ap₂ (λ l r. l ++ r ∷ []) m r ∙ sym (take_more rows k row l)

length-edge_row : (n i : ℕ) (a b : Point) → length a.coordinates ≡ n → length b.coordinates ≡ n → length (edge_row n i a b) ≡ 2 * n + 2
length-edge_row n i a b p q =
    let s = long_sub b.coordinates a.coordinates (omega arith) in
    let u = length-unit_row n i in
    length-append (sub b.coordinates a.coordinates) ((b.base -ℤ a.base) ∷ (b.speed -ℤ a.speed) ∷ unit_row n i) ∙ omega arith

-- each row has 2 n + 2 numbers
pub edge_rows_wide : (n j : ℕ) (ss : List (List Point)) (cell : List (ℕ × ℕ)) → Each ss (λ s. Each s (λ (x : Point). length x.coordinates ≡ n))
    → EachPair ss cell (λ s a b. (1 ≤ a) × (a < b) × (b ≤ length s)) → Each (edge_rows_from n j ss cell) (λ row. length row ≡ 2 * n + 2)
edge_rows_wide n j [] cell h p = tt
edge_rows_wide n j (s ∷ ss) [] h p = absurd p
edge_rows_wide n j (s ∷ ss) (x ∷ cell) h p =
    let a = p.0.0 in
    let b = p.0.1 in
    let c = p.0.2 in (
      length-edge_row n j (point_at s x.0) (point_at s x.1)
          (all_each (λ (x : Point). length x.coordinates ≡ n) s h.0 (x.0 - 1) origin (omega arith)) (all_each (λ (x : Point). length x.coordinates ≡ n) s h.0 (x.1 - 1) origin (omega arith)),
      edge_rows_wide n (suc j) ss cell h.1 p.1,
    )
