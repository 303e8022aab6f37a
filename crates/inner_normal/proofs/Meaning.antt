-- the numbers of a further point are the dependency of the cell and that point
use Rattle.std.proofs.Common.{◌≡◌, ℕ, zero, suc, ◌+◌, ◌*◌, ◌<◌, ◌≤◌, List, [], ◌∷◌, length, arith, refl, sym, ap, ap₂, subst, subst₂, ◌∙◌, ◌<ℤ◌}
use Rattle.std.proofs.lemmas.List.{length-map}
use Rattle.std.proofs.Math.IntN.{ℤ, pos, neg_ℤ}
use Rattle.int_vectors.specs.Vectors.{Each, sub, scale, dot}
use Rattle.reduced_rows.specs.CellRefusals.{IsEliminated}
use Rattle.reduced_rows.specs.Denominators.{lcm_from}
use Rattle.reduced_rows.specs.Solutions.{scaled_column}
use Rattle.reduced_rows.specs.Spans.{IsReducedOf}
use Rattle.reduced_rows.proofs.Outcome.{reduced_means}
use Rattle.cayley.specs.Problems.{Point, Problem, IsProblem, point_at, HasSamePoints}
use Rattle.cayley.specs.Cells.{Cell, IsOf}
use Rattle.cayley.specs.Rows.{edge_rows}
use Rattle.cayley.specs.Dependencies.{pair_at, IsFurtherAt, IsPositiveDependency, nth_support}
use Rattle.cayley.proofs.OneCell.CellRows.{InRange, each_position, long_sub, rows_count, rows_width}
use Rattle.cayley.proofs.OneCell.OneDependency.{pairs_from, numbers_of_rows}
use Rattle.cayley.proofs.Ranking.Unperturbed.{point_unranked, support_unranked, same_rows, same_dimension, same_points, same_of, same_well, same_further}
use Rattle.inner_normal.specs.Inverses.{Inverse, inverse_of, scaled_columns, IsInverseOf}
use Rattle.inner_normal.specs.Coefficients.{difference, products, coefficients_of, numbers_of, pairs_of, last_of}
use Rattle.inner_normal.proofs.PairNumbers.{last-coefficients, length-coefficients, pairs-coefficients}
use Rattle.inner_normal.proofs.Reading.{cell_long, pair_range, each_support_at}
use Rattle.inner_normal.proofs.ScaledSums.{scaled_dependency}

-- what the elimination's answer is
pub reduced_of : (p : Problem) (cell : Cell) → IsProblem p → IsOf p cell → (made : List (List ℤ)) → IsEliminated p.dimension (edge_rows p cell) made → IsReducedOf p.dimension (edge_rows p cell) made
reduced_of p cell well of made e = reduced_means p.dimension _ (edge_rows p cell) made (rows_count p cell well of) (rows_width p cell well of) e.1

pub length-columns : (m off l : ℕ) (made : List (List ℤ)) → length (scaled_columns m off l made) ≡ m
length-columns zero off l made = refl
length-columns (suc m) off l made = ap suc (length-columns m (suc off) l made)

pub length-column : (k j l : ℕ) (made : List (List ℤ)) → length (scaled_column k j l made) ≡ length made
unfolding scaled_column
length-column k j l [] = refl
length-column k j l (row ∷ made) = ap suc (length-column k (suc j) l made)

pub columns_long : (m off l : ℕ) (made : List (List ℤ)) → Each (scaled_columns m off l made) (λ column. length column ≡ length made)
columns_long zero off l made = tt
columns_long (suc m) off l made = (length-column off 0 l made, columns_long m (suc off) l made)

-- n columns of n numbers
pub inverse_shape : (p : Problem) (cell : Cell) → IsProblem p → IsOf p cell → (inverse : Inverse) → IsInverseOf p cell inverse
    → (length inverse.columns ≡ p.dimension) × Each inverse.columns (λ column. length column ≡ p.dimension)
inverse_shape p cell well of inverse is =
    let made = is.0 in
    let count = (reduced_of p cell well of made is.1).count in (
      ap (λ (i : Inverse). length i.columns) is.2 ∙ length-columns (length made) _ (lcm_from 0 1 made) made ∙ count,
      subst (λ n. Each inverse.columns (λ column. length column ≡ n)) count (subst (λ (i : Inverse). Each i.columns (λ column. length column ≡ length made)) (sym is.2) (columns_long (length made) _ (lcm_from 0 1 made) made)),
    )

-- as many products as pairs
pub products_count : (p : Problem) (cell : Cell) → IsProblem p → IsOf p cell → (made : List (List ℤ)) → IsEliminated p.dimension (edge_rows p cell) made → (d : List ℤ) → length (products d (inverse_of made).columns) ≡ length cell
products_count p cell well of made done d =
    length-map (inverse_of made).columns (dot d) ∙ length-columns (length made) _ (lcm_from 0 1 made) made ∙ (reduced_of p cell well of made done).count ∙ sym well.supports ∙ sym (cell_long p.supports cell InRange of)

pub length-difference : (p : Problem) (cell : Cell) (j c : ℕ) → IsProblem p → IsOf p cell → j < p.dimension → IsFurtherAt p cell j c → length (difference p cell j c) ≡ p.dimension
length-difference p cell j c well of below further =
    let n = p.dimension in
    let s = nth_support p.supports j in
    let e = well.supports in
    let k = cell_long p.supports cell InRange of in
    let range = pair_range p.supports cell j (omega (arith, below, e, k)) of in
    let points = each_support_at (λ s. Each s (λ (x : Point). length x.coordinates ≡ n)) p.supports j (omega (arith, below, e)) well.points in
    long_sub n (point_at s c).coordinates (point_at s (pair_at cell j).0).coordinates
    (each_position (λ x. length x.coordinates ≡ n) s c further.0 further.1 points)
    (each_position (λ x. length x.coordinates ≡ n) s (pair_at cell j).0 range.0 (omega (arith, range.1, range.2)) points)

-- of one problem
pub numbers_mean : (p : Problem) (cell : Cell) (j c : ℕ) → IsProblem p → IsOf p cell → j < p.dimension → IsFurtherAt p cell j c → (made : List (List ℤ)) → IsEliminated p.dimension (edge_rows p cell) made
    → pos 0 <ℤ (inverse_of made).den → (xs : List ℤ) → xs ≡ coefficients_of j (inverse_of made) (difference p cell j c) → IsPositiveDependency p cell j c (numbers_of xs)
numbers_mean p cell j c well of below further made done positive xs is =
    let r = reduced_of p cell well of made done in
    let d = difference p cell j c in
    let den = (inverse_of made).den in
    let ms = products d (inverse_of made).columns in
    let count : length ms ≡ length cell = products_count p cell well of made done d in
    let bound : suc j ≤ length cell = (let k = cell_long p.supports cell InRange of in let e = well.supports in omega (arith, below, e, k)) in
    let last = ap last_of is ∙ last-coefficients 0 j den ms in
    let same : record { pairs = pairs_from (scale (neg_ℤ (pos 1)) ms) j den cell; last = den } ≡ numbers_of xs =
    ap₂ (λ (ms : List (ℤ × ℤ)) (g : ℤ). record { pairs = ms; last = g }) (sym (ap pairs_of is ∙ pairs-coefficients j den ms cell count)) (sym last) in
    subst (IsPositiveDependency p cell j c) same
    (numbers_of_rows p cell j c well of bound (scale (neg_ℤ (pos 1)) ms) den positive (scaled_dependency p cell well of made r d (length-difference p cell j c well of below further)))

-- the difference has no rank in it
pub same_point : (p q : Problem) (j c : ℕ) → HasSamePoints p q → (point_at (nth_support p.supports j) c).coordinates ≡ (point_at (nth_support q.supports j) c).coordinates
same_point p q j c e =
    ap (λ (x : Point). x.coordinates)
    (sym (point_unranked (nth_support p.supports j) c) ∙ ap (λ s. point_at s c) (sym (support_unranked p.supports j) ∙ ap (λ ss. nth_support ss j) (same_points p q e) ∙ support_unranked q.supports j)
    ∙ point_unranked (nth_support q.supports j) c)

same_difference : (p q : Problem) (cell : Cell) (j c : ℕ) → HasSamePoints p q → difference p cell j c ≡ difference q cell j c
same_difference p q cell j c e = ap₂ sub (same_point p q j c e) (same_point p q j (pair_at cell j).0 e)

-- of the problem, and of each that differs in version and ranks alone
module _ (q : Problem) (cell : Cell) (j c : ℕ) (well : IsProblem q) (of : IsOf q cell) (below : j < q.dimension) (further : IsFurtherAt q cell j c) (inverse : Inverse) (is : IsInverseOf q cell inverse) (xs : List ℤ)
    (made : xs ≡ coefficients_of j inverse (difference q cell j c)) where
  here : xs ≡ coefficients_of j (inverse_of is.0) (difference q cell j c)
  here = subst (λ (i : Inverse). xs ≡ coefficients_of j i (difference q cell j c)) is.2 made

  pub numbers_however : pos 0 <ℤ inverse.den → (p : Problem) → HasSamePoints p q → IsPositiveDependency p cell j c (numbers_of xs)
  numbers_however positive p e =
      let back : HasSamePoints q p = sym e in
      let size = same_dimension q p back in
      numbers_mean p cell j c (same_well q p back well) (same_of q p cell back of) (subst (λ n. j < n) size below) (same_further q p cell j c back further) is.0
      (subst₂ (λ n rows. IsEliminated n rows is.0) size (same_rows q p cell back) is.1)
      (subst (λ (i : Inverse). pos 0 <ℤ i.den) is.2 positive) xs
      (here ∙ ap (coefficients_of j (inverse_of is.0)) (same_difference q p cell j c back))

  pub numbers_count : length xs ≡ 2 * length cell + 1
  numbers_count = ap length here ∙ length-coefficients 0 j (inverse_of is.0).den _ ∙ ap (λ n. 2 * n + 1) (products_count q cell well of is.0 is.1 (difference q cell j c))

  pub numbers_last : last_of xs ≡ inverse.den
  numbers_last = ap last_of made ∙ last-coefficients 0 j inverse.den (products (difference q cell j c) inverse.columns)
