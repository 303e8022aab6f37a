-- a node's matrix gives the cell's normal and a dependency for each further point
use Rattle.std.proofs.Common.{◌≡◌, ℕ, zero, suc, ◌+◌, ◌*◌, ◌<◌, ◌≤◌, List, [], ◌∷◌, length, take, drop, drop-cons, length-take, arith, refl, sym, ap, ap₂, subst, ◌∙◌}
use Rattle.std.proofs.lemmas.List.{length-map, length-drop}
use Rattle.std.proofs.lemmas.Int.{ints}
use Rattle.std.proofs.Math.IntN.{ℤ, pos, ◌+ℤ◌, ◌*ℤ◌, neg_ℤ}
use Rattle.wide_int.proofs.Ring.{mul_zero_ℤ}
use Rattle.int_vectors.specs.Vectors.{Each, at, dot, weigh, scale, sub}
use Rattle.reduced_rows.specs.Carried.{unit}
use Rattle.cayley.specs.Problems.{Point, Problem, IsProblem, point_at, HasSamePoints}
use Rattle.cayley.specs.Cells.{Cell, EachPair, IsOf, IsIndependent}
use Rattle.cayley.specs.Dependencies.{pair_at, IsFurtherAt, IsPositiveDependency}
use Rattle.cayley.proofs.Algebra.Kernel as kernel
use Rattle.cayley.proofs.Algebra.Kernel.{Kills, dot_comm}
use Rattle.cayley.proofs.Algebra.RowDependencies.{IsDependency}
use Rattle.cayley.proofs.Flipping.Places.{further_bound}
use Rattle.cayley.proofs.OneCell.CellRows.{InRange}
use Rattle.cayley.proofs.OneCell.OneDependency.{pairs_from, numbers_of_rows}
use Rattle.cayley.proofs.Ranking.Unperturbed.{same_dimension, same_of, same_well}
use Rattle.cayley.specs.Rows.{edges}
use Rattle.cayley.proofs.Lists.Pairs.{pairs_long}
use Rattle.inner_normal.specs.Coefficients.{difference, products, coefficients_of, numbers_of}
use Rattle.inner_normal.specs.MovingNormals.{IsMovingNormal}
use Rattle.inner_normal.proofs.PairNumbers.{last-coefficients, pairs-coefficients}
use Rattle.inner_normal.proofs.Reading.{cell_long}
use Rattle.carried_inverse.specs.Sums.{IsSum, base_falls, speed_falls}
use Rattle.carried_inverse.specs.Systems.{Inverts}
use Rattle.carried_inverse.proofs.FromRows.{differences_are}
use Rattle.carried_inverse.proofs.Independence.{differences_same}
use Rattle.carried_inverse.proofs.Normals.{rows_shape, normal_by_columns}
use Rattle.carried_inverse.proofs.PairFalls.{falls_long}
use Rattle.carried_inverse.proofs.PairSigns.{columns_dependency}
use Rattle.path_trace.specs.declared.trace.TraceNode.{TraceNode}
use Rattle.path_trace.specs.Inverses.{in_identity}
use Rattle.path_trace.specs.Matrices.{column, columns_from}
use Rattle.path_trace.proofs.Independence.{columns_long, columns_wide, columns_at, independent_law, difference_at}
use Rattle.inner_normal.proofs.Meaning.{same_point}
use Rattle.log_check.specs.Nodes.{HasInverse}
use Rattle.log_check.specs.Numbers.{row_products, inverse_of, normal_of}

-- ---- rows and columns of a matrix that is written row after row

-- the row at place e of rows of n numbers
row : ℕ → ℕ → List ℤ → List ℤ
row n zero xs = take n xs
row n (suc e) xs = row n e (drop n xs)

at_take : (n i : ℕ) (xs : List ℤ) → i < n → at (take n xs) i ≡ at xs i
at_take zero i xs lt = absurd (omega (arith, lt))
at_take (suc n) i [] lt = refl
at_take (suc n) zero (x ∷ xs) lt = refl
at_take (suc n) (suc i) (x ∷ xs) lt = at_take n i xs (omega (arith, lt))

column_entry : (n e i m : ℕ) (xs : List ℤ) → e < m → i < n → at (column n i m xs) e ≡ at (row n e xs) i
unfolding row
column_entry n e i zero xs le li = absurd (omega (arith, le))
column_entry n zero i (suc m) xs le li = sym (at_take n i xs li)
column_entry n (suc e) i (suc m) xs le li = column_entry n e i m (drop n xs) (omega (arith, le)) li

row_long : (n e m : ℕ) (xs : List ℤ) → e < m → length xs ≡ m * n → length (row n e xs) ≡ n
unfolding row
row_long n e zero xs le l = absurd (omega (arith, le))
row_long n zero (suc m) xs le l = let t = length-take n xs in omega (arith, t, l)
row_long n (suc e) (suc m) xs le l = let d = length-drop n xs in row_long n e m (drop n xs) (omega (arith, le)) (omega (arith, d, l))

products_long : (n m : ℕ) (xs bs : List ℤ) → length (row_products n m xs bs) ≡ m
products_long n zero xs bs = refl
products_long n (suc m) xs bs = ap suc (products_long n m (drop n xs) bs)

product_entry : (n e m : ℕ) (xs bs : List ℤ) → e < m → at (row_products n m xs bs) e ≡ dot (row n e xs) bs
unfolding row
product_entry n e zero xs bs le = absurd (omega (arith, le))
product_entry n zero (suc m) xs bs le = refl
product_entry n (suc e) (suc m) xs bs le = product_entry n e m (drop n xs) bs (omega (arith, le))

weighed : (n e : ℕ) (xs y : List ℤ) → ((i : ℕ) → i < n → at (column n i n xs) e ≡ at y i) → length y ≡ n → (k m : ℕ) (bs : List ℤ) → k + m ≡ n → length bs ≡ m → weigh bs (columns_from n k m xs) (λ x. at x e) ≡ dot bs (drop k y)
weighed n e xs y h ly k zero [] s lb = refl
weighed n e xs y h ly k zero (b ∷ bs) s lb = absurd (omega (arith, lb))
weighed n e xs y h ly k (suc m) [] s lb = absurd (omega (arith, lb))
weighed n e xs y h ly k (suc m) (b ∷ bs) s lb =
    ap₂ (λ u v. b *ℤ u +ℤ v) (h k (omega (arith, s))) (weighed n e xs y h ly (suc k) m bs (omega (arith, s)) (omega (arith, lb)))
    ∙ ap (λ z. dot (b ∷ bs) z) (sym (drop-cons y k (pos 0) (omega (arith, s, ly))))

-- the products with the rows are sums over the columns
products_sum : (n : ℕ) (xs bs : List ℤ) → length xs ≡ n * n → length bs ≡ n → IsSum n bs (columns_from n 0 n xs) (row_products n n xs bs)
products_sum n xs bs l lb = (
  products_long n n xs bs,
  λ e lt.
      product_entry n e n xs bs lt ∙ dot_comm (row n e xs) bs
      ∙ sym (weighed n e xs (row n e xs) (λ i li. column_entry n e i n xs lt li) (row_long n e n xs lt l) 0 n bs (omega arith) lb),
)

-- ---- the rows of a cell
identity : (g : ℤ) (i k : ℕ) → in_identity g i k ≡ g *ℤ unit i k
identity g zero zero = omega (arith, ints)
identity g zero (suc k) = sym (mul_zero_ℤ g)
identity g (suc i) zero = sym (mul_zero_ℤ g)
identity g (suc i) (suc k) = identity g i k

killed_pairs : (supports : List (List Point)) (cell : Cell) (P : List Point → ℕ → ℕ → Type 0) (v : List ℤ) → EachPair supports cell P → Kills (edges supports cell) v
    → EachPair supports cell (λ s a b. dot (sub (point_at s b).coordinates (point_at s a).coordinates) v ≡ pos 0)
killed_pairs [] [] P v e k = tt
killed_pairs [] (x ∷ cell) P v e k = e
killed_pairs (s ∷ supports) [] P v e k = e
killed_pairs (s ∷ supports) (x ∷ cell) P v e k = (k.0, killed_pairs supports cell P v e.1 k.1)

-- ---- a node with its inverse
module _ (p : Problem) (node : TraceNode) (well : IsProblem p) (of : IsOf p node.cell) (h : HasInverse p node) where
  count : length (inverse_of p node).columns ≡ p.dimension
  count = columns_long p.dimension 0 p.dimension node.inverse

  wide : Each (inverse_of p node).columns (λ x. length x ≡ p.dimension)
  wide = columns_wide p.dimension 0 p.dimension node.inverse

  inverts : Inverts p.dimension (edges p.supports node.cell) node.scale (inverse_of p node).columns
  inverts i k li lk =
      let n = p.dimension in
      let z : 0 + k ≡ k = omega arith in
      ap₂ dot (difference_at p.supports node.cell _ of i (let s = well.supports in omega (arith, li, s))) (columns_at n 0 n k node.inverse lk ∙ ap (λ j. column n j n node.inverse) z)
      ∙ h.product i k li lk ∙ identity node.scale i k

  pub independent : IsIndependent p node.cell
  independent = independent_law p node.cell node.scale node.inverse well of h

  free : kernel.Independent p.dimension (edges p.supports node.cell)
  free v long kills = independent v long (killed_pairs p.supports node.cell _ v of kills)

  cell_is : length node.cell ≡ p.dimension
  cell_is = let s = well.supports in let k = cell_long p.supports node.cell InRange of in omega (arith, s, k)

  -- the one normal of the cell at every time
  pub moves : IsMovingNormal p node.cell (normal_of p node)
  moves =
      let f = falls_long p.supports node.cell of in
      normal_by_columns p node.cell well of independent (inverse_of p node) (normal_of p node) count h.positive inverts refl
      (products_sum p.dimension node.inverse (base_falls p.supports node.cell) h.long (f.0 ∙ cell_is))
      (products_sum p.dimension node.inverse (speed_falls p.supports node.cell) h.long (f.1 ∙ cell_is))

  -- the numbers of each further point are a dependency that is positive there, however the points are ranked
  pub depends : (j c : ℕ) → IsFurtherAt p node.cell j c → (q : Problem) → HasSamePoints q p → IsPositiveDependency q node.cell j c (numbers_of (coefficients_of j (inverse_of p node) (difference p node.cell j c)))
  depends j c further q same =
      let a = inverse_of p node in
      let d = difference p node.cell j c in
      let ms = products d a.columns in
      let qo = same_of p q node.cell (sym same) of in
      let qw = same_well p q (sym same) well in
      let long : length ms ≡ length node.cell = length-map a.columns (dot d) ∙ count ∙ sym cell_is in
      let bound = below_cell j c further in
      let last = last-coefficients 0 j a.den ms in
      let made : record { pairs = pairs_from (scale (neg_ℤ (pos 1)) ms) j a.den node.cell; last = a.den } ≡ numbers_of (coefficients_of j a d) =
      ap₂ (λ (ms : List (ℤ × ℤ)) (g : ℤ). record { pairs = ms; last = g }) (sym (pairs-coefficients j a.den ms node.cell long)) (sym last) in
      let rows : edges p.supports node.cell ≡ edges q.supports node.cell = differences_same q p node.cell same in
      let other : d ≡ difference q node.cell j c = ap₂ sub (same_point p q j c (sym same)) (same_point p q j (pair_at node.cell j).0 (sym same)) in
      let dep = columns_dependency p.dimension (edges p.supports node.cell) a (rows_shape p node.cell well of).0 count wide inverts free d in
      subst (IsPositiveDependency q node.cell j c) made
      (numbers_of_rows q node.cell j c qw qo bound (scale (neg_ℤ (pos 1)) ms) a.den h.positive
      (subst (λ n. IsDependency n (edges q.supports node.cell) (difference q node.cell j c) (scale (neg_ℤ (pos 1)) ms) a.den) (same_dimension p q (sym same))
      (subst (λ (rs : List (List ℤ)). IsDependency p.dimension rs (difference q node.cell j c) (scale (neg_ℤ (pos 1)) ms) a.den) (rows ∙ differences_are q.supports node.cell)
      (subst (λ (v : List ℤ). IsDependency p.dimension (edges p.supports node.cell) v (scale (neg_ℤ (pos 1)) ms) a.den) other dep))))
    where
      below_cell : (j c : ℕ) → IsFurtherAt p node.cell j c → suc j ≤ length node.cell
      below_cell j c f = further_bound p.supports node.cell j c (pairs_long p.supports node.cell InRange of) f
