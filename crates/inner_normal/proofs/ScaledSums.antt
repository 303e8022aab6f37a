-- the products with the columns of the scaled inverse are a dependency of the rows
use Rattle.std.proofs.Common.{◌≡◌, ℕ, zero, suc, ◌+◌, ◌<◌, ◌≤◌, List, [], ◌∷◌, length, drop, arith, refl, sym, ap, ap₂, ◌∙◌}
use Rattle.std.proofs.lemmas.Int.{ints}
use Rattle.std.proofs.Math.IntN.{ℤ, pos, ◌+ℤ◌, ◌*ℤ◌, neg_ℤ}
use Rattle.wide_int.proofs.Ring.{as_D, Ds, same_D}
use Rattle.int_vectors.specs.Vectors.{at, dot, weigh, scale, sub}
use Rattle.int_vectors.proofs.Weighing.{weigh-lin, weigh-scale, weigh-same}
use Rattle.reduced_rows.specs.Denominators.{lcm_from}
use Rattle.reduced_rows.specs.Solutions.{scaled_column, column_products}
use Rattle.reduced_rows.specs.Spans.{IsReducedOf}
use Rattle.reduced_rows.proofs.InverseSums.{inverse_columns}
use Rattle.cayley.specs.Problems.{Point, Problem, IsProblem, point_at}
use Rattle.cayley.specs.Cells.{Cell, EachPair, IsOf}
use Rattle.cayley.specs.Rows.{edge_rows_from, edge_rows, edges}
use Rattle.cayley.proofs.OneCell.CellRows.{HaveLength, InRange, edge_long, dot-front, rows_count}
use Rattle.cayley.proofs.Algebra.RowDependencies.{IsDependency}
use Rattle.cayley.proofs.Algebra.ScaledInverse.{dot-nil}
use Rattle.inner_normal.specs.Inverses.{scaled_columns, inverse_of}
use Rattle.inner_normal.specs.Coefficients.{products}
use Rattle.inner_normal.proofs.RowUnits.{rows_units}

-- the products in the words of the law
products_are : (m off l : ℕ) (made : List (List ℤ)) (v : List ℤ) → column_products m off l made v ≡ products v (scaled_columns m off l made)
unfolding column_products
products_are zero off l made v = refl
products_are (suc m) off l made v = ap (λ xs. dot v (scaled_column off 0 l made) ∷ xs) (products_are m (suc off) l made v)

-- a product from a place on
dot-place : (r : List ℤ) (k : ℕ) (y : ℤ) (ys : List ℤ) → dot (drop k r) (y ∷ ys) ≡ y *ℤ at r k +ℤ pos 1 *ℤ dot (drop (suc k) r) ys
dot-place [] zero y ys = let z : y *ℤ pos 0 ≡ pos 0 = omega (arith, ints) in omega (arith, ints, z)
dot-place [] (suc k) y ys = let z : y *ℤ pos 0 ≡ pos 0 = omega (arith, ints) in omega (arith, ints, z)
dot-place (x ∷ r) zero y ys = step x y (dot r ys)
  where
    step : (x y d : ℤ) → x *ℤ y +ℤ d ≡ y *ℤ x +ℤ pos 1 *ℤ d
    step x y d = let c : x *ℤ y ≡ y *ℤ x = rw (as_D x, as_D y) (simp Ds (same_D _ _ _ _ (omega arith))) in omega (arith, ints, c)
dot-place (x ∷ r) (suc k) y ys = dot-place r k y ys

-- an equation in each of the first n columns is one for products
module _ (ms : List ℤ) (rows : List (List ℤ)) (d : List ℤ) (g : ℤ) (n : ℕ) (each : (e : ℕ) → e < n → g *ℤ at d e ≡ weigh ms rows (λ r. at r e)) where
  weigh-nothing : (ms : List ℤ) (rows : List (List ℤ)) → weigh ms rows (λ r. pos 0) ≡ pos 0
  weigh-nothing [] rows = refl
  weigh-nothing (m ∷ ms) [] = refl
  weigh-nothing (m ∷ ms) (r ∷ rows) = let z : m *ℤ pos 0 ≡ pos 0 = omega (arith, ints) in let e = weigh-nothing ms rows in omega (arith, ints, z, e)

  from_place : (y : List ℤ) (k : ℕ) → k + length y ≤ n → g *ℤ dot (drop k d) y ≡ weigh ms rows (λ r. dot (drop k r) y)
  from_place [] k l =
      ap (λ z. g *ℤ z) (dot-nil (drop k d)) ∙ zero_right g ∙ sym (weigh-same ms rows (λ r. dot (drop k r) []) (λ r. pos 0) (λ r. dot-nil (drop k r)) ∙ weigh-nothing ms rows)
    where
      zero_right : (g : ℤ) → g *ℤ pos 0 ≡ pos 0
      zero_right g = omega (arith, ints)
  from_place (y ∷ ys) k l =
      ap (λ z. g *ℤ z) (dot-place d k y ys)
      ∙ ring g y (at d k) (dot (drop (suc k) d) ys)
      ∙ ap₂ (λ a b. y *ℤ a +ℤ pos 1 *ℤ b) (each k (omega (arith, l))) (from_place ys (suc k) (omega (arith, l)))
      ∙ sym (weigh-lin ms rows y (pos 1) (λ r. at r k) (λ r. dot (drop (suc k) r) ys))
      ∙ sym (weigh-same ms rows (λ r. dot (drop k r) (y ∷ ys)) (λ r. y *ℤ at r k +ℤ pos 1 *ℤ dot (drop (suc k) r) ys) (λ r. dot-place r k y ys))
    where
      ring : (g y a b : ℤ) → g *ℤ (y *ℤ a +ℤ pos 1 *ℤ b) ≡ y *ℤ (g *ℤ a) +ℤ pos 1 *ℤ (g *ℤ b)
      ring g y a b = many (pos 1) g y a b
        where
          many : (o g y a b : ℤ) → g *ℤ (y *ℤ a +ℤ o *ℤ b) ≡ y *ℤ (g *ℤ a) +ℤ o *ℤ (g *ℤ b)
          many o g y a b = rw (as_D o, as_D g, as_D y, as_D a, as_D b) (simp Ds (same_D _ _ _ _ (omega arith)))

  pub for_products : (y : List ℤ) → length y ≡ n → g *ℤ dot d y ≡ weigh ms rows (λ r. dot r y)
  for_products y l = from_place y 0 (omega (arith, l))

-- the rows cut to their first n columns
rows_same : (n i : ℕ) (supports : List (List Point)) (cell : Cell) (ms y : List ℤ) → length y ≡ n → HaveLength n supports → EachPair supports cell InRange
    → weigh ms (edge_rows_from n i supports cell) (λ r. dot r y) ≡ weigh ms (edges supports cell) (λ r. dot r y)
rows_same n i supports cell [] y l well of = refl
rows_same n i [] cell (m ∷ ms) y l well of = refl
rows_same n i (s ∷ supports) [] (m ∷ ms) y l well of = refl
rows_same n i (s ∷ supports) (x ∷ cell) (m ∷ ms) y l well of =
    ap₂ (λ u w. m *ℤ u +ℤ w) (dot-front (sub (point_at s x.1).coordinates (point_at s x.0).coordinates) _ y (l ∙ sym (edge_long n s x.0 x.1 of.0 well.0)))
    (rows_same n (suc i) supports cell ms y l well.1 of.1)

-- minus the products at the rows, and the denominator at the vector
pub scaled_dependency : (p : Problem) (cell : Cell) → IsProblem p → IsOf p cell → (made : List (List ℤ)) → IsReducedOf p.dimension (edge_rows p cell) made → (d : List ℤ) → length d ≡ p.dimension
    → IsDependency p.dimension (edges p.supports cell) d (scale (neg_ℤ (pos 1)) (products d (inverse_of made).columns)) (inverse_of made).den
scaled_dependency p cell well of made r d long y ly =
    let n = p.dimension in
    let l = lcm_from 0 1 made in
    let given = edge_rows p cell in
    let off = ap (λ m. products d (scaled_columns m (m + 2) l made)) r.count in
    let ms = products d (scaled_columns n (n + 2) l made) in
    let each = λ (e : ℕ) (below : e < n). inverse_columns n (n + 2) given made d r (rows_units p cell well of) (rows_count p cell well of) long e below
    ∙ ap (λ ms. weigh ms given (λ g. at g e)) (products_are n (n + 2) l made d) in
    let sum = for_products ms given d (pos l) n each y ly in
    let cut = rows_same n 0 p.supports cell ms y ly well.points of in
    let minus = ap (λ ms. weigh (scale (neg_ℤ (pos 1)) ms) (edges p.supports cell) (λ r. dot r y)) off ∙ weigh-scale (neg_ℤ (pos 1)) ms (edges p.supports cell) (λ r. dot r y) in
    together (weigh (scale (neg_ℤ (pos 1)) (products d (inverse_of made).columns)) (edges p.supports cell) (λ r. dot r y)) (weigh ms (edges p.supports cell) (λ r. dot r y)) (pos l *ℤ dot d y) minus (sum ∙ cut)
  where
    together : (w u g : ℤ) → w ≡ neg_ℤ (pos 1) *ℤ u → g ≡ u → w +ℤ g ≡ pos 0
    together w u g e f = let m : neg_ℤ (pos 1) *ℤ u ≡ neg_ℤ u = omega (arith, ints) in omega (arith, ints, e, f, m)
