-- every number of a cell's working fits where the ranges do
use Rattle.std.proofs.Common.{max, ◌≡◌, ℕ, zero, suc, ◌+◌, ◌*◌, ◌<◌, ◌≤◌, ◌^◌, ℤ, pos, ◌*ℤ◌, ◌-ℤ◌, unsigned_abs, List, [], ◌∷◌, length, Ok, arith, ap, sym, subst, ◌∙◌}
use Rattle.std.proofs.Math.Nat.{le-max_right}
use Rattle.std.proofs.lemmas.Nat.{mul-le}
use Rattle.int_vectors.specs.Vectors.{sub}
use Rattle.int_vectors.specs.Bounds.{size}
use Rattle.reduced_rows.specs.Steps.{OfLength, elimination}
use Rattle.reduced_rows.specs.Denominators.{lcm_from, shares}
use Rattle.reduced_rows.proofs.Outcome.{reduced_means}
use Rattle.reduced_rows.specs.CellRefusals.{FitsBeyond}
use Rattle.inner_normal.specs.Coefficients.{FitsCircuit}
use Rattle.cayley.specs.Problems.{Point, Problem, IsProblem, point_at}
use Rattle.cayley.specs.Cells.{Cell, EachPair, IsOf, IsFurther}
use Rattle.cayley.specs.Rows.{edge_rows}
use Rattle.cayley.proofs.OneCell.CellRows.{InRange, rows_count, rows_width}
use Rattle.int_vectors.specs.Fits.{FitsSum}
use Rattle.cone_walls.specs.Numbers.{FitsWall}
use Rattle.cone_walls.specs.Workings.{normal_of_rows, FitsSupport, FitsWalls}
use Rattle.elimination_bound.specs.Bounds.{front_bound, column_bound, product, sum_over}
use Rattle.elimination_bound.specs.Laws.{FitsSolutions}
use Rattle.elimination_bound.proofs.Ahead.{solutions_fit_ahead, sums_fit}
use Rattle.elimination_bound.proofs.ByFactors.{bounds_by_factors, fits_by_bounds}
use Rattle.cell_bound.specs.Ranges.{FitsWhole, RowsFit, PointBelow, PointsBelow, AreNear, HasRange, HaveRanges, FitsByRanges, CellFits, CellsFit}
use Rattle.cell_bound.specs.OwnLines.{FitOwnLines}
use Rattle.cell_bound.proofs.RowRanges.{rows_within}
use Rattle.cell_bound.proofs.Circuits.{circuit_fits}
use Rattle.cayley.specs.Dependencies.{pair_at, IsFurtherAt, nth_support}
use Rattle.cayley.proofs.Lists.Pairs.{pairs_map}

product_some : (fs hs : List ℕ) (supports : List (List Point)) → HaveRanges fs hs supports → 1 ≤ product fs
product_some [] hs supports w = omega arith
product_some (f ∷ fs) [] supports w = absurd w
product_some (f ∷ fs) (h ∷ hs) [] w = absurd w
product_some (f ∷ fs) (h ∷ hs) (s ∷ supports) w = step f (product fs) w.0.0 (product_some fs hs supports w.1)
  where
    step : (x p : ℕ) → 1 ≤ x → 1 ≤ p → 1 ≤ x * p
    step zero p a b = absurd (omega (arith, a))
    step (suc x) p a b = omega (arith, b)

-- with q the product of the supports before: the products of a support's own numbers
own_room : (q f h p s n t : ℕ) → 1 ≤ q → 1 ≤ p → q * (f * p) ≡ n → q * (h * p + f * s) ≤ t → n * h + f * t ≤ 2 * (n * t)
own_room zero f h p s n t a b e l = absurd (omega (arith, a))
own_room (suc q) f h zero s n t a b e l = absurd (omega (arith, b))
own_room (suc q) f h (suc p) s n t a b e l =
    let first : (suc q * (f * suc p)) * h ≤ f * (suc q * (h * suc p + f * s)) = omega arith in
    let second = mul-le f (suc q * (h * suc p + f * s)) f t (omega arith) l in
    let f_below : f ≤ suc q * (f * suc p) = omega arith in
    let third = mul-le f t n t (omega (arith, f_below, e)) (omega arith) in
    let fourth = ap (λ m. m * h) e in
    omega (arith, first, second, third, fourth)

-- the room of a further point, from that of all
point_room : (m t : ℕ) (supports : List (List Point)) (cell : Cell) (j c : ℕ) → EachPair supports cell (λ s a b. (c : ℕ) → IsFurther s a b c → PointBelow m t (point_at s a) (point_at s c))
    → IsFurther (nth_support supports j) (pair_at cell j).0 (pair_at cell j).1 c
    → PointBelow m t (point_at (nth_support supports j) (pair_at cell j).0) (point_at (nth_support supports j) c)
point_room m t [] [] j c h f = absurd (omega (arith, f.0, f.1))
point_room m t [] (x ∷ cell) j c h f = absurd h
point_room m t (s ∷ supports) [] j c h f = absurd h
point_room m t (s ∷ supports) (x ∷ cell) zero c h f = h.0 c f
point_room m t (s ∷ supports) (x ∷ cell) (suc j) c h f = point_room m t supports cell j c h.1 f

module _ (p : Problem) (cell : Cell) (front further : ℕ) (well : IsProblem p) (of : IsOf p cell) (fits : RowsFit front further p cell) where
  abbrev n : ℕ
  n = p.dimension

  abbrev width : ℕ
  width = p.dimension + suc (suc p.dimension)

  abbrev rows : List (List ℤ)
  rows = edge_rows p cell

  long : OfLength width rows
  long = rows_width p cell well of

  beyond : FitsBeyond n rows (FitsSolutions n)
  beyond = solutions_fit_ahead n width rows long (fits_by_bounds n width front further rows fits.0 fits.1)

  module _ (made : List (List ℤ)) (e : elimination n rows ≡ Ok made) where
    count : length made ≡ n
    count = (reduced_means n width rows made (rows_count p cell well of) long e).count

    -- one sum of a wall line
    sum_fits_at : (c : ℕ) (height : ℤ) (v : List ℤ) → n ≤ c → front * unsigned_abs height + size v * further < 2 ^ 127
        → FitsSum (pos (lcm_from 0 1 made) *ℤ height) v (shares c 0 (lcm_from 0 1 made) made)
    sum_fits_at c height v le b =
        let x = mul-le (front_bound n rows) (unsigned_abs height) front (unsigned_abs height) fits.0.0 (omega arith) in
        let y = mul-le (size v) (column_bound n c rows) (size v) further (omega arith) (fits.0.1 c le) in
        sums_fit n width c rows made height v long e le (omega (arith, x, y, b))

    wall_fits : (a c : Point) → PointBelow front further a c → FitsWall (normal_of_rows made) a c
    wall_fits a c below = (
      subst (λ m. FitsSum (pos (lcm_from 0 1 made) *ℤ (c.base -ℤ a.base)) (sub c.coordinates a.coordinates) (shares m 0 (lcm_from 0 1 made) made)) (sym count)
          (sum_fits_at n (c.base -ℤ a.base) (sub c.coordinates a.coordinates) (omega arith) below.0),
      subst (λ m. FitsSum (pos (lcm_from 0 1 made) *ℤ (c.speed -ℤ a.speed)) (sub c.coordinates a.coordinates) (shares (suc m) 0 (lcm_from 0 1 made) made)) (sym count)
          (sum_fits_at (suc n) (c.speed -ℤ a.speed) (sub c.coordinates a.coordinates) (omega arith) below.1),
    )

    walls_fit : PointsBelow front further p cell → FitsWalls p cell (normal_of_rows made)
    walls_fit w = pairs_map p.supports cell (λ s a b. (c : ℕ) → IsFurther s a b c → PointBelow front further (point_at s a) (point_at s c)) (FitsSupport (normal_of_rows made))
        (λ s a b h c further. wall_fits (point_at s a) (point_at s c) (h c further)) w

    circuits_fit : PointsBelow front further p cell → (j c : ℕ) → IsFurtherAt p cell j c → FitsCircuit p cell j c made
    circuits_fit w j c at_j = (circuit_fits p cell j c front further well of fits (point_room front further p.supports cell j c w at_j).2).1 made e

  pub fits_whole : PointsBelow front further p cell → FitsWhole p cell
  fits_whole w = (
    beyond.0,
    (λ made e.
        let t = beyond.1 made e in
        let circuits = circuits_fit made e w in
        (((t.0, t.1 n (omega arith), t.1 (suc n) (omega arith)), walls_fit made e w, (λ v. circuits)), circuits)),
  )

  -- the lines of the pairs' own second points
  pub own_lines_fit : EachPair p.supports cell (λ s a b. PointBelow front further (point_at s a) (point_at s b)) → FitOwnLines p cell
  own_lines_fit w made e = pairs_map p.supports cell (λ s a b. PointBelow front further (point_at s a) (point_at s b)) (λ s a b. FitsWall (normal_of_rows made) (point_at s a) (point_at s b))
      (λ s a b below. wall_fits made e (point_at s a) (point_at s b) below) w

pub cell_fits : CellFits
cell_fits p cell front further well of fits w = fits_whole p cell front further well of fits w

-- ---- by ranges
near_below : (m t f h : ℕ) (a c : Point) → 1 ≤ h → AreNear f h a c → m * h + f * t < 2 ^ 127 → PointBelow m t a c
near_below m t f h a c some near b =
    let d = mul-le (size (sub c.coordinates a.coordinates)) t f t near.0 (omega arith) in
    let x = mul-le m (unsigned_abs (c.base -ℤ a.base)) m h (omega arith) near.1 in
    let y = mul-le m (unsigned_abs (c.speed -ℤ a.speed)) m h (omega arith) near.2 in
    let z = mul-le m 1 m h (omega arith) some in
    (omega (arith, d, x, b), omega (arith, d, y, b), omega (arith, d, z, b))

-- the second point of a pair and each further point are near the first
abbrev AllBelow : ℕ → ℕ → List Point → ℕ → ℕ → Type 0
AllBelow m t s a b = PointBelow m t (point_at s a) (point_at s b) × ((c : ℕ) → IsFurther s a b c → PointBelow m t (point_at s a) (point_at s c))

range_below : (m t f h : ℕ) (s : List Point) (a b : ℕ) → 1 ≤ h → HasRange f h s → InRange s a b → m * h + f * t < 2 ^ 127 → AllBelow m t s a b
range_below m t f h s a b some near r l =
    let first : a ≤ length s = omega (arith, r.1, r.2) in (
      near_below m t f h (point_at s a) (point_at s b) some (near a b r.0 first (omega (arith, r.0, r.1)) r.2) l,
      (λ c further. near_below m t f h (point_at s a) (point_at s c) some (near a c r.0 first further.0 further.1) l),
    )

-- ---- all cells
total : (fs hs : List ℕ) → 2 * (product fs * max (product fs) (sum_over hs fs)) < 2 ^ 127 → 2 * (product fs * sum_over hs fs) < 2 ^ 127
total fs hs f =
    let m = mul-le (product fs) (sum_over hs fs) (product fs) (max (product fs) (sum_over hs fs)) (omega arith) (le-max_right (product fs) (sum_over hs fs)) in
    omega (arith, m, f)

-- q is the product of the numbers before
supports_below : (m t q : ℕ) (gs ks : List ℕ) (supports : List (List Point)) (cell : Cell) → 2 * (m * t) < 2 ^ 127 → 1 ≤ q → q * product gs ≡ m → q * sum_over ks gs ≤ t
    → HaveRanges gs ks supports → EachPair supports cell InRange → EachPair supports cell (AllBelow m t)
supports_below m t q [] [] [] [] f one e l w o = tt
supports_below m t q [] [] [] (x ∷ cell) f one e l w o = absurd o
supports_below m t q [] [] (s ∷ supports) cell f one e l w o = absurd w
supports_below m t q [] (k ∷ ks) supports cell f one e l w o = absurd w
supports_below m t q (g ∷ gs) [] supports cell f one e l w o = absurd w
supports_below m t q (g ∷ gs) (k ∷ ks) [] cell f one e l w o = absurd w
supports_below m t q (g ∷ gs) (k ∷ ks) (s ∷ supports) [] f one e l w o = absurd o
supports_below m t q (g ∷ gs) (k ∷ ks) (s ∷ supports) (x ∷ cell) f one e l w o =
    let some = product_some gs ks supports w.1 in
    let room = own_room q g k (product gs) (sum_over ks gs) m t one some e l in (
      range_below m t g k s x.0 x.1 w.0.1 w.0.2 o.0 (omega (arith, room, f)),
      supports_below m t (q * g) gs ks supports cell f (least q g one w.0.0) (assoc q g (product gs) ∙ e) (next q g k (product gs) (sum_over ks gs) t l) w.1 o.1,
    )
  where
    least : (q g : ℕ) → 1 ≤ q → 1 ≤ g → 1 ≤ q * g
    least zero g a b = absurd (omega (arith, a))
    least (suc q) g a b = omega (arith, b)

    assoc : (q g m : ℕ) → q * g * m ≡ q * (g * m)
    assoc q g m = omega arith

    next : (q g k m s t : ℕ) → q * (k * m + g * s) ≤ t → q * g * s ≤ t
    next q g k m s t h = omega (arith, h)

module _ (p : Problem) (fs hs : List ℕ) (well : IsProblem p) (fits : FitsByRanges fs hs p) (cell : Cell) (of : IsOf p cell) where
  rows_fit : RowsFit (product fs) (sum_over hs fs) p cell
  rows_fit = (bounds_by_factors p.dimension fs hs (edge_rows p cell) (rows_within p.dimension 0 fs hs p.supports cell fits.0 well.points of), fits.1)

  all_below : EachPair p.supports cell (AllBelow (product fs) (sum_over hs fs))
  all_below = supports_below (product fs) (sum_over hs fs) 1 fs hs p.supports cell (total fs hs fits.1) (omega arith) (omega arith) (omega arith) fits.0 of

  whole_fits : FitsWhole p cell
  whole_fits = fits_whole p cell (product fs) (sum_over hs fs) well of rows_fit
      (pairs_map p.supports cell (AllBelow (product fs) (sum_over hs fs)) (λ s a b. (c : ℕ) → IsFurther s a b c → PointBelow (product fs) (sum_over hs fs) (point_at s a) (point_at s c)) (λ s a b h. h.1) all_below)

  pub own_lines : FitOwnLines p cell
  own_lines = own_lines_fit p cell (product fs) (sum_over hs fs) well of rows_fit
      (pairs_map p.supports cell (AllBelow (product fs) (sum_over hs fs)) (λ s a b. PointBelow (product fs) (sum_over hs fs) (point_at s a) (point_at s b)) (λ s a b h. h.0) all_below)

pub cells_fit : CellsFit
cells_fit = whole_fits
