-- the ranges of the supports of a problem, one after the other
use Rattle.std.proofs.Common.{◌≡◌, ◌⊎◌, ℕ, suc, ◌+◌, ◌-◌, ◌*◌, ◌^◌, ◌<◌, ◌≤◌, max, ℤ, pos, ◌-ℤ◌, unsigned_abs, List, [], ◌∷◌, length, take, drop, drop-cons, drop_of_length-le, get_or, arith, refl, ap, ap₂, sym, subst, ◌∙◌, inl, inr}
use Rattle.std.proofs.lemmas.Int.{ints}
use Rattle.std.specs.Prelude.{slice_index_or}
use native.Mathlib.Decide.{dec_le}
use Rattle.int_vectors.specs.Vectors.{Each, sub}
use Rattle.int_vectors.specs.Bounds.{size}
use Rattle.int_vectors.proofs.BoundSums.{abs_sub}
use Rattle.int_vectors.proofs.Differences.{sub-more}
use Rattle.int_vectors.proofs.BoundRows.{size-append}
use Rattle.cayley.specs.Cells.{Cell, IsOf}
use Rattle.cayley.specs.Problems.{Point, Problem, IsProblem, HasCorners, point_at}
use Rattle.cayley.specs.Valid.{IsValidProblem, support_at}
use Rattle.int_vectors.proofs.Each.{all_each}
use Rattle.cayley.proofs.Lists.Supports.{each_support_at, each_support_long, valid_points}
use Rattle.cayley.proofs.OneCell.CellRows.{each_position}
use Rattle.cone_walls.proofs.ProblemPoints.{IsNear}
use Rattle.elimination_bound.specs.Bounds.{sum_over}
use Rattle.cell_bound.specs.Ranges.{AreNear, AreAround, HasRange, AreBounds, FitsWhole}
use Rattle.cell_bound.proofs.Apart.{apart}
use Rattle.cell_bound.proofs.CellWorkings.{cells_fit}

-- ---- the sum of the differences of two points
pub spread_more : (xs ys : List ℤ) (i t t' u : ℕ) → length xs ≡ length ys → i < length xs → t ≡ size (sub (take i xs) (take i ys)) → u ≡ unsigned_abs (get_or xs i (pos 0) -ℤ get_or ys i (pos 0)) → t' ≡ t + u
    → t' ≡ size (sub (take (i + 1) xs) (take (i + 1) ys))
spread_more xs ys i t t' u l lt a b c =
    let e = ap size (sub-more xs ys i l lt) ∙ size-append (sub (take i xs) (take i ys)) (get_or xs i (pos 0) -ℤ get_or ys i (pos 0)) in
    omega (arith, a, b, c, e)

-- ---- all points near one
near_weaker : (f h g k : ℕ) (a c : Point) → f ≤ g → h ≤ k → AreNear f h a c → AreNear g k a c
near_weaker f h g k a c p q n = (omega (arith, n.0, p), omega (arith, n.1, q), omega (arith, n.2, q))

pub around_more : (s : List Point) (a index f h g k own own' : ℕ) → ((c : ℕ) → 1 ≤ c → c ≤ index → AreNear f h (point_at s a) (point_at s c))
    → AreNear own own' (point_at s a) (point_at s (index + 1)) → f ≤ g → h ≤ k → own ≤ g → own' ≤ k
    → (c : ℕ) → 1 ≤ c → c ≤ index + 1 → AreNear g k (point_at s a) (point_at s c)
around_more s a index f h g k own own' before here p q u v c least most = elim (next c index most) [
  | inl l ↦ near_weaker f h g k (point_at s a) (point_at s c) p q (before c least l)
  | inr e ↦ subst (λ z. AreNear g k (point_at s a) (point_at s z)) (sym e) (near_weaker own own' g k (point_at s a) (point_at s (index + 1)) u v here)
]
  where
    next : (c index : ℕ) → c ≤ index + 1 → (c ≤ index) ⊎ (c ≡ index + 1)
    next c index l = elim (dec_le c index) [ yes h ↦ inl h | no n ↦ inr (omega (arith, n, l)) ]

-- ---- twice as far from each other
between : (x y m : ℤ) (h : ℕ) → unsigned_abs (x -ℤ m) ≤ h → unsigned_abs (y -ℤ m) ≤ h → unsigned_abs (y -ℤ x) ≤ h * 2
between x y m h p q =
    let e : (y -ℤ m) -ℤ (x -ℤ m) ≡ y -ℤ x = omega (arith, ints) in
    let s = abs_sub (y -ℤ m) (x -ℤ m) in
    let t = subst (λ z. unsigned_abs z ≤ unsigned_abs (y -ℤ m) + unsigned_abs (x -ℤ m)) e s in
    omega (arith, t, p, q)

near_twice : (f h : ℕ) (m a c : Point) → length a.coordinates ≡ length m.coordinates → length c.coordinates ≡ length m.coordinates → AreNear f h m a → AreNear f h m c → AreNear (f * 2) (h * 2) a c
near_twice f h m a c la lc p q = (
  (let s = apart c.coordinates a.coordinates m.coordinates lc la in omega (arith, s, p.0, q.0)),
  between a.base c.base m.base h p.1 q.1,
  between a.speed c.speed m.speed h p.2 q.2,
)

module _ (p : Problem) (valid : IsValidProblem p) (i : ℕ) (least : 1 ≤ i) (greatest : i ≤ p.dimension) where
  inside : i - 1 < length p.supports
  inside = let n = valid.shape.problem.supports in omega (arith, n, least, greatest)

  -- no support is empty
  pub some_points : 1 ≤ length (support_at p i)
  some_points = by valid.shape.corners
    where
      few : length p.files ≡ length p.supports → 1 ≤ slice_index_or p.files (i - 1) 0
      few e = let l = inside in (all_each _ p.files valid.shape.counts (i - 1) 0 (omega (arith, e, l))).0

      by : HasCorners p → 1 ≤ length (support_at p i)
      by (inl h) = let f = few (each_support_long _ 1 p.files p.supports h) in let e = each_support_at _ 1 p.files p.supports h (i - 1) 0 [] inside in omega (arith, f, e)
      by (inr h) = let f = few (each_support_long _ 1 p.files p.supports h) in let e = each_support_at _ 1 p.files p.supports h (i - 1) 0 [] inside in omega (arith, f, e)

  long : (c : ℕ) → 1 ≤ c → c ≤ length (support_at p i) → length (point_at (support_at p i) c).coordinates ≡ p.dimension
  long c first last = (each_position (IsNear p.dimension) (support_at p i) c first last (all_each (λ s. Each s (IsNear p.dimension)) p.supports (valid_points p valid) (i - 1) [] inside)).0

  pub range_around : (f h g k m : ℕ) → 1 ≤ m → m ≤ length (support_at p i) → AreAround f h (support_at p i) m → f * 2 ≤ g → h * 2 ≤ k → HasRange g k (support_at p i)
  range_around f h g k m first last n u v a c a_least a_most c_least c_most =
      let s = support_at p i in
      near_weaker (f * 2) (h * 2) g k (point_at s a) (point_at s c) u v
      (near_twice f h (point_at s m) (point_at s a) (point_at s c) (long a a_least a_most ∙ sym (long m first last)) (long c c_least c_most ∙ sym (long m first last)) (n a a_least a_most) (n c c_least c_most))

-- ---- the bounds of the supports from one on
pub bounds_start : (n : ℕ) (supports : List (List Point)) → length supports ≡ n → AreBounds (drop (n - 0) supports) 1 0
bounds_start n supports e = subst (λ ss. AreBounds ss 1 0) (sym (drop_of_length-le supports (omega (arith, e)))) ([], [], tt, refl, refl)

-- one support more, with its range f and h
add_bounds : (s : List Point) (supports : List (List Point)) (f h front further : ℕ) → (1 ≤ f) × (1 ≤ h) × HasRange f h s → AreBounds supports front further → AreBounds (s ∷ supports) (f * front) (h * front + f * further)
add_bounds s supports f h front further r b = (
  f ∷ b.0,
  h ∷ b.1,
  ((r.0, r.1, r.2), b.2),
  ap (λ x. f * x) b.3,
  ap₂ (λ x y. h * x + f * y) b.3 b.4,
)

pub bounds_more : (p : Problem) (n k f h front further new kept sum times : ℕ) → length p.supports ≡ n → k < n → (1 ≤ f) × (1 ≤ h) × HasRange f h (support_at p (n - k))
    → new ≡ h * front → kept ≡ f * further → sum ≡ new + kept → times ≡ f * front
    → AreBounds (drop (n - k) p.supports) front further → AreBounds (drop (n - (k + 1)) p.supports) times sum
bounds_more p n k f h front further new kept sum times e lt r a b c d bounds =
    let here : n - (k + 1) < length p.supports = omega (arith, e, lt) in
    let j : n - k ≡ suc (n - (k + 1)) = omega (arith, lt) in
    let l : n - k - 1 ≡ n - (k + 1) = omega (arith, lt) in
    let made = add_bounds (support_at p (n - k)) (drop (n - k) p.supports) f h front further r bounds in
    let same : drop (n - (k + 1)) p.supports ≡ support_at p (n - k) ∷ drop (n - k) p.supports =
    drop-cons p.supports (n - (k + 1)) [] here ∙ ap₂ (λ x y. slice_index_or p.supports x [] ∷ drop y p.supports) (sym l) (sym j) in
    subst (λ ss. AreBounds ss times sum) (sym same)
    (subst (λ x. AreBounds (support_at p (n - k) ∷ drop (n - k) p.supports) x sum) (sym d)
    (subst (λ x. AreBounds (support_at p (n - k) ∷ drop (n - k) p.supports) (f * front) x) (ap₂ (λ x y. x + y) (sym a) (sym b) ∙ sym c) made))

pub bounds_end : (p : Problem) (n k front further : ℕ) → n ≤ k → AreBounds (drop (n - k) p.supports) front further → AreBounds p.supports front further
bounds_end p n k front further l b = let z : n - k ≡ 0 = omega (arith, l) in subst (λ x. AreBounds (drop x p.supports) front further) z b

-- the bounds tell of every cell
pub fits_by : (p : Problem) (front further : ℕ) → IsProblem p → AreBounds p.supports front further → 2 * (front * max front further) < 2 ^ 127 → (cell : Cell) → IsOf p cell → FitsWhole p cell
fits_by p front further well b l cell of =
    cells_fit p b.0 b.1 well
    (b.2, subst (λ x. 2 * (x * max x (sum_over b.1 b.0)) < 2 ^ 127) (sym b.3) (subst (λ y. 2 * (front * max front y) < 2 ^ 127) (sym b.4) l)) cell of
