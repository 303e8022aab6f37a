-- a cell of file points that is alive is alive among the file points alone, and its normal rests
use Rattle.std.proofs.Common.{◌≡◌, ℕ, ◌<◌, ◌≤◌, List, [], ◌∷◌, length, arith, ap₂, ◌∙◌}
use Rattle.std.proofs.lemmas.Int.{ints}
use Rattle.std.proofs.Math.IntN.{ℤ, pos, ◌+ℤ◌, ◌-ℤ◌, ◌*ℤ◌, neg_ℤ, *ℤ-zero}
use Rattle.wide_int.proofs.Ring.{as_D, Ds, same_D}
use Rattle.int_vectors.specs.Vectors.{IsZero, IsPositive, dot, at, sub, scale}
use Rattle.int_vectors.proofs.Entries.{at-scale, not_zero}
use Rattle.cayley.specs.Times.{Time, time_zero}
use Rattle.cayley.specs.Problems.{Point, Problem, IsProblem, IsStill, point_at, file_points}
use Rattle.cayley.specs.Cells.{Cell, EachPair, IsOf, IsIndependent, IsFurther}
use Rattle.cayley.specs.Normals.{Normal, gap, IsNormal, AllAbove}
use Rattle.cayley.specs.Mixed.{IsAlive, IsMixedCell}
use Rattle.cayley.specs.Valid.{IsValidProblem}
use Rattle.cayley.proofs.Order.Lexicographic.{positive-same, not_both, three}
use Rattle.cayley.proofs.OneCell.CellNormals.{a_normal}
use Rattle.cayley.proofs.OneCell.OneNormal.{alive_by_any_normal}
use Rattle.cayley.proofs.OneCell.RaisedRanks.{IsRankedAs, resting_value, still_gap, spread, spread_normal, positive_spread, zero_spread}
use Rattle.cayley.proofs.Ranking.FilePointRanks.{Alike, Alikes, file_points_alike}
use Rattle.cayley.proofs.Searching.FilePoints.{file_points_well}
use Rattle.cayley.proofs.Lists.Supports.{each_support_long}
use Rattle.cayley.proofs.Algebra.Dependence.{length-map}
use Rattle.cayley.proofs.Life.StillGaps.{gap_zero, gap_positive}
use Rattle.inner_normal.specs.declared.moving.MovingNormal.{MovingNormal}
use Rattle.inner_normal.specs.MovingNormals.{IsMovingNormal}
use Rattle.inner_normal.proofs.FileNormals.{levels_of}
use Rattle.inner_normal.proofs.PairEquations.{Levels}

abbrev Ordered : List Point → ℕ → ℕ → Type 0
Ordered s a b = (1 ≤ a) × (a < b) × (b ≤ length s)

-- ---- along both lists of supports
module _ (gs : List ℕ) where
  to_whole : (supports us : List (List Point)) (cell : Cell) (P Q : List Point → ℕ → ℕ → Type 0) → ((s u : List Point) (a b : ℕ) → Alike gs s u → Ordered u a b → P u a b → Q s a b)
      → Alikes gs supports us → EachPair us cell Ordered → EachPair us cell P → EachPair supports cell Q
  to_whole [] [] [] P Q h w o e = tt
  to_whole [] [] (x ∷ cell) P Q h w o e = e
  to_whole [] (u ∷ us) cell P Q h w o e = absurd w
  to_whole (s ∷ supports) [] cell P Q h w o e = absurd w
  to_whole (s ∷ supports) (u ∷ us) [] P Q h w o e = e
  to_whole (s ∷ supports) (u ∷ us) (x ∷ cell) P Q h w o e = (h s u x.0 x.1 w.0 o.0 e.0, to_whole supports us cell P Q h w.1 o.1 e.1)

  to_front : (supports us : List (List Point)) (cell : Cell) (P Q : List Point → ℕ → ℕ → Type 0) → ((s u : List Point) (a b : ℕ) → Alike gs s u → Ordered u a b → P s a b → Q u a b)
      → Alikes gs supports us → EachPair us cell Ordered → EachPair supports cell P → EachPair us cell Q
  to_front [] [] [] P Q h w o e = tt
  to_front [] [] (x ∷ cell) P Q h w o e = e
  to_front [] (u ∷ us) cell P Q h w o e = absurd w
  to_front (s ∷ supports) [] cell P Q h w o e = absurd w
  to_front (s ∷ supports) (u ∷ us) [] P Q h w o e = o
  to_front (s ∷ supports) (u ∷ us) (x ∷ cell) P Q h w o e = (h s u x.0 x.1 w.0 o.0 e.0, to_front supports us cell P Q h w.1 o.1 e.1)

  first_point : (s u : List Point) (a b : ℕ) → Alike gs s u → Ordered u a b → IsRankedAs gs (point_at s a) (point_at u a)
  first_point s u a b k o = k.file a o.0 (let l = o.1 in let m = o.2 in omega (arith, l, m))

  second_point : (s u : List Point) (a b : ℕ) → Alike gs s u → Ordered u a b → IsRankedAs gs (point_at s b) (point_at u b)
  second_point s u a b k o = k.file b (let l = o.0 in let m = o.1 in omega (arith, l, m)) o.2

-- the gap back is the gap times -1
gap_back : (v : Normal) (p q : Point) → p.speed ≡ pos 0 → q.speed ≡ pos 0 → IsPositive (scale (neg_ℤ (pos 1)) (gap time_zero v p q)) → IsPositive (gap time_zero v q p)
gap_back v p q sp sq h = positive-same (scale (neg_ℤ (pos 1)) (gap time_zero v p q)) _ same h
  where
    same : (e : ℕ) → at (scale (neg_ℤ (pos 1)) (gap time_zero v p q)) e ≡ at (gap time_zero v q p) e
    same e =
        let a = still_gap time_zero v p q e sp sq in
        let b = still_gap time_zero v q p e sq sp in
        let c = at-scale (neg_ℤ (pos 1)) (gap time_zero v p q) e in
        omega (arith, ints, a, b, c)

-- positive one way, so not positive the other way
back_not : (v : Normal) (p q : Point) → p.speed ≡ pos 0 → q.speed ≡ pos 0 → (t : Time) → IsPositive (gap t v p q) → ¬ (IsPositive (gap t v q p))
back_not v p q sp sq t h k =
    not_both (gap t v p q) h (positive-same (gap t v q p) _ same k)
  where
    same : (e : ℕ) → at (gap t v q p) e ≡ at (scale (neg_ℤ (pos 1)) (gap t v p q)) e
    same e =
        let a = still_gap t v p q e sp sq in
        let b = still_gap t v q p e sq sp in
        let c = at-scale (neg_ℤ (pos 1)) (gap t v p q) e in
        let d = turned t.over (resting_value v p e) (resting_value v q e) in
        omega (arith, ints, a, b, c, d)
      where
        turned : (o x y : ℤ) → o *ℤ (x -ℤ y) ≡ neg_ℤ (o *ℤ (y -ℤ x))
        turned o x y = rw (as_D o, as_D x, as_D y) (simp Ds (same_D _ _ _ _ (omega arith)))

module _ (gs : List ℕ) (p : Problem) (cell : Cell) (well : IsProblem p) (goal_well : IsProblem (file_points p)) (w : Alikes gs p.supports (file_points p).supports) (of : IsOf (file_points p) cell) (t : Time) (alive : IsAlive p cell t) where
  abbrev goal : Problem
  goal = file_points p

  independent : IsIndependent goal cell
  independent x l e =
      alive.1 x l
      (to_whole gs p.supports goal.supports cell
      (λ u a b. dot (sub (point_at u b).coordinates (point_at u a).coordinates) x ≡ pos 0) (λ s a b. dot (sub (point_at s b).coordinates (point_at s a).coordinates) x ≡ pos 0)
      (λ s u a b k o z. ap₂ (λ i j. dot (sub i j) x) (second_point gs s u a b k o).coordinates (first_point gs s u a b k o).coordinates ∙ z)
      w of e)

  n : (v : Normal) × IsNormal goal cell time_zero v
  n = a_normal goal cell goal_well of independent time_zero

  normal : IsNormal p cell t (spread_normal gs n.0)
  unfolding spread_normal
  normal = (
    length-map (spread gs) n.0.entries ∙ n.1.0,
    to_whole gs p.supports goal.supports cell
        (λ u a b. IsZero (gap time_zero n.0 (point_at u a) (point_at u b))) (λ s a b. IsZero (gap t (spread_normal gs n.0) (point_at s a) (point_at s b)))
        (λ s u a b k o z.
        let ra = first_point gs s u a b k o in
        let rb = second_point gs s u a b k o in
        gap_zero time_zero t (spread_normal gs n.0) (point_at s a) (point_at s b) ra.still rb.still (zero_spread gs n.0 (point_at u a) (point_at u b) (point_at s a) (point_at s b) ra rb z))
        w of n.1.1,
  )

  above : AllAbove goal cell time_zero n.0
  above =
      to_front gs p.supports goal.supports cell
      (λ s a b. (c : ℕ) → IsFurther s a b c → IsPositive (gap t (spread_normal gs n.0) (point_at s a) (point_at s c))) (λ u a b. (c : ℕ) → IsFurther u a b c → IsPositive (gap time_zero n.0 (point_at u a) (point_at u c)))
      (λ s u a b k o h c f.
      let l = k.long in
      let m = f.1 in
      let ra = first_point gs s u a b k o in
      let rc = k.file c f.0 f.1 in
      let high = h c (f.0, omega (arith, l, m), f.2, f.3) in
      three (gap time_zero n.0 (point_at u a) (point_at u c))
      (λ low. absurd (back_not (spread_normal gs n.0) (point_at s a) (point_at s c) ra.still rc.still t high
      (gap_positive time_zero t (spread_normal gs n.0) (point_at s c) (point_at s a) rc.still ra.still
      (positive_spread gs n.0 (point_at u c) (point_at u a) (point_at s c) (point_at s a) rc ra (gap_back n.0 (point_at u a) (point_at u c) ra.still_too rc.still_too low)))))
      (λ z. absurd (not_zero _ high (gap_zero time_zero t (spread_normal gs n.0) (point_at s a) (point_at s c) ra.still rc.still (zero_spread gs n.0 (point_at u a) (point_at u c) (point_at s a) (point_at s c) ra rc z))))
      (λ g. g))
      w of ((alive_by_any_normal p cell t (spread_normal gs n.0) well alive.0 alive.1 normal).0 alive)

  mixed_from : IsMixedCell p cell
  mixed_from = (of, independent, (n.0, n.1, above))

-- ---- of a valid problem
pub files_long : (p : Problem) → IsValidProblem p → length p.files ≡ length p.supports
files_long p valid = each_support_long _ 1 p.files p.supports valid.limits

pub mixed_alive : (p : Problem) (cell : Cell) → IsValidProblem p → IsStill p → IsOf (file_points p) cell → (t : Time) → IsAlive p cell t → IsMixedCell p cell
mixed_alive p cell valid still of t alive =
    let w = file_points_alike p valid.ranks still valid.shape.moving in
    mixed_from w.0 p cell valid.shape.problem (file_points_well p valid.shape.problem (files_long p valid)) w.1 of t alive

-- the normal of a cell of file points rests
pub resting_normal : (p : Problem) (cell : Cell) (m : MovingNormal) → IsValidProblem p → IsStill p → IsOf (file_points p) cell → IsMovingNormal p cell m → IsZero m.q
resting_normal p cell m valid still of moving =
    let w = file_points_alike p valid.ranks still valid.shape.moving in
    moving.independent m.q moving.long.1 (flat w.0 p.supports (file_points p).supports cell w.1 of (levels_of p cell m moving))
  where
    rest : (d x y z : ℤ) → x ≡ pos 0 → y ≡ pos 0 → z +ℤ d *ℤ (y -ℤ x) ≡ pos 0 → z ≡ pos 0
    rest d x y z a b e = let c : d *ℤ (y -ℤ x) ≡ pos 0 = rw (a, b) (*ℤ-zero d) in omega (arith, ints, c, e)

    flat : (gs : List ℕ) (supports us : List (List Point)) (cell : Cell) → Alikes gs supports us → EachPair us cell Ordered → EachPair supports cell (Levels m.den m.p m.q)
        → EachPair supports cell (λ s a b. dot (sub (point_at s b).coordinates (point_at s a).coordinates) m.q ≡ pos 0)
    flat gs [] [] [] w o e = tt
    flat gs [] [] (x ∷ cell) w o e = e
    flat gs [] (u ∷ us) cell w o e = absurd w
    flat gs (s ∷ supports) [] cell w o e = absurd w
    flat gs (s ∷ supports) (u ∷ us) [] w o e = e
    flat gs (s ∷ supports) (u ∷ us) (x ∷ cell) w o e = (
      rest m.den (point_at s x.0).speed (point_at s x.1).speed _ (first_point gs s u x.0 x.1 w.0 o.0).still (second_point gs s u x.0 x.1 w.0 o.0).still e.0.1,
      flat gs supports us cell w.1 o.1 e.1,
    )
