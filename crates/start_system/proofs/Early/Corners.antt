-- the corners alone have one mixed cell: the start cell
use Rattle.std.proofs.Common.{◌≡◌, ◌≢◌, ◌⊎◌, ℕ, zero, suc, ◌+◌, ◌-◌, ◌<◌, ◌≤◌, List, [], ◌∷◌, length, arith, refl, sym, ap, ap₂, subst, ◌∙◌, inl, inr, ◌<ℤ◌}
use Rattle.std.proofs.lemmas.Int.{ints}
use Rattle.std.proofs.Math.IntN.{ℤ, pos, ◌+ℤ◌, ◌-ℤ◌, ◌*ℤ◌, neg_ℤ, *ℤ-zero}
use native.Mathlib.Decide.{ℕ_discrete}
use Rattle.int_vectors.specs.Vectors.{IsZero, IsPositive, dot, at, sub, scale, entries_at, row_at}
use Rattle.cayley.specs.Times.{Time}
use Rattle.cayley.specs.Problems.{Point, Problem, point_at}
use Rattle.cayley.specs.Paths.{start_pairs, start_cell}
use Rattle.cayley.specs.Cells.{Cell}
use Rattle.cayley.specs.Normals.{Normal, height, gap}
use Rattle.cayley.specs.Mixed.{IsAlive}
use Rattle.cayley.specs.Lives.{AliveEarly}
use Rattle.wide_int.proofs.Ring.{as_D, Ds, same_D, mul_neg_ℤ}
use Rattle.wide_int.proofs.Order.{mul_pos_ℤ}
use Rattle.int_vectors.proofs.Entries.{at-scale, zero_from, at-zero}
use Rattle.cayley.proofs.Order.Lexicographic.{minus_one, positive-scale}
use Rattle.cayley.proofs.Order.Lines.{NotNegative}
use Rattle.cayley.proofs.OneCell.CellLines.{base_of, height-at}
use Rattle.cayley.proofs.OneCell.Neighbours.{potential, gap-potential}
use Rattle.cayley.proofs.Life.Targets.{positive_first}
use Rattle.cayley.proofs.OneCell.OneDependency.{minus-at}
use Rattle.cayley.proofs.Lists.Pairs.{pairs_both}
use Rattle.start_system.proofs.Path.Hull.{dot_corner}
use Rattle.start_system.proofs.Path.Shape.{Shape, Shapes, EachFrom, from_both, from_shapes}
use Rattle.start_system.proofs.Path.Forms.{Longs, HasForm}
use Rattle.start_system.proofs.Early.FilePoints.{NoneBelowAt, alive_none_below, earlier_time, early_corners}
use Rattle.start_system.proofs.Early.Values.{sum_positive, not_negative_scale, at-entry, least_value, base_first, base_nothing, not_above_first, not_above_second}

module _ (n i : ℕ) (s : List Point) (h : Shape n i s) (t : Time) (v : Normal) where
  abbrev pub first_corner : Point
  first_corner = point_at s (suc h.f)

  abbrev pub corner_to : ℕ → Point
  corner_to k = point_at s (h.f + suc (suc k))

  -- what its start height and its rank give to the height of the corner of direction k
  rise : ℕ → List ℤ
  rise k = scale t.over (base_of (corner_to k))

  rise-at : (k e : ℕ) → at (rise k) e ≡ t.over *ℤ at (base_of (corner_to k)) e
  unfolding rise
  rise-at k e = at-scale t.over (base_of (corner_to k)) e

  first_potential : (e : ℕ) → potential t v first_corner e ≡ t.over *ℤ dot h.m (entries_at e v.entries) +ℤ v.over *ℤ at t.entries e
  unfolding potential
  first_potential e =
      let p : Point = record { coordinates = h.m; base = pos 0; speed = pos 1; rank = 0 } in
      let a = height-at t p e in
      let b = ap (λ x. t.over *ℤ x) (base_nothing p refl refl e) ∙ *ℤ-zero t.over in
      ap (λ (q : Point). t.over *ℤ dot q.coordinates (entries_at e v.entries) +ℤ v.over *ℤ at (height t q) e) h.first
      ∙ ap (λ x. t.over *ℤ dot h.m (entries_at e v.entries) +ℤ v.over *ℤ x) (omega (arith, ints, a, b))

  corner_potential : (k e : ℕ) → k < n
      → potential t v (corner_to k) e ≡ t.over *ℤ (dot h.m (entries_at e v.entries) +ℤ h.d *ℤ at (row_at v.entries k) e) +ℤ v.over *ℤ (at (rise k) e +ℤ at t.entries e)
  unfolding potential
  corner_potential k e l =
      let c = h.directions k l in
      let a = height-at t (corner_to k) e in
      let r = rise-at k e in
      let sp = ap (λ x. x *ℤ at t.entries e) c.speed in
      ap₂ (λ x y. t.over *ℤ x +ℤ v.over *ℤ y)
      (ap (λ z. dot z (entries_at e v.entries)) c.coordinates ∙ dot_corner h.m k h.d (entries_at e v.entries) ∙ ap (λ x. dot h.m (entries_at e v.entries) +ℤ h.d *ℤ x) (at-entry v.entries k e))
      (omega (arith, ints, a, r, sp))

  factor : ℤ
  factor = t.over *ℤ h.d

  factor_positive : pos 0 <ℤ factor
  unfolding factor
  factor_positive = mul_pos_ℤ t.over h.d t.positive h.positive

  from_first : (k e : ℕ) → k < n → at (gap t v first_corner (corner_to k)) e ≡ at (scale factor (row_at v.entries k)) e +ℤ at (scale v.over (rise k)) e
  unfolding factor
  from_first k e l =
      let a = gap-potential t v first_corner (corner_to k) e in
      let b = first_potential e in
      let c = corner_potential k e l in
      let r = ring t.over h.d v.over (dot h.m (entries_at e v.entries)) (at (row_at v.entries k) e) (at (rise k) e) (at t.entries e) in
      let x = at-scale (t.over *ℤ h.d) (row_at v.entries k) e in
      let y = at-scale v.over (rise k) e in
      omega (arith, ints, a, b, c, r, x, y)
    where
      ring : (q d z m x w p : ℤ) → q *ℤ (m +ℤ d *ℤ x) +ℤ z *ℤ (w +ℤ p) -ℤ (q *ℤ m +ℤ z *ℤ p) ≡ q *ℤ d *ℤ x +ℤ z *ℤ w
      ring q d z m x w p = rw (as_D q, as_D d, as_D z, as_D m, as_D x, as_D w, as_D p) (simp Ds (same_D _ _ _ _ (omega arith)))

  rise_own : (k : ℕ) → k < n → k ≡ i → IsZero (scale v.over (rise k))
  rise_own k l e =
      let c = (h.directions k l).own e in
      zero_from _ (λ j.
      at-scale v.over (rise k) j ∙ ap (λ x. v.over *ℤ x) (rise-at k j ∙ ap (λ x. t.over *ℤ x) (base_nothing (corner_to k) c.0 c.1 j) ∙ *ℤ-zero t.over) ∙ *ℤ-zero v.over)

  rise_other : (k : ℕ) → k < n → k ≢ i → IsPositive (scale v.over (rise k))
  rise_other k l a =
      positive-scale v.over (rise k) v.positive
      (positive_first _ (rw (rise-at k 0, base_first (corner_to k)) (mul_pos_ℤ t.over (corner_to k).base t.positive ((h.directions k l).other a))))

  -- from the first corner
  pub other_above_first : (k : ℕ) → k < n → k ≢ i → NotNegative (row_at v.entries k) → IsPositive (gap t v first_corner (corner_to k))
  other_above_first k l a p =
      sum_positive _ (scale v.over (rise k)) (scale factor (row_at v.entries k)) (rise_other k l a) (not_negative_scale factor (row_at v.entries k) factor_positive p)
      (λ e. let x = from_first k e l in omega (arith, ints, x))

  -- where the own value is zero, the own direction's corner is level with the first
  pub start_level : i < n → IsZero (row_at v.entries i) → IsZero (gap t v first_corner (corner_to i))
  start_level l z = zero_from _ (λ e.
      let a = from_first i e l in
      let b = at-zero (scale v.over (rise i)) e (rise_own i l refl) in
      let c = at-scale factor (row_at v.entries i) e ∙ ap (λ x. factor *ℤ x) (at-zero (row_at v.entries i) e z) ∙ *ℤ-zero factor in
      omega (arith, ints, a, b, c))

  -- from the own direction's corner, where its value is least and negative
  pub first_above_own : i < n → IsPositive (scale (neg_ℤ (pos 1)) (row_at v.entries i)) → IsPositive (gap t v (corner_to i) first_corner)
  first_above_own l p =
      sum_positive _ (scale factor (scale (neg_ℤ (pos 1)) (row_at v.entries i))) [] (positive-scale factor _ factor_positive p) (inr tt) (λ e.
      let a = gap-potential t v (corner_to i) first_corner e in
      let b = gap-potential t v first_corner (corner_to i) e in
      let c = from_first i e l in
      let z = at-zero (scale v.over (rise i)) e (rise_own i l refl) in
      let x = at-scale factor (row_at v.entries i) e in
      let y = at-scale factor (scale (neg_ℤ (pos 1)) (row_at v.entries i)) e ∙ ap (λ w. factor *ℤ w) (at-scale (neg_ℤ (pos 1)) (row_at v.entries i) e ∙ minus_one (at (row_at v.entries i) e)) ∙ mul_neg_ℤ factor (at (row_at v.entries i) e) in
      omega (arith, ints, a, b, c, z, x, y))

  pub other_above_own : (k : ℕ) → i < n → k < n → k ≢ i → NotNegative (sub (row_at v.entries k) (row_at v.entries i)) → IsPositive (gap t v (corner_to i) (corner_to k))
  other_above_own k li l a p =
      let w = sub (row_at v.entries k) (row_at v.entries i) in
      sum_positive _ (scale v.over (rise k)) (scale factor w) (rise_other k l a) (not_negative_scale factor w factor_positive p) (λ e.
      let g = gap-potential t v (corner_to i) (corner_to k) e in
      let gi = gap-potential t v first_corner (corner_to i) e in
      let gk = gap-potential t v first_corner (corner_to k) e in
      let ci = from_first i e li in
      let ck = from_first k e l in
      let z = at-zero (scale v.over (rise i)) e (rise_own i li refl) in
      let xi = at-scale factor (row_at v.entries i) e in
      let xk = at-scale factor (row_at v.entries k) e in
      let y = at-scale factor w e ∙ ap (λ x. factor *ℤ x) (minus-at (row_at v.entries k) (row_at v.entries i) e) ∙ apart factor (at (row_at v.entries k) e) (at (row_at v.entries i) e) in
      omega (arith, ints, g, gi, gk, ci, ck, z, xi, xk, y))
    where
      apart : (d p b : ℤ) → d *ℤ (p -ℤ b) ≡ d *ℤ p -ℤ d *ℤ b
      apart d p b = rw (as_D d, as_D p, as_D b) (simp Ds (same_D _ _ _ _ (omega arith)))

  -- ---- a corner is the first or one of a direction
  pub which : {P : Type 0} (c : ℕ) → h.f < c → c ≤ h.f + suc n → (c ≡ suc h.f → P) → ((k : ℕ) → k < n → c ≡ h.f + suc (suc k) → P) → P
  which c l m x y = elim (ℕ_discrete c (suc h.f)) [
    | yes e ↦ x e
    | no a ↦ y (c - (h.f + 2)) (omega arith) (omega arith)
  ]

  -- all is above the own direction's corner: no pair
  pub none_negative : (a b : ℕ) → i < n → h.f < a → a < b → b ≤ length s → IsZero (gap t v (point_at s a) (point_at s b)) → NoneBelowAt t v s a
      → IsPositive (scale (neg_ℤ (pos 1)) (row_at v.entries i)) → ((k : ℕ) → k < n → NotNegative (sub (row_at v.entries k) (row_at v.entries i))) → ⊥
  none_negative a b li la lab lb z low negative least =
      let own = h.f + suc (suc i) in
      let e = h.long in
      let below : NotNegative (gap t v (point_at s a) (corner_to i)) = low own (omega arith) (omega (arith, e, li)) in
      let above : (c : ℕ) → h.f < c → c ≤ h.f + suc n → (c ≡ own) ⊎ IsPositive (gap t v (corner_to i) (point_at s c)) = λ c l m.
      which c l m
      (λ x. inr (subst (λ j. IsPositive (gap t v (corner_to i) (point_at s j))) (sym x) (first_above_own li negative)))
      (λ k lk x. elim (ℕ_discrete k i) [
        | yes y ↦ inl (x ∙ ap (λ j. h.f + suc (suc j)) y)
        | no y ↦ inr (subst (λ j. IsPositive (gap t v (corner_to i) (point_at s j))) (sym x) (other_above_own k li lk y (least k lk)))
      ]) in
      elim (above a la (omega (arith, e))) [
        | inr p ↦ not_above_first t v (point_at s a) (corner_to i) below p
        | inl x ↦ elim (above b (omega arith) (omega (arith, e))) [
          | inr p ↦ not_above_second t v (point_at s a) (point_at s b) (corner_to i) z below p
          | inl y ↦ omega arith
        ]
      ]

  -- where no value is negative, the pair is the first corner and the own direction's
  pub only_start : (a b : ℕ) → h.f < a → a < b → b ≤ length s → IsZero (gap t v (point_at s a) (point_at s b)) → NoneBelowAt t v s a
      → ((k : ℕ) → k < n → NotNegative (row_at v.entries k)) → (a ≡ suc h.f) × (b ≡ h.f + suc (suc i))
  only_start a b la lab lb z low others =
      let e = h.long in
      let below : NotNegative (gap t v (point_at s a) first_corner) = low (suc h.f) (omega arith) (omega (arith, e)) in
      let own = h.f + suc (suc i) in
      let above : (c : ℕ) → h.f < c → c ≤ h.f + suc n → ((c ≡ suc h.f) ⊎ (c ≡ own)) ⊎ IsPositive (gap t v first_corner (point_at s c)) = λ c l m.
      which c l m (λ x. inl (inl x))
      (λ k lk x. elim (ℕ_discrete k i) [
        | yes y ↦ inl (inr (x ∙ ap (λ j. h.f + suc (suc j)) y))
        | no y ↦ inr (subst (λ j. IsPositive (gap t v first_corner (point_at s j))) (sym x) (other_above_first k lk y (others k lk)))
      ]) in
      elim (above a la (omega (arith, e))) [
        | inr p ↦ absurd (not_above_first t v (point_at s a) first_corner below p)
        | inl x ↦ elim (above b (omega arith) (omega (arith, e))) [
          | inr p ↦ absurd (not_above_second t v (point_at s a) (point_at s b) first_corner z below p)
          | inl y ↦ ends x y
        ]
      ]
    where
      ends : (a ≡ suc h.f) ⊎ (a ≡ h.f + suc (suc i)) → (b ≡ suc h.f) ⊎ (b ≡ h.f + suc (suc i)) → (a ≡ suc h.f) × (b ≡ h.f + suc (suc i))
      ends (inl x) (inl y) = absurd (omega arith)
      ends (inl x) (inr y) = (x, y)
      ends (inr x) (inl y) = absurd (omega arith)
      ends (inr x) (inr y) = absurd (omega arith)

-- ---- all supports
-- the pair's points are corners and no point of the support is below
abbrev CornerPair : ℕ → Time → Normal → ℕ → List Point → ℕ → ℕ → Type 0
CornerPair n t v i s a b = ((h : Shape n i s) → h.f < a) × (a < b) × (b ≤ length s) × IsZero (gap t v (point_at s a) (point_at s b)) × NoneBelowAt t v s a

-- the first corner and the own direction's
abbrev pub StartPair : ℕ → ℕ → List Point → ℕ → ℕ → Type 0
StartPair n i s a b = (h : Shape n i s) → (a ≡ suc h.f) × (b ≡ h.f + suc (suc i))

from_map : (i : ℕ) (supports : List (List Point)) (cell : Cell) (P Q : ℕ → List Point → ℕ → ℕ → Type 0)
    → ((i : ℕ) (s : List Point) (a b : ℕ) → P i s a b → Q i s a b) → EachFrom i supports cell P → EachFrom i supports cell Q
from_map i [] [] P Q f e = tt
from_map i [] (x ∷ cell) P Q f e = e
from_map i (s ∷ supports) [] P Q f e = e
from_map i (s ∷ supports) (x ∷ cell) P Q f e = (f i s x.0 x.1 e.0, from_map (suc i) supports cell P Q f e.1)

pub from_pick : (n i j : ℕ) (supports : List (List Point)) (cell : Cell) (P : ℕ → List Point → ℕ → ℕ → Type 0) → Shapes n i supports → EachFrom i supports cell P → j < length supports
    → (s : List Point) × (a : ℕ) × (b : ℕ) × Shape n (i + j) s × P (i + j) s a b
from_pick n i j [] [] P w e l = absurd (omega arith)
from_pick n i j [] (x ∷ cell) P w e l = absurd e
from_pick n i j (s ∷ supports) [] P w e l = absurd e
from_pick n i zero (s ∷ supports) (x ∷ cell) P w e l =
    let o : i ≡ i + 0 = omega arith in
    (s, x.0, x.1, subst (λ k. Shape n k s) o w.0, subst (λ k. P k s x.0 x.1) o e.0)
from_pick n i (suc j) (s ∷ supports) (x ∷ cell) P w e l =
    let o : suc i + j ≡ i + suc j = omega arith in
    let r = from_pick n (suc i) j supports cell P w.1 e.1 (omega arith) in
    (r.0, r.1, r.2, subst (λ k. Shape n k r.0) o r.3, subst (λ k. P k r.0 r.1 r.2) o r.4)

only_start_pairs : (n : ℕ) (supports : List (List Point)) (cell : Cell) (t : Time) (v : Normal) → Shapes n 0 supports → length supports ≡ n → length v.entries ≡ n
    → EachFrom 0 supports cell (CornerPair n t v) → EachFrom 0 supports cell (StartPair n)
only_start_pairs n supports cell t v w ls lv e = elim (least_value v.entries) [
  | inl none ↦ from_map 0 supports cell (CornerPair n t v) (StartPair n) (λ i s a b p h. only_start n i s h t v a b (p.0 h) p.1 p.2 p.3 p.4 (λ k l. none k (omega arith))) e
  | inr q ↦
      let l = q.is in
      let i = q.i in
      let o : 0 + i ≡ i = omega arith in
      let r = from_pick n 0 i supports cell (CornerPair n t v) w e (omega (arith, l)) in
      let h = subst (λ k. Shape n k r.0) o r.3 in
      let p = subst (λ k. CornerPair n t v k r.0 r.1 r.2) o r.4 in
      absurd (none_negative n i r.0 h t v r.1 r.2 (omega (arith, l)) (p.0 h) p.1 p.2 p.3 p.4 q.negative (λ k m. q.least k (omega arith)))
]

-- a cell of corners that is alive at some time is the start cell
corners_start : (n : ℕ) (p : Problem) (cell : Cell) (t : Time) → Shapes n 0 p.supports → length p.supports ≡ n → p.dimension ≡ n → IsAlive p cell t
    → EachFrom 0 p.supports cell (λ i s a b. (h : Shape n i s) → h.f < a) → EachFrom 0 p.supports cell (StartPair n)
corners_start n p cell t w ls ld alive corners =
    let v = alive.2.0 in
    let is = alive.2.1 in
    let low = alive_none_below p cell t v is alive.2.2 in
    let Z : List Point → ℕ → ℕ → Type 0 = λ s a b. IsZero (gap t v (point_at s a) (point_at s b)) in
    let L : List Point → ℕ → ℕ → Type 0 = λ s a b. NoneBelowAt t v s a in
    let O : List Point → ℕ → ℕ → Type 0 = λ s a b. (1 ≤ a) × (a < b) × (b ≤ length s) in
    let ZL : List Point → ℕ → ℕ → Type 0 = λ s a b. IsZero (gap t v (point_at s a) (point_at s b)) × NoneBelowAt t v s a in
    let R : List Point → ℕ → ℕ → Type 0 = λ s a b. (a < b) × (b ≤ length s) × IsZero (gap t v (point_at s a) (point_at s b)) × NoneBelowAt t v s a in
    let zl = pairs_both p.supports cell Z L ZL (λ s a b z y. (z, y)) is.1 low in
    let r = pairs_both p.supports cell O ZL R (λ s a b o x. (o.1, o.2, x.0, x.1)) alive.0 zl in
    let all = from_shapes n 0 p.supports cell R (λ i s a b. R s a b) (λ i s a b h x. x) w r in
    only_start_pairs n p.supports cell t v w ls (is.0 ∙ ld) (from_both 0 p.supports cell (λ i s a b. (h : Shape n i s) → h.f < a) (λ i s a b. R s a b) (CornerPair n t v) (λ i s a b c x. (c, x.0, x.1, x.2, x.3)) corners all)

-- ---- as positions
start_cell_is : (n i : ℕ) (files : List ℕ) (supports : List (List Point)) (cell : Cell) → Longs n i files supports → Shapes n i supports → EachFrom i supports cell (StartPair n) → cell ≡ start_pairs (suc i) files
start_cell_is n i [] [] [] l w e = refl
start_cell_is n i [] [] (x ∷ cell) l w e = absurd e
start_cell_is n i [] (s ∷ supports) cell l w e = absurd l
start_cell_is n i (f ∷ files) [] cell l w e = absurd l
start_cell_is n i (f ∷ files) (s ∷ supports) [] l w e = absurd e
start_cell_is n i (f ∷ files) (s ∷ supports) (x ∷ cell) l w e =
    let o = w.0.long in
    let q = l.0.1 in
    let p = e.0 w.0 in
    ap₂ (λ (y : ℕ × ℕ) (c : Cell). y ∷ c)
    (ap₂ (λ (j k : ℕ). (j, k)) (let a = p.0 in omega (arith, a, o, q)) (let b = p.1 in omega (arith, b, o, q)))
    (start_cell_is n (suc i) files supports cell l.1 w.1 e.1)

-- a cell that is alive at all early times is the start cell
pub early_is_start : (p : Problem) (cell : Cell) → HasForm p → AliveEarly p cell → cell ≡ start_cell p
early_is_start p cell w early =
    let x = earlier_time early.0 in
    start_cell_is p.dimension 0 p.files p.supports cell w.long w.shapes
    (corners_start p.dimension p cell x.0 w.shapes w.supports refl (early.1 x.0 x.1) (early_corners p.dimension p cell w.shapes early))
