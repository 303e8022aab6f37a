-- the entries 0 of a cell's normals, and of the gaps under them, are told by v / den, which is level without infinitesimals
use Rattle.std.proofs.Common.{◌≡◌, List, [], ◌∷◌, length, arith, refl, sym, ap, ap₂, ◌∙◌, ◌<ℤ◌, inl, inr}
use Rattle.std.proofs.lemmas.Int.{ints}
use Rattle.std.proofs.lemmas.List.{length-map}
use Rattle.std.proofs.Math.IntN.{ℤ, pos, ◌+ℤ◌, ◌-ℤ◌, ◌*ℤ◌, neg_ℤ, *ℤ-zero}
use Rattle.wide_int.proofs.Ring.{as_D, Ds, same_D}
use Rattle.wide_int.proofs.Order.{sign_cases, mul_pos_ℤ, mul_pos_neg_ℤ, zero_product}
use Rattle.int_vectors.specs.Vectors.{IsZero, IsPositive, add, sub, scale, dot, at, entries_at}
use Rattle.int_vectors.proofs.Entries.{length-scale, at-zero}
use Rattle.cayley.specs.Times.{time_zero}
use Rattle.cayley.specs.Problems.{Point, Problem, point_at}
use Rattle.cayley.specs.Cells.{Cell, EachPair, IsIndependent}
use Rattle.cayley.specs.Normals.{Normal, height, gap, IsNormal}
use Rattle.cayley.specs.Mixed.{HasFirstEntries}
use Rattle.cayley.specs.Resting.{rise}
use Rattle.cayley.proofs.Algebra.ScaledInverse.{dot-add, dot-scale}
use Rattle.cayley.proofs.Algebra.RowNormals.{gap-at}
use Rattle.cayley.proofs.OneCell.CellNormals.{same_long}
use Rattle.cayley.proofs.OneCell.OneNormal.{same_lists}
use Rattle.cayley.proofs.Life.Targets.{positive_first}
use Rattle.inner_normal.proofs.PairEquations.{first_rise}

-- ---- entry 0 of a gap at time zero
pub gap_first : (w : Normal) (a c : Point) → at (gap time_zero w a c) 0 ≡ dot (sub c.coordinates a.coordinates) (entries_at 0 w.entries) +ℤ w.over *ℤ (c.base -ℤ a.base)
gap_first w a c =
    let d = sub c.coordinates a.coordinates in
    gap-at d w.entries (sub (height time_zero c) (height time_zero a)) (pos 1) w.over 0
    ∙ ap (λ z. pos 1 *ℤ dot d (entries_at 0 w.entries) +ℤ w.over *ℤ z) (first_rise time_zero a c)
    ∙ step (dot d (entries_at 0 w.entries)) w.over (c.base -ℤ a.base) (c.speed -ℤ a.speed)
  where
    step : (x o b s : ℤ) → pos 1 *ℤ x +ℤ o *ℤ (pos 1 *ℤ b +ℤ s *ℤ pos 0) ≡ x +ℤ o *ℤ b
    step x o b s = rw (*ℤ-zero s, plain b) (omega (arith, ints))
      where
        plain : (b : ℤ) → pos 1 *ℤ b +ℤ pos 0 ≡ b
        plain b = omega (arith, ints)

-- in proportion to the sum, where the normal's entries 0 are v / den
pub gap_rise : (w : Normal) (v : List ℤ) (den : ℤ) (a c : Point) → HasFirstEntries w v den → w.over *ℤ rise den v a c ≡ den *ℤ at (gap time_zero w a c) 0
gap_rise w v den a c e =
    let d = sub c.coordinates a.coordinates in
    let same = sym (dot-scale d w.over v) ∙ ap (dot d) e ∙ dot-scale d den (entries_at 0 w.entries) in
    ring w.over den (c.base -ℤ a.base) (dot d v) (dot d (entries_at 0 w.entries)) same ∙ ap (λ z. den *ℤ z) (sym (gap_first w a c))
  where
    open_left : (o den b x : ℤ) → o *ℤ (den *ℤ b +ℤ x) ≡ den *ℤ (o *ℤ b) +ℤ o *ℤ x
    open_left o den b x = rw (as_D o, as_D den, as_D b, as_D x) (simp Ds (same_D _ _ _ _ (omega arith)))

    open_right : (o den b y : ℤ) → den *ℤ (y +ℤ o *ℤ b) ≡ den *ℤ (o *ℤ b) +ℤ den *ℤ y
    open_right o den b y = rw (as_D o, as_D den, as_D b, as_D y) (simp Ds (same_D _ _ _ _ (omega arith)))

    ring : (o den b x y : ℤ) → o *ℤ x ≡ den *ℤ y → o *ℤ (den *ℤ b +ℤ x) ≡ den *ℤ (y +ℤ o *ℤ b)
    ring o den b x y h = let l = open_left o den b x in let r = open_right o den b y in omega (arith, ints, h, l, r)

-- ---- signs by entry 0
negative_by_first : (u : List ℤ) → at u 0 <ℤ pos 0 → ¬ (IsPositive u)
negative_by_first [] n p = p
negative_by_first (x ∷ u) n (inl p) = omega (arith, ints, n, p)
negative_by_first (x ∷ u) n (inr p) = let e = p.0 in omega (arith, ints, n, e)

module _ (w : Normal) (v : List ℤ) (den : ℤ) (a c : Point) (h : pos 0 <ℤ den) (e : HasFirstEntries w v den) where
  pub over_first : pos 0 <ℤ rise den v a c → IsPositive (gap time_zero w a c)
  over_first p =
      let g = at (gap time_zero w a c) 0 in
      let k = gap_rise w v den a c e in
      let q = mul_pos_ℤ w.over (rise den v a c) w.positive p in
      positive_first (gap time_zero w a c)
      (sign_cases g
      (λ n. absurd (let m = mul_pos_neg_ℤ den g h n in omega (arith, ints, k, q, m)))
      (λ z. absurd (let m = ap (λ y. den *ℤ y) z ∙ *ℤ-zero den in omega (arith, ints, k, q, m)))
      (λ r. r))

  pub below_first : rise den v a c <ℤ pos 0 → ¬ (IsPositive (gap time_zero w a c))
  below_first p =
      let g = at (gap time_zero w a c) 0 in
      let k = gap_rise w v den a c e in
      let q = mul_pos_neg_ℤ w.over (rise den v a c) w.positive p in
      negative_by_first (gap time_zero w a c)
      (sign_cases g
      (λ n. n)
      (λ z. absurd (let m = ap (λ y. den *ℤ y) z ∙ *ℤ-zero den in omega (arith, ints, k, q, m)))
      (λ r. absurd (let m = mul_pos_ℤ den g h r in omega (arith, ints, k, q, m))))

  pub level_first : rise den v a c ≡ pos 0 → at (gap time_zero w a c) 0 ≡ pos 0
  level_first z =
      let k = gap_rise w v den a c e in
      let q = ap (λ y. w.over *ℤ y) z ∙ *ℤ-zero w.over in
      elim (zero_product den (at (gap time_zero w a c) 0) (sym k ∙ q)) [ inl i ↦ absurd (omega (arith, ints, h, i)) | inr i ↦ i ]

-- and the other way round: a pair whose gap is zero has the sum 0
pub first_level : (w : Normal) (v : List ℤ) (den : ℤ) (a c : Point) → HasFirstEntries w v den → IsZero (gap time_zero w a c) → rise den v a c ≡ pos 0
first_level w v den a c e z =
    let k = gap_rise w v den a c e in
    let q = ap (λ y. den *ℤ y) (at-zero (gap time_zero w a c) 0 z) ∙ *ℤ-zero den in
    elim (zero_product w.over (rise den v a c) (k ∙ q)) [ inl i ↦ absurd (let h = w.positive in omega (arith, ints, h, i)) | inr i ↦ i ]

-- ---- the entries 0 of a cell's normal
-- a difference that is zero, of lists of one length
flat : (w : Normal) (v : List ℤ) (den : ℤ) (a c : Point) → rise den v a c ≡ pos 0 → IsZero (gap time_zero w a c)
    → dot (sub c.coordinates a.coordinates) (add (scale w.over v) (scale (neg_ℤ den) (entries_at 0 w.entries))) ≡ pos 0
flat w v den a c r z =
    let d = sub c.coordinates a.coordinates in
    let g = sym (gap_first w a c) ∙ at-zero (gap time_zero w a c) 0 z in
    dot-add d (scale w.over v) (scale (neg_ℤ den) (entries_at 0 w.entries)) ∙ ap₂ ◌+ℤ◌ (dot-scale d w.over v) (dot-scale d (neg_ℤ den) (entries_at 0 w.entries))
    ∙ ring w.over den (c.base -ℤ a.base) (dot d v) (dot d (entries_at 0 w.entries)) ∙ rw (r, g) (rw (*ℤ-zero w.over, *ℤ-zero (neg_ℤ den)) refl)
  where
    ring : (o den b x y : ℤ) → o *ℤ x +ℤ neg_ℤ den *ℤ y ≡ o *ℤ (den *ℤ b +ℤ x) +ℤ neg_ℤ den *ℤ (y +ℤ o *ℤ b)
    ring o den b x y = rw (as_D o, as_D den, as_D b, as_D x, as_D y) (simp Ds (same_D _ _ _ _ (omega arith)))

pub first_entries_of : (p : Problem) (cell : Cell) (v : List ℤ) (den : ℤ) (w : Normal) → length v ≡ p.dimension → IsIndependent p cell
    → EachPair p.supports cell (λ s a b. rise den v (point_at s a) (point_at s b) ≡ pos 0) → IsNormal p cell time_zero w → HasFirstEntries w v den
first_entries_of p cell v den w long ind levels n =
    let l : length (entries_at 0 w.entries) ≡ p.dimension = length-map w.entries (λ e. at e 0) ∙ n.0 in
    same_lists w.over den v (entries_at 0 w.entries) (long ∙ sym l)
    (ind _ (same_long (scale w.over v) (scale (neg_ℤ den) (entries_at 0 w.entries)) p.dimension (length-scale w.over v ∙ long) (length-scale (neg_ℤ den) (entries_at 0 w.entries) ∙ l))
    (each p.supports cell levels n.1))
  where
    each : (supports : List (List Point)) (cell : Cell) → EachPair supports cell (λ s a b. rise den v (point_at s a) (point_at s b) ≡ pos 0)
        → EachPair supports cell (λ s a b. IsZero (gap time_zero w (point_at s a) (point_at s b)))
        → EachPair supports cell (λ s a b. dot (sub (point_at s b).coordinates (point_at s a).coordinates) (add (scale w.over v) (scale (neg_ℤ den) (entries_at 0 w.entries))) ≡ pos 0)
    each [] [] r g = tt
    each [] (x ∷ cell) r g = r
    each (s ∷ supports) [] r g = r
    each (s ∷ supports) (x ∷ cell) r g = (flat w v den (point_at s x.0) (point_at s x.1) r.0 g.0, each supports cell r.1 g.1)
