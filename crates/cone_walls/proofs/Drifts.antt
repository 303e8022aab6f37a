-- the drift of a point, and its room
use Rattle.std.proofs.Common.{◌≡◌, ℕ, ◌+◌, ◌*◌, ◌^◌, ◌<◌, ◌≤◌, ℤ, pos, ◌+ℤ◌, ◌-ℤ◌, ◌*ℤ◌, unsigned_abs, List, [], ◌∷◌, length, get_or, drop, arith, sym, ap, ap₂, subst, ◌∙◌, FitsSigned, drop_of_length-le}
use Rattle.std.proofs.Math.IntN.{+ℤ_assoc, +ℤ_idr}
use Rattle.std.specs.Int.{w64}
use Rattle.std.proofs.lemmas.Int.{unsigned_abs-mul, fits_signed_from_abs}
use Rattle.wide_int.proofs.Ring.{as_D, Ds, same_D}
use Rattle.int_vectors.specs.Vectors.{dot, sub}
use Rattle.int_vectors.specs.Bounds.{size, Within, Room, IsNarrow}
use Rattle.int_vectors.proofs.BoundSums.{mul_le, room_at}
use Rattle.int_vectors.proofs.DifferenceSums.{sub_at, long_sub}
use Rattle.int_vectors.proofs.DotSteps.{dot-step}
use Rattle.cayley.specs.Problems.{Point, Problem, point_at, with_rank}
use Rattle.cayley.specs.Valid.{IsValidProblem, support_at}
use Rattle.cayley.proofs.OneCell.Neighbours.{dot-sub}
use Rattle.inner_normal.specs.declared.moving.MovingNormal.{MovingNormal}
use Rattle.cone_walls.specs.Numbers.{beta, drift}
use Rattle.cone_walls.specs.Rooms.{IsSpeed, IsNarrowRoom, IsNarrowOf}
use Rattle.cone_walls.specs.NarrowLines.{IsNarrowLine, IsNarrowDrift}
use Rattle.cone_walls.proofs.RoomAround.{point_within}
use Rattle.cone_walls.proofs.NarrowPoints.{near, narrow_den, narrow_q, beta_narrow}

-- ---- the sum with the product at one more place
module _ (t u : ℤ) (c v : List ℤ) (i : ℕ) (lc : i < length c) (lv : i < length v) (e : u ≡ t +ℤ get_or c i (pos 0) *ℤ get_or v i (pos 0)) where
  pub place_value : u +ℤ dot (drop (i + 1) c) (drop (i + 1) v) ≡ t +ℤ dot (drop i c) (drop i v)
  place_value =
      ap (λ z. z +ℤ dot (drop (i + 1) c) (drop (i + 1) v)) e
      ∙ +ℤ_assoc t (get_or c i (pos 0) *ℤ get_or v i (pos 0)) (dot (drop (i + 1) c) (drop (i + 1) v))
      ∙ ap (λ z. t +ℤ z) (sym (dot-step c v i lc lv))

  pub place_room : Room (2 ^ 62) t (drop i c) (drop i v) → Room (2 ^ 62) u (drop (i + 1) c) (drop (i + 1) v)
  place_room r = subst (λ z. Room (2 ^ 62) z (drop (i + 1) c) (drop (i + 1) v)) (sym e) (room_at (2 ^ 62) t c v i lc lv r).2

-- past the last place
pub sum_end : (start t : ℤ) (c v : List ℤ) (i : ℕ) → length c ≡ length v → length v ≤ i → t +ℤ dot (drop i c) (drop i v) ≡ start +ℤ dot c v → t ≡ start +ℤ dot c v
sum_end start t c v i lc le e =
    let d : drop i c ≡ [] = drop_of_length-le c (omega (arith, lc, le)) in
    sym (+ℤ_idr t) ∙ (rw d at e)

-- ---- the same of a difference
module _ (t u : ℤ) (a c v : List ℤ) (i : ℕ) (la : length a ≡ length v) (lc : length c ≡ length v) (lt : i < length v) (e : u ≡ t +ℤ (get_or c i (pos 0) -ℤ get_or a i (pos 0)) *ℤ get_or v i (pos 0)) where
  inside : i < length (sub c a)
  inside = let l = long_sub c a (lc ∙ sym la) in omega (arith, l, lc, lt)

  same : u ≡ t +ℤ get_or (sub c a) i (pos 0) *ℤ get_or v i (pos 0)
  same = e ∙ ap (λ x. t +ℤ x *ℤ get_or v i (pos 0)) (sym (sub_at c a i (omega (arith, lc, lt)) (lc ∙ sym la)))

  pub difference_value : u +ℤ dot (drop (i + 1) (sub c a)) (drop (i + 1) v) ≡ t +ℤ dot (drop i (sub c a)) (drop i v)
  difference_value = place_value t u (sub c a) v i inside lt same

  pub difference_room : Room (2 ^ 62) t (drop i (sub c a)) (drop i v) → Room (2 ^ 62) u (drop (i + 1) (sub c a)) (drop (i + 1) v)
  difference_room r = place_room t u (sub c a) v i inside lt same r

pub difference_end : (start t : ℤ) (a c v : List ℤ) (i : ℕ) → length a ≡ length v → length c ≡ length v → length v ≤ i → t +ℤ dot (drop i (sub c a)) (drop i v) ≡ start +ℤ dot (sub c a) v → t ≡ start +ℤ dot (sub c a) v
difference_end start t a c v i la lc le e = sum_end start t (sub c a) v i (long_sub c a (lc ∙ sym la) ∙ lc) le e

-- a line grows by what its point drifts more than the first point of the pair
pub growth_is : (m : MovingNormal) (a c : Point) → drift m c -ℤ drift m a ≡ beta m a c
growth_is m a c = step m.den c.speed a.speed (dot c.coordinates m.q) (dot a.coordinates m.q) ∙ ap (λ z. m.den *ℤ (c.speed -ℤ a.speed) +ℤ z) (sym (dot-sub c.coordinates a.coordinates m.q))
  where
    step : (d x y s t : ℤ) → (d *ℤ x +ℤ s) -ℤ (d *ℤ y +ℤ t) ≡ d *ℤ (x -ℤ y) +ℤ (s -ℤ t)
    step d x y s t = rw (as_D d, as_D x, as_D y, as_D s, as_D t) (simp Ds (same_D _ _ _ _ (omega arith)))

pub growth_fits : (m : MovingNormal) (a c : Point) (from to : ℤ) → IsNarrowLine m a c → from ≡ drift m a → to ≡ drift m c → FitsSigned w64 (to -ℤ from)
growth_fits m a c from to n e f = fits_signed_from_abs w64 _ (step (to -ℤ from) (subst IsNarrow (sym (ap₂ ◌-ℤ◌ f e ∙ growth_is m a c)) (beta_narrow m a c n)))
  where
    step : (z : ℤ) → IsNarrow z → unsigned_abs z < 2 ^ 63
    step z h = omega (arith, h)

-- ---- its room
size_within : (r : ℕ) (c : List ℤ) → Within r c → size c ≤ length c * r
size_within r [] h = omega arith
size_within r (x ∷ c) h =
    let a = h.0 in
    let b = size_within r c h.1 in
    omega (arith, a, b)

drift_sum : (d h p s n r w : ℕ) → d < 2 ^ 29 → h ≤ 2000000000 → p ≡ d * h → s ≤ n * r → n ≤ 16 → w * r < 2 ^ 56 → p + s * w < 2 ^ 62
drift_sum d h p s n r w x y e z l k =
    let q = mul_le d h 2000000000 y in
    let u = mul_le w s (n * r) z in
    let v = mul_le (w * r) n 16 l in
    omega (arith, q, u, v, x, e, k)

drift_room : (den h : ℤ) (c v : List ℤ) → length c ≤ 16 → IsSpeed h → (w : ℕ) → Within w v → (r : ℕ) → Within r c → IsNarrowRoom den w r → Room (2 ^ 62) (den *ℤ h) c v
drift_room den h c v short high w within r p k = (
  w,
  within,
  drift_sum (unsigned_abs den) (unsigned_abs h) (unsigned_abs (den *ℤ h)) (size c) (length c) r w k.0 high (unsigned_abs-mul den h) (size_within r c p) short k.2,
)

module _ (p : Problem) (valid : IsValidProblem p) (m : MovingNormal) (p_long : length m.p ≡ p.dimension) (q_long : length m.q ≡ p.dimension) (room : IsNarrowOf p m) (i : ℕ) (least : 1 ≤ i) (greatest : i ≤ p.dimension) where
  pub narrow_drift : (k : ℕ) → (1 ≤ k) × (k ≤ length (support_at p i)) → (x : Point) → x ≡ with_rank 0 (point_at (support_at p i) k) → IsNarrowDrift m x
  narrow_drift k hk x e =
      let n = near p valid m p_long q_long room i least greatest k hk.0 hk.1 x e in record {
        den = narrow_den p m room;
        q_small = narrow_q p m room;
        near = n;
        room = at_room room n.q_long n.fast;
      }
    where
      at_room : IsNarrowOf p m → length x.coordinates ≡ length m.q → IsSpeed x.speed → Room (2 ^ 62) (m.den *ℤ x.speed) x.coordinates m.q
      at_room (w, n, wp, wq, reach, bounds) long fast =
          drift_room m.den x.speed x.coordinates m.q (let d = valid.shape.dimension in omega (arith, long, q_long, d)) fast w wq n
          (point_within p valid i k least greatest hk.0 hk.1 x e n reach) bounds
