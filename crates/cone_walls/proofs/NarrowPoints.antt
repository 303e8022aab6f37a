-- the lines of a problem's points stay below 2 ^ 62 where the room of the normal is narrow
use Rattle.std.proofs.Common.{◌≡◌, ℕ, ◌^◌, ◌<◌, ◌≤◌, length, arith, sym, ◌∙◌, unsigned_abs, ◌*ℤ◌, ◌-ℤ◌, neg_ℤ, ℤ}
use Rattle.std.proofs.lemmas.Int.{unsigned_abs-mul}
use Rattle.std.proofs.lemmas.Nat.{mul-le}
use Rattle.int_vectors.proofs.BoundSums.{abs_neg}
use Rattle.wide_int.specs.Whole.{FitsWhole}
use Rattle.int_vectors.specs.Vectors.{Each, sub}
use Rattle.int_vectors.specs.Bounds.{IsNarrow}
use Rattle.cayley.specs.Problems.{Point, Problem, point_at, with_rank}
use Rattle.cayley.specs.Valid.{IsValidProblem, support_at}
use Rattle.inner_normal.specs.declared.moving.MovingNormal.{MovingNormal}
use Rattle.cone_walls.specs.Numbers.{alpha, beta}
use Rattle.cone_walls.specs.Rooms.{IsNarrowOf}
use Rattle.cone_walls.specs.NarrowLines.{IsNearPoint, IsNarrowLine}
use Rattle.cone_walls.proofs.ProblemPoints.{near_point}
use Rattle.cone_walls.proofs.RoomAround.{within_each, high_point, point_within, narrow_at, fast_point, fast_between, end_below}

pub narrow_den : (p : Problem) (m : MovingNormal) → IsNarrowOf p m → IsNarrow m.den
narrow_den p m (w, n, wp, wq, reach, k) = let d = k.0 in omega (arith, d)

narrow_p : (p : Problem) (m : MovingNormal) → IsNarrowOf p m → Each m.p IsNarrow
narrow_p p m (w, n, wp, wq, reach, k) = within_each w m.p k.1 wp

pub narrow_q : (p : Problem) (m : MovingNormal) → IsNarrowOf p m → Each m.q IsNarrow
narrow_q p m (w, n, wp, wq, reach, k) = within_each w m.q k.1 wq

module _ (p : Problem) (valid : IsValidProblem p) (m : MovingNormal) (p_long : length m.p ≡ p.dimension) (q_long : length m.q ≡ p.dimension) (room : IsNarrowOf p m) (i : ℕ) (least : 1 ≤ i) (greatest : i ≤ p.dimension) where
  pub near : (k : ℕ) → 1 ≤ k → k ≤ length (support_at p i) → (x : Point) → x ≡ with_rank 0 (point_at (support_at p i) k) → IsNearPoint m x
  near k first last x e =
      let n = near_point p valid i k least greatest first last x e in record {
        p_long = n.0 ∙ sym p_long;
        q_long = n.0 ∙ sym q_long;
        small = n.1;
        high = high_point p valid i k least greatest first last x e;
        fast = fast_point p valid i k least greatest first last x e;
      }

  pub narrow_between : (k c : ℕ) → (1 ≤ k) × (k ≤ length (support_at p i)) → (1 ≤ c) × (c ≤ length (support_at p i)) → (x y : Point) → x ≡ with_rank 0 (point_at (support_at p i) k) → y ≡ with_rank 0 (point_at (support_at p i) c) → IsNarrowLine m x y
  narrow_between k c hk hc x y e f =
      let a = near k hk.0 hk.1 x e in
      let b = near c hc.0 hc.1 y f in
      let d = valid.shape.dimension in record {
        den = narrow_den p m room;
        p_small = narrow_p p m room;
        q_small = narrow_q p m room;
        from = a;
        to = b;
        room = narrow_at p m x y room a.p_long b.p_long (q_long ∙ sym p_long) (omega (arith, p_long, d)) a.high b.high (fast_between y.speed x.speed b.fast a.fast)
            (λ n within. (point_within p valid i k least greatest hk.0 hk.1 x e n within, point_within p valid i c least greatest hc.0 hc.1 y f n within));
      }

pub whole : (n : ℕ) → n < 2 ^ 62 → n < 2 ^ 127
whole n h = omega (arith, h)

pub alpha_narrow : (m : MovingNormal) (a c : Point) → IsNarrowLine m a c → IsNarrow (alpha m a c)
alpha_narrow m a c n = end_below (2 ^ 62) (m.den *ℤ (c.base -ℤ a.base)) (sub c.coordinates a.coordinates) m.p n.room.0

pub beta_narrow : (m : MovingNormal) (a c : Point) → IsNarrowLine m a c → IsNarrow (beta m a c)
beta_narrow m a c n = end_below (2 ^ 62) (m.den *ℤ (c.speed -ℤ a.speed)) (sub c.coordinates a.coordinates) m.q n.room.1

pub alpha_fits : (m : MovingNormal) (a c : Point) → IsNarrowLine m a c → FitsWhole (alpha m a c)
alpha_fits m a c n = whole (unsigned_abs (alpha m a c)) (end_below (2 ^ 62) (m.den *ℤ (c.base -ℤ a.base)) (sub c.coordinates a.coordinates) m.p n.room.0)

pub beta_fits : (m : MovingNormal) (a c : Point) → IsNarrowLine m a c → FitsWhole (beta m a c)
beta_fits m a c n = whole (unsigned_abs (beta m a c)) (end_below (2 ^ 62) (m.den *ℤ (c.speed -ℤ a.speed)) (sub c.coordinates a.coordinates) m.q n.room.1)

-- the product of two numbers
pub product_below : (a b : ℤ) → IsNarrow a → IsNarrow b → unsigned_abs (a *ℤ b) < 2 ^ 127
product_below a b p q =
    let e = unsigned_abs-mul a b in
    let m = mul-le (unsigned_abs a) (unsigned_abs b) (2 ^ 62) (2 ^ 62) (omega (arith, p)) (omega (arith, q)) in
    omega (arith, e, m)

pub narrow_neg : (a : ℤ) → IsNarrow a → IsNarrow (neg_ℤ a)
narrow_neg a p = let e = abs_neg a in omega (arith, e, p)
