-- bounds on a normal leave room for the numbers of its wall lines
use Rattle.std.proofs.Common.{◌≡◌, ℕ, suc, ◌+◌, ◌-◌, ◌*◌, ◌^◌, ◌<◌, ◌≤◌, ℤ, pos, ◌+ℤ◌, ◌-ℤ◌, ◌*ℤ◌, neg_ℤ, unsigned_abs, List, [], ◌∷◌, length, take, drop, arith, sym, subst, ap, ap₂, ◌∙◌, take-append-drop}
use Rattle.std.proofs.lemmas.Int.{ints, unsigned_abs-mul}
use Rattle.wide_int.specs.Whole.{FitsWhole}
use Rattle.int_vectors.specs.Vectors.{Each, sub, dot}
use Rattle.int_vectors.specs.Fits.{FitsSum}
use Rattle.int_vectors.specs.Bounds.{size, Within, Room, IsNarrow}
use Rattle.int_vectors.proofs.BoundSums.{abs_add, abs_sub, abs_dot, mul_le, room_fits, start_below}
use Rattle.cayley.specs.Problems.{Point, Problem, EachSupport, point_at, with_rank}
use Rattle.cayley.specs.Valid.{IsValidProblem, IsCornerCoordinate, IsHeight, IsWithinProblem, IsWithinCorners, IsCornerBase, support_at}
use Rattle.cayley.specs.Reaches.{IsWithinReach}
use Rattle.cayley.proofs.OneCell.CellRows.{each_position}
use Rattle.int_vectors.proofs.Each.{all_each, each_append, each_weaker}
use Rattle.inner_normal.specs.declared.moving.MovingNormal.{MovingNormal}
use Rattle.cone_walls.specs.Rooms.{IsSpeed, IsNarrowRoom, IsWideRoom, HasRoom, IsRoomOf, IsRoomAt, IsNarrowOf}
use Rattle.cone_walls.specs.declared.rooms.Room.TheVariants as room
use Rattle.cone_walls.specs.declared.rooms.Room as declared
use Rattle.cone_walls.specs.Numbers.{alpha, beta, FitsWall}
use Rattle.cone_walls.specs.Listed.{line_of}
use Rattle.lex_height.specs.declared.part.LexPart.{LexPart}
use Rattle.lex_height.specs.Values.{AreParts}
use Rattle.crossing.specs.declared.fine.TheConstants.{FINE_PARTS}
use Rattle.crossing.specs.Lines.{FitsLine}
use Rattle.crossing.specs.declared.line.WallLine.{WallLine}

pub within_each : (w : ℕ) (xs : List ℤ) → w < 2 ^ 61 → Within w xs → Each xs IsNarrow
within_each w [] h k = tt
within_each w (x ∷ xs) h k = ((let a = k.0 in omega (arith, a, h)), within_each w xs h k.1)

pub near_within : (xs : List ℤ) → Each xs IsCornerCoordinate → Within 33000000 xs
near_within [] e = tt
near_within (x ∷ xs) e = (e.0, near_within xs e.1)

-- ---- sizes
pub size_between : (r : ℕ) (c a : List ℤ) → Within r c → Within r a → length c ≡ length a → size (sub c a) ≤ length c * (r + r)
size_between r [] [] p q l = omega arith
size_between r [] (y ∷ a) p q l = absurd (omega arith)
size_between r (x ∷ c) [] p q l = absurd (omega arith)
size_between r (x ∷ c) (y ∷ a) p q l =
    let h : x +ℤ neg_ℤ (pos 1) *ℤ y ≡ x -ℤ y = omega (arith, ints) in
    let s = abs_sub x y in
    let m = p.0 in
    let n = q.0 in
    let e = size_between r c a p.1 q.1 (omega arith) in
    rw h (omega (arith, s, m, n, e))

narrow_sum : (d h p s n r w : ℕ) → d < 2 ^ 29 → h ≤ 4000000000 → p ≡ d * h → s ≤ n * (r + r) → n ≤ 16 → w * r < 2 ^ 56 → p + s * w < 2 ^ 62
narrow_sum d h p s n r w x y e z l k =
    let q = mul_le d h 4000000000 y in
    let u = mul_le w s (n * (r + r)) z in
    let v = mul_le (w * r) n 16 l in
    omega (arith, q, u, v, x, e, k)

wide_sum : (d h p s n w : ℕ) → d < 2 ^ 90 → h ≤ 4000000000 → p ≡ d * h → s ≤ n * 66000000 → n ≤ 16 → w < 2 ^ 90 → p + s * w < 2 ^ 127
wide_sum d h p s n w x y e z l k =
    let q = mul_le d h 4000000000 y in
    let u = mul_le s w (2 ^ 90) (omega (arith, k)) in
    omega (arith, q, u, x, e, z, l)

module _ (den h : ℤ) (c a v : List ℤ) (la : length a ≡ length v) (lc : length c ≡ length v) (short : length v ≤ 16) (high : unsigned_abs h ≤ 4000000000) (w : ℕ) (within : Within w v) where
  pub narrow_room : (r : ℕ) → Within r c → Within r a → IsNarrowRoom den w r → Room (2 ^ 62) (den *ℤ h) (sub c a) v
  narrow_room r p q k = (
    w,
    within,
    narrow_sum (unsigned_abs den) (unsigned_abs h) (unsigned_abs (den *ℤ h)) (size (sub c a)) (length c) r w k.0 high (unsigned_abs-mul den h)
        (size_between r c a p q (lc ∙ sym la)) (omega (arith, lc, short)) k.2,
  )

  pub wide_room : Each c IsCornerCoordinate → Each a IsCornerCoordinate → IsWideRoom den w → Room (2 ^ 127) (den *ℤ h) (sub c a) v
  wide_room p q k = (
    w,
    within,
    wide_sum (unsigned_abs den) (unsigned_abs h) (unsigned_abs (den *ℤ h)) (size (sub c a)) (length c) w k.0 high (unsigned_abs-mul den h)
        (size_between 33000000 c a (near_within c p) (near_within a q) (lc ∙ sym la)) (omega (arith, lc, short)) k.1,
  )

-- ---- what room gives
pub wider : (start : ℤ) (xs ys : List ℤ) → Room (2 ^ 62) start xs ys → Room (2 ^ 127) start xs ys
wider start xs ys r = let h = r.2 in (r.0, r.1, step (unsigned_abs start) (size xs * r.0) h)
  where
    step : (a b : ℕ) → a + b < 2 ^ 62 → a + b < 2 ^ 127
    step a b h = omega (arith, h)

pub end_below : (m : ℕ) (start : ℤ) (xs ys : List ℤ) → Room m start xs ys → unsigned_abs (start +ℤ dot xs ys) < m
end_below m start xs ys r = step (unsigned_abs start) (size xs * r.0) (unsigned_abs (dot xs ys)) (unsigned_abs (start +ℤ dot xs ys)) m r.2 (abs_dot r.0 xs ys r.1) (abs_add start (dot xs ys))
  where
    step : (a n d t m : ℕ) → a + n < m → d ≤ n → t ≤ a + d → t < m
    step a n d t m h k l = omega (arith, h, k, l)

sum_fits : (start : ℤ) (xs ys : List ℤ) → Room (2 ^ 127) start xs ys → FitsSum start xs ys
sum_fits start xs ys r = (start_below (2 ^ 127) start xs ys r, room_fits start xs ys r)

pub wall_fits : (m : MovingNormal) (a c : Point) → HasRoom (2 ^ 127) m a c → FitsWall m a c
wall_fits m a c h = (
  sum_fits (m.den *ℤ (c.base -ℤ a.base)) (sub c.coordinates a.coordinates) m.p h.0,
  sum_fits (m.den *ℤ (c.speed -ℤ a.speed)) (sub c.coordinates a.coordinates) m.q h.1,
)

pub room_wider : (m : MovingNormal) (a c : Point) → HasRoom (2 ^ 62) m a c → HasRoom (2 ^ 127) m a c
room_wider m a c h = (
  wider (m.den *ℤ (c.base -ℤ a.base)) (sub c.coordinates a.coordinates) m.p h.0,
  wider (m.den *ℤ (c.speed -ℤ a.speed)) (sub c.coordinates a.coordinates) m.q h.1,
)

-- ---- the points of a problem
corner_high : (z : ℤ) → IsCornerBase z → IsHeight z
corner_high z h = omega (arith, ints, h.0, h.1)

high_support : (f : ℕ) (s : List Point) → Each (take f s) IsWithinProblem × Each (drop f s) IsWithinCorners → Each s (λ (x : Point). IsHeight x.base)
high_support f s h =
    subst (λ (s : List Point). Each s (λ (x : Point). IsHeight x.base)) (take-append-drop f s)
    (each_append _ (take f s) (drop f s)
    (each_weaker IsWithinProblem _ (take f s) (λ x w. w.1) h.0)
    (each_weaker IsWithinCorners _ (drop f s) (λ x w. corner_high x.base w.1) h.1))

high_supports : (i : ℕ) (fs : List ℕ) (ss : List (List Point)) → EachSupport i fs ss (λ i f s. Each (take f s) IsWithinProblem × Each (drop f s) IsWithinCorners) → Each ss (λ s. Each s (λ (x : Point). IsHeight x.base))
high_supports i [] [] h = tt
high_supports i [] (s ∷ ss) h = absurd h
high_supports i (f ∷ fs) [] h = absurd h
high_supports i (f ∷ fs) (s ∷ ss) h = (high_support f s h.0, high_supports (suc i) fs ss h.1)

fast : (b s : ℤ) → IsHeight b → IsHeight (b +ℤ s) → IsSpeed s
fast b s h k =
    let e : (b +ℤ s) -ℤ b ≡ s = omega (arith, ints) in
    let a = abs_sub (b +ℤ s) b in
    by s (rw e at a) h k
  where
    by : (s : ℤ) → unsigned_abs s ≤ unsigned_abs (b +ℤ s) + unsigned_abs b → IsHeight b → IsHeight (b +ℤ s) → IsSpeed s
    by s a h k = omega (arith, a, h, k)

fast_supports : (i : ℕ) (fs : List ℕ) (ss : List (List Point)) → EachSupport i fs ss (λ i f s. Each (take f s) IsWithinProblem × Each (drop f s) IsWithinCorners) → EachSupport i fs ss (λ i f s. Each (drop f s) (λ (x : Point). x.speed ≡ pos 1))
    → Each ss (λ s. Each s (λ (x : Point). IsSpeed x.speed))
fast_supports i [] [] h k = tt
fast_supports i [] (s ∷ ss) h k = absurd h
fast_supports i (f ∷ fs) [] h k = absurd h
fast_supports i (f ∷ fs) (s ∷ ss) h k = (
  subst (λ (s : List Point). Each s (λ (x : Point). IsSpeed x.speed)) (take-append-drop f s)
      (each_append _ (take f s) (drop f s)
      (each_weaker IsWithinProblem _ (take f s) (λ x w. fast x.base x.speed w.1 w.2) h.0.0)
      (each_weaker _ _ (drop f s) (λ x e. subst IsSpeed (sym e) (omega arith)) k.0)),
  fast_supports (suc i) fs ss h.1 k.1,
)

module _ (p : Problem) (valid : IsValidProblem p) (i position : ℕ) (least : 1 ≤ i) (greatest : i ≤ p.dimension) (first : 1 ≤ position) (last : position ≤ length (support_at p i)) (x : Point) (e : x ≡ with_rank 0 (point_at (support_at p i) position)) where
  of_point : (P : Point → Type 0) → Each p.supports (λ s. Each s P) → P (point_at (support_at p i) position)
  of_point P h =
      each_position P (support_at p i) position first last
      (all_each (λ s. Each s P) p.supports h (i - 1) [] (let n = valid.shape.problem.supports in omega (arith, n, least, greatest)))

  pub high_point : IsHeight x.base
  high_point = subst (λ (x : Point). IsHeight x.base) (sym e) (of_point (λ (x : Point). IsHeight x.base) (high_supports 1 p.files p.supports valid.limits))

  pub fast_point : IsSpeed x.speed
  fast_point = subst (λ (x : Point). IsSpeed x.speed) (sym e) (of_point (λ (x : Point). IsSpeed x.speed) (fast_supports 1 p.files p.supports valid.limits valid.shape.moving))

  pub point_within : (r : ℕ) → IsWithinReach r p → Within r x.coordinates
  point_within r h = subst (λ (x : Point). Within r x.coordinates) (sym e) (of_point (λ (x : Point). Within r x.coordinates) h)

high_between : (x y : ℤ) → IsHeight x → IsHeight y → unsigned_abs (x -ℤ y) ≤ 4000000000
high_between x y p q = let s = abs_sub x y in omega (arith, s, p, q)

pub fast_between : (x y : ℤ) → IsSpeed x → IsSpeed y → unsigned_abs (x -ℤ y) ≤ 4000000000
fast_between x y p q = let s = abs_sub x y in omega (arith, s, p, q)

-- ---- from the room of a normal to that of one line
pub narrow_at : (p : Problem) (m : MovingNormal) (a c : Point) → IsNarrowOf p m → length a.coordinates ≡ length m.p → length c.coordinates ≡ length m.p → length m.q ≡ length m.p → length m.p ≤ 16
    → IsHeight a.base → IsHeight c.base → unsigned_abs (c.speed -ℤ a.speed) ≤ 4000000000
    → ((n : ℕ) → IsWithinReach n p → Within n a.coordinates × Within n c.coordinates) → HasRoom (2 ^ 62) m a c
narrow_at p m a c (w, n, wp, wq, reach, k) la lc lq short ha hc hs near = (
  narrow_room m.den (c.base -ℤ a.base) c.coordinates a.coordinates m.p la lc short (high_between c.base a.base hc ha) w wp n (near n reach).1 (near n reach).0 k,
  narrow_room m.den (c.speed -ℤ a.speed) c.coordinates a.coordinates m.q (la ∙ sym lq) (lc ∙ sym lq) (omega (arith, lq, short)) hs w wq n (near n reach).1 (near n reach).0 k,
)

pub room_at : (p : Problem) (m : MovingNormal) (r : declared.Room) (a c : Point) → IsRoomOf p m r → length a.coordinates ≡ length m.p → length c.coordinates ≡ length m.p → length m.q ≡ length m.p → length m.p ≤ 16
    → Each a.coordinates IsCornerCoordinate → Each c.coordinates IsCornerCoordinate → IsHeight a.base → IsHeight c.base → unsigned_abs (c.speed -ℤ a.speed) ≤ 4000000000
    → ((n : ℕ) → IsWithinReach n p → Within n a.coordinates × Within n c.coordinates) → IsRoomAt m a c r
room_at p m (room.Narrow copies) a c (same, (w, n, wp, wq, reach, k)) la lc lq short na nc ha hc hs near = (
  same,
  (
    narrow_room m.den (c.base -ℤ a.base) c.coordinates a.coordinates m.p la lc short (high_between c.base a.base hc ha) w wp n (near n reach).1 (near n reach).0 k,
    narrow_room m.den (c.speed -ℤ a.speed) c.coordinates a.coordinates m.q (la ∙ sym lq) (lc ∙ sym lq) (omega (arith, lq, short)) hs w wq n (near n reach).1 (near n reach).0 k,
  ),
)
room_at p m room.Wide a c (w, wp, wq, k) la lc lq short na nc ha hc hs near = (
  wide_room m.den (c.base -ℤ a.base) c.coordinates a.coordinates m.p la lc short (high_between c.base a.base hc ha) w wp nc na k,
  wide_room m.den (c.speed -ℤ a.speed) c.coordinates a.coordinates m.q (la ∙ sym lq) (lc ∙ sym lq) (omega (arith, lq, short)) hs w wq nc na k,
)
room_at p m room.Unknown a c h la lc lq short na nc ha hc hs near = tt

-- ---- a line by its numbers
abbrev made_of : ℕ → ℕ → ℤ → ℤ → WallLine
made_of i k a b = record { support = i; position = k; alpha = a; beta = b; fine = [] }

module _ (m : MovingNormal) (i k : ℕ) (a c : Point) (l : WallLine) (es : l.support ≡ i) (ep : l.position ≡ k) (ea : l.alpha ≡ alpha m a c) (eb : l.beta ≡ beta m a c) (ef : l.fine ≡ []) (h : HasRoom (2 ^ 127) m a c) where
  pub line_value : FitsWall m a c × (l ≡ line_of m i a k c)
  line_value = (
    wall_fits m a c h,
    ap (λ (f : List LexPart). record l { fine = f }) ef ∙ ap₂ (λ i k. made_of i k l.alpha l.beta) es ep ∙ ap₂ (λ a b. made_of i k a b) ea eb,
  )

  pub line_fits : FitsLine l
  line_fits = (
    subst FitsWhole (sym ea) (end_below (2 ^ 127) (m.den *ℤ (c.base -ℤ a.base)) (sub c.coordinates a.coordinates) m.p h.0),
    subst FitsWhole (sym eb) (end_below (2 ^ 127) (m.den *ℤ (c.speed -ℤ a.speed)) (sub c.coordinates a.coordinates) m.q h.1),
    subst (λ (f : List LexPart). length f ≤ FINE_PARTS) (sym ef) (omega arith),
    subst (AreParts 1) (sym ef) tt,
  )
