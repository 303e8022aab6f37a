-- the numbers of a dependency on three points of one support, with no order among the three; exchange
use Rattle.std.proofs.Common.{◌≡◌, ◌≢◌, ◌↔◌, ℕ, zero, suc, ◌<◌, List, [], ◌∷◌, ◌++◌, length, arith, refl, sym, ap, ap₂, subst, ◌∙◌, inl, inr, ◌<ℤ◌}
use Rattle.std.proofs.lemmas.Int.{ints}
use Rattle.std.proofs.Math.IntN.{ℤ, pos, ◌+ℤ◌, ◌-ℤ◌, ◌*ℤ◌, neg_ℤ, *ℤ-zero}
use Rattle.wide_int.proofs.Ring.{as_D, Ds, same_D}
use Rattle.wide_int.proofs.Order.{zero_product}
use Rattle.int_vectors.proofs.Weighing.{weigh-append, weigh-scale}
use Rattle.cayley.proofs.Order.Lexicographic.{minus_one}
use Rattle.cayley.proofs.Algebra.Kernel.{Kills}
use Rattle.cayley.proofs.Algebra.ScaledInverse.{at-comb}
use Rattle.cayley.proofs.Algebra.RowDependencies.{IsDependency, exchange_back}
use Rattle.cayley.proofs.Algebra.RowNormals.{gap-at}
use Rattle.cayley.proofs.Order.Lines.{Line, line_at}
use Rattle.cayley.proofs.OneCell.CellNormals.{rises, length-rises, kills_to, rows_independent, long_rows, length-edges}
use Rattle.cayley.proofs.OneCell.CellLines.{lines, rise_line, sum_line, sum_line-at, a_dependency}
use Rattle.cayley.proofs.OneCell.Neighbours.{potential, gap-potential, each_pair-left, each_pair-right, each_pair-append, edges-append, dot-sub}
use native.Mathlib.Decide.{dec_lt}
use Rattle.cayley.proofs.Flipping.PairOrder.{IsTurned, independent_turned}
use Rattle.int_vectors.specs.Vectors.{weigh, IsZero, scale, dot, at, sub, comb, entries_at}
use Rattle.int_vectors.proofs.Entries.{at-scale, at-add, at-zero}
use Rattle.cayley.specs.Problems.{Point, point_at, IsProblem}
use Rattle.cayley.specs.Times.{Time}
use Rattle.cayley.specs.Normals.{Normal, height, gap, IsNormal}
use Rattle.cayley.specs.Cells.{Cell, EachPair, IsOf, IsIndependent}
use Rattle.cayley.specs.Flips.{lesser, greater, rising}
use Rattle.cayley.proofs.Flipping.OneSupport.{OneSupport, problem_of, with_pair}
use Rattle.cayley.specs.Rows.{edges}
use Rattle.cayley.proofs.Algebra.Dependence.{length-map}
use Rattle.cayley.proofs.Lists.Pairs.{pairs_map}

-- ---- the rising order of two positions
pub lesser_is : (a b : ℕ) → a < b → lesser a b ≡ a
lesser_is zero b l = refl
lesser_is (suc a) zero l = absurd (omega arith)
lesser_is (suc a) (suc b) l = ap suc (lesser_is a b (omega arith))

pub greater_is : (a b : ℕ) → a < b → greater a b ≡ b
greater_is zero b l = refl
greater_is (suc a) zero l = absurd (omega arith)
greater_is (suc a) (suc b) l = ap suc (greater_is a b (omega arith))

pub lesser_turn : (a b : ℕ) → lesser a b ≡ lesser b a
lesser_turn zero zero = refl
lesser_turn zero (suc b) = refl
lesser_turn (suc a) zero = refl
lesser_turn (suc a) (suc b) = ap suc (lesser_turn a b)

pub greater_turn : (a b : ℕ) → greater a b ≡ greater b a
greater_turn zero zero = refl
greater_turn zero (suc b) = refl
greater_turn (suc a) zero = refl
greater_turn (suc a) (suc b) = ap suc (greater_turn a b)

pub rising_is : (a b : ℕ) → a < b → rising a b ≡ (a, b)
rising_is a b l = ap₂ (λ x y. (x, y)) (lesser_is a b l) (greater_is a b l)

pub rising_turn : (a b : ℕ) → rising a b ≡ rising b a
rising_turn a b = ap₂ (λ x y. (x, y)) (lesser_turn a b) (greater_turn a b)

-- ---- all pairs but one
abbrev pub Others : OneSupport → (List Point → ℕ → ℕ → Type 0) → Type 0
Others o P = EachPair o.sb o.cb P × EachPair o.sa o.ca P

pub others_of : (P : List Point → ℕ → ℕ → Type 0) (o : OneSupport) (x : ℕ × ℕ) → EachPair (o.sb ++ o.s ∷ o.sa) (o.cb ++ x ∷ o.ca) P → Others o P
others_of P o x e = (each_pair-left P o.sb (o.s ∷ o.sa) o.cb (x ∷ o.ca) o.long e, (each_pair-right P o.sb (o.s ∷ o.sa) o.cb (x ∷ o.ca) o.long e).1)

pub here_of : (P : List Point → ℕ → ℕ → Type 0) (o : OneSupport) (x : ℕ × ℕ) → EachPair (o.sb ++ o.s ∷ o.sa) (o.cb ++ x ∷ o.ca) P → P o.s x.0 x.1
here_of P o x e = (each_pair-right P o.sb (o.s ∷ o.sa) o.cb (x ∷ o.ca) o.long e).0

pub all_of : (P : List Point → ℕ → ℕ → Type 0) (o : OneSupport) (x : ℕ × ℕ) → Others o P → P o.s x.0 x.1 → EachPair (o.sb ++ o.s ∷ o.sa) (o.cb ++ x ∷ o.ca) P
all_of P o x e h = each_pair-append P o.sb (o.s ∷ o.sa) o.cb (x ∷ o.ca) e.0 (h, e.1)

abbrev pub IsOrthogonal : List ℤ → List Point → ℕ → ℕ → Type 0
IsOrthogonal w s a b = dot (sub (point_at s b).coordinates (point_at s a).coordinates) w ≡ pos 0

weigh_killed : (cs : List ℤ) (supports : List (List Point)) (cell : Cell) (w : List ℤ) → EachPair supports cell (IsOrthogonal w) → weigh cs (edges supports cell) (λ r. dot r w) ≡ pos 0
weigh_killed [] supports cell w k = refl
weigh_killed (c ∷ cs) [] cell w k = refl
weigh_killed (c ∷ cs) (s ∷ supports) [] w k = refl
weigh_killed (c ∷ cs) (s ∷ supports) (x ∷ cell) w k = rw (k.0, weigh_killed cs supports cell w k.1) (omega (arith, ints))

-- the pairs that are level, weighed
weigh_level : (cs : List ℤ) (supports : List (List Point)) (cell : Cell) (t : Time) (v : Normal) (e : ℕ) → EachPair supports cell (λ s a b. IsZero (gap t v (point_at s a) (point_at s b)))
    → t.over *ℤ weigh cs (edges supports cell) (λ r. dot r (entries_at e v.entries)) +ℤ v.over *ℤ weigh cs (rises t supports cell) (λ h. at h e) ≡ pos 0
weigh_level [] supports cell t v e k = rw (*ℤ-zero t.over, *ℤ-zero v.over) refl
weigh_level (c ∷ cs) [] cell t v e k = rw (*ℤ-zero t.over, *ℤ-zero v.over) refl
weigh_level (c ∷ cs) (s ∷ supports) [] t v e k = rw (*ℤ-zero t.over, *ℤ-zero v.over) refl
weigh_level (c ∷ cs) (s ∷ supports) (x ∷ cell) t v e k =
    let p = point_at s x.0 in
    let q = point_at s x.1 in
    let a = sym (gap-at (sub q.coordinates p.coordinates) v.entries (sub (height t q) (height t p)) t.over v.over e) ∙ at-zero (gap t v p q) e k.0 in
    let i = weigh_level cs supports cell t v e k.1 in
    step t.over v.over c (dot (sub q.coordinates p.coordinates) (entries_at e v.entries)) (at (sub (height t q) (height t p)) e) _ _ ∙ rw (a, i) (rw (*ℤ-zero c) refl)
  where
    step : (q d b x h s t : ℤ) → q *ℤ (b *ℤ x +ℤ s) +ℤ d *ℤ (b *ℤ h +ℤ t) ≡ b *ℤ (q *ℤ x +ℤ d *ℤ h) +ℤ (q *ℤ s +ℤ d *ℤ t)
    step q d b x h s t = rw (as_D q, as_D d, as_D b, as_D x, as_D h, as_D s, as_D t) (simp Ds (same_D _ _ _ _ (omega arith)))

-- three numbers that belong to x, y, z, times f
abbrev pub threefold : List Point → ℕ → ℕ → ℕ → ℤ → ℤ → ℤ → (Point → ℤ) → ℤ
threefold s x y z lx ly lz f = lx *ℤ f (point_at s x) +ℤ ly *ℤ f (point_at s y) +ℤ lz *ℤ f (point_at s z)

-- a dependency on the pairs of all other supports and three points of this one, and the line of its sum
pub record Circuit (o : OneSupport) (x y z : ℕ) : Type 0 where
  pub xs : List ℤ
  pub ys : List ℤ
  pub lx : ℤ
  pub ly : ℤ
  pub lz : ℤ
  pub line : Line
  pub long : length xs ≡ length (edges o.sb o.cb)
  pub sum : lx +ℤ ly +ℤ lz ≡ pos 0
  pub dep : (w : List ℤ) → length w ≡ o.n
      → weigh xs (edges o.sb o.cb) (λ r. dot r w) +ℤ weigh ys (edges o.sa o.ca) (λ r. dot r w) +ℤ threefold o.s x y z lx ly lz (λ p. dot p.coordinates w) ≡ pos 0
  pub value : (t : Time) (e : ℕ)
      → at (line_at line t) e ≡ weigh xs (rises t o.sb o.cb) (λ h. at h e) +ℤ weigh ys (rises t o.sa o.ca) (λ h. at h e) +ℤ threefold o.s x y z lx ly lz (λ p. at (height t p) e)

-- the three points may be named in any order
unfoldable pub turn : (o : OneSupport) (x y z : ℕ) → Circuit o x y z → Circuit o y x z
turn o x y z k = record {
  xs = k.xs;
  ys = k.ys;
  lx = k.ly;
  ly = k.lx;
  lz = k.lz;
  line = k.line;
  long = k.long;
  sum = let e = k.sum in omega (arith, ints, e);
  dep = λ w l. let e = k.dep w l in omega (arith, ints, e);
  value = λ t e. let f = k.value t e in omega (arith, ints, f);
}

unfoldable pub cycle : (o : OneSupport) (x y z : ℕ) → Circuit o x y z → Circuit o y z x
cycle o x y z k = record {
  xs = k.xs;
  ys = k.ys;
  lx = k.ly;
  ly = k.lz;
  lz = k.lx;
  line = k.line;
  long = k.long;
  sum = let e = k.sum in omega (arith, ints, e);
  dep = λ w l. let e = k.dep w l in omega (arith, ints, e);
  value = λ t e. let f = k.value t e in omega (arith, ints, f);
}

abbrev pub opposite : Line → Line
opposite l = record { start = scale (neg_ℤ (pos 1)) l.start; slope = neg_ℤ (pos 1) *ℤ l.slope }

pub opposite-at : (l : Line) (t : Time) (e : ℕ) → at (line_at (opposite l) t) e ≡ neg_ℤ (at (line_at l t) e)
opposite-at l t e =
    at-add (scale t.over (scale m l.start)) (scale (m *ℤ l.slope) t.entries) e
    ∙ ap₂ ◌+ℤ◌ (at-scale t.over (scale m l.start) e ∙ ap (λ x. t.over *ℤ x) (at-scale m l.start e)) (at-scale (m *ℤ l.slope) t.entries e)
    ∙ step m t.over (at l.start e) l.slope (at t.entries e)
    ∙ minus_one (t.over *ℤ at l.start e +ℤ l.slope *ℤ at t.entries e)
    ∙ ap neg_ℤ (sym (at-add (scale t.over l.start) (scale l.slope t.entries) e ∙ ap₂ ◌+ℤ◌ (at-scale t.over l.start e) (at-scale l.slope t.entries e)))
  where
    m : ℤ
    m = neg_ℤ (pos 1)

    step : (m q a b x : ℤ) → q *ℤ (m *ℤ a) +ℤ m *ℤ b *ℤ x ≡ m *ℤ (q *ℤ a +ℤ b *ℤ x)
    step m q a b x = rw (as_D m, as_D q, as_D a, as_D b, as_D x) (simp Ds (same_D _ _ _ _ (omega arith)))

-- all numbers with the other sign
unfoldable pub negate : (o : OneSupport) (x y z : ℕ) → Circuit o x y z → Circuit o x y z
negate o x y z k =
    let m = neg_ℤ (pos 1) in record {
      xs = scale m k.xs;
      ys = scale m k.ys;
      lx = neg_ℤ k.lx;
      ly = neg_ℤ k.ly;
      lz = neg_ℤ k.lz;
      line = opposite k.line;
      long = length-scale m k.xs ∙ k.long;
      sum = let e = k.sum in omega (arith, ints, e);
      dep = λ w l.
          let e = k.dep w l in
          step k.lx k.ly k.lz (weigh k.xs (edges o.sb o.cb) (λ r. dot r w)) (weigh k.ys (edges o.sa o.ca) (λ r. dot r w))
          (dot (point_at o.s x).coordinates w) (dot (point_at o.s y).coordinates w) (dot (point_at o.s z).coordinates w) _ _
          (weigh-scale m k.xs (edges o.sb o.cb) (λ r. dot r w)) (weigh-scale m k.ys (edges o.sa o.ca) (λ r. dot r w)) ∙ ap neg_ℤ e;
      value = λ t e.
          let f = k.value t e in
          opposite-at k.line t e ∙ ap neg_ℤ f
          ∙ sym (step k.lx k.ly k.lz (weigh k.xs (rises t o.sb o.cb) (λ h. at h e)) (weigh k.ys (rises t o.sa o.ca) (λ h. at h e))
          (at (height t (point_at o.s x)) e) (at (height t (point_at o.s y)) e) (at (height t (point_at o.s z)) e) _ _
          (weigh-scale m k.xs (rises t o.sb o.cb) (λ h. at h e)) (weigh-scale m k.ys (rises t o.sa o.ca) (λ h. at h e)));
    }
  where
    length-scale : (k : ℤ) (cs : List ℤ) → length (scale k cs) ≡ length cs
    length-scale k [] = refl
    length-scale k (c ∷ cs) = ap suc (length-scale k cs)

    ring : (lx ly lz a b x y z : ℤ) → neg_ℤ a +ℤ neg_ℤ b +ℤ (neg_ℤ lx *ℤ x +ℤ neg_ℤ ly *ℤ y +ℤ neg_ℤ lz *ℤ z) ≡ neg_ℤ (a +ℤ b +ℤ (lx *ℤ x +ℤ ly *ℤ y +ℤ lz *ℤ z))
    ring lx ly lz a b x y z = rw (as_D lx, as_D ly, as_D lz, as_D a, as_D b, as_D x, as_D y, as_D z) (simp Ds (same_D _ _ _ _ (omega arith)))

    step : (lx ly lz a b x y z a' b' : ℤ) → a' ≡ neg_ℤ (pos 1) *ℤ a → b' ≡ neg_ℤ (pos 1) *ℤ b
        → a' +ℤ b' +ℤ (neg_ℤ lx *ℤ x +ℤ neg_ℤ ly *ℤ y +ℤ neg_ℤ lz *ℤ z) ≡ neg_ℤ (a +ℤ b +ℤ (lx *ℤ x +ℤ ly *ℤ y +ℤ lz *ℤ z))
    step lx ly lz a b x y z a' b' e f = rw (e ∙ minus_one a, f ∙ minus_one b) (ring lx ly lz a b x y z)

-- ---- what a circuit says where the other pairs are level
module _ (o : OneSupport) (x y z : ℕ) (k : Circuit o x y z) where
  pub by_potentials : (t : Time) (v : Normal) → length v.entries ≡ o.n → Others o (λ s a b. IsZero (gap t v (point_at s a) (point_at s b))) → (e : ℕ)
      → v.over *ℤ at (line_at k.line t) e ≡ threefold o.s x y z k.lx k.ly k.lz (λ p. potential t v p e)
  unfolding potential
  by_potentials t v l q e =
      let w = entries_at e v.entries in
      let a = weigh_level k.xs o.sb o.cb t v e q.0 in
      let b = weigh_level k.ys o.sa o.ca t v e q.1 in
      let d = k.dep w (length-map (λ u. at u e) v.entries ∙ l) in
      ap (λ u. v.over *ℤ u) (k.value t e) ∙ step t.over v.over k.lx k.ly k.lz
      (weigh k.xs (edges o.sb o.cb) (λ r. dot r w)) (weigh k.ys (edges o.sa o.ca) (λ r. dot r w)) (weigh k.xs (rises t o.sb o.cb) (λ h. at h e)) (weigh k.ys (rises t o.sa o.ca) (λ h. at h e))
      (dot (point_at o.s x).coordinates w) (dot (point_at o.s y).coordinates w) (dot (point_at o.s z).coordinates w)
      (at (height t (point_at o.s x)) e) (at (height t (point_at o.s y)) e) (at (height t (point_at o.s z)) e) a b d
    where
      ring : (T V lx ly lz a b p q x y z h i j : ℤ)
          → V *ℤ (p +ℤ q +ℤ (lx *ℤ h +ℤ ly *ℤ i +ℤ lz *ℤ j)) +ℤ T *ℤ (a +ℤ b +ℤ (lx *ℤ x +ℤ ly *ℤ y +ℤ lz *ℤ z))
          ≡ (T *ℤ a +ℤ V *ℤ p) +ℤ (T *ℤ b +ℤ V *ℤ q) +ℤ (lx *ℤ (T *ℤ x +ℤ V *ℤ h) +ℤ ly *ℤ (T *ℤ y +ℤ V *ℤ i) +ℤ lz *ℤ (T *ℤ z +ℤ V *ℤ j))
      ring T V lx ly lz a b p q x y z h i j = rw (as_D T, as_D V, as_D lx, as_D ly, as_D lz, as_D a, as_D b, as_D p, as_D q, as_D x, as_D y, as_D z, as_D h, as_D i, as_D j) (simp Ds (same_D _ _ _ _ (omega arith)))

      step : (T V lx ly lz a b p q x y z h i j : ℤ) → T *ℤ a +ℤ V *ℤ p ≡ pos 0 → T *ℤ b +ℤ V *ℤ q ≡ pos 0 → a +ℤ b +ℤ (lx *ℤ x +ℤ ly *ℤ y +ℤ lz *ℤ z) ≡ pos 0
          → V *ℤ (p +ℤ q +ℤ (lx *ℤ h +ℤ ly *ℤ i +ℤ lz *ℤ j)) ≡ lx *ℤ (T *ℤ x +ℤ V *ℤ h) +ℤ ly *ℤ (T *ℤ y +ℤ V *ℤ i) +ℤ lz *ℤ (T *ℤ z +ℤ V *ℤ j)
      step T V lx ly lz a b p q x y z h i j e f g =
          let r = ring T V lx ly lz a b p q x y z h i j in
          let n : T *ℤ (a +ℤ b +ℤ (lx *ℤ x +ℤ ly *ℤ y +ℤ lz *ℤ z)) ≡ pos 0 = rw g (*ℤ-zero T) in
          omega (arith, ints, r, n, e, f)

  -- the third point over the cell with the other two
  pub seen : (t : Time) (v : Normal) → IsNormal (problem_of o) (with_pair o (x, y)) t v → (e : ℕ)
      → v.over *ℤ at (line_at k.line t) e ≡ k.lz *ℤ at (gap t v (point_at o.s x) (point_at o.s z)) e
  seen t v is e =
      let L : List Point → ℕ → ℕ → Type 0 = λ s a b. IsZero (gap t v (point_at s a) (point_at s b)) in
      let p = by_potentials t v is.0 (others_of L o (x, y) is.1) e in
      let q = sym (gap-potential t v (point_at o.s x) (point_at o.s y) e) ∙ at-zero _ e (here_of L o (x, y) is.1) in
      p ∙ step k.lx k.ly k.lz (potential t v (point_at o.s x) e) (potential t v (point_at o.s y) e) (potential t v (point_at o.s z) e) k.sum (let a = q in omega (arith, ints, a)) ∙ ap (λ u. k.lz *ℤ u) (sym (gap-potential t v (point_at o.s x) (point_at o.s z) e))
    where
      ring : (lx ly lz a c : ℤ) → lx *ℤ a +ℤ ly *ℤ a +ℤ lz *ℤ c ≡ (lx +ℤ ly +ℤ lz) *ℤ a +ℤ lz *ℤ (c -ℤ a)
      ring lx ly lz a c = rw (as_D lx, as_D ly, as_D lz, as_D a, as_D c) (simp Ds (same_D _ _ _ _ (omega arith)))

      step : (lx ly lz a b c : ℤ) → lx +ℤ ly +ℤ lz ≡ pos 0 → b ≡ a → lx *ℤ a +ℤ ly *ℤ b +ℤ lz *ℤ c ≡ lz *ℤ (c -ℤ a)
      step lx ly lz a b c s e = rw e (ring lx ly lz a c ∙ rw s (omega (arith, ints)))

  -- a vector that is orthogonal to the other pairs
  pub orthogonal : (w : List ℤ) → length w ≡ o.n → Others o (IsOrthogonal w) → threefold o.s x y z k.lx k.ly k.lz (λ p. dot p.coordinates w) ≡ pos 0
  orthogonal w l q =
      let e = k.dep w l in
      let a = weigh_killed k.xs o.sb o.cb w q.0 in
      let b = weigh_killed k.ys o.sa o.ca w q.1 in
      omega (arith, ints, e, a, b)

-- ---- the order within the pair at the spot
turned_self : (cell : Cell) → IsTurned cell cell
turned_self [] = tt
turned_self (x ∷ cell) = (inl refl, turned_self cell)

pub turned_at : (before after : Cell) (x y : ℕ) → IsTurned (before ++ (x, y) ∷ after) (before ++ (y, x) ∷ after)
turned_at [] after x y = (inr refl, turned_self after)
turned_at (z ∷ before) after x y = (inl refl, turned_at before after x y)

pub by_rising : (P : ℕ × ℕ → Type 0) (x y : ℕ) → x ≢ y → (x < y → P (x, y)) → (y < x → P (y, x)) → P (rising x y)
by_rising P x y apart f g =
    elim (dec_lt x y) [
      | yes l ↦ subst P (sym (rising_is x y l)) (f l)
      | no n ↦ let l : y < x = omega (arith, n, apart) in subst P (sym (rising_turn x y ∙ rising_is y x l)) (g l)
    ]

pub independent_turned_at : (o : OneSupport) (x y : ℕ) → IsIndependent (problem_of o) (with_pair o (x, y)) → IsIndependent (problem_of o) (with_pair o (y, x))
independent_turned_at o x y = independent_turned (problem_of o) (with_pair o (x, y)) (with_pair o (y, x)) (turned_at o.cb o.ca x y)

pub independent_rising : (o : OneSupport) (x y : ℕ) → x ≢ y → IsIndependent (problem_of o) (with_pair o (x, y)) → IsIndependent (problem_of o) (with_pair o (rising x y))
independent_rising o x y apart i =
    by_rising (λ q. IsIndependent (problem_of o) (with_pair o q)) x y apart (λ l. i) (λ l. independent_turned (problem_of o) (with_pair o (x, y)) (with_pair o (y, x)) (turned_at o.cb o.ca x y) i)

pub independent_unrising : (o : OneSupport) (x y : ℕ) → x ≢ y → IsIndependent (problem_of o) (with_pair o (rising x y)) → IsIndependent (problem_of o) (with_pair o (x, y))
independent_unrising o x y apart =
    by_rising (λ q. IsIndependent (problem_of o) (with_pair o q) → IsIndependent (problem_of o) (with_pair o (x, y))) x y apart (λ l i. i) (λ l i. independent_turned (problem_of o) (with_pair o (y, x)) (with_pair o (x, y)) (turned_at o.cb o.ca y x) i)

-- ---- exchange
module _ (o : OneSupport) (x y z : ℕ) (k : Circuit o x y z) where
  pub exchange_to : IsIndependent (problem_of o) (with_pair o (x, y)) → k.ly ≢ pos 0 → IsIndependent (problem_of o) (with_pair o (x, z))
  exchange_to ind some w l e =
      let a = others_of (IsOrthogonal w) o (x, z) e in
      let b = here_of (IsOrthogonal w) o (x, z) e in
      let c = dot-sub (point_at o.s z).coordinates (point_at o.s x).coordinates w in
      let d = dot-sub (point_at o.s y).coordinates (point_at o.s x).coordinates w in
      let h = orthogonal o x y z k w l a in
      let X = dot (point_at o.s x).coordinates w in
      let Y = dot (point_at o.s y).coordinates w in
      let Z = dot (point_at o.s z).coordinates w in
      let f : k.ly *ℤ (Y -ℤ X) ≡ pos 0 = step k.lx k.ly k.lz X Y Z k.sum (let u = b in omega (arith, ints, c, u)) h in
      let g : Y -ℤ X ≡ pos 0 = elim (zero_product k.ly (Y -ℤ X) f) [ inl i ↦ absurd (some i) | inr i ↦ i ] in
      ind w l (all_of (IsOrthogonal w) o (x, y) a (d ∙ g))
    where
      ring : (lx ly lz a b : ℤ) → lx *ℤ a +ℤ ly *ℤ b +ℤ lz *ℤ a ≡ (lx +ℤ ly +ℤ lz) *ℤ a +ℤ ly *ℤ (b -ℤ a)
      ring lx ly lz a b = rw (as_D lx, as_D ly, as_D lz, as_D a, as_D b) (simp Ds (same_D _ _ _ _ (omega arith)))

      step : (lx ly lz a b c : ℤ) → lx +ℤ ly +ℤ lz ≡ pos 0 → c ≡ a → lx *ℤ a +ℤ ly *ℤ b +ℤ lz *ℤ c ≡ pos 0 → ly *ℤ (b -ℤ a) ≡ pos 0
      step lx ly lz a b c s e h =
          let r = ring lx ly lz a b in
          let u : lx *ℤ a +ℤ ly *ℤ b +ℤ lz *ℤ a ≡ pos 0 = ap (λ q. lx *ℤ a +ℤ ly *ℤ b +ℤ lz *ℤ q) (sym e) ∙ h in
          let z : (lx +ℤ ly +ℤ lz) *ℤ a ≡ pos 0 = rw s (omega (arith, ints)) in
          omega (arith, ints, r, u, z)

  rows_dep : IsDependency o.n (edges o.sb o.cb ++ sub (point_at o.s y).coordinates (point_at o.s x).coordinates ∷ edges o.sa o.ca) (sub (point_at o.s z).coordinates (point_at o.s x).coordinates) (k.xs ++ k.ly ∷ k.ys) k.lz
  rows_dep w l =
      let X = dot (point_at o.s x).coordinates w in
      let Y = dot (point_at o.s y).coordinates w in
      let Z = dot (point_at o.s z).coordinates w in
      let a = weigh-append k.xs (k.ly ∷ k.ys) (edges o.sb o.cb) (sub (point_at o.s y).coordinates (point_at o.s x).coordinates ∷ edges o.sa o.ca) (λ r. dot r w) k.long in
      let c = ap (λ q. k.lz *ℤ q) (dot-sub (point_at o.s z).coordinates (point_at o.s x).coordinates w) in
      let d = ap (λ q. k.ly *ℤ q) (dot-sub (point_at o.s y).coordinates (point_at o.s x).coordinates w) in
      let h = k.dep w l in
      let r = step k.lx k.ly k.lz X Y Z k.sum in
      omega (arith, ints, a, c, d, h, r)
    where
      ring : (ly lz a b c : ℤ) → neg_ℤ (ly +ℤ lz) *ℤ a +ℤ ly *ℤ b +ℤ lz *ℤ c ≡ ly *ℤ (b -ℤ a) +ℤ lz *ℤ (c -ℤ a)
      ring ly lz a b c = rw (as_D ly, as_D lz, as_D a, as_D b, as_D c) (simp Ds (same_D _ _ _ _ (omega arith)))

      step : (lx ly lz a b c : ℤ) → lx +ℤ ly +ℤ lz ≡ pos 0 → lx *ℤ a +ℤ ly *ℤ b +ℤ lz *ℤ c ≡ ly *ℤ (b -ℤ a) +ℤ lz *ℤ (c -ℤ a)
      step lx ly lz a b c s = let e : lx ≡ neg_ℤ (ly +ℤ lz) = omega (arith, ints) in rw e (ring ly lz a b c)

  pub exchange_from : (P : List Point → ℕ → ℕ → Type 0) → Others o P → IsProblem (problem_of o) → k.lz ≢ pos 0 → IsIndependent (problem_of o) (with_pair o (x, z)) → k.ly ≢ pos 0
  exchange_from P e well some ind =
      exchange_back o.n (edges o.sb o.cb) (edges o.sa o.ca) (sub (point_at o.s y).coordinates (point_at o.s x).coordinates) (sub (point_at o.s z).coordinates (point_at o.s x).coordinates) k.xs k.ys k.ly k.lz k.long rows_dep some
      (sym (ap length same) ∙ length-edges (o.sb ++ o.s ∷ o.sa) (o.cb ++ (x, z) ∷ o.ca) _ (all_of (λ s a b. Unit {0}) o (x, z) (each_unit o.sb o.cb e.0, each_unit o.sa o.ca e.1) tt) ∙ well.supports)
      (λ v l q. ind v l (orthogonal_of (o.sb ++ o.s ∷ o.sa) (o.cb ++ (x, z) ∷ o.ca) v _ (all_of (λ s a b. Unit {0}) o (x, z) (each_unit o.sb o.cb e.0, each_unit o.sa o.ca e.1) tt) (subst (λ r. Kills r v) (sym same) q)))
    where
      same : edges (o.sb ++ o.s ∷ o.sa) (o.cb ++ (x, z) ∷ o.ca) ≡ edges o.sb o.cb ++ sub (point_at o.s z).coordinates (point_at o.s x).coordinates ∷ edges o.sa o.ca
      same = edges-append o.sb (o.s ∷ o.sa) o.cb ((x, z) ∷ o.ca) o.long

      each_unit : (supports : List (List Point)) (cell : Cell) → EachPair supports cell P → EachPair supports cell (λ s a b. Unit {0})
      each_unit supports cell f = pairs_map supports cell P (λ s a b. Unit {0}) (λ s a b h. tt) f

      orthogonal_of : (supports : List (List Point)) (cell : Cell) (v : List ℤ) (P : List Point → ℕ → ℕ → Type 0) → EachPair supports cell P → Kills (edges supports cell) v → EachPair supports cell (IsOrthogonal v)
      orthogonal_of supports cell v P = kills_to supports cell v P

-- the cell with z in place of y, in rising order, is independent exactly where the number at y isn't zero
pub exchange_independent : (o : OneSupport) (x y z : ℕ) (k : Circuit o x y z) → IsProblem (problem_of o) → (P : List Point → ℕ → ℕ → Type 0) → Others o P → x ≢ z → k.lz ≢ pos 0
    → IsIndependent (problem_of o) (with_pair o (x, y)) → IsIndependent (problem_of o) (with_pair o (rising x z)) ↔ (k.ly ≢ pos 0)
exchange_independent o x y z k well P e apart some ind = (
  (λ i. exchange_from o x y z k P e well some (independent_unrising o x z apart i)),
  (λ i. independent_rising o x z apart (exchange_to o x y z k ind i)),
)

-- ---- circuits from dependencies
record Split (k : ℕ) (bs : List ℤ) : Type 0 where
  xs : List ℤ
  b : ℤ
  ys : List ℤ
  long : length xs ≡ k
  same : (rows : List (List ℤ)) (f : List ℤ → ℤ) → weigh (xs ++ b ∷ ys) rows f ≡ weigh bs rows f

split : (k : ℕ) (bs : List ℤ) → Split k bs
split zero [] = record { xs = []; b = pos 0; ys = []; long = refl; same = λ rows f. nothing rows f }
  where
    nothing : (rows : List (List ℤ)) (f : List ℤ → ℤ) → weigh (pos 0 ∷ []) rows f ≡ pos 0
    nothing [] f = refl
    nothing (r ∷ rows) f = omega (arith, ints)
split zero (b ∷ bs) = record { xs = []; b = b; ys = bs; long = refl; same = λ rows f. refl }
split (suc k) [] =
    let q = split k [] in
    record { xs = pos 0 ∷ q.xs; b = q.b; ys = q.ys; long = ap suc q.long; same = λ rows f. more q rows f }
  where
    more : (q : Split k []) (rows : List (List ℤ)) (f : List ℤ → ℤ) → weigh (pos 0 ∷ (q.xs ++ q.b ∷ q.ys)) rows f ≡ pos 0
    more q [] f = refl
    more q (r ∷ rows) f = let e = q.same rows f in let z : pos 0 *ℤ f r ≡ pos 0 = omega (arith, ints) in omega (arith, ints, e, z)
split (suc k) (c ∷ bs) =
    let q = split k bs in
    record { xs = c ∷ q.xs; b = q.b; ys = q.ys; long = ap suc q.long; same = λ rows f. more q rows f }
  where
    more : (q : Split k bs) (rows : List (List ℤ)) (f : List ℤ → ℤ) → weigh (c ∷ (q.xs ++ q.b ∷ q.ys)) rows f ≡ weigh (c ∷ bs) rows f
    more q [] f = refl
    more q (r ∷ rows) f = ap (λ x. c *ℤ f r +ℤ x) (q.same rows f)

pub rises-append : (t : Time) (sb sa : List (List Point)) (cb ca : Cell) → length sb ≡ length cb → rises t (sb ++ sa) (cb ++ ca) ≡ rises t sb cb ++ rises t sa ca
rises-append t [] sa [] ca l = refl
rises-append t [] sa (x ∷ cb) ca l = absurd (omega arith)
rises-append t (s ∷ sb) sa [] ca l = absurd (omega arith)
rises-append t (s ∷ sb) sa (x ∷ cb) ca l = ap (λ l. sub (height t (point_at s x.1)) (height t (point_at s x.0)) ∷ l) (rises-append t sb sa cb ca (omega arith))

module _ (o : OneSupport) (x y z : ℕ) (xs ys : List ℤ) (b g : ℤ) (long : length xs ≡ length (edges o.sb o.cb))
    (dep : IsDependency o.n (edges (o.sb ++ o.s ∷ o.sa) (o.cb ++ (x, y) ∷ o.ca)) (sub (point_at o.s z).coordinates (point_at o.s x).coordinates) (xs ++ b ∷ ys) g) where
  unfoldable pub circuit_of : Circuit o x y z
  circuit_of = record {
    xs = xs;
    ys = ys;
    lx = neg_ℤ (b +ℤ g);
    ly = b;
    lz = g;
    line = sum_line (xs ++ b ∷ ys) g (lines (o.sb ++ o.s ∷ o.sa) (o.cb ++ (x, y) ∷ o.ca)) (rise_line (point_at o.s x) (point_at o.s z));
    long = long;
    sum = omega (arith, ints);
    dep = λ w l.
        let X = dot (point_at o.s x).coordinates w in
        let Y = dot (point_at o.s y).coordinates w in
        let Z = dot (point_at o.s z).coordinates w in
        let a = ap (λ r. weigh (xs ++ b ∷ ys) r (λ r. dot r w)) (edges-append o.sb (o.s ∷ o.sa) o.cb ((x, y) ∷ o.ca) o.long)
        ∙ weigh-append xs (b ∷ ys) (edges o.sb o.cb) (edges (o.s ∷ o.sa) ((x, y) ∷ o.ca)) (λ r. dot r w) long in
        let c = ap (λ q. g *ℤ q) (dot-sub (point_at o.s z).coordinates (point_at o.s x).coordinates w) in
        let d = ap (λ q. b *ℤ q) (dot-sub (point_at o.s y).coordinates (point_at o.s x).coordinates w) in
        let h = dep w l in
        let r = ring b g X Y Z in
        omega (arith, ints, a, c, d, h, r);
    value = λ t e.
        let X = at (height t (point_at o.s x)) e in
        let Y = at (height t (point_at o.s y)) e in
        let Z = at (height t (point_at o.s z)) e in
        let bs = xs ++ b ∷ ys in
        let cell = o.cb ++ (x, y) ∷ o.ca in
        let supports = o.sb ++ o.s ∷ o.sa in
        let i = sym (sum_line-at bs g t supports cell (point_at o.s x) (point_at o.s z) e)
        ∙ at-add (comb bs (rises t supports cell)) (scale g (sub (height t (point_at o.s z)) (height t (point_at o.s x)))) e
        ∙ ap₂ ◌+ℤ◌ (at-comb bs (rises t supports cell) e) (at-scale g (sub (height t (point_at o.s z)) (height t (point_at o.s x))) e) in
        let a = ap (λ r. weigh bs r (λ h. at h e)) (rises-append t o.sb (o.s ∷ o.sa) o.cb ((x, y) ∷ o.ca) o.long)
        ∙ weigh-append xs (b ∷ ys) (rises t o.sb o.cb) (rises t (o.s ∷ o.sa) ((x, y) ∷ o.ca)) (λ h. at h e) (long ∙ length-rises t o.sb o.cb) in
        let c = ap (λ q. g *ℤ q) (at-sub (height t (point_at o.s z)) (height t (point_at o.s x)) e) in
        let d = ap (λ q. b *ℤ q) (at-sub (height t (point_at o.s y)) (height t (point_at o.s x)) e) in
        let r = ring b g X Y Z in
        omega (arith, ints, i, a, c, d, r);
  }
    where
      ring : (ly lz a b c : ℤ) → neg_ℤ (ly +ℤ lz) *ℤ a +ℤ ly *ℤ b +ℤ lz *ℤ c ≡ ly *ℤ (b -ℤ a) +ℤ lz *ℤ (c -ℤ a)
      ring ly lz a b c = rw (as_D ly, as_D lz, as_D a, as_D b, as_D c) (simp Ds (same_D _ _ _ _ (omega arith)))

      at-sub : (u v : List ℤ) (e : ℕ) → at (sub u v) e ≡ at u e -ℤ at v e
      at-sub u v e = at-add u (scale (neg_ℤ (pos 1)) v) e ∙ ap (λ q. at u e +ℤ q) (at-scale (neg_ℤ (pos 1)) v e ∙ minus_one (at v e))

-- an independent cell and a further point have a circuit that is positive at the point
pub record PositiveCircuit (o : OneSupport) (x y z : ℕ) : Type 0 where
  pub circuit : Circuit o x y z
  pub positive : pos 0 <ℤ circuit.lz

pub a_circuit : (o : OneSupport) (x y z : ℕ) → IsProblem (problem_of o) → IsOf (problem_of o) (with_pair o (x, y)) → IsIndependent (problem_of o) (with_pair o (x, y)) → PositiveCircuit o x y z
unfolding circuit_of
a_circuit o x y z well of ind =
    let p = problem_of o in
    let cell = with_pair o (x, y) in
    let r = edges (o.sb ++ o.s ∷ o.sa) (o.cb ++ (x, y) ∷ o.ca) in
    let d = sub (point_at o.s z).coordinates (point_at o.s x).coordinates in
    let q = a_dependency o.n r d (long_rows p cell well of ind) (rows_independent p cell well of ind) in
    let i = split (length (edges o.sb o.cb)) q.bs in
    record { circuit = circuit_of o x y z i.xs i.ys i.b q.g i.long (λ w l. ap (λ u. u +ℤ q.g *ℤ dot d w) (i.same r (λ r. dot r w)) ∙ q.is w l); positive = q.positive }
