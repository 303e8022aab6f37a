-- a mixed cell of the target is alive at all late times
use Rattle.std.proofs.Common.{◌≡◌, ℕ, zero, suc, ◌+◌, ◌<◌, ◌≤◌, List, [], ◌∷◌, length, arith, refl, sym, ap, ap₂, subst, ◌∙◌, inl, inr}
use Rattle.std.proofs.lemmas.Int.{ints}
use Rattle.std.proofs.Math.IntN.{ℤ, pos, ◌+ℤ◌, ◌-ℤ◌, ◌*ℤ◌, neg_ℤ, *ℤ-zero}
use Rattle.std.specs.Prelude.{◌≤ℤ◌, ◌<ℤ◌}
use borrow.Author.Differences.{up, down}
use native.Mathlib.Decide.{ℕ_discrete, dec_le}
use Rattle.wide_int.proofs.Ring.{as_D, Ds, same_D, D-pos, neg_mul_ℤ}
use Rattle.wide_int.proofs.Order.{mul_le_ℤ}
use Rattle.int_vectors.specs.Vectors.{IsZero, IsPositive, dot, at, add, sub, scale, entries_at}
use Rattle.int_vectors.proofs.Entries.{at-scale, at-add}
use Rattle.cayley.specs.Times.{Time, time_zero, IsBefore}
use Rattle.cayley.specs.Problems.{Point, Problem, point_at, file_points}
use Rattle.cayley.specs.Cells.{Cell, EachPair, IsOf, IsIndependent, IsFurther}
use Rattle.cayley.specs.Normals.{Normal, mark, height, gap, IsNormal, AllAbove}
use Rattle.cayley.specs.Mixed.{IsAlive}
use Rattle.cayley.specs.Lives.{AliveLate}
use Rattle.cayley.specs.LifeLaws.{TargetLaw}
use Rattle.cayley.proofs.Order.Lines.{before_trans}
use Rattle.cayley.proofs.Order.Lined.{further_cases}
use Rattle.cayley.proofs.OneCell.Neighbours.{potential, gap-potential}
use Rattle.cayley.proofs.OneCell.CellLines.{base_of, height-at}
use Rattle.cayley.proofs.OneCell.RaisedRanks.{spread, spread_normal, positive_spread, zero_spread}
use Rattle.cayley.proofs.Ranking.FilePointRanks.{Alike, Alikes, file_points_alike}
use Rattle.cayley.proofs.Life.Exits.{later_both}
use Rattle.cayley.proofs.Algebra.Dependence.{length-map}
use Rattle.cayley.proofs.Lists.Pairs.{pairs_both}
use Rattle.cayley.proofs.Life.StillGaps.{gap_zero, gap_positive}

-- ---- at all late times
record LateOn (P : Time → Type 0) : Type 0 where
  pub from : Time
  pub holds : (x : Time) → IsBefore from x → P x

late_always : (P : Time → Type 0) → ((x : Time) → P x) → LateOn P
late_always P h = record { from = time_zero; holds = λ x b. h x }

late_both : (P Q : Time → Type 0) → LateOn P → LateOn Q → LateOn (λ x. P x × Q x)
late_both P Q p q =
    let m = later_both p.from q.from in
    record { from = m.0; holds = λ x b. (p.holds x (before_trans p.from m.0 x m.1 (inl b)), q.holds x (before_trans q.from m.0 x m.2 (inl b))) }

late_map : (P Q : Time → Type 0) → ((x : Time) → P x → Q x) → LateOn P → LateOn Q
late_map P Q f p = record { from = p.from; holds = λ x b. f x (p.holds x b) }

late_below : (n : ℕ) (P : ℕ → Time → Type 0) → ((c : ℕ) → c < n → LateOn (P c)) → LateOn (λ x. (c : ℕ) → c < n → P c x)
late_below zero P h = late_always _ (λ x c lt. absurd (omega arith))
late_below (suc n) P h =
    late_map (λ x. ((c : ℕ) → c < n → P c x) × P n x) _ (λ x q c lt. elim (ℕ_discrete c n) [ yes e ↦ subst (λ k. P k x) (sym e) q.1 | no apart ↦ q.0 c (omega arith) ])
    (late_both (λ x. (c : ℕ) → c < n → P c x) (P n) (late_below n P (λ c lt. h c (omega arith))) (h n (omega arith)))

late_further : (s : List Point) (a b : ℕ) (P : ℕ → Time → Type 0) → ((c : ℕ) → IsFurther s a b c → LateOn (P c)) → LateOn (λ x. (c : ℕ) → IsFurther s a b c → P c x)
late_further s a b P h =
    late_map (λ x. (c : ℕ) → c < suc (length s) → IsFurther s a b c → P c x) _ (λ x q c f. q c (omega (arith, f.1)) f)
    (late_below (suc (length s)) (λ c x. IsFurther s a b c → P c x) (λ c lt.
    further_cases s a b c
    (λ f. late_map (P c) (λ x. IsFurther s a b c → P c x) (λ x r g. r) (h c f))
    (λ n. late_always (λ x. IsFurther s a b c → P c x) (λ x g. absurd (n g)))))

late_pairs : (supports : List (List Point)) (cell : Cell) (P : Time → List Point → ℕ → ℕ → Type 0)
    → EachPair supports cell (λ s a b. LateOn (λ x. P x s a b)) → LateOn (λ x. EachPair supports cell (P x))
late_pairs [] [] P e = late_always _ (λ x. tt)
late_pairs [] (pair ∷ cell) P e = absurd e
late_pairs (s ∷ supports) [] P e = absurd e
late_pairs (s ∷ supports) (pair ∷ cell) P e = late_both (λ x. P x s pair.0 pair.1) (λ x. EachPair supports cell (P x)) e.0 (late_pairs supports cell P e.1)

-- ---- a corner is above at late times
pub positive_first : (u : List ℤ) → pos 0 <ℤ at u 0 → IsPositive u
positive_first [] p = absurd (omega (arith, ints))
positive_first (x ∷ u) p = inl p

first_not_negative : (u : List ℤ) → IsPositive u → pos 0 ≤ℤ at u 0
first_not_negative [] p = absurd p
first_not_negative (x ∷ u) (inl p) = omega (arith, ints, p)
first_not_negative (x ∷ u) (inr p) = let e = p.0 in omega (arith, ints, e)

pub mark-nothing : (q : ℤ) (r : ℕ) → at (mark q r) 0 ≡ pos 0
mark-nothing q zero = refl
mark-nothing q (suc r) = refl

pub height-first : (t : Time) (p : Point) → at (height t p) 0 ≡ t.over *ℤ p.base +ℤ p.speed *ℤ at t.entries 0
unfolding base_of
height-first t p = height-at t p 0 ∙ ap (λ x. t.over *ℤ x +ℤ p.speed *ℤ at t.entries 0) (at-add (p.base ∷ []) (mark (pos 1) p.rank) 0 ∙ ap (λ x. p.base +ℤ x) (mark-nothing (pos 1) p.rank) ∙ nothing p.base)
  where
    nothing : (x : ℤ) → x +ℤ pos 0 ≡ x
    nothing x = omega (arith, ints)

pub potential-first : (t : Time) (v : Normal) (p : Point)
    → potential t v p 0 ≡ t.over *ℤ dot p.coordinates (entries_at 0 v.entries) +ℤ v.over *ℤ (t.over *ℤ p.base +ℤ p.speed *ℤ at t.entries 0)
unfolding potential
potential-first t v p = ap (λ x. t.over *ℤ dot p.coordinates (entries_at 0 v.entries) +ℤ v.over *ℤ x) (height-first t p)

-- the time of a whole number
unfoldable whole_time : ℤ → Time
whole_time k = record { entries = k ∷ []; over = pos 1; positive = record { lt = tt } }

after_whole : (k : ℤ) (x : Time) → IsBefore (whole_time k) x → (k *ℤ x.over) ≤ℤ at x.entries 0
unfolding whole_time
after_whole k x b =
    let f = first_not_negative _ b in
    let e : at (add (scale (pos 1) x.entries) (scale (neg_ℤ x.over) (k ∷ []))) 0 ≡ pos 1 *ℤ at x.entries 0 +ℤ neg_ℤ x.over *ℤ k =
    simp (at-add, at-scale) refl in
    let c = neg_right x.over k in
    omega (arith, ints, f, e, c)
  where
    neg_right : (q n : ℤ) → neg_ℤ q *ℤ n ≡ neg_ℤ (n *ℤ q)
    neg_right q n = rw (as_D q, as_D n) (simp Ds (same_D _ _ _ _ (omega arith)))

corner_late : (v : Normal) (p q : Point) → p.speed ≡ pos 0 → q.speed ≡ pos 1 → LateOn (λ t. IsPositive (gap t v p q))
corner_late v p q sp sq =
    let w = entries_at 0 v.entries in
    let x = dot p.coordinates w in
    let y = dot q.coordinates w in
    let k = (y +ℤ v.over *ℤ q.base) -ℤ (x +ℤ v.over *ℤ p.base) in
    let b = pos (up k + down k) in
    record {
      from = whole_time (b +ℤ pos 1);
      holds = λ t late.
          let time = at t.entries 0 in
          let o = t.positive in
          let l = after_whole (b +ℤ pos 1) t late in
          let s = shift b t.over in
          let d = v.positive in
          let g = gap-potential t v p q 0 in
          let i = potential-first t v p ∙ ap (λ s. t.over *ℤ x +ℤ v.over *ℤ (t.over *ℤ p.base +ℤ s *ℤ time)) sp in
          let j = potential-first t v q ∙ ap (λ s. t.over *ℤ y +ℤ v.over *ℤ (t.over *ℤ q.base +ℤ s *ℤ time)) sq in
          let r = ring t.over v.over x y p.base q.base time in
          let m = mul_le_ℤ (neg_ℤ k) b t.over (omega (arith, ints)) (omega (arith, ints, o)) in
          let n = neg_mul_ℤ k t.over in
          let f = mul_le_ℤ (pos 0) b t.over (omega (arith, ints)) (omega (arith, ints, o)) in
          let h = mul_le_ℤ (pos 1) v.over time (omega (arith, ints, d)) (omega (arith, ints, f, l, s, o)) in
          positive_first _ (omega (arith, ints, g, i, j, r, m, n, h, l, s, o));
    }
  where
    shift : (n q : ℤ) → (n +ℤ pos 1) *ℤ q ≡ n *ℤ q +ℤ q
    shift n q = rw (as_D n, as_D q, D-pos 1) (simp Ds (same_D _ _ _ _ (omega arith)))

    ring : (q d x y a b p : ℤ) → q *ℤ y +ℤ d *ℤ (q *ℤ b +ℤ pos 1 *ℤ p) -ℤ (q *ℤ x +ℤ d *ℤ (q *ℤ a +ℤ pos 0 *ℤ p)) ≡ ((y +ℤ d *ℤ b) -ℤ (x +ℤ d *ℤ a)) *ℤ q +ℤ d *ℤ p
    ring q d x y a b p = rw (as_D q, as_D d, as_D x, as_D y, as_D a, as_D b, as_D p, D-pos 0, D-pos 1) (simp Ds (same_D _ _ _ _ (omega arith)))

alike_to : (gs : List ℕ) (supports us : List (List Point)) (cell : Cell) (P Q : List Point → ℕ → ℕ → Type 0) → ((s u : List Point) (a b : ℕ) → Alike gs s u → P u a b → Q s a b)
    → Alikes gs supports us → EachPair us cell P → EachPair supports cell Q
alike_to gs [] [] [] P Q h w e = tt
alike_to gs [] [] (x ∷ cell) P Q h w e = e
alike_to gs [] (u ∷ us) cell P Q h w e = absurd w
alike_to gs (s ∷ supports) [] cell P Q h w e = absurd w
alike_to gs (s ∷ supports) (u ∷ us) [] P Q h w e = e
alike_to gs (s ∷ supports) (u ∷ us) (x ∷ cell) P Q h w e = (h s u x.0 x.1 w.0 e.0, alike_to gs supports us cell P Q h w.1 e.1)

alike_from : (gs : List ℕ) (supports us : List (List Point)) (cell : Cell) (P Q R : List Point → ℕ → ℕ → Type 0) → ((s u : List Point) (a b : ℕ) → Alike gs s u → P u a b → Q s a b → R u a b)
    → Alikes gs supports us → EachPair us cell P → EachPair supports cell Q → EachPair us cell R
alike_from gs [] [] [] P Q R h w e d = tt
alike_from gs [] [] (x ∷ cell) P Q R h w e d = e
alike_from gs [] (u ∷ us) cell P Q R h w e d = absurd w
alike_from gs (s ∷ supports) [] cell P Q R h w e d = absurd w
alike_from gs (s ∷ supports) (u ∷ us) [] P Q R h w e d = e
alike_from gs (s ∷ supports) (u ∷ us) (x ∷ cell) P Q R h w e d = (h s u x.0 x.1 w.0 e.0 d.0, alike_from gs supports us cell P Q R h w.1 e.1 d.1)

-- ---- the cell in the path
module _ (gs : List ℕ) (p goal : Problem) (cell : Cell) (w : Alikes gs p.supports goal.supports) (ld : p.dimension ≡ goal.dimension) (mixed : IsAlive goal cell time_zero) where
  v : Normal
  v = spread_normal gs mixed.2.0

  abbrev Ordered : List Point → ℕ → ℕ → Type 0
  Ordered u a b = (1 ≤ a) × (a < b) × (b ≤ length u)

  late_of : IsOf p cell
  late_of = alike_to gs p.supports goal.supports cell Ordered Ordered (λ s u a b k o. (o.0, o.1, (let l = k.long in let m = o.2 in omega (arith, l, m)))) w mixed.0

  late_independent : IsIndependent p cell
  late_independent x l e =
      mixed.1 x (l ∙ ld)
      (alike_from gs p.supports goal.supports cell Ordered
      (λ s a b. dot (sub (point_at s b).coordinates (point_at s a).coordinates) x ≡ pos 0) (λ s a b. dot (sub (point_at s b).coordinates (point_at s a).coordinates) x ≡ pos 0)
      (λ s u a b k o z.
      let ea = (k.file a o.0 (omega (arith, o.1, o.2))).coordinates in
      let eb = (k.file b (omega (arith, o.0, o.1)) o.2).coordinates in
      ap₂ (λ i j. dot (sub i j) x) (sym eb) (sym ea) ∙ z)
      w mixed.0 e)

  late_normal : (t : Time) → IsNormal p cell t v
  unfolding v spread_normal
  late_normal t =
      let n = mixed.2.0 in
      let Z : List Point → ℕ → ℕ → Type 0 = λ u a b. IsZero (gap time_zero n (point_at u a) (point_at u b)) in
      let OZ : List Point → ℕ → ℕ → Type 0 = λ u a b. Ordered u a b × IsZero (gap time_zero n (point_at u a) (point_at u b)) in
      let oz = pairs_both goal.supports cell Ordered Z OZ (λ u a b o z. (o, z)) mixed.0 mixed.2.1.1 in (
        length-map (spread gs) n.entries ∙ mixed.2.1.0 ∙ sym ld,
        alike_to gs p.supports goal.supports cell OZ (λ s a b. IsZero (gap t (spread_normal gs n) (point_at s a) (point_at s b)))
            (λ s u a b k x.
            let ra = k.file a x.0.0 (let y = x.0.1 in let z = x.0.2 in omega (arith, y, z)) in
            let rb = k.file b (let y = x.0.0 in let z = x.0.1 in omega (arith, y, z)) x.0.2 in
            gap_zero time_zero t (spread_normal gs n) (point_at s a) (point_at s b) ra.still rb.still
            (zero_spread gs n (point_at u a) (point_at u b) (point_at s a) (point_at s b) ra rb x.1))
            w oz,
      )

  late_above : LateOn (λ t. AllAbove p cell t v)
  unfolding v
  late_above =
      let n = mixed.2.0 in
      let A : List Point → ℕ → ℕ → Type 0 = λ u a b. (c : ℕ) → IsFurther u a b c → IsPositive (gap time_zero n (point_at u a) (point_at u c)) in
      let OA : List Point → ℕ → ℕ → Type 0 = λ u a b. Ordered u a b × ((c : ℕ) → IsFurther u a b c → IsPositive (gap time_zero n (point_at u a) (point_at u c))) in
      let oa = pairs_both goal.supports cell Ordered A OA (λ u a b o z. (o, z)) mixed.0 mixed.2.2 in
      late_pairs p.supports cell (λ t s a b. (c : ℕ) → IsFurther s a b c → IsPositive (gap t (spread_normal gs n) (point_at s a) (point_at s c)))
      (alike_to gs p.supports goal.supports cell OA (λ s a b. LateOn (λ t. (c : ℕ) → IsFurther s a b c → IsPositive (gap t (spread_normal gs n) (point_at s a) (point_at s c))))
      (λ s u a b k x. late_further s a b (λ c t. IsPositive (gap t (spread_normal gs n) (point_at s a) (point_at s c))) (λ c f.
      let ra = k.file a x.0.0 (let y = x.0.1 in let z = x.0.2 in omega (arith, y, z)) in
      elim (dec_le c (length u)) [
        | yes m ↦
            let rc = k.file c f.0 m in
            late_always (λ t. IsPositive (gap t (spread_normal gs n) (point_at s a) (point_at s c))) (λ t.
            gap_positive time_zero t (spread_normal gs n) (point_at s a) (point_at s c) ra.still rc.still
            (positive_spread gs n (point_at u a) (point_at u c) (point_at s a) (point_at s c) ra rc (x.1 c (f.0, m, f.2, f.3))))
        | no m ↦ corner_late (spread_normal gs n) (point_at s a) (point_at s c) ra.still (k.corner c (omega arith) f.1)
      ]))
      w oa)

  -- a mixed cell of the target is alive at all late times
  pub mixed_late : AliveLate p cell
  mixed_late = let r = late_above in (r.from, λ t b. (late_of, late_independent, (v, late_normal t, r.holds t b)))

pub target_law : TargetLaw
target_law p cell still mixed =
    let a = file_points_alike p still.ranks still.still still.corners in
    mixed_late a.0 p (file_points p) cell a.1 refl mixed
