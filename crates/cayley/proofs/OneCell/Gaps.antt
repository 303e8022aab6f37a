-- gaps don't depend on the normal that is taken, nor on how the time is written
use Rattle.std.proofs.Common.{◌≡◌, ℕ, zero, suc, List, [], ◌∷◌, arith, sym, ap, ap₂, ◌∙◌}
use Rattle.std.proofs.lemmas.Int.{ints}
use Rattle.std.proofs.Math.IntN.{ℤ, pos, ◌+ℤ◌, ◌*ℤ◌, neg_ℤ, *ℤ-zero}
use Rattle.wide_int.proofs.Ring.{as_D, Ds, same_D}
use Rattle.cayley.proofs.Algebra.ScaledInverse.{dot-add, dot-scale, dot-zero}
use Rattle.cayley.proofs.Algebra.RowNormals.{gap-at}
use Rattle.cayley.proofs.OneCell.CellNormals.{one_normal}
use Rattle.cayley.proofs.Order.Times.{Same}
use Rattle.cayley.proofs.OneCell.Neighbours.{potential, gap-potential}
use Rattle.int_vectors.specs.Vectors.{scale, add, sub, dot, at, at_place, entries_at}
use Rattle.int_vectors.proofs.Entries.{at-scale, at-add, at-zero}
use Rattle.cayley.specs.Times.{Time}
use Rattle.cayley.specs.Problems.{Point, Problem, IsProblem}
use Rattle.cayley.specs.Normals.{Normal, height, gap, mark, IsNormal}
use Rattle.cayley.specs.Cells.{Cell, IsOf, IsIndependent}

-- two normals of a cell at a time
pub gap_two : (p : Problem) (cell : Cell) → IsProblem p → IsOf p cell → IsIndependent p cell → (t : Time) (v w : Normal) → IsNormal p cell t v → IsNormal p cell t w
    → (a c : Point) (e : ℕ) → w.over *ℤ at (gap t v a c) e ≡ v.over *ℤ at (gap t w a c) e
gap_two p cell well of ind t v w iv iw a c e =
    let d = sub c.coordinates a.coordinates in
    let h = sub (height t c) (height t a) in
    let z = dot-zero d _ (one_normal p cell well of ind t v w iv iw e) in
    let s = sym (dot-add d (scale w.over (entries_at e v.entries)) (scale (neg_ℤ v.over) (entries_at e w.entries)) ∙ ap₂ ◌+ℤ◌ (dot-scale d w.over (entries_at e v.entries)) (dot-scale d (neg_ℤ v.over) (entries_at e w.entries))) ∙ z in
    ap (λ x. w.over *ℤ x) (gap-at d v.entries h t.over v.over e)
    ∙ ring t.over v.over w.over (dot d (entries_at e v.entries)) (dot d (entries_at e w.entries)) (at h e) s
    ∙ ap (λ x. v.over *ℤ x) (sym (gap-at d w.entries h t.over w.over e))
  where
    step : (q d w x y h : ℤ) → w *ℤ (q *ℤ x +ℤ d *ℤ h) ≡ d *ℤ (q *ℤ y +ℤ w *ℤ h) +ℤ q *ℤ (w *ℤ x +ℤ neg_ℤ d *ℤ y)
    step q d w x y h = rw (as_D q, as_D d, as_D w, as_D x, as_D y, as_D h) (simp Ds (same_D _ _ _ _ (omega arith)))

    ring : (q d w x y h : ℤ) → w *ℤ x +ℤ neg_ℤ d *ℤ y ≡ pos 0 → w *ℤ (q *ℤ x +ℤ d *ℤ h) ≡ d *ℤ (q *ℤ y +ℤ w *ℤ h)
    ring q d w x y h z =
        let k : q *ℤ (w *ℤ x +ℤ neg_ℤ d *ℤ y) ≡ pos 0 = rw z (*ℤ-zero q) in
        let s = step q d w x y h in
        omega (arith, ints, k, s)

-- two ways to write a time
single_two : (q r b : ℤ) (e : ℕ) → q *ℤ at ((r *ℤ b) ∷ []) e ≡ r *ℤ at ((q *ℤ b) ∷ []) e
single_two q r b zero = ring q r b
  where
    ring : (q r b : ℤ) → q *ℤ (r *ℤ b) ≡ r *ℤ (q *ℤ b)
    ring q r b = rw (as_D q, as_D r, as_D b) (simp Ds (same_D _ _ _ _ (omega arith)))
single_two q r b (suc e) = *ℤ-zero q ∙ sym (*ℤ-zero r)

place_two : (k : ℕ) (q r : ℤ) (e : ℕ) → q *ℤ at (at_place k r) e ≡ r *ℤ at (at_place k q) e
place_two zero q r zero = turn q r
  where
    turn : (q r : ℤ) → q *ℤ r ≡ r *ℤ q
    turn q r = rw (as_D q, as_D r) (simp Ds (same_D _ _ _ _ (omega arith)))
place_two zero q r (suc e) = *ℤ-zero q ∙ sym (*ℤ-zero r)
place_two (suc k) q r zero = *ℤ-zero q ∙ sym (*ℤ-zero r)
place_two (suc k) q r (suc e) = place_two k q r e

mark_two : (rank : ℕ) (q r : ℤ) (e : ℕ) → q *ℤ at (mark r rank) e ≡ r *ℤ at (mark q rank) e
mark_two zero q r e = *ℤ-zero q ∙ sym (*ℤ-zero r)
mark_two (suc k) q r e = place_two (suc k) q r e

height_two : (t u : Time) (p : Point) (e : ℕ) → Same t u → t.over *ℤ at (height u p) e ≡ u.over *ℤ at (height t p) e
height_two t u p e s =
    let z = sym (at-add (scale t.over u.entries) (scale (neg_ℤ u.over) t.entries) e ∙ ap₂ ◌+ℤ◌ (at-scale t.over u.entries e) (at-scale (neg_ℤ u.over) t.entries e)) ∙ at-zero (scale_sum t u) e s in
    ap (λ x. t.over *ℤ x) (parts u)
    ∙ ring t.over u.over p.speed (at t.entries e) (at u.entries e) _ _ _ _ (single_two t.over u.over p.base e) (mark_two p.rank t.over u.over e) z
    ∙ ap (λ x. u.over *ℤ x) (sym (parts t))
  where
    scale_sum : Time → Time → List ℤ
    scale_sum t u = add (scale t.over u.entries) (scale (neg_ℤ u.over) t.entries)

    parts : (t : Time) → at (height t p) e ≡ at ((t.over *ℤ p.base) ∷ []) e +ℤ (p.speed *ℤ at t.entries e +ℤ at (mark t.over p.rank) e)
    parts t = at-add ((t.over *ℤ p.base) ∷ []) (add (scale p.speed t.entries) (mark t.over p.rank)) e ∙ ap (λ x. at ((t.over *ℤ p.base) ∷ []) e +ℤ x) (at-add (scale p.speed t.entries) (mark t.over p.rank) e ∙ ap (λ x. x +ℤ at (mark t.over p.rank) e) (at-scale p.speed t.entries e))

    step1 : (q s y b m : ℤ) → q *ℤ (b +ℤ (s *ℤ y +ℤ m)) ≡ q *ℤ b +ℤ q *ℤ m +ℤ s *ℤ (q *ℤ y)
    step1 q s y b m = rw (as_D q, as_D s, as_D y, as_D b, as_D m) (simp Ds (same_D _ _ _ _ (omega arith)))

    ring : (q r s x y b c m n : ℤ) → q *ℤ b ≡ r *ℤ c → q *ℤ m ≡ r *ℤ n → q *ℤ y +ℤ neg_ℤ r *ℤ x ≡ pos 0 → q *ℤ (b +ℤ (s *ℤ y +ℤ m)) ≡ r *ℤ (c +ℤ (s *ℤ x +ℤ n))
    ring q r s x y b c m n eb em z =
        let k : q *ℤ y ≡ r *ℤ x = minus_out q r x y z in
        step1 q s y b m ∙ ap₂ ◌+ℤ◌ (ap₂ ◌+ℤ◌ eb em) (ap (λ w. s *ℤ w) k) ∙ sym (step1 r s x c n)
      where
        neg_out : (r x : ℤ) → neg_ℤ r *ℤ x ≡ neg_ℤ (r *ℤ x)
        neg_out r x = rw (as_D r, as_D x) (simp Ds (same_D _ _ _ _ (omega arith)))

        minus_out : (q r x y : ℤ) → q *ℤ y +ℤ neg_ℤ r *ℤ x ≡ pos 0 → q *ℤ y ≡ r *ℤ x
        minus_out q r x y z = let n = neg_out r x in omega (arith, ints, n, z)

pub gap_same : (t u : Time) → Same t u → (v : Normal) (a c : Point) (e : ℕ) → u.over *ℤ at (gap t v a c) e ≡ t.over *ℤ at (gap u v a c) e
unfolding potential
gap_same t u s v a c e =
    ap (λ x. u.over *ℤ x) (gap-potential t v a c e)
    ∙ ring t.over u.over v.over (dot c.coordinates (entries_at e v.entries)) (dot a.coordinates (entries_at e v.entries)) _ _ _ _ (height_two t u c e s) (height_two t u a e s)
    ∙ ap (λ x. t.over *ℤ x) (sym (gap-potential u v a c e))
  where
    step : (r q d x h : ℤ) → r *ℤ (q *ℤ x +ℤ d *ℤ h) ≡ q *ℤ r *ℤ x +ℤ d *ℤ (r *ℤ h)
    step r q d x h = rw (as_D r, as_D q, as_D d, as_D x, as_D h) (simp Ds (same_D _ _ _ _ (omega arith)))

    turn : (q r : ℤ) → q *ℤ r ≡ r *ℤ q
    turn q r = rw (as_D q, as_D r) (simp Ds (same_D _ _ _ _ (omega arith)))

    apart : (r x y : ℤ) → r *ℤ (x +ℤ neg_ℤ y) ≡ r *ℤ x +ℤ neg_ℤ (r *ℤ y)
    apart r x y = rw (as_D r, as_D x, as_D y) (simp Ds (same_D _ _ _ _ (omega arith)))

    one : (q r d x h k : ℤ) → q *ℤ k ≡ r *ℤ h → r *ℤ (q *ℤ x +ℤ d *ℤ h) ≡ q *ℤ (r *ℤ x +ℤ d *ℤ k)
    one q r d x h k e = step r q d x h ∙ ap₂ (λ y z. y *ℤ x +ℤ d *ℤ z) (turn q r) (sym e) ∙ sym (step q r d x k)

    ring : (q r d x y h k i j : ℤ) → q *ℤ k ≡ r *ℤ h → q *ℤ j ≡ r *ℤ i → r *ℤ (q *ℤ x +ℤ d *ℤ h +ℤ neg_ℤ (q *ℤ y +ℤ d *ℤ i)) ≡ q *ℤ (r *ℤ x +ℤ d *ℤ k +ℤ neg_ℤ (r *ℤ y +ℤ d *ℤ j))
    ring q r d x y h k i j e f = apart r (q *ℤ x +ℤ d *ℤ h) (q *ℤ y +ℤ d *ℤ i) ∙ ap₂ (λ z w. z +ℤ neg_ℤ w) (one q r d x h k e) (one q r d y i j f) ∙ sym (apart q (r *ℤ x +ℤ d *ℤ k) (r *ℤ y +ℤ d *ℤ j))
