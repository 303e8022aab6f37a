-- rows have one inverse in lowest terms; so the carried one is that of the elimination, and its normal has the same numbers
use Rattle.std.proofs.Common.{◌≡◌, ℕ, suc, ◌*◌, ◌<◌, unsigned_abs, ℤ, pos, negsuc, ◌+ℤ◌, ◌-ℤ◌, ◌*ℤ◌, ◌<ℤ◌, neg_ℤ, List, [], ◌∷◌, ◌++◌, length, arith, refl, sym, ap, ap₂, subst, ◌∙◌}
use Prim.Native.Nat.{◌∣◌}
use Rattle.std.proofs.Math.IntN.{*ℤ_comm}
use Rattle.std.proofs.Math.Nat.{dvd-mul_right}
use Rattle.std.proofs.lemmas.Int.{ints, unsigned_abs-mul}
use Rattle.std.proofs.lemmas.Nat.Gcd.{dvd_antisymm}
use Rattle.wide_int.proofs.Ring.{as_D, Ds, same_D}
use Rattle.wide_int.proofs.Signed.{positive_is}
use Rattle.int_vectors.specs.Contents.{content, DividesEach}
use Rattle.int_vectors.specs.Vectors.{Each, add, dot, scale, sub, row_at}
use Rattle.int_vectors.proofs.EntryDivisors.{content_is, scale_cancel, divides_both, divides_apart}
use Rattle.int_vectors.proofs.Entries.{length-scale}
use Rattle.reduced_rows.proofs.LeastMultiple.{divides_content}
use Rattle.reduced_rows.specs.CellRefusals.{IsEliminated}
use Rattle.reduced_rows.specs.Denominators.{lcm_from, shares}
use Rattle.reduced_rows.proofs.Picking.{each_at}
use Rattle.reduced_rows.proofs.Orthogonal.{lcm_some}
use Rattle.cayley.specs.Cells.{Cell, EachPair, IsOf}
use Rattle.cayley.specs.Problems.{Point, Problem, IsProblem, point_at}
use Rattle.cayley.specs.Rows.{edge_rows, edges}
use Rattle.cayley.proofs.OneCell.CellNormals.{same_long}
use Rattle.cayley.proofs.Algebra.Kernel.{Kills}
use Rattle.cayley.proofs.Algebra.ScaledInverse.{dot-add, dot-scale}
use Rattle.cayley.proofs.OneCell.OneNormal.{same_lists}
use Rattle.inner_normal.specs.Inverses.{Inverse, inverse_of}
use Rattle.inner_normal.proofs.Meaning.{reduced_of}
use Rattle.inner_normal.specs.declared.moving.MovingNormal.{MovingNormal}
use Rattle.inner_normal.specs.MovingNormals.{IsMovingNormal}
use Rattle.inner_normal.specs.Workings.{IsNormalFrom}
use Rattle.inner_normal.proofs.FileNormals.{levels_of}
use Rattle.inner_normal.proofs.PairEquations.{Levels}
use Rattle.inner_normal.proofs.RowEquations.{moving_from}
use Rattle.carried_inverse.specs.Systems.{IsScaledInverse, IsInverseOfCell}
use Rattle.carried_inverse.proofs.FromRows.{inverse_of_cell}
use Rattle.carried_inverse.proofs.Independence.{rows_free}
use Rattle.carried_inverse.proofs.Normals.{rows_shape}

-- a difference that is zero, of lists of one length
pub kills_from : (rows : List (List ℤ)) (v : List ℤ) → ((j : ℕ) → j < length rows → dot (row_at rows j) v ≡ pos 0) → Kills rows v
kills_from [] v f = tt
kills_from (r ∷ rows) v f = (f 0 (omega arith), kills_from rows v (λ j l. f (suc j) (omega (arith, l))))

same_lines : (xs ys : List (List ℤ)) → length xs ≡ length ys → ((k : ℕ) → k < length xs → row_at xs k ≡ row_at ys k) → xs ≡ ys
same_lines [] [] l f = refl
same_lines [] (y ∷ ys) l f = absurd (omega (arith, l))
same_lines (x ∷ xs) [] l f = absurd (omega (arith, l))
same_lines (x ∷ xs) (y ∷ ys) l f = ap₂ (λ (u : List ℤ) (us : List (List ℤ)). u ∷ us) (f 0 (omega arith)) (same_lines xs ys (omega (arith, l)) (λ k lt. f (suc k) (omega (arith, lt))))

-- all entries in one list
flat : List (List ℤ) → List ℤ
flat [] = []
flat (x ∷ xs) = x ++ flat xs

flat_each : (d : ℕ) (xs : List (List ℤ)) → DividesEach d (flat xs) → Each xs (DividesEach d)
unfolding flat
flat_each d [] h = tt
flat_each d (x ∷ xs) h = let r = divides_apart d x (flat xs) h in (r.0, flat_each d xs r.1)

scale-both : (k : ℤ) (xs ys : List ℤ) → scale k (xs ++ ys) ≡ scale k xs ++ scale k ys
scale-both k [] ys = refl
scale-both k (x ∷ xs) ys = ap (λ l. (k *ℤ x) ∷ l) (scale-both k xs ys)

scaled_divides : (d : ℕ) (k : ℤ) (xs : List (List ℤ)) → ((i : ℕ) → i < length xs → DividesEach d (scale k (row_at xs i))) → DividesEach d (scale k (flat xs))
unfolding flat
scaled_divides d k [] f = tt
scaled_divides d k (x ∷ xs) f = subst (DividesEach d) (sym (scale-both k x (flat xs))) (divides_both d (scale k x) (scale k (flat xs)) (f 0 (omega arith)) (scaled_divides d k xs (λ i l. f (suc i) (omega (arith, l)))))

multiple_divides : (d : ℤ) (ys : List ℤ) → DividesEach (unsigned_abs d) (scale d ys)
multiple_divides d [] = tt
multiple_divides d (y ∷ ys) = (subst (λ n. unsigned_abs d ∣ n) (sym (unsigned_abs-mul d y)) (dvd-mul_right (unsigned_abs d) (unsigned_abs y)), multiple_divides d ys)

module _ (n : ℕ) (rows : List (List ℤ)) (many : length rows ≡ n) where
  columns_agree : (a b : Inverse) → IsScaledInverse n rows a → IsScaledInverse n rows b → (k : ℕ) → k < n → scale b.den (row_at a.columns k) ≡ scale a.den (row_at b.columns k)
  columns_agree a b ha hb k lt =
      let x = row_at a.columns k in
      let y = row_at b.columns k in
      let lx = each_at (λ c. length c ≡ n) a.columns k [] (let m = ha.count in omega (arith, lt, m)) ha.long in
      let ly = each_at (λ c. length c ≡ n) b.columns k [] (let m = hb.count in omega (arith, lt, m)) hb.long in
      same_lists b.den a.den x y (lx ∙ sym ly)
      (rows_free n rows a many ha (add (scale b.den x) (scale (neg_ℤ a.den) y)) (same_long (scale b.den x) (scale (neg_ℤ a.den) y) n (length-scale b.den x ∙ lx) (length-scale (neg_ℤ a.den) y ∙ ly))
      (kills_from rows (add (scale b.den x) (scale (neg_ℤ a.den) y)) (λ j lj.
      let r = row_at rows j in
      dot-add r (scale b.den x) (scale (neg_ℤ a.den) y) ∙ ap₂ ◌+ℤ◌ (dot-scale r b.den x) (dot-scale r (neg_ℤ a.den) y)
      ∙ ap₂ (λ u w. b.den *ℤ u +ℤ neg_ℤ a.den *ℤ w) (ha.inverts j k (omega (arith, lj, many)) lt) (hb.inverts j k (omega (arith, lj, many)) lt)
      ∙ nothing b.den a.den _)))
    where
      nothing : (b a e : ℤ) → b *ℤ (a *ℤ e) +ℤ neg_ℤ a *ℤ (b *ℤ e) ≡ pos 0
      nothing b a e = let f = minus b a e in omega (arith, ints, f)
        where
          minus : (b a e : ℤ) → neg_ℤ a *ℤ (b *ℤ e) ≡ neg_ℤ (b *ℤ (a *ℤ e))
          minus b a e = rw (as_D b, as_D a, as_D e) (simp Ds (same_D _ _ _ _ (omega arith)))

  den_divides : (a b : Inverse) → IsScaledInverse n rows a → IsScaledInverse n rows b → unsigned_abs a.den ∣ unsigned_abs b.den
  den_divides a b ha hb =
      let d = unsigned_abs a.den in
      let c = unsigned_abs b.den in
      let all = a.den ∷ flat a.columns in
      let is = content_is all in
      let one : content all ≡ 1 = ha.lowest (content all) is.0.0 (flat_each (content all) a.columns is.0.1) in
      let first : d ∣ unsigned_abs (b.den *ℤ a.den) = subst (λ z. d ∣ unsigned_abs z) (*ℤ_comm a.den b.den) (subst (λ m. d ∣ m) (sym (unsigned_abs-mul a.den b.den)) (dvd-mul_right d c)) in
      let rest = scaled_divides d b.den a.columns (λ i l. let li : i < n = (let m = ha.count in omega (arith, l, m)) in subst (DividesEach d) (sym (columns_agree a b ha hb i li)) (multiple_divides a.den (row_at b.columns i))) in
      let e = positive_is b.den hb.positive in
      let i : c * 1 ≡ c = omega arith in
      subst (λ m. d ∣ m) (ap (λ m. c * m) one ∙ i)
      (divides_content d c all (above b.den hb.positive) (subst (λ (z : ℤ). DividesEach d (scale z all)) (sym e) (first, rest)))
    where
      above : (z : ℤ) → pos 0 <ℤ z → 0 < unsigned_abs z
      above (pos m) h = omega (arith, ints, h)
      above (negsuc m) h = absurd (omega (arith, ints, h))

  pub one_inverse : (a b : Inverse) → IsScaledInverse n rows a → IsScaledInverse n rows b → a ≡ b
  one_inverse a b ha hb =
      let d = sym (positive_is a.den ha.positive) ∙ ap pos (dvd_antisymm (den_divides a b ha hb) (den_divides b a hb ha)) ∙ positive_is b.den hb.positive in
      ap₂ mk d (same_lines a.columns b.columns (ha.count ∙ sym hb.count) (λ k lt.
      scale_cancel b.den (row_at a.columns k) (row_at b.columns k) (λ z. let p = hb.positive in omega (arith, ints, z, p))
      (columns_agree a b ha hb k (let m = ha.count in omega (arith, lt, m)) ∙ ap (λ z. scale z (row_at b.columns k)) d)))
    where
      mk : ℤ → List (List ℤ) → Inverse
      mk den columns = record { den = den; columns = columns }

-- the lcm of the pivots is positive
module _ (p : Problem) (cell : Cell) (well : IsProblem p) (of : IsOf p cell) (made : List (List ℤ)) (done : IsEliminated p.dimension (edge_rows p cell) made) where
  pub den_above : pos 0 <ℤ (inverse_of made).den
  den_above = let h = lcm_some p.dimension 0 1 made (omega arith) (reduced_of p cell well of made done).reduced in omega (arith, ints, h)

  -- the inverse in lowest terms is that of the reduced rows
  pub is_inverse_of : (a : Inverse) → IsInverseOfCell p cell a → a ≡ inverse_of made
  is_inverse_of a h = one_inverse p.dimension (edges p.supports cell) (rows_shape p cell well of).0 a (inverse_of made) h (inverse_of_cell p cell well of made done den_above)

-- two normals over one denominator
module _ (p : Problem) (cell : Cell) (m o : MovingNormal) (hm : IsMovingNormal p cell m) (ho : IsMovingNormal p cell o) (den : m.den ≡ o.den) where
  pairs_agree : (f : Point → ℤ) (x y : List ℤ) (supports : List (List Point)) (cell : Cell)
      → EachPair supports cell (λ s a b. dot (sub (point_at s b).coordinates (point_at s a).coordinates) x +ℤ m.den *ℤ (f (point_at s b) -ℤ f (point_at s a)) ≡ pos 0)
      → EachPair supports cell (λ s a b. dot (sub (point_at s b).coordinates (point_at s a).coordinates) y +ℤ m.den *ℤ (f (point_at s b) -ℤ f (point_at s a)) ≡ pos 0)
      → EachPair supports cell (λ s a b. dot (sub (point_at s b).coordinates (point_at s a).coordinates) (add (scale (pos 1) x) (scale (neg_ℤ (pos 1)) y)) ≡ pos 0)
  pairs_agree f x y [] [] e g = tt
  pairs_agree f x y [] (z ∷ cell) e g = e
  pairs_agree f x y (s ∷ supports) [] e g = e
  pairs_agree f x y (s ∷ supports) (z ∷ cell) e g = (
    let r = sub (point_at s z.1).coordinates (point_at s z.0).coordinates in
        dot-add r (scale (pos 1) x) (scale (neg_ℤ (pos 1)) y) ∙ ap₂ ◌+ℤ◌ (dot-scale r (pos 1) x) (dot-scale r (neg_ℤ (pos 1)) y)
        ∙ less (dot r x) (dot r y) (m.den *ℤ (f (point_at s z.1) -ℤ f (point_at s z.0))) e.0 g.0,
    pairs_agree f x y supports cell e.1 g.1,
  )
    where
      less : (x y d : ℤ) → x +ℤ d ≡ pos 0 → y +ℤ d ≡ pos 0 → pos 1 *ℤ x +ℤ neg_ℤ (pos 1) *ℤ y ≡ pos 0
      less x y d e f = omega (arith, ints, e, f)

  agree : (f : Point → ℤ) (x y : List ℤ) → length x ≡ p.dimension → length y ≡ p.dimension
      → EachPair p.supports cell (λ s a b. dot (sub (point_at s b).coordinates (point_at s a).coordinates) x +ℤ m.den *ℤ (f (point_at s b) -ℤ f (point_at s a)) ≡ pos 0)
      → EachPair p.supports cell (λ s a b. dot (sub (point_at s b).coordinates (point_at s a).coordinates) y +ℤ m.den *ℤ (f (point_at s b) -ℤ f (point_at s a)) ≡ pos 0) → x ≡ y
  agree f x y lx ly e g =
      one x ∙ same_lists (pos 1) (pos 1) x y (lx ∙ sym ly)
      (hm.independent (add (scale (pos 1) x) (scale (neg_ℤ (pos 1)) y)) (same_long (scale (pos 1) x) (scale (neg_ℤ (pos 1)) y) p.dimension (length-scale (pos 1) x ∙ lx) (length-scale (neg_ℤ (pos 1)) y ∙ ly))
      (pairs_agree f x y p.supports cell e g)) ∙ sym (one y)
    where
      one : (xs : List ℤ) → xs ≡ scale (pos 1) xs
      one [] = refl
      one (x ∷ xs) = ap₂ (λ u us. u ∷ us) (omega (arith, ints)) (one xs)

  first_of : (q : MovingNormal) (supports : List (List Point)) (cell : Cell) → EachPair supports cell (Levels q.den q.p q.q)
      → EachPair supports cell (λ s a b. dot (sub (point_at s b).coordinates (point_at s a).coordinates) q.p +ℤ q.den *ℤ ((point_at s b).base -ℤ (point_at s a).base) ≡ pos 0)
  first_of q [] [] e = tt
  first_of q [] (z ∷ cell) e = e
  first_of q (s ∷ supports) [] e = e
  first_of q (s ∷ supports) (z ∷ cell) e = (e.0.0, first_of q supports cell e.1)

  second_of : (q : MovingNormal) (supports : List (List Point)) (cell : Cell) → EachPair supports cell (Levels q.den q.p q.q)
      → EachPair supports cell (λ s a b. dot (sub (point_at s b).coordinates (point_at s a).coordinates) q.q +ℤ q.den *ℤ ((point_at s b).speed -ℤ (point_at s a).speed) ≡ pos 0)
  second_of q [] [] e = tt
  second_of q [] (z ∷ cell) e = e
  second_of q (s ∷ supports) [] e = e
  second_of q (s ∷ supports) (z ∷ cell) e = (e.0.1, second_of q supports cell e.1)

  pub same_numbers : (m.p ≡ o.p) × (m.q ≡ o.q)
  same_numbers =
      let em = levels_of p cell m hm in
      let eo = levels_of p cell o ho in (
        agree (λ x. x.base) m.p o.p hm.long.0 ho.long.0 (first_of m p.supports cell em)
            (subst (λ (d : ℤ). EachPair p.supports cell (λ s a b. dot (sub (point_at s b).coordinates (point_at s a).coordinates) o.p +ℤ d *ℤ ((point_at s b).base -ℤ (point_at s a).base) ≡ pos 0)) (sym den) (first_of o p.supports cell eo)),
        agree (λ x. x.speed) m.q o.q hm.long.1 ho.long.1 (second_of m p.supports cell em)
            (subst (λ (d : ℤ). EachPair p.supports cell (λ s a b. dot (sub (point_at s b).coordinates (point_at s a).coordinates) o.q +ℤ d *ℤ ((point_at s b).speed -ℤ (point_at s a).speed) ≡ pos 0)) (sym den) (second_of o p.supports cell eo)),
      )

-- the same numbers as by the elimination
pub numbers_from : (p : Problem) (cell : Cell) → IsProblem p → IsOf p cell → (a : Inverse) → IsInverseOfCell p cell a → (m : MovingNormal) → m.den ≡ a.den → IsMovingNormal p cell m
    → (made : List (List ℤ)) → IsEliminated p.dimension (edge_rows p cell) made → IsNormalFrom made m
numbers_from p cell well of a h m d n made done =
    let e = ap (λ (i : Inverse). i.den) (is_inverse_of p cell well of made done a h) in
    let o : MovingNormal = record { p = shares (length made) 0 (lcm_from 0 1 made) made; q = shares (suc (length made)) 0 (lcm_from 0 1 made) made; den = pos (lcm_from 0 1 made) } in
    let ho = moving_from p cell well of made done o (record { resting = refl; moving = refl; over = refl }) (den_above p cell well of made done) in
    let s = same_numbers p cell m o n ho (d ∙ e) in
    record { resting = s.0; moving = s.1; over = d ∙ e }
