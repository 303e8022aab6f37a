-- a vector and a denominator divided by their greatest common divisor
use Rattle.std.proofs.Common.{◌≡◌, ◌≢◌, ℕ, ◌*◌, ◌<◌, ℤ, pos, ◌*ℤ◌, ◌<ℤ◌, unsigned_abs, List, [], ◌∷◌, length, map, drop, refl, sym, ap, ap₂, subst, ◌∙◌, arith}
use Prim.Native.Nat.{◌∣◌}
use Rattle.std.specs.Int.{IsGcd}
use Rattle.std.proofs.Math.Nat.{one-dvd, mul-dvd-mul_left, dvd_of_mul-dvd-mul_left}
use Rattle.std.proofs.lemmas.Int.{ints, unsigned_abs-mul}
use Rattle.std.proofs.lemmas.Nat.Gcd.{dvd_antisymm}
use Rattle.std.proofs.Math.IntN.{*ℤ-zero}
use Rattle.wide_int.proofs.Order.{sign_cases, mul_pos_neg_ℤ, mul_cancel}
use Rattle.wide_int.proofs.Ring.{as_D, Ds, same_D}
use Rattle.wide_int.proofs.Signed.{abs_positive}
use Rattle.int_vectors.specs.Vectors.{Each, add, scale, at}
use Rattle.int_vectors.specs.Contents.{content, DividesEach}
use Rattle.int_vectors.proofs.EntryDivisors.{content_is, divides_trans}
use Rattle.cayley.specs.Mixed.{IsCoprime, IsLowestNormal}
use Rattle.cayley.specs.Problems.{Problem, file_points}
use Rattle.cayley.specs.Cells.{Cell}
use Rattle.cayley.specs.Times.{time_zero}
use Rattle.cayley.proofs.OneCell.CellNormals.{a_normal}
use Rattle.inner_normal.specs.declared.moving.MovingNormal.{MovingNormal}
use Rattle.inner_normal.specs.LowestForms.{IsLowestForm}
use Rattle.inner_normal.specs.MovingNormals.{IsMovingNormal}

divided_each : (d g : ℕ) (k : ℤ) (v : List ℤ) → unsigned_abs k ≡ g → Each v (λ x. d ∣ unsigned_abs x) → DividesEach (g * d) (scale k v)
divided_each d g k [] e h = tt
divided_each d g k (x ∷ v) e h = (
  subst (λ n. g * d ∣ n) (sym (unsigned_abs-mul k x ∙ ap (λ n. n * unsigned_abs x) e)) (mul-dvd-mul_left d g h.0),
  divided_each d g k v e h.1,
)

pub one_left : (g d : ℕ) → 0 < g → g * d ∣ g → d ≡ 1
one_left g d p h =
    let e : g * 1 ≡ g = omega arith in
    dvd_antisymm (dvd_of_mul-dvd-mul_left {k = g} d {n = 1} p (subst (λ n. g * d ∣ n) (sym e) h)) (one-dvd d)

-- no number but 1 divides what division by the gcd leaves
coprime_left : (ps v : List ℤ) (den d k : ℤ) → IsGcd (content ps) (unsigned_abs den) (unsigned_abs k) → pos 0 <ℤ k → ps ≡ scale k v → k *ℤ d ≡ den → IsCoprime (d ∷ v)
coprime_left ps v den d k g p e f n h =
    let m = content_is ps in
    let a = subst (DividesEach (unsigned_abs k * n)) (sym e) (divided_each n (unsigned_abs k) k v refl h.1) in
    let b = subst (λ z. unsigned_abs k * n ∣ unsigned_abs z) f (subst (λ z. unsigned_abs k * n ∣ z) (sym (unsigned_abs-mul k d)) (mul-dvd-mul_left n (unsigned_abs k) h.0)) in
    one_left (unsigned_abs k) n (abs_positive k p) (g.2 (unsigned_abs k * n) (m.1 (unsigned_abs k * n) a) b)

pub divides_content : (g : ℕ) (xs : List ℤ) → g ∣ content xs → DividesEach g xs
divides_content g xs h = divides_trans g (content xs) xs h (content_is xs).0

-- the denominator that is left is positive, and so was the factor
pub positive_other : (den d k : ℤ) → pos 0 <ℤ den → pos 0 <ℤ k → k *ℤ d ≡ den → pos 0 <ℤ d
positive_other den d k h p e =
    sign_cases d
    (λ n. absurd (let m = mul_pos_neg_ℤ k d p n in omega (arith, ints, m, e, h)))
    (λ z. absurd (let m : k *ℤ d ≡ pos 0 = rw z (*ℤ-zero k) in omega (arith, ints, m, e, h)))
    (λ q. q)

pub lowest_form : (ps v : List ℤ) (den d k : ℤ) → IsGcd (content ps) (unsigned_abs den) (unsigned_abs k) → pos 0 <ℤ den → pos 0 <ℤ k → ps ≡ scale k v → k *ℤ d ≡ den → IsLowestForm ps den v d
lowest_form ps v den d k g h p e f = (positive_other den d k h p f, coprime_left ps v den d k g p e f, (k, e, f))

-- a common factor of both sides
cancel_scale : (k o d : ℤ) (v es : List ℤ) → k ≢ pos 0 → scale o (scale k v) ≡ scale (k *ℤ d) es → scale o v ≡ scale d es
cancel_scale k o d [] [] n h = refl
cancel_scale k o d [] (e ∷ es) n h = absurd (let l = ap length h in omega (arith, l))
cancel_scale k o d (x ∷ v) [] n h = absurd (let l = ap length h in omega (arith, l))
cancel_scale k o d (x ∷ v) (e ∷ es) n h =
    ap₂ (λ y ys. y ∷ ys)
    (mul_cancel (o *ℤ x) (d *ℤ e) k n (left o x k ∙ ap (λ l. at l 0) h ∙ right k d e))
    (cancel_scale k o d v es n (ap (λ l. drop 1 l) h))
  where
    left : (o x k : ℤ) → (o *ℤ x) *ℤ k ≡ o *ℤ (k *ℤ x)
    left o x k = rw (as_D o, as_D x, as_D k) (simp Ds (same_D _ _ _ _ (omega arith)))

    right : (k d e : ℤ) → (k *ℤ d) *ℤ e ≡ (d *ℤ e) *ℤ k
    right k d e = rw (as_D k, as_D d, as_D e) (simp Ds (same_D _ _ _ _ (omega arith)))

-- at the time 0 nothing has moved
still_numerators : (ps qs : List ℤ) → length ps ≡ length qs → add (scale (pos 1) ps) (scale (pos 0) qs) ≡ ps
still_numerators [] [] l = refl
still_numerators [] (q ∷ qs) l = absurd (omega (arith, l))
still_numerators (p ∷ ps) [] l = absurd (omega (arith, l))
still_numerators (p ∷ ps) (q ∷ qs) l = ap₂ (λ x xs. x ∷ xs) (omega (arith, ints)) (still_numerators ps qs (omega (arith, l)))

-- a moving normal of a cell of the file points, in lowest terms at the time 0
pub lowest_normal : (p : Problem) (cell : Cell) (m : MovingNormal) (v : List ℤ) (d : ℤ) → IsLowestForm m.p m.den v d → IsMovingNormal (file_points p) cell m → IsLowestNormal p cell v d
lowest_normal p cell m v d f n =
    let a = a_normal (file_points p) cell n.problem n.of n.independent time_zero in
    let w = a.0 in
    let k = f.2.0 in
    let other : k ≢ pos 0 = λ z. (let e = f.2.2 in let h = n.positive in let s : k *ℤ d ≡ pos 0 = rw z (zero_times d) in omega (arith, ints, e, h, s)) in
    let one : pos 1 *ℤ m.den ≡ k *ℤ d = one_times m.den ∙ sym f.2.2 in
    let first = n.first time_zero w a.1 in (
      f.0,
      f.1,
      (
        w,
        a.1,
        cancel_scale k w.over d v (map (λ e. at e 0) w.entries) other
            (ap (scale w.over) (sym f.2.1 ∙ sym (still_numerators m.p m.q (n.long.0 ∙ sym n.long.1))) ∙ first ∙ ap (λ z. scale z (map (λ e. at e 0) w.entries)) one),
      ),
    )
  where
    zero_times : (d : ℤ) → pos 0 *ℤ d ≡ pos 0
    zero_times d = omega (arith, ints)

    one_times : (d : ℤ) → pos 1 *ℤ d ≡ d
    one_times d = omega (arith, ints)
