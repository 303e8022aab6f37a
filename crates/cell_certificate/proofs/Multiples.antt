-- a normal that is a multiple of another: where its numbers fit, so do the other's
use Rattle.std.proofs.Common.{◌≡◌, ◌≢◌, ℕ, ◌*◌, ◌<◌, ◌^◌, List, [], ◌∷◌, length, drop, arith, refl, sym, ap, ap₂, subst, ◌∙◌, unsigned_abs}
use Rattle.std.proofs.lemmas.Int.{ints, unsigned_abs-mul}
use Rattle.std.proofs.Math.Nat.{dvd-mul_right}
use Rattle.std.proofs.Math.IntN.{ℤ, pos, ◌+ℤ◌, ◌-ℤ◌, ◌*ℤ◌, *ℤ_comm, pos-*ℤ-pos}
use Prim.Native.Nat.{◌∣◌}
use Rattle.wide_int.specs.Whole.{FitsWhole}
use Rattle.wide_int.proofs.Ring.{as_D, Ds, same_D}
use Rattle.wide_int.proofs.Order.{mul_cancel}
use Rattle.wide_int.proofs.Signed.{below_product}
use Rattle.int_vectors.specs.Vectors.{scale, sub, at}
use Rattle.int_vectors.specs.Contents.{DividesEach}
use Rattle.int_vectors.specs.Fits.{FitsDot}
use Rattle.reduced_rows.proofs.LeastMultiple.{divides_content}
use Rattle.cayley.specs.Problems.{Point}
use Rattle.cayley.specs.Mixed.{IsCoprime}
use Rattle.cell_certificate.specs.Sums.{FitsRise}
use Rattle.cell_certificate.proofs.Coprime.{coprime_content}

divides_scaled : (d : ℕ) (xs : List ℤ) → DividesEach d (scale (pos d) xs)
divides_scaled d [] = tt
divides_scaled d (x ∷ xs) = (subst (λ n. d ∣ n) (sym (unsigned_abs-mul (pos d) x)) (dvd-mul_right d (unsigned_abs x)), divides_scaled d xs)

-- in one proportion with a vector in lowest terms: a multiple
pub divides_whole : (d l : ℕ) (ps v : List ℤ) → 0 < l → IsCoprime (pos d ∷ v) → scale (pos d) ps ≡ scale (pos l) v → d ∣ l
divides_whole d l ps v p coprime e =
    let rest = subst (DividesEach d) e (divides_scaled d ps) in
    let first : d ∣ unsigned_abs (pos l *ℤ pos d) = subst (λ z. d ∣ unsigned_abs z) (*ℤ_comm (pos d) (pos l)) (subst (λ n. d ∣ n) (sym (unsigned_abs-mul (pos d) (pos l))) (dvd-mul_right d l)) in
    let all = divides_content d l (pos d ∷ v) p (first, rest) in
    let one : l * 1 ≡ l = omega arith in
    subst (λ n. d ∣ n) (ap (λ n. l * n) (coprime_content (pos d) v coprime) ∙ one) all

pub multiple_is : (d j : ℕ) (ps v : List ℤ) → 0 < d → scale (pos d) ps ≡ scale (pos (d * j)) v → ps ≡ scale (pos j) v
multiple_is d j [] [] p e = refl
multiple_is d j [] (y ∷ v) p e = absurd (let l = ap length e in omega (arith, l))
multiple_is d j (x ∷ ps) [] p e = absurd (let l = ap length e in omega (arith, l))
multiple_is d j (x ∷ ps) (y ∷ v) p e =
    let h = ap (λ l. at l 0) e in
    let t = ap (λ l. drop 1 l) e in
    ap₂ (λ z l. z ∷ l) (one x y h) (multiple_is d j ps v p t)
  where
    turn : (d j y : ℤ) → d *ℤ j *ℤ y ≡ (j *ℤ y) *ℤ d
    turn d j y = rw (as_D d, as_D j, as_D y) (simp Ds (same_D _ _ _ _ (omega arith)))

    one : (x y : ℤ) → pos d *ℤ x ≡ pos (d * j) *ℤ y → x ≡ pos j *ℤ y
    one x y h =
        let n : pos d ≢ pos 0 = λ z. omega (arith, ints, p, z) in
        mul_cancel x (pos j *ℤ y) (pos d) n (*ℤ_comm x (pos d) ∙ h ∙ ap (λ z. z *ℤ y) (sym (pos-*ℤ-pos d j)) ∙ turn (pos d) (pos j) y)

pub less_fits : (j : ℕ) (z : ℤ) → 0 < j → FitsWhole (pos j *ℤ z) → FitsWhole z
less_fits j z p f = below_product j (unsigned_abs z) p (subst (λ n. n < 2 ^ 127) (unsigned_abs-mul (pos j) z) f)

dot_less : (j : ℕ) (s : ℤ) (xs ys : List ℤ) → 0 < j → FitsDot (pos j *ℤ s) xs (scale (pos j) ys) → FitsDot s xs ys
unfolding FitsDot
dot_less j s [] ys p f = less_fits j s p f
dot_less j s (x ∷ xs) [] p f = less_fits j s p f
dot_less j s (x ∷ xs) (y ∷ ys) p f =
    let e = turn (pos j) x y in
    let k = join (pos j) s x y in (
      less_fits j (x *ℤ y) p (subst FitsWhole e f.0),
      less_fits j (s +ℤ x *ℤ y) p (subst FitsWhole k f.1),
      dot_less j (s +ℤ x *ℤ y) xs ys p (subst (λ z. FitsDot z xs (scale (pos j) ys)) k f.2),
    )
  where
    turn : (j x y : ℤ) → x *ℤ (j *ℤ y) ≡ j *ℤ (x *ℤ y)
    turn j x y = rw (as_D j, as_D x, as_D y) (simp Ds (same_D _ _ _ _ (omega arith)))

    join : (j s x y : ℤ) → j *ℤ s +ℤ x *ℤ (j *ℤ y) ≡ j *ℤ (s +ℤ x *ℤ y)
    join j s x y = rw (as_D j, as_D s, as_D x, as_D y) (simp Ds (same_D _ _ _ _ (omega arith)))

pub rise_less : (d j : ℕ) (v : List ℤ) (a c : Point) → 0 < j → FitsRise (pos (d * j)) (scale (pos j) v) a c → FitsRise (pos d) v a c
rise_less d j v a c p f =
    let b = c.base -ℤ a.base in
    let e : pos (d * j) *ℤ b ≡ pos j *ℤ (pos d *ℤ b) = ap (λ z. z *ℤ b) (sym (pos-*ℤ-pos d j)) ∙ turn (pos d) (pos j) b in (
      less_fits j (pos d *ℤ b) p (subst FitsWhole e f.0),
      dot_less j (pos d *ℤ b) (sub c.coordinates a.coordinates) v p (subst (λ z. FitsDot z (sub c.coordinates a.coordinates) (scale (pos j) v)) e f.1),
    )
  where
    turn : (d j b : ℤ) → d *ℤ j *ℤ b ≡ j *ℤ (d *ℤ b)
    turn d j b = rw (as_D d, as_D j, as_D b) (simp Ds (same_D _ _ _ _ (omega arith)))
