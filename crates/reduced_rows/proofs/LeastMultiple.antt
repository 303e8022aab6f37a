-- the lcm of the pivots is the least number that makes the inverse whole
use Rattle.std.proofs.Common.{◌≡◌, ℕ, suc, ◌+◌, ◌*◌, ◌<◌, ℤ, pos, ◌*ℤ◌, ◌+ℤ◌, unsigned_abs, List, [], ◌∷◌, sym, ap, ap₂, subst, ◌∙◌, arith}
use Prim.Native.Nat.{◌∣◌}
use Rattle.std.proofs.Math.Nat.{dvd-mul_right}
use Rattle.std.proofs.lemmas.Int.{ints, unsigned_abs-mul}
use Rattle.std.proofs.lemmas.Nat.Gcd.{dvd-zero}
use Rattle.int_vectors.specs.Vectors.{Each, at, scale}
use Rattle.wide_int.proofs.Ring.{as_D, Ds, same_D}
use Rattle.int_vectors.specs.Contents.{content, DividesEach}
use Rattle.wide_int.proofs.CommonDivisors.{gcd_multiple, lcm_least}
use Rattle.reduced_rows.specs.Denominators.{lcm_from}
use Rattle.reduced_rows.specs.Spans.{InSpan}
use Rattle.reduced_rows.specs.Carried.{HaveUnits}
use Rattle.reduced_rows.specs.Least.{IsTimes, MakeWhole, LeastDen}
use Rattle.reduced_rows.proofs.Orthogonal.{PivotsDivide}
use Rattle.reduced_rows.proofs.Carrying.{weigh_by, carried_by, span_carries}
use Rattle.std.proofs.Math.Nat.{one-dvd}
use Rattle.int_vectors.proofs.Entries.{at-scale}

-- what divides c times each entry divides c times the gcd
pub divides_content : (d c : ℕ) (xs : List ℤ) → 0 < c → DividesEach d (scale (pos c) xs) → d ∣ c * content xs
unfolding content
divides_content d c [] p h = let e : c * 0 ≡ 0 = omega arith in subst (λ n. d ∣ n) (sym e) (dvd-zero d)
divides_content d c (x ∷ xs) p h =
    (gcd_multiple c (unsigned_abs x) (content xs) p).2 d (subst (λ n. d ∣ n) (unsigned_abs-mul (pos c) x) h.0) (divides_content d c xs p h.1)

times_sum : (p m : ℤ) (h : ℕ → ℤ) (xs : List (List ℤ)) (f : List ℤ → ℤ) → ((i : ℕ) → IsTimes p (m *ℤ h i)) → IsTimes p (m *ℤ weigh_by h xs f)
times_sum p m h [] f t = (pos 0, step p m)
  where
    step : (p m : ℤ) → p *ℤ pos 0 ≡ m *ℤ pos 0
    step p m = omega (arith, ints)
times_sum p m h (x ∷ xs) f t =
    let a = t 0 in
    let b = times_sum p m (λ i. h (suc i)) xs f (λ i. t (suc i)) in
    (a.0 *ℤ f x +ℤ b.0, left p a.0 b.0 (f x) ∙ ap₂ (λ u v. u *ℤ f x +ℤ v) a.1 b.1 ∙ right m (h 0) (f x) (weigh_by (λ i. h (suc i)) xs f))
  where
    left : (p a b x : ℤ) → p *ℤ (a *ℤ x +ℤ b) ≡ (p *ℤ a) *ℤ x +ℤ p *ℤ b
    left p a b x = rw (as_D p, as_D a, as_D b, as_D x) (simp Ds (same_D _ _ _ _ (omega arith)))

    right : (m h x w : ℤ) → (m *ℤ h) *ℤ x +ℤ m *ℤ w ≡ m *ℤ (h *ℤ x +ℤ w)
    right m h x w = rw (as_D m, as_D h, as_D x, as_D w) (simp Ds (same_D _ _ _ _ (omega arith)))

divides_entries : (d : ℕ) (xs : List ℤ) → ((e : ℕ) → d ∣ unsigned_abs (at xs e)) → DividesEach d xs
divides_entries d [] h = tt
divides_entries d (x ∷ xs) h = (h 0, divides_entries d xs (λ e. h (suc e)))

-- a pivot that divides m times each carried entry of a row of gcd 1 divides m
pub pivot_divides : (p : ℤ) (m off : ℕ) (given : List (List ℤ)) (row : List ℤ) → 0 < m → content row ≡ 1 → ((e : ℕ) → at row e ≡ weigh_by (λ i. at row (off + i)) given (λ g. at g e))
    → ((i : ℕ) → IsTimes p (pos m *ℤ at row (off + i))) → unsigned_abs p ∣ m
pivot_divides p m off given row s one c t =
    let each = divides_entries (unsigned_abs p) (scale (pos m) row) (λ e.
    let k = times_sum p (pos m) (λ i. at row (off + i)) given (λ g. at g e) t in
    let v = k.1 ∙ ap (λ z. pos m *ℤ z) (sym (c e)) ∙ sym (at-scale (pos m) row e) in
    subst (λ n. unsigned_abs p ∣ n) (sym (unsigned_abs-mul p k.0) ∙ ap unsigned_abs v) (dvd-mul_right (unsigned_abs p) (unsigned_abs k.0))) in
    let d = divides_content (unsigned_abs p) m row s each in
    let i : m * 1 ≡ m = omega arith in
    subst (λ n. unsigned_abs p ∣ n) (ap (λ n. m * n) one ∙ i) d

lcm_divides : (j l m : ℕ) (rows : List (List ℤ)) → 0 < m → l ∣ m → PivotsDivide j m rows → lcm_from j l rows ∣ m
unfolding lcm_from PivotsDivide
lcm_divides j l m [] s h d = h
lcm_divides j l m (row ∷ rows) s h d = lcm_divides (suc j) _ m rows s (lcm_least l (unsigned_abs (at row j)) m s h d.0) d.1

pivots_of : (off m j : ℕ) (given rows : List (List ℤ)) → 0 < m → HaveUnits off 0 given → Each rows (InSpan given) → Each rows (λ row. content row ≡ 1) → MakeWhole m off j rows → PivotsDivide j m rows
unfolding PivotsDivide
pivots_of off m j given [] s u a c w = tt
pivots_of off m j given (row ∷ rows) s u a c w = (
  pivot_divides (at row j) m off given row s c.0 (λ e. span_carries off given row u a.0 e ∙ carried_by off row given (λ g. at g e)) w.0,
  pivots_of off m (suc j) given rows s u a.1 c.1 w.1,
)

pub least_den : LeastDen
least_den n off m given made r u s w = lcm_divides 0 1 m made s (one-dvd m) (pivots_of off m 0 given made s u r.span.1 r.primitive w)
