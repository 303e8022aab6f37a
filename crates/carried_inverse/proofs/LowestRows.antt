-- the scaled columns of the reduced rows over the lcm of the pivots are in lowest terms
use Rattle.std.proofs.Common.{◌≡◌, ℕ, zero, suc, ◌+◌, ◌*◌, ◌<◌, unsigned_abs, int_div, ℤ, pos, negsuc, ◌*ℤ◌, ◌<ℤ◌, List, [], ◌∷◌, length, arith, refl, sym, ap, subst, ◌∙◌, inl, inr}
use Prim.Native.Nat.{◌∣◌}
use Rattle.std.proofs.Math.IntN.{*ℤ-zero}
use Rattle.std.proofs.lemmas.Bool.{cases_lt}
use Rattle.std.proofs.lemmas.Int.{ints, unsigned_abs-mul}
use Rattle.std.proofs.lemmas.Nat.Gcd.{dvd_antisymm, dvd-zero}
use Rattle.wide_int.proofs.Dividing.{quot_exact}
use Rattle.wide_int.proofs.Order.{mul_cancel}
use Rattle.wide_int.proofs.Ring.{as_D, Ds, same_D}
use Rattle.int_vectors.specs.Contents.{DividesEach}
use Rattle.int_vectors.specs.Vectors.{Each, at, row_at}
use Rattle.int_vectors.proofs.Entries.{past_zero}
use Rattle.reduced_rows.specs.Carried.{HaveUnits}
use Rattle.reduced_rows.specs.Denominators.{lcm_from}
use Rattle.reduced_rows.specs.Least.{IsTimes, MakeWhole}
use Rattle.reduced_rows.specs.Solutions.{scaled_column}
use Rattle.reduced_rows.specs.Spans.{IsReducedOf}
use Rattle.reduced_rows.proofs.LeastMultiple.{least_den}
use Rattle.reduced_rows.proofs.Orthogonal.{PivotsDivide, pivots_divide}
use Rattle.reduced_rows.proofs.Picking.{each_at}
use Rattle.inner_normal.specs.Inverses.{inverse_of, scaled_columns}
use Rattle.inner_normal.proofs.CommonFactors.{one_left, positive_other}
use Rattle.carried_inverse.specs.Systems.{IsLowest}

column_is : (m off l : ℕ) (made : List (List ℤ)) (i : ℕ) → i < m → row_at (scaled_columns m off l made) i ≡ scaled_column (off + i) 0 l made
column_is zero off l made i lt = absurd (omega (arith, lt))
column_is (suc m) off l made zero lt = let e : off ≡ off + 0 = omega arith in ap (λ k. scaled_column k 0 l made) e
column_is (suc m) off l made (suc i) lt = let e : suc off + i ≡ off + suc i = omega arith in column_is m (suc off) l made i (omega (arith, lt)) ∙ ap (λ k. scaled_column k 0 l made) e

-- one entry
module _ (d l : ℕ) (x p : ℤ) (some : 0 < d) (divides : d ∣ l) (pivot : unsigned_abs p ∣ l) (shared : d ∣ unsigned_abs (x *ℤ int_div (pos l) p)) where
  pub entry : IsTimes p (int_div (pos l) (pos d) *ℤ x)
  entry =
      let m = int_div (pos l) (pos d) in
      let s = int_div (pos l) p in
      let q = int_div (x *ℤ s) (pos d) in
      let em : pos d *ℤ m ≡ pos l = quot_exact (pos l) (pos d) divides in
      let es : p *ℤ s ≡ pos l = quot_exact (pos l) p pivot in
      let eq : pos d *ℤ q ≡ x *ℤ s = quot_exact (x *ℤ s) (pos d) shared in (
        q,
        mul_cancel (p *ℤ q) (m *ℤ x) (pos d) (λ z. omega (arith, ints, some, z))
            (left (pos d) p q ∙ ap (λ z. p *ℤ z) eq ∙ middle p x s ∙ ap (λ z. z *ℤ x) (es ∙ sym em) ∙ right (pos d) m x),
      )
    where
      left : (d p q : ℤ) → (p *ℤ q) *ℤ d ≡ p *ℤ (d *ℤ q)
      left d p q = rw (as_D d, as_D p, as_D q) (simp Ds (same_D _ _ _ _ (omega arith)))

      middle : (p x s : ℤ) → p *ℤ (x *ℤ s) ≡ (p *ℤ s) *ℤ x
      middle p x s = rw (as_D p, as_D x, as_D s) (simp Ds (same_D _ _ _ _ (omega arith)))

      right : (d m x : ℤ) → (d *ℤ m) *ℤ x ≡ (m *ℤ x) *ℤ d
      right d m x = rw (as_D d, as_D m, as_D x) (simp Ds (same_D _ _ _ _ (omega arith)))

-- all rows
module _ (n off d l m : ℕ) (some : 0 < d) (divides : d ∣ l) (is : pos m ≡ int_div (pos l) (pos d)) where
  pub make_whole : (j : ℕ) (rows : List (List ℤ)) → PivotsDivide j l rows → Each rows (λ row. length row ≡ off + n) → ((i : ℕ) → i < n → DividesEach d (scaled_column (off + i) j l rows)) → MakeWhole m off j rows
  unfolding PivotsDivide scaled_column
  make_whole j [] v w f = tt
  make_whole j (row ∷ rows) v w f = (one, make_whole (suc j) rows v.1 w.1 (λ i lt. (f i lt).1))
    where
      one : (i : ℕ) → IsTimes (at row j) (pos m *ℤ at row (off + i))
      one i = elim (cases_lt i n) [
        | inl lt ↦ subst (λ z. IsTimes (at row j) (z *ℤ at row (off + i))) (sym is) (entry d l (at row (off + i)) (at row j) some divides v.0 (f i lt).0)
        | inr ge ↦ (pos 0, *ℤ-zero (at row j) ∙ sym (ap (λ z. pos m *ℤ z) (past_zero row (off + i) (let e = w.0 in omega (arith, e, ge))) ∙ *ℤ-zero (pos m)))
      ]

pub inverse_lowest : (n : ℕ) (given made : List (List ℤ)) → IsReducedOf n given made → HaveUnits (n + 2) 0 given → Each made (λ row. length row ≡ n + 2 + n) → pos 0 <ℤ (inverse_of made).den → IsLowest (inverse_of made).den (inverse_of made).columns
inverse_lowest n given made r u w positive d a b =
    let l = lcm_from 0 1 made in
    let some : 0 < d = above d l a positive in
    let e : pos d *ℤ int_div (pos l) (pos d) ≡ pos l = quot_exact (pos l) (pos d) a in
    let mp = positive_other (pos l) (int_div (pos l) (pos d)) (pos d) positive (omega (arith, ints, some)) e in
    let m = unsigned_abs (int_div (pos l) (pos d)) in
    let is : pos m ≡ int_div (pos l) (pos d) = back (int_div (pos l) (pos d)) mp in
    let off = ap (λ k. scaled_columns k (k + 2) l made) r.count in
    let whole = make_whole n (n + 2) d l m some a is 0 made (pivots_divide 0 1 made) w
    (λ i lt. subst (DividesEach d) (ap (λ xs. row_at xs i) off ∙ column_is n (n + 2) l made i lt) (each_at (DividesEach d) (scaled_columns (length made) (length made + 2) l made) i [] (let c = r.count in let k = columns_many (length made) (length made + 2) l made in omega (arith, lt, c, k)) b)) in
    let least = least_den n (n + 2) m given made r u (let p = mp in omega (arith, ints, p, is)) whole in
    one_left m d (let p = mp in omega (arith, ints, p, is))
    (subst (λ z. z ∣ m) (ap unsigned_abs (sym e) ∙ unsigned_abs-mul (pos d) (int_div (pos l) (pos d)) ∙ swap d m) least)
  where
    columns_many : (m off l : ℕ) (made : List (List ℤ)) → length (scaled_columns m off l made) ≡ m
    columns_many zero off l made = refl
    columns_many (suc m) off l made = ap suc (columns_many m (suc off) l made)

    swap : (d m : ℕ) → d * m ≡ m * d
    swap d m = omega arith

    above : (d l : ℕ) → d ∣ l → pos 0 <ℤ pos l → 0 < d
    above zero l h p = absurd (let e : l ≡ 0 = dvd_antisymm (dvd-zero l) h in omega (arith, ints, e, p))
    above (suc d) l h p = omega arith

    back : (z : ℤ) → pos 0 <ℤ z → pos (unsigned_abs z) ≡ z
    back (pos n) h = refl
    back (negsuc n) h = absurd (omega (arith, ints, h))
