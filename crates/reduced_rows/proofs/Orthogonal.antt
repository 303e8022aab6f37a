-- the kernel is orthogonal to the rows
use Rattle.std.proofs.Common.{◌≡◌, ◌≢◌, ℕ, zero, suc, ◌+◌, ◌<◌, ℤ, pos, negsuc, ◌*ℤ◌, ◌+ℤ◌, ◌-ℤ◌, neg_ℤ, ◌<ℤ◌, unsigned_abs, int_div, List, [], ◌∷◌, ◌++◌, length, refl, sym, ap, ap₂, subst, ◌∙◌, arith, length-append, append_assoc}
use Prim.Native.Nat.{◌∣◌}
use Rattle.std.proofs.lemmas.Int.{ints}
use Rattle.std.proofs.lemmas.Nat.Gcd.{dvd_refl, dvd_trans}
use Rattle.std.proofs.Math.Seq.{get_or-append_seam}
use Rattle.int_vectors.specs.Vectors.{Each, dot, IsZero, at, IsOrthogonal, zeros}
use Rattle.wide_int.proofs.Ring.{as_D, Ds, same_D}
use Rattle.wide_int.proofs.Dividing.{quot_exact}
use Rattle.wide_int.specs.Divisors.{lcm_of}
use Rattle.reduced_rows.specs.Denominators.{share, shares, lcm_from, kernel_of}
use Rattle.reduced_rows.specs.Spans.{IsReduced}
use Rattle.wide_int.proofs.CommonDivisors.{lcm_positive, lcm_first, lcm_second}
use Rattle.int_vectors.proofs.Entries.{length-zeros}
use Rattle.reduced_rows.proofs.Shape.{ZeroBelow}
use Rattle.reduced_rows.proofs.Picking.{ZeroAt}

pub dot_zeros : (row : List ℤ) (m : ℕ) → dot row (zeros m) ≡ pos 0
unfolding zeros
dot_zeros [] m = refl
dot_zeros (r ∷ row) zero = refl
dot_zeros (r ∷ row) (suc m) = rw (dot_zeros row m) (omega (arith, ints))

-- the last entry that isn't zero
pub dot_last : (row xs : List ℤ) (l : ℤ) (m : ℕ) → dot row (xs ++ (l ∷ zeros m)) ≡ dot row xs +ℤ at row (length xs) *ℤ l
dot_last [] xs l m = omega (arith, ints)
dot_last (r ∷ row) [] l m = rw (dot_zeros row m) (omega (arith, ints))
dot_last (r ∷ row) (x ∷ xs) l m = rw (dot_last row xs l m) (omega (arith, ints))

dot_none : (row xs : List ℤ) → ((e : ℕ) → e < length xs → at row e ≡ pos 0) → dot row xs ≡ pos 0
dot_none [] xs h = refl
dot_none (r ∷ row) [] h = refl
dot_none (r ∷ row) (x ∷ xs) h = step r x (dot row xs) (h 0 (omega arith)) (dot_none row xs (λ e lt. h (suc e) (omega arith)))
  where
    step : (r x s : ℤ) → r ≡ pos 0 → s ≡ pos 0 → r *ℤ x +ℤ s ≡ pos 0
    step r x s a b = rw (a, b) (omega (arith, ints))

-- a row with one entry other than zero
pub dot_single : (row xs : List ℤ) (j : ℕ) → ((e : ℕ) → e < length xs → e ≢ j → at row e ≡ pos 0) → dot row xs ≡ at row j *ℤ at xs j
dot_single [] xs j h = omega (arith, ints)
dot_single (r ∷ row) [] j h = omega (arith, ints)
dot_single (r ∷ row) (x ∷ xs) zero h = rw (dot_none row xs (λ e lt. h (suc e) (omega arith) (λ z. omega (arith, z)))) (omega (arith, ints))
dot_single (r ∷ row) (x ∷ xs) (suc j) h =
    step r x _ _ (h 0 (omega arith) (λ z. omega (arith, z))) (dot_single row xs j (λ e lt n. h (suc e) (omega arith) (λ z. n (omega (arith, z)))))
  where
    step : (r x s t : ℤ) → r ≡ pos 0 → s ≡ t → r *ℤ x +ℤ s ≡ t
    step r x s t a b = rw (a, b) (omega (arith, ints))

unfoldable pub PivotsDivide : ℕ → ℕ → List (List ℤ) → Type 0
PivotsDivide j l [] = Unit {0}
PivotsDivide j l (row ∷ rows) = unsigned_abs (at row j) ∣ l × PivotsDivide (suc j) l rows

lcm_grows : (j l : ℕ) (rows : List (List ℤ)) → l ∣ lcm_from j l rows
unfolding lcm_from
lcm_grows j l [] = dvd_refl l
lcm_grows j l (row ∷ rows) = dvd_trans l (lcm_first l (unsigned_abs (at row j))) (lcm_grows (suc j) (lcm_of l (unsigned_abs (at row j))) rows)

pub pivots_divide : (j l : ℕ) (rows : List (List ℤ)) → PivotsDivide j (lcm_from j l rows) rows
unfolding lcm_from PivotsDivide
pivots_divide j l [] = tt
pivots_divide j l (row ∷ rows) =
    let p = unsigned_abs (at row j) in
    (dvd_trans p (lcm_second l p) (lcm_grows (suc j) (lcm_of l p) rows), pivots_divide (suc j) (lcm_of l p) rows)

pub lcm_some : (k j l : ℕ) (rows : List (List ℤ)) → 0 < l → IsReduced k j rows → 0 < lcm_from j l rows
unfolding lcm_from
lcm_some k j l [] h r = h
lcm_some k j l (row ∷ rows) h r = lcm_some k (suc j) _ rows (lcm_positive l (unsigned_abs (at row j)) h (positive_abs (at row j) r.0)) r.2
  where
    positive_abs : (z : ℤ) → pos 0 <ℤ z → 0 < unsigned_abs z
    positive_abs (pos n) h = omega (arith, ints)
    positive_abs (negsuc n) h = absurd (omega (arith, ints))

-- xs has the rows' shares in their places
unfoldable pub HasShares : ℕ → ℕ → ℕ → List (List ℤ) → List ℤ → Type 0
HasShares k j l [] xs = Unit {0}
HasShares k j l (row ∷ rows) xs = (at xs j ≡ neg_ℤ (share k j l row)) × HasShares k (suc j) l rows xs

pub has_shares : (k j l : ℕ) (rows : List (List ℤ)) (front : List ℤ) → length front ≡ j → HasShares k j l rows (front ++ shares k j l rows)
unfolding HasShares shares
has_shares k j l [] front e = tt
has_shares k j l (row ∷ rows) front e =
    let x = neg_ℤ (share k j l row) in
    let back = shares k (suc j) l rows in (
      subst (λ i. at (front ++ x ∷ back) i ≡ x) e (get_or-append_seam front x back (pos 0)),
      subst (HasShares k (suc j) l rows) (append_assoc front (x ∷ []) back) (has_shares k (suc j) l rows (front ++ x ∷ []) (length_snoc front x ∙ ap suc e)),
    )
  where
    length_snoc : (xs : List ℤ) (x : ℤ) → length (xs ++ x ∷ []) ≡ suc (length xs)
    length_snoc [] x = refl
    length_snoc (y ∷ xs) x = ap suc (length_snoc xs x)

pub length-shares : (k j l : ℕ) (rows : List (List ℤ)) → length (shares k j l rows) ≡ length rows
unfolding shares
length-shares k j l [] = refl
length-shares k j l (row ∷ rows) = ap suc (length-shares k (suc j) l rows)

-- p (-(f q)) + f l is 0 where p q is l
pub cancels : (p f q l : ℤ) → p *ℤ q ≡ l → p *ℤ neg_ℤ (f *ℤ q) +ℤ f *ℤ l ≡ pos 0
cancels p f q l e = ap (λ z. p *ℤ neg_ℤ (f *ℤ q) +ℤ f *ℤ z) (sym e) ∙ ring p f q ∙ omega (arith, ints)
  where
    ring : (p f q : ℤ) → p *ℤ neg_ℤ (f *ℤ q) +ℤ f *ℤ (p *ℤ q) ≡ p *ℤ q -ℤ p *ℤ q
    ring p f q = rw (as_D p, as_D f, as_D q) (simp Ds (same_D _ _ _ _ (omega arith)))

module _ (k l m : ℕ) (xs : List ℤ) (long : length xs ≡ k) where
  v : List ℤ
  v = xs ++ (pos l ∷ zeros m)

  done_orthogonal : (j : ℕ) (rows : List (List ℤ)) → IsReduced k j rows → PivotsDivide j l rows → HasShares k j l rows xs → IsOrthogonal rows (xs ++ (pos l ∷ zeros m))
  unfolding PivotsDivide HasShares
  done_orthogonal j [] r d h = tt
  done_orthogonal j (row ∷ rows) r d h = (
    dot_last row xs (pos l) m
        ∙ ap₂ (λ a b. a +ℤ at row b *ℤ pos l) (dot_single row xs j (λ e lt n. r.1 e (omega (arith, long)) n) ∙ ap (λ z. at row j *ℤ z) h.0) long
        ∙ cancels (at row j) (at row k) (int_div (pos l) (at row j)) (pos l) (quot_exact (pos l) (at row j) d.0),
    done_orthogonal (suc j) rows r.2 d.1 h.1,
  )

  rest_orthogonal : (rows : List (List ℤ)) → Each rows (ZeroBelow k) → ZeroAt k rows → IsOrthogonal rows (xs ++ (pos l ∷ zeros m))
  rest_orthogonal [] z a = tt
  rest_orthogonal (row ∷ rows) z a = (
    dot_last row xs (pos l) m ∙ ap₂ (λ b c. b +ℤ c *ℤ pos l) (dot_none row xs (λ e lt. z.0 e (omega (arith, long)))) (ap (at row) long ∙ a.0) ∙ omega (arith, ints),
    rest_orthogonal rows z.1 a.1,
  )

  not_nothing : 0 < l → ¬ (IsZero (xs ++ (pos l ∷ zeros m)))
  not_nothing p z = by_front xs z
    where
      by_front : (xs : List ℤ) → IsZero (xs ++ (pos l ∷ zeros m)) → ⊥
      by_front [] z = let e = z.0 in omega (arith, ints, e, p)
      by_front (x ∷ xs) z = by_front xs z.1

-- the kernel of the rows between two steps
pub kernel_done : (k m : ℕ) (done : List (List ℤ)) → length done ≡ k → IsReduced k 0 done → IsOrthogonal done (kernel_of k m done)
unfolding kernel_of
kernel_done k m done e r =
    let l = lcm_from 0 1 done in
    let xs = shares k 0 l done in
    done_orthogonal k l m xs (length-shares k 0 l done ∙ e) 0 done r (pivots_divide 0 1 done) (has_shares k 0 l done [] refl)

pub kernel_rest : (k m : ℕ) (done rest : List (List ℤ)) → length done ≡ k → Each rest (ZeroBelow k) → ZeroAt k rest → IsOrthogonal rest (kernel_of k m done)
unfolding kernel_of
kernel_rest k m done rest e z a =
    let l = lcm_from 0 1 done in
    rest_orthogonal k l m (shares k 0 l done) (length-shares k 0 l done ∙ e) rest z a

pub kernel_other : (k m : ℕ) (done : List (List ℤ)) → length done ≡ k → IsReduced k 0 done → ¬ (IsZero (kernel_of k m done))
unfolding kernel_of
kernel_other k m done e r =
    let l = lcm_from 0 1 done in
    not_nothing k l m (shares k 0 l done) (length-shares k 0 l done ∙ e) (lcm_some k 0 1 done (omega arith) r)

pub kernel_long : (k m : ℕ) (done : List (List ℤ)) → length done ≡ k → length (kernel_of k m done) ≡ k + suc m
unfolding kernel_of
kernel_long k m done e =
    let l = lcm_from 0 1 done in
    length-append (shares k 0 l done) (pos l ∷ zeros m) ∙ ap₂ (λ a b. a + suc b) (length-shares k 0 l done ∙ e) (length-zeros m)
