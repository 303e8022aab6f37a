-- least common multiples of pivots
use Rattle.std.proofs.Common.{◌≡◌, ◌↔◌, ℕ, zero, suc, ◌+◌, ◌<◌, ◌≤◌, ℤ, pos, negsuc, ◌<ℤ◌, unsigned_abs, List, [], ◌∷◌, length, get_or, drop, refl, sym, ap, subst, ◌∙◌, arith, drop-cons, add-one, drop_of_length-le}
use Rattle.std.proofs.lemmas.Int.{ints}
use Rattle.wide_int.specs.Whole.{FitsWhole}
use Rattle.int_vectors.specs.Vectors.{at}
use Rattle.wide_int.specs.Divisors.{lcm_of}
use Rattle.reduced_rows.specs.Denominators.{lcm_from, FitsLcm}
use Rattle.reduced_rows.specs.Denominators.{HavePivots}
use Rattle.wide_int.proofs.CommonDivisors.{lcm_positive}
use Rattle.wide_int.proofs.Signed.{abs_positive}

-- the pivot in its place
pub pivot_at : (j : ℕ) (rows : List (List ℤ)) (i : ℕ) (d : List ℤ) → i < length rows → HavePivots j rows → (j + i < length (get_or rows i d)) × (pos 0 <ℤ at (get_or rows i d) (j + i))
unfolding HavePivots
pivot_at j [] i d lt h = absurd (omega arith)
pivot_at j (r ∷ rows) zero d lt h = let e : j + 0 ≡ j = omega arith in rw e (h.0, h.1)
pivot_at j (r ∷ rows) (suc i) d lt h = let e : j + suc i ≡ suc j + i = omega arith in rw e (pivot_at (suc j) rows i d (omega arith) h.2)

pub first_pivot : (rows : List (List ℤ)) (i : ℕ) (d : List ℤ) → i < length rows → HavePivots 0 rows → (i < length (get_or rows i d)) × (pos 0 <ℤ at (get_or rows i d) i)
first_pivot rows i d lt h =
    let e : 0 + i ≡ i = omega arith in
    rw e at (pivot_at 0 rows i d lt h)

pub lcm-step : (j l : ℕ) (rows : List (List ℤ)) (d : List ℤ) → j < length rows → lcm_from j l (drop j rows) ≡ lcm_from (j + 1) (lcm_of l (unsigned_abs (at (get_or rows j d) j))) (drop (j + 1) rows)
unfolding lcm_from
lcm-step j l rows d h = rw (add-one, drop-cons rows j d) refl

pub fits-step : (j l : ℕ) (rows : List (List ℤ)) (d : List ℤ) → j < length rows
    → FitsLcm j l (drop j rows) ≡ (FitsWhole (pos (lcm_of l (unsigned_abs (at (get_or rows j d) j)))) × FitsLcm (j + 1) (lcm_of l (unsigned_abs (at (get_or rows j d) j))) (drop (j + 1) rows))
unfolding FitsLcm
fits-step j l rows d h = rw (add-one, drop-cons rows j d) refl

module _ (rows : List (List ℤ)) (j : ℕ) (l : ℤ) (row : List ℤ) (p : ℤ) (lt : j < length rows) (is : p ≡ at (get_or rows j row) j) where
  -- the next multiple
  next : ℕ
  next = lcm_of (unsigned_abs l) (unsigned_abs p)

  step_is : FitsLcm j (unsigned_abs l) (drop j rows) ≡ (FitsWhole (pos (lcm_of (unsigned_abs l) (unsigned_abs p))) × FitsLcm (j + 1) (lcm_of (unsigned_abs l) (unsigned_abs p)) (drop (j + 1) rows))
  step_is = subst (λ z. FitsLcm j (unsigned_abs l) (drop j rows) ≡ (FitsWhole (pos (lcm_of (unsigned_abs l) (unsigned_abs z))) × FitsLcm (j + 1) (lcm_of (unsigned_abs l) (unsigned_abs z)) (drop (j + 1) rows))) (sym is) (fits-step j (unsigned_abs l) rows row lt)

  pub lcm_stop : (FitsLcm 0 1 rows → FitsLcm j (unsigned_abs l) (drop j rows)) → ¬ (FitsWhole (pos (lcm_of (unsigned_abs l) (unsigned_abs p)))) → ¬ (FitsLcm 0 1 rows)
  lcm_stop f n h = n (subst (λ T. T) step_is (f h)).0

  pub lcm_go : (m : ℤ) → lcm_from j (unsigned_abs l) (drop j rows) ≡ lcm_from 0 1 rows → (FitsLcm 0 1 rows ↔ FitsLcm j (unsigned_abs l) (drop j rows))
      → FitsWhole (pos (lcm_of (unsigned_abs l) (unsigned_abs p))) → m ≡ pos (lcm_of (unsigned_abs l) (unsigned_abs p))
      → (lcm_from (j + 1) (unsigned_abs m) (drop (j + 1) rows) ≡ lcm_from 0 1 rows) × (FitsLcm 0 1 rows ↔ FitsLcm (j + 1) (unsigned_abs m) (drop (j + 1) rows))
  lcm_go m e f w is_m =
      let a = ap unsigned_abs is_m in (
        ap (λ n. lcm_from (j + 1) n (drop (j + 1) rows)) a ∙ ap (λ z. lcm_from (j + 1) (lcm_of (unsigned_abs l) (unsigned_abs z)) (drop (j + 1) rows)) is ∙ sym (lcm-step j (unsigned_abs l) rows row lt) ∙ e,
        (
          (λ h. subst (λ n. FitsLcm (j + 1) n (drop (j + 1) rows)) (sym a) (subst (λ T. T) step_is (f.0 h)).1),
          (λ h. f.1 (subst (λ T. T) (sym step_is) (w, subst (λ n. FitsLcm (j + 1) n (drop (j + 1) rows)) a h))),
        ),
      )

pub lcm_end : (rows : List (List ℤ)) (j : ℕ) (l : ℤ) → length rows ≤ j → pos 0 <ℤ l → lcm_from j (unsigned_abs l) (drop j rows) ≡ lcm_from 0 1 rows
    → (FitsLcm j (unsigned_abs l) (drop j rows) → FitsLcm 0 1 rows) → FitsLcm 0 1 rows × (l ≡ pos (lcm_from 0 1 rows))
unfolding lcm_from FitsLcm
lcm_end rows j l le p e f =
    let d = drop_of_length-le rows le in
    (f (subst (FitsLcm j (unsigned_abs l)) (sym d) tt), as_pos l p ∙ ap pos (sym (ap (lcm_from j (unsigned_abs l)) d) ∙ e))
  where
    as_pos : (l : ℤ) → pos 0 <ℤ l → l ≡ pos (unsigned_abs l)
    as_pos (pos n) h = refl
    as_pos (negsuc n) h = absurd (omega (arith, ints))

pub lcm_result_positive : (l p : ℤ) → pos 0 <ℤ l → pos 0 <ℤ p → pos 0 <ℤ pos (lcm_of (unsigned_abs l) (unsigned_abs p))
lcm_result_positive l p a b = let h = lcm_positive (unsigned_abs l) (unsigned_abs p) (abs_positive l a) (abs_positive p b) in omega (arith, ints, h)
