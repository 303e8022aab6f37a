-- the kernel's entries, one at a time
use Rattle.std.proofs.Common.{◌≡◌, ℕ, zero, suc, ◌+◌, ◌<◌, ℤ, pos, negsuc, ◌*ℤ◌, ◌<ℤ◌, neg_ℤ, unsigned_abs, int_div, List, [], ◌∷◌, ◌++◌, length, get_or, take, refl, sym, ap, ap₂, subst, ◌∙◌, arith, length-take, append_assoc}
use Rattle.std.proofs.lemmas.Int.{ints}
use Rattle.std.proofs.lemmas.List.{take_more}
use Rattle.wide_int.specs.Whole.{FitsWhole}
use Rattle.int_vectors.specs.Vectors.{at, zeros}
use Rattle.reduced_rows.specs.Denominators.{share, shares, FitsShares, kernel_of, FitsKernel, FitsLcm, lcm_from}

shares-append : (k j l : ℕ) (rows : List (List ℤ)) (row : List ℤ) → shares k j l (rows ++ row ∷ []) ≡ shares k j l rows ++ neg_ℤ (share k (j + length rows) l row) ∷ []
unfolding shares
shares-append k j l [] row = let e : j + 0 ≡ j = omega arith in rw e refl
shares-append k j l (r ∷ rows) row =
    let e : j + suc (length rows) ≡ suc j + length rows = omega arith in
    rw e (ap (λ xs. neg_ℤ (share k j l r) ∷ xs) (shares-append k (suc j) l rows row))

fits-append : (k j l : ℕ) (rows : List (List ℤ)) (row : List ℤ) → FitsShares k j l rows → FitsWhole (share k (j + length rows) l row) → FitsShares k j l (rows ++ row ∷ [])
unfolding FitsShares
fits-append k j l [] row h f = let e : j + 0 ≡ j = omega arith in (rw e at f, tt)
fits-append k j l (r ∷ rows) row h f =
    let e : j + suc (length rows) ≡ suc j + length rows = omega arith in
    (h.0, fits-append k (suc j) l rows row h.1 (rw e at f))

fits_at : (k j l : ℕ) (rows : List (List ℤ)) (i : ℕ) (d : List ℤ) → i < length rows → FitsShares k j l rows → FitsWhole (share k (j + i) l (get_or rows i d))
unfolding FitsShares
fits_at k j l [] i d lt h = absurd (omega arith)
fits_at k j l (r ∷ rows) zero d lt h = let e : j + 0 ≡ j = omega arith in rw e h.0
fits_at k j l (r ∷ rows) (suc i) d lt h = let e : j + suc i ≡ suc j + i = omega arith in rw e (fits_at k (suc j) l rows i d (omega arith) h.1)

module _ (k l : ℕ) (rows : List (List ℤ)) (j : ℕ) (row : List ℤ) (lt : j < length rows) (is : row ≡ get_or rows j row) where
  long : 0 + length (take j rows) ≡ j
  long = omega (arith, length-take j rows)

  pub share_not : ¬ (FitsWhole (share k j l row)) → ¬ (FitsShares k 0 l rows)
  share_not n h =
      let e : 0 + j ≡ j = omega arith in
      n (subst (λ r. FitsWhole (share k j l r)) (sym is) (subst (λ m. FitsWhole (share k m l (get_or rows j row))) e (fits_at k 0 l rows j row lt h)))

  pub share_more : (made : List ℤ) (x : ℤ) → made ≡ shares k 0 l (take j rows) → x ≡ neg_ℤ (share k j l row) → made ++ x ∷ [] ≡ shares k 0 l (take (j + 1) rows)
  share_more made x e f =
      ap₂ (λ a b. a ++ b ∷ []) e (f ∙ ap (λ r. neg_ℤ (share k j l r)) is ∙ ap (λ m. neg_ℤ (share k m l (get_or rows j row))) (sym long))
      ∙ sym (shares-append k 0 l (take j rows) (get_or rows j row))
      ∙ ap (shares k 0 l) (sym (take_more rows j row lt))

  pub share_fits : FitsShares k 0 l (take j rows) → FitsWhole (share k j l row) → FitsShares k 0 l (take (j + 1) rows)
  share_fits h f =
      rw (take_more rows j row lt) (fits-append k 0 l (take j rows) (get_or rows j row) h (subst (λ m. FitsWhole (share k m l (get_or rows j row))) (sym long) (subst (λ r. FitsWhole (share k j l r)) is f)))

pub share_is : (k j l : ℕ) (row : List ℤ) (x m r : ℤ) → x ≡ at row k → m ≡ pos l → r ≡ at row j → x *ℤ int_div m r ≡ share k j l row
share_is k j l row x m r a b c = ap₂ (λ y z. y *ℤ z) a (ap₂ int_div b c)

zeros-more : (n : ℕ) → zeros (n + 1) ≡ zeros n ++ pos 0 ∷ []
unfolding zeros
zeros-more zero = refl
zeros-more (suc n) = let e : suc n + 1 ≡ suc (n + 1) = omega arith in rw e (ap (λ l. pos 0 ∷ l) (zeros-more n))

pub zeros_more : (xs : List ℤ) (x : ℤ) (n : ℕ) (made : List ℤ) → made ≡ xs ++ (x ∷ zeros n) → made ++ pos 0 ∷ [] ≡ xs ++ (x ∷ zeros (n + 1))
zeros_more xs x n made e = ap (λ l. l ++ pos 0 ∷ []) e ∙ append_assoc xs (x ∷ zeros n) (pos 0 ∷ []) ∙ ap (λ l. xs ++ (x ∷ l)) (sym (zeros-more n))

pub no_lcm : (k : ℕ) (done : List (List ℤ)) → ¬ (FitsLcm 0 1 done) → ¬ (FitsKernel k done)
unfolding FitsKernel
no_lcm k done n h = n h.0

pub no_shares : (k : ℕ) (done : List (List ℤ)) → ¬ (FitsShares k 0 (lcm_from 0 1 done) done) → ¬ (FitsKernel k done)
unfolding FitsKernel
no_shares k done n h = n h.1

pub kernel_end : (k m : ℕ) (done : List (List ℤ)) (made : List ℤ) → FitsLcm 0 1 done → FitsShares k 0 (lcm_from 0 1 done) done → made ≡ shares k 0 (lcm_from 0 1 done) done ++ (pos (lcm_from 0 1 done) ∷ zeros m)
    → FitsKernel k done × (made ≡ kernel_of k m done)
unfolding FitsKernel kernel_of
kernel_end k m done made a b e = ((a, b), e)

pub is_pos : (z : ℤ) → pos 0 <ℤ z → z ≡ pos (unsigned_abs z)
is_pos (pos n) h = refl
is_pos (negsuc n) h = absurd (omega (arith, ints))
