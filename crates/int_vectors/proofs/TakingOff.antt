-- one entry of a row at a time
use Rattle.std.proofs.Common.{◌≡◌, ◌≢◌, ℕ, zero, suc, ◌+◌, ◌<◌, ◌≤◌, ℤ, pos, negsuc, ◌*ℤ◌, ◌-ℤ◌, List, [], ◌∷◌, ◌++◌, length, get_or, set, take, drop, refl, sym, ap, ap₂, subst, ◌∙◌, arith, length-take, take_all, drop_of_length-le, append-nil}
use Rattle.wide_int.specs.Whole.{FitsMulSub}
use Rattle.int_vectors.specs.RowSteps.{eliminated, FitsEliminated, if_zero, cleaned, FitsCleaned}
use Rattle.int_vectors.proofs.Eliminated.{fits_at, eliminated-more, fits-more}
use Rattle.int_vectors.specs.Vectors.{at}
use Rattle.int_vectors.specs.Contents.{primitive}
use Rattle.int_vectors.proofs.InPlace.{seam_read, seam_set}

pub length-eliminated : (p f : ℤ) (xs ys : List ℤ) → length xs ≡ length ys → length (eliminated p f xs ys) ≡ length xs
unfolding eliminated
length-eliminated p f [] ys e = refl
length-eliminated p f (x ∷ xs) [] e = absurd (omega arith)
length-eliminated p f (x ∷ xs) (y ∷ ys) e = ap suc (length-eliminated p f xs ys (omega arith))

module _ (p f : ℤ) (old by now : List ℤ) (i : ℕ) (e : length old ≡ length by) (lt : i < length old) (is : now ≡ eliminated p f (take i old) (take i by) ++ drop i old) where
  long : length (eliminated p f (take i old) (take i by)) ≡ i
  long = length-eliminated p f (take i old) (take i by) (omega (arith, length-take i old, length-take i by)) ∙ omega (arith, length-take i old)

  pub off_read : get_or now i (pos 0) ≡ get_or old i (pos 0)
  off_read = seam_read (eliminated p f (take i old) (take i by)) old now i long lt is (pos 0)

  pub off_set : (z : ℤ) → z ≡ p *ℤ get_or now i (pos 0) -ℤ f *ℤ get_or by i (pos 0) → set now i z ≡ eliminated p f (take (i + 1) old) (take (i + 1) by) ++ drop (i + 1) old
  off_set z m =
      seam_set (eliminated p f (take i old) (take i by)) old now i long lt is (pos 0) z
      ∙ ap (λ l. l ++ drop (i + 1) old) (ap (λ x. eliminated p f (take i old) (take i by) ++ x ∷ []) (m ∙ ap (λ x. p *ℤ x -ℤ f *ℤ get_or by i (pos 0)) off_read) ∙ sym (eliminated-more p f old by i e lt))

  pub off_fits : FitsEliminated p f (take i old) (take i by) → FitsMulSub p (get_or now i (pos 0)) f (get_or by i (pos 0)) → FitsEliminated p f (take (i + 1) old) (take (i + 1) by)
  off_fits h k = fits-more p f old by i e lt h (subst (λ x. FitsMulSub p x f (get_or by i (pos 0))) off_read k)

  pub off_not : ¬ (FitsMulSub p (get_or now i (pos 0)) f (get_or by i (pos 0))) → ¬ (FitsEliminated p f old by)
  off_not n h = n (subst (λ x. FitsMulSub p x f (get_or by i (pos 0))) (sym off_read) (fits_at p f old by i lt (omega arith) h))

pub off_end : (p f : ℤ) (old by now : List ℤ) (i : ℕ) → length old ≡ length by → length old ≤ i → now ≡ eliminated p f (take i old) (take i by) ++ drop i old → FitsEliminated p f (take i old) (take i by)
    → FitsEliminated p f old by × (now ≡ eliminated p f old by)
off_end p f old by now i e le is h =
    let o = take_all i old le in let b = take_all i by (omega arith) in
    (rw (o, b) at h, is ∙ ap₂ (λ a c. a ++ c) (ap₂ (eliminated p f) o b) (drop_of_length-le old le) ∙ append-nil (eliminated p f old by))

-- the cases of one row
pub cleaned_zero : (k : ℕ) (y row : List ℤ) → at row k ≡ pos 0 → FitsCleaned k y row × (row ≡ cleaned k y row)
unfolding cleaned FitsCleaned
cleaned_zero k y row z = ((λ n. absurd (n z)), sym (zero_case (at row k) row _ z))
  where
    zero_case : (z : ℤ) (a b : List ℤ) → z ≡ pos 0 → if_zero z a b ≡ a
    zero_case z a b e = ap (λ x. if_zero x a b) e

pub cleaned_not : (k : ℕ) (y row : List ℤ) → at row k ≢ pos 0 → ¬ (FitsEliminated (at y k) (at row k) row y) → ¬ (FitsCleaned k y row)
unfolding FitsCleaned
cleaned_not k y row n h f = h (f n)

pub other_case : {A : Type 0} (z : ℤ) (a b : A) → z ≢ pos 0 → if_zero z a b ≡ b
other_case (pos zero) a b n = absurd (n refl)
other_case (pos (suc m)) a b n = refl
other_case (negsuc m) a b n = refl

pub cleaned_other : (k : ℕ) (y row made : List ℤ) → at row k ≢ pos 0 → FitsEliminated (at y k) (at row k) row y → made ≡ eliminated (at y k) (at row k) row y
    → FitsCleaned k y row × (primitive made ≡ cleaned k y row)
unfolding cleaned FitsCleaned
cleaned_other k y row made n f m = ((λ _. f), ap primitive m ∙ sym (other_case (at row k) row _ n))
