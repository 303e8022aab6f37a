-- the code's loop beside the definition's steps
use Rattle.std.proofs.Common.{◌≡◌, ◌↔◌, ℕ, suc, ◌+◌, ◌-◌, ◌<◌, ◌≤◌, ℤ, List, [], ◌∷◌, ◌++◌, length, map, refl, sym, ap, subst, ◌∙◌, arith, Some, None, Ok, Err}
use Rattle.int_vectors.specs.Vectors.{Each}
use Rattle.reduced_rows.specs.declared.faults.ReduceFault.{ReduceFault}
use Rattle.reduced_rows.specs.declared.faults.ReduceFault.TheVariants.{Overflow, Dependent, OutOfMemory}
use Rattle.int_vectors.specs.Contents.{primitive}
use Rattle.reduced_rows.specs.Steps.{OfLength, signed, FitsCleanedAll, pick, steps, FitsSteps, elimination, FitsElimination}
use Rattle.int_vectors.specs.RowSteps.{cleaned}
use Rattle.reduced_rows.specs.Denominators.{HavePivots, FitsKernel, kernel_of}
use Rattle.reduced_rows.specs.Refusals.{IsKernelFault, IsFault}
use Rattle.reduced_rows.specs.Spans.{IsReduced}
use Rattle.reduced_rows.proofs.Picking.{picked_long}
use Rattle.reduced_rows.proofs.Entries.{length-primitive, length-signed}
use Rattle.reduced_rows.proofs.Shape.{IsShaped, ZeroBelow, each_map, shape_step}

pub steps_next : (m k : ℕ) (done rest : List (List ℤ)) (x : List ℤ) (others : List (List ℤ)) → pick k rest ≡ Some (x, others)
    → steps (suc m) k done rest ≡ steps m (suc k) (map (cleaned k (signed k x)) done ++ signed k x ∷ []) (map (cleaned k (signed k x)) others)
unfolding steps
steps_next m k done rest x others e = rw e refl

pub steps_none : (m k : ℕ) (done rest : List (List ℤ)) → pick k rest ≡ None → steps (suc m) k done rest ≡ Err (kernel_of k m done)
unfolding steps
steps_none m k done rest e = rw e refl

fits_next : (m k : ℕ) (done rest : List (List ℤ)) (x : List ℤ) (others : List (List ℤ)) → pick k rest ≡ Some (x, others)
    → FitsSteps (suc m) k done rest ≡ (FitsCleanedAll k (signed k x) done × FitsCleanedAll k (signed k x) others × FitsSteps m (suc k) (map (cleaned k (signed k x)) done ++ signed k x ∷ []) (map (cleaned k (signed k x)) others))
unfolding FitsSteps
fits_next m k done rest x others e = rw e refl

fits_none : (m k : ℕ) (done rest : List (List ℤ)) → pick k rest ≡ None → FitsSteps (suc m) k done rest ≡ FitsKernel k done
unfolding FitsSteps
fits_none m k done rest e = rw e refl

pub run_init : (columns : ℕ) (given done rest : List (List ℤ)) → done ≡ [] → rest ≡ map primitive given
    → (steps (columns - 0) 0 done rest ≡ elimination columns given) × (FitsSteps (columns - 0) 0 done rest ↔ FitsElimination columns given)
unfolding elimination FitsElimination
run_init columns given done rest d r =
    let n : columns - 0 ≡ columns = omega arith in
    rw (d, r, n) (refl, ((λ h. h), (λ h. h)))

pub shape_init : (n : ℕ) (given done rest : List (List ℤ)) → OfLength n given → done ≡ [] → rest ≡ map primitive given → IsShaped n 0 done rest
shape_init n given done rest l d r =
    subst (λ a. IsShaped n 0 a rest) (sym d) (subst (λ b. IsShaped n 0 [] b) (sym r) (record {
      count = refl;
      long_done = tt;
      long_rest = each_map (λ row. length row ≡ n) (λ row. length row ≡ n) primitive given (λ row h. length-primitive row ∙ h) l;
      reduced = tt;
      zero_rest = each_map (λ row. length row ≡ n) (ZeroBelow 0) primitive given (λ row h e lt. absurd (omega arith)) l;
    }))

pub have_pivots : (n k j : ℕ) (done : List (List ℤ)) → j + length done ≤ k → k ≤ n → OfLength n done → IsReduced k j done → HavePivots j done
unfolding HavePivots
have_pivots n k j [] a b l r = tt
have_pivots n k j (row ∷ done) a b l r = (let e = l.0 in omega arith, r.0, have_pivots n k (suc j) done (omega arith) b l.1 r.2)

pub each_longer : (n k : ℕ) (done : List (List ℤ)) → k < n → OfLength n done → Each done (λ row. k < length row)
each_longer n k [] lt l = tt
each_longer n k (row ∷ done) lt l = (let e = l.0 in omega arith, each_longer n k done lt l.1)

pub picked_length : (n k : ℕ) (rest : List (List ℤ)) (x y : List ℤ) (others : List (List ℤ)) → OfLength n rest → pick k rest ≡ Some (x, others) → y ≡ signed k x → (length y ≡ n) × OfLength n others
picked_length n k rest x y others l e is = let p = picked_long n k rest x others l e in (ap length is ∙ length-signed k x ∙ p.0, p.1)

module _ (columns k : ℕ) (given done rest : List (List ℤ)) (lt : k < columns) (same : steps (columns - k) k done rest ≡ elimination columns given) (fits : FitsSteps (columns - k) k done rest ↔ FitsElimination columns given) where
  left : columns - k ≡ suc (columns - (k + 1))
  left = omega arith

  pub run_fault : (fault : ReduceFault) → pick k rest ≡ None → IsKernelFault k (columns - k - 1) done fault → IsFault columns given fault
  run_fault fault e h = by_fault fault h
    where
      more : columns - k ≡ suc (columns - k - 1)
      more = omega arith

      fits_is : FitsSteps (columns - k) k done rest ≡ FitsKernel k done
      fits_is = ap (λ m. FitsSteps m k done rest) more ∙ fits_none (columns - k - 1) k done rest e

      by_fault : (fault : ReduceFault) → IsKernelFault k (columns - k - 1) done fault → IsFault columns given fault
      by_fault Overflow h = λ f. h (subst (λ T. T) fits_is (fits.1 f))
      by_fault (Dependent kernel) h = (fits.0 (subst (λ T. T) (sym fits_is) h.0), sym same ∙ ap (λ m. steps m k done rest) more ∙ steps_none (columns - k - 1) k done rest e ∙ ap Err (sym h.1))
      by_fault OutOfMemory h = tt

  module _ (x y : List ℤ) (others : List (List ℤ)) (e : pick k rest ≡ Some (x, others)) (is : y ≡ signed k x) where
    fits_is : FitsSteps (columns - k) k done rest ≡ (FitsCleanedAll k y done × FitsCleanedAll k y others × FitsSteps (columns - (k + 1)) (suc k) (map (cleaned k y) done ++ y ∷ []) (map (cleaned k y) others))
    fits_is = ap (λ m. FitsSteps m k done rest) left ∙ subst (λ z. FitsSteps (suc (columns - (k + 1))) k done rest ≡ (FitsCleanedAll k z done × FitsCleanedAll k z others × FitsSteps (columns - (k + 1)) (suc k) (map (cleaned k z) done ++ z ∷ []) (map (cleaned k z) others))) (sym is) (fits_next (columns - (k + 1)) k done rest x others e)

    steps_is : steps (columns - k) k done rest ≡ steps (columns - (k + 1)) (suc k) (map (cleaned k y) done ++ y ∷ []) (map (cleaned k y) others)
    steps_is = ap (λ m. steps m k done rest) left ∙ subst (λ z. steps (suc (columns - (k + 1))) k done rest ≡ steps (columns - (k + 1)) (suc k) (map (cleaned k z) done ++ z ∷ []) (map (cleaned k z) others)) (sym is) (steps_next (columns - (k + 1)) k done rest x others e)

    pub run_stop_done : ¬ (FitsCleanedAll k y done) → ¬ (FitsElimination columns given)
    run_stop_done n f = n (subst (λ T. T) fits_is (fits.1 f)).0

    pub run_stop_rest : ¬ (FitsCleanedAll k y others) → ¬ (FitsElimination columns given)
    run_stop_rest n f = n (subst (λ T. T) fits_is (fits.1 f)).1

    pub run_go : (n : ℕ) (done' rest' : List (List ℤ)) → IsShaped n k done rest → FitsCleanedAll k y done → FitsCleanedAll k y others
        → done' ≡ map (cleaned k y) done ++ y ∷ [] → rest' ≡ map (cleaned k y) others
        → (steps (columns - (k + 1)) (k + 1) done' rest' ≡ elimination columns given) × (FitsSteps (columns - (k + 1)) (k + 1) done' rest' ↔ FitsElimination columns given) × IsShaped n (k + 1) done' rest'
    run_go n done' rest' s fd fo d r =
        let a : k + 1 ≡ suc k = omega arith in
        let sh = subst (λ z. IsShaped n (suc k) (map (cleaned k z) done ++ z ∷ []) (map (cleaned k z) others)) (sym is) (shape_step n k done rest x others e s) in
        subst (λ m. (steps (columns - (k + 1)) m done' rest' ≡ elimination columns given) × (FitsSteps (columns - (k + 1)) m done' rest' ↔ FitsElimination columns given) × IsShaped n m done' rest') (sym a)
        (rw (d, r) (sym steps_is ∙ same, ((λ h. fits.0 (subst (λ T. T) (sym fits_is) (fd, fo, h))), (λ h. (subst (λ T. T) fits_is (fits.1 h)).2)), sh))

pub run_end : (columns k : ℕ) (given done rest : List (List ℤ)) → columns ≤ k → steps (columns - k) k done rest ≡ elimination columns given → (FitsSteps (columns - k) k done rest → FitsElimination columns given)
    → FitsElimination columns given × (elimination columns given ≡ Ok done)
unfolding steps FitsSteps
run_end columns k given done rest le same fits =
    let n : columns - k ≡ 0 = omega arith in
    (fits (subst (λ m. FitsSteps m k done rest) (sym n) tt), sym same ∙ ap (λ m. steps m k done rest) n)
