-- one step on a state, as the code makes it
use Rattle.std.proofs.Common.{◌≡◌, ℕ, suc, ℤ, List, [], ◌∷◌, ◌++◌, map, refl, sym, ap, subst, ◌∙◌, Option, Some, None, Err}
use Rattle.int_vectors.specs.RowSteps.{cleaned}
use Rattle.reduced_rows.specs.declared.faults.ReduceFault.{ReduceFault}
use Rattle.reduced_rows.specs.declared.faults.ReduceFault.TheVariants.{Overflow, Dependent, OutOfMemory}
use Rattle.reduced_rows.specs.Denominators.{FitsKernel, kernel_of}
use Rattle.reduced_rows.specs.Refusals.{IsKernelFault}
use Rattle.reduced_rows.specs.Steps.{signed, pick, FitsCleanedAll, steps, FitsSteps}
use Rattle.table_update.specs.Answers.{IsStepFault}
use Rattle.table_update.specs.States.{Split, next, HasStep}

-- no row is picked: the kernel
pub no_row : (m k : ℕ) (s : Split) → pick k s.rest ≡ None → (fault : ReduceFault) → IsKernelFault k m s.done fault → IsStepFault m k s fault
unfolding steps FitsSteps
no_row m k s e Overflow h = rw e h
no_row m k s e (Dependent kernel) h = rw e (h.0, ap Err (sym h.1))
no_row m k s e OutOfMemory h = tt

module _ (m k : ℕ) (s : Split) (x y : List ℤ) (others : List (List ℤ)) (e : pick k s.rest ≡ Some (x, others)) (is : y ≡ signed k x) where
  pub stop_done : ¬ (FitsCleanedAll k y s.done) → ¬ (FitsSteps (suc m) k s.done s.rest)
  unfolding FitsSteps
  stop_done n f = n (rw is (rw e at f).0)

  pub stop_rest : ¬ (FitsCleanedAll k y others) → ¬ (FitsSteps (suc m) k s.done s.rest)
  unfolding FitsSteps
  stop_rest n f = n (rw is (rw e at f).1)

  made_at : FitsCleanedAll k (signed k x) s.done → FitsCleanedAll k (signed k x) others → (done rest : List (List ℤ))
      → done ≡ map (cleaned k (signed k x)) s.done ++ signed k x ∷ [] → rest ≡ map (cleaned k (signed k x)) others
      → HasStep k s × (record { done = done; rest = rest } ≡ next k s)
  unfolding HasStep next
  made_at f g done rest d r = rw (e, d, r) ((f, g), refl)

  pub made_step : FitsCleanedAll k y s.done → FitsCleanedAll k y others → (done rest : List (List ℤ)) → done ≡ map (cleaned k y) s.done ++ y ∷ [] → rest ≡ map (cleaned k y) others
      → HasStep k s × (record { done = done; rest = rest } ≡ next k s)
  made_step f g done rest d r = made_at (subst (λ z. FitsCleanedAll k z s.done) is f) (subst (λ z. FitsCleanedAll k z others) is g) done rest
      (d ∙ ap (λ z. map (cleaned k z) s.done ++ z ∷ []) is) (r ∙ ap (λ z. map (cleaned k z) others) is)
