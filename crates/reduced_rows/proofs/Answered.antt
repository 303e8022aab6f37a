-- the laws for the code's answers
use Rattle.std.proofs.Common.{◌≡◌, ℕ, ◌≤◌, List, ℤ, length, Result, Ok, Err, IfOk, IfErr, MatchResult, arith, subst, sym}
use Rattle.reduced_rows.specs.declared.faults.ReduceFault.{ReduceFault}
use Rattle.reduced_rows.specs.declared.faults.ReduceFault.TheVariants.{Overflow, Dependent, OutOfMemory}
use Rattle.reduced_rows.specs.Steps.{OfLength, elimination, FitsElimination}
use Rattle.reduced_rows.specs.Spans.{IsReducedOf, IsReduced, HaveForm}
use Rattle.reduced_rows.specs.Refusals.{IsFault, HasKernel, HadMemory, OverflowExactly, DependentExactly}
use Rattle.reduced_rows.proofs.Run.{have_pivots}
use Rattle.reduced_rows.proofs.Outcome.{reduced_means, kernel_means_it}

pub reduced_answer : (n width : ℕ) (given : List (List ℤ)) (r : Result (List (List ℤ)) ReduceFault) → length given ≡ n → OfLength width given
    → MatchResult r (λ made. FitsElimination n given × (elimination n given ≡ Ok made)) (IsFault n given) → IfOk r (λ made. IsReducedOf n given made)
reduced_answer n width given (Ok made) c l h = reduced_means n width given made c l h.1
reduced_answer n width given (Err fault) c l h = tt

pub kernel_answer : (n width : ℕ) (given : List (List ℤ)) (r : Result (List (List ℤ)) ReduceFault) → length given ≡ n → OfLength width given
    → MatchResult r (λ made. FitsElimination n given × (elimination n given ≡ Ok made)) (IsFault n given) → IfErr r (HasKernel n given)
kernel_answer n width given (Ok made) c l h = tt
kernel_answer n width given (Err Overflow) c l h = tt
kernel_answer n width given (Err (Dependent kernel)) c l h = kernel_means_it n width given kernel c l h.1
kernel_answer n width given (Err OutOfMemory) c l h = tt

pub has_form : (n width : ℕ) (given made : List (List ℤ)) → n ≤ width → length given ≡ n → OfLength width given → elimination n given ≡ Ok made → HaveForm made
unfolding HaveForm
has_form n width given made w c l e =
    let m = reduced_means n width given made c l e in
    let k = m.count in (
      have_pivots width n 0 made (omega (arith, k)) w (m.long width l) m.reduced,
      subst (λ i. IsReduced i 0 made) (sym k) m.reduced,
      m.primitive,
    )

-- Overflow and Dependent come exactly where they have to
pub overflow_answer : (n : ℕ) (given : List (List ℤ)) (r : Result (List (List ℤ)) ReduceFault)
    → MatchResult r (λ made. FitsElimination n given × (elimination n given ≡ Ok made)) (IsFault n given) → HadMemory r → OverflowExactly n given r
overflow_answer n given (Ok made) h m = (absurd, λ f. f h.0)
overflow_answer n given (Err Overflow) h m = ((λ _. h), (λ _. tt))
overflow_answer n given (Err (Dependent kernel)) h m = (absurd, λ f. f h.0)
overflow_answer n given (Err OutOfMemory) h m = absurd m

pub dependent_answer : (n : ℕ) (given : List (List ℤ)) (r : Result (List (List ℤ)) ReduceFault)
    → MatchResult r (λ made. FitsElimination n given × (elimination n given ≡ Ok made)) (IsFault n given)
    → IfOk r (λ made. IsReducedOf n given made) → IfErr r (HasKernel n given) → HadMemory r → DependentExactly n given r
dependent_answer n given (Ok made) h a b m = (absurd, λ f. f.1 a.independent)
dependent_answer n given (Err Overflow) h a b m = (absurd, λ f. h f.0)
dependent_answer n given (Err (Dependent kernel)) h a b m = ((λ _. (h.0, λ i. b.other (i kernel b.long b.orthogonal))), (λ _. tt))
dependent_answer n given (Err OutOfMemory) h a b m = absurd m
