-- what the answers for a cell say of its pairs
use Rattle.std.proofs.Common.{◌≡◌, ◌↔◌, ℕ, suc, ◌+◌, ◌*◌, ◌≤◌, List, length, arith, refl, sym, ap, subst, ◌∙◌, Result, Ok, Err, IfOk, IfErr, MatchResult}
use Rattle.std.proofs.Math.IntN.{ℤ}
use Rattle.int_vectors.specs.Vectors.{Each}
use Rattle.reduced_rows.specs.declared.faults.FromFault.{FromFault}
use Rattle.reduced_rows.specs.declared.faults.FromFault.TheVariants as from_fault
use Rattle.reduced_rows.specs.declared.faults.CellFault.{CellFault}
use Rattle.reduced_rows.specs.declared.faults.CellFault.TheVariants.{Overflow, Dependent, OutOfMemory}
use Rattle.reduced_rows.specs.declared.faults.ReduceFault.{ReduceFault}
use Rattle.reduced_rows.specs.declared.faults.ReduceFault.TheVariants as reduce_fault
use Rattle.reduced_rows.specs.Conversions.{of_rows, of_rest}
use Rattle.reduced_rows.specs.Refusals.{IsFault, HasKernel, IsFromFault}
use Rattle.reduced_rows.specs.Spans.{IsKernelOf}
use Rattle.reduced_rows.specs.Steps.{OfLength, elimination, FitsElimination}
use Rattle.reduced_rows.specs.CellRefusals.{IsEliminated, FitsBeyond, IsCellFault, OnDependent, HasAnswer, IsCellDependent, CellOverflowExactly}
use Rattle.cayley.specs.Problems.{Problem, IsProblem, HasSamePoints}
use Rattle.cayley.specs.Cells.{Cell, IsOf, IsIndependent, IsCellKernel}
use Rattle.cayley.specs.Rows.{edge_rows}
use Rattle.cayley.proofs.OneCell.CellRows.{pairs_from_rows, rows_width, rows_independent}
use Rattle.cayley.proofs.Ranking.Unperturbed.{same_rows, same_dimension, same_well, same_of}
use Rattle.inner_normal.specs.declared.moving.MovingNormal.{MovingNormal}
use Rattle.inner_normal.specs.MovingNormals.{IsMovingNormal}
use Rattle.inner_normal.specs.Workings.{HaveWidths, FitsNormal, IsNormalFrom, FitsNormalWorking, IsNormalOfRows}
use Rattle.inner_normal.proofs.Faults.{cell_fault_other}
use Rattle.inner_normal.proofs.Meaning.{reduced_of}

pub rows_lengths : (p : Problem) (cell : Cell) → IsProblem p → IsOf p cell → (m : ℕ) × (p.dimension ≤ m) × OfLength m (edge_rows p cell)
rows_lengths p cell well of = (p.dimension + suc (suc p.dimension), omega arith, rows_width p cell well of)

pub cell_kernel : (p : Problem) (cell : Cell) (kernel : List ℤ) → IsProblem p → IsOf p cell → IsKernelOf p.dimension (edge_rows p cell) kernel → IsCellKernel p cell kernel
cell_kernel p cell kernel well of k = record {
  long = k.long;
  other = k.other;
  orthogonal = pairs_from_rows p.dimension 0 p.supports cell kernel k.long well.points of k.orthogonal;
}

pub kernel_dependent : (p : Problem) (cell : Cell) (kernel : List ℤ) → IsCellKernel p cell kernel → ¬ (IsIndependent p cell)
kernel_dependent p cell kernel k ind = k.other (ind kernel k.long k.orthogonal)

-- the reduced rows are as wide as the given ones
pub reduced_widths : (p : Problem) (cell : Cell) → IsProblem p → IsOf p cell → (made : List (List ℤ)) → IsEliminated p.dimension (edge_rows p cell) made → HaveWidths made
reduced_widths p cell well of made e =
    let r = reduced_of p cell well of made e in
    let k : p.dimension + suc (suc p.dimension) ≡ 2 * length made + 2 = (let c = r.count in omega (arith, c)) in
    subst (λ m. Each made (λ row. length row ≡ m)) k (r.long (p.dimension + suc (suc p.dimension)) (rows_width p cell well of))

-- a cell whose elimination ends with rows is independent
pub rows_free : (p : Problem) (cell : Cell) → IsProblem p → IsOf p cell → (made : List (List ℤ)) → IsEliminated p.dimension (edge_rows p cell) made → IsIndependent p cell
rows_free p cell well of made e = rows_independent p cell well of (reduced_of p cell well of made e).independent

-- of each problem with the same points
pub of_each : (q p : Problem) (cell : Cell) (made : List (List ℤ)) (m : MovingNormal) → IsProblem q → IsOf q cell → IsEliminated q.dimension (edge_rows q cell) made
    → ((r : Problem) (tau : Cell) → IsProblem r → IsOf r tau → IsEliminated r.dimension (edge_rows r tau) made → IsMovingNormal r tau m) → HasSamePoints p q → IsMovingNormal p cell m
of_each q p cell made m well of e f same =
    f p cell (same_well q p (sym same) well) (same_of q p cell (sym same) of)
    (subst (λ n. IsEliminated n (edge_rows p cell) made) (sym (same_dimension p q same)) (subst (λ rows. IsEliminated q.dimension rows made) (sym (same_rows p q cell same)) e))

-- an answer of the elimination is one of two
abbrev IsRows : Result (List (List ℤ)) (List ℤ) → Type 0
IsRows (Ok made) = Unit {0}
IsRows (Err kernel) = ⊥

not_both : (r : Result (List (List ℤ)) (List ℤ)) (made : List (List ℤ)) (kernel : List ℤ) → r ≡ Err kernel → r ≡ Ok made → ⊥
not_both r made kernel e f = subst IsRows (sym f ∙ e) tt

abbrev rows_in : List (List ℤ) → Result (List (List ℤ)) (List ℤ) → List (List ℤ)
rows_in d (Ok made) = made
rows_in d (Err kernel) = d

-- what follows the elimination, where it ends with rows, and where it ends with a kernel
pub beyond_rows : (n : ℕ) (rows made : List (List ℤ)) (rest : List (List ℤ) → Type 0) → IsEliminated n rows made → rest made → FitsBeyond n rows rest
beyond_rows n rows made rest e r = (e.0, λ other q. subst rest (ap (rows_in made) (sym e.1 ∙ q)) r)

pub beyond_kernel : (n : ℕ) (rows : List (List ℤ)) (rest : List (List ℤ) → Type 0) (kernel : List ℤ) → FitsElimination n rows → elimination n rows ≡ Err kernel → FitsBeyond n rows rest
beyond_kernel n rows rest kernel f e = (f, λ made q. absurd (not_both (elimination n rows) made kernel e q))

-- a refusal of the rows is one of their cell
pub rows_fault : (n : ℕ) (rows : List (List ℤ)) (fault : ReduceFault) → IsFault n rows fault → HasKernel n rows fault → IsCellFault (FitsElimination n rows) n rows (of_rows fault)
rows_fault n rows reduce_fault.Overflow h k = h
rows_fault n rows (reduce_fault.Dependent kernel) h k = (h.0, h.1, k)
rows_fault n rows reduce_fault.OutOfMemory h k = tt

-- a refusal of the elimination is one of all that follows, and so is one of what follows
pub fault_before : (n : ℕ) (rows : List (List ℤ)) (rest : List (List ℤ) → Type 0) (fault : CellFault) → IsCellFault (FitsElimination n rows) n rows fault → IsCellFault (FitsBeyond n rows rest) n rows fault
fault_before n rows rest fault h = cell_fault_other (FitsElimination n rows) (FitsBeyond n rows rest) n rows fault (λ none f. none f.0) h

pub fault_after : (n : ℕ) (rows made : List (List ℤ)) (rest : List (List ℤ) → Type 0) (fault : FromFault) → IsEliminated n rows made → IsFromFault (rest made) fault → IsCellFault (FitsBeyond n rows rest) n rows (of_rest fault)
fault_after n rows made rest from_fault.Overflow e none = λ f. none (f.1 made e.1)
fault_after n rows made rest from_fault.OutOfMemory e h = tt

-- the refusals of a call that answers for a cell. P is what its answers are, `fits` that all of its numbers fit.
module _ {A : Type 0} (P : A → Type 0) (fits : Type 0) (p : Problem) (cell : Cell) (well : IsProblem p) (of : IsOf p cell) (ok_fits : (a : A) → P a → fits)
    (kernel_fits : (kernel : List ℤ) → FitsElimination p.dimension (edge_rows p cell) → elimination p.dimension (edge_rows p cell) ≡ Err kernel → fits) where
  pub overflow_answer : (r : Result A CellFault) → MatchResult r P (IsCellFault fits p.dimension (edge_rows p cell)) → HasAnswer r → CellOverflowExactly fits r
  overflow_answer (Ok a) h m = (absurd, λ n. n (ok_fits a h))
  overflow_answer (Err Overflow) h m = ((λ _. h), (λ _. tt))
  overflow_answer (Err (Dependent kernel)) h m = (absurd, λ n. n (kernel_fits kernel h.0 h.1))
  overflow_answer (Err OutOfMemory) h m = absurd m

  -- where the elimination fits and not all of it does, the cell is independent
  unfit_independent : FitsElimination p.dimension (edge_rows p cell) → ¬ fits → ¬ (¬ (IsIndependent p cell))
  unfit_independent f no_fit dependent = by (elimination p.dimension (edge_rows p cell)) refl
    where
      by : (r : Result (List (List ℤ)) (List ℤ)) → elimination p.dimension (edge_rows p cell) ≡ r → ⊥
      by (Ok made) e = dependent (rows_free p cell well of made (f, e))
      by (Err kernel) e = no_fit (kernel_fits kernel f e)

  pub dependent_answer : ((a : A) → P a → IsIndependent p cell) → (r : Result A CellFault) → MatchResult r P (IsCellFault fits p.dimension (edge_rows p cell)) → HasAnswer r
      → IsCellDependent r ↔ (FitsElimination p.dimension (edge_rows p cell) × ¬ (IsIndependent p cell))
  dependent_answer i (Ok a) h m = (absurd, λ d. d.1 (i a h))
  dependent_answer i (Err Overflow) h m = (absurd, λ d. unfit_independent d.0 h d.1)
  dependent_answer i (Err (Dependent kernel)) h m = ((λ _. (h.0, kernel_dependent p cell kernel (cell_kernel p cell kernel well of h.2))), (λ _. tt))
  dependent_answer i (Err OutOfMemory) h m = absurd m

  pub kernel_answer : (r : Result A CellFault) → MatchResult r P (IsCellFault fits p.dimension (edge_rows p cell)) → IfErr r (OnDependent (IsCellKernel p cell))
  kernel_answer (Ok a) h = tt
  kernel_answer (Err Overflow) h = tt
  kernel_answer (Err (Dependent kernel)) h = cell_kernel p cell kernel well of h.2
  kernel_answer (Err OutOfMemory) h = tt

  pub ok_answer : (Q : A → Type 0) (r : Result A CellFault) → ((a : A) → P a → Q a) → MatchResult r P (IsCellFault fits p.dimension (edge_rows p cell)) → IfOk r Q
  ok_answer Q (Ok a) f h = f a h
  ok_answer Q (Err fault) f h = tt

-- a normal that is made of the rows, or refused
pub normal_rows : (p : Problem) (cell : Cell) → IsProblem p → IsOf p cell → (made : List (List ℤ)) → IsEliminated p.dimension (edge_rows p cell) made → (m : MovingNormal) → FitsNormal (length made) made → IsNormalFrom made m
    → ((r : Problem) (tau : Cell) → IsProblem r → IsOf r tau → IsEliminated r.dimension (edge_rows r tau) made → IsMovingNormal r tau m) → IsNormalOfRows p cell m
normal_rows p cell well of made e m f from each = (
  beyond_rows p.dimension (edge_rows p cell) made (FitsNormal p.dimension) e (subst (λ n. FitsNormal n made) (reduced_of p cell well of made e).count f),
  (λ other g. subst (λ rows. IsNormalFrom rows m) (ap (rows_in made) (sym e.1 ∙ g.1)) from),
  (λ q same. of_each p q cell made m well of e each same),
)

pub normal_fault : (p : Problem) (cell : Cell) → IsProblem p → IsOf p cell → (made : List (List ℤ)) → IsEliminated p.dimension (edge_rows p cell) made → (fault : FromFault) → IsFromFault (FitsNormal (length made) made) fault
    → IsCellFault (FitsNormalWorking p cell) p.dimension (edge_rows p cell) (of_rest fault)
normal_fault p cell well of made e fault h =
    fault_after p.dimension (edge_rows p cell) made (FitsNormal p.dimension) fault e (subst (λ n. IsFromFault (FitsNormal n made) fault) (reduced_of p cell well of made e).count h)
