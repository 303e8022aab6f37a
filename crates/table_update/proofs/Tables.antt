-- what a table is
use Rattle.std.proofs.Common.{◌≡◌, ◌≤◌, ℕ, suc, ℤ, List, length, refl, sym, ap, ◌∙◌, Result, Ok, Err, MatchResult, IfOk, IfErr}
use Rattle.reduced_rows.specs.declared.faults.ReduceFault.{ReduceFault}
use Rattle.reduced_rows.specs.Spans.{IsReducedOf}
use Rattle.reduced_rows.specs.Refusals.{IsFault}
use Rattle.reduced_rows.specs.Steps.{OfLength, elimination, FitsElimination}
use Rattle.reduced_rows.proofs.Outcome.{reduced_means}
use Rattle.table_update.specs.Answers.{reduced_of}
use Rattle.table_update.specs.States.{Elimination, IsElimination, HasSteps, AreStates}
use Rattle.table_update.proofs.Reached.{reached_end}

pub table_means : (e : Elimination) → IsElimination e
    → FitsElimination (length e.rows) e.rows × (elimination (length e.rows) e.rows ≡ Ok e.reduced) × IsReducedOf (length e.rows) e.rows e.reduced
unfolding IsElimination
table_means e i =
    let r = reached_end (length e.rows) i.0 e.rows i.2 i.3 in
    let s = r.1 ∙ ap Ok (sym i.6) in
    (r.0, s, reduced_means (length e.rows) i.0 e.rows e.reduced refl i.2 s)

pub table_lengths : (e : Elimination) → IsElimination e → (n : ℕ) × (length e.rows ≤ n) × OfLength n e.rows
unfolding IsElimination
table_lengths e i = (i.0, i.1, i.2)

-- from the reduced rows of an answer to the table
pub ok_of : (P : List (List ℤ) → Type 0) (r : Result Elimination ReduceFault) → IfOk (reduced_of r) P → IfOk r (λ table. P table.reduced)
ok_of P (Ok table) h = h
ok_of P (Err fault) h = tt

pub err_of : (P : ReduceFault → Type 0) (r : Result Elimination ReduceFault) → IfErr (reduced_of r) P → IfErr r P
err_of P (Ok table) h = tt
err_of P (Err fault) h = h

pub rows_of : (P : Elimination → Type 0) (Q : Elimination → Type 0) (F : ReduceFault → Type 0) (r : Result Elimination ReduceFault) → MatchResult r (λ table. P table × Q table) F → IfOk r P
rows_of P Q F (Ok table) h = h.0
rows_of P Q F (Err fault) h = tt

pub working_of : (n : ℕ) (given : List (List ℤ)) (r : Result Elimination ReduceFault)
    → MatchResult r (λ table. (table.rows ≡ given) × FitsElimination n given × (elimination n given ≡ Ok table.reduced)) (IsFault n given)
    → MatchResult (reduced_of r) (λ made. FitsElimination n given × (elimination n given ≡ Ok made)) (IsFault n given)
working_of n given (Ok table) h = (h.1, h.2)
working_of n given (Err fault) h = h

pub record Parts (e : Elimination) : Type 0 where
  pub width : ℕ
  pub wide : length e.rows ≤ width
  pub long : OfLength width e.rows
  pub steps : HasSteps (length e.rows) e.rows
  pub count : length e.states ≡ suc (length e.rows)
  pub states : AreStates (length e.rows) e.rows e.states

pub table_parts : (e : Elimination) → IsElimination e → Parts e
unfolding IsElimination
table_parts e i = record { width = i.0; wide = i.1; long = i.2; steps = i.3; count = i.4; states = i.5 }
