-- the states of an elimination beside its steps
use Rattle.std.proofs.Common.{◌≡◌, ◌↔◌, ℕ, zero, suc, ◌+◌, ◌-◌, ◌<◌, ◌≤◌, ℤ, List, [], ◌∷◌, ◌++◌, length, map, refl, sym, ap, subst, ◌∙◌, arith, Option, Some, None, Ok, Err}
use Rattle.std.proofs.lemmas.List.{length-map}
use Rattle.int_vectors.specs.Contents.{primitive}
use Rattle.int_vectors.specs.RowSteps.{cleaned}
use Rattle.reduced_rows.specs.declared.faults.ReduceFault.{ReduceFault}
use Rattle.reduced_rows.specs.declared.faults.ReduceFault.TheVariants.{Overflow, Dependent, OutOfMemory}
use Rattle.reduced_rows.specs.Refusals.{IsFault}
use Rattle.reduced_rows.specs.Steps.{OfLength, signed, pick, FitsCleanedAll, steps, FitsSteps, elimination, FitsElimination}
use Rattle.reduced_rows.proofs.Picking.{pick_is}
use Rattle.reduced_rows.proofs.Run.{run_init, shape_init, run_go, run_end, have_pivots}
use Rattle.reduced_rows.specs.Denominators.{HavePivots}
use Rattle.reduced_rows.specs.Spans.{HaveForm}
use Rattle.reduced_rows.proofs.Answered.{has_form}
use Rattle.reduced_rows.proofs.Shape.{IsShaped}
use Rattle.table_update.specs.Answers.{IsStepFault}
use Rattle.table_update.specs.States.{Split, start, next, state_after, FitsPicked, HasStep, HasSteps}

-- what a step that was made picked
pub record Step (k : ℕ) (s : Split) : Type 0 where
  pub row : List ℤ
  pub others : List (List ℤ)
  pub picked : pick k s.rest ≡ Some (row, others)
  pub fits_done : FitsCleanedAll k (signed k row) s.done
  pub fits_rest : FitsCleanedAll k (signed k row) others
  pub next_is : next k s ≡ record { done = map (cleaned k (signed k row)) s.done ++ signed k row ∷ []; rest = map (cleaned k (signed k row)) others }

step_by : (k : ℕ) (s : Split) (o : Option (List ℤ × List (List ℤ))) → pick k s.rest ≡ o → FitsPicked k s o → Step k s
unfolding next
step_by k s None e h = absurd h
step_by k s (Some p) e h = record { row = p.0; others = p.1; picked = e; fits_done = h.0; fits_rest = h.1; next_is = rw e refl }

pub step_of : (k : ℕ) (s : Split) → HasStep k s → Step k s
unfolding HasStep
step_of k s h = step_by k s (pick k s.rest) refl h

pub has_step : (k : ℕ) (s : Split) (row : List ℤ) (others : List (List ℤ)) → pick k s.rest ≡ Some (row, others)
    → FitsCleanedAll k (signed k row) s.done → FitsCleanedAll k (signed k row) others → HasStep k s
unfolding HasStep
has_step k s row others e f g = rw e (f, g)

pub next_picked : (k : ℕ) (s : Split) (row : List ℤ) (others : List (List ℤ)) → pick k s.rest ≡ Some (row, others)
    → next k s ≡ record { done = map (cleaned k (signed k row)) s.done ++ signed k row ∷ []; rest = map (cleaned k (signed k row)) others }
unfolding next
next_picked k s row others e = rw e refl

-- what is known of the state after k steps that were made
pub record Reached (n width k : ℕ) (given : List (List ℤ)) (s : Split) : Type 0 where
  pub same : steps (n - k) k s.done s.rest ≡ elimination n given
  pub fits : FitsSteps (n - k) k s.done s.rest ↔ FitsElimination n given
  pub shape : IsShaped width k s.done s.rest
  pub left : k + length s.rest ≡ length given

reached_start : (n width : ℕ) (given : List (List ℤ)) → OfLength width given → Reached n width 0 given (start given)
reached_start n width given l =
    let r = run_init n given [] (map primitive given) refl refl in
    record { same = r.0; fits = r.1; shape = shape_init width given [] (map primitive given) l refl refl; left = omega (arith, length-map given primitive) }

pub reached_next : (n width k : ℕ) (given : List (List ℤ)) (s : Split) → k < n → Reached n width k given s → HasStep k s → Reached n width (suc k) given (next k s)
reached_next n width k given s lt r h =
    let t = step_of k s h in
    let y = signed k t.row in
    let a : k + 1 ≡ suc k = omega arith in
    let g = run_go n k given s.done s.rest lt r.same r.fits t.row y t.others t.picked refl width
    (map (cleaned k y) s.done ++ y ∷ []) (map (cleaned k y) t.others) r.shape t.fits_done t.fits_rest refl refl in
    let c = (pick_is k s.rest t.row t.others t.picked).count in
    let d = r.left in
    let e = length-map t.others (cleaned k y) in
    subst (λ m. Reached n width m given (next k s)) a (subst (Reached n width (k + 1) given) (sym t.next_is) (record {
      same = g.0;
      fits = g.1;
      shape = g.2;
      left = omega (arith, c, d, e);
    }))

pub reached : (n width k : ℕ) (given : List (List ℤ)) → k ≤ n → OfLength width given → HasSteps k given → Reached n width k given (state_after k given)
unfolding state_after HasSteps
reached n width zero given le l h = reached_start n width given l
reached n width (suc k) given le l h = reached_next n width k given (state_after k given) (omega arith) (reached n width k given (omega arith) l h.0) h.1

pub reached_end : (n width : ℕ) (given : List (List ℤ)) → OfLength width given → HasSteps n given
    → FitsElimination n given × (elimination n given ≡ Ok (state_after n given).done)
reached_end n width given l h =
    let r = reached n width n given (omega arith) l h in
    run_end n n given (state_after n given).done (state_after n given).rest (omega arith) r.same r.fits.0

-- the refusal of a step is that of the elimination
pub step_fault : (n width k : ℕ) (given : List (List ℤ)) (s : Split) → k < n → Reached n width k given s → (fault : ReduceFault) → IsStepFault (n - k - 1) k s fault → IsFault n given fault
step_fault n width k given s lt r fault h = by_fault fault h
  where
    more : suc (n - k - 1) ≡ n - k
    more = omega arith

    by_fault : (fault : ReduceFault) → IsStepFault (n - k - 1) k s fault → IsFault n given fault
    by_fault Overflow h = λ f. h (subst (λ m. FitsSteps m k s.done s.rest) (sym more) (r.fits.1 f))
    by_fault (Dependent kernel) h = (r.fits.0 (subst (λ m. FitsSteps m k s.done s.rest) more h.0), sym r.same ∙ subst (λ m. steps m k s.done s.rest ≡ Err kernel) more h.1)
    by_fault OutOfMemory h = tt

pub reached_pivots : (n width k : ℕ) (given : List (List ℤ)) (s : Split) → k ≤ width → Reached n width k given s → HavePivots 0 s.done
reached_pivots n width k given s le r = let c = r.shape.count in have_pivots width k 0 s.done (omega (arith, c)) le r.shape.long_done r.shape.reduced

pub end_form : (n width : ℕ) (given : List (List ℤ)) → n ≤ width → length given ≡ n → OfLength width given → HasSteps n given → HaveForm (state_after n given).done
end_form n width given le c l h = has_form n width given (state_after n given).done le c l (reached_end n width given l h).1

pub steps_next : (k : ℕ) (given : List (List ℤ)) (s made : Split) → s ≡ state_after k given → HasSteps k given → HasStep k s → made ≡ next k s
    → HasSteps (suc k) given × (made ≡ state_after (suc k) given)
unfolding HasSteps state_after
steps_next k given s made e hs h m = ((hs, subst (HasStep k) e h), m ∙ ap (next k) e)

pub steps_start : (given : List (List ℤ)) → HasSteps 0 given
unfolding HasSteps
steps_start given = tt
