-- one turn of an exchange: a step that picks neither the old row nor the new one
use Rattle.std.proofs.Common.{◌≡◌, ℕ, zero, suc, ◌+◌, ◌-◌, ◌<◌, ◌≤◌, ℤ, List, [], ◌∷◌, ◌++◌, length, map, set, refl, sym, ap, subst, ◌∙◌, arith, Some}
use Rattle.std.specs.Prelude.{slice_index_or}
use Rattle.std.proofs.Math.Seq.{get_or-append_seam}
use Rattle.std.proofs.lemmas.List.{length-map, map-set, length-set}
use Rattle.int_vectors.specs.Contents.{primitive}
use Rattle.int_vectors.specs.RowSteps.{cleaned, FitsCleaned}
use Rattle.int_vectors.specs.Vectors.{Each, row_at}
use Rattle.reduced_rows.specs.Steps.{OfLength, signed, pick, FitsCleanedAll, FitsSteps, FitsElimination}
use Rattle.reduced_rows.proofs.Run.{picked_length}
use Rattle.table_update.specs.Exchanges.{IsPassed, with_rest}
use Rattle.table_update.specs.States.{Split, start, next, state_after, HasStep, HasSteps}
use Rattle.table_update.proofs.Listed.{either}
use Rattle.table_update.proofs.OneStep.{stop_rest}
use Rattle.table_update.proofs.Passing.{cleaned_all_set, cleaned_at_set}
use Rattle.table_update.proofs.Reached.{Step, step_of, has_step, next_picked, Reached, reached, reached_next}

-- the start
pub start_with : (old : List (List ℤ)) (p : ℕ) (row v : List ℤ) → v ≡ primitive row → state_after 0 (set old p row) ≡ with_rest p v (state_after 0 old)
unfolding state_after
start_with old p row v e = ap (λ (l : List (List ℤ)). record { done = []; rest = l }) (map-set primitive old p row ∙ ap (set (map primitive old) p) (sym e))

pub start_long : (old : List (List ℤ)) → length (state_after 0 old).rest ≡ length old
unfolding state_after
start_long old = length-map old primitive

pub long_with : (n : ℕ) (rows : List (List ℤ)) (p : ℕ) (row : List ℤ) → OfLength n rows → length row ≡ n → OfLength n (set rows p row)
long_with n [] p row h e = tt
long_with n (r ∷ rows) zero row h e = (e, h.1)
long_with n (r ∷ rows) (suc p) row h e = (h.0, long_with n rows p row h.1 e)

-- the first of more steps
pub steps_before : (n k : ℕ) (rows : List (List ℤ)) → k ≤ n → HasSteps n rows → HasSteps k rows
unfolding HasSteps
steps_before zero zero rows le h = h
steps_before zero (suc k) rows le h = absurd (omega arith)
steps_before (suc n) k rows le h = either k n le (λ a. steps_before n k rows a h.0) (λ e. subst (λ m. HasSteps m rows) (sym e) h)

last_step : (k : ℕ) (rows : List (List ℤ)) → HasSteps (suc k) rows → HasStep k (state_after k rows)
unfolding HasSteps
last_step k rows h = h.1

more_steps : (k : ℕ) (rows : List (List ℤ)) → HasSteps k rows → HasStep k (state_after k rows) → HasSteps (suc k) rows
unfolding HasSteps
more_steps k rows a b = (a, b)

after_next : (k : ℕ) (rows : List (List ℤ)) → state_after (suc k) rows ≡ next k (state_after k rows)
unfolding state_after
after_next k rows = refl

-- what a turn knows, where the state after the step is `by`
pub record Turn (n width k to : ℕ) (old new : List (List ℤ)) (now : List ℤ) (by : Split) : Type 0 where
  pub place : k < length by.done
  pub long : length (row_at by.done k) ≡ width
  pub stop : ¬ (FitsCleaned k (row_at by.done k) now) → ¬ (FitsElimination n new)
  pub steps : FitsCleaned k (row_at by.done k) now → HasSteps (suc k) new
  pub state : (made : List ℤ) → FitsCleaned k (row_at by.done k) now → made ≡ cleaned k (row_at by.done k) now → state_after (suc k) new ≡ with_rest to made (state_after (suc k) old)
  pub inside : to < length (state_after (suc k) old).rest
  pub below : suc k < n

module _ (n width k at to : ℕ) (old new : List (List ℤ)) (now : List ℤ) (lt : k < n) (count : length old ≡ n) (long_old : OfLength width old) (long_new : OfLength width new)
    (steps_old : HasSteps n old) (steps_new : HasSteps k new) (state : state_after k new ≡ with_rest at now (state_after k old))
    (passed : IsPassed k at to now (state_after k old).rest) where
  s : Split
  s = state_after k old

  with_now : Split
  with_now = with_rest at now (state_after k old)

  has : HasStep k (state_after k old)
  has = last_step k old (steps_before n (suc k) old (omega arith) steps_old)

  reached_old : Reached n width k old (state_after k old)
  reached_old = reached n width k old (omega arith) long_old (steps_before n k old (omega arith) steps_old)

  reached_new : Reached n width k new (with_rest at now (state_after k old))
  reached_new = subst (Reached n width k new) state (reached n width k new (omega arith) long_new steps_new)

  step : Step k (state_after k old)
  step = step_of k (state_after k old) has

  y : List ℤ
  y = signed k step.row

  front : List (List ℤ)
  front = map (cleaned k (signed k step.row)) (state_after k old).done

  next_is : state_after (suc k) old ≡ record { done = map (cleaned k (signed k step.row)) (state_after k old).done ++ signed k step.row ∷ []; rest = map (cleaned k (signed k step.row)) step.others }
  next_is = after_next k old ∙ step.next_is

  still : (to < length step.others) × (pick k (set (state_after k old).rest at now) ≡ Some (step.row, set step.others to now))
  still = passed step.row step.others step.picked

  front_long : length (map (cleaned k (signed k step.row)) (state_after k old).done) ≡ k
  front_long = length-map (state_after k old).done (cleaned k (signed k step.row)) ∙ reached_old.shape.count

  row_is : row_at (map (cleaned k (signed k step.row)) (state_after k old).done ++ signed k step.row ∷ []) k ≡ signed k step.row
  row_is = subst (λ m. slice_index_or (map (cleaned k (signed k step.row)) (state_after k old).done ++ signed k step.row ∷ []) m [] ≡ signed k step.row) front_long
      (get_or-append_seam (map (cleaned k (signed k step.row)) (state_after k old).done) (signed k step.row) [] [])

  row_long : length (signed k step.row) ≡ width
  row_long = (picked_length width k (state_after k old).rest step.row (signed k step.row) step.others reached_old.shape.long_rest step.picked refl).0

  push_long : (rows : List (List ℤ)) (row : List ℤ) → length (rows ++ row ∷ []) ≡ suc (length rows)
  push_long [] row = refl
  push_long (r ∷ rows) row = ap suc (push_long rows row)

  stops : ¬ (FitsCleaned k (signed k step.row) now) → ¬ (FitsElimination n new)
  stops wrong f =
      let more : n - k ≡ suc (n - k - 1) = omega arith in
      stop_rest (n - k - 1) k (with_rest at now (state_after k old)) step.row (signed k step.row) (set step.others to now) still.1 refl
      (λ all. wrong (cleaned_at_set k (signed k step.row) now step.others to still.0 all))
      (subst (λ m. FitsSteps m k (state_after k old).done (set (state_after k old).rest at now)) more (reached_new.fits.1 f))

  goes : FitsCleaned k (signed k step.row) now → HasSteps (suc k) new
  goes f = more_steps k new steps_new (subst (HasStep k) (sym state)
      (has_step k (with_rest at now (state_after k old)) step.row (set step.others to now) still.1 step.fits_done (cleaned_all_set k (signed k step.row) now step.others to step.fits_rest f)))

  leads : (made : List ℤ) → made ≡ cleaned k (signed k step.row) now → state_after (suc k) new ≡ with_rest to made (state_after (suc k) old)
  leads made e =
      after_next k new ∙ ap (next k) state ∙ next_picked k (with_rest at now (state_after k old)) step.row (set step.others to now) still.1
      ∙ ap (λ (l : List (List ℤ)). record { done = map (cleaned k (signed k step.row)) (state_after k old).done ++ signed k step.row ∷ []; rest = l })
      (map-set (cleaned k (signed k step.row)) step.others to now ∙ ap (set (map (cleaned k (signed k step.row)) step.others) to) (sym e))
      ∙ ap (with_rest to made) (sym next_is)

  here : to < length (state_after (suc k) old).rest
  here = subst (λ z. to < length z.rest) (sym next_is) (subst (λ m. to < m) (sym (length-map step.others (cleaned k (signed k step.row)))) still.0)

  further : suc k < n
  further =
      let r = (reached n width (suc k) old (omega arith) long_old (steps_before n (suc k) old (omega arith) steps_old)).left in
      let h = here in
      omega (arith, r, h, count)

  turn_at : Turn n width k to old new now (record { done = map (cleaned k (signed k step.row)) (state_after k old).done ++ signed k step.row ∷ []; rest = map (cleaned k (signed k step.row)) step.others })
  turn_at = record {
    place = (let a = push_long (map (cleaned k (signed k step.row)) (state_after k old).done) (signed k step.row) in let b = front_long in omega (arith, a, b));
    long = ap length row_is ∙ row_long;
    stop = λ wrong. stops (λ f. wrong (subst (λ z. FitsCleaned k z now) (sym row_is) f));
    steps = λ f. goes (subst (λ z. FitsCleaned k z now) row_is f);
    state = λ made f e. leads made (e ∙ ap (λ z. cleaned k z now) row_is);
    inside = here;
    below = further;
  }

  pub turn : (by : Split) → by ≡ state_after (suc k) old → Turn n width k to old new now by
  turn by e = subst (Turn n width k to old new now) (sym (e ∙ next_is)) turn_at
