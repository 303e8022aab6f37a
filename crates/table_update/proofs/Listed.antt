-- states in a list
use Rattle.std.proofs.Common.{◌≡◌, ◌≢◌, ℕ, zero, suc, ◌+◌, ◌<◌, ◌≤◌, ℤ, List, [], ◌∷◌, ◌++◌, length, get_or, set, take, refl, sym, ap, subst, ◌∙◌, arith}
use Rattle.std.specs.Prelude.{slice_index_or}
use Rattle.std.proofs.lemmas.List.{get_or-set_same, get_or-set_other}
use Rattle.int_vectors.proofs.Each.{read_take, same_read}
use Rattle.table_update.specs.States.{Split, start, state_after, AreStates, HasSteps}

abbrev pub nothing : Split
nothing = record { done = []; rest = [] }

pub state_at : (k : ℕ) (rows : List (List ℤ)) (states : List Split) → AreStates k rows states → (j : ℕ) → j ≤ k → (d s : Split) → s ≡ slice_index_or states j d → j < length states → s ≡ state_after j rows
unfolding AreStates
state_at k rows states h j le d s e lt = e ∙ same_read states j d nothing lt ∙ h j le

pub are_take : (k : ℕ) (rows : List (List ℤ)) (states : List Split) → AreStates k rows states → AreStates k rows (take (k + 1) states)
unfolding AreStates
are_take k rows states h j le = read_take states (k + 1) j nothing (omega arith) ∙ h j le

pub are_first : (rows : List (List ℤ)) (s : Split) → s ≡ start rows → AreStates 0 rows (s ∷ [])
unfolding AreStates state_after
are_first rows s e zero le = e
are_first rows s e (suc j) le = absurd (omega arith)

read_front : (xs : List Split) (x : Split) (j : ℕ) → j < length xs → slice_index_or (xs ++ x ∷ []) j nothing ≡ slice_index_or xs j nothing
read_front [] x j lt = absurd (omega arith)
read_front (y ∷ xs) x zero lt = refl
read_front (y ∷ xs) x (suc j) lt = read_front xs x j (omega arith)

read_last : (xs : List Split) (x : Split) (j : ℕ) → j ≡ length xs → slice_index_or (xs ++ x ∷ []) j nothing ≡ x
read_last [] x zero e = refl
read_last [] x (suc j) e = absurd (omega (arith, e))
read_last (y ∷ xs) x zero e = absurd (omega (arith, e))
read_last (y ∷ xs) x (suc j) e = read_last xs x j (omega (arith, e))

pub either : (j k : ℕ) → j ≤ suc k → {P : Type 0} → (j ≤ k → P) → (j ≡ suc k → P) → P
either zero k le f g = f (omega arith)
either (suc j) zero le f g = g (omega arith)
either (suc j) (suc k) le f g = either j k (omega arith) (λ a. f (omega arith)) (λ e. g (ap suc e))

pub are_push : (k : ℕ) (rows : List (List ℤ)) (states : List Split) (s : Split) → length states ≡ suc k → AreStates k rows states → s ≡ state_after (suc k) rows → AreStates (suc k) rows (states ++ s ∷ [])
unfolding AreStates
are_push k rows states s n h e j le = either j k le
    (λ a. read_front states s j (omega (arith, n)) ∙ h j a)
    (λ b. read_last states s j (omega (arith, n, b)) ∙ e ∙ ap (λ m. state_after m rows) (sym b))

-- the states before that at k are those of the rows, and that one is put
pub are_put : (k : ℕ) (rows : List (List ℤ)) (states : List Split) (s : Split) → k < length states → ((j : ℕ) → j < k → slice_index_or states j nothing ≡ state_after j rows)
    → s ≡ state_after k rows → AreStates k rows (set states k s)
unfolding AreStates
are_put k rows states s lt h e j le = below j k le
    (λ a. get_or-set_other states k j s nothing (λ z. omega (arith, a, z)) ∙ h j a)
    (λ b. ap (λ m. slice_index_or (set states k s) m nothing) b ∙ get_or-set_same states k s nothing lt ∙ e ∙ ap (λ m. state_after m rows) (sym b))
  where
    below : (j k : ℕ) → j ≤ k → {P : Type 0} → (j < k → P) → (j ≡ k → P) → P
    below j zero le f g = g (omega arith)
    below j (suc k) le f g = either j k le (λ a. f (omega arith)) g

pub length_push : (states : List Split) (s : Split) → length (states ++ s ∷ []) ≡ suc (length states)
length_push [] s = refl
length_push (x ∷ states) s = ap suc (length_push states s)
