-- the least tied cell, as it is searched for in cell order
use Rattle.std.proofs.Common.{◌≡◌, ◌⊎◌, ◌∙◌, inl, inr, ℕ, ◌+◌, ◌<◌, Bool, true, false, List, [], ◌∷◌, ◌++◌, map, length, take, drop, Option, Some, None, MatchOption, Result, Ok, Err, MatchResult, IfOk, IfErr, rules, arith, refl, sym, ap, subst, ℤ}
use Rattle.std.specs.Prelude.{IsTrue}
use Rattle.std.specs.Option.{option_map}
use Rattle.cayley.specs.declared.found.TieProof.{TieProof}
use Rattle.cayley.specs.Problems.{Point, Problem, IsProblem}
use Rattle.cayley.specs.Cells.{Cell, IsOf, IsLess, IsIndependent}
use Rattle.cayley.specs.Rows.{edge_rows}
use Rattle.cayley.specs.Ties.{IsTieFree}
use Rattle.cayley.specs.TieProofs.{spot_of}
use Rattle.cayley.proofs.Life.NamedTies.{named_tie_law}
use Rattle.cone_walls.specs.Workings.{FitsWallWorking}
use Rattle.reduced_rows.specs.Steps.{elimination, FitsElimination}
use Rattle.plain_lister.specs.declared.faults.PlainFault.{PlainFault}
use Rattle.plain_lister.specs.declared.faults.PlainFault.TheVariants.{TooMany, Overflow, OutOfMemory}
use Rattle.plain_lister.specs.declared.naming.NamedTie.{NamedTie}
use Rattle.plain_lister.specs.declared.ties.Turn.{Turn}
use Rattle.plain_lister.specs.declared.ties.Turn.TheVariants.{Tied, Untied}
use Rattle.plain_lister.specs.declared.wheels.Wheel.{Wheel}
use Rattle.plain_lister.specs.Choices.{HasTooMany, HavePairs}
use Rattle.plain_lister.specs.Lists.{AllFit}
use Rattle.plain_lister.specs.LeastTies.{HasTie, IsTiedOrUnfit, IsLeastTiedOrUnfit, IsNamedProof, IsLeastTie, IsTieAnswer, IsTieFault, IsNamedOf}
use Rattle.plain_lister.specs.Order.{IsChoice, IsLast, IsNext, firsts, left_after}
use Rattle.plain_lister.specs.Progress.{Before, UpTo, Tried, IsUnfitAt, steps_left}
use Rattle.plain_lister.specs.TieProgress.{AreClear, IsTieAt, IsTurn, IsTieSearchFault}
use Rattle.plain_lister.specs.Wheels.{Show}
use Rattle.plain_lister.proofs.Odometer.{first_is, have_pairs}
use Rattle.plain_lister.proofs.Growing.{choice_from, no_going}

abbrev pub counts_in : Problem → List ℕ
counts_in p = map (λ (s : List Point). length s) p.supports

-- ---- one cell
-- a dependent cell's working ends with its kernel, and it has no tie
pub dependent_untied : (p : Problem) (cell : Cell) (kernel : List ℤ) → FitsElimination p.dimension (edge_rows p cell) → elimination p.dimension (edge_rows p cell) ≡ Err kernel → ¬ (IsIndependent p cell)
    → FitsWallWorking p cell × ¬ (HasTie p cell)
dependent_untied p cell kernel fits ended not = ((fits, λ made e. absurd (apart made (sym e ∙ ended))), λ tie. not tie.2.1)
  where
    apart : (made : List (List ℤ)) → Ok made ≡ Err kernel → ⊥
    apart made e = cc

nothing : (tie : NamedTie) → None ≡ Some tie → ⊥
nothing tie e = subst (λ (o : Option NamedTie). MatchOption o (Unit {0}) (λ k. ⊥)) e tt

pub at_none : (p : Problem) (cell pairs : Cell) → cell ≡ pairs → (tie : Option NamedTie) → tie ≡ None → FitsWallWorking p cell × IsNamedOf p cell tie → IsTieAt p pairs None
at_none p cell pairs same None is h = subst (λ c. FitsWallWorking p c × ¬ (HasTie p c)) same h
at_none p cell pairs same (Some tie) is h = absurd (nothing tie (sym is))

pub at_some : (p : Problem) (cell pairs : Cell) → cell ≡ pairs → (tie : Option NamedTie) (named : NamedTie) → tie ≡ Some named → FitsWallWorking p cell × IsNamedOf p cell tie
    → IsTieAt p pairs (Some (record { cell = cell; time = named.time; first = named.first; second = named.second }))
at_some p cell pairs same tie named is h =
    let k = subst (λ o. FitsWallWorking p cell × IsNamedOf p cell o) is h in
    let n = k.1 in
    (same, subst (FitsWallWorking p) same k.0, (n.0, (n.1, n.2), n.3))

named_tied : (p : Problem) (proof : TieProof) → IsProblem p → IsNamedProof p proof → HasTie p proof.cell
named_tied p proof well n = (named_tie_law p proof.cell well).0 (n.0, spot_of proof.first, option_map spot_of proof.second, n.2)

-- ---- the least cell
least_by : (p : Problem) (cell : Cell) → AreClear p (Before cell) → IsTiedOrUnfit p cell → IsLeastTiedOrUnfit p cell
least_by p cell clear h = (h, λ other k lt. let c = clear other k.0 lt in elim k.1 [ inl t ↦ c.1 t | inr n ↦ n c.0 ])

pub least_tie : (p : Problem) (cell : Cell) (proof : TieProof) → IsProblem p → IsOf p cell → AreClear p (Before cell) → IsTieAt p cell (Some proof) → IsLeastTie p proof
least_tie p cell proof well of clear h = (
  subst (IsLeastTiedOrUnfit p) (sym h.0) (least_by p cell clear (of, inl (subst (HasTie p) h.0 (named_tied p proof well h.2)))),
  subst (FitsWallWorking p) (sym h.0) h.1,
  h.2,
)

pub least_fault : (p : Problem) (cell : Cell) (fault : PlainFault) → IsOf p cell → AreClear p (Before cell) → IsUnfitAt p cell fault → IsTieSearchFault p fault
least_fault p cell (TooMany choices) of clear h = h
least_fault p cell (Overflow other) of clear h = subst (λ c. IsLeastTiedOrUnfit p c × ¬ (FitsWallWorking p c)) (sym h.0) (least_by p cell clear (of, inr h.1), h.1)
least_fault p cell OutOfMemory of clear h = tt

-- ---- the next choice, and the end
clear_up : (p : Problem) (cell : Cell) → AreClear p (Before cell) → IsTieAt p cell None → AreClear p (UpTo cell)
clear_up p cell clear h = λ other of u. elim u [
  | inl lt ↦ clear other of lt
  | inr e ↦ subst (λ c. FitsWallWorking p c × ¬ (HasTie p c)) (sym e) h
]

pub advanced_tie : (p : Problem) (counts : List ℕ) → counts ≡ counts_in p → (going : Bool) (pairs next : Cell) (wheels : List Wheel) → (IsTrue going → Show counts wheels next)
    → (IsTrue going → IsNext counts pairs next × IsChoice counts next × left_after counts next < left_after counts pairs) → (¬ (IsTrue going) → IsLast counts pairs)
    → AreClear p (Before pairs) → IsTieAt p pairs None → IsTurn p counts pairs next wheels (Untied going)
advanced_tie p counts e true pairs next wheels shown more last clear h =
    let t : IsTrue true = search rules in
    let n = more t in
    let less = n.2 in
    let up = clear_up p pairs clear h in (
      (λ u. (n.1, shown u)),
      (λ other of lt. up other of ((n.0 other (subst (λ l. IsChoice l other) (sym e) (choice_from p.supports other of))).0 lt)),
      omega (arith, less),
    )
advanced_tie p counts e false pairs next wheels shown more last clear h =
    let up = clear_up p pairs clear h in (
      (λ u. absurd (no_going u)),
      (λ other of u. up other of (last no_going other (subst (λ l. IsChoice l other) (sym e) (choice_from p.supports other of)))),
      omega arith,
    )

pub begun_tie : (p : Problem) (counts : List ℕ) → counts ≡ counts_in p → (pairs : Cell) → pairs ≡ firsts counts → AreClear p (Before pairs)
begun_tie p counts e pairs f = λ other of lt. absurd (
    first_is (counts_in p) other (choice_from p.supports other of) (subst (λ c. IsLess other c) (f ∙ ap firsts e) lt)
    )

pub going_tie : (p : Problem) (going : Bool) (pairs now : Cell) → IsTrue going → now ≡ pairs → AreClear p (Tried going pairs) → AreClear p (Before now)
going_tie p true pairs now t e d = subst (λ c. AreClear p (Before c)) (sym e) d
going_tie p false pairs now t e d = absurd (no_going t)

pub gone_tie : (p : Problem) (going : Bool) (pairs : Cell) → ¬ (IsTrue going) → AreClear p (Tried going pairs) → IsTieAnswer p None
gone_tie p false pairs n d = ((λ cell t v tie. (d cell tie.0 tt).1 (t, v, tie)), λ cell of. (d cell of tt).0)
gone_tie p true pairs n d = absurd (n yes)
  where
    yes : IsTrue true
    yes = search rules

-- ---- the answers of the whole
pub no_choice_tie : (p : Problem) (counts : List ℕ) → counts ≡ counts_in p → ¬ (HavePairs counts) → IsTieAnswer p None
no_choice_tie p counts e n =
    let none : (cell : Cell) → ¬ (IsOf p cell) = λ cell of. n (subst HavePairs (sym e) (have_pairs (counts_in p) cell (choice_from p.supports cell of))) in
    ((λ cell t v tie. none cell tie.0), λ cell of. absurd (none cell of))

tie_fault : (p : Problem) (fault : PlainFault) → ¬ (HasTooMany p) → IsTieSearchFault p fault → IsTieFault p fault
tie_fault p (TooMany choices) n h = absurd h
tie_fault p (Overflow cell) n h = (n, h.0, h.1)
tie_fault p OutOfMemory n h = tt

pub counted_tie : (p : Problem) (r : Result (Option TieProof) PlainFault) → ¬ (HasTooMany p) → MatchResult r (IsTieAnswer p) (IsTieSearchFault p) → MatchResult r (λ tie. ¬ (HasTooMany p) × IsTieAnswer p tie) (IsTieFault p)
counted_tie p (Ok tie) n h = (n, h)
counted_tie p (Err fault) n h = tie_fault p fault n h

module _ (p : Problem) where
  abbrev pub Whole : Result (Option TieProof) PlainFault → Type 0
  Whole r = MatchResult r (λ tie. ¬ (HasTooMany p) × IsTieAnswer p tie) (IsTieFault p)

  pub answer_free : (r : Result (Option TieProof) PlainFault) → Whole r → IfOk r (λ found. MatchOption found (IsTieFree p) (λ _. Unit {0}))
  answer_free (Ok None) h = h.1.0
  answer_free (Ok (Some proof)) h = tt
  answer_free (Err fault) h = tt

  pub answer_fits : (r : Result (Option TieProof) PlainFault) → Whole r → IfOk r (λ found. MatchOption found (AllFit p) (λ _. Unit {0}))
  answer_fits (Ok None) h = h.1.1
  answer_fits (Ok (Some proof)) h = tt
  answer_fits (Err fault) h = tt

  pub answer_named : (r : Result (Option TieProof) PlainFault) → Whole r → IfOk r (λ found. MatchOption found (Unit {0}) (IsLeastTie p))
  answer_named (Ok None) h = tt
  answer_named (Ok (Some proof)) h = h.1
  answer_named (Err fault) h = tt

  pub answer_few : (r : Result (Option TieProof) PlainFault) → Whole r → IfOk r (λ _. ¬ (HasTooMany p))
  answer_few (Ok tie) h = h.0
  answer_few (Err fault) h = tt

  pub answer_refused : (r : Result (Option TieProof) PlainFault) → Whole r → IfErr r (IsTieFault p)
  answer_refused (Ok tie) h = tt
  answer_refused (Err fault) h = h

-- a slice that was written back into a list of its length
take_front : {A : Type 0} (xs ys : List A) → take (length xs) (xs ++ ys) ≡ xs
take_front [] ys = refl
take_front (x ∷ xs) ys = ap (λ l. x ∷ l) (take_front xs ys)

pub written_back : {A : Type 0} (n : ℕ) (xs ys : List A) → length xs ≡ n → take n (xs ++ drop (length xs) ys) ≡ xs
written_back n xs ys e = subst (λ k. take k (xs ++ drop (length xs) ys) ≡ xs) e (take_front xs (drop (length xs) ys))
