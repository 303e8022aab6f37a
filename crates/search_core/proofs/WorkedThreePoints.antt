-- the premises of the core's law are met: two searchers search the path of three points to its end
use Rattle.std.proofs.Common.{◌≡◌, ◌≢◌, ℕ, ◌<◌, ◌≤◌, List, [], ◌∷◌, length, lit<, lit≤, ap, arith, refl, sym, subst, inl, inr}
use Rattle.std.proofs.Math.IntN.{pos, negsuc}
use Rattle.cayley.specs.Times.{Time, IsSameTime, time_zero}
use Rattle.cayley.specs.Cells.{Cell}
use Rattle.cayley.specs.Lives.Begin.{at_time}
use Rattle.cayley.specs.Mixed.{IsAlive, IsMixedCell}
use Rattle.cayley.specs.Shares.{Branch, IsTrueBranch, GivesShares}
use Rattle.cayley.specs.Begins.{begin_of}
use Rattle.cayley.specs.declared.found.Begin.{Begin as StoredBegin}
use Rattle.cayley.specs.declared.found.Begin.TheVariants.{Start, At}
use Rattle.cayley.proofs.Life.Decisions.{lined_cell}
use Rattle.cayley.proofs.Order.Lined.{begins_same}
use Rattle.cayley.proofs.Searching.Steps.{shares_exist}
use Rattle.cayley.proofs.Searching.FilePoints.{dec_mixed}
use Rattle.cayley.proofs.Worked.ThreePoints.{three, three_well, start, start_early, left, right, left_mixed, right_mixed, left_mixed_is_mixed, right_mixed_is_mixed, left_true, right_true, left_mixed_true, right_mixed_true, start_kids, left_kids, right_kids}
use Rattle.search_core.specs.declared.branches.CoreBranch.{CoreBranch}
use Rattle.search_core.specs.declared.branches.CoreOutcome.TheVariants.{Children, Cell as Own}
use Rattle.search_core.specs.declared.branches.Children2.TheVariants.{One as OneChild, Two as TwoChildren}
use Rattle.search_core.specs.declared.events.Event.{Event}
use Rattle.search_core.specs.declared.events.Event.TheVariants.{Claim, Steal, Expand, Offer, Report}
use Rattle.search_core.specs.States.{State, start_state, IsIdle}
use Rattle.search_core.specs.Runs.{IsTrueRun}
use Rattle.search_core.specs.Contents.{all_outs}

abbrev branch : Cell → StoredBegin → CoreBranch
branch cell begin = record { cell = cell; begin = begin }

abbrev first : CoreBranch
first = branch start Start

not_nil : (b : CoreBranch) (ds : List CoreBranch) → b ∷ ds ≢ []
not_nil b ds e = let l = ap length e in omega (arith, l)

-- of two searchers
one_is : (1 ≤ 1) × (1 ≤ 2)
one_is = (lit≤ tt, lit≤ tt)

two_is : (1 ≤ 2) × (2 ≤ 2)
two_is = (lit≤ tt, lit≤ tt)

apart : (m n : ℕ) → m < n → m ≢ n
apart m n l e = omega (arith, l, e)

-- a true branch, whatever value of the code stands for its time
stored : (cell : Cell) (begin : StoredBegin) (entry over : _) → begin_of begin ≡ at_time (entry ∷ []) over
    → IsTrueBranch three (record { cell = cell; begin = at_time (entry ∷ []) over }) → IsTrueBranch three (record { cell = cell; begin = begin_of begin })
stored cell begin entry over e is = subst (λ x. IsTrueBranch three (record { cell = cell; begin = x })) (sym e) is

-- the time 0, which the code writes without an entry
zero_is : (t : Time) → t.entries ≡ pos 0 ∷ [] → IsSameTime t time_zero
zero_is t e = rw e (refl, tt)

at_zero : (cell : Cell) → IsTrueBranch three (record { cell = cell; begin = at_time (pos 0 ∷ []) (pos 1) }) → IsTrueBranch three (record { cell = cell; begin = at_time [] (pos 1) })
at_zero cell h = (time_zero, refl, refl, begins_same (IsAlive three cell) (lined_cell three cell three_well) h.0 time_zero (zero_is h.0 h.1) h.3)

-- the code's values for the times -2 and 0
module _ (early late : StoredBegin) (early_is : begin_of early ≡ at_time (negsuc 1 ∷ []) (pos 1)) (late_is : begin_of late ≡ at_time [] (pos 1)) where
  abbrev events : List Event
  events =
      Claim 1 ∷ Expand 1 (Children (TwoChildren (branch left early) (branch right early))) ∷ Offer 1 ∷ Offer 1
      ∷ Steal 2 1 ∷ Claim 1
      ∷ Expand 2 (Children (OneChild (branch left_mixed late))) ∷ Offer 2 ∷ Claim 2 ∷ Expand 2 (Own left_mixed) ∷ Report 2
      ∷ Expand 1 (Children (OneChild (branch right_mixed late))) ∷ Offer 1 ∷ Claim 1 ∷ Expand 1 (Own right_mixed) ∷ Report 1 ∷ []

  left_is : IsTrueBranch three (record { cell = left; begin = begin_of early })
  left_is = stored left early (negsuc 1) (pos 1) early_is left_true

  right_is : IsTrueBranch three (record { cell = right; begin = begin_of early })
  right_is = stored right early (negsuc 1) (pos 1) early_is right_true

  at_late : (cell : Cell) → IsTrueBranch three (record { cell = cell; begin = at_time (pos 0 ∷ []) (pos 1) }) → IsTrueBranch three (record { cell = cell; begin = begin_of late })
  at_late cell h = subst (λ x. IsTrueBranch three (record { cell = cell; begin = x })) (sym late_is) (at_zero cell h)

  left_mixed_is : IsTrueBranch three (record { cell = left_mixed; begin = begin_of late })
  left_mixed_is = at_late left_mixed left_mixed_true

  right_mixed_is : IsTrueBranch three (record { cell = right_mixed; begin = begin_of late })
  right_mixed_is = at_late right_mixed right_mixed_true

  run : (end : State) × IsTrueRun three (start_state 2 first) events end × IsIdle end × (all_outs end ≡ right_mixed ∷ left_mixed ∷ [])
  run = (
    _,
    (
      _,
      ((one_is, refl, not_nil _ _), ([], first, refl, refl)),
      tt,
      (
        _,
        ((one_is, (first, refl)), refl),
        (first, refl, (start_early, ((left_is, (right_is, tt)), start_kids.1))),
        (
          _,
          ((one_is, (branch left early, _, inr (branch right early, refl, refl))), (branch left early, _, inr (branch right early, refl, refl), refl)),
          tt,
          (
            _,
            ((one_is, (branch right early, _, inl (refl, refl))), (branch right early, _, inl (refl, refl), refl)),
            tt,
            (
              _,
              ((two_is, one_is, apart 1 2 (lit< tt), refl, not_nil _ _), (branch left early, branch right early ∷ [], refl, refl)),
              tt,
              (
                _,
                ((one_is, refl, not_nil _ _), ([], branch right early, refl, refl)),
                tt,
                (
                  _,
                  ((two_is, (branch left early, refl)), refl),
                  (branch left early, refl, (left_is, ((left_mixed_is, tt), left_kids.1))),
                  (
                    _,
                    ((two_is, (branch left_mixed late, _, inl (refl, refl))), (branch left_mixed late, _, inl (refl, refl), refl)),
                    tt,
                    (
                      _,
                      ((two_is, refl, not_nil _ _), ([], branch left_mixed late, refl, refl)),
                      tt,
                      (
                        _,
                        ((two_is, (branch left_mixed late, refl)), refl),
                        (branch left_mixed late, refl, (left_mixed_is, left_mixed_is_mixed, refl)),
                        (
                          _,
                          ((two_is, (left_mixed, refl)), (left_mixed, refl, refl)),
                          tt,
                          (
                            _,
                            ((one_is, (branch right early, refl)), refl),
                            (branch right early, refl, (right_is, ((right_mixed_is, tt), right_kids.1))),
                            (
                              _,
                              ((one_is, (branch right_mixed late, _, inl (refl, refl))), (branch right_mixed late, _, inl (refl, refl), refl)),
                              tt,
                              (
                                _,
                                ((one_is, refl, not_nil _ _), ([], branch right_mixed late, refl, refl)),
                                tt,
                                (
                                  _,
                                  ((one_is, (branch right_mixed late, refl)), refl),
                                  (branch right_mixed late, refl, (right_mixed_is, right_mixed_is_mixed, refl)),
                                  (
                                    _,
                                    ((one_is, (right_mixed, refl)), (right_mixed, refl, refl)),
                                    tt,
                                    refl,
                                  ),
                                ),
                              ),
                            ),
                          ),
                        ),
                      ),
                    ),
                  ),
                ),
              ),
            ),
          ),
        ),
      ),
    ),
    ((refl, refl), ((refl, refl), tt)),
    refl,
  )

-- a true run to a state with nothing open, and shares of its branches
pub three_run : (events : List Event) × (end : State) × IsTrueRun three (start_state 2 first) events end × IsIdle end × (all_outs end ≡ right_mixed ∷ left_mixed ∷ [])
three_run =
    let early = At (record { parts = record { rank = 0; num = negsuc 1 } ∷ []; den = pos 1 }) in
    let late = At (record { parts = []; den = pos 1 }) in
    let r = run early late refl refl in
    (events early late refl refl, r.0, r.1, r.2, r.3)

pub three_shares : (share : Branch → List Cell) × GivesShares three share
three_shares = shares_exist three three_well (IsMixedCell three) (dec_mixed three three_well)
