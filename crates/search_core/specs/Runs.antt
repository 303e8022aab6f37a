-- Runs: lists of events, and when the outcomes in them are true.
use Rattle.std.specs.Prelude.{◌≡◌, ◌⊎◌, List, [], ◌∷◌}
use Rattle.cayley.specs.Problems.{Problem}
use Rattle.cayley.specs.Cells.{Cell}
use Rattle.cayley.specs.Mixed.{IsMixedCell}
use Rattle.cayley.specs.Parents.{IsParent}
use Rattle.cayley.specs.Shares.{Branch, IsTrueBranch, IsChildren}
use Rattle.cayley.specs.Begins.{begin_of}
use Rattle.search_core.specs.declared.branches.CoreBranch.{CoreBranch}
use Rattle.search_core.specs.declared.branches.CoreOutcome.{CoreOutcome}
use Rattle.search_core.specs.declared.branches.CoreOutcome.TheVariants.{Children, Cell as Own, Nothing}
use Rattle.search_core.specs.declared.branches.Children2.{Children2}
use Rattle.search_core.specs.declared.branches.Children2.TheVariants.{One as OneChild, Two as TwoChildren}
use Rattle.search_core.specs.declared.branches.Hand.TheVariants.{Branch as Holding}
use Rattle.search_core.specs.declared.events.Event.{Event}
use Rattle.search_core.specs.declared.events.Event.TheVariants.{Claim, Steal, Expand, Offer, Report}
use Rattle.search_core.specs.States.{State, searcher_at}
use Rattle.search_core.specs.Events.{Follows}

-- the branch that the code's branch means
abbrev pub branch_of : CoreBranch → Branch
branch_of b = record { cell = b.cell; begin = begin_of b.begin }

-- one or two children as a list
abbrev pub children_of : Children2 → List Branch
children_of (OneChild b) = branch_of b ∷ []
children_of (TwoChildren b c) = branch_of b ∷ branch_of c ∷ []

-- what a problem makes of a branch: the true branch's one or two children, or its own cell, if that is a mixed cell
-- of the target; nothing, if the branch isn't true, or its cell is neither mixed nor the parent of any
abbrev pub IsTrueOutcome : Problem → Branch → CoreOutcome → Type 0
IsTrueOutcome p b (Children kids) = IsTrueBranch p b × IsChildren p b.cell (children_of kids)
IsTrueOutcome p b (Own c) = IsTrueBranch p b × IsMixedCell p b.cell × (c ≡ b.cell)
IsTrueOutcome p b Nothing = ¬ (IsTrueBranch p b) ⊎ (¬ (IsMixedCell p b.cell) × ((tau : Cell) → ¬ (IsParent p b.cell tau)))

-- an Expand is true if its outcome is true of the branch in the hand; all other events are
abbrev pub IsTrueEvent : Problem → State → Event → Type 0
IsTrueEvent p state (Claim s) = Unit {0}
IsTrueEvent p state (Steal s from) = Unit {0}
IsTrueEvent p state (Expand s outcome) = (b : CoreBranch) × ((searcher_at state s).hand ≡ Holding b) × IsTrueOutcome p (branch_of b) outcome
IsTrueEvent p state (Offer s) = Unit {0}
IsTrueEvent p state (Report s) = Unit {0}

-- a run from one state to another by a list of events, in which each Expand is true
abbrev pub IsTrueRun : Problem → State → List Event → State → Type 0
IsTrueRun p old [] new = new ≡ old
IsTrueRun p old (event ∷ events) new = (next : State) × Follows event old next × IsTrueEvent p old event × IsTrueRun p next events new
