-- What an expansion answers, and where each answer comes.
use Rattle.std.specs.Prelude.{◌≡◌, ◌⊎◌, Result, Ok, Err}
use Rattle.cayley.specs.declared.found.FoundCell.{FoundCell}
use Rattle.cayley.specs.Problems.{Problem, file_points}
use Rattle.cayley.specs.Cells.{Cell, IsOf}
use Rattle.cayley.specs.Mixed.{IsMixedCell, IsLowestNormal}
use Rattle.cayley.specs.Lives.{AliveLate}
use Rattle.cayley.specs.Shares.{IsTrueBranch, IsChildren}
use Rattle.cayley.specs.TieProofs.{IsTieProofAtEnd}
use Rattle.searcher.specs.declared.branches.Branch.{Branch}
use Rattle.searcher.specs.declared.expansions.Expansion.{Expansion}
use Rattle.searcher.specs.declared.expansions.Expansion.TheVariants.{Inner, Target, Endless, Stranger}
use Rattle.searcher.specs.declared.expansions.Halt.{Halt}
use Rattle.searcher.specs.declared.expansions.HaltCause.{HaltCause}
use Rattle.searcher.specs.declared.expansions.HaltCause.TheVariants.{Tie, Overflow, OutOfMemory}
use Rattle.searcher.specs.Workings.{FitsWorking}
use Rattle.searcher.specs.Branches.{branch_of, branches_of, children_of}
use Rattle.searcher.specs.Ends.{IsTiedAtBegin, IsTiedAtEnd, NamesEnd}

-- the answers, but for want of memory
pub data Kind : Type 0 where
  stranger : Kind
  overflow : Kind
  tie : Kind
  target : Kind
  endless : Kind
  inner : Kind

-- a cell of the problem whose working fits and which begins where the branch says
abbrev pub IsSettled : Problem → Branch → Type 0
IsSettled p b = IsOf p b.cell × FitsWorking p b.cell × IsTrueBranch p (branch_of b)

abbrev pub IsTied : Problem → Cell → Type 0
IsTied p cell = IsTiedAtBegin p cell ⊎ IsTiedAtEnd p cell

-- where each answer comes; of each branch there is one
abbrev pub IsOfKind : Problem → Branch → Kind → Type 0
IsOfKind p b stranger = ¬ (IsOf p b.cell) ⊎ (FitsWorking p b.cell × ¬ (IsTrueBranch p (branch_of b)))
IsOfKind p b overflow = IsOf p b.cell × ¬ (FitsWorking p b.cell)
IsOfKind p b tie = IsSettled p b × IsTied p b.cell
IsOfKind p b target = IsSettled p b × ¬ (IsTied p b.cell) × AliveLate p b.cell × IsOf (file_points p) b.cell
IsOfKind p b endless = IsSettled p b × ¬ (IsTied p b.cell) × AliveLate p b.cell × ¬ (IsOf (file_points p) b.cell)
IsOfKind p b inner = IsSettled p b × ¬ (IsTied p b.cell) × ¬ (AliveLate p b.cell)

abbrev pub kind_of : Expansion → Kind
kind_of (Inner children) = inner
kind_of (Target found) = target
kind_of Endless = endless
kind_of (Stranger branch) = stranger

-- a cause of this kind; want of memory has none
abbrev pub IsCauseOf : Kind → HaltCause → Type 0
IsCauseOf kind (Tie proof) = kind ≡ tie
IsCauseOf kind (Overflow cell) = kind ≡ overflow
IsCauseOf kind OutOfMemory = ⊥

-- the answer is of this kind
abbrev pub IsAnswer : Kind → Result Expansion Halt → Type 0
IsAnswer kind (Ok expansion) = kind ≡ kind_of expansion
IsAnswer kind (Err halt) = IsCauseOf kind halt.cause

-- the cell's normal in lowest terms
abbrev pub HasLowestNormal : Problem → FoundCell → Type 0
HasLowestNormal p found = IsLowestNormal p found.cell found.normal.v found.normal.den

-- what the answers say
abbrev pub IsExpansion : Problem → Branch → Expansion → Type 0
IsExpansion p b (Stranger branch) = IsOfKind p b stranger × (branch ≡ b)
IsExpansion p b (Target found) = IsOfKind p b target × (found.cell ≡ b.cell) × IsMixedCell p b.cell × HasLowestNormal p found
IsExpansion p b Endless = IsOfKind p b endless
IsExpansion p b (Inner children) = IsOfKind p b inner × IsChildren p b.cell (branches_of (children_of children))

-- why there is none
abbrev pub IsCause : Problem → Branch → HaltCause → Type 0
IsCause p b (Tie proof) = IsOfKind p b tie × NamesEnd p b.cell proof
IsCause p b (Overflow cell) = IsOfKind p b overflow × (cell ≡ b.cell)
IsCause p b OutOfMemory = Unit {0}

-- the branch comes back as it was given
abbrev pub IsHalt : Problem → Branch → Halt → Type 0
IsHalt p b halt = (halt.branch ≡ b) × IsCause p b halt.cause

-- a tie is one where its cell begins or ends
abbrev pub ShowsTieAtEnd : Problem → HaltCause → Type 0
ShowsTieAtEnd p (Tie proof) = IsTieProofAtEnd p proof
ShowsTieAtEnd p (Overflow cell) = Unit {0}
ShowsTieAtEnd p OutOfMemory = Unit {0}

abbrev pub HasNoTie : HaltCause → Type 0
HasNoTie (Tie proof) = ⊥
HasNoTie (Overflow cell) = Unit {0}
HasNoTie OutOfMemory = Unit {0}

abbrev pub HadMemory : HaltCause → Type 0
HadMemory (Tie proof) = Unit {0}
HadMemory (Overflow cell) = Unit {0}
HadMemory OutOfMemory = ⊥

-- the answer isn't want of memory
abbrev pub HasAnswer : Result Expansion Halt → Type 0
HasAnswer (Ok expansion) = Unit {0}
HasAnswer (Err halt) = HadMemory halt.cause
