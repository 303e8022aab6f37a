-- What the answers say of a log: its nodes in order, and its listed cells against those that the nodes let expect.
use Rattle.std.specs.Prelude.{◌≡◌, ◌⊎◌, ℕ, Option, MatchOption, None, Some, List, [], ◌∷◌, ◌++◌, map, Contains, Ok, Err}
use Rattle.int_vectors.specs.Vectors.{Each}
use Rattle.cayley.specs.declared.found.FoundCell.{FoundCell}
use Rattle.cayley.specs.Problems.{version2, Problem, file_points}
use Rattle.cayley.specs.Paths.{path, start_cell}
use Rattle.cayley.specs.Cells.{Cell, IsOf, IsListOf}
use Rattle.cayley.specs.Lives.{AliveLate}
use Rattle.cayley.specs.Shares.{IsShare}
use Rattle.cayley.specs.Stored.{cells_of}
use Rattle.cayley.specs.Ties.{IsTieFree}
use Rattle.start_system.specs.Started.{start_branch}
use Rattle.searcher.specs.Ends.{IsTiedAtEnd}
use Rattle.searcher.specs.Expansions.{HasLowestNormal}
use Rattle.listing_text.specs.declared.listing.ListedCell.{ListedCell}
use Rattle.listing_text.specs.Forms.{found_of}
use Rattle.listing_text.specs.Listings.{AreMixedCells}
use Rattle.cell_certificate.specs.Answers.{Answer}
use Rattle.cell_certificate.specs.declared.verdict.Verdict.TheVariants.{Yes, No}
use Rattle.cell_certificate.specs.declared.verdict.CheckFault.TheVariants as faults
use Rattle.cell_certificate.specs.declared.verdict.CheckFault.TheVariants.{Overflow}
use Rattle.path_trace.specs.declared.trace.TraceNode.{TraceNode}
use Rattle.path_trace.specs.Preorders.{IsPreorder, cells_in}
use Rattle.path_log.specs.declared.log.LogNode.{LogNode}
use Rattle.path_log.specs.declared.log.PathLog.{PathLog}
use Rattle.path_log.specs.Forms.{node_of}
use Rattle.log_check.specs.declared.refusal.Refusal.{Refusal}
use Rattle.log_check.specs.declared.refusal.Refusal.TheVariants.{NotDue, Unfit, NotInverse, Tied, StillDue, NotExpected, Missing}
use Rattle.log_check.specs.declared.refusal.Halt.{Halt}
use Rattle.log_check.specs.declared.refusal.Halt.TheVariants.{Refused, OutOfMemory}
use Rattle.log_check.specs.Nodes.{HasShape, HasInverse, IsFit, IsUnfit, IsOther, IsStopped}
use Rattle.log_check.specs.Walks.{Leads}

-- ---- what a log holds
abbrev pub path_in : PathLog → Problem
path_in log = path log.file

abbrev pub nodes_of : List LogNode → List TraceNode
nodes_of nodes = map node_of nodes

abbrev pub nodes_in : PathLog → List TraceNode
nodes_in log = nodes_of log.nodes.items

abbrev pub listed_of : List ListedCell → List FoundCell
listed_of cells = map found_of cells

abbrev pub listed_in : PathLog → List FoundCell
listed_in log = listed_of log.part.cells.items

-- each node has n times n numbers over a number of at least 1
abbrev pub HasShapes : PathLog → Type 0
HasShapes log = Each (nodes_in log) (HasShape (path_in log))

-- ---- its nodes
-- from the start cell alone: the nodes pass in order, and these cells are due then
abbrev pub LeadsTo : PathLog → List LogNode → List Cell → Type 0
LeadsTo log nodes due = Leads (path_in log) (start_cell (path_in log) ∷ []) (nodes_of nodes) due

-- it is the first of them
abbrev pub IsNext : {A : Type 0} → A → List A → Type 0
IsNext x [] = ⊥
IsNext x (y ∷ ys) = x ≡ y

-- what speaks against a node where these cells are due: its cell isn't the next of them, or else its numbers
abbrev pub Against : Problem → TraceNode → List Cell → Refusal → Type 0
Against p node due NotDue = ¬ (IsNext node.cell due)
Against p node due Unfit = IsNext node.cell due × IsUnfit p node
Against p node due NotInverse = IsNext node.cell due × IsOther p node
Against p node due Tied = IsNext node.cell due × IsStopped p node
Against p node due StillDue = ⊥
Against p node due NotExpected = ⊥
Against p node due Missing = ⊥

-- the nodes before one of this line pass, and this speaks against it
pub record AtNode (log : PathLog) (line : ℕ) (refusal : Refusal) : Type 0 where
  pub before : List LogNode
  pub this : LogNode
  pub after : List LogNode
  pub due : List Cell
  pub whole : log.nodes.items ≡ before ++ this ∷ after
  pub passed : LeadsTo log before due
  pub same : this.line ≡ line
  pub against : Against (path_in log) this.node due refusal

-- ---- its listed cells
-- the cell of a node that never ends and has file points alone
abbrev pub IsExpected : Problem → List TraceNode → Cell → Type 0
IsExpected p nodes cell = Contains (cells_in nodes) cell × AliveLate p cell × IsOf (file_points p) cell

-- exactly these cells, each once, in cell order, each with its normal in lowest terms
pub record AreExpected (p : Problem) (nodes : List TraceNode) (found : List FoundCell) : Type 0 where
  pub cells : IsListOf (IsExpected p nodes) (cells_of found)
  pub normals : Each found (HasLowestNormal p)

-- all nodes pass, nothing is due then, and these cells are expected
pub record Expects (log : PathLog) (found : List FoundCell) : Type 0 where
  pub passed : LeadsTo log log.nodes.items []
  pub expected : AreExpected (path_in log) (nodes_in log) found

-- the cells before a line are the first that are expected, and that of this line isn't the next
pub record AtCell (log : PathLog) (line : ℕ) : Type 0 where
  pub before : List ListedCell
  pub this : ListedCell
  pub after : List ListedCell
  pub left : List FoundCell
  pub whole : log.part.cells.items ≡ before ++ this ∷ after
  pub expects : Expects log (listed_of before ++ left)
  pub same : this.line ≡ line
  pub other : ¬ (IsNext (found_of this) left)

-- ---- the answers
-- the nodes pass with nothing due at the end, and the listed cells are the expected ones as they are listed
abbrev pub IsRightLog : PathLog → Type 0
IsRightLog log = Expects log (listed_in log)

-- this line is the first that doesn't pass, for this cause
abbrev pub IsRefused : PathLog → ℕ → Refusal → Type 0
IsRefused log line NotDue = AtNode log line NotDue
IsRefused log line Unfit = AtNode log line Unfit
IsRefused log line NotInverse = AtNode log line NotInverse
IsRefused log line Tied = AtNode log line Tied
IsRefused log line StillDue = (line ≡ log.part.cells_line) × ((cell : Cell) × (due : List Cell) × LeadsTo log log.nodes.items (cell ∷ due))
IsRefused log line NotExpected = AtCell log line
IsRefused log line Missing = (line ≡ log.part.end_line) × ((next : FoundCell) × (left : List FoundCell) × Expects log (listed_in log ++ next ∷ left))

-- the first line that doesn't pass, or want of memory
abbrev pub IsHalt : PathLog → Halt → Type 0
IsHalt log (Refused line refusal) = IsRefused log line refusal
IsHalt log OutOfMemory = Unit {0}

-- the number of its reason
abbrev pub reason_of : Refusal → Option ℕ
reason_of NotDue = Some 11
reason_of Unfit = None
reason_of NotInverse = Some 12
reason_of Tied = Some 13
reason_of StillDue = Some 14
reason_of NotExpected = Some 15
reason_of Missing = Some 15

-- the first line that doesn't pass has this number, and fails by this reason
abbrev pub IsWrongLog : PathLog → ℕ → ℕ → Type 0
IsWrongLog log line reason = (refusal : Refusal) × (reason_of refusal ≡ Some reason) × IsRefused log line refusal

-- the first line that doesn't pass has this number, and a number that doesn't fit
abbrev pub IsTooLargeLog : PathLog → ℕ → Type 0
IsTooLargeLog log line = IsRefused log line Unfit

-- the answer to a halt
abbrev pub IsAnswerOf : Halt → Answer → Type 0
IsAnswerOf (Refused line refusal) answer = MatchOption (reason_of refusal) (answer ≡ Err (Overflow line)) (λ reason. answer ≡ Ok (No line reason))
IsAnswerOf OutOfMemory answer = answer ≡ Err faults.OutOfMemory

-- what each answer says of the log
abbrev pub IsVerdict : PathLog → Answer → Type 0
IsVerdict log (Ok Yes) = IsRightLog log
IsVerdict log (Ok (No line reason)) = IsWrongLog log line reason
IsVerdict log (Err (Overflow line)) = IsTooLargeLog log line
IsVerdict log (Err faults.OutOfMemory) = Unit {0}

-- ---- what a right log says
-- the nodes are the path tree in preorder, and the listed cells the share of the start branch, in cell order, with their normals in lowest terms
pub record HasPathTree (log : PathLog) : Type 0 where
  pub preorder : IsPreorder (path_in log) (start_cell (path_in log)) (cells_in (nodes_in log))
  pub share : IsShare (path_in log) (start_branch (path_in log)) (cells_of (listed_in log))
  pub normals : Each (listed_in log) (HasLowestNormal (path_in log))

-- where heights are perturbed or the path has no tie, the listed cells are exactly the mixed cells of the file with their normals in lowest terms
abbrev pub ListsMixedCells : PathLog → Type 0
ListsMixedCells log = (log.file.version ≡ version2) ⊎ IsTieFree (path_in log) → AreMixedCells log.file (listed_in log)

-- ---- logs that were written
-- the path tree with the inverse of each cell's differences, no cell tied where it ends
pub record IsTracedLog (log : PathLog) : Type 0 where
  pub tree : HasPathTree log
  pub inverses : Each (nodes_in log) (HasInverse (path_in log))
  pub untied : Each (nodes_in log) (λ node. ¬ (IsTiedAtEnd (path_in log) node.cell))

-- each number that its nodes ask for fits
abbrev pub FitsLog : PathLog → Type 0
FitsLog log = Each (nodes_in log) (IsFit (path_in log))

abbrev pub NeverNo : Answer → Type 0
NeverNo (Ok Yes) = Unit {0}
NeverNo (Ok (No line reason)) = ⊥
NeverNo (Err fault) = Unit {0}
