-- What `trace` writes of a file, and what `verify` says of a log.
use Rattle.std.specs.Prelude.{◌≡◌, ◌↔◌, ℕ, List, Ok}
use Rattle.cayley.specs.Files.{File}
use Rattle.cayley.specs.Paths.{path}
use Rattle.support_text.specs.ProblemText.{problem_of}
use Rattle.path_trace.specs.declared.trace.Trace.{Trace}
use Rattle.path_log.specs.declared.log.PathLog.{PathLog}
use Rattle.path_log.specs.LogText.{log_of, log_in}
use Rattle.path_log.specs.Writing.{log_text}
use Rattle.path_tracer.specs.Traced.{IsTraced}
use Rattle.log_check.specs.Verdicts.{IsRightLog, IsWrongLog, IsTooLargeLog}
use Rattle.mixedcells.specs.declared.outcome.Outcome.{Outcome}
use Rattle.mixedcells.specs.declared.outcome.Outcome.TheVariants as variant
use Rattle.mixedcells.specs.Judging.{IsJudgedAs}

-- the bytes are the log of the file: its path tree in preorder, each cell with its inverse, and the mixed cells to which the path leads
abbrev pub IsTracedText : File → List ℕ → Type 0
IsTracedText file text = (trace : Trace) × IsTraced (path file) trace × (text ≡ log_text file trace.nodes.items trace.found.items)

-- the bytes are the log of a file that was read, as `trace` writes it
abbrev pub IsWrittenLog : File → List ℕ → Type 0
IsWrittenLog file bytes = (input : List ℕ) × (problem_of input ≡ Ok file) × IsTracedText file bytes

-- the bytes mean this log
abbrev pub IsLogText : List ℕ → PathLog → Type 0
IsLogText bytes log = log_of bytes ≡ Ok (log_in log)

-- what is said of a log: all passes, or the first line that doesn't, with the reason or for a number that doesn't fit
abbrev pub IsJudgedLog : PathLog → Outcome → List ℕ → Type 0
IsJudgedLog log = IsJudgedAs (IsRightLog log) (IsWrongLog log) (IsTooLargeLog log)

-- each answer comes exactly where the log asks for it
pub record TellsLog (log : PathLog) (outcome : Outcome) : Type 0 where
  pub yes : (outcome ≡ variant.Ok) ↔ IsRightLog log
  pub no : (line reason : ℕ) → (outcome ≡ variant.No line reason) ↔ IsWrongLog log line reason
  pub overflow : (line : ℕ) → (outcome ≡ variant.OverflowLine line) ↔ IsTooLargeLog log line
