-- What the lister says of the problem of a file's points is said of the file.
use Rattle.std.proofs.Common.{◌≡◌, ℕ, List, subst}
use Rattle.int_vectors.specs.Vectors.{Each}
use Rattle.cayley.specs.Problems.{Problem}
use Rattle.cayley.specs.Cells.{Cell, IsListOf}
use Rattle.cayley.specs.Mixed.{IsMixedCell}
use Rattle.cayley.specs.Files.{File, plain_problem}
use Rattle.cayley.specs.declared.found.FoundCell.{FoundCell}
use Rattle.cayley.specs.Stored.{cells_of}
use Rattle.listing_text.specs.Writing.{listing_text}
use Rattle.plain_lister.specs.Choices.{HasTooMany}
use Rattle.plain_lister.specs.declared.faults.PlainFault.{PlainFault}
use Rattle.plain_lister.specs.declared.faults.PlainFault.TheVariants.{Overflow}
use Rattle.plain_lister.specs.Lists.{HasLowestNormal, AllFit, IsFirstUnfit, IsPlainFault}
use Rattle.mixedcells.specs.declared.outcome.Outcome.TheVariants as variant
use Rattle.mixedcells.specs.Outcomes.{overflow_cell}
use Rattle.mixedcells.specs.Answers.{IsListReply}

pub listing_reply : (file : File) (p : Problem) (found : List FoundCell) (text : List ℕ) → p ≡ plain_problem file → IsListOf (IsMixedCell p) (cells_of found)
    → Each found (HasLowestNormal p) → ¬ (HasTooMany p) × AllFit p → text ≡ listing_text file found → IsListReply file variant.Ok text
listing_reply file p found text e l n c t = (
  subst (λ q. ¬ (HasTooMany q)) e c.0,
  subst AllFit e c.1,
  (
    found,
    record {
      cells = subst (λ q. IsListOf (IsMixedCell q) (cells_of found)) e l;
      normals = subst (λ q. Each found (HasLowestNormal q)) e n;
    },
    t,
  ),
)

pub overflow_reply : (file : File) (p : Problem) (cell : Cell) (fault : PlainFault) (text : List ℕ) → p ≡ plain_problem file → fault ≡ Overflow cell → IsPlainFault p fault → text ≡ overflow_cell cell
    → IsListReply file (variant.OverflowCell cell) text
overflow_reply file p cell fault text e f h t =
    let k = subst (IsPlainFault p) f h in
    (t, subst (λ q. ¬ (HasTooMany q)) e k.0, subst (λ q. IsFirstUnfit q cell) e k.1)
