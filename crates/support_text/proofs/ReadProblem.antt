-- The parts of a file that were read one after the other.
use Rattle.std.proofs.Common.{◌≡◌, ℕ, List, ℤ, Option, Ok, refl}
use Rattle.cayley.specs.Problems.{Version}
use Rattle.cayley.specs.Files.{File, FilePoint}
use Rattle.line_text.specs.Lines.{Row}
use Rattle.support_text.specs.Words.{next_line}
use Rattle.support_text.specs.ProblemText.{header_line, dim_line, supports, ending, problem_at}

abbrev pub made : Version → ℕ → List (List FilePoint) → Option (List (List ℤ)) → File
made v n points starts = record { version = v; dimension = n; supports = points; starts = starts }

pub problem_read : (end : ℕ) (rows rows1 rows2 rows3 rest : List Row) (v : Version) (n : ℕ) (points : List (List FilePoint)) (starts : Option (List (List ℤ)))
    → next_line header_line end rows ≡ Ok (v, rows1) → next_line dim_line end rows1 ≡ Ok (n, rows2) → supports n end rows2 ≡ Ok (points, rows3) → ending n end rows3 ≡ Ok (starts, rest)
    → problem_at end rows ≡ Ok (made v n points starts, rest)
unfolding problem_at
problem_read end rows rows1 rows2 rows3 rest v n points starts a b c d = rw (a, b, c, d) refl
