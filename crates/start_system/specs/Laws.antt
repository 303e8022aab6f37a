-- What holds of every path and of every started problem.
use Rattle.std.specs.Prelude.{◌≡◌}
use Rattle.cayley.specs.Problems.{Problem, IsStill, file_points}
use Rattle.cayley.specs.Files.{File, plain_problem}
use Rattle.cayley.specs.Paths.{path}
use Rattle.cayley.specs.Valid.{IsValidFile, IsValidProblem}
use Rattle.start_system.specs.Started.{IsStarted, IsSearched}

-- a started problem's search begins with one cell and misses nothing
abbrev pub StartedLaw : Type 0
StartedLaw = (p : Problem) → IsValidProblem p → IsStarted p → IsSearched p

-- the path of a file is started and at rest, its file points are those of the file, and its search misses nothing
abbrev pub PathLaw : Type 0
PathLaw = (file : File) → IsValidFile file
    → IsStarted (path file) × IsStill (path file) × (file_points (path file) ≡ plain_problem file) × IsSearched (path file)
