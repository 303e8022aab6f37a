-- The list of a cell's wall lines without infinitesimals, for the inner functions; no public clause cites it.
use Rattle.std.specs.Prelude.{ℕ, suc, ◌==◌, if◌then◌else◌, List, [], ◌∷◌, ◌++◌}
use Rattle.cayley.specs.Problems.{Point, point_at}
use Rattle.cayley.specs.Cells.{Cell}
use Rattle.crossing.specs.declared.line.WallLine.{WallLine}
use Rattle.inner_normal.specs.declared.moving.MovingNormal.{MovingNormal}
use Rattle.cone_walls.specs.Numbers.{alpha, beta}

-- the line of point c, at a position of support i, against point a
abbrev pub line_of : MovingNormal → ℕ → Point → ℕ → Point → WallLine
line_of m i a position c = record { support = i; position = position; alpha = alpha m a c; beta = beta m a c; fine = [] }

-- that of the point at a position of support i, but for the pair's own points
abbrev pub one_line : MovingNormal → ℕ → List Point → ℕ → ℕ → ℕ → List WallLine
one_line m i s a b c =
    if c == a then []
    else if c == b then []
    else line_of m i (point_at s a) c (point_at s c) ∷ []

-- the lines of the points from position k on against point x, but for those at a and b
abbrev pub lines_from : MovingNormal → ℕ → Point → ℕ → ℕ → ℕ → List Point → List WallLine
lines_from m i x a b k [] = []
lines_from m i x a b k (y ∷ ys) =
    if k == a then lines_from m i x a b (suc k) ys
    else if k == b then lines_from m i x a b (suc k) ys
    else line_of m i x k y ∷ lines_from m i x a b (suc k) ys

-- the lines of a support's further points
abbrev pub support_lines : MovingNormal → ℕ → List Point → ℕ → ℕ → List WallLine
support_lines m i s a b = lines_from m i (point_at s a) a b 1 s

-- the lines of all further points, for supports that count from i
abbrev pub wall_lines : MovingNormal → ℕ → List (List Point) → Cell → List WallLine
wall_lines m i [] cell = []
wall_lines m i (s ∷ supports) [] = []
wall_lines m i (s ∷ supports) (x ∷ cell) = support_lines m i s x.0 x.1 ++ wall_lines m (suc i) supports cell

-- a line without its infinitesimals
abbrev pub coarse : WallLine → WallLine
coarse line = record line { fine = [] }
