-- Ranks, corners and start heights of small problems, computed from their definitions.
use Rattle.std.specs.Prelude.{◌≡◌, refl, List, [], ◌∷◌, ℤ, pos, ℕ, None}
use Rattle.cayley.specs.Problems.{version2, Point, file_points, ranked_supports}
use Rattle.cayley.specs.Files.{FilePoint, File, plain_problem}
use Rattle.cayley.specs.Paths.{default_starts, start_pairs, corners, corner}

-- a point whose rank alone is looked at
abbrev ranked : ℕ → Point
ranked r = record { coordinates = []; base = pos 0; speed = pos 0; rank = r }

abbrev seven : List Point
seven = ranked 9 ∷ ranked 9 ∷ ranked 9 ∷ ranked 9 ∷ ranked 9 ∷ ranked 9 ∷ ranked 9 ∷ []

abbrev three : List Point
three = ranked 9 ∷ ranked 9 ∷ ranked 9 ∷ []

-- two supports of four file points and three corners
pub ranks_in_the_plane : ranked_supports version2 (4 ∷ 4 ∷ []) (seven ∷ seven ∷ [])
    ≡ (ranked 1 ∷ ranked 2 ∷ ranked 3 ∷ ranked 4 ∷ ranked 0 ∷ ranked 0 ∷ ranked 5 ∷ [])
    ∷ (ranked 6 ∷ ranked 7 ∷ ranked 8 ∷ ranked 9 ∷ ranked 0 ∷ ranked 10 ∷ ranked 0 ∷ []) ∷ []
ranks_in_the_plane = refl

-- one support of one file point and two corners
pub ranks_on_a_line : ranked_supports version2 (1 ∷ []) (three ∷ []) ≡ (ranked 1 ∷ ranked 0 ∷ ranked 0 ∷ []) ∷ []
ranks_on_a_line = refl

pub starts_in_the_plane : default_starts 2 1 2 ≡ (pos 331 ∷ []) ∷ (pos 365 ∷ []) ∷ []
starts_in_the_plane = refl

pub start_of_two_squares : start_pairs 1 (4 ∷ 4 ∷ []) ≡ (5, 6) ∷ (5, 7) ∷ []
start_of_two_squares = refl

abbrev diagonal : List FilePoint
diagonal = record { coordinates = pos 0 ∷ pos 0 ∷ []; height = pos 3 } ∷ record { coordinates = pos 1 ∷ pos 1 ∷ []; height = pos 9 } ∷ []

pub corners_of_a_diagonal : corners 2 diagonal (pos 100 ∷ [])
    ≡ corner (pos 0 ∷ pos 0 ∷ []) (pos 0) ∷ corner (pos 2 ∷ pos 0 ∷ []) (pos 100) ∷ corner (pos 0 ∷ pos 2 ∷ []) (pos 0) ∷ []
corners_of_a_diagonal = refl

abbrev level : ℤ → FilePoint
level x = record { coordinates = x ∷ []; height = pos 0 }

abbrev three_level_points : File
three_level_points = record { version = version2; dimension = 1; supports = (level (pos 0) ∷ level (pos 1) ∷ level (pos 2) ∷ []) ∷ []; starts = None }

-- a problem of file points alone is its own problem of file points
pub file_points_alone : file_points (plain_problem three_level_points) ≡ plain_problem three_level_points
file_points_alone = refl
