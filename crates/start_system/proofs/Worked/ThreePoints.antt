-- three points on a line: a valid file, whose path is started, and searched from the cell of its two corners
use Rattle.std.proofs.Common.{◌≡◌, zero, suc, List, [], ◌∷◌, None, map, arith, refl, ap}
use Rattle.std.proofs.lemmas.Int.{ints}
use Rattle.std.proofs.Math.IntN.{ℤ, pos, negsuc}
use Rattle.int_vectors.specs.Vectors.{at}
use Rattle.cayley.specs.Problems.Version.{version1}
use Rattle.cayley.specs.Files.{FilePoint, File}
use Rattle.cayley.specs.Paths.{path, start_cell}
use Rattle.cayley.specs.Valid.{IsValidFile, AreDistinct}
use Rattle.start_system.specs.Started.{IsStarted, IsSearched}
use Rattle.start_system.proofs.Path.Forms.{IsLift, HasForm, path_form}
use Rattle.start_system.proofs.Started.Heights.{valid_lift}
use Rattle.start_system.proofs.Started.SearchLaws.{path_law}

abbrev file_point : ℤ → ℤ → FilePoint
file_point x height = record { coordinates = x ∷ []; height = height }

abbrev points : List FilePoint
points = file_point (pos 0) (pos 0) ∷ file_point (pos 1) (negsuc 1) ∷ file_point (pos 3) (pos 0) ∷ []

abbrev three_points : File
three_points = record { version = version1; dimension = 1; supports = points ∷ []; starts = None }

apart : AreDistinct (map (λ (x : FilePoint). x.coordinates) points)
apart zero zero l m e = omega arith
apart zero (suc zero) l m e = let q = ap (λ xs. at xs 0) e in omega (arith, ints, q)
apart zero (suc (suc zero)) l m e = let q = ap (λ xs. at xs 0) e in omega (arith, ints, q)
apart zero (suc (suc (suc k))) l m e = omega arith
apart (suc zero) zero l m e = omega arith
apart (suc zero) (suc zero) l m e = omega arith
apart (suc zero) (suc (suc zero)) l m e = let q = ap (λ xs. at xs 0) e in omega (arith, ints, q)
apart (suc zero) (suc (suc (suc k))) l m e = omega arith
apart (suc (suc j)) k l m e = omega arith

valid : IsValidFile three_points
valid = record {
  shape = record {
    dimension = (omega arith, omega arith);
    supports = refl;
    counts = ((omega arith, omega arith), tt);
    points = ((refl, (refl, (refl, tt))), tt);
    starts = tt;
  };
  limits = ((((omega arith, tt), omega arith), (((omega arith, tt), omega arith), (((omega arith, tt), omega arith), tt))), tt);
  distinct = (apart, tt);
  starts = tt;
}

lift : IsLift three_points
lift = valid_lift three_points valid

form : HasForm (path three_points)
form = path_form three_points lift

started : IsStarted (path three_points)
started = (path_law three_points valid).0

searched : IsSearched (path three_points)
searched = (path_law three_points valid).3

start_is : start_cell (path three_points) ≡ (4, 5) ∷ []
start_is = refl
