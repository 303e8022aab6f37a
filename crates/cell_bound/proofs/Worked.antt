-- The file of two squares is a small one.
use Rattle.std.proofs.Common.{ℕ, zero, suc, ◌≤◌, [], ◌∷◌, Some, arith, ℤ, pos, ◌-ℤ◌, unsigned_abs}
use Rattle.std.proofs.lemmas.Int.{ints}
use Rattle.int_vectors.specs.Vectors.{at}
use Rattle.cayley.specs.Files.{FilePoint, File}
use Rattle.cayley.specs.Problems.Version.{version1}
use Rattle.cell_bound.specs.Quiet.{IsNarrow, IsQuiet}

abbrev at_height : ℕ → ℕ → ℤ → FilePoint
at_height x y height = record { coordinates = pos x ∷ pos y ∷ []; height = height }

abbrev two_squares : File
two_squares = record {
  version = version1;
  dimension = 2;
  supports = (at_height 0 0 (pos 3) ∷ at_height 1 0 (pos 10) ∷ at_height 0 1 (pos 20) ∷ at_height 1 1 (pos 90) ∷ [])
      ∷ (at_height 0 0 (pos 5) ∷ at_height 1 0 (pos 40) ∷ at_height 0 1 (pos 9) ∷ at_height 1 1 (pos 1) ∷ []) ∷ [];
  starts = Some ((pos 100 ∷ []) ∷ (pos 100 ∷ []) ∷ []);
}

corners_near : (a b c d : ℕ) → a ≤ 1 → b ≤ 1 → c ≤ 1 → d ≤ 1 → (k : ℕ) → unsigned_abs (at (pos a ∷ pos b ∷ []) k -ℤ at (pos c ∷ pos d ∷ []) k) ≤ 6
corners_near a b c d p q r s zero = omega (arith, ints, p, r)
corners_near a b c d p q r s (suc zero) = omega (arith, ints, q, s)
corners_near a b c d p q r s (suc (suc k)) = omega (arith, ints)

abbrev IsNear : ℕ → ℕ → ℕ → ℕ → Type 0
IsNear a b c d = (k : ℕ) → unsigned_abs (at (pos a ∷ pos b ∷ []) k -ℤ at (pos c ∷ pos d ∷ []) k) ≤ 6

all_near : (a b : ℕ) → a ≤ 1 → b ≤ 1 → IsNear a b 0 0 × (IsNear a b 1 0 × (IsNear a b 0 1 × (IsNear a b 1 1 × Unit {0})))
all_near a b p q = (
  corners_near a b 0 0 p q (omega arith) (omega arith),
  (corners_near a b 1 0 p q (omega arith) (omega arith), (corners_near a b 0 1 p q (omega arith) (omega arith), (corners_near a b 1 1 p q (omega arith) (omega arith), tt))),
)

square_narrow : (g h i j : ℤ) → IsNarrow (at_height 0 0 g ∷ at_height 1 0 h ∷ at_height 0 1 i ∷ at_height 1 1 j ∷ [])
square_narrow g h i j = (all_near 0 0 (omega arith) (omega arith), (all_near 1 0 (omega arith) (omega arith), (all_near 0 1 (omega arith) (omega arith), (all_near 1 1 (omega arith) (omega arith), tt))))

pub quiet_squares : IsQuiet two_squares
quiet_squares = record {
  dimension = omega arith;
  narrow = (square_narrow (pos 3) (pos 10) (pos 20) (pos 90), (square_narrow (pos 5) (pos 40) (pos 9) (pos 1), tt));
  heights = ((omega arith, (omega arith, (omega arith, (omega arith, tt)))), ((omega arith, (omega arith, (omega arith, (omega arith, tt)))), tt));
  starts = ((omega arith, tt), ((omega arith, tt), tt));
}
