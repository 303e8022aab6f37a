-- What the products of differences and columns tell, for the inner functions.
use Rattle.std.specs.Prelude.{◌≡◌, ◌↔◌, ℕ, ◌<◌, Bool, IsTrue, Option, MatchOption, List, [], ℤ, pos, slice_index_or}
use Rattle.int_vectors.specs.Fits.{FitsDot}
use Rattle.int_vectors.specs.Vectors.{dot}
use Rattle.path_trace.specs.Inverses.{in_identity}

-- the first m products of a vector and the columns are those of row i of g times the identity
abbrev pub AreRow : ℤ → ℕ → List ℤ → List (List ℤ) → ℕ → Type 0
AreRow g i v columns m = (k : ℕ) → k < m → dot v (slice_index_or columns k []) ≡ in_identity g i k

-- the first m of them fit
abbrev pub FitsRow : List ℤ → List (List ℤ) → ℕ → Type 0
FitsRow v columns m = (k : ℕ) → k < m → FitsDot (pos 0) v (slice_index_or columns k [])

-- none where some number doesn't fit, else whether all are equal
abbrev pub TellsRow : Option Bool → Type 0 → Type 0 → Type 0
TellsRow answer Fits Same = MatchOption answer (¬ Fits) (λ same. Fits × (IsTrue same ↔ Same))
