-- Faults of files and of problems, and the places that they name. Supports and positions count from 1.
use Rattle.std.specs.Prelude.{◌≡◌, ◌⊎◌, ℕ, ◌<◌, ◌≤◌, ◌-◌, List, [], MatchOption, length, map, take, ℤ, pos, slice_index_or}
use Rattle.int_vectors.specs.Vectors.{Each}
use Rattle.cayley.specs.declared.faults.ShapeFault.{ShapeFault}
use Rattle.cayley.specs.declared.faults.ShapeFault.TheVariants.{BadShape, Repeated, Range, StartRange, OutOfMemory}
use Rattle.cayley.specs.Files.{FilePoint, File}
use Rattle.cayley.specs.Problems.{Point, Problem, IsStill, origin, point_at}
use Rattle.cayley.specs.Valid.{IsHeight, IsStart, IsWithinFile, IsWithinProblem, IsWithinCorners, HasFileShape, HasProblemShape, support_at, file_count_at}

abbrev pub IsPosition : {A : Type 0} → List A → ℕ → Type 0
IsPosition xs p = (1 ≤ p) × (p ≤ length xs)

-- the list at a position equals one at an earlier position
abbrev pub IsRepeat : List (List ℤ) → ℕ → Type 0
IsRepeat lists p = IsPosition lists p
    × ((q : ℕ) × (1 ≤ q) × (q < p) × (slice_index_or lists (q - 1) [] ≡ slice_index_or lists (p - 1) []))

-- of the places with F the first one: none of an earlier support, and none before it in its own
pub record IsFirst (F : ℕ → ℕ → Type 0) (i p : ℕ) : Type 0 where
  pub support : 1 ≤ i
  pub has : F i p
  pub before : (j q : ℕ) → 1 ≤ j → j < i → ¬ (F j q)
  pub earlier : (q : ℕ) → q < p → ¬ (F i q)

-- the fault of the first faulty place: Range where a number is out of its limits, else Repeated
abbrev pub IsPlaceFault : (ℕ → ℕ → Type 0) → (ℕ → ℕ → Type 0) → ShapeFault → Type 0
IsPlaceFault F Out BadShape = ⊥
IsPlaceFault F Out (Repeated i p) = IsFirst F i p × ¬ (Out i p)
IsPlaceFault F Out (Range i p) = IsFirst F i p × Out i p
IsPlaceFault F Out (StartRange i) = ⊥
IsPlaceFault F Out OutOfMemory = Unit {0}

-- the same for one support, of which F and Out say which positions have a fault
abbrev pub IsSupportFault : ℕ → (ℕ → Type 0) → (ℕ → Type 0) → ShapeFault → Type 0
IsSupportFault i F Out BadShape = ⊥
IsSupportFault i F Out (Repeated j p) = (j ≡ i) × F p × ((q : ℕ) → q < p → ¬ (F q)) × ¬ (Out p)
IsSupportFault i F Out (Range j p) = (j ≡ i) × F p × ((q : ℕ) → q < p → ¬ (F q)) × Out p
IsSupportFault i F Out (StartRange j) = ⊥
IsSupportFault i F Out OutOfMemory = Unit {0}

-- the points of a support of a file
abbrev pub file_support : List (List FilePoint) → ℕ → List FilePoint
file_support supports i = slice_index_or supports (i - 1) []

abbrev pub file_point_at : List FilePoint → ℕ → FilePoint
file_point_at s p = slice_index_or s (p - 1) (record { coordinates = []; height = pos 0 })

-- a number of the file point at a position is out of its limits
abbrev pub IsOutside : List FilePoint → ℕ → Type 0
IsOutside s p = IsPosition s p × ¬ (IsWithinFile (file_point_at s p))

-- a number is out of its limits, or the coordinates are those of an earlier point
abbrev pub IsFaulty : List FilePoint → ℕ → Type 0
IsFaulty s p = IsOutside s p ⊎ IsRepeat (map (λ (x : FilePoint). x.coordinates) s) p

-- a start height of a support is out of its limits
abbrev pub IsOutsideStart : List (List ℤ) → ℕ → Type 0
IsOutsideStart starts i = IsPosition starts i × ¬ (Each (slice_index_or starts (i - 1) []) IsStart)

-- the first support with a start height out of its limits
abbrev pub IsFirstStart : List (List ℤ) → ℕ → Type 0
IsFirstStart starts i = IsOutsideStart starts i × ((j : ℕ) → IsOutsideStart starts j → i ≤ j)

-- why a file isn't a lift file
abbrev pub IsFileFault : File → ShapeFault → Type 0
IsFileFault file BadShape = ¬ (HasFileShape file)
IsFileFault file (Repeated i p) = HasFileShape file
    × IsPlaceFault (λ i p. IsFaulty (file_support file.supports i) p) (λ i p. IsOutside (file_support file.supports i) p) (Repeated i p)
IsFileFault file (Range i p) = HasFileShape file
    × IsPlaceFault (λ i p. IsFaulty (file_support file.supports i) p) (λ i p. IsOutside (file_support file.supports i) p) (Range i p)
IsFileFault file (StartRange i) = HasFileShape file
    × ((j q : ℕ) → 1 ≤ j → ¬ (IsFaulty (file_support file.supports j) q))
    × MatchOption file.starts ⊥ (λ starts. IsFirstStart starts i)
IsFileFault file OutOfMemory = Unit {0}

-- a number of the point at a position is out of its limits, of which file points and corners have different ones
abbrev pub IsOutsideOf : ℕ → List Point → ℕ → Type 0
IsOutsideOf f s p = ((1 ≤ p) × (p ≤ f) × ¬ (IsWithinProblem (point_at s p))) ⊎ ((f < p) × (p ≤ length s) × ¬ (IsWithinCorners (point_at s p)))

-- a number is out of its limits, or a file point has the coordinates of an earlier one
abbrev pub IsFaultyOf : ℕ → List Point → ℕ → Type 0
IsFaultyOf f s p = IsOutsideOf f s p ⊎ IsRepeat (map (λ (x : Point). x.coordinates) (take f s)) p

-- the first of the corners with a number out of its limits, counted from 0
abbrev pub IsFirstCorner : List Point → ℕ → Type 0
IsFirstCorner corners k = (k < length corners) × ¬ (IsWithinCorners (slice_index_or corners k origin))
    × ((j : ℕ) → j < k → IsWithinCorners (slice_index_or corners j origin))

-- why supports aren't a problem whose file points rest
abbrev pub IsProblemFault : Problem → ShapeFault → Type 0
IsProblemFault p BadShape = ¬ (HasProblemShape p × IsStill p)
IsProblemFault p (Repeated i q) = HasProblemShape p × IsStill p
    × IsPlaceFault (λ i q. IsFaultyOf (file_count_at p i) (support_at p i) q) (λ i q. IsOutsideOf (file_count_at p i) (support_at p i) q) (Repeated i q)
IsProblemFault p (Range i q) = HasProblemShape p × IsStill p
    × IsPlaceFault (λ i q. IsFaultyOf (file_count_at p i) (support_at p i) q) (λ i q. IsOutsideOf (file_count_at p i) (support_at p i) q) (Range i q)
IsProblemFault p (StartRange i) = ⊥
IsProblemFault p OutOfMemory = Unit {0}

-- a second height for each point of the file
abbrev pub HasSecondHeights : File → List (List ℤ) → Type 0
HasSecondHeights file second = map length second ≡ map length file.supports

-- a second height is out of its limits
abbrev pub IsOutsideHeight : List (List ℤ) → ℕ → ℕ → Type 0
IsOutsideHeight second i q =
    let heights = slice_index_or second (i - 1) [] in
    IsPosition heights q × ¬ (IsHeight (slice_index_or heights (q - 1) (pos 0)))

-- a second height for each point of the file, all of them within their limits
abbrev pub AreSecondHeights : File → List (List ℤ) → Type 0
AreSecondHeights file second = HasSecondHeights file second × Each second (λ heights. Each heights IsHeight)

-- why second heights don't make a problem with the file's points
abbrev pub IsBetweenFault : File → List (List ℤ) → ShapeFault → Type 0
IsBetweenFault file second BadShape = ¬ (HasSecondHeights file second)
IsBetweenFault file second (Repeated i q) = ⊥
IsBetweenFault file second (Range i q) = HasSecondHeights file second × IsFirst (IsOutsideHeight second) i q
IsBetweenFault file second (StartRange i) = ⊥
IsBetweenFault file second OutOfMemory = Unit {0}
