-- Powers of a cell: how much each point lies over the cell's pair of its support, in whole numbers over one least scale.
use Rattle.std.specs.Prelude.{◌≡◌, ◌≢◌, ◌⊎◌, ◌↔◌, ◌-◌, ◌≤◌, ℕ, List, [], ◌∷◌, length, map, flat_map, ℤ, pos, ◌*ℤ◌, ◌<ℤ◌, ◌≤ℤ◌, unsigned_abs}
use Prim.Native.Nat.{◌∣◌}
use Rattle.int_vectors.specs.Contents.{IsContent}
use Rattle.int_vectors.specs.Vectors.{Each, at, scale}
use Rattle.cayley.specs.Cells.{Cell}
use Rattle.cayley.specs.Problems.{Point, Problem, point_at}
use Rattle.cayley.specs.Resting.{rise}
use Rattle.listing_text.specs.declared.listing.ListedCell.{ListedCell}

-- a cell, its scale, and for each support a power for each of its points
pub record Row : Type 0 where
  pub cell : Cell
  pub scale : ℤ
  pub powers : List (List ℤ)

-- P holds of the elements of two lists side by side, of which there are equally many
abbrev pub SideBySide : {A B : Type 0} → List A → List B → (A → B → Type 0) → Type 0
SideBySide [] [] P = Unit {0}
SideBySide [] (y ∷ ys) P = ⊥
SideBySide (x ∷ xs) [] P = ⊥
SideBySide (x ∷ xs) (y ∷ ys) P = P x y × SideBySide xs ys P

-- the sums of all points of a support, against its point a
abbrev pub sums_over : ℤ → List ℤ → List Point → ℕ → List ℤ
sums_over den v s a = map (rise den v (point_at s a)) s

-- the sums of each support's points, against the first point of the support's pair
abbrev pub sums : ℤ → List ℤ → List (List Point) → Cell → List (List ℤ)
sums den v [] cell = []
sums den v (s ∷ supports) [] = []
sums den v (s ∷ supports) (pair ∷ cell) = sums_over den v s pair.0 ∷ sums den v supports cell

abbrev pub sums_of : Problem → ListedCell → List (List ℤ)
sums_of p x = sums x.normal.den x.normal.v p.supports x.cell

-- the numbers of all lists in one
abbrev pub all_of : List (List ℤ) → List ℤ
all_of rows = flat_map (λ ws. ws) rows

-- with g the greatest common divisor of the denominator and all sums, the scale is the denominator over g, and each power its sum over g
pub record ArePowers (p : Problem) (x : ListedCell) (row : Row) : Type 0 where
  pub same : row.cell ≡ x.cell
  pub divisor : ℕ
  pub greatest : IsContent (x.normal.den ∷ all_of (sums_of p x)) divisor
  pub whole : pos divisor *ℤ row.scale ≡ x.normal.den
  pub each : map (scale (pos divisor)) row.powers ≡ sums_of p x

-- k times each number is a multiple of den
abbrev pub MakesWhole : ℤ → List ℤ → ℤ → Type 0
MakesWhole den ws k = Each ws (λ w. unsigned_abs den ∣ unsigned_abs (k *ℤ w))

-- the least positive whole number that times each number over den is whole
pub record IsLeastScale (den : ℤ) (ws : List ℤ) (k : ℤ) : Type 0 where
  pub positive : pos 0 <ℤ k
  pub whole : MakesWhole den ws k
  pub least : (m : ℤ) → pos 0 <ℤ m → MakesWhole den ws m → k ≤ℤ m

-- the scale is the least that makes each sum over the denominator whole, and each power is the scale times that fraction
pub record HasLeastScale (p : Problem) (x : ListedCell) (row : Row) : Type 0 where
  pub least : IsLeastScale x.normal.den (all_of (sums_of p x)) row.scale
  pub powers : map (scale x.normal.den) row.powers ≡ map (scale row.scale) (sums_of p x)

-- of a support: the power of each position, from 1, is 0 exactly at the two of the pair, and positive at all others
abbrev pub IsZeroAtPair : ℕ × ℕ → List ℤ → Type 0
IsZeroAtPair pair ws = (c : ℕ) → 1 ≤ c → c ≤ length ws
    → ((at ws (c - 1) ≡ pos 0) ↔ ((c ≡ pair.0) ⊎ (c ≡ pair.1))) × (c ≢ pair.0 → c ≢ pair.1 → pos 0 <ℤ at ws (c - 1))

-- as many powers as points in each support, 0 exactly at the cell's pairs and positive elsewhere
abbrev pub IsZeroAtPairs : Problem → Row → Type 0
IsZeroAtPairs p row = (map length row.powers ≡ map length p.supports) × SideBySide row.cell row.powers IsZeroAtPair
