-- What an exchange answers.
use Rattle.std.specs.Prelude.{◌≡◌, ◌≤◌, ℕ, List, length, map, ℤ, pos, slice_set, unsigned_abs}
use Rattle.int_vectors.specs.Bounds.{Within}
use Rattle.int_vectors.specs.Vectors.{Each, IsZero, IsOrthogonal, dot, row_at}
use Rattle.inner_normal.specs.Inverses.{Inverse}
use Rattle.carried_inverse.specs.declared.carried.Exchange.{Exchange}
use Rattle.carried_inverse.specs.declared.carried.Exchange.TheVariants.{Made, Dependent, TooLarge}
use Rattle.carried_inverse.specs.declared.carried.Step.{Step}
use Rattle.carried_inverse.specs.declared.carried.Step.TheVariants as step
use Rattle.carried_inverse.specs.Exchanges.{IsExchanged}
use Rattle.cayley.specs.Cells.{Cell, IsOf, IsIndependent}
use Rattle.cayley.specs.declared.found.Sign.{Sign}
use Rattle.cayley.specs.Dependencies.{Numbers, number_at, IsPositiveDependency}
use Rattle.cayley.specs.Flips.{put_pair}
use Rattle.cayley.specs.Problems.{Problem}
use Rattle.cayley.specs.Signs.{HaveSigns}
use Rattle.carried_inverse.specs.Systems.{IsScaledInverse, IsInverseOfCell}

-- Made: of whatever rows it was the inverse, it is that of the rows with this one at place i. Dependent: those rows are orthogonal to a
-- vector other than zero. Nothing changes but where it is made.
abbrev pub IsExchange : ℕ → List ℤ → Inverse → Inverse → Exchange → Type 0
IsExchange i row old new Made = (rows : List (List ℤ)) → length rows ≡ length old.columns → IsScaledInverse (length old.columns) rows old → IsScaledInverse (length old.columns) (slice_set rows i row) new
IsExchange i row old new Dependent = (new ≡ old)
    × ((rows : List (List ℤ)) → length rows ≡ length old.columns → IsScaledInverse (length old.columns) rows old
    → IsOrthogonal (slice_set rows i row) (row_at old.columns i) × ¬ (IsZero (row_at old.columns i)))
IsExchange i row old new TooLarge = new ≡ old

-- one exchange of columns by the products with the new row, and a bound on all that it makes
abbrev pub IsStep : ℕ → ℤ → List ℤ → List (List ℤ) → List (List ℤ) → Step → Type 0
IsStep i den row old new (step.Made over most) = IsExchanged i den (map (dot row) old) old over new × (unsigned_abs over ≤ most) × Each new (Within most)
IsStep i den row old new step.Dependent = (new ≡ old) × (dot row (row_at old i) ≡ pos 0)
IsStep i den row old new step.TooLarge = new ≡ old

-- Made: of whatever cell it was the inverse, it is that of the cell with this pair in support j. Dependent: that cell is dependent.
abbrev pub IsFlip : Problem → ℕ → ℕ × ℕ → Inverse → Inverse → Exchange → Type 0
IsFlip p j pair old new Made = (cell : Cell) → IsOf p cell → IsInverseOfCell p cell old → IsInverseOfCell p (put_pair cell j pair) new
IsFlip p j pair old new Dependent = (new ≡ old) × ((cell : Cell) → IsOf p cell → IsInverseOfCell p cell old → ¬ (IsIndependent p (put_pair cell j pair)))
IsFlip p j pair old new TooLarge = new ≡ old

-- the signs at pair j of a dependency that is positive at the further point c of support j
abbrev pub HasPairSigns : Problem → Cell → ℕ → ℕ → Sign × Sign → Type 0
HasPairSigns p cell j c signs = (numbers : Numbers) × IsPositiveDependency p cell j c numbers × HaveSigns signs (number_at numbers.pairs j)
