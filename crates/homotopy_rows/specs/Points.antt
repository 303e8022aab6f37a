-- What the inner functions find of one point of a support.
use Rattle.std.specs.Prelude.{◌≡◌, ℕ, List, ℤ, pos}
use Rattle.wide_int.specs.Whole.{FitsWhole}
use Rattle.cayley.specs.Cells.{IsFurther}
use Rattle.cayley.specs.Problems.{Point, point_at}
use Rattle.cayley.specs.Resting.{rise}

-- the sum of the pair's second point is 0
abbrev pub IsLevelPair : ℤ → List ℤ → List Point → ℕ → ℕ → Type 0
IsLevelPair den v s a b = rise den v (point_at s a) (point_at s b) ≡ pos 0

-- c is a further point of the sum 0
abbrev pub IsTieAt : ℤ → List ℤ → List Point → ℕ → ℕ → ℕ → Type 0
IsTieAt den v s a b c = IsFurther s a b c × (rise den v (point_at s a) (point_at s c) ≡ pos 0)

-- w is the sum of c, which isn't 0 where c is a further point
abbrev pub IsSumAt : ℤ → List ℤ → List Point → ℕ → ℕ → ℕ → ℤ → Type 0
IsSumAt den v s a b c w = (w ≡ rise den v (point_at s a) (point_at s c)) × FitsWhole w × ¬ (IsTieAt den v s a b c)
