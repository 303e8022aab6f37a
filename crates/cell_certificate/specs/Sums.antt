-- The sums that tell a normal v over den: which point lies above, level or below, and which of their numbers fit.
use Rattle.std.specs.Prelude.{◌≢◌, List, ℕ, ℤ, pos, ◌<ℤ◌, ◌*ℤ◌, ◌-ℤ◌}
use Rattle.int_vectors.specs.Fits.{FitsSum}
use Rattle.int_vectors.specs.Vectors.{sub}
use Rattle.cayley.specs.Problems.{Point, Problem, point_at}
use Rattle.cayley.specs.Cells.{Cell, EachPair, IsFurther}
use Rattle.cayley.specs.Resting.{rise}

-- each number of the sum for point x against point a fits: the height's part, each product, each partial sum
abbrev pub FitsRise : ℤ → List ℤ → Point → Point → Type 0
FitsRise den v a x = FitsSum (den *ℤ (x.base -ℤ a.base)) (sub x.coordinates a.coordinates) v

-- of one support: the sum of a further point c fits
abbrev pub FitsAt : ℤ → List ℤ → List Point → ℕ → ℕ → ℕ → Type 0
FitsAt den v s a b c = IsFurther s a b c → FitsRise den v (point_at s a) (point_at s c)

-- a further point's sum is positive
abbrev pub RisesAt : ℤ → List ℤ → List Point → ℕ → ℕ → ℕ → Type 0
RisesAt den v s a b c = IsFurther s a b c → pos 0 <ℤ rise den v (point_at s a) (point_at s c)

-- a further point's sum isn't 0
abbrev pub UntiedAt : ℤ → List ℤ → List Point → ℕ → ℕ → ℕ → Type 0
UntiedAt den v s a b c = IsFurther s a b c → rise den v (point_at s a) (point_at s c) ≢ pos 0

-- the sum of each pair's own second point fits
abbrev pub FitsOwn : Problem → Cell → List ℤ → ℤ → Type 0
FitsOwn p cell v den = EachPair p.supports cell (λ s a b. FitsRise den v (point_at s a) (point_at s b))

-- the sum of each further point fits
abbrev pub FitsFurther : Problem → Cell → List ℤ → ℤ → Type 0
FitsFurther p cell v den = EachPair p.supports cell (λ s a b. (c : ℕ) → FitsAt den v s a b c)

-- all sums of a line fit
abbrev pub FitsSums : Problem → Cell → List ℤ → ℤ → Type 0
FitsSums p cell v den = FitsOwn p cell v den × FitsFurther p cell v den
