-- Times with more entries than ranks: a cell begins and ends at none of them.
use Rattle.std.specs.Prelude.{◌≡◌, ℕ, ◌<◌, ◌≤◌, pos}
use Rattle.int_vectors.specs.Vectors.{Each, at}
use Rattle.cayley.specs.Times.{Time}
use Rattle.cayley.specs.Problems.{Point, Problem, IsProblem}
use Rattle.cayley.specs.Cells.{Cell, IsOf, IsIndependent}
use Rattle.cayley.specs.Lives.{BeginsAt, EndsAt}
use Rattle.cayley.specs.StoredTies.{Spot, IsAlwaysLevel}
use Rattle.cayley.specs.NamedTies.{IsLevelThen}

-- no point has a rank above r
abbrev pub HasRanksUpTo : Problem → ℕ → Type 0
HasRanksUpTo p r = Each p.supports (λ s. Each s (λ (x : Point). x.rank ≤ r))

-- every entry past entry r is 0
abbrev pub IsZeroPast : ℕ → Time → Type 0
IsZeroPast r t = (e : ℕ) → r < e → at t.entries e ≡ pos 0

-- where a cell begins or ends, or a further point is level that isn't level at all times, the time has no entry past r
pub record IsCut (p : Problem) (cell : Cell) (r : ℕ) (t : Time) : Type 0 where
  pub begins : BeginsAt p cell t → IsZeroPast r t
  pub ends : EndsAt p cell t → IsZeroPast r t
  pub level : IsOf p cell → IsIndependent p cell → (x : Spot) → IsLevelThen p cell t x → ¬ (IsAlwaysLevel p cell x) → IsZeroPast r t

abbrev pub LongerTimesLaw : Type 0
LongerTimesLaw = (p : Problem) (cell : Cell) (r : ℕ) (t : Time) → IsProblem p → HasRanksUpTo p r → IsCut p cell r t
