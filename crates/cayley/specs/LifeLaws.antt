-- The laws of a cell's life: its two ends, its parent, its children, and what holds where there is no tie.
use Rattle.std.specs.Prelude.{◌≡◌, ◌⊎◌, ◌↔◌, ℕ, suc, List, [], ◌++◌, flat_map, IsPermutation, sum_by}
use Rattle.cayley.specs.Times.{Time, IsBefore, IsSameTime}
use Rattle.cayley.specs.Problems.{Problem, IsProblem}
use Rattle.cayley.specs.Valid.{IsStillProblem}
use Rattle.cayley.specs.Cells.{Cell, IsLess}
use Rattle.cayley.specs.Mixed.{IsAlive, IsMixedCell}
use Rattle.cayley.specs.Lives.{AliveEarly, AliveLate, BeginsAt, EndsAt}
use Rattle.cayley.specs.Parents.{Precedes, IsParent}
use Rattle.cayley.specs.Shares.{Branch, IsTrueBranch, IsOwn, IsChildren, IsShare, IsSize, GivesShares, GivesSizes}
use Rattle.cayley.specs.Ties.{IsUntied}
use Rattle.cayley.specs.Flips.{OneLevel}

-- alive at t: alive at all early times or begins before t, alive at all late times or ends after t, and alive at all times between two at which it is alive
pub record Life (p : Problem) (cell : Cell) (t : Time) : Type 0 where
  pub early : AliveEarly p cell ⊎ ((u : Time) × IsBefore u t × BeginsAt p cell u)
  pub late : AliveLate p cell ⊎ ((u : Time) × IsBefore t u × EndsAt p cell u)
  pub between : (x u : Time) → IsBefore t x → IsBefore x u → IsAlive p cell u → IsAlive p cell x

abbrev pub LifeLaw : Type 0
LifeLaw = (p : Problem) (cell : Cell) (t : Time) → IsProblem p → IsAlive p cell t → Life p cell t

-- a cell begins at most at one time, and at none where it is alive at all early times; so too at its end
abbrev pub OnceLaw : Type 0
OnceLaw = (p : Problem) (cell : Cell) → IsProblem p
    → ((t u : Time) → BeginsAt p cell t → BeginsAt p cell u → IsSameTime t u)
    × ((t u : Time) → EndsAt p cell t → EndsAt p cell u → IsSameTime t u)
    × ((t : Time) → AliveEarly p cell → ¬ (BeginsAt p cell t))
    × ((t : Time) → AliveLate p cell → ¬ (EndsAt p cell t))

-- a parent has ended where its child begins, and if it begins it begins earlier; there is one parent only
abbrev pub ParentLaw : Type 0
ParentLaw = (p : Problem) (sigma tau : Cell) (t : Time) → IsProblem p → BeginsAt p tau t → IsParent p sigma tau
    → EndsAt p sigma t × ((u : Time) → BeginsAt p sigma u → IsBefore u t) × ((rho : Cell) → IsParent p rho tau → sigma ≡ rho)

-- the children of a cell are those that it precedes at its end and of which it is the least predecessor there; what doesn't end has none
abbrev pub ChildLaw : Type 0
ChildLaw = (p : Problem) (sigma tau : Cell) → IsProblem p
    → ((t : Time) → EndsAt p sigma t → IsParent p sigma tau ↔ (Precedes p sigma tau t × ((rho : Cell) → Precedes p rho tau t → ¬ (IsLess rho sigma))))
    × (AliveLate p sigma → ¬ (IsParent p sigma tau))

-- where a cell begins or ends, and has no tie there, exactly one further point is level; and if it begins it has a parent
abbrev pub TieFreeLaw : Type 0
TieFreeLaw = (p : Problem) (cell : Cell) (t : Time) → IsProblem p → IsUntied p cell t
    → (BeginsAt p cell t → OneLevel p cell t × ((rho : Cell) × IsParent p rho cell)) × (EndsAt p cell t → OneLevel p cell t)

-- the share of a branch is its own cell, if that is a mixed cell of the target, with the shares of its children; its size is one more than theirs together
abbrev pub ShareLaw : Type 0
ShareLaw = (p : Problem) (b : Branch) (kids : List Branch) → IsProblem p → IsTrueBranch p b → IsChildren p b.cell kids
    → ((share : Branch → List Cell) (own : List Cell) → GivesShares p share → IsOwn (IsMixedCell p) b.cell own → IsPermutation (share b) (own ++ flat_map share kids))
    × ((size : Branch → ℕ) → GivesSizes p size → size b ≡ suc (sum_by size kids))

-- a branch has one share and one size: no cell and the size 0 where its cell doesn't begin where it says
abbrev pub OneShare : Type 0
OneShare = (p : Problem) (b : Branch)
    → ((xs ys : List Cell) → IsShare p b xs → IsShare p b ys → xs ≡ ys)
    × ((m n : ℕ) → IsSize p b m → IsSize p b n → m ≡ n)
    × (¬ (IsTrueBranch p b) → IsShare p b [] × IsSize p b 0)

-- in a still problem with its version's ranks, whose corners rise with speed 1, a mixed cell of the target is alive at all late times
abbrev pub TargetLaw : Type 0
TargetLaw = (p : Problem) (cell : Cell) → IsStillProblem p → IsMixedCell p cell → AliveLate p cell
