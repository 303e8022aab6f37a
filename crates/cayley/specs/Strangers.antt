-- Strangers: branches whose cell isn't of the problem or doesn't begin where they say.
use Rattle.std.specs.Prelude.{◌≡◌, ◌⊎◌, ℕ, List, []}
use Rattle.cayley.specs.Problems.{Problem}
use Rattle.cayley.specs.Cells.{Cell, IsOf}
use Rattle.cayley.specs.Lives.{BeginsAs}
use Rattle.cayley.specs.Shares.{Branch, IsShare, IsSize, GivesShares, GivesSizes}

abbrev pub IsStranger : Problem → Branch → Type 0
IsStranger p b = ¬ (IsOf p b.cell) ⊎ ¬ (BeginsAs p b.cell b.begin)

-- the share is empty and the size is 0, and nothing else is its share or its size
pub record HasNothing (p : Problem) (b : Branch) : Type 0 where
  pub share : IsShare p b []
  pub no_other_share : (cells : List Cell) → IsShare p b cells → cells ≡ []
  pub size : IsSize p b 0
  pub no_other_size : (n : ℕ) → IsSize p b n → n ≡ 0
  pub given_share : (share : Branch → List Cell) → GivesShares p share → share b ≡ []
  pub given_size : (size : Branch → ℕ) → GivesSizes p size → size b ≡ 0

-- a stranger has the empty share and the size 0
abbrev pub StrangerLaw : Type 0
StrangerLaw = (p : Problem) (b : Branch) → IsStranger p b → HasNothing p b
