-- facts of each support with its pair
use Rattle.std.proofs.Common.{ℕ, List, []}
use Rattle.cayley.specs.Problems.{Point}
use Rattle.cayley.specs.Cells.{Cell, EachPair}
use Rattle.cayley.proofs.Lists.Pairs.{pairs_map}

pub apart : (supports : List (List Point)) (cell : Cell) (P Q : List Point → ℕ → ℕ → Type 0) → EachPair supports cell (λ s a b. P s a b × Q s a b) → EachPair supports cell P × EachPair supports cell Q
apart supports cell P Q e = (pairs_map supports cell _ P (λ s a b h. h.0) e, pairs_map supports cell _ Q (λ s a b h. h.1) e)
