-- What a turn of a search does, for the inner functions; no public clause cites this.
use Rattle.std.specs.Prelude.{◌≡◌, List, [], ◌∷◌, ◌++◌, Option, None, Some}
use Rattle.lex_height.specs.Values as lex
use Rattle.cayley.specs.declared.found.FoundCell.{FoundCell}
use Rattle.cayley.specs.Problems.{Problem}
use Rattle.cayley.specs.Cells.{Cell}
use Rattle.cayley.specs.Shares.{IsChildren}
use Rattle.searcher.specs.declared.branches.Branch.{Branch}
use Rattle.searcher.specs.declared.expansions.Children.{Children}
use Rattle.cone_walls.specs.Fronts.{place_by, IsFall, IsTimeOf}
use Rattle.searcher.specs.declared.expansions.Expansion.{Expansion}
use Rattle.searcher.specs.declared.expansions.HaltCause.TheVariants as cause
use Rattle.searcher.specs.declared.turning.Halting.{Halting}
use Rattle.searcher.specs.declared.turning.Halting.TheVariants.{Tied, OutOfMemory}
use Rattle.searcher.specs.Branches.{branches_of, children_of}
use Rattle.searcher.specs.Expansions.{IsExpansion, IsCause}
use Rattle.searcher.specs.Searches.{opened, found_in}

-- none or one
abbrev pub list_of : Option FoundCell → List FoundCell
list_of None = []
list_of (Some found) = found ∷ []

-- the cell's children stand behind the old branches
abbrev pub PutsChildren : Problem → Cell → List Branch → List Branch → Type 0
PutsChildren p cell old new = (kids : Children) × (new ≡ old ++ children_of kids) × IsChildren p cell (branches_of (children_of kids))

-- the branch was expanded: what it opened stands behind the old branches, and this was found
abbrev pub IsTurned : Problem → Branch → List Branch → List Branch → Option FoundCell → Type 0
IsTurned p b old new found = (e : Expansion) × IsExpansion p b e × (new ≡ old ++ opened e) × (list_of found ≡ found_in e)

-- two lines of the cell are zero at once where it ends, a tie; or memory isn't found
abbrev pub IsHalting : Problem → Branch → Halting → Type 0
IsHalting p b (Tied f g) = IsFall f × ((u : lex.Value) → IsTimeOf f u → IsCause p b (cause.Tie (record { cell = b.cell; time = u; first = place_by f; second = Some (place_by g) })))
IsHalting p b OutOfMemory = Unit {0}
