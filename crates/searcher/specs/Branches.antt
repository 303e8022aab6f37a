-- What the code's branches and children mean.
use Rattle.std.specs.Prelude.{List, [], ◌∷◌, map}
use Rattle.cayley.specs.Begins.{begin_of}
use Rattle.cayley.specs.Shares as shares
use Rattle.searcher.specs.declared.branches.Branch.{Branch}
use Rattle.searcher.specs.declared.expansions.Children.{Children}
use Rattle.searcher.specs.declared.expansions.Children.TheVariants.{None, One, Two}

-- the cell, with the time of its beginning as entries
abbrev pub branch_of : Branch → shares.Branch
branch_of b = record { cell = b.cell; begin = begin_of b.begin }

abbrev pub branches_of : List Branch → List shares.Branch
branches_of branches = map branch_of branches

-- no, one or two children in order
abbrev pub children_of : Children → List Branch
children_of None = []
children_of (One first) = first ∷ []
children_of (Two first second) = first ∷ second ∷ []
