-- The first ranks of the supports of a problem of version 2.
use Rattle.std.specs.Prelude.{ℕ, ◌+◌, List, [], ◌∷◌, map}
use Rattle.cayley.specs.declared.points.Support.{Support}
use Rattle.cayley.specs.Problems.{ranks_in}
use Rattle.cayley.specs.Stored.{point}

-- the ranks that a support uses up
abbrev pub ranks_of : Support → ℕ
ranks_of s = ranks_in s.file (map point s.points.items)

-- the first rank of each support, the first support's being r
abbrev pub firsts_from : ℕ → List Support → List ℕ
firsts_from r [] = []
firsts_from r (s ∷ supports) = r ∷ firsts_from (r + ranks_of s) supports
