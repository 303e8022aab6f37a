-- The entries of a list of parts, by rank.
use Rattle.std.specs.Prelude.{ℕ, ◌+◌, ◌-◌, ◌==◌, cond, List, [], ◌∷◌, ◌++◌, replicate, slice_index_or, ℤ, pos}
use Rattle.lex_height.specs.declared.part.LexPart.{LexPart}

-- the number of the part of this rank, 0 where there is none
abbrev pub entry : List LexPart → ℕ → ℤ
entry [] rank = pos 0
entry (part ∷ parts) rank = cond (part.rank == rank) part.num (entry parts rank)

-- the entries of the ranks from this one on, as a list
abbrev pub entries_from : ℕ → List LexPart → List ℤ
entries_from rank [] = []
entries_from rank (part ∷ parts) = replicate (part.rank - rank) (pos 0) ++ part.num ∷ entries_from (part.rank + 1) parts

-- all entries as a list, which counts as followed by zeros
abbrev pub entries : List LexPart → List ℤ
entries = entries_from 0

-- the entry of a list at a rank, 0 past its end
abbrev pub at_rank : List ℤ → ℕ → ℤ
at_rank entries rank = slice_index_or entries rank (pos 0)
