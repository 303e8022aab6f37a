-- Times: values over one positive number, compared entry by entry.
use Rattle.std.specs.Prelude.{List, [], ℤ, pos, neg_ℤ, ◌<ℤ◌}
use Rattle.int_vectors.specs.Vectors.{IsZero, IsPositive, add, scale}

-- whole numbers over one positive number: entry k is entries_k / over, and 0 past the end
pub record Time : Type 0 where
  pub entries : List ℤ
  pub over : ℤ
  pub positive : pos 0 <ℤ over

-- u less t is positive
abbrev pub IsBefore : Time → Time → Type 0
IsBefore t u = IsPositive (add (scale t.over u.entries) (scale (neg_ℤ u.over) t.entries))

-- one time, written over one number or another: u less t is zero
abbrev pub IsSameTime : Time → Time → Type 0
IsSameTime t u = IsZero (add (scale t.over u.entries) (scale (neg_ℤ u.over) t.entries))

-- the time 0
abbrev pub time_zero : Time
time_zero = record { entries = []; over = pos 1; positive = record { lt = tt } }
