-- What the code's beginnings of cells mean.
use Rattle.lex_height.specs.Entries.{entries}
use Rattle.cayley.specs.declared.found.Begin.{Begin as StoredBegin}
use Rattle.cayley.specs.declared.found.Begin.TheVariants.{Start, At}
use Rattle.cayley.specs.Lives.{Begin, at_start, at_time}

-- at all early times, or at the time of a value's entries
abbrev pub begin_of : StoredBegin → Begin
begin_of Start = at_start
begin_of (At u) = at_time (entries u.parts) u.den
