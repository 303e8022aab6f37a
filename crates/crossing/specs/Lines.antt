-- Lines over time. A time t / q is a list t of entries by rank, 0 past its end, over q > 0.
use Rattle.std.specs.Prelude.{ℤ, pos, neg_ℤ, ◌<ℤ◌, ◌≤◌, List, ◌∷◌, length, All}
use Rattle.wide_int.specs.Whole.{FitsWhole}
use Rattle.int_vectors.specs.Vectors.{IsZero, IsPositive, scale, add}
use Rattle.lex_height.specs.Entries.{entries_from, entries}
use Rattle.lex_height.specs.Values as lex
use Rattle.crossing.specs.declared.fine.TheConstants.{FINE_PARTS}
use Rattle.crossing.specs.declared.line.WallLine.{WallLine}

-- the numbers fit, and the fine parts are few enough, in rising rank from 1, none zero
abbrev pub FitsLine : WallLine → Type 0
FitsLine line = FitsWhole line.alpha × FitsWhole line.beta × (length line.fine ≤ FINE_PARTS) × lex.AreParts 1 line.fine

-- the entries of the value at time 0
abbrev pub constant : WallLine → List ℤ
constant line = line.alpha ∷ entries_from 1 line.fine

-- the value at t / q, times q
abbrev pub value : WallLine → List ℤ → ℤ → List ℤ
value line t q = add (scale q (constant line)) (scale line.beta t)

-- t / q is before u / p
abbrev pub IsEarlier : List ℤ → ℤ → List ℤ → ℤ → Type 0
IsEarlier t q u p = IsPositive (add (scale q u) (scale (neg_ℤ p) t))

-- zero at all times
abbrev pub IsFlat : WallLine → Type 0
IsFlat line = (t : List ℤ) (q : ℤ) → pos 0 <ℤ q → IsZero (value line t q)

abbrev pub Falls : WallLine → Type 0
Falls line = line.beta <ℤ pos 0

abbrev pub Rises : WallLine → Type 0
Rises line = pos 0 <ℤ line.beta

-- zero at the time u
abbrev pub IsZeroAt : WallLine → lex.Value → Type 0
IsZeroAt line u = IsZero (value line (entries u.parts) u.den)

-- every line is positive at t / q
abbrev pub ArePositive : List WallLine → List ℤ → ℤ → Type 0
ArePositive lines t q = All (λ line. IsPositive (value line t q)) lines
