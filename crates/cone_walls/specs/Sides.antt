-- What a line tells of its point at a time.
use Rattle.std.specs.Prelude.{◌≡◌, ◌↔◌, ◌-◌, List, [], ◌∷◌, ℤ, pos, ◌+ℤ◌, ◌*ℤ◌, ◌<ℤ◌}
use Rattle.int_vectors.specs.Vectors.{Each, IsZero, IsPositive}
use Rattle.cayley.specs.Times.{Time}
use Rattle.cayley.specs.Problems.{Problem}
use Rattle.cayley.specs.Cells.{Cell}
use Rattle.cayley.specs.Dependencies.{pair_at, minus, nth_support}
use Rattle.cayley.specs.Normals.{Normal, IsNormal, IsAbove, IsLevel, IsBelow}
use Rattle.crossing.specs.declared.line.WallLine.{WallLine}
use Rattle.crossing.specs.Lines.{value}

-- positive, zero, negative exactly where the line's point is above, level, below
abbrev pub TellsSide : Problem → Cell → Time → Normal → WallLine → Type 0
TellsSide p cell t v line =
    let s = nth_support p.supports (line.support - 1) in
    let a = (pair_at cell (line.support - 1)).0 in
    (IsPositive (value line t.entries t.over) ↔ IsAbove t v s a line.position)
    × (IsZero (value line t.entries t.over) ↔ IsLevel t v s a line.position)
    × (IsPositive (minus (value line t.entries t.over)) ↔ IsBelow t v s a line.position)

-- each line does so at every time and for every normal
abbrev pub TellSides : Problem → Cell → List WallLine → Type 0
TellSides p cell lines = (t : Time) (v : Normal) → IsNormal p cell t v → Each lines (TellsSide p cell t v)

-- the time P / Q
abbrev pub moment : (P Q : ℤ) → pos 0 <ℤ Q → Time
moment P Q positive = record { entries = P ∷ []; over = Q; positive = positive }

-- alpha + beta t without infinitesimals at the time P / Q, times Q
abbrev pub coarse_value : WallLine → ℤ → ℤ → ℤ
coarse_value line P Q = line.alpha *ℤ Q +ℤ line.beta *ℤ P

-- the same at a time P / Q by this number, over heights without infinitesimals
abbrev pub TellsSideAt : Problem → Cell → (P Q : ℤ) → pos 0 <ℤ Q → Normal → WallLine → Type 0
TellsSideAt p cell P Q positive v line =
    let s = nth_support p.supports (line.support - 1) in
    let a = (pair_at cell (line.support - 1)).0 in
    let t = moment P Q positive in
    (pos 0 <ℤ coarse_value line P Q ↔ IsAbove t v s a line.position)
    × (coarse_value line P Q ≡ pos 0 ↔ IsLevel t v s a line.position)
    × (coarse_value line P Q <ℤ pos 0 ↔ IsBelow t v s a line.position)

abbrev pub TellSidesAt : Problem → Cell → List WallLine → Type 0
TellSidesAt p cell lines = (P Q : ℤ) (positive : pos 0 <ℤ Q) (v : Normal) → IsNormal p cell (moment P Q positive) v → Each lines (TellsSideAt p cell P Q positive v)
