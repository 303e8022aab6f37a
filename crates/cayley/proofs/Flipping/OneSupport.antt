-- one support of a problem with the pairs of all other supports
use Rattle.std.proofs.Common.{◌≡◌, ◌⊎◌, ℕ, zero, suc, List, [], ◌∷◌, ◌++◌, length, ◌<ℤ◌}
use Rattle.std.proofs.Math.IntN.{ℤ, pos}
use Rattle.cayley.specs.Times.{Time}
use Rattle.cayley.specs.Problems.{Version, Point, Problem}
use Rattle.cayley.specs.Cells.{Cell, EachPair, IsFurther}
use Rattle.cayley.specs.Normals.{Normal, IsNormal, IsLevel, NoneBelow}
use Rattle.cayley.specs.Flips.{rising}

-- none of the support's further points is level
abbrev pub NoneLevel : Time → Normal → List Point → ℕ → ℕ → Type 0
NoneLevel t v s a b = (f : ℕ) → IsFurther s a b f → ¬ (IsLevel t v s a f)

-- of all further points of the cell, the point c of support j alone is level: by recursion
abbrev pub OnlyLevel : List (List Point) → Cell → ℕ → ℕ → Time → Normal → Type 0
OnlyLevel [] cell j c t v = ⊥
OnlyLevel (s ∷ supports) [] j c t v = ⊥
OnlyLevel (s ∷ supports) (x ∷ cell) zero c t v = (IsFurther s x.0 x.1 c × IsLevel t v s x.0 c
    × ((f : ℕ) → IsFurther s x.0 x.1 f → IsLevel t v s x.0 f → f ≡ c)) × EachPair supports cell (NoneLevel t v)
OnlyLevel (s ∷ supports) (x ∷ cell) (suc j) c t v = NoneLevel t v s x.0 x.1 × OnlyLevel supports cell j c t v

-- one support, with all other supports and their pairs
pub record OneSupport : Type 0 where
  pub version : Version
  pub n : ℕ
  pub files : List ℕ
  pub sb : List (List Point)
  pub s : List Point
  pub sa : List (List Point)
  pub cb : Cell
  pub ca : Cell
  pub long : length sb ≡ length cb

abbrev pub problem_of : OneSupport → Problem
problem_of o = record { version = o.version; dimension = o.n; files = o.files; supports = o.sb ++ o.s ∷ o.sa }

-- the cell with a pair at the spot
abbrev pub with_pair : OneSupport → ℕ × ℕ → Cell
with_pair o x = o.cb ++ x ∷ o.ca

-- at t exactly one further point of the cell with (a, b) at the spot is level, the point c of the spot, and none is below
pub record LevelPoint (o : OneSupport) (a b c : ℕ) (t : Time) : Type 0 where
  pub further : IsFurther o.s a b c
  pub v : Normal
  pub normal : IsNormal (problem_of o) (with_pair o (a, b)) t v
  pub none_below : NoneBelow (problem_of o) (with_pair o (a, b)) t v
  pub level : IsLevel t v o.s a c
  pub only : (f : ℕ) → IsFurther o.s a b f → IsLevel t v o.s a f → f ≡ c
  pub left : EachPair o.sb o.cb (NoneLevel t v)
  pub right : EachPair o.sa o.ca (NoneLevel t v)

-- c takes the place of a point whose number is negative; ma and mb are the numbers of a dependency at a and b
abbrev pub IsSuccessor : OneSupport → ℕ → ℕ → ℕ → ℤ → ℤ → Cell → Type 0
IsSuccessor o a b c ma mb tau = ((tau ≡ with_pair o (rising a c)) × (mb <ℤ pos 0)) ⊎ ((tau ≡ with_pair o (rising b c)) × (ma <ℤ pos 0))

-- the cell itself, or c takes the place of a point whose number is positive
abbrev pub IsPredecessor : OneSupport → ℕ → ℕ → ℕ → ℤ → ℤ → Cell → Type 0
IsPredecessor o a b c ma mb rho = (rho ≡ with_pair o (a, b)) ⊎ ((rho ≡ with_pair o (rising a c)) × (pos 0 <ℤ mb)) ⊎ ((rho ≡ with_pair o (rising b c)) × (pos 0 <ℤ ma))
