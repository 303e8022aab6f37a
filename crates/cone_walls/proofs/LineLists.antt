-- the lines of a cell are the wall lines of its moving normal
use Rattle.std.proofs.Common.{◌≡◌, ℕ, suc, Bool, true, false, if◌then◌else◌, ◌==◌, List, [], ◌∷◌, ◌++◌, length, map, arith, refl, sym, ap, ap₂, ◌∙◌, ◌<ℤ◌}
use Rattle.std.proofs.lemmas.Int.{ints}
use Rattle.std.proofs.lemmas.List.{map-append}
use Rattle.std.proofs.Math.IntN.{ℤ, pos, ◌+ℤ◌, ◌-ℤ◌, ◌*ℤ◌, neg_ℤ}
use Rattle.wide_int.proofs.Ring.{as_D, Ds, same_D}
use Rattle.int_vectors.specs.Vectors.{sub, dot}
use Rattle.cayley.specs.Problems.{Point, point_at, with_rank}
use Rattle.cayley.specs.Cells.{Cell}
use Rattle.cayley.proofs.Order.Lines.{Line}
use Rattle.cayley.proofs.OneCell.MovingNormals.{wall, walls_from, walls}
use Rattle.cayley.proofs.Ranking.Unperturbed.{unranked, point_unranked}
use Rattle.crossing.specs.declared.line.WallLine.{WallLine}
use Rattle.inner_normal.specs.declared.moving.MovingNormal.{MovingNormal}
use Rattle.cone_walls.specs.Listed.{line_of, lines_from, wall_lines}
use Rattle.cone_walls.proofs.MovingFrame.{as_moving}

-- the line in the words of the laws
abbrev pub as_line : WallLine → Line
as_line l = record { start = l.alpha ∷ []; slope = l.beta }

abbrev made_of : ℤ → ℤ → Line
made_of a b = record { start = a ∷ []; slope = b }

if_same : (t : Bool) (xs ys : List WallLine) (us vs : List Line) → map as_line xs ≡ us → map as_line ys ≡ vs → map as_line (if t then xs else ys) ≡ (if t then us else vs)
if_same true xs ys us vs e f = e
if_same false xs ys us vs e f = f

module _ (m : MovingNormal) (positive : pos 0 <ℤ m.den) (long : length m.p ≡ length m.q) where
  pub line_is : (i k : ℕ) (x y : Point) → as_line (line_of m i x k y) ≡ wall (as_moving m positive long) (with_rank 0 x) (with_rank 0 y)
  line_is i k x y =
      ap₂ made_of (first m.den x.base y.base (dot (sub y.coordinates x.coordinates) m.p)) (second m.den x.speed y.speed (dot (sub y.coordinates x.coordinates) m.q))
    where
      first : (g a c d : ℤ) → g *ℤ (c -ℤ a) +ℤ d ≡ d +ℤ g *ℤ (c +ℤ neg_ℤ (pos 1) *ℤ a)
      first g a c d = ring g a c d (neg_ℤ (pos 1) *ℤ a) (omega (arith, ints))
        where
          ring1 : (g a c d : ℤ) → g *ℤ (c -ℤ a) +ℤ d ≡ d +ℤ g *ℤ (c +ℤ neg_ℤ a)
          ring1 g a c d = rw (as_D g, as_D a, as_D c, as_D d) (simp Ds (same_D _ _ _ _ (omega arith)))

          ring : (g a c d z : ℤ) → z ≡ neg_ℤ a → g *ℤ (c -ℤ a) +ℤ d ≡ d +ℤ g *ℤ (c +ℤ z)
          ring g a c d z e = rw e (ring1 g a c d)

      second : (g a c d : ℤ) → g *ℤ (c -ℤ a) +ℤ d ≡ d +ℤ g *ℤ (c -ℤ a)
      second g a c d = omega (arith, ints)

  lines_are : (i a b : ℕ) (x : Point) (k : ℕ) (ys : List Point) → map as_line (lines_from m i x a b k ys) ≡ walls_from (as_moving m positive long) (with_rank 0 x) a b k (unranked ys)
  lines_are i a b x k [] = refl
  lines_are i a b x k (y ∷ ys) =
      let rest = lines_are i a b x (suc k) ys in
      if_same (k == a) _ _ _ _ rest (if_same (k == b) _ _ _ _ rest (ap₂ (λ (l : Line) (ls : List Line). l ∷ ls) (line_is i k x y) rest))

  pub walls_are : (i : ℕ) (supports : List (List Point)) (cell : Cell) → map as_line (wall_lines m i supports cell) ≡ walls (as_moving m positive long) (map unranked supports) cell
  walls_are i [] cell = refl
  walls_are i (s ∷ supports) [] = refl
  walls_are i (s ∷ supports) (x ∷ cell) =
      map-append as_line (lines_from m i (point_at s x.0) x.0 x.1 1 s) (wall_lines m (suc i) supports cell)
      ∙ ap₂ (λ (l k : List Line). l ++ k)
      (lines_are i x.0 x.1 (point_at s x.0) 1 s ∙ ap (λ z. walls_from (as_moving m positive long) z x.0 x.1 1 (unranked s)) (sym (point_unranked s x.0)))
      (walls_are (suc i) supports cell)
