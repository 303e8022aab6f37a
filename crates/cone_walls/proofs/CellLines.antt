-- the lines of a cell in version 1, from its normal alone
use Rattle.std.proofs.Common.{◌≡◌, ◌↔◌, inl, inr, ℕ, suc, ◌-◌, ◌≤◌, List, [], ◌∷◌, length, arith, refl, sym, ap, ap₂, subst, ◌∙◌, ℤ}
use Rattle.std.proofs.lemmas.Int.{ints}
use Rattle.std.specs.Prelude.{All, slice_index_or}
use Rattle.wide_int.specs.Whole.{FitsWhole}
use Rattle.int_vectors.specs.Vectors.{Each, IsZero, IsPositive}
use Rattle.cayley.specs.Times.{Time}
use Rattle.cayley.specs.Problems.{Version, version1, Point, Problem, point_at, with_rank, unperturbed, ranked_supports}
use Rattle.cayley.specs.Cells.{Cell}
use Rattle.cayley.specs.Dependencies.{pair_at, IsFurtherAt, minus, nth_support}
use Rattle.cayley.specs.Mixed.{IsAlive}
use Rattle.cayley.specs.Normals.{Normal, IsNormal, IsAbove, IsLevel, IsBelow}
use Rattle.cayley.specs.Valid.{IsValidProblem}
use Rattle.cayley.proofs.Flipping.Places.{further_bound}
use Rattle.int_vectors.proofs.Each.{all_each}
use Rattle.cayley.proofs.OneCell.CellRows.{InRange}
use Rattle.cayley.proofs.OneCell.MovingNormals.{Moving, wall}
use Rattle.cayley.proofs.OneCell.MovingWalls.{wall_above, wall_level, wall_below}
use Rattle.cayley.proofs.Ranking.Unperturbed.{same_unperturbed, same_well, same_of, same_independent}
use Rattle.cayley.proofs.Order.Lines.{Line, line_at}
use Rattle.cayley.proofs.Lists.Pairs.{pairs_long}
use Rattle.crossing.specs.declared.line.WallLine.{WallLine}
use Rattle.crossing.specs.Lines.{FitsLine, IsFlat}
use Rattle.crossing.specs.Places.{origin, IsNowhere}
use Rattle.inner_normal.specs.declared.moving.MovingNormal.{MovingNormal}
use Rattle.inner_normal.specs.MovingNormals.{IsMovingNormal}
use Rattle.inner_normal.proofs.Reading.{support_read, pair_range}
use Rattle.cone_walls.specs.declared.endings.End.{End}
use Rattle.cone_walls.specs.Ends.{AreCellLines, IsEnd, IsEndOf}
use Rattle.cone_walls.specs.Listed.{line_of, wall_lines}
use Rattle.cone_walls.specs.Numbers.{alpha, beta}
use Rattle.cone_walls.specs.Rooms.{IsNarrowOf}
use Rattle.cone_walls.specs.Sides.{TellsSide, TellSides}
use Rattle.cone_walls.proofs.FurtherLines.{all_lines, of_further_points, have_numbers, are_further}
use Rattle.cone_walls.proofs.LineLists.{as_line, line_is}
use Rattle.cone_walls.proofs.Living.{never_dead, lives_between, alive_positive}
use Rattle.cone_walls.proofs.MovingFrame.{as_moving, long_normal, moving_frame}
use Rattle.cone_walls.proofs.NarrowPoints.{narrow_between, alpha_fits, beta_fits}
use Rattle.cone_walls.proofs.Telling.{read_point}

module _ (p : Problem) (cell : Cell) (m : MovingNormal) (n : IsMovingNormal p cell m) where
  abbrev u : Problem
  u = unperturbed p

  abbrev mv : Moving
  mv = as_moving m n.positive (long_normal p cell m n)

  -- the line of a further point is its wall line
  as_wall : (j k c : ℕ) → as_line (line_of m k (point_at (nth_support p.supports j) (pair_at cell j).0) c (point_at (nth_support p.supports j) c))
      ≡ wall (as_moving m n.positive (long_normal p cell m n)) (point_at (nth_support (unperturbed p).supports j) (pair_at cell j).0) (point_at (nth_support (unperturbed p).supports j) c)
  as_wall j k c =
      line_is m n.positive (long_normal p cell m n) k c (point_at (nth_support p.supports j) (pair_at cell j).0) (point_at (nth_support p.supports j) c)
      ∙ ap₂ (λ (x y : Point). wall (as_moving m n.positive (long_normal p cell m n)) x y) (read_point p j (pair_at cell j).0) (read_point p j c)

  module _ (t : Time) (v : Normal) (normal : IsNormal (unperturbed p) cell t v) where
    abbrev Tells : Line → ℕ → ℕ → Type 0
    Tells l j c =
        (IsPositive (line_at l t) ↔ IsAbove t v (nth_support (unperturbed p).supports j) (pair_at cell j).0 c)
        × (IsZero (line_at l t) ↔ IsLevel t v (nth_support (unperturbed p).supports j) (pair_at cell j).0 c)
        × (IsPositive (minus (line_at l t)) ↔ IsBelow t v (nth_support (unperturbed p).supports j) (pair_at cell j).0 c)

    tells : (j k c : ℕ) → Tells (as_line (line_of m k (point_at (nth_support p.supports j) (pair_at cell j).0) c (point_at (nth_support p.supports j) c))) j c
    tells j k c =
        let same = same_unperturbed p in
        let well = same_well p u same n.problem in
        let of = same_of p u cell same n.of in
        let ind = same_independent p u cell same n.independent in
        let frame = moving_frame p cell m n in
        let a = point_at (nth_support (unperturbed p).supports j) (pair_at cell j).0 in
        let x = point_at (nth_support (unperturbed p).supports j) c in
        subst (λ (l : Line). Tells l j c) (sym (as_wall j k c))
        (wall_above u cell well of ind mv frame a x t v normal, wall_level u cell well of ind mv frame a x t v normal, wall_below u cell well of ind mv frame a x t v normal)

    tells_each : Each (wall_lines m 1 p.supports cell) (TellsSide (unperturbed p) cell t v)
    tells_each = all_lines m (TellsSide (unperturbed p) cell t v) 1 p.supports cell
        (λ j k c e f.
        let w : j ≡ k - 1 = omega (arith, e) in
        subst (λ z. Tells (as_line (line_of m k (point_at (nth_support p.supports j) (pair_at cell j).0) c (point_at (nth_support p.supports j) c))) z c) w (tells j k c))

  tell_unperturbed : TellSides (unperturbed p) cell (wall_lines m 1 p.supports cell)
  tell_unperturbed t v normal = tells_each t v normal

  module _ (valid : IsValidProblem p) (first : p.version ≡ version1) (room : IsNarrowOf p m) where
    same_problem : p ≡ unperturbed p
    same_problem = ap₂ (λ (v : Version) (ss : List (List Point)). record p { version = v; supports = ss }) first (valid.ranks ∙ ap (λ (v : Version). ranked_supports v p.files p.supports) first)

    sides : TellSides p cell (wall_lines m 1 p.supports cell)
    sides = subst (λ (q : Problem). TellSides q cell (wall_lines m 1 p.supports cell)) (sym same_problem) tell_unperturbed

    abbrev lines : List WallLine
    lines = wall_lines m 1 p.supports cell

    -- the numbers of the line of a further point fit
    further_fits : (j c : ℕ) → IsFurtherAt p cell j c
        → FitsWhole (alpha m (point_at (nth_support p.supports j) (pair_at cell j).0) (point_at (nth_support p.supports j) c))
        × FitsWhole (beta m (point_at (nth_support p.supports j) (pair_at cell j).0) (point_at (nth_support p.supports j) c))
    further_fits j c f =
        let count = pairs_long p.supports cell InRange n.of in
        let bound = further_bound p.supports cell j c count f in
        let most : suc j ≤ p.dimension = let d = n.problem.supports in omega (arith, bound, count, d) in
        let r = pair_range p.supports cell j (omega (arith, bound)) n.of in
        let read : slice_index_or p.supports (suc j - 1) [] ≡ nth_support p.supports j =
        ap (λ z. slice_index_or p.supports z []) (let w : suc j - 1 ≡ j = omega arith in w) ∙ support_read p.supports j in
        subst (λ (s : List Point). (1 ≤ (pair_at cell j).0) × ((pair_at cell j).0 ≤ length s) → (1 ≤ c) × (c ≤ length s)
        → FitsWhole (alpha m (point_at s (pair_at cell j).0) (point_at s c)) × FitsWhole (beta m (point_at s (pair_at cell j).0) (point_at s c))) read
        (λ ha hc.
        let x = with_rank 0 (point_at (slice_index_or p.supports (suc j - 1) []) (pair_at cell j).0) in
        let y = with_rank 0 (point_at (slice_index_or p.supports (suc j - 1) []) c) in
        let near = narrow_between p valid m n.long.0 n.long.1 room (suc j) (omega arith) most (pair_at cell j).0 c ha hc x y refl refl in
        (alpha_fits m x y near, beta_fits m x y near))
        (r.0, (let a = r.1 in let b = r.2 in omega (arith, a, b))) (f.0, f.1)

    each_fits : Each (wall_lines m 1 p.supports cell) FitsLine
    each_fits = all_lines m FitsLine 1 p.supports cell (λ j k c e f. let h = further_fits j c f in (h.0, h.1, omega arith, tt))

    fit : All FitsLine (wall_lines m 1 p.supports cell)
    fit k d l = all_each FitsLine (wall_lines m 1 p.supports cell) each_fits k d l

    cell_lines : AreCellLines p cell m (wall_lines m 1 p.supports cell)
    cell_lines =
        let further = are_further m p cell in
        let places = of_further_points m p cell n.of in record {
          places = places;
          values = have_numbers m p cell;
          fit = fit;
          sides = sides;
          dead = never_dead p cell n.problem n.of n.independent (wall_lines m 1 p.supports cell) further places sides;
          life = lives_between p cell n.problem n.of n.independent (wall_lines m 1 p.supports cell) further places sides;
        }

    no_flat : (t : Time) → IsAlive p cell t → IsNowhere IsFlat (wall_lines m 1 p.supports cell)
    no_flat t alive place h =
        let all = alive_positive p cell n.problem n.of n.independent (wall_lines m 1 p.supports cell) (are_further m p cell) (of_further_points m p cell n.of) sides t alive in
        apart _ (all (place - 1) origin (let a = h.0 in let b = h.1 in omega (arith, a, b))) (h.2 t.entries t.over t.positive)
      where
        apart : (v : List ℤ) → IsPositive v → IsZero v → ⊥
        apart [] q z = q
        apart (x ∷ v) (inl q) z = let e = z.0 in omega (arith, ints, q, e)
        apart (x ∷ v) (inr q) z = apart v q.1 z.1

    pub end_by : (end : End) → (IsNowhere IsFlat (wall_lines m 1 p.supports cell) → IsEnd (wall_lines m 1 p.supports cell) end) → IsEndOf p cell m end
    end_by end h = (wall_lines m 1 p.supports cell, cell_lines, λ t alive. h (no_flat t alive))
