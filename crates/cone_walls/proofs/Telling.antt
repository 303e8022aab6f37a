-- a line tells the side of its point at every time
use Rattle.std.proofs.Common.{◌≡◌, ◌↔◌, inl, inr, ℕ, suc, ◌-◌, ◌<◌, ◌≤◌, List, [], ◌∷◌, length, map, arith, refl, sym, ap, ap₂, subst, ◌∙◌, ◌<ℤ◌}
use Rattle.std.proofs.lemmas.Int.{ints}
use Rattle.std.proofs.Math.IntN.{ℤ, pos, ◌+ℤ◌, ◌*ℤ◌, neg_ℤ}
use Rattle.wide_int.proofs.Order.{mul_cancel}
use Rattle.int_vectors.specs.Vectors.{Each, IsZero, IsPositive, scale, at}
use Rattle.int_vectors.proofs.Entries.{at-scale, zero_from, at-zero}
use Rattle.reduced_rows.specs.CellRefusals.{IsEliminated}
use Rattle.lex_height.specs.Entries.{entry}
use Rattle.lex_height.specs.Values.{AreParts}
use Rattle.cayley.specs.Times.{Time}
use Rattle.cayley.specs.Problems.{Point, Problem, point_at, with_rank, unperturbed, HasSamePoints}
use Rattle.cayley.specs.Cells.{Cell}
use Rattle.cayley.specs.Rows.{edge_rows}
use Rattle.cayley.specs.Dependencies.{Numbers, pair_at, IsFurtherAt, IsPositiveDependency, sum_at, minus, nth_support}
use Rattle.cayley.specs.Normals.{Normal, gap, IsNormal, IsAbove, IsLevel, IsBelow}
use Rattle.cayley.proofs.Order.Lexicographic.{positive-same}
use Rattle.cayley.proofs.Order.Lines.{Line, line_at}
use Rattle.int_vectors.proofs.Each.{each_weaker, each_both, each_map, each_unmap}
use Rattle.cayley.proofs.OneCell.CellRows.{InRange}
use Rattle.cayley.proofs.OneCell.MovingNormals.{wall}
use Rattle.cayley.proofs.OneCell.MovingWalls.{wall_is}
use Rattle.cayley.proofs.OneCell.OneDependency.{sum_gap, dependency_law}
use Rattle.cayley.proofs.Ranking.Unperturbed.{point_unranked, support_unranked, same_unperturbed, same_well, same_of, same_independent, same_further}
use Rattle.cayley.proofs.Flipping.Places.{further_bound}
use Rattle.cayley.proofs.Lists.Pairs.{pairs_long}
use Rattle.crossing.specs.declared.line.WallLine.{WallLine}
use Rattle.crossing.specs.Lines.{value}
use Rattle.inner_normal.specs.Coefficients.{difference, products, coefficients_of, numbers_of}
use Rattle.inner_normal.specs.Inverses.{Inverse, inverse_of}
use Rattle.inner_normal.specs.declared.moving.MovingNormal.{MovingNormal}
use Rattle.inner_normal.specs.MovingNormals.{IsMovingNormal}
use Rattle.inner_normal.specs.Workings.{IsNormalFrom}
use Rattle.inner_normal.proofs.Meaning.{numbers_however, numbers_last}
use Rattle.inner_normal.proofs.PairNumbers.{last-coefficients}
use Rattle.cone_walls.specs.Listed.{line_of, coarse}
use Rattle.cone_walls.specs.Numbers.{alpha, beta}
use Rattle.cone_walls.specs.Fines.{circuit_of, sum_of_rank, HasFine}
use Rattle.cone_walls.specs.Parts.{IsFineOf}
use Rattle.cone_walls.specs.Places.{HasNumbers}
use Rattle.cone_walls.specs.Sides.{TellsSide, TellSides, moment, coarse_value, TellsSideAt, TellSidesAt}
use Rattle.cone_walls.proofs.MovingFrame.{as_moving, long_normal, moving_frame, line_entry}
use Rattle.cone_walls.proofs.LineLists.{as_line, line_is}
use Rattle.cone_walls.proofs.FineValues.{sum_marked, sum_unranked, value_at}

pub read_point : (p : Problem) (j c : ℕ) → with_rank 0 (point_at (nth_support p.supports j) c) ≡ point_at (nth_support (unperturbed p).supports j) c
read_point p j c = sym (point_unranked (nth_support p.supports j) c) ∙ ap (λ (s : List Point). point_at s c) (sym (support_unranked p.supports j))

-- lists with the same entries have the same sign
same_zero : (u w : List ℤ) → ((e : ℕ) → at u e ≡ at w e) → IsZero u → IsZero w
same_zero u w f z = zero_from w (λ e. sym (f e) ∙ at-zero u e z)

same_minus : (u w : List ℤ) → ((e : ℕ) → at u e ≡ at w e) → (e : ℕ) → at (minus u) e ≡ at (minus w) e
same_minus u w f e = at-scale (neg_ℤ (pos 1)) u e ∙ ap (λ z. neg_ℤ (pos 1) *ℤ z) (f e) ∙ sym (at-scale (neg_ℤ (pos 1)) w e)

-- a line of the further point c of support j tells its side
abbrev Tells : Problem → Cell → Time → Normal → WallLine → ℕ → ℕ → Type 0
Tells p cell t v l j c =
    (IsPositive (value l t.entries t.over) ↔ IsAbove t v (nth_support p.supports j) (pair_at cell j).0 c)
    × (IsZero (value l t.entries t.over) ↔ IsLevel t v (nth_support p.supports j) (pair_at cell j).0 c)
    × (IsPositive (minus (value l t.entries t.over)) ↔ IsBelow t v (nth_support p.supports j) (pair_at cell j).0 c)

-- ---- one line, by a dependency that is positive at its point
module _ (p : Problem) (cell : Cell) (m : MovingNormal) (n : IsMovingNormal p cell m) (j c : ℕ) (further : IsFurtherAt p cell j c) (numbers : Numbers)
    (dependency : (q : Problem) → HasSamePoints q p → IsPositiveDependency q cell j c numbers) (last_is : numbers.last ≡ m.den) where
  abbrev u : Problem
  u = unperturbed p

  bound : suc j ≤ length cell
  bound = further_bound p.supports cell j c (pairs_long p.supports cell InRange n.of) further

  -- without ranks the sum is the wall line of the laws
  sum_wall : (t : Time) (e : ℕ) → at (sum_at t numbers u cell (point_at (nth_support u.supports j) c)) e
      ≡ at (line_at (wall (as_moving m n.positive (long_normal p cell m n)) (point_at (nth_support u.supports j) (pair_at cell j).0) (point_at (nth_support u.supports j) c)) t) e
  sum_wall t e =
      let same = same_unperturbed p in
      let mv = as_moving m n.positive (long_normal p cell m n) in
      let a = point_at (nth_support u.supports j) (pair_at cell j).0 in
      let x = point_at (nth_support u.supports j) c in
      let v = n.whole t in
      let d = dependency u (sym same) in
      let h = v.0.positive in
      let s = sum_gap u cell j c numbers bound d.1.0 d.1.1 t v.0 v.2 e in
      let w = wall_is u cell (same_well p u same n.problem) (same_of p u cell same n.of) (same_independent p u cell same n.independent) mv (moving_frame p cell m n) a x t v.0 v.2 e in
      mul_cancel (at (sum_at t numbers u cell x) e) (at (line_at (wall mv a x) t) e) v.0.over (λ z. omega (arith, ints, z, h))
      (turn (at (sum_at t numbers u cell x) e) v.0.over ∙ s ∙ ap (λ z. z *ℤ at (gap t v.0 a x) e) last_is ∙ sym w ∙ turn v.0.over (at (line_at (wall mv a x) t) e))
    where
      turn : (x y : ℤ) → x *ℤ y ≡ y *ℤ x
      turn x y = omega (arith, ints)

  module _ (l : WallLine) (alpha_is : l.alpha ≡ alpha m (point_at (nth_support p.supports j) (pair_at cell j).0) (point_at (nth_support p.supports j) c))
      (beta_is : l.beta ≡ beta m (point_at (nth_support p.supports j) (pair_at cell j).0) (point_at (nth_support p.supports j) c)) where
    coarse_sum : (t : Time) (e : ℕ) → t.over *ℤ at (l.alpha ∷ []) e +ℤ l.beta *ℤ at t.entries e ≡ at (sum_at t numbers u cell (with_rank 0 (point_at (nth_support p.supports j) c))) e
    coarse_sum t e =
        let mv = as_moving m n.positive (long_normal p cell m n) in
        let a = point_at (nth_support p.supports j) (pair_at cell j).0 in
        let x = point_at (nth_support p.supports j) c in
        ap₂ (λ y z. t.over *ℤ at (y ∷ []) e +ℤ z *ℤ at t.entries e) alpha_is beta_is
        ∙ sym (line_entry (as_line (line_of m 0 a 0 x)) t e)
        ∙ ap (λ (k : Line). at (line_at k t) e) (line_is m n.positive (long_normal p cell m n) 0 0 a x)
        ∙ ap₂ (λ (y z : Point). at (line_at (wall mv y z) t) e) (read_point p j (pair_at cell j).0) (read_point p j c)
        ∙ sym (sum_wall t e)
        ∙ ap (λ (y : Point). at (sum_at t numbers u cell y) e) (sym (read_point p j c))

    -- with ranks it is the value of the line
    value_sum : AreParts 1 l.fine → ((rank : ℕ) → entry l.fine rank ≡ sum_of_rank numbers p cell (point_at (nth_support p.supports j) c) rank)
        → (t : Time) (e : ℕ) → at (value l t.entries t.over) e ≡ at (sum_at t numbers p cell (point_at (nth_support p.supports j) c)) e
    value_sum parts fine t e =
        value_at l parts t e ∙ ap₂ (λ y z. y +ℤ t.over *ℤ z) (coarse_sum t e) (fine e)
        ∙ sym (sum_marked t numbers p cell (point_at (nth_support p.supports j) c) e)

    tells : AreParts 1 l.fine → ((rank : ℕ) → entry l.fine rank ≡ sum_of_rank numbers p cell (point_at (nth_support p.supports j) c) rank)
        → (t : Time) (v : Normal) → IsNormal p cell t v → Tells p cell t v l j c
    tells parts fine t v normal =
        let x = point_at (nth_support p.supports j) c in
        let f = value_sum parts fine t in
        let w = value l t.entries t.over in
        let s = sum_at t numbers p cell x in
        let g = λ (e : ℕ). sym (f e) in
        let h = (dependency_law p cell j c n.problem n.of n.independent further).2 numbers (dependency p refl) t v normal in (
          ((λ k. h.above.0 (positive-same w s f k)), (λ k. positive-same s w g (h.above.1 k))),
          ((λ k. h.level.0 (same_zero w s f k)), (λ k. same_zero s w g (h.level.1 k))),
          ((λ k. h.below.0 (positive-same (minus w) (minus s) (same_minus w s f) k)), (λ k. positive-same (minus s) (minus w) (same_minus s w g) (h.below.1 k))),
        )

-- the numbers of an elimination
module _ (p : Problem) (cell : Cell) (m : MovingNormal) (n : IsMovingNormal p cell m) (made : List (List ℤ)) (done : IsEliminated p.dimension (edge_rows p cell) made) (from : IsNormalFrom made m)
    (j c : ℕ) (further : IsFurtherAt p cell j c) where
  below : j < p.dimension
  below =
      let a = further_bound p.supports cell j c (pairs_long p.supports cell InRange n.of) further in
      let b = pairs_long p.supports cell InRange n.of in
      let e = n.problem.supports in
      omega (arith, a, b, e)

  positive : pos 0 <ℤ (inverse_of made).den
  positive = subst (λ z. pos 0 <ℤ z) from.over n.positive

  dependency_of : (q : Problem) → HasSamePoints q p → IsPositiveDependency q cell j c (circuit_of p cell made j c)
  dependency_of q same = numbers_however p cell j c n.problem n.of below further (inverse_of made) (made, done, refl) (coefficients_of j (inverse_of made) (difference p cell j c)) refl positive q same

  last_of_rows : (circuit_of p cell made j c).last ≡ m.den
  last_of_rows = numbers_last p cell j c n.problem n.of below further (inverse_of made) (made, done, refl) (coefficients_of j (inverse_of made) (difference p cell j c)) refl ∙ sym from.over

-- ---- all lines
-- a line of a further point, with its numbers
abbrev pub IsLineOf : Problem → Cell → MovingNormal → WallLine → Type 0
IsLineOf p cell m l = IsFurtherAt p cell (l.support - 1) l.position × HasNumbers p cell m l

module _ (p : Problem) (cell : Cell) (m : MovingNormal) (n : IsMovingNormal p cell m) (made : List (List ℤ)) (done : IsEliminated p.dimension (edge_rows p cell) made) (from : IsNormalFrom made m) where
  pub tell_sides : (lines : List WallLine) → Each lines (IsLineOf p cell m) → Each lines (HasFine p cell made) → TellSides p cell lines
  tell_sides lines of fine t v normal =
      each_weaker (λ l. IsLineOf p cell m l × HasFine p cell made l) (TellsSide p cell t v) lines
      (λ l h.
      let j = l.support - 1 in
      tells p cell m n j l.position h.0.0 (circuit_of p cell made j l.position) (dependency_of p cell m n made done from j l.position h.0.0) (last_of_rows p cell m n made done from j l.position h.0.0)
      l h.0.1.0 h.0.1.1 h.1.0 h.1.1 t v normal)
      (each_both (IsLineOf p cell m) (HasFine p cell made) lines of fine)

-- the same by columns over a number, whose numbers are dependencies
module _ (p : Problem) (cell : Cell) (m : MovingNormal) (n : IsMovingNormal p cell m) (inverse : Inverse) (den : inverse.den ≡ m.den)
    (dependent : (j c : ℕ) → IsFurtherAt p cell j c → (q : Problem) → HasSamePoints q p → IsPositiveDependency q cell j c (numbers_of (coefficients_of j inverse (difference p cell j c)))) where
  pub tell_sides_by : (lines : List WallLine) → Each lines (IsLineOf p cell m) → Each lines (λ l. IsFineOf p cell inverse (l.support - 1) l.position l.fine) → TellSides p cell lines
  tell_sides_by lines of fine t v normal =
      each_weaker (λ l. IsLineOf p cell m l × IsFineOf p cell inverse (l.support - 1) l.position l.fine) (TellsSide p cell t v) lines
      (λ l h.
      let j = l.support - 1 in
      tells p cell m n j l.position h.0.0 (numbers_of (coefficients_of j inverse (difference p cell j l.position))) (dependent j l.position h.0.0)
      (last-coefficients 0 j inverse.den (products (difference p cell j l.position) inverse.columns) ∙ den) l h.0.1.0 h.0.1.1 h.1.parts h.1.sum t v normal)
      (each_both (IsLineOf p cell m) (λ l. IsFineOf p cell inverse (l.support - 1) l.position l.fine) lines of fine)

-- ---- at a time P / Q, by numbers
abbrev Agree : List ℤ → List ℤ → Type 0
Agree w g = (IsPositive w ↔ IsPositive g) × (IsZero w ↔ IsZero g) × (IsPositive (minus w) ↔ IsPositive (scale (neg_ℤ (pos 1)) g))

abbrev AgreeAt : ℤ → List ℤ → Type 0
AgreeAt z g = (pos 0 <ℤ z ↔ IsPositive g) × (z ≡ pos 0 ↔ IsZero g) × (z <ℤ pos 0 ↔ IsPositive (scale (neg_ℤ (pos 1)) g))

one_number : (z w : ℤ) (g : List ℤ) → z ≡ w → Agree (z ∷ []) g → AgreeAt w g
one_number z w g e h = subst (λ y. AgreeAt y g) e (
  ((λ k. h.0.0 (inl k)), (λ k. positive z (h.0.1 k))),
  ((λ k. h.1.0 (k, tt)), (λ k. (h.1.1 k).0)),
  ((λ k. h.2.0 (inl (omega (arith, ints, k)))), (λ k. negative z (h.2.1 k))),
)
  where
    positive : (z : ℤ) → IsPositive (z ∷ []) → pos 0 <ℤ z
    positive z (inl k) = k
    positive z (inr k) = absurd k.1

    negative : (z : ℤ) → IsPositive ((neg_ℤ (pos 1) *ℤ z) ∷ []) → z <ℤ pos 0
    negative z (inl k) = omega (arith, ints, k)
    negative z (inr k) = absurd k.1

-- lines without infinitesimals
pub tell_sides_at : (p : Problem) (cell : Cell) (lines : List WallLine) → TellSides p cell (map coarse lines) → TellSidesAt p cell lines
tell_sides_at p cell lines h P Q positive v n =
    each_weaker (λ l. TellsSide p cell (moment P Q positive) v (coarse l)) (TellsSideAt p cell P Q positive v) lines
    (λ l w. one_number (Q *ℤ l.alpha +ℤ l.beta *ℤ P) (coarse_value l P Q) _ (turn Q l.alpha (l.beta *ℤ P)) w)
    (each_unmap coarse (TellsSide p cell (moment P Q positive) v) lines (h (moment P Q positive) v n))
  where
    turn : (q a b : ℤ) → q *ℤ a +ℤ b ≡ a *ℤ q +ℤ b
    turn q a b = omega (arith, ints)

-- the same numbers without ranks
module _ (p : Problem) (cell : Cell) (m : MovingNormal) where
  coarse_of : (l : WallLine) → IsLineOf p cell m l → IsLineOf (unperturbed p) cell m (coarse l)
  coarse_of l h =
      let j = l.support - 1 in (
        same_further p (unperturbed p) cell j l.position (same_unperturbed p) h.0,
        subst (λ (y : Point). (l.alpha ≡ alpha m (point_at (nth_support (unperturbed p).supports j) (pair_at cell j).0) y) × (l.beta ≡ beta m (point_at (nth_support (unperturbed p).supports j) (pair_at cell j).0) y)) (read_point p j l.position)
            (subst (λ (x : Point). (l.alpha ≡ alpha m x (with_rank 0 (point_at (nth_support p.supports j) l.position))) × (l.beta ≡ beta m x (with_rank 0 (point_at (nth_support p.supports j) l.position)))) (read_point p j (pair_at cell j).0) h.1),
      )

  pub coarse_lines : (lines : List WallLine) → Each lines (IsLineOf p cell m) → Each (map coarse lines) (IsLineOf (unperturbed p) cell m)
  coarse_lines lines h = each_map coarse (IsLineOf (unperturbed p) cell m) lines (each_weaker (IsLineOf p cell m) (λ l. IsLineOf (unperturbed p) cell m (coarse l)) lines coarse_of h)

-- and no parts
module _ (p : Problem) (cell : Cell) (made : List (List ℤ)) where
  pub coarse_fine : (l : WallLine) → HasFine (unperturbed p) cell made (coarse l)
  coarse_fine l =
      let j = l.support - 1 in (
        tt,
        λ rank. subst (λ (s : List Point). pos 0 ≡ sum_of_rank (circuit_of (unperturbed p) cell made j l.position) (unperturbed p) cell (point_at s l.position) rank) (sym (support_unranked p.supports j))
            (sym (sum_unranked (circuit_of (unperturbed p) cell made j l.position) p cell (nth_support p.supports j) l.position rank)),
      )

  pub coarse_fines : (lines : List WallLine) → Each (map coarse lines) (HasFine (unperturbed p) cell made)
  coarse_fines [] = tt
  coarse_fines (l ∷ lines) = (coarse_fine l, coarse_fines lines)
