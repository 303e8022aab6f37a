-- the wall lines of a moving normal are the lines of the further points: their signs at any normal, and the walls of the cell
use Rattle.std.proofs.Common.{◌≡◌, ◌↔◌, ℕ, List, [], ◌∷◌, arith, refl, sym, ap, ◌∙◌, inl, inr}
use Rattle.std.proofs.lemmas.Int.{ints}
use Rattle.std.proofs.Math.IntN.{ℤ, pos, ◌*ℤ◌, neg_ℤ}
use Rattle.wide_int.proofs.Ring.{as_D, Ds, same_D}
use Rattle.wide_int.proofs.Order.{mul_cancel}
use Rattle.int_vectors.specs.Vectors.{Each, IsZero, IsPositive, scale, at}
use Rattle.int_vectors.proofs.Entries.{at-scale}
use Rattle.cayley.specs.Times.{Time}
use Rattle.cayley.specs.Problems.{Point, Problem, IsProblem, point_at}
use Rattle.cayley.specs.Cells.{Cell, EachPair, IsOf, IsIndependent}
use Rattle.cayley.specs.Normals.{Normal, gap, IsNormal}
use Rattle.cayley.proofs.Order.Proportion.{in_proportion, zero_in_proportion}
use Rattle.cayley.proofs.Order.Lines.{Line, line_at}
use Rattle.cayley.proofs.Searching.Listing.{Has}
use Rattle.cayley.proofs.Order.Lined.{each_has}
use Rattle.cayley.proofs.OneCell.Gaps.{gap_two}
use Rattle.cayley.proofs.OneCell.CellLines.{ExactLine}
use Rattle.cayley.proofs.Life.Walls.{TellsAbove, SomeFurther, IsWalls}
use Rattle.cayley.proofs.OneCell.MovingNormals.{Moving, moving, IsFrame, wall, walls, moving_gap, moving_normal, all_walls, walls_all, FurtherHas}
use Rattle.cayley.proofs.Lists.Pairs.{pairs_map}

each_self : (ls : List Line) → Each ls (λ l. Has l ls)
each_self [] = tt
each_self (l ∷ ls) = (inl refl, each_later l ls ls (each_self ls))
  where
    each_later : (l : Line) (ls ms : List Line) → Each ms (λ k. Has k ls) → Each ms (λ k. Has k (l ∷ ls))
    each_later l ls [] h = tt
    each_later l ls (k ∷ ms) h = (inr h.0, each_later l ls ms h.1)

-- a further point of one of the supports
some_further : (P : Line → Point → Point → Type 0) (m : Moving) (Q : List Point → ℕ → ℕ → Type 0) (supports : List (List Point)) (cell : Cell) → EachPair supports cell Q
    → ((a c : Point) → P (wall m a c) a c) → EachPair supports cell (FurtherHas (λ l. SomeFurther supports cell (P l)) m)
some_further P m Q [] [] o f = tt
some_further P m Q [] (x ∷ cell) o f = absurd o
some_further P m Q (s ∷ supports) [] o f = absurd o
some_further P m Q (s ∷ supports) (x ∷ cell) o f = (
  (λ c h. inl (c, h, f (point_at s x.0) (point_at s c))),
  pairs_map supports cell _ _ (λ k a b g c h. inr (g c h)) (some_further P m Q supports cell o.1 f),
)

module _ (p : Problem) (cell : Cell) (well : IsProblem p) (of : IsOf p cell) (ind : IsIndependent p cell) (m : Moving) (frame : IsFrame p cell m) where
  -- at any normal the gap is the wall line, up to the two denominators
  pub wall_is : (a c : Point) (t : Time) (v : Normal) → IsNormal p cell t v → (e : ℕ) → v.over *ℤ at (line_at (wall m a c) t) e ≡ m.den *ℤ at (gap t v a c) e
  unfolding moving
  wall_is a c t v n e =
      let g = gap_two p cell well of ind t (moving m t) v (moving_normal p cell well of ind m frame t) n a c e in
      let w = moving_gap m t a c e in
      let h = t.positive in
      mul_cancel (v.over *ℤ at (line_at (wall m a c) t) e) (m.den *ℤ at (gap t v a c) e) t.over (λ z. omega (arith, ints, z, h))
      (first v.over (at (line_at (wall m a c) t) e) t.over ∙ ap (λ x. v.over *ℤ x) (sym w) ∙ g ∙ second m.den t.over (at (gap t v a c) e))
    where
      first : (o x q : ℤ) → (o *ℤ x) *ℤ q ≡ o *ℤ (q *ℤ x)
      first o x q = rw (as_D o, as_D x, as_D q) (simp Ds (same_D _ _ _ _ (omega arith)))

      second : (d q x : ℤ) → (d *ℤ q) *ℤ x ≡ (d *ℤ x) *ℤ q
      second d q x = rw (as_D d, as_D q, as_D x) (simp Ds (same_D _ _ _ _ (omega arith)))

  pub exact_wall : (a c : Point) → ExactLine p cell a c
  exact_wall a c = record { line = wall m a c; g = m.den; positive = m.positive; is = wall_is a c }

  -- above, level and below by the wall line
  pub wall_above : (a c : Point) → TellsAbove p cell a c (wall m a c)
  wall_above a c t v n = (
    (λ h. in_proportion (line_at (wall m a c) t) (gap t v a c) v.over m.den v.positive m.positive (wall_is a c t v n) h),
    (λ h. in_proportion (gap t v a c) (line_at (wall m a c) t) m.den v.over m.positive v.positive (λ e. sym (wall_is a c t v n e)) h),
  )

  pub wall_level : (a c : Point) (t : Time) (v : Normal) → IsNormal p cell t v → IsZero (line_at (wall m a c) t) ↔ IsZero (gap t v a c)
  wall_level a c t v n = (
    (λ h. zero_in_proportion (line_at (wall m a c) t) (gap t v a c) v.over m.den (λ z. let k = m.positive in omega (arith, ints, z, k)) (wall_is a c t v n) h),
    (λ h. zero_in_proportion (gap t v a c) (line_at (wall m a c) t) m.den v.over (λ z. let k = v.positive in omega (arith, ints, z, k)) (λ e. sym (wall_is a c t v n e)) h),
  )

  pub wall_below : (a c : Point) (t : Time) (v : Normal) → IsNormal p cell t v → IsPositive (scale (neg_ℤ (pos 1)) (line_at (wall m a c) t)) ↔ IsPositive (scale (neg_ℤ (pos 1)) (gap t v a c))
  wall_below a c t v n = (
    (λ h. in_proportion (scale (neg_ℤ (pos 1)) (line_at (wall m a c) t)) (scale (neg_ℤ (pos 1)) (gap t v a c)) v.over m.den v.positive m.positive (λ e. turned e) h),
    (λ h. in_proportion (scale (neg_ℤ (pos 1)) (gap t v a c)) (scale (neg_ℤ (pos 1)) (line_at (wall m a c) t)) m.den v.over m.positive v.positive (λ e. sym (turned e)) h),
  )
    where
      swap : (o x : ℤ) → o *ℤ (neg_ℤ (pos 1) *ℤ x) ≡ neg_ℤ (pos 1) *ℤ (o *ℤ x)
      swap o x = swap_by o (neg_ℤ (pos 1)) x
        where
          swap_by : (o k x : ℤ) → o *ℤ (k *ℤ x) ≡ k *ℤ (o *ℤ x)
          swap_by o k x = rw (as_D o, as_D k, as_D x) (simp Ds (same_D _ _ _ _ (omega arith)))

      turned : (e : ℕ) → v.over *ℤ at (scale (neg_ℤ (pos 1)) (line_at (wall m a c) t)) e ≡ m.den *ℤ at (scale (neg_ℤ (pos 1)) (gap t v a c)) e
      turned e =
          ap (λ x. v.over *ℤ x) (at-scale (neg_ℤ (pos 1)) (line_at (wall m a c) t) e) ∙ swap v.over (at (line_at (wall m a c) t) e)
          ∙ ap (λ x. neg_ℤ (pos 1) *ℤ x) (wall_is a c t v n e)
          ∙ sym (swap m.den (at (gap t v a c) e)) ∙ ap (λ x. m.den *ℤ x) (sym (at-scale (neg_ℤ (pos 1)) (gap t v a c) e))

  -- they are the walls of the cell
  pub frame_walls : IsWalls p cell (walls m p.supports cell)
  frame_walls = record {
    sound = λ l h. each_has (λ l. SomeFurther p.supports cell (λ a c. TellsAbove p cell a c l)) (walls m p.supports cell) l
        (all_walls (λ l. SomeFurther p.supports cell (λ a c. TellsAbove p cell a c l)) m p.supports cell (some_further (λ l a c. TellsAbove p cell a c l) m _ p.supports cell of wall_above)) h;
    all = pairs_map p.supports cell _ _ (λ s a b g c f. (wall m (point_at s a) (point_at s c), g c f, wall_above (point_at s a) (point_at s c)))
        (walls_all (λ l. Has l (walls m p.supports cell)) m _ p.supports cell of (each_self (walls m p.supports cell)));
  }
