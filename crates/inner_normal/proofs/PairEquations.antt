-- numbers that solve the equations of a cell's pairs are its normal at every time
use Rattle.std.proofs.Common.{◌≡◌, ℕ, List, [], ◌∷◌, length, arith, refl, sym, ap, ap₂, subst₂, ◌∙◌, ◌<ℤ◌}
use Rattle.std.proofs.lemmas.List.{length-map}
use Rattle.std.proofs.Math.IntN.{ℤ, pos, ◌+ℤ◌, ◌-ℤ◌, ◌*ℤ◌, neg_ℤ, *ℤ-zero, *ℤ_comm}
use Rattle.wide_int.proofs.Ring.{as_D, Ds, same_D}
use Rattle.int_vectors.specs.Vectors.{IsZero, add, sub, scale, dot, at, entries_at}
use Rattle.int_vectors.proofs.Entries.{length-scale, at-scale, at-add, at-zero}
use Rattle.cayley.specs.Times.{Time}
use Rattle.cayley.specs.Problems.{Point, Problem, IsProblem, point_at, with_rank, unperturbed}
use Rattle.cayley.specs.Cells.{Cell, EachPair, IsOf, IsIndependent}
use Rattle.cayley.specs.Normals.{Normal, height, gap, IsNormal}
use Rattle.cayley.specs.Mixed.{HasFirstEntries}
use Rattle.cayley.proofs.Order.Lexicographic.{minus_one}
use Rattle.cayley.proofs.Algebra.ScaledInverse.{dot-add, dot-scale}
use Rattle.cayley.proofs.Algebra.RowNormals.{gap-at}
use Rattle.cayley.proofs.OneCell.CellNormals.{same_long}
use Rattle.cayley.proofs.OneCell.OneNormal.{same_values, same_lists}
use Rattle.cayley.proofs.OneCell.MovingNormals.{Moving, moving, wall, IsFrame, moving_normal}
use Rattle.cayley.proofs.Ranking.Unperturbed.{same_unperturbed, same_well, same_of, same_independent, each_pair_unranked, point_unranked}
use Rattle.cayley.proofs.Life.Targets.{height-first}
use Rattle.inner_normal.specs.declared.moving.MovingNormal.{MovingNormal}
use Rattle.inner_normal.specs.MovingNormals.{numerators, IsMovingNormal}

abbrev pub difference : List Point → ℕ → ℕ → List ℤ
difference s a b = sub (point_at s b).coordinates (point_at s a).coordinates

-- the equations of a pair: of the numbers that rest, and of those that move
abbrev pub Levels : ℤ → List ℤ → List ℤ → List Point → ℕ → ℕ → Type 0
Levels den ps qs s a b =
    (dot (difference s a b) ps +ℤ den *ℤ ((point_at s b).base -ℤ (point_at s a).base) ≡ pos 0)
    × (dot (difference s a b) qs +ℤ den *ℤ ((point_at s b).speed -ℤ (point_at s a).speed) ≡ pos 0)

-- the two points of a pair are level at all times, where no rank counts
level_wall : (m : Moving) (x y : Point) → dot (sub y.coordinates x.coordinates) m.starts +ℤ m.den *ℤ (y.base -ℤ x.base) ≡ pos 0
    → dot (sub y.coordinates x.coordinates) m.slopes +ℤ m.den *ℤ (y.speed -ℤ x.speed) ≡ pos 0
    → IsZero (wall m (with_rank 0 x) (with_rank 0 y)).start × ((wall m (with_rank 0 x) (with_rank 0 y)).slope ≡ pos 0)
level_wall m x y e f = ((ap (λ z. dot (sub y.coordinates x.coordinates) m.starts +ℤ m.den *ℤ (y.base +ℤ z)) (minus_one x.base) ∙ e, tt), f)

pub frame_of : (p : Problem) (cell : Cell) (m : Moving) → length m.starts ≡ p.dimension → EachPair p.supports cell (Levels m.den m.starts m.slopes) → IsFrame (unperturbed p) cell m
frame_of p cell m l e = (
  l,
  each_pair_unranked (Levels m.den m.starts m.slopes) (λ s a b. IsZero (wall m (point_at s a) (point_at s b)).start × ((wall m (point_at s a) (point_at s b)).slope ≡ pos 0))
      (λ s a b h.
      subst₂ (λ (x y : Point). IsZero (wall m x y).start × ((wall m x y).slope ≡ pos 0)) (sym (point_unranked s a)) (sym (point_unranked s b))
      (level_wall m (point_at s a) (point_at s b) h.0 h.1))
      p.supports cell e,
)

-- ---- entry 0, with any ranks
pub first_rise : (t : Time) (x y : Point) → at (sub (height t y) (height t x)) 0 ≡ t.over *ℤ (y.base -ℤ x.base) +ℤ (y.speed -ℤ x.speed) *ℤ at t.entries 0
first_rise t x y =
    at-add (height t y) (scale (neg_ℤ (pos 1)) (height t x)) 0
    ∙ ap₂ ◌+ℤ◌ (height-first t y) (at-scale (neg_ℤ (pos 1)) (height t x) 0 ∙ minus_one _ ∙ ap neg_ℤ (height-first t x))
    ∙ step t.over y.base x.base y.speed x.speed (at t.entries 0)
  where
    step : (o a b s r z : ℤ) → o *ℤ a +ℤ s *ℤ z +ℤ neg_ℤ (o *ℤ b +ℤ r *ℤ z) ≡ o *ℤ (a -ℤ b) +ℤ (s -ℤ r) *ℤ z
    step o a b s r z = rw (as_D o, as_D a, as_D b, as_D s, as_D r, as_D z) (simp Ds (same_D _ _ _ _ (omega arith)))

pub dot_numerators : (t : Time) (ds ps qs : List ℤ) → dot ds (numerators t ps qs) ≡ t.over *ℤ dot ds ps +ℤ at t.entries 0 *ℤ dot ds qs
dot_numerators t ds ps qs = dot-add ds (scale t.over ps) (scale (at t.entries 0) qs) ∙ ap₂ ◌+ℤ◌ (dot-scale ds t.over ps) (dot-scale ds (at t.entries 0) qs)

-- of a pair: the numerators times the normal's denominator less its first entries times theirs
first_flat : (t : Time) (v : Normal) (den : ℤ) (ps qs : List ℤ) (x y : Point)
    → dot (sub y.coordinates x.coordinates) ps +ℤ den *ℤ (y.base -ℤ x.base) ≡ pos 0
    → dot (sub y.coordinates x.coordinates) qs +ℤ den *ℤ (y.speed -ℤ x.speed) ≡ pos 0
    → IsZero (gap t v x y)
    → dot (sub y.coordinates x.coordinates) (add (scale v.over (numerators t ps qs)) (scale (neg_ℤ (t.over *ℤ den)) (entries_at 0 v.entries))) ≡ pos 0
first_flat t v den ps qs x y e f g =
    let d = sub y.coordinates x.coordinates in
    let h : t.over *ℤ dot d (entries_at 0 v.entries) +ℤ v.over *ℤ (t.over *ℤ (y.base -ℤ x.base) +ℤ (y.speed -ℤ x.speed) *ℤ at t.entries 0) ≡ pos 0 =
    ap (λ z. t.over *ℤ dot d (entries_at 0 v.entries) +ℤ v.over *ℤ z) (sym (first_rise t x y)) ∙ sym (gap-at d v.entries (sub (height t y) (height t x)) t.over v.over 0) ∙ at-zero (gap t v x y) 0 g in
    dot-add d (scale v.over (numerators t ps qs)) (scale (neg_ℤ (t.over *ℤ den)) (entries_at 0 v.entries))
    ∙ ap₂ ◌+ℤ◌ (dot-scale d v.over (numerators t ps qs) ∙ ap (λ z. v.over *ℤ z) (dot_numerators t d ps qs)) (dot-scale d (neg_ℤ (t.over *ℤ den)) (entries_at 0 v.entries))
    ∙ together v.over t.over (at t.entries 0) den (dot d ps) (dot d qs) (dot d (entries_at 0 v.entries)) (y.base -ℤ x.base) (y.speed -ℤ x.speed) e f h
  where
    ring : (w o z d a b c r s : ℤ) → w *ℤ (o *ℤ a +ℤ z *ℤ b) +ℤ neg_ℤ (o *ℤ d) *ℤ c ≡ w *ℤ o *ℤ (a +ℤ d *ℤ r) +ℤ (w *ℤ z *ℤ (b +ℤ d *ℤ s) +ℤ neg_ℤ d *ℤ (o *ℤ c +ℤ w *ℤ (o *ℤ r +ℤ s *ℤ z)))
    ring w o z d a b c r s = rw (as_D w, as_D o, as_D z, as_D d, as_D a, as_D b, as_D c, as_D r, as_D s) (simp Ds (same_D _ _ _ _ (omega arith)))

    together : (w o z d a b c r s : ℤ) → a +ℤ d *ℤ r ≡ pos 0 → b +ℤ d *ℤ s ≡ pos 0 → o *ℤ c +ℤ w *ℤ (o *ℤ r +ℤ s *ℤ z) ≡ pos 0
        → w *ℤ (o *ℤ a +ℤ z *ℤ b) +ℤ neg_ℤ (o *ℤ d) *ℤ c ≡ pos 0
    together w o z d a b c r s e f h = ring w o z d a b c r s ∙ rw (e, f, h) (rw (*ℤ-zero (w *ℤ o), *ℤ-zero (w *ℤ z), *ℤ-zero (neg_ℤ d)) refl)

-- a difference that is zero, of lists of one length
module _ (p : Problem) (cell : Cell) (well : IsProblem p) (of : IsOf p cell) (ind : IsIndependent p cell) (m : MovingNormal) (positive : pos 0 <ℤ m.den)
    (lp : length m.p ≡ p.dimension) (lq : length m.q ≡ p.dimension) (levels : EachPair p.supports cell (Levels m.den m.p m.q)) where
  long_numerators : (t : Time) → length (numerators t m.p m.q) ≡ p.dimension
  long_numerators t = same_long (scale t.over m.p) (scale (at t.entries 0) m.q) p.dimension (length-scale t.over m.p ∙ lp) (length-scale (at t.entries 0) m.q ∙ lq)

  first_of : (t : Time) (v : Normal) → IsNormal p cell t v → HasFirstEntries v (numerators t m.p m.q) (t.over *ℤ m.den)
  first_of t v n =
      let l : length (entries_at 0 v.entries) ≡ p.dimension = length-map v.entries (λ w. at w 0) ∙ n.0 in
      same_lists v.over (t.over *ℤ m.den) (numerators t m.p m.q) (entries_at 0 v.entries) (long_numerators t ∙ sym l)
      (ind _ (same_long (scale v.over (numerators t m.p m.q)) (scale (neg_ℤ (t.over *ℤ m.den)) (entries_at 0 v.entries)) p.dimension (length-scale v.over (numerators t m.p m.q) ∙ long_numerators t) (length-scale (neg_ℤ (t.over *ℤ m.den)) (entries_at 0 v.entries) ∙ l))
      (each_flat p.supports cell n.1 levels))
    where
      each_flat : (supports : List (List Point)) (cell : Cell) → EachPair supports cell (λ s a b. IsZero (gap t v (point_at s a) (point_at s b))) → EachPair supports cell (Levels m.den m.p m.q)
          → EachPair supports cell (λ s a b. dot (difference s a b) (add (scale v.over (numerators t m.p m.q)) (scale (neg_ℤ (t.over *ℤ m.den)) (entries_at 0 v.entries))) ≡ pos 0)
      each_flat [] [] g e = tt
      each_flat [] (x ∷ cell) g e = g
      each_flat (s ∷ supports) [] g e = g
      each_flat (s ∷ supports) (x ∷ cell) g e = (first_flat t v m.den m.p m.q (point_at s x.0) (point_at s x.1) e.0.0 e.0.1 g.0, each_flat supports cell g.1 e.1)

  pub moving_of : IsMovingNormal p cell m
  unfolding moving
  moving_of =
      let mo : Moving = record { den = m.den; positive = positive; starts = m.p; slopes = m.q; long = lp ∙ sym lq } in
      let same = same_unperturbed p in
      let w = same_well p (unperturbed p) same well in
      let o = same_of p (unperturbed p) cell same of in
      let i = same_independent p (unperturbed p) cell same ind in
      let normal = λ (t : Time). moving_normal (unperturbed p) cell w o i mo (frame_of p cell mo lp levels) t in
      record {
        problem = well;
        of = of;
        independent = ind;
        positive = positive;
        long = (lp, lq);
        whole = λ t. (
          moving mo t,
          (*ℤ_comm m.den t.over, refl),
          normal t,
          λ v n. same_values (unperturbed p) cell t (moving mo t) v w o i (normal t) n,
        );
        first = first_of;
      }
