-- the moving normal of a cell of file points is that of the problem that has the file points alone
use Rattle.std.proofs.Common.{◌≡◌, ℕ, zero, suc, ◌+◌, ◌-◌, ◌<◌, ◌≤◌, inl, inr, List, [], ◌∷◌, length, map, take, arith, sym, ap, subst₂, ◌∙◌}
use Rattle.std.proofs.lemmas.Int.{ints}
use Rattle.std.proofs.Math.IntN.{ℤ, pos, ◌+ℤ◌, ◌-ℤ◌, ◌*ℤ◌, *ℤ-zero}
use Rattle.wide_int.proofs.Order.{zero_product}
use Rattle.wide_int.proofs.Ring.{as_D, Ds, same_D}
use Rattle.int_vectors.specs.Vectors.{IsZero, sub, dot, at, entries_at}
use Rattle.cayley.specs.Times.{Time, time_zero}
use Rattle.cayley.specs.Problems.{Version, Point, Problem, IsProblem, origin, point_at, ranked_supports, first_points, file_points, unperturbed, HasSamePoints}
use Rattle.cayley.specs.Problems.Version.{version1, version2}
use Rattle.cayley.specs.Cells.{Cell, EachPair, IsOf, IsIndependent}
use Rattle.cayley.specs.Normals.{Normal, height, gap}
use Rattle.cayley.specs.Mixed.{HasFirstEntries}
use Rattle.int_vectors.proofs.Each.{read_take}
use Rattle.int_vectors.proofs.Entries.{at-zero}
use Rattle.cayley.proofs.Algebra.ScaledInverse.{dot-scale}
use Rattle.cayley.proofs.Algebra.RowNormals.{gap-at}
use Rattle.cayley.proofs.OneCell.CellNormals.{a_normal}
use Rattle.cayley.proofs.Ranking.Unperturbed.{point_unranked, same_unperturbed, same_each_pair, same_of, same_independent, unranked}
use Rattle.cayley.proofs.Ranking.Unranked.{unranked_supports}
use Rattle.inner_normal.specs.declared.moving.MovingNormal.{MovingNormal}
use Rattle.inner_normal.specs.MovingNormals.{numerators, IsMovingNormal}
use Rattle.inner_normal.proofs.PairEquations.{difference, Levels, dot_numerators, first_rise, moving_of}

-- ---- the pairs' equations, from the first entries of the normals at two times
-- the equation at a time of numerator z and denominator o
abbrev AtTime : ℤ → ℤ → MovingNormal → List Point → ℕ → ℕ → Type 0
AtTime o z m s a b =
    o *ℤ (dot (difference s a b) m.p +ℤ m.den *ℤ ((point_at s b).base -ℤ (point_at s a).base))
    +ℤ z *ℤ (dot (difference s a b) m.q +ℤ m.den *ℤ ((point_at s b).speed -ℤ (point_at s a).speed)) ≡ pos 0

time_equation : (t : Time) (v : Normal) (m : MovingNormal) (x y : Point) → HasFirstEntries v (numerators t m.p m.q) (t.over *ℤ m.den) → IsZero (gap t v x y)
    → t.over *ℤ (dot (sub y.coordinates x.coordinates) m.p +ℤ m.den *ℤ (y.base -ℤ x.base))
    +ℤ at t.entries 0 *ℤ (dot (sub y.coordinates x.coordinates) m.q +ℤ m.den *ℤ (y.speed -ℤ x.speed)) ≡ pos 0
time_equation t v m x y f g =
    let d = sub y.coordinates x.coordinates in
    let h : t.over *ℤ dot d (entries_at 0 v.entries) +ℤ v.over *ℤ (t.over *ℤ (y.base -ℤ x.base) +ℤ (y.speed -ℤ x.speed) *ℤ at t.entries 0) ≡ pos 0 =
    ap (λ z. t.over *ℤ dot d (entries_at 0 v.entries) +ℤ v.over *ℤ z) (sym (first_rise t x y)) ∙ sym (gap-at d v.entries (sub (height t y) (height t x)) t.over v.over 0) ∙ at-zero (gap t v x y) 0 g in
    let e : v.over *ℤ (t.over *ℤ dot d m.p +ℤ at t.entries 0 *ℤ dot d m.q) ≡ t.over *ℤ m.den *ℤ dot d (entries_at 0 v.entries) =
    ap (λ z. v.over *ℤ z) (sym (dot_numerators t d m.p m.q)) ∙ sym (dot-scale d v.over (numerators t m.p m.q)) ∙ ap (dot d) f ∙ dot-scale d (t.over *ℤ m.den) (entries_at 0 v.entries) in
    let z = together v.over t.over (at t.entries 0) m.den (dot d m.p) (dot d m.q) (dot d (entries_at 0 v.entries)) (y.base -ℤ x.base) (y.speed -ℤ x.speed) e h in
    elim (zero_product v.over _ z) [ inl n ↦ absurd (let q = v.positive in omega (arith, ints, n, q)) | inr k ↦ k ]
  where
    ring : (w o z d a b c r s : ℤ) → w *ℤ (o *ℤ (a +ℤ d *ℤ r) +ℤ z *ℤ (b +ℤ d *ℤ s)) +ℤ o *ℤ d *ℤ c ≡ w *ℤ (o *ℤ a +ℤ z *ℤ b) +ℤ d *ℤ (o *ℤ c +ℤ w *ℤ (o *ℤ r +ℤ s *ℤ z))
    ring w o z d a b c r s = rw (as_D w, as_D o, as_D z, as_D d, as_D a, as_D b, as_D c, as_D r, as_D s) (simp Ds (same_D _ _ _ _ (omega arith)))

    together : (w o z d a b c r s : ℤ) → w *ℤ (o *ℤ a +ℤ z *ℤ b) ≡ o *ℤ d *ℤ c → o *ℤ c +ℤ w *ℤ (o *ℤ r +ℤ s *ℤ z) ≡ pos 0 → w *ℤ (o *ℤ (a +ℤ d *ℤ r) +ℤ z *ℤ (b +ℤ d *ℤ s)) ≡ pos 0
    together w o z d a b c r s e h =
        let k = ring w o z d a b c r s in
        let l : d *ℤ (o *ℤ c +ℤ w *ℤ (o *ℤ r +ℤ s *ℤ z)) ≡ pos 0 = rw h (*ℤ-zero d) in
        omega (arith, ints, e, k, l)

time_one : Time
time_one = record { entries = pos 1 ∷ []; over = pos 1; positive = record { lt = tt } }

abbrev InRange : List Point → ℕ → ℕ → Type 0
InRange s a b = (1 ≤ a) × (a < b) × (b ≤ length s)

module _ (p : Problem) (cell : Cell) (m : MovingNormal) (n : IsMovingNormal p cell m) where
  at_time : (t : Time) → EachPair p.supports cell (AtTime t.over (at t.entries 0) m)
  at_time t =
      let v = a_normal p cell n.problem n.of n.independent t in
      each v.0 p.supports cell v.1.1 (n.first t v.0 v.1)
    where
      each : (v : Normal) (supports : List (List Point)) (cell : Cell) → EachPair supports cell (λ s a b. IsZero (gap t v (point_at s a) (point_at s b))) → HasFirstEntries v (numerators t m.p m.q) (t.over *ℤ m.den)
          → EachPair supports cell (AtTime t.over (at t.entries 0) m)
      each v [] [] g f = tt
      each v [] (x ∷ cell) g f = g
      each v (s ∷ supports) [] g f = g
      each v (s ∷ supports) (x ∷ cell) g f = (time_equation t v m (point_at s x.0) (point_at s x.1) f g.0, each v supports cell g.1 f)

  pub levels_of : EachPair p.supports cell (Levels m.den m.p m.q)
  unfolding time_one
  levels_of = both p.supports cell (at_time time_zero) (at_time time_one)
    where
      rest : (a b : ℤ) → pos 1 *ℤ a +ℤ pos 0 *ℤ b ≡ pos 0 → a ≡ pos 0
      rest a b e = omega (arith, ints, e)

      move : (a b : ℤ) → a ≡ pos 0 → pos 1 *ℤ a +ℤ pos 1 *ℤ b ≡ pos 0 → b ≡ pos 0
      move a b z e = omega (arith, ints, z, e)

      both : (supports : List (List Point)) (cell : Cell) → EachPair supports cell (AtTime (pos 1) (pos 0) m) → EachPair supports cell (AtTime (pos 1) (pos 1) m) → EachPair supports cell (Levels m.den m.p m.q)
      both [] [] e f = tt
      both [] (x ∷ cell) e f = e
      both (s ∷ supports) [] e f = e
      both (s ∷ supports) (x ∷ cell) e f =
          let a = point_at s x.0 in
          let b = point_at s x.1 in
          let ra = dot (sub b.coordinates a.coordinates) m.p +ℤ m.den *ℤ (b.base -ℤ a.base) in
          let rb = dot (sub b.coordinates a.coordinates) m.q +ℤ m.den *ℤ (b.speed -ℤ a.speed) in
          let r = rest ra rb e.0 in
          ((r, move ra rb r f.0), both supports cell e.1 f.1)

-- the problem with the first points of each support, their ranks as they were
abbrev fronts : Problem → Problem
fronts p = record p { supports = first_points p.files p.supports }

ranked_all : (p : Problem) (version : Version) (files : List ℕ) → map unranked (ranked_supports version files p.supports) ≡ map unranked p.supports
ranked_all p version1 files = sym (ap (λ (q : Problem). q.supports) (same_unperturbed p))
ranked_all p version2 files = unranked_supports 1 1 files p.supports

same_fronts : (p : Problem) → HasSamePoints (fronts p) (file_points p)
same_fronts p = ap (λ (ss : List (List Point)). record (unperturbed p) { supports = ss }) (sym (ranked_all (fronts p) p.version p.files))

-- ---- the first points of each support
take_point : (f k : ℕ) (s : List Point) → 1 ≤ k → k ≤ length (take f s) → point_at (take f s) k ≡ point_at s k
take_point f k s p q = read_take s f (k - 1) origin (let l = at_most f s in omega (arith, p, q, l))
  where
    at_most : (f : ℕ) (s : List Point) → length (take f s) ≤ f
    at_most zero s = omega arith
    at_most (suc f) [] = omega arith
    at_most (suc f) (x ∷ s) = let h = at_most f s in omega (arith, h)

module _ (P : Point → Point → Type 0) where
  abbrev OfPoints : List Point → ℕ → ℕ → Type 0
  OfPoints s a b = P (point_at s a) (point_at s b)

  to_fronts : (files : List ℕ) (supports : List (List Point)) (cell : Cell) → EachPair (first_points files supports) cell InRange → EachPair supports cell OfPoints → EachPair (first_points files supports) cell OfPoints
  to_fronts [] supports [] r e = tt
  to_fronts [] supports (x ∷ cell) r e = r
  to_fronts (f ∷ files) [] [] r e = tt
  to_fronts (f ∷ files) [] (x ∷ cell) r e = r
  to_fronts (f ∷ files) (s ∷ supports) [] r e = r
  to_fronts (f ∷ files) (s ∷ supports) (x ∷ cell) r e = (
    subst₂ P (sym (take_point f x.0 s r.0.0 (omega (arith, r.0.1, r.0.2)))) (sym (take_point f x.1 s (omega (arith, r.0.0, r.0.1)) r.0.2)) e.0,
    to_fronts files supports cell r.1 e.1,
  )

  from_fronts : (Q : List Point → ℕ → ℕ → Type 0) (files : List ℕ) (supports : List (List Point)) (cell : Cell) → EachPair (first_points files supports) cell InRange → EachPair supports cell Q → EachPair (first_points files supports) cell OfPoints → EachPair supports cell OfPoints
  from_fronts Q [] [] [] r o e = tt
  from_fronts Q [] (s ∷ supports) [] r o e = o
  from_fronts Q [] supports (x ∷ cell) r o e = absurd r
  from_fronts Q (f ∷ files) [] [] r o e = tt
  from_fronts Q (f ∷ files) [] (x ∷ cell) r o e = r
  from_fronts Q (f ∷ files) (s ∷ supports) [] r o e = r
  from_fronts Q (f ∷ files) (s ∷ supports) (x ∷ cell) r o e = (
    subst₂ P (take_point f x.0 s r.0.0 (omega (arith, r.0.1, r.0.2))) (take_point f x.1 s (omega (arith, r.0.0, r.0.1)) r.0.2) e.0,
    from_fronts Q files supports cell r.1 o.1 e.1,
  )

abbrev LevelPoints : MovingNormal → Point → Point → Type 0
LevelPoints m x y =
    (dot (sub y.coordinates x.coordinates) m.p +ℤ m.den *ℤ (y.base -ℤ x.base) ≡ pos 0)
    × (dot (sub y.coordinates x.coordinates) m.q +ℤ m.den *ℤ (y.speed -ℤ x.speed) ≡ pos 0)

-- of a cell of a problem whose pairs are file points
pub of_file_points : (p : Problem) (cell : Cell) (m : MovingNormal) → IsProblem (file_points p) → IsOf (file_points p) cell → IsMovingNormal p cell m → IsMovingNormal (file_points p) cell m
of_file_points p cell m well of n =
    let same = same_fronts p in
    let inside = same_of (file_points p) (fronts p) cell (sym same) of in
    let levels = to_fronts (LevelPoints m) p.files p.supports cell inside (levels_of p cell m n) in
    let ind : IsIndependent (fronts p) cell = λ v l e. n.independent v l (from_fronts (λ x y. dot (sub y.coordinates x.coordinates) v ≡ pos 0) _ p.files p.supports cell inside n.of e) in
    moving_of (file_points p) cell well of (same_independent (fronts p) (file_points p) cell same ind) m n.positive n.long.0 n.long.1
    (same_each_pair (Levels m.den m.p m.q)
    (λ s a b w. subst₂ (LevelPoints m) (sym (point_unranked s a)) (sym (point_unranked s b)) w)
    (λ s a b w. subst₂ (LevelPoints m) (point_unranked s a) (point_unranked s b) w)
    (fronts p) (file_points p) cell same levels)
