-- walls stand at times without entries past the greatest rank
use Rattle.std.proofs.Common.{◌≡◌, ◌≢◌, ◌⊎◌, ℕ, zero, suc, ◌-◌, ◌<◌, ◌≤◌, [], ◌∷◌, length, arith, refl, sym, ap, ap₂, ◌∙◌, inl, inr}
use Rattle.std.proofs.lemmas.Int.{ints}
use Rattle.std.proofs.Math.IntN.{ℤ, pos, ◌+ℤ◌, ◌-ℤ◌, ◌*ℤ◌}
use Rattle.wide_int.proofs.Order.{zero_product}
use Rattle.int_vectors.specs.Vectors.{IsZero, at, at_place, dot, entries_at}
use Rattle.int_vectors.proofs.Entries.{at-scale, at-add, not_zero, at-zero}
use Rattle.cayley.specs.Times.{Time, time_zero}
use Rattle.cayley.specs.Problems.{Point, Problem, point_at, IsProblem}
use Rattle.cayley.specs.Cells.{Cell, IsOf, IsIndependent}
use Rattle.cayley.specs.Normals.{Normal, mark, height, gap, IsNormal, IsAbove, IsLevel, NoneBelow}
use Rattle.cayley.specs.Mixed.{IsAlive}
use Rattle.cayley.specs.Dependencies.{pair_at, nth_support}
use Rattle.cayley.specs.StoredTies.{Spot, IsAlwaysLevel}
use Rattle.cayley.specs.NamedTies.{IsLevelThen}
use Rattle.cayley.specs.LongerTimes.{HasRanksUpTo, IsZeroPast, LongerTimesLaw}
use Rattle.cayley.proofs.Algebra.ScaledInverse.{dot-zero}
use Rattle.cayley.proofs.Lists.KnownPoints.{known_at, known_support, known_pairs}
use Rattle.cayley.proofs.Order.Lines.{line_at}
use Rattle.cayley.proofs.OneCell.Neighbours.{potential, gap-potential, dot-sub}
use Rattle.cayley.proofs.OneCell.CellLines.{base_of, height-at}
use Rattle.cayley.proofs.OneCell.CellNormals.{a_normal}
use Rattle.cayley.proofs.Life.Decisions.{alive_after, alive_before}
use Rattle.cayley.proofs.Life.Levels.{after_none_below, before_none_below}
use Rattle.cayley.proofs.Life.Spots.{first_spot}
use Rattle.cayley.proofs.Life.NamedTies.{points_in, spot_bound, pair_place, exact, line, level_to, flat_from, dec_level, level_at_any}
use Rattle.cayley.proofs.Algebra.Dependence.{length-map}
use Rattle.cayley.proofs.Lists.Pairs.{pairs_further}

-- ---- entries past the rank
place_past : (k : ℕ) (q : ℤ) (e : ℕ) → k < e → at (at_place k q) e ≡ pos 0
place_past zero q zero l = absurd (omega (arith, l))
place_past zero q (suc e) l = refl
place_past (suc k) q zero l = absurd (omega (arith, l))
place_past (suc k) q (suc e) l = place_past k q e (omega (arith, l))

mark_past : (q : ℤ) (r e : ℕ) → r < e → at (mark q r) e ≡ pos 0
mark_past q zero e l = refl
mark_past q (suc r) e l = place_past (suc r) q e l

height_past : (x : Point) (r e : ℕ) → x.rank ≤ r → r < e → at (height time_zero x) e ≡ pos 0
unfolding base_of
height_past x r e k l =
    let b = place_past 0 x.base e (omega (arith, l)) in
    let m = mark_past (pos 1) x.rank e (omega (arith, k, l)) in
    let s = at-add (x.base ∷ []) (mark (pos 1) x.rank) e ∙ ap₂ ◌+ℤ◌ b m in
    height-at time_zero x e ∙ nothing (at (base_of x) e) x.speed s
  where
    nothing : (b s : ℤ) → b ≡ pos 0 +ℤ pos 0 → pos 1 *ℤ b +ℤ s *ℤ pos 0 ≡ pos 0
    nothing b s h = omega (arith, ints, h)

potential_is : (v : Normal) (x : Point) (r e : ℕ) → x.rank ≤ r → r < e → potential time_zero v x e ≡ dot x.coordinates (entries_at e v.entries)
unfolding potential
potential_is v x r e k l = ap (λ h. pos 1 *ℤ dot x.coordinates (entries_at e v.entries) +ℤ v.over *ℤ h) (height_past x r e k l) ∙ nothing (dot x.coordinates (entries_at e v.entries)) v.over
  where
    nothing : (d o : ℤ) → pos 1 *ℤ d +ℤ o *ℤ pos 0 ≡ d
    nothing d o = omega (arith, ints)

other_zero : (k x : ℤ) → k ≢ pos 0 → k *ℤ x ≡ pos 0 → x ≡ pos 0
other_zero k x some e = elim (zero_product k x e) [ inl h ↦ absurd (some h) | inr h ↦ h ]

-- ---- one cell
module _ (p : Problem) (cell : Cell) (well : IsProblem p) (of : IsOf p cell) (ind : IsIndependent p cell) where
  abbrev Low : ℕ → Point → Type 0
  Low r x = x.rank ≤ r

  -- the entries of a normal past the ranks are orthogonal to all differences
  entry_zero : (r : ℕ) → HasRanksUpTo p r → (v : Normal) → IsNormal p cell time_zero v → (e : ℕ) → r < e → IsZero (entries_at e v.entries)
  entry_zero r ranks v n e l =
      ind (entries_at e v.entries) (length-map (λ w. at w e) v.entries ∙ n.0)
      (known_pairs (Low r) p.supports cell _ _ ranks (λ s a b k z.
      let x = point_at s a in let y = point_at s b in
      let i = potential_is v x r e (known_at (Low r) (omega arith) s (a - 1) k) l in
      let j = potential_is v y r e (known_at (Low r) (omega arith) s (b - 1) k) l in
      dot-sub y.coordinates x.coordinates (entries_at e v.entries) ∙ sym (ap₂ ◌-ℤ◌ j i) ∙ sym (gap-potential time_zero v x y e) ∙ at-zero (gap time_zero v x y) e z) n.1)

  start_past : (r : ℕ) → HasRanksUpTo p r → (j c e : ℕ) → r < e → at (exact p cell well of ind j c).line.start e ≡ pos 0
  start_past r ranks j c e l =
      let m = exact p cell well of ind j c in
      let v = a_normal p cell well of ind time_zero in
      let s = nth_support p.supports j in
      let k = known_support (Low r) p.supports j ranks in
      let x = point_at s (pair_at cell j).0 in
      let y = point_at s c in
      let z = entry_zero r ranks v.0 v.1 e l in
      let i = potential_is v.0 x r e (known_at (Low r) (omega arith) s ((pair_at cell j).0 - 1) k) l ∙ dot-zero x.coordinates (entries_at e v.0.entries) z in
      let h = potential_is v.0 y r e (known_at (Low r) (omega arith) s (c - 1) k) l ∙ dot-zero y.coordinates (entries_at e v.0.entries) z in
      let g = gap-potential time_zero v.0 x y e ∙ ap₂ ◌-ℤ◌ h i in
      let a = m.is time_zero v.0 v.1 e ∙ ap (λ w. m.g *ℤ w) g in
      let b : at (line_at m.line time_zero) e ≡ pos 1 *ℤ at m.line.start e +ℤ m.line.slope *ℤ pos 0 = simp (at-add, at-scale) refl in
      let o = v.0.positive in
      finish v.0.over m.g m.line.slope (at m.line.start e) (λ q. omega (arith, ints, o, q)) (ap (λ w. v.0.over *ℤ w) (sym b) ∙ a)
    where
      shorter : (s x : ℤ) → pos 1 *ℤ x +ℤ s *ℤ pos 0 ≡ x
      shorter s x = omega (arith, ints)

      nothing : (g : ℤ) → g *ℤ (pos 0 -ℤ pos 0) ≡ pos 0
      nothing g = omega (arith, ints)

      finish : (o g s x : ℤ) → o ≢ pos 0 → o *ℤ (pos 1 *ℤ x +ℤ s *ℤ pos 0) ≡ g *ℤ (pos 0 -ℤ pos 0) → x ≡ pos 0
      finish o g s x some e = other_zero o x some (ap (λ w. o *ℤ w) (sym (shorter s x)) ∙ e ∙ nothing g)

  level_cut : (r : ℕ) → HasRanksUpTo p r → (t : Time) (x : Spot) → IsLevelThen p cell t x → ¬ (IsAlwaysLevel p cell x) → IsZeroPast r t
  level_cut r ranks t x h moves e l =
      let z = level_to p cell well of ind t x h in
      let m = line p cell well of ind x in
      let b : at (line_at m t) e ≡ t.over *ℤ at m.start e +ℤ m.slope *ℤ at t.entries e = simp (at-add, at-scale) refl in
      other_zero m.slope (at t.entries e) (λ q. moves (flat_from p cell well of ind t x h.0 q z))
      (finish t.over m.slope (at m.start e) (at t.entries e) (start_past r ranks (x.0 - 1) x.1 e l) (sym b ∙ at-zero (line_at m t) e z))
    where
      finish : (q s a x : ℤ) → a ≡ pos 0 → q *ℤ a +ℤ s *ℤ x ≡ pos 0 → s *ℤ x ≡ pos 0
      finish q s a x f e = let c : q *ℤ a ≡ q *ℤ pos 0 = ap (λ w. q *ℤ w) f in omega (arith, ints, c, e)

  -- none below and not alive: some further point is level
  some_level : (t : Time) (v : Normal) → IsNormal p cell t v → NoneBelow p cell t v → ¬ (IsAlive p cell t) → (x : Spot) × IsLevelThen p cell t x
  some_level t v n below dead = elim (first_spot (IsLevelThen p cell t) (dec_level p cell well of ind t) (suc (length p.supports)) (suc (points_in p.supports)) (λ x h. spot_bound p cell x h.0)) [
    | inl q ↦ (q.0, q.1.0)
    | inr none ↦ absurd (dead (
      of,
      ind,
      (
        v,
        n,
        pairs_further (λ s a c. IsAbove t v s a c) _ p.supports cell of (λ j c f.
            elim (pair_place (λ s a c. IsAbove t v s a c ⊎ IsLevel t v s a c) p.supports cell below j c f) [
              | inl a ↦ a
              | inr z ↦ absurd (none (suc j, c) (level_at_any p cell well of ind t v j c n f z))
            ]),
      ),
    ))
  ]

-- what is alive at some time has no point that is level at all times
alive_moves : (p : Problem) (cell : Cell) (u : Time) → IsAlive p cell u → (x : Spot) → ¬ (IsAlwaysLevel p cell x)
alive_moves p cell u h x k =
    let v = h.2 in
    not_zero (gap u v.0 (point_at (nth_support p.supports (x.0 - 1)) (pair_at cell (x.0 - 1)).0) (point_at (nth_support p.supports (x.0 - 1)) x.1))
    (pair_place (λ s a c. IsAbove u v.0 s a c) p.supports cell v.2 (x.0 - 1) x.1 k.0.1) (k.1 u v.0 v.1)

pub longer_times_law : LongerTimesLaw
longer_times_law p cell r t well ranks = record {
  begins = λ h.
      let a = alive_after p cell t h.0 in
      let v = a_normal p cell well a.1.0 a.1.1 t in
      let x = some_level p cell well a.1.0 a.1.1 t v.0 v.1 (after_none_below p cell well t v.0 h.0 v.1) h.1 in
      level_cut p cell well a.1.0 a.1.1 r ranks t x.0 x.1 (alive_moves p cell a.0 a.1 x.0);
  ends = λ h.
      let a = alive_before p cell t h.0 in
      let v = a_normal p cell well a.1.0 a.1.1 t in
      let x = some_level p cell well a.1.0 a.1.1 t v.0 v.1 (before_none_below p cell well t v.0 h.0 v.1) h.1 in
      level_cut p cell well a.1.0 a.1.1 r ranks t x.0 x.1 (alive_moves p cell a.0 a.1 x.0);
  level = λ of ind x l moves. level_cut p cell well of ind r ranks t x l moves;
}
