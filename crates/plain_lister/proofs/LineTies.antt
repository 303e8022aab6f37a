-- the tie of a cell's lines is the tie of the cell
use Rattle.std.proofs.Common.{◌≡◌, ◌⊎◌, inl, inr, ℕ, suc, ◌+◌, ◌-◌, ◌<◌, ◌≤◌, List, [], ◌∷◌, length, Option, Some, None, MatchOption, slice_index_or, arith, refl, sym, ap, subst, ◌∙◌, ◌<ℤ◌}
use Rattle.std.proofs.lemmas.Int.{ints}
use Rattle.std.proofs.lemmas.List.{get_or_default}
use Rattle.std.proofs.Math.IntN.{ℤ, pos, neg_ℤ, ◌*ℤ◌}
use Rattle.std.specs.Option.{option_map}
use Rattle.int_vectors.specs.Vectors.{IsZero, scale}
use Rattle.lex_height.specs.Entries.{entries}
use Rattle.lex_height.specs.Values as lex
use Rattle.cayley.specs.Times.{Time}
use Rattle.cayley.specs.Problems.{Problem, IsProblem}
use Rattle.cayley.specs.Cells.{Cell, IsOf, IsIndependent}
use Rattle.cayley.specs.Normals.{Normal, IsNormal, IsAbove, IsLevel}
use Rattle.cayley.specs.Dependencies.{pair_at, IsFurtherAt, nth_support}
use Rattle.cayley.specs.StoredTies.{Spot, IsFurtherSpot, IsAlwaysLevel}
use Rattle.cayley.specs.TieProofs.{spot_of}
use Rattle.cayley.specs.NamedTies as named
use Rattle.cayley.specs.NamedTies.{IsLevelThen, IsNamedTie}
use Rattle.cayley.proofs.OneCell.CellNormals.{a_normal}
use Rattle.cayley.proofs.Life.NamedTies.{pair_place, named_tie_law}
use Rattle.cayley.proofs.Lists.Pairs.{pairs_further}
use Rattle.crossing.specs.declared.line.WallLine.{WallLine}
use Rattle.crossing.specs.declared.ties.Tie.{Tie}
use Rattle.crossing.specs.Lines.{IsFlat}
use Rattle.crossing.specs.Places.{HasAt, AreFirstTwo, origin}
use Rattle.crossing.specs.Ties as lines
use Rattle.crossing.specs.Ties.{IsZeroThen, IsNotNegative}
use Rattle.cone_walls.specs.Places.{AreOfFurtherPoints}
use Rattle.cone_walls.specs.Sides.{TellsSide, TellSides}
use Rattle.plain_lister.specs.declared.naming.NamedTie.{NamedTie}
use Rattle.plain_lister.specs.LeastTies.{HasTie, IsNamedOf}
use Rattle.plain_lister.specs.TieProgress.{spot_at, HasPlaces, IsByPoints}
use Rattle.plain_lister.proofs.LinePlaces.{line_at, each_nth, further_spot, place_of, first_spot, two_spots, two_places}

abbrev as_time : (t : List ℤ) (q : ℤ) → pos 0 <ℤ q → Time
as_time t q pq = record { entries = t; over = q; positive = pq }

-- a spot's support and first point of its pair
abbrev Level : Problem → Cell → Time → Normal → Spot → Type 0
Level p cell t v x = IsLevel t v (nth_support p.supports (x.0 - 1)) (pair_at cell (x.0 - 1)).0 x.1

zero_turned : (t : List ℤ) → IsZero t → IsZero (scale (neg_ℤ (pos 1)) t)
zero_turned [] z = tt
zero_turned (x ∷ t) z = (turned x z.0, zero_turned t z.1)
  where
    turned : (x : ℤ) → x ≡ pos 0 → neg_ℤ (pos 1) *ℤ x ≡ pos 0
    turned x e = omega (arith, ints, e)

module _ (p : Problem) (cell : Cell) (well : IsProblem p) (of : IsOf p cell) (ind : IsIndependent p cell) (ls : List WallLine) (places : AreOfFurtherPoints p cell ls) (sides : TellSides p cell ls) where
  side : (t : Time) (v : Normal) → IsNormal p cell t v → (k : ℕ) → 1 ≤ k → k ≤ length ls → TellsSide p cell t v (line_at ls k)
  side t v n k a b = each_nth (TellsSide p cell t v) ls (k - 1) (omega (arith, a, b)) (sides t v n)

  -- ---- the span
  span_lines : (t : Time) → named.InSpan p cell t → lines.InSpan ls t.entries t.over
  span_lines t h k d lt =
      subst (IsNotNegative t.entries t.over) (get_or_default ls k origin d lt)
      (let e : k ≡ k + 1 - 1 = omega arith in
      subst (λ j. IsNotNegative t.entries t.over (slice_index_or ls j origin)) (sym e) (here (k + 1) (omega arith) (omega (arith, lt))))
    where
      here : (j : ℕ) → 1 ≤ j → j ≤ length ls → IsNotNegative t.entries t.over (line_at ls j)
      here j a b =
          let s = side t h.0 h.1 j a b in
          let f = further_spot p cell ls places j a b in
          elim (pair_place (λ s a c. IsAbove t h.0 s a c ⊎ IsLevel t h.0 s a c) p.supports cell h.2 ((spot_at ls j).0 - 1) (spot_at ls j).1 f.1) [ inl u ↦ inl (s.0.1 u) | inr z ↦ inr (s.1.1 z) ]

  span_cell : (t : Time) → lines.InSpan ls t.entries t.over → named.InSpan p cell t
  span_cell t h =
      let v = a_normal p cell well of ind t in (
        v.0,
        v.1,
        pairs_further (λ s a c. IsAbove t v.0 s a c ⊎ IsLevel t v.0 s a c) _ p.supports cell of (λ j c f.
            let e : j ≡ suc j - 1 = omega arith in
            subst (λ i. IsAbove t v.0 (nth_support p.supports i) (pair_at cell i).0 c ⊎ IsLevel t v.0 (nth_support p.supports i) (pair_at cell i).0 c) (sym e)
            (at_spot v.0 v.1 (suc j, c) (omega arith, subst (λ i. IsFurtherAt p cell i c) e f))),
      )
    where
      at_spot : (v : Normal) → IsNormal p cell t v → (x : Spot) → IsFurtherSpot p cell x
          → IsAbove t v (nth_support p.supports (x.0 - 1)) (pair_at cell (x.0 - 1)).0 x.1 ⊎ IsLevel t v (nth_support p.supports (x.0 - 1)) (pair_at cell (x.0 - 1)).0 x.1
      at_spot v n x f =
          let r = place_of p cell ls places x f in
          let s = side t v n r.0 r.1 r.2 in
          let lt : r.0 - 1 < length ls = (let a = r.1 in let b = r.2 in omega (arith, a, b)) in
          subst (λ (y : Spot). IsAbove t v (nth_support p.supports (y.0 - 1)) (pair_at cell (y.0 - 1)).0 y.1 ⊎ IsLevel t v (nth_support p.supports (y.0 - 1)) (pair_at cell (y.0 - 1)).0 y.1) r.3
          (elim (h (r.0 - 1) origin lt) [ inl u ↦ inl (s.0.0 u) | inr z ↦ inr (s.1.0 z) ])

  -- ---- level points
  level_there : (t : Time) (k : ℕ) → HasAt (IsZeroThen t.entries t.over) ls k → IsLevelThen p cell t (spot_at ls k)
  level_there t k h = (further_spot p cell ls places k h.0 h.1, λ v n. (side t v n k h.0 h.1).1.0 h.2)

  level_back : (t : Time) (x : Spot) → IsLevelThen p cell t x → (k : ℕ) × HasAt (IsZeroThen t.entries t.over) ls k × (spot_at ls k ≡ x)
  level_back t x h =
      let r = place_of p cell ls places x h.0 in
      let v = a_normal p cell well of ind t in
      (r.0, (r.1, r.2, (side t v.0 v.1 r.0 r.1 r.2).1.1 (subst (Level p cell t v.0) (sym r.3) (h.1 v.0 v.1))), r.3)

  always_there : (k : ℕ) → HasAt IsFlat ls k → IsAlwaysLevel p cell (spot_at ls k)
  always_there k h = (further_spot p cell ls places k h.0 h.1, λ t v n. (side t v n k h.0 h.1).1.0 (h.2 t.entries t.over t.positive))

  always_back : (x : Spot) → IsAlwaysLevel p cell x → (k : ℕ) × HasAt IsFlat ls k × (spot_at ls k ≡ x)
  always_back x h =
      let r = place_of p cell ls places x h.0 in (
        r.0,
        (
          r.1,
          r.2,
          λ t q pq.
              let u = as_time t q pq in
              let v = a_normal p cell well of ind u in
              (side u v.0 v.1 r.0 r.1 r.2).1.1 (subst (Level p cell u v.0) (sym r.3) (h.1 u v.0 v.1)),
        ),
        r.3,
      )

  -- ---- the ends of the span
  lower_cell : (t : Time) → lines.IsLowerEnd ls t.entries t.over → named.IsLowerEnd p cell t
  lower_cell t h = (span_cell t h.0, λ u b s. h.1 u.entries u.over u.positive b (span_lines u s))

  upper_cell : (t : Time) → lines.IsUpperEnd ls t.entries t.over → named.IsUpperEnd p cell t
  upper_cell t h = (span_cell t h.0, λ u b s. h.1 u.entries u.over u.positive b (span_lines u s))

  lower_lines : (t : Time) → named.IsLowerEnd p cell t → lines.IsLowerEnd ls t.entries t.over
  lower_lines t h = (span_lines t h.0, λ u q pq b s. h.1 (as_time u q pq) b (span_cell (as_time u q pq) s))

  upper_lines : (t : Time) → named.IsUpperEnd p cell t → lines.IsUpperEnd ls t.entries t.over
  upper_lines t h = (span_lines t h.0, λ u q pq b s. h.1 (as_time u q pq) b (span_cell (as_time u q pq) s))

  no_lower_cell : lines.NoLowerEnd ls → named.NoLowerEnd p cell
  no_lower_cell h u k = h u.entries u.over u.positive (lower_lines u k)

  no_upper_cell : lines.NoUpperEnd ls → named.NoUpperEnd p cell
  no_upper_cell h u k = h u.entries u.over u.positive (upper_lines u k)

  -- ---- the tie
  named_as : (t : Time) (first : ℕ) (second : Option ℕ) → lines.IsTieAt ls t.entries t.over first second → named.IsNamedAs p cell t (spot_at ls first) (option_map (spot_at ls) second)
  named_as t first None h = (
    first_spot p cell ls places IsFlat (IsAlwaysLevel p cell) always_there always_back first h.0,
    span_cell t h.1,
    elim h.2 [
      | inl k ↦ inl (lower_cell t k)
      | inr r ↦ inr (elim r [
        | inl k ↦ inl (no_lower_cell k.0, upper_cell t k.1)
        | inr k ↦ inr (no_lower_cell k.0, no_upper_cell k.1, zero_turned t.entries k.2)
      ])
    ],
  )
  named_as t first (Some second) h = (
    (λ z a. let r = always_back z a in h.0 r.0 r.1),
    elim h.1 [
      | inl k ↦ inl (lower_cell t k.0, two t k.1)
      | inr k ↦ inr (
        (λ u z w l. let r = two_places p cell ls places (IsZeroThen u.entries u.over) (IsLevelThen p cell u) (level_there u) (level_back u) z w l.1 in
            k.0 u.entries u.over r.0 r.1 u.positive (lower_lines u l.0, r.2)),
        (upper_cell t k.1.0, two t k.1.1),
      )
    ],
  )
    where
      two : (t : Time) → AreFirstTwo (IsZeroThen t.entries t.over) ls first second → named.AreFirstTwo (IsLevelThen p cell t) (spot_at ls first) (spot_at ls second)
      two t k = two_spots p cell ls places (IsZeroThen t.entries t.over) (IsLevelThen p cell t) (level_there t) (level_back t) first second k

  pub named_cell : (tie : Tie) → lines.IsTie ls tie → (t : Time) × (t.entries ≡ entries tie.time.parts) × (t.over ≡ tie.time.den) × IsNamedTie p cell t (spot_at ls tie.first) (option_map (spot_at ls) tie.second)
  named_cell tie h =
      let t = as_time (entries tie.time.parts) tie.time.den h.0.0.2 in
      (t, refl, refl, (of, ind, named_as t tie.first tie.second h.1))

  pub untied_cell : lines.HasNoTie ls → ¬ (HasTie p cell)
  untied_cell h tied =
      let n = (named_tie_law p cell well).1 tied in
      none n.0 n.1 n.2 n.3.2
    where
      two_then : (t : Time) (x y : Spot) → named.InSpan p cell t → ¬ (named.AreFirstTwo (IsLevelThen p cell t) x y)
      two_then t x y s k =
          let r = two_places p cell ls places (IsZeroThen t.entries t.over) (IsLevelThen p cell t) (level_there t) (level_back t) x y k in
          let e = (h t.entries t.over t.positive (span_lines t s)).1 r.0 r.1 r.2.0.0 r.2.2 in
          let lt = r.2.1 in
          omega (arith, e, lt)

      none : (t : Time) (x : Spot) (second : Option Spot) → ¬ (named.IsNamedAs p cell t x second)
      none t x None k = let r = always_back x k.0.0 in (h t.entries t.over t.positive (span_lines t k.1)).0 r.0 r.1
      none t x (Some y) k = elim k.1 [ inl l ↦ two_then t x y l.0.0 l.1 | inr l ↦ two_then t x y l.1.0.0 l.1.1 ]

  pub named_points : (tie : Tie) (found : NamedTie) → lines.IsTie ls tie → IsByPoints ls tie found → IsNamedOf p cell (Some found)
  named_points tie found h e =
      let n = named_cell tie h in (
        n.0,
        n.1 ∙ ap (λ (v : lex.Value). entries v.parts) (sym e.0),
        n.2 ∙ ap (λ (v : lex.Value). v.den) (sym e.0),
        subst (λ s. IsNamedTie p cell n.0 (spot_of found.first) s) (sym e.2) (subst (λ x. IsNamedTie p cell n.0 x (option_map (spot_at ls) tie.second)) (sym e.1) n.3),
      )

-- the places of a tie are in the list
pub tie_places : (ls : List WallLine) (tie : Tie) → lines.IsTie ls tie → HasPlaces ls tie
tie_places ls tie h = by_second tie.second h.1
  where
    by_second : (s : Option ℕ) → lines.IsTieAt ls (entries tie.time.parts) tie.time.den tie.first s → ((1 ≤ tie.first) × (tie.first ≤ length ls)) × MatchOption s (Unit {0}) (λ k. (1 ≤ k) × (k ≤ length ls))
    by_second None k = ((k.0.0.0, k.0.0.1), tt)
    by_second (Some s) k = elim k.1 [
      | inl l ↦ ((l.1.0.0.0, l.1.0.0.1), (l.1.2.0, l.1.2.1))
      | inr l ↦ ((l.1.1.0.0.0, l.1.1.0.0.1), (l.1.1.2.0, l.1.1.2.1))
    ]
