-- the places of a cell's lines and its further points
use Rattle.std.proofs.Common.{◌≡◌, inl, inr, ℕ, zero, suc, ◌-◌, ◌<◌, ◌≤◌, List, [], ◌∷◌, length, slice_index_or, arith, refl, sym, subst}
use Rattle.int_vectors.specs.Vectors.{Each}
use Rattle.lex_height.proofs.Ranks.{three}
use Rattle.cayley.specs.Problems.{Problem}
use Rattle.cayley.specs.Cells.{Cell}
use Rattle.cayley.specs.StoredTies as stored
use Rattle.cayley.specs.StoredTies.{Spot, IsFurtherSpot}
use Rattle.cayley.specs.NamedTies as named
use Rattle.crossing.specs.declared.line.WallLine.{WallLine}
use Rattle.crossing.specs.Places.{HasAt, IsFirst, AreFirstTwo, origin}
use Rattle.plain_lister.specs.TieProgress.{spot_at}
use Rattle.cone_walls.specs.Places.{IsEarlier, AreInOrder, HasLine, AreOfFurtherPoints}

-- the line at a place, which counts from 1
abbrev pub line_at : List WallLine → ℕ → WallLine
line_at lines place = slice_index_or lines (place - 1) origin

pub each_nth : (P : WallLine → Type 0) (lines : List WallLine) (k : ℕ) → k < length lines → Each lines P → P (slice_index_or lines k origin)
each_nth P [] k lt e = absurd (omega (arith, lt))
each_nth P (l ∷ lines) zero lt e = e.0
each_nth P (l ∷ lines) (suc k) lt e = each_nth P lines k (omega (arith, lt)) e.1

has_nth : (lines : List WallLine) (k : ℕ) → k < length lines → HasLine lines (slice_index_or lines k origin).support (slice_index_or lines k origin).position
has_nth [] k lt = absurd (omega (arith, lt))
has_nth (l ∷ lines) zero lt = inl (refl, refl)
has_nth (l ∷ lines) (suc k) lt = inr (has_nth lines k (omega (arith, lt)))

find : (lines : List WallLine) (j c : ℕ) → HasLine lines j c → (k : ℕ) × (k < length lines) × ((slice_index_or lines k origin).support ≡ j) × ((slice_index_or lines k origin).position ≡ c)
find [] j c h = absurd h
find (l ∷ lines) j c (inl h) = (0, omega arith, h.0, h.1)
find (l ∷ lines) j c (inr h) = let r = find lines j c h in let lt = r.1 in (suc r.0, omega (arith, lt), r.2, r.3)

in_order : (lines : List WallLine) (i j : ℕ) → AreInOrder lines → i < j → j < length lines → IsEarlier (slice_index_or lines i origin) (slice_index_or lines j origin)
in_order [] i j o lt n = absurd (omega (arith, n))
in_order (l ∷ lines) zero zero o lt n = absurd (omega (arith, lt))
in_order (l ∷ lines) zero (suc j) o lt n = each_nth (IsEarlier l) lines j (omega (arith, n)) o.0
in_order (l ∷ lines) (suc i) zero o lt n = absurd (omega (arith, lt))
in_order (l ∷ lines) (suc i) (suc j) o lt n = in_order lines i j o.1 (omega (arith, lt)) (omega (arith, n))

not_itself : (x : Spot) → ¬ (stored.IsEarlier x x)
not_itself x (inl l) = omega (arith, l)
not_itself x (inr l) = let a = l.1 in omega (arith, a)

not_both : (x y : Spot) → stored.IsEarlier x y → ¬ (stored.IsEarlier y x)
not_both x y (inl l) (inl k) = omega (arith, l, k)
not_both x y (inl l) (inr k) = let a = k.0 in omega (arith, l, a)
not_both x y (inr l) (inl k) = let a = l.0 in omega (arith, k, a)
not_both x y (inr l) (inr k) = let a = l.1 in let b = k.1 in omega (arith, a, b)

module _ (p : Problem) (cell : Cell) (lines : List WallLine) (places : AreOfFurtherPoints p cell lines) where
  -- a line's point is a further point
  pub further_spot : (k : ℕ) → 1 ≤ k → k ≤ length lines → IsFurtherSpot p cell (spot_at lines k)
  further_spot k a b = (places.1 (spot_at lines k).0 (spot_at lines k).1).0 (has_nth lines (k - 1) (omega (arith, a, b)))

  -- and each further point has a line
  pub place_of : (x : Spot) → IsFurtherSpot p cell x → (k : ℕ) × (1 ≤ k) × (k ≤ length lines) × (spot_at lines k ≡ x)
  place_of x f =
      let r = find lines x.0 x.1 ((places.1 x.0 x.1).1 f) in
      let lt = r.1 in
      let e : r.0 ≡ suc r.0 - 1 = omega arith in
      (suc r.0, omega arith, omega (arith, lt), subst (λ k. ((slice_index_or lines k origin).support, (slice_index_or lines k origin).position) ≡ x) e (pair_of (slice_index_or lines r.0 origin) x r.2 r.3))
    where
      pair_of : (l : WallLine) (x : Spot) → l.support ≡ x.0 → l.position ≡ x.1 → (l.support, l.position) ≡ x
      pair_of l (j, c) e f = rw (e, f) refl

  pub earlier : (i j : ℕ) → 1 ≤ i → i < j → j ≤ length lines → stored.IsEarlier (spot_at lines i) (spot_at lines j)
  earlier i j a lt b = in_order lines (i - 1) (j - 1) places.0 (omega (arith, a, lt)) (omega (arith, a, lt, b))

  -- the order of the points is that of the places
  pub sooner : (i j : ℕ) → 1 ≤ i → 1 ≤ j → i ≤ length lines → j ≤ length lines → stored.IsEarlier (spot_at lines i) (spot_at lines j) → i < j
  sooner i j a b c d e = elim (three i j) [
    | inl l ↦ l
    | inr r ↦ elim r [
      | inl s ↦ absurd (not_itself (spot_at lines j) (subst (λ k. stored.IsEarlier (spot_at lines k) (spot_at lines j)) s e))
      | inr g ↦ absurd (not_both (spot_at lines i) (spot_at lines j) e (earlier j i b g c))
    ]
  ]

  -- ---- a property of lines that is one of their points
  module _ (P : WallLine → Type 0) (Q : Spot → Type 0) (there : (k : ℕ) → HasAt P lines k → Q (spot_at lines k)) (back : (x : Spot) → Q x → (k : ℕ) × HasAt P lines k × (spot_at lines k ≡ x)) where
    pub first_spot : (k : ℕ) → IsFirst P lines k → named.IsFirst Q (spot_at lines k)
    first_spot k h = (
      there k h.0,
      λ y q e.
          let r = back y q in
          let f = subst (λ z. stored.IsEarlier z (spot_at lines k)) (sym r.2) e in
          h.1 r.0 (sooner r.0 k r.1.0 h.0.0 r.1.1 h.0.1 f) r.1,
    )

    pub two_spots : (i j : ℕ) → AreFirstTwo P lines i j → named.AreFirstTwo Q (spot_at lines i) (spot_at lines j)
    two_spots i j h = (
      first_spot i h.0,
      (
        (there j h.2, earlier i j h.0.0.0 h.1 h.2.1),
        λ z q e.
            let r = back z q.0 in
            let f = subst (λ y. stored.IsEarlier (spot_at lines i) y) (sym r.2) q.1 in
            let g = subst (λ y. stored.IsEarlier y (spot_at lines j)) (sym r.2) e in
            h.3 r.0 (sooner i r.0 h.0.0.0 r.1.0 h.0.0.1 r.1.1 f) (sooner r.0 j r.1.0 h.2.0 r.1.1 h.2.1 g) r.1,
      ),
    )

    -- and back
    pub two_places : (x y : Spot) → named.AreFirstTwo Q x y → (i : ℕ) × (j : ℕ) × AreFirstTwo P lines i j
    two_places x y h =
        let a = back x h.0.0 in
        let b = back y h.1.0.0 in
        let lt = sooner a.0 b.0 a.1.0 b.1.0 a.1.1 b.1.1 (subst (λ z. stored.IsEarlier z (spot_at lines b.0)) (sym a.2) (subst (λ z. stored.IsEarlier x z) (sym b.2) h.1.0.1)) in (
          a.0,
          b.0,
          (
            (a.1, λ o l k. h.0.1 (spot_at lines o) (there o k) (subst (λ z. stored.IsEarlier (spot_at lines o) z) a.2 (earlier o a.0 k.0 l a.1.1))),
            lt,
            b.1,
            λ o g l k. h.1.1 (spot_at lines o) (there o k, subst (λ z. stored.IsEarlier z (spot_at lines o)) a.2 (earlier a.0 o a.1.0 g k.1)) (subst (λ z. stored.IsEarlier (spot_at lines o) z) b.2 (earlier o b.0 k.0 l b.1.1)),
          ),
        )
