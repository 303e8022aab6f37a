-- the further points of a cell by the places of their lines, and which of them are level
use Rattle.std.proofs.Common.{◌≡◌, inl, inr, ℕ, zero, suc, ◌+◌, ◌-◌, ◌<◌, ◌≤◌, List, [], ◌∷◌, length, arith, refl, sym, ap, ap₂, subst, ◌∙◌}
use native.Mathlib.Decide.{dec_lt}
use Rattle.int_vectors.specs.Vectors.{IsZero}
use Rattle.cayley.specs.Times.{Time}
use Rattle.cayley.specs.Problems.{Problem, IsProblem}
use Rattle.cayley.specs.Cells.{Cell, IsOf, IsIndependent}
use Rattle.cayley.specs.Dependencies.{pair_at, IsFurtherAt, nth_support}
use Rattle.cayley.specs.Normals.{Normal, IsNormal, IsLevel}
use Rattle.cayley.specs.Ties.{IsLevelAt, TwoLevel}
use Rattle.cayley.specs.Flips.{IsOnlyLevel}
use Rattle.cayley.specs.StoredTies.{Spot}
use Rattle.cayley.specs.StoredTies as spots
use Rattle.cayley.specs.NamedTies as spots_named
use Rattle.cayley.specs.NamedTies.{IsLevelThen}
use Rattle.int_vectors.proofs.Each.{all_each}
use Rattle.cayley.proofs.Life.Spots.{earlier_trans}
use Rattle.cayley.proofs.OneCell.OneNormal.{one_normal_law}
use Rattle.crossing.specs.declared.line.WallLine.{WallLine}
use Rattle.crossing.specs.Leading.{nth}
use Rattle.crossing.specs.Lines.{value}
use Rattle.crossing.specs.Places.{origin, HasAt, IsOnly, AreFirstTwo}
use Rattle.crossing.proofs.Once.{has_at}
use Rattle.cone_walls.specs.Places.{IsEarlier, AreInOrder, HasLine, AreOfFurtherPoints}
use Rattle.cone_walls.specs.Sides.{TellsSide, TellSides}

-- support and position of the point of a line; lines count from 0
abbrev pub spot : List WallLine → ℕ → Spot
spot lines k = ((nth lines k).support, (nth lines k).position)

-- ---- lists in order
earlier_lines : (lines : List WallLine) → AreInOrder lines → (i j : ℕ) → i < j → j < length lines → IsEarlier (nth lines i) (nth lines j)
earlier_lines [] o i j l m = absurd (omega (arith, m))
earlier_lines (x ∷ lines) o zero zero l m = absurd (omega (arith, l))
earlier_lines (x ∷ lines) o zero (suc j) l m = all_each (IsEarlier x) lines o.0 j origin (omega (arith, m))
earlier_lines (x ∷ lines) o (suc i) zero l m = absurd (omega (arith, l))
earlier_lines (x ∷ lines) o (suc i) (suc j) l m = earlier_lines lines o.1 i j (omega (arith, l)) (omega (arith, m))

not_itself : (x : Spot) → ¬ (spots.IsEarlier x x)
not_itself x (inl l) = omega (arith, l)
not_itself x (inr l) = let a = l.1 in omega (arith, a)

line_there : (lines : List WallLine) (j c : ℕ) → HasLine lines j c → (k : ℕ) × (k < length lines) × ((nth lines k).support ≡ j) × ((nth lines k).position ≡ c)
line_there [] j c h = absurd h
line_there (l ∷ lines) j c (inl h) = (0, omega arith, h.0, h.1)
line_there (l ∷ lines) j c (inr h) = let r = line_there lines j c h in (suc r.0, (let a = r.1 in omega (arith, a)), r.2, r.3)

has_line : (lines : List WallLine) (k : ℕ) → k < length lines → HasLine lines (nth lines k).support (nth lines k).position
has_line [] k l = absurd (omega (arith, l))
has_line (x ∷ lines) zero l = inl (refl, refl)
has_line (x ∷ lines) (suc k) l = inr (has_line lines k (omega (arith, l)))

module _ (lines : List WallLine) (order : AreInOrder lines) where
  -- the order of places is that of points
  earlier_spots : (i j : ℕ) → i < j → j < length lines → spots.IsEarlier (spot lines i) (spot lines j)
  earlier_spots i j l m = earlier_lines lines order i j l m

  places_earlier : (i j : ℕ) → i < length lines → spots.IsEarlier (spot lines i) (spot lines j) → i < j
  places_earlier i j l e = elim (dec_lt i j) [
    | yes h ↦ h
    | no n ↦ elim (dec_lt j i) [
      | yes h ↦ absurd (not_itself (spot lines j) (earlier_trans (spot lines j) (spot lines i) (spot lines j) (earlier_spots j i h l) e))
      | no m ↦ let s : i ≡ j = omega (arith, n, m) in absurd (not_itself (spot lines j) (subst (λ k. spots.IsEarlier (spot lines k) (spot lines j)) s e))
    ]
  ]

module _ (p : Problem) (cell : Cell) (well : IsProblem p) (of : IsOf p cell) (ind : IsIndependent p cell) (lines : List WallLine) (places : AreOfFurtherPoints p cell lines) (sides : TellSides p cell lines) where
  -- ---- the point of a line
  pub further_of : (k : ℕ) → k < length lines → (1 ≤ (nth lines k).support) × IsFurtherAt p cell ((nth lines k).support - 1) (nth lines k).position
  further_of k l = (places.1 (nth lines k).support (nth lines k).position).0 (has_line lines k l)

  module _ (t : Time) where
    abbrev IsZeroThen : ℕ → Type 0
    IsZeroThen k = IsZero (value (nth lines k) t.entries t.over)

    zero_level : (k : ℕ) → k < length lines → IsZeroThen k → (v : Normal) → IsNormal p cell t v
        → IsLevel t v (nth_support p.supports ((nth lines k).support - 1)) (pair_at cell ((nth lines k).support - 1)).0 (nth lines k).position
    zero_level k l z v n = (all_each (TellsSide p cell t v) lines (sides t v n) k origin l).1.0 z

    level_zero : (v : Normal) → IsNormal p cell t v → (j c : ℕ) → IsLevelAt p cell t v j c → (k : ℕ) × (k < length lines) × (spot lines k ≡ (suc j, c)) × IsZeroThen k
    level_zero v n j c h =
        let e : j ≡ suc j - 1 = omega arith in
        let r = line_there lines (suc j) c ((places.1 (suc j) c).1 (omega arith, subst (λ i. IsFurtherAt p cell i c) e h.0)) in
        let side = all_each (TellsSide p cell t v) lines (sides t v n) r.0 origin r.1 in
        let i : j ≡ (nth lines r.0).support - 1 = (let a = r.2 in omega (arith, a)) in
        let level = subst (λ i. IsLevel t v (nth_support p.supports i) (pair_at cell i).0 (nth lines r.0).position) i
        (subst (λ d. IsLevel t v (nth_support p.supports j) (pair_at cell j).0 d) (sym r.3) h.1) in
        (r.0, r.1, ap₂ (λ a b. (a, b)) r.2 r.3, side.1.1 level)

    then_of_zero : (k : ℕ) → k < length lines → IsZeroThen k → IsLevelThen p cell t (spot lines k)
    then_of_zero k l z = (further_of k l, λ v n. zero_level k l z v n)

    zero_of_then : (x : Spot) → IsLevelThen p cell t x → (k : ℕ) × (k < length lines) × (spot lines k ≡ x) × IsZeroThen k
    zero_of_then x h =
        let v = (one_normal_law p cell t well of ind).0 in
        let r = level_zero v.0 v.1 (x.0 - 1) x.1 (h.0.1, h.1 v.0 v.1) in
        let e : suc (x.0 - 1) ≡ x.0 = (let a = h.0.0 in omega (arith, a)) in
        (r.0, r.1, r.2 ∙ ap (λ a. (a, x.1)) e, r.3)

    -- ---- the lines with a property are those that are zero
    module _ (P : WallLine → Type 0) (to : (k : ℕ) → k < length lines → IsZeroThen k → P (nth lines k)) where
      at_zero : (k : ℕ) → k < length lines → IsZeroThen k → HasAt P lines (k + 1)
      at_zero k l z = has_at P lines k l (to k l z)

      -- only one: no two points are level
      pub only_not_two : (which : ℕ) → IsOnly P lines which → (v : Normal) → IsNormal p cell t v → ¬ (TwoLevel p cell t v)
      only_not_two which only v n h =
          let a = level_zero v n h.0 h.1 h.5 in
          let b = level_zero v n h.2 h.3 h.6 in
          let i = only.1 (a.0 + 1) (at_zero a.0 a.1 a.3) in
          let j = only.1 (b.0 + 1) (at_zero b.0 b.1 b.3) in
          let k : a.0 ≡ b.0 = omega (arith, i, j) in
          let s : (suc h.0, h.1) ≡ (suc h.2, h.3) = sym a.2 ∙ ap (spot lines) k ∙ b.2 in
          h.4 ((let f = ap (λ (x : Spot). x.0) s in omega (arith, f)), ap (λ (x : Spot). x.1) s)

      module _ (back : (k : ℕ) → k < length lines → P (nth lines k) → IsZeroThen k) where
        zero_at : (place : ℕ) → HasAt P lines place → (place - 1 < length lines) × IsZeroThen (place - 1)
        zero_at place h = let l : place - 1 < length lines = (let a = h.0 in let b = h.1 in omega (arith, a, b)) in (l, back (place - 1) l h.2)

        -- that one is level, and no other
        pub only_level : (which : ℕ) → IsOnly P lines which → (v : Normal) → IsNormal p cell t v → IsOnlyLevel p cell t v ((nth lines (which - 1)).support - 1) (nth lines (which - 1)).position
        only_level which only v n =
            let z = zero_at which only.0 in
            let f = further_of (which - 1) z.0 in (
              (f.1, zero_level (which - 1) z.0 z.1 v n),
              λ i d h.
                  let a = level_zero v n i d h in
                  let e = only.1 (a.0 + 1) (at_zero a.0 a.1 a.3) in
                  let k : a.0 ≡ which - 1 = omega (arith, e) in
                  let s : (suc i, d) ≡ spot lines (which - 1) = sym a.2 ∙ ap (spot lines) k in
                  ((let g = ap (λ (x : Spot). x.0) s in omega (arith, g)), ap (λ (x : Spot). x.1) s),
            )

        -- the first two are the first two level points
        pub two_level : (first second : ℕ) → AreFirstTwo P lines first second → spots_named.AreFirstTwo (IsLevelThen p cell t) (spot lines (first - 1)) (spot lines (second - 1))
        two_level first second h =
            let x = zero_at first h.0.0 in
            let y = zero_at second h.2 in
            let fp = h.0.0.0 in
            let lt = h.1 in (
              (
                then_of_zero (first - 1) x.0 x.1,
                λ z m e.
                    let a = zero_of_then z m in
                    let l = places_earlier lines places.0 a.0 (first - 1) a.1 (subst (λ s. spots.IsEarlier s (spot lines (first - 1))) (sym a.2) e) in
                    h.0.1 (a.0 + 1) (omega (arith, l, fp)) (at_zero a.0 a.1 a.3),
              ),
              (
                (then_of_zero (second - 1) y.0 y.1, earlier_spots lines places.0 (first - 1) (second - 1) (omega (arith, fp, lt)) y.0),
                λ z m e.
                    let a = zero_of_then z m.0 in
                    let l = places_earlier lines places.0 a.0 (second - 1) a.1 (subst (λ s. spots.IsEarlier s (spot lines (second - 1))) (sym a.2) e) in
                    let g = places_earlier lines places.0 (first - 1) a.0 x.0 (subst (λ s. spots.IsEarlier (spot lines (first - 1)) s) (sym a.2) m.1) in
                    h.3 (a.0 + 1) (omega (arith, g, fp)) (omega (arith, l, lt)) (at_zero a.0 a.1 a.3),
              ),
            )
