-- ranks that are raised without a change of their order: zeros between the entries of a value
use Rattle.std.proofs.Common.{◌≡◌, ◌⊎◌, ℕ, zero, suc, ◌+◌, List, [], ◌∷◌, map, arith, refl, sym, ap, ap₂, ◌∙◌, inl, inr}
use Rattle.std.proofs.lemmas.Int.{ints}
use Rattle.std.proofs.Math.IntN.{ℤ, pos, ◌+ℤ◌, ◌-ℤ◌, ◌*ℤ◌, *ℤ-zero}
use Rattle.wide_int.proofs.Ring.{as_D, Ds, same_D}
use Rattle.int_vectors.specs.Vectors.{IsZero, IsPositive, add, dot, at, at_place, entries_at}
use Rattle.int_vectors.proofs.Entries.{zero_from, at-zero}
use Rattle.cayley.specs.Times.{Time, time_zero}
use Rattle.cayley.specs.Problems.{Point}
use Rattle.cayley.specs.Normals.{Normal, mark, gap}
use Rattle.cayley.proofs.Algebra.ScaledInverse.{dot-zero}
use Rattle.cayley.proofs.OneCell.CellLines.{base_of, height-at}
use Rattle.cayley.proofs.Order.Lexicographic.{positive-same}
use Rattle.cayley.proofs.OneCell.Neighbours.{potential, gap-potential}

-- k zeros first
abbrev pub after_zeros : ℕ → List ℤ → List ℤ
after_zeros zero u = u
after_zeros (suc k) u = pos 0 ∷ after_zeros k u

-- g zeros before each entry, where gs has the numbers
abbrev pub stretch : List ℕ → List ℤ → List ℤ
stretch [] u = u
stretch (g ∷ gs) [] = []
stretch (g ∷ gs) (x ∷ u) = after_zeros g (x ∷ stretch gs u)

-- where an entry goes
abbrev pub place_in : List ℕ → ℕ → ℕ
place_in [] k = k
place_in (g ∷ gs) zero = g
place_in (g ∷ gs) (suc k) = g + suc (place_in gs k)

positive-zeros : (g : ℕ) (u : List ℤ) → IsPositive u → IsPositive (after_zeros g u)
positive-zeros zero u p = p
positive-zeros (suc g) u p = inr (refl, positive-zeros g u p)

pub positive-stretch : (gs : List ℕ) (u : List ℤ) → IsPositive u → IsPositive (stretch gs u)
positive-stretch [] u p = p
positive-stretch (g ∷ gs) [] p = p
positive-stretch (g ∷ gs) (x ∷ u) (inl p) = positive-zeros g (x ∷ stretch gs u) (inl p)
positive-stretch (g ∷ gs) (x ∷ u) (inr p) = positive-zeros g (x ∷ stretch gs u) (inr (p.0, positive-stretch gs u p.1))

zero-zeros : (g : ℕ) (u : List ℤ) → IsZero u → IsZero (after_zeros g u)
zero-zeros zero u p = p
zero-zeros (suc g) u p = (refl, zero-zeros g u p)

pub zero-stretch : (gs : List ℕ) (u : List ℤ) → IsZero u → IsZero (stretch gs u)
zero-stretch [] u p = p
zero-stretch (g ∷ gs) [] p = p
zero-stretch (g ∷ gs) (x ∷ u) p = zero-zeros g (x ∷ stretch gs u) (p.0, zero-stretch gs u p.1)

-- an entry of a stretched list is an entry of the list, or 0
Source : List ℕ → ℕ → Type 0
Source gs e = ((k : ℕ) × ((u : List ℤ) → at (stretch gs u) e ≡ at u k)) ⊎ ((u : List ℤ) → at (stretch gs u) e ≡ pos 0)

source : (gs : List ℕ) (e : ℕ) → Source gs e
unfolding Source
source [] e = inl (e, λ u. refl)
source (zero ∷ gs) zero = inl (0, first)
  where
    first : (u : List ℤ) → at (stretch (zero ∷ gs) u) 0 ≡ at u 0
    first [] = refl
    first (x ∷ u) = refl
source (zero ∷ gs) (suc e) = elim (source gs e) [ inl r ↦ inl (suc r.0, later r.0 r.1) | inr r ↦ inr (never r) ]
  where
    later : (k : ℕ) → ((u : List ℤ) → at (stretch gs u) e ≡ at u k) → (u : List ℤ) → at (stretch (zero ∷ gs) u) (suc e) ≡ at u (suc k)
    later k h [] = refl
    later k h (x ∷ u) = h u

    never : ((u : List ℤ) → at (stretch gs u) e ≡ pos 0) → (u : List ℤ) → at (stretch (zero ∷ gs) u) (suc e) ≡ pos 0
    never h [] = refl
    never h (x ∷ u) = h u
source (suc g ∷ gs) zero = inr none
  where
    none : (u : List ℤ) → at (stretch (suc g ∷ gs) u) 0 ≡ pos 0
    none [] = refl
    none (x ∷ u) = refl
source (suc g ∷ gs) (suc e) = elim (source (g ∷ gs) e) [ inl r ↦ inl (r.0, later r.0 r.1) | inr r ↦ inr (never r) ]
  where
    later : (k : ℕ) → ((u : List ℤ) → at (stretch (g ∷ gs) u) e ≡ at u k) → (u : List ℤ) → at (stretch (suc g ∷ gs) u) (suc e) ≡ at u k
    later k h [] = h []
    later k h (x ∷ u) = h (x ∷ u)

    never : ((u : List ℤ) → at (stretch (g ∷ gs) u) e ≡ pos 0) → (u : List ℤ) → at (stretch (suc g ∷ gs) u) (suc e) ≡ pos 0
    never h [] = h []
    never h (x ∷ u) = h (x ∷ u)

zeros_place : (g m : ℕ) (q : ℤ) → after_zeros g (pos 0 ∷ at_place m q) ≡ at_place (g + suc m) q
zeros_place zero m q = let e : suc m ≡ 0 + suc m = omega arith in ap (λ k. at_place k q) e
zeros_place (suc g) m q = let e : suc (g + suc m) ≡ suc g + suc m = omega arith in ap (λ l. pos 0 ∷ l) (zeros_place g m q) ∙ ap (λ k. at_place k q) e

zeros_end : (g : ℕ) (q : ℤ) → after_zeros g (q ∷ []) ≡ at_place g q
zeros_end zero q = refl
zeros_end (suc g) q = ap (λ l. pos 0 ∷ l) (zeros_end g q)

stretch_nothing : (gs : List ℕ) → stretch gs [] ≡ []
stretch_nothing [] = refl
stretch_nothing (g ∷ gs) = refl

stretch_place : (gs : List ℕ) (k : ℕ) (q : ℤ) → stretch gs (at_place k q) ≡ at_place (place_in gs k) q
stretch_place [] k q = refl
stretch_place (g ∷ gs) zero q = ap (λ l. after_zeros g (q ∷ l)) (stretch_nothing gs) ∙ zeros_end g q
stretch_place (g ∷ gs) (suc k) q = ap (λ l. after_zeros g (pos 0 ∷ l)) (stretch_place gs k q) ∙ zeros_place g (place_in gs k) q

-- the new rank: 0 stays
abbrev pub rank_to : List ℕ → ℕ → ℕ
rank_to gs zero = 0
rank_to gs (suc r) = suc (place_in gs r)

-- entry 0 stays, the others are stretched
abbrev pub spread : List ℕ → List ℤ → List ℤ
spread gs u = stretch (0 ∷ gs) u

stretch_base : (gs : List ℕ) (b : ℤ) (r : ℕ) → spread gs (add (b ∷ []) (mark (pos 1) r)) ≡ add (b ∷ []) (mark (pos 1) (rank_to gs r))
stretch_base gs b zero = ap (λ l. b ∷ l) (stretch_nothing gs)
stretch_base gs b (suc r) = ap (λ l. (b +ℤ pos 0) ∷ l) (stretch_place gs r (pos 1))

-- the same point with another rank
pub record IsRankedAs (gs : List ℕ) (p q : Point) : Type 0 where
  pub coordinates : p.coordinates ≡ q.coordinates
  pub base : p.base ≡ q.base
  pub still : p.speed ≡ pos 0
  pub still_too : q.speed ≡ pos 0
  pub rank : p.rank ≡ rank_to gs q.rank

unfoldable pub spread_normal : List ℕ → Normal → Normal
spread_normal gs v = record { entries = map (spread gs) v.entries; over = v.over; positive = v.positive }

-- the value of a point that rests, under a normal
unfoldable pub resting_value : Normal → Point → ℕ → ℤ
resting_value v p e = dot p.coordinates (entries_at e v.entries) +ℤ v.over *ℤ at (base_of p) e

still_potential : (t : Time) (v : Normal) (p : Point) (e : ℕ) → p.speed ≡ pos 0 → potential t v p e ≡ t.over *ℤ resting_value v p e
unfolding potential resting_value
still_potential t v p e s =
    ap (λ x. t.over *ℤ dot p.coordinates (entries_at e v.entries) +ℤ v.over *ℤ x) (height-at t p e ∙ (let k = ap (λ x. x *ℤ at t.entries e) s in omega (arith, ints, k)))
    ∙ ring t.over v.over (dot p.coordinates (entries_at e v.entries)) (at (base_of p) e)
  where
    ring : (q d x y : ℤ) → q *ℤ x +ℤ d *ℤ (q *ℤ y) ≡ q *ℤ (x +ℤ d *ℤ y)
    ring q d x y = rw (as_D q, as_D d, as_D x, as_D y) (simp Ds (same_D _ _ _ _ (omega arith)))

-- so a gap of two of them doesn't change over time
pub still_gap : (t : Time) (v : Normal) (p q : Point) (e : ℕ) → p.speed ≡ pos 0 → q.speed ≡ pos 0 → at (gap t v p q) e ≡ t.over *ℤ (resting_value v q e -ℤ resting_value v p e)
still_gap t v p q e sp sq =
    gap-potential t v p q e ∙ ap₂ ◌-ℤ◌ (still_potential t v q e sq) (still_potential t v p e sp) ∙ ring t.over (resting_value v q e) (resting_value v p e)
  where
    ring : (q x y : ℤ) → q *ℤ x -ℤ q *ℤ y ≡ q *ℤ (x -ℤ y)
    ring q x y = rw (as_D q, as_D x, as_D y) (simp Ds (same_D _ _ _ _ (omega arith)))

-- gaps are spread
gap_spread : (gs : List ℕ) (v : Normal) (p q p' q' : Point) → IsRankedAs gs p' p → IsRankedAs gs q' q → (e : ℕ) → at (gap time_zero (spread_normal gs v) p' q') e ≡ at (spread gs (gap time_zero v p q)) e
unfolding Source spread_normal resting_value base_of
gap_spread gs v p q p' q' rp rq e = elim (source (0 ∷ gs) e) [
  | inl r ↦
      let k = r.0 in
      let a = still_gap time_zero v p q k rp.still_too rq.still_too in
      let b = still_gap time_zero (spread_normal gs v) p' q' e rp.still rq.still in
      let c = here k r.1 p p' rp in
      let d = here k r.1 q q' rq in
      let o = r.1 (gap time_zero v p q) in
      omega (arith, ints, a, b, c, d, o)
  | inr r ↦
      let b = still_gap time_zero (spread_normal gs v) p' q' e rp.still rq.still in
      let c = nowhere r p p' rp in
      let d = nowhere r q q' rq in
      let o = r (gap time_zero v p q) in
      omega (arith, ints, b, c, d, o)
]
  where
    entries_here : (k : ℕ) → ((u : List ℤ) → at (spread gs u) e ≡ at u k) → (vs : List (List ℤ)) → entries_at e (map (spread gs) vs) ≡ entries_at k vs
    entries_here k h [] = refl
    entries_here k h (x ∷ vs) = ap₂ (λ y l. y ∷ l) (h x) (entries_here k h vs)

    base_is : (p p' : Point) → IsRankedAs gs p' p → at (base_of p') e ≡ at (spread gs (base_of p)) e
    base_is p p' r = ap₂ (λ b k. at (add (b ∷ []) (mark (pos 1) k)) e) r.base r.rank ∙ ap (λ u. at u e) (sym (stretch_base gs p.base p.rank))

    here : (k : ℕ) → ((u : List ℤ) → at (spread gs u) e ≡ at u k) → (p p' : Point) → IsRankedAs gs p' p → resting_value (spread_normal gs v) p' e ≡ resting_value v p k
    here k h p p' r = ap₂ (λ x y. x +ℤ v.over *ℤ y) (ap₂ dot r.coordinates (entries_here k h v.entries)) (base_is p p' r ∙ h (base_of p))

    entries_nowhere : ((u : List ℤ) → at (spread gs u) e ≡ pos 0) → (vs : List (List ℤ)) → IsZero (entries_at e (map (spread gs) vs))
    entries_nowhere h [] = tt
    entries_nowhere h (x ∷ vs) = (h x, entries_nowhere h vs)

    nowhere : ((u : List ℤ) → at (spread gs u) e ≡ pos 0) → (p p' : Point) → IsRankedAs gs p' p → resting_value (spread_normal gs v) p' e ≡ pos 0
    nowhere h p p' r =
        ap₂ (λ x y. x +ℤ v.over *ℤ y) (dot-zero p'.coordinates _ (entries_nowhere h v.entries)) (base_is p p' r ∙ h (base_of p)) ∙ (let z = *ℤ-zero v.over in omega (arith, ints, z))

pub positive_spread : (gs : List ℕ) (v : Normal) (p q p' q' : Point) → IsRankedAs gs p' p → IsRankedAs gs q' q → IsPositive (gap time_zero v p q) → IsPositive (gap time_zero (spread_normal gs v) p' q')
positive_spread gs v p q p' q' rp rq h =
    positive-same (spread gs (gap time_zero v p q)) _ (λ e. sym (gap_spread gs v p q p' q' rp rq e)) (positive-stretch (0 ∷ gs) (gap time_zero v p q) h)

pub zero_spread : (gs : List ℕ) (v : Normal) (p q p' q' : Point) → IsRankedAs gs p' p → IsRankedAs gs q' q → IsZero (gap time_zero v p q) → IsZero (gap time_zero (spread_normal gs v) p' q')
zero_spread gs v p q p' q' rp rq h =
    zero_from _ (λ e. gap_spread gs v p q p' q' rp rq e ∙ at-zero _ e (zero-stretch (0 ∷ gs) (gap time_zero v p q) h))
