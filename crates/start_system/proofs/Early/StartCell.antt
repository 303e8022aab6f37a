-- the start cell is alive at all early times
use Rattle.std.proofs.Common.{◌≡◌, ℕ, zero, suc, ◌+◌, ◌<◌, List, [], ◌∷◌, length, arith, refl, sym, ap, ap₂, subst, ◌∙◌, inl, inr}
use Rattle.std.proofs.lemmas.Int.{ints}
use Rattle.std.proofs.Math.IntN.{ℤ, pos, ◌+ℤ◌, ◌-ℤ◌, ◌*ℤ◌, *ℤ-zero, *ℤ_comm}
use native.Mathlib.Decide.{ℕ_discrete, dec_le}
use Rattle.int_vectors.specs.Vectors.{IsZero, IsPositive, dot, at, add, sub, at_place, entries_at, row_at}
use Rattle.cayley.specs.Times.{Time}
use Rattle.cayley.specs.Problems.{Point, Problem, point_at}
use Rattle.cayley.specs.Paths.{start_pairs, start_cell}
use Rattle.cayley.specs.Cells.{Cell, IsOf, IsIndependent, IsFurther}
use Rattle.cayley.specs.Normals.{Normal, gap, IsNormal, AllAbove}
use Rattle.cayley.specs.Lives.{AliveEarly}
use Rattle.wide_int.proofs.Ring.{one_mul_ℤ}
use Rattle.wide_int.proofs.Order.{zero_product}
use Rattle.int_vectors.proofs.Entries.{zero_from}
use Rattle.cayley.proofs.Algebra.ScaledInverse.{dot-zero}
use Rattle.cayley.proofs.Order.Lines.{NotNegative}
use Rattle.cayley.proofs.OneCell.Neighbours.{potential, gap-potential, dot-sub}
use Rattle.cayley.proofs.Life.Targets.{positive_first, potential-first}
use Rattle.start_system.proofs.Path.Hull.{dot_corner}
use Rattle.start_system.proofs.Path.Shape.{Shape, Shapes, EachFrom, from_both, from_shapes, from_shapes_from, pairs_of_from}
use Rattle.start_system.proofs.Path.Forms.{Longs, HasForm}
use Rattle.start_system.proofs.Early.Values.{at-entry}
use Rattle.start_system.proofs.Early.Corners.{StartPair, other_above_first, start_level, which, from_pick}
use Rattle.start_system.proofs.Early.Families.{Low, low_family, low_early, all_further}

-- n values that are zero
abbrev nothing : ℕ → List (List ℤ)
nothing zero = []
nothing (suc n) = [] ∷ nothing n

length-nothing : (n : ℕ) → length (nothing n) ≡ n
length-nothing zero = refl
length-nothing (suc n) = ap suc (length-nothing n)

nth-nothing : (n k : ℕ) → row_at (nothing n) k ≡ []
nth-nothing zero k = refl
nth-nothing (suc n) zero = refl
nth-nothing (suc n) (suc k) = nth-nothing n k

unfoldable still : ℕ → Normal
still n = record { entries = nothing n; over = pos 1; positive = record { lt = tt } }

-- a corner is the first, or one of a direction; the point c is a file point or a corner
low_above : (n i : ℕ) (s : List Point) (h : Shape n i s) → i < n → (c : ℕ) → IsFurther s (suc h.f) (h.f + suc (suc i)) c
    → Low (λ x. IsPositive (gap x (still n) (point_at s (suc h.f)) (point_at s c)))
unfolding still
low_above n i s h l c further = elim (dec_le c h.f) [
  | yes m ↦ record {
    bound = (point_at s c).base;
    holds = λ x b.
        let v = still n in
        let z : (p : Point) → dot p.coordinates (entries_at 0 (nothing n)) ≡ pos 0 = λ p. dot-zero p.coordinates (entries_at 0 (nothing n)) (zero_from _ (λ k. at-entry (nothing n) k 0 ∙ ap (λ u. at u 0) (nth-nothing n k))) in
        let g = gap-potential x v (point_at s (suc h.f)) (point_at s c) 0 in
        let first : Point = record { coordinates = h.m; base = pos 0; speed = pos 1; rank = 0 } in
        let a = potential-first x v (point_at s c) in
        let b' = ap (λ p. potential x v p 0) h.first ∙ potential-first x v first in
        let za = ap (λ y. x.over *ℤ y) (z (point_at s c)) ∙ *ℤ-zero x.over in
        let zb = ap (λ y. x.over *ℤ y) (z first) ∙ *ℤ-zero x.over in
        let sa = ap (λ y. y *ℤ at x.entries 0) (h.file c further.0 m) in
        let o = one_mul_ℤ (x.over *ℤ (point_at s c).base +ℤ (point_at s c).speed *ℤ at x.entries 0) in
        let o' = one_mul_ℤ (x.over *ℤ pos 0 +ℤ pos 1 *ℤ at x.entries 0) in
        let q = *ℤ-zero x.over in
        let k = *ℤ_comm x.over (point_at s c).base in
        positive_first _ (omega (arith, ints, g, a, b', za, zb, sa, o, o', q, k, b));
  }
  | no m ↦ which n i s h (record { entries = []; over = pos 1; positive = record { lt = tt } }) (still n) c (omega arith) (let e = h.long in let r = further.1 in omega (arith, e, r))
      (λ e. absurd (further.2 e))
      (λ k lk e. elim (ℕ_discrete k i) [
        | yes y ↦ absurd (further.3 (e ∙ ap (λ j. h.f + suc (suc j)) y))
        | no y ↦ record {
          bound = pos 0;
          holds = λ x b. subst (λ j. IsPositive (gap x (still n) (point_at s (suc h.f)) (point_at s j))) (sym e)
              (other_above_first n i s h x (still n) k lk y (subst NotNegative (sym (nth-nothing n k)) (inr tt)));
        }
      ])
]

-- the numbers of the supports are below n
from_bound : (n i : ℕ) (supports : List (List Point)) (cell : Cell) (P : ℕ → List Point → ℕ → ℕ → Type 0) → i + length supports ≡ n → EachFrom i supports cell P
    → EachFrom i supports cell (λ i s a b. (i < n) × P i s a b)
from_bound n i [] [] P o e = tt
from_bound n i [] (x ∷ cell) P o e = e
from_bound n i (s ∷ supports) [] P o e = e
from_bound n i (s ∷ supports) (x ∷ cell) P o e = ((omega arith, e.0), from_bound n (suc i) supports cell P (omega arith) e.1)

zero_short : (n : ℕ) (v : List ℤ) → length v ≡ n → ((k : ℕ) → k < n → at v k ≡ pos 0) → IsZero v
zero_short n [] l h = tt
zero_short zero (x ∷ v) l h = absurd (omega arith)
zero_short (suc n) (x ∷ v) l h = (h 0 (omega arith), zero_short n v (omega arith) (λ k m. h (suc k) (omega arith)))

-- the row of a start pair is d at its own place
start_row : (n i : ℕ) (s : List Point) (h : Shape n i s) (a b : ℕ) (v : List ℤ) → i < n → a ≡ suc h.f → b ≡ h.f + suc (suc i)
    → dot (sub (point_at s b).coordinates (point_at s a).coordinates) v ≡ h.d *ℤ at v i
start_row n i s h a b v l ea eb =
    let cb : (point_at s b).coordinates ≡ add h.m (at_place i h.d) = ap (λ j. (point_at s j).coordinates) eb ∙ (h.directions i l).coordinates in
    let ca : (point_at s a).coordinates ≡ h.m = ap (λ j. (point_at s j).coordinates) ea ∙ ap (λ (p : Point). p.coordinates) h.first in
    dot-sub (point_at s b).coordinates (point_at s a).coordinates v
    ∙ ap₂ (λ x y. dot x v -ℤ dot y v) cb ca
    ∙ (let r = dot_corner h.m i h.d v in omega (arith, ints, r))

module _ (n : ℕ) (p : Problem) (cell : Cell) (w : Shapes n 0 p.supports) (ls : length p.supports ≡ n) (ld : p.dimension ≡ n) (start : EachFrom 0 p.supports cell (StartPair n)) where
  -- a start pair with its shape
  abbrev Here : ℕ → List Point → ℕ → ℕ → Type 0
  Here i s a b = (h : Shape n i s) × (i < n) × (a ≡ suc h.f) × (b ≡ h.f + suc (suc i))

  here : EachFrom 0 p.supports cell Here
  here =
      from_shapes_from n 0 p.supports cell (λ i s a b. (i < n) × StartPair n i s a b) Here (λ i s a b h x. (h, x.0, (x.1 h).0, (x.1 h).1)) w
      (from_bound n 0 p.supports cell (StartPair n) (omega (arith, ls)) start)

  start_of : IsOf p cell
  start_of = pairs_of_from 0 p.supports cell Here _ (λ i s a b x. (let e = x.2 in omega (arith, e), let e = x.2 in let f = x.3 in omega (arith, e, f), let l = x.1 in let f = x.3 in let o = x.0.long in omega (arith, l, f, o))) here

  start_independent : IsIndependent p cell
  start_independent v l e = zero_short n v (l ∙ ld) (λ k m.
      let zeros = from_shapes n 0 p.supports cell (λ s a b. dot (sub (point_at s b).coordinates (point_at s a).coordinates) v ≡ pos 0) (λ i s a b. dot (sub (point_at s b).coordinates (point_at s a).coordinates) v ≡ pos 0) (λ i s a b h x. x) w e in
      let all = from_both 0 p.supports cell Here (λ i s a b. dot (sub (point_at s b).coordinates (point_at s a).coordinates) v ≡ pos 0) (λ i s a b. at v i ≡ pos 0)
      (λ i s a b x z. zero_entry i s x.0 a b x.1 x.2 x.3 z) here zeros in
      let r = from_pick n 0 k p.supports cell (λ i s a b. at v i ≡ pos 0) w all (omega (arith, ls)) in
      let o : 0 + k ≡ k = omega arith in
      subst (λ j. at v j ≡ pos 0) o r.4)
    where
      zero_entry : (i : ℕ) (s : List Point) (h : Shape n i s) (a b : ℕ) → i < n → a ≡ suc h.f → b ≡ h.f + suc (suc i) → dot (sub (point_at s b).coordinates (point_at s a).coordinates) v ≡ pos 0 → at v i ≡ pos 0
      zero_entry i s h a b li ea eb z =
          let d = h.positive in
          elim (zero_product h.d (at v i) (sym (start_row n i s h a b v li ea eb) ∙ z)) [ inl x ↦ absurd (omega (arith, ints, x, d)) | inr x ↦ x ]

  start_normal : (t : Time) → IsNormal p cell t (still n)
  unfolding still
  start_normal t = (
    length-nothing n ∙ sym ld,
    pairs_of_from 0 p.supports cell Here _ (λ i s a b x.
        subst (λ j. IsZero (gap t (still n) (point_at s j) (point_at s b))) (sym x.2)
        (subst (λ j. IsZero (gap t (still n) (point_at s (suc x.0.f)) (point_at s j))) (sym x.3)
        (start_level n i s x.0 t (still n) x.1 (subst IsZero (sym (nth-nothing n i)) tt)))) here,
  )

  start_above : Low (λ t. AllAbove p cell t (still n))
  start_above = all_further Low low_family p.supports cell (λ t s a b c. IsPositive (gap t (still n) (point_at s a) (point_at s c)))
      (pairs_of_from 0 p.supports cell Here _ (λ i s a b x c f.
      let g : IsFurther s (suc x.0.f) (x.0.f + suc (suc i)) c = subst (λ j. IsFurther s (suc x.0.f) j c) x.3 (subst (λ j. IsFurther s j b c) x.2 f) in
      subst (λ j. Low (λ t. IsPositive (gap t (still n) (point_at s j) (point_at s c)))) (sym x.2) (low_above n i s x.0 x.1 c g)) here)

  -- the start cell is alive at all early times
  start_early : AliveEarly p cell
  start_early =
      let r = low_early (λ t. AllAbove p cell t (still n)) start_above in
      (r.0, λ t b. (start_of, start_independent, (still n, start_normal t, r.1 t b)))

-- ---- as positions
start_pairs_are : (n i : ℕ) (files : List ℕ) (supports : List (List Point)) → Longs n i files supports → EachFrom i supports (start_pairs (suc i) files) (StartPair n)
start_pairs_are n i [] [] l = tt
start_pairs_are n i [] (s ∷ supports) l = absurd l
start_pairs_are n i (f ∷ files) [] l = absurd l
start_pairs_are n i (f ∷ files) (s ∷ supports) l = (
  (λ h. let a = h.long in let b = l.0.1 in (omega (arith, a, b), omega (arith, a, b))),
  start_pairs_are n (suc i) files supports l.1,
)

pub start_is_early : (p : Problem) → HasForm p → AliveEarly p (start_cell p)
start_is_early p w = start_early p.dimension p (start_cell p) w.shapes w.supports refl (start_pairs_are p.dimension 0 p.files p.supports w.long)
