-- what the proofs use of a support of a path
use Rattle.std.proofs.Common.{◌≡◌, ◌≢◌, ℕ, zero, suc, ◌+◌, ◌-◌, ◌<◌, ◌≤◌, List, [], ◌∷◌, length, map, arith, sym, ap, subst, inl, inr, ◌≤ℤ◌, ◌<ℤ◌}
use native.Mathlib.Decide.{ℕ_discrete}
use Rattle.std.proofs.lemmas.Int.{ints}
use Rattle.std.proofs.Math.IntN.{ℤ, pos, ◌*ℤ◌, neg_ℤ}
use Rattle.int_vectors.specs.Vectors.{weigh, Each, dot, at, add, at_place}
use Rattle.cayley.specs.Problems.{Point, point_at}
use Rattle.cayley.specs.Cells.{Cell, EachPair}
use Rattle.wide_int.proofs.Order.{mul_le_ℤ}
use Rattle.wide_int.proofs.Ring.{mul_neg_ℤ}
use Rattle.cayley.proofs.Algebra.Kernel.{places}
use Rattle.int_vectors.proofs.Each.{each_map}
use Rattle.cayley.proofs.Order.Lines.{NotNegative}

-- the positions of the corners, where f file points come first
abbrev pub corner_places : ℕ → ℕ → List ℕ
corner_places f n = suc f ∷ map (λ k. f + suc (suc k)) (places n)

-- d times the point c is the sum of numbers that aren't negative, together d, times the corners
pub record InHull (s : List Point) (f n c : ℕ) : Type 0 where
  pub d : ℤ
  pub positive : pos 0 <ℤ d
  pub numbers : List ℤ
  pub whole : Each numbers (λ k. pos 0 ≤ℤ k)
  pub sum : weigh numbers (corner_places f n) (λ k. pos 1) ≡ d
  pub is : (w : List ℤ) → weigh numbers (corner_places f n) (λ k. dot (point_at s k).coordinates w) ≡ d *ℤ dot (point_at s c).coordinates w

-- the corner of direction k in support i; both count from 0
pub record Direction (i k : ℕ) (m : List ℤ) (d : ℤ) (p : Point) : Type 0 where
  pub coordinates : p.coordinates ≡ add m (at_place k d)
  pub speed : p.speed ≡ pos 1
  pub own : k ≡ i → (p.base ≡ pos 0) × (p.rank ≡ 0)
  pub other : k ≢ i → pos 0 <ℤ p.base

-- f file points, the first corner, and the corner of each direction; the support counts from 0
pub record Shape (n i : ℕ) (s : List Point) : Type 0 where
  pub f : ℕ
  pub long : length s ≡ f + suc n
  pub flat : (c : ℕ) → 1 ≤ c → c ≤ length s → length (point_at s c).coordinates ≡ n
  pub file : (c : ℕ) → 1 ≤ c → c ≤ f → (point_at s c).speed ≡ pos 0
  pub hull : (c : ℕ) → 1 ≤ c → c ≤ f → InHull s f n c
  pub m : List ℤ
  pub d : ℤ
  pub positive : pos 0 <ℤ d
  pub first : point_at s (suc f) ≡ record { coordinates = m; base = pos 0; speed = pos 1; rank = 0 }
  pub directions : (k : ℕ) → k < n → Direction i k m d (point_at s (f + suc (suc k)))

abbrev pub Shapes : ℕ → ℕ → List (List Point) → Type 0
Shapes n i [] = Unit {0}
Shapes n i (s ∷ supports) = Shape n i s × Shapes n (suc i) supports

-- P holds of each support with its number and its pair
abbrev pub EachFrom : ℕ → List (List Point) → Cell → (ℕ → List Point → ℕ → ℕ → Type 0) → Type 0
EachFrom i [] [] P = Unit {0}
EachFrom i [] (pair ∷ cell) P = ⊥
EachFrom i (s ∷ supports) [] P = ⊥
EachFrom i (s ∷ supports) (pair ∷ cell) P = P i s pair.0 pair.1 × EachFrom (suc i) supports cell P

pub from_shapes : (n i : ℕ) (supports : List (List Point)) (cell : Cell) (P : List Point → ℕ → ℕ → Type 0) (Q : ℕ → List Point → ℕ → ℕ → Type 0)
    → ((i : ℕ) (s : List Point) (a b : ℕ) → Shape n i s → P s a b → Q i s a b) → Shapes n i supports → EachPair supports cell P → EachFrom i supports cell Q
from_shapes n i [] [] P Q h w e = tt
from_shapes n i [] (pair ∷ cell) P Q h w e = e
from_shapes n i (s ∷ supports) [] P Q h w e = e
from_shapes n i (s ∷ supports) (pair ∷ cell) P Q h w e = (h i s pair.0 pair.1 w.0 e.0, from_shapes n (suc i) supports cell P Q h w.1 e.1)

pub from_both : (i : ℕ) (supports : List (List Point)) (cell : Cell) (P Q R : ℕ → List Point → ℕ → ℕ → Type 0)
    → ((i : ℕ) (s : List Point) (a b : ℕ) → P i s a b → Q i s a b → R i s a b) → EachFrom i supports cell P → EachFrom i supports cell Q → EachFrom i supports cell R
from_both i [] [] P Q R h d e = tt
from_both i [] (pair ∷ cell) P Q R h d e = e
from_both i (s ∷ supports) [] P Q R h d e = e
from_both i (s ∷ supports) (pair ∷ cell) P Q R h d e = (h i s pair.0 pair.1 d.0 e.0, from_both (suc i) supports cell P Q R h d.1 e.1)

pub pairs_of_from : (i : ℕ) (supports : List (List Point)) (cell : Cell) (P : ℕ → List Point → ℕ → ℕ → Type 0) (Q : List Point → ℕ → ℕ → Type 0)
    → ((i : ℕ) (s : List Point) (a b : ℕ) → P i s a b → Q s a b) → EachFrom i supports cell P → EachPair supports cell Q
pairs_of_from i [] [] P Q h e = tt
pairs_of_from i [] (pair ∷ cell) P Q h e = e
pairs_of_from i (s ∷ supports) [] P Q h e = e
pairs_of_from i (s ∷ supports) (pair ∷ cell) P Q h e = (h i s pair.0 pair.1 e.0, pairs_of_from (suc i) supports cell P Q h e.1)

pub each_places : (P : ℕ → Type 0) (n : ℕ) → ((k : ℕ) → k < n → P k) → Each (places n) P
each_places P zero h = tt
each_places P (suc n) h = (h 0 (omega arith), each_map suc P (places n) (each_places (λ k. P (suc k)) n (λ k l. h (suc k) (omega arith))))

pub each_corner : (P : ℕ → Type 0) (f n : ℕ) → ((c : ℕ) → f < c → c ≤ f + suc n → P c) → Each (corner_places f n) P
each_corner P f n h = (
  h (suc f) (omega arith) (omega arith),
  each_map (λ k. f + suc (suc k)) P (places n) (each_places (λ k. P (f + suc (suc k))) n (λ k l. h (f + suc (suc k)) (omega arith) (omega arith))),
)

pub weigh_not_negative : {A : Type 0} (cs : List ℤ) (xs : List A) (g : A → ℤ) → Each cs (λ c. pos 0 ≤ℤ c) → Each xs (λ x. pos 0 ≤ℤ g x) → pos 0 ≤ℤ weigh cs xs g
weigh_not_negative [] xs g p q = omega (arith, ints)
weigh_not_negative (c ∷ cs) [] g p q = omega (arith, ints)
weigh_not_negative (c ∷ cs) (x ∷ xs) g p q =
    let r = weigh_not_negative cs xs g p.1 q.1 in
    let k = mul_le_ℤ (pos 0) c (g x) p.0 q.0 in
    omega (arith, ints, r, k)

pub first_not_negative : (u : List ℤ) → NotNegative u → pos 0 ≤ℤ at u 0
first_not_negative [] h = omega (arith, ints)
first_not_negative (x ∷ u) (inl (inl p)) = omega (arith, ints)
first_not_negative (x ∷ u) (inl (inr p)) = let e = p.0 in omega (arith, ints)
first_not_negative (x ∷ u) (inr z) = let e = z.0 in omega (arith, ints)

-- a negative number gets less by a positive factor
pub grows : (q p : ℤ) → pos 0 <ℤ q → p ≤ℤ pos 0 → (q *ℤ p) ≤ℤ p
grows q p h l =
    let k = mul_le_ℤ (pos 1) q (neg_ℤ p) (omega (arith, ints)) (omega (arith, ints)) in
    let e = mul_neg_ℤ q p in
    omega (arith, ints, k, e)

pub corner_speed : (n i : ℕ) (s : List Point) (h : Shape n i s) (k : ℕ) → h.f < k → k ≤ h.f + suc n → (point_at s k).speed ≡ pos 1
corner_speed n i s h k l m = elim (ℕ_discrete k (suc h.f)) [
  | yes e ↦ subst (λ j. (point_at s j).speed ≡ pos 1) (sym e) (ap (λ (p : Point). p.speed) h.first)
  | no a ↦
      let j = k - (h.f + 2) in
      let e : k ≡ h.f + suc (suc j) = omega arith in
      subst (λ i. (point_at s i).speed ≡ pos 1) (sym e) (h.directions j (omega arith)).speed
]

pub from_shapes_from : (n i : ℕ) (supports : List (List Point)) (cell : Cell) (P Q : ℕ → List Point → ℕ → ℕ → Type 0)
    → ((i : ℕ) (s : List Point) (a b : ℕ) → Shape n i s → P i s a b → Q i s a b) → Shapes n i supports → EachFrom i supports cell P → EachFrom i supports cell Q
from_shapes_from n i [] [] P Q h w e = tt
from_shapes_from n i [] (pair ∷ cell) P Q h w e = e
from_shapes_from n i (s ∷ supports) [] P Q h w e = e
from_shapes_from n i (s ∷ supports) (pair ∷ cell) P Q h w e = (h i s pair.0 pair.1 w.0 e.0, from_shapes_from n (suc i) supports cell P Q h w.1 e.1)
