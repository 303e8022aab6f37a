-- a functional that vanishes on each rank's indicator vanishes on the indicator of each position
use Rattle.std.proofs.Common.{◌≡◌, ◌≢◌, ◌⊎◌, ℕ, zero, suc, ◌+◌, ◌-◌, ◌<◌, List, [], ◌∷◌, length, arith, refl, sym, ap, ap₂, subst, ◌∙◌, inl, inr}
use Rattle.std.proofs.lemmas.Int.{ints}
use Rattle.std.proofs.Math.IntN.{ℤ, pos, ◌+ℤ◌, ◌-ℤ◌, ◌*ℤ◌, neg_ℤ, *ℤ-zero}
use native.Mathlib.Decide.{ℕ_discrete}
use Rattle.int_vectors.specs.Vectors.{dot, at}
use Rattle.cayley.specs.Problems.{Point, point_at}
use Rattle.wide_int.proofs.Order.{zero_product}
use Rattle.start_system.proofs.Path.Hull.{dot_corner}
use Rattle.start_system.proofs.Path.Shape.{Shape, Shapes}
use Rattle.start_system.proofs.Perturbed.Ranks.{InAt, AtPlace}
use Rattle.start_system.proofs.Perturbed.Functionals.{Test, same_number, same_one, same_none, of_rank, coordinate, only_at, Functional, vanishing}

abbrev nulls : ℕ → List ℤ
nulls zero = []
nulls (suc n) = pos 0 ∷ nulls n

abbrev unit : ℕ → ℕ → List ℤ
unit zero j = []
unit (suc n) zero = pos 1 ∷ nulls n
unit (suc n) (suc j) = pos 0 ∷ unit n j

length-nulls : (n : ℕ) → length (nulls n) ≡ n
length-nulls zero = refl
length-nulls (suc n) = ap suc (length-nulls n)

length-unit : (n j : ℕ) → length (unit n j) ≡ n
length-unit zero j = refl
length-unit (suc n) zero = ap suc (length-nulls n)
length-unit (suc n) (suc j) = ap suc (length-unit n j)

at-nulls : (n i : ℕ) → at (nulls n) i ≡ pos 0
at-nulls zero i = refl
at-nulls (suc n) zero = refl
at-nulls (suc n) (suc i) = at-nulls n i

at-unit : (n j i : ℕ) → i < n → at (unit n j) i ≡ same_number i j
at-unit zero j i l = absurd (omega arith)
at-unit (suc n) zero zero l = refl
at-unit (suc n) zero (suc i) l = at-nulls n i
at-unit (suc n) (suc j) zero l = refl
at-unit (suc n) (suc j) (suc i) l = at-unit n j i (omega arith)

in_same : (supports : List (List Point)) (i : ℕ) (s t : List Point) → InAt supports i s → InAt supports i t → s ≡ t
in_same [] i s t h g = absurd h
in_same (u ∷ us) zero s t h g = h ∙ sym g
in_same (u ∷ us) (suc i) s t h g = in_same us i s t h g

shape_at : (n i k : ℕ) (supports : List (List Point)) (s : List Point) → Shapes n i supports → InAt supports k s → Shape n (i + k) s
shape_at n i k [] s w h = absurd h
shape_at n i zero (u ∷ us) s w h =
    let o : i ≡ i + 0 = omega arith in
    subst (λ j. Shape n j s) o (subst (Shape n i) (sym h) w.0)
shape_at n i (suc k) (u ∷ us) s w h =
    let o : suc i + k ≡ i + suc k = omega arith in
    subst (λ j. Shape n j s) o (shape_at n (suc i) k us s w.1 h)

in_long : (supports : List (List Point)) (k : ℕ) (s : List Point) → InAt supports k s → k < length supports
in_long [] k s h = absurd h
in_long (u ∷ us) zero s h = omega arith
in_long (u ∷ us) (suc k) s h = let l = in_long us k s h in omega (arith, l)

module _ (supports : List (List Point)) (n : ℕ) (T : Test → ℤ) (functional : Functional supports n T) (ranks : (e : ℕ) → T (of_rank (suc e)) ≡ pos 0)
    (apart : (k m : ℕ) (s t : List Point) (c d : ℕ) → AtPlace supports k s c → AtPlace supports m t d → (point_at s c).rank ≢ 0 → (point_at s c).rank ≡ (point_at t d).rank → (k ≡ m) × (s ≡ t) × (c ≡ d))
    (shapes : Shapes n 0 supports) (long : length supports ≡ n)
    (starts : (k : ℕ) (s : List Point) (c : ℕ) → AtPlace supports k s c → (point_at s c).rank ≡ 0 → (c ≡ length s - n) ⊎ (c ≡ (length s - n) + suc k)) where
  shape_of : (k : ℕ) (s : List Point) → InAt supports k s → Shape n k s
  shape_of k s h = let o : 0 + k ≡ k = omega arith in subst (λ j. Shape n j s) o (shape_at n 0 k supports s shapes h)

  below_n : (k : ℕ) (s : List Point) → InAt supports k s → k < n
  below_n k s h = let l = in_long supports k s h in omega (arith, l, long)

  -- positions of the start corners, from the count alone
  abbrev first_place : List Point → ℕ
  first_place s = length s - n

  abbrev own_place : ℕ → List Point → ℕ
  own_place i s = (length s - n) + suc i

  first_is : (k : ℕ) (s : List Point) (h : Shape n k s) → suc h.f ≡ first_place s
  first_is k s h = let l = h.long in omega (arith, l)

  own_is : (k : ℕ) (s : List Point) (h : Shape n k s) → h.f + suc (suc k) ≡ own_place k s
  own_is k s h = let l = h.long in omega (arith, l)

  zero_at_starts : (phi : Test) → ((k : ℕ) (s : List Point) → InAt supports k s → phi k s (first_place s) ≡ pos 0) → ((k : ℕ) (s : List Point) → InAt supports k s → phi k s (own_place k s) ≡ pos 0) → T phi ≡ pos 0
  zero_at_starts phi f g = vanishing supports n T functional ranks apart phi (λ k s c a z. elim (starts k s c a z) [ inl e ↦ ap (phi k s) e ∙ f k s a.0 | inr e ↦ ap (phi k s) e ∙ g k s a.0 ])

  places_apart : (k : ℕ) (s : List Point) → same_number (first_place s) (own_place k s) ≡ pos 0
  places_apart k s = same_none (first_place s) (own_place k s) (λ e. omega (arith, e))

  -- the step from the first corner to the own one, along y
  abbrev jump : List ℤ → ℕ → List Point → ℤ
  jump y i s = dot (point_at s (own_place i s)).coordinates y -ℤ dot (point_at s (first_place s)).coordinates y

  jump_is : (k : ℕ) (s : List Point) (h : Shape n k s) (y : List ℤ) → k < n → jump y k s ≡ h.d *ℤ at y k
  jump_is k s h y l =
      let a = ap (λ j. dot (point_at s j).coordinates y) (sym (own_is k s h)) ∙ ap (λ z. dot z y) (h.directions k l).coordinates ∙ dot_corner h.m k h.d y in
      let b = ap (λ j. dot (point_at s j).coordinates y) (sym (first_is k s h)) ∙ ap (λ (p : Point). dot p.coordinates y) h.first in
      omega (arith, ints, a, b)

  all_jumps : (y : List ℤ) → length y ≡ n → T (λ i s c. jump y i s *ℤ same_number c (own_place i s)) ≡ pos 0
  all_jumps y ly =
      let A : Test = λ i s c. jump y i s *ℤ same_number c (own_place i s) in
      let K : Test = λ i s c. dot (point_at s (first_place s)).coordinates y in
      let B : Test = λ i s c. neg_ℤ (pos 1) *ℤ coordinate y i s c +ℤ pos 1 *ℤ K i s c in
      let z = zero_at_starts (λ i s c. pos 1 *ℤ A i s c +ℤ pos 1 *ℤ B i s c)
      (λ k s h.
      let p = ap (λ x. jump y k s *ℤ x) (places_apart k s) ∙ *ℤ-zero (jump y k s) in
      omega (arith, ints, p))
      (λ k s h.
      let p = ap (λ x. jump y k s *ℤ x) (same_one (own_place k s) (own_place k s) refl) in
      omega (arith, ints, p)) in
      let l = functional.lin (pos 1) (pos 1) A B in
      let m = functional.lin (neg_ℤ (pos 1)) (pos 1) (coordinate y) K in
      let f = functional.flat y ly in
      let g = functional.level (λ i s. dot (point_at s (first_place s)).coordinates y) in
      omega (arith, ints, z, l, m, f, g)

  only_own : (j : ℕ) (s : List Point) → InAt supports j s → T (only_at j (own_place j s)) ≡ pos 0
  only_own j s a =
      let h = shape_of j s a in
      let y = unit n j in
      let e : T (λ i t c. jump y i t *ℤ same_number c (own_place i t)) ≡ T (λ i t c. h.d *ℤ only_at j (own_place j s) i t c +ℤ pos 0 *ℤ pos 0) =
      functional.same _ _ (λ i t c b l. elim (ℕ_discrete i j) [
        | yes x ↦
            let u : t ≡ s = in_same supports j t s (subst (λ k. InAt supports k t) x b.0) a in
            let p = ap₂ (λ k r. jump y k r *ℤ same_number c (own_place k r)) x u in
            let q = jump_is j s h y (below_n j s a) ∙ ap (λ w. h.d *ℤ w) (at-unit n j j (below_n j s a) ∙ same_one j j refl) in
            let o = ap (λ w. h.d *ℤ (w *ℤ same_number c (own_place j s))) (same_one i j x) in
            let r = ap (λ w. w *ℤ same_number c (own_place j s)) q in
            let m = (ap (λ w. w *ℤ same_number c (own_place j s)) (unit_right h.d)) in
            let m2 = ap (λ w. h.d *ℤ w) (unit_left (same_number c (own_place j s))) in
            omega (arith, ints, p, o, r, m, m2)
        | no x ↦
            let ht = shape_of i t b.0 in
            let q = jump_is i t ht y (below_n i t b.0) ∙ ap (λ w. ht.d *ℤ w) (at-unit n j i (below_n i t b.0) ∙ same_none i j x) ∙ *ℤ-zero ht.d in
            let r = ap (λ w. w *ℤ same_number c (own_place i t)) q in
            let o = ap (λ w. h.d *ℤ (w *ℤ same_number c (own_place j s))) (same_none i j x) ∙ ap (λ w. h.d *ℤ w) (zero_left (same_number c (own_place j s))) ∙ *ℤ-zero h.d in
            omega (arith, ints, r, o)
      ]) in
      let l = functional.lin h.d (pos 0) (only_at j (own_place j s)) (λ i t c. pos 0) in
      let z = all_jumps y (length-unit n j) in
      let d = h.positive in
      elim (zero_product h.d (T (only_at j (own_place j s))) (omega (arith, ints, e, l, z))) [ inl i ↦ absurd (omega (arith, ints, i, d)) | inr i ↦ i ]
    where
      unit_right : (x : ℤ) → x *ℤ pos 1 ≡ x
      unit_right x = omega (arith, ints)

      unit_left : (x : ℤ) → pos 1 *ℤ x ≡ x
      unit_left x = omega (arith, ints)

      zero_left : (x : ℤ) → pos 0 *ℤ x ≡ pos 0
      zero_left x = omega (arith, ints)

  only_first : (j : ℕ) (s : List Point) → InAt supports j s → T (only_at j (first_place s)) ≡ pos 0
  only_first j s a =
      let A : Test = only_at j (first_place s) in
      let B : Test = λ i t c. pos 1 *ℤ only_at j (own_place j s) i t c +ℤ neg_ℤ (pos 1) *ℤ same_number i j in
      let z = zero_at_starts (λ i t c. pos 1 *ℤ A i t c +ℤ pos 1 *ℤ B i t c)
      (λ i t b. elim (ℕ_discrete i j) [
        | yes x ↦
            let u : t ≡ s = in_same supports j t s (subst (λ k. InAt supports k t) x b) a in
            let p = ap₂ (λ f g. f *ℤ g) (same_one i j x) (same_one (first_place t) (first_place s) (ap first_place u)) in
            let q = ap₂ (λ f g. f *ℤ g) (same_one i j x) (ap (λ r. same_number (first_place r) (own_place j s)) u ∙ places_apart j s) in
            let r = same_one i j x in
            omega (arith, ints, p, q, r)
        | no x ↦
            let r = same_none i j x in
            let p = ap (λ f. f *ℤ same_number (first_place t) (first_place s)) r in
            let q = ap (λ f. f *ℤ same_number (first_place t) (own_place j s)) r in
            omega (arith, ints, p, q, r)
      ])
      (λ i t b. elim (ℕ_discrete i j) [
        | yes x ↦
            let u : t ≡ s = in_same supports j t s (subst (λ k. InAt supports k t) x b) a in
            let o : own_place i t ≡ own_place j s = ap₂ own_place x u in
            let p = ap₂ (λ f g. f *ℤ g) (same_one i j x) (same_none (own_place i t) (first_place s) (λ y. omega (arith, o, y))) in
            let q = ap₂ (λ f g. f *ℤ g) (same_one i j x) (same_one (own_place i t) (own_place j s) o) in
            let r = same_one i j x in
            omega (arith, ints, p, q, r)
        | no x ↦
            let r = same_none i j x in
            let p = ap (λ f. f *ℤ same_number (own_place i t) (first_place s)) r in
            let q = ap (λ f. f *ℤ same_number (own_place i t) (own_place j s)) r in
            omega (arith, ints, p, q, r)
      ]) in
      let l = functional.lin (pos 1) (pos 1) A B in
      let m = functional.lin (pos 1) (neg_ℤ (pos 1)) (only_at j (own_place j s)) (λ i t c. same_number i j) in
      let f = only_own j s a in
      let g = functional.level (λ i t. same_number i j) in
      omega (arith, ints, z, l, m, f, g)

  -- the indicator of any position
  pub only_zero : (j : ℕ) (s : List Point) (c : ℕ) → AtPlace supports j s c → T (only_at j c) ≡ pos 0
  only_zero j s c a = elim (ℕ_discrete (point_at s c).rank 0) [
    | yes z ↦ elim (starts j s c a z) [
      | inl e ↦ ap (λ d. T (only_at j d)) e ∙ only_first j s a.0
      | inr e ↦ ap (λ d. T (only_at j d)) e ∙ only_own j s a.0
    ]
    | no z ↦ vanishing supports n T functional ranks apart (only_at j c) (λ i t d b r. elim (ℕ_discrete i j) [
      | no x ↦ ap (λ f. f *ℤ same_number d c) (same_none i j x) ∙ omega (arith, ints)
      | yes x ↦ elim (ℕ_discrete d c) [
        | no y ↦ ap (λ f. same_number i j *ℤ f) (same_none d c y) ∙ *ℤ-zero (same_number i j)
        | yes y ↦
            let u : t ≡ s = in_same supports j t s (subst (λ k. InAt supports k t) x b.0) a.0 in
            absurd (z (sym (ap₂ (λ q k. (point_at q k).rank) u y) ∙ r))
      ]
    ])
  ]
