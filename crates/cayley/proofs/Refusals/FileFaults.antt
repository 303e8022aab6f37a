-- the faults of one support of a file, point by point
use Rattle.std.proofs.Common.{◌≡◌, ℕ, ◌+◌, ◌-◌, ◌<◌, ◌≤◌, List, [], length, map, arith, ap, sym, ◌∙◌, subst, inl, inr}
use Rattle.std.specs.Prelude.{ℤ, pos, slice_index_or, MatchOption}
use Rattle.std.proofs.lemmas.Bool.{cases_lt}
use Rattle.std.proofs.lemmas.List.{length-map}
use Rattle.cayley.specs.declared.faults.ShapeFault.{ShapeFault}
use Rattle.cayley.specs.declared.faults.ShapeFault.TheVariants.{BadShape, Repeated, Range, StartRange, OutOfMemory}
use Rattle.cayley.specs.Files.{FilePoint, File}
use Rattle.int_vectors.specs.Vectors.{Each}
use Rattle.cayley.specs.Shapes.{IsRepeat, IsOutside, IsFaulty, IsFirst, IsFirstStart, IsFileFault, IsPlaceFault, IsSupportFault, file_point_at, file_support}
use Rattle.cayley.specs.Valid.{IsStart, IsWithinFile, AreDistinct, HasFileShape, IsValidFile}
use Rattle.int_vectors.proofs.Each.{map_at, map_map, each_all, same_read, read_past}
use Rattle.cayley.proofs.Refusals.Stable.{within_stable}
use Rattle.cayley.proofs.Refusals.Repeats.{IsAmong, repeat_to, repeat_from}

module _ {X : Type 0} (view : X → FilePoint) where
  abbrev pub coords_of : List X → List (List ℤ)
  coords_of points = map (λ x. (view x).coordinates) points

-- the point in place n, which counts from 0
module _ {X : Type 0} (view : X → FilePoint) (points : List X) (n : ℕ) (x : X) (is : x ≡ slice_index_or points n x) (there : n < length points) where
  pub coords_here : slice_index_or (coords_of view points) n [] ≡ (view x).coordinates
  coords_here = sym (map_at (λ x. (view x).coordinates) points n x [] is there)

  here : file_point_at (map view points) (n + 1) ≡ view x
  here =
      let e : n + 1 - 1 ≡ n = omega arith in
      ap (λ k. slice_index_or (map view points) k (record { coordinates = []; height = pos 0 })) e
      ∙ sym (map_at view points n x (record { coordinates = []; height = pos 0 }) is there)

  pub within_not_outside : IsWithinFile (view x) → ¬ (IsOutside (map view points) (n + 1))
  within_not_outside w h = h.1 (subst IsWithinFile (sym here) w)

  pub is_repeat : IsAmong (coords_of view points) n (view x).coordinates → IsRepeat (map (λ (x : FilePoint). x.coordinates) (map view points)) (n + 1)
  is_repeat h =
      let e = map_map (λ (x : FilePoint). x.coordinates) view points in
      let k = length-map points (λ x. (view x).coordinates) in
      subst (λ lists. IsRepeat lists (n + 1)) (sym e)
      (repeat_from (coords_of view points) n (omega arith) (h.0, h.1, h.2 ∙ sym coords_here))

  pub was_repeat : IsRepeat (map (λ (x : FilePoint). x.coordinates) (map view points)) (n + 1) → IsAmong (coords_of view points) n (view x).coordinates
  was_repeat h =
      let e = map_map (λ (x : FilePoint). x.coordinates) view points in
      let r = repeat_to (coords_of view points) n (subst (λ lists. IsRepeat lists (n + 1)) e h) in
      (r.0, r.1, r.2 ∙ coords_here)

  pub sound_more : IsWithinFile (view x) → ¬ (IsAmong (coords_of view points) n (view x).coordinates)
      → ((p : ℕ) → p ≤ n → ¬ (IsFaulty (map view points) p)) → (p : ℕ) → p ≤ n + 1 → ¬ (IsFaulty (map view points) p)
  sound_more w f before p l h = elim (cases_lt p (n + 1)) [
    | inl q ↦ before p (omega arith) h
    | inr q ↦
        let e : p ≡ n + 1 = omega arith in
        last (subst (λ (p : ℕ). IsFaulty (map view points) p) e h)
  ]
    where
      last : ¬ (IsFaulty (map view points) (n + 1))
      last (inl o) = within_not_outside w o
      last (inr r) = f (was_repeat r)

-- a support without a fault: its numbers are within their limits, and its coordinates distinct
module _ (s : List FilePoint) (sound : (p : ℕ) → ¬ (IsFaulty s p)) where
  pub sound_within : Each s IsWithinFile
  sound_within = each_all IsWithinFile s (λ k d l. within_stable (slice_index_or s k d) (λ n.
      let e : k + 1 - 1 ≡ k = omega arith in
      let r = same_read s k (record { coordinates = []; height = pos 0 }) d l in
      sound (k + 1) (inl (
        (omega arith, omega arith),
        (λ w. n (subst IsWithinFile (ap (λ k. slice_index_or s k (record { coordinates = []; height = pos 0 })) e ∙ r) w)),
      ))))

  pub sound_distinct : AreDistinct (map (λ (x : FilePoint). x.coordinates) s)
  sound_distinct k l p q e = sound (l + 1) (inr (repeat_from (map (λ (x : FilePoint). x.coordinates) s) l q (k, p, e)))

-- a property of each support, which count from 1
pub by_supports : (P : List FilePoint → Type 0) (supports : List (List FilePoint)) → ((j : ℕ) → 1 ≤ j → P (file_support supports j)) → Each supports P
by_supports P supports h = each_all P supports (λ k d l.
    let e : k + 1 - 1 ≡ k = omega arith in
    subst P (ap (λ k. slice_index_or supports k []) e ∙ same_read supports k [] d l) (h (k + 1) (omega arith)))

module _ (file : File) (points : List (List FilePoint)) (same : points ≡ file.supports) (shape : HasFileShape file) where
  pub file_fault : (e : ShapeFault) → IsPlaceFault (λ j q. IsFaulty (file_support points j) q) (λ j q. IsOutside (file_support points j) q) e → IsFileFault file e
  file_fault e h = by e (subst (λ ss. IsPlaceFault (λ j q. IsFaulty (file_support ss j) q) (λ j q. IsOutside (file_support ss j) q) e) same h)
    where
      by : (e : ShapeFault) → IsPlaceFault (λ j q. IsFaulty (file_support file.supports j) q) (λ j q. IsOutside (file_support file.supports j) q) e → IsFileFault file e
      by BadShape h = absurd h
      by (Repeated i p) h = (shape, h)
      by (Range i p) h = (shape, h)
      by (StartRange i) h = absurd h
      by OutOfMemory h = tt

  module _ (sound : (j q : ℕ) → 1 ≤ j → ¬ (IsFaulty (file_support points j) q)) where
    none : (j q : ℕ) → 1 ≤ j → ¬ (IsFaulty (file_support file.supports j) q)
    none j q l h = sound j q l (subst (λ ss. IsFaulty (file_support ss j) q) (sym same) h)

    pub start_fault : (i : ℕ) → MatchOption file.starts ⊥ (λ starts. IsFirstStart starts i) → IsFileFault file (StartRange i)
    start_fault i h = (shape, none, h)

    pub file_valid : MatchOption file.starts (Unit {0}) (λ starts. Each starts (λ s. Each s IsStart)) → IsValidFile file
    file_valid h = record {
      shape = shape;
      limits = by_supports _ file.supports (λ j l. sound_within (file_support file.supports j) (λ q. none j q l));
      distinct = by_supports _ file.supports (λ j l. sound_distinct (file_support file.supports j) (λ q. none j q l));
      starts = h;
    }

-- places of which F and Out say which have a fault; the first k supports have none
module _ (F Out : ℕ → ℕ → Type 0) (k : ℕ) (before : (j q : ℕ) → 1 ≤ j → j ≤ k → ¬ (F j q)) where
  pub more_sound : ((q : ℕ) → ¬ (F (k + 1) q)) → (j q : ℕ) → 1 ≤ j → j ≤ k + 1 → ¬ (F j q)
  more_sound sound j q l m h = elim (cases_lt j (k + 1)) [
    | inl p ↦ before j q l (omega arith) h
    | inr p ↦ let e : j ≡ k + 1 = omega arith in sound q (subst (λ (j : ℕ). F j q) e h)
  ]

  pub first_fault : (e : ShapeFault) → IsSupportFault (k + 1) (F (k + 1)) (Out (k + 1)) e → IsPlaceFault F Out e
  first_fault BadShape h = absurd h
  first_fault (Repeated i p) h = (first i p h.0 h.1 h.2, λ o. h.3 (subst (λ (i : ℕ). Out i p) h.0 o))
    where
      first : (i p : ℕ) → i ≡ k + 1 → F (k + 1) p → ((q : ℕ) → q < p → ¬ (F (k + 1) q)) → IsFirst F i p
      first i p e f g = record {
        support = omega arith;
        has = subst (λ (i : ℕ). F i p) (sym e) f;
        before = λ j q l m. before j q l (omega arith);
        earlier = λ q l h. g q l (subst (λ (i : ℕ). F i q) e h);
      }
  first_fault (Range i p) h = (first i p h.0 h.1 h.2, subst (λ (i : ℕ). Out i p) (sym h.0) h.3)
    where
      first : (i p : ℕ) → i ≡ k + 1 → F (k + 1) p → ((q : ℕ) → q < p → ¬ (F (k + 1) q)) → IsFirst F i p
      first i p e f g = record {
        support = omega arith;
        has = subst (λ (i : ℕ). F i p) (sym e) f;
        before = λ j q l m. before j q l (omega arith);
        earlier = λ q l h. g q l (subst (λ (i : ℕ). F i q) e h);
      }
  first_fault (StartRange i) h = absurd h
  first_fault OutOfMemory h = tt

-- the support in place k, which counts from 0
pub support_here : {X : Type 0} (points_of : X → List FilePoint) (supports : List X) (k : ℕ) (s : X) → s ≡ slice_index_or supports k s → k < length supports
    → points_of s ≡ file_support (map points_of supports) (k + 1)
support_here points_of supports k s is there =
    let e : k ≡ k + 1 - 1 = omega arith in
    map_at points_of supports k s [] is there ∙ ap (λ k. slice_index_or (map points_of supports) k []) e

pub sound_past : (supports : List (List FilePoint)) (k : ℕ) → length supports ≤ k → ((j q : ℕ) → 1 ≤ j → j ≤ k → ¬ (IsFaulty (file_support supports j) q))
    → (j q : ℕ) → 1 ≤ j → ¬ (IsFaulty (file_support supports j) q)
sound_past supports k l before j q m h = elim (cases_lt k j) [
  | inl p ↦ nothing q (subst (λ s. IsFaulty s q) (read_past supports (j - 1) [] (omega arith)) h)
  | inr p ↦ before j q m p h
]
  where
    nothing : (q : ℕ) → ¬ (IsFaulty [] q)
    nothing q (inl o) = let a = o.0.0 in let b = o.0.1 in absurd (omega arith)
    nothing q (inr r) = let a = r.0.0 in let b = r.0.1 in absurd (omega arith)
