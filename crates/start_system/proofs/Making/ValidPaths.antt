-- the path of a valid file is a valid problem
use Rattle.std.proofs.Common.{◌≡◌, ℕ, suc, ◌+◌, ◌≤◌, List, [], ◌∷◌, ◌++◌, length, map, take, drop, get_or, arith, refl, sym, ap, subst, ◌∙◌, inl, inr}
use Rattle.std.proofs.Math.IntN.{ℤ}
use Rattle.std.proofs.lemmas.Int.{ints}
use Rattle.int_vectors.specs.Vectors.{Each}
use Rattle.cayley.specs.Problems.{Version, Point, EachSupport, with_rank, ranked_supports}
use Rattle.cayley.specs.declared.points.Support.{Support}
use Rattle.cayley.specs.Stored.{point, problem_of}
use Rattle.cayley.specs.Files.{FilePoint, File, resting}
use Rattle.cayley.specs.Paths.{corners, path_supports, path, starts_of}
use Rattle.cayley.specs.Valid.{IsStart, AreDistinct, IsWithinFile, IsWithinProblem, IsWithinCorners, IsValidFile, IsValidProblem}
use Rattle.int_vectors.proofs.Each.{map_map, map_take, map_drop, each_map, each_both}
use Rattle.start_system.specs.Corners.{ArePoints}
use Rattle.start_system.proofs.Path.Positions.{from_zero}
use Rattle.start_system.proofs.Path.Forms.{Longs, path_form, form_well}
use Rattle.start_system.proofs.Path.Still.{form_still, moving_all}
use Rattle.start_system.proofs.Started.Heights.{valid_lift, starts_small}
use Rattle.start_system.proofs.Started.Reranking.{same_ranked, bare_ranked, taken}
use Rattle.start_system.proofs.Making.Limits.{corners_within}
use Rattle.start_system.proofs.Making.Parts.{parts_of}

abbrev bare : List Point → List Point
bare s = map (with_rank 0) s

-- ---- corners
corners_all : (n i j : ℕ) (files : List ℕ) (supports : List (List Point)) → Longs n i files supports → EachSupport j files supports (λ j f s. length s ≡ f + (n + 1))
corners_all n i j [] [] l = tt
corners_all n i j [] (s ∷ supports) l = l
corners_all n i j (f ∷ files) [] l = l
corners_all n i j (f ∷ files) (s ∷ supports) l = ((let k = l.0.1 in omega (arith, k)), corners_all n (suc i) (suc j) files supports l.1)

-- ---- what doesn't depend on ranks
carry : (Q : ℕ → ℕ → List Point → Type 0) → ((i f : ℕ) (s t : List Point) → bare s ≡ bare t → Q i f s → Q i f t) → (i : ℕ) (files : List ℕ) (ss ts : List (List Point)) → map bare ss ≡ map bare ts
    → EachSupport i files ss Q → EachSupport i files ts Q
carry Q c i files [] [] e h = h
carry Q c i files [] (t ∷ ts) e h = let l = ap length e in absurd (omega (arith, l))
carry Q c i files (s ∷ ss) [] e h = let l = ap length e in absurd (omega (arith, l))
carry Q c i [] (s ∷ ss) (t ∷ ts) e h = h
carry Q c i (f ∷ files) (s ∷ ss) (t ∷ ts) e h = (c i f s t (ap (λ l. get_or l 0 []) e) h.0, carry Q c (suc i) files ss ts (ap (drop 1) e) h.1)

each_bare : (P : Point → Type 0) → ((x : Point) → P x ≡ P (with_rank 0 x)) → (xs ys : List Point) → bare xs ≡ bare ys → Each xs P → Each ys P
each_bare P same [] [] e h = tt
each_bare P same [] (y ∷ ys) e h = let l = ap length e in absurd (omega (arith, l))
each_bare P same (x ∷ xs) [] e h = let l = ap length e in absurd (omega (arith, l))
each_bare P same (x ∷ xs) (y ∷ ys) e h = (
  subst (λ (T : Type 0). T) (sym (same y)) (subst P (ap (λ l. from_zero l 0) e) (subst (λ (T : Type 0). T) (same x) h.0)),
  each_bare P same xs ys (ap (drop 1) e) h.1,
)

WithinAt : ℕ → ℕ → List Point → Type 0
WithinAt i f s = Each (take f s) IsWithinProblem × Each (drop f s) IsWithinCorners

DistinctAt : ℕ → ℕ → List Point → Type 0
DistinctAt i f s = AreDistinct (map (λ (x : Point). x.coordinates) (take f s))

bare_taken : (f : ℕ) (s t : List Point) → bare s ≡ bare t → bare (take f s) ≡ bare (take f t)
bare_taken f s t e = map_take (with_rank 0) f s ∙ ap (take f) e ∙ sym (map_take (with_rank 0) f t)

bare_dropped : (f : ℕ) (s t : List Point) → bare s ≡ bare t → bare (drop f s) ≡ bare (drop f t)
bare_dropped f s t e = map_drop (with_rank 0) f s ∙ ap (drop f) e ∙ sym (map_drop (with_rank 0) f t)

within_carried : (i f : ℕ) (s t : List Point) → bare s ≡ bare t → WithinAt i f s → WithinAt i f t
unfolding WithinAt
within_carried i f s t e h = (
  each_bare IsWithinProblem (λ x. refl) (take f s) (take f t) (bare_taken f s t e) h.0,
  each_bare IsWithinCorners (λ x. refl) (drop f s) (drop f t) (bare_dropped f s t e) h.1,
)

distinct_carried : (i f : ℕ) (s t : List Point) → bare s ≡ bare t → DistinctAt i f s → DistinctAt i f t
unfolding DistinctAt
distinct_carried i f s t e h =
    subst AreDistinct (sym (map_map (λ (x : Point). x.coordinates) (with_rank 0) (take f s)) ∙ ap (map (λ (x : Point). x.coordinates)) (bare_taken f s t e) ∙ map_map (λ (x : Point). x.coordinates) (with_rank 0) (take f t)) h

-- ---- the supports of the path, without ranks
pub dropped : (s : List FilePoint) (ys : List Point) → drop (length s) (map resting s ++ ys) ≡ ys
dropped [] ys = refl
dropped (x ∷ s) ys = dropped s ys

module _ (n : ℕ) (A : List FilePoint → Type 0) (Q : ℕ → ℕ → List Point → Type 0)
    (one : (i : ℕ) (s : List FilePoint) (z : List ℤ) → 1 ≤ i → i ≤ n → A s → suc (length z) ≡ n → Each z IsStart → Q i (length s) (map resting s ++ corners i s z)) where
  path_each : (i : ℕ) (supports : List (List FilePoint)) (starts : List (List ℤ)) → 1 ≤ i → i + length supports ≤ suc n → length starts ≡ length supports → Each supports A
      → Each starts (λ z. suc (length z) ≡ n) → Each starts (λ z. Each z IsStart) → EachSupport i (map length supports) (path_supports i supports starts) Q
  path_each i [] starts l m e a h g = tt
  path_each i (s ∷ supports) [] l m e a h g = absurd (omega arith)
  path_each i (s ∷ supports) (z ∷ starts) l m e a h g = (one i s z l (omega arith) a.0 h.0 g.0, path_each (suc i) supports starts (omega arith) (omega arith) (omega arith) a.1 h.1 g.1)

rest_within : (s : List FilePoint) → Each s IsWithinFile → Each (map resting s) IsWithinProblem
rest_within [] h = tt
rest_within (x ∷ s) h = ((h.0.0, h.0.1, (let a = h.0.1 in omega (arith, ints, a))), rest_within s h.1)

within_one : (n : ℕ) → n ≤ 16 → (i : ℕ) (s : List FilePoint) (z : List ℤ) → 1 ≤ i → i ≤ n → Each s IsWithinFile × ArePoints n s → suc (length z) ≡ n → Each z IsStart
    → WithinAt i (length s) (map resting s ++ corners i s z)
unfolding WithinAt
within_one n o i s z l m a e g = (
  subst (λ (xs : List Point). Each xs IsWithinProblem) (sym (taken s (corners i s z))) (rest_within s a.0),
  subst (λ (xs : List Point). Each xs IsWithinCorners) (sym (dropped s (corners i s z))) (corners_within n i s z o l m e a.1 g),
)

distinct_one : (i : ℕ) (s : List FilePoint) (z : List ℤ) → AreDistinct (map (λ (x : FilePoint). x.coordinates) s) → DistinctAt i (length s) (map resting s ++ corners i s z)
unfolding DistinctAt
distinct_one i s z a = subst AreDistinct (sym (ap (map (λ (x : Point). x.coordinates)) (taken s (corners i s z)) ∙ map_map (λ (x : Point). x.coordinates) resting s)) a

points_each : (n : ℕ) (xs : List (List FilePoint)) → Each xs (λ s. (length s ≤ 1000) × ArePoints n s) → Each xs (λ s. ArePoints n s)
points_each n [] h = tt
points_each n (s ∷ xs) h = (h.0.1, points_each n xs h.1)

pub path_valid : (file : File) → IsValidFile file → IsValidProblem (path file)
unfolding WithinAt DistinctAt
path_valid file v =
    let n = file.dimension in
    let lift = valid_lift file v in
    let form = path_form file lift in
    let files = map length file.supports in
    let plain = path_supports 1 file.supports (starts_of file) in
    let same : map bare plain ≡ map bare (path file).supports = sym (bare_ranked file.version files plain) in
    let parts = parts_of file v in
    let ns = v.shape.supports in
    let points : Each file.supports (λ s. ArePoints n s) = subst (λ (m : ℕ). Each file.supports (λ s. ArePoints m s)) ns (points_each (length file.supports) file.supports parts.points) in
    let heights : Each (starts_of file) (λ z. suc (length z) ≡ n) = subst (λ (m : ℕ). Each (starts_of file) (λ z. suc (length z) ≡ m)) ns parts.heights in
    let small = starts_small file v in
    record {
      ranks = same_ranked file.version files plain (path file).supports same;
      shape = record {
        dimension = v.shape.dimension;
        problem = form_well (path file) form;
        counts = each_map length _ file.supports v.shape.counts;
        corners = inr (corners_all n 0 1 files (path file).supports form.long);
        still = inl (form_still (path file) form);
        moving = moving_all n 0 1 files (path file).supports form.long form.shapes;
      };
      limits = carry WithinAt within_carried 1 files plain (path file).supports same
          (path_each n (λ s. Each s IsWithinFile × ArePoints n s) WithinAt (within_one n v.shape.dimension.1) 1 file.supports (starts_of file) (omega arith) (omega (arith, ns)) parts.count
          (each_both _ _ file.supports v.limits points) heights small);
      distinct = carry DistinctAt distinct_carried 1 files plain (path file).supports same
          (path_each n (λ s. AreDistinct (map (λ (x : FilePoint). x.coordinates) s)) DistinctAt (λ i s z l m a e g. distinct_one i s z a) 1 file.supports (starts_of file) (omega arith) (omega (arith, ns)) parts.count
          v.distinct heights small);
    }

-- ---- as it is stored
pub stored_path : (file : File) (version : Version) (n : ℕ) (xs : List Support) → version ≡ file.version → n ≡ file.dimension → map (λ (s : Support). s.file) xs ≡ map length file.supports
    → map (λ (s : Support). map point s.points.items) xs ≡ path_supports 1 file.supports (starts_of file) → problem_of version n xs ≡ path file
stored_path file version n xs v e f g =
    λ i. record { version = v i; dimension = e i; files = f i; supports = ranked_supports (v i) (f i) (g i) }
