-- The file of scattered points is valid.
use Rattle.std.proofs.Common.{◌≡◌, ◌≢◌, ℕ, zero, suc, ◌+◌, ◌*◌, ◌^◌, ◌<◌, ◌≤◌, ◌||◌, Bool, true, false, List, [], ◌∷◌, ◌++◌, length, map, ℤ, pos, refl, ap, sym, subst, ◌∙◌, arith}
use Rattle.std.specs.Prelude.{slice_index_or, ◌==◌, unsigned_abs}
use Rattle.std.specs.Cmp.Lexicographic.{pointwise}
use Rattle.std.proofs.lemmas.List.{length-map}
use Rattle.std.proofs.lemmas.List.FromFn.{length-map-range_with_len}
use Rattle.std.proofs.lemmas.Slice.Eq.{slice_eq-Decides}
use Rattle.std.proofs.lemmas.Bool.Decides.{Decides-eqb}
use Rattle.int_vectors.specs.Vectors.{Each}
use Rattle.cayley.specs.Files.{FilePoint}
use Rattle.cayley.specs.Valid.{AreDistinct, IsCoordinate, IsWithinFile, IsValidFile}
use Rattle.family_gen.specs.Scatter.{scattered, scattered_support, scatter_file, is_among}
use Rattle.family_gen.proofs.CyclicSupports.{each_range}
use Rattle.family_gen.proofs.GridPoints.{Within}
use Rattle.family_gen.proofs.MadePoints.{read_again}
use Rattle.family_gen.proofs.ScatteredPoints.{Fresh, scattered_fresh}

abbrev coords : FilePoint → List ℤ
coords p = p.coordinates

scattered-length : (seed side n d m : ℕ) (taken : List (List ℕ)) → length (scattered seed side n d m taken) ≡ m
unfolding scattered
scattered-length seed side n d zero taken = refl
scattered-length seed side n d (suc m) taken = ap suc (scattered-length seed side n (d + n + 1) m _)

small : (side : ℕ) → side ≤ 1000000 → (xs : List ℕ) → Within side xs → Each (map pos xs) IsCoordinate
small side l [] h = tt
small side l (x ∷ xs) h = ((let e = h.0 in omega arith), small side l xs h.1)

fresh_limits : (side n : ℕ) → side ≤ 1000000 → (taken : List (List ℕ)) (ps : List FilePoint) → Fresh side n taken ps → Each ps IsWithinFile
fresh_limits side n l taken [] h = tt
fresh_limits side n l taken (p ∷ ps) h = ((subst (λ (c : List ℤ). Each c IsCoordinate) (sym h.1) (small side l h.0 h.2.1), h.3), fresh_limits side n l (taken ++ h.0 ∷ []) ps h.5)

fresh_points : (side n : ℕ) (taken : List (List ℕ)) (ps : List FilePoint) → Fresh side n taken ps → Each ps (λ (p : FilePoint). length p.coordinates ≡ n)
fresh_points side n taken [] h = tt
fresh_points side n taken (p ∷ ps) h = (ap length h.1 ∙ length-map h.0 pos ∙ h.2.0, fresh_points side n (taken ++ h.0 ∷ []) ps h.5)

abbrev same : List ℕ → List ℕ → Bool
same xs ys = pointwise (λ a b. a == b) xs ys

same_self : (x : List ℕ) → same x x ≡ true
same_self x = (slice_eq-Decides Decides-eqb x x (same x x) refl).1 refl

among_last : (x : List ℕ) (taken : List (List ℕ)) → is_among x (taken ++ x ∷ []) ≡ true
among_last x [] = rw (same_self x) refl
among_last x (t ∷ ts) = by (same t x) (among_last x ts)
  where
    by : (b : Bool) → is_among x (ts ++ x ∷ []) ≡ true → (b || is_among x (ts ++ x ∷ [])) ≡ true
    by true h = refl
    by false h = h

among_still : (x y : List ℕ) (taken : List (List ℕ)) → is_among x taken ≡ true → is_among x (taken ++ y ∷ []) ≡ true
among_still x y [] h = absurd cc
among_still x y (t ∷ ts) h = by (same t x) h (λ g. among_still x y ts g)
  where
    by : (b : Bool) → (b || is_among x ts) ≡ true → (is_among x ts ≡ true → is_among x (ts ++ y ∷ []) ≡ true) → (b || is_among x (ts ++ y ∷ [])) ≡ true
    by true h f = refl
    by false h f = f h

written_apart : (x y : List ℕ) → map pos x ≡ map pos y → x ≡ y
written_apart x y e = sym (read_again x) ∙ ap (map unsigned_abs) e ∙ read_again y

-- a point that is taken doesn't come again
never_again : (side n : ℕ) (x : List ℕ) (taken : List (List ℕ)) (ps : List FilePoint) → is_among x taken ≡ true → Fresh side n taken ps → (k : ℕ) → k < length (map coords ps) → map pos x ≢ slice_index_or (map coords ps) k []
never_again side n x taken [] a h k l e = omega arith
never_again side n x taken (p ∷ ps) a h zero l e = by (is_among x taken) a (ap (λ (z : List ℕ). is_among z taken) (written_apart x h.0 (e ∙ h.1)) ∙ h.4)
  where
    by : (b : Bool) → b ≡ true → b ≡ false → ⊥
    by b f g = cc
never_again side n x taken (p ∷ ps) a h (suc k) l e = never_again side n x (taken ++ h.0 ∷ []) ps (among_still x h.0 taken a) h.5 k (omega arith) e

fresh_distinct : (side n : ℕ) (taken : List (List ℕ)) (ps : List FilePoint) → Fresh side n taken ps → AreDistinct (map coords ps)
fresh_distinct side n taken [] h k l kl ll e = omega arith
fresh_distinct side n taken (p ∷ ps) h zero zero kl ll e = omega arith
fresh_distinct side n taken (p ∷ ps) h zero (suc l) kl ll e = never_again side n h.0 (taken ++ h.0 ∷ []) ps (among_last h.0 taken) h.5 l (omega arith) (sym h.1 ∙ e)
fresh_distinct side n taken (p ∷ ps) h (suc k) zero kl ll e = omega arith
fresh_distinct side n taken (p ∷ ps) h (suc k) (suc l) kl ll e = fresh_distinct side n (taken ++ h.0 ∷ []) ps h.5 k l (omega arith) (omega arith) e

pub scatter_valid : (n m side seed : ℕ) → 1 ≤ n → n ≤ 16 → 1 ≤ m → m ≤ 1000 → side ≤ 1000000 → m ≤ (side + 1) ^ n → IsValidFile (scatter_file n m side seed)
scatter_valid n m side seed one most some count limit room =
    let fresh = λ (i : ℕ). scattered_fresh seed side n (i * (m * (n + 1)) + 1) m [] (omega arith) (omega arith) in
    let each = λ (P : List FilePoint → Type 0) (f : (i : ℕ) → P (scattered_support seed side n m i)). each_range P (scattered_support seed side n m) 0 n (λ i l u. f i) in
    record {
      shape = record {
        dimension = (one, most);
        supports = length-map-range_with_len (scattered_support seed side n m) 0 n;
        counts = each (λ s. (1 ≤ length s) × (length s ≤ 1000)) (λ i. let e = scattered-length seed side n (i * (m * (n + 1)) + 1) m [] in rw e (some, count));
        points = each (λ s. Each s (λ (x : FilePoint). length x.coordinates ≡ n)) (λ i. fresh_points side n [] (scattered_support seed side n m i) (fresh i));
        starts = tt;
      };
      limits = each (λ s. Each s IsWithinFile) (λ i. fresh_limits side n limit [] (scattered_support seed side n m i) (fresh i));
      distinct = each (λ s. AreDistinct (map (λ (x : FilePoint). x.coordinates) s)) (λ i. fresh_distinct side n [] (scattered_support seed side n m i) (fresh i));
      starts = tt;
    }
