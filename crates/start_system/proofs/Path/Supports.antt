-- a support of a path has the shape that the proofs use, with any ranks that are 0 at the start corners
use Rattle.std.proofs.Common.{◌≡◌, ◌≢◌, ℕ, zero, suc, ◌+◌, ◌-◌, ◌<◌, ◌≤◌, List, [], ◌∷◌, ◌++◌, length, map, length-append, arith, refl, sym, ap, ap₂, subst, ◌∙◌, ◌≤ℤ◌, ◌<ℤ◌}
use Rattle.std.proofs.lemmas.Int.{ints}
use Rattle.std.proofs.Math.IntN.{ℤ, pos}
use native.Mathlib.Decide.{ℕ_discrete, dec_le}
use Rattle.int_vectors.specs.Vectors.{Each, add, at_place}
use Rattle.cayley.specs.Problems.{Point, point_at}
use Rattle.cayley.specs.Files.{FilePoint, resting}
use Rattle.cayley.specs.Paths.{least_coordinates, later_corners, direction_corners, corner, corners, simplex_edge}
use Rattle.cayley.proofs.Algebra.ScaledInverse.{length-add}
use Rattle.cayley.proofs.Algebra.Dependence.{length-map}
use Rattle.start_system.proofs.Path.Positions.{from_zero, point_suc, point_left, point_right}
use Rattle.start_system.proofs.Path.Shape.{Shape}
use Rattle.start_system.proofs.Path.Reach.{Long, Inside, inside_all, length-least, reach_positive}
use Rattle.start_system.proofs.Path.Hull.{hull_of}
use Rattle.start_system.proofs.Path.Numbering.{Reranked}
use Rattle.start_system.proofs.Making.Entries.{length-place}

-- start heights of at least 1, one for each direction but the own one
abbrev pub AreHeights : ℕ → List ℤ → Type 0
AreHeights n starts = (suc (length starts) ≡ n) × Each starts (λ z. pos 1 ≤ℤ z)

-- ---- file points
resting_from_zero : (P : List ℤ → Type 0) (points : List FilePoint) → Each points (λ x. P x.coordinates) → (c : ℕ) → c < length points
    → P (from_zero (map resting points) c).coordinates × ((from_zero (map resting points) c).speed ≡ pos 0)
resting_from_zero P [] e c l = absurd (omega arith)
resting_from_zero P (x ∷ points) e zero l = (e.0, refl)
resting_from_zero P (x ∷ points) e (suc c) l = resting_from_zero P points e.1 c (omega arith)

resting_at : (P : List ℤ → Type 0) (points : List FilePoint) → Each points (λ x. P x.coordinates) → (c : ℕ) → 1 ≤ c → c ≤ length points
    → P (point_at (map resting points) c).coordinates × ((point_at (map resting points) c).speed ≡ pos 0)
resting_at P points e zero l m = absurd (omega arith)
resting_at P points e (suc c) l m =
    subst (λ (p : Point). P p.coordinates × (p.speed ≡ pos 0)) (sym (point_suc (map resting points) c)) (resting_from_zero P points e c (omega arith))

-- ---- corners
length-later : (m : List ℤ) (d : ℤ) (k : ℕ) (starts : List ℤ) → length (later_corners m d k starts) ≡ length starts
length-later m d k [] = refl
length-later m d k (z ∷ starts) = ap suc (length-later m d (suc k) starts)

pub length-directions : (m : List ℤ) (d : ℤ) (own k : ℕ) (starts : List ℤ) → own ≤ length starts → length (direction_corners m d own k starts) ≡ suc (length starts)
length-directions m d zero k starts l = ap suc (length-later m d (suc k) starts)
length-directions m d (suc own) k [] l = absurd (omega arith)
length-directions m d (suc own) k (z ∷ starts) l = ap suc (length-directions m d own (suc k) starts (omega arith))

-- the corner of direction k
abbrev IsCorner : List ℤ → ℤ → ℕ → Point → Type 0
IsCorner m d k p = (p.coordinates ≡ add m (at_place k d)) × (p.speed ≡ pos 1) × (pos 0 <ℤ p.base)

later_at : (m : List ℤ) (d : ℤ) (k : ℕ) (starts : List ℤ) → Each starts (λ z. pos 1 ≤ℤ z) → (j : ℕ) → j < length starts
    → IsCorner m d (k + j) (from_zero (later_corners m d k starts) j)
later_at m d k [] e j l = absurd (omega arith)
later_at m d k (z ∷ starts) e zero l =
    let o : k ≡ k + 0 = omega arith in
    let h = e.0 in
    (ap (λ i. add m (at_place i d)) o, refl, omega (arith, ints, h))
later_at m d k (z ∷ starts) e (suc j) l =
    let o : suc k + j ≡ k + suc j = omega arith in
    subst (λ i. IsCorner m d i (from_zero (later_corners m d (suc k) starts) j)) o (later_at m d (suc k) starts e.1 j (omega arith))

abbrev pub IsDirection : List ℤ → ℤ → ℕ → ℕ → ℕ → Point → Type 0
IsDirection m d own j k p = (p.coordinates ≡ add m (at_place k d)) × (p.speed ≡ pos 1) × (j ≡ own → p.base ≡ pos 0) × (j ≢ own → pos 0 <ℤ p.base)

direction_at : (m : List ℤ) (d : ℤ) (own k : ℕ) (starts : List ℤ) → Each starts (λ z. pos 1 ≤ℤ z) → own ≤ length starts → (j : ℕ) → j < suc (length starts)
    → IsDirection m d own j (k + j) (from_zero (direction_corners m d own k starts) j)
direction_at m d zero k starts e w zero l =
    let o : k ≡ k + 0 = omega arith in
    (ap (λ i. add m (at_place i d)) o, refl, (λ z. refl), (λ n. absurd (n refl)))
direction_at m d zero k starts e w (suc j) l =
    let o : suc k + j ≡ k + suc j = omega arith in
    let c = later_at m d (suc k) starts e j (omega arith) in
    (c.0 ∙ ap (λ i. add m (at_place i d)) o, c.1, (λ z. absurd (omega arith)), (λ n. c.2))
direction_at m d (suc own) k [] e w j l = absurd (omega arith)
direction_at m d (suc own) k (z ∷ starts) e w zero l =
    let o : k ≡ k + 0 = omega arith in
    let h = e.0 in
    (ap (λ i. add m (at_place i d)) o, refl, (λ z. absurd (omega arith)), (λ n. omega (arith, ints, h)))
direction_at m d (suc own) k (z ∷ starts) e w (suc j) l =
    let o : suc k + j ≡ k + suc j = omega arith in
    let c = direction_at m d own (suc k) starts e.1 (omega arith) j (omega arith) in
    (c.0 ∙ ap (λ i. add m (at_place i d)) o, c.1, (λ z. c.2 (omega arith)), (λ n. c.3 (λ z. n (ap suc z))))

pub direction_from_zero : (m : List ℤ) (d : ℤ) (own : ℕ) (starts : List ℤ) → Each starts (λ z. pos 1 ≤ℤ z) → own ≤ length starts → (k : ℕ) → k < suc (length starts)
    → IsDirection m d own k k (from_zero (direction_corners m d own 0 starts) k)
direction_from_zero m d own starts e w k l =
    let o : 0 + k ≡ k = omega arith in
    subst (λ i. IsDirection m d own k i (from_zero (direction_corners m d own 0 starts) k)) o (direction_at m d own 0 starts e w k l)

-- ---- the whole support: file points and corners, the own direction counted from 0
abbrev plain_support : ℕ → List FilePoint → List ℤ → List Point
plain_support own points starts =
    let m = least_coordinates points in
    map resting points ++ corner m (pos 0) ∷ direction_corners m (simplex_edge m points) own 0 starts

plain_long : (n i : ℕ) (points : List FilePoint) (starts : List ℤ) → i < n → AreHeights n starts → length (plain_support i points starts) ≡ length points + suc n
plain_long n i points starts li h =
    let m = least_coordinates points in
    let x = length-append (map resting points) (corner m (pos 0) ∷ direction_corners m (simplex_edge m points) i 0 starts) in
    let y = length-map resting points in
    let e = h.0 in
    let z = length-directions m (simplex_edge m points) i 0 starts (omega (arith, e, li)) in
    omega (arith, x, y, z, e)

plain_shape : (n i : ℕ) (points : List FilePoint) (starts : List ℤ) (s : List Point) → 1 ≤ length points → Long n points → i < n → AreHeights n starts
    → Reranked (length points) i s (plain_support i points starts) → Shape n i s
plain_shape n i points starts s some long li heights re =
    let f = length points in
    let m = least_coordinates points in
    let d = simplex_edge m points in
    let xs = map resting points in
    let ys = corner m (pos 0) ∷ direction_corners m d i 0 starts in
    let lm = length-least n points some long in
    let inside = inside_all n points long in
    let lx = length-map resting points in
    let ls = heights.0 in
    let lu = plain_long n i points starts li heights in
    let lr = re.long in
    let plain_first : point_at (xs ++ ys) (suc f) ≡ corner m (pos 0) =
    (let e : suc f ≡ f + 1 = omega arith in ap (point_at (xs ++ ys)) e ∙ point_right xs ys f 0 lx) in
    let first_alike = re.alike (suc f) (omega arith) (omega (arith, lu)) in
    let at_direction = λ (k : ℕ) (lt : k < n). direction_from_zero m d i starts heights.1 (omega (arith, ls, li)) k (omega (arith, ls, lt)) in
    let plain_direction = λ (k : ℕ). point_right xs ys f (suc k) lx in
    let direction_alike = λ (k : ℕ) (lt : k < n). re.alike (f + suc (suc k)) (omega arith) (omega (arith, lu, lt)) in
    let coordinates_at = λ (k : ℕ) (lt : k < n). (direction_alike k lt).0 ∙ ap (λ (p : Point). p.coordinates) (plain_direction k) ∙ (at_direction k lt).0 in
    let there = λ (c : ℕ) (l : 1 ≤ c) (b : c ≤ f). resting_at (Inside n m d) points inside c l b in
    let left = λ (c : ℕ) (l : 1 ≤ c) (b : c ≤ f). point_left xs ys c l (omega (arith, lx, b)) in
    let file_alike = λ (c : ℕ) (l : 1 ≤ c) (b : c ≤ f). re.alike c l (omega (arith, lu, b)) in
    let file_coordinates = λ (c : ℕ) (l : 1 ≤ c) (b : c ≤ f). (file_alike c l b).0 ∙ ap (λ (p : Point). p.coordinates) (left c l b) in
    let first_coordinates : (point_at s (suc f)).coordinates ≡ m = first_alike.0 ∙ ap (λ (p : Point). p.coordinates) plain_first in
    record {
      f = f;
      long = lr ∙ lu;
      flat = λ c l b. elim (dec_le c f) [
        | yes y ↦ ap length (file_coordinates c l y) ∙ (there c l y).0.0
        | no y ↦ elim (ℕ_discrete c (suc f)) [
          | yes z ↦ ap (λ j. length (point_at s j).coordinates) z ∙ ap length first_coordinates ∙ lm
          | no z ↦
              let k = c - (f + 2) in
              let e : c ≡ f + suc (suc k) = omega arith in
              let lk : k < n = omega (arith, b, lr, lu) in
              ap (λ j. length (point_at s j).coordinates) e ∙ ap length (coordinates_at k lk) ∙ length-add m (at_place k d) n lm (let q = length-place k d in omega (arith, q, lk))
        ]
      ];
      file = λ c l b. (file_alike c l b).2 ∙ ap (λ (p : Point). p.speed) (left c l b) ∙ (there c l b).1;
      hull = λ c l b. hull_of n f c s m d (reach_positive m points) (subst (Inside n m d) (sym (file_coordinates c l b)) (there c l b).0) lm first_coordinates coordinates_at;
      m = m;
      d = d;
      positive = reach_positive m points;
      first = point_is (point_at s (suc f)) m first_coordinates (first_alike.1 ∙ ap (λ (p : Point). p.base) plain_first)
          (first_alike.2 ∙ ap (λ (p : Point). p.speed) plain_first) (re.first (omega (arith, lu)));
      directions = λ k lt.
          let c = at_direction k lt in
          let e = plain_direction k in
          let a = direction_alike k lt in
          record {
            coordinates = coordinates_at k lt;
            speed = a.2 ∙ ap (λ (p : Point). p.speed) e ∙ c.1;
            own = λ z. (a.1 ∙ ap (λ (p : Point). p.base) e ∙ c.2 z, ap (λ j. (point_at s (f + suc (suc j))).rank) z ∙ re.own (omega (arith, lu, li)));
            other = λ n. rw (a.1 ∙ ap (λ (p : Point). p.base) e) (c.3 n);
          };
    }
  where
    point_is : (p : Point) (m : List ℤ) → p.coordinates ≡ m → p.base ≡ pos 0 → p.speed ≡ pos 1 → p.rank ≡ 0 → p ≡ record { coordinates = m; base = pos 0; speed = pos 1; rank = 0 }
    point_is p m a b c e = rw (sym a) (ap₂ (λ (x : ℤ × ℤ) (r : ℕ). record { coordinates = p.coordinates; base = x.0; speed = x.1; rank = r }) (ap₂ (λ (x y : ℤ). (x, y)) b c) e)

-- ---- as the path has them: support i + 1, counted from 1
own_place : (i : ℕ) → suc i - 1 ≡ i
own_place i = omega arith

pub support_long : (n i : ℕ) (points : List FilePoint) (starts : List ℤ) → i < n → AreHeights n starts → length (map resting points ++ corners (suc i) points starts) ≡ length points + suc n
support_long n i points starts li h =
    subst (λ own. length (plain_support own points starts) ≡ length points + suc n) (sym (own_place i)) (plain_long n i points starts li h)

pub support_shape : (n i : ℕ) (points : List FilePoint) (starts : List ℤ) (s : List Point) → 1 ≤ length points → Long n points → i < n → AreHeights n starts
    → Reranked (length points) i s (map resting points ++ corners (suc i) points starts) → Shape n i s
support_shape n i points starts s some long li heights re =
    plain_shape n i points starts s some long li heights (subst (λ own. Reranked (length points) i s (plain_support own points starts)) (own_place i) re)
