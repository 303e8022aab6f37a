-- the corners of the directions, one after the other
use Rattle.std.proofs.Common.{◌≡◌, ℕ, zero, suc, ◌+◌, ◌-◌, ◌<◌, ◌≤◌, List, [], ◌∷◌, length, get_or, arith, refl, ap, ◌∙◌}
use Rattle.std.proofs.Math.IntN.{ℤ, pos}
use Rattle.int_vectors.specs.Vectors.{at, add, at_place}
use Rattle.cayley.specs.Problems.{Point, origin}
use Rattle.cayley.specs.Paths.{corner, later_corners, direction_corners}

abbrev moved_corner : List ℤ → ℤ → ℕ → ℤ → Point
moved_corner m d k z = corner (add m (at_place k d)) z

later_is : (m : List ℤ) (d : ℤ) (j k : ℕ) (starts : List ℤ) → k < length starts → moved_corner m d (j + k) (at starts k) ≡ get_or (later_corners m d j starts) k origin
later_is m d j k [] l = absurd (omega arith)
later_is m d j zero (z ∷ starts) l = let e : j + 0 ≡ j = omega arith in ap (λ i. moved_corner m d i z) e
later_is m d j (suc k) (z ∷ starts) l =
    let e : j + suc k ≡ suc j + k = omega arith in
    ap (λ i. moved_corner m d i (at starts k)) e ∙ later_is m d (suc j) k starts (omega arith)

direction_from : (m : List ℤ) (d : ℤ) (own j k : ℕ) (starts : List ℤ) (z : ℤ) → own ≤ length starts → k < suc (length starts)
    → (k ≡ own → z ≡ pos 0) → (k < own → z ≡ at starts k) → (own < k → z ≡ at starts (k - 1))
    → moved_corner m d (j + k) z ≡ get_or (direction_corners m d own j starts) k origin
direction_from m d zero j zero starts z l b h f g = let e : j + 0 ≡ j = omega arith in ap (λ i. moved_corner m d i z) e ∙ ap (moved_corner m d j) (h refl)
direction_from m d zero j (suc k) starts z l b h f g =
    let e : j + suc k ≡ suc j + k = omega arith in
    let o : suc k - 1 ≡ k = omega arith in
    ap (λ i. moved_corner m d i z) e ∙ ap (moved_corner m d (suc j + k)) (g (omega arith) ∙ ap (at starts) o) ∙ later_is m d (suc j) k starts (omega arith)
direction_from m d (suc own) j k [] z l b h f g = absurd (omega arith)
direction_from m d (suc own) j zero (s ∷ starts) z l b h f g = let e : j + 0 ≡ j = omega arith in ap (λ i. moved_corner m d i z) e ∙ ap (moved_corner m d j) (f (omega arith))
direction_from m d (suc own) j (suc k) (s ∷ starts) z l b h f g =
    let e : j + suc k ≡ suc j + k = omega arith in
    ap (λ i. moved_corner m d i z) e ∙ direction_from m d own (suc j) k starts z (omega arith) (omega arith)
    (λ q. h (ap suc q)) (λ q. f (omega arith)) (λ q. let o : suc k - 1 ≡ suc (k - 1) = omega arith in g (omega arith) ∙ ap (at (s ∷ starts)) o)

pub direction_is : (m : List ℤ) (d : ℤ) (own k : ℕ) (starts : List ℤ) (z : ℤ) → own ≤ length starts → k < suc (length starts)
    → (k ≡ own → z ≡ pos 0) → (k < own → z ≡ at starts k) → (own < k → z ≡ at starts (k - 1))
    → moved_corner m d k z ≡ get_or (direction_corners m d own 0 starts) k origin
direction_is m d own k starts z l b h f g = let e : k ≡ 0 + k = omega arith in ap (λ i. moved_corner m d i z) e ∙ direction_from m d own 0 k starts z l b h f g
