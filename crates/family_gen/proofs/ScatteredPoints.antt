-- Scattered points from a later number on, one point more, and what all of them keep.
use Rattle.std.proofs.Common.{◌≡◌, ℕ, zero, suc, ◌+◌, ◌*◌, ◌^◌, ◌≤◌, List, [], ◌∷◌, ◌++◌, length, map, ℤ, pos, refl, ap, ap₂, sym, ◌∙◌, append_assoc, append-nil, arith, false}
use Rattle.std.proofs.lemmas.List.{map-append, length_push}
use Rattle.std.proofs.Math.Nat.{suc-mul}
use Rattle.cayley.specs.Files.{FilePoint}
use Rattle.cayley.specs.Valid.{IsHeight}
use Rattle.family_gen.specs.Generator.{following, number, height_of}
use Rattle.family_gen.specs.Lifts.{lifted_point}
use Rattle.family_gen.specs.Scatter.{drawn, next_free, scattered, is_among}
use Rattle.family_gen.specs.Seen.{coordinates_of}
use Rattle.family_gen.proofs.DrawnNumbers.{number-add}
use Rattle.family_gen.proofs.DrawnCoordinates.{drawn_later, drawn_within, drawn_length}
use Rattle.family_gen.proofs.FreePoints.{IsOfGrid, next_is_free}
use Rattle.family_gen.proofs.MadePoints.{read_again}
use Rattle.family_gen.proofs.LiftedPoints.{height_fits}

pub scattered_later : (seed side n k d j m : ℕ) → j ≡ k + d → (taken : List (List ℕ)) → scattered seed side n j m taken ≡ scattered (number seed k) side n d m taken
unfolding scattered
scattered_later seed side n k d j zero e taken = refl
scattered_later seed side n k d j (suc m) e taken =
    let height : number seed j ≡ number (number seed k) d = ap (number seed) e ∙ number-add seed k d in
    let coords : drawn seed side (j + 1) n ≡ drawn (number seed k) side (d + 1) n = drawn_later seed side k (d + 1) (j + 1) n (omega arith) in
    let others = λ (x : List ℕ). scattered_later seed side n k (d + n + 1) (j + n + 1) m (omega arith) (taken ++ x ∷ []) in
    ap₂ (λ (h : ℕ) (c : List ℕ). let x = next_free side taken c in record { coordinates = map pos x; height = pos (height_of h) } ∷ scattered seed side n (j + n + 1) m (taken ++ x ∷ [])) height coords
    ∙ ap (λ (ps : List FilePoint). lifted_point (number seed k) d (map pos (next_free side taken (drawn (number seed k) side (d + 1) n))) ∷ ps) (others (next_free side taken (drawn (number seed k) side (d + 1) n)))

pub one_point : (last side n : ℕ) (taken : List (List ℕ)) (coords moved : List ℕ) (h : ℤ) → coords ≡ drawn (following last) side 1 n → moved ≡ next_free side taken coords → h ≡ pos (height_of (following last))
    → record { coordinates = map pos moved; height = h } ∷ [] ≡ scattered last side n 1 1 taken
unfolding scattered number
one_point last side n taken coords moved h e f g =
    let drawn_is : coords ≡ drawn last side 2 n = e ∙ sym (drawn_later last side 1 1 2 n refl) in
    ap₂ (λ (x : List ℕ) (z : ℤ). record { coordinates = map pos x; height = z } ∷ []) (f ∙ ap (next_free side taken) drawn_is) g

-- the first of some points, and then the others
pub first_point : (last side n m : ℕ) (taken : List (List ℕ)) → scattered last side n 1 (suc m) taken
    ≡ scattered last side n 1 1 taken ++ scattered (number last (n + 1)) side n 1 m (taken ++ map coordinates_of (scattered last side n 1 1 taken))
unfolding scattered
first_point last side n m taken =
    let x = next_free side taken (drawn last side 2 n) in
    let p = lifted_point last 1 (map pos x) in
    ap (λ (ps : List FilePoint). p ∷ ps) (scattered_later last side n (n + 1) 1 (1 + n + 1) m (omega arith) (taken ++ x ∷ []))
    ∙ ap (λ (y : List ℕ). p ∷ scattered (number last (n + 1)) side n 1 m (taken ++ y ∷ [])) (sym (read_again x))

-- a point was added to those that were made
pub point_made : (last new side n j m : ℕ) (made next whole : List FilePoint) → j ≡ suc m → next ≡ made ++ scattered last side n 1 1 (map coordinates_of made) → new ≡ number last (n + 1)
    → made ++ scattered last side n 1 j (map coordinates_of made) ≡ whole → next ++ scattered new side n 1 m (map coordinates_of next) ≡ whole
point_made last new side n j m made next whole e f g h =
    let one = scattered last side n 1 1 (map coordinates_of made) in
    let all : map coordinates_of next ≡ map coordinates_of made ++ map coordinates_of one = ap (map coordinates_of) f ∙ map-append coordinates_of made one in
    ap₂ (λ (a : List FilePoint) (b : List (List ℕ)). a ++ scattered new side n 1 m b) f all
    ∙ ap (λ (y : ℕ). (made ++ one) ++ scattered y side n 1 m (map coordinates_of made ++ map coordinates_of one)) g
    ∙ append_assoc made one _
    ∙ ap (λ (ps : List FilePoint). made ++ ps) (sym (first_point last side n m (map coordinates_of made)))
    ∙ ap (λ (i : ℕ). made ++ scattered last side n 1 i (map coordinates_of made)) (sym e) ∙ h

pub points_made : (last side n j : ℕ) (made whole : List FilePoint) → j ≡ 0 → made ++ scattered last side n 1 j (map coordinates_of made) ≡ whole → made ≡ whole
unfolding scattered
points_made last side n j made whole e h = sym (append-nil made) ∙ ap (λ (i : ℕ). made ++ scattered last side n 1 i (map coordinates_of made)) (sym e) ∙ h

-- numbers that are drawn group by group
pub group_drawn : (last new k j m whole : ℕ) → j ≡ suc m → new ≡ number last k → number last (j * k) ≡ whole → number new (m * k) ≡ whole
group_drawn last new k j m whole e f h =
    let split : j * k ≡ k + m * k = ap (λ (i : ℕ). i * k) e ∙ (omega (arith, suc-mul m k)) in
    ap (λ (y : ℕ). number y (m * k)) f ∙ sym (number-add last k (m * k)) ∙ ap (number last) (sym split) ∙ h

pub none_drawn : (last k j whole : ℕ) → j ≡ 0 → number last (j * k) ≡ whole → last ≡ whole
unfolding number
none_drawn last k j whole e h = sym (ap (λ (i : ℕ). number last i) (ap (λ (i : ℕ). i * k) e ∙ zero_times k)) ∙ h
  where
    zero_times : (k : ℕ) → 0 * k ≡ 0
    zero_times k = omega arith

-- each point is a point of the grid that none before it is
abbrev pub Fresh : ℕ → ℕ → List (List ℕ) → List FilePoint → Type 0
Fresh side n taken [] = Unit {0}
Fresh side n taken (p ∷ ps) = (x : List ℕ) × (p.coordinates ≡ map pos x) × IsOfGrid side n x × IsHeight p.height × (is_among x taken ≡ false) × Fresh side n (taken ++ x ∷ []) ps

pub scattered_fresh : (seed side n d m : ℕ) (taken : List (List ℕ)) → 1 ≤ d → length taken + m ≤ (side + 1) ^ n → Fresh side n taken (scattered seed side n d m taken)
unfolding scattered
scattered_fresh seed side n d zero taken one h = tt
scattered_fresh seed side n d (suc m) taken one h =
    let coords = drawn seed side (d + 1) n in
    let x = next_free side taken coords in
    let free = next_is_free side n taken coords (drawn_length seed side (d + 1) n, drawn_within seed side (d + 1) n) (omega arith) in
    (x, refl, free.1, height_fits seed d one, free.0, scattered_fresh seed side n (d + n + 1) m (taken ++ x ∷ []) (omega arith) (omega (arith, length_push taken x)))

pub one_scattered : (last side n : ℕ) (taken : List (List ℕ)) → length (scattered last side n 1 1 taken) ≡ 1
unfolding scattered
one_scattered last side n taken = refl
