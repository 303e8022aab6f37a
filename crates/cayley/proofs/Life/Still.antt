-- where all points rest a cell is alive at every time or at none
use Rattle.std.specs.Prelude.{slice_index_or, Bool, true, false, if◌then◌else◌}
use Rattle.std.proofs.Common.{◌≡◌, ℕ, suc, ◌+◌, ◌-◌, List, [], ◌∷◌, map, take, refl}
use Rattle.std.proofs.Math.IntN.{pos}
use Rattle.int_vectors.specs.Vectors.{Each}
use Rattle.cayley.specs.Times.{time_zero}
use Rattle.cayley.specs.Problems.{Version, Point, origin, Problem, point_at, EachSupport, IsStill, with_rank, is_start_corner, numbered, numbered_supports, ranked_supports, ranks_in, first_points, file_points}
use Rattle.cayley.specs.Problems.Version.{version1, version2}
use Rattle.cayley.specs.StillLaws.{AllRest, StillLaw, MixedLaw}
use Rattle.cayley.proofs.Lists.KnownPoints.{known_at, known_pairs}
use Rattle.cayley.proofs.Life.StillGaps.{gap_zero, gap_positive}

abbrev Rests : Point → Type 0
Rests x = x.speed ≡ pos 0

rest_at : (s : List Point) (k : ℕ) → Each s Rests → Rests (slice_index_or s k origin)
rest_at s k e = known_at Rests refl s k e

pub still_law : StillLaw
still_law p cell t u rest h =
    let v = h.2.0 in (
      h.0,
      h.1,
      (
        v,
        (h.2.1.0, known_pairs Rests p.supports cell _ _ rest (λ s a b r z. gap_zero t u v (point_at s a) (point_at s b) (rest_at s (a - 1) r) (rest_at s (b - 1) r) z) h.2.1.1),
        known_pairs Rests p.supports cell _ _ rest (λ s a b r k c f. gap_positive t u v (point_at s a) (point_at s c) (rest_at s (a - 1) r) (rest_at s (c - 1) r) (k c f)) h.2.2,
      ),
    )

-- ---- the file points alone rest
unranked_rest : (s : List Point) → Each s Rests → Each (map (with_rank 0) s) Rests
unranked_rest [] e = tt
unranked_rest (x ∷ s) e = (e.0, unranked_rest s e.1)

chosen : (test : Bool) (x y : List Point) → Each x Rests → Each y Rests → Each (if test then x else y) Rests
chosen true x y a b = a
chosen false x y a b = b

numbered_rest : (i f position r : ℕ) (s : List Point) → Each s Rests → Each (numbered i f position r s) Rests
numbered_rest i f position r [] e = tt
numbered_rest i f position r (x ∷ s) e =
    chosen (is_start_corner i f position) (with_rank 0 x ∷ numbered i f (suc position) r s) (with_rank r x ∷ numbered i f (suc position) (suc r) s)
    (e.0, numbered_rest i f (suc position) r s e.1) (e.0, numbered_rest i f (suc position) (suc r) s e.1)

all_unranked_rest : (supports : List (List Point)) → Each supports (λ s. Each s Rests) → Each (map (map (with_rank 0)) supports) (λ s. Each s Rests)
all_unranked_rest [] e = tt
all_unranked_rest (s ∷ supports) e = (unranked_rest s e.0, all_unranked_rest supports e.1)

all_numbered_rest : (i r : ℕ) (files : List ℕ) (supports : List (List Point)) → Each supports (λ s. Each s Rests) → Each (numbered_supports i r files supports) (λ s. Each s Rests)
all_numbered_rest i r files [] e = tt
all_numbered_rest i r [] (s ∷ supports) e = (numbered_rest i 0 1 r s e.0, all_numbered_rest (suc i) (r + ranks_in 0 s) [] supports e.1)
all_numbered_rest i r (f ∷ files) (s ∷ supports) e = (numbered_rest i f 1 r s e.0, all_numbered_rest (suc i) (r + ranks_in f s) files supports e.1)

first_rest : (i : ℕ) (files : List ℕ) (supports : List (List Point)) → EachSupport i files supports (λ j f s. Each (take f s) Rests) → Each (first_points files supports) (λ s. Each s Rests)
first_rest i [] supports e = tt
first_rest i (f ∷ files) [] e = tt
first_rest i (f ∷ files) (s ∷ supports) e = (e.0, first_rest (suc i) files supports e.1)

ranked_rest : (version : Version) (files : List ℕ) (supports : List (List Point)) → Each supports (λ s. Each s Rests) → Each (ranked_supports version files supports) (λ s. Each s Rests)
ranked_rest version1 files supports e = all_unranked_rest supports e
ranked_rest version2 files supports e = all_numbered_rest 1 1 files supports e

pub file_points_rest : (p : Problem) → IsStill p → AllRest (file_points p)
file_points_rest p h = ranked_rest p.version p.files (first_points p.files p.supports) (first_rest 1 p.files p.supports h)

pub mixed_law : MixedLaw
mixed_law p cell t still =
    let rest = file_points_rest p still in
    ((λ h. still_law (file_points p) cell time_zero t rest h), (λ h. still_law (file_points p) cell t time_zero rest h))
