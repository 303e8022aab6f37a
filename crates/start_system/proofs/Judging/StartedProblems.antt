-- a valid problem is started exactly where each support has the corners of a path
use Rattle.std.proofs.Common.{◌≡◌, ◌⊎◌, ℕ, zero, suc, ◌+◌, ◌-◌, ◌<◌, ◌≤◌, List, [], ◌∷◌, ◌++◌, length, map, take, drop, get_or, take-append-drop, arith, refl, sym, ap, ap₂, subst, ◌∙◌, inl, inr, ◌≤ℤ◌}
use Rattle.std.proofs.Math.IntN.{ℤ, pos}
use Rattle.std.proofs.lemmas.List.{length-map, length-take, map-append}
use Rattle.int_vectors.specs.Vectors.{Each, add, at_place}
use Rattle.cayley.specs.Problems.{Point, Problem, EachSupport, version1, IsStill, HasNoCorners, with_rank, first_points, ranked_supports}
use Rattle.cayley.specs.Files.{FilePoint, resting}
use Rattle.cayley.specs.Stored.{held}
use Rattle.cayley.specs.Paths.{corner, corners, least_coordinates, later_corners, direction_corners, path_supports, simplex_edge}
use Rattle.cayley.specs.Valid.{IsValidProblem, support_at, file_count_at}
use Rattle.int_vectors.proofs.Each.{map_map, map_drop, same_read}
use Rattle.cayley.proofs.Lists.Supports.{each_support_at, each_support_from}
use Rattle.start_system.specs.Corners.{HasPathCorners}
use Rattle.start_system.specs.Started.{IsStarted}
use Rattle.start_system.proofs.Started.Reranking.{same_ranked, bare_ranked}
use Rattle.start_system.proofs.Judging.Supports.{corners_long, support_of, file_first}
use Rattle.start_system.proofs.Making.ValidPaths.{dropped}
use Rattle.start_system.proofs.Judging.Corners.{first_of}

abbrev bare : List Point → List Point
bare s = map (with_rank 0) s

-- what is used of a support: it has its file points, these rest, and its corners are those of a path
abbrev Cornered : ℕ → ℕ → ℕ → List Point → Type 0
Cornered n i f s = (f ≤ length s) × Each (take f s) (λ (x : Point). x.speed ≡ pos 0) × HasPathCorners n i f s

rested : (s : List Point) → Each s (λ (x : Point). x.speed ≡ pos 0) → bare s ≡ map resting (map held s)
rested [] h = refl
rested (x ∷ s) h = λ i. record { coordinates = x.coordinates; base = x.base; speed = h.0 i; rank = 0 } ∷ rested s h.1 i

whole : (n i f : ℕ) (s : List Point) → (h : Cornered n i f s) → bare s ≡ map resting (map held (take f s)) ++ corners i (map held (take f s)) h.2.0
whole n i f s h =
    ap bare (sym (take-append-drop f s)) ∙ map-append (with_rank 0) (take f s) (drop f s) ∙ ap₂ (λ (xs ys : List Point). xs ++ ys) (rested (take f s) h.1) h.2.3

all_starts : (n i : ℕ) (files : List ℕ) (supports : List (List Point)) → EachSupport i files supports (Cornered n)
    → (starts : List (List ℤ)) × (length starts ≡ length supports) × Each starts (λ s. (length s ≡ n - 1) × Each s (λ z. pos 1 ≤ℤ z))
    × (map bare supports ≡ path_supports i (map (map held) (first_points files supports)) starts)
    × (map length (map (map held) (first_points files supports)) ≡ files)
all_starts n i [] [] h = ([], refl, tt, refl, refl)
all_starts n i [] (s ∷ supports) h = absurd h
all_starts n i (f ∷ files) [] h = absurd h
all_starts n i (f ∷ files) (s ∷ supports) h =
    let r = all_starts n (suc i) files supports h.1 in
    let c = h.0.2 in
    let lf = h.0.0 in
    let a = length-map (take f s) held in
    let b = length-take f s in (
      c.0 ∷ r.0,
      ap suc r.1,
      ((c.1, c.2), r.2),
      ap₂ (λ (x : List Point) (xs : List (List Point)). x ∷ xs) (whole n i f s h.0) r.3,
      ap₂ (λ (x : ℕ) (xs : List ℕ). x ∷ xs) (omega (arith, a, b, lf)) r.4,
    )

bare_all : (supports : List (List Point)) → map bare (map bare supports) ≡ map bare supports
bare_all [] = refl
bare_all (s ∷ supports) = ap₂ (λ (x : List Point) (xs : List (List Point)). x ∷ xs) (map_map (with_rank 0) (with_rank 0) s) (bare_all supports)

-- with corners in each support the problem is started
pub started_by : (p : Problem) → IsValidProblem p → EachSupport 1 p.files p.supports (Cornered p.dimension) → IsStarted p
started_by p v h =
    let r = all_starts p.dimension 1 p.files p.supports h in
    let starts = r.0 in
    let supports = map (map held) (first_points p.files p.supports) in
    let plain = path_supports 1 supports starts in
    let same : map bare p.supports ≡ map bare plain = sym (bare_all p.supports) ∙ ap (map bare) r.3 in
    let ranked : p.supports ≡ ranked_supports p.version (map length supports) plain =
    v.ranks ∙ same_ranked p.version p.files p.supports plain same ∙ ap (λ files. ranked_supports p.version files plain) (sym r.4) in
    (starts, (r.1 ∙ v.shape.problem.supports, r.2), λ i. record { version = p.version; dimension = p.dimension; files = sym r.4 i; supports = ranked i })

-- ---- and back
bare_later : (m : List ℤ) (d : ℤ) (k : ℕ) (starts : List ℤ) → bare (later_corners m d k starts) ≡ later_corners m d k starts
bare_later m d k [] = refl
bare_later m d k (z ∷ starts) = ap (λ (xs : List Point). corner (add m (at_place k d)) z ∷ xs) (bare_later m d (suc k) starts)

bare_directions : (m : List ℤ) (d : ℤ) (own k : ℕ) (starts : List ℤ) → bare (direction_corners m d own k starts) ≡ direction_corners m d own k starts
bare_directions m d zero k starts = ap (λ (xs : List Point). corner (add m (at_place k d)) (pos 0) ∷ xs) (bare_later m d (suc k) starts)
bare_directions m d (suc own) k [] = refl
bare_directions m d (suc own) k (z ∷ starts) = ap (λ (xs : List Point). corner (add m (at_place k d)) z ∷ xs) (bare_directions m d own (suc k) starts)

bare_corners : (i : ℕ) (points : List FilePoint) (starts : List ℤ) → bare (corners i points starts) ≡ corners i points starts
bare_corners i points starts = ap (λ (xs : List Point). corner (least_coordinates points) (pos 0) ∷ xs) (bare_directions (least_coordinates points) (simplex_edge (least_coordinates points) points) (i - 1) 0 starts)

back_one : (n i f : ℕ) (s : List Point) (z : List ℤ) → f ≤ length s → length z ≡ n - 1 → Each z (λ z. pos 1 ≤ℤ z)
    → bare s ≡ bare (map resting (map held (take f s)) ++ corners i (map held (take f s)) z) → HasPathCorners n i f s
back_one n i f s z l e h is = (
  z,
  e,
  h,
  map_drop (with_rank 0) f s ∙ ap (drop f) is ∙ sym (map_drop (with_rank 0) f (map resting points ++ corners i points z))
      ∙ ap bare (ap (λ j. drop j (map resting points ++ corners i points z)) (sym count) ∙ dropped points (corners i points z)) ∙ bare_corners i points z,
)
  where
    points : List FilePoint
    points = map held (take f s)

    count : length points ≡ f
    count = let a = length-map (take f s) held in let b = length-take f s in omega (arith, a, b, l)

back_all : (n i : ℕ) (files : List ℕ) (supports : List (List Point)) (starts : List (List ℤ)) → length starts ≡ length supports → Each starts (λ s. (length s ≡ n - 1) × Each s (λ z. pos 1 ≤ℤ z))
    → EachSupport i files supports (λ i f s. f ≤ length s) → map bare supports ≡ map bare (path_supports i (map (map held) (first_points files supports)) starts) → EachSupport i files supports (HasPathCorners n)
back_all n i [] [] starts l h t e = tt
back_all n i [] (s ∷ supports) starts l h t e = t
back_all n i (f ∷ files) [] starts l h t e = t
back_all n i (f ∷ files) (s ∷ supports) [] l h t e = absurd (omega arith)
back_all n i (f ∷ files) (s ∷ supports) (z ∷ starts) l h t e = (
  back_one n i f s z t.0 h.0.0 h.0.1 (ap (λ xs. get_or xs 0 []) e),
  back_all n (suc i) files supports starts (omega arith) h.1 t.1 (ap (drop 1) e),
)

-- a property of each support by its number
at_places : (P : ℕ → ℕ → List Point → Type 0) (p : Problem) → IsValidProblem p → ((j : ℕ) → j < p.dimension → P (suc j) (file_count_at p (suc j)) (support_at p (suc j))) → EachSupport 1 p.files p.supports P
at_places P p v h =
    let nf = corners_long p v.shape.corners in
    let ns = v.shape.problem.supports in
    each_support_from P 1 p.files p.supports nf (λ k e d l.
    let a : suc k ≡ 1 + k = omega arith in
    let o : suc k - 1 ≡ k = omega arith in
    let ef : file_count_at p (suc k) ≡ get_or p.files k e = ap (λ j. get_or p.files j 0) o ∙ same_read p.files k 0 e (omega (arith, l, nf)) in
    let es : support_at p (suc k) ≡ get_or p.supports k d = ap (λ j. get_or p.supports j []) o ∙ same_read p.supports k [] d l in
    subst (λ j. P j (get_or p.files k e) (get_or p.supports k d)) a
    (subst (λ f. P (suc k) f (get_or p.supports k d)) ef (subst (λ s. P (suc k) (file_count_at p (suc k)) s) es (h k (omega (arith, l, ns))))))

at_place_of : (P : ℕ → ℕ → List Point → Type 0) (p : Problem) → IsValidProblem p → EachSupport 1 p.files p.supports P → (j : ℕ) → j < p.dimension → P (suc j) (file_count_at p (suc j)) (support_at p (suc j))
at_place_of P p v h j l =
    let ns = v.shape.problem.supports in
    let o : 1 + (suc j - 1) ≡ suc j = omega arith in
    subst (λ i. P i (file_count_at p (suc j)) (support_at p (suc j))) o (each_support_at P 1 p.files p.supports h (suc j - 1) 0 [] (omega (arith, ns, l)))

-- with corners the file points rest
rests : (p : Problem) → IsValidProblem p → ((j : ℕ) → j < p.dimension → HasPathCorners p.dimension (suc j) (file_count_at p (suc j)) (support_at p (suc j))) → IsStill p
rests p v h = by v.shape.still
  where
    by : IsStill p ⊎ ((p.version ≡ version1) × HasNoCorners p) → IsStill p
    by (inl s) = s
    by (inr n) =
        let some = v.shape.dimension.0 in
        let none = at_place_of (λ i f s. length s ≡ f) p v n.1 0 (omega (arith, some)) in
        let there = (first_of p.dimension 1 (file_count_at p 1) (support_at p 1) (omega arith) some (h 0 (omega (arith, some)))).0 in
        absurd (omega (arith, none, there))

pub all_started : (p : Problem) → IsValidProblem p → ((j : ℕ) → j < p.dimension → HasPathCorners p.dimension (suc j) (file_count_at p (suc j)) (support_at p (suc j))) → IsStarted p
all_started p v h = started_by p v (at_places (Cornered p.dimension) p v (λ j l.
    (file_first p (suc j) (support_of p v (suc j) (omega arith) (omega (arith, l))), at_place_of (λ i f s. Each (take f s) (λ (x : Point). x.speed ≡ pos 0)) p v (rests p v h) j l, h j l)))

pub started_all : (p : Problem) → IsValidProblem p → IsStarted p → (j : ℕ) → j < p.dimension → HasPathCorners p.dimension (suc j) (file_count_at p (suc j)) (support_at p (suc j))
started_all p v h =
    let supports = map (map held) (first_points p.files p.supports) in
    let is : map bare p.supports ≡ map bare (path_supports 1 supports h.0) =
    ap (λ (q : Problem). map bare q.supports) h.2 ∙ bare_ranked p.version (map length supports) (path_supports 1 supports h.0) in
    let there = at_places (λ i f s. f ≤ length s) p v (λ j l. file_first p (suc j) (support_of p v (suc j) (omega arith) (omega (arith, l)))) in
    at_place_of (HasPathCorners p.dimension) p v (back_all p.dimension 1 p.files p.supports h.0 (h.1.0 ∙ sym v.shape.problem.supports) h.1.1 there is)
