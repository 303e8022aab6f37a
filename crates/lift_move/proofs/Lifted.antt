-- the file with the second heights, and its points as the end of a segment
use Rattle.std.proofs.Common.{◌≡◌, ℕ, zero, suc, ◌+◌, ◌<◌, ◌≤◌, ◌++◌, List, [], ◌∷◌, length, map, take, drop, arith, refl, ap, ap₂, sym, ◌∙◌, subst}
use Rattle.std.specs.Prelude.{slice_index_or, Option}
use Rattle.std.proofs.lemmas.List.{length-map, map_push}
use Rattle.std.proofs.lemmas.Int.{ints}
use Rattle.std.proofs.Math.IntN.{ℤ, pos, ◌+ℤ◌, ◌-ℤ◌}
use Rattle.int_vectors.specs.Vectors.{Each}
use Rattle.cayley.specs.Problems.{Version, version1, Point, with_rank, ranked_supports}
use Rattle.cayley.specs.Files.{FilePoint, File, resting, plain_problem, moved_points, moved_supports, between_problem}
use Rattle.cayley.specs.Shapes.{HasSecondHeights, AreSecondHeights}
use Rattle.cayley.specs.Stored.{file_point}
use Rattle.cayley.specs.Valid.{IsHeight, IsWithinFile, IsValidFile, AreDistinct}
use Rattle.cayley.specs.declared.points.FilePoint.{FilePoint as StoredFilePoint}
use Rattle.int_vectors.proofs.Each.{map_at, map_take}
use Rattle.cayley.proofs.Ranking.PlainProblems.{any}
use Rattle.cayley.proofs.Ranking.MovedProblems.{taken}
use Rattle.lift_move.specs.Segments.{arrived, end_of, departing, start_of, lifted, lifted_points, lifted_supports, second_of}

-- ---- one more point, one more support
more_points : (xs : List FilePoint) (hs : List ℤ) (k : ℕ) (x : FilePoint) (h : ℤ) → k < length xs → length hs ≡ length xs
    → lifted_points (take (suc k) xs) (take (suc k) hs) ≡ lifted_points (take k xs) (take k hs) ++ lifted (slice_index_or xs k x) (slice_index_or hs k h) ∷ []
more_points [] hs k x h l e = absurd (omega (arith, l))
more_points (y ∷ xs) [] k x h l e = absurd (omega (arith, e))
more_points (y ∷ xs) (g ∷ hs) zero x h l e = refl
more_points (y ∷ xs) (g ∷ hs) (suc k) x h l e = ap (λ ps. lifted y g ∷ ps) (more_points xs hs k x h (omega (arith, l)) (omega (arith, e)))

more_supports : (ss : List (List FilePoint)) (second : List (List ℤ)) (k : ℕ) (s : List FilePoint) (hs : List ℤ) → k < length ss → length second ≡ length ss
    → lifted_supports (take (suc k) ss) (take (suc k) second)
    ≡ lifted_supports (take k ss) (take k second) ++ lifted_points (slice_index_or ss k s) (slice_index_or second k hs) ∷ []
more_supports [] second k s hs l e = absurd (omega (arith, l))
more_supports (t ∷ ss) [] k s hs l e = absurd (omega (arith, e))
more_supports (t ∷ ss) (g ∷ second) zero s hs l e = refl
more_supports (t ∷ ss) (g ∷ second) (suc k) s hs l e = ap (λ ps. lifted_points t g ∷ ps) (more_supports ss second k s hs (omega (arith, l)) (omega (arith, e)))

pub next_lifted : (xs : List StoredFilePoint) (hs : List ℤ) (made new : List StoredFilePoint) (k : ℕ) (x : StoredFilePoint) (h : ℤ) (p : StoredFilePoint)
    → x ≡ slice_index_or xs k x → h ≡ slice_index_or hs k h → k < length xs → length hs ≡ length xs → file_point p ≡ lifted (file_point x) h
    → map file_point made ≡ lifted_points (map file_point (take k xs)) (take k hs) → new ≡ made ++ p ∷ []
    → map file_point new ≡ lifted_points (map file_point (take (k + 1) xs)) (take (k + 1) hs)
next_lifted xs hs made new k x h p ix ih l e is before n =
    let a : k + 1 ≡ suc k = omega arith in
    let m = length-map xs file_point in
    ap (map file_point) n ∙ map_push file_point made p
    ∙ ap₂ (λ ps q. ps ++ q ∷ []) (before ∙ ap (λ ys. lifted_points ys (take k hs)) (map_take file_point k xs))
    (is ∙ ap₂ lifted (map_at file_point xs k x (file_point x) ix l) ih)
    ∙ sym (more_points (map file_point xs) hs k (file_point x) h (omega (arith, l, m)) (omega (arith, e, m)))
    ∙ ap₂ lifted_points (sym (taken file_point k xs)) (ap (λ j. take j hs) (sym a))

module _ {X Y Z : Type 0} (points : X → List FilePoint) (numbers : Y → List ℤ) (view : Z → List FilePoint) where
  pub next_supports : (ss : List X) (second : List Y) (made new : List Z) (k : ℕ) (s : X) (hs : Y) (z : Z)
      → s ≡ slice_index_or ss k s → hs ≡ slice_index_or second k hs → k < length ss → length second ≡ length ss → view z ≡ lifted_points (points s) (numbers hs)
      → map view made ≡ lifted_supports (map points (take k ss)) (map numbers (take k second)) → new ≡ made ++ z ∷ []
      → map view new ≡ lifted_supports (map points (take (k + 1) ss)) (map numbers (take (k + 1) second))
  next_supports ss second made new k s hs z is ih l e z_is before n =
      let m = length-map ss points in
      let o = length-map second numbers in
      ap (map view) n ∙ map_push view made z
      ∙ ap₂ (λ ps q. ps ++ q ∷ []) (before ∙ ap₂ lifted_supports (map_take points k ss) (map_take numbers k second))
      (z_is ∙ ap₂ lifted_points (map_at points ss k s (points s) is l) (map_at numbers second k hs (numbers hs) ih (omega (arith, l, e))))
      ∙ sym (more_supports (map points ss) (map numbers second) k (points s) (numbers hs) (omega (arith, l, m)) (omega (arith, e, m, o)))
      ∙ ap₂ lifted_supports (sym (taken points k ss)) (sym (taken numbers k second))

-- ---- what the file keeps
length-lifted : (s : List FilePoint) (hs : List ℤ) → length hs ≡ length s → length (lifted_points s hs) ≡ length s
length-lifted [] hs e = refl
length-lifted (x ∷ s) [] e = absurd (omega (arith, e))
length-lifted (x ∷ s) (h ∷ hs) e = ap suc (length-lifted s hs (omega (arith, e)))

same_coordinates : (s : List FilePoint) (hs : List ℤ) → length hs ≡ length s → map (λ (x : FilePoint). x.coordinates) (lifted_points s hs) ≡ map (λ (x : FilePoint). x.coordinates) s
same_coordinates [] hs e = refl
same_coordinates (x ∷ s) [] e = absurd (omega (arith, e))
same_coordinates (x ∷ s) (h ∷ hs) e = ap (λ l. x.coordinates ∷ l) (same_coordinates s hs (omega (arith, e)))

each_lifted : (P : FilePoint → Type 0) (Q : ℤ → Type 0) (R : FilePoint → Type 0) → ((x : FilePoint) (h : ℤ) → P x → Q h → R (lifted x h)) → (s : List FilePoint) (hs : List ℤ)
    → Each s P → Each hs Q → Each (lifted_points s hs) R
each_lifted P Q R f [] hs p q = tt
each_lifted P Q R f (x ∷ s) [] p q = tt
each_lifted P Q R f (x ∷ s) (h ∷ hs) p q = (f x h p.0 q.0, each_lifted P Q R f s hs p.1 q.1)

by_support : (P : List FilePoint → Type 0) (Q : List ℤ → Type 0) (R : List FilePoint → Type 0) → ((s : List FilePoint) (hs : List ℤ) → length hs ≡ length s → P s → Q hs → R (lifted_points s hs))
    → (ss : List (List FilePoint)) (second : List (List ℤ)) → map length second ≡ map length ss → Each ss P → Each second Q → Each (lifted_supports ss second) R
by_support P Q R f [] second e p q = tt
by_support P Q R f (s ∷ ss) [] e p q = tt
by_support P Q R f (s ∷ ss) (hs ∷ second) e p q = (f s hs (ap (λ (l : List ℕ). slice_index_or l 0 0) e) p.0 q.0, by_support P Q R f ss second (ap (λ (l : List ℕ). drop 1 l) e) p.1 q.1)

lifted_counts : (ss : List (List FilePoint)) (second : List (List ℤ)) → map length second ≡ map length ss → map length (lifted_supports ss second) ≡ map length ss
lifted_counts [] second e = refl
lifted_counts (s ∷ ss) [] e = absurd (let l = ap length e in omega (arith, l))
lifted_counts (s ∷ ss) (hs ∷ second) e = ap₂ (λ n ns. n ∷ ns) (length-lifted s hs (ap (λ (l : List ℕ). slice_index_or l 0 0) e)) (lifted_counts ss second (ap (λ (l : List ℕ). drop 1 l) e))

module _ (file : File) (second : List (List ℤ)) (v : IsValidFile file) (h : AreSecondHeights file second) where
  pub second_valid : IsValidFile (second_of file second)
  second_valid =
      let ss = file.supports in
      let n : length (lifted_supports ss second) ≡ length ss = sym (length-map (lifted_supports ss second) length) ∙ ap length (lifted_counts ss second h.0) ∙ length-map ss length in
      record {
        shape = record {
          dimension = v.shape.dimension;
          supports = n ∙ v.shape.supports;
          counts = by_support (λ s. (1 ≤ length s) × (length s ≤ 1000)) (λ hs. Unit {0}) (λ s. (1 ≤ length s) × (length s ≤ 1000))
              (λ s hs e p q. subst (λ m. (1 ≤ m) × (m ≤ 1000)) (sym (length-lifted s hs e)) p) ss second h.0 v.shape.counts (any second);
          points = by_support (λ s. Each s (λ (x : FilePoint). length x.coordinates ≡ file.dimension)) (λ hs. Unit {0}) (λ s. Each s (λ (x : FilePoint). length x.coordinates ≡ file.dimension))
              (λ s hs e p q. each_lifted (λ (x : FilePoint). length x.coordinates ≡ file.dimension) (λ z. Unit {0}) (λ (x : FilePoint). length x.coordinates ≡ file.dimension) (λ x z a b. a) s hs p (any hs))
              ss second h.0 v.shape.points (any second);
          starts = v.shape.starts;
        };
        limits = by_support (λ s. Each s IsWithinFile) (λ hs. Each hs IsHeight) (λ s. Each s IsWithinFile)
            (λ s hs e p q. each_lifted IsWithinFile IsHeight IsWithinFile (λ x z a b. (a.0, b)) s hs p q) ss second h.0 v.limits h.1;
        distinct = by_support (λ s. AreDistinct (map (λ (x : FilePoint). x.coordinates) s)) (λ hs. Unit {0}) (λ s. AreDistinct (map (λ (x : FilePoint). x.coordinates) s))
            (λ s hs e p q. subst AreDistinct (sym (same_coordinates s hs e)) p) ss second h.0 v.distinct (any second);
        starts = v.starts;
      }

-- the file of its parts
pub made_second : (file : File) (second : List (List ℤ)) (v : Version) (d : ℕ) (ss : List (List FilePoint)) (starts : Option (List (List ℤ)))
    → v ≡ file.version → d ≡ file.dimension → ss ≡ lifted_supports file.supports second → starts ≡ file.starts
    → let made : File = record { version = v; dimension = d; supports = ss; starts = starts } in made ≡ second_of file second
made_second file second v d ss starts p q r s = λ i. record { version = p i; dimension = q i; supports = r i; starts = s i }

-- ---- the two ends of the segment are the problems of the two files
there : (a h : ℤ) → a +ℤ (h -ℤ a) ≡ h
there a h = omega (arith, ints)

points_arrived : (s : List FilePoint) (hs : List ℤ) → map resting (lifted_points s hs) ≡ map arrived (moved_points s hs)
points_arrived [] hs = refl
points_arrived (x ∷ s) [] = refl
points_arrived (x ∷ s) (h ∷ hs) =
    ap₂ (λ z (l : List Point). record { coordinates = x.coordinates; base = z; speed = pos 0; rank = 0 } ∷ l) (sym (there x.height h)) (points_arrived s hs)

supports_arrived : (ss : List (List FilePoint)) (second : List (List ℤ)) → map (map resting) (lifted_supports ss second) ≡ map (map arrived) (moved_supports ss second)
supports_arrived [] second = refl
supports_arrived (s ∷ ss) [] = refl
supports_arrived (s ∷ ss) (hs ∷ second) = ap₂ (λ x xs. x ∷ xs) (points_arrived s hs) (supports_arrived ss second)

points_departing : (s : List FilePoint) (hs : List ℤ) → length hs ≡ length s → map departing (moved_points s hs) ≡ map resting s
points_departing [] hs e = refl
points_departing (x ∷ s) [] e = absurd (omega (arith, e))
points_departing (x ∷ s) (h ∷ hs) e = ap (λ (l : List Point). resting x ∷ l) (points_departing s hs (omega (arith, e)))

supports_departing : (ss : List (List FilePoint)) (second : List (List ℤ)) → map length second ≡ map length ss → map (map departing) (moved_supports ss second) ≡ map (map resting) ss
supports_departing [] second e = refl
supports_departing (s ∷ ss) [] e = absurd (let l = ap length e in omega (arith, l))
supports_departing (s ∷ ss) (hs ∷ second) e =
    ap₂ (λ x xs. x ∷ xs) (points_departing s hs (ap (λ (l : List ℕ). slice_index_or l 0 0) e)) (supports_departing ss second (ap (λ (l : List ℕ). drop 1 l) e))

resting_ranks : (s : List FilePoint) → map (with_rank 0) (map resting s) ≡ map resting s
resting_ranks [] = refl
resting_ranks (x ∷ s) = ap (λ (l : List Point). resting x ∷ l) (resting_ranks s)

all_resting_ranks : (ss : List (List FilePoint)) → map (map (with_rank 0)) (map (map resting) ss) ≡ map (map resting) ss
all_resting_ranks [] = refl
all_resting_ranks (s ∷ ss) = ap₂ (λ x xs. x ∷ xs) (resting_ranks s) (all_resting_ranks ss)

module _ (file : File) (first : file.version ≡ version1) (second : List (List ℤ)) (h : HasSecondHeights file second) where
  ranked_first : (files : List ℕ) (ss : List (List FilePoint)) → ranked_supports file.version files (map (map resting) ss) ≡ map (map resting) ss
  ranked_first files ss = ap (λ v. ranked_supports v files (map (map resting) ss)) first ∙ all_resting_ranks ss

  pub plain_end : plain_problem (second_of file second) ≡ end_of (between_problem file second)
  plain_end = λ i. record {
    version = first i;
    dimension = file.dimension;
    files = lifted_counts file.supports second h i;
    supports = (ranked_first (map length (lifted_supports file.supports second)) (lifted_supports file.supports second) ∙ supports_arrived file.supports second) i;
  }

  pub plain_start : plain_problem file ≡ start_of (between_problem file second)
  plain_start = λ i. record {
    version = first i;
    dimension = file.dimension;
    files = map length file.supports;
    supports = (ranked_first (map length file.supports) file.supports ∙ sym (supports_departing file.supports second h)) i;
  }
