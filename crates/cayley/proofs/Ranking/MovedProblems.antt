-- the problem of points that go from one height to another keeps what problems keep
use Rattle.std.proofs.Common.{◌≡◌, ℕ, zero, suc, ◌+◌, ◌<◌, ◌≤◌, ◌++◌, List, [], ◌∷◌, length, map, take, drop, arith, refl, ap, ap₂, sym, ◌∙◌, subst, inl, inr}
use Rattle.std.specs.Prelude.{slice_index_or}
use Rattle.std.proofs.lemmas.List.{length-map, take_all, drop_all, take_more}
use Rattle.std.proofs.lemmas.Int.{ints}
use Rattle.std.proofs.Math.IntN.{ℤ, pos, ◌+ℤ◌, ◌-ℤ◌}
use Rattle.int_vectors.specs.Vectors.{Each}
use Rattle.cayley.specs.Problems.{version1, Point, Problem, EachSupport, with_rank}
use Rattle.cayley.specs.Files.{FilePoint, File, moved, moved_points, moved_supports, between_problem}
use Rattle.cayley.specs.Shapes.{AreSecondHeights}
use Rattle.cayley.specs.Stored.{file_point, point}
use Rattle.cayley.specs.declared.points.FilePoint.{FilePoint as StoredFilePoint}
use Rattle.cayley.specs.declared.points.Point.{Point as StoredPoint}
use Rattle.int_vectors.proofs.Each.{all_each, each_unmap, each_weaker, map_at, map_map, map_take}
use Rattle.cayley.proofs.Ranking.PlainProblems.{counts_of, any}
use Rattle.std.specs.List.{All}
use Rattle.cayley.specs.Valid.{IsHeight, IsValidFile, IsValidProblem, AreDistinct, IsWithinFile, IsWithinProblem, IsWithinCorners}

-- ---- one more point, one more support
pub map_push : {A B : Type 0} (f : A → B) (xs : List A) (x : A) → map f (xs ++ x ∷ []) ≡ map f xs ++ f x ∷ []
map_push f [] x = refl
map_push f (y ∷ xs) x = ap (λ l. f y ∷ l) (map_push f xs x)

pub more_points : (xs : List FilePoint) (hs : List ℤ) (k : ℕ) (x : FilePoint) (h : ℤ) → k < length xs → length hs ≡ length xs
    → moved_points (take (suc k) xs) (take (suc k) hs) ≡ moved_points (take k xs) (take k hs) ++ moved (slice_index_or xs k x) (slice_index_or hs k h) ∷ []
more_points [] hs k x h l e = absurd (omega (arith, l))
more_points (y ∷ xs) [] k x h l e = absurd (omega (arith, e))
more_points (y ∷ xs) (g ∷ hs) zero x h l e = refl
more_points (y ∷ xs) (g ∷ hs) (suc k) x h l e = ap (λ ps. moved y g ∷ ps) (more_points xs hs k x h (omega (arith, l)) (omega (arith, e)))

pub more_supports : (ss : List (List FilePoint)) (second : List (List ℤ)) (k : ℕ) (s : List FilePoint) (hs : List ℤ) → k < length ss → length second ≡ length ss
    → moved_supports (take (suc k) ss) (take (suc k) second)
    ≡ moved_supports (take k ss) (take k second) ++ moved_points (slice_index_or ss k s) (slice_index_or second k hs) ∷ []
more_supports [] second k s hs l e = absurd (omega (arith, l))
more_supports (t ∷ ss) [] k s hs l e = absurd (omega (arith, e))
more_supports (t ∷ ss) (g ∷ second) zero s hs l e = refl
more_supports (t ∷ ss) (g ∷ second) (suc k) s hs l e = ap (λ ps. moved_points t g ∷ ps) (more_supports ss second k s hs (omega (arith, l)) (omega (arith, e)))

-- ---- what the problem keeps
moved_unranked : (s : List FilePoint) (hs : List ℤ) → map (with_rank 0) (moved_points s hs) ≡ moved_points s hs
moved_unranked [] hs = refl
moved_unranked (x ∷ s) [] = refl
moved_unranked (x ∷ s) (h ∷ hs) = ap (λ (ps : List Point). moved x h ∷ ps) (moved_unranked s hs)

pub all_moved_unranked : (ss : List (List FilePoint)) (second : List (List ℤ)) → map (map (with_rank 0)) (moved_supports ss second) ≡ moved_supports ss second
all_moved_unranked [] second = refl
all_moved_unranked (s ∷ ss) [] = refl
all_moved_unranked (s ∷ ss) (hs ∷ second) = ap₂ (λ x xs. x ∷ xs) (moved_unranked s hs) (all_moved_unranked ss second)

pub length-moved : (s : List FilePoint) (hs : List ℤ) → length hs ≡ length s → length (moved_points s hs) ≡ length s
length-moved [] hs e = refl
length-moved (x ∷ s) [] e = absurd (omega (arith, e))
length-moved (x ∷ s) (h ∷ hs) e = ap suc (length-moved s hs (omega (arith, e)))

same_coordinates : (s : List FilePoint) (hs : List ℤ) → length hs ≡ length s
    → map (λ (x : Point). x.coordinates) (moved_points s hs) ≡ map (λ (x : FilePoint). x.coordinates) s
same_coordinates [] hs e = refl
same_coordinates (x ∷ s) [] e = absurd (omega (arith, e))
same_coordinates (x ∷ s) (h ∷ hs) e = ap (λ l. x.coordinates ∷ l) (same_coordinates s hs (omega (arith, e)))

-- a property of each support with its heights, carried to the problem
by_support : (Q : List FilePoint → Type 0) (H : List ℤ → Type 0) (P : ℕ → ℕ → List Point → Type 0)
    → ((i : ℕ) (s : List FilePoint) (hs : List ℤ) → length hs ≡ length s → Q s → H hs → P i (length s) (moved_points s hs))
    → (i : ℕ) (ss : List (List FilePoint)) (second : List (List ℤ)) → map length second ≡ map length ss → Each ss Q → Each second H → EachSupport i (map length ss) (moved_supports ss second) P
by_support Q H P f i [] second e q h = tt
by_support Q H P f i (s ∷ ss) [] e q h = absurd (let l = ap length e in omega (arith, l))
by_support Q H P f i (s ∷ ss) (hs ∷ second) e q h =
    let a : length hs ≡ length s = ap (λ (l : List ℕ). slice_index_or l 0 0) e in
    let b : map length second ≡ map length ss = ap (λ (l : List ℕ). drop 1 l) e in
    (f i s hs a q.0 h.0, by_support Q H P f (suc i) ss second b q.1 h.1)

module _ (s : List FilePoint) (hs : List ℤ) (e : length hs ≡ length s) where
  whole : (P : Point → Type 0) → Each (moved_points s hs) P → Each (take (length s) (moved_points s hs)) P
  whole P h = subst (λ (ps : List Point). Each ps P) (sym (take_all (length s) (moved_points s hs) (let l = length-moved s hs e in omega (arith, l)))) h

  none : (P : Point → Type 0) → Each (drop (length s) (moved_points s hs)) P
  none P = subst (λ (ps : List Point). Each ps P) (sym (drop_all (length s) (moved_points s hs) (let l = length-moved s hs e in omega (arith, l)))) tt

each_moved : (Q : FilePoint → Type 0) (H : ℤ → Type 0) (P : Point → Type 0) → ((x : FilePoint) (h : ℤ) → Q x → H h → P (moved x h))
    → (s : List FilePoint) (hs : List ℤ) → Each s Q → Each hs H → Each (moved_points s hs) P
each_moved Q H P f [] hs q h = tt
each_moved Q H P f (x ∷ s) [] q h = tt
each_moved Q H P f (x ∷ s) (g ∷ hs) q h = (f x g q.0 h.0, each_moved Q H P f s hs q.1 h.1)

within : (x : FilePoint) (h : ℤ) → IsWithinFile x → IsHeight h → IsWithinProblem (moved x h)
within x h w k = let e : h ≡ x.height +ℤ (h -ℤ x.height) = omega (arith, ints) in (w.0, w.1, subst IsHeight e k)

each_supports : (P : List Point → Type 0) (i : ℕ) (fs : List ℕ) (us : List (List Point)) → EachSupport i fs us (λ i f s. P s) → Each us P
each_supports P i [] [] h = tt
each_supports P i [] (s ∷ us) h = absurd h
each_supports P i (f ∷ fs) [] h = absurd h
each_supports P i (f ∷ fs) (s ∷ us) h = (h.0, each_supports P (suc i) fs us h.1)

length-supports : (ss : List (List FilePoint)) (second : List (List ℤ)) → map length second ≡ map length ss → length (moved_supports ss second) ≡ length ss
length-supports [] second e = refl
length-supports (s ∷ ss) [] e = absurd (let l = ap length e in omega (arith, l))
length-supports (s ∷ ss) (hs ∷ second) e = ap suc (length-supports ss second (ap (λ (l : List ℕ). drop 1 l) e))

each_counts : (ss : List (List FilePoint)) → Each ss (λ s. (1 ≤ length s) × (length s ≤ 1000)) → Each (map length ss) (λ f. (1 ≤ f) × (f ≤ 1000))
each_counts [] h = tt
each_counts (s ∷ ss) h = (h.0, each_counts ss h.1)

pub between_valid : (file : File) (second : List (List ℤ)) → IsValidFile file → AreSecondHeights file second → IsValidProblem (between_problem file second)
between_valid file second v h =
    let ss = file.supports in
    let none_here = by_support (λ s. Unit {0}) (λ hs. Unit {0}) (λ i f s. length s ≡ f) (λ i s hs e q k. length-moved s hs e) 1 ss second h.0 (any ss) (any second) in
    record {
      ranks = sym (all_moved_unranked ss second);
      shape = record {
        dimension = v.shape.dimension;
        problem = record {
          supports = length-supports ss second h.0 ∙ v.shape.supports;
          points = each_supports _ 1 (map length ss) (moved_supports ss second)
              (by_support (λ s. Each s (λ (x : FilePoint). length x.coordinates ≡ file.dimension)) (λ hs. Each hs IsHeight) (λ i f s. Each s (λ (x : Point). length x.coordinates ≡ file.dimension))
              (λ i s hs e q k. each_moved (λ (x : FilePoint). length x.coordinates ≡ file.dimension) IsHeight (λ (x : Point). length x.coordinates ≡ file.dimension) (λ x g a b. a) s hs q k)
              1 ss second h.0 v.shape.points h.1);
        };
        counts = each_counts ss v.shape.counts;
        corners = inl none_here;
        still = inr (refl, none_here);
        moving = by_support (λ s. Unit {0}) (λ hs. Unit {0}) _ (λ i s hs e q k. none s hs e (λ (x : Point). x.speed ≡ pos 1)) 1 ss second h.0 (any ss) (any second);
      };
      limits = by_support (λ s. Each s IsWithinFile) (λ hs. Each hs IsHeight) _
          (λ i s hs e q k. (whole s hs e IsWithinProblem (each_moved IsWithinFile IsHeight IsWithinProblem within s hs q k), none s hs e IsWithinCorners)) 1 ss second h.0 v.limits h.1;
      distinct = by_support (λ s. AreDistinct (map (λ (x : FilePoint). x.coordinates) s)) (λ hs. Unit {0}) _
          (λ i s hs e q k. distinct s hs e q) 1 ss second h.0 v.distinct (any second);
    }
  where
    distinct : (s : List FilePoint) (hs : List ℤ) → length hs ≡ length s → AreDistinct (map (λ (x : FilePoint). x.coordinates) s)
        → AreDistinct (map (λ (x : Point). x.coordinates) (take (length s) (moved_points s hs)))
    distinct s hs e q =
        let l = length-moved s hs e in
        let t = take_all (length s) (moved_points s hs) (omega (arith, l)) in
        subst AreDistinct (sym (ap (map (λ (x : Point). x.coordinates)) t ∙ same_coordinates s hs e)) q

-- ---- from the points as they are stored
pub taken : {A B : Type 0} (f : A → B) (k : ℕ) (xs : List A) → map f (take (k + 1) xs) ≡ take (suc k) (map f xs)
taken f k xs = let e : k + 1 ≡ suc k = omega arith in ap (λ n. map f (take n xs)) e ∙ map_take f (suc k) xs

pub next_points : (xs : List StoredFilePoint) (hs : List ℤ) (made new : List StoredPoint) (k : ℕ) (x : StoredFilePoint) (h : ℤ) (p : StoredPoint)
    → x ≡ slice_index_or xs k x → h ≡ slice_index_or hs k h → k < length xs → length hs ≡ length xs → point p ≡ moved (file_point x) h
    → map point made ≡ moved_points (map file_point (take k xs)) (take k hs) → new ≡ made ++ p ∷ [] → map point new ≡ moved_points (map file_point (take (k + 1) xs)) (take (k + 1) hs)
next_points xs hs made new k x h p ix ih l e is before n =
    let a : k + 1 ≡ suc k = omega arith in
    let m = length-map xs file_point in
    ap (map point) n ∙ map_push point made p
    ∙ ap₂ (λ ps q. ps ++ q ∷ []) (before ∙ ap (λ ys. moved_points ys (take k hs)) (map_take file_point k xs))
    (is ∙ ap₂ moved (map_at file_point xs k x (file_point x) ix l) ih)
    ∙ sym (more_points (map file_point xs) hs k (file_point x) h (omega (arith, l, m)) (omega (arith, e, m)))
    ∙ ap₂ moved_points (sym (taken file_point k xs)) (ap (λ j. take j hs) (sym a))

module _ {X Y Z : Type 0} (points : X → List FilePoint) (numbers : Y → List ℤ) (view : Z → List Point) where
  pub next_supports : (ss : List X) (second : List Y) (made new : List Z) (k : ℕ) (s : X) (hs : Y) (z : Z)
      → s ≡ slice_index_or ss k s → hs ≡ slice_index_or second k hs → k < length ss → length second ≡ length ss → view z ≡ moved_points (points s) (numbers hs)
      → map view made ≡ moved_supports (map points (take k ss)) (map numbers (take k second)) → new ≡ made ++ z ∷ []
      → map view new ≡ moved_supports (map points (take (k + 1) ss)) (map numbers (take (k + 1) second))
  next_supports ss second made new k s hs z is ih l e z_is before n =
      let m = length-map ss points in
      let o = length-map second numbers in
      ap (map view) n ∙ map_push view made z
      ∙ ap₂ (λ ps q. ps ++ q ∷ []) (before ∙ ap₂ moved_supports (map_take points k ss) (map_take numbers k second))
      (z_is ∙ ap₂ moved_points (map_at points ss k s (points s) is l) (map_at numbers second k hs (numbers hs) ih (omega (arith, l, e))))
      ∙ sym (more_supports (map points ss) (map numbers second) k (points s) (numbers hs) (omega (arith, l, m)) (omega (arith, e, m, o)))
      ∙ ap₂ moved_supports (sym (taken points k ss)) (sym (taken numbers k second))

-- all points have been made
pub made_between : (file : File) (second : List (List ℤ)) (d : ℕ) (fs : List ℕ) (us : List (List Point))
    → d ≡ file.dimension → fs ≡ map length file.supports → us ≡ moved_supports file.supports second
    → let made : Problem = record { version = version1; dimension = d; files = fs; supports = map (map (with_rank 0)) us } in made ≡ between_problem file second
made_between file second d fs us p q r = λ i. record { version = version1; dimension = p i; files = q i; supports = (ap (map (map (with_rank 0))) r ∙ all_moved_unranked file.supports second) i }

-- one more count
pub next_counts : {X Z : Type 0} (f : Z → ℕ) (g : X → ℕ) (ss : List X) (made new : List Z) (k : ℕ) (s : X) (z : Z) → s ≡ slice_index_or ss k s → k < length ss → f z ≡ g s
    → map f made ≡ map g (take k ss) → new ≡ made ++ z ∷ [] → map f new ≡ map g (take (k + 1) ss)
next_counts f g ss made new k s z is l e before n =
    ap (map f) n ∙ map_push f made z ∙ ap₂ (λ ms m. ms ++ m ∷ []) before (e ∙ ap g is)
    ∙ sym (map_push g (take k ss) (slice_index_or ss k s)) ∙ ap (map g) (sym (take_more ss k s l))

-- what the making of the points asks
module _ {X Y : Type 0} (items : X → List StoredFilePoint) (numbers : Y → List ℤ) (file : File) (valid : IsValidFile file) (stored : List X) (is : map (λ s. map file_point (items s)) stored ≡ file.supports) where
  pub few_supports : length stored ≤ 16
  few_supports =
      let a = length-map stored (λ s. map file_point (items s)) in
      let b = ap length is in
      let c = valid.shape.supports in
      let d = valid.shape.dimension.1 in
      omega (arith, a, b, c, d)

  pub stored_heights : All (λ s. All (λ (x : StoredFilePoint). IsHeight x.height) (items s)) stored
  stored_heights = all_each _ stored (each_weaker (λ s. Each (map file_point (items s)) IsWithinFile) _ stored
      (λ s h. all_each _ (items s) (each_weaker _ (λ (x : StoredFilePoint). IsHeight x.height) (items s) (λ x w. w.1) (each_unmap file_point IsWithinFile (items s) h)))
      (each_unmap (λ s. map file_point (items s)) (λ s. Each s IsWithinFile) stored (subst (λ (ss : List (List FilePoint)). Each ss (λ s. Each s IsWithinFile)) (sym is) valid.limits)))

  module _ (second : List Y) (h : AreSecondHeights file (map numbers second)) where
    pub second_counts : map (λ s. length (numbers s)) second ≡ map (λ s. length (items s)) stored
    second_counts = sym (map_map length numbers second) ∙ h.0 ∙ sym (counts_of items stored file.supports is)

    pub second_heights : All (λ s. All IsHeight (numbers s)) second
    second_heights = all_each _ second (each_weaker (λ s. Each (numbers s) IsHeight) _ second (λ s e. all_each IsHeight (numbers s) e) (each_unmap numbers (λ hs. Each hs IsHeight) second h.1))
