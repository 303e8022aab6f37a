-- what holds of one support of a valid problem
use Rattle.std.proofs.Common.{◌≡◌, ◌⊎◌, ℕ, zero, suc, ◌+◌, ◌-◌, ◌<◌, ◌≤◌, List, [], ◌∷◌, length, map, take, drop, get_or, arith, refl, sym, ap, subst, ◌∙◌, inl, inr}
use Rattle.std.proofs.Math.IntN.{pos}
use Rattle.std.proofs.lemmas.List.{length-take, length-map}
use Rattle.int_vectors.specs.Vectors.{Each}
use Rattle.cayley.specs.Problems.{Point, Problem, HasCorners, with_rank, origin, point_at}
use Rattle.cayley.specs.Files.{FilePoint}
use Rattle.cayley.specs.Stored.{held}
use Rattle.cayley.specs.Valid.{IsCoordinate, IsValidProblem, IsWithinProblem, support_at, file_count_at}
use Rattle.int_vectors.proofs.Each.{all_each, each_map, each_both, each_weaker, map_at, read_take, same_read}
use Rattle.cayley.proofs.Lists.Supports.{each_support_long, each_support_at}
use Rattle.start_system.specs.Corners.{ArePoints, points_at}

pub record SupportAt (p : Problem) (i : ℕ) : Type 0 where
  pub files : length p.files ≡ p.dimension
  pub place : i - 1 < length p.files
  pub some : 1 ≤ file_count_at p i
  pub few : file_count_at p i ≤ 1000
  pub corners : (length (support_at p i) ≡ file_count_at p i) ⊎ (length (support_at p i) ≡ file_count_at p i + (p.dimension + 1))
  pub points : ArePoints p.dimension (points_at p i)
  pub long : (c : ℕ) → 1 ≤ c → c ≤ length (support_at p i) → length (point_at (support_at p i) c).coordinates ≡ p.dimension

pub file_first : (p : Problem) (i : ℕ) → SupportAt p i → file_count_at p i ≤ length (support_at p i)
file_first p i h = by h.corners
  where
    by : (length (support_at p i) ≡ file_count_at p i) ⊎ (length (support_at p i) ≡ file_count_at p i + (p.dimension + 1)) → file_count_at p i ≤ length (support_at p i)
    by (inl e) = omega (arith, e)
    by (inr e) = omega (arith, e)

each_taken : {A : Type 0} (P : A → Type 0) (f : ℕ) (xs : List A) → Each xs P → Each (take f xs) P
each_taken P zero xs h = tt
each_taken P (suc f) [] h = tt
each_taken P (suc f) (x ∷ xs) h = (h.0, each_taken P f xs h.1)

pub corners_long : (p : Problem) → HasCorners p → length p.files ≡ length p.supports
corners_long p (inl h) = each_support_long _ 1 p.files p.supports h
corners_long p (inr h) = each_support_long _ 1 p.files p.supports h

corners_at : (p : Problem) → HasCorners p → (k : ℕ) → k < length p.supports
    → (length (get_or p.supports k []) ≡ get_or p.files k 0) ⊎ (length (get_or p.supports k []) ≡ get_or p.files k 0 + (p.dimension + 1))
corners_at p (inl h) k l = inl (each_support_at _ 1 p.files p.supports h k 0 [] l)
corners_at p (inr h) k l = inr (each_support_at _ 1 p.files p.supports h k 0 [] l)

pub support_of : (p : Problem) → IsValidProblem p → (i : ℕ) → 1 ≤ i → i ≤ p.dimension → SupportAt p i
support_of p v i l m =
    let k = i - 1 in
    let s = support_at p i in
    let f = file_count_at p i in
    let ns = v.shape.problem.supports in
    let nf = corners_long p v.shape.corners in
    let there : k < length p.supports = omega (arith, l, m, ns) in
    let counted = all_each _ p.files v.shape.counts k 0 (omega (arith, there, nf)) in
    let flat = all_each _ p.supports v.shape.problem.points k [] there in
    let within = (each_support_at _ 1 p.files p.supports v.limits k 0 [] there).0 in
    let cs = corners_at p v.shape.corners k there in
    let first = long_enough cs in
    record {
      files = nf ∙ ns;
      place = omega (arith, there, nf);
      some = counted.0;
      few = counted.1;
      corners = cs;
      points = (
        (let a = length-map (take f s) held in let b = length-take f s in let o = counted.0 in omega (arith, a, b, o, first)),
        each_map held _ (take f s) (each_both _ _ (take f s) (each_taken _ f s flat) (each_weaker IsWithinProblem _ (take f s) (λ x w. w.0) within)),
      );
      long = λ c a b. all_each _ s flat (c - 1) origin (omega (arith, a, b));
    }
  where
    long_enough : (length (support_at p i) ≡ file_count_at p i) ⊎ (length (support_at p i) ≡ file_count_at p i + (p.dimension + 1)) → file_count_at p i ≤ length (support_at p i)
    long_enough (inl e) = omega (arith, e)
    long_enough (inr e) = omega (arith, e)

-- a file point of the support, as a file has it
file_point_at : (f : ℕ) (s : List Point) (c : ℕ) (x : Point) → f ≤ length s → c < f → x ≡ point_at s (c + 1) → held x ≡ get_or (map held (take f s)) c (held x)
file_point_at f s c x l m e =
    let t = length-take f s in
    let o : c + 1 - 1 ≡ c = omega arith in
    map_at held (take f s) c x (held x)
    (e ∙ ap (λ j. get_or s j origin) o ∙ same_read s c origin x (omega (arith, l, m)) ∙ sym (read_take s f c x m)) (omega (arith, t, l, m))

-- the same of a point whose rank isn't known
pub held_at : (f : ℕ) (s : List Point) (c : ℕ) (x : Point) → f ≤ length s → c < f → x ≡ with_rank 0 (point_at s (c + 1)) → held x ≡ get_or (map held (take f s)) c (held x)
held_at f s c x l m e =
    let y = point_at s (c + 1) in
    let h : held x ≡ held y = ap held e in
    h ∙ file_point_at f s c y l m refl ∙ ap (get_or (map held (take f s)) c) (sym h)

pub count_points : (p : Problem) (i : ℕ) → SupportAt p i → length (points_at p i) ≡ file_count_at p i
count_points p i h =
    let f = file_first p i h in
    let a = length-map (take (file_count_at p i) (support_at p i)) held in
    let b = length-take (file_count_at p i) (support_at p i) in
    omega (arith, a, b, f)

pub checked_point : (p : Problem) (i : ℕ) → SupportAt p i → (c : ℕ) (x : Point) → c < file_count_at p i → x ≡ with_rank 0 (point_at (support_at p i) (c + 1)) → (length x.coordinates ≡ p.dimension) × Each x.coordinates IsCoordinate
checked_point p i h c x l e =
    let n = count_points p i h in
    subst (λ (y : FilePoint). (length y.coordinates ≡ p.dimension) × Each y.coordinates IsCoordinate)
    (sym (held_at (file_count_at p i) (support_at p i) c x (file_first p i h) l e)) (all_each _ (points_at p i) h.points.1 c (held x) (omega (arith, n, l)))

pub with_corners_there : (p : Problem) (i : ℕ) → SupportAt p i → file_count_at p i < length (support_at p i) → length (support_at p i) ≡ file_count_at p i + (p.dimension + 1)
with_corners_there p i h l = by h.corners
  where
    by : (length (support_at p i) ≡ file_count_at p i) ⊎ (length (support_at p i) ≡ file_count_at p i + (p.dimension + 1)) → length (support_at p i) ≡ file_count_at p i + (p.dimension + 1)
    by (inl e) = absurd (omega (arith, e, l))
    by (inr e) = e

pub moving_at : (p : Problem) → IsValidProblem p → (i : ℕ) → 1 ≤ i → i ≤ p.dimension → Each (drop (file_count_at p i) (support_at p i)) (λ (x : Point). x.speed ≡ pos 1)
moving_at p v i l m = let ns = v.shape.problem.supports in each_support_at _ 1 p.files p.supports v.shape.moving (i - 1) 0 [] (omega (arith, l, m, ns))
