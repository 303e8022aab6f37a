-- the least coordinates of points and the reach, one point after the other
use Rattle.std.proofs.Common.{◌≡◌, Bool, true, false, cond, Less, Equal, Greater, ℕ, zero, suc, ◌+◌, ◌<◌, ◌≤◌, List, [], ◌∷◌, ◌++◌, length, map, take, get_or, arith, refl, sym, ap, ap₂, subst, ◌∙◌, ◌≤ℤ◌}
use Rattle.std.specs.Int.{int_min, int_max}
use Rattle.std.specs.Ordering.{is_lt, int_cmp}
use Rattle.std.proofs.Math.IntN.{ℤ, pos}
use Rattle.std.proofs.lemmas.Int.{ints, int_min_is, int_max_is}
use Rattle.std.proofs.lemmas.List.{length-take, length-map, take_all}
use Rattle.int_vectors.specs.Vectors.{Each, at, sub}
use Rattle.cayley.specs.Files.{FilePoint}
use Rattle.cayley.specs.declared.points.FilePoint.{FilePoint as StoredFilePoint}
use Rattle.cayley.specs.Stored.{file_point}
use Rattle.cayley.specs.Paths.{lower, least_coordinates, sum_of, simplex_edge}
use Rattle.cayley.specs.Valid.{IsCoordinate}
use Rattle.int_vectors.proofs.Each.{each_weaker, all_each, map_at}
use Rattle.start_system.specs.Corners.{ArePoints}
use Rattle.start_system.proofs.Path.Reach.{Long, length-least}
use Rattle.start_system.proofs.Making.Entries.{take_next}

min_assoc : (a b c : ℤ) → int_min a (int_min b c) ≡ int_min (int_min a b) c
min_assoc a b c = omega (arith, ints, int_min_is b c, int_min_is a (int_min b c), int_min_is a b, int_min_is (int_min a b) c)

max_assoc : (a b c : ℤ) → int_max a (int_max b c) ≡ int_max (int_max a b) c
max_assoc a b c = omega (arith, ints, int_max_is b c, int_max_is a (int_max b c), int_max_is a b, int_max_is (int_max a b) c)

max_turned : (a b : ℤ) → int_max a b ≡ int_max b a
max_turned a b = omega (arith, ints, int_max_is a b, int_max_is b a)

-- the greater of two numbers as the code has it
chosen : (t u : Bool) (a b : ℤ) → cond (is_lt (cond t Less (cond u Greater Equal))) a b ≡ cond t a b
chosen true u a b = refl
chosen false true a b = refl
chosen false false a b = refl

pub max_chosen : (a b : ℤ) → cond (is_lt (int_cmp b a)) a b ≡ int_max a b
max_chosen a b = chosen _ _ a b

min_small : (a b : ℤ) → IsCoordinate a → IsCoordinate b → IsCoordinate (int_min a b)
min_small a b h k = omega (arith, ints, int_min_is a b, h, k)

pub long_points : (n : ℕ) (points : List FilePoint) → ArePoints n points → Long n points
long_points n points h = each_weaker _ _ points (λ x k. k.0) h.1

-- ---- the least coordinates
lower_at : (xs ys : List ℤ) (k : ℕ) → k < length xs → k < length ys → at (lower xs ys) k ≡ int_min (at xs k) (at ys k)
lower_at [] ys k l m = absurd (omega arith)
lower_at (x ∷ xs) [] k l m = absurd (omega arith)
lower_at (x ∷ xs) (y ∷ ys) zero l m = refl
lower_at (x ∷ xs) (y ∷ ys) (suc k) l m = lower_at xs ys k (omega arith) (omega arith)

least_longer : (n k : ℕ) (x : FilePoint) (xs : List FilePoint) → 1 ≤ length xs → Long n xs → length x.coordinates ≡ n → k < n
    → at (least_coordinates (xs ++ (x ∷ []))) k ≡ int_min (at (least_coordinates xs) k) (at x.coordinates k)
least_longer n k x [] l w e m = absurd (omega arith)
least_longer n k x (y ∷ []) l w e m = let f = w.0 in lower_at y.coordinates x.coordinates k (omega (arith, f)) (omega (arith, e))
least_longer n k x (y ∷ z ∷ xs) l w e m =
    let f = w.0 in
    let long = length-least n (z ∷ xs) (omega arith) w.1 in
    let more = length-least n ((z ∷ xs) ++ (x ∷ [])) (omega arith) (longer (z ∷ xs) w.1) in
    lower_at y.coordinates (least_coordinates ((z ∷ xs) ++ (x ∷ []))) k (omega (arith, f)) (omega (arith, more))
    ∙ ap (int_min (at y.coordinates k)) (least_longer n k x (z ∷ xs) (omega arith) w.1 e m)
    ∙ min_assoc (at y.coordinates k) (at (least_coordinates (z ∷ xs)) k) (at x.coordinates k)
    ∙ ap (λ v. int_min v (at x.coordinates k)) (sym (lower_at y.coordinates (least_coordinates (z ∷ xs)) k (omega (arith, f)) (omega (arith, long))))
  where
    longer : (xs : List FilePoint) → Long n xs → Long n (xs ++ (x ∷ []))
    longer [] w = (e, tt)
    longer (x ∷ xs) w = (w.0, longer xs w.1)

taken_long : (n c : ℕ) (points : List FilePoint) → Long n points → Long n (take c points)
taken_long n zero points w = tt
taken_long n (suc c) [] w = tt
taken_long n (suc c) (x ∷ points) w = (w.0, taken_long n c points w.1)

pub least_first : (k : ℕ) (points : List FilePoint) (x : FilePoint) → 0 < length points → x ≡ get_or points 0 x → at x.coordinates k ≡ at (least_coordinates (take 1 points)) k
least_first k [] x l e = absurd (omega arith)
least_first k (y ∷ points) x l e = ap (λ (z : FilePoint). at z.coordinates k) e

pub least_more : (n k c : ℕ) (points : List FilePoint) (x : FilePoint) (least : ℤ) → ArePoints n points → k < n → 1 ≤ c → c < length points → x ≡ get_or points c x
    → least ≡ at (least_coordinates (take c points)) k → int_min least (at x.coordinates k) ≡ at (least_coordinates (take (c + 1) points)) k
least_more n k c points x least h m l b is e =
    let w = long_points n points h in
    let long : length x.coordinates ≡ n = subst (λ (y : FilePoint). length y.coordinates ≡ n) (sym is) (all_each _ points w c x b) in
    let t = length-take c points in
    sym (ap (λ ps. at (least_coordinates ps) k) (take_next points c x b ∙ ap (λ y. take c points ++ (y ∷ [])) (sym is))
    ∙ least_longer n k x (take c points) (omega (arith, t)) (taken_long n c points w) long m
    ∙ ap (λ v. int_min v (at x.coordinates k)) (sym e))

pub least_end : (k c : ℕ) (points : List FilePoint) (least : ℤ) → length points ≤ c → least ≡ at (least_coordinates (take c points)) k → least ≡ at (least_coordinates points) k
least_end k c points least l e = e ∙ ap (λ ps. at (least_coordinates ps) k) (take_all c points l)

pub least_small : (n : ℕ) (points : List FilePoint) → Each points (λ x. (length x.coordinates ≡ n) × Each x.coordinates IsCoordinate) → Each (least_coordinates points) IsCoordinate
least_small n [] h = tt
least_small n (x ∷ []) h = h.0.1
least_small n (x ∷ y ∷ points) h = both x.coordinates (least_coordinates (y ∷ points)) h.0.1 (least_small n (y ∷ points) h.1)
  where
    both : (xs ys : List ℤ) → Each xs IsCoordinate → Each ys IsCoordinate → Each (lower xs ys) IsCoordinate
    both [] ys f g = tt
    both (x ∷ xs) [] f g = tt
    both (x ∷ xs) (y ∷ ys) f g = (min_small x y f.0 g.0, both xs ys f.1 g.1)

pub least_long : (n : ℕ) (points : List FilePoint) → ArePoints n points → length (least_coordinates points) ≡ n
least_long n points h = length-least n points h.0 (long_points n points h)

-- ---- the reach
reach_longer : (m : List ℤ) (x : FilePoint) (xs : List FilePoint) → simplex_edge m (xs ++ (x ∷ [])) ≡ int_max (simplex_edge m xs) (sum_of (sub x.coordinates m))
reach_longer m x [] = max_turned (sum_of (sub x.coordinates m)) (pos 1)
reach_longer m x (y ∷ xs) = ap (int_max (sum_of (sub y.coordinates m))) (reach_longer m x xs) ∙ max_assoc (sum_of (sub y.coordinates m)) (simplex_edge m xs) (sum_of (sub x.coordinates m))

pub reach_more : (m : List ℤ) (c : ℕ) (points : List FilePoint) (x : FilePoint) (most s : ℤ) → c < length points → x ≡ get_or points c x → s ≡ sum_of (sub x.coordinates m)
    → most ≡ simplex_edge m (take c points) → int_max most s ≡ simplex_edge m (take (c + 1) points)
reach_more m c points x most s l is sum e =
    sym (ap (simplex_edge m) (take_next points c x l ∙ ap (λ y. take c points ++ (y ∷ [])) (sym is)) ∙ reach_longer m x (take c points) ∙ ap₂ int_max (sym e) (sym sum))

pub reach_end : (m : List ℤ) (c : ℕ) (points : List FilePoint) (most : ℤ) → length points ≤ c → most ≡ simplex_edge m (take c points) → most ≡ simplex_edge m points
reach_end m c points most l e = e ∙ ap (simplex_edge m) (take_all c points l)

pub most_least : (a b : ℤ) → pos 1 ≤ℤ a → pos 1 ≤ℤ int_max a b
most_least a b h = omega (arith, ints, int_max_is a b, h)

pub most_greatest : (a b : ℤ) → a ≤ℤ pos 32000000 → b ≤ℤ pos 32000000 → int_max a b ≤ℤ pos 32000000
most_greatest a b h k = omega (arith, ints, int_max_is a b, h, k)

-- ---- points as they are stored
pub stored_at : (points : List StoredFilePoint) (c : ℕ) (x : StoredFilePoint) → c < length points → x ≡ get_or points c x
    → file_point x ≡ get_or (map file_point points) c (file_point x)
stored_at points c x l e = map_at file_point points c x (file_point x) e l

pub stored_point : (n : ℕ) (points : List StoredFilePoint) (c : ℕ) (x : StoredFilePoint) → ArePoints n (map file_point points) → c < length points → x ≡ get_or points c x
    → (length x.coords ≡ n) × Each x.coords IsCoordinate
stored_point n points c x h l e =
    subst (λ (y : FilePoint). (length y.coordinates ≡ n) × Each y.coordinates IsCoordinate) (sym (stored_at points c x l e))
    (all_each _ (map file_point points) h.1 c (file_point x) (let k = length-map points file_point in omega (arith, k, l)))
