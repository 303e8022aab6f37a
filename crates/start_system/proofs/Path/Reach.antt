-- the least coordinates of points, and the greatest sum of a point's coordinates above them
use Rattle.std.proofs.Common.{◌≡◌, ℕ, zero, suc, ◌≤◌, List, [], ◌∷◌, length, arith, sym, ap, ◌∙◌, ◌≤ℤ◌, ◌<ℤ◌}
use Rattle.std.proofs.lemmas.Int.{ints, int_max_is, int_min_is}
use Rattle.std.proofs.Math.IntN.{ℤ, pos}
use Rattle.int_vectors.specs.Vectors.{Each, sub}
use Rattle.cayley.specs.Files.{FilePoint}
use Rattle.cayley.specs.Paths.{lower, least_coordinates, sum_of, simplex_edge}

AtMost : List ℤ → List ℤ → Type 0
AtMost [] [] = Unit {0}
AtMost [] (x ∷ xs) = ⊥
AtMost (m ∷ ms) [] = ⊥
AtMost (m ∷ ms) (x ∷ xs) = (m ≤ℤ x) × AtMost ms xs

at_most_self : (xs : List ℤ) → AtMost xs xs
unfolding AtMost
at_most_self [] = tt
at_most_self (x ∷ xs) = (omega (arith, ints), at_most_self xs)

at_most_trans : (xs ys zs : List ℤ) → AtMost xs ys → AtMost ys zs → AtMost xs zs
unfolding AtMost
at_most_trans [] [] zs p q = q
at_most_trans [] (y ∷ ys) zs p q = absurd p
at_most_trans (x ∷ xs) [] zs p q = absurd p
at_most_trans (x ∷ xs) (y ∷ ys) [] p q = absurd q
at_most_trans (x ∷ xs) (y ∷ ys) (z ∷ zs) p q = (let a = p.0 in let b = q.0 in omega (arith, ints), at_most_trans xs ys zs p.1 q.1)

lower_first : (xs ys : List ℤ) → length xs ≡ length ys → AtMost (lower xs ys) xs
unfolding AtMost
lower_first [] ys e = tt
lower_first (x ∷ xs) [] e = absurd (omega arith)
lower_first (x ∷ xs) (y ∷ ys) e = (omega (arith, ints, int_min_is x y), lower_first xs ys (omega arith))

lower_second : (xs ys : List ℤ) → length xs ≡ length ys → AtMost (lower xs ys) ys
unfolding AtMost
lower_second [] [] e = tt
lower_second [] (y ∷ ys) e = absurd (omega arith)
lower_second (x ∷ xs) [] e = absurd (omega arith)
lower_second (x ∷ xs) (y ∷ ys) e = (omega (arith, ints, int_min_is x y), lower_second xs ys (omega arith))

length-lower : (xs ys : List ℤ) (n : ℕ) → length xs ≡ n → length ys ≡ n → length (lower xs ys) ≡ n
length-lower [] ys n p q = p
length-lower (x ∷ xs) [] n p q = q
length-lower (x ∷ xs) (y ∷ ys) zero p q = absurd (omega arith)
length-lower (x ∷ xs) (y ∷ ys) (suc n) p q = ap suc (length-lower xs ys n (omega arith) (omega arith))

abbrev pub Long : ℕ → List FilePoint → Type 0
Long n points = Each points (λ x. length x.coordinates ≡ n)

pub length-least : (n : ℕ) (points : List FilePoint) → 1 ≤ length points → Long n points → length (least_coordinates points) ≡ n
length-least n [] l w = absurd (omega arith)
length-least n (x ∷ []) l w = w.0
length-least n (x ∷ y ∷ points) l w = length-lower x.coordinates (least_coordinates (y ∷ points)) n w.0 (length-least n (y ∷ points) (omega arith) w.1)

all_at_most : (m : List ℤ) (l : List ℤ) (points : List FilePoint) → AtMost m l → Each points (λ x. AtMost l x.coordinates) → Each points (λ x. AtMost m x.coordinates)
all_at_most m l [] p e = tt
all_at_most m l (x ∷ points) p e = (at_most_trans m l x.coordinates p e.0, all_at_most m l points p e.1)

least_is : (n : ℕ) (points : List FilePoint) → Long n points → Each points (λ x. AtMost (least_coordinates points) x.coordinates)
least_is n [] w = tt
least_is n (x ∷ []) w = (at_most_self x.coordinates, tt)
least_is n (x ∷ y ∷ points) w =
    let e : length x.coordinates ≡ length (least_coordinates (y ∷ points)) = w.0 ∙ sym (length-least n (y ∷ points) (omega arith) w.1) in (
      lower_first x.coordinates (least_coordinates (y ∷ points)) e,
      all_at_most (lower x.coordinates (least_coordinates (y ∷ points))) (least_coordinates (y ∷ points)) (y ∷ points) (lower_second x.coordinates (least_coordinates (y ∷ points)) e) (least_is n (y ∷ points) w.1),
    )

differences : (m x : List ℤ) → AtMost m x → Each (sub x m) (λ k. pos 0 ≤ℤ k)
unfolding AtMost
differences [] [] p = tt
differences [] (x ∷ xs) p = absurd p
differences (m ∷ ms) [] p = absurd p
differences (m ∷ ms) (x ∷ xs) p = (let a = p.0 in omega (arith, ints), differences ms xs p.1)

reach_one : (m : List ℤ) (points : List FilePoint) → pos 1 ≤ℤ simplex_edge m points
reach_one m [] = omega (arith, ints)
reach_one m (x ∷ points) = let r = reach_one m points in omega (arith, ints, r, int_max_is (sum_of (sub x.coordinates m)) (simplex_edge m points))

reach_is : (m : List ℤ) (points : List FilePoint) (d : ℤ) → simplex_edge m points ≤ℤ d → Each points (λ x. sum_of (sub x.coordinates m) ≤ℤ d)
reach_is m [] d l = tt
reach_is m (x ∷ points) d l =
    let i = int_max_is (sum_of (sub x.coordinates m)) (simplex_edge m points) in
    (omega (arith, ints, i), reach_is m points d (omega (arith, ints, i)))

-- what the hull needs of a file point
abbrev pub Inside : ℕ → List ℤ → ℤ → List ℤ → Type 0
Inside n m d x = (length x ≡ n) × Each (sub x m) (λ k. pos 0 ≤ℤ k) × (sum_of (sub x m) ≤ℤ d)

together : (n : ℕ) (m : List ℤ) (d : ℤ) (points : List FilePoint) → Long n points → Each points (λ x. AtMost m x.coordinates) → Each points (λ x. sum_of (sub x.coordinates m) ≤ℤ d)
    → Each points (λ x. Inside n m d x.coordinates)
together n m d [] w p q = tt
together n m d (x ∷ points) w p q = ((w.0, differences m x.coordinates p.0, q.0), together n m d points w.1 p.1 q.1)

pub inside_all : (n : ℕ) (points : List FilePoint) → Long n points → Each points (λ x. Inside n (least_coordinates points) (simplex_edge (least_coordinates points) points) x.coordinates)
inside_all n points w =
    let m = least_coordinates points in
    together n m (simplex_edge m points) points w (least_is n points w) (reach_is m points (simplex_edge m points) (omega (arith, ints)))

pub reach_positive : (m : List ℤ) (points : List FilePoint) → pos 0 <ℤ simplex_edge m points
reach_positive m points = let o = reach_one m points in omega (arith, ints, o)
