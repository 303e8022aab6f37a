-- Vectors of coordinates, and a set with the coordinates of one point more.
use Rattle.std.proofs.Common.{◌≡◌, ◌||◌, ℕ, zero, suc, Bool, true, cond, pos, List, [], ◌∷◌, ◌++◌, map, take, get_or, refl, sym, ap, ◌∙◌, BTreeSet, is_eq, arith, Fits, w64}
use Rattle.std.specs.Prelude.{unsigned_abs, ◌==◌}
use Rattle.std.specs.Global.{Vec}
use Rattle.std.specs.Ordering.{nat_cmp, eq_by_cmp}
use Rattle.std.proofs.lemmas.Bool.Decides.{nat_tests}
use Rattle.std.specs.Cmp.Lexicographic.{slice_cmp, pointwise, lists_ties}
use Rattle.std.specs.BTreeSet.{contains, Updates}
use Rattle.std.proofs.lemmas.List.{map_push}
use Rattle.wide_int.proofs.Bools.{last_test, next_test}
use Rattle.int_vectors.specs.Fits.{AllFit}
use Rattle.cayley.specs.Files.{FilePoint}
use Rattle.family_gen.specs.Scatter.{is_among}
use Rattle.family_gen.specs.Seen.{coordinates_cmp, coordinates_of, HasCoordinatesOf}

pub vector_fits : (n : ℕ) (xs : List ℕ) → ((i : ℕ) → Fits w64 (get_or xs i 0)) → AllFit (map pos (take n xs))
vector_fits n [] h = by n
  where
    by : (n : ℕ) → AllFit (map pos (take n []))
    by zero = tt
    by (suc n) = tt
vector_fits zero (x ∷ xs) h = tt
vector_fits (suc n) (x ∷ xs) h = (omega (arith, h 0), vector_fits n xs (λ i. h (suc i)))

-- numbers written as whole numbers and read again
pub read_again : (xs : List ℕ) → map unsigned_abs (map pos xs) ≡ xs
read_again [] = refl
read_again (x ∷ xs) = ap (λ (ys : List ℕ). x ∷ ys) (read_again xs)

same_test : (x y : ℕ) → (x == y) ≡ eq_by_cmp nat_cmp x y
same_test x y = grind (arith, nat_tests)

one_test : (xs ys : List ℕ) → is_eq (slice_cmp nat_cmp xs ys) ≡ pointwise (λ a b. a == b) xs ys
one_test xs ys = sym (lists_ties nat_cmp same_test xs ys)

among_more : (xs : List ℕ) (points : List (List ℕ)) (x : List ℕ) → is_among xs (points ++ x ∷ []) ≡ cond (pointwise (λ a b. a == b) x xs) true (is_among xs points)
among_more xs [] x = last_test (pointwise (λ a b. a == b) x xs)
among_more xs (p ∷ ps) x =
    ap (λ (b : Bool). pointwise (λ a b. a == b) p xs || b) (among_more xs ps x)
    ∙ next_test (pointwise (λ a b. a == b) p xs) (pointwise (λ a b. a == b) x xs) (is_among xs ps)

pub seen_more : (old new : BTreeSet (Vec ℕ)) (key : Vec ℕ) (coords : List ℕ) (points next : List FilePoint) (x : FilePoint) → Updates coordinates_cmp old new key true → key.items ≡ coords → x.coordinates ≡ map pos coords
    → next ≡ points ++ x ∷ [] → HasCoordinatesOf old points → HasCoordinatesOf new next
seen_more old new key coords points next x u same e f h xs =
    let test = λ (a b : ℕ). a == b in
    let tests : is_eq (coordinates_cmp key xs) ≡ pointwise test coords xs.items = one_test key.items xs.items ∙ ap (λ (l : List ℕ). pointwise test l xs.items) same in
    let read : coordinates_of x ≡ coords = ap (map unsigned_abs) e ∙ read_again coords in
    let all : map coordinates_of next ≡ map coordinates_of points ++ coords ∷ [] = ap (map coordinates_of) f ∙ map_push coordinates_of points x ∙ ap (λ (l : List ℕ). map coordinates_of points ++ l ∷ []) read in
    u.0 xs ∙ ap (λ (b : Bool). cond b true (contains coordinates_cmp old xs)) tests
    ∙ ap (λ (b : Bool). cond (pointwise test coords xs.items) true b) (h xs)
    ∙ sym (among_more xs.items (map coordinates_of points) coords)
    ∙ ap (is_among xs.items) (sym all)
