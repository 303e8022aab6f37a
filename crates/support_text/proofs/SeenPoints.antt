-- A set with the coordinates of the points, and of one point more.
use Rattle.std.proofs.Common.{◌≡◌, ◌||◌, Bool, true, cond, ℤ, List, [], ◌∷◌, ◌++◌, refl, sym, ap, ◌∙◌, BTreeSet, is_eq, int_cmp, int_eq}
use Rattle.std.specs.Global.{Vec}
use Rattle.std.specs.Cmp.Lexicographic.{slice_cmp, pointwise, lists_ties}
use Rattle.std.specs.BTreeSet.{contains, Updates}
use Rattle.wide_int.proofs.Bools.{last_test, next_test}
use Rattle.cayley.specs.Files.{FilePoint}
use Rattle.support_text.specs.ProblemText.{is_among}
use Rattle.support_text.specs.Seen.{coordinates_cmp, HasCoordinatesOf}

-- the order tells the same lists apart as the test
one_test : (xs ys : List ℤ) → is_eq (slice_cmp int_cmp xs ys) ≡ pointwise int_eq xs ys
one_test xs ys = sym (lists_ties int_cmp (λ x y. refl) xs ys)

among_more : (xs : List ℤ) (points : List FilePoint) (x : FilePoint) → is_among xs (points ++ x ∷ []) ≡ cond (pointwise int_eq x.coordinates xs) true (is_among xs points)
among_more xs [] x = last_test (pointwise int_eq x.coordinates xs)
among_more xs (p ∷ ps) x =
    ap (λ (b : Bool). pointwise int_eq p.coordinates xs || b) (among_more xs ps x)
    ∙ next_test (pointwise int_eq p.coordinates xs) (pointwise int_eq x.coordinates xs) (is_among xs ps)

pub seen_more : (old new : BTreeSet (Vec ℤ)) (key : Vec ℤ) (points : List FilePoint) (x : FilePoint) → Updates coordinates_cmp old new key true → key.items ≡ x.coordinates
    → HasCoordinatesOf old points → HasCoordinatesOf new (points ++ x ∷ [])
seen_more old new key points x u same h xs =
    let tests : is_eq (coordinates_cmp key xs) ≡ pointwise int_eq x.coordinates xs.items = one_test key.items xs.items ∙ ap (λ (l : List ℤ). pointwise int_eq l xs.items) same in
    u.0 xs ∙ ap (λ (b : Bool). cond b true (contains coordinates_cmp old xs)) tests
    ∙ ap (λ (b : Bool). cond (pointwise int_eq x.coordinates xs.items) true b) (h xs)
    ∙ sym (among_more xs.items points x)
