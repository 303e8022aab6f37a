-- a bound on coordinates, point by point
use Rattle.std.proofs.Common.{◌≡◌, ℕ, ◌+◌, ◌<◌, ◌≤◌, List, [], ◌∷◌, length, map, get_or, take, arith, subst}
use Rattle.std.specs.Prelude.{ℤ}
use Rattle.std.specs.List.{All}
use Rattle.std.proofs.lemmas.List.{take_more, take_all}
use Rattle.std.proofs.lemmas.List.Elements.{All-push}
use Rattle.int_vectors.specs.Bounds.{Within, IsNarrow}
use Rattle.int_vectors.specs.Vectors.{Each}
use Rattle.int_vectors.proofs.BoundRows.{within_weaker}
use Rattle.cayley.specs.Problems.{Point}
use Rattle.cayley.specs.Reaches.{IsWithinReach, IsStoredReach}
use Rattle.cayley.specs.Stored.{point, unranked_of}
use Rattle.cayley.specs.Valid.{IsCoordinate, IsCornerCoordinate}
use Rattle.cayley.specs.declared.points.Point.{Point as StoredPoint}
use Rattle.cayley.specs.declared.points.Support.{Support}
use Rattle.int_vectors.proofs.Each.{each_all, each_map, each_weaker}

-- one more element of a list under a bound that may grow
pub more : {A : Type 0} (P : ℕ → A → Type 0) → ((v w : ℕ) (x : A) → v ≤ w → P v x → P w x) → (v w own : ℕ) (xs : List A) (i : ℕ) (x : A) → i < length xs → x ≡ get_or xs i x → v ≤ w → own ≤ w
    → All (P v) (take i xs) → P own x → All (P w) (take (i + 1) xs)
more P f v w own xs i x lt is h k all here =
    rw (take_more xs i x) (All-push (P w) (take i xs) (get_or xs i x) (λ j e l. f v w _ h (all j e l)) (subst (P w) is (f own w x k here)))

pub all_taken : {A : Type 0} (P : A → Type 0) (xs : List A) (i : ℕ) → length xs ≤ i → All P (take i xs) → All P xs
all_taken P xs i l h = subst (All P) (take_all i xs l) h

pub point_more : (v w : ℕ) (x : StoredPoint) → v ≤ w → Within v x.coords → Within w x.coords
point_more v w x h k = within_weaker v w x.coords h k

pub support_more : (v w : ℕ) (s : Support) → v ≤ w → IsStoredReach v s → IsStoredReach w s
support_more v w s h k = λ j d l. within_weaker v w (get_or s.points.items j d).coords h (k j d l)

pub reach_of : (r dim : ℕ) (supports : List Support) → All (IsStoredReach r) supports → IsWithinReach r (unranked_of dim supports)
reach_of r dim supports h = each_map (λ (s : Support). map point s.points.items) (λ s. Each s (λ (x : Point). Within r x.coordinates)) supports (one supports (each_all (IsStoredReach r) supports h))
  where
    one : (ss : List Support) → Each ss (IsStoredReach r) → Each ss (λ (s : Support). Each (map point s.points.items) (λ (x : Point). Within r x.coordinates))
    one [] e = tt
    one (s ∷ ss) e = (each_map point (λ (x : Point). Within r x.coordinates) s.points.items (each_all (λ (x : StoredPoint). Within r x.coords) s.points.items e.0), one ss e.1)

-- coordinates are far within 64 bits
pub near_narrow : (xs : List ℤ) → Each xs IsCornerCoordinate → Each xs IsNarrow
near_narrow xs e = each_weaker IsCornerCoordinate IsNarrow xs (λ x h. omega (arith, h)) e

pub plain_narrow : (xs : List ℤ) → Each xs IsCoordinate → Each xs IsNarrow
plain_narrow xs e = each_weaker IsCoordinate IsNarrow xs (λ x h. omega (arith, h)) e
