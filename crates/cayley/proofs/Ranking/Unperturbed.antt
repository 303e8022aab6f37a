-- what problems that differ in version and ranks alone share
use Rattle.std.proofs.Common.{◌≡◌, ℕ, zero, suc, ◌<◌, ◌≤◌, List, [], ◌∷◌, length, map, refl, ap, ap₂, sym, subst, ◌∙◌}
use Rattle.std.specs.Prelude.{slice_index_or}
use Rattle.std.proofs.lemmas.List.{length-map}
use Rattle.std.proofs.Math.IntN.{ℤ, pos}
use Rattle.int_vectors.specs.Vectors.{Each, sub, dot}
use Rattle.cayley.specs.Problems.{Point, Problem, IsProblem, origin, point_at, with_rank, unperturbed, HasSamePoints}
use Rattle.cayley.specs.Cells.{Cell, EachPair, IsOf, IsIndependent}
use Rattle.cayley.specs.Rows.{edge_row, edge_rows_from, edge_rows}
use Rattle.cayley.specs.Dependencies.{IsFurtherAt, nth_support}
use Rattle.int_vectors.proofs.Each.{each_map, each_unmap}

abbrev pub unranked : List Point → List Point
unranked s = map (with_rank 0) s

read_unranked : (s : List Point) (k : ℕ) → slice_index_or (unranked s) k origin ≡ with_rank 0 (slice_index_or s k origin)
read_unranked [] k = refl
read_unranked (x ∷ s) zero = refl
read_unranked (x ∷ s) (suc k) = read_unranked s k

pub point_unranked : (s : List Point) (position : ℕ) → point_at (unranked s) position ≡ with_rank 0 (point_at s position)
point_unranked s position = read_unranked s _

pub support_unranked : (supports : List (List Point)) (j : ℕ) → nth_support (map unranked supports) j ≡ unranked (nth_support supports j)
support_unranked [] j = refl
support_unranked (s ∷ supports) zero = refl
support_unranked (s ∷ supports) (suc j) = support_unranked supports j

rows_unranked : (n i : ℕ) (supports : List (List Point)) (cell : Cell) → edge_rows_from n i (map unranked supports) cell ≡ edge_rows_from n i supports cell
rows_unranked n i [] cell = refl
rows_unranked n i (s ∷ supports) [] = refl
rows_unranked n i (s ∷ supports) (x ∷ cell) =
    ap₂ (λ row rows. row ∷ rows) (ap₂ (edge_row n i) (point_unranked s x.0) (point_unranked s x.1)) (rows_unranked n (suc i) supports cell)

pub same_rows : (p q : Problem) (cell : Cell) → HasSamePoints p q → edge_rows p cell ≡ edge_rows q cell
same_rows p q cell e = sym (rows_unranked p.dimension 0 p.supports cell) ∙ ap (λ r. edge_rows r cell) e ∙ rows_unranked q.dimension 0 q.supports cell

pub same_dimension : (p q : Problem) → HasSamePoints p q → p.dimension ≡ q.dimension
same_dimension p q e = ap (λ r. r.dimension) e

pub same_points : (p q : Problem) → HasSamePoints p q → map unranked p.supports ≡ map unranked q.supports
same_points p q e = ap (λ r. r.supports) e

-- what holds of pairs of points without their ranks
pub each_pair_unranked : (P Q : List Point → ℕ → ℕ → Type 0) → ((s : List Point) (a b : ℕ) → P s a b → Q (unranked s) a b)
    → (supports : List (List Point)) (cell : Cell) → EachPair supports cell P → EachPair (map unranked supports) cell Q
each_pair_unranked P Q f [] [] h = tt
each_pair_unranked P Q f [] (x ∷ cell) h = h
each_pair_unranked P Q f (s ∷ supports) [] h = h
each_pair_unranked P Q f (s ∷ supports) (x ∷ cell) h = (f s x.0 x.1 h.0, each_pair_unranked P Q f supports cell h.1)

pub unranked_each_pair : (P Q : List Point → ℕ → ℕ → Type 0) → ((s : List Point) (a b : ℕ) → Q (unranked s) a b → P s a b)
    → (supports : List (List Point)) (cell : Cell) → EachPair (map unranked supports) cell Q → EachPair supports cell P
unranked_each_pair P Q f [] [] h = tt
unranked_each_pair P Q f [] (x ∷ cell) h = h
unranked_each_pair P Q f (s ∷ supports) [] h = h
unranked_each_pair P Q f (s ∷ supports) (x ∷ cell) h = (f s x.0 x.1 h.0, unranked_each_pair P Q f supports cell h.1)

-- carried from one problem to the other, by a property of the unranked supports
pub same_each_pair : (P : List Point → ℕ → ℕ → Type 0) → ((s : List Point) (a b : ℕ) → P s a b → P (unranked s) a b) → ((s : List Point) (a b : ℕ) → P (unranked s) a b → P s a b)
    → (p q : Problem) (cell : Cell) → HasSamePoints p q → EachPair p.supports cell P → EachPair q.supports cell P
same_each_pair P to from p q cell e h =
    unranked_each_pair P P from q.supports cell
    (subst (λ (ss : List (List Point)). EachPair ss cell P) (same_points p q e) (each_pair_unranked P P to p.supports cell h))

pub same_of : (p q : Problem) (cell : Cell) → HasSamePoints p q → IsOf p cell → IsOf q cell
same_of p q cell e h =
    same_each_pair (λ s a b. (1 ≤ a) × (a < b) × (b ≤ length s))
    (λ s a b w. (w.0, w.1, subst (λ m. b ≤ m) (sym (length-map s (with_rank 0))) w.2))
    (λ s a b w. (w.0, w.1, subst (λ m. b ≤ m) (length-map s (with_rank 0)) w.2))
    p q cell e h

-- the differences of the pairs
abbrev IsFlat : List ℤ → List Point → ℕ → ℕ → Type 0
IsFlat v s a b = dot (sub (point_at s b).coordinates (point_at s a).coordinates) v ≡ pos 0

flat_unranked : (v : List ℤ) (s : List Point) (a b : ℕ) → IsFlat v (unranked s) a b ≡ IsFlat v s a b
flat_unranked v s a b = ap₂ (λ (x y : Point). dot (sub x.coordinates y.coordinates) v ≡ pos 0) (point_unranked s b) (point_unranked s a)

pub same_independent : (p q : Problem) (cell : Cell) → HasSamePoints p q → IsIndependent p cell → IsIndependent q cell
same_independent p q cell e ind v l h =
    ind v (l ∙ sym (same_dimension p q e))
    (same_each_pair (IsFlat v) (λ s a b w. subst (λ (A : Type 0). A) (sym (flat_unranked v s a b)) w) (λ s a b w. subst (λ (A : Type 0). A) (flat_unranked v s a b) w) q p cell (sym e) h)

long_unranked : (n : ℕ) (supports : List (List Point)) → Each supports (λ s. Each s (λ (x : Point). length x.coordinates ≡ n)) → Each (map unranked supports) (λ s. Each s (λ (x : Point). length x.coordinates ≡ n))
long_unranked n [] h = tt
long_unranked n (s ∷ supports) h = (each_map (with_rank 0) (λ (x : Point). length x.coordinates ≡ n) s h.0, long_unranked n supports h.1)

unranked_long : (n : ℕ) (supports : List (List Point)) → Each (map unranked supports) (λ s. Each s (λ (x : Point). length x.coordinates ≡ n)) → Each supports (λ s. Each s (λ (x : Point). length x.coordinates ≡ n))
unranked_long n [] h = tt
unranked_long n (s ∷ supports) h = (each_unmap (with_rank 0) (λ (x : Point). length x.coordinates ≡ n) s h.0, unranked_long n supports h.1)

pub same_well : (p q : Problem) → HasSamePoints p q → IsProblem p → IsProblem q
same_well p q e w = record {
  supports = sym (length-map q.supports unranked) ∙ ap length (sym (same_points p q e)) ∙ length-map p.supports unranked ∙ w.supports ∙ same_dimension p q e;
  points = unranked_long q.dimension q.supports
      (subst (λ (ss : List (List Point)). Each ss (λ s. Each s (λ (x : Point). length x.coordinates ≡ q.dimension))) (same_points p q e)
      (subst (λ n. Each (map unranked p.supports) (λ s. Each s (λ (x : Point). length x.coordinates ≡ n))) (same_dimension p q e) (long_unranked p.dimension p.supports w.points)));
}

-- the problem itself, taken as version 1
pub same_unperturbed : (p : Problem) → HasSamePoints p (unperturbed p)
same_unperturbed p = ap (λ (ss : List (List Point)). record (unperturbed p) { supports = ss }) (sym (twice p.supports))
  where
    once : (s : List Point) → unranked (unranked s) ≡ unranked s
    once [] = refl
    once (x ∷ s) = ap (λ (ys : List Point). with_rank 0 x ∷ ys) (once s)

    twice : (supports : List (List Point)) → map unranked (map unranked supports) ≡ map unranked supports
    twice [] = refl
    twice (s ∷ supports) = ap₂ (λ x xs. x ∷ xs) (once s) (twice supports)

-- a further point of one is a further point of the other
pub same_further : (p q : Problem) (cell : Cell) (j c : ℕ) → HasSamePoints p q → IsFurtherAt p cell j c → IsFurtherAt q cell j c
same_further p q cell j c e f =
    let m : length (nth_support p.supports j) ≡ length (nth_support q.supports j) =
    sym (length-map (nth_support p.supports j) (with_rank 0)) ∙ ap length (sym (support_unranked p.supports j) ∙ ap (λ ss. nth_support ss j) (same_points p q e) ∙ support_unranked q.supports j)
    ∙ length-map (nth_support q.supports j) (with_rank 0) in
    (f.0, subst (λ n. c ≤ n) m f.1, f.2, f.3)
