-- the problem of the file points alone, and its mixed cells decided
use Rattle.std.proofs.Common.{◌≡◌, ℕ, zero, suc, ◌<◌, ◌≤◌, ◌+◌, Bool, true, false, if◌then◌else◌, List, [], ◌∷◌, length, map, take, arith, refl, ap, ◌∙◌}
use native.Mathlib.Decide.{ℕ_discrete}
use Rattle.int_vectors.specs.Vectors.{Each}
use Rattle.cayley.specs.Times.{time_zero}
use Rattle.cayley.specs.Problems.{Version, Point, Problem, IsProblem, with_rank, is_start_corner, numbered, numbered_supports, ranks_in, ranked_supports, first_points, file_points}
use Rattle.cayley.specs.Problems.Version.{version1, version2}
use Rattle.cayley.specs.Cells.{Cell, IsOf, IsIndependent}
use Rattle.cayley.specs.Mixed.{IsMixedCell}
use Rattle.cayley.proofs.Algebra.Kernel.{kernel}
use Rattle.cayley.proofs.OneCell.CellNormals.{kills_to, length-edges}
use Rattle.cayley.proofs.Life.Decisions.{dec_alive}
use Rattle.cayley.specs.Rows.{edges}
use Rattle.cayley.proofs.Algebra.Dependence.{length-map}

-- n coordinates
abbrev HasCoordinates : ℕ → Point → Type 0
HasCoordinates n x = length x.coordinates ≡ n

each_choice : {A : Type 0} (P : A → Type 0) (b : Bool) (xs ys : List A) → Each xs P → Each ys P → Each (if b then xs else ys) P
each_choice P true xs ys h k = h
each_choice P false xs ys h k = k

each_numbered : (n i f position r : ℕ) (xs : List Point) → Each xs (HasCoordinates n) → Each (numbered i f position r xs) (HasCoordinates n)
each_numbered n i f position r [] h = tt
each_numbered n i f position r (x ∷ xs) h =
    each_choice (HasCoordinates n) (is_start_corner i f position) (with_rank 0 x ∷ numbered i f (suc position) r xs) (with_rank r x ∷ numbered i f (suc position) (suc r) xs)
    (h.0, each_numbered n i f (suc position) r xs h.1)
    (h.0, each_numbered n i f (suc position) (suc r) xs h.1)

each_take : (n f : ℕ) (xs : List Point) → Each xs (HasCoordinates n) → Each (take f xs) (HasCoordinates n)
each_take n zero xs h = tt
each_take n (suc f) [] h = tt
each_take n (suc f) (x ∷ xs) h = (h.0, each_take n f xs h.1)

each_unranked : (n : ℕ) (xs : List Point) → Each xs (HasCoordinates n) → Each (map (with_rank 0) xs) (HasCoordinates n)
each_unranked n [] h = tt
each_unranked n (x ∷ xs) h = (h.0, each_unranked n xs h.1)

abbrev AllHave : ℕ → List (List Point) → Type 0
AllHave n supports = Each supports (λ s. Each s (HasCoordinates n))

all_unranked : (n : ℕ) (supports : List (List Point)) → AllHave n supports → AllHave n (map (map (with_rank 0)) supports)
all_unranked n [] h = tt
all_unranked n (s ∷ supports) h = (each_unranked n s h.0, all_unranked n supports h.1)

all_numbered : (n i r : ℕ) (files : List ℕ) (supports : List (List Point)) → AllHave n supports → AllHave n (numbered_supports i r files supports)
all_numbered n i r files [] h = tt
all_numbered n i r [] (s ∷ supports) h = (each_numbered n i 0 1 r s h.0, all_numbered n (suc i) (r + ranks_in 0 s) [] supports h.1)
all_numbered n i r (f ∷ files) (s ∷ supports) h = (each_numbered n i f 1 r s h.0, all_numbered n (suc i) (r + ranks_in f s) files supports h.1)

all_ranked : (n : ℕ) (version : Version) (files : List ℕ) (supports : List (List Point)) → AllHave n supports → AllHave n (ranked_supports version files supports)
all_ranked n version1 files supports h = all_unranked n supports h
all_ranked n version2 files supports h = all_numbered n 1 1 files supports h

all_first : (n : ℕ) (files : List ℕ) (supports : List (List Point)) → AllHave n supports → AllHave n (first_points files supports)
all_first n [] supports h = tt
all_first n (f ∷ files) [] h = tt
all_first n (f ∷ files) (s ∷ supports) h = (each_take n f s h.0, all_first n files supports h.1)

long_numbered : (i r : ℕ) (files : List ℕ) (supports : List (List Point)) → length (numbered_supports i r files supports) ≡ length supports
long_numbered i r files [] = refl
long_numbered i r [] (s ∷ supports) = ap suc (long_numbered (suc i) (r + ranks_in 0 s) [] supports)
long_numbered i r (f ∷ files) (s ∷ supports) = ap suc (long_numbered (suc i) (r + ranks_in f s) files supports)

pub long_ranked : (version : Version) (files : List ℕ) (supports : List (List Point)) → length (ranked_supports version files supports) ≡ length supports
long_ranked version1 files supports = length-map (map (with_rank 0)) supports
long_ranked version2 files supports = long_numbered 1 1 files supports

first_at_most : (files : List ℕ) (supports : List (List Point)) → length (first_points files supports) ≤ length supports
first_at_most [] supports = omega arith
first_at_most (f ∷ files) [] = omega arith
first_at_most (f ∷ files) (s ∷ supports) = let h = first_at_most files supports in omega (arith, h)

first_all : (files : List ℕ) (supports : List (List Point)) → length files ≡ length supports → length (first_points files supports) ≡ length supports
first_all [] [] e = refl
first_all [] (s ∷ supports) e = absurd (omega (arith, e))
first_all (f ∷ files) [] e = absurd (omega (arith, e))
first_all (f ∷ files) (s ∷ supports) e = ap suc (first_all files supports (omega (arith, e)))

pub file_points_have : (p : Problem) → IsProblem p → AllHave p.dimension (file_points p).supports
file_points_have p well = all_ranked p.dimension p.version p.files (first_points p.files p.supports) (all_first p.dimension p.files p.supports well.points)

-- the file points of a problem are a problem
pub file_points_well : (p : Problem) → IsProblem p → length p.files ≡ length p.supports → IsProblem (file_points p)
file_points_well p well e = record {
  supports = long_ranked p.version p.files (first_points p.files p.supports) ∙ first_all p.files p.supports e ∙ well.supports;
  points = file_points_have p well;
}

-- with fewer supports than the dimension no cell is independent
too_few : (q : Problem) (cell : Cell) → length q.supports < q.dimension → IsOf q cell → ¬ (IsIndependent q cell)
too_few q cell l of ind =
    let k = kernel q.dimension (edges q.supports cell) (let e = length-edges q.supports cell _ of in omega (arith, l, e)) in
    k.some (ind k.v k.long (kills_to q.supports cell k.v _ of k.kills))

pub dec_mixed : (p : Problem) → IsProblem p → (cell : Cell) → Dec (IsMixedCell p cell)
dec_mixed p well cell =
    let q = file_points p in
    elim (ℕ_discrete (length q.supports) p.dimension) [
      | yes e ↦ dec_alive q cell (record { supports = e; points = file_points_have p well }) time_zero
      | no n ↦ no (λ h.
          let a = first_at_most p.files p.supports in
          let b = long_ranked p.version p.files (first_points p.files p.supports) in
          let c = well.supports in
          too_few q cell (omega (arith, a, b, c, n)) h.0 h.1)
    ]
