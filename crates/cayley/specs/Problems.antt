-- Problems: supports of points that have a height at every time.
use Rattle.std.specs.Prelude.{◌≡◌, ◌⊎◌, ℕ, suc, ◌+◌, ◌-◌, ◌==◌, Bool, true, if◌then◌else◌, List, [], ◌∷◌, length, map, take, min, ℤ, pos, slice_index_or}
use Rattle.int_vectors.specs.Vectors.{Each}

-- the two forms of a file: heights as they are, or perturbed by an infinitesimal for each rank
pub data Version : Type 0 where
  version1 : Version
  version2 : Version

-- how a file names its form
abbrev pub version_number : Version → ℕ
version_number version1 = 1
version_number version2 = 2

-- the height at time t is base + speed t, and an infinitesimal of its own where the rank isn't 0
pub record Point : Type 0 where
  pub coordinates : List ℤ
  pub base : ℤ
  pub speed : ℤ
  pub rank : ℕ

-- the supports' points, and how many of each support's points are of the file: these stand first, then the corners
pub record Problem : Type 0 where
  pub version : Version
  pub dimension : ℕ
  pub files : List ℕ
  pub supports : List (List Point)

-- as many supports as the dimension, and as many coordinates in each point
pub record IsProblem (p : Problem) : Type 0 where
  pub supports : length p.supports ≡ p.dimension
  pub points : Each p.supports (λ s. Each s (λ (x : Point). length x.coordinates ≡ p.dimension))

-- what stands past the end of a support
abbrev pub origin : Point
origin = record { coordinates = []; base = pos 0; speed = pos 0; rank = 0 }

-- the point at a position, counted from 1
abbrev pub point_at : List Point → ℕ → Point
point_at support position = slice_index_or support (position - 1) origin

-- P holds of each support, the number of its file points, and its number, counted from i
abbrev pub EachSupport : ℕ → List ℕ → List (List Point) → (ℕ → ℕ → List Point → Type 0) → Type 0
EachSupport i [] [] P = Unit {0}
EachSupport i [] (s ∷ supports) P = ⊥
EachSupport i (f ∷ files) [] P = ⊥
EachSupport i (f ∷ files) (s ∷ supports) P = P i f s × EachSupport (suc i) files supports P

-- no corner in any support
abbrev pub HasNoCorners : Problem → Type 0
HasNoCorners p = EachSupport 1 p.files p.supports (λ i f s. length s ≡ f)

-- no corner in every support, or one more than the dimension in every support
abbrev pub HasCorners : Problem → Type 0
HasCorners p = HasNoCorners p
    ⊎ EachSupport 1 p.files p.supports (λ i f s. length s ≡ f + (p.dimension + 1))

-- every file point rests
abbrev pub IsStill : Problem → Type 0
IsStill p = EachSupport 1 p.files p.supports (λ i f s. Each (take f s) (λ (x : Point). x.speed ≡ pos 0))

abbrev pub with_rank : ℕ → Point → Point
with_rank r x = record x { rank = r }

-- position of the first corner of support i, and of its corner of direction i; positions and supports count from 1
abbrev pub is_start_corner : ℕ → ℕ → ℕ → Bool
is_start_corner i f position = if position == f + 1 then true else position == f + 1 + i

-- the points from a position on, with the ranks r, r + 1, .. for all but the two start corners
abbrev pub numbered : ℕ → ℕ → ℕ → ℕ → List Point → List Point
numbered i f position r [] = []
numbered i f position r (x ∷ xs) =
    if is_start_corner i f position then with_rank 0 x ∷ numbered i f (suc position) r xs
    else with_rank r x ∷ numbered i f (suc position) (suc r) xs

-- how many ranks a support of f file points uses up
abbrev pub ranks_in : ℕ → List Point → ℕ
ranks_in f s = length s - min 2 (length s - f)

abbrev pub numbered_supports : ℕ → ℕ → List ℕ → List (List Point) → List (List Point)
numbered_supports i r files [] = []
numbered_supports i r [] (s ∷ supports) = numbered i 0 1 r s ∷ numbered_supports (suc i) (r + ranks_in 0 s) [] supports
numbered_supports i r (f ∷ files) (s ∷ supports) = numbered i f 1 r s ∷ numbered_supports (suc i) (r + ranks_in f s) files supports

-- version 1: every rank is 0; version 2: 1, 2, .. in order of support and position, but 0 at the start corners
abbrev pub ranked_supports : Version → List ℕ → List (List Point) → List (List Point)
ranked_supports version1 files supports = map (map (with_rank 0)) supports
ranked_supports version2 files supports = numbered_supports 1 1 files supports

-- each point has the rank that its place and the version give it
abbrev pub HasRanks : Problem → Type 0
HasRanks p = p.supports ≡ ranked_supports p.version p.files p.supports

-- the first points of each support
abbrev pub first_points : List ℕ → List (List Point) → List (List Point)
first_points [] supports = []
first_points (f ∷ files) [] = []
first_points (f ∷ files) (s ∷ supports) = take f s ∷ first_points files supports

-- the problem of the same version that has the file points alone
abbrev pub file_points : Problem → Problem
file_points p = record p { supports = ranked_supports p.version p.files (first_points p.files p.supports) }

-- the problem taken as version 1: the same points, their heights without infinitesimals
abbrev pub unperturbed : Problem → Problem
unperturbed p = record p { version = version1; supports = map (map (with_rank 0)) p.supports }

-- two problems that differ in version and ranks alone
abbrev pub HasSamePoints : Problem → Problem → Type 0
HasSamePoints p q = unperturbed p ≡ unperturbed q
