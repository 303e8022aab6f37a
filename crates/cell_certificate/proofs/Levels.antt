-- what the sums say of the normal v / den
use Rattle.std.proofs.Common.{◌≡◌, ◌↔◌, ℕ, List, [], ◌∷◌, length, map, arith, refl, subst, ◌∙◌, ◌<ℤ◌}
use Rattle.std.proofs.Math.IntN.{ℤ, pos}
use Rattle.std.proofs.lemmas.List.{length-map}
use Rattle.int_vectors.specs.Vectors.{Each, IsZero}
use Rattle.cayley.specs.Times.{time_zero}
use Rattle.cayley.specs.Problems.{Point, Problem, point_at, unperturbed}
use Rattle.cayley.specs.Cells.{Cell, EachPair, IsOf}
use Rattle.cayley.specs.Normals.{gap}
use Rattle.cayley.specs.Resting.{rise, normal_over}
use Rattle.cell_certificate.specs.Tests.{IsLevelAt}
use Rattle.cell_certificate.proofs.Blind.{each_own}
use Rattle.cayley.proofs.OneCell.CellRows.{InRange, each_position}
use Rattle.cayley.proofs.OneCell.RestingGaps.{gap_is, zero_gap}
use Rattle.cayley.proofs.Ranking.Unperturbed.{unranked, same_unperturbed, same_of}
use Rattle.cayley.proofs.Lists.Pairs.{pairs_both, pairs_each}

-- a point has no infinitesimal of its own
abbrev pub IsEven : Point → Type 0
IsEven x = x.rank ≡ 0

even_all : (supports : List (List Point)) → Each (map unranked supports) (λ s. Each s IsEven)
even_all [] = tt
even_all (s ∷ supports) = (points s, even_all supports)
  where
    points : (s : List Point) → Each (unranked s) IsEven
    points [] = tt
    points (x ∷ s) = (refl, points s)

abbrev pub Even : List Point → ℕ → ℕ → Type 0
Even s a b = InRange s a b × Each s IsEven

pub first_even : (s : List Point) (a b : ℕ) → Even s a b → (point_at s a).rank ≡ 0
first_even s a b e = each_position IsEven s a e.0.0 (omega (arith, e.0.1, e.0.2)) e.1

second_even : (s : List Point) (a b : ℕ) → Even s a b → (point_at s b).rank ≡ 0
second_even s a b e = each_position IsEven s b (omega (arith, e.0.0, e.0.1)) e.0.2 e.1

-- the sum of each pair's own second point is 0
abbrev pub AreFlat : List ℤ → ℤ → List Point → ℕ → ℕ → Type 0
AreFlat v den s a b = rise den v (point_at s a) (point_at s b) ≡ pos 0

module _ (p : Problem) (cell : Cell) (of : IsOf p cell) (v : List ℤ) (den : ℤ) where
  pub shape : EachPair (unperturbed p).supports cell Even
  shape = pairs_each (unperturbed p).supports cell InRange (λ s. Each s IsEven) (same_of p (unperturbed p) cell (same_unperturbed p) of) (even_all p.supports)

  flat : EachPair p.supports cell (AreFlat v den) ↔ EachPair (unperturbed p).supports cell (AreFlat v den)
  flat = each_own (λ x y. rise den v x y ≡ pos 0) (λ x y h. h) (λ x y h. h) p.supports cell

  pub level_to : length v ≡ p.dimension → pos 0 <ℤ den → EachPair p.supports cell (AreFlat v den) → IsLevelAt p cell v den
  level_to long h e = (
    h,
    (
      length-map v (λ x. x ∷ []) ∙ long,
      pairs_both (unperturbed p).supports cell Even (AreFlat v den) _ (λ s a b i z. zero_gap v den h (point_at s a) (point_at s b) (first_even s a b i) (second_even s a b i) z) shape (flat.0 e),
    ),
  )

  pub level_from : IsLevelAt p cell v den → EachPair p.supports cell (AreFlat v den)
  level_from l = flat.1
      (pairs_both (unperturbed p).supports cell Even (λ s a b. IsZero (gap time_zero (normal_over v den l.0) (point_at s a) (point_at s b))) (AreFlat v den) (λ s a b i z. (subst IsZero (gap_is v den l.0 (point_at s a) (point_at s b) (first_even s a b i) (second_even s a b i)) z).0) shape l.1.1)
