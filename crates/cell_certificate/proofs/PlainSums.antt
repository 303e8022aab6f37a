-- sums are the same with and without ranks
use Rattle.std.proofs.Common.{◌≡◌, ◌≢◌, ◌↔◌, ◌<ℤ◌, ℕ, List}
use Rattle.std.proofs.Math.IntN.{ℤ, pos}
use Rattle.cayley.specs.Cells.{Cell, EachPair}
use Rattle.cayley.specs.Problems.{Problem, point_at, unperturbed}
use Rattle.cayley.specs.Resting.{rise}
use Rattle.cayley.proofs.Lists.Pairs.{pairs_together}
use Rattle.cell_certificate.specs.Sides.{FitsSupport}
use Rattle.cell_certificate.specs.Sums.{FitsRise, RisesAt, UntiedAt, FitsAt, FitsOwn, FitsFurther, FitsSums}
use Rattle.cell_certificate.proofs.Blind.{each_own, each_further}
use Rattle.cell_certificate.proofs.Together.{apart}

module _ (p : Problem) (cell : Cell) (v : List ℤ) (den : ℤ) where
  own_fit : FitsOwn p cell v den ↔ FitsOwn (unperturbed p) cell v den
  own_fit = each_own (FitsRise den v) (λ x y h. h) (λ x y h. h) p.supports cell

  further_fit : FitsFurther p cell v den ↔ FitsFurther (unperturbed p) cell v den
  further_fit = each_further (FitsRise den v) (λ x y h. h) (λ x y h. h) p.supports cell

  pub sums_fit : FitsSums p cell v den ↔ EachPair (unperturbed p).supports cell (FitsSupport den v)
  sums_fit = (
    (λ f. pairs_together (unperturbed p).supports cell (λ s a b. FitsRise den v (point_at s a) (point_at s b)) (λ s a b. (c : ℕ) → FitsAt den v s a b c) (own_fit.0 f.0) (further_fit.0 f.1)),
    (λ e.
        let h = apart (unperturbed p).supports cell (λ s a b. FitsRise den v (point_at s a) (point_at s b)) (λ s a b. (c : ℕ) → FitsAt den v s a b c) e in
        (own_fit.1 h.0, further_fit.1 h.1)),
  )

  pub flat : EachPair p.supports cell (λ s a b. rise den v (point_at s a) (point_at s b) ≡ pos 0) ↔ EachPair (unperturbed p).supports cell (λ s a b. rise den v (point_at s a) (point_at s b) ≡ pos 0)
  flat = each_own (λ x y. rise den v x y ≡ pos 0) (λ x y h. h) (λ x y h. h) p.supports cell

  pub risen : EachPair p.supports cell (λ s a b. (c : ℕ) → RisesAt den v s a b c) ↔ EachPair (unperturbed p).supports cell (λ s a b. (c : ℕ) → RisesAt den v s a b c)
  risen = each_further (λ x y. pos 0 <ℤ rise den v x y) (λ x y h. h) (λ x y h. h) p.supports cell

  pub free : EachPair p.supports cell (λ s a b. (c : ℕ) → UntiedAt den v s a b c) ↔ EachPair (unperturbed p).supports cell (λ s a b. (c : ℕ) → UntiedAt den v s a b c)
  free = each_further (λ x y. rise den v x y ≢ pos 0) (λ x y h. h) (λ x y h. h) p.supports cell
