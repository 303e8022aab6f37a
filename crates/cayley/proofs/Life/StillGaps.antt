-- a gap of two points that rest keeps its sign over time
use Rattle.std.proofs.Common.{◌≡◌, ℕ, arith, sym, ap, ◌∙◌, ◌<ℤ◌}
use Rattle.std.proofs.lemmas.Int.{ints}
use Rattle.std.proofs.Math.IntN.{ℤ, pos, ◌*ℤ◌}
use Rattle.wide_int.proofs.Ring.{as_D, Ds, same_D}
use Rattle.int_vectors.specs.Vectors.{IsZero, IsPositive, at}
use Rattle.cayley.specs.Times.{Time}
use Rattle.cayley.specs.Problems.{Point}
use Rattle.cayley.specs.Normals.{Normal, gap}
use Rattle.cayley.proofs.Order.Proportion.{in_proportion, zero_in_proportion}
use Rattle.cayley.proofs.OneCell.RaisedRanks.{still_gap}

scaled : (t u : Time) (v : Normal) (x y : Point) → x.speed ≡ pos 0 → y.speed ≡ pos 0 → (e : ℕ) → u.over *ℤ at (gap t v x y) e ≡ t.over *ℤ at (gap u v x y) e
scaled t u v x y r s e = ap (λ k. u.over *ℤ k) (still_gap t v x y e r s) ∙ turn u.over t.over _ ∙ ap (λ k. t.over *ℤ k) (sym (still_gap u v x y e r s))
  where
    turn : (a b c : ℤ) → a *ℤ (b *ℤ c) ≡ b *ℤ (a *ℤ c)
    turn a b c = rw (as_D a, as_D b, as_D c) (simp Ds (same_D _ _ _ _ (omega arith)))

pub not_zero_over : (q : ℤ) → pos 0 <ℤ q → ¬ (q ≡ pos 0)
not_zero_over q p e = omega (arith, ints, p, e)

pub gap_zero : (t u : Time) (v : Normal) (x y : Point) → x.speed ≡ pos 0 → y.speed ≡ pos 0 → IsZero (gap t v x y) → IsZero (gap u v x y)
gap_zero t u v x y r s z = zero_in_proportion (gap t v x y) (gap u v x y) u.over t.over (not_zero_over t.over t.positive) (scaled t u v x y r s) z

pub gap_positive : (t u : Time) (v : Normal) (x y : Point) → x.speed ≡ pos 0 → y.speed ≡ pos 0 → IsPositive (gap t v x y) → IsPositive (gap u v x y)
gap_positive t u v x y r s h = in_proportion (gap t v x y) (gap u v x y) u.over t.over u.positive t.positive (scaled t u v x y r s) h
