-- an exchange of one pair of a cell
use Rattle.std.proofs.Common.{◌≡◌, ℕ, zero, suc, ◌<◌, ℤ, pos, List, [], ◌∷◌, length, set, arith, refl, sym, ap, subst, ◌∙◌}
use Rattle.int_vectors.specs.Vectors.{IsOrthogonal, dot, sub, row_at}
use Rattle.reduced_rows.proofs.Picking.{each_at}
use Rattle.cayley.specs.Cells.{Cell, EachPair}
use Rattle.cayley.specs.Flips.{put_pair}
use Rattle.cayley.specs.Problems.{Point, Problem, IsProblem, point_at}
use Rattle.cayley.specs.Rows.{edges}
use Rattle.cayley.specs.Dependencies.{nth_support}
use Rattle.inner_normal.specs.Inverses.{Inverse}
use Rattle.carried_inverse.specs.declared.carried.Exchange.{Exchange}
use Rattle.carried_inverse.specs.declared.carried.Exchange.TheVariants.{Made, Dependent, TooLarge}
use Rattle.carried_inverse.specs.Answers.{IsExchange, IsFlip}
use Rattle.carried_inverse.specs.Systems.{IsScaledInverse}
use Rattle.carried_inverse.proofs.Normals.{rows_shape}

differences_put : (supports : List (List Point)) (cell : Cell) (j : ℕ) (y : ℕ × ℕ)
    → set (edges supports cell) j (sub (point_at (nth_support supports j) y.1).coordinates (point_at (nth_support supports j) y.0).coordinates) ≡ edges supports (put_pair cell j y)
differences_put [] cell j y = refl
differences_put (s ∷ supports) [] j y = refl
differences_put (s ∷ supports) (x ∷ cell) zero y = refl
differences_put (s ∷ supports) (x ∷ cell) (suc j) y = ap (λ l. sub (point_at s x.1).coordinates (point_at s x.0).coordinates ∷ l) (differences_put supports cell j y)

pairs_put : (supports : List (List Point)) (cell : Cell) (j : ℕ) (y : ℕ × ℕ) (P : List Point → ℕ → ℕ → Type 0) (v : List ℤ) → EachPair supports cell P → IsOrthogonal (edges supports (put_pair cell j y)) v
    → EachPair supports (put_pair cell j y) (λ s a b. dot (sub (point_at s b).coordinates (point_at s a).coordinates) v ≡ pos 0)
pairs_put [] [] j y P v e o = tt
pairs_put [] (x ∷ cell) j y P v e o = absurd e
pairs_put (s ∷ supports) [] j y P v e o = absurd e
pairs_put (s ∷ supports) (x ∷ cell) zero y P v e o = (o.0, rest supports cell P v e.1 o.1)
  where
    rest : (supports : List (List Point)) (cell : Cell) (P : List Point → ℕ → ℕ → Type 0) (v : List ℤ) → EachPair supports cell P → IsOrthogonal (edges supports cell) v
        → EachPair supports cell (λ s a b. dot (sub (point_at s b).coordinates (point_at s a).coordinates) v ≡ pos 0)
    rest [] [] P v e o = tt
    rest [] (x ∷ cell) P v e o = e
    rest (s ∷ supports) [] P v e o = e
    rest (s ∷ supports) (x ∷ cell) P v e o = (o.0, rest supports cell P v e.1 o.1)
pairs_put (s ∷ supports) (x ∷ cell) (suc j) y P v e o = (o.0, pairs_put supports cell j y P v e.1 o.1)

pub flip_from : (p : Problem) (j : ℕ) (y : ℕ × ℕ) (row : List ℤ) (old new : Inverse) (r : Exchange) → IsProblem p → j < p.dimension → length old.columns ≡ p.dimension
    → row ≡ sub (point_at (nth_support p.supports j) y.1).coordinates (point_at (nth_support p.supports j) y.0).coordinates → IsExchange j row old new r → IsFlip p j y old new r
flip_from p j y row old new Made well lt count is h = λ cell of g.
    let e = ap (λ r. set (edges p.supports cell) j r) is ∙ differences_put p.supports cell j y in
    subst (λ rows. IsScaledInverse p.dimension rows new) e
    (subst (λ n. IsScaledInverse n (set (edges p.supports cell) j row) new) count
    (h (edges p.supports cell) ((rows_shape p cell well of).0 ∙ sym count) (subst (λ n. IsScaledInverse n (edges p.supports cell) old) (sym count) g)))
flip_from p j y row old new Dependent well lt count is h = (
  h.0,
  λ cell of g.
      let e = ap (λ r. set (edges p.supports cell) j r) is ∙ differences_put p.supports cell j y in
      let k = h.1 (edges p.supports cell) ((rows_shape p cell well of).0 ∙ sym count) (subst (λ n. IsScaledInverse n (edges p.supports cell) old) (sym count) g) in
      let v = row_at old.columns j in
      λ ind. k.1 (ind v (each_at (λ x. length x ≡ p.dimension) old.columns j [] (omega (arith, lt, count)) g.long)
      (pairs_put p.supports cell j y _ v of (subst (λ rows. IsOrthogonal rows v) e k.0))),
)
flip_from p j y row old new TooLarge well lt count is h = h
