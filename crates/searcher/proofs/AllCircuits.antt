-- the circuits of all lines' points are those of all further points
use Rattle.std.proofs.Common.{◌≡◌, ℕ, zero, suc, ◌-◌, ◌<◌, ◌≤◌, List, [], ◌∷◌, length, arith, refl, subst}
use Rattle.std.proofs.Math.IntN.{ℤ}
use Rattle.int_vectors.specs.Vectors.{Each}
use Rattle.cayley.specs.Problems.{Point, Problem}
use Rattle.cayley.specs.Cells.{Cell, IsFurther}
use Rattle.cayley.specs.Dependencies.{pair_at, IsFurtherAt, nth_support}
use Rattle.int_vectors.proofs.Each.{each_weaker}
use Rattle.crossing.specs.declared.line.WallLine.{WallLine}
use Rattle.cone_walls.specs.Places.{HasLine, AreOfFurtherPoints}
use Rattle.inner_normal.specs.Coefficients.{difference, FitsCoefficients}
use Rattle.inner_normal.specs.Inverses.{inverse_of, FitsInverse}
use Rattle.cone_walls.proofs.FurtherLines.{each_has, has_each}
use Rattle.searcher.specs.LineCircuits.{NamesFurther, FitsItsCircuit}
use Rattle.searcher.specs.Workings.{FitAllCircuits}

support_there : (supports : List (List Point)) (j a b c : ℕ) → IsFurther (nth_support supports j) a b c → j < length supports
support_there [] j a b c h = let l = h.0 in let m = h.1 in absurd (omega (arith, l, m))
support_there (s ∷ supports) zero a b c h = omega arith
support_there (s ∷ supports) (suc j) a b c h = let r = support_there supports j a b c h in omega (arith, r)

module _ (p : Problem) (cell : Cell) (made : List (List ℤ)) (lines : List WallLine) (places : AreOfFurtherPoints p cell lines) where
  pub name_further : length p.supports ≡ p.dimension → Each lines (NamesFurther p cell)
  name_further n =
      each_weaker (λ l. HasLine lines l.support l.position) (NamesFurther p cell) lines
      (λ l h.
      let f = (places.1 l.support l.position).0 h in
      let least = f.0 in
      let t = support_there p.supports (l.support - 1) (pair_at cell (l.support - 1)).0 (pair_at cell (l.support - 1)).1 l.position f.1 in
      (f.0, omega (arith, t, n, least), f.1)) (has_each lines)

  line_of : (j c : ℕ) → IsFurtherAt p cell j c → HasLine lines (suc j) c
  line_of j c f =
      let e : j ≡ suc j - 1 = omega arith in
      (places.1 (suc j) c).1 (omega arith, subst (λ (i : ℕ). IsFurtherAt p cell i c) e f)

  pub no_circuits : lines ≡ [] → FitAllCircuits p cell made
  no_circuits e j c f = absurd (subst (λ (ls : List WallLine). HasLine ls (suc j) c) e (line_of j c f))

  pub all_circuits : FitsInverse made → Each lines (FitsItsCircuit p cell (inverse_of made)) → FitAllCircuits p cell made
  all_circuits i h j c f =
      let e : suc j - 1 ≡ j = omega arith in (
        i,
        subst (λ (i : ℕ). FitsCoefficients i (inverse_of made) (difference p cell i c)) e
            (each_has (λ s c. FitsCoefficients (s - 1) (inverse_of made) (difference p cell (s - 1) c)) lines (suc j) c h (line_of j c f)),
      )

pub each_circuit : (p : Problem) (cell : Cell) (made : List (List ℤ)) (lines : List WallLine) → Each lines (NamesFurther p cell) → FitAllCircuits p cell made → Each lines (FitsItsCircuit p cell (inverse_of made))
each_circuit p cell made lines f h = each_weaker (NamesFurther p cell) (FitsItsCircuit p cell (inverse_of made)) lines (λ l n. (h (l.support - 1) l.position n.2).1) f

pub inverse_fits : (p : Problem) (cell : Cell) (made : List (List ℤ)) (lines : List WallLine) → 1 ≤ length lines → Each lines (NamesFurther p cell) → FitAllCircuits p cell made → FitsInverse made
inverse_fits p cell made [] l f h = absurd (omega (arith, l))
inverse_fits p cell made (line ∷ lines) l f h = (h (line.support - 1) line.position f.0.2).0

pub no_line : (lines : List WallLine) → length lines ≡ 0 → lines ≡ []
no_line [] e = refl
no_line (l ∷ lines) e = absurd (omega (arith, e))
