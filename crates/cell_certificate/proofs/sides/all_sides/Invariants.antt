use Rattle.std.proofs.Common.{◌≡◌, ◌↔◌, ℕ, drop, pos}
use Rattle.std.specs.Prelude.{IsTrue}
use Rattle.cayley.specs.Cells.{EachPair}
use Rattle.cayley.specs.Files.{plain_problem}
use Rattle.cayley.specs.Problems.{point_at, unperturbed}
use Rattle.cayley.specs.Resting.{rise}
use Rattle.cell_certificate.specs.Sides.{FitsSupport}
use Rattle.cell_certificate.specs.Sums.{RisesAt, UntiedAt}
use Rattle.cell_certificate.proofs.sides.all_sides.Given as goal

abbrev pub invariant-loop-k : goal.invariant-loop-k
invariant-loop-k l =
    let supports = (unperturbed (plain_problem l.file)).supports in
    let cell = l.listed.cell in
    let den = l.listed.normal.den in
    let v = l.listed.normal.v in
    record {
      fits : EachPair supports cell (FitsSupport den v) ↔ EachPair (drop l.k supports) (drop l.k cell) (FitsSupport den v);
      level : EachPair supports cell (λ s a b. rise den v (point_at s a) (point_at s b) ≡ pos 0)
          ↔ (IsTrue l.sides.level × EachPair (drop l.k supports) (drop l.k cell) (λ s a b. rise den v (point_at s a) (point_at s b) ≡ pos 0));
      above : EachPair supports cell (λ s a b. (c : ℕ) → RisesAt den v s a b c)
          ↔ (IsTrue l.sides.above × EachPair (drop l.k supports) (drop l.k cell) (λ s a b. (c : ℕ) → RisesAt den v s a b c));
      untied : EachPair supports cell (λ s a b. (c : ℕ) → UntiedAt den v s a b c)
          ↔ (IsTrue l.sides.untied × EachPair (drop l.k supports) (drop l.k cell) (λ s a b. (c : ℕ) → UntiedAt den v s a b c));
    }
