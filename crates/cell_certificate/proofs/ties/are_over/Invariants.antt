use Rattle.std.proofs.Common.{◌↔◌, ◌<◌, ℕ}
use Rattle.std.specs.Prelude.{IsTrue}
use Rattle.cell_certificate.specs.Ties.{FitsTieAt, IsOverAt}
use Rattle.cell_certificate.proofs.ties.are_over.Given as goal

abbrev pub invariant-loop-k : goal.invariant-loop-k
invariant-loop-k l = record {
  fits : (j : ℕ) → j < l.k → (c : ℕ) → FitsTieAt l.problem l.listed.cell l.listed.normal.v l.listed.normal.den l.inverse j c;
  over : IsTrue l.over ↔ ((j : ℕ) → j < l.k → (c : ℕ) → IsOverAt l.problem l.listed.cell j c);
}
