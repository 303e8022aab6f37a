use Rattle.std.proofs.Common.{◌↔◌, ◌≤◌, ◌-◌, ℕ}
use Rattle.std.specs.Prelude.{IsTrue}
use Rattle.cell_certificate.specs.Ties.{FitsTieAt, IsOverAt}
use Rattle.cell_certificate.proofs.ties.is_support_over.Given as goal

abbrev pub invariant-loop-k : goal.invariant-loop-k
invariant-loop-k l = record {
  fits : (c : ℕ) → c ≤ l.k → FitsTieAt l.problem l.listed.cell l.listed.normal.v l.listed.normal.den l.inverse (l.support - 1) c;
  over : IsTrue l.over ↔ ((c : ℕ) → c ≤ l.k → IsOverAt l.problem l.listed.cell (l.support - 1) c);
}
