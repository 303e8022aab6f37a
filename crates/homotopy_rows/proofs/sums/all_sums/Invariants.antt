use Rattle.std.proofs.Common.{◌≡◌, ◌↔◌, ◌++◌, drop}
use Rattle.cayley.specs.Files.{plain_problem}
use Rattle.cayley.specs.Problems.{unperturbed}
use Rattle.homotopy_rows.specs.Flat.{SomePair, IsFlatAt}
use Rattle.homotopy_rows.specs.Powers.{sums}
use Rattle.homotopy_rows.proofs.sums.all_sums.Given as goal

abbrev pub invariant-loop-k : goal.invariant-loop-k
invariant-loop-k l =
    let supports = (unperturbed (plain_problem l.file)).supports in
    let cell = l.listed.cell in
    let den = l.listed.normal.den in
    let v = l.listed.normal.v in
    record {
      made : l.sums.items ++ sums den v (drop l.k supports) (drop l.k cell) ≡ sums den v supports cell;
      flat : SomePair supports cell (IsFlatAt den v) ↔ SomePair (drop l.k supports) (drop l.k cell) (IsFlatAt den v);
    }
