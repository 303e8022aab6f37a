use Rattle.std.proofs.Common.{◌∙◌, sym, ap, List}
use Rattle.poly_text.specs.declared.symbols.Symbol.{Symbol}
use Rattle.poly_text.specs.Steps.{begun, read_from}
use Rattle.poly_text.specs.Trees.{meaning}
use Rattle.poly_text.proofs.WrittenReads.{written_reads}
use Rattle.poly_text.proofs.ReadWrites.{read_writes, one_value}
use Rattle.poly_text.proofs.laws.polynomials_are_read.Goals as goal

pub returns-clause-written : goal.returns-clause-written
returns-clause-written c = written_reads

pub returns-clause-no_other : goal.returns-clause-no_other
returns-clause-no_other c = λ n symbols v e.
    let q = read_writes n symbols v e in
    (q.0, q.1, one_value (meaning n 0 q.0) v (sym (written_reads n q.0) ∙ ap (λ (l : List Symbol). read_from n l (begun n)) q.1 ∙ e))
