use Rattle.std.proofs.Common.{◌≡◌, ◌∙◌, sym, ap, subst, ℕ, List, Option, Some, Ok, length}
use Rattle.int_vectors.specs.Vectors.{Each}
use Rattle.poly_text.specs.declared.symbols.Symbol.{Symbol}
use Rattle.poly_text.specs.Maps.{Monomial}
use Rattle.poly_text.specs.Bounds.{Verdict}
use Rattle.poly_text.specs.Steps.{begun, read_from}
use Rattle.poly_text.specs.Trees.{meaning}
use Rattle.poly_text.proofs.WrittenReads.{written_reads}
use Rattle.poly_text.proofs.ReadWrites.{read_writes, one_value}
use Rattle.poly_text.proofs.SmallValues.{read_is_small}
use Rattle.poly_text.proofs.Lengths.{HaveLength, Holds, lengths_meaning}
use Rattle.poly_text.proofs.laws.values_keep_limits.Goals as goal

abbrev valued : List Monomial → Verdict (List Monomial)
valued f = Ok f

pub returns-clause-lengths : goal.returns-clause-lengths
returns-clause-lengths c = λ n symbols f e.
    let q = read_writes n symbols (valued f) e in
    let is = one_value (meaning n 0 q.0) (valued f) (sym (written_reads n q.0) ∙ ap (λ (l : List Symbol). read_from n l (begun n)) q.1 ∙ e) in
    subst (Holds (HaveLength n)) is (lengths_meaning q.0 n 0)

pub returns-clause-bounds : goal.returns-clause-bounds
returns-clause-bounds c = read_is_small
