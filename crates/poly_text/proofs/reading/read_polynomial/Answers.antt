use Rattle.std.proofs.Common.{rules, subst, refl, ◌<◌, ◌≤◌, List, Option, length}
use Rattle.std.proofs.lemmas.Result.{err_from_is_err_and}
use Rattle.poly_text.specs.Maps.{Monomial}
use Rattle.poly_text.specs.Bounds.{Verdict}
use Rattle.poly_text.specs.Steps.{begun, read_from}
use Rattle.poly_text.specs.Reading.{Follows, state_of, same}
use Rattle.poly_text.proofs.SymbolLoops.{read_more, read_stops, read_ends, step_fails}
use Rattle.poly_text.proofs.reading.read_polynomial.Goals as goal

pub returns-in_err-reader-2 : goal.returns-in_err-reader-2
returns-in_err-reader-2 c =
    let p = err_from_is_err_and c.from_residual-in_err-reader-2.result c.from_residual-in_err-reader-2.ensures.1 in
    let less : c.loop-symbol.symbol-index < length c.args.symbols.now = search rules in
    rw (p.1, p.2) (step_fails c.in_err-reader-2.field-0.0 _ (same {A = Verdict (List Monomial)}) (read_from c.args.n c.args.symbols.now (begun c.args.n)) c.in_err-reader-2.ensures
    (λ none. read_stops c.args.n c.args.symbols.now c.loop-symbol.symbol-index (state_of c.loop-symbol.reader) (read_from c.args.n c.args.symbols.now (begun c.args.n)) _ _ refl less none c.loop-symbol.invariant))

pub loop-symbol-preserved : goal.loop-symbol-preserved
loop-symbol-preserved c =
    let less : c.loop-symbol.symbol-index < length c.args.symbols.now = search rules in
    read_more c.args.n c.args.symbols.now c.loop-symbol.symbol-index (state_of c.loop-symbol.reader) (read_from c.args.n c.args.symbols.now (begun c.args.n)) _ _ (state_of c.in_ok-reader-2.reader) refl less
    c.in_ok-reader-2.ensures c.loop-symbol.invariant

pub returns : goal.returns
returns c =
    let past : length c.args.symbols.now ≤ c.loop-symbol.symbol-index = search rules in
    subst (λ (o : Option (Verdict (List Monomial))). Follows (same {A = Verdict (List Monomial)}) c.end.result o)
    (read_ends c.args.n c.args.symbols.now c.loop-symbol.symbol-index (state_of c.loop-symbol.reader) (read_from c.args.n c.args.symbols.now (begun c.args.n)) past c.loop-symbol.invariant) c.end.ensures
