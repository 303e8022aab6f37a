use Rattle.std.proofs.Common.{arith, suc, ◌+◌, ◌<◌, ◌∙◌, drop, ap, ap₂, sym, add-one, get_or, length, drop-cons}
use Rattle.line_text.specs.Tokens.{tokens}
use Rattle.line_text.proofs.TokenLemmas.{blank_step}
use Rattle.line_text.proofs.bytes.blanks_end.Goals as goal

pub loop-end-preserved : goal.loop-end-preserved
loop-end-preserved c =
    let bytes = c.args.bytes.now in
    let n = c.loop-end.end in
    let less : n < length bytes = c.loop-end-test.true in (
      omega arith,
      λ place. c.loop-end.invariant.1 place ∙ ap (tokens (place + n)) (drop-cons bytes n 0 less)
          ∙ blank_step (place + n) (get_or bytes n 0) (drop (suc n) bytes) (sym c.if-is_blank.ensures)
          ∙ ap₂ tokens (omega arith) (ap (λ k. drop k bytes) (sym (add-one n))),
    )
