use Rattle.std.proofs.Common.{◌≡◌, ◌+◌, ◌-◌, ◌∙◌, suc, min, ap, ap₂, sym, arith, length, drop}
use Rattle.line_text.specs.Lines.{split, rows_from, with_row}
use Rattle.line_text.specs.Tokens.{content, tokens}
use Rattle.line_text.proofs.LineLemmas.{first_row, lines_left}
use Rattle.line_text.proofs.bytes.split_line.Goals as goal

pub returns-clause-lines : goal.returns-clause-lines
returns-clause-lines c =
    let bytes = c.args.bytes.now in
    lines_left c.line_end-end.result bytes c.requires c.line_end-end.ensures.place
    ∙ ap (λ l. suc (length (split l))) (sym (c.split_at-2.ensures.back ∙ ap (λ k. drop k bytes) c.min-next.ensures))

pub returns-clause-rows : goal.returns-clause-rows
returns-clause-rows c place number =
    let bytes = c.args.bytes.now in
    let end = c.line_end-end.result in
    let rest = c.split_at-2.result.1.now in
    let next : min (end + 1) (length bytes) ≡ length bytes - length rest = omega (arith, c.min-next.ensures, c.split_at-2.ensures.back_len) in
    let behind : drop (min (end + 1) (length bytes)) bytes ≡ rest = sym (c.split_at-2.ensures.back ∙ ap (λ k. drop k bytes) c.min-next.ensures) in
    first_row place number end bytes c.requires c.line_end-end.ensures.place
    ∙ ap₂ (λ text rows. with_row number (tokens place (content text)) rows) (sym c.split_at.ensures.front)
    (ap₂ (λ k l. rows_from (place + k) (number + 1) (split l)) next behind)
