use Rattle.line_text.proofs.TokenLemmas.{token_left}
use Rattle.line_text.proofs.line.Line.has_token.Goals as goal

pub returns : goal.returns
returns c =
    let line = c.self.inside in
    let blanks = c.blanks_end.ensures in
    rw (← c.self.view_is) (token_left line.at c.blanks_end.result line.rest.now blanks.within (blanks.same line.at) blanks.next)
