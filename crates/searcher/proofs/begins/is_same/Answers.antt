use Rattle.std.proofs.Common.{true≢false, sym, subst}
use Rattle.lex_height.specs.Values as lex
use Rattle.lex_height.specs.Values.{IsBelow}
use Rattle.lex_height.proofs.Forms.{ordered_is}
use Rattle.searcher.proofs.begins.is_same.Goals as goal

pub returns-in-Less : goal.returns-in-Less
returns-in-Less c =
    let h = rw c.in-Less.is at c.cmp.ensures in
    ((λ t. absurd (true≢false (sym t))), (λ e. absurd (ordered_is.apart c.args.other.now (subst (λ (x : lex.Value). IsBelow x c.args.other.now) e h))))

pub returns-in-Greater : goal.returns-in-Greater
returns-in-Greater c =
    let h = rw c.in-Greater.is at c.cmp.ensures in
    ((λ t. absurd (true≢false (sym t))), (λ e. absurd (ordered_is.apart c.args.other.now (subst (λ (x : lex.Value). IsBelow c.args.other.now x) e h))))
