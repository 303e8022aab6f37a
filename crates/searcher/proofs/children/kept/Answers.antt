use Rattle.std.proofs.Common.{rules}
use Rattle.std.specs.Prelude.{IsTrue}
use Rattle.searcher.proofs.children.kept.Goals as goal

pub returns-then-keeps : goal.returns-then-keeps
returns-then-keeps c =
    let t : IsTrue c.keeps.result = search rules in
    λ p w. ((c.keeps.ensures.parent p w.t w.wall).0 t, c.new.ensures)

pub returns-else-keeps : goal.returns-else-keeps
returns-else-keeps c =
    let n : ¬ (IsTrue c.keeps.result) = search rules in
    λ p w h. n ((c.keeps.ensures.parent p w.t w.wall).1 h)
