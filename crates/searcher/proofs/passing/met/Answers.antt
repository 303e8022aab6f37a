use Rattle.searcher.proofs.BesideOne.{is_less, is_equal, is_greater}
use Rattle.searcher.proofs.PassedEnds.{one_late, one_ended}
use Rattle.searcher.proofs.passing.met.Goals as goal

pub followed-requires-clause-soon : goal.followed-requires-clause-soon
followed-requires-clause-soon c = λ t e o. is_less _ _ _ c.beside_one.result c.in-Less.is (c.beside_one.ensures.order t e o)

pub returns-in-Equal : goal.returns-in-Equal
returns-in-Equal c =
    one_ended c.args.problem.now c.args.cell.now c.dim-dim.ensures.valid.shape.problem c.requires.walls.0 c.args.lines.now c.requires.walls.1 c.requires.way c.args.entry.now c.requires.entry
    c.args.time c.args.which c.requires.exit (λ t e o. is_equal _ _ _ c.beside_one.result c.in-Equal.is (c.beside_one.ensures.order t e o))

pub returns-in-Greater : goal.returns-in-Greater
returns-in-Greater c =
    one_late c.args.problem.now c.args.cell.now c.dim-dim.ensures.valid.shape.problem c.requires.walls.0 c.args.lines.now c.requires.walls.1 c.requires.way c.args.entry.now c.requires.entry
    c.args.time c.args.which c.requires.exit (λ t e o. is_greater _ _ _ c.beside_one.result c.in-Greater.is (c.beside_one.ensures.order t e o))
