use Rattle.std.proofs.Common.{subst, sym}
use Rattle.cayley.specs.Problems.{HasNoCorners, IsStill}
use Rattle.plain_lister.proofs.PlainProblem.{plain_alone, plain_rests}
use Rattle.plain_lister.proofs.tests.of_file.Goals as goal

pub returns-in-Ok : goal.returns-in-Ok
returns-in-Ok c =
    (subst HasNoCorners (sym c.in-Ok.ensures) (plain_alone c.args.file.now), subst IsStill (sym c.in-Ok.ensures) (plain_rests c.args.file.now))
