use Rattle.std.proofs.Common.{subst}
use Rattle.start_system.proofs.Making.ValidPaths.{path_valid}
use Rattle.start_system.proofs.Started.SearchLaws.{path_law}
use Rattle.log_check.specs.Verdicts.{IsVerdict}
use Rattle.log_check.proofs.OneRefusal.{yes_exactly, no_exactly, overflow_exactly}
use Rattle.log_check.proofs.RightLogs.{tree_right, lists_right, spared, accepted}
use Rattle.log_check.proofs.verifying.verify.Goals as goal

pub returns-clause-yes : goal.returns-clause-yes
returns-clause-yes c =
    let log = c.args.log.now in
    yes_exactly log (path_valid log.file c.dim-dim.ensures.valid) (path_law log.file c.dim-dim.ensures.valid).1 c.judged.result c.judged.ensures

pub returns-clause-no : goal.returns-clause-no
returns-clause-no c =
    let log = c.args.log.now in
    no_exactly log (path_valid log.file c.dim-dim.ensures.valid) (path_law log.file c.dim-dim.ensures.valid).1 c.judged.result c.judged.ensures

pub returns-clause-overflow : goal.returns-clause-overflow
returns-clause-overflow c =
    let log = c.args.log.now in
    overflow_exactly log (path_valid log.file c.dim-dim.ensures.valid) (path_law log.file c.dim-dim.ensures.valid).1 c.judged.result c.judged.ensures

pub returns-clause-tree : goal.returns-clause-tree
returns-clause-tree c = λ e. tree_right c.args.log.now c.dim-dim.ensures.valid (subst (IsVerdict c.args.log.now) e c.judged.ensures)

pub returns-clause-listing : goal.returns-clause-listing
returns-clause-listing c = λ e. lists_right c.args.log.now c.dim-dim.ensures.valid (subst (IsVerdict c.args.log.now) e c.judged.ensures)

pub returns-clause-spares : goal.returns-clause-spares
returns-clause-spares c = λ t. spared c.args.log.now c.dim-dim.ensures.valid t c.judged.result c.judged.ensures

pub returns-clause-traced : goal.returns-clause-traced
returns-clause-traced c = λ t fits m. accepted c.args.log.now c.dim-dim.ensures.valid t fits c.judged.result c.judged.ensures m
