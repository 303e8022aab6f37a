use Rattle.searcher.proofs.Turns.{well_of}
use Rattle.search_team.proofs.Stopped.{ok_found, ok_share, ok_size, ok_fit, err_tie, err_untied}
use Rattle.search_team.proofs.team.search_shared.Goals as goal

pub returns-clause-answer : goal.returns-clause-answer
returns-clause-answer g c = ok_found c.args.problem.now c.args.branches.items c.answered.result c.answered.ensures.answer

pub returns-clause-share : goal.returns-clause-share
returns-clause-share g c = ok_share c.args.problem.now c.args.branches.items (well_of c.args.problem.now c.dim-dim.ensures.valid) c.answered.result c.answered.ensures.answer

pub returns-clause-size : goal.returns-clause-size
returns-clause-size g c = ok_size c.args.problem.now c.args.branches.items (well_of c.args.problem.now c.dim-dim.ensures.valid) c.answered.result c.answered.ensures.answer

pub returns-clause-fit : goal.returns-clause-fit
returns-clause-fit g c = ok_fit c.args.problem.now c.args.branches.items c.answered.result c.answered.ensures.answer

pub returns-clause-tie : goal.returns-clause-tie
returns-clause-tie g c = err_tie c.args.problem.now c.args.branches.items c.answered.result c.answered.ensures.answer

pub returns-clause-untied : goal.returns-clause-untied
returns-clause-untied g c = err_untied c.args.problem.now c.args.branches.items c.answered.result c.answered.ensures.answer
