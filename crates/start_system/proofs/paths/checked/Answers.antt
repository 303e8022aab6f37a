use Rattle.std.proofs.Common.{◌∙◌, sym, ap}
use Rattle.cayley.specs.Problems.Version.{version1, version2}
use Rattle.cayley.specs.Stored.{version_of, problem_of}
use Rattle.start_system.proofs.Making.ValidPaths.{stored_path}
use Rattle.start_system.proofs.Making.NoFaults.{only_path}
use Rattle.start_system.proofs.paths.checked.Goals as goal

pub returns-in-First-clause-path : goal.returns-in-First-clause-path
returns-in-First-clause-path c =
    let file = c.args.file.now in
    let is = stored_path file version1 c.dim-dim.result c.args.supports.items (ap version_of (sym c.in-First.is) ∙ c.form.ensures.value) c.dim-dim.ensures.value c.requires.files c.requires.points in
    only_path file (problem_of version1 c.dim-dim.result c.args.supports.items) c.new.result c.dim-dim.ensures.valid is c.new.ensures

pub returns-in-Second-clause-path : goal.returns-in-Second-clause-path
returns-in-Second-clause-path c =
    let file = c.args.file.now in
    let is = stored_path file version2 c.dim-dim.result c.args.supports.items (ap version_of (sym c.in-Second.is) ∙ c.form.ensures.value) c.dim-dim.ensures.value c.requires.files c.requires.points in
    only_path file (problem_of version2 c.dim-dim.result c.args.supports.items) c.perturbed.result c.dim-dim.ensures.valid is c.perturbed.ensures
