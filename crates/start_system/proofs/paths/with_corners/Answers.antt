use Rattle.std.proofs.Common.{◌≡◌, ◌∙◌, sym, ap, subst}
use Rattle.cayley.specs.Files.{plain_problem}
use Rattle.cayley.specs.Paths.{path}
use Rattle.cayley.specs.Problems.{Problem, IsStill, file_points}
use Rattle.cayley.specs.Ties.{IsTieFree}
use Rattle.start_system.specs.Started.{IsStarted, IsSearched}
use Rattle.start_system.proofs.Making.Parts.{if_ok_weaker}
use Rattle.start_system.proofs.Started.SearchLaws.{path_law}
use Rattle.start_system.proofs.paths.with_corners.Goals as goal

pub returns-clause-started : goal.returns-clause-started
returns-clause-started c =
    let file = c.args.file.now in
    if_ok_weaker c.path_of.result (λ (p : Problem). p ≡ path file) IsStarted (λ p e. subst IsStarted (sym e) (path_law file c.path_of.ensures.valid).0) c.path_of.ensures.path

pub returns-clause-still : goal.returns-clause-still
returns-clause-still c =
    let file = c.args.file.now in
    if_ok_weaker c.path_of.result (λ (p : Problem). p ≡ path file) IsStill (λ p e. subst IsStill (sym e) (path_law file c.path_of.ensures.valid).1) c.path_of.ensures.path

pub returns-clause-points : goal.returns-clause-points
returns-clause-points c =
    let file = c.args.file.now in
    if_ok_weaker c.path_of.result (λ (p : Problem). p ≡ path file) (λ p. file_points p ≡ plain_problem file) (λ p e. ap file_points e ∙ (path_law file c.path_of.ensures.valid).2) c.path_of.ensures.path

pub returns-clause-searched : goal.returns-clause-searched
returns-clause-searched c =
    let file = c.args.file.now in
    if_ok_weaker c.path_of.result (λ (p : Problem). p ≡ path file) IsSearched (λ p e. subst IsSearched (sym e) (path_law file c.path_of.ensures.valid).3) c.path_of.ensures.path

pub returns-clause-free : goal.returns-clause-free
returns-clause-free c = λ second.
    let file = c.args.file.now in
    if_ok_weaker c.path_of.result (λ (p : Problem). p ≡ path file) IsTieFree (λ p e. subst IsTieFree (sym e) ((path_law file c.path_of.ensures.valid).3.perturbed second)) c.path_of.ensures.path
