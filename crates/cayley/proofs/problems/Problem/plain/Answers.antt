use Rattle.std.proofs.Common.{◌∙◌, sym, subst}
use Rattle.std.proofs.lemmas.Result.{IfOk-weaker}
use Rattle.cayley.specs.Valid.{IsValidProblem}
use Rattle.int_vectors.proofs.Each.{all_each}
use Rattle.cayley.proofs.Ranking.PlainProblems.{few, counts_of, points_of, alike, plain_valid}
use Rattle.cayley.proofs.problems.Problem.plain.Goals as goal

pub resting_supports-requires : goal.resting_supports-requires
resting_supports-requires c = all_each _ _ (few (λ s. s.items) c.supports.result.now c.args.file.now.supports c.supports.ensures.value c.supports.ensures.valid.shape.counts)

pub of_parts-requires : goal.of_parts-requires
of_parts-requires c =
    let e = alike c.form.ensures.value c.dim.ensures.value
    (c.in_ok-supports.ensures.files ∙ counts_of (λ s. s.items) c.supports.result.now c.args.file.now.supports c.supports.ensures.value)
    (c.in_ok-supports.ensures.points ∙ points_of (λ s. s.items) c.supports.result.now c.args.file.now.supports c.supports.ensures.value) in
    subst IsValidProblem (sym e) (plain_valid c.args.file.now c.dim.ensures.valid)

pub returns : goal.returns
returns c =
    let e = alike c.form.ensures.value c.dim.ensures.value
    (c.in_ok-supports.ensures.files ∙ counts_of (λ s. s.items) c.supports.result.now c.args.file.now.supports c.supports.ensures.value)
    (c.in_ok-supports.ensures.points ∙ points_of (λ s. s.items) c.supports.result.now c.args.file.now.supports c.supports.ensures.value) in
    IfOk-weaker c.of_parts.result _ _ (λ p h. h ∙ e) c.of_parts.ensures
