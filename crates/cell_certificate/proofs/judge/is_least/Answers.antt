use Rattle.std.proofs.Common.{rules, ap, sym, ◌∙◌, ◌≡◌, ◌≢◌}
use Rattle.std.specs.Prelude.{IsTrue}
use Rattle.cayley.specs.Problems.{Problem, version2}
use Rattle.cell_certificate.proofs.Least.{least_free, free_ties, least_plain, plain_ties, inverse_fault, least_answer}
use Rattle.cell_certificate.proofs.judge.is_least.Goals as goal

pub returns-then-sides : goal.returns-then-sides
returns-then-sides c =
    let p = c.args.problem.now in
    let x = c.args.listed.now in
    let well = c.dim-dim.ensures.valid.shape.problem in
    let t : IsTrue c.args.sides.untied = c.if-sides.true in
    let free = c.requires.sides.2.0 t in
    let r = least_free p well x c.requires.level free in
    (free_ties p well x c.requires.level free, ((λ u. r.0 (c.requires.sides.1.0 u)), (λ h. c.requires.sides.1.1 (r.1 h))))

pub returns-then-not-is_perturbed : goal.returns-then-not-is_perturbed
returns-then-not-is_perturbed c =
    let p = c.args.problem.now in
    let x = c.args.listed.now in
    let well = c.dim-dim.ensures.valid.shape.problem in
    let n : ¬ (IsTrue c.is_perturbed.result) = search (rules, c.if-not-is_perturbed.true, c.if-not-is_perturbed.ensures) in
    let plain : p.version ≢ version2 = λ v. n (c.is_perturbed.ensures.1 (sym (ap (λ (q : Problem). q.version) c.requires.same) ∙ v)) in
    let r = least_plain p well x c.requires.level c.dim-dim.ensures.valid.ranks plain in
    (plain_ties p well x c.requires.level c.dim-dim.ensures.valid.ranks plain, ((λ u. r.0 (c.requires.sides.1.0 u)), (λ h. c.requires.sides.1.1 (r.1 h))))

pub returns-in-Err : goal.returns-in-Err
returns-in-Err c =
    let p = c.args.problem.now in
    let x = c.args.listed.now in
    let well = c.dim-dim.ensures.valid.shape.problem in
    let t : IsTrue c.is_perturbed.result = search (rules, c.if-not-is_perturbed.false, c.if-not-is_perturbed.ensures) in
    let version = ap (λ (q : Problem). q.version) c.requires.same ∙ c.is_perturbed.ensures.0 t in
    let n : ¬ (IsTrue c.args.sides.untied) = search (rules, c.if-sides.false) in
    inverse_fault p well x c.requires.level c.args.eliminated.now c.requires.eliminated c.in-Err.fault version (λ e. n (c.requires.sides.2.1 e)) c.in-Err.ensures

pub returns : goal.returns
returns c =
    let p = c.args.problem.now in
    let x = c.args.listed.now in
    let well = c.dim-dim.ensures.valid.shape.problem in
    let t : IsTrue c.is_perturbed.result = search (rules, c.if-not-is_perturbed.false, c.if-not-is_perturbed.ensures) in
    let version = ap (λ (q : Problem). q.version) c.requires.same ∙ c.is_perturbed.ensures.0 t in
    least_answer p well x c.requires.level c.args.eliminated.now c.requires.eliminated c.in-Ok.inverse c.in-Ok.ensures.0 c.in-Ok.ensures.1 version c.are_over.result c.are_over.ensures
