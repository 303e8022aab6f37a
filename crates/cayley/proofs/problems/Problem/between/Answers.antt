use Rattle.std.proofs.Common.{◌∙◌, map, sym, ap, subst}
use Rattle.std.proofs.lemmas.Result.{err_from_is_err_and}
use Rattle.cayley.specs.Valid.{IsValidProblem}
use Rattle.cayley.specs.Files.{moved_supports}
use Rattle.int_vectors.proofs.Each.{all_each}
use Rattle.cayley.proofs.Ranking.PlainProblems.{few, counts_of}
use Rattle.cayley.proofs.Ranking.MovedProblems.{between_valid, made_between, few_supports, stored_heights, second_counts, second_heights}
use Rattle.cayley.proofs.problems.Problem.between.Goals as goal

pub check_second-requires : goal.check_second-requires
check_second-requires c =
    let valid = c.supports-points.ensures.valid in
    let is = c.supports-points.ensures.value in
    record { few = few_supports (λ s. s.items) (λ s. s) c.args.file.now valid c.supports-points.result.now is; counts = all_each _ _ (few (λ s. s.items) c.supports-points.result.now c.args.file.now.supports is valid.shape.counts) }

pub moved_supports-requires : goal.moved_supports-requires
moved_supports-requires c =
    let valid = c.supports-points.ensures.valid in
    let is = c.supports-points.ensures.value in
    let h = c.in_ok-check_second.ensures c.args.file.now is in
    record {
      few = all_each _ _ (few (λ s. s.items) c.supports-points.result.now c.args.file.now.supports is valid.shape.counts);
      counts = second_counts (λ s. s.items) (λ s. s.items) c.args.file.now valid c.supports-points.result.now is c.args.second.now h;
      first = stored_heights (λ s. s.items) (λ s. s) c.args.file.now valid c.supports-points.result.now is;
      second = second_heights (λ s. s.items) (λ s. s.items) c.args.file.now valid c.supports-points.result.now is c.args.second.now h;
    }

pub of_parts-requires : goal.of_parts-requires
of_parts-requires c =
    let is = c.supports-points.ensures.value in
    let h = c.in_ok-check_second.ensures c.args.file.now is in
    let second = map (λ s. s.items) c.args.second.now in
    let e = made_between c.args.file.now second _ _ _ c.dim.ensures.value
    (c.in_ok-supports.ensures.files ∙ counts_of (λ s. s.items) c.supports-points.result.now c.args.file.now.supports is)
    (c.in_ok-supports.ensures.points ∙ ap (λ ss. moved_supports ss second) is) in
    subst IsValidProblem (sym e) (between_valid c.args.file.now second c.dim.ensures.valid h)

pub returns : goal.returns
returns c =
    let is = c.supports-points.ensures.value in
    let h = c.in_ok-check_second.ensures c.args.file.now is in
    let second = map (λ s. s.items) c.args.second.now in
    let e = made_between c.args.file.now second _ _ _ c.dim.ensures.value
    (c.in_ok-supports.ensures.files ∙ counts_of (λ s. s.items) c.supports-points.result.now c.args.file.now.supports is)
    (c.in_ok-supports.ensures.points ∙ ap (λ ss. moved_supports ss second) is) in
    (h, c.in_ok-problem.ensures ∙ e)

pub returns-in_err-check_second : goal.returns-in_err-check_second
returns-in_err-check_second c =
    let p = err_from_is_err_and c.from_residual.result c.from_residual.ensures.1 in
    rw (p.1, p.2) (c.in_err-check_second.ensures c.args.file.now c.supports-points.ensures.value)
