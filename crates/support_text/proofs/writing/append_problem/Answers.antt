use Rattle.std.proofs.lemmas.Result.{on_ok_weaker}
use Rattle.std.proofs.Common.{map}
use Rattle.cayley.specs.Stored.{file_point}
use Rattle.support_text.proofs.Written.{problem_written}
use Rattle.support_text.proofs.writing.append_problem.Goals as goal

pub returns : goal.returns
returns c = on_ok_weaker _ (problem_written (λ s. map file_point s.items) _ _ _ _ _ _ c.supports.result.now c.args.file.now c.supports.ensures.value (rw c.form.ensures.value at c.in_ok-write_header.ensures) (rw c.dim.ensures.value at c.in_ok-write_count.ensures) c.in_ok-write_supports.ensures c.in_ok-write_given_starts.ensures) c.write_bytes.ensures.ok
