use Rattle.std.proofs.lemmas.Result.{on_ok_weaker}
use Rattle.support_text.proofs.Written.{starts_written}
use Rattle.support_text.proofs.writing.write_given_starts.Goals as goal

pub returns-in-Some : goal.returns-in-Some
returns-in-Some c = on_ok_weaker _ (starts_written (λ s. s.items) _ _ c.in-Some.starts.now c.args.file.now.starts c.in-Some.ensures.value) c.write_starts.ensures
