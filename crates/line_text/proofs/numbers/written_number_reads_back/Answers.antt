use Rattle.line_text.proofs.NumberLemmas.{written_number, written_value, written_bytes, written_token}
use Rattle.line_text.proofs.numbers.written_number_reads_back.Goals as goal

pub returns-clause-spelled : goal.returns-clause-spelled
returns-clause-spelled c = written_number c.args.value c.ranges.value

pub returns-clause-value : goal.returns-clause-value
returns-clause-value c = written_value c.args.value c.ranges.value

pub returns-clause-bytes : goal.returns-clause-bytes
returns-clause-bytes c = written_bytes c.args.value c.ranges.value

pub returns-clause-token : goal.returns-clause-token
returns-clause-token c = written_token c.args.value c.ranges.value
