use Rattle.wide_int.proofs.Lowest.{one_form_is}
use Rattle.wide_int.proofs.fraction.one_form.Goals as goal

pub returns : goal.returns
returns c = one_form_is
