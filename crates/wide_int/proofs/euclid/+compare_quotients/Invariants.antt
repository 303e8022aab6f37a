use Rattle.std.proofs.Common.{◌+◌}
use Rattle.wide_int.proofs.euclid.+compare_quotients.Given as goal

abbrev pub decreases-compare_quotients : goal.decreases-compare_quotients
decreases-compare_quotients l = l.b + l.d
