use Rattle.std.proofs.Common.{◌≡◌, rules, true, length, nat_le}
use Rattle.mixedcells.proofs.CommandLine.Numbers.{number_is}
use Rattle.mixedcells.proofs.words.numbers.is_number.Goals as goal

pub returns-then-bytes-le20 : goal.returns-then-bytes-le20
returns-then-bytes-le20 c =
    let some : nat_le 1 (length c.as_bytes-bytes.result.now) ≡ true = search rules in
    let few : nat_le (length c.as_bytes-bytes.result.now) 20 ≡ true = search rules in
    number_is c.args.word.now c.as_bytes-bytes.result.now c.all_digits.result c.as_bytes-bytes.ensures.value some few c.all_digits.ensures
