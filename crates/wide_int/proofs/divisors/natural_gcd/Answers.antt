use Rattle.std.proofs.Common.{rules, ◌≡◌}
use Rattle.std.proofs.lemmas.Nat.Gcd.{IsGcd-swap}
use Rattle.wide_int.proofs.divisors.natural_gcd.Goals as goal

pub returns-in-Ok-Ok : goal.returns-in-Ok-Ok
returns-in-Ok-Ok c =
    let e : c.in-Ok-Ok.x ≡ c.args.a = search rules in
    let f : c.in-Ok-Ok.y ≡ c.args.b = search rules in
    IsGcd-swap c.args.b c.args.a c.short_gcd.result (rw (e, f) at c.short_gcd.ensures)
