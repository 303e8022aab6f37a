use Rattle.std.proofs.Common.{rules, ◌≡◌, ◌∙◌, ap, sym, Bool, true, false, ◌&&◌, ℤ, length, nat_le, refl}
use Rattle.std.specs.Global.{Vec}
use Rattle.std.specs.List.{list_all}
use Rattle.std.specs.Map.{keys_of}
use Rattle.poly_text.specs.Bounds.{is_exponent, is_small}
use Rattle.poly_text.proofs.Entries.{small_is}
use Rattle.poly_text.proofs.collected.Collected.is_small.Goals as goal

both_yes : (a b c : Bool) → a ≡ true → b ≡ c → b ≡ (a && c)
both_yes true b c e f = f
both_yes false b c e f = absurd cc

first_no : (a c : Bool) → a ≡ false → a ≡ (a && c)
first_no true c e = absurd cc
first_no false c e = refl

pub returns-then-len-le-POINTS : goal.returns-then-len-le-POINTS
returns-then-len-le-POINTS c =
    let es = c.self.inside.kept.entries in
    let few : nat_le (length es) 1000 ≡ true = search rules in
    both_yes (nat_le (length es) 1000) c.have_exponents.result (list_all (λ (k : Vec ℤ). list_all is_exponent k.items) (keys_of es)) few c.have_exponents.ensures
    ∙ sym (small_is es) ∙ ap is_small c.self.view_is

pub returns-else-len-le-POINTS : goal.returns-else-len-le-POINTS
returns-else-len-le-POINTS c =
    let es = c.self.inside.kept.entries in
    let many : nat_le c.len.result 1000 ≡ false = search rules in
    let many2 : nat_le (length es) 1000 ≡ false = ap (λ n. nat_le n 1000) (sym c.len.ensures.len) ∙ many in
    many ∙ sym many2 ∙ first_no (nat_le (length es) 1000) (list_all (λ (k : Vec ℤ). list_all is_exponent k.items) (keys_of es)) many2
    ∙ sym (small_is es) ∙ ap is_small c.self.view_is
