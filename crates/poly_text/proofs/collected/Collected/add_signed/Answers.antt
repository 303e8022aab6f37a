use Rattle.std.proofs.Common.{rules, ◌≡◌, FitsSigned, to_z-of_z, neg_ℤ, true, false, if◌then◌else◌}
use Rattle.std.specs.Int.{w128}
use Rattle.std.specs.List.{list_all}
use Rattle.poly_text.specs.Maps.{signed}
use Rattle.poly_text.specs.Bounds.{fits}
use Rattle.poly_text.specs.Collecting.{plain}
use Rattle.poly_text.proofs.TermSums.{no_exponents, no_number, decides}
use Rattle.poly_text.proofs.collected.Collected.add_signed.Goals as goal

pub returns-then-not-are_fitting : goal.returns-then-not-are_fitting
returns-then-not-are_fitting c =
    let h : list_all fits c.args.term.now.0.items ≡ false = search rules in
    no_exponents c.args.self.now (signed c.args.minus (plain c.args.term.now)) h

pub returns-in_default : goal.returns-in_default
returns-in_default c =
    let h : list_all fits c.args.term.now.0.items ≡ true = search rules in
    let e : fits (if c.args.minus then neg_ℤ c.args.term.now.1 else c.args.term.now.1) ≡ false = search rules in
    no_number c.args.self.now (signed c.args.minus (plain c.args.term.now)) h e

pub returns : goal.returns
returns c =
    let h : list_all fits c.args.term.now.0.items ≡ true = search rules in
    let e : fits (if c.args.minus then neg_ℤ c.args.term.now.1 else c.args.term.now.1) ≡ true = search rules in
    let same : c.in-Some.number ≡ (if c.args.minus then neg_ℤ c.args.term.now.1 else c.args.term.now.1) = search rules in
    let exponents : c.in-Ok.exponents.items ≡ c.args.term.now.0.items = search rules in
    let wide : FitsSigned w128 c.in-Some.number = search rules in
    decides _ c.args.self.now c.add.new.self c.in-Ok.exponents.items c.args.term.now.0.items c.in-Some.number (if c.args.minus then neg_ℤ c.args.term.now.1 else c.args.term.now.1) exponents same h e (simp to_z-of_z at c.in_ok-done.ensures)
