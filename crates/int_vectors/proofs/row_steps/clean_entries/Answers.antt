use Rattle.std.proofs.Common.{◌≢◌, ◌∙◌, pos, get_or, rules, FitsSigned, to_z-of_z}
use Rattle.std.specs.Int.{w128}
use Rattle.int_vectors.specs.Vectors.{at}
use Rattle.wide_int.proofs.Signed.{is_zero, not_zero}
use Rattle.int_vectors.proofs.TakingOff.{cleaned_zero, cleaned_not, cleaned_other}
use Rattle.int_vectors.proofs.row_steps.clean_entries.Goals as goal

pub returns-then-factor-eq0-clause-value : goal.returns-then-factor-eq0-clause-value
returns-then-factor-eq0-clause-value c =
    let fx : FitsSigned w128 (get_or c.args.entries.now c.args.k (pos 0)) = search rules in
    cleaned_zero c.args.k c.args.by.now c.args.entries.now (is_zero _ fx c.if-factor-eq0.true)

pub returns-then-not-take_off_behind-clause-value : goal.returns-then-not-take_off_behind-clause-value
returns-then-not-take_off_behind-clause-value c =
    let fx : FitsSigned w128 (get_or c.args.entries.now c.args.k (pos 0)) = search rules in
    let fy : FitsSigned w128 (get_or c.args.by.now c.args.k (pos 0)) = search rules in
    let n : at c.args.entries.now c.args.k ≢ pos 0 = not_zero (at c.args.entries.now c.args.k) c.if-factor-eq0.false in
    cleaned_not c.args.k c.args.by.now c.args.entries.now n (simp to_z-of_z at c.if-not-take_off_behind.ensures.value)

pub returns-clause-value : goal.returns-clause-value
returns-clause-value c =
    let fx : FitsSigned w128 (get_or c.args.entries.now c.args.k (pos 0)) = search rules in
    let fy : FitsSigned w128 (get_or c.args.by.now c.args.k (pos 0)) = search rules in
    let n : at c.args.entries.now c.args.k ≢ pos 0 = not_zero (at c.args.entries.now c.args.k) c.if-factor-eq0.false in
    let v = simp to_z-of_z at c.if-not-take_off_behind.ensures.value in
    let r = cleaned_other c.args.k c.args.by.now c.args.entries.now c.take_off_behind.new.entries n v.0 v.1 in
    (r.0, c.make_primitive.ensures.value ∙ r.1)
