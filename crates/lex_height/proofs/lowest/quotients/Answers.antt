use Rattle.std.proofs.Common.{rules, refl, FitsSigned, to_z-of_z, ◌≡◌, slice_index_or, subst, sym, take, ◌+◌}
use Rattle.std.specs.Int.{w128}
use Rattle.std.proofs.lemmas.Int.{fits_signed_from_abs}
use Rattle.std.proofs.Math.IntN.{◌*ℤ◌}
use Rattle.lex_height.specs.Room.{blank}
use Rattle.lex_height.specs.Divisors.{AreQuotients}
use Rattle.lex_height.specs.declared.part.LexPart.{LexPart}
use Rattle.lex_height.proofs.Quotients.{first_number, later_parts, first_divided, quotients_next, quotients_room}
use Rattle.lex_height.proofs.lowest.quotients.Goals as goal

pub exact_quotient-requires-clause-divides : goal.exact_quotient-requires-clause-divides
exact_quotient-requires-clause-divides c =
    let ps = c.args.parts.now in
    let i = c.loop-part.part-index in
    let r = c.loop-part.invariant.rest in
    let fd : FitsSigned w128 c.args.divisor = c.ranges.divisor in
    let fn : FitsSigned w128 (slice_index_or ps i blank).num = fits_signed_from_abs w128 _ (first_number ps i r.0 blank c.loop-part-test.true r.1).1 in
    simp to_z-of_z (first_divided ps i _ blank c.loop-part-test.true (simp to_z-of_z at c.loop-part.invariant.divides)).0

pub push-requires : goal.push-requires
push-requires c = quotients_room _ c.loop-part.all c.args.parts.now c.loop-part.part-index c.loop-part-test.true c.requires.room c.loop-part.invariant.done

pub loop-part-preserved : goal.loop-part-preserved
loop-part-preserved c =
    let ps = c.args.parts.now in
    let i = c.loop-part.part-index in
    let r = c.loop-part.invariant.rest in
    let fd : FitsSigned w128 c.args.divisor = c.ranges.divisor in
    let fq : FitsSigned w128 c.exact_quotient.result = search rules in
    let fn : FitsSigned w128 (slice_index_or ps i blank).num = fits_signed_from_abs w128 _ (first_number ps i r.0 blank c.loop-part-test.true r.1).1 in
    let q : LexPart = record { rank = (slice_index_or ps i blank).rank; num = c.exact_quotient.result } in
    simp to_z-of_z (record {
      done = subst (λ l. AreQuotients c.args.divisor l (take (i + 1) ps)) (sym (simp to_z-of_z at c.push.ensures)) (quotients_next c.args.divisor c.loop-part.all ps i blank q c.loop-part-test.true (simp to_z-of_z at c.loop-part.invariant.done) refl (simp to_z-of_z at c.exact_quotient.ensures.quotient));
      rest = later_parts ps i r.0 blank c.loop-part-test.true r.1;
      divides = (first_divided ps i _ blank c.loop-part-test.true (simp to_z-of_z at c.loop-part.invariant.divides)).1;
    })
