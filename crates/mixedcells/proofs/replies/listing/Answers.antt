use Rattle.std.proofs.Common.{subst, sym}
use Rattle.cayley.specs.Problems.{HasNoCorners, IsStill}
use Rattle.plain_lister.proofs.PlainProblem.{plain_alone, plain_rests}
use Rattle.mixedcells.proofs.Listings.{listing_reply, overflow_reply}
use Rattle.mixedcells.proofs.replies.listing.Goals as goal

pub plain_list-requires : goal.plain_list-requires
plain_list-requires c = record {
  alone = subst HasNoCorners (sym c.in_ok-problem.ensures) (plain_alone c.args.file.now);
  still = subst IsStill (sym c.in_ok-problem.ensures) (plain_rests c.args.file.now);
}

pub returns-in-Ok : goal.returns-in-Ok
returns-in-Ok c =
    listing_reply c.args.file.now _ c.in-Ok.found.items _ c.in_ok-problem.ensures c.in-Ok.ensures.listed c.in-Ok.ensures.lowest c.in-Ok.ensures.complete
    (rw c.deref.ensures.value at c.in_ok-text-in-Ok.ensures)

pub returns-in-Err-Overflow : goal.returns-in-Err-Overflow
returns-in-Err-Overflow c =
    overflow_reply c.args.file.now _ c.in-Err-Overflow.cell _ _ c.in_ok-problem.ensures c.in-Err-Overflow.field-0-is c.in-Err-Overflow.ensures.refused
    c.in_ok-text-in-Err-Overflow.ensures
