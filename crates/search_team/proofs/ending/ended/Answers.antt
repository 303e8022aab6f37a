use Rattle.std.proofs.Common.{rules, ◌≡◌, None, Some, [], ◌++◌, refl, sym, ap, subst, ◌∙◌, append-nil}
use Rattle.std.specs.Prelude.{IfSome}
use Rattle.branch_pool.specs.Seats.{AreAllSeats, offered_by, taken_by}
use Rattle.searcher.proofs.Turns.{well_of}
use Rattle.search_team.specs.Searchers.{IsTold, IsDivided, given_by}
use Rattle.search_team.specs.Teams.{all_left, all_found}
use Rattle.search_team.proofs.Summed.{left_snoc, found_snoc, seats_whole, given_back, of_more, cells_left}
use Rattle.search_team.proofs.Chained.{divided}
use Rattle.search_team.proofs.Stopped.{stopped_with, with_rest}
use Rattle.search_team.proofs.ending.ended.Goals as goal

pub close-requires : goal.close-requires
close-requires c = seats_whole c.args.pool c.parted-parts.result.seats.items c.parted-parts.ensures.own (sym c.parted-parts.ensures.numbers ∙ c.requires.numbers.1)

pub returns-in-Err-clause-answer : goal.returns-in-Err-clause-answer
returns-in-Err-clause-answer c =
    let seats = c.parted-parts.result.seats.items in
    let all : AreAllSeats c.args.pool seats = seats_whole c.args.pool seats c.parted-parts.ensures.own (sym c.parted-parts.ensures.numbers ∙ c.requires.numbers.1) in
    with_rest c.args.problem.now c.args.given.now.value.items c.args.pool seats _ c.in-Err.unclosed c.parted-parts.result.solves c.parted-parts.result.report all c.requires.numbers.0 c.parted-parts.ensures.whole c.new.ensures.items refl refl c.in-Err.ensures.unclosed.0 c.in-Err.ensures.unclosed.1

pub returns-in-Some-clause-answer : goal.returns-in-Some-clause-answer
returns-in-Some-clause-answer c =
    let p = c.args.problem.now in
    let G = c.args.given.now.value.items in
    let seats = c.parted-parts.result.seats.items in
    let parts = c.parted-parts.result.parts.items in
    let whole = c.parted-parts.ensures.whole in
    let all : AreAllSeats c.args.pool seats = seats_whole c.args.pool seats c.parted-parts.ensures.own (sym c.parted-parts.ensures.numbers ∙ c.requires.numbers.1) in
    let d : IsDivided p G (all_left parts ++ c.in-Ok.tally.left.items) (all_found parts) c.parted-parts.result.solves =
    divided p (well_of p c.dim-dim.ensures.valid) G (given_by G seats) (taken_by seats) (offered_by seats) (all_left parts) c.in-Ok.tally.left.items (all_found parts) c.parted-parts.result.solves c.parted-parts.result.report whole (given_back G c.args.pool seats all c.requires.numbers.0) c.in-Ok.ensures.kept in
    let left : all_left c.push_reserved.new.self.items ≡ all_left parts ++ c.in-Ok.tally.left.items = left_snoc c.push_reserved.new.self.items parts (record { left = c.in-Ok.tally.left; found = c.new-in-Some.result }) c.push_reserved.ensures.items in
    let found : all_found c.push_reserved.new.self.items ≡ all_found parts = found_snoc c.push_reserved.new.self.items parts (record { left = c.in-Ok.tally.left; found = c.new-in-Some.result }) c.push_reserved.ensures.items ∙ ap (λ l. all_found parts ++ l) c.new-in-Some.ensures.items ∙ append-nil (all_found parts) in
    let told : IsTold p (all_left parts) c.in-Some.cause = subst (λ r. IfSome r (IsTold p (all_left parts))) c.in-Some.is whole.told in
    stopped_with p G _ (all_left parts ++ c.in-Ok.tally.left.items) (all_found parts) refl c.new-in-Some-2.ensures.items left found d.account.2.shares d.normals d.led
    (of_more p (all_left parts) (all_left parts ++ c.in-Ok.tally.left.items) (cells_left (all_left parts) c.in-Ok.tally.left.items) c.in-Some.cause told.0) told.1 told.2

pub finished-requires : goal.finished-requires
finished-requires c =
    let p = c.args.problem.now in
    let G = c.args.given.now.value.items in
    let seats = c.parted-parts.result.seats.items in
    let parts = c.parted-parts.result.parts.items in
    let whole = c.parted-parts.ensures.whole in
    let all : AreAllSeats c.args.pool seats = seats_whole c.args.pool seats c.parted-parts.ensures.own (sym c.parted-parts.ensures.numbers ∙ c.requires.numbers.1) in
    let none : all_left parts ≡ [] = whole.calm c.in_default.is in
    let d : IsDivided p G (all_left parts ++ c.in-Ok.tally.left.items) (all_found parts) c.parted-parts.result.solves =
    divided p (well_of p c.dim-dim.ensures.valid) G (given_by G seats) (taken_by seats) (offered_by seats) (all_left parts) c.in-Ok.tally.left.items (all_found parts) c.parted-parts.result.solves c.parted-parts.result.report whole (given_back G c.args.pool seats all c.requires.numbers.0) c.in-Ok.ensures.kept in
    record {
      still = c.requires.still;
      divided = subst (λ l. IsDivided p G (l ++ c.in-Ok.tally.left.items) (all_found parts) c.parted-parts.result.solves) none d;
      none = none;
      room = c.parted-parts.ensures.room;
    }
