use Rattle.std.proofs.Common.{◌≡◌, ◌-◌, ◌++◌, ◌∙◌, sym, length, take, drop, arith, subst}
use Rattle.std.proofs.lemmas.List.{length-set}
use Rattle.plain_lister.specs.Order.{IsLast, firsts}
use Rattle.plain_lister.proofs.Turning.{start_turned, start_last}
use Rattle.plain_lister.proofs.Shown.{length-show, show_at, turn_to, turn_over}
use Rattle.plain_lister.proofs.choices.advance.Goals as goal

pub loop-place-init : goal.loop-place-init
loop-place-init g c =
    let choice = c.requires.0 in
    let e = length-show g.counts c.args.wheels.now c.args.pairs.now c.requires.1 in
    let l : length c.args.pairs.now ≡ length c.args.wheels.now = e.1 ∙ sym e.0 in
    record {
      within = omega arith;
      show = c.requires.1;
      turned = subst (λ n. c.args.pairs.now ≡ take n c.args.pairs.now ++ firsts (drop n g.counts)) l (start_turned g.counts c.args.pairs.now choice);
      last = subst (λ n. IsLast (drop n g.counts) (drop n c.args.pairs.now)) l (start_last g.counts c.args.pairs.now choice);
    }

pub turn-requires : goal.turn-requires
turn-requires g c =
    let i = c.loop-place.invariant in
    (show_at (c.loop-place.place - 1) g.counts c.loop-place.wheels c.loop-place.pairs c.index-wheels-place.result (0, 0) i.show (let w = i.within in let t = c.loop-place-test.true in omega arith)).1

pub bounds-pairs-place : goal.bounds-pairs-place
bounds-pairs-place g c =
    let i = c.loop-place.invariant in
    let e = length-show g.counts c.loop-place.wheels c.loop-place.pairs i.show in
    let w = i.within in
    let t = c.loop-place-test.true in
    omega (arith, e.0, e.1, w, t)

pub bounds-pairs-place-in-None : goal.bounds-pairs-place-in-None
bounds-pairs-place-in-None g c =
    let i = c.loop-place.invariant in
    let e = length-show g.counts c.loop-place.wheels c.loop-place.pairs i.show in
    let w = i.within in
    let t = c.loop-place-test.true in
    omega (arith, e.0, e.1, w, t)

pub returns-in-Some-clause-shown : goal.returns-in-Some-clause-shown
returns-in-Some-clause-shown g c = λ going.
    let i = c.loop-place.invariant in
    let t = c.in-Some.ensures.turned in
    (turn_to c.loop-place.place (c.loop-place.place - 1) g.counts c.args.pairs.now c.loop-place.pairs c.loop-place.wheels (0, 0) c.index-wheels-place.result c.turn.new.self (omega arith) i.within
    c.requires.0 i.show i.turned i.last c.in-Some.ensures.pairs c.in-Some.pair t.0 t.1 t.2).0

pub returns-in-Some-clause-next : goal.returns-in-Some-clause-next
returns-in-Some-clause-next g c = λ going.
    let i = c.loop-place.invariant in
    let t = c.in-Some.ensures.turned in
    (turn_to c.loop-place.place (c.loop-place.place - 1) g.counts c.args.pairs.now c.loop-place.pairs c.loop-place.wheels (0, 0) c.index-wheels-place.result c.turn.new.self (omega arith) i.within
    c.requires.0 i.show i.turned i.last c.in-Some.ensures.pairs c.in-Some.pair t.0 t.1 t.2).1

pub loop-place-preserved : goal.loop-place-preserved
loop-place-preserved g c =
    let i = c.loop-place.invariant in
    let t = c.in-None.ensures.turned in
    let o = turn_over c.loop-place.place (c.loop-place.place - 1) g.counts c.args.pairs.now c.loop-place.pairs c.loop-place.wheels (0, 0) c.index-wheels-place.result c.turn.new.self (omega arith) i.within
    c.requires.0 i.show i.turned i.last c.in-None.ensures.pairs t.0 t.1 in
    record { within = let w = i.within in let l = length-set c.loop-place.wheels (c.loop-place.place - 1) c.turn.new.self in omega (arith, w, l); show = o.0; turned = o.1.0; last = o.1.1 }
