use Rattle.std.proofs.Common.{rules, refl, subst, subst₂, sym}
use Rattle.std.specs.Prelude.{IsTrue}
use Rattle.plain_lister.specs.Order.{IsChoice}
use Rattle.plain_lister.specs.Wheels.{Show}
use Rattle.plain_lister.proofs.Odometer.{firsts_choice}
use Rattle.plain_lister.proofs.Growing.{choice_to, begun, going_on, gone_through, small_counts}
use Rattle.plain_lister.proofs.lists.list_choices.Goals as goal

pub wheels_of-requires-clause-small : goal.wheels_of-requires-clause-small
wheels_of-requires-clause-small g c = small_counts c.args.problem.now c.requires.valid c.args.counts.now c.requires.counts

pub loop-going-init : goal.loop-going-init
loop-going-init g c =
    let r = c.requires in
    record {
      choice = λ t. (
        subst (IsChoice c.args.counts.now) (sym c.in-Ok.ensures) (firsts_choice c.args.counts.now r.pairs),
        subst (Show c.args.counts.now c.in-Ok-wheels_of.wheels.items) (sym c.in-Ok.ensures) c.in-Ok-wheels_of.ensures,
      );
      done = begun c.args.problem.now r.valid r.alone c.args.counts.now r.counts c.in-Ok.pairs.items c.new-found.result.items c.in-Ok.ensures c.new-found.ensures.items;
    }

pub turn-requires : goal.turn-requires
turn-requires g c =
    let t : IsTrue c.loop-going.going = search rules in
    let i = c.loop-going.invariant in
    let wheels = c.deref_mut.ensures.value in
    let pairs = c.deref_mut-in-loop-going.ensures.value in
    let counts = c.requires.counts in
    λ lifetimes live. (
      live,
      (
        c.requires.valid,
        (
          c.requires.still,
          (
            c.requires.alone,
            (
              refl,
              (
                subst₂ IsChoice counts (sym pairs) (i.choice t).0,
                (
                  subst₂ (λ m w. Show m w c.deref_mut-in-loop-going.result.now) counts (sym wheels) (subst (Show c.args.counts.now c.loop-going.wheels.items) (sym pairs) (i.choice t).1),
                  going_on c.args.problem.now c.loop-going.going c.loop-going.pairs.items c.deref_mut-in-loop-going.result.now c.loop-going.found.items t pairs i.done,
                ),
              ),
            ),
          ),
        ),
      ),
    )

pub returns : goal.returns
returns g c =
    let n : ¬ (IsTrue c.loop-going.going) = search rules in
    gone_through c.args.problem.now c.loop-going.going c.loop-going.pairs.items c.loop-going.found.items n c.loop-going.invariant.done
