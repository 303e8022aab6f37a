use Rattle.std.proofs.Common.{◌≡◌, arith, ap, length, rules, refl, subst, subst₂, sym}
use Rattle.std.specs.Prelude.{IsTrue}
use Rattle.plain_lister.specs.Order.{IsChoice}
use Rattle.plain_lister.specs.Progress.{Tried}
use Rattle.plain_lister.specs.TieProgress.{AreClear}
use Rattle.plain_lister.specs.Wheels.{Show}
use Rattle.plain_lister.proofs.Odometer.{firsts_choice}
use Rattle.plain_lister.proofs.Growing.{small_counts}
use Rattle.plain_lister.proofs.TieSearch.{begun_tie, going_tie, gone_tie, written_back}
use Rattle.plain_lister.proofs.ties.search_choices.Goals as goal

pub wheels_of-requires-clause-small : goal.wheels_of-requires-clause-small
wheels_of-requires-clause-small g c = small_counts c.args.problem.now c.requires.valid c.args.counts.now c.requires.counts

pub loop-going-init : goal.loop-going-init
loop-going-init g c =
    let r = c.requires in
    record {
      choice = λ t. (
        subst (IsChoice c.args.counts.now) (sym c.in-Ok.ensures) (firsts_choice c.args.counts.now r.pairs),
        subst (Show c.args.counts.now c.in-Ok-wheels_of.wheels.items) (sym c.in-Ok.ensures) c.in-Ok-wheels_of.ensures,
      );
      clear = begun_tie c.args.problem.now c.args.counts.now r.counts c.in-Ok.pairs.items c.in-Ok.ensures;
    }

pub take_turn-requires : goal.take_turn-requires
take_turn-requires g c =
    let t : IsTrue c.loop-going.going = search rules in
    let i = c.loop-going.invariant in
    let wheels = c.deref_mut.ensures.value in
    let pairs = c.deref_mut-in-loop-going.ensures.value in
    let counts = c.requires.counts in
    λ lifetimes live. (
      live,
      (
        c.requires.valid,
        (
          refl,
          (
            subst₂ IsChoice counts (sym pairs) (i.choice t).0,
            (
              subst₂ (λ m w. Show m w c.deref_mut-in-loop-going.result.now) counts (sym wheels) (subst (Show c.args.counts.now c.loop-going.wheels.items) (sym pairs) (i.choice t).1),
              going_tie c.args.problem.now c.loop-going.going c.loop-going.pairs.items c.deref_mut-in-loop-going.result.now t pairs i.clear,
            ),
          ),
        ),
      ),
    )

pub returns : goal.returns
returns g c =
    let n : ¬ (IsTrue c.loop-going.going) = search rules in
    gone_tie c.args.problem.now c.loop-going.going c.loop-going.pairs.items n c.loop-going.invariant.clear

pub loop-going-preserved : goal.loop-going-preserved
loop-going-preserved g c =
    let new = c.take_turn.new in
    let l = c.loop-going in
    let lp : length new.pairs ≡ l.pairs.len = (let a = c.take_turn.auto.pairs in let b = c.deref_mut-in-loop-going.ensures.len in let d = ap length c.deref_mut-in-loop-going.ensures.value in omega (arith, a, b, d)) in
    let lw : length new.wheels ≡ l.wheels.len = (let a = c.take_turn.auto.wheels in let b = c.deref_mut.ensures.len in let d = ap length c.deref_mut.ensures.value in omega (arith, a, b, d)) in
    let ep = written_back l.pairs.len new.pairs l.pairs.items lp in
    let ew = written_back l.wheels.len new.wheels l.wheels.items lw in
    let h = rw c.in-Ok-Untied.field-0-is at c.in-Ok-Untied.ensures in
    let e = sym c.requires.counts in
    record {
      choice = λ t.
          let k = h.0 t in
          (subst₂ IsChoice e (sym ep) k.0, subst₂ (λ w x. Show c.args.counts.now w x) (sym ew) (sym ep) (subst (λ m. Show m new.wheels new.pairs) e k.1));
      clear = subst (λ x. AreClear c.args.problem.now (Tried c.in-Ok-Untied.on x)) (sym ep) h.1;
    }
