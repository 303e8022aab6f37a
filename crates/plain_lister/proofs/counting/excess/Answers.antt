use Rattle.std.proofs.Common.{◌≤◌, ◌+◌, ◌*◌, map, take, sym, subst, arith}
use Rattle.wide_int.proofs.Turns.{next_all}
use Rattle.plain_lister.specs.Choices.{most_points, pairs_of, product}
use Rattle.plain_lister.proofs.Numbering.{choices_more, each_count}
use Rattle.plain_lister.proofs.counting.excess.Goals as goal

pub pairs_of-choices-requires : goal.pairs_of-choices-requires
pairs_of-choices-requires c = each_count (λ n. n ≤ most_points) c.args.counts.now c.loop-count.count-index c.loop-count-test.true c.requires

pub returns-then-choices-gt-LIMIT : goal.returns-then-choices-gt-LIMIT
returns-then-choices-gt-LIMIT c =
    let k = c.loop-count.count-index in
    let e = choices_more c.args.counts.now k c.loop-count.choices c.pairs_of-choices.result c.loop-count-test.true c.loop-count.invariant.choices c.pairs_of-choices.ensures.value in
    let h = c.if-choices-gt-LIMIT.true in
    (omega (arith, h), (k + 1, sym e, λ j l. c.loop-count.invariant.below j (omega arith)))

pub loop-count-preserved : goal.loop-count-preserved
loop-count-preserved c =
    let k = c.loop-count.count-index in
    let e = choices_more c.args.counts.now k c.loop-count.choices c.pairs_of-choices.result c.loop-count-test.true c.loop-count.invariant.choices c.pairs_of-choices.ensures.value in
    let h = c.if-choices-gt-LIMIT.false in
    let l : c.loop-count.choices * c.pairs_of-choices.result ≤ 1000000 = omega (arith, h) in
    record {
      choices = e;
      below = next_all (λ j. product (take j (map pairs_of c.args.counts.now)) ≤ 1000000) k c.loop-count.invariant.below (subst (λ n. n ≤ 1000000) e l);
    }
