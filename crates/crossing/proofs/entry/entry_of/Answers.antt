use Rattle.std.proofs.Common.{◌+◌, subst, arith, true≢false, sym, ◌∙◌}
use Rattle.crossing.specs.declared.line.WallLine.{WallLine}
use Rattle.crossing.specs.Lines.{IsZeroAt}
use Rattle.crossing.proofs.Leading.{taken}
use Rattle.crossing.specs.declared.entry.Entry.TheVariants.{Always, At, Tied, Dead}
use Rattle.crossing.specs.Places.{origin}
use Rattle.crossing.proofs.EntryRule.{low_dead, shut_dead, live_open, none_low, is_always, is_at, is_tied, entry_once}
use Rattle.crossing.proofs.entry.entry_of.Goals as goal
use Rattle.crossing.proofs.entry.entry_of.Goals.{then-has_low-via-then-has_low, then-has_low-via-else-has_low+then-not-is_open}

pub returns-then-has_low-clause-rule : goal.returns-then-has_low-clause-rule
returns-then-has_low-clause-rule c = elim c.then-has_low.branch [
  | then-has_low-via-then-has_low w ↦
      let f = c.has_low.ensures.0 w.if-has_low.true in
      low_dead c.args.lines.now f.0 f.1 (f.2 origin)
  | then-has_low-via-else-has_low+then-not-is_open w ↦
      shut_dead c.args.lines.now c.leaders_of-rising.result c.leaders_of-falling.result c.leaders_of-rising.ensures c.leaders_of-falling.ensures (λ h. true≢false (sym (w.is_open.ensures.1 h) ∙ w.if-not-is_open.true))
]

pub returns-then-has_low-clause-only : goal.returns-then-has_low-clause-only
returns-then-has_low-clause-only c = λ other h. entry_once c.args.lines.now other Dead h (returns-then-has_low-clause-rule c)

pub returns-in-None-clause-rule : goal.returns-in-None-clause-rule
returns-in-None-clause-rule c =
    is_always c.args.lines.now (live_open c.args.lines.now c.leaders_of-rising.result c.leaders_of-falling.result c.leaders_of-rising.ensures c.leaders_of-falling.ensures (none_low c.args.lines.now c.has_low.result c.has_low.ensures.1 c.if-has_low.false) (c.is_open.ensures.0 c.if-not-is_open.false)) c.in-None.ensures

pub returns-in-None-clause-only : goal.returns-in-None-clause-only
returns-in-None-clause-only c = λ other h. entry_once c.args.lines.now other Always h (returns-in-None-clause-rule c)

pub returns-in-One-clause-rule : goal.returns-in-One-clause-rule
returns-in-One-clause-rule c =
    is_at c.args.lines.now (live_open c.args.lines.now c.leaders_of-rising.result c.leaders_of-falling.result c.leaders_of-rising.ensures c.leaders_of-falling.ensures (none_low c.args.lines.now c.has_low.result c.has_low.ensures.1 c.if-has_low.false) (c.is_open.ensures.0 c.if-not-is_open.false)) c.zero_of.result c.zero_of.ensures.lowest c.in-One.index c.in-One.ensures (subst (λ (l : WallLine). IsZeroAt l c.zero_of.result) (taken c.args.lines.now c.in-One.index c.index-lines-index.result c.index-lines-index.is c.in-One.ensures.0) c.zero_of.ensures.zero)

pub returns-in-One-clause-only : goal.returns-in-One-clause-only
returns-in-One-clause-only c = λ other h. entry_once c.args.lines.now other (At c.zero_of.result (c.in-One.index + 1)) h (returns-in-One-clause-rule c)

pub returns-in-Two-clause-rule : goal.returns-in-Two-clause-rule
returns-in-Two-clause-rule c =
    is_tied c.args.lines.now (live_open c.args.lines.now c.leaders_of-rising.result c.leaders_of-falling.result c.leaders_of-rising.ensures c.leaders_of-falling.ensures (none_low c.args.lines.now c.has_low.result c.has_low.ensures.1 c.if-has_low.false) (c.is_open.ensures.0 c.if-not-is_open.false)) c.zero_of-in-Two.result c.zero_of-in-Two.ensures.lowest c.in-Two.first c.in-Two.second c.in-Two.ensures (subst (λ (l : WallLine). IsZeroAt l c.zero_of-in-Two.result) (taken c.args.lines.now c.in-Two.first c.index-lines-first.result c.index-lines-first.is (let a = c.in-Two.ensures.0 in let b = c.in-Two.ensures.1 in omega (arith, a, b))) c.zero_of-in-Two.ensures.zero)

pub returns-in-Two-clause-only : goal.returns-in-Two-clause-only
returns-in-Two-clause-only c = λ other h. entry_once c.args.lines.now other (Tied c.zero_of-in-Two.result (c.in-Two.first + 1) (c.in-Two.second + 1)) h (returns-in-Two-clause-rule c)
