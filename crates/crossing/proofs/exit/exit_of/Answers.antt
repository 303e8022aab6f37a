use Rattle.std.proofs.Common.{◌+◌, subst, arith}
use Rattle.crossing.specs.declared.line.WallLine.{WallLine}
use Rattle.crossing.specs.Lines.{IsZeroAt}
use Rattle.crossing.proofs.Leading.{taken}
use Rattle.crossing.specs.declared.exit.Exit.TheVariants.{Never, At, Tied, Flat}
use Rattle.crossing.proofs.ExitRule.{no_flat, is_flat, is_never, is_at, is_tied, exit_once}
use Rattle.crossing.proofs.exit.exit_of.Goals as goal

pub returns-in-Some-clause-rule : goal.returns-in-Some-clause-rule
returns-in-Some-clause-rule c = let f = c.in-Some.ensures in is_flat c.args.lines.now c.in-Some.index f.0 f.1 f.2

pub returns-in-Some-clause-only : goal.returns-in-Some-clause-only
returns-in-Some-clause-only c = λ other h. exit_once c.args.lines.now other (Flat (c.in-Some.index + 1)) h (returns-in-Some-clause-rule c)

pub returns-in-None-clause-rule : goal.returns-in-None-clause-rule
returns-in-None-clause-rule c = is_never c.args.lines.now (no_flat c.args.lines.now c.in_default.ensures) c.in-None.ensures

pub returns-in-None-clause-only : goal.returns-in-None-clause-only
returns-in-None-clause-only c = λ other h. exit_once c.args.lines.now other Never h (returns-in-None-clause-rule c)

pub returns-in-One-clause-rule : goal.returns-in-One-clause-rule
returns-in-One-clause-rule c =
    is_at c.args.lines.now (no_flat c.args.lines.now c.in_default.ensures) c.zero_of.result c.zero_of.ensures.lowest c.in-One.index c.in-One.ensures (subst (λ (l : WallLine). IsZeroAt l c.zero_of.result) (taken c.args.lines.now c.in-One.index c.index-lines-index.result c.index-lines-index.is c.in-One.ensures.0) c.zero_of.ensures.zero)

pub returns-in-One-clause-only : goal.returns-in-One-clause-only
returns-in-One-clause-only c = λ other h. exit_once c.args.lines.now other (At c.zero_of.result (c.in-One.index + 1)) h (returns-in-One-clause-rule c)

pub returns-in-Two-clause-rule : goal.returns-in-Two-clause-rule
returns-in-Two-clause-rule c =
    is_tied c.args.lines.now (no_flat c.args.lines.now c.in_default.ensures) c.zero_of-in-Two.result c.zero_of-in-Two.ensures.lowest c.in-Two.first c.in-Two.second c.in-Two.ensures (subst (λ (l : WallLine). IsZeroAt l c.zero_of-in-Two.result) (taken c.args.lines.now c.in-Two.first c.index-lines-first.result c.index-lines-first.is (let a = c.in-Two.ensures.0 in let b = c.in-Two.ensures.1 in omega (arith, a, b))) c.zero_of-in-Two.ensures.zero)

pub returns-in-Two-clause-only : goal.returns-in-Two-clause-only
returns-in-Two-clause-only c = λ other h. exit_once c.args.lines.now other (Tied c.zero_of-in-Two.result (c.in-Two.first + 1) (c.in-Two.second + 1)) h (returns-in-Two-clause-rule c)
