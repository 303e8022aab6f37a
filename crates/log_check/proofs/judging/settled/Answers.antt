use Rattle.std.proofs.Common.{◌∙◌, sym, subst}
use Rattle.crossing.specs.Exits.{IsExit}
use Rattle.crossing.specs.declared.exit.Exit.TheVariants as exit
use Rattle.log_check.proofs.Ending.{ends_tied, never_ends, never_flat, ends_alone}
use Rattle.log_check.proofs.judging.settled.Goals as goal

pub children_at-requires-clause-exit : goal.children_at-requires-clause-exit
children_at-requires-clause-exit c =
    subst (λ ls. IsExit ls (exit.At c.in-At.time c.in-At.which)) (c.deref.ensures.value ∙ sym c.deref-in-At.ensures.value) c.in-At.ensures.rule

pub endless-requires-clause-untied : goal.endless-requires-clause-untied
endless-requires-clause-untied c =
    (never_ends c.args.problem.now c.args.node.now c.dim-dim.ensures.valid.shape.problem c.args.walls.lines.items c.requires.walls.lines c.requires.alive (subst (λ ls. IsExit ls exit.Never) c.deref.ensures.value c.in-Never.ensures.rule)).0

pub endless-requires-clause-late : goal.endless-requires-clause-late
endless-requires-clause-late c =
    (never_ends c.args.problem.now c.args.node.now c.dim-dim.ensures.valid.shape.problem c.args.walls.lines.items c.requires.walls.lines c.requires.alive (subst (λ ls. IsExit ls exit.Never) c.deref.ensures.value c.in-Never.ensures.rule)).1

pub unreachable-requires : goal.unreachable-requires
unreachable-requires c =
    never_flat c.args.problem.now c.args.node.now c.dim-dim.ensures.valid.shape.problem c.args.walls.lines.items c.requires.walls.lines c.requires.alive c.in-Flat.which
    (subst (λ ls. IsExit ls (exit.Flat c.in-Flat.which)) c.deref.ensures.value c.in-Flat.ensures.rule)

pub returns-in-Tied : goal.returns-in-Tied
returns-in-Tied c = (
  c.requires.fit,
  ends_tied c.args.problem.now c.args.node.now c.dim-dim.ensures.valid.shape.problem c.args.walls.lines.items c.requires.walls.lines c.requires.alive c.in-Tied.time c.in-Tied.first c.in-Tied.second
      (subst (λ ls. IsExit ls (exit.Tied c.in-Tied.time c.in-Tied.first c.in-Tied.second)) c.deref.ensures.value c.in-Tied.ensures.rule),
)

pub returns-in_ok-children-in-At : goal.returns-in_ok-children-in-At
returns-in_ok-children-in-At c =
    let e =
    ends_alone c.args.problem.now c.args.node.now c.dim-dim.ensures.valid.shape.problem c.args.walls.lines.items c.requires.walls.lines c.requires.alive c.in-At.time c.in-At.which
    (subst (λ ls. IsExit ls (exit.At c.in-At.time c.in-At.which)) c.deref.ensures.value c.in-At.ensures.rule) in
    (c.requires.fit, e.0, e.1, c.in_ok-children-in-At.ensures)
