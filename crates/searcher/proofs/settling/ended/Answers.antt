use Rattle.std.proofs.Common.{◌-◌, ◌∙◌, ap, sym, subst}
use Rattle.cayley.specs.Shares.{IsChildren}
use Rattle.crossing.specs.Entries.{IsEntry}
use Rattle.crossing.specs.Exits.{IsExit}
use Rattle.crossing.proofs.Leading.{taken}
use Rattle.searcher.specs.declared.expansions.HaltCause.TheVariants as cause
use Rattle.searcher.specs.Branches.{branches_of, children_of}
use Rattle.searcher.specs.CellWalls.{tie_between}
use Rattle.searcher.specs.Expansions.{IsCause}
use Rattle.searcher.proofs.EndCauses.{not_tied, entry_cause, exit_cause, inner_kind, never_ends, never_flat, inside, kept_by, begin_not}
use Rattle.searcher.proofs.settling.ended.Goals as goal

pub returns-in-Tied : goal.returns-in-Tied
returns-in-Tied c =
    let p = c.args.problem.now in
    let b = c.args.branch.now in
    let lines = c.args.lines.now in
    let e = subst (IsEntry lines) c.in-Tied.is c.requires.entry in
    let h = entry_cause p b c.dim-dim.ensures.valid.shape.problem c.args.normal lines c.requires.walls c.requires.settled c.in-Tied.time c.in-Tied.first c.in-Tied.second c.args.exit.now e c.requires.exit in
    subst (λ z. IsCause p b (cause.Tie z)) (sym (c.tie_of.ensures ∙ ap (λ z. tie_between z lines c.in-Tied.time c.in-Tied.first c.in-Tied.second) c.cell-cell.ensures)) h

pub returns-in-Tied-exit : goal.returns-in-Tied-exit
returns-in-Tied-exit c =
    let p = c.args.problem.now in
    let b = c.args.branch.now in
    let lines = c.args.lines.now in
    let x = subst (IsExit lines) c.in-Tied-exit.is c.requires.exit in
    let n = begin_not p b c.dim-dim.ensures.valid.shape.problem c.args.normal lines c.requires.walls c.requires.settled c.args.entry.now c.requires.entry c.requires.said (not_tied c.args.entry.now c.in_default.not-Tied) c.args.exit.now c.requires.exit in
    let h = exit_cause p b c.dim-dim.ensures.valid.shape.problem lines c.requires.walls.places c.requires.walls.sides c.requires.settled n c.in-Tied-exit.time c.in-Tied-exit.first c.in-Tied-exit.second x in
    subst (λ z. IsCause p b (cause.Tie z)) (sym (c.tie_of-in-Tied-exit.ensures ∙ ap (λ z. tie_between z lines c.in-Tied-exit.time c.in-Tied-exit.first c.in-Tied-exit.second) c.cell-cell.ensures)) h

pub kept_children-requires : goal.kept_children-requires
kept_children-requires c =
    let p = c.args.problem.now in
    let b = c.args.branch.now in
    let lines = c.args.lines.now in
    let well = c.dim-dim.ensures.valid.shape.problem in
    let w = c.requires.walls in
    let x = subst (IsExit lines) c.in-At.is c.requires.exit in
    let l = c.index-lines-which.result in
    let is = taken lines (c.in-At.which - 1) l c.index-lines-which.is (inside p b well lines w.places w.sides c.requires.settled c.in-At.time c.in-At.which x) in
    let i = rw c.in-Some.is at c.requires.inverse in
    let k = kept_by p b well lines w.places w.sides c.requires.settled c.in-At.time c.in-At.which x l is c.in-Some.inverse i c.cell-cell.result.now (sym c.cell-cell.ensures) in
    record { cell = k.cell; point = k.point; inverse = k.inverse; fits = k.fits; wall = k.wall }

pub returns-in-Ok : goal.returns-in-Ok
returns-in-Ok c =
    let p = c.args.problem.now in
    let b = c.args.branch.now in
    let lines = c.args.lines.now in
    let x = subst (IsExit lines) c.in-At.is c.requires.exit in
    let n = begin_not p b c.dim-dim.ensures.valid.shape.problem c.args.normal lines c.requires.walls c.requires.settled c.args.entry.now c.requires.entry c.requires.said (not_tied c.args.entry.now c.in_default.not-Tied) c.args.exit.now c.requires.exit in (
      inner_kind p b c.dim-dim.ensures.valid.shape.problem lines c.requires.walls.places c.requires.walls.sides c.requires.settled n c.in-At.time c.in-At.which x,
      subst (λ z. IsChildren p z (branches_of (children_of c.in-Ok.children))) c.cell-cell.ensures c.in-Ok.ensures,
    )

pub endless-requires : goal.endless-requires
endless-requires c =
    let p = c.args.problem.now in
    let b = c.args.branch.now in
    let lines = c.args.lines.now in
    let x = subst (IsExit lines) c.in-Never.is c.requires.exit in
    let n = begin_not p b c.dim-dim.ensures.valid.shape.problem c.args.normal lines c.requires.walls c.requires.settled c.args.entry.now c.requires.entry c.requires.said (not_tied c.args.entry.now c.in_default.not-Tied) c.args.exit.now c.requires.exit in
    let h = never_ends p b c.dim-dim.ensures.valid.shape.problem lines c.requires.walls.places c.requires.walls.sides c.requires.settled n x in
    record { still = c.requires.still; settled = c.requires.settled; untied = h.0; late = h.1; normal = c.requires.walls.moving }

pub unreachable-requires-in-Flat : goal.unreachable-requires-in-Flat
unreachable-requires-in-Flat c =
    let p = c.args.problem.now in
    let b = c.args.branch.now in
    let lines = c.args.lines.now in
    let x = subst (IsExit lines) c.in-Flat.is c.requires.exit in
    absurd (never_flat p b c.dim-dim.ensures.valid.shape.problem lines c.requires.walls.places c.requires.walls.sides c.requires.settled c.in-Flat.which x)
