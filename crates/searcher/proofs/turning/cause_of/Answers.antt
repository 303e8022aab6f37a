use Rattle.std.proofs.Common.{◌∙◌, sym, ap, subst}
use Rattle.std.specs.Prelude.{Some}
use Rattle.cayley.specs.Cells.{Cell}
use Rattle.cone_walls.specs.Fronts.{place_by}
use Rattle.searcher.specs.declared.expansions.HaltCause.TheVariants as cause
use Rattle.searcher.specs.Expansions.{IsCause}
use Rattle.searcher.proofs.turning.cause_of.Goals as goal

pub tie_between-requires : goal.tie_between-requires
tie_between-requires c = let h = rw c.in-Tied.is at c.requires in h.0

pub returns-in-Tied : goal.returns-in-Tied
returns-in-Tied c =
    let h = rw c.in-Tied.is at c.requires in
    let k = c.tie_between.ensures in
    subst (λ z. IsCause c.args.problem.now c.args.branch.now (cause.Tie z))
    (sym (k.2 ∙ ap (λ (z : Cell). record { cell = z; time = k.0; first = place_by c.in-Tied.fall; second = Some (place_by c.in-Tied.other) }) c.cell.ensures)) (h.1 k.0 k.1)
