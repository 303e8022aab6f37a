use Rattle.std.proofs.Common.{◌∙◌, rules, refl, sym, subst, FitsSigned, to_z-of_z}
use Rattle.std.specs.Int.{w128}
use Rattle.std.specs.Prelude.{IsTrue}
use Rattle.cayley.specs.Problems.{Problem}
use Rattle.crossing.specs.Entries.{IsEntry}
use Rattle.crossing.specs.Exits.{IsExit}
use Rattle.inner_normal.specs.MovingNormals.{IsMovingNormal}
use Rattle.inner_normal.proofs.CommonFactors.{lowest_normal}
use Rattle.plain_lister.proofs.Plain.{own_points}
use Rattle.plain_lister.proofs.Judged.{lasting, no_entry, no_exit, dependent_cell}
use Rattle.plain_lister.proofs.judging.judge.Goals as goal

pub returns-in-Err-Dependent : goal.returns-in-Err-Dependent
returns-in-Err-Dependent g c =
    let w = rw c.in-Err-Dependent.field-0-is at c.in-Err-Dependent.ensures.working in
    let d = rw c.in-Err-Dependent.field-0-is at c.in-Err-Dependent.ensures.dependent in
    dependent_cell c.args.problem.now c.args.cell.now _ c.requires.valid c.requires.alone w.0 w.1 ((d tt).0 tt).1

pub returns-then-not-lasts : goal.returns-then-not-lasts
returns-then-not-lasts g c =
    let r = c.requires in
    let n : ¬ (IsTrue c.lasts.result) = search rules in
    let p = c.args.problem.now in
    let cell = c.args.cell.now in
    let lines = c.in-Ok.walls.lines.items in
    let life = c.in-Ok.ensures.life in
    let e = subst (λ l. IsEntry l c.entry_of.result) c.deref.ensures.value c.entry_of.ensures.rule in
    let x = subst (λ l. IsExit l c.exit_of.result) c.deref-2.ensures.value c.exit_of.ensures.rule in (
      c.in-Ok.ensures.whole,
      λ m. n (c.lasts.ensures.1 (
        no_entry p r.valid r.still r.alone cell lines life c.entry_of.result c.exit_of.result e x m,
        no_exit p r.valid r.still r.alone cell lines life c.entry_of.result c.exit_of.result e x m,
      )),
    )

pub returns : goal.returns
returns g c =
    let r = c.requires in
    let t : IsTrue c.lasts.result = search rules in
    let p = c.args.problem.now in
    let cell = c.args.cell.now in
    let lines = c.in-Ok.walls.lines.items in
    let ends = c.lasts.ensures.0 t in
    let e = subst (λ l. IsEntry l c.entry_of.result) c.deref.ensures.value c.entry_of.ensures.rule in
    let x = subst (λ l. IsExit l c.exit_of.result) c.deref-2.ensures.value c.exit_of.ensures.rule in
    let mixed = lasting p r.valid r.still r.alone cell lines c.in-Ok.ensures.life (subst (IsEntry lines) ends.0 e) (subst (IsExit lines) ends.1 x) in
    let m = c.in-Ok.walls.normal in
    let moving = subst (λ (q : Problem). IsMovingNormal q cell m) (sym (own_points p r.valid r.alone)) (c.in-Ok.ensures.normal p refl) in
    let fd : FitsSigned w128 m.den = search rules in
    let l = simp to_z-of_z at c.in_lowest_terms.ensures in
    (c.in-Ok.ensures.whole, (mixed, lowest_normal p cell m _ _ l moving))
