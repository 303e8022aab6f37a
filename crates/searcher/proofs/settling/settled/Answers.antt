use Rattle.std.proofs.Common.{rules, IsTrue, ◌≡◌, [], ◌∙◌, sym, subst}
use Rattle.std.specs.Prelude.{MatchOption}
use Rattle.crossing.specs.Entries.{IsEntry}
use Rattle.crossing.specs.Exits.{IsExit}
use Rattle.inner_normal.specs.Inverses.{inverse_of}
use Rattle.searcher.specs.CellWalls.{FitCircuitsBy, IsLowestBegin, IsSaid}
use Rattle.searcher.specs.Workings.{FitAllCircuits}
use Rattle.searcher.proofs.SettledBranches.{circuits_overflow, circuits_option, settled_is, stranger_is}
use Rattle.searcher.proofs.settling.settled.Goals as goal

pub returns-in-Err-Overflow : goal.returns-in-Err-Overflow
returns-in-Err-Overflow c =
    let p = c.args.problem.now in
    let w = c.args.walls in
    let n = rw c.in-Err-Overflow.field-0-is at c.in-Err-Overflow.ensures in (
      circuits_overflow p c.args.branch.now w.reduced w.normal w.lines.items c.requires.answer c.requires.walls (λ h. n (subst (λ z. FitAllCircuits p z w.reduced) (sym c.cell-cell.ensures) h)),
      c.copy.ensures ∙ c.cell-cell.ensures,
    )

pub returns-then-not-begins_as : goal.returns-then-not-begins_as
returns-then-not-begins_as c =
    let p = c.args.problem.now in
    let w = c.args.walls in
    let n : ¬ (IsTrue c.begins_as.result) = search rules in
    let f = subst (λ z. FitAllCircuits p z w.reduced) c.cell-cell.ensures c.in-Ok.ensures.0 in
    let e = subst (λ l. IsEntry l c.entry_of-entry.result) c.deref-2.ensures.value c.entry_of-entry.ensures.rule in
    let x = subst (λ l. IsExit l c.exit_of-exit.result) c.deref-3.ensures.value c.exit_of-exit.ensures.rule in
    stranger_is p c.args.branch.now w.reduced w.normal w.lines.items c.requires.answer c.requires.walls f c.requires.whole c.entry_of-entry.result c.exit_of-exit.result e x
    (subst IsLowestBegin c.begin.ensures c.begins_as.ensures.lowest) (λ s. n (c.begins_as.ensures.said.1 (subst (λ z. IsSaid z c.entry_of-entry.result) (sym c.begin.ensures) s)))

pub ended-requires-clause-settled : goal.ended-requires-clause-settled
ended-requires-clause-settled c =
    let p = c.args.problem.now in
    let w = c.args.walls in
    let t : IsTrue c.begins_as.result = search rules in
    let f = subst (λ z. FitAllCircuits p z w.reduced) c.cell-cell.ensures c.in-Ok.ensures.0 in
    let e = subst (λ l. IsEntry l c.entry_of-entry.result) c.deref-2.ensures.value c.entry_of-entry.ensures.rule in
    let x = subst (λ l. IsExit l c.exit_of-exit.result) c.deref-3.ensures.value c.exit_of-exit.ensures.rule in
    settled_is p c.args.branch.now w.reduced w.normal w.lines.items c.requires.answer c.requires.walls f c.requires.whole c.entry_of-entry.result c.exit_of-exit.result e x
    (subst (λ z. IsSaid z c.entry_of-entry.result) c.begin.ensures (c.begins_as.ensures.said.0 t))

pub ended-requires-clause-inverse : goal.ended-requires-clause-inverse
ended-requires-clause-inverse c =
    let p = c.args.problem.now in
    let b = c.args.branch.now in
    let w = c.args.walls in
    let o = c.in-Ok.inverse in
    let f = subst (λ z. FitAllCircuits p z w.reduced) c.cell-cell.ensures c.in-Ok.ensures.0 in
    subst (λ l. MatchOption o (l ≡ []) (λ i. FitCircuitsBy p b.cell i)) (sym c.deref-4.ensures.value)
    (circuits_option p b w.reduced w.normal w.lines.items c.requires.answer c.requires.walls f o
    (subst (λ l. MatchOption o (l ≡ []) (λ i. i ≡ inverse_of w.reduced)) c.deref.ensures.value c.in-Ok.ensures.1))

pub ended-requires-clause-entry : goal.ended-requires-clause-entry
ended-requires-clause-entry c = subst (λ l. IsEntry l c.entry_of-entry.result) (c.deref-2.ensures.value ∙ sym c.deref-4.ensures.value) c.entry_of-entry.ensures.rule

pub ended-requires-clause-exit : goal.ended-requires-clause-exit
ended-requires-clause-exit c = subst (λ l. IsExit l c.exit_of-exit.result) (c.deref-3.ensures.value ∙ sym c.deref-4.ensures.value) c.exit_of-exit.ensures.rule
