use Rattle.std.proofs.Common.{◌≡◌, ◌∙◌, ◌<◌, ◌≤◌, ◌+◌, ◌-◌, suc, length, take, refl, sym, ap, subst, arith, Ok, ◌++◌, ◌∷◌, []}
use Rattle.std.proofs.lemmas.List.{length-take, length-append}
use Rattle.reduced_rows.specs.Steps.{elimination}
use Rattle.reduced_rows.specs.Spans.{HaveForm}
use Rattle.table_update.specs.States.{HasSteps, AreStates, IsElimination, state_after}
use Rattle.table_update.proofs.Listed.{state_at, are_take, are_push, length_push}
use Rattle.table_update.proofs.Reached.{Reached, reached, reached_pivots, reached_end, end_form, step_fault, steps_next}
use Rattle.table_update.proofs.table.finish.Goals as goal

pub loop-k-init : goal.loop-k-init
loop-k-init c = record {
  below = c.requires.from;
  count = ap length c.truncate.ensures.items ∙ (let a = length-take (c.args.from + 1) c.args.states.items in let b = c.requires.count in omega (arith, a, b));
  steps = c.requires.steps;
  states = subst (AreStates c.args.from c.args.rows.items) (sym c.truncate.ensures.items) (are_take c.args.from c.args.rows.items c.args.states.items c.requires.states);
}

pub next-requires-clause-pivots : goal.next-requires-clause-pivots
next-requires-clause-pivots c =
    let n = length c.args.rows.items in
    let width = c.requires.lengths.0 in
    let v = c.loop-k.invariant in
    let columns : c.len-columns.result ≡ length c.args.rows.items = let e = c.len-columns.ensures in omega (arith, e) in
    let test = c.loop-k-test.true in
    let lt : c.loop-k.k < length c.args.rows.items = omega (arith, columns, test) in
    let in_list : c.loop-k.k < length c.loop-k.states.items = omega (arith, v.count) in
    let at_k = state_at c.loop-k.k c.args.rows.items c.loop-k.states.items v.states c.loop-k.k (omega arith) _ c.index.result.now c.index.ensures in_list in
    let r = subst (Reached n width c.loop-k.k c.args.rows.items) (sym at_k) (reached n width c.loop-k.k c.args.rows.items (omega (arith, lt)) c.requires.lengths.2 v.steps) in
    reached_pivots n width c.loop-k.k c.args.rows.items c.index.result.now (let le = c.requires.lengths.1 in omega (arith, lt, le)) r

pub next-requires-clause-done : goal.next-requires-clause-done
next-requires-clause-done c =
    let n = length c.args.rows.items in
    let width = c.requires.lengths.0 in
    let v = c.loop-k.invariant in
    let columns : c.len-columns.result ≡ length c.args.rows.items = let e = c.len-columns.ensures in omega (arith, e) in
    let test = c.loop-k-test.true in
    let lt : c.loop-k.k < length c.args.rows.items = omega (arith, columns, test) in
    let in_list : c.loop-k.k < length c.loop-k.states.items = omega (arith, v.count) in
    let at_k = state_at c.loop-k.k c.args.rows.items c.loop-k.states.items v.states c.loop-k.k (omega arith) _ c.index.result.now c.index.ensures in_list in
    let r = subst (Reached n width c.loop-k.k c.args.rows.items) (sym at_k) (reached n width c.loop-k.k c.args.rows.items (omega (arith, lt)) c.requires.lengths.2 v.steps) in
    (width, (let le = c.requires.lengths.1 in omega (arith, lt, le)), r.shape.long_done, r.shape.long_rest)

pub returns-in-Err : goal.returns-in-Err
returns-in-Err c =
    let n = length c.args.rows.items in
    let width = c.requires.lengths.0 in
    let v = c.loop-k.invariant in
    let columns : c.len-columns.result ≡ length c.args.rows.items = let e = c.len-columns.ensures in omega (arith, e) in
    let test = c.loop-k-test.true in
    let lt : c.loop-k.k < length c.args.rows.items = omega (arith, columns, test) in
    let in_list : c.loop-k.k < length c.loop-k.states.items = omega (arith, v.count) in
    let at_k = state_at c.loop-k.k c.args.rows.items c.loop-k.states.items v.states c.loop-k.k (omega arith) _ c.index.result.now c.index.ensures in_list in
    let r = subst (Reached n width c.loop-k.k c.args.rows.items) (sym at_k) (reached n width c.loop-k.k c.args.rows.items (omega (arith, lt)) c.requires.lengths.2 v.steps) in
    step_fault n width c.loop-k.k c.args.rows.items c.index.result.now lt r c.in-Err.fault (rw columns at c.in-Err.ensures)

pub loop-k-preserved : goal.loop-k-preserved
loop-k-preserved c =
    let n = length c.args.rows.items in
    let width = c.requires.lengths.0 in
    let v = c.loop-k.invariant in
    let columns : c.len-columns.result ≡ length c.args.rows.items = let e = c.len-columns.ensures in omega (arith, e) in
    let test = c.loop-k-test.true in
    let lt : c.loop-k.k < length c.args.rows.items = omega (arith, columns, test) in
    let in_list : c.loop-k.k < length c.loop-k.states.items = omega (arith, v.count) in
    let at_k = state_at c.loop-k.k c.args.rows.items c.loop-k.states.items v.states c.loop-k.k (omega arith) _ c.index.result.now c.index.ensures in_list in
    let r = subst (Reached n width c.loop-k.k c.args.rows.items) (sym at_k) (reached n width c.loop-k.k c.args.rows.items (omega (arith, lt)) c.requires.lengths.2 v.steps) in
    let t = c.in-Ok.ensures in
    let s = steps_next c.loop-k.k c.args.rows.items c.index.result.now c.in-Ok.state at_k v.steps t.0 t.1 in
    let a : suc c.loop-k.k ≡ c.loop-k.k + 1 = omega arith in
    let items = c.in_ok-push.ensures.items in
    record {
      below = omega (arith, lt);
      count = ap length items ∙ length_push c.loop-k.states.items c.in-Ok.state ∙ ap suc (v.count ∙ a);
      steps = subst (λ m. HasSteps m c.args.rows.items) a s.0;
      states = subst (λ m. AreStates m c.args.rows.items c.push.new.self.items) a
          (subst (AreStates (suc c.loop-k.k) c.args.rows.items) (sym items) (are_push c.loop-k.k c.args.rows.items c.loop-k.states.items c.in-Ok.state v.count v.states s.1));
    }

pub new-reduced-requires : goal.new-reduced-requires
new-reduced-requires c =
    let n = length c.args.rows.items in
    let width = c.requires.lengths.0 in
    let v = c.loop-k.invariant in
    let columns : c.len-columns.result ≡ length c.args.rows.items = let e = c.len-columns.ensures in omega (arith, e) in
    let test = c.loop-k-test.false in
    let end : c.loop-k.k ≡ length c.args.rows.items = omega (arith, columns, test, v.below) in
    let steps = subst (λ m. HasSteps m c.args.rows.items) end v.steps in
    let states = subst (λ m. AreStates m c.args.rows.items c.loop-k.states.items) end v.states in
    let in_list : c.len-columns.result < length c.loop-k.states.items = omega (arith, v.count, columns, end) in
    let at_n = state_at n c.args.rows.items c.loop-k.states.items states c.len-columns.result (omega (arith, columns)) _ c.index-2.result.now c.index-2.ensures in_list
    ∙ ap (λ m. state_after m c.args.rows.items) columns in
    let items = c.in_ok-copy_rows.ensures ∙ c.done.ensures ∙ ap (λ s. s.done) at_n in
    subst HaveForm (sym items) (end_form n width c.args.rows.items c.requires.lengths.1 refl c.requires.lengths.2 steps)

pub invariant_of-result : goal.invariant_of-result
unfolding IsElimination
invariant_of-result c =
    let n = length c.args.rows.items in
    let width = c.requires.lengths.0 in
    let v = c.loop-k.invariant in
    let columns : c.len-columns.result ≡ length c.args.rows.items = let e = c.len-columns.ensures in omega (arith, e) in
    let test = c.loop-k-test.false in
    let end : c.loop-k.k ≡ length c.args.rows.items = omega (arith, columns, test, v.below) in
    let steps = subst (λ m. HasSteps m c.args.rows.items) end v.steps in
    let states = subst (λ m. AreStates m c.args.rows.items c.loop-k.states.items) end v.states in
    let in_list : c.len-columns.result < length c.loop-k.states.items = omega (arith, v.count, columns, end) in
    let at_n = state_at n c.args.rows.items c.loop-k.states.items states c.len-columns.result (omega (arith, columns)) _ c.index-2.result.now c.index-2.ensures in_list
    ∙ ap (λ m. state_after m c.args.rows.items) columns in
    let items = c.in_ok-copy_rows.ensures ∙ c.done.ensures ∙ ap (λ s. s.done) at_n in
    (width, c.requires.lengths.1, c.requires.lengths.2, steps, v.count ∙ ap suc end, states, c.new-reduced.ensures ∙ items)

pub returns : goal.returns
returns c =
    let n = length c.args.rows.items in
    let width = c.requires.lengths.0 in
    let v = c.loop-k.invariant in
    let columns : c.len-columns.result ≡ length c.args.rows.items = let e = c.len-columns.ensures in omega (arith, e) in
    let test = c.loop-k-test.false in
    let end : c.loop-k.k ≡ length c.args.rows.items = omega (arith, columns, test, v.below) in
    let steps = subst (λ m. HasSteps m c.args.rows.items) end v.steps in
    let states = subst (λ m. AreStates m c.args.rows.items c.loop-k.states.items) end v.states in
    let in_list : c.len-columns.result < length c.loop-k.states.items = omega (arith, v.count, columns, end) in
    let at_n = state_at n c.args.rows.items c.loop-k.states.items states c.len-columns.result (omega (arith, columns)) _ c.index-2.result.now c.index-2.ensures in_list
    ∙ ap (λ m. state_after m c.args.rows.items) columns in
    let items = c.in_ok-copy_rows.ensures ∙ c.done.ensures ∙ ap (λ s. s.done) at_n in
    let e = reached_end n width c.args.rows.items c.requires.lengths.2 steps in
    (refl, e.0, e.1 ∙ ap Ok (sym (c.new-reduced.ensures ∙ items)))
