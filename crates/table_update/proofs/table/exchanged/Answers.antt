use Rattle.std.proofs.Common.{◌≡◌, ◌∙◌, ◌<◌, ◌≤◌, ◌+◌, ◌-◌, ℕ, suc, length, set, refl, sym, ap, subst, arith, []}
use Rattle.std.specs.Prelude.{slice_index_or}
use Rattle.std.proofs.lemmas.List.{length-set, get_or-set_other}
use Rattle.int_vectors.specs.Contents.{primitive}
use Rattle.int_vectors.specs.RowSteps.{cleaned, FitsCleaned}
use Rattle.int_vectors.specs.Vectors.{Each, row_at}
use Rattle.int_vectors.proofs.Each.{same_read}
use Rattle.reduced_rows.specs.Steps.{OfLength, FitsElimination}
use Rattle.reduced_rows.proofs.Entries.{length-primitive}
use Rattle.reduced_rows.proofs.Picking.{each_at}
use Rattle.reduced_rows.proofs.Run.{each_longer}
use Rattle.table_update.specs.Exchanges.{IsPassed, with_row, with_rest}
use Rattle.table_update.specs.States.{IsElimination, HasSteps, AreStates, state_after}
use Rattle.table_update.proofs.Listed.{nothing, are_put}
use Rattle.table_update.proofs.Reached.{reached, steps_start}
use Rattle.table_update.proofs.Tables.{Parts, table_parts}
use Rattle.table_update.proofs.Turn.{start_with, start_long, long_with, steps_before, turn}
use Rattle.table_update.proofs.table.exchanged.Goals as goal

pub loop-to-init : goal.loop-to-init
unfolding AreStates
loop-to-init c =
    let parts = table_parts c.args.table (subst IsElimination c.table.view_is c.table.invariant) in
    let states : c.table.inside.states.items ≡ c.args.table.states = ap (λ e. e.states) c.table.view_is in
    let a = c.requires.first in
    let b = c.requires.last in
    let l = start_long c.args.table.rows in
    record {
      steps = steps_start _;
      state = start_with c.args.table.rows (c.args.place - 1) c.args.row c.primitive.new.self (c.primitive.ensures.value ∙ ap primitive c.in_ok-now.ensures);
      inside = omega (arith, a, b, l);
      below = omega (arith, a, b);
      long = ap length c.primitive.ensures.value ∙ length-primitive _ ∙ ap length c.in_ok-now.ensures;
      count = ap length states ∙ parts.count;
      before = λ j lt. absurd (omega arith);
      behind = λ j _ le. ap (λ l. slice_index_or l j nothing) states ∙ parts.states j le;
    }

pub place_after-requires-clause-lengths : goal.place_after-requires-clause-lengths
place_after-requires-clause-lengths c =
    let old = c.args.table.rows in
    let new = with_row c.args.place c.args.row c.args.table.rows in
    let n = length c.args.table.rows in
    let parts = table_parts c.args.table (subst IsElimination c.table.view_is c.table.invariant) in
    let v = c.loop-to.invariant in
    let in_list : c.loop-to.k < length c.loop-to.states.items = omega (arith, v.count, v.below) in
    let at_k : c.index.result.now ≡ state_after c.loop-to.k c.args.table.rows = c.index.ensures ∙ same_read c.loop-to.states.items c.loop-to.k c.index.result.now nothing in_list ∙ v.behind c.loop-to.k (omega arith) (omega (arith, v.below)) in
    let here = reached n parts.width c.loop-to.k old (omega (arith, v.below)) parts.long (steps_before n c.loop-to.k old (omega (arith, v.below)) parts.steps) in
    let row_long : length c.args.row ≡ parts.width = c.requires.length ∙ each_at (λ row. length row ≡ parts.width) old (c.args.place - 1) [] (let a = c.requires.first in let b = c.requires.last in omega (arith, a, b)) parts.long in
    subst (λ s. Each s.rest (λ other. c.loop-to.k < length other)) (sym at_k) (each_longer parts.width c.loop-to.k (state_after c.loop-to.k old).rest (let w = parts.wide in omega (arith, w, v.below)) here.shape.long_rest)

pub place_after-requires-clause-row : goal.place_after-requires-clause-row
place_after-requires-clause-row c =
    let old = c.args.table.rows in
    let new = with_row c.args.place c.args.row c.args.table.rows in
    let n = length c.args.table.rows in
    let parts = table_parts c.args.table (subst IsElimination c.table.view_is c.table.invariant) in
    let v = c.loop-to.invariant in
    let in_list : c.loop-to.k < length c.loop-to.states.items = omega (arith, v.count, v.below) in
    let at_k : c.index.result.now ≡ state_after c.loop-to.k c.args.table.rows = c.index.ensures ∙ same_read c.loop-to.states.items c.loop-to.k c.index.result.now nothing in_list ∙ v.behind c.loop-to.k (omega arith) (omega (arith, v.below)) in
    let here = reached n parts.width c.loop-to.k old (omega (arith, v.below)) parts.long (steps_before n c.loop-to.k old (omega (arith, v.below)) parts.steps) in
    let row_long : length c.args.row ≡ parts.width = c.requires.length ∙ each_at (λ row. length row ≡ parts.width) old (c.args.place - 1) [] (let a = c.requires.first in let b = c.requires.last in omega (arith, a, b)) parts.long in
    let w = parts.wide in
    omega (arith, w, v.below, v.long, row_long)

pub clear-requires-clause-place : goal.clear-requires-clause-place
clear-requires-clause-place c =
    let old = c.args.table.rows in
    let new = with_row c.args.place c.args.row c.args.table.rows in
    let n = length c.args.table.rows in
    let parts = table_parts c.args.table (subst IsElimination c.table.view_is c.table.invariant) in
    let v = c.loop-to.invariant in
    let in_list : c.loop-to.k < length c.loop-to.states.items = omega (arith, v.count, v.below) in
    let at_k : c.index.result.now ≡ state_after c.loop-to.k c.args.table.rows = c.index.ensures ∙ same_read c.loop-to.states.items c.loop-to.k c.index.result.now nothing in_list ∙ v.behind c.loop-to.k (omega arith) (omega (arith, v.below)) in
    let here = reached n parts.width c.loop-to.k old (omega (arith, v.below)) parts.long (steps_before n c.loop-to.k old (omega (arith, v.below)) parts.steps) in
    let row_long : length c.args.row ≡ parts.width = c.requires.length ∙ each_at (λ row. length row ≡ parts.width) old (c.args.place - 1) [] (let a = c.requires.first in let b = c.requires.last in omega (arith, a, b)) parts.long in
    let next_k : suc c.loop-to.k ≡ c.loop-to.k + 1 = omega arith in
    let next_list : c.loop-to.k + 1 < length c.loop-to.states.items = omega (arith, v.count, v.below) in
    let at_next : c.index-in-Some.result.now ≡ state_after (suc c.loop-to.k) c.args.table.rows = c.index-in-Some.ensures ∙ same_read c.loop-to.states.items (c.loop-to.k + 1) c.index-in-Some.result.now nothing next_list
    ∙ v.behind (c.loop-to.k + 1) (omega arith) (omega (arith, v.below)) ∙ ap (λ m. state_after m c.args.table.rows) (sym next_k) in
    let passed : IsPassed c.loop-to.k c.loop-to.at c.in-Some.to c.loop-to.now (state_after c.loop-to.k c.args.table.rows).rest = subst (λ s. IsPassed c.loop-to.k c.loop-to.at c.in-Some.to c.loop-to.now s.rest) at_k c.in-Some.ensures in
    let t = turn n parts.width c.loop-to.k c.loop-to.at c.in-Some.to old new c.loop-to.now v.below refl parts.long (long_with parts.width old (c.args.place - 1) c.args.row parts.long row_long)
    parts.steps v.steps v.state passed c.index-in-Some.result.now at_next in
    t.place

pub clear-requires-clause-column : goal.clear-requires-clause-column
clear-requires-clause-column c =
    let old = c.args.table.rows in
    let new = with_row c.args.place c.args.row c.args.table.rows in
    let n = length c.args.table.rows in
    let parts = table_parts c.args.table (subst IsElimination c.table.view_is c.table.invariant) in
    let v = c.loop-to.invariant in
    let in_list : c.loop-to.k < length c.loop-to.states.items = omega (arith, v.count, v.below) in
    let at_k : c.index.result.now ≡ state_after c.loop-to.k c.args.table.rows = c.index.ensures ∙ same_read c.loop-to.states.items c.loop-to.k c.index.result.now nothing in_list ∙ v.behind c.loop-to.k (omega arith) (omega (arith, v.below)) in
    let here = reached n parts.width c.loop-to.k old (omega (arith, v.below)) parts.long (steps_before n c.loop-to.k old (omega (arith, v.below)) parts.steps) in
    let row_long : length c.args.row ≡ parts.width = c.requires.length ∙ each_at (λ row. length row ≡ parts.width) old (c.args.place - 1) [] (let a = c.requires.first in let b = c.requires.last in omega (arith, a, b)) parts.long in
    let next_k : suc c.loop-to.k ≡ c.loop-to.k + 1 = omega arith in
    let next_list : c.loop-to.k + 1 < length c.loop-to.states.items = omega (arith, v.count, v.below) in
    let at_next : c.index-in-Some.result.now ≡ state_after (suc c.loop-to.k) c.args.table.rows = c.index-in-Some.ensures ∙ same_read c.loop-to.states.items (c.loop-to.k + 1) c.index-in-Some.result.now nothing next_list
    ∙ v.behind (c.loop-to.k + 1) (omega arith) (omega (arith, v.below)) ∙ ap (λ m. state_after m c.args.table.rows) (sym next_k) in
    let passed : IsPassed c.loop-to.k c.loop-to.at c.in-Some.to c.loop-to.now (state_after c.loop-to.k c.args.table.rows).rest = subst (λ s. IsPassed c.loop-to.k c.loop-to.at c.in-Some.to c.loop-to.now s.rest) at_k c.in-Some.ensures in
    let t = turn n parts.width c.loop-to.k c.loop-to.at c.in-Some.to old new c.loop-to.now v.below refl parts.long (long_with parts.width old (c.args.place - 1) c.args.row parts.long row_long)
    parts.steps v.steps v.state passed c.index-in-Some.result.now at_next in
    let w = parts.wide in
    omega (arith, w, v.below, t.long)

pub clear-requires-clause-lengths : goal.clear-requires-clause-lengths
clear-requires-clause-lengths c =
    let old = c.args.table.rows in
    let new = with_row c.args.place c.args.row c.args.table.rows in
    let n = length c.args.table.rows in
    let parts = table_parts c.args.table (subst IsElimination c.table.view_is c.table.invariant) in
    let v = c.loop-to.invariant in
    let in_list : c.loop-to.k < length c.loop-to.states.items = omega (arith, v.count, v.below) in
    let at_k : c.index.result.now ≡ state_after c.loop-to.k c.args.table.rows = c.index.ensures ∙ same_read c.loop-to.states.items c.loop-to.k c.index.result.now nothing in_list ∙ v.behind c.loop-to.k (omega arith) (omega (arith, v.below)) in
    let here = reached n parts.width c.loop-to.k old (omega (arith, v.below)) parts.long (steps_before n c.loop-to.k old (omega (arith, v.below)) parts.steps) in
    let row_long : length c.args.row ≡ parts.width = c.requires.length ∙ each_at (λ row. length row ≡ parts.width) old (c.args.place - 1) [] (let a = c.requires.first in let b = c.requires.last in omega (arith, a, b)) parts.long in
    let next_k : suc c.loop-to.k ≡ c.loop-to.k + 1 = omega arith in
    let next_list : c.loop-to.k + 1 < length c.loop-to.states.items = omega (arith, v.count, v.below) in
    let at_next : c.index-in-Some.result.now ≡ state_after (suc c.loop-to.k) c.args.table.rows = c.index-in-Some.ensures ∙ same_read c.loop-to.states.items (c.loop-to.k + 1) c.index-in-Some.result.now nothing next_list
    ∙ v.behind (c.loop-to.k + 1) (omega arith) (omega (arith, v.below)) ∙ ap (λ m. state_after m c.args.table.rows) (sym next_k) in
    let passed : IsPassed c.loop-to.k c.loop-to.at c.in-Some.to c.loop-to.now (state_after c.loop-to.k c.args.table.rows).rest = subst (λ s. IsPassed c.loop-to.k c.loop-to.at c.in-Some.to c.loop-to.now s.rest) at_k c.in-Some.ensures in
    let t = turn n parts.width c.loop-to.k c.loop-to.at c.in-Some.to old new c.loop-to.now v.below refl parts.long (long_with parts.width old (c.args.place - 1) c.args.row parts.long row_long)
    parts.steps v.steps v.state passed c.index-in-Some.result.now at_next in
    ap length c.in_ok-passed.ensures ∙ v.long ∙ row_long ∙ sym t.long

pub returns-then-not-clear : goal.returns-then-not-clear
returns-then-not-clear c =
    let old = c.args.table.rows in
    let new = with_row c.args.place c.args.row c.args.table.rows in
    let n = length c.args.table.rows in
    let parts = table_parts c.args.table (subst IsElimination c.table.view_is c.table.invariant) in
    let v = c.loop-to.invariant in
    let in_list : c.loop-to.k < length c.loop-to.states.items = omega (arith, v.count, v.below) in
    let at_k : c.index.result.now ≡ state_after c.loop-to.k c.args.table.rows = c.index.ensures ∙ same_read c.loop-to.states.items c.loop-to.k c.index.result.now nothing in_list ∙ v.behind c.loop-to.k (omega arith) (omega (arith, v.below)) in
    let here = reached n parts.width c.loop-to.k old (omega (arith, v.below)) parts.long (steps_before n c.loop-to.k old (omega (arith, v.below)) parts.steps) in
    let row_long : length c.args.row ≡ parts.width = c.requires.length ∙ each_at (λ row. length row ≡ parts.width) old (c.args.place - 1) [] (let a = c.requires.first in let b = c.requires.last in omega (arith, a, b)) parts.long in
    let next_k : suc c.loop-to.k ≡ c.loop-to.k + 1 = omega arith in
    let next_list : c.loop-to.k + 1 < length c.loop-to.states.items = omega (arith, v.count, v.below) in
    let at_next : c.index-in-Some.result.now ≡ state_after (suc c.loop-to.k) c.args.table.rows = c.index-in-Some.ensures ∙ same_read c.loop-to.states.items (c.loop-to.k + 1) c.index-in-Some.result.now nothing next_list
    ∙ v.behind (c.loop-to.k + 1) (omega arith) (omega (arith, v.below)) ∙ ap (λ m. state_after m c.args.table.rows) (sym next_k) in
    let passed : IsPassed c.loop-to.k c.loop-to.at c.in-Some.to c.loop-to.now (state_after c.loop-to.k c.args.table.rows).rest = subst (λ s. IsPassed c.loop-to.k c.loop-to.at c.in-Some.to c.loop-to.now s.rest) at_k c.in-Some.ensures in
    let t = turn n parts.width c.loop-to.k c.loop-to.at c.in-Some.to old new c.loop-to.now v.below refl parts.long (long_with parts.width old (c.args.place - 1) c.args.row parts.long row_long)
    parts.steps v.steps v.state passed c.index-in-Some.result.now at_next in
    let wrong = rw c.in_ok-passed.ensures at c.if-not-clear.ensures.value in
    subst (λ m. ¬ (FitsElimination m new)) (sym (length-set old (c.args.place - 1) c.args.row)) (t.stop wrong)

pub loop-to-preserved : goal.loop-to-preserved
unfolding AreStates
loop-to-preserved c =
    let old = c.args.table.rows in
    let new = with_row c.args.place c.args.row c.args.table.rows in
    let n = length c.args.table.rows in
    let parts = table_parts c.args.table (subst IsElimination c.table.view_is c.table.invariant) in
    let v = c.loop-to.invariant in
    let in_list : c.loop-to.k < length c.loop-to.states.items = omega (arith, v.count, v.below) in
    let at_k : c.index.result.now ≡ state_after c.loop-to.k c.args.table.rows = c.index.ensures ∙ same_read c.loop-to.states.items c.loop-to.k c.index.result.now nothing in_list ∙ v.behind c.loop-to.k (omega arith) (omega (arith, v.below)) in
    let here = reached n parts.width c.loop-to.k old (omega (arith, v.below)) parts.long (steps_before n c.loop-to.k old (omega (arith, v.below)) parts.steps) in
    let row_long : length c.args.row ≡ parts.width = c.requires.length ∙ each_at (λ row. length row ≡ parts.width) old (c.args.place - 1) [] (let a = c.requires.first in let b = c.requires.last in omega (arith, a, b)) parts.long in
    let next_k : suc c.loop-to.k ≡ c.loop-to.k + 1 = omega arith in
    let next_list : c.loop-to.k + 1 < length c.loop-to.states.items = omega (arith, v.count, v.below) in
    let at_next : c.index-in-Some.result.now ≡ state_after (suc c.loop-to.k) c.args.table.rows = c.index-in-Some.ensures ∙ same_read c.loop-to.states.items (c.loop-to.k + 1) c.index-in-Some.result.now nothing next_list
    ∙ v.behind (c.loop-to.k + 1) (omega arith) (omega (arith, v.below)) ∙ ap (λ m. state_after m c.args.table.rows) (sym next_k) in
    let passed : IsPassed c.loop-to.k c.loop-to.at c.in-Some.to c.loop-to.now (state_after c.loop-to.k c.args.table.rows).rest = subst (λ s. IsPassed c.loop-to.k c.loop-to.at c.in-Some.to c.loop-to.now s.rest) at_k c.in-Some.ensures in
    let t = turn n parts.width c.loop-to.k c.loop-to.at c.in-Some.to old new c.loop-to.now v.below refl parts.long (long_with parts.width old (c.args.place - 1) c.args.row parts.long row_long)
    parts.steps v.steps v.state passed c.index-in-Some.result.now at_next in
    let f = rw c.in_ok-passed.ensures at c.if-not-clear.ensures.value in
    let read_k : c.index_mut-in-Some.result.now ≡ state_after c.loop-to.k c.args.table.rows = c.index_mut-in-Some.ensures.value ∙ same_read c.loop-to.states.items c.loop-to.k c.index_mut-in-Some.result.now nothing in_list ∙ v.behind c.loop-to.k (omega arith) (omega (arith, v.below)) in
    let put = c.put.ensures ∙ ap (with_rest c.loop-to.at c.loop-to.now) read_k ∙ sym v.state in
    let all = are_put c.loop-to.k new c.loop-to.states.items c.put.new.self in_list v.before put in
    let long = length-set c.loop-to.states.items c.loop-to.k c.put.new.self in
    record {
      steps = subst (λ m. HasSteps m new) next_k (t.steps f.0);
      state = subst (λ m. state_after m new ≡ with_rest c.in-Some.to c.clear.new.row (state_after m old)) next_k (t.state c.clear.new.row f.0 f.1);
      inside = subst (λ m. c.in-Some.to < length (state_after m old).rest) next_k t.inside;
      below = (let b = t.below in omega (arith, b));
      long = c.if-not-clear.ensures.length ∙ ap length c.in_ok-passed.ensures ∙ v.long;
      count = long ∙ v.count;
      before = λ j lt. all j (omega (arith, lt));
      behind = λ j le below. get_or-set_other c.loop-to.states.items c.loop-to.k j c.put.new.self nothing (λ e. omega (arith, le, e)) ∙ v.behind j (omega (arith, le)) below;
    }

pub finish-requires-clause-lengths : goal.finish-requires-clause-lengths
finish-requires-clause-lengths c =
    let old = c.args.table.rows in
    let new = with_row c.args.place c.args.row c.args.table.rows in
    let n = length c.args.table.rows in
    let parts = table_parts c.args.table (subst IsElimination c.table.view_is c.table.invariant) in
    let v = c.loop-to.invariant in
    let in_list : c.loop-to.k < length c.loop-to.states.items = omega (arith, v.count, v.below) in
    let at_k : c.index.result.now ≡ state_after c.loop-to.k c.args.table.rows = c.index.ensures ∙ same_read c.loop-to.states.items c.loop-to.k c.index.result.now nothing in_list ∙ v.behind c.loop-to.k (omega arith) (omega (arith, v.below)) in
    let here = reached n parts.width c.loop-to.k old (omega (arith, v.below)) parts.long (steps_before n c.loop-to.k old (omega (arith, v.below)) parts.steps) in
    let row_long : length c.args.row ≡ parts.width = c.requires.length ∙ each_at (λ row. length row ≡ parts.width) old (c.args.place - 1) [] (let a = c.requires.first in let b = c.requires.last in omega (arith, a, b)) parts.long in
    let rows : c.table.inside.rows.items ≡ c.args.table.rows = ap (λ e. e.rows) c.table.view_is in
    rw rows (parts.width, (let a = length-set old (c.args.place - 1) c.args.row in let w = parts.wide in omega (arith, a, w)), long_with parts.width old (c.args.place - 1) c.args.row parts.long row_long)

pub finish-requires-clause-states : goal.finish-requires-clause-states
finish-requires-clause-states c =
    let old = c.args.table.rows in
    let new = with_row c.args.place c.args.row c.args.table.rows in
    let n = length c.args.table.rows in
    let parts = table_parts c.args.table (subst IsElimination c.table.view_is c.table.invariant) in
    let v = c.loop-to.invariant in
    let in_list : c.loop-to.k < length c.loop-to.states.items = omega (arith, v.count, v.below) in
    let at_k : c.index.result.now ≡ state_after c.loop-to.k c.args.table.rows = c.index.ensures ∙ same_read c.loop-to.states.items c.loop-to.k c.index.result.now nothing in_list ∙ v.behind c.loop-to.k (omega arith) (omega (arith, v.below)) in
    let here = reached n parts.width c.loop-to.k old (omega (arith, v.below)) parts.long (steps_before n c.loop-to.k old (omega (arith, v.below)) parts.steps) in
    let row_long : length c.args.row ≡ parts.width = c.requires.length ∙ each_at (λ row. length row ≡ parts.width) old (c.args.place - 1) [] (let a = c.requires.first in let b = c.requires.last in omega (arith, a, b)) parts.long in
    let rows : c.table.inside.rows.items ≡ c.args.table.rows = ap (λ e. e.rows) c.table.view_is in
    let read_k : c.index_mut-2.result.now ≡ state_after c.loop-to.k c.args.table.rows = c.index_mut-2.ensures.value ∙ same_read c.loop-to.states.items c.loop-to.k c.index_mut-2.result.now nothing in_list ∙ v.behind c.loop-to.k (omega arith) (omega (arith, v.below)) in
    let put = c.put-2.ensures ∙ ap (with_rest c.loop-to.at c.loop-to.now) read_k ∙ sym v.state in
    rw rows (are_put c.loop-to.k new c.loop-to.states.items c.put-2.new.self in_list v.before put)
