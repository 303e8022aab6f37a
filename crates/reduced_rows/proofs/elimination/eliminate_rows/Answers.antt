use Rattle.std.proofs.Common.{◌∙◌, Ok, ap, sym, subst, arith, ◌++◌, ◌∷◌, []}
use Rattle.reduced_rows.specs.Steps.{OfLength}
use Rattle.reduced_rows.proofs.Run.{run_init, shape_init, have_pivots, each_longer, picked_length, run_fault, run_stop_done, run_stop_rest, run_go, run_end}
use Rattle.reduced_rows.proofs.Answered.{has_form}
use Rattle.reduced_rows.proofs.elimination.eliminate_rows.Goals as goal

pub loop-k-init : goal.loop-k-init
loop-k-init c =
    let r = run_init c.args.columns c.args.rows.items c.in_ok-done.done.items c.primitive_all.new.rows.items c.in_ok-done.ensures.items c.primitive_all.ensures in
    let l = c.requires.lengths in
    record {
      same = r.0;
      fits = r.1;
      shape = (l.0, l.1, shape_init l.0 c.args.rows.items c.in_ok-done.done.items c.primitive_all.new.rows.items l.2 c.in_ok-done.ensures.items c.primitive_all.ensures);
    }

pub dependent-requires-clause-pivots : goal.dependent-requires-clause-pivots
dependent-requires-clause-pivots c =
    let s = c.loop-k.invariant.shape in
    let n = s.2.count in
    rw c.deref.ensures.value (have_pivots s.0 c.loop-k.k 0 c.loop-k.done.items (omega (arith, n)) (omega (arith, s.1)) s.2.long_done s.2.reduced)

pub dependent-requires-clause-lengths : goal.dependent-requires-clause-lengths
dependent-requires-clause-lengths c =
    let s = c.loop-k.invariant.shape in
    rw c.deref.ensures.value (each_longer s.0 c.loop-k.k c.loop-k.done.items (omega (arith, s.1)) s.2.long_done)

pub returns-in_default : goal.returns-in_default
returns-in_default c =
    let v = c.loop-k.invariant in
    run_fault c.args.columns c.loop-k.k c.args.rows.items c.loop-k.done.items c.loop-k.rest.items c.loop-k-test.true v.same v.fits c.dependent.result c.in_default.ensures
    (rw c.deref.ensures.value at c.dependent.ensures)

pub clean_all-requires-clause-place : goal.clean_all-requires-clause-place
clean_all-requires-clause-place c =
    let s = c.loop-k.invariant.shape in
    let p = c.in-Some.ensures in
    let l = picked_length s.0 c.loop-k.k c.loop-k.rest.items p.0 c.in-Some.by c.pivot.new.rest.items s.2.long_rest p.1 p.2 in
    omega (arith, l.0, s.1)

pub clean_all-requires-clause-lengths : goal.clean_all-requires-clause-lengths
clean_all-requires-clause-lengths c =
    let s = c.loop-k.invariant.shape in
    let p = c.in-Some.ensures in
    let l = picked_length s.0 c.loop-k.k c.loop-k.rest.items p.0 c.in-Some.by c.pivot.new.rest.items s.2.long_rest p.1 p.2 in
    subst (λ n. OfLength n c.loop-k.done.items) (sym l.0) s.2.long_done

pub clean_all-requires-in-loop-k-clause-place : goal.clean_all-requires-in-loop-k-clause-place
clean_all-requires-in-loop-k-clause-place c =
    let s = c.loop-k.invariant.shape in
    let p = c.in-Some.ensures in
    let l = picked_length s.0 c.loop-k.k c.loop-k.rest.items p.0 c.in-Some.by c.pivot.new.rest.items s.2.long_rest p.1 p.2 in
    omega (arith, l.0, s.1)

pub clean_all-requires-in-loop-k-clause-lengths : goal.clean_all-requires-in-loop-k-clause-lengths
clean_all-requires-in-loop-k-clause-lengths c =
    let s = c.loop-k.invariant.shape in
    let p = c.in-Some.ensures in
    let l = picked_length s.0 c.loop-k.k c.loop-k.rest.items p.0 c.in-Some.by c.pivot.new.rest.items s.2.long_rest p.1 p.2 in
    subst (λ n. OfLength n c.pivot.new.rest.items) (sym l.0) l.1

pub returns-then-not-clean_all : goal.returns-then-not-clean_all
returns-then-not-clean_all c =
    let v = c.loop-k.invariant in
    let p = c.in-Some.ensures in
    run_stop_done c.args.columns c.loop-k.k c.args.rows.items c.loop-k.done.items c.loop-k.rest.items c.loop-k-test.true v.same v.fits p.0 c.in-Some.by c.pivot.new.rest.items p.1 p.2 c.if-not-clean_all.ensures

pub returns-then-not-clean_all-2 : goal.returns-then-not-clean_all-2
returns-then-not-clean_all-2 c =
    let v = c.loop-k.invariant in
    let p = c.in-Some.ensures in
    run_stop_rest c.args.columns c.loop-k.k c.args.rows.items c.loop-k.done.items c.loop-k.rest.items c.loop-k-test.true v.same v.fits p.0 c.in-Some.by c.pivot.new.rest.items p.1 p.2 c.if-not-clean_all-2.ensures

pub loop-k-preserved : goal.loop-k-preserved
loop-k-preserved c =
    let v = c.loop-k.invariant in
    let p = c.in-Some.ensures in
    let a = c.if-not-clean_all.ensures in
    let b = c.if-not-clean_all-2.ensures in
    let g = run_go c.args.columns c.loop-k.k c.args.rows.items c.loop-k.done.items c.loop-k.rest.items c.loop-k-test.true v.same v.fits p.0 c.in-Some.by c.pivot.new.rest.items p.1 p.2
    v.shape.0 c.push.new.self.items c.clean_all-in-loop-k.new.rows.items v.shape.2 a.0 b.0 (c.in_ok-push.ensures.items ∙ ap (λ l. l ++ c.in-Some.by ∷ []) a.1) b.1 in
    record { same = g.0; fits = g.1; shape = (v.shape.0, v.shape.1, g.2) }

pub returns : goal.returns
returns c =
    let v = c.loop-k.invariant in
    let r = run_end c.args.columns c.loop-k.k c.args.rows.items c.loop-k.done.items c.loop-k.rest.items (omega arith) v.same v.fits.0 in
    (r.0, r.1 ∙ ap Ok (sym c.new.ensures))

pub new-requires : goal.new-requires
new-requires c =
    let v = c.loop-k.invariant in
    let l = c.requires.lengths in
    let r = run_end c.args.columns c.loop-k.k c.args.rows.items c.loop-k.done.items c.loop-k.rest.items (omega arith) v.same v.fits.0 in
    has_form c.args.columns l.0 c.args.rows.items c.loop-k.done.items l.1 c.requires.count l.2 r.1
