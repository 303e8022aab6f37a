use Rattle.std.proofs.Common.{◌++◌, drop, flat_map, sym, subst}
use Rattle.std.specs.Prelude.{IsPermutation}
use Rattle.cayley.proofs.Searching.Listing.{Has}
use Rattle.searcher.specs.Passes.{IsOnItsWay}
use Rattle.searcher.proofs.Orders.{as_counted}
use Rattle.searcher.proofs.PassTurns.{halt_led, led_self}
use Rattle.searcher.proofs.PassLists.{ready, there, all_begin, all_step, all_end, whole, from_all, from_all_is}
use Rattle.searcher.proofs.passing.pass_until.Goals as goal

pub loop-cell-init : goal.loop-cell-init
loop-cell-init g c = λ all is. subst (λ l. IsPermutation (flat_map all c.args.cells.now) (l ++ flat_map all (drop 0 c.args.cells.now))) (sym c.new-reached.ensures.items) (all_begin all c.args.cells.now)

pub pass-requires : goal.pass-requires
pass-requires g c = record {
  way =
      subst (IsOnItsWay c.args.problem.now) (sym c.copy.ensures)
      (ready c.args.problem.now c.dim-dim.ensures.valid.shape.problem c.args.cells.now c.requires.order c.requires.alive c.loop-cell.cell-index c.cell-item.result c.cell-item.is c.loop-cell-test.true);
}

pub returns-in-Err-clause-halt : goal.returns-in-Err-clause-halt
returns-in-Err-clause-halt g c =
    let p = c.args.problem.now in
    halt_led p c.args.cells.now c.copy.result c.in-Err.cause
    (led_self p c.args.cells.now c.copy.result (subst (λ x. Has x c.args.cells.now) (sym c.copy.ensures) (there c.args.cells.now c.loop-cell.cell-index c.cell-item.result c.cell-item.is c.loop-cell-test.true)))
    c.in-Err.ensures.halt

pub loop-cell-preserved : goal.loop-cell-preserved
loop-cell-preserved g c = λ all is.
    let r = c.in-Ok.ensures.reached in
    all_step all c.args.cells.now c.loop-cell.reached.items r.0 c.pass.new.reached.items c.loop-cell.cell-index c.cell-item.result c.cell-item.is c.loop-cell-test.true r.1
    (subst (λ x. IsPermutation (all x) r.0) c.copy.ensures (r.2 (all c.copy.result) (is c.copy.result))) (c.loop-cell.invariant all is)

pub returns-clause-reached : goal.returns-clause-reached
returns-clause-reached g c =
    let p = c.args.problem.now in
    let well = c.dim-dim.ensures.valid.shape.problem in
    whole p well c.args.cells.now c.requires.order c.requires.alive c.loop-cell.reached.items c.put_in_order.new.cells.items
    (all_end (from_all p well) c.args.cells.now c.loop-cell.reached.items c.loop-cell.cell-index c.loop-cell-test.false (c.loop-cell.invariant (from_all p well) (from_all_is p well)))
    c.put_in_order.ensures.same (as_counted c.put_in_order.new.cells.items c.put_in_order.ensures.order)
