use Rattle.std.proofs.Common.{◌≡◌, length, take}
use Rattle.reduced_rows.proofs.Picking.{ZeroAt}
use Rattle.reduced_rows.proofs.stepping.pick.Given as goal

abbrev pub invariant-loop-i : goal.invariant-loop-i
invariant-loop-i l = record {
  same : l.rest.items ≡ l.fn.rest.items;
  zero_so_far : ZeroAt l.k (take l.i l.fn.rest.items);
  count : l.i-end ≡ length l.fn.rest.items;
}
