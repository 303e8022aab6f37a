use Rattle.std.proofs.Common.{rules, ◌∙◌, subst, sym, arith, FitsSigned}
use Rattle.std.specs.Int.{w128}
use Rattle.std.proofs.Math.Facts.{to_z-of_z}
use Rattle.std.proofs.Math.IntN.{pos}
use Rattle.int_vectors.specs.Fits.{AllFit}
use Rattle.start_system.proofs.Making.Entries.{next_taken, last_taken, length-moved}
use Rattle.start_system.proofs.Making.Numbers.{moved_fit}
use Rattle.start_system.proofs.vectors.moved.Goals as goal

pub loop-j-preserved : goal.loop-j-preserved
loop-j-preserved c =
    let f : FitsSigned w128 c.moved_entry.result = search rules in
    let e = c.len-j-end.ensures in
    let g : FitsSigned w128 c.args.d = search rules in
    let inv = simp to_z-of_z at c.loop-j.invariant in
    let n = c.loop-j-test.true in
    let l = length-moved c.args.m.now c.args.k c.args.d c.requires.place in
    let p = simp to_z-of_z at c.in_ok-push.ensures in
    let v = simp to_z-of_z at c.moved_entry.ensures.value in
    simp to_z-of_z (p ∙ next_taken _ c.loop-j.entries.items c.loop-j.j c.moved_entry.result (pos 0) inv (omega (arith, e, n, l)) v)

pub from_vec-requires : goal.from_vec-requires
from_vec-requires c =
    let e = c.len-j-end.ensures in
    let g : FitsSigned w128 c.args.d = search rules in
    let inv = simp to_z-of_z at c.loop-j.invariant in
    let n = c.loop-j-test.false in
    let l = length-moved c.args.m.now c.args.k c.args.d c.requires.place in
    subst AllFit (sym (last_taken _ c.loop-j.entries.items c.loop-j.j inv (omega (arith, e, n, l))))
    (moved_fit c.args.m.now c.args.k c.args.d c.requires.small c.requires.place c.requires.least c.requires.greatest)

pub returns : goal.returns
returns c =
    let e = c.len-j-end.ensures in
    let g : FitsSigned w128 c.args.d = search rules in
    let inv = simp to_z-of_z at c.loop-j.invariant in
    let n = c.loop-j-test.false in
    let l = length-moved c.args.m.now c.args.k c.args.d c.requires.place in
    c.from_vec.ensures ∙ last_taken _ c.loop-j.entries.items c.loop-j.j inv (omega (arith, e, n, l))
