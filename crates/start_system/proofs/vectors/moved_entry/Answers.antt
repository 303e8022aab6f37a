use Rattle.std.proofs.Common.{rules, ◌∙◌, ap, subst, sym, FitsSigned}
use Rattle.std.specs.Int.{w128}
use Rattle.std.proofs.Math.Facts.{to_z-of_z}
use Rattle.std.proofs.Math.IntN.{◌+ℤ◌}
use Rattle.int_vectors.specs.Vectors.{at}
use Rattle.cayley.specs.Valid.{IsCoordinate, IsCornerCoordinate}
use Rattle.cayley.proofs.Lists.Supports.{wider}
use Rattle.start_system.proofs.Making.Entries.{small_at, moved_own, moved_other}
use Rattle.start_system.proofs.Making.Numbers.{corner_fits, own_small}
use Rattle.start_system.proofs.vectors.moved_entry.Goals as goal

pub overflow_add-result : goal.overflow_add-result
overflow_add-result c =
    let f : FitsSigned w128 c.get.result = search rules in
    let g : FitsSigned w128 c.args.d = search rules in
    let s : IsCoordinate c.get.result = subst IsCoordinate (sym c.get.ensures.value) (small_at c.args.m.now c.args.j c.requires.small c.requires.entry) in
    simp to_z-of_z (corner_fits (c.get.result +ℤ c.args.d) (own_small c.get.result c.args.d s c.requires.least c.requires.greatest))

pub returns-then-j-k-clause-value : goal.returns-then-j-k-clause-value
returns-then-j-k-clause-value c =
    let f : FitsSigned w128 c.get.result = search rules in
    let g : FitsSigned w128 c.args.d = search rules in
    let s : IsCoordinate c.get.result = subst IsCoordinate (sym c.get.ensures.value) (small_at c.args.m.now c.args.j c.requires.small c.requires.entry) in
    let h : FitsSigned w128 (c.get.result +ℤ c.args.d) = corner_fits (c.get.result +ℤ c.args.d) (own_small c.get.result c.args.d s c.requires.least c.requires.greatest) in
    simp to_z-of_z (ap (λ z. z +ℤ c.args.d) c.get.ensures.value ∙ moved_own c.args.m.now c.args.k c.args.j c.args.d c.if-j-k.true)

pub returns-then-j-k-clause-small : goal.returns-then-j-k-clause-small
returns-then-j-k-clause-small c =
    let f : FitsSigned w128 c.get.result = search rules in
    let g : FitsSigned w128 c.args.d = search rules in
    let s : IsCoordinate c.get.result = subst IsCoordinate (sym c.get.ensures.value) (small_at c.args.m.now c.args.j c.requires.small c.requires.entry) in
    let k : IsCornerCoordinate (c.get.result +ℤ c.args.d) = own_small c.get.result c.args.d s c.requires.least c.requires.greatest in
    let h : FitsSigned w128 (c.get.result +ℤ c.args.d) = corner_fits (c.get.result +ℤ c.args.d) k in
    simp to_z-of_z k

pub returns-else-j-k-clause-value : goal.returns-else-j-k-clause-value
returns-else-j-k-clause-value c =
    let f : FitsSigned w128 c.get-else-j-k.result = search rules in
    simp to_z-of_z (c.get-else-j-k.ensures.value ∙ moved_other c.args.m.now c.args.k c.args.j c.args.d c.if-j-k.false)

pub returns-else-j-k-clause-small : goal.returns-else-j-k-clause-small
returns-else-j-k-clause-small c =
    let f : FitsSigned w128 c.get-else-j-k.result = search rules in
    simp to_z-of_z (subst IsCornerCoordinate (sym c.get-else-j-k.ensures.value) (wider (at c.args.m.now c.args.j) (small_at c.args.m.now c.args.j c.requires.small c.requires.entry)))
