use Rattle.std.proofs.Common.{rules, ◌≡◌, ◌∙◌, ◌+◌, ◌-◌, ℕ, get_or, ap, sym, subst, arith, refl}
use Rattle.cayley.specs.Cells.{IsOf}
use Rattle.cayley.specs.Valid.{IsValidCell}
use Rattle.start_system.specs.Started.{IsOnlyEarly}
use Rattle.start_system.proofs.Judging.Supports.{support_of}
use Rattle.start_system.proofs.Judging.StartPairs.{next_pair, all_pairs, valid_pairs}
use Rattle.start_system.proofs.Started.SearchLaws.{started_law}
use Rattle.start_system.proofs.beginning.start_cell.Goals as goal

pub overflow_add-first : goal.overflow_add-first
overflow_add-first c =
    let d = c.dim-count.ensures.value in
    let n = c.loop-place-test.true in
    let h = support_of c.args.problem.now c.dim-count.ensures.valid (c.loop-place.place + 1) (omega arith) (omega (arith, d, n)) in
    let e = c.file_count-first.ensures in
    let f = h.few in
    omega (arith, e, f)

pub overflow_add-pairs : goal.overflow_add-pairs
overflow_add-pairs c =
    let d = c.dim-count.ensures.value in
    let n = c.loop-place-test.true in
    let most = c.dim-count.ensures.valid.shape.dimension.1 in
    let h = support_of c.args.problem.now c.dim-count.ensures.valid (c.loop-place.place + 1) (omega arith) (omega (arith, d, n)) in
    let e = c.file_count-first.ensures in
    let f = h.few in
    omega (arith, e, f, d, n, most)

pub loop-place-preserved : goal.loop-place-preserved
loop-place-preserved c =
    let d = c.dim-count.ensures.value in
    let n = c.loop-place-test.true in
    let most = c.dim-count.ensures.valid.shape.dimension.1 in
    let p = c.args.problem.now in
    let h = support_of p c.dim-count.ensures.valid (c.loop-place.place + 1) (omega arith) (omega (arith, d, n)) in
    let files = h.files in
    let long = c.loop-place.invariant.long in
    let o : c.loop-place.place + 1 - 1 ≡ c.loop-place.place = omega arith in
    let is : c.file_count-first.result ≡ get_or p.files c.loop-place.place 0 = c.file_count-first.ensures ∙ ap (λ (j : ℕ). get_or p.files j 0) o in
    record {
      long = search (rules, long);
      made = next_pair p.files c.loop-place.pairs c.loop-place.place c.file_count-first.result (omega (arith, d, n, files)) (omega (arith, d, n, most, long)) is c.loop-place.invariant.made;
    }

pub unreachable-requires : goal.unreachable-requires
unreachable-requires c =
    let d = c.dim-count.ensures.value in
    let v = c.dim-count.ensures.valid in
    let p = c.args.problem.now in
    let h = support_of p v 1 (omega arith) v.shape.dimension.0 in
    let is = all_pairs p.files c.loop-place.pairs c.dim-count.result c.loop-place.place (h.files ∙ sym d) c.loop-place-test.false c.loop-place.auto.place-end c.loop-place.invariant.made in
    c.in-None.ensures.none.0 refl (subst IsValidCell (sym is) (valid_pairs p.files p.dimension h.files v.shape.dimension.0 v.shape.dimension.1))

pub returns-clause-value : goal.returns-clause-value
returns-clause-value c =
    let d = c.dim-count.ensures.value in
    let v = c.dim-count.ensures.valid in
    let p = c.args.problem.now in
    let h = support_of p v 1 (omega arith) v.shape.dimension.0 in
    c.in-Some.ensures.same ∙ all_pairs p.files c.loop-place.pairs c.dim-count.result c.loop-place.place (h.files ∙ sym d) c.loop-place-test.false c.loop-place.auto.place-end c.loop-place.invariant.made

pub returns-clause-of : goal.returns-clause-of
returns-clause-of c = subst (IsOf c.args.problem.now) (sym (returns-clause-value c)) (started_law c.args.problem.now c.dim-count.ensures.valid c.requires).of

pub returns-clause-early : goal.returns-clause-early
returns-clause-early c = subst (IsOnlyEarly c.args.problem.now) (sym (returns-clause-value c)) (started_law c.args.problem.now c.dim-count.ensures.valid c.requires).early
