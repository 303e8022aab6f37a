use Rattle.std.proofs.Common.{rules, ◌≡◌, ◌≢◌, ◌≤◌, ◌<◌, ◌+◌, ◌-◌, ◌∙◌, length, map, get_or, arith, refl, sym, ap, subst, pos, [], FitsSigned, to_z-of_z}
use Rattle.std.specs.Int.{w128}
use Rattle.cayley.specs.Problems.{Problem}
use Rattle.cayley.specs.Stored.{file_point}
use Rattle.inner_normal.specs.Coefficients.{numbers_of, difference, FitsCoefficients}
use Rattle.cell_certificate.specs.Sides.{IsNear}
use Rattle.cell_certificate.specs.Ties.{FitsTieAt}
use Rattle.cell_certificate.proofs.PointOver.{in_file, in_cell, skipped, not_first, not_second, not_there, pair_first, is_further, seen_is, never_unfit, by_sum, by_circuit}
use Rattle.cell_certificate.proofs.Positions.{mapped_at}
use Rattle.cell_certificate.proofs.Rising.{tested}
use Rattle.cell_certificate.proofs.Spots.{fault_of_more}
use Rattle.cell_certificate.proofs.Supports.{near_is}
use Rattle.cell_certificate.proofs.ties.is_point_over.Goals.{then-position-pair-via-then-position-pair, then-position-pair-via-else-position-pair+then-position-pair-2, then-position-pair-via-else-position-pair+else-position-pair-2+then-points-position}
use Rattle.cell_certificate.proofs.ties.is_point_over.Goals as goal

pub bounds-pairs-support : goal.bounds-pairs-support
bounds-pairs-support c =
    let s = c.requires.support in
    let l = in_cell c.args.file.now c.support-points.ensures.valid c.args.problem.now c.requires.same c.args.listed.now c.requires.level c.args.support s.0 s.1 in
    let n = ap length c.pairs.ensures.same in
    omega (arith, l, n)

pub returns-then-position-pair : goal.returns-then-position-pair
returns-then-position-pair c =
    let file = c.args.file.now in
    let p = c.args.problem.now in
    let x = c.args.listed.now in
    let valid = c.support-points.ensures.valid in
    let points = c.support-points.result.now in
    let own = c.pairs.ensures.same in
    let s = c.requires.support in
    let e = c.support-points.ensures.value in
    skipped file valid p c.requires.same x c.requires.level c.args.support s.0 s.1 c.args.inverse.now c.args.position
    (elim c.then-position-pair.branch [
      | then-position-pair-via-then-position-pair w ↦ not_first file valid p c.requires.same x c.requires.level c.args.support s.0 s.1 points e c.pairs.result.now own c.args.position w.if-position-pair.true
      | then-position-pair-via-else-position-pair+then-position-pair-2 w ↦
          not_second file valid p c.requires.same x c.requires.level c.args.support s.0 s.1 points e c.pairs.result.now own c.args.position w.if-position-pair-2.true
      | then-position-pair-via-else-position-pair+else-position-pair-2+then-points-position w ↦
          not_there file valid p c.requires.same x c.requires.level c.args.support s.0 s.1 points e c.pairs.result.now own c.args.position w.if-points-position.true
    ])

pub overflow_sub-first : goal.overflow_sub-first
overflow_sub-first c =
    let s = c.requires.support in
    let first = pair_first c.args.file.now c.support-points.ensures.valid c.args.problem.now c.requires.same c.args.listed.now c.requires.level c.args.support s.0 s.1
    c.support-points.result.now c.support-points.ensures.value c.pairs.result.now c.pairs.ensures.same in
    let h = first.0 in
    omega (arith, h)

pub bounds-points-pair : goal.bounds-points-pair
bounds-points-pair c =
    let s = c.requires.support in
    let first = pair_first c.args.file.now c.support-points.ensures.valid c.args.problem.now c.requires.same c.args.listed.now c.requires.level c.args.support s.0 s.1
    c.support-points.result.now c.support-points.ensures.value c.pairs.result.now c.pairs.ensures.same in
    first.1

pub rise-requires-clause-a_near : goal.rise-requires-clause-a_near
rise-requires-clause-a_near c =
    let file = c.args.file.now in
    let p = c.args.problem.now in
    let x = c.args.listed.now in
    let valid = c.support-points.ensures.valid in
    let points = c.support-points.result.now in
    let s = c.requires.support in
    let e = c.support-points.ensures.value in
    let h = in_file file valid p c.requires.same x c.requires.level c.args.support s.0 s.1 in
    let d = c.requires.level.0.1 ∙ ap (λ (q : Problem). q.dimension) c.requires.same in
    let first = pair_first file valid p c.requires.same x c.requires.level c.args.support s.0 s.1 points e c.pairs.result.now c.pairs.ensures.same in
    let pair = get_or c.pairs.result.now (c.args.support - 1) (0, 0) in
    mapped_at (IsNear (length x.normal.v)) points (pair.0 - 1) c.index-points-pair.result (near_is file points (c.args.support - 1) (length x.normal.v) valid h d e) first.1 c.index-points-pair.is

pub rise-requires-clause-x_near : goal.rise-requires-clause-x_near
rise-requires-clause-x_near c =
    let file = c.args.file.now in
    let p = c.args.problem.now in
    let x = c.args.listed.now in
    let valid = c.support-points.ensures.valid in
    let points = c.support-points.result.now in
    let s = c.requires.support in
    let e = c.support-points.ensures.value in
    let h = in_file file valid p c.requires.same x c.requires.level c.args.support s.0 s.1 in
    let d = c.requires.level.0.1 ∙ ap (λ (q : Problem). q.dimension) c.requires.same in
    let q = c.requires.position in
    mapped_at (IsNear (length x.normal.v)) points (c.args.position - 1) c.index-points-position.result (near_is file points (c.args.support - 1) (length x.normal.v) valid h d e)
    (omega (arith, q, c.if-points-position.false)) c.index-points-position.is

pub returns-in_default : goal.returns-in_default
returns-in_default c =
    let file = c.args.file.now in
    let p = c.args.problem.now in
    let x = c.args.listed.now in
    let valid = c.support-points.ensures.valid in
    let points = c.support-points.result.now in
    let own = c.pairs.ensures.same in
    let s = c.requires.support in
    let e = c.support-points.ensures.value in
    let first = pair_first file valid p c.requires.same x c.requires.level c.args.support s.0 s.1 points e c.pairs.result.now own in
    let pair = get_or c.pairs.result.now (c.args.support - 1) (0, 0) in
    let l : c.args.position ≤ length points = omega (arith, c.if-points-position.false) in
    let q = c.requires.position in
    let further = is_further file valid p c.requires.same x c.requires.level c.args.support s.0 s.1 points e c.pairs.result.now own c.args.position q l c.if-position-pair.false c.if-position-pair-2.false in
    λ f. never_unfit file valid p c.requires.same x c.requires.level c.args.support s.0 s.1 points e c.pairs.result.now own c.args.inverse.now c.args.position (pair.0 - 1) (c.args.position - 1)
    c.index-points-pair.result c.index-points-position.result first.0 first.1 c.index-points-pair.is (omega (arith, q)) (omega (arith, q, l)) c.index-points-position.is further c.in_default.ensures

pub returns-then-sum-ne0 : goal.returns-then-sum-ne0
returns-then-sum-ne0 c =
    let file = c.args.file.now in
    let p = c.args.problem.now in
    let x = c.args.listed.now in
    let valid = c.support-points.ensures.valid in
    let points = c.support-points.result.now in
    let own = c.pairs.ensures.same in
    let s = c.requires.support in
    let e = c.support-points.ensures.value in
    let fs : FitsSigned w128 c.in-Some.sum = search rules in
    let other : c.in-Some.sum ≢ pos 0 = search (rules, c.if-sum-ne0.true) in
    let first = pair_first file valid p c.requires.same x c.requires.level c.args.support s.0 s.1 points e c.pairs.result.now own in
    let pair = get_or c.pairs.result.now (c.args.support - 1) (0, 0) in
    let l : c.args.position ≤ length points = omega (arith, c.if-points-position.false) in
    let q = c.requires.position in
    let further = is_further file valid p c.requires.same x c.requires.level c.args.support s.0 s.1 points e c.pairs.result.now own c.args.position q l c.if-position-pair.false c.if-position-pair-2.false in
    let r = by_sum file valid p c.requires.same x c.requires.level c.args.support s.0 s.1 points e c.pairs.result.now own c.args.inverse.now c.args.position (pair.0 - 1) (c.args.position - 1)
    c.index-points-pair.result c.index-points-position.result first.0 first.1 c.index-points-pair.is (omega (arith, q)) (omega (arith, q, l)) c.index-points-position.is further
    c.in-Some.sum c.in-Some.ensures.1 other in
    (r.0, simp to_z-of_z (tested c.in-Some.sum c.in-Some.sum _ refl r.1))

pub coefficients_at-requires-clause-point : goal.coefficients_at-requires-clause-point
coefficients_at-requires-clause-point c =
    let s = c.requires.support in
    let q = c.requires.position in
    let l : c.args.position ≤ length c.support-points.result.now = omega (arith, c.if-points-position.false) in (
      s.0,
      s.1,
      is_further c.args.file.now c.support-points.ensures.valid c.args.problem.now c.requires.same c.args.listed.now c.requires.level c.args.support s.0 s.1 c.support-points.result.now
          c.support-points.ensures.value c.pairs.result.now c.pairs.ensures.same c.args.position q l c.if-position-pair.false c.if-position-pair-2.false,
    )

pub returns-in-Err : goal.returns-in-Err
returns-in-Err c =
    let file = c.args.file.now in
    let p = c.args.problem.now in
    let x = c.args.listed.now in
    let valid = c.support-points.ensures.valid in
    let points = c.support-points.result.now in
    let own = c.pairs.ensures.same in
    let s = c.requires.support in
    let e = c.support-points.ensures.value in
    let fs : FitsSigned w128 c.in-Some.sum = search rules in
    let zero : c.in-Some.sum ≡ pos 0 = search (rules, c.if-sum-ne0.false) in
    let first = pair_first file valid p c.requires.same x c.requires.level c.args.support s.0 s.1 points e c.pairs.result.now own in
    let pair = get_or c.pairs.result.now (c.args.support - 1) (0, 0) in
    let l : c.args.position ≤ length points = omega (arith, c.if-points-position.false) in
    let q = c.requires.position in
    let further = is_further file valid p c.requires.same x c.requires.level c.args.support s.0 s.1 points e c.pairs.result.now own c.args.position q l c.if-position-pair.false c.if-position-pair-2.false in
    let is = seen_is file valid p c.requires.same x c.requires.level c.args.support s.0 s.1 points e c.pairs.result.now own c.args.inverse.now c.args.position (pair.0 - 1) (c.args.position - 1)
    c.index-points-pair.result c.index-points-position.result first.0 first.1 c.index-points-pair.is (omega (arith, q)) (omega (arith, q, l)) c.index-points-position.is further in
    fault_of_more (FitsCoefficients (c.args.support - 1) c.args.inverse.now (difference p x.cell (c.args.support - 1) c.args.position))
    (FitsTieAt p x.cell x.normal.v x.normal.den c.args.inverse.now (c.args.support - 1) c.args.position) c.in-Err.fault (λ f. f further (sym (c.in-Some.ensures.1 ∙ is) ∙ zero)) c.in-Err.ensures.value

pub returns : goal.returns
returns c =
    let file = c.args.file.now in
    let p = c.args.problem.now in
    let x = c.args.listed.now in
    let valid = c.support-points.ensures.valid in
    let points = c.support-points.result.now in
    let own = c.pairs.ensures.same in
    let s = c.requires.support in
    let e = c.support-points.ensures.value in
    let fs : FitsSigned w128 c.in-Some.sum = search rules in
    let zero : c.in-Some.sum ≡ pos 0 = search (rules, c.if-sum-ne0.false) in
    let first = pair_first file valid p c.requires.same x c.requires.level c.args.support s.0 s.1 points e c.pairs.result.now own in
    let pair = get_or c.pairs.result.now (c.args.support - 1) (0, 0) in
    let l : c.args.position ≤ length points = omega (arith, c.if-points-position.false) in
    let q = c.requires.position in
    let further = is_further file valid p c.requires.same x c.requires.level c.args.support s.0 s.1 points e c.pairs.result.now own c.args.position q l c.if-position-pair.false c.if-position-pair-2.false in
    by_circuit file valid p c.requires.same x c.requires.level c.args.support s.0 s.1 points e c.pairs.result.now own c.args.inverse.now c.args.position (pair.0 - 1) (c.args.position - 1)
    c.index-points-pair.result c.index-points-position.result first.0 first.1 c.index-points-pair.is (omega (arith, q)) (omega (arith, q, l)) c.index-points-position.is further
    c.in-Some.sum c.in-Some.ensures.1 zero c.requires.version c.in-Ok.ensures.value.0 (numbers_of c.in-Ok.made) (c.in-Ok.ensures.dependency p refl)
    c.is_circuit_positive.result c.is_circuit_positive.ensures
