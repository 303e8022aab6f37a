use Rattle.std.proofs.Common.{◌≡◌, ◌+◌, ◌-◌, ◌<◌, ◌≤◌, ℕ, [], pos, length, map, get_or, sym, ap, subst, arith}
use Rattle.cayley.specs.Stored.{file_point}
use Rattle.cayley.specs.Files.{plain_problem}
use Rattle.cayley.specs.Problems.{point_at, unperturbed}
use Rattle.cayley.specs.Resting.{rise}
use Rattle.cayley.proofs.Ranking.Unperturbed.{same_unperturbed, same_of}
use Rattle.cell_certificate.specs.Sides.{FitsSupport, Shows}
use Rattle.cell_certificate.specs.Sums.{RisesAt, UntiedAt}
use Rattle.cell_certificate.proofs.Supports.{supports_count, support_is, near_is, pair_is, cell_count}
use Rattle.cell_certificate.proofs.Turns.{left_not, left_more, known_more, left_none, known_all}
use Rattle.cell_certificate.proofs.Levels.{level_to, level_from}
use Rattle.cell_certificate.proofs.PlainSums.{sums_fit, flat, risen, free}
use Rattle.cell_certificate.proofs.sides.all_sides.Goals as goal

pub sides_of-requires-clause-near : goal.sides_of-requires-clause-near
sides_of-requires-clause-near c =
    let file = c.args.file.now in
    let x = c.args.listed.now in
    let p = plain_problem file in
    let of = same_of p (unperturbed p) x.cell (same_unperturbed p) c.requires.0 in
    let k = c.loop-k.k in
    let valid = c.dim-k-end.ensures.valid in
    let h : k < file.dimension = omega (arith, c.loop-k-test.true, c.dim-k-end.ensures.value) in
    let d : k + 1 - 1 ≡ k = omega arith in
    let e = subst (λ z. map file_point c.support.result.now ≡ get_or file.supports z []) d c.support.ensures.value in
    near_is file c.support.result.now k _ valid h c.requires.1 e

pub sides_of-requires-clause-pair : goal.sides_of-requires-clause-pair
sides_of-requires-clause-pair c =
    let file = c.args.file.now in
    let x = c.args.listed.now in
    let p = plain_problem file in
    let of = same_of p (unperturbed p) x.cell (same_unperturbed p) c.requires.0 in
    let k = c.loop-k.k in
    let valid = c.dim-k-end.ensures.valid in
    let h : k < file.dimension = omega (arith, c.loop-k-test.true, c.dim-k-end.ensures.value) in
    let d : k + 1 - 1 ≡ k = omega arith in
    let e = subst (λ z. map file_point c.support.result.now ≡ get_or file.supports z []) d c.support.ensures.value in
    pair_is file x.cell c.pairs-pairs.result.now c.support.result.now k valid of h e c.pairs-pairs.ensures.same

pub returns-in_err-own : goal.returns-in_err-own
returns-in_err-own c =
    let file = c.args.file.now in
    let x = c.args.listed.now in
    let p = plain_problem file in
    let of = same_of p (unperturbed p) x.cell (same_unperturbed p) c.requires.0 in
    let k = c.loop-k.k in
    let valid = c.dim-k-end.ensures.valid in
    let h : k < file.dimension = omega (arith, c.loop-k-test.true, c.dim-k-end.ensures.value) in
    let d : k + 1 - 1 ≡ k = omega arith in
    let e = subst (λ z. map file_point c.support.result.now ≡ get_or file.supports z []) d c.support.ensures.value in
    let hs : k < length (unperturbed p).supports = omega (arith, h, supports_count file valid) in
    let hc : k < length x.cell = omega (arith, h, cell_count file x.cell valid of) in
    let is = support_is file c.support.result.now k valid h e in
    let same = c.pairs-pairs.ensures.same in
    let n = subst (λ s. ¬ (FitsSupport x.normal.den x.normal.v s (get_or x.cell k (0, 0)).0 (get_or x.cell k (0, 0)).1)) (sym is) (rw same at c.in_err-own.ensures) in
    rw c.from_residual.ensures (λ f. left_not (unperturbed p).supports x.cell (FitsSupport x.normal.den x.normal.v) k hs hc c.loop-k.invariant.fits n ((sums_fit p x.cell x.normal.v x.normal.den).0 f))

pub loop-k-preserved : goal.loop-k-preserved
loop-k-preserved c =
    let file = c.args.file.now in
    let x = c.args.listed.now in
    let p = plain_problem file in
    let of = same_of p (unperturbed p) x.cell (same_unperturbed p) c.requires.0 in
    let k = c.loop-k.k in
    let valid = c.dim-k-end.ensures.valid in
    let h : k < file.dimension = omega (arith, c.loop-k-test.true, c.dim-k-end.ensures.value) in
    let d : k + 1 - 1 ≡ k = omega arith in
    let e = subst (λ z. map file_point c.support.result.now ≡ get_or file.supports z []) d c.support.ensures.value in
    let hs : k < length (unperturbed p).supports = omega (arith, h, supports_count file valid) in
    let hc : k < length x.cell = omega (arith, h, cell_count file x.cell valid of) in
    let is = support_is file c.support.result.now k valid h e in
    let same = c.pairs-pairs.ensures.same in
    let g = rw same at c.in_ok-own.ensures in
    let fit = subst (λ s. FitsSupport x.normal.den x.normal.v s (get_or x.cell k (0, 0)).0 (get_or x.cell k (0, 0)).1) (sym is) g.0 in
    let shown = subst (λ s. Shows x.normal.den x.normal.v s (get_or x.cell k (0, 0)).0 (get_or x.cell k (0, 0)).1 c.in_ok-own.own) (sym is) g.1 in
    let i = c.loop-k.invariant in
    record {
      fits = left_more (unperturbed p).supports x.cell (FitsSupport x.normal.den x.normal.v) k hs hc i.fits fit;
      level = known_more (unperturbed p).supports x.cell (λ s a b. rise x.normal.den x.normal.v (point_at s a) (point_at s b) ≡ pos 0) k hs hc _ _ _ i.level shown.0 c.and-sides.ensures.level;
      above = known_more (unperturbed p).supports x.cell (λ s a b. (c : ℕ) → RisesAt x.normal.den x.normal.v s a b c) k hs hc _ _ _ i.above shown.1 c.and-sides.ensures.above;
      untied = known_more (unperturbed p).supports x.cell (λ s a b. (c : ℕ) → UntiedAt x.normal.den x.normal.v s a b c) k hs hc _ _ _ i.untied shown.2 c.and-sides.ensures.untied;
    }

pub returns : goal.returns
returns c =
    let file = c.args.file.now in
    let x = c.args.listed.now in
    let p = plain_problem file in
    let of = same_of p (unperturbed p) x.cell (same_unperturbed p) c.requires.0 in
    let k = c.loop-k.k in
    let valid = c.dim-k-end.ensures.valid in
    let hs : length (unperturbed p).supports ≤ k = omega (arith, c.loop-k-test.false, c.dim-k-end.ensures.value, supports_count file valid) in
    let hc : length x.cell ≤ k = omega (arith, c.loop-k-test.false, c.dim-k-end.ensures.value, cell_count file x.cell valid of) in
    let i = c.loop-k.invariant in
    let level = known_all (unperturbed p).supports x.cell (λ s a b. rise x.normal.den x.normal.v (point_at s a) (point_at s b) ≡ pos 0) k _ hs hc i.level in
    let above = known_all (unperturbed p).supports x.cell (λ s a b. (c : ℕ) → RisesAt x.normal.den x.normal.v s a b c) k _ hs hc i.above in
    let untied = known_all (unperturbed p).supports x.cell (λ s a b. (c : ℕ) → UntiedAt x.normal.den x.normal.v s a b c) k _ hs hc i.untied in
    let even = flat p x.cell x.normal.v x.normal.den in
    let up = risen p x.cell x.normal.v x.normal.den in
    let loose = free p x.cell x.normal.v x.normal.den in (
      (sums_fit p x.cell x.normal.v x.normal.den).1 (left_none (unperturbed p).supports x.cell (FitsSupport x.normal.den x.normal.v) k hs hc i.fits),
      (
        (
          (λ t. level_to p x.cell c.requires.0 x.normal.v x.normal.den c.requires.1 c.requires.2 (even.1 (level.0 t))),
          (λ l. level.1 (even.0 (level_from p x.cell c.requires.0 x.normal.v x.normal.den l))),
        ),
        ((λ t. up.1 (above.0 t)), (λ e. above.1 (up.0 e))),
        ((λ t. loose.1 (untied.0 t)), (λ e. untied.1 (loose.0 e))),
      ),
    )

pub bounds-pairs-k : goal.bounds-pairs-k
bounds-pairs-k c =
    let p = plain_problem c.args.file.now in
    let of = same_of p (unperturbed p) c.args.listed.now.cell (same_unperturbed p) c.requires.0 in
    let n = cell_count c.args.file.now c.args.listed.now.cell c.dim-k-end.ensures.valid of in
    let same = ap length c.pairs-pairs.ensures.same in
    omega (arith, c.loop-k-test.true, c.dim-k-end.ensures.value, n, same)
