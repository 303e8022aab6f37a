use Rattle.std.proofs.Common.{rules, ◌≡◌, ◌≢◌, ◌∙◌, ◌⊎◌, ◌+◌, map, arith, sym, inl, inr}
use Rattle.std.proofs.lemmas.Bool.{eq-eqb}
use Rattle.std.proofs.lemmas.List.{length-map}
use Rattle.cayley.specs.Stored.{point}
use Rattle.int_vectors.proofs.Each.{no_both}
use Rattle.cayley.proofs.Ranking.Numbering.{rank_there, rank_of_start}
use Rattle.cayley.proofs.ranks.rank_at.Goals.{then-position-corner-2, else-position-corner-2}
use Rattle.cayley.proofs.ranks.rank_at.Goals as goal

pub returns-then-position-corner : goal.returns-then-position-corner
returns-then-position-corner c =
    let xs = map point c.args.support.now.points.items in
    let l = length-map c.args.support.now.points.items point in
    let a = c.requires.least in
    let b = c.requires.last in
    let n = c.if-position-corner.true in
    let h = rank_there c.args.i c.args.support.now.file c.args.first c.args.position xs c.requires.support.0 a (omega (arith, b, l)) (λ e. omega (arith, e, n)) (λ e. omega (arith, e, n)) in
    omega (arith, h, n)

pub returns-then-position-corner-3 : goal.returns-then-position-corner-3
returns-then-position-corner-3 c =
    let xs = map point c.args.support.now.points.items in
    let l = length-map c.args.support.now.points.items point in
    let b = c.requires.last in
    let start : (c.args.position ≡ c.args.support.now.file + 1) ⊎ (c.args.position ≡ c.args.support.now.file + 1 + c.args.i) =
    elim c.if-position-corner-2.branch [
      | then-position-corner-2 w ↦ inl w.if-position-corner-2.true
      | else-position-corner-2 w ↦ inr (search (rules, w.value-is, c.if-position-corner-3.true))
    ] in
    sym (rank_of_start c.args.i c.args.support.now.file c.args.first c.args.position xs c.requires.least (omega (arith, b, l)) start)

-- neither of the start corners
pub returns-then-position-corner-4 : goal.returns-then-position-corner-4
returns-then-position-corner-4 c =
    let xs = map point c.args.support.now.points.items in
    let l = length-map c.args.support.now.points.items point in
    let b = c.requires.last in
    let less = c.if-position-corner-4.true in
    let n : c.args.position ≢ c.args.support.now.file + 1 = elim c.if-position-corner-2.branch [
      | then-position-corner-2 w ↦ absurd (no_both c.if-position-corner-2.value (w.value-is ∙ eq-eqb _ _ w.if-position-corner-2.true) c.if-position-corner-3.false)
      | else-position-corner-2 w ↦ w.if-position-corner-2.false
    ] in
    let more = c.if-position-corner.false in
    let h = rank_there c.args.i c.args.support.now.file c.args.first c.args.position xs c.requires.support.0 c.requires.least (omega (arith, b, l)) n (λ e. omega (arith, e, less)) in
    omega (arith, h, less, more, n)

pub returns-else-position-corner-4 : goal.returns-else-position-corner-4
returns-else-position-corner-4 c =
    let xs = map point c.args.support.now.points.items in
    let l = length-map c.args.support.now.points.items point in
    let b = c.requires.last in
    let less = c.if-position-corner-4.false in
    let one = c.requires.support.0 in
    let m : c.args.position ≢ c.args.support.now.file + 1 + c.args.i = elim c.if-position-corner-2.branch [
      | then-position-corner-2 w ↦ absurd (no_both c.if-position-corner-2.value (w.value-is ∙ eq-eqb _ _ w.if-position-corner-2.true) c.if-position-corner-3.false)
      | else-position-corner-2 w ↦ (let t = sym w.value-is ∙ c.if-position-corner-3.false in search (rules, t))
    ] in
    let h = rank_there c.args.i c.args.support.now.file c.args.first c.args.position xs one c.requires.least (omega (arith, b, l)) (λ e. omega (arith, e, less, one)) m in
    omega (arith, h, less, one, m)
