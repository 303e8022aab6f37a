use Rattle.std.proofs.Common.{◌∙◌, length, arith, sym}
use Rattle.int_vectors.proofs.Each.{map_map, no_both}
use Rattle.cayley.proofs.Ranking.PlainProblems.{counts_of}
use Rattle.cayley.proofs.Refusals.SecondHeights.{as_long, as_small}
use Rattle.cayley.proofs.second_heights.check_second.Goals as goal

pub outside-requires : goal.outside-requires
outside-requires c =
    let e = c.have_counts.ensures.0 c.if-not-have_counts.false in
    let l = as_long (λ s. length s.items) (λ s. length s.items) c.args.second.now c.args.supports.now e in
    let few = c.requires.few in
    record { few = omega (arith, l, few); counts = as_small (λ s. length s.items) (λ s. length s.items) c.args.second.now c.args.supports.now e c.requires.counts }

pub returns-then-not-have_counts : goal.returns-then-not-have_counts
returns-then-not-have_counts c file is = λ h.
    let t = c.have_counts.ensures.1 (sym (map_map length (λ s. s.items) c.args.second.now) ∙ h ∙ sym (counts_of (λ s. s.items) c.args.supports.now file.supports is)) in
    no_both c.have_counts.result t c.if-not-have_counts.true

pub returns-in-Some : goal.returns-in-Some
returns-in-Some c file is =
    let e = c.have_counts.ensures.0 c.if-not-have_counts.false in
    (map_map length (λ s. s.items) c.args.second.now ∙ e ∙ counts_of (λ s. s.items) c.args.supports.now file.supports is, c.in-Some.ensures)

pub returns-in-None : goal.returns-in-None
returns-in-None c file is =
    let e = c.have_counts.ensures.0 c.if-not-have_counts.false in
    (map_map length (λ s. s.items) c.args.second.now ∙ e ∙ counts_of (λ s. s.items) c.args.supports.now file.supports is, c.in-None.ensures)
