use Rattle.std.proofs.Common.{true≢false, subst, sym, ap, ◌∙◌, inl, inr, rules}
use Rattle.crossing.specs.declared.line.WallLine.{WallLine}
use Rattle.crossing.specs.Lines.{IsFlat}
use Rattle.crossing.specs.Leading.{nth}
use Rattle.crossing.proofs.Leading.{taken, below_next}
use Rattle.crossing.proofs.exit.first_flat.Goals as goal

pub loop-index-preserved : goal.loop-index-preserved
loop-index-preserved c = λ k lt f. elim (below_next k c.loop-index.index lt) [
  | inl p ↦ c.loop-index.invariant k p f
  | inr e ↦ absurd (true≢false (sym (c.is_flat.ensures.1 (subst (λ (l : WallLine). IsFlat l) (ap (nth c.args.lines.now) e ∙ sym (taken c.args.lines.now c.loop-index.index c.index-lines-index.result c.index-lines-index.is (search rules))) f)) ∙ c.if-is_flat.false))
]
