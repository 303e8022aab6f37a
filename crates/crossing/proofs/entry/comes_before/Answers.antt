use Rattle.std.proofs.Common.{◌≡◌, ◌↔◌, pos, neg_ℤ, ◌<ℤ◌, Bool, Ordering, Less, Equal, Greater, IsTrue, true≢false, sym, ◌∙◌}
use Rattle.std.specs.Ordering.{MatchOrdering, is_lt}
use Rattle.lex_height.proofs.Comparing.{less_not_same, less_not_back}
use Rattle.crossing.specs.declared.line.WallLine.{WallLine}
use Rattle.crossing.specs.Leading.{start}
use Rattle.crossing.specs.Found.{RisesFirst, RisesWith, FallsFirst}
use Rattle.crossing.proofs.entry.comes_before.Goals as goal

told : (o : Ordering) (x y : WallLine) (b : Bool) → pos 0 <ℤ x.beta → pos 0 <ℤ neg_ℤ y.beta → MatchOrdering o (RisesFirst x y) (RisesWith x y) (FallsFirst x y) → b ≡ is_lt o → IsTrue b ↔ RisesFirst x y
told Less x y b gx gy m e = (λ t. m, λ h. e)
told Equal x y b gx gy m e = (λ t. absurd (true≢false (sym t ∙ e)), λ h. absurd (less_not_same (λ k. neg_ℤ (start x k)) x.beta (start y) (neg_ℤ y.beta) h m))
told Greater x y b gx gy m e = (λ t. absurd (true≢false (sym t ∙ e)), λ h. absurd (less_not_back (λ k. neg_ℤ (start x k)) x.beta (start y) (neg_ℤ y.beta) gx gy h m))

pub returns : goal.returns
returns c = told c.compare_zeros.result c.args.rise.now c.args.fall.now c.is_lt.result c.requires.rises c.requires.falls c.compare_zeros.ensures c.is_lt.ensures
