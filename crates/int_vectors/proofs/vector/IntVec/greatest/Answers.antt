use Rattle.std.proofs.Common.{List, ℤ, sym, subst, ◌∙◌}
use Rattle.int_vectors.specs.Bounds.{Within}
use Rattle.int_vectors.proofs.vector.IntVec.greatest.Goals as goal

pub returns-clause-least : goal.returns-clause-least
returns-clause-least c = λ v h. c.greatest.ensures.least v (subst (λ (xs : List ℤ). Within v xs) (sym c.self.view_is ∙ sym c.deref.ensures.value) h)
