use Rattle.std.proofs.Common.{refl, inl, inr}
use Rattle.search_core.specs.declared.branches.Hand.TheVariants.{Empty, One}
use Rattle.search_core.proofs.branches.Hand.has_child.Goals as goal

pub returns-in-One-2 : goal.returns-in-One-2
returns-in-One-2 c = elim c.in-One.is [
  | inl h ↦ ((λ t. (h.0, Empty, inl (h.1, refl))), λ w. refl)
  | inr h ↦ ((λ t. (h.0, One h.1, inr (h.1, h.2, refl))), λ w. refl)
]
