-- children that are put behind other branches one by one
use Rattle.std.proofs.Common.{◌≡◌, ◌∙◌, ◌↔◌, ℕ, List, [], ◌∷◌, ◌++◌, inl, inr, refl, sym, ap, append_assoc, append-nil}
use Rattle.lex_height.specs.Values as lex
use Rattle.cayley.specs.declared.found.Begin.TheVariants.{At}
use Rattle.cayley.specs.declared.found.Sign.{Sign}
use Rattle.cayley.specs.Problems.{Problem}
use Rattle.cayley.specs.Cells.{Cell, IsListOf}
use Rattle.cayley.specs.Parents.{Precedes, IsParent}
use Rattle.cayley.proofs.Searching.Listing.{Has}
use Rattle.cayley.proofs.Searching.Members.{has_contains, contains_has}
use Rattle.flip_rule.specs.Rules.{IsSuccessor}
use Rattle.searcher.specs.declared.branches.Branch.{Branch}
use Rattle.searcher.specs.declared.expansions.Children.TheVariants.{None, One, Two}
use Rattle.searcher.specs.Kept.{EndsAtWall}
use Rattle.searcher.specs.Turns.{PutsChildren}
use Rattle.searcher.proofs.KeptChildren.{one_kept, both_kept}

module _ (p : Problem) (cell : Cell) (j c : ℕ) (signs : Sign × Sign) (u : lex.Value) (w : EndsAtWall p cell j c signs u) (old : List Branch)
    (T : Type 0) (least : (tau : Cell) → (IsSuccessor cell j c signs tau × T) ↔ IsParent p cell tau) where
  abbrev pub as_branch : Cell → Branch
  as_branch x = record { cell = x; begin = At u }

  pub none_put : ¬ T → PutsChildren p cell old old
  none_put n = (
    None,
    sym (append-nil old),
    (tt, (tt, λ tau. ((λ k. absurd (contains_has [] tau k)), (λ h. absurd (n ((least tau).1 h).1))))),
  )

  module _ (t : T) where
    is_parent : (xs : List Cell) → IsListOf (IsSuccessor cell j c signs) xs → (x : Cell) → Has x xs → IsParent p cell x
    is_parent xs l x h = (least x).0 ((l.1 x).0 (has_contains xs x h), t)

    pub one_put : (x : Cell) (new : List Branch) → IsListOf (λ tau. Precedes p cell tau w.t) (x ∷ []) → IsListOf (IsSuccessor cell j c signs) (x ∷ [])
        → new ≡ old ++ as_branch x ∷ [] → PutsChildren p cell old new
    one_put x new l s e = (One (as_branch x), e, one_kept p cell j c signs u w x (as_branch x) l (is_parent (x ∷ []) s x (inl refl), refl))

    pub two_put : (x y : Cell) (mid new : List Branch) → IsListOf (λ tau. Precedes p cell tau w.t) (x ∷ y ∷ []) → IsListOf (IsSuccessor cell j c signs) (x ∷ y ∷ [])
        → mid ≡ old ++ as_branch x ∷ [] → new ≡ mid ++ as_branch y ∷ [] → PutsChildren p cell old new
    two_put x y mid new l s e f = (
      Two (as_branch x) (as_branch y),
      f ∙ ap (λ l. l ++ as_branch y ∷ []) e ∙ append_assoc old (as_branch x ∷ []) (as_branch y ∷ []),
      both_kept p cell j c signs u w x y l (as_branch x) (as_branch y) (is_parent (x ∷ y ∷ []) s x (inl refl), refl) (is_parent (x ∷ y ∷ []) s y (inr (inl refl)), refl),
    )
