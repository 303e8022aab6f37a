-- of each branch there is one answer, so each comes exactly where its cause is
use Rattle.std.proofs.Common.{◌≡◌, ◌↔◌, inl, inr, refl, sym, subst}
use Rattle.std.specs.Prelude.{Result, Ok, Err, MatchResult}
use Rattle.cayley.specs.Problems.{Problem}
use Rattle.searcher.specs.declared.branches.Branch.{Branch}
use Rattle.searcher.specs.declared.expansions.Expansion.{Expansion}
use Rattle.searcher.specs.declared.expansions.Expansion.TheVariants.{Inner, Target, Endless, Stranger}
use Rattle.searcher.specs.declared.expansions.Halt.{Halt}
use Rattle.searcher.specs.declared.expansions.HaltCause.{HaltCause}
use Rattle.searcher.specs.declared.expansions.HaltCause.TheVariants.{Tie, Overflow, OutOfMemory}
use Rattle.searcher.specs.Expansions.{Kind, stranger, overflow, tie, target, endless, inner, IsOfKind, IsSettled, kind_of, IsAnswer, HasAnswer, IsExpansion, IsCause, IsHalt, HadMemory, IsCauseOf}

module _ (p : Problem) (b : Branch) where
  not_stranger : {R : Type 0} → IsOfKind p b stranger → IsSettled p b → R
  not_stranger (inl n) s = absurd (n s.0)
  not_stranger (inr n) s = absurd (n.1 s.2)

  not_overflow : {R : Type 0} → IsOfKind p b overflow → IsSettled p b → R
  not_overflow h s = absurd (h.1 s.1)

  one_kind : (k l : Kind) → IsOfKind p b k → IsOfKind p b l → k ≡ l
  one_kind stranger stranger h i = refl
  one_kind stranger overflow (inl n) i = absurd (n i.0)
  one_kind stranger overflow (inr n) i = absurd (i.1 n.0)
  one_kind stranger tie h i = not_stranger h i.0
  one_kind stranger target h i = not_stranger h i.0
  one_kind stranger endless h i = not_stranger h i.0
  one_kind stranger inner h i = not_stranger h i.0
  one_kind overflow stranger h (inl n) = absurd (n h.0)
  one_kind overflow stranger h (inr n) = absurd (h.1 n.0)
  one_kind overflow overflow h i = refl
  one_kind overflow tie h i = not_overflow h i.0
  one_kind overflow target h i = not_overflow h i.0
  one_kind overflow endless h i = not_overflow h i.0
  one_kind overflow inner h i = not_overflow h i.0
  one_kind tie stranger h i = not_stranger i h.0
  one_kind tie overflow h i = not_overflow i h.0
  one_kind tie tie h i = refl
  one_kind tie target h i = absurd (i.1 h.1)
  one_kind tie endless h i = absurd (i.1 h.1)
  one_kind tie inner h i = absurd (i.1 h.1)
  one_kind target stranger h i = not_stranger i h.0
  one_kind target overflow h i = not_overflow i h.0
  one_kind target tie h i = absurd (h.1 i.1)
  one_kind target target h i = refl
  one_kind target endless h i = absurd (i.3 h.3)
  one_kind target inner h i = absurd (i.2 h.2)
  one_kind endless stranger h i = not_stranger i h.0
  one_kind endless overflow h i = not_overflow i h.0
  one_kind endless tie h i = absurd (h.1 i.1)
  one_kind endless target h i = absurd (h.3 i.3)
  one_kind endless endless h i = refl
  one_kind endless inner h i = absurd (i.2 h.2)
  one_kind inner stranger h i = not_stranger i h.0
  one_kind inner overflow h i = not_overflow i h.0
  one_kind inner tie h i = absurd (h.1 i.1)
  one_kind inner target h i = absurd (h.2 i.2)
  one_kind inner endless h i = absurd (h.2 i.2)
  one_kind inner inner h i = refl

  -- an expansion is of its kind
  kind_is : (e : Expansion) → IsExpansion p b e → IsOfKind p b (kind_of e)
  kind_is (Inner children) h = h.0
  kind_is (Target found) h = h.0
  kind_is Endless h = h
  kind_is (Stranger branch) h = h.0

  cause_to : (k : Kind) (cause : HaltCause) → IsCause p b cause → IsCauseOf k cause → IsOfKind p b k
  cause_to k (Tie proof) h e = subst (IsOfKind p b) (sym e) h.0
  cause_to k (Overflow cell) h e = subst (IsOfKind p b) (sym e) h.0
  cause_to k OutOfMemory h e = absurd e

  cause_from : (k : Kind) (cause : HaltCause) → IsCause p b cause → HadMemory cause → IsOfKind p b k → IsCauseOf k cause
  cause_from k (Tie proof) h m i = one_kind k tie i h.0
  cause_from k (Overflow cell) h m i = one_kind k overflow i h.0
  cause_from k OutOfMemory h m i = absurd m

  pub exactly_is : (r : Result Expansion Halt) → MatchResult r (IsExpansion p b) (IsHalt p b) → HasAnswer r → (k : Kind) → IsAnswer k r ↔ IsOfKind p b k
  exactly_is (Ok e) h m k = ((λ a. subst (IsOfKind p b) (sym a) (kind_is e h)), λ i. one_kind k (kind_of e) i (kind_is e h))
  exactly_is (Err halt) h m k = ((λ a. cause_to k halt.cause h.1 a), λ i. cause_from k halt.cause h.1 m i)
