-- how a time in lowest terms stands to time 1
use Rattle.std.proofs.Common.{◌≡◌, ℕ, List, [], ◌∷◌, arith, sym, ap₂, subst, ◌∙◌}
use Rattle.std.proofs.lemmas.Int.{ints}
use Rattle.std.proofs.Math.IntN.{ℤ, pos, ◌+ℤ◌, ◌*ℤ◌, neg_ℤ}
use Rattle.std.specs.Ordering.{MatchOrdering}
use Rattle.std.specs.declared.cmp.Ordering.{Ordering}
use Rattle.std.specs.declared.cmp.Ordering.TheVariants.{Less, Equal, Greater}
use Rattle.wide_int.proofs.Ring.{as_D, Ds, same_D}
use Rattle.int_vectors.specs.Vectors.{at, add, scale}
use Rattle.int_vectors.proofs.Entries.{at-scale, at-add, zero_from}
use Rattle.lex_height.specs.declared.part.LexPart.{LexPart}
use Rattle.lex_height.specs.Entries.{entry, entries, at_rank}
use Rattle.lex_height.specs.Order.{IsLess, IsSame}
use Rattle.lex_height.specs.Values as lex
use Rattle.lex_height.proofs.Ranks.{entries_is}
use Rattle.lex_height.proofs.Comparing.{less_as, same_as}
use Rattle.cayley.specs.Times.{Time, IsBefore, IsSameTime}
use Rattle.crossing.proofs.Lists.{less_earlier}
use Rattle.searcher.specs.Passes.{time_one}

-- the parts of 1
abbrev pub one_part : List LexPart
one_part = record { rank = 0; num = pos 1 } ∷ []

one_parts : lex.AreParts 0 one_part
one_parts = (omega arith, (λ e. cc), (let z : ℤ = pos 1 in omega arith), tt)

commuted : (q x : ℤ) → q *ℤ x ≡ x *ℤ q
commuted q x = rw (as_D q, as_D x) (simp Ds (same_D _ _ _ _ (omega arith)))

module _ (u : lex.Value) (low : lex.IsLowest u) (t : Time) (e : t.entries ≡ entries u.parts) (o : t.over ≡ u.den) where
  before_one : IsLess (entry u.parts) u.den (entry one_part) (pos 1) → IsBefore t time_one
  before_one l =
      less_earlier t.entries t.over (pos 1 ∷ []) (pos 1)
      (subst (λ q. IsLess (at t.entries) q (at (pos 1 ∷ [])) (pos 1)) (sym o)
      (subst (λ es. IsLess (at es) u.den (at (pos 1 ∷ [])) (pos 1)) (sym e)
      (less_as (entry u.parts) (at_rank (entries u.parts)) (entry one_part) (at_rank (entries one_part)) u.den (pos 1) (λ k. sym (entries_is u.parts low.0.1 k)) (λ k. sym (entries_is one_part one_parts k)) l)))

  after_one : IsLess (entry one_part) (pos 1) (entry u.parts) u.den → IsBefore time_one t
  after_one l =
      less_earlier (pos 1 ∷ []) (pos 1) t.entries t.over
      (subst (λ q. IsLess (at (pos 1 ∷ [])) (pos 1) (at t.entries) q) (sym o)
      (subst (λ es. IsLess (at (pos 1 ∷ [])) (pos 1) (at es) u.den) (sym e)
      (less_as (entry one_part) (at_rank (entries one_part)) (entry u.parts) (at_rank (entries u.parts)) (pos 1) u.den (λ k. sym (entries_is one_part one_parts k)) (λ k. sym (entries_is u.parts low.0.1 k)) l)))

  at_one : IsSame (entry u.parts) u.den (entry one_part) (pos 1) → IsSameTime t time_one
  at_one s = zero_from (add (scale t.over (pos 1 ∷ [])) (scale (neg_ℤ (pos 1)) t.entries)) each
    where
      same : IsSame (at t.entries) t.over (at (pos 1 ∷ [])) (pos 1)
      same =
          subst (λ q. IsSame (at t.entries) q (at (pos 1 ∷ [])) (pos 1)) (sym o)
          (subst (λ es. IsSame (at es) u.den (at (pos 1 ∷ [])) (pos 1)) (sym e)
          (same_as (entry u.parts) (at_rank (entries u.parts)) (entry one_part) (at_rank (entries one_part)) u.den (pos 1) (λ k. sym (entries_is u.parts low.0.1 k)) (λ k. sym (entries_is one_part one_parts k)) s))

      -- the two products are one number
      none : (y z w : ℤ) → y *ℤ pos 1 ≡ z → w ≡ z → w +ℤ neg_ℤ (pos 1) *ℤ y ≡ pos 0
      none y z w f g = omega (arith, ints, f, g)

      each : (k : ℕ) → at (add (scale t.over (pos 1 ∷ [])) (scale (neg_ℤ (pos 1)) t.entries)) k ≡ pos 0
      each k =
          at-add (scale t.over (pos 1 ∷ [])) (scale (neg_ℤ (pos 1)) t.entries) k
          ∙ ap₂ (λ a b. a +ℤ b) (at-scale t.over (pos 1 ∷ []) k) (at-scale (neg_ℤ (pos 1)) t.entries k)
          ∙ none (at t.entries k) (at (pos 1 ∷ []) k *ℤ t.over) (t.over *ℤ at (pos 1 ∷ []) k) (same k) (commuted t.over (at (pos 1 ∷ []) k))

  pub beside : (r : Ordering) → MatchOrdering r (IsLess (entry u.parts) u.den (entry one_part) (pos 1)) (IsSame (entry u.parts) u.den (entry one_part) (pos 1)) (IsLess (entry one_part) (pos 1) (entry u.parts) u.den)
      → MatchOrdering r (IsBefore t time_one) (IsSameTime t time_one) (IsBefore time_one t)
  beside Less h = before_one h
  beside Equal h = at_one h
  beside Greater h = after_one h

-- what the three answers say
pub is_less : (A B C : Type 0) (r : Ordering) → r ≡ Less → MatchOrdering r A B C → A
is_less A B C r e h = subst (λ o. MatchOrdering o A B C) e h

pub is_equal : (A B C : Type 0) (r : Ordering) → r ≡ Equal → MatchOrdering r A B C → B
is_equal A B C r e h = subst (λ o. MatchOrdering o A B C) e h

pub is_greater : (A B C : Type 0) (r : Ordering) → r ≡ Greater → MatchOrdering r A B C → C
is_greater A B C r e h = subst (λ o. MatchOrdering o A B C) e h
