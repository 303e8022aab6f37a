-- The path of three points on a line is tie free: where two further points come level, they do so at two times, or the middle file point is below.
use Rattle.std.proofs.Common.{◌≡◌, ◌≢◌, ℕ, zero, suc, ◌+◌, ◌-◌, ◌≤◌, List, [], ◌∷◌, arith, refl, subst, inl, inr}
use Rattle.std.proofs.lemmas.Int.{ints}
use Rattle.std.proofs.Math.IntN.{pos, negsuc}
use native.Mathlib.Decide.{ℕ_discrete}
use Rattle.cayley.specs.Times.{Time}
use Rattle.cayley.specs.Problems.{Point}
use Rattle.cayley.specs.Ties.{IsUntied, IsTieFree}
use Rattle.cayley.proofs.Searching.Listing.{Has}
use Rattle.cayley.proofs.Worked.ThreePoints.{three, three_well}
use Rattle.cayley.specs.Dependencies.{nth_support}
use Rattle.start_system.proofs.Worked.OneSupport.{over, untied_by}

abbrev points : List Point
points = nth_support three.supports 0

Untied : ℕ → ℕ → Type 0
Untied a b = (t : Time) → IsUntied three ((a, b) ∷ []) t

-- the third of three, if it is neither of two
one_of : (c d e k : ℕ) → (k ≢ c → k ≢ d → k ≡ e) → Has k (c ∷ d ∷ e ∷ [])
one_of c d e k third = elim (ℕ_discrete k c) [ yes p ↦ inl p | no p ↦ elim (ℕ_discrete k d) [ yes q ↦ inr (inl q) | no q ↦ inr (inr (inl (third p q))) ] ]

-- ---- the ten pairs of positions
one_two : Untied 1 2
unfolding Untied
one_two = untied_by 3 points three_well 1 2 (over 0 (pos 2) (pos 0)) (refl, (((refl, tt), refl), tt)) (3 ∷ 4 ∷ 5 ∷ [])
    (λ k f. one_of 3 4 5 k (λ n i. let p = f.0 in let q = f.1 in let r = f.2 in let s = f.3 in omega (arith, p, q, r, s, n, i))) (
      ((λ q x o y z n. omega (arith, ints, o, y, z)), ((λ q x o y z n. omega (arith, ints, o, y, z)), tt)),
      (((λ q x o y z n. omega (arith, ints, o, y, z)), tt), (tt, tt)),
    )
    ((λ q x o s y. omega (arith, ints, o, s, y)), ((λ q x o s y. omega (arith, ints, o, s, y)), ((λ q x o s y. omega (arith, ints, o, s, y)), tt)))

-- where 4 and 5 are level, 2 is below
one_three : Untied 1 3
unfolding Untied
one_three = untied_by 3 points three_well 1 3 (over 0 (pos 0) (pos 0)) (refl, (((refl, tt), refl), tt)) (2 ∷ 4 ∷ 5 ∷ [])
    (λ k f. one_of 2 4 5 k (λ n i. let p = f.0 in let q = f.1 in let r = f.2 in let s = f.3 in omega (arith, p, q, r, s, n, i))) (
      ((λ q x o y z n. omega (arith, ints, o, y, z)), ((λ q x o y z n. omega (arith, ints, o, y, z)), tt)),
      (((λ q x o y z n. let w = n 2 (omega arith, omega arith, (λ e. omega (arith, e)), (λ e. omega (arith, e))) in omega (arith, ints, o, y, z, w)), tt), (tt, tt)),
    )
    ((λ q x o s y. omega (arith, ints, o, s, y)), ((λ q x o s y. omega (arith, ints, o, s, y)), ((λ q x o s y. omega (arith, ints, o, s, y)), tt)))

-- where 3 and 4 are level, 2 is below
one_five : Untied 1 5
unfolding Untied
one_five = untied_by 3 points three_well 1 5 (over 2 (pos 0) (negsuc 0)) (refl, (((refl, tt), refl), tt)) (2 ∷ 3 ∷ 4 ∷ [])
    (λ k f. one_of 2 3 4 k (λ n i. let p = f.0 in let q = f.1 in let r = f.2 in let s = f.3 in omega (arith, p, q, r, s, n, i))) (
      ((λ q x o y z n. omega (arith, ints, o, y, z)), ((λ q x o y z n. omega (arith, ints, o, y, z)), tt)),
      (((λ q x o y z n. let w = n 2 (omega arith, omega arith, (λ e. omega (arith, e)), (λ e. omega (arith, e))) in omega (arith, ints, o, y, z, w)), tt), (tt, tt)),
    )
    ((λ q x o s y. omega (arith, ints, o, s, y)), ((λ q x o s y. omega (arith, ints, o, s, y)), ((λ q x o s y. omega (arith, ints, o, s, y)), tt)))

two_three : Untied 2 3
unfolding Untied
two_three = untied_by 3 points three_well 2 3 (over 0 (negsuc 0) (pos 0)) (refl, (((refl, tt), refl), tt)) (1 ∷ 4 ∷ 5 ∷ [])
    (λ k f. one_of 1 4 5 k (λ n i. let p = f.0 in let q = f.1 in let r = f.2 in let s = f.3 in omega (arith, p, q, r, s, n, i))) (
      ((λ q x o y z n. omega (arith, ints, o, y, z)), ((λ q x o y z n. omega (arith, ints, o, y, z)), tt)),
      (((λ q x o y z n. omega (arith, ints, o, y, z)), tt), (tt, tt)),
    )
    ((λ q x o s y. omega (arith, ints, o, s, y)), ((λ q x o s y. omega (arith, ints, o, s, y)), ((λ q x o s y. omega (arith, ints, o, s, y)), tt)))

two_four : Untied 2 4
unfolding Untied
two_four = untied_by 3 points three_well 2 4 (over 0 (pos 2) (pos 1)) (refl, (((refl, tt), refl), tt)) (1 ∷ 3 ∷ 5 ∷ [])
    (λ k f. one_of 1 3 5 k (λ n i. let p = f.0 in let q = f.1 in let r = f.2 in let s = f.3 in omega (arith, p, q, r, s, n, i))) (
      ((λ q x o y z n. omega (arith, ints, o, y, z)), ((λ q x o y z n. omega (arith, ints, o, y, z)), tt)),
      (((λ q x o y z n. omega (arith, ints, o, y, z)), tt), (tt, tt)),
    )
    ((λ q x o s y. omega (arith, ints, o, s, y)), ((λ q x o s y. omega (arith, ints, o, s, y)), ((λ q x o s y. omega (arith, ints, o, s, y)), tt)))

two_five : Untied 2 5
unfolding Untied
two_five = untied_by 3 points three_well 2 5 (over 1 (negsuc 1) (negsuc 0)) (refl, (((refl, tt), refl), tt)) (1 ∷ 3 ∷ 4 ∷ [])
    (λ k f. one_of 1 3 4 k (λ n i. let p = f.0 in let q = f.1 in let r = f.2 in let s = f.3 in omega (arith, p, q, r, s, n, i))) (
      ((λ q x o y z n. omega (arith, ints, o, y, z)), ((λ q x o y z n. omega (arith, ints, o, y, z)), tt)),
      (((λ q x o y z n. omega (arith, ints, o, y, z)), tt), (tt, tt)),
    )
    ((λ q x o s y. omega (arith, ints, o, s, y)), ((λ q x o s y. omega (arith, ints, o, s, y)), ((λ q x o s y. omega (arith, ints, o, s, y)), tt)))

-- where 1 and 5 are level, 2 is below
three_four : Untied 3 4
unfolding Untied
three_four = untied_by 3 points three_well 3 4 (over 2 (pos 0) (pos 1)) (refl, (((refl, tt), refl), tt)) (1 ∷ 2 ∷ 5 ∷ [])
    (λ k f. one_of 1 2 5 k (λ n i. let p = f.0 in let q = f.1 in let r = f.2 in let s = f.3 in omega (arith, p, q, r, s, n, i))) (
      ((λ q x o y z n. omega (arith, ints, o, y, z)), ((λ q x o y z n. let w = n 2 (omega arith, omega arith, (λ e. omega (arith, e)), (λ e. omega (arith, e))) in omega (arith, ints, o, y, z, w)), tt)),
      (((λ q x o y z n. omega (arith, ints, o, y, z)), tt), (tt, tt)),
    )
    ((λ q x o s y. omega (arith, ints, o, s, y)), ((λ q x o s y. omega (arith, ints, o, s, y)), ((λ q x o s y. omega (arith, ints, o, s, y)), tt)))

-- where 1 and 3 are level, 2 is below
four_five : Untied 4 5
unfolding Untied
four_five = untied_by 3 points three_well 4 5 (over 0 (pos 0) (pos 0)) (refl, (((refl, tt), refl), tt)) (1 ∷ 2 ∷ 3 ∷ [])
    (λ k f. one_of 1 2 3 k (λ n i. let p = f.0 in let q = f.1 in let r = f.2 in let s = f.3 in omega (arith, p, q, r, s, n, i))) (
      ((λ q x o y z n. omega (arith, ints, o, y, z)), ((λ q x o y z n. let w = n 2 (omega arith, omega arith, (λ e. omega (arith, e)), (λ e. omega (arith, e))) in omega (arith, ints, o, y, z, w)), tt)),
      (((λ q x o y z n. omega (arith, ints, o, y, z)), tt), (tt, tt)),
    )
    ((λ q x o s y. omega (arith, ints, o, s, y)), ((λ q x o s y. omega (arith, ints, o, s, y)), ((λ q x o s y. omega (arith, ints, o, s, y)), tt)))

-- two points in one place are no independent pair
one_four : Untied 1 4
unfolding Untied
one_four t v h = let e = (h.1 (pos 1 ∷ []) refl (refl, tt)).0 in omega (arith, ints, e)

three_five : Untied 3 5
unfolding Untied
three_five t v h = let e = (h.1 (pos 1 ∷ []) refl (refl, tt)).0 in omega (arith, ints, e)

-- the second position by how far it is behind the first
pairs : (a k : ℕ) → 1 ≤ a → a + suc k ≤ 5 → Untied a (a + suc k)
pairs zero k p q = absurd (omega (arith, p))
pairs (suc zero) zero p q = one_two
pairs (suc zero) (suc zero) p q = one_three
pairs (suc zero) (suc (suc zero)) p q = one_four
pairs (suc zero) (suc (suc (suc zero))) p q = one_five
pairs (suc zero) (suc (suc (suc (suc k)))) p q = absurd (omega (arith, q))
pairs (suc (suc zero)) zero p q = two_three
pairs (suc (suc zero)) (suc zero) p q = two_four
pairs (suc (suc zero)) (suc (suc zero)) p q = two_five
pairs (suc (suc zero)) (suc (suc (suc k))) p q = absurd (omega (arith, q))
pairs (suc (suc (suc zero))) zero p q = three_four
pairs (suc (suc (suc zero))) (suc zero) p q = three_five
pairs (suc (suc (suc zero))) (suc (suc k)) p q = absurd (omega (arith, q))
pairs (suc (suc (suc (suc zero)))) zero p q = four_five
pairs (suc (suc (suc (suc zero)))) (suc k) p q = absurd (omega (arith, q))
pairs (suc (suc (suc (suc (suc a))))) k p q = absurd (omega (arith, q))

-- the path of three points has no tie
pub three_tie_free : IsTieFree three
unfolding Untied
three_tie_free [] t v h = h.0
three_tie_free (x ∷ y ∷ cell) t v h = h.0.1
three_tie_free (x ∷ []) t v h =
    let o = h.0.0.0 in let p = h.0.0.1 in let q = h.0.0.2 in
    let e : x.0 + suc (x.1 - suc x.0) ≡ x.1 = omega (arith, p) in
    subst (λ b. Untied x.0 b) e (pairs x.0 (x.1 - suc x.0) o (omega (arith, p, q))) t v h
