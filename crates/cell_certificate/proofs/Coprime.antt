-- the gcd of all and the numbers that divide all
use Rattle.std.proofs.Common.{rules, FitsSigned, to_z, of_z, to_z-of_z, ◌≤ℤ◌, ◌≡◌, ◌↔◌, ℕ, List, [], ◌∷◌, ◌∙◌, sym, ap, subst, unsigned_abs}
use Rattle.std.specs.Prelude.{IsTrue, nat_eq}
use Rattle.std.proofs.Math.IntN.{ℤ, pos}
use Rattle.std.specs.Int.{IsGcd, w128}
use Rattle.wide_int.proofs.Signed.{as_pos}
use Rattle.std.proofs.lemmas.Nat.Gcd.{dvd_antisymm}
use Rattle.std.proofs.Math.Nat.{one-dvd}
use Prim.Native.Nat.{◌∣◌}
use Rattle.int_vectors.specs.Vectors.{Each}
use Rattle.int_vectors.specs.Contents.{content, DividesEach}
use Rattle.int_vectors.proofs.EntryDivisors.{content_is, divides_trans}
use Rattle.cayley.specs.Mixed.{IsCoprime}

each_from : (d : ℕ) (xs : List ℤ) → DividesEach d xs → Each xs (λ x. d ∣ unsigned_abs x)
each_from d [] h = tt
each_from d (x ∷ xs) h = (h.0, each_from d xs h.1)

each_to : (d : ℕ) (xs : List ℤ) → Each xs (λ x. d ∣ unsigned_abs x) → DividesEach d xs
each_to d [] h = tt
each_to d (x ∷ xs) h = (h.0, each_to d xs h.1)

-- of a number and a vector: coprime exactly where the gcd is 1
pub coprime_by : (den : ℤ) (v : List ℤ) (g : ℕ) → IsGcd (unsigned_abs den) (content v) g → (g ≡ 1) ↔ IsCoprime (den ∷ v)
coprime_by den v g is =
    let c = content_is v in (
      (λ e d h. dvd_antisymm (subst (λ n. d ∣ n) e (is.2 d h.0 (c.1 d (each_to d v h.1)))) (one-dvd d)),
      (λ coprime. coprime g (is.0, each_from g v (divides_trans g (content v) v is.1 c.0))),
    )

equal_test : (a b : ℕ) → IsTrue (nat_eq a b) ↔ (a ≡ b)
equal_test a b = search rules

-- the code's test for 1
pub one_test : (z : ℤ) → FitsSigned w128 z → pos 0 ≤ℤ z → IsTrue (nat_eq (of_z w128 z) 1) ↔ (unsigned_abs z ≡ 1)
one_test z f h = (
  (λ t. ap unsigned_abs (sym (to_z-of_z {w = w128} {z = z} f) ∙ ap (to_z w128) ((equal_test (of_z w128 z) 1).0 t))),
  (λ e. (equal_test (of_z w128 z) 1).1 (ap (of_z w128) (as_pos z h ∙ ap pos e))),
)

pub coprime_content : (den : ℤ) (v : List ℤ) → IsCoprime (den ∷ v) → content (den ∷ v) ≡ 1
coprime_content den v h = h (content (den ∷ v)) (each_from (content (den ∷ v)) (den ∷ v) (content_is (den ∷ v)).0)
