-- the answer of one sum
use Rattle.std.proofs.Common.{rules, ◌≡◌, ◌≢◌, ◌↔◌, Bool, ◌<ℤ◌, ◌+ℤ◌, ℤ, pos, List, Option, None, Some, SomeIff, sym, ◌∙◌, ap, subst}
use Rattle.std.specs.Prelude.{IsTrue}
use Rattle.std.specs.Int.Signed.{lt_z}
use Rattle.wide_int.specs.Whole.{FitsWhole}
use Rattle.int_vectors.specs.Fits.{FitsDot}
use Rattle.int_vectors.specs.Vectors.{dot}

pub no_start : (start : ℤ) (xs v : List ℤ) → ¬ (FitsWhole start) → ¬ (FitsWhole start × FitsDot start xs v)
no_start start xs v n f = n f.0

pub rise_answer : (r : Option ℤ) (s start : ℤ) (xs v : List ℤ) → FitsWhole start → s ≡ start → SomeIff r (FitsDot s xs v) (s +ℤ dot xs v) → SomeIff r (FitsWhole start × FitsDot start xs v) (start +ℤ dot xs v)
rise_answer None s start xs v f e h = λ g. h (subst (λ z. FitsDot z xs v) (sym e) g.1)
rise_answer (Some x) s start xs v f e h = ((f, subst (λ z. FitsDot z xs v) e h.0), h.1 ∙ ap (λ z. z +ℤ dot xs v) e)

-- the code's test
positive_test : (z : ℤ) → IsTrue (lt_z (pos 0) z) ↔ (pos 0 <ℤ z)
positive_test z = search rules

pub tested : (s z : ℤ) (P : Type 0) → s ≡ z → (pos 0 <ℤ z) ↔ P → IsTrue (lt_z (pos 0) s) ↔ P
tested s z P e r = (
  (λ h. r.0 ((positive_test z).0 (subst (λ x. IsTrue (lt_z (pos 0) x)) e h))),
  (λ p. subst (λ x. IsTrue (lt_z (pos 0) x)) (sym e) ((positive_test z).1 (r.1 p))),
)

pub is_free : (s z : ℤ) (b : Bool) (P : Type 0) → s ≡ z → IsTrue b ↔ (s ≢ pos 0) → (z ≢ pos 0) ↔ P → IsTrue b ↔ P
is_free s z b P e t r = (
  (λ h. r.0 (λ i. t.0 h (e ∙ i))),
  (λ p. t.1 (λ i. r.1 p (sym e ∙ i))),
)
