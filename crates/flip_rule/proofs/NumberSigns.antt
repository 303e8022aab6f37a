-- numbers with given signs
use Rattle.std.proofs.Common.{◌≡◌, ◌↔◌, ◌<ℤ◌, arith, refl, sym, subst, inl, inr}
use Rattle.std.proofs.lemmas.Int.{ints}
use Rattle.std.proofs.Math.IntN.{ℤ, pos, negsuc}
use Rattle.cayley.specs.declared.found.Sign.{Sign}
use Rattle.cayley.specs.declared.found.Sign.TheVariants.{Minus, Zero, Plus}
use Rattle.cayley.specs.Signs.{HasSign, HaveSigns}
use Rattle.flip_rule.specs.Signs.{HasMinus}

abbrev pub number_of : Sign → ℤ
number_of Minus = negsuc 0
number_of Zero = pos 0
number_of Plus = pos 1

pub has_number : (s : Sign) → HasSign s (number_of s)
has_number Minus = omega (arith, ints)
has_number Zero = refl
has_number Plus = omega (arith, ints)

abbrev IsMinus : Sign → Type 0
IsMinus Minus = Unit {0}
IsMinus Zero = ⊥
IsMinus Plus = ⊥

abbrev IsZero : Sign → Type 0
IsZero Minus = ⊥
IsZero Zero = Unit {0}
IsZero Plus = ⊥

abbrev IsPlus : Sign → Type 0
IsPlus Minus = ⊥
IsPlus Zero = ⊥
IsPlus Plus = Unit {0}

pub minus_not_plus : ¬ (Minus ≡ Plus)
minus_not_plus e = subst IsMinus e tt

pub zero_not_plus : ¬ (Zero ≡ Plus)
zero_not_plus e = subst IsZero e tt

pub below_is : (s : Sign) (k : ℤ) → HasSign s k → (k <ℤ pos 0) ↔ (s ≡ Minus)
below_is Minus k h = ((λ l. refl), (λ e. h))
below_is Zero k h = ((λ l. absurd (omega (arith, ints, h, l))), (λ e. absurd (subst IsMinus (sym e) tt)))
below_is Plus k h = ((λ l. absurd (omega (arith, ints, h, l))), (λ e. absurd (subst IsMinus (sym e) tt)))

pub above_is : (s : Sign) (k : ℤ) → HasSign s k → (pos 0 <ℤ k) ↔ (s ≡ Plus)
above_is Minus k h = ((λ l. absurd (omega (arith, ints, h, l))), (λ e. absurd (subst IsPlus (sym e) tt)))
above_is Zero k h = ((λ l. absurd (omega (arith, ints, h, l))), (λ e. absurd (subst IsPlus (sym e) tt)))
above_is Plus k h = ((λ l. refl), (λ e. h))

-- not both are positive
pub not_both : (signs : Sign × Sign) (m : ℤ × ℤ) → HaveSigns signs m → HasMinus signs → ¬ ((pos 0 <ℤ m.0) × (pos 0 <ℤ m.1))
not_both signs m h e q =
    elim e [
      | inl z ↦ let l = (below_is signs.0 m.0 h.0).1 z in let g = q.0 in absurd (omega (arith, ints, l, g))
      | inr z ↦ let l = (below_is signs.1 m.1 h.1).1 z in let g = q.1 in absurd (omega (arith, ints, l, g))
    ]
