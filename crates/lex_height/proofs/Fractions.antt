-- a fraction as a value
use Rattle.std.proofs.Common.{◌≡◌, ◌≢◌, ℕ, zero, suc, ◌≤◌, ◌<◌, List, [], ◌∷◌, length, unsigned_abs, arith, refl, sym, subst, ◌∙◌, ap, ◌<ℤ◌}
use Prim.Native.Nat.{◌∣◌}
use Rattle.std.proofs.Math.IntN.{ℤ, pos, ◌*ℤ◌}
use Rattle.std.proofs.Math.ListN.{get_or}
use Rattle.std.proofs.Math.Nat.{one-dvd}
use Rattle.std.proofs.lemmas.Int.{ints}
use Rattle.std.proofs.lemmas.Nat.Gcd.{dvd_antisymm, dvd-zero}
use Rattle.wide_int.specs.Whole.{FitsWhole}
use Rattle.wide_int.specs.Fractions as fractions
use Rattle.wide_int.specs.Fractions.{Fraction}
use Rattle.lex_height.specs.declared.part.LexPart.{LexPart}
use Rattle.lex_height.specs.Entries.{entry}
use Rattle.lex_height.specs.Values.{Value, AreParts, IsLowest}
use Rattle.lex_height.proofs.Ranks.{entry_below}

pub of_some : (f : Fraction) → fractions.IsLowest f → f.num ≢ pos 0 → IsLowest (record { parts = record { rank = 0; num = f.num } ∷ []; den = f.den })
of_some f h n = ((omega arith, (omega arith, n, h.2, tt), h.0, h.3), λ d k m. dvd_antisymm (h.1.2 d m.0 k) (one-dvd d))

pub of_none : (f : Fraction) → fractions.IsLowest f → f.num ≡ pos 0 → IsLowest (record { parts = []; den = f.den })
of_none f h e = ((omega arith, tt, h.0, h.3), λ d k m. dvd_antisymm (h.1.2 d (subst (λ (z : ℤ). d ∣ unsigned_abs z) (sym e) (dvd-zero d)) k) (one-dvd d))

-- nothing stands at rank 0
pub none_at_zero : (parts : List LexPart) → length parts < 1 → entry parts 0 ≡ pos 0
none_at_zero [] h = refl
none_at_zero (p ∷ parts) h = absurd (omega (arith, h))

pub later_at_zero : (parts : List LexPart) (d : LexPart) → AreParts 0 parts → 1 ≤ length parts → ¬ ((get_or parts 0 d).rank ≡ 0) → entry parts 0 ≡ pos 0
later_at_zero [] d h le n = refl
later_at_zero (p ∷ parts) d h le n = entry_below p.rank (p ∷ parts) (omega arith, h.1, h.2, h.3) 0 (above p.rank n)
  where
    above : (r : ℕ) → ¬ (r ≡ 0) → 0 < r
    above zero n = absurd (n refl)
    above (suc r) n = omega arith

-- 0 / 1 is the fraction of nothing
pub zero_fraction : (f : Fraction) (z d : ℤ) → f.num *ℤ pos 1 ≡ pos 0 *ℤ f.den → z ≡ pos 0 → f.num *ℤ d ≡ z *ℤ f.den
zero_fraction f z d e h = let n : f.num ≡ pos 0 = omega (arith, ints, e) in rw (n, h) (omega (arith, ints))
