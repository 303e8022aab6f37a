use Rattle.std.proofs.Common.{rules, ◌≡◌, ◌∙◌, ap, sym, ℤ, ℕ, pos, List, [], ◌∷◌, ◌++◌, ◌+◌, FitsSigned, to_z-of_z, arith, if◌then◌else◌}
use Rattle.std.specs.Int.{w128}
use Rattle.std.proofs.lemmas.Int.{to_z-of_z as wide_is}
use Rattle.std.specs.Ordering.{int_eq}
use Rattle.std.proofs.lemmas.List.FromFn.{map-range_with_len_more}
use Rattle.poly_text.specs.Maps.{exponents_of}
use Rattle.poly_text.proofs.exponents.exponents_of.Goals as goal

one_more : (made grown : List ℤ) (j : ℕ) (i k z : ℤ) → made ≡ exponents_of j i k → grown ≡ made ++ z ∷ [] → z ≡ (if int_eq i (pos (j + 1)) then k else pos 0) → grown ≡ exponents_of (j + 1) i k
one_more made grown j i k z e more is =
    more ∙ ap (λ (l : List ℤ). l ++ z ∷ []) e ∙ ap (λ (w : ℤ). exponents_of j i k ++ w ∷ []) is
    ∙ sym (map-range_with_len_more (λ (m : ℕ). if int_eq i (pos (m + 1)) then k else pos 0) 0 j j (omega arith))

pub loop-j-preserved : goal.loop-j-preserved
loop-j-preserved c =
    let wi : FitsSigned w128 c.args.i = c.ranges.i in
    let wk : FitsSigned w128 c.args.k = c.ranges.k in
    let wz : FitsSigned w128 c.exponent_at.result = search rules in
    let inv : c.loop-j.exponents.items ≡ exponents_of c.loop-j.j c.args.i c.args.k = simp to_z-of_z at c.loop-j.invariant in
    let is : c.exponent_at.result ≡ (if int_eq c.args.i (pos (c.loop-j.j + 1)) then c.args.k else pos 0) = search rules in
    let more : c.push_reserved.new.self.items ≡ c.loop-j.exponents.items ++ c.exponent_at.result ∷ [] =
    c.push_reserved.ensures.items ∙ ap (λ (z : ℤ). c.reserve.new.self.items ++ z ∷ []) (wide_is w128 c.exponent_at.result wz) ∙ ap (λ (l : List ℤ). l ++ c.exponent_at.result ∷ []) c.reserve.ensures.items in
    simp to_z-of_z (one_more c.loop-j.exponents.items c.push_reserved.new.self.items c.loop-j.j c.args.i c.args.k c.exponent_at.result inv more is)
