-- The lists of exponents of a map are the support of its value.
use Rattle.std.proofs.Common.{◌≡◌, ◌≢◌, ℕ, suc, zero, ◌<◌, ℤ, pos, Bool, true, false, cond, List, [], ◌∷◌, length, Option, Some, None, refl, sym, ap, ◌∙◌, arith, slice_index_or}
use Rattle.std.specs.Option.{unwrap_or, is_some}
use Rattle.std.specs.Cmp.{IsEquivalence, eq_by_cmp_equiv, int_cmp_total}
use Rattle.std.specs.Ordering.{eq_by_cmp}
use Rattle.std.specs.Cmp.Lexicographic.{lists_total}
use Rattle.std.specs.Map.{lookup, keys_of}
use Rattle.std.specs.BTreeMap.{is_at}
use Rattle.std.proofs.lemmas.Map.Views.{Contains-keys_from_lookup, IsSome-lookup_from_Contains}
use Rattle.poly_text.specs.Maps.{Monomial, exponents_cmp, coefficient}
use Rattle.poly_text.specs.Values.{IsSupport}
use Rattle.poly_text.proofs.Lengths.{HaveLength}
use Rattle.poly_text.proofs.Totals.{HasNumbers, same_is, coefficient_total}
use Rattle.poly_text.proofs.TreeValues.{HasValue}

laws : IsEquivalence (eq_by_cmp exponents_cmp)
laws = eq_by_cmp_equiv (lists_total int_cmp_total)

long_at : (n : ℕ) (f : List Monomial) (k : ℕ) (d : List ℤ) → HaveLength n f → k < length (keys_of f) → length (slice_index_or (keys_of f) k d) ≡ n
long_at n [] k d h l = absurd (omega (arith, l))
long_at n (t ∷ ts) zero d h l = h.0
long_at n (t ∷ ts) (suc k) d h l = long_at n ts k d h.1 (omega (arith, l))

found_number : (xs : List ℤ) (f : List Monomial) → HasNumbers f → is_some (lookup (is_at (exponents_cmp xs)) f) ≡ true → coefficient xs f ≢ pos 0
found_number xs [] h s = absurd cc
found_number xs (t ∷ ts) h s = by (is_at (exponents_cmp xs) t.0) s (found_number xs ts h.1)
  where
    by : (b : Bool) → is_some (cond b (Some t.1) (lookup (is_at (exponents_cmp xs)) ts)) ≡ true
        → (is_some (lookup (is_at (exponents_cmp xs)) ts) ≡ true → coefficient xs ts ≢ pos 0) → unwrap_or (cond b (Some t.1) (lookup (is_at (exponents_cmp xs)) ts)) (pos 0) ≢ pos 0
    by true s later = h.0
    by false s later = later s

found_by : (xs : List ℤ) (f : List Monomial) (o : Option ℤ) → lookup (is_at (exponents_cmp xs)) f ≡ o → unwrap_or o (pos 0) ≢ pos 0 → is_some (lookup (is_at (exponents_cmp xs)) f) ≡ true
found_by xs f (Some z) e h = ap (λ (p : Option ℤ). is_some p) e
found_by xs f None e h = absurd (h refl)

pub support_is : (n : ℕ) (v f : List Monomial) → HasValue n v f → IsSupport n v (keys_of f)
support_is n v f p = record {
  ascending = p.is_map.ascending;
  exactly = λ xs. (
    λ c.
        let long : length xs ≡ n = ap (λ (ys : List ℤ). length ys) (sym c.2) ∙ long_at n f c.0 xs p.long c.1 in
        let some = IsSome-lookup_from_Contains laws xs f c in
        (long, λ z. found_number xs f p.is_map.numbers some (coefficient_total xs f p.is_map.ascending ∙ p.same xs long ∙ z)),
    λ q. Contains-keys_from_lookup (λ ys zs e. same_is ys zs e) xs f
        (found_by xs f (lookup (is_at (exponents_cmp xs)) f) refl (λ z. q.1 (sym (p.same xs q.0) ∙ sym (coefficient_total xs f p.is_map.ascending) ∙ z))),
  );
}
