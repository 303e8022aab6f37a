use Rattle.std.proofs.Common.{rules, ◌≡◌, ◌∙◌, ◌+◌, ◌<ℤ◌, List, ℤ, pos, length, unsigned_abs, sym, ap, ap₂, subst, FitsSigned, to_z-of_z}
use Rattle.std.specs.Int.{w64, w128}
use Rattle.int_vectors.specs.Bounds.{Within}
use Rattle.int_vectors.specs.Vectors.{Each}
use Rattle.inner_normal.specs.Inverses.{Inverse, scaled_columns, inverse_of}
use Rattle.inner_normal.proofs.Meaning.{length-columns, columns_long}
use Rattle.carried_inverse.specs.Systems.{IsInverseOfCell}
use Rattle.carried_inverse.proofs.FromRows.{inverse_of_cell}
use Rattle.carried_inverse.proofs.carried.Carried.of.Goals as goal

pub invariant_of-result : goal.invariant_of-result
invariant_of-result c =
    let fd : FitsSigned w64 c.in-Some-short.den = search rules in
    let fw : FitsSigned w128 c.in-Some.den = search rules in
    let n = length c.args.reduced.now in
    let e = simp to_z-of_z at c.in-Some-short.ensures in
    let i = simp to_z-of_z at c.in_ok-columns.ensures in
    let l = ap length i ∙ length-columns n (n + 2) (unsigned_abs c.in-Some.den) c.args.reduced.now in
    let w = subst (λ (xs : List (List ℤ)). Each xs (λ x. length x ≡ length c.args.reduced.now)) (sym i) (columns_long n (n + 2) (unsigned_abs c.in-Some.den) c.args.reduced.now) in
    let s : length c.in_ok-shares.shares.items ≡ length c.args.reduced.now = search rules in
    let k : length c.in_ok-kept.kept.items ≡ length c.args.reduced.now = search rules in
    let t : c.in_ok-spare.spare.items ≡ c.in_ok-columns.columns.items = c.in_ok-spare.ensures ∙ c.deref-2.ensures.value in
    simp to_z-of_z (
      rw e c.in-Some.ensures.positive,
      subst (λ m. Each c.in_ok-columns.columns.items (λ x. length x ≡ m)) (sym l) w,
      s ∙ sym l,
      k ∙ sym l,
      (simp to_z-of_z at c.greatest_of-most.ensures.den),
      subst (λ (xs : List (List ℤ)). Each xs (Within c.greatest_of-most.result)) c.deref.ensures.value c.greatest_of-most.ensures.columns,
      ap length t,
      subst (λ (xs : List (List ℤ)). Each xs (λ x. length x ≡ length c.in_ok-columns.columns.items)) (sym t) (subst (λ m. Each c.in_ok-columns.columns.items (λ x. length x ≡ m)) (sym l) w),
    )

pub returns-clause-inverse : goal.returns-clause-inverse
returns-clause-inverse c =
    let fd : FitsSigned w64 c.in-Some-short.den = search rules in
    let fw : FitsSigned w128 c.in-Some.den = search rules in
    let n = length c.args.reduced.now in
    let e = simp to_z-of_z at c.in-Some-short.ensures in
    let i = simp to_z-of_z at c.in_ok-columns.ensures in
    let d = c.in-Some.ensures.value.1 in
    let same : inverse_of c.args.reduced.now ≡ mk c.in-Some-short.den c.in_ok-columns.columns.items =
    ap₂ mk (sym (e ∙ d)) (ap (λ l. scaled_columns n (n + 2) l c.args.reduced.now) (sym (ap unsigned_abs d)) ∙ sym i) in
    simp to_z-of_z (λ p cell well of done. subst (IsInverseOfCell p cell) same
    (inverse_of_cell p cell well of c.args.reduced.now done (subst (λ z. pos 0 <ℤ z) d c.in-Some.ensures.positive)))
  where
    mk : ℤ → List (List ℤ) → Inverse
    mk den columns = record { den = den; columns = columns }
