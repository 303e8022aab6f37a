-- normals that are compared number by number
use Rattle.std.proofs.Common.{◌≡◌, ◌↔◌, Bool, IsTrue, List, refl, sym, ap, ap₂, subst, ◌∙◌}
use Rattle.std.proofs.Math.IntN.{ℤ}
use Rattle.std.specs.Cmp.Lexicographic.{slice_cmp}
use Rattle.std.specs.Ordering.{int_cmp, is_eq}
use Rattle.std.specs.declared.cmp.Ordering.{Ordering}
use Rattle.std.specs.declared.cmp.Ordering.TheVariants.{Less, Equal, Greater}
use Rattle.cayley.specs.declared.found.Normal.{Normal}
use Rattle.cayley.proofs.Refusals.Repeats.{lists_equal, equal_lists}

is_equal : (o : Ordering) → IsTrue (is_eq o) → o ≡ Equal
is_equal Less t = cc
is_equal Equal t = refl
is_equal Greater t = cc

pub same_normals : (x y : Normal) (u v : List ℤ) (o : Ordering) (r : Bool) → x.den ≡ y.den → u ≡ x.v → v ≡ y.v → o ≡ slice_cmp int_cmp u v → r ≡ is_eq o → IsTrue r ↔ (x ≡ y)
same_normals x y u v o r d eu ev eo er = (to, from)
  where
    to : IsTrue r → x ≡ y
    to t =
        let e = lists_equal u v (sym eo ∙ is_equal o (subst (λ b. IsTrue b) er t)) in
        ap₂ (λ (w : List ℤ) (n : ℤ). record { v = w; den = n }) (sym eu ∙ e ∙ ev) d

    from : x ≡ y → IsTrue r
    from e =
        let same : u ≡ v = eu ∙ ap (λ (n : Normal). n.v) e ∙ sym ev in
        er ∙ ap is_eq (eo ∙ ap (slice_cmp int_cmp u) (sym same) ∙ equal_lists u)
