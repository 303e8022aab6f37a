use Rattle.std.proofs.Common.{rules, ◌≡◌, ap₂, sym, subst, FitsSigned, to_z-of_z, ℤ, ◌*ℤ◌, List, true, false, Some, None, if◌then◌else◌}
use Rattle.std.specs.Int.{w128}
use Rattle.std.specs.List.{list_all}
use Rattle.poly_text.specs.Maps.{sum_of_exponents, times}
use Rattle.poly_text.specs.Bounds.{fits}
use Rattle.poly_text.specs.Collecting.{plain}
use Rattle.poly_text.proofs.TermSums.{no_exponents, no_number, decides, test_failed, test_passed}
use Rattle.poly_text.proofs.collected.Collected.add_product.Goals as goal

same_sums : (xs ys us vs made : List ℤ) → xs ≡ us → ys ≡ vs → (if list_all fits (sum_of_exponents xs ys) then Some (sum_of_exponents xs ys) else None) ≡ Some made
    → (if list_all fits (sum_of_exponents us vs) then Some (sum_of_exponents us vs) else None) ≡ Some made
same_sums xs ys us vs made p q h = subst (λ (l : List ℤ). (if list_all fits l then Some l else None) ≡ Some made) (ap₂ sum_of_exponents p q) h

pub returns-in_default : goal.returns-in_default
returns-in_default c =
    let zs = sum_of_exponents c.args.left.now.0.items c.args.right.now.0.items in
    let made : (if list_all fits zs then Some zs else None) ≡ None = search (rules, c.in_default.is, c.in_ok-exponents.ensures) in
    no_exponents c.args.self.now (times (plain c.args.left.now) (plain c.args.right.now)) (test_failed (list_all fits zs) zs made)

pub returns-in_default-product : goal.returns-in_default-product
returns-in_default-product c =
    let zs = sum_of_exponents c.args.left.now.0.items c.args.right.now.0.items in
    let made : (if list_all fits zs then Some zs else None) ≡ Some c.in-Some.exponents.items = same_sums _ _ _ _ c.in-Some.exponents.items c.as_slice.ensures.value c.as_slice-2.ensures.value (sym (rw c.in-Some.is at c.in_ok-exponents.ensures)) in
    let e : fits (c.args.left.now.1 *ℤ c.args.right.now.1) ≡ false = search rules in
    no_number c.args.self.now (times (plain c.args.left.now) (plain c.args.right.now)) (test_passed (list_all fits zs) zs c.in-Some.exponents.items made).0 e

pub returns : goal.returns
returns c =
    let zs = sum_of_exponents c.args.left.now.0.items c.args.right.now.0.items in
    let made : (if list_all fits zs then Some zs else None) ≡ Some c.in-Some.exponents.items = same_sums _ _ _ _ c.in-Some.exponents.items c.as_slice.ensures.value c.as_slice-2.ensures.value (sym (rw c.in-Some.is at c.in_ok-exponents.ensures)) in
    let passed = test_passed (list_all fits zs) zs c.in-Some.exponents.items made in
    let e : fits (c.args.left.now.1 *ℤ c.args.right.now.1) ≡ true = search rules in
    let same : c.in-Some-product.number ≡ c.args.left.now.1 *ℤ c.args.right.now.1 = search rules in
    let wide : FitsSigned w128 c.in-Some-product.number = search rules in
    decides _ c.args.self.now c.add.new.self c.in-Some.exponents.items zs c.in-Some-product.number (c.args.left.now.1 *ℤ c.args.right.now.1) (sym passed.1) same passed.0 e (simp to_z-of_z at c.in_ok-done.ensures)
