use Rattle.std.proofs.Common.{rules, ◌∙◌, ◌*ℤ◌, ℤ, List, ◌∷◌, sym, ap, subst, unsigned_abs, FitsSigned, to_z, of_z, to_z-of_z}
use Prim.Native.Nat.{◌∣◌}
use Rattle.std.specs.Int.{w128}
use Rattle.int_vectors.specs.Contents.{DividesEach, IsContent}
use Rattle.int_vectors.specs.Vectors.{Each}
use Rattle.cayley.specs.Files.{plain_problem}
use Rattle.homotopy_rows.specs.Powers.{all_of}
use Rattle.homotopy_rows.proofs.Dividing.{divides_rows}
use Rattle.homotopy_rows.proofs.LeastScale.{powers_made}
use Rattle.homotopy_rows.proofs.lines.row_of.Goals as goal

pub divide_each-requires-clause-exact : goal.divide_each-requires-clause-exact
divide_each-requires-clause-exact c =
    let fg : FitsSigned w128 c.common_divisor-g.result = search rules in
    let d = subst (λ (rs : List (List ℤ)). DividesEach (unsigned_abs c.common_divisor-g.result) (all_of rs)) c.deref.ensures.value c.common_divisor-g.ensures.greatest.0.1 in
    subst (λ z. Each c.in-Ok.sums.items (DividesEach (unsigned_abs z))) (sym (to_z-of_z {w = w128} {z = c.common_divisor-g.result} fg))
    (divides_rows (unsigned_abs c.common_divisor-g.result) c.in-Ok.sums.items d)

pub exact_quotient-requires-clause-divides : goal.exact_quotient-requires-clause-divides
exact_quotient-requires-clause-divides c =
    let fg : FitsSigned w128 c.common_divisor-g.result = search rules in
    subst (λ z. unsigned_abs z ∣ unsigned_abs (to_z w128 (of_z w128 c.args.listed.now.normal.den))) (sym (to_z-of_z {w = w128} {z = c.common_divisor-g.result} fg))
    c.common_divisor-g.ensures.greatest.0.0

pub returns : goal.returns
returns c =
    let x = c.args.listed.now in
    let g = c.common_divisor-g.result in
    let fg : FitsSigned w128 c.common_divisor-g.result = search rules in
    let fd : FitsSigned w128 c.args.listed.now.normal.den = search rules in
    let fq : FitsSigned w128 c.exact_quotient.result = search rules in
    let eg = to_z-of_z {w = w128} {z = c.common_divisor-g.result} fg in
    let ed = to_z-of_z {w = w128} {z = c.args.listed.now.normal.den} fd in
    let eq = to_z-of_z {w = w128} {z = c.exact_quotient.result} fq in
    let content = subst (λ z. IsContent (z ∷ all_of c.in-Ok.sums.items) (unsigned_abs c.common_divisor-g.result)) ed
    (subst (λ (rs : List (List ℤ)). IsContent (to_z w128 (of_z w128 c.args.listed.now.normal.den) ∷ all_of rs) (unsigned_abs c.common_divisor-g.result)) c.deref.ensures.value c.common_divisor-g.ensures.greatest) in
    let quotient = ap (λ z. g *ℤ z) eq ∙ ap (λ z. z *ℤ c.exact_quotient.result) (sym eg) ∙ c.exact_quotient.ensures.quotient ∙ ed in
    let each = simp to_z-of_z at c.divide_each.ensures in
    (powers_made (plain_problem c.args.file.now) x _ g c.in-Ok.sums.items c.copy.ensures c.common_divisor-g.ensures.positive c.in-Ok.ensures.0 content quotient each, c.in-Ok.ensures.1)
