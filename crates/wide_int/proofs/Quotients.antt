use Rattle.std.proofs.Common.{◌≡◌, ℕ, suc, ◌+◌, ◌*◌, ◌/◌, ◌%◌, ◌-◌, ◌<◌, ◌≤◌, sym, ap, ◌∙◌, arith, div-add-mod', Ordering, Less, Equal, Greater}
use Rattle.std.specs.Ordering.{MatchOrdering}

-- a = p b + r
less_by : (a b c d p q r s : ℕ) → 0 < b → 0 < d → p * b + r ≡ a → q * d + s ≡ c → r < b → p < q → a * d < c * b
less_by a b c d p q r s pb pd ea ec h k =
    let m = q - suc p in
    let eq : q ≡ suc p + m = omega arith in
    let l = b - suc r in
    let eb : b ≡ suc r + l = omega arith in
    let x = ap (λ n. n * d) ea in
    let y = ap (λ n. n * b) ec in
    step a b c d p q r s m l pd eq eb x y
  where
    step : (a b c d p q r s m l : ℕ) → 0 < d → q ≡ suc p + m → b ≡ suc r + l → (p * b + r) * d ≡ a * d → (q * d + s) * b ≡ c * b → a * d < c * b
    step a b c d p q r s m l pd eq eb x y =
        let z : q * (d * b) ≡ (suc p + m) * (d * b) = ap (λ n. n * (d * b)) eq in
        let w : d * b ≡ d * (suc r + l) = ap (λ n. d * n) eb in
        omega (arith, x, y, z, w)

pub less : (a b c d : ℕ) → 0 < b → 0 < d → a / b < c / d → a * d < c * b
less a b c d pb pd h = less_by a b c d (a / b) (c / d) (a % b) (c % d) pb pd (div-add-mod' a b) (div-add-mod' c d) (omega arith) h

-- with equal quotients the order is that of the remainders
pub same : (a b c d : ℕ) → c / d ≤ a / b → a / b ≤ c / d → (a * d ≡ a / b * b * d + a % b * d) × (c * b ≡ a / b * b * d + c % d * b)
same a b c d h k =
    let e : c / d ≡ a / b = omega arith in (
      ap (λ n. n * d) (sym (div-add-mod' a b)) ∙ omega arith,
      ap (λ n. n * b) (sym (div-add-mod' c d)) ∙ rw e (omega arith),
    )

pub turned : (o : Ordering) (a b c d k r s : ℕ) → a * d ≡ k + r * d → c * b ≡ k + s * b
    → MatchOrdering o (d * r < b * s) (d * r ≡ b * s) (b * s < d * r) → MatchOrdering o (a * d < c * b) (a * d ≡ c * b) (c * b < a * d)
turned Less a b c d k r s e f h = omega arith
turned Equal a b c d k r s e f h = omega arith
turned Greater a b c d k r s e f h = omega arith
