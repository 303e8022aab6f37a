-- How many points each support has on the path of a file.
use Rattle.std.proofs.Common.{◌≡◌, ℕ, ◌+◌, ◌≤◌, List, map, Result, Ok, Err, sym, subst, arith}
use Rattle.std.specs.Prelude.{IfOk, All}
use Rattle.std.specs.Global.{Vec}
use Rattle.int_vectors.proofs.Each.{all_each, each_all}
use Rattle.support_text.proofs.WrittenWords.{each-map}

abbrev IsCount : ℕ → Type 0
IsCount m = (1 ≤ m) × (m ≤ 1000)

abbrev IsSpan : ℕ → Type 0
IsSpan m = (1 ≤ m) × (m ≤ 4294967295)

longer : (more m : ℕ) → more ≤ 17 → IsCount m → IsSpan (m + more)
longer more m few h = (omega (arith, h.0), omega (arith, h.1))

pub spans_within : {E : Type 0} (r : Result (Vec ℕ) E) (counts : List ℕ) (more : ℕ) → All IsCount counts → more ≤ 17 → IfOk r (λ spans. spans.items ≡ map (λ m. m + more) counts) → IfOk r (λ spans. All IsSpan spans.items)
spans_within (Ok v) counts more are few h =
    subst (λ (l : List ℕ). All IsSpan l) (sym h)
    (all_each IsSpan (map (λ m. m + more) counts) (each-map IsSpan IsCount (λ m. m + more) (λ m p. longer more m few p) counts (each_all IsCount counts are)))
spans_within (Err x) counts more are few h = tt
