-- Where the first byte of a kind stands.
use Rattle.std.proofs.Common.{◌≡◌, ℕ, ◌<◌, ◌≤◌, Bool, true, false, List, length, sym, get_or, arith}
use Rattle.std.specs.List.{position_or_len}
use Rattle.std.proofs.lemmas.List.Sums.{position_or_len_is}

-- no byte before this place passes, and the one at it does
pub first_at : (p : ℕ → Bool) (xs : List ℕ) (i : ℕ) → i ≤ length xs → ((k : ℕ) → k < i → p (get_or xs k 0) ≡ false) → p (get_or xs i 0) ≡ true
    → i ≡ position_or_len p xs
first_at p xs i within below at = sym (position_or_len_is p xs i 0 within below (λ _. at))

-- no byte passes
pub none_at : (p : ℕ → Bool) (xs : List ℕ) (i : ℕ) → i ≤ length xs → ((k : ℕ) → k < i → p (get_or xs k 0) ≡ false) → length xs ≤ i
    → i ≡ position_or_len p xs
none_at p xs i within below past = sym (position_or_len_is p xs i 0 within below (λ less. absurd (omega arith)))
