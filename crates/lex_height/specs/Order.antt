-- Values by their entries. Entries are whole numbers by rank, over a positive number.
use Rattle.std.specs.Prelude.{◌≡◌, ℕ, ◌<◌, ℤ, pos, ◌*ℤ◌, ◌<ℤ◌}

-- the first entry other than zero is positive
abbrev pub IsPositive : (ℕ → ℤ) → Type 0
IsPositive w = (rank : ℕ) × (pos 0 <ℤ w rank) × ((k : ℕ) → k < rank → w k ≡ pos 0)

-- each entry is zero
abbrev pub IsZero : (ℕ → ℤ) → Type 0
IsZero w = (k : ℕ) → w k ≡ pos 0

-- w over p is less than u over q: the first entry that differs is less
abbrev pub IsLess : (ℕ → ℤ) → ℤ → (ℕ → ℤ) → ℤ → Type 0
IsLess w p u q = (rank : ℕ) × ((w rank *ℤ q) <ℤ (u rank *ℤ p)) × ((k : ℕ) → k < rank → w k *ℤ q ≡ u k *ℤ p)

-- w over p is u over q
abbrev pub IsSame : (ℕ → ℤ) → ℤ → (ℕ → ℤ) → ℤ → Type 0
IsSame w p u q = (k : ℕ) → w k *ℤ q ≡ u k *ℤ p
