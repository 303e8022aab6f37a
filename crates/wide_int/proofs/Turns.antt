-- a fact at all places so far, carried over one turn of a loop
use native.Mathlib.Decide.{dec_le}
use Rattle.std.proofs.Common.{arith, subst, ℕ, ◌≡◌, ◌+◌, ◌≤◌, ◌<◌}

pub next_all : (P : ℕ → Type 0) (i : ℕ) → ((c : ℕ) → c ≤ i → P c) → P (i + 1) → (c : ℕ) → c ≤ i + 1 → P c
next_all P i f p c h = elim (dec_le c i) [
  | yes l ↦ f c l
  | no n ↦ let e : i + 1 ≡ c = omega (arith, h, n) in subst P e p
]

pub next_below : (P : ℕ → Type 0) (i : ℕ) → ((j : ℕ) → j < i → P j) → P i → (j : ℕ) → j < i + 1 → P j
next_below P i f p j h = elim (dec_le i j) [
  | yes l ↦ let e : i ≡ j = omega (arith, h, l) in subst P e p
  | no n ↦ f j (omega (arith, n))
]
