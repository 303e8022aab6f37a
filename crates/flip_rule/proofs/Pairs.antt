-- pairs of a cell, and two positions in rising order
use Rattle.std.proofs.Common.{◌≡◌, ℕ, zero, suc, ◌<◌, ◌≤◌, [], ◌∷◌, length, arith, refl, ap, slice_index_or}
use Rattle.cayley.specs.Cells.{Cell, IsCell}
use Rattle.cayley.specs.Dependencies.{pair_at}
use Rattle.cayley.specs.Flips.{rising}
use Rattle.cayley.specs.FlipRules.{in_order}

pub pair_is : (cell : Cell) (j : ℕ) → slice_index_or cell j (0, 0) ≡ pair_at cell j
pair_is [] j = refl
pair_is (x ∷ cell) zero = refl
pair_is (x ∷ cell) (suc j) = pair_is cell j

pub pair_rises : (cell : Cell) (j : ℕ) → IsCell cell → j < length cell → (1 ≤ (slice_index_or cell j (0, 0)).0) × ((slice_index_or cell j (0, 0)).0 < (slice_index_or cell j (0, 0)).1)
pair_rises [] j h l = absurd (omega (arith, l))
pair_rises (x ∷ cell) zero h l = h.0
pair_rises (x ∷ cell) (suc j) h l = pair_rises cell j h.1 (omega (arith, l))

pub as_they_stand : (a b : ℕ) → a < b → (a, b) ≡ rising a b
as_they_stand zero zero l = absurd (omega (arith, l))
as_they_stand zero (suc b) l = refl
as_they_stand (suc a) zero l = absurd (omega (arith, l))
as_they_stand (suc a) (suc b) l = ap (λ (x : ℕ × ℕ). (suc x.0, suc x.1)) (as_they_stand a b (omega (arith, l)))

pub turned : (a b : ℕ) → b ≤ a → (b, a) ≡ rising a b
turned zero zero l = refl
turned zero (suc b) l = absurd (omega (arith, l))
turned (suc a) zero l = refl
turned (suc a) (suc b) l = ap (λ (x : ℕ × ℕ). (suc x.0, suc x.1)) (turned a b (omega (arith, l)))

pub cell_first : (x c : ℕ) (cell flip : Cell) → x < c → cell ∷ flip ∷ [] ≡ in_order x c cell flip
cell_first x zero cell flip l = absurd (omega (arith, l))
cell_first zero (suc c) cell flip l = refl
cell_first (suc x) (suc c) cell flip l = cell_first x c cell flip (omega (arith, l))

pub flip_first : (x c : ℕ) (cell flip : Cell) → c ≤ x → flip ∷ cell ∷ [] ≡ in_order x c cell flip
flip_first x zero cell flip l = refl
flip_first zero (suc c) cell flip l = absurd (omega (arith, l))
flip_first (suc x) (suc c) cell flip l = flip_first x c cell flip (omega (arith, l))
