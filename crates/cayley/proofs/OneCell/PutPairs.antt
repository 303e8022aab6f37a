-- a cell with another pair at a place
use Rattle.std.proofs.Common.{◌≡◌, ◌∙◌, ℕ, zero, suc, ◌<◌, ◌≤◌, [], ◌∷◌, length, arith, refl, ap, slice_set}
use Rattle.std.specs.List.{refill}
use Rattle.std.proofs.Math.Seq.{take-append_seam}
use Rattle.cayley.specs.Cells.{Cell, IsCell}
use Rattle.cayley.specs.Valid.{IsValidCell}
use Rattle.cayley.specs.Flips.{put_pair}

set_is_put : (cell : Cell) (j : ℕ) (y : ℕ × ℕ) → slice_set cell j y ≡ put_pair cell j y
set_is_put [] j y = refl
set_is_put (x ∷ cell) zero y = refl
set_is_put (x ∷ cell) (suc j) y = ap (λ l. x ∷ l) (set_is_put cell j y)

refill_set : (cell : Cell) (j : ℕ) (y : ℕ × ℕ) → refill (length cell) cell (slice_set cell j y) ≡ slice_set cell j y
refill_set [] j y = refl
refill_set (x ∷ cell) zero y = ap (λ l. y ∷ l) (take-append_seam cell _)
refill_set (x ∷ cell) (suc j) y = ap (λ l. x ∷ l) (refill_set cell j y)

pub written : (cell now : Cell) (j : ℕ) (y : ℕ × ℕ) → now ≡ cell → refill (length cell) cell (slice_set now j y) ≡ put_pair cell j y
written cell now j y e = ap (λ l. refill (length cell) cell (slice_set l j y)) e ∙ refill_set cell j y ∙ set_is_put cell j y

length_put : (cell : Cell) (j : ℕ) (y : ℕ × ℕ) → length (put_pair cell j y) ≡ length cell
length_put [] j y = refl
length_put (x ∷ cell) zero y = refl
length_put (x ∷ cell) (suc j) y = ap suc (length_put cell j y)

rises_put : (cell : Cell) (j : ℕ) (y : ℕ × ℕ) → IsCell cell → (1 ≤ y.0) × (y.0 < y.1) → IsCell (put_pair cell j y)
rises_put [] j y h r = tt
rises_put (x ∷ cell) zero y h r = (r, h.1)
rises_put (x ∷ cell) (suc j) y h r = (h.0, rises_put cell j y h.1 r)

pub valid_put : (cell : Cell) (j : ℕ) (y : ℕ × ℕ) → IsValidCell cell → (1 ≤ y.0) × (y.0 < y.1) → IsValidCell (put_pair cell j y)
valid_put cell j y h r = let l = length_put cell j y in let a = h.0 in let b = h.1 in (omega (arith, l, a), omega (arith, l, b), rises_put cell j y h.2 r)
