-- Which outcome a status tells.
use Rattle.std.proofs.Common.{◌≡◌, ◌⊎◌, ℕ, refl, inl, inr, arith}
use Rattle.cayley.specs.Cells.{Cell}
use Rattle.cayley.specs.declared.found.TieProof.{TieProof}
use Rattle.mixedcells.specs.declared.outcome.Outcome.{Outcome}
use Rattle.mixedcells.specs.declared.outcome.Outcome.TheVariants as variant
use Rattle.mixedcells.specs.Outcomes.{status_of}

-- only what ends Ok has the status 0
pub ok_alone : (outcome : Outcome) → status_of outcome ≡ 0 → outcome ≡ variant.Ok
ok_alone variant.Ok e = refl
ok_alone _ e = absurd (omega (arith, e))

-- only a tie has the status 4
pub tie_alone : (outcome : Outcome) → status_of outcome ≡ 4 → (proof : TieProof) × (outcome ≡ variant.Tie proof)
tie_alone (variant.Tie proof) e = (proof, refl)
tie_alone _ e = absurd (omega (arith, e))

pub read_fault_alone : (outcome : Outcome) → status_of outcome ≡ 6 → outcome ≡ variant.ReadFault
read_fault_alone variant.ReadFault e = refl
read_fault_alone _ e = absurd (omega (arith, e))

pub write_fault_alone : (outcome : Outcome) → status_of outcome ≡ 7 → outcome ≡ variant.WriteFault
write_fault_alone variant.WriteFault e = refl
write_fault_alone _ e = absurd (omega (arith, e))

pub no_memory_alone : (outcome : Outcome) → status_of outcome ≡ 8 → outcome ≡ variant.OutOfMemory
no_memory_alone variant.OutOfMemory e = refl
no_memory_alone _ e = absurd (omega (arith, e))

pub team_alone : (outcome : Outcome) → status_of outcome ≡ 11 → outcome ≡ variant.NeedsTeam
team_alone variant.NeedsTeam e = refl
team_alone _ e = absurd (omega (arith, e))

-- a cell or a line is what doesn't fit
pub overflow_alone : (outcome : Outcome) → status_of outcome ≡ 5 → ((cell : Cell) × (outcome ≡ variant.OverflowCell cell)) ⊎ ((line : ℕ) × (outcome ≡ variant.OverflowLine line))
overflow_alone (variant.OverflowCell cell) e = inl (cell, refl)
overflow_alone (variant.OverflowLine line) e = inr (line, refl)
overflow_alone _ e = absurd (omega (arith, e))

-- none has the number that tells of no room
pub room_is_none : (outcome : Outcome) → status_of outcome ≡ 256 → ⊥
room_is_none variant.Ok e = omega (arith, e)
room_is_none _ e = omega (arith, e)
