use Rattle.std.proofs.Common.{◌≡◌, ℕ, List, Bor, map, take, string_bytes}
use Rattle.mixedcells_c.proofs.command_words.owned.Given as goal

abbrev pub invariant-loop-part : goal.invariant-loop-part
invariant-loop-part l = map string_bytes l.words.items ≡ map (λ (p : Bor (List ℕ)). p.now) (take l.part-index l.parts)
