use Rattle.std.proofs.Common.{◌≡◌, ℤ, ◌∷◌, [], map, flat_map, drop}
use Rattle.std.specs.Global.{Vec}
use Rattle.poly_text.specs.Maps.{times}
use Rattle.poly_text.specs.Bounds.{collected}
use Rattle.poly_text.specs.Collecting.{plain}
use Rattle.poly_text.proofs.collected.Collected.add_row.Given as goal

abbrev pub invariant-loop-t : goal.invariant-loop-t
invariant-loop-t l = collected l.self (flat_map (λ (t : Vec ℤ × ℤ). times (plain l.left) (plain t) ∷ []) (drop l.t-index l.t-items)) ≡ collected l.fn.self (map (times (plain l.left)) l.right)
