use Rattle.std.proofs.Common.{◌≡◌, ℤ, map, flat_map, drop}
use Rattle.std.specs.Global.{Vec}
use Rattle.poly_text.specs.Maps.{times, products}
use Rattle.poly_text.specs.Bounds.{collected}
use Rattle.poly_text.specs.Collecting.{plain}
use Rattle.poly_text.proofs.collected.Collected.add_products.Given as goal

abbrev pub invariant-loop-s : goal.invariant-loop-s
invariant-loop-s l = collected l.self (flat_map (λ (s : Vec ℤ × ℤ). map (times (plain s)) l.right) (drop l.s-index l.s-items)) ≡ collected l.fn.self (products l.left l.right)
