-- columns and a denominator brought to lowest terms
use Rattle.std.proofs.Common.{◌≡◌, unsigned_abs, ℤ, pos, ◌*ℤ◌, ◌<ℤ◌, List, map}
use Rattle.int_vectors.specs.Vectors.{scale}
use Rattle.carried_inverse.specs.Exchanges.{IsDivisorOf, IsLowered}
use Rattle.carried_inverse.proofs.Exchanging.{divided_lowest}

pub lowered_from : (den over g : ℤ) (xs made : List (List ℤ)) → pos 0 <ℤ g → IsDivisorOf (unsigned_abs den) xs (unsigned_abs g) → xs ≡ map (scale g) made → g *ℤ over ≡ den → IsLowered den xs over made
lowered_from den over g xs made p d e f = record {
  divisor = g;
  positive = p;
  columns = e;
  denominator = f;
  lowest = divided_lowest xs made den over g p d e f;
}
