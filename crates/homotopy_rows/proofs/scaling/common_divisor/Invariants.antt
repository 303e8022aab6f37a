use Rattle.std.proofs.Common.{pos, ◌<ℤ◌, ◌∷◌, take, unsigned_abs}
use Rattle.wide_int.specs.Whole.{FitsWhole}
use Rattle.int_vectors.specs.Contents.{IsContent}
use Rattle.homotopy_rows.specs.Powers.{all_of}
use Rattle.homotopy_rows.proofs.scaling.common_divisor.Given as goal

abbrev pub invariant-loop-ws : goal.invariant-loop-ws
invariant-loop-ws l = record {
  is : IsContent (l.den ∷ all_of (take l.ws-index l.sums)) (unsigned_abs l.g);
  positive : pos 0 <ℤ l.g;
  fits : FitsWhole l.g;
}
