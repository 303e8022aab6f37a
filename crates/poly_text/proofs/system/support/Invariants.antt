use Rattle.std.proofs.Common.{◌≡◌, ◌++◌, map, length}
use Rattle.std.specs.Vec.Iter.{into_iter_items, into_iter_len}
use Rattle.int_vectors.specs.Vectors.{Each}
use Rattle.int_vectors.specs.Fits.{AllFit}
use Rattle.poly_text.specs.Collecting.{plain}
use Rattle.poly_text.specs.SystemText.{support_of}
use Rattle.poly_text.proofs.system.support.Given as goal

abbrev pub invariant-loop-exponents : goal.invariant-loop-exponents
invariant-loop-exponents l = record {
  points : l.points.items ++ support_of (map plain (into_iter_items l.exponents-iterator)) ≡ support_of l.fn.terms;
  fits : Each (map plain (into_iter_items l.exponents-iterator)) (λ t. AllFit t.0);
  count : into_iter_len l.exponents-iterator ≡ length (into_iter_items l.exponents-iterator);
}
