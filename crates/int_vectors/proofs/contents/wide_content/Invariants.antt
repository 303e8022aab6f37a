use Rattle.std.proofs.Common.{pos, ◌≤ℤ◌, take, unsigned_abs}
use Rattle.wide_int.specs.Whole.{FitsWhole}
use Rattle.int_vectors.specs.Contents.{IsContent}
use Rattle.int_vectors.proofs.contents.wide_content.Given as goal

abbrev pub invariant-loop-x : goal.invariant-loop-x
invariant-loop-x l = record {
  fits : FitsWhole l.g;
  sign : pos 0 ≤ℤ l.g;
  is : IsContent (take l.x-index l.entries) (unsigned_abs l.g);
}
