use Rattle.std.proofs.Common.{◌≡◌, ◌∙◌, map, arith, subst, sym, ap, inl, inr}
use Rattle.std.specs.Prelude.{slice_index_or}
use Rattle.std.proofs.lemmas.Bool.{cases_lt}
use Rattle.std.proofs.lemmas.List.{length-map}
use Rattle.cayley.specs.Problems.{origin}
use Rattle.cayley.specs.Stored.{point}
use Rattle.cayley.specs.Valid.{IsWithinCorners}
use Rattle.int_vectors.proofs.Each.{each_all, map_at, same_read}
use Rattle.cayley.proofs.problem_shapes.first_faulty_corner.Goals as goal

pub loop-k-preserved : goal.loop-k-preserved
loop-k-preserved c = λ j l. elim (cases_lt j c.loop-k.k) [
  | inl p ↦ c.loop-k.invariant j p
  | inr p ↦
      let e : j ≡ c.loop-k.k = omega arith in
      let r = map_at point c.args.corners.now c.loop-k.k c.index-corners-k.result origin c.index-corners-k.is c.loop-k-test.true
      ∙ ap (λ j. slice_index_or (map point c.args.corners.now) j origin) (sym e) in
      subst IsWithinCorners r (c.is_within_corners.ensures.0 c.if-not-is_within_corners.false)
]

pub returns : goal.returns
returns c = each_all _ (map point c.args.corners.now) (λ k d l.
    subst IsWithinCorners (same_read (map point c.args.corners.now) k origin d l)
    (c.loop-k.invariant k (let m = c.loop-k-test.false in omega (arith, length-map c.args.corners.now point))))
