use Rattle.std.proofs.Common.{◌≡◌, [], List, map, arith, subst, sym, ap, ◌∙◌, inl, inr}
use Rattle.std.specs.Prelude.{ℤ, slice_index_or}
use Rattle.std.proofs.lemmas.Bool.{cases_lt}
use Rattle.std.proofs.lemmas.List.{length-map}
use Rattle.int_vectors.specs.Vectors.{Each}
use Rattle.cayley.specs.Valid.{IsStart}
use Rattle.int_vectors.proofs.Each.{each_all, map_at, same_read}
use Rattle.cayley.proofs.shapes.first_faulty_start.Goals as goal

pub loop-k-preserved : goal.loop-k-preserved
loop-k-preserved c = λ j l. elim (cases_lt j c.loop-k.k) [
  | inl p ↦ c.loop-k.invariant j p
  | inr p ↦
      let e : j ≡ c.loop-k.k = omega arith in
      let r = map_at (λ s. s.items) c.args.starts.now c.loop-k.k c.index-starts-k.result [] c.index-starts-k.is c.loop-k-test.true in
      let f = c.deref.ensures.value ∙ r ∙ ap (λ j. slice_index_or (map (λ s. s.items) c.args.starts.now) j []) (sym e) in
      subst (λ (s : List ℤ). Each s IsStart) f (c.are_starts.ensures.0 c.if-not-are_starts.false)
]

pub returns : goal.returns
returns c = each_all _ (map (λ s. s.items) c.args.starts.now) (λ k d l.
    subst (λ (s : List ℤ). Each s IsStart) (same_read (map (λ s. s.items) c.args.starts.now) k [] d l)
    (c.loop-k.invariant k (let m = c.loop-k-test.false in omega (arith, length-map c.args.starts.now (λ s. s.items)))))
