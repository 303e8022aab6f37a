use Rattle.std.proofs.Common.{◌≡◌, ◌∙◌, ℕ, ◌+◌, ◌<◌, List, length, map, arith, refl, ap, sym, inl, inr}
use Rattle.std.specs.Prelude.{slice_index_or}
use Rattle.std.proofs.lemmas.Bool.{cases_lt}
use Rattle.std.proofs.lemmas.List.{length-map}
use Rattle.int_vectors.proofs.Each.{map_at}
use Rattle.cayley.proofs.Refusals.SecondHeights.{same_lists}
use Rattle.cayley.proofs.second_heights.have_counts.Goals as goal

pub returns-then-len : goal.returns-then-len
returns-then-len c = (
  λ t. cc,
  λ e.
      let l = c.loop-i.invariant.long in
      let t = c.loop-i-test.true in
      let a = map_at (λ s. length s.items) c.args.second.now c.loop-i.i c.index-second-i.result 0 c.index-second-i.is t in
      let b = map_at (λ s. length s.items) c.args.supports.now c.loop-i.i c.index-supports-i.result 0 c.index-supports-i.is (omega (arith, l, t)) in
      let n = ap (λ (l : List ℕ). slice_index_or l c.loop-i.i 0) e in
      let p = c.len.ensures in
      let q = c.len-in-loop-i.ensures in
      let f = c.if-len.true in
      let x = c.index-second-i.result.ok in
      let y = c.index-supports-i.result.ok in
      absurd (omega (arith, a, b, n, p, q, f, x, y)),
)

pub loop-i-preserved : goal.loop-i-preserved
loop-i-preserved c = record { long = c.loop-i.invariant.long; same = λ k p. by k p }
  where
    here : slice_index_or (map (λ s. length s.items) c.args.second.now) c.loop-i.i 0 ≡ slice_index_or (map (λ s. length s.items) c.args.supports.now) c.loop-i.i 0
    here =
        let l = c.loop-i.invariant.long in
        let t = c.loop-i-test.true in
        let a = map_at (λ s. length s.items) c.args.second.now c.loop-i.i c.index-second-i.result 0 c.index-second-i.is t in
        let b = map_at (λ s. length s.items) c.args.supports.now c.loop-i.i c.index-supports-i.result 0 c.index-supports-i.is (omega (arith, l, t)) in
        let p = c.len.ensures in
        let q = c.len-in-loop-i.ensures in
        let f = c.if-len.false in
        let x = c.index-second-i.result.ok in
        let y = c.index-supports-i.result.ok in
        omega (arith, a, b, p, q, f, x, y)

    by : (k : ℕ) → k < c.loop-i.i + 1 → slice_index_or (map (λ s. length s.items) c.args.second.now) k 0 ≡ slice_index_or (map (λ s. length s.items) c.args.supports.now) k 0
    by k p = elim (cases_lt k c.loop-i.i) [
      | inl q ↦ c.loop-i.invariant.same k q
      | inr q ↦
          let e : k ≡ c.loop-i.i = omega (arith, p, q) in
          ap (λ j. slice_index_or (map (λ s. length s.items) c.args.second.now) j 0) e ∙ here ∙ ap (λ j. slice_index_or (map (λ s. length s.items) c.args.supports.now) j 0) (sym e)
    ]

pub returns : goal.returns
returns c = (
  λ t.
      let l = c.loop-i.invariant.long in
      let m = c.loop-i-test.false in
      let a = length-map c.args.second.now (λ s. length s.items) in
      let b = length-map c.args.supports.now (λ s. length s.items) in
      same_lists _ _ (omega (arith, a, b, l)) (λ k p. c.loop-i.invariant.same k (omega (arith, a, m, p))),
  λ e. refl,
)
