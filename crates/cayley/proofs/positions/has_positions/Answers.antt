use Rattle.std.proofs.Common.{◌≡◌, ℕ, ◌+◌, ◌<◌, ◌≤◌, length, arith, subst, sym, ap, refl, ◌⊎◌, inl, inr}
use Rattle.std.specs.Prelude.{slice_index_or}
use Rattle.std.proofs.lemmas.Bool.{cases_order}
use Rattle.std.proofs.lemmas.List.{length-map}
use Rattle.cayley.specs.declared.points.Support.{Support}
use Rattle.int_vectors.proofs.Each.{all_each, same_read}
use Rattle.cayley.proofs.Lists.Pairs.{each_pair_long, each_pair_at, each_pair_from}
use Rattle.cayley.proofs.positions.has_positions.Goals as goal

pub returns-then-supports-pairs : goal.returns-then-supports-pairs
returns-then-supports-pairs c = (λ t. cc, λ h. absurd (c.if-supports-pairs.true (each_pair_long _ _ _ _ h)))

pub returns-then-len-pair : goal.returns-then-len-pair
returns-then-len-pair c = (
  λ t. cc,
  λ h.
      let r = each_pair_at _ _ _ _ h c.loop-i.i c.index-supports-i.result (0, 0) c.loop-i-test.true in
      let b = simp length-map at r.2 in
      let ok = (slice_index_or c.args.supports.now c.loop-i.i c.index-supports-i.result).points.ok in
      absurd (omega arith),
)

pub loop-i-preserved : goal.loop-i-preserved
loop-i-preserved c = (c.loop-i.invariant.0, λ k d e p. by k d e (cases_order k c.loop-i.i) p)
  where
    here : (d : Support) (e : ℕ × ℕ) → (slice_index_or c.args.pairs.now c.loop-i.i e).1 ≤ length (slice_index_or c.args.supports.now c.loop-i.i d).points.items
    here d e =
        let l = c.loop-i.invariant.0 in
        let f = ap (λ (x : ℕ × ℕ). x.1) (same_read c.args.pairs.now c.loop-i.i e (0, 0) c.loop-i-test.true) in
        let g = ap (λ (s : Support). length s.points.items) (same_read c.args.supports.now c.loop-i.i d c.index-supports-i.result (omega arith)) in
        let ok = (slice_index_or c.args.supports.now c.loop-i.i c.index-supports-i.result).points.ok in
        omega arith

    by : (k : ℕ) (d : Support) (e : ℕ × ℕ) → (k ≡ c.loop-i.i) ⊎ ((k < c.loop-i.i) ⊎ (c.loop-i.i < k)) → k < c.loop-i.i + 1
        → (slice_index_or c.args.pairs.now k e).1 ≤ length (slice_index_or c.args.supports.now k d).points.items
    by k d e (inr (inl q)) p = c.loop-i.invariant.1 k d e q
    by k d e (inr (inr q)) p = absurd (omega arith)
    by k d e (inl q) p =
        let P : ℕ → Type 0 = λ k. (slice_index_or c.args.pairs.now k e).1 ≤ length (slice_index_or c.args.supports.now k d).points.items in
        subst P (sym q) (here d e)

pub returns : goal.returns
returns c = (
  λ t. each_pair_from _ _ _ _ c.loop-i.invariant.0 (λ k d e p.
      let r = all_each _ _ c.requires k e p in
      let s = c.loop-i.invariant.1 k d e (omega arith) in
      (r.0, r.1, simp length-map s)),
  λ h. refl,
)
