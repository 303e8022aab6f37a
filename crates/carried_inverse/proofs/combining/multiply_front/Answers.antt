use Rattle.std.proofs.Common.{◌≡◌, ◌<◌, ◌∙◌, List, ℤ, sym, ap, subst, length, map, take, drop, ◌++◌, FitsSigned, to_z-of_z, arith}
use Rattle.std.specs.Int.{w64}
use Rattle.int_vectors.specs.Bounds.{Within}
use Rattle.int_vectors.specs.Vectors.{Each, scale}
use Rattle.int_vectors.proofs.InPlace.{map_read, map_set}
use Rattle.carried_inverse.proofs.DividedColumns.{front_at, multiplied_front, multiplied_count, multiplied_long}
use Rattle.carried_inverse.proofs.combining.multiply_front.Goals as goal

pub multiply-requires : goal.multiply-requires
multiply-requires c =
    let ff : FitsSigned w64 c.args.factor = c.ranges.factor in
    let v = simp to_z-of_z at c.loop-k.invariant in
    let r = c.requires.room in
    let lt : c.loop-k.k < length c.args.made.now.items = omega (arith, c.loop-k-test.true, c.requires.count) in
    let d = c.index_mut.result.now in
    let e = c.index_mut.ensures.value ∙ map_read (scale c.args.factor) c.args.made.now.items c.loop-k.made.items c.loop-k.k lt v.made d in
    simp to_z-of_z (record { room = (r.0, subst (Within r.0) (sym e) (front_at r.0 c.args.count c.loop-k.k d c.args.made.now.items c.loop-k-test.true lt r.1), r.2) })

pub loop-k-preserved : goal.loop-k-preserved
loop-k-preserved c =
    let ff : FitsSigned w64 c.args.factor = c.ranges.factor in
    let v = simp to_z-of_z at c.loop-k.invariant in
    let lt : c.loop-k.k < length c.args.made.now.items = omega (arith, c.loop-k-test.true, c.requires.count) in
    let d = c.index_mut.result.now in
    let e = c.index_mut.ensures.value ∙ map_read (scale c.args.factor) c.args.made.now.items c.loop-k.made.items c.loop-k.k lt v.made d in
    let h : c.multiply.new.self ≡ scale c.args.factor c.index_mut.result.now = simp to_z-of_z at c.multiply.ensures in
    simp to_z-of_z (record {
      made = map_set (scale c.args.factor) c.args.made.now.items c.loop-k.made.items c.loop-k.k lt v.made d c.multiply.new.self (h ∙ ap (scale c.args.factor) e);
      below = omega (arith, c.loop-k-test.true);
    })

pub returns : goal.returns
returns c =
    let ff : FitsSigned w64 c.args.factor = c.ranges.factor in
    let v = simp to_z-of_z at c.loop-k.invariant in
    let b = v.below in
    let e : c.loop-k.k ≡ c.args.count = omega (arith, c.loop-k-test.false, b) in
    let old = c.args.made.now.items in
    let f = scale c.args.factor in
    let m : c.loop-k.made.items ≡ map f (take c.args.count old) ++ drop c.args.count old = subst (λ n. c.loop-k.made.items ≡ map f (take n old) ++ drop n old) e v.made in
    record {
      front = multiplied_front c.args.count c.args.factor old c.loop-k.made.items c.requires.count m;
      count = ap length m ∙ multiplied_count c.args.count c.args.factor old;
      long = λ n h. subst (λ (l : List (List ℤ)). Each l (λ x. length x ≡ n)) (sym m) (multiplied_long n c.args.count c.args.factor old h);
    }
