use Rattle.std.proofs.Common.{rules, ◌≡◌, ◌<◌, ◌^◌, ◌∙◌, ◌*ℤ◌, List, ℤ, refl, sym, ap, subst, pos, get_or, set, length, length-set, unsigned_abs, int_div, FitsSigned, to_z, to_z-of_z, arith}
use Rattle.std.specs.Int.{w64}
use Rattle.wide_int.proofs.Dividing.{quot_exact}
use Rattle.int_vectors.specs.Bounds.{StepRoom}
use Rattle.int_vectors.specs.Contents.{DividesEach}
use Rattle.int_vectors.specs.RowSteps.{eliminated}
use Rattle.int_vectors.specs.Vectors.{scale}
use Rattle.reduced_rows.proofs.Picking.{each_at}
use Rattle.carried_inverse.proofs.ColumnSteps.{step_room, quotients_set, column_left}
use Rattle.carried_inverse.proofs.DividedColumns.{divided_start, divided_set, divided_next, divided_less, less_room}
use Rattle.carried_inverse.proofs.combining.put_column.Goals as goal

pub loop-turn-init : goal.loop-turn-init
loop-turn-init c =
    let fs : FitsSigned w64 c.args.start = c.ranges.start in
    let fp : FitsSigned w64 c.args.pivot = c.ranges.pivot in
    simp to_z-of_z (record {
      divided = divided_start c.args.k c.args.start c.args.pivot c.args.shares.now c.args.columns.now c.args.by.now c.args.made.now.items c.requires.positive c.requires.front;
      count = c.requires.made_count;
      long = c.requires.made_long;
    })

pub combine_divided-requires-clause-lengths : goal.combine_divided-requires-clause-lengths
combine_divided-requires-clause-lengths c =
    ap length c.index-columns-k.is ∙ each_at (λ (x : List ℤ). length x ≡ length c.args.by.now) c.args.columns.now c.args.k c.index-columns-k.result c.requires.place c.requires.long

pub combine_divided-requires-clause-made : goal.combine_divided-requires-clause-made
combine_divided-requires-clause-made c =
    let v = c.loop-turn.invariant in
    let n = v.count in
    let lt : c.args.k < length c.loop-turn.made.items = omega (arith, n, c.requires.place) in
    ap length c.index_mut.ensures.value ∙ each_at (λ (x : List ℤ). length x ≡ length c.args.by.now) c.loop-turn.made.items c.args.k c.index_mut.result.now lt v.long
    ∙ sym (ap length c.index-columns-k.is ∙ each_at (λ (x : List ℤ). length x ≡ length c.args.by.now) c.args.columns.now c.args.k c.index-columns-k.result c.requires.place c.requires.long)

pub combine_divided-requires-clause-room : goal.combine_divided-requires-clause-room
combine_divided-requires-clause-room c =
    let fp : FitsSigned w64 c.args.pivot = c.ranges.pivot in
    let fx : FitsSigned w64 (get_or c.args.shares.now c.args.k (pos 0)) = search rules in
    let r = step_room c.args.pivot c.args.shares.now c.args.columns.now c.args.by.now c.args.k c.index-columns-k.result c.requires.count c.requires.place c.requires.room in
    simp to_z-of_z (subst (λ (x : List ℤ). StepRoom (2 ^ 62) c.args.pivot (get_or c.args.shares.now c.args.k (pos 0)) x c.args.by.now) (sym c.index-columns-k.is) r)

pub returns-in-None-clause-value : goal.returns-in-None-clause-value
returns-in-None-clause-value c =
    let fs : FitsSigned w64 c.args.start = c.ranges.start in
    let fp : FitsSigned w64 c.args.pivot = c.ranges.pivot in
    let fx : FitsSigned w64 (get_or c.args.shares.now c.args.k (pos 0)) = search rules in
    let v = simp to_z-of_z at c.loop-turn.invariant in
    let g = to_z w64 c.loop-turn.g-bits in
    let h : eliminated c.args.pivot (get_or c.args.shares.now c.args.k (pos 0)) c.index-columns-k.result c.args.by.now ≡ scale g c.combine_divided.new.made = simp to_z-of_z at (c.in-None.ensures.value refl) in
    let e = subst (λ (x : List ℤ). eliminated c.args.pivot (get_or c.args.shares.now c.args.k (pos 0)) x c.args.by.now ≡ scale g c.combine_divided.new.made) c.index-columns-k.is h in
    (divided_next c.args.k c.args.start g c.args.pivot c.args.shares.now c.args.columns.now c.args.by.now c.loop-turn.made.items v.divided c.combine_divided.new.made c.index-columns-k.result c.requires.count c.requires.place v.count e)

pub returns-in-None-clause-long : goal.returns-in-None-clause-long
returns-in-None-clause-long c =
    let v = c.loop-turn.invariant in
    let n = v.count in
    let lt : c.args.k < length c.loop-turn.made.items = omega (arith, n, c.requires.place) in
    quotients_set (length c.args.by.now) c.args.k c.loop-turn.made.items c.combine_divided.new.made v.long
    (c.in-None.ensures.length ∙ ap length c.index_mut.ensures.value ∙ each_at (λ (x : List ℤ). length x ≡ length c.args.by.now) c.loop-turn.made.items c.args.k c.index_mut.result.now lt v.long)

pub multiply_front-requires-clause-room : goal.multiply_front-requires-clause-room
multiply_front-requires-clause-room c =
    let fs : FitsSigned w64 c.args.start = c.ranges.start in
    let fp : FitsSigned w64 c.args.pivot = c.ranges.pivot in
    let fl : FitsSigned w64 c.common-less.result = search rules in
    let fq : FitsSigned w64 c.quotient.result = search rules in
    let fz : FitsSigned w64 c.in-Some.left = search rules in
    let v = simp to_z-of_z at c.loop-turn.invariant in
    let g = to_z w64 c.loop-turn.g-bits in
    let made = set c.loop-turn.made.items c.args.k c.combine_divided.new.made in
    let s = divided_set c.args.k c.args.start g c.args.pivot c.args.shares.now c.args.columns.now c.args.by.now c.loop-turn.made.items v.divided c.combine_divided.new.made in
    let d = simp to_z-of_z at c.common-less.ensures in
    let q : c.quotient.result ≡ int_div g c.common-less.result = simp to_z-of_z at c.quotient.ensures in
    let is : c.common-less.result *ℤ c.quotient.result ≡ g = rw q (quot_exact g c.common-less.result d.divisor.1) in
    simp to_z-of_z (less_room c.args.k c.args.start g c.args.pivot c.args.shares.now c.args.columns.now c.args.by.now made s c.common-less.result c.quotient.result c.requires.count c.requires.room d.positive is)

pub loop-turn-preserved : goal.loop-turn-preserved
loop-turn-preserved c =
    let fs : FitsSigned w64 c.args.start = c.ranges.start in
    let fp : FitsSigned w64 c.args.pivot = c.ranges.pivot in
    let fx : FitsSigned w64 (get_or c.args.shares.now c.args.k (pos 0)) = search rules in
    let fl : FitsSigned w64 c.common-less.result = search rules in
    let fq : FitsSigned w64 c.quotient.result = search rules in
    let fz : FitsSigned w64 c.in-Some.left = search rules in
    let v = simp to_z-of_z at c.loop-turn.invariant in
    let n = v.count in
    let lt : c.args.k < length c.loop-turn.made.items = omega (arith, n, c.requires.place) in
    let g = to_z w64 c.loop-turn.g-bits in
    let made = set c.loop-turn.made.items c.args.k c.combine_divided.new.made in
    let s = divided_set c.args.k c.args.start g c.args.pivot c.args.shares.now c.args.columns.now c.args.by.now c.loop-turn.made.items v.divided c.combine_divided.new.made in
    let d = simp to_z-of_z at c.common-less.ensures in
    let q : c.quotient.result ≡ int_div g c.common-less.result = simp to_z-of_z at c.quotient.ensures in
    let is : c.common-less.result *ℤ c.quotient.result ≡ g = rw q (quot_exact g c.common-less.result d.divisor.1) in
    let h = simp to_z-of_z at c.in-Some.ensures.left in
    let e = simp to_z-of_z at c.multiply_front.ensures.front in
    simp to_z-of_z (record {
      divided = divided_less c.args.k c.args.start g c.args.pivot c.args.shares.now c.args.columns.now c.args.by.now made s c.common-less.result c.quotient.result (unsigned_abs c.in-Some.left) c.multiply_front.new.made.items d.positive d.divisor
          (λ m a. h m (subst (λ (x : List ℤ). DividesEach m (eliminated c.args.pivot (get_or c.args.shares.now c.args.k (pos 0)) x c.args.by.now)) (sym c.index-columns-k.is)
          (column_left m c.args.pivot c.args.shares.now c.args.columns.now c.args.by.now c.args.k c.index-columns-k.result (let b = c.requires.count in omega (arith, b, c.requires.place)) c.requires.place a)))
          is e;
      count = c.multiply_front.ensures.count ∙ length-set c.loop-turn.made.items c.args.k c.combine_divided.new.made ∙ n;
      long = c.multiply_front.ensures.long (length c.args.by.now) (quotients_set (length c.args.by.now) c.args.k c.loop-turn.made.items c.combine_divided.new.made v.long
          (c.in-Some.ensures.length ∙ ap length c.index_mut.ensures.value ∙ each_at (λ (x : List ℤ). length x ≡ length c.args.by.now) c.loop-turn.made.items c.args.k c.index_mut.result.now lt v.long));
    })
