use Rattle.std.proofs.Common.{rules, ◌≡◌, ◌^◌, ◌+ℤ◌, ◌-ℤ◌, ◌*ℤ◌, pos, get_or, FitsSigned, to_z, to_z-of_z, arith, ◌∙◌, sym}
use Rattle.std.specs.Int.{w64, w128}
use Rattle.int_vectors.specs.Bounds.{IsNarrow}
use Rattle.int_vectors.proofs.DifferenceSums.{each_at, value_more, room_between, at_end}
use Rattle.int_vectors.proofs.narrow.narrow_dots_between.Goals as goal

pub between-d-requires-clause-a_small : goal.between-d-requires-clause-a_small
between-d-requires-clause-a_small c =
    let f : FitsSigned w128 (get_or c.args.a.now c.loop-i.i (pos 0)) = search rules in
    simp to_z-of_z (each_at IsNarrow c.args.a.now c.loop-i.i (omega (arith, c.requires.a_length, c.loop-i-test.true)) c.requires.a_small)

pub between-d-requires-clause-c_small : goal.between-d-requires-clause-c_small
between-d-requires-clause-c_small c =
    let f : FitsSigned w128 (get_or c.args.c.now c.loop-i.i (pos 0)) = search rules in
    simp to_z-of_z (each_at IsNarrow c.args.c.now c.loop-i.i (omega (arith, c.requires.c_length, c.loop-i-test.true)) c.requires.c_small)

pub plus_product-alpha-requires-clause-product : goal.plus_product-alpha-requires-clause-product
plus_product-alpha-requires-clause-product c =
    let fa : FitsSigned w128 (get_or c.args.a.now c.loop-i.i (pos 0)) = search rules in
    let fc : FitsSigned w128 (get_or c.args.c.now c.loop-i.i (pos 0)) = search rules in
    let fd : FitsSigned w64 c.between-d.result = search rules in
    let d : c.between-d.result ≡ get_or c.args.c.now c.loop-i.i (pos 0) -ℤ get_or c.args.a.now c.loop-i.i (pos 0) = simp to_z-of_z at c.between-d.ensures in
    let fsp : FitsSigned w64 c.args.start = c.ranges.start in
    let fp : FitsSigned w64 (get_or c.args.p.now c.loop-i.i (pos 0)) = search rules in
    let ip = c.loop-i.invariant.p_room in
    let rp = room_between c.args.start (to_z w64 c.loop-i.alpha-bits) c.args.a.now c.args.c.now c.args.p.now c.loop-i.i c.requires.a_length c.requires.c_length c.loop-i-test.true (2 ^ 62) ip in
    simp to_z-of_z (rw d rp.0)

pub plus_product-alpha-requires-clause-sum : goal.plus_product-alpha-requires-clause-sum
plus_product-alpha-requires-clause-sum c =
    let fa : FitsSigned w128 (get_or c.args.a.now c.loop-i.i (pos 0)) = search rules in
    let fc : FitsSigned w128 (get_or c.args.c.now c.loop-i.i (pos 0)) = search rules in
    let fd : FitsSigned w64 c.between-d.result = search rules in
    let d : c.between-d.result ≡ get_or c.args.c.now c.loop-i.i (pos 0) -ℤ get_or c.args.a.now c.loop-i.i (pos 0) = simp to_z-of_z at c.between-d.ensures in
    let fsp : FitsSigned w64 c.args.start = c.ranges.start in
    let fp : FitsSigned w64 (get_or c.args.p.now c.loop-i.i (pos 0)) = search rules in
    let ip = c.loop-i.invariant.p_room in
    let rp = room_between c.args.start (to_z w64 c.loop-i.alpha-bits) c.args.a.now c.args.c.now c.args.p.now c.loop-i.i c.requires.a_length c.requires.c_length c.loop-i-test.true (2 ^ 62) ip in
    simp to_z-of_z (rw d rp.1)

pub plus_product-beta-requires-clause-product : goal.plus_product-beta-requires-clause-product
plus_product-beta-requires-clause-product c =
    let fa : FitsSigned w128 (get_or c.args.a.now c.loop-i.i (pos 0)) = search rules in
    let fc : FitsSigned w128 (get_or c.args.c.now c.loop-i.i (pos 0)) = search rules in
    let fd : FitsSigned w64 c.between-d.result = search rules in
    let d : c.between-d.result ≡ get_or c.args.c.now c.loop-i.i (pos 0) -ℤ get_or c.args.a.now c.loop-i.i (pos 0) = simp to_z-of_z at c.between-d.ensures in
    let fsq : FitsSigned w64 c.args.other = c.ranges.other in
    let fq : FitsSigned w64 (get_or c.args.q.now c.loop-i.i (pos 0)) = search rules in
    let iq = c.loop-i.invariant.q_room in
    let rq = room_between c.args.other (to_z w64 c.loop-i.beta-bits) c.args.a.now c.args.c.now c.args.q.now c.loop-i.i (c.requires.a_length ∙ sym c.requires.q_length) (c.requires.c_length ∙ sym c.requires.q_length) (omega (arith, c.requires.q_length, c.loop-i-test.true)) (2 ^ 62) iq in
    simp to_z-of_z (rw d rq.0)

pub plus_product-beta-requires-clause-sum : goal.plus_product-beta-requires-clause-sum
plus_product-beta-requires-clause-sum c =
    let fa : FitsSigned w128 (get_or c.args.a.now c.loop-i.i (pos 0)) = search rules in
    let fc : FitsSigned w128 (get_or c.args.c.now c.loop-i.i (pos 0)) = search rules in
    let fd : FitsSigned w64 c.between-d.result = search rules in
    let d : c.between-d.result ≡ get_or c.args.c.now c.loop-i.i (pos 0) -ℤ get_or c.args.a.now c.loop-i.i (pos 0) = simp to_z-of_z at c.between-d.ensures in
    let fsq : FitsSigned w64 c.args.other = c.ranges.other in
    let fq : FitsSigned w64 (get_or c.args.q.now c.loop-i.i (pos 0)) = search rules in
    let iq = c.loop-i.invariant.q_room in
    let rq = room_between c.args.other (to_z w64 c.loop-i.beta-bits) c.args.a.now c.args.c.now c.args.q.now c.loop-i.i (c.requires.a_length ∙ sym c.requires.q_length) (c.requires.c_length ∙ sym c.requires.q_length) (omega (arith, c.requires.q_length, c.loop-i-test.true)) (2 ^ 62) iq in
    simp to_z-of_z (rw d rq.1)

pub loop-i-preserved : goal.loop-i-preserved
loop-i-preserved c =
    let fa : FitsSigned w128 (get_or c.args.a.now c.loop-i.i (pos 0)) = search rules in
    let fc : FitsSigned w128 (get_or c.args.c.now c.loop-i.i (pos 0)) = search rules in
    let fd : FitsSigned w64 c.between-d.result = search rules in
    let d : c.between-d.result ≡ get_or c.args.c.now c.loop-i.i (pos 0) -ℤ get_or c.args.a.now c.loop-i.i (pos 0) = simp to_z-of_z at c.between-d.ensures in
    let fsp : FitsSigned w64 c.args.start = c.ranges.start in
    let fp : FitsSigned w64 (get_or c.args.p.now c.loop-i.i (pos 0)) = search rules in
    let ip = c.loop-i.invariant.p_room in
    let rp = room_between c.args.start (to_z w64 c.loop-i.alpha-bits) c.args.a.now c.args.c.now c.args.p.now c.loop-i.i c.requires.a_length c.requires.c_length c.loop-i-test.true (2 ^ 62) ip in
    let fsq : FitsSigned w64 c.args.other = c.ranges.other in
    let fq : FitsSigned w64 (get_or c.args.q.now c.loop-i.i (pos 0)) = search rules in
    let iq = c.loop-i.invariant.q_room in
    let rq = room_between c.args.other (to_z w64 c.loop-i.beta-bits) c.args.a.now c.args.c.now c.args.q.now c.loop-i.i (c.requires.a_length ∙ sym c.requires.q_length) (c.requires.c_length ∙ sym c.requires.q_length) (omega (arith, c.requires.q_length, c.loop-i-test.true)) (2 ^ 62) iq in
    let gp : FitsSigned w64 c.plus_product-alpha.result = search rules in
    let ep = rw d at (simp to_z-of_z at c.plus_product-alpha.ensures) in
    let vp = simp to_z-of_z at c.loop-i.invariant.p in
    let gq : FitsSigned w64 c.plus_product-beta.result = search rules in
    let eq = rw d at (simp to_z-of_z at c.plus_product-beta.ensures) in
    let vq = simp to_z-of_z at c.loop-i.invariant.q in
    simp to_z-of_z (record {
      p = rw ep (value_more c.args.start (to_z w64 c.loop-i.alpha-bits) c.args.a.now c.args.c.now c.args.p.now c.loop-i.i c.requires.a_length c.requires.c_length c.loop-i-test.true vp);
      q = rw eq (value_more c.args.other (to_z w64 c.loop-i.beta-bits) c.args.a.now c.args.c.now c.args.q.now c.loop-i.i (c.requires.a_length ∙ sym c.requires.q_length) (c.requires.c_length ∙ sym c.requires.q_length) (omega (arith, c.requires.q_length, c.loop-i-test.true)) vq);
      p_room = rw ep rp.2;
      q_room = rw eq rq.2;
    })

pub returns-clause-p : goal.returns-clause-p
returns-clause-p c =
    let fs : FitsSigned w64 c.args.start = c.ranges.start in
    at_end c.args.start (to_z w64 c.loop-i.alpha-bits) c.args.a.now c.args.c.now c.args.p.now c.loop-i.i c.requires.a_length c.requires.c_length c.loop-i-test.false (simp to_z-of_z at c.loop-i.invariant.p)

pub returns-clause-q : goal.returns-clause-q
returns-clause-q c =
    let fs : FitsSigned w64 c.args.other = c.ranges.other in
    at_end c.args.other (to_z w64 c.loop-i.beta-bits) c.args.a.now c.args.c.now c.args.q.now c.loop-i.i (c.requires.a_length ∙ sym c.requires.q_length) (c.requires.c_length ∙ sym c.requires.q_length) (omega (arith, c.requires.q_length, c.loop-i-test.false)) (simp to_z-of_z at c.loop-i.invariant.q)
