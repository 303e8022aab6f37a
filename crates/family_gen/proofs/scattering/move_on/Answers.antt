use Rattle.std.proofs.Common.{◌≡◌, ◌-◌, ◌<◌, ◌≤◌, ℕ, suc, sym, subst, refl, arith, take, drop, length, ◌++◌}
use Rattle.family_gen.specs.Scatter.{next, are_all}
use Rattle.family_gen.proofs.GridPoints.{carry_start, carry_end, read_back, write_back, rises_back, within_at}
use Rattle.family_gen.proofs.scattering.move_on.Goals as goal

pub carry-init : goal.carry-init
carry-init c = let h = carry_start c.args.side c.args.coords.now in record { coords = h.0; rises = h.1; place = omega arith }

pub moved-requires-clause-within : goal.moved-requires-clause-within
moved-requires-clause-within c =
    let old = c.args.coords.now in
    let j = c.carry.place - 1 in
    let now = c.carry.coords in
    let bound : c.carry.place ≤ length old = c.carry.invariant.place in
    let some : 0 < c.carry.place = c.carry-test.true in
    let e : c.carry.place ≡ suc j = omega arith in
    let h : now ≡ take (suc j) old ++ next c.args.side (drop (suc j) old) = subst (λ (i : ℕ). now ≡ take i old ++ next c.args.side (drop i old)) e c.carry.invariant.coords in
    subst (λ (x : ℕ). x ≤ c.args.side) (sym (read_back c.args.side old now j (omega arith) h)) (within_at c.args.side old j c.requires.within (omega arith))

pub carry-preserved : goal.carry-preserved
carry-preserved c =
    let old = c.args.coords.now in
    let j = c.carry.place - 1 in
    let now = c.carry.coords in
    let bound : c.carry.place ≤ length old = c.carry.invariant.place in
    let some : 0 < c.carry.place = c.carry-test.true in
    let e : c.carry.place ≡ suc j = omega arith in
    let h : now ≡ take (suc j) old ++ next c.args.side (drop (suc j) old) = subst (λ (i : ℕ). now ≡ take i old ++ next c.args.side (drop i old)) e c.carry.invariant.coords in
    let g : c.carry.rises ≡ are_all c.args.side (drop (suc j) old) = subst (λ (i : ℕ). c.carry.rises ≡ are_all c.args.side (drop i old)) e c.carry.invariant.rises in
    record {
      coords = write_back c.args.side old now j (omega arith) h c.moved.result c.carry.rises g c.moved.ensures;
      rises = rises_back c.args.side old now j (omega arith) h c.carry.rises g _ refl;
      place = omega arith;
    }

pub returns : goal.returns
returns c = let bound = c.carry-test.false in carry_end c.args.side c.args.coords.now c.carry.coords c.carry.place (omega arith) c.carry.invariant.coords
