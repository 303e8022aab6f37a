use Rattle.std.proofs.Common.{rules, ◌≡◌, ◌-ℤ◌, ◌*ℤ◌, FitsSigned, to_z-of_z, subst, sym}
use Rattle.std.specs.Int.{w64}
use Rattle.int_vectors.specs.Vectors.{Each}
use Rattle.int_vectors.specs.Bounds.{IsNarrow}
use Rattle.cone_walls.proofs.sums.narrow_line.Goals as goal

pub narrow_dots_between-alpha-requires-clause-a_small : goal.narrow_dots_between-alpha-requires-clause-a_small
narrow_dots_between-alpha-requires-clause-a_small c = subst (λ xs. Each xs IsNarrow) (sym c.as_slice.ensures.value) c.requires.a_small

pub narrow_dots_between-alpha-requires-clause-c_small : goal.narrow_dots_between-alpha-requires-clause-c_small
narrow_dots_between-alpha-requires-clause-c_small c = subst (λ xs. Each xs IsNarrow) (sym c.as_slice-2.ensures.value) c.requires.c_small

pub narrow_dots_between-alpha-requires-clause-p_room : goal.narrow_dots_between-alpha-requires-clause-p_room
narrow_dots_between-alpha-requires-clause-p_room c =
    let fd : FitsSigned w64 c.args.copies.now.den = search rules in
    let fa : FitsSigned w64 c.args.a.now.base = search rules in
    let fc : FitsSigned w64 c.args.c.now.base = search rules in
    let fr : FitsSigned w64 c.rise.result = search rules in
    let fs : FitsSigned w64 c.scaled-start.result = search rules in
    let r : c.rise.result ≡ c.args.c.now.base -ℤ c.args.a.now.base = simp to_z-of_z at c.rise.ensures in
    let s : c.scaled-start.result ≡ c.args.copies.now.den *ℤ c.rise.result = simp to_z-of_z at c.scaled-start.ensures in
    simp to_z-of_z (rw (s, r, c.deref.ensures.value, c.as_slice.ensures.value, c.as_slice-2.ensures.value) c.requires.alpha)

pub narrow_dots_between-alpha-requires-clause-q_room : goal.narrow_dots_between-alpha-requires-clause-q_room
narrow_dots_between-alpha-requires-clause-q_room c =
    let fd : FitsSigned w64 c.args.copies.now.den = search rules in
    let fa : FitsSigned w64 c.args.a.now.speed = search rules in
    let fc : FitsSigned w64 c.args.c.now.speed = search rules in
    let fr : FitsSigned w64 c.haste.result = search rules in
    let fs : FitsSigned w64 c.scaled-other.result = search rules in
    let r : c.haste.result ≡ c.args.c.now.speed -ℤ c.args.a.now.speed = simp to_z-of_z at c.haste.ensures in
    let s : c.scaled-other.result ≡ c.args.copies.now.den *ℤ c.haste.result = simp to_z-of_z at c.scaled-other.ensures in
    simp to_z-of_z (rw (s, r, c.deref-2.ensures.value, c.as_slice.ensures.value, c.as_slice-2.ensures.value) c.requires.beta)
