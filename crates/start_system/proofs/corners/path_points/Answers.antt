use Rattle.std.proofs.Common.{◌≡◌, map, suc, ◌+◌, subst, sym, arith, length}
use Rattle.int_vectors.specs.Vectors.{Each}
use Rattle.cayley.specs.Stored.{file_point}
use Rattle.cayley.specs.Valid.{IsCoordinate}
use Rattle.start_system.proofs.Making.Least.{least_long, least_small}
use Rattle.start_system.proofs.corners.path_points.Goals as goal

pub reach-d-requires-clause-length : goal.reach-d-requires-clause-length
reach-d-requires-clause-length c =
    let e = c.in_ok-m.ensures in
    let l = least_long (suc (length c.args.starts.now)) (map file_point c.args.points.now) c.requires.points in
    subst (λ m. length m ≡ length c.args.starts.now + 1) (sym e) (omega (arith, l))

pub reach-d-requires-clause-small : goal.reach-d-requires-clause-small
reach-d-requires-clause-small c =
    subst (λ m. Each m IsCoordinate) (sym c.in_ok-m.ensures) (least_small (suc (length c.args.starts.now)) (map file_point c.args.points.now) c.requires.points.1)

pub push_directions-requires-clause-lengths : goal.push_directions-requires-clause-lengths
push_directions-requires-clause-lengths c =
    let e = c.in_ok-m.ensures in
    let l = least_long (suc (length c.args.starts.now)) (map file_point c.args.points.now) c.requires.points in
    subst (λ m. length m ≡ suc (length c.args.starts.now)) (sym e) l

pub push_directions-requires-clause-small : goal.push_directions-requires-clause-small
push_directions-requires-clause-small c =
    subst (λ m. Each m IsCoordinate) (sym c.in_ok-m.ensures) (least_small (suc (length c.args.starts.now)) (map file_point c.args.points.now) c.requires.points.1)
