use Rattle.std.proofs.Common.{◌≤◌, List, length, arith, subst, sym, ap}
use Rattle.std.specs.List.{All}
use Rattle.cayley.specs.Stored.{version_of}
use Rattle.cayley.specs.declared.points.Support.{Support}
use Rattle.cayley.proofs.Ranking.StoredProblems.{stored_counts, stored_long}
use Rattle.cayley.proofs.problems.Problem.of_parts.Goals as goal

pub first_ranks-requires : goal.first_ranks-requires
first_ranks-requires c =
    let v = version_of c.args.version in
    let long = stored_long v c.args.dim c.args.supports.items c.requires in
    let e = ap (length {A = Support}) c.deref.ensures.value in
    let few = c.requires.shape.dimension.1 in
    record {
      few = omega (arith, long, e, few);
      counts = subst (λ (ss : List Support). All (λ (s : Support). (s.file ≤ length s.points.items) × (length s.points.items ≤ 2000)) ss) (sym c.deref.ensures.value)
          (stored_counts v c.args.dim c.args.supports.items c.requires);
    }
