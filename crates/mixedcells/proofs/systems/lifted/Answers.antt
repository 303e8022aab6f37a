use Rattle.std.proofs.Common.{rules, ◌≡◌, ◌≤◌, ℕ, length, sym, subst}
use Rattle.int_vectors.specs.Vectors.{Each}
use Rattle.cayley.specs.Valid.{IsCoordinate, AreDistinct}
use Rattle.cayley.specs.declared.limits.TheConstants.{POINTS}
use Rattle.mixedcells.proofs.SystemReplies.{stored, stored_points, stored_count, lifted_is}
use Rattle.mixedcells.proofs.systems.lifted.Goals as goal

pub lift-requires : goal.lift-requires
lift-requires c =
    let items = c.into_supports.result.items in
    record {
      least = subst (λ (n : ℕ). 1 ≤ n) (sym c.dim-dim.ensures) c.requires.dimension.0;
      greatest = subst (λ (n : ℕ). n ≤ 16) (sym c.dim-dim.ensures) c.requires.dimension.1;
      count = stored_count items c.args.system c.dim-dim.result c.dim-dim.ensures c.into_supports.ensures c.requires.count;
      counts = stored items c.args.system c.dim-dim.result c.dim-dim.ensures c.into_supports.ensures (λ s. (1 ≤ length s) × (length s ≤ POINTS)) c.requires.counts;
      points = stored_points items c.args.system c.dim-dim.result c.dim-dim.ensures c.into_supports.ensures c.requires.points;
      limits = stored items c.args.system c.dim-dim.result c.dim-dim.ensures c.into_supports.ensures (λ s. Each s (λ x. Each x IsCoordinate)) c.requires.limits;
      distinct = stored items c.args.system c.dim-dim.result c.dim-dim.ensures c.into_supports.ensures AreDistinct c.requires.distinct;
    }

pub returns : goal.returns
returns c =
    let same = lifted_is c.into_supports.result.items c.args.system c.dim-dim.result c.dim-dim.ensures c.into_supports.ensures c.in_ok-file.file c.args.seed c.in_ok-file.ensures in
    search (rules, same)
