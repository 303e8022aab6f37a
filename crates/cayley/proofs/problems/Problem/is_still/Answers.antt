use Rattle.std.proofs.Common.{◌≡◌, ◌↔◌, ◌≤◌, List, length, take, subst, sym}
use Rattle.std.specs.Prelude.{IsTrue, pos}
use Rattle.std.specs.List.{All}
use Rattle.cayley.specs.Problems.{Problem, IsStill}
use Rattle.cayley.specs.declared.points.Point.{Point}
use Rattle.cayley.specs.declared.points.Support.{Support}
use Rattle.cayley.specs.Stored.{version_of}
use Rattle.cayley.proofs.Ranking.StoredProblems.{stored_counts, stored_still, still_stored}
use Rattle.cayley.proofs.Refusals.ProblemShapes.{still_from, still_to}
use Rattle.cayley.proofs.problems.Problem.is_still.Goals as goal

pub are_still-requires : goal.are_still-requires
are_still-requires c = subst (λ (ss : List Support). All (λ (s : Support). s.file ≤ length s.points.items) ss) (sym c.deref.ensures.value)
    (λ k d l. (stored_counts (version_of c.self.inside.version) c.self.inside.dim c.self.inside.supports.items c.self.invariant.0 k d l).0)

pub returns : goal.returns
returns c =
    let v = version_of c.self.inside.version in
    let dim = c.self.inside.dim in
    let ss = c.self.inside.supports.items in
    let h = subst (λ (ss : List Support). IsTrue c.are_still.result ↔ All (λ (s : Support). All (λ (x : Point). x.speed ≡ pos 0) (take s.file s.points.items)) ss) c.deref.ensures.value c.are_still.ensures in
    subst (λ (p : Problem). IsTrue c.are_still.result ↔ IsStill p) c.self.view_is
    ((λ t. stored_still v dim ss (still_from dim ss (h.0 t))), (λ s. h.1 (still_to dim ss (still_stored v dim ss s))))
