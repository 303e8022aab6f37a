use Rattle.std.proofs.Common.{◌<◌, ◌≤◌, ◌↔◌, List, length, map, subst, sym}
use Rattle.std.specs.Prelude.{IsTrue}
use Rattle.cayley.specs.Cells.{Cell, EachPair, IsOf}
use Rattle.cayley.specs.Problems.{Problem}
use Rattle.cayley.specs.Stored.{point, version_of, unranked_of, problem_of}
use Rattle.cayley.specs.declared.points.Support.{Support}
use Rattle.cayley.proofs.Ranking.Unperturbed.{same_of}
use Rattle.cayley.proofs.Ranking.StoredProblems.{stored_same}
use Rattle.cayley.proofs.problems.Problem.contains.Goals as goal

pub returns : goal.returns
returns c =
    let F : List Support → Cell → Type 0 = λ ss cell. IsTrue c.has_positions.result
    ↔ EachPair (map (λ (s : Support). map point s.points.items) ss) cell (λ s a b. (1 ≤ a) × (a < b) × (b ≤ length s)) in
    let h = subst (λ (cell : Cell). F c.deref.result.now cell) c.pairs.ensures.same c.has_positions.ensures in
    let k = subst (λ (ss : List Support). F ss c.args.cell.now) c.deref.ensures.value h in
    let p = unranked_of c.self.inside.dim c.self.inside.supports.items in
    let q = problem_of (version_of c.self.inside.version) c.self.inside.dim c.self.inside.supports.items in
    let e = stored_same (version_of c.self.inside.version) c.self.inside.dim c.self.inside.supports.items in
    subst (λ (p : Problem). IsTrue c.has_positions.result ↔ IsOf p c.args.cell.now) c.self.view_is
    ((λ t. same_of p q c.args.cell.now e (k.0 t)), (λ h. k.1 (same_of q p c.args.cell.now (sym e) h)))
