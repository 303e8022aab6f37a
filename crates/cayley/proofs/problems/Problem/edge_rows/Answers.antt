use Rattle.std.proofs.Common.{◌≡◌, ◌∙◌, ◌+◌, ◌*◌, ◌<◌, ◌≤◌, ℕ, List, map, length, subst, sym, ap, ap₂}
use Rattle.std.specs.Prelude.{ℤ}
use Rattle.std.specs.List.{All}
use Rattle.std.proofs.lemmas.List.{length-map}
use Rattle.std.proofs.lemmas.Result.{IfOk-weaker}
use Rattle.int_vectors.specs.Vectors.{Each}
use Rattle.cayley.specs.Cells.{Cell, EachPair, IsOf}
use Rattle.cayley.specs.Problems.{Problem, Point}
use Rattle.cayley.specs.Rows.{edge_rows, edge_rows_from}
use Rattle.cayley.specs.Stored.{point, version_of, unranked_of, problem_of}
use Rattle.cayley.specs.Valid.{IsValidProblem, IsCornerCoordinate}
use Rattle.cayley.specs.declared.points.Point.{Point as StoredPoint}
use Rattle.cayley.specs.declared.points.Support.{Support}
use Rattle.cayley.proofs.OneCell.EdgeRows.{length-edge_rows, edge_rows_wide}
use Rattle.cayley.proofs.Ranking.Unperturbed.{same_of, same_rows}
use Rattle.int_vectors.proofs.Each.{all_each}
use Rattle.cayley.proofs.Lists.Pairs.{each_pair_long}
use Rattle.cayley.proofs.Ranking.StoredProblems.{stored_same, stored_small, stored_long, valid_stored}
use Rattle.cayley.proofs.problems.Problem.edge_rows.Goals as goal

abbrev points_of : List Support → List (List Point)
points_of supports = map (λ (s : Support). map point s.points.items) supports

abbrev AreOf : List Support → Cell → Type 0
AreOf supports cell = EachPair (points_of supports) cell (λ s a b. (1 ≤ a) × (a < b) × (b ≤ length s))

pub rows_of-requires : goal.rows_of-requires
rows_of-requires c =
    let v = version_of c.self.inside.version in
    let ss = c.self.inside.supports.items in
    let e = stored_same v c.self.inside.dim ss in
    let here = same_of (problem_of v c.self.inside.dim ss) (unranked_of c.self.inside.dim ss) c.args.cell.now (sym e) (subst (λ (p : Problem). IsOf p c.args.cell.now) (sym c.self.view_is) c.requires) in
    record {
      dim = c.self.invariant.0.shape.dimension.1;
      count = ap (length {A = Support}) c.deref.ensures.value ∙ stored_long v c.self.inside.dim ss c.self.invariant.0;
      points = subst (λ (ss : List Support). All (λ (s : Support). All (λ (x : StoredPoint). (length x.coords ≡ c.self.inside.dim) × Each x.coords IsCornerCoordinate) s.points.items) ss)
          (sym c.deref.ensures.value) (stored_small v c.self.inside.dim ss c.self.invariant.0);
      positions = subst (λ (cell : Cell). AreOf c.deref.result.now cell) (sym c.pairs.ensures.same) (subst (λ (ss : List Support). AreOf ss c.args.cell.now) (sym c.deref.ensures.value) here);
    }

pub returns : goal.returns
returns c =
    let v = version_of c.self.inside.version in
    let ss = c.self.inside.supports.items in
    let p = unranked_of c.self.inside.dim ss in
    let q = problem_of v c.self.inside.dim ss in
    let e = stored_same v c.self.inside.dim ss in
    let valid = valid_stored v c.self.inside.dim ss c.self.invariant.0 in
    let here = same_of q p c.args.cell.now (sym e) (subst (λ (p : Problem). IsOf p c.args.cell.now) (sym c.self.view_is) c.requires) in
    let dim = ap (λ (p : Problem). p.dimension) c.self.view_is in
    let made = ap₂ (λ ss cell. edge_rows_from c.self.inside.dim 0 (points_of ss) cell) c.deref.ensures.value c.pairs.ensures.same in
    let same = same_rows p q c.args.cell.now e ∙ ap (λ (p : Problem). edge_rows p c.args.cell.now) c.self.view_is in
    let long = length-map ss (λ (s : Support). map point s.points.items) in
    let pairs = each_pair_long (λ (s : Support). map point s.points.items) _ ss c.args.cell.now here in
    let count = length-edge_rows c.self.inside.dim 0 (points_of ss) c.args.cell.now (long ∙ pairs) ∙ valid.shape.problem.supports ∙ dim in
    let wide = all_each _ _ (edge_rows_wide c.self.inside.dim 0 (points_of ss) c.args.cell.now valid.shape.problem.points here) in
    record {
      value = IfOk-weaker c.rows_of.result _ _ (λ rows e. e ∙ made ∙ same) c.rows_of.ensures;
      count = IfOk-weaker c.rows_of.result _ _ (λ rows e. ap (length {A = List ℤ}) (e ∙ made) ∙ count) c.rows_of.ensures;
      widths = IfOk-weaker c.rows_of.result _ _ (λ rows e. subst (λ (n : ℕ). All (λ (row : List ℤ). length row ≡ 2 * n + 2) rows.items) dim
          (subst (λ (made : List (List ℤ)). All (λ (row : List ℤ). length row ≡ 2 * c.self.inside.dim + 2) made) (sym (e ∙ made)) wide)) c.rows_of.ensures;
      valid = subst IsValidProblem c.self.view_is c.self.invariant.0;
    }
