use Rattle.std.proofs.Common.{rules, ◌≡◌, ◌∙◌, List, length, sym, ap, subst, FitsSigned, to_z-of_z}
use Rattle.std.specs.Int.{w128}
use Rattle.std.proofs.Math.IntN.{ℤ}
use Rattle.std.proofs.lemmas.Result.{err_from_is_err_and}
use Rattle.int_vectors.specs.Vectors.{Each}
use Rattle.inner_normal.specs.Inverses.{Inverse}
use Rattle.inner_normal.specs.declared.moving.MovingNormal.{MovingNormal}
use Rattle.inner_normal.proofs.Faults.{fault_other}
use Rattle.cone_walls.specs.Listed.{wall_lines}
use Rattle.cone_walls.specs.Parts.{FitsCircuitOf, AreRefined}
use Rattle.cone_walls.specs.Workings.{FitsWalls}
use Rattle.path_trace.proofs.Independence.{columns_long, columns_wide}
use Rattle.log_check.specs.Numbers.{inverse_of, FitsNode}
use Rattle.log_check.proofs.Inverting.{moves}
use Rattle.log_check.proofs.Walling.{circuits_all, circuits_each, their_points, listed, walled}
use Rattle.log_check.proofs.walls.walls_by.Goals as goal

pub lines_of-requires-clause-p_long : goal.lines_of-requires-clause-p_long
lines_of-requires-clause-p_long c =
    ap (λ (m : MovingNormal). length m.p) c.in_ok-normal.ensures.1 ∙ (moves c.args.problem.now c.args.node.now c.dim-dim.ensures.valid.shape.problem c.requires.of c.requires.inverse).long.0

pub lines_of-requires-clause-q_long : goal.lines_of-requires-clause-q_long
lines_of-requires-clause-q_long c =
    ap (λ (m : MovingNormal). length m.q) c.in_ok-normal.ensures.1 ∙ (moves c.args.problem.now c.args.node.now c.dim-dim.ensures.valid.shape.problem c.requires.of c.requires.inverse).long.1

pub refine_all-requires-clause-points : goal.refine_all-requires-clause-points
refine_all-requires-clause-points c =
    let p = c.args.problem.now in
    let node = c.args.node.now in
    their_points p node c.dim-dim.ensures.valid c.requires.of c.requires.inverse c.in_ok-coarse.coarse.items c.in_ok-coarse.coarse.items
    (c.in_ok-coarse.ensures.made.1 ∙ ap (λ (m : MovingNormal). wall_lines m 1 p.supports node.cell) c.in_ok-normal.ensures.1)

pub refine_all-requires-clause-count : goal.refine_all-requires-clause-count
refine_all-requires-clause-count c =
    let n = c.args.problem.now.dimension in
    ap (λ (i : Inverse). length i.columns) c.given-inverse.ensures ∙ ap length c.requires.columns ∙ columns_long n 0 n c.args.node.now.inverse

pub refine_all-requires-clause-columns : goal.refine_all-requires-clause-columns
refine_all-requires-clause-columns c =
    let n = c.args.problem.now.dimension in
    subst (λ (cs : List (List ℤ)). Each cs (λ x. length x ≡ n)) (sym (ap (λ (i : Inverse). i.columns) c.given-inverse.ensures ∙ c.requires.columns)) (columns_wide n 0 n c.args.node.now.inverse)

pub returns-in_err-lines : goal.returns-in_err-lines
returns-in_err-lines c =
    let p = c.args.problem.now in
    let node = c.args.node.now in
    let lines = c.in_ok-coarse.coarse.items in
    let e = err_from_is_err_and c.from_residual-in_err-lines.result c.from_residual-in_err-lines.ensures.1 in
    let is = c.in_ok-coarse.ensures.made.1 ∙ ap (λ (m : MovingNormal). wall_lines m 1 p.supports node.cell) c.in_ok-normal.ensures.1 in
    let f : FitsSigned w128 node.scale = search rules in
    let same : c.given-inverse.result ≡ inverse_of p node = (simp to_z-of_z at c.given-inverse.ensures) ∙ ap (λ (cs : List (List ℤ)). record { den = node.scale; columns = cs }) c.requires.columns in
    rw (e.1, e.2) (fault_other (Each lines (FitsCircuitOf p node.cell c.given-inverse.result)) (FitsNode p node) c.in_err-lines.field-0.0
    (λ none f. none (subst (λ (i : Inverse). Each lines (FitsCircuitOf p node.cell i)) (sym same)
    (circuits_each p node.cell (inverse_of p node) lines (their_points p node c.dim-dim.ensures.valid c.requires.of c.requires.inverse lines lines is) f.circuits)))
    c.in_err-lines.ensures)

pub returns : goal.returns
returns c =
    let p = c.args.problem.now in
    let node = c.args.node.now in
    let lines = c.in_ok-coarse.coarse.items in
    let is = c.in_ok-coarse.ensures.made.1 ∙ ap (λ (m : MovingNormal). wall_lines m 1 p.supports node.cell) c.in_ok-normal.ensures.1 in
    let f : FitsSigned w128 node.scale = search rules in
    let same : c.given-inverse.result ≡ inverse_of p node = (simp to_z-of_z at c.given-inverse.ensures) ∙ ap (λ (cs : List (List ℤ)). record { den = node.scale; columns = cs }) c.requires.columns in
    let h = c.in_ok-lines.ensures in
    let valid = c.dim-dim.ensures.valid in (
      record {
        sums = c.in_ok-normal.ensures.0;
        walls = subst (λ (m : MovingNormal). FitsWalls p node.cell m) c.in_ok-normal.ensures.1 c.in_ok-coarse.ensures.made.0;
        circuits = circuits_all p node.cell lines (listed p node valid c.requires.of c.requires.inverse lines lines is) (inverse_of p node)
            (subst (λ (i : Inverse). Each lines (FitsCircuitOf p node.cell i)) same h.0);
      },
      record {
        normal = c.in_ok-normal.ensures.1;
        inverse = same;
        lines = walled p node valid c.requires.of c.requires.inverse lines c.in_ok-lines.lines.items is
            (subst (λ (i : Inverse). AreRefined p node.cell i lines c.in_ok-lines.lines.items) same h.1);
      },
    )
