use Rattle.std.proofs.Common.{◌≡◌, ℕ, ◌+◌, ◌-◌, ◌∙◌, ap, sym, subst, refl, List, [], ◌∷◌, ◌++◌}
use Rattle.support_text.specs.Faults.{series}
use Rattle.support_text.proofs.Series.{series_start, series_step, series_end, series_fails}
use Rattle.path_log.specs.declared.log.LogNode.{LogNode}
use Rattle.path_log.specs.LogText.{node_at}
use Rattle.path_log.proofs.nodes.node_lines.Goals as goal

pub loop-turn-init : goal.loop-turn-init
loop-turn-init c = record {
  so_far = series_start (node_at c.args.spans.now c.args.lines.now.end_line) c.args.count c.new-nodes.result.items c.args.lines.now.rows c.new-nodes.ensures.items;
  end_line = refl;
}

pub returns-then-is_err-clause-end_line : goal.returns-then-is_err-clause-end_line
returns-then-is_err-clause-end_line c = c.loop-turn.invariant.end_line

pub returns-in-Err-clause-reading : goal.returns-in-Err-clause-reading
returns-in-Err-clause-reading c =
    series_fails (node_at c.args.spans.now c.loop-turn.lines.end_line) c.args.count c.loop-turn._turn c.loop-turn.nodes.items c.loop-turn.lines.rows
    (series c.args.count (node_at c.args.spans.now c.args.lines.now.end_line) [] c.args.lines.now.rows) c.in-Err.fault c.loop-turn-test.true c.in-Err.ensures.reading c.loop-turn.invariant.so_far

pub returns-in-Err-clause-end_line : goal.returns-in-Err-clause-end_line
returns-in-Err-clause-end_line c = c.node.ensures.end_line ∙ c.loop-turn.invariant.end_line

pub loop-turn-preserved : goal.loop-turn-preserved
loop-turn-preserved c =
    let spans = c.args.spans.now in
    let count = c.args.count in
    let turn = c.loop-turn._turn in
    let more = c.push_reserved.ensures.items ∙ ap (λ (l : List LogNode). l ++ c.in-Ok.found ∷ []) c.reserve.ensures.items in
    let whole = series count (node_at spans c.args.lines.now.end_line) [] c.args.lines.now.rows in
    let next = series_step (node_at spans c.loop-turn.lines.end_line) count turn c.loop-turn.nodes.items c.loop-turn.lines.rows whole c.push_reserved.new.self.items c.in-Ok.found c.node.new.lines.rows
    more c.loop-turn-test.true c.in-Ok.ensures.reading c.loop-turn.invariant.so_far in
    record {
      so_far = subst (λ (k : ℕ). series (count - (turn + 1)) (node_at spans k) c.push_reserved.new.self.items c.node.new.lines.rows ≡ whole) (sym c.node.ensures.end_line) next;
      end_line = c.node.ensures.end_line ∙ c.loop-turn.invariant.end_line;
    }

pub returns-clause-reading : goal.returns-clause-reading
returns-clause-reading c =
    series_end (node_at c.args.spans.now c.loop-turn.lines.end_line) c.args.count c.loop-turn._turn c.loop-turn.nodes.items c.loop-turn.lines.rows
    (series c.args.count (node_at c.args.spans.now c.args.lines.now.end_line) [] c.args.lines.now.rows) c.loop-turn-test.false c.loop-turn.invariant.so_far

pub returns-clause-end_line : goal.returns-clause-end_line
returns-clause-end_line c = c.loop-turn.invariant.end_line
