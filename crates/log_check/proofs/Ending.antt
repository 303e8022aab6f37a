-- where the cell of a node ends, by the exit of its lines
use Rattle.std.proofs.Common.{◌≡◌, ℕ, ◌-◌, ◌<◌, ◌≤◌, List, length, arith, sym, subst}
use Rattle.lex_height.specs.Entries.{entries}
use Rattle.lex_height.specs.Values as lex
use Rattle.cayley.specs.Times.{Time}
use Rattle.cayley.specs.Problems.{Problem, IsProblem}
use Rattle.cayley.specs.Dependencies.{IsFurtherAt}
use Rattle.cayley.specs.Flips.{IsOnlyLevel}
use Rattle.cayley.specs.Lives.{AliveLate, EndsAt}
use Rattle.cayley.specs.Mixed.{IsAlive}
use Rattle.cayley.specs.Normals.{Normal, IsNormal}
use Rattle.cayley.proofs.Flipping.Places.{further_bound}
use Rattle.cayley.proofs.OneCell.CellRows.{InRange}
use Rattle.cayley.proofs.Lists.Pairs.{pairs_long}
use Rattle.crossing.specs.declared.line.WallLine.{WallLine}
use Rattle.crossing.specs.declared.exit.Exit.TheVariants as exit
use Rattle.crossing.specs.Leading.{nth}
use Rattle.crossing.specs.Exits.{IsExit}
use Rattle.path_trace.specs.declared.trace.TraceNode.{TraceNode}
use Rattle.searcher.specs.Ends.{IsTiedAtEnd}
use Rattle.searcher.proofs.LinePoints.{further_of}
use Rattle.searcher.proofs.TiedEnds.{end_tied, end_alone, end_wall, end_never, end_flat}
use Rattle.log_check.specs.Walled.{HasLines}

module _ (p : Problem) (node : TraceNode) (well : IsProblem p) (lines : List WallLine) (h : HasLines p node lines) (some : (t : Time) × IsAlive p node.cell t) where
  pub ends_tied : (u : lex.Value) (first second : ℕ) → IsExit lines (exit.Tied u first second) → IsTiedAtEnd p node.cell
  ends_tied u first second ix = (end_tied p node.cell well lines h.places h.sides some.0 some.1 u first second ix).0

  pub never_ends : IsExit lines exit.Never → ¬ (IsTiedAtEnd p node.cell) × AliveLate p node.cell
  never_ends ix = end_never p node.cell well lines h.places h.sides some.0 some.1 ix

  pub never_flat : (which : ℕ) → IsExit lines (exit.Flat which) → ⊥
  never_flat which ix = end_flat p node.cell well lines h.places h.sides some.0 some.1 which ix

  module _ (u : lex.Value) (which : ℕ) (ix : IsExit lines (exit.At u which)) where
    pub ends_alone : ¬ (IsTiedAtEnd p node.cell) × ¬ (AliveLate p node.cell)
    ends_alone = end_alone p node.cell well lines h.places h.sides some.0 some.1 u which ix

    pub inside : which - 1 < length lines
    inside = let a = ix.3.0.0 in let c = ix.3.0.1 in omega (arith, a, c)

    module _ (l : WallLine) (is : l ≡ nth lines (which - 1)) where
      point : (1 ≤ l.support) × IsFurtherAt p node.cell (l.support - 1) l.position
      point = subst (λ (k : WallLine). (1 ≤ k.support) × IsFurtherAt p node.cell (k.support - 1) k.position) (sym is)
          (further_of p node.cell well some.1.0 some.1.1 lines h.places h.sides (which - 1) inside)

      pub wall_point : (1 ≤ l.support) × (l.support ≤ p.dimension) × IsFurtherAt p node.cell (l.support - 1) l.position
      wall_point =
          let c = pairs_long p.supports node.cell InRange some.1.0 in
          let a = further_bound p.supports node.cell (l.support - 1) l.position c point.1 in
          let d = well.supports in
          let f = point.0 in
          (f, omega (arith, a, c, d, f), point.1)

      pub wall_end : (t : Time) × (t.entries ≡ entries u.parts) × (t.over ≡ u.den) × EndsAt p node.cell t
          × ((v : Normal) × IsNormal p node.cell t v × IsOnlyLevel p node.cell t v (l.support - 1) l.position)
      wall_end =
          subst (λ (k : WallLine). (t : Time) × (t.entries ≡ entries u.parts) × (t.over ≡ u.den) × EndsAt p node.cell t
          × ((v : Normal) × IsNormal p node.cell t v × IsOnlyLevel p node.cell t v (k.support - 1) k.position)) (sym is)
          (end_wall p node.cell well lines h.places h.sides some.0 some.1 u which ix)
