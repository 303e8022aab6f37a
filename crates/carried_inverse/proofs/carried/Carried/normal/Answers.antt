use Rattle.std.proofs.Common.{◌≡◌, ◌∙◌, length, List, ℤ, refl, sym, ap, subst, Result, Ok, Err, IfOk}
use Rattle.cayley.specs.Cells.{Cell, IsOf}
use Rattle.cayley.specs.Problems.{Problem, IsProblem, HasSamePoints}
use Rattle.cayley.proofs.OneCell.CellRows.{InRange}
use Rattle.inner_normal.specs.Inverses.{Inverse}
use Rattle.inner_normal.proofs.Reading.{cell_long}
use Rattle.inner_normal.specs.declared.moving.MovingNormal.{MovingNormal}
use Rattle.inner_normal.specs.MovingNormals.{IsMovingNormal}
use Rattle.reduced_rows.specs.declared.faults.FromFault.{FromFault}
use Rattle.carried_inverse.specs.Sums.{IsSum, base_falls, speed_falls}
use Rattle.carried_inverse.specs.Systems.{IsInverseOfCell}
use Rattle.carried_inverse.proofs.PairFalls.{falls_long}
use Rattle.reduced_rows.specs.CellRefusals.{IsEliminated}
use Rattle.cayley.specs.Rows.{edge_rows}
use Rattle.inner_normal.specs.Workings.{IsNormalFrom}
use Rattle.carried_inverse.proofs.OneInverse.{numbers_from}
use Rattle.carried_inverse.proofs.Independence.{normal_however}
use Rattle.carried_inverse.proofs.carried.Carried.normal.Goals as goal

counts : (p : Problem) (cell : Cell) (a : Inverse) → IsProblem p → IsOf p cell → IsInverseOfCell p cell a → (length (base_falls p.supports cell) ≡ length a.columns) × (length (speed_falls p.supports cell) ≡ length a.columns)
counts p cell a well of h =
    let f = falls_long p.supports cell of in
    let k = cell_long p.supports cell InRange of in
    let e = well.supports in
    (f.0 ∙ k ∙ e ∙ sym h.count, f.1 ∙ k ∙ e ∙ sym h.count)

pub sums-requires-clause-bases : goal.sums-requires-clause-bases
sums-requires-clause-bases c =
    ap length (c.deref.ensures.value ∙ c.in_ok-falls.ensures.0) ∙ (counts c.args.problem.now c.args.cell.now c.args.self.now c.dim-dim.ensures.valid.shape.problem c.requires.of c.requires.inverse).0

pub sums-requires-clause-speeds : goal.sums-requires-clause-speeds
sums-requires-clause-speeds c =
    ap length (c.deref-2.ensures.value ∙ c.in_ok-falls.ensures.1) ∙ (counts c.args.problem.now c.args.cell.now c.args.self.now c.dim-dim.ensures.valid.shape.problem c.requires.of c.requires.inverse).1

answer : (q : Problem) (cell : Cell) (a : Inverse) (bs ss : List ℤ) (r : Result MovingNormal FromFault) → IsProblem q → IsOf q cell → IsInverseOfCell q cell a → bs ≡ base_falls q.supports cell → ss ≡ speed_falls q.supports cell
    → IfOk r (λ m. m.den ≡ a.den × IsSum (length a.columns) bs a.columns m.p × IsSum (length a.columns) ss a.columns m.q) → IfOk r (λ m. (p : Problem) → HasSamePoints p q → IsMovingNormal p cell m)
answer q cell a bs ss (Ok m) well of h eb es s = λ p same.
    normal_however p q cell same well of a m h s.0
    (subst (λ b. IsSum q.dimension b a.columns m.p) eb (subst (λ k. IsSum k bs a.columns m.p) h.count s.1))
    (subst (λ b. IsSum q.dimension b a.columns m.q) es (subst (λ k. IsSum k ss a.columns m.q) h.count s.2))
answer q cell a bs ss (Err fault) well of h eb es s = tt

pub returns-clause-normal : goal.returns-clause-normal
returns-clause-normal c =
    answer c.args.problem.now c.args.cell.now c.args.self.now c.deref.result.now c.deref-2.result.now c.sums.result c.dim-dim.ensures.valid.shape.problem c.requires.of c.requires.inverse
    (c.deref.ensures.value ∙ c.in_ok-falls.ensures.0) (c.deref-2.ensures.value ∙ c.in_ok-falls.ensures.1) c.sums.ensures

numbers : (q : Problem) (cell : Cell) (a : Inverse) (bs ss : List ℤ) (r : Result MovingNormal FromFault) → IsProblem q → IsOf q cell → IsInverseOfCell q cell a
    → IfOk r (λ m. m.den ≡ a.den × IsSum (length a.columns) bs a.columns m.p × IsSum (length a.columns) ss a.columns m.q) → IfOk r (λ m. (p : Problem) → HasSamePoints p q → IsMovingNormal p cell m)
    → IfOk r (λ m. (made : List (List ℤ)) → IsEliminated q.dimension (edge_rows q cell) made → IsNormalFrom made m)
numbers q cell a bs ss (Ok m) well of h s n = λ made done. numbers_from q cell well of a h m s.0 (n q refl) made done
numbers q cell a bs ss (Err fault) well of h s n = tt

pub returns-clause-numbers : goal.returns-clause-numbers
returns-clause-numbers c =
    numbers c.args.problem.now c.args.cell.now c.args.self.now c.deref.result.now c.deref-2.result.now c.sums.result c.dim-dim.ensures.valid.shape.problem c.requires.of c.requires.inverse c.sums.ensures (returns-clause-normal c)
