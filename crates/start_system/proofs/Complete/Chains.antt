-- on a tie-free path each cell that is alive at some time has the start cell in its chain
use Rattle.std.proofs.Common.{List, [], ◌∷◌, subst, inl, inr}
use Rattle.cayley.specs.Times.{Time}
use Rattle.cayley.specs.Problems.{Problem, IsProblem}
use Rattle.cayley.specs.Cells.{Cell}
use Rattle.cayley.specs.Mixed.{IsAlive}
use Rattle.cayley.specs.Lives.{AliveLate}
use Rattle.cayley.specs.Parents.{IsParent, IsChain, InChain}
use Rattle.cayley.specs.Parents.InChain.{here, up}
use Rattle.cayley.specs.Ties.{IsTieFree}
use Rattle.cayley.proofs.Order.Lines.{next, before_next}
use Rattle.cayley.proofs.Life.LifeLaws.{life_law, once_law, tie_free_law}
use Rattle.cayley.proofs.Searching.ComputedLaw.{computed_law}
use Rattle.cayley.proofs.Life.Decisions.{alive_before}
use Rattle.start_system.specs.Started.{IsOnlyEarly}

-- a cell that is alive just before a time is alive at some time
pub late_time : (p : Problem) (cell : Cell) → AliveLate p cell → (u : Time) × IsAlive p cell u
late_time p cell h = (next h.0, h.1 (next h.0) (before_next h.0))

module _ (p : Problem) (well : IsProblem p) (start : Cell) (early : IsOnlyEarly p start) where
  -- the start cell has no parent
  pub no_parent : (rho : Cell) → ¬ (IsParent p rho start)
  no_parent rho h = (once_law p start well).2 h.0 early.0 h.1

  -- along the chain, which is a finite list: its last cell has no parent, so it is alive at all early times
  along : IsTieFree p → (cells : List Cell) (tau : Cell) → IsChain p tau cells → (t : Time) → IsAlive p tau t → InChain p start tau
  along free [] tau chain t alive = absurd chain
  along free (x ∷ []) tau chain t alive = elim (life_law p tau t well alive).early [
    | inl e ↦ subst (λ sigma. InChain p sigma tau) (early.1 tau e) here
    | inr q ↦ let r = ((tie_free_law p tau q.0 well (free tau q.0)).0 q.2).1 in absurd (chain.1 r.0 r.1)
  ]
  along free (x ∷ y ∷ cells) tau chain t alive =
      let parent = chain.1 in
      let u = alive_before p y parent.0 parent.2.1 in
      up parent (along free (y ∷ cells) y chain.2 u.0 u.1)

  pub reached : IsTieFree p → (cell : Cell) (t : Time) → IsAlive p cell t → InChain p start cell
  reached free cell t alive = let c = (computed_law p well).chain cell in along free c.0 cell c.1 t alive
