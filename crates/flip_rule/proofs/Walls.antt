-- the law of flips by the signs of the code
use Rattle.std.proofs.Common.{◌↔◌, ℕ, List, Contains}
use Rattle.cayley.specs.declared.found.Sign.{Sign}
use Rattle.cayley.specs.Times.{Time}
use Rattle.cayley.specs.Problems.{Problem}
use Rattle.cayley.specs.Cells.{Cell, IsListOf}
use Rattle.cayley.specs.Parents.{Precedes}
use Rattle.cayley.specs.Dependencies.{number_at}
use Rattle.cayley.specs.Flips.{Flips}
use Rattle.cayley.proofs.Flipping.FlipPlaces.{flip_law}
use Rattle.flip_rule.specs.Rules.{IsSuccessor, IsPredecessor}
use Rattle.flip_rule.specs.Walls.{IsWall}
use Rattle.flip_rule.proofs.Rules.{list_by, successor_is, predecessor_is}

module _ (p : Problem) (cell : Cell) (j c : ℕ) (signs : Sign × Sign) (t : Time) (w : IsWall p cell j c signs t) where
  laws : Flips p cell j c (number_at w.numbers.pairs j) t
  laws = flip_law p cell j c w.numbers t w.v w.problem w.before w.normal w.only w.dependency

  succeeds : (tau : Cell) → IsSuccessor cell j c signs tau ↔ Precedes p cell tau t
  succeeds tau =
      let i = successor_is cell j c signs (number_at w.numbers.pairs j) w.signs_are tau in
      let l = laws.successors tau in ((λ h. l.0 (i.1 h)), (λ h. i.0 (l.1 h)))

  crossed : (rho tau : Cell) → IsPredecessor cell j c signs rho → IsSuccessor cell j c signs tau → Precedes p rho tau t
  crossed rho tau h k =
      laws.crosses rho tau ((predecessor_is cell j c signs (number_at w.numbers.pairs j) w.signs_are rho).1 h) ((successor_is cell j c signs (number_at w.numbers.pairs j) w.signs_are tau).1 k)

  precedes : (rho : Cell) → IsPredecessor cell j c signs rho ↔ ((tau : Cell) × Precedes p cell tau t × Precedes p rho tau t)
  precedes rho =
      let i = predecessor_is cell j c signs (number_at w.numbers.pairs j) w.signs_are rho in
      let l = laws.predecessors rho in (
        (λ h. let q = l.0 (i.1 h) in (q.0, (laws.successors q.0).0 q.1, q.2)),
        (λ h. i.0 (l.1 (h.0, (laws.successors h.0).1 h.1, h.2))),
      )

  pub successors_there : (cells : List Cell) → IsListOf (IsSuccessor cell j c signs) cells → IsListOf (λ tau. Precedes p cell tau t) cells
  successors_there cells = list_by (IsSuccessor cell j c signs) (λ tau. Precedes p cell tau t) cells succeeds

  pub predecessors_there : (cells : List Cell) → IsListOf (IsPredecessor cell j c signs) cells → IsListOf (λ rho. (tau : Cell) × Precedes p cell tau t × Precedes p rho tau t) cells
  predecessors_there cells = list_by (IsPredecessor cell j c signs) (λ rho. (tau : Cell) × Precedes p cell tau t × Precedes p rho tau t) cells precedes

  pub crosses_there : (cells : List Cell) → IsListOf (IsPredecessor cell j c signs) cells → (rho tau : Cell) → Contains cells rho → IsSuccessor cell j c signs tau → Precedes p rho tau t
  crosses_there cells h rho tau k s = crossed rho tau ((h.1 rho).0 k) s
