-- the share and the size of the start branch
use Rattle.std.proofs.Common.{◌↔◌, List}
use Rattle.cayley.specs.Problems.{Problem}
use Rattle.cayley.specs.Cells.{Cell, IsOf, IsListOf}
use Rattle.cayley.specs.Paths.{start_cell}
use Rattle.cayley.specs.Ties.{IsTieFree}
use Rattle.cayley.proofs.Life.Targets.{target_law}
use Rattle.start_system.specs.Started.{IsOnlyEarly, FindsAllMixed, ReachesAllAlive, HasTreeSize}
use Rattle.start_system.proofs.Path.Forms.{HasForm, form_well}
use Rattle.start_system.proofs.Path.Still.{form_is_still}
use Rattle.start_system.proofs.Early.FilePoints.{earlier_time}
use Rattle.start_system.proofs.Early.Corners.{early_is_start}
use Rattle.start_system.proofs.Early.StartCell.{start_is_early}
use Rattle.start_system.proofs.Complete.Chains.{late_time, no_parent, reached}

-- two properties of the same cells have the same list
list_both : (P Q : Cell → Type 0) → ((cell : Cell) → P cell ↔ Q cell) → (cells : List Cell) → IsListOf P cells ↔ IsListOf Q cells
list_both P Q f cells = (
  (λ h. (h.0, λ cell. ((λ c. (f cell).0 ((h.1 cell).0 c)), (λ q. (h.1 cell).1 ((f cell).1 q))))),
  (λ h. (h.0, λ cell. ((λ c. (f cell).1 ((h.1 cell).0 c)), (λ q. (h.1 cell).1 ((f cell).0 q))))),
)

module _ (p : Problem) (form : HasForm p) where
  pub only_early : IsOnlyEarly p (start_cell p)
  only_early = (start_is_early p form, λ cell. early_is_start p cell form)

  pub start_of : IsOf p (start_cell p)
  start_of = let e = start_is_early p form in let x = earlier_time e.0 in (e.1 x.0 x.1).0

  pub tree_size : HasTreeSize p
  tree_size n =
      let same = list_both _ _ (λ cell. (
        (λ h. (no_parent p (form_well p form) (start_cell p) only_early, h.2)),
        (λ h. (only_early.0, tt, h.1)),
      )) in (
        (λ h. (h.0, (same h.0).0 h.1, h.2)),
        (λ h. (h.0, (same h.0).1 h.1, h.2)),
      )

  pub all_mixed : IsTieFree p → FindsAllMixed p
  all_mixed free cells = list_both _ _ (λ cell. (
    (λ h. h.1),
    (λ mixed. let u = late_time p cell (target_law p cell (form_is_still p form) mixed) in (only_early.0, mixed, reached p (form_well p form) (start_cell p) only_early free cell u.0 u.1)),
  )) cells

  pub all_alive : IsTieFree p → ReachesAllAlive p
  all_alive free cell t alive =
      (no_parent p (form_well p form) (start_cell p) only_early, reached p (form_well p form) (start_cell p) only_early free cell t alive)
