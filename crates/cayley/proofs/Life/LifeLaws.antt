-- the laws of lives, parents, children and shares
use Rattle.std.proofs.Common.{[], refl, inl, inr}
use Rattle.cayley.specs.Mixed.{IsAlive, IsMixedCell}
use Rattle.cayley.specs.Laws.{SameTimes}
use Rattle.cayley.specs.LifeLaws.{LifeLaw, OnceLaw, ParentLaw, ChildLaw, TieFreeLaw, ShareLaw, OneShare}
use Rattle.cayley.proofs.Order.Lined.{now_same, ahead_same, after_same, begins_same, early_nowhere}
use Rattle.cayley.proofs.Life.Decisions.{lined_cell, begins_at_once, alive_after, alive_before}
use Rattle.cayley.proofs.OneCell.CellNormals.{a_normal}
use Rattle.cayley.proofs.Life.Begins.{cell_begins}
use Rattle.cayley.proofs.Life.Ends.{cell_ends, cell_between, ends_at_once}
use Rattle.cayley.proofs.Searching.Parents.{precedes_same, one_parent, parent_earlier}
use Rattle.cayley.proofs.Life.Exits.{precedes_ends, child_at, late_nowhere, late_childless}
use Rattle.cayley.proofs.Life.Ties.{begins_one_level, ends_one_level}
use Rattle.cayley.proofs.Flipping.FlipChildren.{parent_of_begin}
use Rattle.cayley.proofs.Searching.Shares.{share_step, size_step, one_list, one_size}
use Rattle.cayley.proofs.Searching.Members.{contains_has}

pub same_times_law : SameTimes
same_times_law p t u well s = record {
  alive = λ cell h. now_same (IsAlive p cell) (lined_cell p cell well) t u s h;
  just_before = λ cell h. ahead_same (IsAlive p cell) t u s h;
  just_after = λ cell h. after_same (IsAlive p cell) t u s h;
  begins = λ cell h. begins_same (IsAlive p cell) (lined_cell p cell well) t u s h;
  precedes = λ sigma tau h. precedes_same p sigma tau t u s h;
}

pub life_law : LifeLaw
life_law p cell t well h = record {
  early = elim (cell_begins p cell well t h) [ inl e ↦ inl e | inr b ↦ inr (b.0, b.2, b.1) ];
  late = elim (cell_ends p cell well t h) [ inl e ↦ inl e | inr b ↦ inr (b.0, b.2, b.1) ];
  between = λ x u a b k. cell_between p cell well t x u a b h k;
}

pub once_law : OnceLaw
once_law p cell well = (
  (λ t u h k. begins_at_once p cell well t u h k),
  (λ t u h k. ends_at_once p cell well t u h k),
  (λ t e b. early_nowhere (IsAlive p cell) (lined_cell p cell well) t e b),
  (λ t l e. late_nowhere p cell t well l e),
)

pub parent_law : ParentLaw
parent_law p sigma tau t well b h =
    let s = begins_at_once p tau well h.0 t h.1 b in (
      precedes_ends p sigma tau t well (precedes_same p sigma tau h.0 t s h.2),
      (λ u k. parent_earlier p sigma tau u t well h b k),
      (λ rho g. one_parent p sigma rho tau well h g),
    )

pub child_law : ChildLaw
child_law p sigma tau well = ((λ t e. child_at p sigma tau t well e), (λ l. late_childless p sigma tau well l))

pub tie_free_law : TieFreeLaw
tie_free_law p cell t well free = (
  (λ h.
      let a = (alive_after p cell t h.0).1 in
      let v = a_normal p cell well a.0 a.1 t in
      let o = begins_one_level p cell well t free v.0 h v.1 in
      (o, parent_of_begin p cell t o.v o.j o.c well h o.normal o.only o.none_below)),
  (λ h.
      let a = (alive_before p cell t h.0).1 in
      let v = a_normal p cell well a.0 a.1 t in
      ends_one_level p cell well t free v.0 h v.1),
)

pub share_law : ShareLaw
share_law p b kids well is children = (
  (λ share own gives o. share_step p well b is kids children (IsMixedCell p) share gives own o),
  (λ size gives. size_step p well b is kids children size gives),
)

pub one_share_law : OneShare
one_share_law p b = (
  (λ xs ys h k. one_list _ xs ys h k),
  (λ m n h k. one_size p b m n h k),
  (λ n. ((tt, λ c. ((λ h. absurd (contains_has [] c h)), (λ h. absurd (n h.0)))), ([], (tt, λ c. ((λ h. absurd (contains_has [] c h)), (λ h. absurd (n h.0)))), refl))),
)
