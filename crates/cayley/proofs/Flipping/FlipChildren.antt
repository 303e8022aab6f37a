-- the children of a cell that has one level point at its end, and the parent of a cell that has one where it begins
use Rattle.std.proofs.Common.{ℕ, subst}
use Rattle.int_vectors.proofs.Entries.{not_zero}
use Rattle.cayley.specs.Times.{Time}
use Rattle.cayley.specs.Problems.{Problem, IsProblem, point_at}
use Rattle.cayley.specs.Cells.{Cell}
use Rattle.cayley.specs.Normals.{Normal, gap, IsNormal, NoneBelow}
use Rattle.cayley.specs.Mixed.{IsAlive}
use Rattle.cayley.specs.Lives.{BeginsAt}
use Rattle.cayley.specs.Parents.{IsParent}
use Rattle.cayley.specs.Dependencies.{pair_at, nth_support}
use Rattle.cayley.specs.Ties.{IsLevelAt}
use Rattle.cayley.specs.Flips.{IsOnlyLevel}
use Rattle.cayley.specs.FlipLaws.{ChildrenLaw}
use Rattle.cayley.proofs.Flipping.OneSupport.{problem_of, with_pair, OnlyLevel}
use Rattle.cayley.proofs.Flipping.Places.{at_place_of, further_bound, place_of, level_point_of, only_by_places}
use Rattle.cayley.proofs.OneCell.OneNormal.{all_above_any}
use Rattle.cayley.proofs.Life.Ends.{ends_at_once}
use Rattle.cayley.proofs.Life.Exits.{precedes_ends}
use Rattle.cayley.proofs.Searching.Parents.{precedes_same}
use Rattle.cayley.proofs.Flipping.FlipParents.{has_parent}
use Rattle.cayley.proofs.Flipping.FlipPlaces.{flip_law}
use Rattle.cayley.proofs.Lists.Pairs.{pairs_long}

-- a cell with a level further point isn't alive
pub level_dead : (p : Problem) (cell : Cell) (t : Time) (v : Normal) (j c : ℕ) → IsProblem p → IsNormal p cell t v → IsLevelAt p cell t v j c → ¬ (IsAlive p cell t)
level_dead p cell t v j c well n l h =
    let e = all_above_any p cell t v well n h in
    let b = further_bound p.supports cell j c (pairs_long p.supports cell _ n.1) l.0 in
    not_zero (gap t v (point_at (nth_support p.supports j) (pair_at cell j).0) (point_at (nth_support p.supports j) c)) (place_of _ p.supports cell e j b c l.0) l.1

-- the parent of a cell that begins with one level point
pub parent_of_begin : (p : Problem) (tau : Cell) (t : Time) (v : Normal) (j c : ℕ) → IsProblem p → BeginsAt p tau t → IsNormal p tau t v → IsOnlyLevel p tau t v j c → NoneBelow p tau t v → (rho : Cell) × IsParent p rho tau
parent_of_begin p tau t v j c well h n one none =
    let l = pairs_long p.supports tau _ n.1 in
    let q = at_place_of p.version p.dimension p.files p.supports tau j l (further_bound p.supports tau j c l one.0.0) in
    let S : Problem → Cell → ℕ → Type 0 = λ p tau j. IsProblem p → BeginsAt p tau t → IsNormal p tau t v → OnlyLevel p.supports tau j c t v → NoneBelow p tau t v → (rho : Cell) × IsParent p rho tau in
    (subst (λ r. S r tau j) q.p_is (subst (λ k. S (problem_of q.o) k j) q.cell_is (subst (λ i. S (problem_of q.o) (with_pair q.o q.x) i) q.j_is
    (λ w b n o z. has_parent q.o t q.x.0 q.x.1 c w b (level_point_of q.o q.x c t v n o z)))))
    well h n (only_by_places p tau t v j c n one) none

-- the law of children
pub children_law : ChildrenLaw
children_law p cell j c numbers t v well before n one d tau =
    let f = flip_law p cell j c numbers t v well before n one d in (
      (λ h.
          let same = ends_at_once p cell well h.0 t (precedes_ends p cell tau h.0 well h.2) (before, level_dead p cell t v j c well n one.0) in
          let s = (f.successors tau).1 (precedes_same p cell tau h.0 t same h.2) in
          (s, (f.keeps tau s).1 h)),
      (λ h. (f.keeps tau h.0).0 h.1),
    )
