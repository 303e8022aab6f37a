-- The working of a cell of file points is the same where the file points stand alone.
use Rattle.std.proofs.Common.{◌≡◌, ◌∙◌, ◌<◌, ◌≤◌, ℕ, zero, suc, ℤ, List, [], ◌∷◌, length, arith, refl, sym, ap, ap₂, subst, subst₂}
use Rattle.int_vectors.specs.Vectors.{sub}
use Rattle.cayley.specs.Problems.{Point, Problem, IsStill, HasRanks, point_at, with_rank, file_points}
use Rattle.cayley.specs.Valid.{IsMoving, IsValidFile}
use Rattle.cayley.specs.Files.{File, plain_problem}
use Rattle.cayley.specs.Paths.{path}
use Rattle.cayley.specs.Cells.{Cell, EachPair, IsOf, IsFurther}
use Rattle.cayley.specs.Dependencies.{pair_at, nth_support}
use Rattle.cayley.specs.Rows.{edge_row, edge_rows_from, edge_rows}
use Rattle.cayley.proofs.Ranking.FilePointRanks.{Alike, Alikes, file_points_alike}
use Rattle.reduced_rows.specs.Steps.{elimination, FitsElimination}
use Rattle.inner_normal.specs.declared.moving.MovingNormal.{MovingNormal}
use Rattle.inner_normal.specs.Inverses.{inverse_of, FitsInverse}
use Rattle.inner_normal.specs.Coefficients.{FitsCoefficients}
use Rattle.start_system.proofs.Making.ValidPaths.{path_valid}
use Rattle.start_system.proofs.Started.SearchLaws.{path_law}
use Rattle.searcher.specs.Workings.{FitsWorking}
use Rattle.cone_walls.specs.Numbers.{FitsWall}
use Rattle.cone_walls.specs.Workings.{normal_of_rows, FitsSupport, FitsWallWorking}
use Rattle.cell_bound.specs.OwnLines.{FitOwnLines}

abbrev InRange : List Point → ℕ → ℕ → Type 0
InRange s a b = (1 ≤ a) × (a < b) × (b ≤ length s)

abbrev unranked : List ℤ → ℤ → ℤ → Point
unranked coordinates base speed = record { coordinates = coordinates; base = base; speed = speed; rank = 0 }

module _ (gs : List ℕ) where
  -- the points differ in their ranks alone
  same_point : (s u : List Point) → Alike gs s u → (c : ℕ) → 1 ≤ c → c ≤ length u → with_rank 0 (point_at s c) ≡ with_rank 0 (point_at u c)
  same_point s u alike c l b =
      let r = alike.file c l b in
      let x = point_at s c in
      let y = point_at u c in
      ap (λ z. unranked x.coordinates x.base z) (r.still ∙ sym r.still_too) ∙ ap₂ (λ cs h. unranked cs h y.speed) r.coordinates r.base

  same_of : (ss us : List (List Point)) (cell : Cell) → Alikes gs ss us → EachPair us cell InRange → EachPair ss cell InRange
  same_of [] [] cell a r = r
  same_of [] (u ∷ us) cell a r = absurd a
  same_of (s ∷ ss) [] cell a r = absurd a
  same_of (s ∷ ss) (u ∷ us) [] a r = absurd r
  same_of (s ∷ ss) (u ∷ us) (x ∷ cell) a r = (
    (r.0.0, r.0.1, (let long = a.0.long in let b = r.0.2 in omega (arith, b, long))),
    same_of ss us cell a.1 r.1,
  )

  same_rows : (n i : ℕ) (ss us : List (List Point)) (cell : Cell) → Alikes gs ss us → EachPair us cell InRange → edge_rows_from n i ss cell ≡ edge_rows_from n i us cell
  same_rows n i [] [] cell a r = refl
  same_rows n i [] (u ∷ us) cell a r = absurd a
  same_rows n i (s ∷ ss) [] cell a r = absurd a
  same_rows n i (s ∷ ss) (u ∷ us) [] a r = refl
  same_rows n i (s ∷ ss) (u ∷ us) (x ∷ cell) a r =
      ap₂ (λ row rows. row ∷ rows)
      (ap₂ (edge_row n i) (same_point s u a.0 x.0 r.0.0 (omega (arith, r.0.1, r.0.2))) (same_point s u a.0 x.1 (omega (arith, r.0.0, r.0.1)) r.0.2))
      (same_rows n (suc i) ss us cell a.1 r.1)

  same_walls : (m : MovingNormal) (ss us : List (List Point)) (cell : Cell) → Alikes gs ss us → EachPair us cell InRange → EachPair ss cell (FitsSupport m) → EachPair us cell (FitsSupport m)
  same_walls m [] [] [] a r w = tt
  same_walls m [] [] (x ∷ cell) a r w = absurd r
  same_walls m [] (u ∷ us) cell a r w = absurd a
  same_walls m (s ∷ ss) [] cell a r w = absurd a
  same_walls m (s ∷ ss) (u ∷ us) [] a r w = absurd r
  same_walls m (s ∷ ss) (u ∷ us) (x ∷ cell) a r w = (
    (λ c f. subst₂ (FitsWall m) (same_point s u a.0 x.0 r.0.0 (omega (arith, r.0.1, r.0.2))) (same_point s u a.0 c f.0 f.1)
        (w.0 c (let long = a.0.long in (f.0, omega (arith, f.1, long), f.2, f.3)))),
    same_walls m ss us cell a.1 r.1 w.1,
  )

  same_own : (m : MovingNormal) (ss us : List (List Point)) (cell : Cell) → Alikes gs ss us → EachPair us cell InRange
      → EachPair ss cell (λ s a b. FitsWall m (point_at s a) (point_at s b)) → EachPair us cell (λ s a b. FitsWall m (point_at s a) (point_at s b))
  same_own m [] [] [] a r w = tt
  same_own m [] [] (x ∷ cell) a r w = absurd r
  same_own m [] (u ∷ us) cell a r w = absurd a
  same_own m (s ∷ ss) [] cell a r w = absurd a
  same_own m (s ∷ ss) (u ∷ us) [] a r w = absurd r
  same_own m (s ∷ ss) (u ∷ us) (x ∷ cell) a r w = (
    subst₂ (FitsWall m) (same_point s u a.0 x.0 r.0.0 (omega (arith, r.0.1, r.0.2))) (same_point s u a.0 x.1 (omega (arith, r.0.0, r.0.1)) r.0.2) w.0,
    same_own m ss us cell a.1 r.1 w.1,
  )

  -- a further point is one, and stands as far from its pair
  same_further : (ss us : List (List Point)) (cell : Cell) (j c : ℕ) → Alikes gs ss us → EachPair us cell InRange → IsFurther (nth_support us j) (pair_at cell j).0 (pair_at cell j).1 c
      → IsFurther (nth_support ss j) (pair_at cell j).0 (pair_at cell j).1 c
      × (sub (point_at (nth_support ss j) c).coordinates (point_at (nth_support ss j) (pair_at cell j).0).coordinates
      ≡ sub (point_at (nth_support us j) c).coordinates (point_at (nth_support us j) (pair_at cell j).0).coordinates)
  same_further [] [] cell j c a r f = absurd (let l = f.0 in let m = f.1 in omega (arith, l, m))
  same_further [] (u ∷ us) cell j c a r f = absurd a
  same_further (s ∷ ss) [] cell j c a r f = absurd a
  same_further (s ∷ ss) (u ∷ us) [] j c a r f = absurd r
  same_further (s ∷ ss) (u ∷ us) (x ∷ cell) zero c a r f = (
    (let long = a.0.long in (f.0, omega (arith, f.1, long), f.2, f.3)),
    ap₂ (λ (p q : Point). sub p.coordinates q.coordinates) (same_point s u a.0 c f.0 f.1) (same_point s u a.0 x.0 r.0.0 (omega (arith, r.0.1, r.0.2))),
  )
  same_further (s ∷ ss) (u ∷ us) (x ∷ cell) (suc j) c a r f = same_further ss us cell j c a.1 r.1 f

file_fits : (p : Problem) (cell : Cell) → HasRanks p → IsStill p → IsMoving p → IsOf (file_points p) cell → FitsWallWorking p cell → FitsWallWorking (file_points p) cell
file_fits p cell ranks still moving of w =
    let q = file_points p in
    let a = file_points_alike p ranks still moving in
    let e : edge_rows p cell ≡ edge_rows q cell = same_rows a.0 p.dimension 0 p.supports q.supports cell a.1 of in (
      subst (FitsElimination p.dimension) e w.0,
      λ made o.
          let h = w.1 made (ap (elimination p.dimension) e ∙ o) in (
            h.0,
            same_walls a.0 (normal_of_rows made) p.supports q.supports cell a.1 of h.1,
            λ v j c f. let k = same_further a.0 p.supports q.supports cell j c a.1 of f in
                subst (λ d. FitsInverse made × FitsCoefficients j (inverse_of made) d) k.1 (h.2 v j c k.0),
          ),
    )

file_own : (p : Problem) (cell : Cell) → HasRanks p → IsStill p → IsMoving p → IsOf (file_points p) cell → FitOwnLines p cell → FitOwnLines (file_points p) cell
file_own p cell ranks still moving of w =
    let q = file_points p in
    let a = file_points_alike p ranks still moving in
    let e : edge_rows p cell ≡ edge_rows q cell = same_rows a.0 p.dimension 0 p.supports q.supports cell a.1 of in
    λ made o. same_own a.0 (normal_of_rows made) p.supports q.supports cell a.1 of (w made (ap (elimination p.dimension) e ∙ o))

-- ---- the path of a file
module _ (file : File) (valid : IsValidFile file) where
  -- a cell of file points is of the path
  pub path_of : (cell : Cell) → IsOf (plain_problem file) cell → IsOf (path file) cell
  path_of cell of =
      let v = path_valid file valid in
      let l = path_law file valid in
      let a = file_points_alike (path file) v.ranks l.1 v.shape.moving in
      same_of a.0 (path file).supports (file_points (path file)).supports cell a.1 (subst (λ q. IsOf q cell) (sym l.2) of)

  -- where its working fits on the path, it fits among the file points alone
  pub plain_fits : (cell : Cell) → IsOf (file_points (path file)) cell → FitsWorking (path file) cell → FitsWallWorking (plain_problem file) cell
  plain_fits cell of w =
      let v = path_valid file valid in
      let l = path_law file valid in
      subst (λ q. FitsWallWorking q cell) l.2 (file_fits (path file) cell v.ranks l.1 v.shape.moving of (w.0, λ made e. (w.1 made e).0))

  -- so do the lines of the pairs' own second points
  pub plain_own : (cell : Cell) → IsOf (file_points (path file)) cell → FitOwnLines (path file) cell → FitOwnLines (plain_problem file) cell
  plain_own cell of w =
      let v = path_valid file valid in
      let l = path_law file valid in
      subst (λ q. FitOwnLines q cell) l.2 (file_own (path file) cell v.ranks l.1 v.shape.moving of w)
