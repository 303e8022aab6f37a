-- the points of a support as the file has them and as its problem has them
use Rattle.std.proofs.Common.{◌≡◌, ℕ, zero, suc, ◌+◌, ◌-◌, ◌<◌, List, [], ◌∷◌, length, map, get_or, arith, refl, sym, ap, ap₂, subst₂, ◌∙◌}
use Rattle.std.proofs.lemmas.List.{length-map}
use Rattle.std.proofs.Math.IntN.{ℤ}
use Rattle.cayley.specs.declared.points.FilePoint.{FilePoint as StoredPoint}
use Rattle.cayley.specs.Stored.{file_point}
use Rattle.cayley.specs.Files.{File, plain_problem}
use Rattle.cayley.specs.Valid.{IsValidFile}
use Rattle.cayley.specs.Problems.{Point, Problem, point_at, with_rank, unperturbed}
use Rattle.cayley.specs.Cells.{Cell, EachPair}
use Rattle.cayley.specs.Dependencies.{pair_at, IsFurtherAt, nth_support}
use Rattle.cayley.specs.Resting.{rise}
use Rattle.cayley.proofs.Ranking.Unperturbed.{unranked, point_unranked, support_unranked}
use Rattle.reduced_rows.specs.Refusals.{IsFromFault}
use Rattle.reduced_rows.specs.declared.faults.FromFault.{FromFault}
use Rattle.reduced_rows.specs.declared.faults.FromFault.TheVariants.{Overflow, OutOfMemory}
use Rattle.cell_certificate.specs.Sides.{seen}
use Rattle.cell_certificate.specs.Sums.{FitsRise, FitsAt, FitsFurther}
use Rattle.cell_certificate.specs.Tests.{sum_of}
use Rattle.cell_certificate.proofs.Positions.{seen_from}
use Rattle.cell_certificate.proofs.Supports.{support_is}

pub support_place : (ss : List (List Point)) (j : ℕ) → nth_support ss j ≡ get_or ss j []
support_place [] j = refl
support_place (s ∷ ss) zero = refl
support_place (s ∷ ss) (suc j) = support_place ss j

pub pair_place : (cell : Cell) (j : ℕ) → j < length cell → pair_at cell j ≡ get_or cell j (0, 0)
pair_place [] j l = absurd (omega (arith, l))
pair_place (x ∷ cell) zero l = refl
pair_place (x ∷ cell) (suc j) l = pair_place cell j (omega (arith, l))

pub each_pair_place : (P : List Point → ℕ → ℕ → Type 0) (ss : List (List Point)) (cell : Cell) (j : ℕ) → EachPair ss cell P → j < length cell → P (nth_support ss j) (pair_at cell j).0 (pair_at cell j).1
each_pair_place P [] [] j e l = absurd (omega (arith, l))
each_pair_place P [] (x ∷ cell) j e l = absurd e
each_pair_place P (s ∷ ss) [] j e l = absurd e
each_pair_place P (s ∷ ss) (x ∷ cell) zero e l = e.0
each_pair_place P (s ∷ ss) (x ∷ cell) (suc j) e l = each_pair_place P ss cell j e.1 (omega (arith, l))

-- what doesn't fit where less is asked doesn't fit where more is
pub fault_of_more : (less more : Type 0) (e : FromFault) → (more → less) → IsFromFault less e → IsFromFault more e
fault_of_more less more Overflow f n = λ m. n (f m)
fault_of_more less more OutOfMemory f n = tt

module _ (file : File) (valid : IsValidFile file) (p : Problem) (same : p ≡ plain_problem file) (j : ℕ) (l : j < file.dimension) (points : List StoredPoint) (e : map file_point points ≡ get_or file.supports j []) where
  support_seen : unranked (nth_support p.supports j) ≡ map seen points
  support_seen =
      sym (support_unranked p.supports j) ∙ support_place (map unranked p.supports) j
      ∙ ap (λ (q : Problem). get_or (unperturbed q).supports j []) same
      ∙ support_is file points j valid l e

  pub support_count : length (nth_support p.supports j) ≡ length points
  support_count = sym (length-map (nth_support p.supports j) (with_rank 0)) ∙ ap length support_seen ∙ length-map points seen

  spot : (position k : ℕ) (x : StoredPoint) → position ≡ k + 1 → k < length points → x ≡ get_or points k x → with_rank 0 (point_at (nth_support p.supports j) position) ≡ seen x
  spot position k x h m i =
      sym (point_unranked (nth_support p.supports j) position)
      ∙ ap (λ (s : List Point). point_at s position) support_seen ∙ seen_from points position k x h m i

  module _ (cell : Cell) (v : List ℤ) (den : ℤ) (c first place : ℕ) (x y : StoredPoint) (hx : (pair_at cell j).0 ≡ first + 1) (mx : first < length points) (ix : x ≡ get_or points first x)
      (hy : c ≡ place + 1) (my : place < length points) (iy : y ≡ get_or points place y) where
    pub sum_seen : rise den v (seen x) (seen y) ≡ sum_of p cell v den j c
    sum_seen = ap₂ (rise den v) (sym (spot (pair_at cell j).0 first x hx mx ix)) (sym (spot c place y hy my iy))

    pub fit_seen : FitsFurther p cell v den → j < length cell → IsFurtherAt p cell j c → FitsRise den v (seen x) (seen y)
    fit_seen f n further =
        let h = each_pair_place (λ s a b. (k : ℕ) → FitsAt den v s a b k) p.supports cell j f n c further in
        subst₂ (FitsRise den v) (spot (pair_at cell j).0 first x hx mx ix) (spot c place y hy my iy) h
