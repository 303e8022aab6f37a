-- what is found of one point: it isn't a further one, its sum isn't 0, or its circuit tells
use Rattle.std.proofs.Common.{rules, ◌≡◌, ◌≢◌, ◌↔◌, ℕ, ◌+◌, ◌-◌, ◌<◌, ◌≤◌, Bool, true, List, [], length, map, get_or, arith, sym, ap, subst, ◌∙◌, ◌<ℤ◌}
use Rattle.std.specs.Prelude.{IsTrue}
use Rattle.std.proofs.Math.IntN.{ℤ, pos}
use Rattle.wide_int.proofs.Order.{sign_cases}
use Rattle.int_vectors.specs.Vectors.{IsPositive}
use Rattle.cayley.specs.declared.points.FilePoint.{FilePoint as StoredPoint}
use Rattle.cayley.specs.Stored.{file_point}
use Rattle.cayley.specs.Files.{File, plain_problem}
use Rattle.cayley.specs.Valid.{IsValidFile}
use Rattle.cayley.specs.Problems.{Problem, IsProblem, version2}
use Rattle.cayley.specs.Cells.{Cell}
use Rattle.cayley.specs.Dependencies.{pair_at, IsFurtherAt, Numbers, IsPositiveDependency, nth_support}
use Rattle.cayley.specs.Resting.{rise}
use Rattle.cayley.proofs.Flipping.Places.{further_bound}
use Rattle.cayley.proofs.Ranking.PlainProblems.{plain_valid}
use Rattle.cayley.proofs.Lists.Pairs.{pairs_long}
use Rattle.inner_normal.specs.Coefficients.{difference, FitsCoefficients}
use Rattle.inner_normal.specs.Inverses.{Inverse}
use Rattle.inner_normal.specs.Orders.{ordered}
use Rattle.inner_normal.proofs.RankOrder.{HaveRanksFrom}
use Rattle.listing_text.specs.declared.listing.ListedCell.{ListedCell}
use Rattle.cell_certificate.specs.Sides.{seen}
use Rattle.cell_certificate.specs.Sums.{FitsRise}
use Rattle.cell_certificate.specs.Tests.{sum_of}
use Rattle.cell_certificate.specs.Ties.{IsLevelLine, FitsTieAt, IsOverAt, FitTies, AreOver}
use Rattle.cell_certificate.proofs.Levels.{level_from}
use Rattle.cell_certificate.proofs.Over.{over_up, over_not, over_tie}
use Rattle.cell_certificate.proofs.PlainPoints.{plain_ranks}
use Rattle.cell_certificate.proofs.Spots.{pair_place, support_place, each_pair_place, support_count, sum_seen, fit_seen}

module _ (file : File) (valid : IsValidFile file) (p : Problem) (same : p ≡ plain_problem file) (x : ListedCell) (line : IsLevelLine p x) (support : ℕ) (least : 1 ≤ support) (most : support ≤ p.dimension) where
  abbrev j : ℕ
  j = support - 1

  well : IsProblem p
  well = subst IsProblem (sym same) (plain_valid file valid).shape.problem

  pub in_file : j < file.dimension
  in_file = let d = ap (λ (q : Problem). q.dimension) same in omega (arith, d, least, most)

  pub in_cell : j < length x.cell
  in_cell =
      let n = pairs_long p.supports x.cell _ line.0.0 in
      let m = well.supports in
      omega (arith, n, m, least, most)

  -- no further point
  pub skipped : (inverse : Inverse) (c : ℕ) → ¬ (IsFurtherAt p x.cell j c) → FitsTieAt p x.cell x.normal.v x.normal.den inverse j c × (IsTrue true ↔ IsOverAt p x.cell j c)
  skipped inverse c n = ((λ f. absurd (n f)), ((λ t f. absurd (n f)), (λ o. search rules)))

  module _ (points : List StoredPoint) (e : map file_point points ≡ get_or file.supports j []) (pairs : Cell) (own : pairs ≡ x.cell) where
    abbrev pub pair : ℕ × ℕ
    pair = get_or pairs j (0, 0)

    pair_is : pair_at x.cell j ≡ pair
    pair_is = pair_place x.cell j in_cell ∙ ap (λ (y : Cell). get_or y j (0, 0)) (sym own)

    count : length (nth_support p.supports j) ≡ length points
    count = support_count file valid p same j in_file points e

    -- the first point of the pair is there
    pub pair_first : (pair.0 ≡ (pair.0 - 1) + 1) × (pair.0 - 1 < length points)
    pair_first =
        let r = subst (λ (q : ℕ × ℕ). (1 ≤ q.0) × (q.0 < q.1) × (q.1 ≤ length (nth_support p.supports j))) pair_is
        (each_pair_place (λ s a b. (1 ≤ a) × (a < b) × (b ≤ length s)) p.supports x.cell j line.0.0 in_cell) in
        let a = r.0 in
        let b = r.1 in
        let c = r.2 in
        (omega (arith, a), omega (arith, a, b, c, count))

    pub not_first : (c : ℕ) → c ≡ pair.0 → ¬ (IsFurtherAt p x.cell j c)
    not_first c h f = f.2 (h ∙ ap (λ (q : ℕ × ℕ). q.0) (sym pair_is))

    pub not_second : (c : ℕ) → c ≡ pair.1 → ¬ (IsFurtherAt p x.cell j c)
    not_second c h f = f.3 (h ∙ ap (λ (q : ℕ × ℕ). q.1) (sym pair_is))

    pub not_there : (c : ℕ) → length points < c → ¬ (IsFurtherAt p x.cell j c)
    not_there c h f = let l = f.1 in omega (arith, h, l, count)

    pub is_further : (c : ℕ) → 1 ≤ c → c ≤ length points → c ≢ pair.0 → c ≢ pair.1 → IsFurtherAt p x.cell j c
    is_further c l m n o = (
      l,
      omega (arith, m, count),
      (λ h. n (h ∙ ap (λ (q : ℕ × ℕ). q.0) pair_is)),
      (λ h. o (h ∙ ap (λ (q : ℕ × ℕ). q.1) pair_is)),
    )

    module _ (inverse : Inverse) (c first place : ℕ) (a y : StoredPoint) (ha : pair.0 ≡ first + 1) (ma : first < length points) (ia : a ≡ get_or points first a)
        (hy : c ≡ place + 1) (my : place < length points) (iy : y ≡ get_or points place y) (further : IsFurtherAt p x.cell j c) where
      from : (pair_at x.cell j).0 ≡ first + 1
      from = ap (λ (q : ℕ × ℕ). q.0) pair_is ∙ ha

      pub seen_is : rise x.normal.den x.normal.v (seen a) (seen y) ≡ sum_of p x.cell x.normal.v x.normal.den j c
      seen_is = sum_seen file valid p same j in_file points e x.cell x.normal.v x.normal.den c first place a y from ma ia hy my iy

      -- its sum fits
      pub never_unfit : ¬ (FitsRise x.normal.den x.normal.v (seen a) (seen y)) → ⊥
      never_unfit n = n (fit_seen file valid p same j in_file points e x.cell x.normal.v x.normal.den c first place a y from ma ia hy my iy line.2.1 in_cell further)

      -- its sum isn't 0
      pub by_sum : (z : ℤ) → z ≡ rise x.normal.den x.normal.v (seen a) (seen y) → z ≢ pos 0 → FitsTieAt p x.cell x.normal.v x.normal.den inverse j c × ((pos 0 <ℤ z) ↔ IsOverAt p x.cell j c)
      by_sum z h n =
          let is = h ∙ seen_is in
          let levels = level_from p x.cell line.0.0 x.normal.v x.normal.den line.3 in (
            (λ f t. absurd (n (is ∙ t))),
            (
              (λ q. over_up p x.cell well line.0.0 line.1 x.normal.v x.normal.den line.0.1 line.0.2 levels j c (subst (λ r. pos 0 <ℤ r) is q)),
              (λ o. sign_cases z
                  (λ q. absurd (over_not p x.cell well line.0.0 line.1 x.normal.v x.normal.den line.0.1 line.0.2 levels j c further (subst (λ r. r <ℤ pos 0) is q) o))
                  (λ q. absurd (n q))
                  (λ q. q)),
            ),
          )

      -- its circuit tells
      pub by_circuit : (z : ℤ) → z ≡ rise x.normal.den x.normal.v (seen a) (seen y) → z ≡ pos 0 → file.version ≡ version2 → FitsCoefficients j inverse (difference p x.cell j c)
          → (numbers : Numbers) → IsPositiveDependency p x.cell j c numbers → (b : Bool) → IsTrue b ↔ IsPositive (ordered x.cell j c numbers)
          → FitsTieAt p x.cell x.normal.v x.normal.den inverse j c × (IsTrue b ↔ IsOverAt p x.cell j c)
      by_circuit z h n version fits numbers dep b r =
          let levels = level_from p x.cell line.0.0 x.normal.v x.normal.den line.3 in
          let ranks = subst (λ (q : Problem). HaveRanksFrom 1 q.supports) (sym same) (plain_ranks file version) in
          let o = over_tie p x.cell well line.0.0 line.1 x.normal.v x.normal.den line.0.1 line.0.2 levels ranks j c further (sym (h ∙ seen_is) ∙ n) numbers dep in (
            (λ f t. fits),
            ((λ t. o.1 (r.0 t)), (λ u. r.1 (o.0 u))),
          )

-- all points of a support
module _ (p : Problem) (x : ListedCell) (support : ℕ) where
  place_count : (k c : ℕ) → length (get_or p.supports (support - 1) []) ≤ k → IsFurtherAt p x.cell (support - 1) c → c ≤ k
  place_count k c l further = let h = further.1 in let e = ap length (support_place p.supports (support - 1)) in omega (arith, h, l, e)

  pub every_tie : (inverse : Inverse) (k : ℕ) → length (get_or p.supports (support - 1) []) ≤ k → ((c : ℕ) → c ≤ k → FitsTieAt p x.cell x.normal.v x.normal.den inverse (support - 1) c)
      → (c : ℕ) → FitsTieAt p x.cell x.normal.v x.normal.den inverse (support - 1) c
  every_tie inverse k l f c further z = f c (place_count k c l further) further z

  pub every_over : (k : ℕ) → length (get_or p.supports (support - 1) []) ≤ k → (b : Bool) → IsTrue b ↔ ((c : ℕ) → c ≤ k → IsOverAt p x.cell (support - 1) c)
      → IsTrue b ↔ ((c : ℕ) → IsOverAt p x.cell (support - 1) c)
  every_over k l b r = (
    (λ t c further. r.0 t c (place_count k c l further) further),
    (λ o. r.1 (λ c h. o c)),
  )

-- all supports
module _ (p : Problem) (well : IsProblem p) (x : ListedCell) (line : IsLevelLine p x) where
  cell_place : (k i c : ℕ) → p.dimension ≤ k → IsFurtherAt p x.cell i c → i < k
  cell_place k i c l further =
      let n = pairs_long p.supports x.cell _ line.0.0 in
      let m = well.supports in
      let b = further_bound p.supports x.cell i c n further in
      omega (arith, b, n, m, l)

  pub all_ties : (inverse : Inverse) (k : ℕ) → p.dimension ≤ k → ((i : ℕ) → i < k → (c : ℕ) → FitsTieAt p x.cell x.normal.v x.normal.den inverse i c) → FitTies p x.cell x.normal.v x.normal.den inverse
  all_ties inverse k l f i c further z = f i (cell_place k i c l further) c further z

  pub all_over : (k : ℕ) → p.dimension ≤ k → (b : Bool) → IsTrue b ↔ ((i : ℕ) → i < k → (c : ℕ) → IsOverAt p x.cell i c) → IsTrue b ↔ AreOver p x.cell
  all_over k l b r = (
    (λ t i c further. r.0 t i (cell_place k i c l further) c further),
    (λ o. r.1 (λ i h c. o i c)),
  )
