-- each further point is above under every normal: by the sums where none is 0 or no point has an infinitesimal, else point by point
use Rattle.std.proofs.Common.{◌≡◌, ◌≢◌, ◌↔◌, ℕ, suc, Bool, List, [], ◌∷◌, length, arith, refl, sym, ap, subst, ◌∙◌, Result, Ok, Err}
use Rattle.std.specs.Prelude.{IsTrue, MatchResult}
use Rattle.std.proofs.Math.IntN.{ℤ, pos}
use Rattle.wide_int.proofs.Order.{sign_cases}
use Rattle.int_vectors.specs.Vectors.{IsZero}
use Rattle.reduced_rows.specs.CellRefusals.{IsEliminated}
use Rattle.reduced_rows.specs.Refusals.{IsFromFault}
use Rattle.reduced_rows.specs.declared.faults.FromFault.{FromFault}
use Rattle.reduced_rows.specs.declared.faults.FromFault.TheVariants.{Overflow, OutOfMemory}
use Rattle.cayley.specs.Times.{time_zero}
use Rattle.cayley.specs.Problems.{Version, version1, version2, Point, Problem, IsProblem, HasRanks, point_at, unperturbed, ranked_supports}
use Rattle.cayley.specs.Cells.{Cell, EachPair, IsFurther}
use Rattle.cayley.specs.Dependencies.{pair_at, nth_support}
use Rattle.cayley.specs.Normals.{gap, IsNormal, IsAbove}
use Rattle.cayley.specs.Resting.{rise, normal_over}
use Rattle.cayley.specs.Rows.{edge_rows}
use Rattle.cayley.proofs.Flipping.Places.{further_bound}
use Rattle.cayley.proofs.OneCell.CellNormals.{a_normal}
use Rattle.cayley.proofs.OneCell.CellRows.{each_position}
use Rattle.cayley.proofs.OneCell.RestingGaps.{positive_gap}
use Rattle.cayley.proofs.Lists.Pairs.{pairs_map, pairs_both, pairs_long}
use Rattle.inner_normal.specs.Coefficients.{FitsCircuit}
use Rattle.inner_normal.specs.Inverses.{Inverse, inverse_of, FitsInverse}
use Rattle.listing_text.specs.declared.listing.ListedCell.{ListedCell}
use Rattle.cell_certificate.specs.Judgements.{HasTies, HasLeast}
use Rattle.cell_certificate.specs.Sums.{RisesAt, UntiedAt}
use Rattle.cell_certificate.specs.Ties.{IsLevelLine, FitTies, AreOver}
use Rattle.cell_certificate.proofs.FirstEntries.{first_entries_of, over_first, below_first}
use Rattle.cell_certificate.proofs.Levels.{Even, shape, first_even, level_from}
use Rattle.cell_certificate.proofs.PlainSums.{risen}
use Rattle.cell_certificate.proofs.Spots.{each_pair_place, fault_of_more}

-- by places, and pair by pair
each_of_places : (Q : List Point → ℕ → ℕ → Type 0) (ss : List (List Point)) (cell : Cell) → length ss ≡ length cell
    → ((j c : ℕ) → IsFurther (nth_support ss j) (pair_at cell j).0 (pair_at cell j).1 c → Q (nth_support ss j) (pair_at cell j).0 c)
    → EachPair ss cell (λ s a b. (c : ℕ) → IsFurther s a b c → Q s a c)
each_of_places Q [] [] n f = tt
each_of_places Q [] (x ∷ cell) n f = absurd (omega (arith, n))
each_of_places Q (s ∷ ss) [] n f = absurd (omega (arith, n))
each_of_places Q (s ∷ ss) (x ∷ cell) n f = ((λ c u. f 0 c u), each_of_places Q ss cell (omega (arith, n)) (λ j c u. f (suc j) c u))

abbrev value_of : {A B : Type 0} → A → Result A B → A
value_of d (Ok a) = a
value_of d (Err b) = d

module _ (p : Problem) (well : IsProblem p) (x : ListedCell) (line : IsLevelLine p x) where
  abbrev cell : Cell
  cell = x.cell

  abbrev v : List ℤ
  v = x.normal.v

  abbrev den : ℤ
  den = x.normal.den

  levels : EachPair p.supports cell (λ s a b. rise den v (point_at s a) (point_at s b) ≡ pos 0)
  levels = level_from p cell line.0.0 v den line.3

  count : length p.supports ≡ length cell
  count = pairs_long p.supports cell _ line.0.0

  -- positive sums
  rising_least : EachPair p.supports cell (λ s a b. (c : ℕ) → RisesAt den v s a b c) → HasLeast p x
  rising_least e w n =
      pairs_map p.supports cell (λ s a b. (c : ℕ) → RisesAt den v s a b c) _ (λ s a b r c f. over_first w v den (point_at s a) (point_at s c) line.0.2 (first_entries_of p cell v den w line.0.1 line.1 levels n) (r c f)) e

  -- no sum is 0
  pub least_free : EachPair p.supports cell (λ s a b. (c : ℕ) → UntiedAt den v s a b c) → EachPair p.supports cell (λ s a b. (c : ℕ) → RisesAt den v s a b c) ↔ HasLeast p x
  least_free free = (
    rising_least,
    (λ least.
        let n = a_normal p cell well line.0.0 line.1 time_zero in
        let e = first_entries_of p cell v den n.0 line.0.1 line.1 levels n.1 in
        pairs_both p.supports cell (λ s a b. (c : ℕ) → IsFurther s a b c → IsAbove time_zero n.0 s a c) (λ s a b. (c : ℕ) → UntiedAt den v s a b c) (λ s a b. (c : ℕ) → RisesAt den v s a b c) (λ s a b up u c f. sign_cases (rise den v (point_at s a) (point_at s c))
        (λ q. absurd (below_first n.0 v den (point_at s a) (point_at s c) line.0.2 e q (up c f)))
        (λ q. absurd (u c f q))
        (λ q. q)) (least n.0 n.1) free),
  )

  pub free_ties : EachPair p.supports cell (λ s a b. (c : ℕ) → UntiedAt den v s a b c) → HasTies p x
  free_ties free version made done j c f z =
      absurd (each_pair_place (λ s a b. (i : ℕ) → UntiedAt den v s a b i) p.supports cell j free (let b = further_bound p.supports cell j c count f in omega (arith, b)) c f z)

  -- no infinitesimals
  module _ (ranks : HasRanks p) (plain : p.version ≢ version2) where
    first_version : (w : Version) → w ≢ version2 → w ≡ version1
    first_version version1 n = refl
    first_version version2 n = absurd (n refl)

    supports_are : p.supports ≡ (unperturbed p).supports
    supports_are = ranks ∙ ap (λ (w : Version). ranked_supports w p.files p.supports) (first_version p.version plain)

    own : IsNormal p cell time_zero (normal_over v den line.3.0)
    own = (line.3.1.0, subst (λ (ss : List (List Point)). EachPair ss cell (λ s a b. IsZero (gap time_zero (normal_over v den line.3.0) (point_at s a) (point_at s b)))) (sym supports_are) line.3.1.1)

    pub least_plain : EachPair p.supports cell (λ s a b. (c : ℕ) → RisesAt den v s a b c) ↔ HasLeast p x
    least_plain = (
      rising_least,
      (λ least.
          let up = subst (λ (ss : List (List Point)). EachPair ss cell (λ s a b. (c : ℕ) → IsFurther s a b c → IsAbove time_zero (normal_over v den line.3.0) s a c)) supports_are (least (normal_over v den line.3.0) own) in
          (risen p cell v den).1
          (pairs_both (unperturbed p).supports cell Even (λ s a b. (c : ℕ) → IsFurther s a b c → IsAbove time_zero (normal_over v den line.3.0) s a c) (λ s a b. (c : ℕ) → RisesAt den v s a b c) (λ s a b i h c f. (positive_gap v den line.3.0 (point_at s a) (point_at s c) (first_even s a b i) (each_position (λ (y : Point). y.rank ≡ 0) s c f.0 f.1 i.1)).0 (h c f)) (shape p cell line.0.0 v den) up)),
    )

    pub plain_ties : HasTies p x
    plain_ties version = absurd (plain version)

  -- point by point
  pub least_over : (b : Bool) → IsTrue b ↔ AreOver p cell → IsTrue b ↔ HasLeast p x
  least_over b r = (
    (λ t w n. each_of_places (λ s a c. IsAbove time_zero w s a c) p.supports cell count (λ j c f. r.0 t j c f w n)),
    (λ least. r.1 (λ j c f w n.
        each_pair_place (λ s a b. (i : ℕ) → IsFurther s a b i → IsAbove time_zero w s a i) p.supports cell j (least w n) (let b = further_bound p.supports cell j c count f in omega (arith, b)) c f)),
  )

  -- the circuits of ties by the inverse of the rows
  module _ (rows : List (List ℤ)) (done : IsEliminated p.dimension (edge_rows p cell) rows) where
    same_rows : (made : List (List ℤ)) → IsEliminated p.dimension (edge_rows p cell) made → rows ≡ made
    same_rows made e = ap (value_of rows) (sym done.1 ∙ e.1)

    pub ties_fit : (inverse : Inverse) → FitsInverse rows → inverse ≡ inverse_of rows → FitTies p cell v den inverse → HasTies p x
    ties_fit inverse fits is ties version made e j c f z =
        subst (λ (m : List (List ℤ)). FitsCircuit p cell j c m) (same_rows made e)
        (fits, subst (λ (i : Inverse). FitTies p cell v den i) is ties j c f z)

    pub fit_ties : (inverse : Inverse) → inverse ≡ inverse_of rows → p.version ≡ version2 → HasTies p x → FitTies p cell v den inverse
    fit_ties inverse is version h = subst (λ (i : Inverse). FitTies p cell v den i) (sym is) (λ j c f z. (h version rows done j c f z).1)

    -- where some sum is 0 the inverse is needed
    pub inverse_fits : p.version ≡ version2 → ¬ (FitsInverse rows) → HasTies p x → EachPair p.supports cell (λ s a b. (c : ℕ) → UntiedAt den v s a b c)
    inverse_fits version n h = each_of_places (λ s a c. rise den v (point_at s a) (point_at s c) ≢ pos 0) p.supports cell count (λ j c f z. n (h version rows done j c f z).0)

    pub inverse_fault : (e : FromFault) → p.version ≡ version2 → ¬ (EachPair p.supports cell (λ s a b. (c : ℕ) → UntiedAt den v s a b c)) → IsFromFault (FitsInverse rows) e → IsFromFault (HasTies p x) e
    inverse_fault Overflow version u n = λ h. u (inverse_fits version n h)
    inverse_fault OutOfMemory version u n = tt

    pub least_answer : (inverse : Inverse) → FitsInverse rows → inverse ≡ inverse_of rows → p.version ≡ version2 → (r : Result Bool FromFault)
        → MatchResult r (λ over. FitTies p cell v den inverse × (IsTrue over ↔ AreOver p cell)) (IsFromFault (FitTies p cell v den inverse))
        → MatchResult r (λ least. HasTies p x × (IsTrue least ↔ HasLeast p x)) (IsFromFault (HasTies p x))
    least_answer inverse fits is version (Ok b) h = (ties_fit inverse fits is h.0, least_over b h.1)
    least_answer inverse fits is version (Err e) h = fault_of_more (FitTies p cell v den inverse) (HasTies p x) e (fit_ties inverse is version) h
