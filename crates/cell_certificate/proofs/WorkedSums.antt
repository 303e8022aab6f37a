-- where the working of a mixed cell fits, so do the sums of its further points under its normal in lowest terms
use Rattle.std.proofs.Common.{◌≡◌, ℕ, zero, suc, ◌+◌, ◌*◌, ◌<◌, ◌/◌, List, [], ◌∷◌, ◌++◌, length, arith, refl, sym, ap, subst, subst₂, ◌∙◌, ◌<ℤ◌, unsigned_abs, Result, Ok, Err, lit<}
use Rattle.std.proofs.lemmas.Int.{ints}
use Rattle.std.proofs.Math.IntN.{ℤ, pos, negsuc, pos-*ℤ-pos}
use Rattle.wide_int.specs.Whole.{FitsWhole}
use Rattle.wide_int.specs.Divisors.{lcm_of}
use Rattle.wide_int.proofs.CommonDivisors.{lcm_positive, quotient_times}
use Rattle.wide_int.proofs.Signed.{abs_positive, neg_fits}
use Rattle.int_vectors.specs.Vectors.{Each, scale, at, IsOrthogonal, zeros}
use Rattle.reduced_rows.specs.Denominators.{lcm_from, FitsLcm, share, shares, FitsShares}
use Rattle.reduced_rows.specs.Spans.{IsReducedOf}
use Rattle.reduced_rows.specs.Steps.{elimination}
use Rattle.reduced_rows.proofs.Orthogonal.{length-shares, lcm_some}
use Rattle.reduced_rows.proofs.Outcome.{reduced_means, kernel_means_it}
use Rattle.reduced_rows.proofs.Solving.{column_solves}
use Rattle.cayley.specs.Times.{time_zero}
use Rattle.cayley.specs.Problems.{Problem, IsProblem, point_at, unperturbed}
use Rattle.cayley.specs.Cells.{Cell, IsOf, IsIndependent}
use Rattle.cayley.specs.Mixed.{IsCoprime}
use Rattle.cayley.specs.Rows.{edge_rows}
use Rattle.cayley.proofs.OneCell.OneNormal.{same_values}
use Rattle.cell_certificate.specs.Sums.{FitsRise, FitsAt, FitsOwn, FitsFurther}
use Rattle.cell_certificate.specs.Tests.{IsLevelAt}
use Rattle.cell_certificate.specs.Written.{FitsWritten}
use Rattle.inner_normal.proofs.CellAnswers.{rows_lengths, cell_kernel, kernel_dependent}
use Rattle.cell_certificate.proofs.Levels.{level_to}
use Rattle.cell_certificate.proofs.MixedLines.{first_entries}
use Rattle.cell_certificate.proofs.Multiples.{divides_whole, multiple_is, less_fits, rise_less}
use Rattle.cayley.specs.Resting.{normal_over}
use Rattle.cayley.proofs.OneCell.CellRows.{rows_count}
use Rattle.cayley.proofs.OneCell.RestingGaps.{level_from}
use Rattle.cayley.proofs.Ranking.Unperturbed.{same_unperturbed, same_well, same_of, same_independent}
use Rattle.cayley.proofs.Lists.Pairs.{pairs_map}

no_zeros : (xs : List ℤ) → xs ++ zeros 0 ≡ xs
unfolding zeros
no_zeros [] = refl
no_zeros (x ∷ xs) = ap (λ l. x ∷ l) (no_zeros xs)

solved : (n : ℕ) (rows made : List (List ℤ)) → IsReducedOf n rows made → IsOrthogonal rows (shares n 0 (lcm_from 0 1 made) made ++ (pos (lcm_from 0 1 made) ∷ []))
solved n rows made red =
    let s = column_solves n 0 rows made red in
    let e : n + 0 ≡ n = omega arith in
    subst (λ l. IsOrthogonal rows (l ++ (pos (lcm_from 0 1 made) ∷ []))) (no_zeros (shares (n + 0) 0 (lcm_from 0 1 made) made) ∙ ap (λ k. shares k 0 (lcm_from 0 1 made) made) e) s

-- the common denominator of the reduced rows and their shares of the last column fit
abbrev pub FitsNumbers : ℕ → List (List ℤ) → Type 0
FitsNumbers n made = FitsLcm 0 1 made × FitsShares n 0 (lcm_from 0 1 made) made

-- the sums of the pairs' own second points under the normal that the elimination gives
abbrev pub FitsOwnReduced : Problem → Cell → Type 0
FitsOwnReduced p cell = (made : List (List ℤ)) → elimination p.dimension (edge_rows p cell) ≡ Ok made → FitsOwn p cell (shares p.dimension 0 (lcm_from 0 1 made) made) (pos (lcm_from 0 1 made))

lcm_fits : (j l : ℕ) (rows : List (List ℤ)) → FitsWhole (pos l) → FitsLcm j l rows → FitsWhole (pos (lcm_from j l rows))
unfolding lcm_from FitsLcm
lcm_fits j l [] f h = f
lcm_fits j l (row ∷ rows) f h = lcm_fits (suc j) (lcm_of l (unsigned_abs (at row j))) rows h.0 h.1

shares_fit : (k j l : ℕ) (rows : List (List ℤ)) → FitsShares k j l rows → Each (shares k j l rows) FitsWhole
unfolding shares FitsShares
shares_fit k j l [] h = tt
shares_fit k j l (row ∷ rows) h = (neg_fits (share k j l row) h.0, shares_fit k (suc j) l rows h.1)

entries_less : (j : ℕ) (v : List ℤ) → 0 < j → Each (scale (pos j) v) FitsWhole → Each v FitsWhole
entries_less j [] p h = tt
entries_less j (x ∷ v) p h = (less_fits j x p h.0, entries_less j v p h.1)

times_turned : (d j : ℕ) → d * j ≡ j * d
times_turned d j = omega arith

module _ (p : Problem) (cell : Cell) (well : IsProblem p) (of : IsOf p cell) (ind : IsIndependent p cell)
    (d : ℕ) (v : List ℤ) (long : length v ≡ p.dimension) (up : 0 < d) (coprime : IsCoprime (pos d ∷ v)) (level : IsLevelAt p cell v (pos d)) where
  module _ (made : List (List ℤ)) (red : IsReducedOf p.dimension (edge_rows p cell) made) where
    abbrev pub l : ℕ
    l = lcm_from 0 1 made

    abbrev pub ps : List ℤ
    ps = shares p.dimension 0 l made

    l_up : 0 < l
    l_up = lcm_some p.dimension 0 1 made (omega arith) red.reduced

    ps_long : length ps ≡ p.dimension
    ps_long = length-shares p.dimension 0 l made ∙ red.count

    l_positive : pos 0 <ℤ pos l
    l_positive = let h = l_up in omega (arith, ints, h)

    own : IsLevelAt p cell ps (pos l)
    own = level_to p cell of ps (pos l) ps_long l_positive
        (level_from p.dimension 0 p.supports cell ps (pos l) ps_long well.points of (solved p.dimension (edge_rows p cell) made red))

    proportion : scale (pos d) ps ≡ scale (pos l) v
    proportion =
        let q = unperturbed p in
        let same = same_unperturbed p in
        let s = same_values q cell time_zero (normal_over ps (pos l) own.0) (normal_over v (pos d) level.0) (same_well p q same well) (same_of p q cell same of) (same_independent p q cell same ind) own.1 level.1 0 in
        ap (scale (pos d)) (sym (first_entries ps)) ∙ s ∙ ap (scale (pos l)) (first_entries v)

    abbrev j : ℕ
    j = l / d

    l_is : l ≡ d * j
    l_is = let q = quotient_times l d (divides_whole d l ps v l_up coprime proportion) in omega (arith, q)

    j_up : 0 < j
    j_up = from j l_is
      where
        from : (j : ℕ) → l ≡ d * j → 0 < j
        from zero e = absurd (let h = l_up in omega (arith, h, e))
        from (suc j) e = omega arith

    -- the numbers of the reduced rows' normal are a multiple of those in lowest terms
    reduced_multiple : (ps ≡ scale (pos j) v) × (l ≡ d * j) × (0 < j)
    reduced_multiple = (multiple_is d j ps v up (proportion ∙ ap (λ n. scale (pos n) v) l_is), l_is, j_up)

    reduced_entries : FitsNumbers p.dimension made → FitsWhole (pos d) × Each v FitsWhole
    reduced_entries f =
        let m = reduced_multiple in
        let over = subst (λ n. FitsWhole (pos n)) m.1 (lcm_fits 0 1 made (lit< tt) f.0) in (
          less_fits j (pos d) m.2 (subst FitsWhole (ap pos (times_turned d j) ∙ sym (pos-*ℤ-pos j d)) over),
          entries_less j v m.2 (subst (λ xs. Each xs FitsWhole) m.0 (shares_fit p.dimension 0 l made f.1)),
        )

    pub reduced_further : FitsFurther p cell ps (pos l) → FitsFurther p cell v (pos d)
    reduced_further f =
        let e = multiple_is d j ps v up (proportion ∙ ap (λ n. scale (pos n) v) l_is) in
        pairs_map p.supports cell (λ s a b. (c : ℕ) → FitsAt (pos l) ps s a b c) (λ s a b. (c : ℕ) → FitsAt (pos d) v s a b c) (λ s a b g c u. rise_less d j v (point_at s a) (point_at s c) j_up (subst₂ (λ n xs. FitsRise (pos n) xs (point_at s a) (point_at s c)) l_is e (g c u))) f

    pub reduced_own : FitsOwn p cell ps (pos l) → FitsOwn p cell v (pos d)
    reduced_own f =
        let e = multiple_is d j ps v up (proportion ∙ ap (λ n. scale (pos n) v) l_is) in
        pairs_map p.supports cell (λ s a b. FitsRise (pos l) ps (point_at s a) (point_at s b)) (λ s a b. FitsRise (pos d) v (point_at s a) (point_at s b)) (λ s a b g. rise_less d j v (point_at s a) (point_at s b) j_up (subst₂ (λ n xs. FitsRise (pos n) xs (point_at s a) (point_at s b)) l_is e g)) f

  -- the elimination gives reduced rows, since the cell is independent
  with_made : (Q : Type 0) → ((made : List (List ℤ)) → elimination p.dimension (edge_rows p cell) ≡ Ok made → IsReducedOf p.dimension (edge_rows p cell) made → Q)
      → (r : Result (List (List ℤ)) (List ℤ)) → elimination p.dimension (edge_rows p cell) ≡ r → Q
  with_made Q f (Ok made) e =
      let m = rows_lengths p cell well of in
      f made e (reduced_means p.dimension m.0 (edge_rows p cell) made (rows_count p cell well of) m.2 e)
  with_made Q f (Err kernel) e =
      let m = rows_lengths p cell well of in
      absurd (kernel_dependent p cell kernel (cell_kernel p cell kernel well of (kernel_means_it p.dimension m.0 (edge_rows p cell) kernel (rows_count p cell well of) m.2 e)) ind)

  natural_entries : ((made : List (List ℤ)) → elimination p.dimension (edge_rows p cell) ≡ Ok made → FitsNumbers p.dimension made) → FitsWhole (pos d) × Each v FitsWhole
  natural_entries f = with_made (FitsWhole (pos d) × Each v FitsWhole) (λ made e red. reduced_entries made red (f made e)) (elimination p.dimension (edge_rows p cell)) refl

  natural_further : FitsWritten p cell → FitsFurther p cell v (pos d)
  natural_further w = with_made (FitsFurther p cell v (pos d)) (λ made e red. reduced_further made red (w.1 made e).0) (elimination p.dimension (edge_rows p cell)) refl

  natural_own : FitsOwnReduced p cell → FitsOwn p cell v (pos d)
  natural_own w = with_made (FitsOwn p cell v (pos d)) (λ made e red. reduced_own made red (w made e)) (elimination p.dimension (edge_rows p cell)) refl

pub further_fits : (p : Problem) (cell : Cell) → IsProblem p → IsOf p cell → IsIndependent p cell
    → (den : ℤ) (v : List ℤ) → length v ≡ p.dimension → pos 0 <ℤ den → IsCoprime (den ∷ v) → IsLevelAt p cell v den → FitsWritten p cell → FitsFurther p cell v den
further_fits p cell well of ind (pos d) v long h coprime level w = natural_further p cell well of ind d v long (omega (arith, ints, h)) coprime level w
further_fits p cell well of ind (negsuc d) v long h coprime level w = absurd (omega (arith, ints, h))

-- where the common denominator and the shares fit, so do the numbers of the normal in lowest terms
pub entries_fit : (p : Problem) (cell : Cell) → IsProblem p → IsOf p cell → IsIndependent p cell
    → (den : ℤ) (v : List ℤ) → length v ≡ p.dimension → pos 0 <ℤ den → IsCoprime (den ∷ v) → IsLevelAt p cell v den
    → ((made : List (List ℤ)) → elimination p.dimension (edge_rows p cell) ≡ Ok made → FitsNumbers p.dimension made) → FitsWhole den × Each v FitsWhole
entries_fit p cell well of ind (pos d) v long h coprime level f = natural_entries p cell well of ind d v long (omega (arith, ints, h)) coprime level f
entries_fit p cell well of ind (negsuc d) v long h coprime level f = absurd (omega (arith, ints, h))

-- where the sums of the pairs' own second points fit under the normal that the elimination gives, they do under the one in lowest terms
pub own_fits : (p : Problem) (cell : Cell) → IsProblem p → IsOf p cell → IsIndependent p cell
    → (den : ℤ) (v : List ℤ) → length v ≡ p.dimension → pos 0 <ℤ den → IsCoprime (den ∷ v) → IsLevelAt p cell v den → FitsOwnReduced p cell → FitsOwn p cell v den
own_fits p cell well of ind (pos d) v long h coprime level w = natural_own p cell well of ind d v long (omega (arith, ints, h)) coprime level w
own_fits p cell well of ind (negsuc d) v long h coprime level w = absurd (omega (arith, ints, h))
