-- the lines get the parts of their circuits
use Rattle.std.proofs.Common.{◌≡◌, ◌≢◌, ℕ, zero, suc, ◌+◌, ◌*◌, ◌-◌, ◌<◌, ◌≤◌, true, false, if◌then◌else◌, List, [], ◌∷◌, ◌++◌, length, map, drop, get_or, drop-cons, drop_of_length-le, append_assoc, append-nil, arith, refl, sym, ap, ap₂, subst, ◌∙◌}
use Rattle.std.specs.Prelude.{All, nat_lt}
use Rattle.std.proofs.Math.IntN.{ℤ, pos}
use Rattle.std.proofs.lemmas.List.{length-map}
use Rattle.wide_int.specs.Whole.{FitsWhole}
use Rattle.int_vectors.specs.Fits.{AllFit}
use Rattle.int_vectors.specs.Vectors.{Each, dot}
use Rattle.lex_height.specs.declared.part.LexPart.{LexPart}
use Rattle.reduced_rows.specs.declared.faults.FromFault.{FromFault}
use Rattle.reduced_rows.specs.Refusals.{IsFromFault}
use Rattle.cayley.specs.Problems.{Version, version_number, Point, Problem, IsProblem, point_at, unperturbed, ranked_supports}
use Rattle.cayley.specs.Problems.Version.{version1, version2}
use Rattle.cayley.specs.Cells.{Cell, IsOf}
use Rattle.cayley.specs.Dependencies as places
use Rattle.cayley.specs.Dependencies.{IsFurtherAt, number_at}
use Rattle.cayley.specs.Valid.{IsValidProblem, support_at}
use Rattle.int_vectors.proofs.Each.{all_each, each_all, each_append, each_weaker}
use Rattle.cayley.proofs.OneCell.CellRows.{InRange}
use Rattle.crossing.specs.declared.line.WallLine.{WallLine}
use Rattle.crossing.specs.Lines.{FitsLine}
use Rattle.inner_normal.specs.Coefficients.{difference, products, coefficients_of, pairs_of, last_of, numbers_of, FitsCoefficients}
use Rattle.inner_normal.specs.Inverses.{Inverse, inverse_of, FitsInverse}
use Rattle.inner_normal.proofs.Faults.{fault_other}
use Rattle.inner_normal.proofs.PairNumbers.{length-coefficients}
use Rattle.inner_normal.proofs.Reading.{cell_long}
use Rattle.inner_normal.specs.RankedNumbers.{Ranked, ranked}
use Rattle.inner_normal.proofs.PairLists.{pairs_count}
use Rattle.cone_walls.specs.Fines.{sum_of_rank, HasFine}
use Rattle.cone_walls.specs.Listed.{coarse}
use Rattle.cone_walls.specs.Parts.{part_of, parts_of, two_points, three_points, points_in, all_points, IsFineOf, IsFurtherLine, FitsCircuitOf, IsRefined, AreRefined}
use Rattle.cone_walls.specs.Places.{HasLine, AreOfFurtherPoints}
use Rattle.cone_walls.specs.Workings.{FitsCircuits}
use Rattle.cone_walls.proofs.FurtherLines.{each_has}
use Rattle.cone_walls.proofs.Pushing.{pair_of}
use Rattle.cone_walls.proofs.RisingRanks.{ranks_rise}
use Rattle.cone_walls.proofs.FineParts.{parts_fit, parts_few, parts_sum}
use Rattle.cone_walls.proofs.Telling.{coarse_fine}

-- ---- points one after the other
pub two_more : (old mid new x y : List LexPart) → mid ≡ old ++ x → new ≡ mid ++ y → new ≡ old ++ (x ++ (y ++ []))
two_more old mid new x y e f = f ∙ ap (λ z. z ++ y) e ∙ append_assoc old x y ∙ ap (λ z. old ++ (x ++ z)) (sym (append-nil y))

pub one_before : (old mid new x y : List LexPart) → mid ≡ old ++ x → new ≡ mid ++ y → new ≡ old ++ (x ++ y)
one_before old mid new x y e f = f ∙ ap (λ z. z ++ y) e ∙ append_assoc old x y

pub three_more : (old mid more new x y z : List LexPart) → mid ≡ old ++ x → more ≡ mid ++ y → new ≡ more ++ z → new ≡ old ++ (x ++ (y ++ (z ++ [])))
three_more old mid more new x y z e f g = two_more mid more new y z f g ∙ ap (λ w. w ++ (y ++ (z ++ []))) e ∙ append_assoc old x (y ++ (z ++ []))

module _ (s : List Point) (pair : ℕ × ℕ) (numbers : ℤ × ℤ) (c : ℕ) (last : ℤ) where
  part_at : ℕ → ℤ → List LexPart
  part_at position number = part_of (point_at s position).rank number

  pub own_first : (old mid new : List LexPart) → nat_lt c pair.0 ≡ true → mid ≡ old ++ part_of (point_at s c).rank last → new ≡ mid ++ parts_of (two_points s pair numbers) → new ≡ old ++ parts_of (three_points s pair numbers c last)
  own_first old mid new t e f =
      one_before old mid new (part_of (point_at s c).rank last) (parts_of (two_points s pair numbers)) e f
      ∙ ap (λ b. old ++ parts_of (if b then ranked s c last ∷ ranked s pair.0 numbers.0 ∷ ranked s pair.1 numbers.1 ∷ [] else if nat_lt c pair.1 then ranked s pair.0 numbers.0 ∷ ranked s c last ∷ ranked s pair.1 numbers.1 ∷ []
      else ranked s pair.0 numbers.0 ∷ ranked s pair.1 numbers.1 ∷ ranked s c last ∷ [])) (sym t)

  pub own_second : (old mid more new : List LexPart) → nat_lt c pair.0 ≡ false → nat_lt c pair.1 ≡ true → mid ≡ old ++ part_of (point_at s pair.0).rank numbers.0 → more ≡ mid ++ part_of (point_at s c).rank last
      → new ≡ more ++ part_of (point_at s pair.1).rank numbers.1 → new ≡ old ++ parts_of (three_points s pair numbers c last)
  own_second old mid more new t u e f g =
      three_more old mid more new (part_of (point_at s pair.0).rank numbers.0) (part_of (point_at s c).rank last) (part_of (point_at s pair.1).rank numbers.1) e f g
      ∙ ap₂ (λ b d. old ++ parts_of (if b then ranked s c last ∷ ranked s pair.0 numbers.0 ∷ ranked s pair.1 numbers.1 ∷ [] else if d then ranked s pair.0 numbers.0 ∷ ranked s c last ∷ ranked s pair.1 numbers.1 ∷ []
      else ranked s pair.0 numbers.0 ∷ ranked s pair.1 numbers.1 ∷ ranked s c last ∷ [])) (sym t) (sym u)

  pub own_third : (old mid new : List LexPart) → nat_lt c pair.0 ≡ false → nat_lt c pair.1 ≡ false → mid ≡ old ++ parts_of (two_points s pair numbers) → new ≡ mid ++ part_of (point_at s c).rank last
      → new ≡ old ++ parts_of (three_points s pair numbers c last)
  own_third old mid new t u e f =
      f ∙ ap (λ z. z ++ part_of (point_at s c).rank last) e
      ∙ regroup old (part_of (point_at s pair.0).rank numbers.0) (part_of (point_at s pair.1).rank numbers.1) (part_of (point_at s c).rank last)
      ∙ ap₂ (λ b d. old ++ parts_of (if b then ranked s c last ∷ ranked s pair.0 numbers.0 ∷ ranked s pair.1 numbers.1 ∷ [] else if d then ranked s pair.0 numbers.0 ∷ ranked s c last ∷ ranked s pair.1 numbers.1 ∷ []
      else ranked s pair.0 numbers.0 ∷ ranked s pair.1 numbers.1 ∷ ranked s c last ∷ [])) (sym t) (sym u)
    where
      regroup : (o x y z : List LexPart) → (o ++ (x ++ (y ++ []))) ++ z ≡ o ++ (x ++ (y ++ (z ++ [])))
      regroup o x y z =
          append_assoc o (x ++ (y ++ [])) z
          ∙ ap (λ w. o ++ w) (append_assoc x (y ++ []) z ∙ ap (λ w. x ++ w) (ap (λ w. w ++ z) (append-nil y) ∙ ap (λ w. y ++ w) (sym (append-nil z))))

-- ---- all supports
parts_append : (xs ys : List Ranked) → parts_of (xs ++ ys) ≡ parts_of xs ++ parts_of ys
parts_append [] ys = refl
parts_append (x ∷ xs) ys = ap (λ z. part_of x.0 x.1 ++ z) (parts_append xs ys) ∙ sym (append_assoc (part_of x.0 x.1) (parts_of xs) (parts_of ys))

number_read : (ms : List (ℤ × ℤ)) (k : ℕ) → get_or ms k (pos 0, pos 0) ≡ number_at ms k
number_read [] k = refl
number_read (m ∷ ms) zero = refl
number_read (m ∷ ms) (suc k) = number_read ms k

module _ (p : Problem) (cell pairs : Cell) (same : pairs ≡ cell) (of : IsOf p cell) (k : ℕ) (l : k < length pairs) where
  inside : k < length cell
  inside = subst (λ (z : Cell). k < length z) same l

  inside_supports : k < length p.supports
  inside_supports = (pair_of _ p.supports cell k of inside).0

  support_is : get_or p.supports k [] ≡ support_at p (k + 1)
  support_is = let e : k ≡ k + 1 - 1 = omega arith in ap (λ z. get_or p.supports z []) e

  pair_is : get_or cell k (0, 0) ≡ get_or pairs k (0, 0)
  pair_is = ap (λ (z : Cell). get_or z k (0, 0)) (sym same)

  pub pair_inside : (1 ≤ (get_or pairs k (0, 0)).0) × ((get_or pairs k (0, 0)).0 < (get_or pairs k (0, 0)).1) × ((get_or pairs k (0, 0)).1 ≤ length (support_at p (k + 1)))
  pair_inside =
      subst (λ (x : ℕ × ℕ). (1 ≤ x.0) × (x.0 < x.1) × (x.1 ≤ length (support_at p (k + 1)))) pair_is
      (subst (λ (s : List Point). (1 ≤ (get_or cell k (0, 0)).0) × ((get_or cell k (0, 0)).0 < (get_or cell k (0, 0)).1) × ((get_or cell k (0, 0)).1 ≤ length s)) support_is
      (pair_of _ p.supports cell k of inside).1)

  module _ (j c : ℕ) (last : ℤ) (ms : List (ℤ × ℤ)) (lm : k < length ms) where
    all_step : (i n : ℕ) → i ≡ k → n ≡ suc k → all_points k j c last (drop k ms) (drop k p.supports) (drop k cell)
        ≡ points_in i j c last (get_or p.supports k []) (get_or cell k (0, 0)) (get_or ms k (pos 0, pos 0)) ++ all_points n j c last (drop n ms) (drop n p.supports) (drop n cell)
    all_step i n e f = let a = inside in let b = inside_supports in rw (e, f, drop-cons ms k (pos 0, pos 0), drop-cons p.supports k [], drop-cons cell k (0, 0)) refl

    pub more_points : (old new all : List LexPart) → old ++ parts_of (all_points k j c last (drop k ms) (drop k p.supports) (drop k cell)) ≡ all
        → new ≡ old ++ parts_of (points_in (k + 1 - 1) j c last (support_at p (k + 1)) (get_or pairs k (0, 0)) (number_at ms (k + 1 - 1)))
        → new ++ parts_of (all_points (k + 1) j c last (drop (k + 1) ms) (drop (k + 1) p.supports) (drop (k + 1) cell)) ≡ all
    more_points old new all e f =
        let rest = all_points (k + 1) j c last (drop (k + 1) ms) (drop (k + 1) p.supports) (drop (k + 1) cell) in
        let here = points_in (k + 1 - 1) j c last (support_at p (k + 1)) (get_or pairs k (0, 0)) (number_at ms (k + 1 - 1)) in
        let w : k ≡ k + 1 - 1 = omega arith in
        let h : here ≡ points_in (k + 1 - 1) j c last (get_or p.supports k []) (get_or cell k (0, 0)) (get_or ms k (pos 0, pos 0)) =
        ap₂ (λ (s : List Point) (x : ℕ × ℕ). points_in (k + 1 - 1) j c last s x (number_at ms (k + 1 - 1))) (sym support_is) (sym pair_is)
        ∙ ap (points_in (k + 1 - 1) j c last (get_or p.supports k []) (get_or cell k (0, 0))) (ap (number_at ms) (sym w) ∙ sym (number_read ms k)) in
        ap (λ z. z ++ parts_of rest) f ∙ append_assoc old (parts_of here) (parts_of rest)
        ∙ ap (λ z. old ++ z) (sym (parts_append here rest) ∙ ap parts_of (ap (λ z. z ++ rest) h ∙ sym (all_step (k + 1 - 1) (k + 1) (sym w) (omega arith)))) ∙ e

pub last_points : (k j c : ℕ) (last : ℤ) (ms : List (ℤ × ℤ)) (supports : List (List Point)) (cell : Cell) (old all : List LexPart) → length ms ≤ k → old ++ parts_of (all_points k j c last (drop k ms) (drop k supports) (drop k cell)) ≡ all → old ≡ all
last_points k j c last ms supports cell old all l e =
    sym (append-nil old) ∙ ap (λ (z : List (ℤ × ℤ)). old ++ parts_of (all_points k j c last z (drop k supports) (drop k cell))) (sym (drop_of_length-le ms l)) ∙ e

-- ---- the numbers of a circuit
fits_pairs : (xs : List ℤ) → AllFit xs → Each (pairs_of xs) (λ m. FitsWhole m.0 × FitsWhole m.1)
fits_pairs [] h = tt
fits_pairs (x ∷ []) h = tt
fits_pairs (x ∷ y ∷ xs) h = ((h.0, h.1.0), fits_pairs xs h.1.1)

-- two numbers for each pair and one for the point
pub count_by : (p : Problem) (cell : Cell) (inverse : Inverse) (j : ℕ) (v xs : List ℤ) → IsProblem p → IsOf p cell → length inverse.columns ≡ p.dimension → xs ≡ coefficients_of j inverse v → length xs ≡ 2 * length cell + 1
count_by p cell inverse j v xs well of count is =
    let n = well.supports in
    let k = cell_long p.supports cell InRange of in
    let m = length-map inverse.columns (dot v) in
    let l = length-coefficients 0 j inverse.den (products v inverse.columns) in
    ap length is ∙ l ∙ ap (λ z. 2 * z + 1) (omega (arith, n, k, m, count))

pub fine_is : (p : Problem) (cell : Cell) (inverse : Inverse) (j c : ℕ) (xs : List ℤ) (last : ℤ) (fine : List LexPart) → IsValidProblem p → IsOf p cell → j < p.dimension → IsFurtherAt p cell j c
    → xs ≡ coefficients_of j inverse (difference p cell j c) → AllFit xs → length xs ≡ 2 * length cell + 1 → last_of xs ≡ inverse.den → last ≡ inverse.den → FitsWhole last
    → fine ≡ parts_of (all_points 0 j c last (pairs_of xs) p.supports cell) → IsFineOf p cell inverse j c fine
fine_is p cell inverse j c xs last fine valid of below further made fits count end own own_fits is =
    let n = valid.shape.problem.supports in
    let d = valid.shape.dimension in
    let k = cell_long p.supports cell InRange of in
    let q : last ≡ last_of xs = own ∙ sym end in
    let whole : fine ≡ parts_of (all_points 0 j c (last_of xs) (pairs_of xs) p.supports cell) = is ∙ ap (λ z. parts_of (all_points 0 j c z (pairs_of xs) p.supports cell)) q in
    let m = pairs_count xs (length cell) count in
    let are = parts_fit p cell j c (numbers_of xs) (ranks_rise p n valid.shape.corners valid.ranks) of further (subst FitsWhole q own_fits) (fits_pairs xs fits) in
    let few = parts_few p cell j c (numbers_of xs) (omega (arith, k, n, d.1)) in
    let sum = parts_sum p cell j c (numbers_of xs) (omega (arith, m, k, n, below)) (omega (arith, n, below)) (omega (arith, k, n, below)) are in
    subst (λ ys. IsFineOf p cell inverse j c ys) (sym whole)
    (record { few = few; parts = are; sum = λ rank. sum rank ∙ ap (λ zs. sum_of_rank (numbers_of zs) p cell (point_at (places.nth_support p.supports j) c) rank) made })

-- ---- all lines
fine_there : (p : Problem) (cell : Cell) (inverse : Inverse) (l k : WallLine) → IsRefined p cell inverse l k → IsFineOf p cell inverse (k.support - 1) k.position k.fine
fine_there p cell inverse l k h =
    let s = ap (λ (x : WallLine). x.support) h.0 in
    let q = ap (λ (x : WallLine). x.position) h.0 in
    let g = subst (λ n. IsFineOf p cell inverse (n - 1) l.position k.fine) (sym s) h.1 in
    subst (λ n. IsFineOf p cell inverse (k.support - 1) n k.fine) (sym q) g

fine_has : (p : Problem) (cell : Cell) (made : List (List ℤ)) (inverse : Inverse) (l k : WallLine) → inverse ≡ inverse_of made → IsRefined p cell inverse l k → HasFine p cell made k
fine_has p cell made inverse l k e h =
    let r = subst (λ (i : Inverse). IsFineOf p cell i (k.support - 1) k.position k.fine) e (fine_there p cell inverse l k h) in
    (r.parts, r.sum)

-- each line has the parts of its own point
pub refined_parts : (p : Problem) (cell : Cell) (inverse : Inverse) (lines made : List WallLine) → AreRefined p cell inverse lines made → Each made (λ k. IsFineOf p cell inverse (k.support - 1) k.position k.fine)
refined_parts p cell inverse [] [] h = tt
refined_parts p cell inverse [] (k ∷ made) h = absurd h
refined_parts p cell inverse (l ∷ lines) [] h = absurd h
refined_parts p cell inverse (l ∷ lines) (k ∷ made) h = (fine_there p cell inverse l k h.0, refined_parts p cell inverse lines made h.1)

pub refined_coarse : (p : Problem) (cell : Cell) (inverse : Inverse) (lines made : List WallLine) → AreRefined p cell inverse lines made → map coarse made ≡ map coarse lines
refined_coarse p cell inverse [] [] h = refl
refined_coarse p cell inverse [] (k ∷ made) h = absurd h
refined_coarse p cell inverse (l ∷ lines) [] h = absurd h
refined_coarse p cell inverse (l ∷ lines) (k ∷ made) h = ap₂ (λ (x : WallLine) (xs : List WallLine). x ∷ xs) h.0.0 (refined_coarse p cell inverse lines made h.1)

refined_fine : (p : Problem) (cell : Cell) (rows : List (List ℤ)) (inverse : Inverse) → inverse ≡ inverse_of rows → (lines made : List WallLine) → AreRefined p cell inverse lines made → Each made (HasFine p cell rows)
refined_fine p cell rows inverse e [] [] h = tt
refined_fine p cell rows inverse e [] (k ∷ made) h = absurd h
refined_fine p cell rows inverse e (l ∷ lines) [] h = absurd h
refined_fine p cell rows inverse e (l ∷ lines) (k ∷ made) h = (fine_has p cell rows inverse l k e h.0, refined_fine p cell rows inverse e lines made h.1)

pub refined_fit : (p : Problem) (cell : Cell) (inverse : Inverse) (lines made : List WallLine) → AreRefined p cell inverse lines made → Each made FitsLine
refined_fit p cell inverse [] [] h = tt
refined_fit p cell inverse [] (k ∷ made) h = absurd h
refined_fit p cell inverse (l ∷ lines) [] h = absurd h
refined_fit p cell inverse (l ∷ lines) (k ∷ made) h = (h.0.2, refined_fit p cell inverse lines made h.1)

-- the lines that are made so far, and those that are left
pub refined_more : (p : Problem) (cell : Cell) (inverse : Inverse) (done made : List WallLine) (l k : WallLine) → AreRefined p cell inverse done made → IsRefined p cell inverse l k → AreRefined p cell inverse (done ++ l ∷ []) (made ++ k ∷ [])
refined_more p cell inverse [] [] l k h r = (r, tt)
refined_more p cell inverse [] (y ∷ made) l k h r = absurd h
refined_more p cell inverse (x ∷ done) [] l k h r = absurd h
refined_more p cell inverse (x ∷ done) (y ∷ made) l k h r = (h.0, refined_more p cell inverse done made l k h.1 r)

each_rest : (Q : WallLine → Type 0) (done rest : List WallLine) → Each (done ++ rest) Q → Each rest Q
each_rest Q [] rest h = h
each_rest Q (l ∷ done) rest h = each_rest Q done rest h.1

each_next : (Q : WallLine → Type 0) (done all lines : List WallLine) (l : WallLine) (rest : List WallLine) → done ++ all ≡ lines → all ≡ l ∷ rest → Each lines Q → Q l
each_next Q done all lines l rest e f h = (subst (λ ls. Each ls Q) f (each_rest Q done all (subst (λ ls. Each ls Q) (sym e) h))).0

pub rest_further : (p : Problem) (cell : Cell) (done all lines : List WallLine) (l : WallLine) (rest : List WallLine) → done ++ all ≡ lines → all ≡ l ∷ rest → Each lines (IsFurtherLine p cell) → IsFurtherLine p cell l
rest_further p cell done all lines l rest e f h = each_next (IsFurtherLine p cell) done all lines l rest e f h

pub rest_fit : (done all lines : List WallLine) (l : WallLine) (rest : List WallLine) → done ++ all ≡ lines → all ≡ l ∷ rest → All FitsLine lines → FitsLine l
rest_fit done all lines l rest e f h = each_next FitsLine done all lines l rest e f (each_all FitsLine lines h)

pub more_refined : (p : Problem) (cell : Cell) (inverse : Inverse) (done made new all rest lines : List WallLine) (l k : WallLine) → AreRefined p cell inverse done made → Each done (FitsCircuitOf p cell inverse) → done ++ all ≡ lines → all ≡ l ∷ rest
    → FitsCircuitOf p cell inverse l → IsRefined p cell inverse l k → new ≡ made ++ k ∷ []
    → (d : List WallLine) × AreRefined p cell inverse d new × Each d (FitsCircuitOf p cell inverse) × (d ++ rest ≡ lines)
more_refined p cell inverse done made new all rest lines l k h fits e f g r is = (
  done ++ l ∷ [],
  subst (AreRefined p cell inverse (done ++ l ∷ [])) (sym is) (refined_more p cell inverse done made l k h r),
  each_append (FitsCircuitOf p cell inverse) done (l ∷ []) fits (g, tt),
  append_assoc done (l ∷ []) rest ∙ ap (λ z. done ++ z) (sym f) ∙ e,
)

pub all_refined : (p : Problem) (cell : Cell) (inverse : Inverse) (done made all lines : List WallLine) → all ≡ [] → AreRefined p cell inverse done made → Each done (FitsCircuitOf p cell inverse) → done ++ all ≡ lines
    → Each lines (FitsCircuitOf p cell inverse) × AreRefined p cell inverse lines made
all_refined p cell inverse done made all lines none h fits e =
    let q : done ≡ lines = sym (append-nil done) ∙ ap (λ z. done ++ z) (sym none) ∙ e in
    (subst (λ ls. Each ls (FitsCircuitOf p cell inverse)) q fits, subst (λ ls. AreRefined p cell inverse ls made) q h)

pub unfit_line : (p : Problem) (cell : Cell) (inverse : Inverse) (done all lines : List WallLine) (l : WallLine) (rest : List WallLine) → done ++ all ≡ lines → all ≡ l ∷ rest → (fault : FromFault) → IsFromFault (FitsCircuitOf p cell inverse l) fault
    → IsFromFault (Each lines (FitsCircuitOf p cell inverse)) fault
unfit_line p cell inverse done all lines l rest e f fault h =
    fault_other (FitsCircuitOf p cell inverse l) (Each lines (FitsCircuitOf p cell inverse)) fault (λ none g. none (each_next (FitsCircuitOf p cell inverse) done all lines l rest e f g)) h

module _ (p : Problem) (cell : Cell) (valid : IsValidProblem p) (rows : List (List ℤ)) where
  second_version : (v : Version) → version_number v ≢ 1 → v ≡ version2
  second_version version1 n = absurd (n refl)
  second_version version2 n = refl

  first_version : (v : Version) → version_number v ≡ 1 → v ≡ version1
  first_version version1 e = refl
  first_version version2 e = absurd (omega (arith, e))

  no_circuits : version_number p.version ≡ 1 → FitsCircuits p cell rows
  no_circuits e d j c f = absurd (let a = ap version_number d in omega (arith, a, e))

  unranked_is : version_number p.version ≡ 1 → p ≡ unperturbed p
  unranked_is e =
      let v = first_version p.version e in
      ap₂ (λ (v : Version) (ss : List (List Point)). record p { version = v; supports = ss }) v (valid.ranks ∙ ap (λ (v : Version). ranked_supports v p.files p.supports) v)

  pub coarse_same : (lines : List WallLine) → Each lines (λ l. l.fine ≡ []) → map coarse lines ≡ lines
  coarse_same [] h = refl
  coarse_same (l ∷ lines) h = ap₂ (λ (x : WallLine) (xs : List WallLine). x ∷ xs) (ap (λ (f : List LexPart). record l { fine = f }) (sym h.0)) (coarse_same lines h.1)

  nothing_fine : version_number p.version ≡ 1 → (lines : List WallLine) → Each lines (λ l. l.fine ≡ []) → Each lines (HasFine p cell rows)
  nothing_fine e [] h = tt
  nothing_fine e (l ∷ lines) h = (
    subst (HasFine p cell rows) (ap (λ (f : List LexPart). record l { fine = f }) (sym h.0)) (subst (λ (q : Problem). HasFine q cell rows (coarse l)) (sym (unranked_is e)) (coarse_fine p cell rows l)),
    nothing_fine e lines h.1,
  )

  module _ (of : IsOf p cell) (lines : List WallLine) (listed : AreOfFurtherPoints p cell lines) (further : Each lines (IsFurtherLine p cell)) where
    circuits_each : FitsCircuits p cell rows → p.version ≡ version2 → Each lines (FitsCircuitOf p cell (inverse_of rows))
    circuits_each h v = each_weaker (IsFurtherLine p cell) (FitsCircuitOf p cell (inverse_of rows)) lines (λ l f. (h v (l.support - 1) l.position f.2).1) further

    each_circuits : FitsInverse rows → Each lines (FitsCircuitOf p cell (inverse_of rows)) → FitsCircuits p cell rows
    each_circuits f h v j c e =
        let w : j ≡ suc j - 1 = omega arith in (
          f,
          subst (λ z. FitsCoefficients z (inverse_of rows) (difference p cell z c)) (sym w)
              (each_has (λ k d. FitsCoefficients (k - 1) (inverse_of rows) (difference p cell (k - 1) d)) lines (suc j) c h ((listed.1 (suc j) c).1 (omega arith, subst (λ z. IsFurtherAt p cell z c) w e))),
        )

    -- version 1
    pub with_nothing : version_number p.version ≡ 1 → Each lines (λ l. l.fine ≡ []) → All FitsLine lines
        → FitsCircuits p cell rows × (map coarse lines ≡ lines) × Each lines (HasFine p cell rows) × All FitsLine lines
    with_nothing e h fit = (no_circuits e, coarse_same lines h, nothing_fine e lines h, fit)

    -- no further point
    pub with_none : lines ≡ [] → All FitsLine lines → FitsCircuits p cell rows × (map coarse lines ≡ lines) × Each lines (HasFine p cell rows) × All FitsLine lines
    with_none e fit = (
      (λ v j c f. absurd (let w : j ≡ suc j - 1 = omega arith in subst (λ ls. HasLine ls (suc j) c) e ((listed.1 (suc j) c).1 (omega arith, subst (λ z. IsFurtherAt p cell z c) w f)))),
      ap (map coarse) e ∙ sym e,
      subst (λ ls. Each ls (HasFine p cell rows)) (sym e) tt,
      fit,
    )

    -- the inverse doesn't fit, or a circuit
    pub no_inverse : version_number p.version ≢ 1 → lines ≢ [] → (fault : FromFault) → IsFromFault (FitsInverse rows) fault → IsFromFault (FitsCircuits p cell rows) fault
    no_inverse n d fault h = fault_other (FitsInverse rows) (FitsCircuits p cell rows) fault (λ none f. none (first lines d further f)) h
      where
        first : (ls : List WallLine) → ls ≢ [] → Each ls (IsFurtherLine p cell) → FitsCircuits p cell rows → FitsInverse rows
        first [] d f h = absurd (d refl)
        first (l ∷ ls) d f h = (h (second_version p.version n) (l.support - 1) l.position f.0.2).0

    pub no_circuit : version_number p.version ≢ 1 → (inverse : Inverse) → inverse ≡ inverse_of rows → (fault : FromFault) → IsFromFault (Each lines (FitsCircuitOf p cell inverse)) fault → IsFromFault (FitsCircuits p cell rows) fault
    no_circuit n inverse e fault h =
        fault_other (Each lines (FitsCircuitOf p cell inverse)) (FitsCircuits p cell rows) fault
        (λ none f. none (subst (λ (i : Inverse). Each lines (FitsCircuitOf p cell i)) (sym e) (circuits_each f (second_version p.version n)))) h

    -- version 2
    pub with_parts : Each lines (λ l. l.fine ≡ []) → (inverse : Inverse) → inverse ≡ inverse_of rows → FitsInverse rows → (made : List WallLine) → Each lines (FitsCircuitOf p cell inverse) → AreRefined p cell inverse lines made
        → FitsCircuits p cell rows × (map coarse made ≡ lines) × Each made (HasFine p cell rows) × All FitsLine made
    with_parts h inverse e f made fits r = (
      each_circuits f (subst (λ (i : Inverse). Each lines (FitsCircuitOf p cell i)) e fits),
      refined_coarse p cell inverse lines made r ∙ coarse_same lines h,
      refined_fine p cell rows inverse e lines made r,
      (λ k d l. all_each FitsLine made (refined_fit p cell inverse lines made r) k d l),
    )
