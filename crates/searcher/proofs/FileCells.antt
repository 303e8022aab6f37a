-- the cells of the problem that has the file points alone
use Rattle.std.proofs.Common.{◌≡◌, ◌↔◌, ℕ, zero, suc, ◌+◌, ◌<◌, ◌≤◌, List, [], ◌∷◌, length, map, take, arith, sym, subst}
use Rattle.std.proofs.lemmas.List.{length-map}
use Rattle.std.specs.Prelude.{slice_index_or}
use Rattle.cayley.specs.Problems.{Version, Point, Problem, with_rank, numbered_supports, ranks_in, ranked_supports, first_points, file_points}
use Rattle.cayley.specs.Problems.Version.{version1, version2}
use Rattle.cayley.specs.Cells.{Cell, EachPair, IsOf}
use Rattle.cayley.proofs.Ranking.FilePointRanks.{length-numbered}

abbrev Ordered : List Point → ℕ → ℕ → Type 0
Ordered s a b = (1 ≤ a) × (a < b) × (b ≤ length s)

-- ---- ranks change no length
module _ (P : ℕ → ℕ → ℕ → Type 0) where
  abbrev ByLength : List Point → ℕ → ℕ → Type 0
  ByLength s a b = P (length s) a b

  mapped_pairs : (supports : List (List Point)) (cell : Cell) → EachPair (map (map (with_rank 0)) supports) cell ByLength ↔ EachPair supports cell ByLength
  mapped_pairs [] [] = ((λ h. h), (λ h. h))
  mapped_pairs [] (x ∷ cell) = ((λ h. h), (λ h. h))
  mapped_pairs (s ∷ supports) [] = ((λ h. h), (λ h. h))
  mapped_pairs (s ∷ supports) (x ∷ cell) =
      let e = length-map s (with_rank 0) in
      let r = mapped_pairs supports cell in
      ((λ h. (subst (λ n. P n x.0 x.1) e h.0, r.0 h.1)), (λ h. (subst (λ n. P n x.0 x.1) (sym e) h.0, r.1 h.1)))

  numbered_pairs : (i r : ℕ) (files : List ℕ) (supports : List (List Point)) (cell : Cell) → EachPair (numbered_supports i r files supports) cell ByLength ↔ EachPair supports cell ByLength
  numbered_pairs i r files [] [] = ((λ h. h), (λ h. h))
  numbered_pairs i r files [] (x ∷ cell) = ((λ h. h), (λ h. h))
  numbered_pairs i r [] (s ∷ supports) [] = ((λ h. h), (λ h. h))
  numbered_pairs i r (f ∷ files) (s ∷ supports) [] = ((λ h. h), (λ h. h))
  numbered_pairs i r [] (s ∷ supports) (x ∷ cell) =
      let e = length-numbered i 0 1 r s in
      let k = numbered_pairs (suc i) (r + ranks_in 0 s) [] supports cell in
      ((λ h. (subst (λ n. P n x.0 x.1) e h.0, k.0 h.1)), (λ h. (subst (λ n. P n x.0 x.1) (sym e) h.0, k.1 h.1)))
  numbered_pairs i r (f ∷ files) (s ∷ supports) (x ∷ cell) =
      let e = length-numbered i f 1 r s in
      let k = numbered_pairs (suc i) (r + ranks_in f s) files supports cell in
      ((λ h. (subst (λ n. P n x.0 x.1) e h.0, k.0 h.1)), (λ h. (subst (λ n. P n x.0 x.1) (sym e) h.0, k.1 h.1)))

  ranked_pairs : (version : Version) (files : List ℕ) (supports : List (List Point)) (cell : Cell) → EachPair (ranked_supports version files supports) cell ByLength ↔ EachPair supports cell ByLength
  ranked_pairs version1 files supports cell = mapped_pairs supports cell
  ranked_pairs version2 files supports cell = numbered_pairs 1 1 files supports cell

-- ---- each second point is a file point
-- of the pairs at the places below n
abbrev pub AreBelow : ℕ → List ℕ → Cell → Type 0
AreBelow n files cell = (j : ℕ) → j < n → (slice_index_or cell j (0, 0)).1 ≤ slice_index_or files j 0

take_bound : (f : ℕ) (s : List Point) (b : ℕ) → b ≤ f → b ≤ length s → b ≤ length (take f s)
take_bound zero s b l m = omega (arith, l)
take_bound (suc f) [] b l m = m
take_bound (suc f) (x ∷ s) zero l m = omega arith
take_bound (suc f) (x ∷ s) (suc b) l m = let r = take_bound f s b (omega (arith, l)) (omega (arith, m)) in omega (arith, r)

take_most : (f : ℕ) (s : List Point) → length (take f s) ≤ f
take_most zero s = omega arith
take_most (suc f) [] = omega arith
take_most (suc f) (x ∷ s) = let h = take_most f s in omega (arith, h)

first_below : (files : List ℕ) (supports : List (List Point)) (cell : Cell) → EachPair (first_points files supports) cell Ordered → AreBelow (length cell) files cell
first_below files supports [] h j l = absurd (omega (arith, l))
first_below [] supports (x ∷ cell) h j l = absurd h
first_below (f ∷ files) [] (x ∷ cell) h j l = absurd h
first_below (f ∷ files) (s ∷ supports) (x ∷ cell) h zero l = let a = take_most f s in let b = h.0.2 in omega (arith, a, b)
first_below (f ∷ files) (s ∷ supports) (x ∷ cell) h (suc j) l = first_below files supports cell h.1 j (omega (arith, l))

below_first : (files : List ℕ) (supports : List (List Point)) (cell : Cell) → length files ≡ length supports → EachPair supports cell Ordered → AreBelow (length cell) files cell → EachPair (first_points files supports) cell Ordered
below_first [] [] [] e o h = tt
below_first [] [] (x ∷ cell) e o h = o
below_first [] (s ∷ supports) cell e o h = absurd (omega (arith, e))
below_first (f ∷ files) [] cell e o h = absurd (omega (arith, e))
below_first (f ∷ files) (s ∷ supports) [] e o h = o
below_first (f ∷ files) (s ∷ supports) (x ∷ cell) e o h = (
  (o.0.0, o.0.1, take_bound f s x.1 (h 0 (omega arith)) o.0.2),
  below_first files supports cell (omega (arith, e)) o.1 (λ j l. h (suc j) (omega (arith, l))),
)

module _ (p : Problem) (cell : Cell) where
  pub file_cell : length p.files ≡ length p.supports → IsOf p cell → AreBelow (length cell) p.files cell → IsOf (file_points p) cell
  file_cell e o h = (ranked_pairs (λ n a b. (1 ≤ a) × (a < b) × (b ≤ n)) p.version p.files (first_points p.files p.supports) cell).1 (below_first p.files p.supports cell e o h)

  pub below_files : IsOf (file_points p) cell → AreBelow (length cell) p.files cell
  below_files h = first_below p.files p.supports cell ((ranked_pairs (λ n a b. (1 ≤ a) × (a < b) × (b ≤ n)) p.version p.files (first_points p.files p.supports) cell).0 h)
