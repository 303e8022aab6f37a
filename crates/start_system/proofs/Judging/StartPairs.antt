-- the pairs of the start cell, and that they are those of a cell
use Rattle.std.proofs.Common.{◌≡◌, ℕ, zero, suc, ◌+◌, ◌<◌, ◌≤◌, List, [], ◌∷◌, length, take, get_or, slice_set, arith, refl, sym, ap, ◌∙◌}
use Rattle.std.proofs.Math.Seq.{take-suc-set}
use Rattle.std.proofs.lemmas.List.{take_all}
use Rattle.cayley.specs.Cells.{Cell, IsCell}
use Rattle.cayley.specs.Paths.{start_pairs}
use Rattle.cayley.specs.Valid.{IsValidCell}
use Rattle.start_system.proofs.Making.Entries.{next_taken}

pub length-pairs : (i : ℕ) (files : List ℕ) → length (start_pairs i files) ≡ length files
length-pairs i [] = refl
length-pairs i (f ∷ files) = ap suc (length-pairs (suc i) files)

pub pair_at : (i k f : ℕ) (files : List ℕ) → k < length files → f ≡ get_or files k 0 → (f + 1, f + 1 + (i + k)) ≡ get_or (start_pairs i files) k (0, 0)
pair_at i k f [] l e = absurd (omega arith)
pair_at i zero f (g ∷ files) l e = let o : i + 0 ≡ i = omega arith in ap (λ (j : ℕ). (f + 1, f + 1 + j)) o ∙ ap (λ (j : ℕ). (j + 1, j + 1 + i)) e
pair_at i (suc k) f (g ∷ files) l e = let o : i + suc k ≡ suc i + k = omega arith in ap (λ (j : ℕ). (f + 1, f + 1 + j)) o ∙ pair_at (suc i) k f files (omega arith) e

pub pairs_rise : (i : ℕ) (files : List ℕ) → 1 ≤ i → IsCell (start_pairs i files)
pairs_rise i [] l = tt
pairs_rise i (f ∷ files) l = ((omega arith, omega (arith, l)), pairs_rise (suc i) files (omega arith))

-- one pair more is written
pub next_pair : (files : List ℕ) (pairs : Cell) (k f : ℕ) → k < length files → k < length pairs → f ≡ get_or files k 0 → take k pairs ≡ take k (start_pairs 1 files)
    → take (k + 1) (slice_set pairs k (f + 1, f + 1 + (k + 1))) ≡ take (k + 1) (start_pairs 1 files)
next_pair files pairs k f l m e h =
    let o : k + 1 ≡ suc k = omega arith in
    let t : 1 + k ≡ k + 1 = omega arith in
    let n = length-pairs 1 files in
    ap (λ j. take j (slice_set pairs k (f + 1, f + 1 + (k + 1)))) o ∙ take-suc-set pairs k (f + 1, f + 1 + (k + 1)) m
    ∙ next_taken (start_pairs 1 files) (take k pairs) k (f + 1, f + 1 + (k + 1)) (0, 0) h (omega (arith, n, l))
    (ap (λ (j : ℕ). (f + 1, f + 1 + j)) (sym t) ∙ pair_at 1 k f files l e)

pub all_pairs : (files : List ℕ) (pairs : Cell) (count k : ℕ) → length files ≡ count → count ≤ k → k ≤ count → take k pairs ≡ take k (start_pairs 1 files) → take count pairs ≡ start_pairs 1 files
all_pairs files pairs count k e l m h =
    let o : count ≡ k = omega (arith, l, m) in
    let n = length-pairs 1 files in
    ap (λ j. take j pairs) o ∙ h ∙ take_all k (start_pairs 1 files) (omega (arith, n, e, l))

pub valid_pairs : (files : List ℕ) (n : ℕ) → length files ≡ n → 1 ≤ n → n ≤ 16 → IsValidCell (start_pairs 1 files)
valid_pairs files n e l m = let k = length-pairs 1 files in (omega (arith, k, e, l), omega (arith, k, e, m), pairs_rise 1 files (omega arith))
