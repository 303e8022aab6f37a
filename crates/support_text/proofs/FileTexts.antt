-- The canonical text of a valid file means the file.
use Rattle.std.proofs.Common.{◌≡◌, ℕ, ◌-◌, ◌^◌, ◌<◌, ◌≤◌, ℤ, pos, List, [], ◌∷◌, ◌++◌, map, length, Option, Some, None, refl, arith, length-append, lit<, Ok, subst}
use Rattle.std.specs.Prelude.{MatchOption, codes, decimal, FitsSigned, flat_map}
use Rattle.std.specs.Int.{w128}
use Rattle.std.specs.Fmt.{signed_decimal}
use Rattle.std.proofs.lemmas.Int.{ints}
use Rattle.int_vectors.specs.Vectors.{Each}
use Rattle.line_text.specs.Lines.{lines_of, end_line_of}
use Rattle.cayley.specs.Problems.{Version, version1, version2}
use Rattle.cayley.specs.Files.{File, FilePoint}
use Rattle.cayley.specs.Valid.{IsCoordinate, IsStart, IsWithinFile, AreDistinct, IsValidFile}
use Rattle.int_vectors.proofs.Each.{each_append, each_both}
use Rattle.support_text.specs.Words.{Text, words}
use Rattle.support_text.specs.Writing.{point_words, support_lines, start_words, start_lines, version_text, problem_lines, problem_text}
use Rattle.support_text.proofs.Kept.{KeepsEach, IsNewPoint}
use Rattle.support_text.proofs.Distinct.{IsNew, new_from}
use Rattle.support_text.proofs.ValidFiles.{IsReadSupport, AreStarts}
use Rattle.support_text.proofs.ReadBack.{IsReadFile, width, AreLines, lines_are, file_again}
use Rattle.support_text.proofs.WrittenWords.{IsWord, IsLine, plain_word, mark_word, number_word, each-map, each-flat, lines_again}
use Rattle.support_text.specs.ProblemText.{problem_at, no_line, problem_of}

-- ---- the words of a file
pub count_word : (n limit : ℕ) → n ≤ limit → limit < 2 ^ 127 → IsWord (decimal n)
count_word n limit h lt = number_word (pos n) (record { sfits = omega arith })

start_fits : (z : ℤ) → IsStart z → FitsSigned w128 z
start_fits z h = width z 1000000000 (omega (arith, ints)) (lit< tt)

some_behind : (ws vs : List Text) → 0 < length vs → 0 < length (ws ++ vs)
some_behind ws vs h = omega (arith, length-append ws vs)

point_is_line : (x : FilePoint) → IsWithinFile x → IsLine (point_words x)
point_is_line x h =
    let coords = each-map IsWord IsCoordinate signed_decimal (λ z p. number_word z (width z 1000000 p (lit< tt))) x.coordinates h.0 in
    let colon : IsWord (codes ":") = mark_word 58 refl refl in
    let height = number_word x.height (width x.height 1000000000 h.1 (lit< tt)) in (
      some_behind (map signed_decimal x.coordinates) (codes ":" ∷ signed_decimal x.height ∷ []) (omega arith),
      each_append IsWord (map signed_decimal x.coordinates) (codes ":" ∷ signed_decimal x.height ∷ []) coords (colon, (height, tt)),
    )

-- a support of which the words are known
abbrev IsPlainSupport : List FilePoint → Type 0
IsPlainSupport s = (length s ≤ 1000) × Each s IsWithinFile

support_are_lines : (s : List FilePoint) → IsPlainSupport s → Each (support_lines s) IsLine
support_are_lines s h =
    let head : IsWord (codes "support") = plain_word 115 (117 ∷ 112 ∷ 112 ∷ 111 ∷ 114 ∷ 116 ∷ []) refl refl in
    ((omega arith, (head, (count_word (length s) 1000 h.0 (lit< tt), tt))), each-map IsLine IsWithinFile point_words (λ x p. point_is_line x p) s h.1)

start_is_line : (hs : List ℤ) → Each hs IsStart → IsLine (start_words hs)
start_is_line hs h =
    let head : IsWord (codes "start") = plain_word 115 (116 ∷ 97 ∷ 114 ∷ 116 ∷ []) refl refl in
    (omega arith, (head, each-map IsWord IsStart signed_decimal (λ z p. number_word z (start_fits z p)) hs h))

starts_are_lines : (starts : Option (List (List ℤ))) → MatchOption starts (Unit {0}) (λ (l : List (List ℤ)). Each l (λ s. Each s IsStart)) → Each (start_lines starts) IsLine
starts_are_lines None h = tt
starts_are_lines (Some starts) h = each-map IsLine (λ (s : List ℤ). Each s IsStart) start_words (λ s p. start_is_line s p) starts h

plain_supports : (ss : List (List FilePoint)) → Each ss (λ s. (1 ≤ length s) × (length s ≤ 1000)) → Each ss (λ s. Each s IsWithinFile) → Each ss IsPlainSupport
plain_supports [] h k = tt
plain_supports (s ∷ ss) h k = ((h.0.1, k.0), plain_supports ss h.1 k.1)

version_is_word : (v : Version) → IsWord (version_text v)
version_is_word version1 = plain_word 49 [] refl refl
version_is_word version2 = plain_word 50 [] refl refl

pub file_lines : (file : File) → IsValidFile file → Each (problem_lines file) IsLine
unfolding problem_lines
file_lines file valid =
    let header : IsWord (codes "mixedcells") = plain_word 109 (105 ∷ 120 ∷ 101 ∷ 100 ∷ 99 ∷ 101 ∷ 108 ∷ 108 ∷ 115 ∷ []) refl refl in
    let dim : IsWord (codes "dim") = plain_word 100 (105 ∷ 109 ∷ []) refl refl in
    let last : IsWord (codes "end") = plain_word 101 (110 ∷ 100 ∷ []) refl refl in
    let size = count_word file.dimension 16 valid.shape.dimension.1 (lit< tt) in
    let supports = each-flat IsLine IsPlainSupport support_lines (λ s p. support_are_lines s p) file.supports (plain_supports file.supports valid.shape.counts valid.limits) in
    let starts = starts_are_lines file.starts valid.starts in
    let body = each_append IsLine (flat_map support_lines file.supports ++ start_lines file.starts) ((codes "end" ∷ []) ∷ [])
    (each_append IsLine (flat_map support_lines file.supports) (start_lines file.starts) supports starts) ((omega arith, (last, tt)), tt) in
    ((omega arith, (header, (version_is_word file.version, tt))), ((omega arith, (dim, (size, tt))), body))

-- ---- a valid file is one that is read

new_points : (n : ℕ) (before xs : List FilePoint) → Each xs (λ (x : FilePoint). length x.coordinates ≡ n) → Each xs IsWithinFile → KeepsEach IsNew before xs → KeepsEach (IsNewPoint n) before xs
new_points n before [] h k l = tt
new_points n before (x ∷ xs) h k l = ((h.0, k.0, l.0), new_points n (before ++ x ∷ []) xs h.1 k.1 l.1)

read_supports : (n : ℕ) (ss : List (List FilePoint)) → Each ss (λ s. (1 ≤ length s) × (length s ≤ 1000)) → Each ss (λ s. Each s (λ (x : FilePoint). length x.coordinates ≡ n))
    → Each ss (λ s. Each s IsWithinFile) → Each ss (λ s. AreDistinct (map (λ (x : FilePoint). x.coordinates) s)) → Each ss (IsReadSupport n)
read_supports n [] h k l m = tt
read_supports n (s ∷ ss) h k l m = ((h.0.0, h.0.1, new_points n [] s k.0 l.0 (new_from s m.0)), read_supports n ss h.1 k.1 l.1 m.1)

read_starts : (n : ℕ) (starts : Option (List (List ℤ))) → MatchOption starts (Unit {0}) (λ (l : List (List ℤ)). (length l ≡ n) × Each l (λ s. length s ≡ n - 1))
    → MatchOption starts (Unit {0}) (λ (l : List (List ℤ)). Each l (λ s. Each s IsStart)) → AreStarts n starts
read_starts n None h k = tt
read_starts n (Some l) h k = (h.0, each_both (λ (s : List ℤ). length s ≡ n - 1) (λ (s : List ℤ). Each s IsStart) l h.1 k)

pub valid_is_read : (file : File) → IsValidFile file → IsReadFile file
valid_is_read file valid = record {
  dimension = valid.shape.dimension;
  count = valid.shape.supports;
  supports = read_supports file.dimension file.supports valid.shape.counts valid.shape.points valid.limits valid.distinct;
  starts = read_starts file.dimension file.starts valid.shape.starts valid.starts;
}

-- ---- the law

pub read_back : (file : File) → IsValidFile file → problem_of (problem_text file) ≡ Ok file
unfolding problem_of no_line
read_back file valid =
    let bytes = problem_text file in
    let rows = lines_of bytes in
    let same : map words rows ≡ problem_lines file = lines_again (problem_lines file) (file_lines file valid) in
    let lines : AreLines (problem_lines file) rows [] = subst (λ (wss : List (List Text)). AreLines wss rows []) same (lines_are rows) in
    let read : problem_at (end_line_of bytes) rows ≡ Ok (file, []) = file_again (end_line_of bytes) file rows [] (valid_is_read file valid) lines in
    rw read refl
