-- The supports that are read are those of a problem file.
use Rattle.std.proofs.Common.{rules, ◌≡◌, ℕ, suc, zero, ◌≤◌, ℤ, pos, Bool, true, false, ◌&&◌, List, [], ◌∷◌, ◌++◌, length, Option, Some, None, Result, Ok, Err, refl, ap, subst, nat_le, unsigned_abs, slice_index_or, arith, if◌then◌else◌}
use Rattle.std.specs.Prelude.{int_le, codes, bytes_eq, IfOk}
use Rattle.std.specs.List.{list_all}
use Rattle.std.proofs.lemmas.Int.{ints}
use Rattle.std.proofs.lemmas.Map.Keys.{Less-from_sorted}
use Rattle.wide_int.proofs.Bools.{some_is}
use Rattle.int_vectors.specs.Vectors.{Each}
use Rattle.cayley.specs.Valid.{AreDistinct, IsCoordinate}
use Rattle.cayley.proofs.Refusals.Repeats.{equal_lists}
use Rattle.line_text.specs.declared.numbers.BadNumber.TheVariants.{Spelling, Outside}
use Rattle.line_text.specs.Numbers.{is_number, value_of, number_in}
use Rattle.line_text.specs.Lines.{Row, lines_of, end_line_of}
use Rattle.int_vectors.proofs.Each.{each_weaker}
use Rattle.support_text.specs.declared.fault.TextFault.{TextFault}
use Rattle.support_text.specs.Faults.{Gives, series}
use Rattle.support_text.specs.Words.{Text, words}
use Rattle.support_text.proofs.Series.{bind_ok, ok_is}
use Rattle.support_text.proofs.Kept.{int_le_is}
use Rattle.poly_text.specs.declared.causes.Cause.TheVariants.{Range, Bound}
use Rattle.poly_text.specs.declared.symbols.Symbol.{Symbol}
use Rattle.poly_text.specs.Maps.{Monomial, exponents_cmp}
use Rattle.poly_text.specs.Bounds.{Verdict, is_exponent, is_small}
use Rattle.poly_text.specs.Symbols.{symbols_of, symbols_in}
use Rattle.poly_text.specs.Steps.{begun, read_from}
use Rattle.poly_text.specs.Values.{Ascend}
use Rattle.poly_text.specs.SystemText.{PointSystem, size_of, dimension_in, support_of, support_in, polynomial_line, polynomial_next, polynomial_at, no_line, dimension_at, system_at, system_of}
use Rattle.poly_text.specs.Systems.{AreSupports}
use Rattle.poly_text.proofs.Lengths.{HaveLength}
use Rattle.poly_text.proofs.SmallValues.{left_true, right_true, read_is_small}
use Rattle.poly_text.proofs.TreeValues.{HasValue}
use Rattle.poly_text.proofs.Systems.{tree_of, means_of, system_ok, finish, others, system}

-- ---- a support

pub record AreKept (n : ℕ) (points : List (List ℤ)) : Type 0 where
  pub counts : (1 ≤ length points) × (length points ≤ 1000)
  pub long : Each points (λ x. length x ≡ n)
  pub limits : Each points (λ x. Each x IsCoordinate)
  pub distinct : AreDistinct points

coordinate : (z : ℤ) → is_exponent z ≡ true → IsCoordinate z
coordinate z h = search rules

coordinates : (xs : List ℤ) → list_all is_exponent xs ≡ true → Each xs IsCoordinate
coordinates [] h = tt
coordinates (x ∷ xs) h = (coordinate x (left_true (is_exponent x) (list_all is_exponent xs) h), coordinates xs (right_true (is_exponent x) (list_all is_exponent xs) h))

all_coordinates : (f : List Monomial) → list_all (λ (t : Monomial). list_all is_exponent t.0) f ≡ true → Each (support_of f) (λ x. Each x IsCoordinate)
all_coordinates [] h = tt
all_coordinates (t ∷ ts) h = (
  coordinates t.0 (left_true (list_all is_exponent t.0) (list_all (λ (s : Monomial). list_all is_exponent s.0) ts) h),
  all_coordinates ts (right_true (list_all is_exponent t.0) (list_all (λ (s : Monomial). list_all is_exponent s.0) ts) h),
)

all_long : (n : ℕ) (f : List Monomial) → HaveLength n f → Each (support_of f) (λ x. length x ≡ n)
all_long n [] h = tt
all_long n (t ∷ ts) h = (h.0, all_long n ts h.1)

count_of : (f : List Monomial) → length (support_of f) ≡ length f
count_of [] = refl
count_of (t ∷ ts) = ap suc (count_of ts)

at_most : (m k : ℕ) → nat_le m k ≡ true → m ≤ k
at_most m k h = search rules

apart : (points : List (List ℤ)) → Ascend points → AreDistinct points
apart points s k l lt len e =
    let less = Less-from_sorted exponents_cmp points k l [] s lt len in
    let same = equal_lists (slice_index_or points l []) in
    let both = ap (λ (ys : List ℤ). exponents_cmp ys (slice_index_or points l [])) e in
    absurd cc

kept_of : (n : ℕ) (v : List Monomial) (t : Monomial) (ts : List Monomial) → HasValue n v (t ∷ ts) → is_small (t ∷ ts) ≡ true → AreKept n (support_of (t ∷ ts))
unfolding is_small
kept_of n v t ts p h = record {
  counts = (omega arith, (let a = at_most (length (t ∷ ts)) 1000 (left_true (nat_le (length (t ∷ ts)) 1000) (list_all (λ (s : Monomial). list_all is_exponent s.0) (t ∷ ts)) h) in let b = count_of (t ∷ ts) in omega (arith, a, b)));
  long = all_long n (t ∷ ts) p.long;
  limits = all_coordinates (t ∷ ts) (right_true (nat_le (length (t ∷ ts)) 1000) (list_all (λ (s : Monomial). list_all is_exponent s.0) (t ∷ ts)) h);
  distinct = apart (support_of (t ∷ ts)) p.is_map.ascending;
}

read_kept : (n line : ℕ) (xs : List Symbol) (o : Option (Verdict (List Monomial))) (points : List (List ℤ)) → read_from n xs (begun n) ≡ o → support_in line o ≡ Ok points → AreKept n points
read_kept n line xs None points e h = absurd cc
read_kept n line xs (Some (Err Range)) points e h = absurd cc
read_kept n line xs (Some (Err Bound)) points e h = absurd cc
read_kept n line xs (Some (Ok [])) points e h = absurd cc
read_kept n line xs (Some (Ok (t ∷ ts))) points e h =
    let q = tree_of n xs (Ok (t ∷ ts)) e in
    subst (AreKept n) (ok_is (support_of (t ∷ ts)) points h) (kept_of n _ t ts (means_of n q.0 (Ok (t ∷ ts)) q.2) (read_is_small n xs (t ∷ ts) e))

line_kept : (n line : ℕ) (ws : List Text) (points : List (List ℤ)) → polynomial_line n line ws ≡ Ok points → AreKept n points
unfolding polynomial_line
line_kept n line ws points h =
    let b = bind_ok (symbols_in line (symbols_of ws)) (λ (symbols : List Symbol). support_in line (read_from n symbols (begun n))) points h in
    read_kept n line b.0 (read_from n b.0 (begun n)) points refl b.2

-- ---- all supports

next_kept : (n end : ℕ) (rows : List Row) (x : List (List ℤ) × List Row) → polynomial_next n end rows ≡ Ok x → AreKept n x.0
unfolding polynomial_next
next_kept n end [] x e = absurd cc
next_kept n end (row ∷ rows) x e =
    let b = bind_ok (polynomial_line n row.number (words row)) (λ (s : List (List ℤ)). Ok (s, rows)) x e in
    subst (AreKept n) (ap (λ (p : List (List ℤ) × List Row). p.0) (ok_is (b.0, rows) x b.2)) (line_kept n row.number (words row) b.0 b.1)

each_push : (n : ℕ) (ss : List (List (List ℤ))) (s : List (List ℤ)) → Each ss (AreKept n) → AreKept n s → Each (ss ++ s ∷ []) (AreKept n)
each_push n [] s h k = (k, tt)
each_push n (x ∷ xs) s h k = (h.0, each_push n xs s h.1 k)

series_kept : (k n end : ℕ) (before : List (List (List ℤ))) (rows : List Row) (all : List (List (List ℤ)) × List Row) → series k (polynomial_at n end) before rows ≡ Ok all → Each before (AreKept n) → Each all.0 (AreKept n)
unfolding series
series_kept zero n end before rows all e h = subst (λ (l : List (List (List ℤ))). Each l (AreKept n)) (ap (λ (p : List (List (List ℤ)) × List Row). p.0) (ok_is (before, rows) all e)) h
series_kept (suc k) n end before rows all e h =
    let a = bind_ok (polynomial_next n end rows) (λ (x : List (List ℤ) × List Row). series k (polynomial_at n end) (before ++ x.0 ∷ []) x.1) all e in
    series_kept k n end (before ++ a.0.0 ∷ []) a.0.1 all a.2 (each_push n before a.0.0 h (next_kept n end rows a.0 a.1))

-- ---- the dimension
size_inside : (numeral low high : Bool) (v : ℤ) (n : ℕ) → size_of (if numeral then (if low && high then Ok v else Err Outside) else Err Spelling) ≡ Some n → (low ≡ true) × (high ≡ true) × (unsigned_abs v ≡ n)
size_inside true true true v n e = (refl, refl, some_is (unsigned_abs v) n e)
size_inside true true false v n e = absurd cc
size_inside true false high v n e = absurd cc
size_inside false low high v n e = absurd cc

size_within : (d : Text) (n : ℕ) → size_of (number_in (pos 1) (pos 16) d) ≡ Some n → (1 ≤ n) × (n ≤ 16)
unfolding number_in
size_within d n e =
    let v = value_of d in
    let i = size_inside (is_number d) (int_le (pos 1) v) (int_le v (pos 16)) v n e in
    let a = int_le_is (pos 1) v i.0 in
    let b = int_le_is v (pos 16) i.1 in
    let c = i.2 in
    (omega (arith, ints, a, b, c), omega (arith, ints, a, b, c))

size_if : (b : Bool) (o : Option ℕ) (n : ℕ) → (if b then o else None) ≡ Some n → o ≡ Some n
size_if true o n e = e
size_if false o n e = absurd cc

dimension_within : (ws : List Text) (n : ℕ) → dimension_in ws ≡ Some n → (1 ≤ n) × (n ≤ 16)
unfolding dimension_in
dimension_within [] n e = absurd cc
dimension_within (w ∷ []) n e = absurd cc
dimension_within (w ∷ d ∷ []) n e = size_within d n (size_if (bytes_eq w (codes "system")) (size_of (number_in (pos 1) (pos 16) d)) n e)
dimension_within (w ∷ d ∷ x ∷ ws) n e = absurd cc

kept_of_system : (bytes : List ℕ) (s : PointSystem) → system_of bytes ≡ Ok s → Each s.supports (AreKept s.dimension)
unfolding system_of system_at
kept_of_system bytes s e =
    let end = end_line_of bytes in
    let d = bind_ok (dimension_at end (lines_of bytes)) (others end) s e in
    let t = bind_ok (series d.0.0 (polynomial_at d.0.0 end) [] d.0.1) (finish d.0.0) s d.2 in
    let u = bind_ok (no_line t.0.1) (λ (ended : Unit {0}). Ok (system d.0.0 t.0.0)) s t.2 in
    subst (λ (r : PointSystem). Each r.supports (AreKept r.dimension)) (ok_is (system d.0.0 t.0.0) s u.2) (series_kept d.0.0 d.0.0 end [] d.0.1 t.0 t.1 tt)

pub are_supports : (bytes : List ℕ) (s : PointSystem) → system_of bytes ≡ Ok s → AreSupports s
are_supports bytes s e =
    let is = system_ok bytes s e in
    let kept = kept_of_system bytes s e in
    record {
      dimension = dimension_within (words is.first) s.dimension is.dimension;
      count = is.count;
      counts = each_weaker (AreKept s.dimension) (λ p. (1 ≤ length p) × (length p ≤ 1000)) s.supports (λ p k. k.counts) kept;
      points = each_weaker (AreKept s.dimension) (λ p. Each p (λ x. length x ≡ s.dimension)) s.supports (λ p k. k.long) kept;
      limits = each_weaker (AreKept s.dimension) (λ p. Each p (λ x. Each x IsCoordinate)) s.supports (λ p k. k.limits) kept;
      distinct = each_weaker (AreKept s.dimension) (λ p. AreDistinct p) s.supports (λ p k. k.distinct) kept;
    }

pub answer_supports : (bytes : List ℕ) (r : Result PointSystem TextFault) → Gives (λ s. s) r (system_of bytes) → IfOk r (λ s. AreSupports s)
answer_supports bytes (Ok s) h = are_supports bytes s h
answer_supports bytes (Err e) h = tt
