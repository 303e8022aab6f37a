-- A system is read of the bytes that mean it, and the first fault of those that mean none.
use Rattle.std.proofs.Common.{◌≡◌, ◌⊎◌, inl, inr, ◌↔◌, ℕ, suc, zero, ◌+◌, ◌<◌, ◌-◌, ℤ, List, [], ◌∷◌, ◌++◌, length, Option, Some, Result, Ok, Err, refl, sym, ap, ap₂, subst, ◌∙◌, append_assoc, append-nil, slice_index_or, arith}
use Rattle.std.specs.List.{Contains, AllByRecursion}
use Rattle.std.specs.declared.cmp.Ordering.TheVariants.{Less}
use Rattle.std.proofs.lemmas.Map.Keys.{sorted_head, sorted_tail}
use Rattle.line_text.specs.Lines.{Row, lines_of, end_line_of}
use Rattle.support_text.specs.declared.fault.FormatFault.{FormatFault}
use Rattle.support_text.specs.declared.fault.TextFault.{TextFault}
use Rattle.support_text.specs.declared.fault.TextFault.TheVariants.{Format, OutOfMemory}
use Rattle.support_text.specs.Faults.{Reading, ◌>>=◌, Gives, series}
use Rattle.support_text.specs.Words.{Text, words}
use Rattle.support_text.proofs.Series.{ok_is}
use Rattle.poly_text.specs.declared.causes.Cause.TheVariants.{Range as Past_range, Bound as Past_bound}
use Rattle.poly_text.specs.declared.fault.Kind.{Kind}
use Rattle.poly_text.specs.declared.fault.Kind.TheVariants.{System, Grammar, Range, Bound, Empty, Missing, Extra}
use Rattle.poly_text.specs.declared.symbols.Symbol.{Symbol}
use Rattle.poly_text.specs.Faults.{fault}
use Rattle.poly_text.specs.Maps.{Monomial, exponents_cmp}
use Rattle.poly_text.specs.Bounds.{Verdict}
use Rattle.poly_text.specs.Symbols.{symbols_in}
use Rattle.poly_text.specs.Trees.{Polynomial, meaning}
use Rattle.poly_text.specs.Steps.{begun, read_from}
use Rattle.poly_text.specs.Values.{IsSupport, Ascend, value}
use Rattle.poly_text.specs.Ranges.{InRange}
use Rattle.poly_text.specs.SystemText.{PointSystem, dimension_in, dimension_of, dimension_at, support_of, support_in, polynomial_line, polynomial_next, polynomial_at, no_line, system_at, system_of}
use Rattle.poly_text.specs.Systems.{Writes, BreaksBound, IsPolynomial, IsWrong, ArePolynomials, IsSystem, FaultBehind, FaultOfFirst, IsFirstFault, HadMemory}
use Rattle.poly_text.proofs.Totals.{less_back, not_same_less, same_itself}
use Rattle.poly_text.proofs.WrittenReads.{written_reads}
use Rattle.poly_text.proofs.Supports.{support_is}
use Rattle.poly_text.proofs.Systems.{system_ok, system_err, means_of, Told, line_told, not_past_range, system, finish, others, are_count}

-- ---- lists with the same elements in the same order

abbrev In : List ℤ → List (List ℤ) → Type 0
In z [] = ⊥
In z (x ∷ xs) = (z ≡ x) ⊎ In z xs

to_in : (z : List ℤ) (xs : List (List ℤ)) (k : ℕ) → k < length xs → slice_index_or xs k z ≡ z → In z xs
to_in z [] k l e = absurd (omega (arith, l))
to_in z (x ∷ xs) zero l e = inl (sym e)
to_in z (x ∷ xs) (suc k) l e = inr (to_in z xs k (omega (arith, l)) e)

from_in : (z : List ℤ) (xs : List (List ℤ)) → In z xs → Contains xs z
from_in z [] h = absurd h
from_in z (x ∷ xs) (inl e) = (0, omega arith, sym e)
from_in z (x ∷ xs) (inr h) = let r = from_in z xs h in (suc r.0, (let l = r.1 in omega (arith, l)), r.2)

above_in : (x z : List ℤ) (xs : List (List ℤ)) → AllByRecursion (λ y. exponents_cmp x y ≡ Less) xs → In z xs → exponents_cmp x z ≡ Less
above_in x z [] a h = absurd h
above_in x z (y ∷ ys) a (inl e) = subst (λ (w : List ℤ). exponents_cmp x w ≡ Less) (sym e) a.0
above_in x z (y ∷ ys) a (inr h) = above_in x z ys a.1 h

not_above_itself : (x : List ℤ) → exponents_cmp x x ≡ Less → ⊥
not_above_itself x e = let a = not_same_less x x e in let b = same_itself x in absurd cc

both_above : (x y : List ℤ) → exponents_cmp x y ≡ Less → exponents_cmp y x ≡ Less → ⊥
both_above x y e f = let a = less_back x y e in absurd cc

first_same : (x y : List ℤ) (xs ys : List (List ℤ)) → Ascend (x ∷ xs) → Ascend (y ∷ ys) → In x (y ∷ ys) → In y (x ∷ xs) → x ≡ y
first_same x y xs ys s t (inl e) k = e
first_same x y xs ys s t (inr h) (inl e) = sym e
first_same x y xs ys s t (inr h) (inr k) = absurd (both_above x y (above_in x y xs (sorted_head exponents_cmp x xs s) k) (above_in y x ys (sorted_head exponents_cmp y ys t) h))

in_rest : (x y z : List ℤ) (xs ys : List (List ℤ)) → x ≡ y → Ascend (x ∷ xs) → In z xs → In z (y ∷ ys) → In z ys
in_rest x y z xs ys e s h (inr k) = k
in_rest x y z xs ys e s h (inl k) = absurd (not_above_itself x (subst (λ (w : List ℤ). exponents_cmp x w ≡ Less) (k ∙ sym e) (above_in x z xs (sorted_head exponents_cmp x xs s) h)))

same_list : (xs ys : List (List ℤ)) → Ascend xs → Ascend ys → ((z : List ℤ) → In z xs → In z ys) → ((z : List ℤ) → In z ys → In z xs) → xs ≡ ys
same_list [] [] s t f g = refl
same_list [] (y ∷ ys) s t f g = absurd (g y (inl refl))
same_list (x ∷ xs) [] s t f g = absurd (f x (inl refl))
same_list (x ∷ xs) (y ∷ ys) s t f g =
    let e = first_same x y xs ys s t (f x (inl refl)) (g y (inl refl)) in
    ap₂ (λ (z : List ℤ) (zs : List (List ℤ)). z ∷ zs) e
    (same_list xs ys (sorted_tail exponents_cmp x xs s) (sorted_tail exponents_cmp y ys t) (λ z h. in_rest x y z xs ys e s h (f z (inr h))) (λ z h. in_rest y x z ys xs (sym e) t h (g z (inr h))))

pub one_support : (n : ℕ) (v : List Monomial) (xs ys : List (List ℤ)) → IsSupport n v xs → IsSupport n v ys → xs ≡ ys
one_support n v xs ys p q =
    same_list xs ys p.ascending q.ascending
    (λ z h. let c = (q.exactly z).1 ((p.exactly z).0 (from_in z xs h)) in to_in z ys c.0 c.1 c.2)
    (λ z h. let c = (p.exactly z).1 ((q.exactly z).0 (from_in z ys h)) in to_in z xs c.0 c.1 c.2)

-- ---- a line

line_is : (n line : ℕ) (ws : List Text) (p : Polynomial) (v : Verdict (List Monomial)) → Writes ws p → meaning n 0 p ≡ v → polynomial_line n line ws ≡ support_in line (Some v)
unfolding polynomial_line
line_is n line ws p v w e =
    ap (λ (o : Option (List Symbol)). symbols_in line o >>= λ symbols. support_in line (read_from n symbols (begun n))) w
    ∙ ap (λ (o : Option (Verdict (List Monomial))). support_in line o) (written_reads n p)
    ∙ ap (λ (u : Verdict (List Monomial)). support_in line (Some u)) e

abbrev good : List (List ℤ) → Reading (List (List ℤ))
good points = Ok points

polynomial_by : (n line : ℕ) (ws : List Text) (points : List (List ℤ)) (h : IsPolynomial n ws points) (v : Verdict (List Monomial)) → meaning n 0 h.polynomial ≡ v → polynomial_line n line ws ≡ Ok points
polynomial_by n line ws points h (Err Past_range) e = absurd (not_past_range n h.polynomial (Err Past_range) e h.range)
polynomial_by n line ws points h (Err Past_bound) e = absurd (h.bounds e)
polynomial_by n line ws points h (Ok []) e = absurd (h.some (one_support n (value n h.polynomial) points [] h.support (support_is n (value n h.polynomial) [] (means_of n h.polynomial (Ok []) e))))
polynomial_by n line ws points h (Ok (t ∷ ts)) e =
    line_is n line ws h.polynomial (Ok (t ∷ ts)) h.written e
    ∙ ap good (one_support n (value n h.polynomial) (support_of (t ∷ ts)) points (support_is n (value n h.polynomial) (t ∷ ts) (means_of n h.polynomial (Ok (t ∷ ts)) e)) h.support)

polynomial_read : (n line : ℕ) (ws : List Text) (points : List (List ℤ)) → IsPolynomial n ws points → polynomial_line n line ws ≡ Ok points
polynomial_read n line ws points h = polynomial_by n line ws points h (meaning n 0 h.polynomial) refl

abbrev failed : ℕ → Kind → Reading (List (List ℤ))
failed line kind = Err (fault line kind)

no_grammar : (n line : ℕ) (ws : List Text) (r : Reading (List (List ℤ))) → ((p : Polynomial) → ¬ (Writes ws p)) → Told n line ws r → r ≡ failed line Grammar
no_grammar n line ws (Ok points) h t = absurd (h t.polynomial t.written)
no_grammar n line ws (Err f) h (Grammar, k, e) = ap (λ (g : FormatFault). Err g) e
no_grammar n line ws (Err f) h (Range, k, e) = absurd (h k.0 k.1)
no_grammar n line ws (Err f) h (Bound, k, e) = absurd (h k.0 k.1)
no_grammar n line ws (Err f) h (Empty, k, e) = absurd (h k.0 k.1)
no_grammar n line ws (Err f) h (System, k, e) = absurd k
no_grammar n line ws (Err f) h (Missing, k, e) = absurd k
no_grammar n line ws (Err f) h (Extra, k, e) = absurd k

range_by : (n line : ℕ) (ws : List Text) (p : Polynomial) (v : Verdict (List Monomial)) → Writes ws p → ¬ (InRange n p) → meaning n 0 p ≡ v → polynomial_line n line ws ≡ failed line Range
range_by n line ws p (Err Past_range) w h e = line_is n line ws p (Err Past_range) w e
range_by n line ws p (Err Past_bound) w h e = absurd (h (not_past_range n p (Err Past_bound) e))
range_by n line ws p (Ok f) w h e = absurd (h (not_past_range n p (Ok f) e))

empty_by : (n line : ℕ) (ws : List Text) (p : Polynomial) (v : Verdict (List Monomial)) → Writes ws p → InRange n p → ¬ (BreaksBound n p) → IsSupport n (value n p) [] → meaning n 0 p ≡ v → polynomial_line n line ws ≡ failed line Empty
empty_by n line ws p (Err Past_range) w r b s e = absurd (not_past_range n p (Err Past_range) e r)
empty_by n line ws p (Err Past_bound) w r b s e = absurd (b e)
empty_by n line ws p (Ok []) w r b s e = line_is n line ws p (Ok []) w e
empty_by n line ws p (Ok (t ∷ ts)) w r b s e =
    let a = one_support n (value n p) (support_of (t ∷ ts)) [] (support_is n (value n p) (t ∷ ts) (means_of n p (Ok (t ∷ ts)) e)) s in absurd cc

wrong_read : (n line : ℕ) (ws : List Text) (kind : Kind) → IsWrong n ws kind → polynomial_line n line ws ≡ failed line kind
wrong_read n line ws Grammar h = no_grammar n line ws (polynomial_line n line ws) h (line_told n line ws)
wrong_read n line ws Range h = range_by n line ws h.0 (meaning n 0 h.0) h.1 h.2 refl
wrong_read n line ws Bound h = line_is n line ws h.0 (Err Past_bound) h.1 h.3
wrong_read n line ws Empty h = empty_by n line ws h.0 (meaning n 0 h.0) h.1 h.2 h.3 h.4 refl
wrong_read n line ws System h = absurd h
wrong_read n line ws Missing h = absurd h
wrong_read n line ws Extra h = absurd h

-- ---- lines

next_read : (n end : ℕ) (row : Row) (rows : List Row) (s : List (List ℤ)) → IsPolynomial n (words row) s → polynomial_next n end (row ∷ rows) ≡ Ok (s, rows)
unfolding polynomial_next
next_read n end row rows s h = ap (λ (r : Reading (List (List ℤ))). r >>= λ t. Ok (t, rows)) (polynomial_read n row.number (words row) s h)

series_read : (n end : ℕ) (before : List (List (List ℤ))) (right rest : List Row) (ss : List (List (List ℤ))) → ArePolynomials n right ss → series (length ss) (polynomial_at n end) before (right ++ rest) ≡ Ok (before ++ ss, rest)
unfolding series ArePolynomials
series_read n end before [] rest [] h = ap (λ (l : List (List (List ℤ))). Ok (l, rest)) (sym (append-nil before))
series_read n end before [] rest (s ∷ ss) h = absurd h
series_read n end before (row ∷ right) rest [] h = absurd h
series_read n end before (row ∷ right) rest (s ∷ ss) h =
    ap (λ (r : Reading (List (List ℤ) × List Row)). r >>= λ x. series (length ss) (polynomial_at n end) (before ++ x.0 ∷ []) x.1) (next_read n end row (right ++ rest) s h.0)
    ∙ series_read n end (before ++ s ∷ []) right rest ss h.1
    ∙ ap (λ (l : List (List (List ℤ))). Ok (l, rest)) (append_assoc before (s ∷ []) ss)

-- one more than k for each row and one
abbrev past : ℕ → List Row → ℕ
past k [] = suc k
past k (row ∷ rows) = suc (past k rows)

past_is : (k : ℕ) (rows : List Row) → past k rows ≡ length rows + suc k
past_is k [] = omega arith
past_is k (row ∷ rows) = let e = past_is k rows in omega (arith, e)

series_stops : (n end k : ℕ) (before : List (List (List ℤ))) (right rest : List Row) (ss : List (List (List ℤ))) (f : FormatFault) → ArePolynomials n right ss → polynomial_next n end rest ≡ Err f
    → series (past k right) (polynomial_at n end) before (right ++ rest) ≡ Err f
unfolding series ArePolynomials
series_stops n end k before [] rest [] f h e = ap (λ (r : Reading (List (List ℤ) × List Row)). r >>= λ x. series k (polynomial_at n end) (before ++ x.0 ∷ []) x.1) e
series_stops n end k before [] rest (s ∷ ss) f h e = absurd h
series_stops n end k before (row ∷ right) rest [] f h e = absurd h
series_stops n end k before (row ∷ right) rest (s ∷ ss) f h e =
    ap (λ (r : Reading (List (List ℤ) × List Row)). r >>= λ x. series (past k right) (polynomial_at n end) (before ++ x.0 ∷ []) x.1) (next_read n end row (right ++ rest) s h.0)
    ∙ series_stops n end k (before ++ s ∷ []) right rest ss f h.1 e

first_read : (end : ℕ) (row : Row) (rows : List Row) (n : ℕ) → dimension_in (words row) ≡ Some n → dimension_at end (row ∷ rows) ≡ Ok (n, rows)
unfolding dimension_at
first_read end row rows n e = ap (λ (o : Option ℕ). dimension_of row.number o >>= λ m. Ok (m, rows)) e

no_first : (end : ℕ) (rows : List Row) (f : FormatFault) → FaultOfFirst end rows f → dimension_at end rows ≡ Err f
unfolding dimension_at
no_first end [] f h = ap (λ (g : FormatFault). Err g) (sym h)
no_first end (row ∷ rows) f h = ap (λ (o : Option ℕ). dimension_of row.number o >>= λ m. Ok (m, rows)) h.0 ∙ ap (λ (g : FormatFault). Err g) (sym h.1)

-- ---- the whole

behind_first : (bytes : List ℕ) (row : Row) (rows : List Row) (n : ℕ) (r : Reading PointSystem) → lines_of bytes ≡ row ∷ rows → dimension_in (words row) ≡ Some n
    → others (end_line_of bytes) (n, rows) ≡ r → system_of bytes ≡ r
unfolding system_of system_at
behind_first bytes row rows n r lines dim e =
    ap (λ (l : List Row). dimension_at (end_line_of bytes) l >>= others (end_line_of bytes)) lines
    ∙ ap (λ (d : Reading (ℕ × List Row)). d >>= others (end_line_of bytes)) (first_read (end_line_of bytes) row rows n dim) ∙ e

nothing_behind : (n : ℕ) (ss : List (List (List ℤ))) → finish n (ss, []) ≡ Ok (system n ss)
unfolding no_line
nothing_behind n ss = refl

more_behind : (n : ℕ) (ss : List (List (List ℤ))) (row : Row) (rows : List Row) → finish n (ss, row ∷ rows) ≡ Err (fault row.number Extra)
unfolding no_line
more_behind n ss row rows = refl

series_all_read : (n end : ℕ) (right rest : List Row) (ss : List (List (List ℤ))) → ArePolynomials n right ss → length ss ≡ n → others end (n, right ++ rest) ≡ finish n (ss, rest)
series_all_read n end right rest ss h c =
    ap (λ (k : ℕ). series k (polynomial_at n end) [] (right ++ rest) >>= finish n) (sym c)
    ∙ ap (λ (r : Reading (List (List (List ℤ)) × List Row)). r >>= finish n) (series_read n end [] right rest ss h)

pub system_read : (bytes : List ℕ) (s : PointSystem) → IsSystem bytes s → system_of bytes ≡ Ok s
system_read bytes s h =
    behind_first bytes h.first h.others s.dimension (Ok s) h.lines h.dimension
    (ap (λ (l : List Row). others (end_line_of bytes) (s.dimension, l)) (sym (append-nil h.others))
    ∙ series_all_read s.dimension (end_line_of bytes) h.others [] s.supports h.polynomials h.count
    ∙ nothing_behind s.dimension s.supports)

missing_line : (n end : ℕ) → polynomial_next n end [] ≡ Err (fault end Missing)
unfolding polynomial_next
missing_line n end = refl

wrong_line : (n end : ℕ) (row : Row) (rows : List Row) (kind : Kind) → IsWrong n (words row) kind → polynomial_next n end (row ∷ rows) ≡ Err (fault row.number kind)
unfolding polynomial_next
wrong_line n end row rows kind h = ap (λ (r : Reading (List (List ℤ))). r >>= λ t. Ok (t, rows)) (wrong_read n row.number (words row) kind h)

stops_at : (n end : ℕ) (right rest : List Row) (ss : List (List (List ℤ))) (f : FormatFault) → ArePolynomials n right ss → length right < n → polynomial_next n end rest ≡ Err f → others end (n, right ++ rest) ≡ Err f
stops_at n end right rest ss f h l e =
    let k = n - suc (length right) in
    let count = past_is k right in
    let same : n ≡ past k right = omega (arith, l, count) in
    ap (λ (m : ℕ). series m (polynomial_at n end) [] (right ++ rest) >>= finish n) same
    ∙ ap (λ (r : Reading (List (List (List ℤ)) × List Row)). r >>= finish n) (series_stops n end k [] right rest ss f h e)

behind_read : (n end : ℕ) (right rest : List Row) (ss : List (List (List ℤ))) (f : FormatFault) → ArePolynomials n right ss → FaultBehind end n (length right) rest f → others end (n, right ++ rest) ≡ Err f
behind_read n end right [] ss f h b = stops_at n end right [] ss f h b.0 (missing_line n end ∙ ap (λ (g : FormatFault). Err g) (sym b.1))
behind_read n end right (row ∷ rows) ss f h (inl b) = stops_at n end right (row ∷ rows) ss f h b.0 (wrong_line n end row rows b.1 b.2 ∙ ap (λ (g : FormatFault). Err g) (sym b.3))
behind_read n end right (row ∷ rows) ss f h (inr b) =
    series_all_read n end right (row ∷ rows) ss h (sym (are_count n right ss h) ∙ b.0) ∙ more_behind n ss row rows ∙ ap (λ (g : FormatFault). Err g) (sym b.1)

no_first_read : (bytes : List ℕ) (f : FormatFault) → FaultOfFirst (end_line_of bytes) (lines_of bytes) f → system_of bytes ≡ Err f
unfolding system_of system_at
no_first_read bytes f h = ap (λ (d : Reading (ℕ × List Row)). d >>= others (end_line_of bytes)) (no_first (end_line_of bytes) (lines_of bytes) f h)

pub fault_read : (bytes : List ℕ) (f : FormatFault) → IsFirstFault bytes f → system_of bytes ≡ Err f
fault_read bytes f (inl h) = no_first_read bytes f h
fault_read bytes f (inr h) =
    behind_first bytes h.first (h.right ++ h.others) h.n (Err f) h.lines h.dimension (behind_read h.n (end_line_of bytes) h.right h.others h.supports f h.polynomials h.fault)

-- ---- the answer

abbrev Answer : Type 0
Answer = Result PointSystem TextFault

abbrev reads : PointSystem → Answer
reads s = Ok s

abbrev faults : FormatFault → Answer
faults f = Err (Format f)

reads_is : (x s : PointSystem) → reads x ≡ reads s → x ≡ s
reads_is x s e = cc

faults_is : (f g : FormatFault) → faults f ≡ faults g → f ≡ g
faults_is f g e = cc

abbrev meant : PointSystem → Reading PointSystem
meant s = Ok s

abbrev refused : FormatFault → Reading PointSystem
refused f = Err f

refused_is : (f g : FormatFault) → refused f ≡ refused g → f ≡ g
refused_is f g e = cc

one_of : (s : PointSystem) (f : FormatFault) → meant s ≡ refused f → ⊥
one_of s f e = absurd cc

pub answer_system : (bytes : List ℕ) (r : Answer) → Gives (λ s. s) r (system_of bytes) → HadMemory r → (s : PointSystem) → (r ≡ Ok s) ↔ IsSystem bytes s
answer_system bytes (Ok x) h m s = (λ e. system_ok bytes s (h ∙ ap meant (reads_is x s e)), λ k. ap reads (ok_is x s (sym h ∙ system_read bytes s k)))
answer_system bytes (Err (Format f)) h m s = (λ e. absurd cc, λ k. absurd (one_of s f (sym (system_read bytes s k) ∙ h)))
answer_system bytes (Err OutOfMemory) h m s = absurd m

pub answer_fault : (bytes : List ℕ) (r : Answer) → Gives (λ s. s) r (system_of bytes) → HadMemory r → (f : FormatFault) → (r ≡ Err (Format f)) ↔ IsFirstFault bytes f
answer_fault bytes (Ok x) h m f = (λ e. absurd cc, λ k. absurd (one_of x f (sym h ∙ fault_read bytes f k)))
answer_fault bytes (Err (Format g)) h m f = (λ e. system_err bytes f (h ∙ ap refused (faults_is g f e)), λ k. ap faults (refused_is g f (sym h ∙ fault_read bytes f k)))
answer_fault bytes (Err OutOfMemory) h m f = absurd m
