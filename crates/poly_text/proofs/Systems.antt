-- What is read of bytes is a system, and each fault is that of the first faulty line.
use Rattle.std.proofs.Common.{◌≡◌, ◌⊎◌, inl, inr, ℕ, suc, zero, ◌+◌, ◌<◌, ℤ, List, [], ◌∷◌, ◌++◌, length, Option, Some, None, Ok, Err, refl, sym, ap, subst, ◌∙◌, append_assoc, append-nil, arith}
use Rattle.line_text.specs.Lines.{Row, lines_of, end_line_of}
use Rattle.support_text.specs.declared.fault.FormatFault.{FormatFault}
use Rattle.support_text.specs.Faults.{Reading, ◌>>=◌, series}
use Rattle.support_text.specs.Words.{Text, words}
use Rattle.support_text.proofs.Series.{bind_ok, ok_is, failed, err_is}
use Rattle.poly_text.specs.declared.causes.Cause.TheVariants.{Range as Past_range, Bound as Past_bound}
use Rattle.poly_text.specs.declared.fault.Kind.{Kind}
use Rattle.poly_text.specs.declared.fault.Kind.TheVariants.{System, Grammar, Range, Bound, Empty, Missing, Extra}
use Rattle.poly_text.specs.declared.symbols.Symbol.{Symbol}
use Rattle.poly_text.specs.Faults.{fault}
use Rattle.poly_text.specs.Maps.{Monomial}
use Rattle.poly_text.specs.Bounds.{Verdict}
use Rattle.poly_text.specs.Symbols.{symbols_of, symbols_in}
use Rattle.poly_text.specs.Trees.{Polynomial, written, meaning}
use Rattle.poly_text.specs.Steps.{begun, read_from}
use Rattle.poly_text.specs.Values.{value}
use Rattle.poly_text.specs.Ranges.{InRange}
use Rattle.poly_text.specs.SystemText.{PointSystem, dimension_in, dimension_of, dimension_at, support_in, polynomial_line, polynomial_next, polynomial_at, no_line, system_at, system_of}
use Rattle.poly_text.specs.Systems.{Writes, BreaksBound, IsPolynomial, IsWrong, ArePolynomials, IsSystem, FaultBehind, FaultOfFirst, IsFirstFault}
use Rattle.poly_text.proofs.WrittenReads.{written_reads}
use Rattle.poly_text.proofs.ReadWrites.{read_writes, one_value}
use Rattle.poly_text.proofs.TreeValues.{Means, means_polynomial}
use Rattle.poly_text.proofs.Supports.{support_is}
use Rattle.poly_text.proofs.Ranges.{Ranged, ranged_polynomial}
use Rattle.poly_text.proofs.SymbolWords.{good}

-- the fault of two steps is that of the first, or the first is done and it is that of the second
bind_err : {A B : Type 0} (r : Reading A) (f : A → Reading B) (e : FormatFault) → (r >>= f) ≡ Err e → (r ≡ Err e) ⊎ ((x : A) × (r ≡ Ok x) × (f x ≡ Err e))
bind_err {A} {B} (Err d) f e h = inl (ap failed (err_is {A = B} d e h))
bind_err (Ok x) f e h = inr (x, refl, h)

-- ---- a line

-- the tree of what was read
pub tree_of : (n : ℕ) (symbols : List Symbol) (v : Verdict (List Monomial)) → read_from n symbols (begun n) ≡ Some v → (p : Polynomial) × (written p ≡ symbols) × (meaning n 0 p ≡ v)
tree_of n symbols v e =
    let q = read_writes n symbols v e in
    (q.0, q.1, one_value (meaning n 0 q.0) v (sym (written_reads n q.0) ∙ ap (λ (l : List Symbol). read_from n l (begun n)) q.1 ∙ e))

-- what a line of a polynomial comes to
abbrev pub Told : ℕ → ℕ → List Text → Reading (List (List ℤ)) → Type 0
Told n line ws (Ok points) = IsPolynomial n ws points
Told n line ws (Err f) = (kind : Kind) × IsWrong n ws kind × (f ≡ fault line kind)

pub not_past_range : (n : ℕ) (p : Polynomial) (v : Verdict (List Monomial)) → meaning n 0 p ≡ v → Ranged (InRange n p) v
not_past_range n p v e = subst (Ranged (InRange n p)) e (ranged_polynomial p n 0)

pub means_of : (n : ℕ) (p : Polynomial) (v : Verdict (List Monomial)) → meaning n 0 p ≡ v → Means n (value n p) v
means_of n p v e = subst (Means n (value n p)) e (means_polynomial p n 0)

no_bound : (n : ℕ) (p : Polynomial) (f : List Monomial) → meaning n 0 p ≡ Ok f → ¬ (BreaksBound n p)
no_bound n p f e b = absurd cc

value_told : (n line : ℕ) (ws : List Text) (p : Polynomial) (v : Verdict (List Monomial)) → Writes ws p → meaning n 0 p ≡ v → Told n line ws (support_in line (Some v))
value_told n line ws p (Err Past_range) w e = (Range, (p, w, not_past_range n p (Err Past_range) e), refl)
value_told n line ws p (Err Past_bound) w e = (Bound, (p, w, not_past_range n p (Err Past_bound) e, e), refl)
value_told n line ws p (Ok []) w e = (Empty, (p, w, not_past_range n p (Ok []) e, no_bound n p [] e, support_is n (value n p) [] (means_of n p (Ok []) e)), refl)
value_told n line ws p (Ok (t ∷ ts)) w e = record {
  polynomial = p;
  written = w;
  range = not_past_range n p (Ok (t ∷ ts)) e;
  bounds = no_bound n p (t ∷ ts) e;
  support = support_is n (value n p) (t ∷ ts) (means_of n p (Ok (t ∷ ts)) e);
  some = λ h. absurd cc;
}

not_read : (n : ℕ) (p : Polynomial) (xs : List Symbol) → read_from n xs (begun n) ≡ None → written p ≡ xs → ⊥
not_read n p xs e w = let a = written_reads n p in let b = ap (λ (l : List Symbol). read_from n l (begun n)) w in absurd cc

read_told : (n line : ℕ) (ws : List Text) (xs : List Symbol) (o : Option (Verdict (List Monomial))) → symbols_of ws ≡ Some xs → read_from n xs (begun n) ≡ o → Told n line ws (support_in line o)
read_told n line ws xs None s e = (Grammar, (λ p w. let a : good (written p) ≡ good xs = sym w ∙ s in not_read n p xs e (cc)), refl)
read_told n line ws xs (Some v) s e =
    let q = tree_of n xs v e in
    value_told n line ws q.0 v (s ∙ ap good (sym q.1)) q.2

symbols_told : (n line : ℕ) (ws : List Text) (o : Option (List Symbol)) → symbols_of ws ≡ o → Told n line ws (symbols_in line o >>= λ symbols. support_in line (read_from n symbols (begun n)))
symbols_told n line ws None s = (Grammar, (λ p w. absurd cc), refl)
symbols_told n line ws (Some xs) s = read_told n line ws xs (read_from n xs (begun n)) s refl

pub line_told : (n line : ℕ) (ws : List Text) → Told n line ws (polynomial_line n line ws)
unfolding polynomial_line
line_told n line ws = symbols_told n line ws (symbols_of ws) refl

-- ---- lines

are_none : (n : ℕ) → ArePolynomials n [] []
unfolding ArePolynomials
are_none n = tt

are_more : (n : ℕ) (row : Row) (rows : List Row) (s : List (List ℤ)) (ss : List (List (List ℤ))) → IsPolynomial n (words row) s → ArePolynomials n rows ss → ArePolynomials n (row ∷ rows) (s ∷ ss)
unfolding ArePolynomials
are_more n row rows s ss h t = (h, t)

next_ok : (n end : ℕ) (rows : List Row) (x : List (List ℤ) × List Row) → polynomial_next n end rows ≡ Ok x → (row : Row) × (rows ≡ row ∷ x.1) × IsPolynomial n (words row) x.0
unfolding polynomial_next
next_ok n end [] x e = absurd cc
next_ok n end (row ∷ rows) x e =
    let b = bind_ok (polynomial_line n row.number (words row)) (λ (s : List (List ℤ)). Ok (s, rows)) x e in
    let is = ok_is (b.0, rows) x b.2 in
    (row, ap (λ (p : List (List ℤ) × List Row). row ∷ p.1) is, subst (IsPolynomial n (words row)) (ap (λ (p : List (List ℤ) × List Row). p.0) is) (subst (Told n row.number (words row)) b.1 (line_told n row.number (words row))))

record Lines (n : ℕ) (rows : List Row) (rest : List Row) (ss : List (List (List ℤ))) : Type 0 where
  right : List Row
  split : rows ≡ right ++ rest
  are : ArePolynomials n right ss

series_ok : (k n end : ℕ) (before : List (List (List ℤ))) (rows : List Row) (all : List (List (List ℤ)) × List Row) → series k (polynomial_at n end) before rows ≡ Ok all
    → (ss : List (List (List ℤ))) × (all.0 ≡ before ++ ss) × (length ss ≡ k) × Lines n rows all.1 ss
unfolding series
series_ok zero n end before rows all e =
    let is = ok_is (before, rows) all e in
    ([], sym (ap (λ (p : List (List (List ℤ)) × List Row). p.0) is) ∙ sym (append-nil before), refl, record { right = []; split = ap (λ (p : List (List (List ℤ)) × List Row). p.1) is; are = are_none n })
series_ok (suc k) n end before rows all e =
    let a = bind_ok (polynomial_next n end rows) (λ (x : List (List ℤ) × List Row). series k (polynomial_at n end) (before ++ x.0 ∷ []) x.1) all e in
    let line = next_ok n end rows a.0 a.1 in
    let r = series_ok k n end (before ++ a.0.0 ∷ []) a.0.1 all a.2 in (
      a.0.0 ∷ r.0,
      r.1 ∙ append_assoc before (a.0.0 ∷ []) r.0,
      ap suc r.2,
      record { right = line.0 ∷ r.3.right; split = line.1 ∙ ap (λ (l : List Row). line.0 ∷ l) r.3.split; are = are_more n line.0 r.3.right a.0.0 r.0 line.2 r.3.are },
    )

next_err : (n end count : ℕ) (rows : List Row) (f : FormatFault) → count < n → polynomial_next n end rows ≡ Err f → FaultBehind end n count rows f
unfolding polynomial_next
next_err n end count [] f l e = (l, sym (err_is {A = List (List ℤ) × List Row} (fault end Missing) f e))
next_err n end count (row ∷ rows) f l e = elim (bind_err (polynomial_line n row.number (words row)) (λ (s : List (List ℤ)). Ok (s, rows)) f e) [
  | inl p ↦ let t = subst (Told n row.number (words row)) p (line_told n row.number (words row)) in inl (l, t.0, t.1, t.2)
  | inr q ↦ absurd (let a = q.2 in cc)
]

series_err : (k n end count : ℕ) (before : List (List (List ℤ))) (rows : List Row) (f : FormatFault) → count + k ≡ n → series k (polynomial_at n end) before rows ≡ Err f
    → (ss : List (List (List ℤ))) × (rest : List Row) × (l : Lines n rows rest ss) × FaultBehind end n (count + length l.right) rest f
unfolding series
series_err zero n end count before rows f h e = absurd cc
series_err (suc k) n end count before rows f h e = elim (bind_err (polynomial_next n end rows) (λ (x : List (List ℤ) × List Row). series k (polynomial_at n end) (before ++ x.0 ∷ []) x.1) f e) [
  | inl p ↦
      let same : count + 0 ≡ count = omega arith in
      ([], rows, record { right = []; split = refl; are = are_none n }, subst (λ (c : ℕ). FaultBehind end n c rows f) (sym same) (next_err n end count rows f (omega (arith, h)) p))
  | inr q ↦
      let line = next_ok n end rows q.0 q.1 in
      let r = series_err k n end (suc count) (before ++ q.0.0 ∷ []) q.0.1 f (omega (arith, h)) q.2 in
      let same : suc count + length r.2.right ≡ count + suc (length r.2.right) = omega arith in (
        q.0.0 ∷ r.0,
        r.1,
        record { right = line.0 ∷ r.2.right; split = line.1 ∙ ap (λ (l : List Row). line.0 ∷ l) r.2.split; are = are_more n line.0 r.2.right q.0.0 r.0 line.2 r.2.are },
        subst (λ (c : ℕ). FaultBehind end n c r.1 f) same r.3,
      )
]

-- ---- the first line, and the end

some_size : (line : ℕ) (o : Option ℕ) (n : ℕ) → dimension_of line o ≡ Ok n → o ≡ Some n
some_size line None n e = absurd cc
some_size line (Some m) n e = ap (λ (k : ℕ). Some k) (ok_is m n e)

no_size : (line : ℕ) (o : Option ℕ) (f : FormatFault) → dimension_of line o ≡ Err f → (o ≡ None) × (f ≡ fault line System)
no_size line None f e = (refl, sym (err_is {A = ℕ} (fault line System) f e))
no_size line (Some m) f e = absurd cc

first_ok : (end : ℕ) (rows : List Row) (x : ℕ × List Row) → dimension_at end rows ≡ Ok x → (row : Row) × (rows ≡ row ∷ x.1) × (dimension_in (words row) ≡ Some x.0)
unfolding dimension_at
first_ok end [] x e = absurd cc
first_ok end (row ∷ rows) x e =
    let b = bind_ok (dimension_of row.number (dimension_in (words row))) (λ (n : ℕ). Ok (n, rows)) x e in
    let is = ok_is (b.0, rows) x b.2 in
    (row, ap (λ (p : ℕ × List Row). row ∷ p.1) is, some_size row.number (dimension_in (words row)) b.0 b.1 ∙ ap (λ (p : ℕ × List Row). Some p.0) is)

first_err : (end : ℕ) (rows : List Row) (f : FormatFault) → dimension_at end rows ≡ Err f → FaultOfFirst end rows f
unfolding dimension_at
first_err end [] f e = sym (err_is {A = ℕ × List Row} (fault end Missing) f e)
first_err end (row ∷ rows) f e = elim (bind_err (dimension_of row.number (dimension_in (words row))) (λ (n : ℕ). Ok (n, rows)) f e) [
  | inl p ↦ no_size row.number (dimension_in (words row)) f p
  | inr q ↦ absurd (let a = q.2 in cc)
]

end_ok : (rows : List Row) (u : Unit {0}) → no_line rows ≡ Ok u → rows ≡ []
unfolding no_line
end_ok [] u e = refl
end_ok (row ∷ rows) u e = absurd cc

end_err : (end n count : ℕ) (rows : List Row) (f : FormatFault) → count ≡ n → no_line rows ≡ Err f → FaultBehind end n count rows f
unfolding no_line
end_err end n count [] f h e = absurd cc
end_err end n count (row ∷ rows) f h e = inr (h, sym (err_is {A = Unit {0}} (fault row.number Extra) f e))

pub are_count : (n : ℕ) (rows : List Row) (ss : List (List (List ℤ))) → ArePolynomials n rows ss → length rows ≡ length ss
unfolding ArePolynomials
are_count n [] [] h = refl
are_count n [] (s ∷ ss) h = absurd h
are_count n (row ∷ rows) [] h = absurd h
are_count n (row ∷ rows) (s ∷ ss) h = ap suc (are_count n rows ss h.1)

-- ---- the whole

abbrev pub system : ℕ → List (List (List ℤ)) → PointSystem
system n supports = record { dimension = n; supports = supports }

abbrev pub finish : ℕ → List (List (List ℤ)) × List Row → Reading PointSystem
finish n supports = no_line supports.1 >>= λ (ended : Unit {0}). Ok (system n supports.0)

abbrev pub others : ℕ → ℕ × List Row → Reading PointSystem
others end n = series n.0 (polynomial_at n.0 end) [] n.1 >>= finish n.0

pub system_ok : (bytes : List ℕ) (s : PointSystem) → system_of bytes ≡ Ok s → IsSystem bytes s
unfolding system_of system_at
system_ok bytes s e =
    let end = end_line_of bytes in
    let d = bind_ok (dimension_at end (lines_of bytes)) (others end) s e in
    let n = d.0.0 in
    let t = bind_ok (series n (polynomial_at n end) [] d.0.1) (finish n) s d.2 in
    let u = bind_ok (no_line t.0.1) (λ (ended : Unit {0}). Ok (system n t.0.0)) s t.2 in
    let is = ok_is (system n t.0.0) s u.2 in
    let line = first_ok end (lines_of bytes) d.0 d.1 in
    let r = series_ok n n end [] d.0.1 t.0 t.1 in
    let whole : r.3.right ≡ d.0.1 = sym (append-nil r.3.right) ∙ ap (λ (l : List Row). r.3.right ++ l) (sym (end_ok t.0.1 u.0 u.1)) ∙ sym r.3.split in
    let made : IsSystem bytes (system n t.0.0) = record {
      first = line.0;
      others = d.0.1;
      lines = line.1;
      dimension = line.2;
      count = ap (λ (l : List (List (List ℤ))). length l) r.1 ∙ r.2;
      polynomials = subst (λ (l : List Row). ArePolynomials n l t.0.0) whole (subst (ArePolynomials n r.3.right) (sym r.1) r.3.are);
    } in
    subst (IsSystem bytes) is made

behind : (bytes : List ℕ) (f : FormatFault) (n : ℕ) (rows rest : List Row) (row : Row) (ss : List (List (List ℤ))) → lines_of bytes ≡ row ∷ rows → dimension_in (words row) ≡ Some n
    → (l : Lines n rows rest ss) → FaultBehind (end_line_of bytes) n (length l.right) rest f → IsFirstFault bytes f
behind bytes f n rows rest row ss lines dim l h = inr (record {
  first = row;
  right = l.right;
  others = rest;
  n = n;
  supports = ss;
  lines = lines ∙ ap (λ (r : List Row). row ∷ r) l.split;
  dimension = dim;
  polynomials = l.are;
  fault = h;
})

others_err : (bytes : List ℕ) (f : FormatFault) (d : ℕ × List Row) (row : Row) → lines_of bytes ≡ row ∷ d.1 → dimension_in (words row) ≡ Some d.0 → others (end_line_of bytes) d ≡ Err f → IsFirstFault bytes f
others_err bytes f d row lines dim e = elim (bind_err (series d.0 (polynomial_at d.0 (end_line_of bytes)) [] d.1) (finish d.0) f e) [
  | inl p ↦
      let r = series_err d.0 d.0 (end_line_of bytes) 0 [] d.1 f (omega arith) p in
      let same : 0 + length r.2.right ≡ length r.2.right = omega arith in
      behind bytes f d.0 d.1 r.1 row r.0 lines dim r.2 (subst (λ (c : ℕ). FaultBehind (end_line_of bytes) d.0 c r.1 f) same r.3)
  | inr t ↦
      let r = series_ok d.0 d.0 (end_line_of bytes) [] d.1 t.0 t.1 in
      let count = are_count d.0 r.3.right r.0 r.3.are ∙ r.2 in
      elim (bind_err (no_line t.0.1) (λ (ended : Unit {0}). Ok (system d.0 t.0.0)) f t.2) [
        | inl p ↦ behind bytes f d.0 d.1 t.0.1 row r.0 lines dim r.3 (end_err (end_line_of bytes) d.0 (length r.3.right) t.0.1 f count p)
        | inr u ↦ absurd (let a = u.2 in cc)
      ]
]

pub system_err : (bytes : List ℕ) (f : FormatFault) → system_of bytes ≡ Err f → IsFirstFault bytes f
unfolding system_of system_at
system_err bytes f e = elim (bind_err (dimension_at (end_line_of bytes) (lines_of bytes)) (others (end_line_of bytes)) f e) [
  | inl p ↦ inl (first_err (end_line_of bytes) (lines_of bytes) f p)
  | inr d ↦ let line = first_ok (end_line_of bytes) (lines_of bytes) d.0 d.1 in others_err bytes f d.0 line.0 line.1 line.2 d.2
]
