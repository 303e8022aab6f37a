-- What is read keeps the limits: supports, start lines and files.
use Rattle.std.proofs.Common.{◌≡◌, ℕ, ◌-◌, ◌≤◌, ℤ, List, [], ◌∷◌, map, length, Option, Some, None, Ok, sym, ap, subst, arith}
use Rattle.std.specs.Prelude.{MatchOption, codes}
use Rattle.int_vectors.specs.Vectors.{Each}
use Rattle.cayley.specs.Problems.{Version}
use Rattle.cayley.specs.Files.{FilePoint}
use Rattle.cayley.specs.Valid.{IsStart, IsWithinFile, AreDistinct, IsValidFile}
use Rattle.line_text.specs.Lines.{Row}
use Rattle.int_vectors.proofs.Each.{each_weaker}
use Rattle.support_text.specs.declared.fault.Kind.TheVariants.{Extra, Count, Dim}
use Rattle.support_text.specs.declared.opening.Opening.{Opening}
use Rattle.support_text.specs.declared.opening.Opening.TheVariants.{End as Opens_end, Start as Opens_start, Other}
use Rattle.support_text.specs.Faults.{◌>>=◌, series}
use Rattle.support_text.specs.Words.{Text, words, nothing_more, next_line}
use Rattle.support_text.specs.ProblemText.{dim_line, count_line, point_line, point_at, support, support_at, supports, start_heights, start_line, start_at, end_line, opening, starts_and_end, end_alone, ending_of, ending}
use Rattle.support_text.proofs.Series.{bind_ok, ok_is}
use Rattle.support_text.proofs.Kept.{KeepsEach, IsNewPoint, series_keeps, series_all, each_of, kept_of, next_line_ok, counting_within, point_line_new, start_heights_within, start_line_within}
use Rattle.support_text.proofs.Distinct.{IsNew, distinct_from}

pub dim_within : (end : ℕ) (rows : List Row) (x : ℕ × List Row) → next_line dim_line end rows ≡ Ok x → (1 ≤ x.0) × (x.0 ≤ 16)
dim_within end rows x e =
    let r = next_line_ok dim_line end rows x e in
    counting_within (codes "dim") 16 Dim r.0 r.1 x.0 r.2

-- a support as it is read
abbrev pub IsReadSupport : ℕ → List FilePoint → Type 0
IsReadSupport n s = (1 ≤ length s) × (length s ≤ 1000) × KeepsEach (IsNewPoint n) [] s

support_within : (n end : ℕ) (rows : List Row) (x : List FilePoint × List Row) → support n end rows ≡ Ok x → IsReadSupport n x.0
unfolding support
support_within n end rows x e =
    let a = bind_ok (next_line count_line end rows) (λ count. series count.0 (point_at n end) [] count.1) x e in
    let r = next_line_ok count_line end rows a.0 a.1 in
    let count = counting_within (codes "support") 1000 Count r.0 r.1 a.0.0 r.2 in
    let points = series_all (IsNewPoint n) (point_at n end)
    (λ before s y h. let p = next_line_ok (point_line n before) end s y h in point_line_new n before p.0 p.1 y.0 p.2) a.0.0 a.0.1 x a.2 in
    (omega (arith, points.0), omega (arith, points.0), points.1)

pub supports_within : (n end : ℕ) (rows : List Row) (x : List (List FilePoint) × List Row) → supports n end rows ≡ Ok x → (length x.0 ≡ n) × Each x.0 (IsReadSupport n)
supports_within n end rows x e =
    let r = series_all (λ before s. IsReadSupport n s) (support_at n end) (λ before s y h. support_within n end s y h) n rows x e in
    (r.0, each_of (IsReadSupport n) (λ before s. IsReadSupport n s) (λ before s h. h) [] x.0 r.1)

abbrev pub IsStartLine : ℕ → List ℤ → Type 0
IsStartLine n hs = (length hs ≡ n - 1) × Each hs IsStart

abbrev pub AreStarts : ℕ → Option (List (List ℤ)) → Type 0
AreStarts n starts = MatchOption starts (Unit {0}) (λ (l : List (List ℤ)). (length l ≡ n) × Each l (IsStartLine n))

starts_within : (n end line : ℕ) (ws : List Text) (rows : List Row) (x : Option (List (List ℤ)) × List Row) → 1 ≤ n → starts_and_end n end line ws rows ≡ Ok x → AreStarts n x.0
unfolding starts_and_end
starts_within n end line ws rows x some e =
    let a = bind_ok (start_heights n line ws) (λ first. series (n - 1) (start_at n end) (first ∷ []) rows >>= λ starts. next_line end_line end starts.1 >>= λ last. Ok (Some starts.0, last.1)) x e in
    let b = bind_ok (series (n - 1) (start_at n end) (a.0 ∷ []) rows) (λ starts. next_line end_line end starts.1 >>= λ last. Ok (Some starts.0, last.1)) x a.2 in
    let c = bind_ok (next_line end_line end b.0.1) (λ last. Ok (Some b.0.0, last.1)) x b.2 in
    let r = series_keeps (λ before s. IsStartLine n s) (start_at n end)
    (λ before s y h. let p = next_line_ok (start_line n) end s y h in start_line_within n p.0 p.1 y.0 p.2) (n - 1) (a.0 ∷ []) rows b.0 b.1 in
    let first = start_heights_within n line ws a.0 a.1 in
    let size : length b.0.0 ≡ n = omega (arith, ap length r.1, r.2) in
    let each : Each b.0.0 (IsStartLine n) = subst (λ (l : List (List ℤ)). Each l (IsStartLine n)) (sym r.1) (first, each_of (IsStartLine n) (λ before s. IsStartLine n s) (λ before s h. h) (a.0 ∷ []) r.0 r.3) in
    let made : Option (List (List ℤ)) × List Row = (Some b.0.0, c.0.1) in
    subst (λ (y : Option (List (List ℤ)) × List Row). AreStarts n y.0) (ok_is made x c.2) (size, each)

end_within : (n line : ℕ) (ws : List Text) (rows : List Row) (x : Option (List (List ℤ)) × List Row) → end_alone line ws rows ≡ Ok x → AreStarts n x.0
unfolding end_alone
end_within n line ws rows x e =
    let none : Option (List (List ℤ)) × List Row = (None, rows) in
    let a = bind_ok (nothing_more Extra line ws) (λ ended. Ok none) x e in
    subst (λ (y : Option (List (List ℤ)) × List Row). AreStarts n y.0) (ok_is none x a.2) tt

ending_of_within : (n end line : ℕ) (o : Opening) (ws : List Text) (rows : List Row) (x : Option (List (List ℤ)) × List Row) → 1 ≤ n → ending_of n end line (o, ws) rows ≡ Ok x → AreStarts n x.0
unfolding ending_of
ending_of_within n end line Opens_end ws rows x some e = end_within n line ws rows x e
ending_of_within n end line Opens_start ws rows x some e = starts_within n end line ws rows x some e
ending_of_within n end line Other ws rows x some e = absurd cc

pub ending_within : (n end : ℕ) (rows : List Row) (x : Option (List (List ℤ)) × List Row) → 1 ≤ n → ending n end rows ≡ Ok x → AreStarts n x.0
unfolding ending
ending_within n end [] x some e = absurd cc
ending_within n end (row ∷ rows) x some e = ending_of_within n end row.number (opening (words row)).0 (opening (words row)).1 rows x some e

-- ---- the file
starts_shape : (n : ℕ) (starts : Option (List (List ℤ))) → AreStarts n starts
    → MatchOption starts (Unit {0}) (λ (l : List (List ℤ)). (length l ≡ n) × Each l (λ s. length s ≡ n - 1))
starts_shape n None h = tt
starts_shape n (Some l) h = (h.0, each_weaker (IsStartLine n) (λ s. length s ≡ n - 1) l (λ s p. p.0) h.1)

starts_limits : (n : ℕ) (starts : Option (List (List ℤ))) → AreStarts n starts → MatchOption starts (Unit {0}) (λ (l : List (List ℤ)). Each l (λ s. Each s IsStart))
starts_limits n None h = tt
starts_limits n (Some l) h = each_weaker (IsStartLine n) (λ s. Each s IsStart) l (λ s p. p.1) h.1

pub file_within : (v : Version) (n : ℕ) (supports : List (List FilePoint)) (starts : Option (List (List ℤ))) → (1 ≤ n) × (n ≤ 16) → (length supports ≡ n) × Each supports (IsReadSupport n) → AreStarts n starts
    → IsValidFile (record { version = v; dimension = n; supports = supports; starts = starts })
file_within v n supports starts dim s t = record {
  shape = record {
    dimension = dim;
    supports = s.0;
    counts = each_weaker (IsReadSupport n) (λ l. (1 ≤ length l) × (length l ≤ 1000)) supports (λ l p. (p.0, p.1)) s.1;
    points = each_weaker (IsReadSupport n) (λ l. Each l (λ (x : FilePoint). length x.coordinates ≡ n)) supports
        (λ l p. each_of (λ (x : FilePoint). length x.coordinates ≡ n) (IsNewPoint n) (λ before x q. q.0) [] l p.2) s.1;
    starts = starts_shape n starts t;
  };
  limits = each_weaker (IsReadSupport n) (λ l. Each l IsWithinFile) supports (λ l p. each_of IsWithinFile (IsNewPoint n) (λ before x q. q.1) [] l p.2) s.1;
  distinct = each_weaker (IsReadSupport n) (λ l. AreDistinct (map (λ (x : FilePoint). x.coordinates) l)) supports
      (λ l p. distinct_from l (kept_of IsNew (IsNewPoint n) (λ before x q. q.2) [] l p.2)) s.1;
  starts = starts_limits n starts t;
}
