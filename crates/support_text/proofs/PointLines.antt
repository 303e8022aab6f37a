-- A point line, read in view of the earlier points.
use Rattle.std.proofs.Common.{◌≡◌, ℕ, Bool, true, false, ℤ, pos, neg_ℤ, List, [], ◌∷◌, ◌++◌, Result, Ok, Err, refl, sym, subst, if◌then◌else◌, codes}
use Rattle.cayley.specs.Files.{FilePoint}
use Rattle.line_text.specs.Lines.{Row}
use Rattle.support_text.specs.declared.fault.Kind.TheVariants.{Missing, Number, Range, Repeated}
use Rattle.support_text.specs.declared.fault.FormatFault.{FormatFault}
use Rattle.support_text.specs.declared.fault.TextFault.{TextFault}
use Rattle.support_text.specs.declared.fault.TextFault.TheVariants.{Format, OutOfMemory}
use Rattle.support_text.specs.Faults.{Reading, ◌>>=◌, Fails, Gives, fault, series}
use Rattle.support_text.specs.Words.{Text, words, word, number, nothing_more, next_line}
use Rattle.support_text.specs.ProblemText.{coordinates, is_among, point_line, point_at}

step : {A B C : Type 0} (r : Reading A) (f : A → Reading B) (g : A → Reading C) (h : B → Reading C) → ((x : A) → g x ≡ (f x >>= h)) → (r >>= g) ≡ ((r >>= f) >>= h)
step (Ok x) f g h e = e x
step (Err d) f g h e = refl

module _ (line : ℕ) (points : List FilePoint) where
  -- the point, if it is new
  abbrev new_point : FilePoint → Reading FilePoint
  new_point x = if is_among x.coordinates points then Err (fault line Repeated) else Ok x

  -- the points with one more, if it is new
  abbrev pub with_point : FilePoint → Reading (List FilePoint)
  with_point x = if is_among x.coordinates points then Err (fault line Repeated) else Ok (points ++ x ∷ [])

  -- what is read behind the height, the `:` and the coordinates
  abbrev after_height : List ℤ → ℤ × List Text → Reading FilePoint
  after_height xs height = nothing_more Number line height.1 >>= λ ended. new_point (record { coordinates = xs; height = height.0 })

  abbrev after_mark : List ℤ → List Text → Reading FilePoint
  after_mark xs rest = number (neg_ℤ (pos 1000000000)) (pos 1000000000) Number Range line rest >>= after_height xs

  abbrev after_coordinates : List ℤ × List Text → Reading FilePoint
  after_coordinates xs = word (codes ":") Number line xs.1 >>= after_mark xs.0

-- the line is read as if no point stood before it, and the point is then judged
line_judged : (n : ℕ) (points : List FilePoint) (line : ℕ) (ws : List Text) → point_line n points line ws ≡ (point_line n [] line ws >>= new_point line points)
unfolding point_line
line_judged n points line ws =
    step (coordinates n line ws) (after_coordinates line []) (after_coordinates line points) (new_point line points)
    (λ xs. step (word (codes ":") Number line xs.1) (after_mark line [] xs.0) (after_mark line points xs.0) (new_point line points)
    (λ rest. step (number (neg_ℤ (pos 1000000000)) (pos 1000000000) Number Range line rest) (after_height line [] xs.0) (after_height line points xs.0) (new_point line points)
    (λ height. step (nothing_more Number line height.1)
    (λ ended. new_point line [] (record { coordinates = xs.0; height = height.0 })) (λ ended. new_point line points (record { coordinates = xs.0; height = height.0 })) (new_point line points)
    (λ ended. refl))))

module _ (rows : List Row) where
  abbrev beside : {A : Type 0} → A → Reading (A × List Row)
  beside x = Ok (x, rows)

abbrev added : List FilePoint → FilePoint × List Row → Reading (List FilePoint × List Row)
added points p = Ok (points ++ p.0 ∷ [], p.1)

one_more : (b : Bool) (f : FormatFault) (points : List FilePoint) (x : FilePoint) (rows : List Row)
    → (((if b then Err f else Ok x) >>= beside rows) >>= added points) ≡ ((if b then Err f else Ok (points ++ x ∷ [])) >>= beside rows)
one_more true f points x rows = refl
one_more false f points x rows = refl

pub no_line_left : (n end : ℕ) (points : List FilePoint) (rows : List Row) (e : TextFault) → rows ≡ [] → e ≡ Format (fault end Missing) → Fails e (series 1 (point_at n end) points rows)
unfolding series next_line
no_line_left n end points rows e none is = rw (none, is) refl

abbrev pub now_is : {A : Type 0} → A → Unit {0} → A
now_is x done = x

module _ (n end : ℕ) (points : List FilePoint) (row : Row) (rows all : List Row) (first : all ≡ row ∷ rows) where
  pub line_fails : (e : TextFault) → Fails e (point_line n [] row.number (words row)) → Fails e (series 1 (point_at n end) points all)
  unfolding series next_line
  line_fails OutOfMemory h = tt
  line_fails (Format f) h = rw (first, line_judged n points row.number (words row), h) refl

  line_read : (x : FilePoint) → point_line n [] row.number (words row) ≡ Ok x → series 1 (point_at n end) points all ≡ (with_point row.number points x >>= beside rows)
  unfolding series next_line
  line_read x h = rw (first, line_judged n points row.number (words row), h) (one_more (is_among x.coordinates points) (fault row.number Repeated) points x rows)

  gives_rows : (r : Result (Unit {0}) TextFault) (now : List FilePoint) (reading : Reading (List FilePoint)) → Gives (now_is now) r reading → Gives (now_is (now, rows)) r (reading >>= beside rows)
  gives_rows (Ok u) now reading h = rw h refl
  gives_rows (Err OutOfMemory) now reading h = tt
  gives_rows (Err (Format f)) now reading h = rw h refl

  pub point_judged : (x : FilePoint) (r : Result (Unit {0}) TextFault) (now : List FilePoint) → point_line n [] row.number (words row) ≡ Ok x → Gives (now_is now) r (with_point row.number points x)
      → Gives (now_is (now, rows)) r (series 1 (point_at n end) points all)
  point_judged x r now h g = subst (Gives (now_is (now, rows)) r) (sym (line_read x h)) (gives_rows r now (with_point row.number points x) g)
