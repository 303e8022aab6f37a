-- What is read keeps the limits: words and lines.
use Rattle.std.proofs.Common.{◌≡◌, ℕ, zero, suc, ◌-◌, ◌≤◌, ◌&&◌, Bool, true, false, cond, ℤ, pos, neg_ℤ, ◌≤ℤ◌, List, [], ◌∷◌, ◌++◌, length, Result, Ok, Err, refl, sym, ap, subst, ◌∙◌, append_assoc, append-nil, arith}
use Rattle.std.specs.Prelude.{int_le, unsigned_abs, codes}
use Rattle.std.proofs.lemmas.Int.{ints}
use Rattle.int_vectors.specs.Vectors.{Each}
use Rattle.cayley.specs.Files.{FilePoint}
use Rattle.cayley.specs.Valid.{IsCoordinate, IsHeight, IsStart, IsWithinFile}
use Rattle.line_text.specs.declared.numbers.BadNumber.{BadNumber}
use Rattle.line_text.specs.declared.numbers.BadNumber.TheVariants.{Spelling, Outside}
use Rattle.line_text.specs.Numbers.{is_number, value_of, number_in}
use Rattle.line_text.specs.Lines.{Row}
use Rattle.support_text.specs.declared.fault.Kind.{Kind}
use Rattle.support_text.specs.declared.fault.Kind.TheVariants.{Number, Range, Repeated, Start}
use Rattle.support_text.specs.declared.fault.FormatFault.{FormatFault}
use Rattle.support_text.specs.Faults.{Reading, ◌>>=◌, fault, series}
use Rattle.support_text.specs.Words.{Text, words, word, number, judged, nothing_more, next_line}
use Rattle.support_text.specs.ProblemText.{counting_line, coordinate, coordinates, is_among, point_line, start_height, start_heights, start_line}
use Rattle.support_text.proofs.Numbers.{IsWithin}
use Rattle.support_text.proofs.Series.{bind_ok, ok_is}

pub int_le_is : (x y : ℤ) → int_le x y ≡ true → x ≤ℤ y
int_le_is x y h = grind (arith, ints)

abbrev found : ℤ → Result ℤ BadNumber
found z = Ok z

inside_of : (numeral low high : Bool) (v z : ℤ) → cond numeral (cond (low && high) (found v) (Err Outside)) (Err Spelling) ≡ found z → (low ≡ true) × (high ≡ true) × (v ≡ z)
inside_of true true true v z e = (refl, refl, cc)
inside_of true true false v z e = absurd cc
inside_of true false high v z e = absurd cc
inside_of false low high v z e = absurd cc

number_in_within : (low high : ℤ) (w : Text) (z : ℤ) → number_in low high w ≡ Ok z → IsWithin low high z
unfolding number_in
number_in_within low high w z e =
    let v = value_of w in
    let i = inside_of (is_number w) (int_le low v) (int_le v high) v z e in
    subst (IsWithin low high) i.2 (int_le_is low v i.0, int_le_is v high i.1)

judged_ok : (wrong outside : Kind) (line : ℕ) (ws : List Text) (r : Result ℤ BadNumber) (x : ℤ × List Text) → judged wrong outside line ws r ≡ Ok x → r ≡ Ok x.0
judged_ok wrong outside line ws (Ok z) x e = ap (λ (p : ℤ × List Text). found p.0) (ok_is (z, ws) x e)
judged_ok wrong outside line ws (Err Spelling) x e = absurd cc
judged_ok wrong outside line ws (Err Outside) x e = absurd cc

pub number_within : (low high : ℤ) (wrong outside : Kind) (line : ℕ) (ws : List Text) (x : ℤ × List Text) → number low high wrong outside line ws ≡ Ok x → IsWithin low high x.0
unfolding number
number_within low high wrong outside line [] x e = absurd cc
number_within low high wrong outside line (w ∷ ws) x e = number_in_within low high w x.0 (judged_ok wrong outside line ws (number_in low high w) x e)

-- ---- series

-- each item keeps P in view of those before it
abbrev pub KeepsEach : {A : Type 0} → (List A → A → Type 0) → List A → List A → Type 0
KeepsEach P before [] = Unit {0}
KeepsEach P before (x ∷ xs) = P before x × KeepsEach P (before ++ x ∷ []) xs

pub series_keeps : {A S : Type 0} (P : List A → A → Type 0) (read : List A → S → Reading (A × S)) → ((before : List A) (s : S) (x : A × S) → read before s ≡ Ok x → P before x.0)
    → (count : ℕ) (before : List A) (s : S) (all : List A × S) → series count read before s ≡ Ok all → (new : List A) × (all.0 ≡ before ++ new) × (length new ≡ count) × KeepsEach P before new
unfolding series
series_keeps P read keeps zero before s all e = ([], ap (λ p. p.0) (sym (ok_is (before, s) all e)) ∙ sym (append-nil before), refl, tt)
series_keeps {A} {S} P read keeps (suc n) before s all e =
    let a = bind_ok (read before s) (λ (x : A × S). series n read (before ++ x.0 ∷ []) x.1) all e in
    let r = series_keeps P read keeps n (before ++ a.0.0 ∷ []) a.0.1 all a.2 in
    (a.0.0 ∷ r.0, r.1 ∙ append_assoc before (a.0.0 ∷ []) r.0, ap suc r.2, (keeps before s a.0 a.1, r.3))

pub series_all : {A S : Type 0} (P : List A → A → Type 0) (read : List A → S → Reading (A × S)) → ((before : List A) (s : S) (x : A × S) → read before s ≡ Ok x → P before x.0)
    → (count : ℕ) (s : S) (all : List A × S) → series count read [] s ≡ Ok all → (length all.0 ≡ count) × KeepsEach P [] all.0
series_all P read keeps count s all e =
    let r = series_keeps P read keeps count [] s all e in
    (ap length r.1 ∙ r.2, subst (KeepsEach P []) (sym r.1) r.3)

pub each_of : {A : Type 0} (Q : A → Type 0) (P : List A → A → Type 0) → ((before : List A) (x : A) → P before x → Q x) → (before xs : List A) → KeepsEach P before xs → Each xs Q
each_of Q P f before [] h = tt
each_of Q P f before (x ∷ xs) h = (f before x h.0, each_of Q P f (before ++ x ∷ []) xs h.1)

pub kept_of : {A : Type 0} (Q P : List A → A → Type 0) → ((before : List A) (x : A) → P before x → Q before x) → (before xs : List A) → KeepsEach P before xs → KeepsEach Q before xs
kept_of Q P f before [] h = tt
kept_of Q P f before (x ∷ xs) h = (f before x h.0, kept_of Q P f (before ++ x ∷ []) xs h.1)

-- ---- lines

next_row : {A : Type 0} (read : ℕ → List Text → Reading A) (row : Row) (rows : List Row) (x : A × List Row) → (read row.number (words row) >>= λ (y : A). Ok (y, rows)) ≡ Ok x → read row.number (words row) ≡ Ok x.0
next_row {A} read row rows x e =
    let a = bind_ok (read row.number (words row)) (λ (y : A). Ok (y, rows)) x e in
    a.1 ∙ ap (λ (p : A × List Row). Ok p.0) (ok_is (a.0, rows) x a.2)

pub next_line_ok : {A : Type 0} (read : ℕ → List Text → Reading A) (end : ℕ) (rows : List Row) (x : A × List Row) → next_line read end rows ≡ Ok x
    → (line : ℕ) × (ws : List Text) × (read line ws ≡ Ok x.0)
unfolding next_line
next_line_ok read end [] x e = absurd cc
next_line_ok read end (row ∷ rows) x e = (row.number, words row, next_row read row rows x e)

pub counting_within : (text : Text) (limit : ℕ) (kind : Kind) (line : ℕ) (ws : List Text) (n : ℕ) → counting_line text (pos limit) kind line ws ≡ Ok n → (1 ≤ n) × (n ≤ limit)
unfolding counting_line
counting_within text limit kind line ws n e =
    let a = bind_ok (word text kind line ws) (λ rest. number (pos 1) (pos limit) kind kind line rest >>= λ count. nothing_more kind line count.1 >>= λ ended. Ok (unsigned_abs count.0)) n e in
    let b = bind_ok (number (pos 1) (pos limit) kind kind line a.0) (λ count. nothing_more kind line count.1 >>= λ ended. Ok (unsigned_abs count.0)) n a.2 in
    let c = bind_ok (nothing_more kind line b.0.1) (λ ended. Ok (unsigned_abs b.0.0)) n b.2 in
    let same = ok_is (unsigned_abs b.0.0) n c.2 in
    let within = number_within (pos 1) (pos limit) kind kind line a.0 b.0 b.1 in
    subst (λ (k : ℕ). (1 ≤ k) × (k ≤ limit)) same (omega (arith, ints), omega (arith, ints))

coordinate_is : (z : ℤ) → IsWithin (neg_ℤ (pos 1000000)) (pos 1000000) z → IsCoordinate z
coordinate_is z h = omega (arith, ints)

height_is : (z : ℤ) → IsWithin (neg_ℤ (pos 1000000000)) (pos 1000000000) z → IsHeight z
height_is z h = omega (arith, ints)

pub coordinates_within : (n line : ℕ) (ws : List Text) (x : List ℤ × List Text) → coordinates n line ws ≡ Ok x → (length x.0 ≡ n) × Each x.0 IsCoordinate
coordinates_within n line ws x e =
    let r = series_all (λ before z. IsCoordinate z) (coordinate line)
    (λ before s y h. coordinate_is y.0 (number_within (neg_ℤ (pos 1000000)) (pos 1000000) Number Range line s y h)) n ws x e in
    (r.0, each_of IsCoordinate (λ before z. IsCoordinate z) (λ before z h. h) [] x.0 r.1)

guarded : {A : Type 0} (b : Bool) (f : FormatFault) (x y : A) → cond b (Err f) (Ok x) ≡ Ok y → (b ≡ false) × (x ≡ y)
guarded true f x y e = absurd cc
guarded false f x y e = (refl, cc)

-- a point as it is read behind earlier ones
abbrev pub IsNewPoint : ℕ → List FilePoint → FilePoint → Type 0
IsNewPoint n earlier x = (length x.coordinates ≡ n) × IsWithinFile x × (is_among x.coordinates earlier ≡ false)

made : List ℤ → ℤ → FilePoint
made xs h = record { coordinates = xs; height = h }

pub point_line_new : (n : ℕ) (earlier : List FilePoint) (line : ℕ) (ws : List Text) (x : FilePoint) → point_line n earlier line ws ≡ Ok x → IsNewPoint n earlier x
unfolding point_line made
point_line_new n earlier line ws x e =
    let last : List ℤ → ℤ → Reading FilePoint = λ xs h. cond (is_among xs earlier) (Err (fault line Repeated)) (Ok (made xs h)) in
    let a = bind_ok (coordinates n line ws) (λ xs. word (codes ":") Number line xs.1 >>= λ rest. number (neg_ℤ (pos 1000000000)) (pos 1000000000) Number Range line rest >>= λ height. nothing_more Number line height.1 >>= λ ended. last xs.0 height.0) x e in
    let b = bind_ok (word (codes ":") Number line a.0.1) (λ rest. number (neg_ℤ (pos 1000000000)) (pos 1000000000) Number Range line rest >>= λ height. nothing_more Number line height.1 >>= λ ended. last a.0.0 height.0) x a.2 in
    let c = bind_ok (number (neg_ℤ (pos 1000000000)) (pos 1000000000) Number Range line b.0) (λ height. nothing_more Number line height.1 >>= λ ended. last a.0.0 height.0) x b.2 in
    let d = bind_ok (nothing_more Number line c.0.1) (λ ended. last a.0.0 c.0.0) x c.2 in
    let g = guarded (is_among a.0.0 earlier) (fault line Repeated) (made a.0.0 c.0.0) x d.2 in
    let xs = coordinates_within n line ws a.0 a.1 in
    let h = height_is c.0.0 (number_within (neg_ℤ (pos 1000000000)) (pos 1000000000) Number Range line b.0 c.0 c.1) in
    subst (IsNewPoint n earlier) g.1 (xs.0, (xs.1, h), g.0)

pub start_heights_within : (n line : ℕ) (ws : List Text) (hs : List ℤ) → start_heights n line ws ≡ Ok hs → (length hs ≡ n - 1) × Each hs IsStart
unfolding start_heights
start_heights_within n line ws hs e =
    let a = bind_ok (series (n - 1) (start_height line) [] ws) (λ heights. nothing_more Start line heights.1 >>= λ ended. Ok heights.0) hs e in
    let b = bind_ok (nothing_more Start line a.0.1) (λ ended. Ok a.0.0) hs a.2 in
    let r = series_all (λ before z. IsStart z) (start_height line) (λ before s y h. number_within (pos 1) (pos 1000000000) Start Start line s y h) (n - 1) ws a.0 a.1 in
    subst (λ (l : List ℤ). (length l ≡ n - 1) × Each l IsStart) (ok_is a.0.0 hs b.2) (r.0, each_of IsStart (λ before z. IsStart z) (λ before z h. h) [] a.0.0 r.1)

pub start_line_within : (n line : ℕ) (ws : List Text) (hs : List ℤ) → start_line n line ws ≡ Ok hs → (length hs ≡ n - 1) × Each hs IsStart
unfolding start_line
start_line_within n line ws hs e =
    let a = bind_ok (word (codes "start") Start line ws) (λ rest. start_heights n line rest) hs e in
    start_heights_within n line a.0 hs a.2
