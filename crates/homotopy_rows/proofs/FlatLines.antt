-- lines that passed: none of their further points is below, and where none is flat each rises
use Rattle.std.proofs.Common.{◌≡◌, ◌≢◌, ◌↔◌, ℕ, ◌<◌, ◌≤◌, List, [], ◌∷◌, length, map, inl, inr, arith, refl, sym, ap, subst, ◌∙◌, Option, Some, Result, Ok, Err}
use Rattle.std.proofs.lemmas.Int.{ints}
use Rattle.std.proofs.Math.IntN.{ℤ}
use Rattle.std.specs.Prelude.{MatchResult, IfOk}
use Rattle.int_vectors.specs.Vectors.{Each}
use Rattle.cayley.specs.Cells.{Cell, EachPair}
use Rattle.cayley.specs.Files.{File, plain_problem}
use Rattle.cayley.specs.Problems.{Version, version1, version2, Point, Problem}
use Rattle.cayley.specs.Valid.{IsValidFile, IsValidProblem}
use Rattle.cayley.proofs.Ranking.PlainProblems.{plain_valid}
use Rattle.listing_text.specs.declared.listing.Listing.{Listing}
use Rattle.listing_text.specs.declared.listing.ListedCell.{ListedCell}
use Rattle.cell_certificate.specs.Judgements.{AllPass, HasLeast}
use Rattle.cell_certificate.specs.Sums.{RisesAt, UntiedAt}
use Rattle.cell_certificate.specs.Ties.{IsLevelLine}
use Rattle.cell_certificate.specs.Written.{IsListed}
use Rattle.cell_certificate.proofs.Least.{least_free, least_plain}
use Rattle.cell_certificate.proofs.Levels.{level_from}
use Rattle.homotopy_rows.specs.declared.rows.RowFault.{RowFault}
use Rattle.homotopy_rows.specs.declared.rows.RowFault.TheVariants.{Flat, OutOfMemory}
use Rattle.homotopy_rows.specs.declared.rows.PowerRow.{PowerRow}
use Rattle.homotopy_rows.specs.Answers.{HadMemory, EachRow, IsGood, IsLineFault, IsRowFault}
use Rattle.homotopy_rows.specs.Stored.{row}
use Rattle.homotopy_rows.specs.Flat.{SomePair, IsFlatAt, IsFlat, FirstFlat}
use Rattle.homotopy_rows.specs.Points.{IsLevelPair}
use Rattle.homotopy_rows.specs.Powers.{Row, SideBySide}
use Rattle.homotopy_rows.proofs.Beside.{beside_map, beside_both, beside_seen}
use Rattle.homotopy_rows.proofs.ZeroAtPairs.{IsRising}

-- ---- lines that passed
abbrev pub IsPassed : Problem → ListedCell → Type 0
IsPassed p x = IsLevelLine p x × HasLeast p x

pub all_passed : (p : Problem) (before : Option Cell) (lines : List ListedCell) → Each lines (IsListed p) → AllPass p before lines → Each lines (IsPassed p)
all_passed p before [] l a = tt
all_passed p before (x ∷ lines) l a = (((l.0, a.0.0.2, a.0.1, a.0.2), a.0.4), all_passed p (Some x.cell) lines l.1 a.1)

-- a fault at a support is one of the line
pub line_fault : (part whole : Type 0) (line : ℕ) (e : RowFault) → (part → whole) → IsLineFault part line e → IsLineFault whole line e
line_fault part whole line (Flat number) f h = (f h.0, h.1)
line_fault part whole line OutOfMemory f h = tt

-- ---- supports with their pairs
free_pairs : (den : ℤ) (v : List ℤ) (supports : List (List Point)) (cell : Cell) (P : List Point → ℕ → ℕ → Type 0) → EachPair supports cell P → ¬ (SomePair supports cell (IsFlatAt den v))
    → EachPair supports cell (λ s a b. (c : ℕ) → UntiedAt den v s a b c)
free_pairs den v [] [] P e n = tt
free_pairs den v [] (x ∷ cell) P e n = absurd e
free_pairs den v (s ∷ supports) [] P e n = absurd e
free_pairs den v (s ∷ supports) (x ∷ cell) P e n = ((λ c f z. n (inl (c, (f, z)))), free_pairs den v supports cell P e.1 (λ h. n (inr h)))

never_flat : (den : ℤ) (v : List ℤ) (supports : List (List Point)) (cell : Cell) → EachPair supports cell (λ s a b. (c : ℕ) → RisesAt den v s a b c) → ¬ (SomePair supports cell (IsFlatAt den v))
never_flat den v [] cell e h = h
never_flat den v (s ∷ supports) [] e h = h
never_flat den v (s ∷ supports) (x ∷ cell) e (inl t) = let p = e.0 t.0 t.1.0 in let z = t.1.1 in omega (arith, ints, p, z)
never_flat den v (s ∷ supports) (x ∷ cell) e (inr h) = never_flat den v supports cell e.1 h

three : (den : ℤ) (v : List ℤ) (supports : List (List Point)) (cell : Cell) → EachPair supports cell (λ s a b. (1 ≤ a) × (a < b) × (b ≤ length s)) → EachPair supports cell (IsLevelPair den v)
    → EachPair supports cell (λ s a b. (c : ℕ) → RisesAt den v s a b c) → EachPair supports cell (IsRising den v)
three den v [] [] o l r = tt
three den v [] (x ∷ cell) o l r = absurd o
three den v (s ∷ supports) [] o l r = absurd o
three den v (s ∷ supports) (x ∷ cell) o l r = ((o.0, l.0, r.0), three den v supports cell o.1 l.1 r.1)

-- ---- one line
module _ (file : File) (valid : IsValidFile file) (x : ListedCell) (pass : IsPassed (plain_problem file) x) where
  good : IsValidProblem (plain_problem file)
  good = plain_valid file valid

  pub line_rises : ¬ (IsFlat (plain_problem file) x) → EachPair (plain_problem file).supports x.cell (IsRising x.normal.den x.normal.v)
  line_rises n =
      let p = plain_problem file in
      let free = free_pairs x.normal.den x.normal.v p.supports x.cell _ pass.0.0.0 n in
      three x.normal.den x.normal.v p.supports x.cell pass.0.0.0 (level_from p x.cell pass.0.0.0 x.normal.v x.normal.den pass.0.3)
      ((least_free p good.shape.problem x pass.0 free).1 pass.1)

  -- without infinitesimals none is flat
  pub plain_line : file.version ≢ version2 → ¬ (IsFlat (plain_problem file) x)
  plain_line v =
      let p = plain_problem file in
      never_flat x.normal.den x.normal.v p.supports x.cell ((least_plain p good.shape.problem x pass.0 good.ranks v).1 pass.1)

-- ---- the first flat line
no_first : (file : File) → IsValidFile file → file.version ≢ version2 → (lines : List ListedCell) → Each lines (IsPassed (plain_problem file)) → (number : ℕ) → ¬ (FirstFlat (plain_problem file) lines number)
no_first file valid v [] e number f = f
no_first file valid v (x ∷ lines) e number (inl f) = plain_line file valid x e.0 v f.0
no_first file valid v (x ∷ lines) e number (inr f) = no_first file valid v lines e.1 number f.1

abbrev tells : Version → Type 0
tells version1 = Unit {0}
tells version2 = ⊥

apart : version1 ≡ version2 → ⊥
apart q = subst tells q tt

pub perturbed_alone : (file : File) → IsValidFile file → (lines : List ListedCell) → Each lines (IsPassed (plain_problem file)) → (number : ℕ) → FirstFlat (plain_problem file) lines number → file.version ≡ version2
perturbed_alone file valid lines e number f = by_version file.version refl
  where
    by_version : (w : Version) → file.version ≡ w → file.version ≡ version2
    by_version version1 i = absurd (no_first file valid (λ q. apart (sym i ∙ q)) lines e number f)
    by_version version2 i = i

pub one_first : (p : Problem) (lines : List ListedCell) (m n : ℕ) → FirstFlat p lines m → FirstFlat p lines n → m ≡ n
one_first p [] m n f g = absurd f
one_first p (x ∷ lines) m n (inl f) (inl g) = sym f.1 ∙ g.1
one_first p (x ∷ lines) m n (inl f) (inr g) = absurd (g.0 f.0)
one_first p (x ∷ lines) m n (inr f) (inl g) = absurd (f.0 g.0)
one_first p (x ∷ lines) m n (inr f) (inr g) = one_first p lines m n f.1 g.1

-- lines with good rows have none
no_flat : {B : Type 0} (p : Problem) (Q : ListedCell → B → Type 0) (lines : List ListedCell) (rows : List B) → ((x : ListedCell) (y : B) → Q x y → ¬ (IsFlat p x)) → SideBySide lines rows Q
    → (number : ℕ) → ¬ (FirstFlat p lines number)
no_flat p Q [] rows n h number f = f
no_flat p Q (x ∷ lines) [] n h number f = absurd h
no_flat p Q (x ∷ lines) (y ∷ rows) n h number (inl f) = n x y h.0 f.0
no_flat p Q (x ∷ lines) (y ∷ rows) n h number (inr f) = no_flat p Q lines rows n h.1 number f.1

-- ---- answers as exactly where
abbrev is_ok : {A : Type 0} → Result A RowFault → Type 0
is_ok (Ok a) = Unit {0}
is_ok (Err e) = ⊥

not_ok : {A : Type 0} (rows : A) (number : ℕ) → Ok rows ≡ Err (Flat number) → ⊥
not_ok rows number e = subst is_ok e tt

abbrev is_flat : {A : Type 0} → Result A RowFault → Type 0
is_flat (Ok a) = ⊥
is_flat (Err (Flat k)) = Unit {0}
is_flat (Err OutOfMemory) = ⊥

abbrev number_of : {A : Type 0} → Result A RowFault → ℕ
number_of (Ok a) = 0
number_of (Err (Flat k)) = k
number_of (Err OutOfMemory) = 0

module _ (listing : Listing) {A : Type 0} where
  abbrev pub Said : (A → List PowerRow) → Result A RowFault → Type 0
  Said items r = MatchResult r (λ rows. SideBySide listing.cells.items (items rows) (λ x y. IsGood (plain_problem listing.file) x (row y))) (IsRowFault (plain_problem listing.file) listing.cells.items)

  pub first_flat : (r : Result A RowFault) (items : A → List PowerRow) → Said items r → HadMemory r → (number : ℕ) → (r ≡ Err (Flat number)) ↔ FirstFlat (plain_problem listing.file) listing.cells.items number
  first_flat (Ok rows) items h m number = (
    (λ e. absurd (not_ok rows number e)),
    (λ f. absurd (no_flat (plain_problem listing.file) (λ x y. IsGood (plain_problem listing.file) x (row y)) listing.cells.items (items rows) (λ x y g. g.1) h number f)),
  )
  first_flat (Err (Flat line)) items h m number = (
    (λ e. subst (λ k. FirstFlat (plain_problem listing.file) listing.cells.items k) (ap number_of e) h),
    (λ f. ap (λ k. Err (Flat k)) (one_first (plain_problem listing.file) listing.cells.items line number h f)),
  )
  first_flat (Err OutOfMemory) items h m number = absurd m

  -- a property of good rows
  pub each_row : (P : Problem → ListedCell → Row → Type 0) → ((x : ListedCell) (y : Row) → IsGood (plain_problem listing.file) x y → P (plain_problem listing.file) x y) → (r : Result A RowFault) (items : A → List PowerRow) → Said items r
      → IfOk r (λ rows. EachRow listing (map row (items rows)) P)
  each_row P f (Ok rows) items h = beside_seen row (P (plain_problem listing.file)) listing.cells.items (items rows) (beside_map (λ x y. IsGood (plain_problem listing.file) x (row y)) (λ x y. P (plain_problem listing.file) x (row y)) listing.cells.items (items rows) (λ x y g. f x (row y) g) h)
  each_row P f (Err e) items h = tt

  -- the same of lines that passed
  pub each_good : (P : Problem → ListedCell → Row → Type 0) → Each listing.cells.items (IsPassed (plain_problem listing.file)) → ((x : ListedCell) (y : Row) → IsPassed (plain_problem listing.file) x → IsGood (plain_problem listing.file) x y → P (plain_problem listing.file) x y) → (r : Result A RowFault) (items : A → List PowerRow)
      → Said items r → IfOk r (λ rows. EachRow listing (map row (items rows)) P)
  each_good P e f (Ok rows) items h =
      beside_seen row (P (plain_problem listing.file)) listing.cells.items (items rows) (beside_both (IsPassed (plain_problem listing.file)) (λ x y. IsGood (plain_problem listing.file) x (row y)) (λ x y. P (plain_problem listing.file) x (row y)) listing.cells.items (items rows) (λ x y q g. f x (row y) q g) e h)
  each_good P e f (Err b) items h = tt

  pub flat_perturbed : (r : Result A RowFault) (items : A → List PowerRow) → IsValidFile listing.file → Each listing.cells.items (IsPassed (plain_problem listing.file)) → Said items r → (number : ℕ) → r ≡ Err (Flat number) → listing.file.version ≡ version2
  flat_perturbed (Ok rows) items valid e h number i = absurd (not_ok rows number i)
  flat_perturbed (Err (Flat line)) items valid e h number i = perturbed_alone listing.file valid listing.cells.items e line h
  flat_perturbed (Err OutOfMemory) items valid e h number i = absurd (subst (λ (r : Result A RowFault). is_flat r) (sym i) tt)
