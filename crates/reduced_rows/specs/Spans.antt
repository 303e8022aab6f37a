-- Row spans, reduced rows and kernels.
use Rattle.std.specs.Prelude.{◌≡◌, ◌≢◌, ℕ, suc, ◌<◌, List, [], ◌∷◌, length, ℤ, pos, ◌*ℤ◌, ◌<ℤ◌}
use Rattle.int_vectors.specs.Vectors.{Each, IsZero, weigh, at, IsOrthogonal, Independent}
use Rattle.int_vectors.specs.Contents.{content}
use Rattle.reduced_rows.specs.Denominators.{HavePivots}
use Rattle.reduced_rows.specs.Steps.{OfLength}

-- a number other than zero, times f, is a whole combination of the rows
pub record Spans (rows : List (List ℤ)) (f : ℕ → ℤ) : Type 0 where
  pub by : ℤ
  pub other : by ≢ pos 0
  pub coefficients : List ℤ
  pub is : (e : ℕ) → by *ℤ f e ≡ weigh coefficients rows (λ row. at row e)

-- the row is, over the fractions, a combination of the rows
abbrev pub InSpan : List (List ℤ) → List ℤ → Type 0
InSpan rows row = Spans rows (at row)

-- each row of either list is in the span of the other
abbrev pub SameSpan : List (List ℤ) → List (List ℤ) → Type 0
SameSpan xs ys = Each xs (InSpan ys) × Each ys (InSpan xs)

-- the rows, the first with its pivot in column j, have a positive pivot, and 0 in the other columns below k
abbrev pub IsReduced : ℕ → ℕ → List (List ℤ) → Type 0
IsReduced k j [] = Unit {0}
IsReduced k j (row ∷ rows) = (pos 0 <ℤ at row j) × ((e : ℕ) → e < k → e ≢ j → at row e ≡ pos 0) × IsReduced k (suc j) rows

-- n rows of the given span, reduced in the first n columns, each of gcd 1; so the given rows are independent there
pub record IsReducedOf (n : ℕ) (given made : List (List ℤ)) : Type 0 where
  pub count : length made ≡ n
  pub long : (m : ℕ) → OfLength m given → OfLength m made
  pub span : SameSpan given made
  pub reduced : IsReduced n 0 made
  pub primitive : Each made (λ row. content row ≡ 1)
  pub independent : Independent n given

-- a vector other than zero that is orthogonal to each given row cut to n columns
pub record IsKernelOf (n : ℕ) (given : List (List ℤ)) (kernel : List ℤ) : Type 0 where
  pub long : length kernel ≡ n
  pub other : ¬ (IsZero kernel)
  pub orthogonal : IsOrthogonal given kernel

-- what is true of all reduced rows
unfoldable pub HaveForm : List (List ℤ) → Type 0
HaveForm rows = HavePivots 0 rows × IsReduced (length rows) 0 rows × Each rows (λ row. content row ≡ 1)
