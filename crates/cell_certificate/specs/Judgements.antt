-- What is said of a line: its tests in their order, of which the first that fails decides.
use Rattle.std.specs.Prelude.{◌⊎◌, List, [], ◌∷◌, Option, Some}
use Rattle.reduced_rows.specs.Steps.{FitsElimination}
use Rattle.cayley.specs.Rows.{edge_rows}
use Rattle.cayley.specs.Problems.{Problem}
use Rattle.cayley.specs.Cells.{Cell, IsIndependent}
use Rattle.cayley.specs.Mixed.{IsCoprime}
use Rattle.listing_text.specs.declared.listing.ListedCell.{ListedCell}
use Rattle.cell_certificate.specs.declared.judgement.Judgement.{Judgement}
use Rattle.cell_certificate.specs.declared.judgement.Judgement.TheVariants.{Passes, Unfit, Order, Dependent, NotLevel, NotLeast, NotLowest}
use Rattle.cell_certificate.specs.Sums.{FitsSums}
use Rattle.cell_certificate.specs.Tests.{Follows, IsLevelAt, IsLeast, FitsTies}

-- the elimination of the cell's rows, with its kernel, fits
abbrev pub FitsRows : Problem → ListedCell → Type 0
FitsRows p x = FitsElimination p.dimension (edge_rows p x.cell)

-- all sums of the line fit
abbrev pub HasSums : Problem → ListedCell → Type 0
HasSums p x = FitsSums p x.cell x.normal.v x.normal.den

abbrev pub HasLevel : Problem → ListedCell → Type 0
HasLevel p x = IsLevelAt p x.cell x.normal.v x.normal.den

-- the circuits by which points of sum 0 are told can be formed
abbrev pub HasTies : Problem → ListedCell → Type 0
HasTies p x = FitsTies p x.cell x.normal.v x.normal.den

abbrev pub HasLeast : Problem → ListedCell → Type 0
HasLeast p x = IsLeast p x.cell

abbrev pub HasLowest : ListedCell → Type 0
HasLowest x = IsCoprime (x.normal.den ∷ x.normal.v)

-- what stands before the tests of the normal: the cell is greater than the one before, its elimination fits, and it is independent
abbrev pub HasGoodCell : Problem → Option Cell → ListedCell → Type 0
HasGoodCell p before x = Follows before x.cell × FitsRows p x × IsIndependent p x.cell

-- of a line with a good cell: what its normal shows
abbrev pub IsNormalJudged : Problem → ListedCell → Judgement → Type 0
IsNormalJudged p x Order = ⊥
IsNormalJudged p x Dependent = ⊥
IsNormalJudged p x Unfit = ¬ (HasSums p x) ⊎ (HasSums p x × HasLevel p x × ¬ (HasTies p x))
IsNormalJudged p x NotLevel = HasSums p x × ¬ (HasLevel p x)
IsNormalJudged p x NotLeast = HasSums p x × HasLevel p x × HasTies p x × ¬ (HasLeast p x)
IsNormalJudged p x NotLowest = HasSums p x × HasLevel p x × HasTies p x × HasLeast p x × ¬ (HasLowest x)
IsNormalJudged p x Passes = HasSums p x × HasLevel p x × HasTies p x × HasLeast p x × HasLowest x

-- a line, after the cell of the line before, is judged so
abbrev pub IsJudged : Problem → Option Cell → ListedCell → Judgement → Type 0
IsJudged p before x Order = ¬ (Follows before x.cell)
IsJudged p before x Dependent = Follows before x.cell × FitsRows p x × ¬ (IsIndependent p x.cell)
IsJudged p before x Unfit = (Follows before x.cell × ¬ (FitsRows p x)) ⊎ (HasGoodCell p before x × IsNormalJudged p x Unfit)
IsJudged p before x NotLevel = HasGoodCell p before x × HasSums p x × ¬ (HasLevel p x)
IsJudged p before x NotLeast = HasGoodCell p before x × HasSums p x × HasLevel p x × HasTies p x × ¬ (HasLeast p x)
IsJudged p before x NotLowest = HasGoodCell p before x × HasSums p x × HasLevel p x × HasTies p x × HasLeast p x × ¬ (HasLowest x)
IsJudged p before x Passes = HasGoodCell p before x × HasSums p x × HasLevel p x × HasTies p x × HasLeast p x × HasLowest x

-- every line passes, after the cell of the line before
abbrev pub AllPass : Problem → Option Cell → List ListedCell → Type 0
AllPass p before [] = Unit {0}
AllPass p before (x ∷ lines) = IsJudged p before x Passes × AllPass p (Some x.cell) lines

-- P holds of the first line that doesn't pass
abbrev pub FirstRefused : Problem → Option Cell → List ListedCell → (Option Cell → ListedCell → Type 0) → Type 0
FirstRefused p before [] P = ⊥
FirstRefused p before (x ∷ lines) P = P before x ⊎ (IsJudged p before x Passes × FirstRefused p (Some x.cell) lines P)
