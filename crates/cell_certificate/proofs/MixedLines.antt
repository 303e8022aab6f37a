-- lines that pass are mixed cells with their normals in lowest terms, in cell order
use Rattle.std.proofs.Common.{◌≡◌, List, [], ◌∷◌, map, refl, sym, ap, subst, Option, None, Some}
use Rattle.std.proofs.Math.IntN.{ℤ}
use Rattle.int_vectors.specs.Vectors.{Each, at}
use Rattle.cayley.specs.Times.{time_zero}
use Rattle.cayley.specs.Problems.{Problem}
use Rattle.cayley.specs.Files.{File, plain_problem}
use Rattle.cayley.specs.Valid.{IsValidFile}
use Rattle.cayley.specs.Cells.{Cell, IsSorted, IsIndependent}
use Rattle.cayley.specs.Normals.{Normal, IsNormal}
use Rattle.cayley.specs.Mixed.{IsAlive, IsMixedCell, IsLowestNormal}
use Rattle.listing_text.specs.declared.listing.Listing.{Listing}
use Rattle.listing_text.specs.declared.listing.ListedCell.{ListedCell}
use Rattle.cell_certificate.specs.declared.judgement.Judgement.TheVariants.{Passes}
use Rattle.cell_certificate.specs.Judgements.{IsJudged, AllPass}
use Rattle.cell_certificate.specs.Answers.{IsRight}
use Rattle.cell_certificate.specs.Written.{IsListed, AreListed, AreMixed}
use Rattle.cell_certificate.proofs.FirstEntries.{first_entries_of}
use Rattle.cell_certificate.proofs.Levels.{level_from}
use Rattle.cell_certificate.proofs.PlainPoints.{own_points}
use Rattle.cayley.proofs.OneCell.CellNormals.{a_normal}
use Rattle.cayley.proofs.Ranking.PlainProblems.{plain_valid}

pub first_entries : (v : List ℤ) → map (λ (e : List ℤ). at e 0) (map (λ (x : ℤ). x ∷ []) v) ≡ v
first_entries [] = refl
first_entries (x ∷ v) = ap (λ l. x ∷ l) (first_entries v)

module _ (file : File) (valid : IsValidFile file) where
  some_normal : (x : ListedCell) → IsListed (plain_problem file) x → IsIndependent (plain_problem file) x.cell → (w : Normal) × IsNormal (plain_problem file) x.cell time_zero w
  some_normal x l ind = a_normal (plain_problem file) x.cell (plain_valid file valid).shape.problem l.0 ind time_zero

  line_mixed : (before : Option Cell) (x : ListedCell) → IsListed (plain_problem file) x → IsJudged (plain_problem file) before x Passes → IsMixedCell (plain_problem file) x.cell
  line_mixed before x l d =
      let n = some_normal x l d.0.2 in
      subst (λ q. IsAlive q x.cell time_zero) (sym (own_points file valid))
      (l.0, d.0.2, (n.0, n.1, d.4 n.0 n.1))

  line_lowest : (before : Option Cell) (x : ListedCell) → IsListed (plain_problem file) x → IsJudged (plain_problem file) before x Passes
      → IsLowestNormal (plain_problem file) x.cell x.normal.v x.normal.den
  line_lowest before x l d =
      let p = plain_problem file in
      let n = some_normal x l d.0.2 in
      let levels = level_from p x.cell l.0 x.normal.v x.normal.den d.2 in (
        d.2.0,
        d.5,
        (
          n.0,
          subst (λ q. IsNormal q x.cell time_zero n.0) (sym (own_points file valid)) n.1,
          first_entries_of p x.cell x.normal.v x.normal.den n.0 l.1 d.0.2 levels n.1,
        ),
      )

  all_mixed : (before : Option Cell) (lines : List ListedCell) → Each lines (IsListed (plain_problem file)) → AllPass (plain_problem file) before lines
      → Each lines (λ x. IsMixedCell (plain_problem file) x.cell)
  all_mixed before [] l a = tt
  all_mixed before (x ∷ lines) l a = (line_mixed before x l.0 a.0, all_mixed (Some x.cell) lines l.1 a.1)

  all_lowest : (before : Option Cell) (lines : List ListedCell) → Each lines (IsListed (plain_problem file)) → AllPass (plain_problem file) before lines
      → Each lines (λ x. IsLowestNormal (plain_problem file) x.cell x.normal.v x.normal.den)
  all_lowest before [] l a = tt
  all_lowest before (x ∷ lines) l a = (line_lowest before x l.0 a.0, all_lowest (Some x.cell) lines l.1 a.1)

all_sorted : (p : Problem) (before : Option Cell) (lines : List ListedCell) → AllPass p before lines → IsSorted (map (λ (x : ListedCell). x.cell) lines)
all_sorted p before [] a = tt
all_sorted p before (x ∷ []) a = tt
all_sorted p before (x ∷ y ∷ lines) a = (a.1.0.0.0, all_sorted p (Some x.cell) (y ∷ lines) a.1)

pub right_mixed : (listing : Listing) → IsValidFile listing.file → AreListed listing → IsRight listing → AreMixed listing
right_mixed listing valid l a = record {
  sorted = all_sorted (plain_problem listing.file) None listing.cells.items a;
  cells = all_mixed listing.file valid None listing.cells.items l a;
  normals = all_lowest listing.file valid None listing.cells.items l a;
}
