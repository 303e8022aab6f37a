-- a listing that was written is refused for the sum of a pair's own second point alone
use Rattle.std.proofs.Common.{◌≡◌, ℕ, List, [], ◌∷◌, map, subst, Option, None, Some, Ok, Err, inl, inr}
use Rattle.int_vectors.specs.Vectors.{Each}
use Rattle.cayley.specs.Times.{time_zero}
use Rattle.cayley.specs.Problems.{Problem}
use Rattle.cayley.specs.Files.{File, plain_problem}
use Rattle.cayley.specs.Valid.{IsValidFile}
use Rattle.cayley.specs.Cells.{Cell, IsSorted, IsIndependent}
use Rattle.cayley.specs.Normals.{IsNormal}
use Rattle.cayley.specs.Mixed.{IsAlive, IsMixedCell, IsLowestNormal}
use Rattle.cayley.proofs.OneCell.OneNormal.{all_above_any}
use Rattle.cayley.proofs.Ranking.PlainProblems.{plain_valid}
use Rattle.listing_text.specs.declared.listing.Listing.{Listing}
use Rattle.listing_text.specs.declared.listing.ListedCell.{ListedCell}
use Rattle.cell_certificate.specs.declared.judgement.Judgement.{Judgement}
use Rattle.cell_certificate.specs.declared.judgement.Judgement.TheVariants.{Passes, Unfit, Order, Dependent, NotLevel, NotLeast, NotLowest}
use Rattle.cell_certificate.specs.declared.verdict.Verdict.TheVariants.{Yes, No}
use Rattle.cell_certificate.specs.declared.verdict.CheckFault.TheVariants.{Overflow, OutOfMemory}
use Rattle.cell_certificate.specs.Judgements.{IsJudged, FirstRefused, FitsRows, HasLevel, HasTies, HasLeast, HasLowest}
use Rattle.cell_certificate.specs.Tests.{Follows}
use Rattle.cell_certificate.specs.Sums.{FitsOwn, FitsFurther}
use Rattle.cell_certificate.specs.Answers.{Answer, IsAnswer, WrongAt, TooLargeAt, reason_of}
use Rattle.cell_certificate.specs.Written.{IsListed, AreListed, IsWritten, FitsWritten, SparesWritten}
use Rattle.cell_certificate.proofs.OneAnswer.{never_unfit, none_is}
use Rattle.cell_certificate.proofs.LowestLevel.{lowest_level}
use Rattle.cell_certificate.proofs.PlainPoints.{own_points}
use Rattle.cell_certificate.proofs.WorkedSums.{further_fits}

-- what is right of a line
record Right (p : Problem) (x : ListedCell) : Type 0 where
  rows : FitsRows p x
  independent : IsIndependent p x.cell
  further : FitsFurther p x.cell x.normal.v x.normal.den
  level : HasLevel p x
  ties : HasTies p x
  least : HasLeast p x
  lowest : HasLowest x

-- the first line follows the cell before
Starts : Option Cell → List ListedCell → Type 0
Starts before [] = Unit {0}
Starts before (x ∷ lines) = Follows before x.cell

module _ (file : File) (valid : IsValidFile file) where
  line_right : (x : ListedCell) → IsListed (plain_problem file) x → IsMixedCell (plain_problem file) x.cell → IsLowestNormal (plain_problem file) x.cell x.normal.v x.normal.den
      → FitsWritten (plain_problem file) x.cell → Right (plain_problem file) x
  line_right x l m n w =
      let p = plain_problem file in
      let well = (plain_valid file valid).shape.problem in
      let alive = subst (λ q. IsAlive q x.cell time_zero) (own_points file valid) m in
      let level = lowest_level p x.cell l.0 x.normal.v x.normal.den n.2.0 l.1 n.0 (subst (λ q. IsNormal q x.cell time_zero n.2.0) (own_points file valid) n.2.1) n.2.2 in
      record {
        rows = w.0;
        independent = alive.1;
        further = further_fits p x.cell well l.0 alive.1 x.normal.den x.normal.v l.1 n.0 n.1 level w;
        level = level;
        ties = λ v made e j c f z. (w.1 made e.1).1 v j c f;
        least = λ u n. all_above_any p x.cell time_zero u well n alive;
        lowest = n.1;
      }

  all_right : (lines : List ListedCell) → Each lines (IsListed (plain_problem file)) → Each lines (λ x. IsMixedCell (plain_problem file) x.cell)
      → Each lines (λ x. IsLowestNormal (plain_problem file) x.cell x.normal.v x.normal.den) → Each lines (λ x. FitsWritten (plain_problem file) x.cell) → Each lines (Right (plain_problem file))
  all_right [] l m n w = tt
  all_right (x ∷ lines) l m n w = (line_right x l.0 m.0 n.0 w.0, all_right lines l.1 m.1 n.1 w.1)

next_starts : (x : ListedCell) (lines : List ListedCell) → IsSorted (map (λ (y : ListedCell). y.cell) (x ∷ lines)) → Starts (Some x.cell) lines × IsSorted (map (λ (y : ListedCell). y.cell) lines)
unfolding Starts
next_starts x [] s = (tt, tt)
next_starts x (y ∷ lines) s = s

-- no reason applies
no_reason : (p : Problem) (before : Option Cell) (x : ListedCell) (reason : ℕ) (j : Judgement) → Follows before x.cell → Right p x → reason_of j ≡ Some reason → IsJudged p before x j → ⊥
no_reason p before x reason Passes f r e d = none_is reason e
no_reason p before x reason Unfit f r e d = none_is reason e
no_reason p before x reason Order f r e d = d f
no_reason p before x reason Dependent f r e d = d.2 r.independent
no_reason p before x reason NotLevel f r e d = d.2 r.level
no_reason p before x reason NotLeast f r e d = d.4 r.least
no_reason p before x reason NotLowest f r e d = d.5 r.lowest

no_wrong : (p : Problem) (before : Option Cell) (lines : List ListedCell) (number reason : ℕ) → Starts before lines → IsSorted (map (λ (x : ListedCell). x.cell) lines) → Each lines (Right p)
    → FirstRefused p before lines (WrongAt p number reason) → ⊥
unfolding Starts
no_wrong p before [] number reason f s r w = w
no_wrong p before (x ∷ lines) number reason f s r (inl w) = no_reason p before x reason w.1.0 f r.0 w.1.1 w.1.2
no_wrong p before (x ∷ lines) number reason f s r (inr w) = let n = next_starts x lines s in no_wrong p (Some x.cell) lines number reason n.0 n.1 r.1 w.1

own_unfit : (p : Problem) (before : Option Cell) (x : ListedCell) → Right p x → IsJudged p before x Unfit → ¬ (FitsOwn p x.cell x.normal.v x.normal.den)
own_unfit p before x r (inl d) o = d.1 r.rows
own_unfit p before x r (inr d) o = never_unfit p x d.1 (o, r.further) (λ l. r.ties)

own_large : (p : Problem) (before : Option Cell) (lines : List ListedCell) (number : ℕ) → Each lines (Right p) → FirstRefused p before lines (TooLargeAt p number)
    → FirstRefused p before lines (λ before x. (x.line ≡ number) × ¬ (FitsOwn p x.cell x.normal.v x.normal.den))
own_large p before [] number r w = w
own_large p before (x ∷ lines) number r (inl w) = inl (w.0, own_unfit p before x r.0 w.1)
own_large p before (x ∷ lines) number r (inr w) = inr (w.0, own_large p (Some x.cell) lines number r.1 w.1)

starts_none : (lines : List ListedCell) → Starts None lines
unfolding Starts
starts_none [] = tt
starts_none (x ∷ lines) = tt

pub written_spared : (listing : Listing) (r : Answer) → IsValidFile listing.file → AreListed listing → IsAnswer listing r → IsWritten listing → SparesWritten listing r
written_spared listing (Ok Yes) valid l a w = tt
written_spared listing (Ok (No number reason)) valid l a w =
    no_wrong (plain_problem listing.file) None listing.cells.items number reason (starts_none listing.cells.items) w.mixed.sorted
    (all_right listing.file valid listing.cells.items l w.mixed.cells w.mixed.normals w.workings) a
written_spared listing (Err (Overflow number)) valid l a w =
    own_large (plain_problem listing.file) None listing.cells.items number
    (all_right listing.file valid listing.cells.items l w.mixed.cells w.mixed.normals w.workings) a
written_spared listing (Err OutOfMemory) valid l a w = tt
