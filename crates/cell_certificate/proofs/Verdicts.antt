-- what is known of the lines one after the other
use Rattle.std.proofs.Common.{◌≡◌, ℕ, zero, suc, ◌+◌, ◌<◌, List, [], ◌∷◌, length, drop, get_or, drop-cons, add-one, arith, refl, sym, ap, subst, ◌∙◌, Option, None, Some, inl}
use Rattle.std.specs.Prelude.{unwrap_or}
use Rattle.int_vectors.specs.Vectors.{Each}
use Rattle.cayley.specs.Problems.{Problem}
use Rattle.cayley.specs.Files.{plain_problem}
use Rattle.cayley.specs.Cells.{Cell}
use Rattle.listing_text.specs.declared.listing.Listing.{Listing}
use Rattle.listing_text.specs.declared.listing.ListedCell.{ListedCell}
use Rattle.cell_certificate.specs.declared.judgement.Judgement.{Judgement}
use Rattle.cell_certificate.specs.declared.judgement.Judgement.TheVariants.{Passes, Unfit, Order, Dependent, NotLevel, NotLeast, NotLowest}
use Rattle.cell_certificate.specs.Judgements.{IsJudged, FirstRefused}
use Rattle.cell_certificate.specs.Answers.{Answer, WrongAt, TooLargeAt, IsWrong, IsTooLarge, IsAnswer, IsStop}
use Rattle.cell_certificate.specs.Written.{IsListed}

pub listed_at : (p : Problem) (lines : List ListedCell) (k : ℕ) (x : ListedCell) → Each lines (IsListed p) → k < length lines → x ≡ get_or lines k x → IsListed p x
listed_at p [] k x e h i = absurd (omega arith)
listed_at p (y ∷ lines) zero x e h i = subst (IsListed p) (sym i) e.0
listed_at p (y ∷ lines) (suc k) x e h i = listed_at p lines k x e.1 (omega arith) i

pub left_is : (lines : List ListedCell) (k : ℕ) (x : ListedCell) → k < length lines → x ≡ get_or lines k x → drop k lines ≡ x ∷ drop (k + 1) lines
left_is lines k x h i = rw add-one (drop-cons lines k x h ∙ ap (λ y. y ∷ drop (suc k) lines) (sym i))

some_is : (a b : Answer) → Some a ≡ Some b → a ≡ b
some_is a b e = ap (λ o. unwrap_or o a) e

abbrev tells : Option Answer → Type 0
tells None = ⊥
tells (Some a) = Unit {0}

-- the answer at a line that doesn't pass
module _ (listing : Listing) (before : Option Cell) (x : ListedCell) (rest : List ListedCell)
    (wrong : (number reason : ℕ) → FirstRefused (plain_problem listing.file) before (x ∷ rest) (WrongAt (plain_problem listing.file) number reason) → IsWrong listing number reason)
    (large : (number : ℕ) → FirstRefused (plain_problem listing.file) before (x ∷ rest) (TooLargeAt (plain_problem listing.file) number) → IsTooLarge listing number) where
  pub stopped : (j : Judgement) (answer : Answer) → IsStop x.line j (Some answer) → IsJudged (plain_problem listing.file) before x j → IsAnswer listing answer
  stopped Passes answer s d = absurd (subst tells s tt)
  stopped Unfit answer s d = subst (IsAnswer listing) (sym (some_is answer _ s)) (large x.line (inl (refl, d)))
  stopped Order answer s d = subst (IsAnswer listing) (sym (some_is answer _ s)) (wrong x.line 1 (inl (refl, (Order, refl, d))))
  stopped Dependent answer s d = subst (IsAnswer listing) (sym (some_is answer _ s)) (wrong x.line 2 (inl (refl, (Dependent, refl, d))))
  stopped NotLevel answer s d = subst (IsAnswer listing) (sym (some_is answer _ s)) (wrong x.line 3 (inl (refl, (NotLevel, refl, d))))
  stopped NotLeast answer s d = subst (IsAnswer listing) (sym (some_is answer _ s)) (wrong x.line 4 (inl (refl, (NotLeast, refl, d))))
  stopped NotLowest answer s d = subst (IsAnswer listing) (sym (some_is answer _ s)) (wrong x.line 5 (inl (refl, (NotLowest, refl, d))))

-- no answer: the line passes
pub went_on : (p : Problem) (before : Option Cell) (x : ListedCell) (number : ℕ) (j : Judgement) → IsStop number j None → IsJudged p before x j → IsJudged p before x Passes
went_on p before x number Passes s d = d
went_on p before x number Unfit s d = absurd (subst tells (sym s) tt)
went_on p before x number Order s d = absurd (subst tells (sym s) tt)
went_on p before x number Dependent s d = absurd (subst tells (sym s) tt)
went_on p before x number NotLevel s d = absurd (subst tells (sym s) tt)
went_on p before x number NotLeast s d = absurd (subst tells (sym s) tt)
went_on p before x number NotLowest s d = absurd (subst tells (sym s) tt)
