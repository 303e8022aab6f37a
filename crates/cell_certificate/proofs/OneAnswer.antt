-- a line is judged in one way, so each answer comes exactly where it has to
use Rattle.std.proofs.Common.{◌≡◌, ◌↔◌, ℕ, List, [], ◌∷◌, refl, sym, ap, subst, ◌∙◌, Option, None, Some, Ok, Err, inl, inr}
use Rattle.wide_int.proofs.Bools.{some_is}
use Rattle.cayley.specs.Problems.{Problem}
use Rattle.cayley.specs.Files.{plain_problem}
use Rattle.cayley.specs.Cells.{Cell}
use Rattle.listing_text.specs.declared.listing.Listing.{Listing}
use Rattle.listing_text.specs.declared.listing.ListedCell.{ListedCell}
use Rattle.cell_certificate.specs.declared.judgement.Judgement.{Judgement}
use Rattle.cell_certificate.specs.declared.judgement.Judgement.TheVariants.{Passes, Unfit, Order, Dependent, NotLevel, NotLeast, NotLowest}
use Rattle.cell_certificate.specs.declared.verdict.Verdict.TheVariants.{Yes, No}
use Rattle.cell_certificate.specs.declared.verdict.CheckFault.TheVariants.{Overflow, OutOfMemory}
use Rattle.cell_certificate.specs.Judgements.{HasSums, HasLevel, HasTies, IsNormalJudged, IsJudged, AllPass, FirstRefused}
use Rattle.cell_certificate.specs.Answers.{Answer, HadMemory, reason_of, WrongAt, TooLargeAt, IsRight, IsWrong, IsTooLarge, IsAnswer}

-- where the sums and the circuits that are needed can be formed, nothing is unfit
pub never_unfit : (p : Problem) (x : ListedCell) → IsNormalJudged p x Unfit → HasSums p x → (HasLevel p x → HasTies p x) → ⊥
never_unfit p x (inl n) s h = n s
never_unfit p x (inr n) s h = n.2 (h n.1)

one_judgement : (p : Problem) (before : Option Cell) (x : ListedCell) (j k : Judgement) → IsJudged p before x j → IsJudged p before x k → j ≡ k
one_judgement p before x Order Order a b = refl
one_judgement p before x Order Unfit a (inl b) = absurd (a b.0)
one_judgement p before x Order Unfit a (inr b) = absurd (a b.0.0)
one_judgement p before x Order Dependent a b = absurd (a b.0)
one_judgement p before x Order NotLevel a b = absurd (a b.0.0)
one_judgement p before x Order NotLeast a b = absurd (a b.0.0)
one_judgement p before x Order NotLowest a b = absurd (a b.0.0)
one_judgement p before x Order Passes a b = absurd (a b.0.0)
one_judgement p before x Unfit Order (inl a) b = absurd (b a.0)
one_judgement p before x Unfit Order (inr a) b = absurd (b a.0.0)
one_judgement p before x Unfit Unfit a b = refl
one_judgement p before x Unfit Dependent (inl a) b = absurd (a.1 b.1)
one_judgement p before x Unfit Dependent (inr a) b = absurd (b.2 a.0.2)
one_judgement p before x Unfit NotLevel (inl a) b = absurd (a.1 b.0.1)
one_judgement p before x Unfit NotLevel (inr a) b = absurd (never_unfit p x a.1 b.1 (λ l. absurd (b.2 l)))
one_judgement p before x Unfit NotLeast (inl a) b = absurd (a.1 b.0.1)
one_judgement p before x Unfit NotLeast (inr a) b = absurd (never_unfit p x a.1 b.1 (λ l. b.3))
one_judgement p before x Unfit NotLowest (inl a) b = absurd (a.1 b.0.1)
one_judgement p before x Unfit NotLowest (inr a) b = absurd (never_unfit p x a.1 b.1 (λ l. b.3))
one_judgement p before x Unfit Passes (inl a) b = absurd (a.1 b.0.1)
one_judgement p before x Unfit Passes (inr a) b = absurd (never_unfit p x a.1 b.1 (λ l. b.3))
one_judgement p before x Dependent Order a b = absurd (b a.0)
one_judgement p before x Dependent Unfit a (inl b) = absurd (b.1 a.1)
one_judgement p before x Dependent Unfit a (inr b) = absurd (a.2 b.0.2)
one_judgement p before x Dependent Dependent a b = refl
one_judgement p before x Dependent NotLevel a b = absurd (a.2 b.0.2)
one_judgement p before x Dependent NotLeast a b = absurd (a.2 b.0.2)
one_judgement p before x Dependent NotLowest a b = absurd (a.2 b.0.2)
one_judgement p before x Dependent Passes a b = absurd (a.2 b.0.2)
one_judgement p before x NotLevel Order a b = absurd (b a.0.0)
one_judgement p before x NotLevel Unfit a (inl b) = absurd (b.1 a.0.1)
one_judgement p before x NotLevel Unfit a (inr b) = absurd (never_unfit p x b.1 a.1 (λ l. absurd (a.2 l)))
one_judgement p before x NotLevel Dependent a b = absurd (b.2 a.0.2)
one_judgement p before x NotLevel NotLevel a b = refl
one_judgement p before x NotLevel NotLeast a b = absurd (a.2 b.2)
one_judgement p before x NotLevel NotLowest a b = absurd (a.2 b.2)
one_judgement p before x NotLevel Passes a b = absurd (a.2 b.2)
one_judgement p before x NotLeast Order a b = absurd (b a.0.0)
one_judgement p before x NotLeast Unfit a (inl b) = absurd (b.1 a.0.1)
one_judgement p before x NotLeast Unfit a (inr b) = absurd (never_unfit p x b.1 a.1 (λ l. a.3))
one_judgement p before x NotLeast Dependent a b = absurd (b.2 a.0.2)
one_judgement p before x NotLeast NotLevel a b = absurd (b.2 a.2)
one_judgement p before x NotLeast NotLeast a b = refl
one_judgement p before x NotLeast NotLowest a b = absurd (a.4 b.4)
one_judgement p before x NotLeast Passes a b = absurd (a.4 b.4)
one_judgement p before x NotLowest Order a b = absurd (b a.0.0)
one_judgement p before x NotLowest Unfit a (inl b) = absurd (b.1 a.0.1)
one_judgement p before x NotLowest Unfit a (inr b) = absurd (never_unfit p x b.1 a.1 (λ l. a.3))
one_judgement p before x NotLowest Dependent a b = absurd (b.2 a.0.2)
one_judgement p before x NotLowest NotLevel a b = absurd (b.2 a.2)
one_judgement p before x NotLowest NotLeast a b = absurd (b.4 a.4)
one_judgement p before x NotLowest NotLowest a b = refl
one_judgement p before x NotLowest Passes a b = absurd (a.5 b.5)
one_judgement p before x Passes Order a b = absurd (b a.0.0)
one_judgement p before x Passes Unfit a (inl b) = absurd (b.1 a.0.1)
one_judgement p before x Passes Unfit a (inr b) = absurd (never_unfit p x b.1 a.1 (λ l. a.3))
one_judgement p before x Passes Dependent a b = absurd (b.2 a.0.2)
one_judgement p before x Passes NotLevel a b = absurd (b.2 a.2)
one_judgement p before x Passes NotLeast a b = absurd (b.4 a.4)
one_judgement p before x Passes NotLowest a b = absurd (b.5 a.5)
one_judgement p before x Passes Passes a b = refl

-- P is never said of a line that passes
abbrev Refuses : Problem → (Option Cell → ListedCell → Type 0) → Type 0
Refuses p P = (before : Option Cell) (x : ListedCell) → P before x → ¬ (IsJudged p before x Passes)

pub none_is : {P : Type 0} (n : ℕ) → None ≡ Some n → P
none_is n e = absurd (subst tells (sym e) tt)
  where
    tells : Option ℕ → Type 0
    tells None = ⊥
    tells (Some m) = Unit {0}

wrong_refuses : (p : Problem) (number reason : ℕ) → Refuses p (WrongAt p number reason)
wrong_refuses p number reason before x w d = none_is reason (sym (ap reason_of (one_judgement p before x w.1.0 Passes w.1.2 d)) ∙ w.1.1)

large_refuses : (p : Problem) (number : ℕ) → Refuses p (TooLargeAt p number)
large_refuses p number before x w d = apart (one_judgement p before x Unfit Passes w.1 d)
  where
    tells : Judgement → Type 0
    tells Unfit = Unit {0}
    tells Passes = ⊥
    tells Order = ⊥
    tells Dependent = ⊥
    tells NotLevel = ⊥
    tells NotLeast = ⊥
    tells NotLowest = ⊥

    apart : Unfit ≡ Passes → ⊥
    apart e = subst tells e tt

passes_all : (p : Problem) (before : Option Cell) (lines : List ListedCell) (P : Option Cell → ListedCell → Type 0) → Refuses p P → AllPass p before lines → FirstRefused p before lines P → ⊥
passes_all p before [] P r a f = f
passes_all p before (x ∷ lines) P r a (inl h) = r before x h a.0
passes_all p before (x ∷ lines) P r a (inr h) = passes_all p (Some x.cell) lines P r a.1 h.1

record Both (P Q : Option Cell → ListedCell → Type 0) : Type 0 where
  before : Option Cell
  line : ListedCell
  first : P before line
  second : Q before line

one_first : (p : Problem) (before : Option Cell) (lines : List ListedCell) (P Q : Option Cell → ListedCell → Type 0) → Refuses p P → Refuses p Q
    → FirstRefused p before lines P → FirstRefused p before lines Q → Both P Q
one_first p before [] P Q r s f g = absurd f
one_first p before (x ∷ lines) P Q r s (inl h) (inl k) = record { before = before; line = x; first = h; second = k }
one_first p before (x ∷ lines) P Q r s (inl h) (inr k) = absurd (r before x h k.0)
one_first p before (x ∷ lines) P Q r s (inr h) (inl k) = absurd (s before x k h.0)
one_first p before (x ∷ lines) P Q r s (inr h) (inr k) = one_first p (Some x.cell) lines P Q r s h.1 k.1

-- which answer it is
is_yes : Answer → Type 0
is_yes (Ok Yes) = Unit {0}
is_yes (Ok (No n k)) = ⊥
is_yes (Err (Overflow n)) = ⊥
is_yes (Err OutOfMemory) = ⊥

is_no : Answer → Type 0
is_no (Ok Yes) = ⊥
is_no (Ok (No n k)) = Unit {0}
is_no (Err (Overflow n)) = ⊥
is_no (Err OutOfMemory) = ⊥

is_large : Answer → Type 0
is_large (Ok Yes) = ⊥
is_large (Ok (No n k)) = ⊥
is_large (Err (Overflow n)) = Unit {0}
is_large (Err OutOfMemory) = ⊥

pub yes_exactly : (listing : Listing) (r : Answer) → IsAnswer listing r → HadMemory r → (r ≡ Ok Yes) ↔ IsRight listing
unfolding is_yes
yes_exactly listing (Ok Yes) a m = ((λ e. a), (λ h. refl))
yes_exactly listing (Ok (No n k)) a m = (
  (λ e. absurd (subst is_yes (sym e) tt)),
  (λ h. absurd (passes_all (plain_problem listing.file) None listing.cells.items _ (wrong_refuses (plain_problem listing.file) n k) h a)),
)
yes_exactly listing (Err (Overflow n)) a m = (
  (λ e. absurd (subst is_yes (sym e) tt)),
  (λ h. absurd (passes_all (plain_problem listing.file) None listing.cells.items _ (large_refuses (plain_problem listing.file) n) h a)),
)
yes_exactly listing (Err OutOfMemory) a m = absurd m

same_wrong : (p : Problem) (n k m l : ℕ) → Both (WrongAt p n k) (WrongAt p m l) → (n ≡ m) × (k ≡ l)
same_wrong p n k m l b = (
  sym b.first.0 ∙ b.second.0,
  some_is k l (sym b.first.1.1 ∙ ap reason_of (one_judgement p b.before b.line b.first.1.0 b.second.1.0 b.first.1.2 b.second.1.2) ∙ b.second.1.1),
)

not_both : (p : Problem) (n k m : ℕ) → Both (WrongAt p n k) (TooLargeAt p m) → ⊥
not_both p n k m b = none_is k (sym (ap reason_of (one_judgement p b.before b.line b.first.1.0 Unfit b.first.1.2 b.second.1)) ∙ b.first.1.1)

pub no_exactly : (listing : Listing) (r : Answer) → IsAnswer listing r → HadMemory r → (number reason : ℕ) → (r ≡ Ok (No number reason)) ↔ IsWrong listing number reason
unfolding is_no
no_exactly listing (Ok Yes) a m number reason = (
  (λ e. absurd (subst is_no (sym e) tt)),
  (λ h. absurd (passes_all (plain_problem listing.file) None listing.cells.items _ (wrong_refuses (plain_problem listing.file) number reason) a h)),
)
no_exactly listing (Ok (No n k)) a m number reason = (
  (λ e. subst (IsAnswer listing) e a),
  (λ h.
      let p = plain_problem listing.file in
      let s = same_wrong p n k number reason (one_first p None listing.cells.items _ _ (wrong_refuses p n k) (wrong_refuses p number reason) a h) in
      ap (λ z. Ok (No z k)) s.0 ∙ ap (λ z. Ok (No number z)) s.1),
)
no_exactly listing (Err (Overflow n)) a m number reason = (
  (λ e. absurd (subst is_no (sym e) tt)),
  (λ h.
      let p = plain_problem listing.file in
      absurd (not_both p number reason n (one_first p None listing.cells.items _ _ (wrong_refuses p number reason) (large_refuses p n) h a))),
)
no_exactly listing (Err OutOfMemory) a m number reason = absurd m

pub overflow_exactly : (listing : Listing) (r : Answer) → IsAnswer listing r → HadMemory r → (number : ℕ) → (r ≡ Err (Overflow number)) ↔ IsTooLarge listing number
unfolding is_large
overflow_exactly listing (Ok Yes) a m number = (
  (λ e. absurd (subst is_large (sym e) tt)),
  (λ h. absurd (passes_all (plain_problem listing.file) None listing.cells.items _ (large_refuses (plain_problem listing.file) number) a h)),
)
overflow_exactly listing (Ok (No n k)) a m number = (
  (λ e. absurd (subst is_large (sym e) tt)),
  (λ h.
      let p = plain_problem listing.file in
      absurd (not_both p n k number (one_first p None listing.cells.items _ _ (wrong_refuses p n k) (large_refuses p number) a h))),
)
overflow_exactly listing (Err (Overflow n)) a m number = (
  (λ e. subst (IsAnswer listing) e a),
  (λ h.
      let p = plain_problem listing.file in
      let b = one_first p None listing.cells.items _ _ (large_refuses p n) (large_refuses p number) a h in
      ap (λ z. Err (Overflow z)) (sym b.first.0 ∙ b.second.0)),
)
overflow_exactly listing (Err OutOfMemory) a m number = absurd m
