-- The answer of a checker and what is said of its input tell one another.
use Rattle.std.proofs.Common.{◌≡◌, ◌↔◌, ℕ, List, Ok, Err, refl, sym, subst}
use Rattle.cell_certificate.specs.declared.verdict.Verdict.TheVariants.{Yes, No}
use Rattle.cell_certificate.specs.declared.verdict.CheckFault.TheVariants.{Overflow, OutOfMemory}
use Rattle.cell_certificate.specs.Answers.{Answer, HadMemory}
use Rattle.mixedcells.specs.declared.outcome.Outcome.{Outcome}
use Rattle.mixedcells.specs.declared.outcome.Outcome.TheVariants as variant
use Rattle.mixedcells.specs.Judging.{TellsAnswer, IsJudgedAs}

-- the outcome that tells an answer of the checker
abbrev pub outcome_of : Answer → Outcome
outcome_of (Ok Yes) = variant.Ok
outcome_of (Ok (No line reason)) = variant.No line reason
outcome_of (Err (Overflow line)) = variant.OverflowLine line
outcome_of (Err OutOfMemory) = variant.OutOfMemory

module _ (Right : Type 0) (Wrong : ℕ → ℕ → Type 0) (TooLarge : ℕ → Type 0) where
  -- the answer behind what is said
  module _ (Says : Answer → Type 0) (right : Right → Says (Ok Yes)) (wrong : (line reason : ℕ) → Wrong line reason → Says (Ok (No line reason))) (large : (line : ℕ) → TooLarge line → Says (Err (Overflow line))) where
    pub judged_answer : (o : Outcome) (t : List ℕ) → IsJudgedAs Right Wrong TooLarge o t → (r : Answer) × HadMemory r × Says r × (o ≡ outcome_of r)
    judged_answer variant.Ok t h = (Ok Yes, tt, right h.1, refl)
    judged_answer (variant.No line reason) t h = (Ok (No line reason), tt, wrong line reason h.1, refl)
    judged_answer (variant.OverflowLine line) t h = (Err (Overflow line), tt, large line h.1, refl)
    judged_answer variant.Usage t h = absurd h
    judged_answer (variant.Format line kind) t h = absurd h
    judged_answer (variant.OverflowCell cell) t h = absurd h
    judged_answer variant.ReadFault t h = absurd h
    judged_answer variant.WriteFault t h = absurd h
    judged_answer variant.OutOfMemory t h = absurd h
    judged_answer variant.TooLong t h = absurd h
    judged_answer (variant.TooMany choices) t h = absurd h
    judged_answer (variant.Tie proof) t h = absurd h
    judged_answer variant.NeedsTeam t h = absurd h

  -- what is said by an answer that comes exactly where it has to
  pub told_answer : (r : Answer) → (HadMemory r → (r ≡ Ok Yes) ↔ Right) → (HadMemory r → (line reason : ℕ) → (r ≡ Ok (No line reason)) ↔ Wrong line reason)
      → (HadMemory r → (line : ℕ) → (r ≡ Err (Overflow line)) ↔ TooLarge line) → (o : Outcome) (t : List ℕ) → TellsAnswer r o t → IsJudgedAs Right Wrong TooLarge o t
  told_answer (Ok Yes) right wrong large o t told = subst (λ q. IsJudgedAs Right Wrong TooLarge q t) (sym told.0) (told.1, (right tt).0 refl)
  told_answer (Ok (No line reason)) right wrong large o t told = subst (λ q. IsJudgedAs Right Wrong TooLarge q t) (sym told.0) (told.1, (wrong tt line reason).0 refl)
  told_answer (Err (Overflow line)) right wrong large o t told = subst (λ q. IsJudgedAs Right Wrong TooLarge q t) (sym told.0) (told.1, (large tt line).0 refl)
  told_answer (Err OutOfMemory) right wrong large o t told = absurd told
