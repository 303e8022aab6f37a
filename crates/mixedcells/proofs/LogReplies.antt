-- What `verify` replies is one answer of its checker, which comes exactly where the log asks for it.
use Rattle.std.proofs.Common.{◌≡◌, ◌↔◌, ◌∙◌, ℕ, List, Ok, Err, sym, ap, subst, inl, inr}
use Rattle.cayley.specs.Files.{File}
use Rattle.cayley.specs.Problems.{IsStill}
use Rattle.cayley.specs.Paths.{path}
use Rattle.cayley.specs.Valid.{IsValidFile, IsValidProblem}
use Rattle.start_system.proofs.Making.ValidPaths.{path_valid}
use Rattle.start_system.proofs.Started.SearchLaws.{path_law}
use Rattle.support_text.specs.declared.fault.FormatFault.{FormatFault}
use Rattle.cell_certificate.specs.declared.verdict.Verdict.TheVariants.{Yes, No}
use Rattle.cell_certificate.specs.declared.verdict.CheckFault.TheVariants.{Overflow, OutOfMemory}
use Rattle.cell_certificate.specs.Answers.{Answer, HadMemory}
use Rattle.path_log.specs.declared.log.PathLog.{PathLog}
use Rattle.path_log.specs.LogText.{Log, log_of, log_in}
use Rattle.path_log.specs.Forms.{IsFormedLog}
use Rattle.path_log.proofs.LogForms.{log_formed}
use Rattle.log_check.specs.Verdicts.{path_in, IsRightLog, IsWrongLog, IsTooLargeLog, IsVerdict}
use Rattle.log_check.proofs.OneRefusal.{yes_exactly, no_exactly, overflow_exactly}
use Rattle.log_check.proofs.SameLogs.{same_verdict}
use Rattle.mixedcells.specs.declared.outcome.Outcome.{Outcome}
use Rattle.mixedcells.specs.declared.outcome.Outcome.TheVariants as variant
use Rattle.mixedcells.specs.Logs.{IsLogText, IsJudgedLog, TellsLog}
use Rattle.mixedcells.specs.Answers.{IsLogReply}
use Rattle.mixedcells.proofs.Judging.{outcome_of, judged_answer}
use Rattle.mixedcells.proofs.Readings.{ok_once, err_once, not_both}

-- the answer behind what is said of a log
pub log_answer : (log : PathLog) (o : Outcome) (t : List ℕ) → IsJudgedLog log o t → (r : Answer) × HadMemory r × IsVerdict log r × (o ≡ outcome_of r)
log_answer log o t h = judged_answer (IsRightLog log) (IsWrongLog log) (IsTooLargeLog log) (IsVerdict log) (λ a. a) (λ line reason a. a) (λ line a. a) o t h

-- a log that was read is of a valid file
pub log_valid : (bytes : List ℕ) (log : PathLog) → IsLogText bytes log → IsValidFile log.file
log_valid bytes log text = let formed : IsFormedLog (log_in log) = log_formed bytes (log_in log) text in formed.file

pub same_log : (bytes : List ℕ) (l k : PathLog) → IsLogText bytes l → IsLogText bytes k → log_in l ≡ log_in k
same_log bytes l k e f = ok_once (log_of bytes) (log_in l) (log_in k) e f

module _ (log : PathLog) (file_valid : IsValidFile log.file) where
  valid : IsValidProblem (path_in log)
  valid = path_valid log.file file_valid

  still : IsStill (path_in log)
  still = (path_law log.file file_valid).1

  pub one_log_answer : (r s : Answer) → HadMemory r → HadMemory s → IsVerdict log r → IsVerdict log s → r ≡ s
  one_log_answer r (Ok Yes) m n a b = (yes_exactly log valid still r a m).1 b
  one_log_answer r (Ok (No line reason)) m n a b = (no_exactly log valid still r a m line reason).1 b
  one_log_answer r (Err (Overflow line)) m n a b = (overflow_exactly log valid still r a m line).1 b
  one_log_answer r (Err OutOfMemory) m n a b = absurd n

  -- an outcome that tells an answer is told exactly where the answer comes
  only : (r s : Answer) → HadMemory r → HadMemory s → IsVerdict log r → (o : Outcome) → o ≡ outcome_of r → IsVerdict log s → o ≡ outcome_of s
  only r s m n a o e b = e ∙ ap outcome_of (one_log_answer r s m n a b)

  told : (r : Answer) → HadMemory r → IsVerdict log r → (o : Outcome) → o ≡ outcome_of r → TellsLog log o
  told r m a o e = record {
    yes = ((λ f. back (Ok Yes) (told_yes r (sym e ∙ f))), (λ b. only r (Ok Yes) m tt a o e b));
    no = λ line reason. ((λ f. back (Ok (No line reason)) (told_no r line reason (sym e ∙ f))), (λ b. only r (Ok (No line reason)) m tt a o e b));
    overflow = λ line. ((λ f. back (Err (Overflow line)) (told_large r line (sym e ∙ f))), (λ b. only r (Err (Overflow line)) m tt a o e b));
  }
    where
      back : (s : Answer) → r ≡ s → IsVerdict log s
      back s f = subst (IsVerdict log) f a

      told_yes : (r : Answer) → outcome_of r ≡ variant.Ok → r ≡ Ok Yes
      told_yes (Ok Yes) f = cc
      told_yes (Ok (No line reason)) f = cc
      told_yes (Err (Overflow line)) f = cc
      told_yes (Err OutOfMemory) f = cc

      told_no : (r : Answer) (line reason : ℕ) → outcome_of r ≡ variant.No line reason → r ≡ Ok (No line reason)
      told_no (Ok Yes) line reason f = cc
      told_no (Ok (No l k)) line reason f = cc
      told_no (Err (Overflow l)) line reason f = cc
      told_no (Err OutOfMemory) line reason f = cc

      told_large : (r : Answer) (line : ℕ) → outcome_of r ≡ variant.OverflowLine line → r ≡ Err (Overflow line)
      told_large (Ok Yes) line f = cc
      told_large (Ok (No l k)) line f = cc
      told_large (Err (Overflow l)) line f = cc
      told_large (Err OutOfMemory) line f = cc

one_judged : (bytes : List ℕ) (l k : PathLog) (o q : Outcome) (t u : List ℕ) → IsLogText bytes l → IsLogText bytes k → IsJudgedLog l o t → IsJudgedLog k q u → o ≡ q
one_judged bytes l k o q t u e f h g =
    let a = log_answer l o t h in
    let b = log_answer k q u g in
    a.3 ∙ ap outcome_of (one_log_answer l (log_valid bytes l e) a.0 b.0 a.1 b.1 a.2 (same_verdict k l (same_log bytes k l f e) b.0 b.2)) ∙ sym b.3

pub one_log_reply : (bytes : List ℕ) (o q : Outcome) (t u : List ℕ) → IsLogReply bytes o t → IsLogReply bytes q u → o ≡ q
one_log_reply bytes o q t u (inl h) (inl k) = one_judged bytes h.0 k.0 o q t u h.1 k.1 h.2 k.2
one_log_reply bytes o q t u (inl h) (inr k) = absurd (not_both (log_of bytes) (log_in h.0) k.0 h.1 k.1)
one_log_reply bytes o q t u (inr h) (inl k) = absurd (not_both (log_of bytes) (log_in k.0) h.0 k.1 h.1)
one_log_reply bytes o q t u (inr h) (inr k) =
    h.2.0 ∙ ap (λ (f : FormatFault). variant.Format f.line f.kind) (err_once (log_of bytes) h.0 k.0 h.1 k.1) ∙ sym k.2.0

-- a reply to bytes that mean a log says exactly what its checker does
pub reply_tells : (bytes : List ℕ) (log : PathLog) (o : Outcome) (t : List ℕ) → IsLogText bytes log → IsLogReply bytes o t → TellsLog log o
reply_tells bytes log o t e (inl h) =
    let a = log_answer h.0 o t h.2 in
    told log (log_valid bytes log e) a.0 a.1 (same_verdict h.0 log (same_log bytes h.0 log h.1 e) a.0 a.2) o a.3
reply_tells bytes log o t e (inr h) = absurd (not_both (log_of bytes) (log_in log) h.0 e h.1)
