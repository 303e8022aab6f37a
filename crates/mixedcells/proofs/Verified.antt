-- What a run of `verify` has answered.
use Rattle.std.proofs.Common.{◌≡◌, ◌⊎◌, ℕ, ◌≤◌, List, length, Option, Some, Ok, Err, refl, sym, ap, subst, arith, inl, inr}
use Rattle.cayley.specs.Files.{File}
use Rattle.cell_certificate.specs.declared.verdict.Verdict.TheVariants.{Yes, No}
use Rattle.cell_certificate.specs.declared.verdict.CheckFault.TheVariants.{Overflow, OutOfMemory}
use Rattle.cell_certificate.specs.Answers.{Answer, HadMemory}
use Rattle.path_log.specs.declared.log.PathLog.{PathLog}
use Rattle.path_log.specs.LogText.{log_of}
use Rattle.log_check.specs.Verdicts.{HasPathTree, ListsMixedCells, IsVerdict, NeverNo}
use Rattle.log_check.proofs.RightLogs.{tree_right, lists_right, spared}
use Rattle.mixedcells.specs.declared.words.Command.TheVariants as verb
use Rattle.mixedcells.specs.declared.outcome.Outcome.{Outcome}
use Rattle.mixedcells.specs.declared.outcome.Outcome.TheVariants as variant
use Rattle.mixedcells.specs.Words.{Means}
use Rattle.mixedcells.specs.Outcomes.{status_of}
use Rattle.mixedcells.specs.Logs.{IsLogText, IsWrittenLog, TellsLog}
use Rattle.mixedcells.specs.Answers.{limit, IsLogReply}
use Rattle.mixedcells.specs.Runs.{IsAnswer, IsCalledFor, IsFree, IsSparedLog}
use Rattle.mixedcells.proofs.Exact.{answer_of, reply_of, reply_not_long, free_or, known}
use Rattle.mixedcells.proofs.Judging.{outcome_of}
use Rattle.mixedcells.proofs.LogReplies.{log_answer, log_valid, reply_tells}
use Rattle.mixedcells.proofs.Readings.{not_both}
use Rattle.mixedcells.proofs.WrittenLogs.{read_back, traced_log}

-- yes: the nodes are the path tree, and the listed cells its mixed cells
right_log : (bytes t : List ℕ) → IsLogReply bytes variant.Ok t → (log : PathLog) × IsLogText bytes log × HasPathTree log × ListsMixedCells log
right_log bytes t (inl h) = let valid = log_valid bytes h.0 h.1 in (h.0, h.1, tree_right h.0 valid h.2.1, lists_right h.0 valid h.2.1)
right_log bytes t (inr h) = absurd (let e = ap status_of h.2.0 in omega (arith, e))

spared_answer : (bytes : List ℕ) (log : PathLog) → IsLogText bytes log → (r : Answer) → HadMemory r → IsVerdict log r → NeverNo r → (o : Outcome) → o ≡ outcome_of r → IsSparedLog bytes o
spared_answer bytes log text (Ok Yes) m v n o e = inl e
spared_answer bytes log text (Ok (No line reason)) m v n o e = absurd n
spared_answer bytes log text (Err (Overflow line)) m v n o e = inr (inl (log, line, text, v, e))
spared_answer bytes log text (Err OutOfMemory) m v n o e = absurd m

module _ (words : List (List ℕ)) (bytes : List ℕ) (means : Means words verb.Verify) where
  pub verified : (left : Option (List ℕ)) (o : Outcome) (t : List ℕ) → left ≡ Some bytes → o ≡ variant.Ok → IsCalledFor words left o t
      → (log : PathLog) × IsLogText bytes log × HasPathTree log × ListsMixedCells log
  verified left o t e ok h =
      let k = subst (λ q. IsCalledFor words (Some bytes) q t) ok (known words left bytes o t e h) in
      right_log bytes t (reply_not_long verb.Verify bytes variant.Ok t (λ f. omega (arith, f)) (answer_of words bytes verb.Verify variant.Ok t means k))

  -- each answer comes exactly where the log asks for it, unless a free answer comes
  pub told_log : (log : PathLog) (result : Outcome) → length bytes ≤ limit → IsLogText bytes log
      → (¬ (IsFree result) → (t : List ℕ) × IsCalledFor words (Some bytes) result t) → TellsLog log result ⊎ IsFree result
  told_log log result short text f = elim (free_or result) [
    | inl free ↦ inr free
    | inr other ↦ let k = f other in inl (reply_tells bytes log result k.0 text (reply_of verb.Verify bytes result k.0 short (answer_of words bytes verb.Verify result k.0 means k.1)))
  ]

  spared_reply : (file : File) (w : IsWrittenLog file bytes) → length bytes ≤ limit → (o : Outcome) (t : List ℕ) → IsLogReply bytes o t → IsSparedLog bytes o
  spared_reply file w short o t (inl h) =
      let a = log_answer h.0 o t h.2 in
      spared_answer bytes h.0 h.1 a.0 a.1 a.2 (spared h.0 (log_valid bytes h.0 h.1) (traced_log bytes file w short h.0 h.1) a.0 a.2) o a.3
  spared_reply file w short o t (inr h) = let b = read_back bytes file w short in absurd (not_both (log_of bytes) b.0 h.0 b.1 h.1)

  spared_if : (file : File) → IsWrittenLog file bytes → (o : Outcome) (t : List ℕ) → IsAnswer verb.Verify bytes o t → IsSparedLog bytes o
  spared_if file w o t (inl l) = inr (inr (l.0.1, l.1))
  spared_if file w o t (inr r) = spared_reply file w (r.0 refl) o t r.1

  -- a log as `trace` writes it is spared, unless a free answer comes
  pub spares_log : (file : File) → IsWrittenLog file bytes → (result : Outcome) → (¬ (IsFree result) → (t : List ℕ) × IsCalledFor words (Some bytes) result t) → IsSparedLog bytes result ⊎ IsFree result
  spares_log file w result f = elim (free_or result) [
    | inl free ↦ inr free
    | inr other ↦ let k = f other in inl (spared_if file w result k.0 (answer_of words bytes verb.Verify result k.0 means k.1))
  ]
