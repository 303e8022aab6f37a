-- What a run of `poly` has written or told.
use Rattle.std.proofs.Common.{◌≡◌, ◌⊎◌, ◌≤◌, ◌∙◌, ℕ, List, length, Option, Some, Ok, Err, refl, ap, subst, inl, inr}
use Rattle.std.specs.Prelude.{MatchResult}
use Rattle.std.specs.Io.KnownBytes.{Appends}
use Rattle.support_text.specs.declared.fault.FormatFault.{FormatFault}
use Rattle.support_text.specs.Faults.{Reading}
use Rattle.poly_text.specs.SystemText.{PointSystem, system_of}
use Rattle.mixedcells.specs.declared.words.Command.TheVariants as verb
use Rattle.mixedcells.specs.declared.outcome.Outcome.{Outcome}
use Rattle.mixedcells.specs.declared.outcome.Outcome.TheVariants as variant
use Rattle.mixedcells.specs.Words.{Means}
use Rattle.mixedcells.specs.Families.{lifted_text}
use Rattle.mixedcells.specs.Answers.{limit, IsSystemReply}
use Rattle.mixedcells.specs.Runs.{IsCalledFor, IsFree}
use Rattle.mixedcells.proofs.Readings.{ok_once, err_once, not_both}
use Rattle.mixedcells.proofs.Exact.{answer_of, reply_of, free_or}

module _ (seed : ℕ) (bytes : List ℕ) (result : Outcome) (old new : Option (List ℕ)) where
  abbrev IsTold : Reading PointSystem → Type 0
  IsTold r = MatchResult r (λ system. (result ≡ variant.Ok) × Appends old new (lifted_text seed system)) (λ fault. result ≡ variant.Format fault.line fault.kind)

  by_reading : (t : List ℕ) (r : Reading PointSystem) → system_of bytes ≡ r → IsSystemReply seed bytes result t → Appends old new t → IsTold r
  by_reading t (Ok system) e (inl h) a = (h.2, subst (λ x. Appends old new x) (h.3 ∙ ap (lifted_text seed) (ok_once (system_of bytes) h.0 system h.1 e)) a)
  by_reading t (Ok system) e (inr h) a = absurd (not_both (system_of bytes) system h.0 e h.1)
  by_reading t (Err fault) e (inl h) a = absurd (not_both (system_of bytes) h.0 fault h.1 e)
  by_reading t (Err fault) e (inr h) a = h.2.0 ∙ ap (λ (f : FormatFault). variant.Format f.line f.kind) (err_once (system_of bytes) h.0 fault h.1 e)

  -- the text of the lifted file was written or the fault was told, unless a free answer came
  pub told : (words : List (List ℕ)) → length bytes ≤ limit → Means words (verb.Poly seed) → (¬ (IsFree result) → (t : List ℕ) × IsCalledFor words (Some bytes) result t × Appends old new t)
      → IsTold (system_of bytes) ⊎ IsFree result
  told words short means called = elim (free_or result) [
    | inl free ↦ inr free
    | inr other ↦ let k = called other in
        inl (by_reading k.0 (system_of bytes) refl (reply_of (verb.Poly seed) bytes result k.0 short (answer_of words bytes (verb.Poly seed) result k.0 means k.1)) k.2)
  ]
