-- What `poly` replies is one text or one fault, and the stored supports of a system make its file.
use Rattle.std.proofs.Common.{◌≡◌, ◌∙◌, ℕ, ℤ, List, map, length, sym, ap, ap₂, subst, inl, inr}
use Rattle.std.specs.Global.{Vec}
use Rattle.std.proofs.lemmas.List.{length-map}
use Rattle.int_vectors.specs.Vectors.{Each}
use Rattle.cayley.specs.Files.{File}
use Rattle.int_vectors.proofs.Each.{each_unmap}
use Rattle.support_text.specs.declared.fault.FormatFault.{FormatFault}
use Rattle.support_text.specs.Writing.{problem_text}
use Rattle.poly_text.specs.SystemText.{PointSystem, support_view, system_of}
use Rattle.family_gen.specs.Lifts.{lift_file}
use Rattle.mixedcells.specs.declared.outcome.Outcome.{Outcome}
use Rattle.mixedcells.specs.declared.outcome.Outcome.TheVariants as variant
use Rattle.mixedcells.specs.Families.{lifted_text}
use Rattle.mixedcells.specs.Answers.{IsSystemReply}
use Rattle.mixedcells.proofs.Readings.{err_once, not_both}

pub one_system_reply : (seed : ℕ) (bytes : List ℕ) (o q : Outcome) (t u : List ℕ) → IsSystemReply seed bytes o t → IsSystemReply seed bytes q u → o ≡ q
one_system_reply seed bytes o q t u (inl h) (inl k) = h.2 ∙ sym k.2
one_system_reply seed bytes o q t u (inl h) (inr k) = absurd (not_both (system_of bytes) h.0 k.0 h.1 k.1)
one_system_reply seed bytes o q t u (inr h) (inl k) = absurd (not_both (system_of bytes) k.0 h.0 k.1 h.1)
one_system_reply seed bytes o q t u (inr h) (inr k) =
    h.2.0 ∙ ap (λ (f : FormatFault). variant.Format f.line f.kind) (err_once (system_of bytes) h.0 k.0 h.1 k.1) ∙ sym k.2.0

-- ---- the supports of a system, as they are stored

module _ (items : List (Vec (List ℤ))) (system : PointSystem) (dim : ℕ) (same : dim ≡ system.dimension) (are : map support_view items ≡ system.supports) where
  -- what holds of each support of a system holds of each that is stored
  pub stored : (P : List (List ℤ) → Type 0) → Each system.supports P → Each items (λ s. P s.items)
  stored P h = each_unmap support_view P items (subst (λ ss. Each ss P) (sym are) h)

  pub stored_points : Each system.supports (λ s. Each s (λ x. length x ≡ system.dimension)) → Each items (λ s. Each s.items (λ x. length x ≡ dim))
  stored_points h = subst (λ n. Each items (λ s. Each s.items (λ x. length x ≡ n))) (sym same) (stored (λ s. Each s (λ x. length x ≡ system.dimension)) h)

  pub stored_count : length system.supports ≡ system.dimension → length items ≡ dim
  stored_count count = sym (length-map items support_view) ∙ ap length are ∙ count ∙ sym same

  -- the file that is made of them is the one of the system
  pub lifted_is : (file : File) (seed : ℕ) → file ≡ lift_file dim (map (λ s. s.items) items) seed → problem_text file ≡ lifted_text seed system
  lifted_is file seed e = ap problem_text (e ∙ ap₂ (λ n ss. lift_file n ss seed) same are)
