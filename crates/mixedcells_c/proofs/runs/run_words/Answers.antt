use Rattle.std.proofs.Common.{◌≡◌, ◌∙◌, Some, map, string_bytes, ap, inl, inr, refl, subst, ⊎_elim, List, ℕ}
use Rattle.std.proofs.lemmas.Result.{MatchResult-weaker}
use Rattle.support_text.specs.Writing.{problem_text}
use Rattle.listing_text.specs.Listings.{IsListingOf}
use Rattle.homotopy_rows.specs.Answers.{IsPowersText}
use Rattle.poly_text.specs.SystemText.{system_of}
use Rattle.mixedcells.specs.Families.{family_file, lifted_text}
use Rattle.mixedcells.specs.Logs.{IsTracedText}
use Rattle.mixedcells.specs.Walks.{IsReachedListing, IsReachedSum, IsSumOf}
use Rattle.mixedcells.specs.Runs.{IsCalledFor, IsFree, IsWrittenListing}
use Rattle.mixedcells_c.specs.Buffers.{Grown}
use Rattle.mixedcells_c.proofs.Ends.{here, bound_to}
use Rattle.mixedcells_c.proofs.runs.run_words.Goals as goal

pub returns-in_default : goal.returns-in_default
returns-in_default c =
    let r = c.run_alone-outcome.ensures in
    let outcome = c.run_alone-outcome.result in
    let n = c.in_default in
    let bound : ¬ (IsFree outcome) = ⊎_elim n.not-ReadFault (⊎_elim n.not-WriteFault n.not-OutOfMemory) in
    let words = map string_bytes c.args.words.now in
    let input = c.args.input.now in
    let bytes : c.new-source.result ≡ input = c.new-source.ensures in
    let known = ap Some bytes in
    let text = here c.new-sink.result _ _ c.new-sink.ensures c.into_bytes.ensures in record {
      bound = bound;
      written = let w = r.written bound in text (λ t. IsCalledFor words (Some input) outcome t) (w.0, subst (λ (b : List ℕ). IsCalledFor words (Some b) outcome w.0) bytes w.1, w.2);
      exact = λ other said called. ⊎_elim inl (⊎_elim (λ f. absurd (bound f)) inr) (r.exact input other said known called);
      listing = λ means ok. let l = r.listing input known means ok in (l.0, l.1, text (IsListingOf l.0) l.2);
      complete = λ file short means is few fit. bound_to bound (r.complete input file known short means is few fit);
      checked = λ means ok. r.checked input known means ok;
      judged = λ listing short means is fit. bound_to bound (r.judged input listing known short means is fit);
      written_listing = λ means ok. let l = r.written_listing input known means ok in (l.0, l.1, text (IsWrittenListing l.0) l.2);
      written_reached = λ means ok. let l = r.written_reached input known means ok in (l.0, l.1, text (IsWrittenListing l.0) l.2);
      spares = λ file means is. bound_to bound (r.spares input file known means is);
      headline = λ file means is safe ok. text (IsListingOf file) (r.headline input file known means is safe ok);
      reached = λ means ok. let l = r.reached input known means ok in (l.0, l.1, text (IsReachedListing l.0) l.2);
      headline_sum = λ file means is safe ok. text (IsSumOf file) (r.headline_sum input file known means is safe ok);
      reached_sum = λ means ok. let l = r.reached_sum input known means ok in (l.0, l.1, text (IsReachedSum l.0) l.2);
      tie_cause = λ proof walking is. r.tie_cause input proof known walking is;
      overflow_cause = λ cell walking is. r.overflow_cause input cell known walking is;
      walked = λ file short walking is safe fits. bound_to bound (r.walked input file known short walking is safe fits);
      quiet = λ file means small cell. r.quiet input file known means small cell;
      walked_quiet = λ file short walking is safe small. bound_to bound (r.walked_quiet input file known short walking is safe small);
      passes = λ file means is small. bound_to bound (r.passes input file known means is small);
      judged_ties = λ file short means is few fit. ⊎_elim inl (λ h. inr (bound_to bound h)) (r.judged_ties input file known short means is few fit);
      tie_free = λ file means is ok. r.tie_free input file known means is ok;
      needs_team = r.needs_team;
      silent = λ is. c.into_bytes.ensures ∙ ap (λ (s : Grown). s.held) ((r.untouched is).1 ∙ c.new-sink.ensures);
      powers = λ means ok. let l = r.powers input known means ok in (l.0, l.1, l.2, text (IsPowersText l.0) l.3);
      traced = λ means ok. let l = r.traced input known means ok in (l.0, l.1, text (IsTracedText l.0) l.2);
      verified = λ means ok. r.verified input known means ok;
      spares_log = λ file means is. bound_to bound (r.spares_log input file known means is);
      systems = λ seed short means. MatchResult-weaker (system_of input) (bound_to bound (r.systems input seed known short means))
          (λ system h. (h.0, let said = lifted_text seed system in text (λ (t : List ℕ). t ≡ said) (said, refl, h.1))) (λ fault h. h);
      made = λ family seed means. bound_to bound (r.made family seed means);
      made_text = λ family seed means ok.
          let said = problem_text (family_file family seed) in text (λ (t : List ℕ). t ≡ said) (said, refl, r.made_text family seed means ok);
      usage = λ none. ⊎_elim (λ e. e) (λ f. absurd (bound (inr (inl f)))) (r.usage none);
    }
