use Rattle.std.proofs.Common.{ap, refl}
use Rattle.mixedcells.specs.Outcomes.{status_of}
use Rattle.mixedcells.specs.Runs.{IsSpared, IsSparedLog}
use Rattle.mixedcells_c.proofs.Ends as ends
use Rattle.mixedcells_c.proofs.exports.mixedcells_run.Goals as goal

pub returns : goal.returns
returns c = let end = c.run_into.ensures in record {
  written = ends.written end;
  no_room = ends.no_room end;
  no_memory = ends.no_memory end;
  no_fault = (ends.no_read_fault end, ends.no_write_fault end);
  exact = ends.exact end;
  headline = λ file means is safe e. let h = ends.ended end e in (h.0, h.1.headline file means is safe refl, h.2);
  reached = λ means e. let h = ends.ended end e in let l = h.1.reached means refl in (l.0, l.1, (h.0, l.2, h.2));
  headline_sum = λ file means is safe e. let h = ends.ended end e in (h.0, h.1.headline_sum file means is safe refl, h.2);
  reached_sum = λ means e. let h = ends.ended end e in let l = h.1.reached_sum means refl in (l.0, l.1, (h.0, l.2, h.2));
  tie_cause = ends.tie_cause end;
  overflow_cause = ends.overflow_cause end;
  walked = λ file short walking is safe fits. ends.comes end 0 (λ o t run. ap status_of (run.walked file short walking is safe fits));
  quiet = λ file is small e. ends.line_alone end e (λ o t run cell. run.quiet file is small cell);
  walked_quiet = λ file short walking is safe small. ends.comes end 0 (λ o t run. ap status_of (run.walked_quiet file short walking is safe small));
  passes = λ file means is small. ends.passed end (λ o t run. run.passes file means is small);
  needs_team = ends.needs_team end;
  for_team = ends.for_team end;
  judged_ties = λ file short means is few fit. ends.tie_or_none end (λ o t run. run.judged_ties file short means is few fit);
  tie_free = λ file means is e. (ends.ended end e).1.tie_free file means is refl;
  listing = λ means e. let h = ends.ended end e in let l = h.1.listing means refl in (l.0, l.1, (h.0, l.2, h.2));
  complete = λ file short means is few fit. ends.comes end 0 (λ o t run. ap status_of (run.complete file short means is few fit));
  checked = λ means e. (ends.ended end e).1.checked means refl;
  judged = ends.judged end;
  written_listing = λ means e. let h = ends.ended end e in let l = h.1.written_listing means refl in (l.0, l.1, (h.0, l.2, h.2));
  written_reached = λ means e. let h = ends.ended end e in let l = h.1.written_reached means refl in (l.0, l.1, (h.0, l.2, h.2));
  spares = λ file means is. ends.spared end (IsSpared c.args.input.now) (λ o t run. run.spares file means is);
  powers = λ means e. let h = ends.ended end e in let l = h.1.powers means refl in (l.0, l.1, l.2, (h.0, l.3, h.2));
  traced = λ means e. let h = ends.ended end e in let l = h.1.traced means refl in (l.0, l.1, (h.0, l.2, h.2));
  verified = λ means e. (ends.ended end e).1.verified means refl;
  spares_log = λ file means is. ends.spared end (IsSparedLog c.args.input.now) (λ o t run. run.spares_log file means is);
  systems = λ seed short means. ends.system_told end seed (λ o t run. run.systems seed short means);
  made = λ family seed means. ends.comes end 0 (λ o t run. ap status_of (run.made family seed means));
  made_text = λ family seed means e. let h = ends.ended end e in (h.0, h.1.made_text family seed means refl, h.2);
  usage = λ none. ends.comes end 2 (λ o t run. ap status_of (run.usage none));
}
