use Rattle.std.proofs.Common.{◌≡◌, ◌∙◌, rules, sym, subst, IsTrue}
use Rattle.mixedcells.specs.Words.{reads}
use Rattle.mixedcells.specs.ByMany.{by_one}
use Rattle.mixedcells.specs.Answers.{IsReply}
use Rattle.mixedcells.proofs.Ended.{long_written, long_cut, reply_as, reply_written, reply_cut}
use Rattle.mixedcells.proofs.ForOne.{reads_by_one}
use Rattle.mixedcells.proofs.many.run_walk.Goals as goal

pub returns-in-Err-TooLong-clause-written : goal.returns-in-Err-TooLong-clause-written
returns-in-Err-TooLong-clause-written g c =
    let t = (rw c.by_one.ensures at c.in-Err-TooLong.ensures.taken) in
    let s = (rw c.in-Err-TooLong.field-0-is at t.2) in
    long_written (by_one c.args.command) _ _ _ _ _ _ _ _ s.0 t.1 s.1 c.finish.ensures.ends

pub returns-in-Err-TooLong-clause-cut_off : goal.returns-in-Err-TooLong-clause-cut_off
returns-in-Err-TooLong-clause-cut_off g c =
    let t = (rw c.by_one.ensures at c.in-Err-TooLong.ensures.taken) in
    let s = (rw c.in-Err-TooLong.field-0-is at t.2) in
    long_cut (by_one c.args.command) _ _ _ _ _ _ _ _ s.0 t.1 s.1 c.finish.ensures.ends

pub returns-in-Ok-answer_by-clause-written : goal.returns-in-Ok-answer_by-clause-written
returns-in-Ok-answer_by-clause-written g c =
    let t = (rw c.by_one.ensures at c.in-Ok.ensures.taken) in
    let same : c.in-Ok-answer_by.field-0.text.items ≡ c.deref-in-Ok-answer_by.result.now = search (rules, c.in-Ok-answer_by.text-is, c.deref-in-Ok-answer_by.ensures.value) in
    let reply : IsReply (by_one c.args.command) t.0 c.in-Ok-answer_by.field-0.outcome c.deref-in-Ok-answer_by.result.now = reply_as (by_one c.args.command) _ _ _ _ _ (c.deref.ensures.value ∙ t.2.0) same c.in-Ok-answer_by.ensures in
    reply_written (by_one c.args.command) _ _ t.0 _ _ _ _ _ _ _ t.1 t.2.1 t.2.2 reply c.finish-in-Ok-answer_by.ensures.ends

pub returns-in-Ok-answer_by-clause-cut_off : goal.returns-in-Ok-answer_by-clause-cut_off
returns-in-Ok-answer_by-clause-cut_off g c =
    let t = (rw c.by_one.ensures at c.in-Ok.ensures.taken) in
    let same : c.in-Ok-answer_by.field-0.text.items ≡ c.deref-in-Ok-answer_by.result.now = search (rules, c.in-Ok-answer_by.text-is, c.deref-in-Ok-answer_by.ensures.value) in
    let reply : IsReply (by_one c.args.command) t.0 c.in-Ok-answer_by.field-0.outcome c.deref-in-Ok-answer_by.result.now = reply_as (by_one c.args.command) _ _ _ _ _ (c.deref.ensures.value ∙ t.2.0) same c.in-Ok-answer_by.ensures in
    reply_cut (by_one c.args.command) _ _ t.0 _ _ _ _ _ _ _ t.1 t.2.1 t.2.2 reply c.finish-in-Ok-answer_by.ensures.ends
