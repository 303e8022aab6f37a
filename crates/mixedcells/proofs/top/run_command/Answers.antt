use Rattle.std.proofs.Common.{◌≡◌, ◌∙◌, rules}
use Rattle.mixedcells.specs.Answers.{IsReply}
use Rattle.mixedcells.proofs.Ended.{long_written, long_cut, reply_as, reply_written, reply_cut}
use Rattle.mixedcells.proofs.top.run_command.Goals as goal

pub returns-in-Err-TooLong-clause-written : goal.returns-in-Err-TooLong-clause-written
returns-in-Err-TooLong-clause-written g c =
    let t = c.in-Err-TooLong.ensures.taken in
    let s = (rw c.in-Err-TooLong.field-0-is at t.2) in
    long_written _ _ _ _ _ _ _ _ _ s.0 t.1 s.1 c.finish.ensures.ends

pub returns-in-Err-TooLong-clause-cut_off : goal.returns-in-Err-TooLong-clause-cut_off
returns-in-Err-TooLong-clause-cut_off g c =
    let t = c.in-Err-TooLong.ensures.taken in
    let s = (rw c.in-Err-TooLong.field-0-is at t.2) in
    long_cut _ _ _ _ _ _ _ _ _ s.0 t.1 s.1 c.finish.ensures.ends

pub returns-in-Ok-answer-clause-written : goal.returns-in-Ok-answer-clause-written
returns-in-Ok-answer-clause-written g c =
    let t = c.in-Ok.ensures.taken in
    let same : c.in-Ok-answer.field-0.text.items ≡ c.deref-in-Ok-answer.result.now = search (rules, c.in-Ok-answer.text-is, c.deref-in-Ok-answer.ensures.value) in
    let reply : IsReply c.args.command t.0 c.in-Ok-answer.field-0.outcome c.deref-in-Ok-answer.result.now = reply_as c.args.command _ _ _ _ _ (c.deref.ensures.value ∙ t.2.0) same c.in-Ok-answer.ensures in
    reply_written c.args.command _ _ t.0 _ _ _ _ _ _ _ t.1 t.2.1 t.2.2 reply c.finish-in-Ok-answer.ensures.ends

pub returns-in-Ok-answer-clause-cut_off : goal.returns-in-Ok-answer-clause-cut_off
returns-in-Ok-answer-clause-cut_off g c =
    let t = c.in-Ok.ensures.taken in
    let same : c.in-Ok-answer.field-0.text.items ≡ c.deref-in-Ok-answer.result.now = search (rules, c.in-Ok-answer.text-is, c.deref-in-Ok-answer.ensures.value) in
    let reply : IsReply c.args.command t.0 c.in-Ok-answer.field-0.outcome c.deref-in-Ok-answer.result.now = reply_as c.args.command _ _ _ _ _ (c.deref.ensures.value ∙ t.2.0) same c.in-Ok-answer.ensures in
    reply_cut c.args.command _ _ t.0 _ _ _ _ _ _ _ t.1 t.2.1 t.2.2 reply c.finish-in-Ok-answer.ensures.ends
