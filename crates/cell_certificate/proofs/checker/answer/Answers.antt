use Rattle.std.proofs.Common.{◌+◌, ◌<◌, List, length, drop, inr, sym, ap, subst, arith}
use Rattle.std.specs.Option.{option_map}
use Rattle.cayley.specs.Files.{plain_problem}
use Rattle.listing_text.specs.declared.listing.ListedCell.{ListedCell}
use Rattle.cell_certificate.specs.Answers.{WrongAt, TooLargeAt}
use Rattle.cell_certificate.specs.Judgements.{IsJudged, AllPass, FirstRefused}
use Rattle.cell_certificate.specs.Written.{IsListed}
use Rattle.cell_certificate.proofs.Verdicts.{listed_at, left_is, stopped, went_on}
use Rattle.cell_certificate.proofs.checker.answer.Goals as goal

pub judge-requires-clause-listed : goal.judge-requires-clause-listed
judge-requires-clause-listed c =
    let lines = c.args.listing.now.cells.items in
    let e = c.deref-listed-items.ensures.value in
    let h : c.loop-listed.listed-index < length lines = omega (arith, c.loop-listed-test.true, ap length e) in
    let i = rw e at c.listed-item.is in
    subst (λ q. IsListed q c.listed-item.result) (sym c.in-Ok.ensures)
    (listed_at (plain_problem c.args.listing.now.file) lines c.loop-listed.listed-index c.listed-item.result c.requires h i)

pub returns-in-Some : goal.returns-in-Some
returns-in-Some c =
    let listing = c.args.listing.now in
    let p = plain_problem listing.file in
    let x = c.listed-item.result in
    let k = c.loop-listed.listed-index in
    let lines = c.args.listing.now.cells.items in
    let e = c.deref-listed-items.ensures.value in
    let h : c.loop-listed.listed-index < length lines = omega (arith, c.loop-listed-test.true, ap length e) in
    let i = rw e at c.listed-item.is in
    let left = left_is lines c.loop-listed.listed-index c.listed-item.result h i in
    let before = option_map (λ b. b.now) c.loop-listed.before in
    let inv = c.loop-listed.invariant in
    stopped listing before x (drop (k + 1) lines)
    (λ number reason f. inv.wrong number reason (subst (λ (ls : List ListedCell). FirstRefused p before ls (WrongAt p number reason)) (sym left) f))
    (λ number f. inv.large number (subst (λ (ls : List ListedCell). FirstRefused p before ls (TooLargeAt p number)) (sym left) f))
    c.in-Ok-judge.judgement c.in-Some.answer c.in-Some.ensures
    (subst (λ q. IsJudged q before x c.in-Ok-judge.judgement) c.in-Ok.ensures c.in-Ok-judge.ensures)

pub loop-listed-preserved : goal.loop-listed-preserved
loop-listed-preserved c =
    let listing = c.args.listing.now in
    let p = plain_problem listing.file in
    let x = c.listed-item.result in
    let k = c.loop-listed.listed-index in
    let lines = c.args.listing.now.cells.items in
    let e = c.deref-listed-items.ensures.value in
    let h : c.loop-listed.listed-index < length lines = omega (arith, c.loop-listed-test.true, ap length e) in
    let i = rw e at c.listed-item.is in
    let left = left_is lines c.loop-listed.listed-index c.listed-item.result h i in
    let before = option_map (λ b. b.now) c.loop-listed.before in
    let inv = c.loop-listed.invariant in
    let passes = went_on p before x x.line c.in-Ok-judge.judgement c.in_default-stop.ensures (subst (λ q. IsJudged q before x c.in-Ok-judge.judgement) c.in-Ok.ensures c.in-Ok-judge.ensures) in
    record {
      right = λ a. inv.right (subst (AllPass p before) (sym left) (passes, a));
      wrong = λ number reason f. inv.wrong number reason (subst (λ (ls : List ListedCell). FirstRefused p before ls (WrongAt p number reason)) (sym left) (inr (passes, f)));
      large = λ number f. inv.large number (subst (λ (ls : List ListedCell). FirstRefused p before ls (TooLargeAt p number)) (sym left) (inr (passes, f)));
    }
