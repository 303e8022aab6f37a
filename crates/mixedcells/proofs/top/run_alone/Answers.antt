use Rattle.std.proofs.Common.{◌≡◌, inr, Some, [], map, string_bytes, ap, arith, refl, rules, false, IsTrue}
use Rattle.mixedcells.specs.Words.{needs_team}
use Rattle.mixedcells.specs.Outcomes.{status_of}
use Rattle.mixedcells.specs.declared.words.Command.TheVariants.{Plain, Check, Generic, Move, Verify, Poly, Make}
use Rattle.mixedcells.proofs.CommandLine.Words.{no_reader, reader, same_team}
use Rattle.mixedcells.proofs.CommandLine.Ranges.{fits}
use Rattle.mixedcells.proofs.Ended.{appends_as, usage_cut, usage_written}
use Rattle.mixedcells.proofs.Exact.{tie_other, cell_other, team_other, called_made, comes, makes, lists, ended_listed, ended_powers, ok_other, known}
use Rattle.mixedcells.proofs.AlongPaths as along
use Rattle.mixedcells.proofs.Teams.{no_team, asked_for, usage_alone, meant_team, team_called, appends_none, no_other, no_walk, no_reading, walking_meant}
use Rattle.mixedcells.proofs.Judged.{checked, judged, spares, plain_spared, list_spared}
use Rattle.mixedcells.proofs.QuietFiles.{never_unfit, usage_fits, meant_tree_fits, passes}
use Rattle.mixedcells.proofs.LiftedSystems.{told}
use Rattle.mixedcells.proofs.Moved as move
use Rattle.mixedcells.proofs.Verified.{verified, told_log, spares_log}
use Rattle.mixedcells.proofs.top.run_alone.Goals as goal

pub returns-in-Ok-clause-written : goal.returns-in-Ok-clause-written
returns-in-Ok-clause-written g c = λ other.
    let w = c.run_command.ensures.written other in
    (w.1, inr (c.in-Ok.command, w.0, c.in-Ok.ensures, w.2, w.3), w.4)

pub returns-in-Ok-clause-cut_off : goal.returns-in-Ok-clause-cut_off
returns-in-Ok-clause-cut_off g c = λ fault.
    let w = c.run_command.ensures.cut_off fault in
    (w.2.0, (w.2.1.0, w.2.1.1, inr (c.in-Ok.command, w.0, c.in-Ok.ensures, w.1, w.2.1.2), w.2.1.3))

pub returns-in-Ok-clause-exact : goal.returns-in-Ok-clause-exact
returns-in-Ok-clause-exact g c = λ bytes o t left h.
    comes (map string_bytes c.args.words.now) bytes o _ t h (λ other. let w = returns-in-Ok-clause-written g c other in (w.0, known (map string_bytes c.args.words.now) _ bytes _ _ left w.1))

pub returns-in-Ok-clause-complete : goal.returns-in-Ok-clause-complete
returns-in-Ok-clause-complete g c = λ bytes file left short means e many fit.
    lists (map string_bytes c.args.words.now) bytes file _ short means e many fit (λ other. let w = returns-in-Ok-clause-written g c other in (w.0, known (map string_bytes c.args.words.now) _ bytes _ _ left w.1))

pub returns-in-Ok-clause-listing : goal.returns-in-Ok-clause-listing
returns-in-Ok-clause-listing g c = λ bytes left means ok.
    let w = returns-in-Ok-clause-written g c (ok_other _ ok) in
    let l = ended_listed (map string_bytes c.args.words.now) _ bytes _ w.0 left means ok w.1 in
    (l.0, l.1, (w.0, l.2, w.2))

pub returns-in-Ok-clause-powers : goal.returns-in-Ok-clause-powers
returns-in-Ok-clause-powers g c = λ bytes left means ok.
    let w = returns-in-Ok-clause-written g c (ok_other _ ok) in
    let l = ended_powers (map string_bytes c.args.words.now) _ bytes _ w.0 left means ok w.1 in
    (l.0, l.1, l.2, (w.0, l.3, w.2))

pub returns-in-Ok-clause-written_listing : goal.returns-in-Ok-clause-written_listing
returns-in-Ok-clause-written_listing g c = λ bytes left means ok.
    let w = returns-in-Ok-clause-written g c (ok_other _ ok) in
    let l = plain_spared (map string_bytes c.args.words.now) _ bytes _ w.0 left means ok w.1 in
    (l.0, l.1, (w.0, l.2, w.2))

pub returns-in-Ok-clause-written_reached : goal.returns-in-Ok-clause-written_reached
returns-in-Ok-clause-written_reached g c = λ bytes left means ok.
    let w = returns-in-Ok-clause-written g c (ok_other _ ok) in
    let l = list_spared (map string_bytes c.args.words.now) _ bytes _ w.0 left means ok w.1 in
    (l.0, l.1, (w.0, l.2, w.2))

pub returns-in-Ok-clause-checked : goal.returns-in-Ok-clause-checked
returns-in-Ok-clause-checked g c = λ bytes left means ok.
    let w = returns-in-Ok-clause-written g c (ok_other _ ok) in
    checked (map string_bytes c.args.words.now) bytes means _ _ w.0 left ok w.1

pub returns-in-Ok-clause-judged : goal.returns-in-Ok-clause-judged
returns-in-Ok-clause-judged g c = λ bytes listing left short means text fit.
    judged (map string_bytes c.args.words.now) bytes means listing _ short text fit (λ other. let w = returns-in-Ok-clause-written g c other in (w.0, known (map string_bytes c.args.words.now) _ bytes _ _ left w.1))

pub returns-in-Ok-clause-spares : goal.returns-in-Ok-clause-spares
returns-in-Ok-clause-spares g c = λ bytes file left means written.
    spares (map string_bytes c.args.words.now) bytes means file written _ (λ other. let w = returns-in-Ok-clause-written g c other in (w.0, known (map string_bytes c.args.words.now) _ bytes _ _ left w.1))

pub returns-in-Ok-clause-headline : goal.returns-in-Ok-clause-headline
returns-in-Ok-clause-headline g c = λ bytes file left means f safe ok.
    let w = returns-in-Ok-clause-written g c (ok_other _ ok) in
    (w.0, along.headline (map string_bytes c.args.words.now) bytes file _ _ w.0 left means f safe ok w.1, w.2)

pub returns-in-Ok-clause-headline_sum : goal.returns-in-Ok-clause-headline_sum
returns-in-Ok-clause-headline_sum g c = λ bytes file left means f safe ok.
    let w = returns-in-Ok-clause-written g c (ok_other _ ok) in
    (w.0, along.headline_sum (map string_bytes c.args.words.now) bytes file _ _ w.0 left means f safe ok w.1, w.2)

pub returns-in-Ok-clause-reached : goal.returns-in-Ok-clause-reached
returns-in-Ok-clause-reached g c = λ bytes left means ok.
    let w = returns-in-Ok-clause-written g c (ok_other _ ok) in
    let l = along.reached (map string_bytes c.args.words.now) bytes _ _ w.0 left means ok w.1 in (l.0, l.1, (w.0, l.2, w.2))

pub returns-in-Ok-clause-reached_sum : goal.returns-in-Ok-clause-reached_sum
returns-in-Ok-clause-reached_sum g c = λ bytes left means ok.
    let w = returns-in-Ok-clause-written g c (ok_other _ ok) in
    let l = along.reached_sum (map string_bytes c.args.words.now) bytes _ _ w.0 left means ok w.1 in (l.0, l.1, (w.0, l.2, w.2))

pub returns-in-Ok-clause-tie_cause : goal.returns-in-Ok-clause-tie_cause
returns-in-Ok-clause-tie_cause g c = λ bytes proof left walks is.
    let w = returns-in-Ok-clause-written g c (tie_other _ proof is) in
    along.tie_cause (map string_bytes c.args.words.now) bytes proof _ _ w.0 left walks is w.1

pub returns-in-Ok-clause-overflow_cause : goal.returns-in-Ok-clause-overflow_cause
returns-in-Ok-clause-overflow_cause g c = λ bytes cell left walks is.
    let w = returns-in-Ok-clause-written g c (cell_other _ cell is) in
    along.overflow_cause (map string_bytes c.args.words.now) bytes cell _ _ w.0 left walks is w.1

pub returns-in-Ok-clause-judged_ties : goal.returns-in-Ok-clause-judged_ties
returns-in-Ok-clause-judged_ties g c = λ bytes file left short means e many fit.
    along.judged_ties (map string_bytes c.args.words.now) bytes file _ short means e many fit (λ other. let w = returns-in-Ok-clause-written g c other in (w.0, known (map string_bytes c.args.words.now) _ bytes _ _ left w.1))

pub returns-in-Ok-clause-tie_free : goal.returns-in-Ok-clause-tie_free
returns-in-Ok-clause-tie_free g c = λ bytes file left means f ok.
    let w = returns-in-Ok-clause-written g c (ok_other _ ok) in
    along.tie_free (map string_bytes c.args.words.now) bytes file _ _ w.0 left means f ok w.1

pub returns-in-Ok-clause-walked : goal.returns-in-Ok-clause-walked
returns-in-Ok-clause-walked g c = λ bytes file left short walks f safe fits.
    along.walked (map string_bytes c.args.words.now) bytes file _ short walks f safe fits (λ other. let w = returns-in-Ok-clause-written g c other in (w.0, known (map string_bytes c.args.words.now) _ bytes _ _ left w.1))

pub returns-in-Ok-clause-quiet : goal.returns-in-Ok-clause-quiet
returns-in-Ok-clause-quiet g c = λ bytes file left f quiet cell is.
    let w = returns-in-Ok-clause-written g c (cell_other _ cell is) in
    never_unfit bytes file f quiet (map string_bytes c.args.words.now) _ _ w.0 cell left w.1 is

pub returns-in-Ok-clause-walked_quiet : goal.returns-in-Ok-clause-walked_quiet
returns-in-Ok-clause-walked_quiet g c = λ bytes file left short walks f safe quiet.
    along.walked (map string_bytes c.args.words.now) bytes file _ short walks f safe (meant_tree_fits bytes file f quiet)
    (λ other. let w = returns-in-Ok-clause-written g c other in (w.0, known (map string_bytes c.args.words.now) _ bytes _ _ left w.1))

pub returns-in-Ok-clause-passes : goal.returns-in-Ok-clause-passes
returns-in-Ok-clause-passes g c = λ bytes file left means written quiet.
    passes bytes file written quiet (map string_bytes c.args.words.now) means _
    (λ other. let w = returns-in-Ok-clause-written g c other in (w.0, known (map string_bytes c.args.words.now) _ bytes _ _ left w.1))

pub returns-in-Ok-clause-moved : goal.returns-in-Ok-clause-moved
returns-in-Ok-clause-moved g c = λ bytes left means ok.
    let w = returns-in-Ok-clause-written g c (ok_other _ ok) in
    let l = move.moved (map string_bytes c.args.words.now) bytes means _ _ w.0 left ok w.1 in
    (l.0, l.1, l.2, l.3, (w.0, l.4, w.2))

pub returns-in-Ok-clause-moved_whole : goal.returns-in-Ok-clause-moved_whole
returns-in-Ok-clause-moved_whole g c = λ bytes listing second left means text full generic ok.
    let w = returns-in-Ok-clause-written g c (ok_other _ ok) in
    (w.0, move.moved_whole (map string_bytes c.args.words.now) bytes means listing second _ _ w.0 left text full generic ok w.1, w.2)

pub returns-in-Ok-clause-move_tie : goal.returns-in-Ok-clause-move_tie
returns-in-Ok-clause-move_tie g c = λ bytes proof left means is.
    let w = returns-in-Ok-clause-written g c (tie_other _ proof is) in
    move.move_tie (map string_bytes c.args.words.now) bytes means proof _ _ w.0 left is w.1

pub returns-in-Ok-clause-move_unfit : goal.returns-in-Ok-clause-move_unfit
returns-in-Ok-clause-move_unfit g c = λ bytes cell left means is.
    let w = returns-in-Ok-clause-written g c (cell_other _ cell is) in
    move.move_unfit (map string_bytes c.args.words.now) bytes means cell _ _ w.0 left is w.1

pub returns-in-Ok-clause-moves : goal.returns-in-Ok-clause-moves
returns-in-Ok-clause-moves g c = λ bytes listing second left short means text right generic fits.
    move.moves (map string_bytes c.args.words.now) bytes means listing second _ short text right generic fits
    (λ other. let w = returns-in-Ok-clause-written g c other in (w.0, known (map string_bytes c.args.words.now) _ bytes _ _ left w.1))

pub returns-in-Ok-clause-traced : goal.returns-in-Ok-clause-traced
returns-in-Ok-clause-traced g c = λ bytes left means ok.
    let w = returns-in-Ok-clause-written g c (ok_other _ ok) in
    let l = along.traced (map string_bytes c.args.words.now) bytes _ _ w.0 left means ok w.1 in (l.0, l.1, (w.0, l.2, w.2))

pub returns-in-Ok-clause-verified : goal.returns-in-Ok-clause-verified
returns-in-Ok-clause-verified g c = λ bytes left means ok.
    let w = returns-in-Ok-clause-written g c (ok_other _ ok) in
    verified (map string_bytes c.args.words.now) bytes means _ _ w.0 left ok w.1

pub returns-in-Ok-clause-told_log : goal.returns-in-Ok-clause-told_log
returns-in-Ok-clause-told_log g c = λ bytes log left short means text.
    told_log (map string_bytes c.args.words.now) bytes means log _ short text (λ other. let w = returns-in-Ok-clause-written g c other in (w.0, known (map string_bytes c.args.words.now) _ bytes _ _ left w.1))

pub returns-in-Ok-clause-spares_log : goal.returns-in-Ok-clause-spares_log
returns-in-Ok-clause-spares_log g c = λ bytes file left means written.
    spares_log (map string_bytes c.args.words.now) bytes means file written _ (λ other. let w = returns-in-Ok-clause-written g c other in (w.0, known (map string_bytes c.args.words.now) _ bytes _ _ left w.1))

pub returns-in-Ok-clause-systems : goal.returns-in-Ok-clause-systems
returns-in-Ok-clause-systems g c = λ bytes seed left short means.
    told seed bytes _ _ _ (map string_bytes c.args.words.now) short means
    (λ other. let w = returns-in-Ok-clause-written g c other in (w.0, known (map string_bytes c.args.words.now) _ bytes _ _ left w.1, w.2))

pub returns-in-Ok-clause-needs_team : goal.returns-in-Ok-clause-needs_team
returns-in-Ok-clause-needs_team g c =
    let few : needs_team c.in-Some.command ≡ false = search rules in (
      (λ e. let w = returns-in-Ok-clause-written g c (team_other _ e) in asked_for (map string_bytes c.args.words.now) _ _ w.0 e w.1),
      (λ t. no_team (map string_bytes c.args.words.now) c.in-Ok.command c.in-Ok.ensures (same_team (map string_bytes c.args.words.now) c.in-Some.command c.in-Ok.command c.in-Some.ensures.meaning c.in-Ok.ensures few) t),
    )

pub returns-in-Ok-clause-untouched : goal.returns-in-Ok-clause-untouched
returns-in-Ok-clause-untouched g c = λ e.
    let few : needs_team c.in-Some.command ≡ false = search rules in
    no_team (map string_bytes c.args.words.now) c.in-Ok.command c.in-Ok.ensures (same_team (map string_bytes c.args.words.now) c.in-Some.command c.in-Ok.command c.in-Some.ensures.meaning c.in-Ok.ensures few) ((returns-in-Ok-clause-needs_team g c).0 e)

pub returns-in-Ok-clause-made : goal.returns-in-Ok-clause-made
returns-in-Ok-clause-made g c = λ family seed means.
    makes (map string_bytes c.args.words.now) _ family seed _ means (λ other. let w = returns-in-Ok-clause-written g c other in (w.0, w.1))

pub returns-in-Ok-clause-made_text : goal.returns-in-Ok-clause-made_text
returns-in-Ok-clause-made_text g c = λ family seed means ok.
    let w = returns-in-Ok-clause-written g c (ok_other _ ok) in
    appends_as _ _ w.0 _ (called_made (map string_bytes c.args.words.now) _ family seed _ w.0 means w.1).1 w.2

pub returns-in-Ok-clause-usage : goal.returns-in-Ok-clause-usage
returns-in-Ok-clause-usage g c = λ none. absurd (none (c.in-Ok.command, c.in-Ok.ensures))

pub returns-in-Ok-clause-unread : goal.returns-in-Ok-clause-unread
returns-in-Ok-clause-unread g c = λ none. c.run_command.ensures.unread (no_reader (map string_bytes c.args.words.now) c.in-Ok.command c.in-Ok.ensures none)

pub returns-in-Ok-clause-whole : goal.returns-in-Ok-clause-whole
returns-in-Ok-clause-whole g c = λ other reading long. c.run_command.ensures.whole other (reader (map string_bytes c.args.words.now) c.in-Ok.command c.in-Ok.ensures reading) long

pub read_command-requires : goal.read_command-requires
read_command-requires g c = (c.in-Some.command, c.in-Some.ensures.meaning)

pub run_command-requires : goal.run_command-requires
run_command-requires g c =
    let few : needs_team c.in-Some.command ≡ false = search rules in
    record {
      fit = fits (map string_bytes c.args.words.now) c.in-Ok.command c.in-Ok.ensures;
      alone = (same_team (map string_bytes c.args.words.now) c.in-Some.command c.in-Ok.command c.in-Some.ensures.meaning c.in-Ok.ensures few);
    }

pub returns-in_default-clause-needs_team : goal.returns-in_default-clause-needs_team
returns-in_default-clause-needs_team g c =
    let few : needs_team c.in-Some.command ≡ false = search rules in (
      (λ e. absurd (let f = ap status_of e in omega (arith, f))),
      (λ t. no_team (map string_bytes c.args.words.now) c.in-Some.command c.in-Some.ensures.meaning few t),
    )

pub returns-then-needs_team-clause-written : goal.returns-then-needs_team-clause-written
returns-then-needs_team-clause-written g c = λ other.
    let team : IsTrue (needs_team c.in-Some.command) = search rules in
    ([], team_called (map string_bytes c.args.words.now) _ c.in-Some.command c.in-Some.ensures.meaning team, appends_none _)

pub returns-then-needs_team-clause-exact : goal.returns-then-needs_team-clause-exact
returns-then-needs_team-clause-exact g c = λ bytes o t left h.
    let team : IsTrue (needs_team c.in-Some.command) = search rules in
    comes (map string_bytes c.args.words.now) bytes o _ t h (λ other. ([], team_called (map string_bytes c.args.words.now) (Some bytes) c.in-Some.command c.in-Some.ensures.meaning team))

pub returns-then-needs_team-clause-complete : goal.returns-then-needs_team-clause-complete
returns-then-needs_team-clause-complete g c = λ bytes file left short means e many fit.
    let team : IsTrue (needs_team c.in-Some.command) = search rules in
    no_other (map string_bytes c.args.words.now) c.in-Some.command Plain c.in-Some.ensures.meaning team refl means

pub returns-then-needs_team-clause-judged_ties : goal.returns-then-needs_team-clause-judged_ties
returns-then-needs_team-clause-judged_ties g c = λ bytes file left short means e many fit.
    let team : IsTrue (needs_team c.in-Some.command) = search rules in
    no_other (map string_bytes c.args.words.now) c.in-Some.command Generic c.in-Some.ensures.meaning team refl means

pub returns-then-needs_team-clause-judged : goal.returns-then-needs_team-clause-judged
returns-then-needs_team-clause-judged g c = λ bytes listing left short means text fit.
    let team : IsTrue (needs_team c.in-Some.command) = search rules in
    no_other (map string_bytes c.args.words.now) c.in-Some.command Check c.in-Some.ensures.meaning team refl means

pub returns-then-needs_team-clause-spares : goal.returns-then-needs_team-clause-spares
returns-then-needs_team-clause-spares g c = λ bytes file left means written.
    let team : IsTrue (needs_team c.in-Some.command) = search rules in
    no_other (map string_bytes c.args.words.now) c.in-Some.command Check c.in-Some.ensures.meaning team refl means

pub returns-then-needs_team-clause-made : goal.returns-then-needs_team-clause-made
returns-then-needs_team-clause-made g c = λ family seed means.
    let team : IsTrue (needs_team c.in-Some.command) = search rules in
    no_other (map string_bytes c.args.words.now) c.in-Some.command (Make family seed) c.in-Some.ensures.meaning team refl means

pub returns-then-needs_team-clause-walked : goal.returns-then-needs_team-clause-walked
returns-then-needs_team-clause-walked g c = λ bytes file left short walks f safe fits.
    let team : IsTrue (needs_team c.in-Some.command) = search rules in
    no_walk (map string_bytes c.args.words.now) c.in-Some.command c.in-Some.ensures.meaning team walks

pub returns-then-needs_team-clause-walked_quiet : goal.returns-then-needs_team-clause-walked_quiet
returns-then-needs_team-clause-walked_quiet g c = λ bytes file left short walks f safe quiet.
    let team : IsTrue (needs_team c.in-Some.command) = search rules in
    no_walk (map string_bytes c.args.words.now) c.in-Some.command c.in-Some.ensures.meaning team walks

pub returns-then-needs_team-clause-passes : goal.returns-then-needs_team-clause-passes
returns-then-needs_team-clause-passes g c = λ bytes file left means written quiet.
    let team : IsTrue (needs_team c.in-Some.command) = search rules in
    no_other (map string_bytes c.args.words.now) c.in-Some.command Check c.in-Some.ensures.meaning team refl means

pub returns-then-needs_team-clause-moves : goal.returns-then-needs_team-clause-moves
returns-then-needs_team-clause-moves g c = λ bytes listing second left short means text right generic fits.
    let team : IsTrue (needs_team c.in-Some.command) = search rules in
    no_other (map string_bytes c.args.words.now) c.in-Some.command Move c.in-Some.ensures.meaning team refl means

pub returns-then-needs_team-clause-told_log : goal.returns-then-needs_team-clause-told_log
returns-then-needs_team-clause-told_log g c = λ bytes log left short means text.
    let team : IsTrue (needs_team c.in-Some.command) = search rules in
    no_other (map string_bytes c.args.words.now) c.in-Some.command Verify c.in-Some.ensures.meaning team refl means

pub returns-then-needs_team-clause-spares_log : goal.returns-then-needs_team-clause-spares_log
returns-then-needs_team-clause-spares_log g c = λ bytes file left means written.
    let team : IsTrue (needs_team c.in-Some.command) = search rules in
    no_other (map string_bytes c.args.words.now) c.in-Some.command Verify c.in-Some.ensures.meaning team refl means

pub returns-then-needs_team-clause-systems : goal.returns-then-needs_team-clause-systems
returns-then-needs_team-clause-systems g c = λ bytes seed left short means.
    let team : IsTrue (needs_team c.in-Some.command) = search rules in
    no_other (map string_bytes c.args.words.now) c.in-Some.command (Poly seed) c.in-Some.ensures.meaning team refl means

pub returns-then-needs_team-clause-needs_team : goal.returns-then-needs_team-clause-needs_team
returns-then-needs_team-clause-needs_team g c =
    let team : IsTrue (needs_team c.in-Some.command) = search rules in
    ((λ e. (c.in-Some.command, c.in-Some.ensures.meaning, team)), (λ t. refl))

pub returns-then-needs_team-clause-usage : goal.returns-then-needs_team-clause-usage
returns-then-needs_team-clause-usage g c = λ none. absurd (none (c.in-Some.command, c.in-Some.ensures.meaning))

pub returns-then-needs_team-clause-whole : goal.returns-then-needs_team-clause-whole
returns-then-needs_team-clause-whole g c = λ other reading long.
    let team : IsTrue (needs_team c.in-Some.command) = search rules in
    no_reading (map string_bytes c.args.words.now) c.in-Some.command c.in-Some.ensures.meaning team reading

pub returns-in-None-clause-needs_team : goal.returns-in-None-clause-needs_team
returns-in-None-clause-needs_team g c = (
  (λ e. usage_alone _ _ _ _ _ _ c.finish.ensures.ends e),
  (λ t. meant_team (map string_bytes c.args.words.now) c.in-None.ensures.meaning t),
)

pub returns-in-None-clause-untouched : goal.returns-in-None-clause-untouched
returns-in-None-clause-untouched g c = λ e. usage_alone _ _ _ _ _ _ c.finish.ensures.ends e

pub returns-in-None-clause-walked : goal.returns-in-None-clause-walked
returns-in-None-clause-walked g c = λ bytes file left short walks f safe fits. absurd (c.in-None.ensures.meaning (walking_meant (map string_bytes c.args.words.now) walks))

pub returns-in-None-clause-quiet : goal.returns-in-None-clause-quiet
returns-in-None-clause-quiet g c = λ bytes file left f quiet cell is. usage_fits _ _ _ _ _ _ cell c.finish.ensures.ends is

pub returns-in-None-clause-walked_quiet : goal.returns-in-None-clause-walked_quiet
returns-in-None-clause-walked_quiet g c = λ bytes file left short walks f safe quiet. absurd (c.in-None.ensures.meaning (walking_meant (map string_bytes c.args.words.now) walks))

pub returns-in-None-clause-passes : goal.returns-in-None-clause-passes
returns-in-None-clause-passes g c = λ bytes file left means written quiet. absurd (c.in-None.ensures.meaning (Check, means))

pub returns-in-None-clause-move_tie : goal.returns-in-None-clause-move_tie
returns-in-None-clause-move_tie g c = λ bytes proof left means is. absurd (c.in-None.ensures.meaning (Move, means))

pub returns-in-None-clause-move_unfit : goal.returns-in-None-clause-move_unfit
returns-in-None-clause-move_unfit g c = λ bytes cell left means is. absurd (c.in-None.ensures.meaning (Move, means))

pub returns-in-None-clause-moves : goal.returns-in-None-clause-moves
returns-in-None-clause-moves g c = λ bytes listing second left short means text right generic fits. absurd (c.in-None.ensures.meaning (Move, means))

pub returns-in-None-clause-told_log : goal.returns-in-None-clause-told_log
returns-in-None-clause-told_log g c = λ bytes log left short means text. absurd (c.in-None.ensures.meaning (Verify, means))

pub returns-in-None-clause-spares_log : goal.returns-in-None-clause-spares_log
returns-in-None-clause-spares_log g c = λ bytes file left means written. absurd (c.in-None.ensures.meaning (Verify, means))

pub returns-in-None-clause-systems : goal.returns-in-None-clause-systems
returns-in-None-clause-systems g c = λ bytes seed left short means. absurd (c.in-None.ensures.meaning (Poly seed, means))

pub returns-in-None-clause-tie_cause : goal.returns-in-None-clause-tie_cause
returns-in-None-clause-tie_cause g c = λ bytes proof left walks is. absurd (c.in-None.ensures.meaning (walking_meant (map string_bytes c.args.words.now) walks))

pub returns-in-None-clause-overflow_cause : goal.returns-in-None-clause-overflow_cause
returns-in-None-clause-overflow_cause g c = λ bytes cell left walks is. absurd (c.in-None.ensures.meaning (walking_meant (map string_bytes c.args.words.now) walks))

pub returns-in-None-clause-cut_off : goal.returns-in-None-clause-cut_off
returns-in-None-clause-cut_off g c = usage_cut (map string_bytes c.args.words.now) _ _ _ _ _ _ c.in-None.ensures.meaning c.finish.ensures.ends

pub returns-in-None-clause-exact : goal.returns-in-None-clause-exact
returns-in-None-clause-exact g c = λ bytes o t left h.
    comes (map string_bytes c.args.words.now) bytes o _ t h (λ other. let w = usage_written (map string_bytes c.args.words.now) (Some bytes) _ _ _ _ _ c.in-None.ensures.meaning c.finish.ensures.ends other in (w.0, w.1))
