use Rattle.std.proofs.Common.{map, string_bytes, rules, refl, subst, IsTrue}
use Rattle.mixedcells.specs.declared.words.Command.TheVariants.{Plain, List, Sum, Check, Generic, Move, Trace, Verify, Powers, Poly, Make}
use Rattle.mixedcells.specs.Words.{IsForTeam, IsReading}
use Rattle.mixedcells.specs.ByMany.{for_one}
use Rattle.mixedcells.proofs.Exact.{tie_other, cell_other, team_other, comes, ok_other, known}
use Rattle.mixedcells.proofs.AlongPaths as along
use Rattle.mixedcells.proofs.Judged.{list_spared}
use Rattle.mixedcells.proofs.QuietFiles.{never_unfit, meant_tree_fits}
use Rattle.mixedcells.proofs.Teams.{asked_for}
use Rattle.mixedcells.proofs.ForOne.{for_one_same, one_means, walking, team_command, team_meant, called_back, alone_words, reading_by_one}
use Rattle.mixedcells.proofs.many.run.Goals as goal

pub returns-then-asks_for_team-clause-exact : goal.returns-then-asks_for_team-clause-exact
returns-then-asks_for_team-clause-exact g c = λ bytes o t left h.
    comes (for_one (map string_bytes c.args.words.now)) bytes o _ t h (λ other. let w = c.run_team.ensures.written other in (w.0, known (for_one (map string_bytes c.args.words.now)) _ bytes _ _ left w.1))

pub returns-then-asks_for_team-clause-headline : goal.returns-then-asks_for_team-clause-headline
returns-then-asks_for_team-clause-headline g c = λ searchers bytes file left means f safe ok.
    let w = c.run_team.ensures.written (ok_other _ ok) in
    (w.0, along.headline (for_one (map string_bytes c.args.words.now)) bytes file _ _ w.0 left (one_means (map string_bytes c.args.words.now) (List searchers) means) f safe ok w.1, w.2)

pub returns-then-asks_for_team-clause-headline_sum : goal.returns-then-asks_for_team-clause-headline_sum
returns-then-asks_for_team-clause-headline_sum g c = λ searchers bytes file left means f safe ok.
    let w = c.run_team.ensures.written (ok_other _ ok) in
    (w.0, along.headline_sum (for_one (map string_bytes c.args.words.now)) bytes file _ _ w.0 left (one_means (map string_bytes c.args.words.now) (Sum searchers) means) f safe ok w.1, w.2)

pub returns-then-asks_for_team-clause-reached : goal.returns-then-asks_for_team-clause-reached
returns-then-asks_for_team-clause-reached g c = λ searchers bytes left means ok.
    let w = c.run_team.ensures.written (ok_other _ ok) in
    let l = along.reached (for_one (map string_bytes c.args.words.now)) bytes _ _ w.0 left (one_means (map string_bytes c.args.words.now) (List searchers) means) ok w.1 in (l.0, l.1, (w.0, l.2, w.2))

pub returns-then-asks_for_team-clause-reached_sum : goal.returns-then-asks_for_team-clause-reached_sum
returns-then-asks_for_team-clause-reached_sum g c = λ searchers bytes left means ok.
    let w = c.run_team.ensures.written (ok_other _ ok) in
    let l = along.reached_sum (for_one (map string_bytes c.args.words.now)) bytes _ _ w.0 left (one_means (map string_bytes c.args.words.now) (Sum searchers) means) ok w.1 in (l.0, l.1, (w.0, l.2, w.2))

pub returns-then-asks_for_team-clause-written_reached : goal.returns-then-asks_for_team-clause-written_reached
returns-then-asks_for_team-clause-written_reached g c = λ searchers bytes left means ok.
    let w = c.run_team.ensures.written (ok_other _ ok) in
    let l = list_spared (for_one (map string_bytes c.args.words.now)) _ bytes _ w.0 left (one_means (map string_bytes c.args.words.now) (List searchers) means) ok w.1 in (l.0, l.1, (w.0, l.2, w.2))

pub returns-then-asks_for_team-clause-tie_cause : goal.returns-then-asks_for_team-clause-tie_cause
returns-then-asks_for_team-clause-tie_cause g c = λ bytes proof left walks is.
    let w = c.run_team.ensures.written (tie_other _ proof is) in
    along.tie_cause (for_one (map string_bytes c.args.words.now)) bytes proof _ _ w.0 left (walking (map string_bytes c.args.words.now) walks) is w.1

pub returns-then-asks_for_team-clause-overflow_cause : goal.returns-then-asks_for_team-clause-overflow_cause
returns-then-asks_for_team-clause-overflow_cause g c = λ bytes cell left walks is.
    let w = c.run_team.ensures.written (cell_other _ cell is) in
    along.overflow_cause (for_one (map string_bytes c.args.words.now)) bytes cell _ _ w.0 left (walking (map string_bytes c.args.words.now) walks) is w.1

pub returns-then-asks_for_team-clause-walked : goal.returns-then-asks_for_team-clause-walked
returns-then-asks_for_team-clause-walked g c = λ bytes file left short walks f safe fits.
    along.walked (for_one (map string_bytes c.args.words.now)) bytes file _ short (walking (map string_bytes c.args.words.now) walks) f safe fits (λ other. let w = c.run_team.ensures.written other in (w.0, known (for_one (map string_bytes c.args.words.now)) _ bytes _ _ left w.1))

pub returns-then-asks_for_team-clause-done : goal.returns-then-asks_for_team-clause-done
returns-then-asks_for_team-clause-done g c = λ e.
    let team : IsForTeam (map string_bytes c.args.words.now) = c.asks_for_team.ensures.0 (search rules) in
    let w = c.run_team.ensures.written (team_other _ e) in
    alone_words (map string_bytes c.args.words.now) team.0 team.1 (asked_for (for_one (map string_bytes c.args.words.now)) _ _ w.0 e w.1)

pub returns-then-asks_for_team-clause-listing : goal.returns-then-asks_for_team-clause-listing
returns-then-asks_for_team-clause-listing g c = λ bytes left means ok.
    let team : IsForTeam (map string_bytes c.args.words.now) = c.asks_for_team.ensures.0 (search rules) in
    team_command (map string_bytes c.args.words.now) Plain team means refl

pub returns-then-asks_for_team-clause-complete : goal.returns-then-asks_for_team-clause-complete
returns-then-asks_for_team-clause-complete g c = λ bytes file left short means e many fit.
    let team : IsForTeam (map string_bytes c.args.words.now) = c.asks_for_team.ensures.0 (search rules) in
    team_command (map string_bytes c.args.words.now) Plain team means refl

pub returns-then-asks_for_team-clause-written_listing : goal.returns-then-asks_for_team-clause-written_listing
returns-then-asks_for_team-clause-written_listing g c = λ bytes left means ok.
    let team : IsForTeam (map string_bytes c.args.words.now) = c.asks_for_team.ensures.0 (search rules) in
    team_command (map string_bytes c.args.words.now) Plain team means refl

pub returns-then-asks_for_team-clause-checked : goal.returns-then-asks_for_team-clause-checked
returns-then-asks_for_team-clause-checked g c = λ bytes left means ok.
    let team : IsForTeam (map string_bytes c.args.words.now) = c.asks_for_team.ensures.0 (search rules) in
    team_command (map string_bytes c.args.words.now) Check team means refl

pub returns-then-asks_for_team-clause-judged : goal.returns-then-asks_for_team-clause-judged
returns-then-asks_for_team-clause-judged g c = λ bytes listing left short means text fit.
    let team : IsForTeam (map string_bytes c.args.words.now) = c.asks_for_team.ensures.0 (search rules) in
    team_command (map string_bytes c.args.words.now) Check team means refl

pub returns-then-asks_for_team-clause-spares : goal.returns-then-asks_for_team-clause-spares
returns-then-asks_for_team-clause-spares g c = λ bytes file left means written.
    let team : IsForTeam (map string_bytes c.args.words.now) = c.asks_for_team.ensures.0 (search rules) in
    team_command (map string_bytes c.args.words.now) Check team means refl

pub returns-then-asks_for_team-clause-judged_ties : goal.returns-then-asks_for_team-clause-judged_ties
returns-then-asks_for_team-clause-judged_ties g c = λ bytes file left short means e many fit.
    let team : IsForTeam (map string_bytes c.args.words.now) = c.asks_for_team.ensures.0 (search rules) in
    team_command (map string_bytes c.args.words.now) Generic team means refl

pub returns-then-asks_for_team-clause-tie_free : goal.returns-then-asks_for_team-clause-tie_free
returns-then-asks_for_team-clause-tie_free g c = λ bytes file left means f ok.
    let team : IsForTeam (map string_bytes c.args.words.now) = c.asks_for_team.ensures.0 (search rules) in
    team_command (map string_bytes c.args.words.now) Generic team means refl

pub returns-then-asks_for_team-clause-moved : goal.returns-then-asks_for_team-clause-moved
returns-then-asks_for_team-clause-moved g c = λ bytes left means ok.
    let team : IsForTeam (map string_bytes c.args.words.now) = c.asks_for_team.ensures.0 (search rules) in
    team_command (map string_bytes c.args.words.now) Move team means refl

pub returns-then-asks_for_team-clause-moved_whole : goal.returns-then-asks_for_team-clause-moved_whole
returns-then-asks_for_team-clause-moved_whole g c = λ bytes listing second left means text full generic ok.
    let team : IsForTeam (map string_bytes c.args.words.now) = c.asks_for_team.ensures.0 (search rules) in
    team_command (map string_bytes c.args.words.now) Move team means refl

pub returns-then-asks_for_team-clause-move_tie : goal.returns-then-asks_for_team-clause-move_tie
returns-then-asks_for_team-clause-move_tie g c = λ bytes proof left means is.
    let team : IsForTeam (map string_bytes c.args.words.now) = c.asks_for_team.ensures.0 (search rules) in
    team_command (map string_bytes c.args.words.now) Move team means refl

pub returns-then-asks_for_team-clause-move_unfit : goal.returns-then-asks_for_team-clause-move_unfit
returns-then-asks_for_team-clause-move_unfit g c = λ bytes cell left means is.
    let team : IsForTeam (map string_bytes c.args.words.now) = c.asks_for_team.ensures.0 (search rules) in
    team_command (map string_bytes c.args.words.now) Move team means refl

pub returns-then-asks_for_team-clause-moves : goal.returns-then-asks_for_team-clause-moves
returns-then-asks_for_team-clause-moves g c = λ bytes listing second left short means text right generic fits.
    let team : IsForTeam (map string_bytes c.args.words.now) = c.asks_for_team.ensures.0 (search rules) in
    team_command (map string_bytes c.args.words.now) Move team means refl

pub returns-then-asks_for_team-clause-traced : goal.returns-then-asks_for_team-clause-traced
returns-then-asks_for_team-clause-traced g c = λ bytes left means ok.
    let team : IsForTeam (map string_bytes c.args.words.now) = c.asks_for_team.ensures.0 (search rules) in
    team_command (map string_bytes c.args.words.now) Trace team means refl

pub returns-then-asks_for_team-clause-verified : goal.returns-then-asks_for_team-clause-verified
returns-then-asks_for_team-clause-verified g c = λ bytes left means ok.
    let team : IsForTeam (map string_bytes c.args.words.now) = c.asks_for_team.ensures.0 (search rules) in
    team_command (map string_bytes c.args.words.now) Verify team means refl

pub returns-then-asks_for_team-clause-told_log : goal.returns-then-asks_for_team-clause-told_log
returns-then-asks_for_team-clause-told_log g c = λ bytes log left short means text.
    let team : IsForTeam (map string_bytes c.args.words.now) = c.asks_for_team.ensures.0 (search rules) in
    team_command (map string_bytes c.args.words.now) Verify team means refl

pub returns-then-asks_for_team-clause-spares_log : goal.returns-then-asks_for_team-clause-spares_log
returns-then-asks_for_team-clause-spares_log g c = λ bytes file left means written.
    let team : IsForTeam (map string_bytes c.args.words.now) = c.asks_for_team.ensures.0 (search rules) in
    team_command (map string_bytes c.args.words.now) Verify team means refl

pub returns-then-asks_for_team-clause-powers : goal.returns-then-asks_for_team-clause-powers
returns-then-asks_for_team-clause-powers g c = λ bytes left means ok.
    let team : IsForTeam (map string_bytes c.args.words.now) = c.asks_for_team.ensures.0 (search rules) in
    team_command (map string_bytes c.args.words.now) Powers team means refl

pub returns-then-asks_for_team-clause-made : goal.returns-then-asks_for_team-clause-made
returns-then-asks_for_team-clause-made g c = λ family seed means.
    let team : IsForTeam (map string_bytes c.args.words.now) = c.asks_for_team.ensures.0 (search rules) in
    team_command (map string_bytes c.args.words.now) (Make family seed) team means refl

pub returns-then-asks_for_team-clause-made_text : goal.returns-then-asks_for_team-clause-made_text
returns-then-asks_for_team-clause-made_text g c = λ family seed means ok.
    let team : IsForTeam (map string_bytes c.args.words.now) = c.asks_for_team.ensures.0 (search rules) in
    team_command (map string_bytes c.args.words.now) (Make family seed) team means refl

pub returns-then-asks_for_team-clause-usage : goal.returns-then-asks_for_team-clause-usage
returns-then-asks_for_team-clause-usage g c = λ none.
    let team : IsForTeam (map string_bytes c.args.words.now) = c.asks_for_team.ensures.0 (search rules) in
    team_meant (map string_bytes c.args.words.now) team none

pub returns-then-asks_for_team-clause-unread : goal.returns-then-asks_for_team-clause-unread
returns-then-asks_for_team-clause-unread g c = λ none.
    let team : IsForTeam (map string_bytes c.args.words.now) = c.asks_for_team.ensures.0 (search rules) in
    absurd (none (reading_by_one (map string_bytes c.args.words.now) team))

pub returns-then-asks_for_team-clause-whole : goal.returns-then-asks_for_team-clause-whole
returns-then-asks_for_team-clause-whole g c = λ other reading long. c.run_team.ensures.whole other long

pub returns-clause-written : goal.returns-clause-written
returns-clause-written g c = λ other.
    let none : ¬ (IsForTeam (map string_bytes c.args.words.now)) = (let f : ¬ (IsTrue c.asks_for_team.result) = search rules in λ t. f (c.asks_for_team.ensures.1 t)) in
    let w = c.run_alone.ensures.written other in
    (w.0, called_back (map string_bytes c.args.words.now) (for_one_same (map string_bytes c.args.words.now) none) _ _ _ w.1, w.2)

pub returns-clause-cut_off : goal.returns-clause-cut_off
returns-clause-cut_off g c = λ fault.
    let none : ¬ (IsForTeam (map string_bytes c.args.words.now)) = (let f : ¬ (IsTrue c.asks_for_team.result) = search rules in λ t. f (c.asks_for_team.ensures.1 t)) in
    let w = c.run_alone.ensures.cut_off fault in
    (w.0, (w.1.0, w.1.1, called_back (map string_bytes c.args.words.now) (for_one_same (map string_bytes c.args.words.now) none) _ _ _ w.1.2, w.1.3))

pub returns-clause-exact : goal.returns-clause-exact
returns-clause-exact g c = λ bytes o t left h.
    comes (for_one (map string_bytes c.args.words.now)) bytes o _ t h (λ other. let w = returns-clause-written g c other in (w.0, known (for_one (map string_bytes c.args.words.now)) _ bytes _ _ left w.1))

pub returns-clause-headline : goal.returns-clause-headline
returns-clause-headline g c = λ searchers bytes file left means f safe ok.
    let w = returns-clause-written g c (ok_other _ ok) in
    (w.0, along.headline (for_one (map string_bytes c.args.words.now)) bytes file _ _ w.0 left (one_means (map string_bytes c.args.words.now) (List searchers) means) f safe ok w.1, w.2)

pub returns-clause-headline_sum : goal.returns-clause-headline_sum
returns-clause-headline_sum g c = λ searchers bytes file left means f safe ok.
    let w = returns-clause-written g c (ok_other _ ok) in
    (w.0, along.headline_sum (for_one (map string_bytes c.args.words.now)) bytes file _ _ w.0 left (one_means (map string_bytes c.args.words.now) (Sum searchers) means) f safe ok w.1, w.2)

pub returns-clause-reached : goal.returns-clause-reached
returns-clause-reached g c = λ searchers bytes left means ok.
    let w = returns-clause-written g c (ok_other _ ok) in
    let l = along.reached (for_one (map string_bytes c.args.words.now)) bytes _ _ w.0 left (one_means (map string_bytes c.args.words.now) (List searchers) means) ok w.1 in (l.0, l.1, (w.0, l.2, w.2))

pub returns-clause-reached_sum : goal.returns-clause-reached_sum
returns-clause-reached_sum g c = λ searchers bytes left means ok.
    let w = returns-clause-written g c (ok_other _ ok) in
    let l = along.reached_sum (for_one (map string_bytes c.args.words.now)) bytes _ _ w.0 left (one_means (map string_bytes c.args.words.now) (Sum searchers) means) ok w.1 in (l.0, l.1, (w.0, l.2, w.2))

pub returns-clause-written_reached : goal.returns-clause-written_reached
returns-clause-written_reached g c = λ searchers bytes left means ok.
    let w = returns-clause-written g c (ok_other _ ok) in
    let l = list_spared (for_one (map string_bytes c.args.words.now)) _ bytes _ w.0 left (one_means (map string_bytes c.args.words.now) (List searchers) means) ok w.1 in (l.0, l.1, (w.0, l.2, w.2))

pub returns-clause-tie_cause : goal.returns-clause-tie_cause
returns-clause-tie_cause g c = λ bytes proof left walks is.
    let w = returns-clause-written g c (tie_other _ proof is) in
    along.tie_cause (for_one (map string_bytes c.args.words.now)) bytes proof _ _ w.0 left (walking (map string_bytes c.args.words.now) walks) is w.1

pub returns-clause-overflow_cause : goal.returns-clause-overflow_cause
returns-clause-overflow_cause g c = λ bytes cell left walks is.
    let w = returns-clause-written g c (cell_other _ cell is) in
    along.overflow_cause (for_one (map string_bytes c.args.words.now)) bytes cell _ _ w.0 left (walking (map string_bytes c.args.words.now) walks) is w.1

pub returns-clause-walked : goal.returns-clause-walked
returns-clause-walked g c = λ bytes file left short walks f safe fits.
    along.walked (for_one (map string_bytes c.args.words.now)) bytes file _ short (walking (map string_bytes c.args.words.now) walks) f safe fits (λ other. let w = returns-clause-written g c other in (w.0, known (for_one (map string_bytes c.args.words.now)) _ bytes _ _ left w.1))

pub returns-clause-done : goal.returns-clause-done
returns-clause-done g c = λ e.
    let none : ¬ (IsForTeam (map string_bytes c.args.words.now)) = (let f : ¬ (IsTrue c.asks_for_team.result) = search rules in λ t. f (c.asks_for_team.ensures.1 t)) in
    none (c.run_alone.ensures.needs_team.0 e)

pub returns-clause-unread : goal.returns-clause-unread
returns-clause-unread g c = λ reading.
    let none : ¬ (IsForTeam (map string_bytes c.args.words.now)) = (let f : ¬ (IsTrue c.asks_for_team.result) = search rules in λ t. f (c.asks_for_team.ensures.1 t)) in
    c.run_alone.ensures.unread (subst (λ v. ¬ (IsReading v)) (for_one_same (map string_bytes c.args.words.now) none) reading)

pub returns-clause-whole : goal.returns-clause-whole
returns-clause-whole g c = λ other reading long.
    let none : ¬ (IsForTeam (map string_bytes c.args.words.now)) = (let f : ¬ (IsTrue c.asks_for_team.result) = search rules in λ t. f (c.asks_for_team.ensures.1 t)) in
    c.run_alone.ensures.whole other (subst IsReading (for_one_same (map string_bytes c.args.words.now) none) reading) long

pub returns-then-asks_for_team-clause-walked_quiet : goal.returns-then-asks_for_team-clause-walked_quiet
returns-then-asks_for_team-clause-walked_quiet g c = λ bytes file left short walks f safe quiet.
    along.walked (for_one (map string_bytes c.args.words.now)) bytes file _ short (walking (map string_bytes c.args.words.now) walks) f safe (meant_tree_fits bytes file f quiet) (λ other. let w = c.run_team.ensures.written other in (w.0, known (for_one (map string_bytes c.args.words.now)) _ bytes _ _ left w.1))

pub returns-clause-walked_quiet : goal.returns-clause-walked_quiet
returns-clause-walked_quiet g c = λ bytes file left short walks f safe quiet.
    along.walked (for_one (map string_bytes c.args.words.now)) bytes file _ short (walking (map string_bytes c.args.words.now) walks) f safe (meant_tree_fits bytes file f quiet) (λ other. let w = returns-clause-written g c other in (w.0, known (for_one (map string_bytes c.args.words.now)) _ bytes _ _ left w.1))

pub returns-then-asks_for_team-clause-quiet : goal.returns-then-asks_for_team-clause-quiet
returns-then-asks_for_team-clause-quiet g c = λ bytes file left f quiet cell is.
    let w = c.run_team.ensures.written (cell_other _ cell is) in
    never_unfit bytes file f quiet (for_one (map string_bytes c.args.words.now)) _ _ w.0 cell left w.1 is

pub returns-then-asks_for_team-clause-passes : goal.returns-then-asks_for_team-clause-passes
returns-then-asks_for_team-clause-passes g c = λ bytes file left means written quiet.
    let team : IsForTeam (map string_bytes c.args.words.now) = c.asks_for_team.ensures.0 (search rules) in
    team_command (map string_bytes c.args.words.now) Check team means refl

pub returns-then-asks_for_team-clause-systems : goal.returns-then-asks_for_team-clause-systems
returns-then-asks_for_team-clause-systems g c = λ bytes seed left short means.
    let team : IsForTeam (map string_bytes c.args.words.now) = c.asks_for_team.ensures.0 (search rules) in
    team_command (map string_bytes c.args.words.now) (Poly seed) team means refl
