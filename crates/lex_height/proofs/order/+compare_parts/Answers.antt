use Rattle.std.proofs.Common.{rules, FitsSigned, slice_index_or, ap, sym, ◌∙◌, subst, Equal, to_z-of_z}
use Rattle.std.specs.Int.{w128}
use Rattle.lex_height.specs.Room.{blank}
use Rattle.lex_height.proofs.Heads.{against_none, none_against, by_rest, by_heads, Told}
use Rattle.lex_height.proofs.order.+compare_parts.Goals as goal

pub returns-in-empty-len1-up : goal.returns-in-empty-len1-up
returns-in-empty-len1-up t c = none_against c.args.first_den c.args.second_den c.requires.first_den c.requires.second_den c.cmp.result c.args.first.now c.args.second.now blank (search rules) (search rules) c.requires.second c.cmp.ensures

pub returns-in-len1-up-empty : goal.returns-in-len1-up-empty
returns-in-len1-up-empty t c = against_none c.args.first_den c.args.second_den c.requires.first_den c.requires.second_den c.cmp-in-len1-up-empty.result c.args.first.now c.args.second.now blank (search rules) (search rules) c.requires.first c.cmp-in-len1-up-empty.ensures

pub returns-in-Equal : goal.returns-in-Equal
returns-in-Equal t c =
    let fp : FitsSigned w128 c.args.first_den = c.ranges.first_den in
    let fq : FitsSigned w128 c.args.second_den = c.ranges.second_den in
    by_rest c.args.first_den c.args.second_den c.requires.first_den c.requires.second_den c.compare_parts.result c.args.first.now c.args.second.now blank blank (search rules) (search rules) c.requires.first c.requires.second
    (subst (λ o. Told c.args.first_den c.args.second_den c.requires.first_den c.requires.second_den o (slice_index_or c.args.first.now 0 blank) (slice_index_or c.args.second.now 0 blank)) c.in-Equal.is (simp to_z-of_z at c.compare_heads.ensures)) (simp to_z-of_z at c.compare_parts.ensures)

pub returns-in_default : goal.returns-in_default
returns-in_default t c =
    let fp : FitsSigned w128 c.args.first_den = c.ranges.first_den in
    let fq : FitsSigned w128 c.args.second_den = c.ranges.second_den in
    by_heads c.args.first_den c.args.second_den c.requires.first_den c.requires.second_den c.compare_heads.result c.args.first.now c.args.second.now blank blank (search rules) (search rules) c.requires.first c.requires.second
    c.in_default.not-Equal (simp to_z-of_z at c.compare_heads.ensures)
