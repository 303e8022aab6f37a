use Rattle.std.proofs.Common.{◌≡◌, ◌∙◌, List, map, ap}
use Rattle.listing_text.specs.declared.listing.ListedCell.{ListedCell}
use Rattle.support_text.specs.Stored.{heights_view}
use Rattle.mixedcells.specs.Moving.{listed_cells}
use Rattle.mixedcells.proofs.MoveReplies.{in_order, all_begun, segment_is, carried_is}
use Rattle.mixedcells.proofs.moves.carried.Goals as goal

pub move_by-requires-clause-segment : goal.move_by-requires-clause-segment
move_by-requires-clause-segment c = segment_is c.args.listing.now (map heights_view c.args.second.now) c.in-Ok.segment c.requires.heights c.in-Ok.ensures.1

pub move_by-requires-clause-order : goal.move_by-requires-clause-order
move_by-requires-clause-order c =
    let cells : c.deref-2.result.now ≡ listed_cells c.args.listing.now =
    c.deref-2.ensures.value ∙ c.in-Ok-listed_cells.ensures ∙ ap (λ (l : List ListedCell). map (λ (x : ListedCell). x.cell) l) c.deref.ensures.value in
    in_order c.args.listing.now c.dim-dim.ensures.valid c.requires.listed c.requires.right c.deref-2.result.now cells

pub move_by-requires-clause-alive : goal.move_by-requires-clause-alive
move_by-requires-clause-alive c =
    let cells : c.deref-2.result.now ≡ listed_cells c.args.listing.now =
    c.deref-2.ensures.value ∙ c.in-Ok-listed_cells.ensures ∙ ap (λ (l : List ListedCell). map (λ (x : ListedCell). x.cell) l) c.deref.ensures.value in
    all_begun c.args.listing.now (map heights_view c.args.second.now) c.dim-dim.ensures.valid c.requires.version c.requires.heights c.requires.listed c.requires.right
    c.in-Ok.segment c.deref-2.result.now c.in-Ok.ensures.1 cells

pub returns : goal.returns
returns c =
    let cells : c.deref-2.result.now ≡ listed_cells c.args.listing.now =
    c.deref-2.ensures.value ∙ c.in-Ok-listed_cells.ensures ∙ ap (λ (l : List ListedCell). map (λ (x : ListedCell). x.cell) l) c.deref.ensures.value in
    carried_is c.args.listing.now (map heights_view c.args.second.now) c.args.file.now c.in-Ok.segment c.in-Ok-plain.target c.deref-2.result.now
    c.in-Ok.ensures.1 c.in-Ok-plain.ensures c.requires.target cells (λ v. v.items) c.move_by.result c.move_by.ensures.answer c.move_by.ensures.mixed
