use Rattle.std.proofs.Common.{◌∙◌, length, ap, sym}
use Rattle.carried_inverse.proofs.Rooms.{written_long}
use Rattle.searcher.proofs.lasts.is_nearer.Goals as goal

pub returns-clause-last : goal.returns-clause-last
returns-clause-last c =
    let last = c.requires.last in
    record {
      of = c.toward.ensures.from;
      inverse = c.toward.ensures.inverse;
      row = written_long c.args.last.now.row.len c.toward.new.row c.args.last.now.row.items (sym c.deref_mut.ensures.len ∙ ap length c.deref_mut.ensures.value) (c.toward.ensures.row ∙ ap length c.deref_mut.ensures.value) ∙ last.row;
    }
