use Rattle.std.proofs.Common.{◌++◌, [], ◌∷◌, List, subst, sym, ap, ◌∙◌, slice_index_or, FitsSigned, to_z-of_z}
use Rattle.std.specs.Int.{w128}
use Rattle.std.proofs.lemmas.Int.{fits_signed_from_abs}
use Rattle.lex_height.specs.declared.part.LexPart.{LexPart}
use Rattle.lex_height.specs.Room.{blank}
use Rattle.lex_height.specs.Values.{AreParts}
use Rattle.crossing.specs.Zeros.{turned_part, first_part}
use Rattle.crossing.proofs.Parts.{each_fits, parts_next}
use Rattle.crossing.proofs.zeros.zero_parts.Goals as goal

pub turned-requires : goal.turned-requires
turned-requires c =
    let l = c.as_slice-part-items.result.now in
    let i = c.loop-part.part-index in
    let f = each_fits 1 l i blank (subst (AreParts 1) (sym c.loop-part.invariant.items) c.requires.3) c.loop-part-test.true in
    let fn : FitsSigned w128 (slice_index_or l i blank).num = fits_signed_from_abs w128 _ f in
    simp to_z-of_z f

pub loop-part-preserved : goal.loop-part-preserved
loop-part-preserved c =
    let l = c.as_slice-part-items.result.now in
    let i = c.loop-part.part-index in
    let f = each_fits 1 l i blank (subst (AreParts 1) (sym c.loop-part.invariant.items) c.requires.3) c.loop-part-test.true in
    let fn : FitsSigned w128 (slice_index_or l i blank).num = fits_signed_from_abs w128 _ f in
    let t = simp to_z-of_z at c.turned.ensures in
    record {
      items = c.loop-part.invariant.items;
      done =
          c.push.ensures ∙ ap (λ (p : LexPart). c.loop-part.parts ++ p ∷ []) t
          ∙ ap (λ (ps : List LexPart). ps ++ turned_part c.args.way (slice_index_or l i blank) ∷ []) c.loop-part.invariant.done
          ∙ parts_next (turned_part c.args.way) (first_part c.args.line.now.alpha) l i blank c.loop-part-test.true;
    }
