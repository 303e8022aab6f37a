use Rattle.std.proofs.Common.{◌∙◌, ap, sym, subst, ℤ, List, [], ◌∷◌, ◌++◌, arith, FitsSigned}
use Rattle.std.specs.Int.{w128}
use Rattle.std.proofs.lemmas.Int.{to_z-of_z}
use Rattle.std.proofs.lemmas.List.FromFn.{map-range_with_len_more}
use Rattle.int_vectors.specs.Fits.{AllFit}
use Rattle.family_gen.specs.Cyclic.{entry_of}
use Rattle.family_gen.proofs.WindowEntries.{entry_wide, window_fits}
use Rattle.family_gen.proofs.cycles.window.Goals as goal

pub loop-p-preserved : goal.loop-p-preserved
loop-p-preserved c =
    let wide : FitsSigned w128 c.entry.result = subst (FitsSigned w128) (sym c.entry.ensures) (entry_wide c.args.n c.args.k c.args.i c.loop-p.p) in
    c.in_default-push.ensures.items ∙ ap (λ (z : ℤ). c.loop-p.entries.items ++ z ∷ []) (to_z-of_z w128 c.entry.result wide ∙ c.entry.ensures)
    ∙ ap (λ (l : List ℤ). l ++ entry_of c.args.n c.args.k c.args.i c.loop-p.p ∷ []) c.loop-p.invariant
    ∙ sym (map-range_with_len_more (entry_of c.args.n c.args.k c.args.i) 0 c.loop-p.p c.loop-p.p (omega arith))

pub from_vec-requires : goal.from_vec-requires
from_vec-requires c = subst AllFit (sym c.loop-p.invariant) (window_fits c.args.n c.args.k c.args.i c.loop-p.p)
