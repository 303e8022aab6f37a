use Rattle.std.proofs.Common.{◌≡◌, sym, ap, ◌∙◌, length, List, ℤ}
use Rattle.int_vectors.proofs.Each.{all_each}
use Rattle.log_check.proofs.products.is_row.Goals as goal

pub is_entry-requires-clause-a_long : goal.is_entry-requires-clause-a_long
is_entry-requires-clause-a_long c =
    sym (ap length (c.as_slice.ensures.value ∙ c.index-columns-k.is) ∙ all_each (λ (column : List ℤ). length column ≡ length c.args.a.now) c.args.columns.now c.requires.a_long c.loop-k.k _ c.loop-k-test.true)

pub is_entry-requires-clause-b_long : goal.is_entry-requires-clause-b_long
is_entry-requires-clause-b_long c =
    sym (ap length (c.as_slice.ensures.value ∙ c.index-columns-k.is) ∙ all_each (λ (column : List ℤ). length column ≡ length c.args.b.now) c.args.columns.now c.requires.b_long c.loop-k.k _ c.loop-k-test.true)
