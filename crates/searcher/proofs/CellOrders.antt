-- what a sort of cells by cell order leaves
use Rattle.std.specs.Prelude.{slice_index_or}
use Rattle.std.proofs.Common.{◌≡◌, ◌↔◌, ℕ, suc, ◌+◌, Bool, false, List, [], ◌∷◌, arith, refl, ap, subst}
use Rattle.std.specs.Ordering.{is_lt}
use Rattle.std.specs.declared.cmp.Ordering.{Ordering}
use Rattle.std.specs.declared.cmp.Ordering.TheVariants.{Less}
use Rattle.std.specs.Cmp.{IsStrictWeakOrder, nat_cmp_total, on_total, then_total}
use Rattle.std.specs.Cmp.Lexicographic.{slice_cmp, lists_total}
use Rattle.std.specs.List.Sorted.{IsSortedBy}
use Rattle.std.proofs.lemmas.List.MinMax.{ranks_by}
use Rattle.cayley.specs.Cells.{Cell, IsLess}
use Rattle.cayley.proofs.OneCell.CellOrder.{pair_cmp, less-cmp, compared}
use Rattle.int_vectors.proofs.Each.{no_both}
use Rattle.searcher.specs.Searches.{NeverFalls}
use Rattle.searcher.proofs.Orders.{same_lt}

-- whether the first cell is less
abbrev pub is_less : Cell → Cell → Bool
is_less x y = is_lt (slice_cmp pair_cmp x y)

pub less_ranks : IsStrictWeakOrder is_less
less_ranks = ranks_by (lists_total (then_total (on_total (λ (x : ℕ × ℕ). x.0) nat_cmp_total) (on_total (λ (x : ℕ × ℕ). x.1) nat_cmp_total))) (λ (x : Cell). x)

-- a comparison that is told by `IsLess` is this one
pub told_less : (o : Ordering) (x y : Cell) → o ≡ Less ↔ IsLess x y → is_lt o ≡ is_less x y
told_less o x y h =
    let k = compared (slice_cmp pair_cmp x y) x y refl in
    same_lt o (slice_cmp pair_cmp x y) (λ e. k.less.1 (h.0 e)) (λ e. h.1 (k.less.0 e))

pub cells_never_fall : (cells : List Cell) → IsSortedBy is_less cells → NeverFalls cells
cells_never_fall [] s = tt
cells_never_fall (x ∷ []) s = tt
cells_never_fall (x ∷ y ∷ cells) s = (
  (λ l. no_both (is_less y x) (ap is_lt (less-cmp y x l)) (s 0 x (omega arith) (omega arith))),
  cells_never_fall (y ∷ cells) (λ k d z l.
      let e : suc k + 1 ≡ suc (k + 1) = omega arith in
      subst (λ m. is_less (slice_index_or (x ∷ y ∷ cells) m d) (slice_index_or (y ∷ cells) k d) ≡ false) e (s (suc k) d (omega arith) (omega (arith, l)))),
)
