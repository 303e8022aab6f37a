-- what a sort by cell order leaves
use Rattle.std.specs.Prelude.{slice_index_or}
use Rattle.std.proofs.Common.{◌≡◌, ◌↔◌, ℕ, suc, ◌+◌, Bool, false, List, [], ◌∷◌, arith, refl, sym, ap, subst}
use Rattle.std.specs.Ordering.{is_lt}
use Rattle.std.specs.declared.cmp.Ordering.{Ordering}
use Rattle.std.specs.declared.cmp.Ordering.TheVariants.{Less, Equal, Greater}
use Rattle.std.specs.Cmp.{IsStrictWeakOrder, nat_cmp_total, on_total, then_total}
use Rattle.std.specs.Cmp.Lexicographic.{slice_cmp, lists_total}
use Rattle.std.specs.List.Sorted.{IsSortedBy}
use Rattle.std.proofs.lemmas.List.MinMax.{ranks_by}
use Rattle.cayley.specs.declared.found.FoundCell.{FoundCell}
use Rattle.cayley.specs.Cells.{Cell, IsLess}
use Rattle.cayley.proofs.OneCell.CellOrder.{pair_cmp, less-cmp, compared}
use Rattle.int_vectors.proofs.Each.{no_both}
use Rattle.cayley.proofs.Searching.Counting as counting
use Rattle.cayley.specs.Stored.{cells_of}
use Rattle.searcher.specs.Searches.{NeverFalls}

-- whether the first cell is less
abbrev pub is_before : FoundCell → FoundCell → Bool
is_before x y = is_lt (slice_cmp pair_cmp x.cell y.cell)

pub before_ranks : IsStrictWeakOrder is_before
before_ranks = ranks_by (lists_total (then_total (on_total (λ (x : ℕ × ℕ). x.0) nat_cmp_total) (on_total (λ (x : ℕ × ℕ). x.1) nat_cmp_total))) (λ (x : FoundCell). x.cell)

pub same_lt : (o q : Ordering) → (o ≡ Less → q ≡ Less) → (q ≡ Less → o ≡ Less) → is_lt o ≡ is_lt q
same_lt Less q f g = sym (ap is_lt (f refl))
same_lt Equal Less f g = ap is_lt (g refl)
same_lt Equal Equal f g = refl
same_lt Equal Greater f g = refl
same_lt Greater Less f g = ap is_lt (g refl)
same_lt Greater Equal f g = refl
same_lt Greater Greater f g = refl

-- a comparison that is told by `IsLess` is this one
pub same_test : (o : Ordering) (x y : FoundCell) → o ≡ Less ↔ IsLess x.cell y.cell → is_lt o ≡ is_before x y
same_test o x y h =
    let k = compared (slice_cmp pair_cmp x.cell y.cell) x.cell y.cell refl in
    same_lt o (slice_cmp pair_cmp x.cell y.cell) (λ e. k.less.1 (h.0 e)) (λ e. h.1 (k.less.0 e))

pub never_falls : (found : List FoundCell) → IsSortedBy is_before found → NeverFalls (cells_of found)
never_falls [] s = tt
never_falls (x ∷ []) s = tt
never_falls (x ∷ y ∷ found) s = (
  (λ l. no_both (is_before y x) (ap is_lt (less-cmp y.cell x.cell l)) (s 0 x (omega arith) (omega arith))),
  never_falls (y ∷ found) (λ k d z l.
      let e : suc k + 1 ≡ suc (k + 1) = omega arith in
      subst (λ m. is_before (slice_index_or (x ∷ y ∷ found) m d) (slice_index_or (y ∷ found) k d) ≡ false) e (s (suc k) d (omega arith) (omega (arith, l)))),
)

-- the same for the laws
pub as_counted : (cells : List Cell) → NeverFalls cells → counting.NeverFalls cells
as_counted [] n = tt
as_counted (x ∷ []) n = tt
as_counted (x ∷ y ∷ cells) n = (n.0, as_counted (y ∷ cells) n.1)
