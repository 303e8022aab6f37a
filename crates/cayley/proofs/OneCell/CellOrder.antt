-- the order of cells, as the comparison of slices computes it
use Rattle.std.proofs.Common.{◌≡◌, ℕ, ◌↔◌, List, [], ◌∷◌, refl, sym, ◌∙◌, ap, inl, inr, subst}
use Rattle.std.specs.Cmp.{nat_cmp_is}
use Rattle.std.specs.Ordering.{nat_cmp, ordering_then}
use Rattle.std.specs.declared.cmp.Ordering.{Ordering}
use Rattle.std.specs.declared.cmp.Ordering.TheVariants.{Less, Equal, Greater}
use Rattle.std.specs.Cmp.Lexicographic.{slice_cmp}
use Rattle.cayley.specs.Cells.{IsLess}
use Rattle.cayley.proofs.Searching.Listing.{three_ways}

abbrev pub pair_cmp : ℕ × ℕ → ℕ × ℕ → Ordering
pair_cmp x y = ordering_then (nat_cmp x.0 y.0) (nat_cmp x.1 y.1)

-- the first numbers decide
first : (x y : ℕ) (p r : Ordering) (o : Ordering) → o ≡ nat_cmp x y → ordering_then (ordering_then (nat_cmp x y) p) r ≡ ordering_then (ordering_then o p) r
first x y p r o e = sym (ap (λ (o : Ordering). ordering_then (ordering_then o p) r) e)

second : (a b x y : ℕ) (r : Ordering) (o : Ordering) → a ≡ b → o ≡ nat_cmp x y → ordering_then (ordering_then (nat_cmp a b) (nat_cmp x y)) r ≡ ordering_then o r
second a b x y r o e f = first a b (nat_cmp x y) r Equal (nat_cmp_is a b Equal e) ∙ sym (ap (λ (o : Ordering). ordering_then o r) f)

pub less-cmp : (xs ys : List (ℕ × ℕ)) → IsLess xs ys → slice_cmp pair_cmp xs ys ≡ Less
less-cmp xs [] h = absurd h
less-cmp [] (y ∷ ys) h = refl
less-cmp (x ∷ xs) (y ∷ ys) (inl p) = first x.0 y.0 _ _ Less (nat_cmp_is x.0 y.0 Less p)
less-cmp (x ∷ xs) (y ∷ ys) (inr (e, inl p)) = second x.0 y.0 x.1 y.1 _ Less e (nat_cmp_is x.1 y.1 Less p)
less-cmp (x ∷ xs) (y ∷ ys) (inr (e, inr (f, h))) = second x.0 y.0 x.1 y.1 _ Equal e (nat_cmp_is x.1 y.1 Equal f) ∙ less-cmp xs ys h

pub greater-cmp : (xs ys : List (ℕ × ℕ)) → IsLess ys xs → slice_cmp pair_cmp xs ys ≡ Greater
greater-cmp [] ys h = absurd h
greater-cmp (x ∷ xs) [] h = refl
greater-cmp (x ∷ xs) (y ∷ ys) (inl p) = first x.0 y.0 _ _ Greater (nat_cmp_is x.0 y.0 Greater p)
greater-cmp (x ∷ xs) (y ∷ ys) (inr (e, inl p)) = second x.0 y.0 x.1 y.1 _ Greater (sym e) (nat_cmp_is x.1 y.1 Greater p)
greater-cmp (x ∷ xs) (y ∷ ys) (inr (e, inr (f, h))) =
    second x.0 y.0 x.1 y.1 _ Equal (sym e) (nat_cmp_is x.1 y.1 Equal (sym f)) ∙ greater-cmp xs ys h

pub equal-cmp : (xs : List (ℕ × ℕ)) → slice_cmp pair_cmp xs xs ≡ Equal
equal-cmp [] = refl
equal-cmp (x ∷ xs) = second x.0 x.0 x.1 x.1 _ Equal refl (nat_cmp_is x.1 x.1 Equal refl) ∙ equal-cmp xs

-- two cells are equal, or one is less
pub three : {P : Type 0} (xs ys : List (ℕ × ℕ)) → (IsLess xs ys → P) → (xs ≡ ys → P) → (IsLess ys xs → P) → P
three [] [] f g h = g refl
three [] (y ∷ ys) f g h = f tt
three (x ∷ xs) [] f g h = h tt
three (x ∷ xs) (y ∷ ys) f g h =
    three_ways x.0 y.0 (λ p. f (inl p))
    (λ e. three_ways x.1 y.1 (λ p. f (inr (e, inl p)))
    (λ e'. three xs ys (λ p. f (inr (e, inr (e', p)))) (λ q. g (λ i. (e i, e' i) ∷ q i)) (λ p. h (inr (sym e, inr (sym e', p)))))
    (λ p. h (inr (sym e, inl p))))
    (λ p. h (inl p))

-- the comparison tells which of the three holds
pub record Compares (o : Ordering) (xs ys : List (ℕ × ℕ)) : Type 0 where
  pub less : o ≡ Less ↔ IsLess xs ys
  pub equal : o ≡ Equal ↔ xs ≡ ys
  pub greater : o ≡ Greater ↔ IsLess ys xs

by_slices : (xs ys : List (ℕ × ℕ)) → Compares (slice_cmp pair_cmp xs ys) xs ys
by_slices xs ys = record {
  less = (λ e. three xs ys (λ p. p) (λ q. absurd (clash Equal Less (same q) e (λ r. cc))) (λ p. absurd (clash Greater Less (greater-cmp xs ys p) e (λ r. cc))), less-cmp xs ys);
  equal = (λ e. three xs ys (λ p. absurd (clash Less Equal (less-cmp xs ys p) e (λ r. cc))) (λ q. q) (λ p. absurd (clash Greater Equal (greater-cmp xs ys p) e (λ r. cc))), same);
  greater = (λ e. three xs ys (λ p. absurd (clash Less Greater (less-cmp xs ys p) e (λ r. cc))) (λ q. absurd (clash Equal Greater (same q) e (λ r. cc))) (λ p. p), greater-cmp xs ys);
}
  where
    same : xs ≡ ys → slice_cmp pair_cmp xs ys ≡ Equal
    same q = subst (λ (zs : List (ℕ × ℕ)). slice_cmp pair_cmp xs zs ≡ Equal) q (equal-cmp xs)

    clash : (a b : Ordering) → slice_cmp pair_cmp xs ys ≡ a → slice_cmp pair_cmp xs ys ≡ b → (a ≡ b → ⊥) → ⊥
    clash a b p q f = f (sym p ∙ q)

pub compared : (o : Ordering) (xs ys : List (ℕ × ℕ)) → o ≡ slice_cmp pair_cmp xs ys → Compares o xs ys
compared o xs ys e = subst (λ (o : Ordering). Compares o xs ys) (sym e) (by_slices xs ys)
