-- rows that differ from others at one place
use Rattle.std.proofs.Common.{◌≡◌, ◌∙◌, ◌<◌, ◌≤◌, ◌+◌, ◌-◌, ℕ, zero, suc, Bool, true, false, List, [], ◌∷◌, length, slice_index_or, slice_set, arith, refl, sym, ap, ap₂, subst, int_eq, not}
use Rattle.std.proofs.Math.IntN.{ℤ}
use Rattle.std.proofs.lemmas.List.{ext_get_or}
use Rattle.std.specs.Cmp.Lexicographic.{pointwise}
use Rattle.std.specs.Cmp.Rules.{signed_items}
use Rattle.wide_int.proofs.Turns.{next_below}
use Rattle.cone_walls.specs.Differences.{DifferAt}

-- the two have the same row at each place from m up to k
abbrev pub AgreeFrom : ℕ → ℕ → List (List ℤ) → List (List ℤ) → Type 0
AgreeFrom m k xs ys = (j : ℕ) → m ≤ j → j < k → slice_index_or xs j [] ≡ slice_index_or ys j []

pub one_more : (m k : ℕ) (xs ys : List (List ℤ)) → AgreeFrom m k xs ys → slice_index_or xs k [] ≡ slice_index_or ys k [] → AgreeFrom m (k + 1) xs ys
one_more m k xs ys before here j f l = next_below (λ i. m ≤ i → slice_index_or xs i [] ≡ slice_index_or ys i []) k (λ i b a. before i a b) (λ _. here) j l f

pub agree_all : (xs ys : List (List ℤ)) → length xs ≡ length ys → AgreeFrom 0 (length ys) xs ys → xs ≡ ys
agree_all xs ys e f = ext_get_or [] xs ys e (λ j l. f j (omega arith) (omega (arith, e, l)))

-- those behind the first agree
agree_tail : (x y : List ℤ) (xs ys : List (List ℤ)) → length xs ≡ length ys → AgreeFrom 1 (suc (length ys)) (x ∷ xs) (y ∷ ys) → xs ≡ ys
agree_tail x y xs ys e f = agree_all xs ys e (λ j a l. f (suc j) (omega arith) (omega (arith, l)))

exchanged_at : (i : ℕ) (xs ys : List (List ℤ)) → length xs ≡ length ys → AgreeFrom 0 i xs ys → AgreeFrom (suc i) (length ys) xs ys → i < length ys → slice_set xs i (slice_index_or ys i []) ≡ ys
exchanged_at i [] [] e b a l = absurd (omega (arith, l))
exchanged_at i [] (y ∷ ys) e b a l = absurd (omega (arith, e))
exchanged_at i (x ∷ xs) [] e b a l = absurd (omega (arith, e))
exchanged_at zero (x ∷ xs) (y ∷ ys) e b a l = ap (λ (r : List (List ℤ)). y ∷ r) (agree_tail x y xs ys (omega (arith, e)) a)
exchanged_at (suc i) (x ∷ xs) (y ∷ ys) e b a l = ap₂ (λ (r : List ℤ) (rs : List (List ℤ)). r ∷ rs) (b 0 (omega arith) (omega arith))
    (exchanged_at i xs ys (omega (arith, e)) (λ j f k. b (suc j) (omega arith) (omega (arith, k))) (λ j f k. a (suc j) (omega (arith, f)) (omega (arith, k))) (omega (arith, l)))

pub differ_at : (i : ℕ) (xs ys : List (List ℤ)) → length xs ≡ length ys → AgreeFrom 0 i xs ys → AgreeFrom (i + 1) (length ys) xs ys → i < length ys
    → length (slice_index_or xs i []) ≡ length (slice_index_or ys i []) → DifferAt (i + 1) xs ys
differ_at i xs ys e b a l here =
    let q : i ≡ i + 1 - 1 = omega arith in
    let up : AgreeFrom (suc i) (length ys) xs ys = λ j f k. a j (omega (arith, f)) k in record {
      first = omega arith;
      last = omega (arith, e, l);
      count = e;
      exchanged = subst (λ k. slice_set xs k (slice_index_or ys k []) ≡ ys) q (exchanged_at i xs ys e b up l);
      long = subst (λ k. length (slice_index_or ys k []) ≡ length (slice_index_or xs k [])) q (sym here);
    }

-- two rows that `!=` doesn't tell apart
pub same_items : (xs ys : List ℤ) (r : Bool) → r ≡ not (pointwise int_eq xs ys) → r ≡ false → xs ≡ ys
same_items xs ys r e f = (signed_items xs ys).0 (by (pointwise int_eq xs ys) (sym e ∙ f))
  where
    by : (b : Bool) → not b ≡ false → b ≡ true
    by true h = refl
    by false h = cc
