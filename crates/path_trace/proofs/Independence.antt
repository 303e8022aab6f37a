-- a cell whose differences have an inverse over a number is independent
use Rattle.std.proofs.Common.{◌≡◌, ◌≢◌, ℕ, zero, suc, ◌+◌, ◌<◌, ◌<ℤ◌, List, [], ◌∷◌, length, arith, refl, sym, ap, ap₂, ◌∙◌, inl, inr}
use Rattle.std.specs.Prelude.{drop}
use Rattle.std.proofs.lemmas.Int.{ints}
use Rattle.std.proofs.Math.IntN.{ℤ, pos, ◌+ℤ◌, ◌*ℤ◌, *ℤ-zero}
use Rattle.wide_int.proofs.Order.{zero_product}
use Rattle.int_vectors.specs.Vectors.{Each, IsZero, at, comb, dot, weigh, sub, row_at}
use Rattle.int_vectors.proofs.Weighing.{weigh-zero, weigh_none}
use Rattle.int_vectors.proofs.Entries.{entries, length-entries, entries_each, zero_below}
use Rattle.cayley.specs.Problems.{Point, point_at}
use Rattle.cayley.specs.Cells.{Cell, EachPair}
use Rattle.cayley.specs.Dependencies.{pair_at, nth_support}
use Rattle.cayley.proofs.Algebra.Dependence.{dependent}
use Rattle.cayley.proofs.Algebra.Kernel.{Kills, kills_at}
use Rattle.cayley.proofs.Algebra.ScaledInverse.{dot-comb, dot-zero, at-comb, length-comb}
use Rattle.cayley.specs.Rows.{edges}
use Rattle.cayley.proofs.Life.Decisions.{kills_of}
use Rattle.cayley.proofs.OneCell.CellNormals.{length-edges}
use Rattle.path_trace.specs.Matrices.{column, columns_from, columns}
use Rattle.path_trace.specs.Inverses.{in_identity, IndependentLaw}

-- ---- sums with the identity
weigh_one : (cs : List ℤ) (xs : List (List ℤ)) (f : List ℤ → ℤ) (g : ℤ) (j : ℕ) → length cs ≡ length xs → ((k : ℕ) → k < length xs → f (row_at xs k) ≡ in_identity g j k) → weigh cs xs f ≡ g *ℤ at cs j
weigh_one [] xs f g j e h = sym (*ℤ-zero g)
weigh_one (c ∷ cs) [] f g j e h = absurd (omega (arith, e))
weigh_one (c ∷ cs) (x ∷ xs) f g zero e h =
    ap₂ (λ y z. c *ℤ y +ℤ z) (h 0 (omega arith)) (weigh_none cs xs f (λ k lt. h (suc k) (omega (arith, lt)))) ∙ own c g
  where
    own : (c g : ℤ) → c *ℤ g +ℤ pos 0 ≡ g *ℤ c
    own c g = omega (arith, ints)
weigh_one (c ∷ cs) (x ∷ xs) f g (suc j) e h =
    ap₂ (λ y z. c *ℤ y +ℤ z) (h 0 (omega arith)) (weigh_one cs xs f g j (omega (arith, e)) (λ k lt. h (suc k) (omega (arith, lt)))) ∙ other c (g *ℤ at cs j)
  where
    other : (c s : ℤ) → c *ℤ pos 0 +ℤ s ≡ s
    other c s = omega (arith, ints)

-- ---- rows with an inverse

module _ (n : ℕ) (rows xs : List (List ℤ)) (g : ℤ) (many : length rows ≡ n) (count : length xs ≡ n) (wide : Each xs (λ x. length x ≡ n)) (positive : pos 0 <ℤ g)
    (product : (i k : ℕ) → i < n → k < n → dot (row_at rows i) (row_at xs k) ≡ in_identity g i k) (v : List ℤ) (long : length v ≡ n) (kills : Kills rows v) where
  from_numbers : (cs : List ℤ) → length cs ≡ suc (length xs) → ¬ (IsZero cs) → ((e : ℕ) → e < n → weigh cs (v ∷ xs) (λ x. at x e) ≡ pos 0) → IsZero v
  from_numbers [] l some k = absurd (omega (arith, l))
  from_numbers (c ∷ cs) l some k =
      let same : length cs ≡ length xs = omega (arith, l) in
      let z = comb (c ∷ cs) (v ∷ xs) in
      let lz = length-comb (c ∷ cs) (v ∷ xs) n (long, wide) in
      let zero_sum = zero_below z (λ e lt. at-comb (c ∷ cs) (v ∷ xs) e ∙ k e (omega (arith, lt, lz))) in
      let others : IsZero cs = zero_below cs (λ j lt. number j (omega (arith, lt, same, count)) zero_sum same) in
      zero_below v (λ e lt. entry e (omega (arith, lt, long)) others (λ z. some (z, others)))
    where
      number : (j : ℕ) → j < n → IsZero (comb (c ∷ cs) (v ∷ xs)) → length cs ≡ length xs → at cs j ≡ pos 0
      number j lt zero_sum same =
          let r = row_at rows j in
          let d = sym (dot-comb r (c ∷ cs) (v ∷ xs)) ∙ dot-zero r (comb (c ∷ cs) (v ∷ xs)) zero_sum in
          let own = kills_at rows v j (omega (arith, lt, many)) kills in
          let w = weigh_one cs xs (dot r) g j same (λ i b. product j i lt (omega (arith, b, count))) in
          let e : g *ℤ at cs j ≡ pos 0 = sym w ∙ rest c (dot r v) (weigh cs xs (dot r)) own d in
          elim (zero_product g (at cs j) e) [ inl z ↦ absurd (omega (arith, ints, z, positive)) | inr z ↦ z ]
        where
          rest : (c d w : ℤ) → d ≡ pos 0 → c *ℤ d +ℤ w ≡ pos 0 → w ≡ pos 0
          rest c d w e f = let g : c *ℤ d ≡ pos 0 = ap (λ z. c *ℤ z) e ∙ *ℤ-zero c in omega (arith, ints, f, g)

      entry : (e : ℕ) → e < n → IsZero cs → c ≢ pos 0 → at v e ≡ pos 0
      entry e lt others apart =
          let w = weigh-zero cs xs (λ x. at x e) others in
          let f : c *ℤ at v e ≡ pos 0 = first (c *ℤ at v e) (weigh cs xs (λ x. at x e)) w (k e lt) in
          elim (zero_product c (at v e) f) [ inl z ↦ absurd (apart z) | inr z ↦ z ]
        where
          first : (x w : ℤ) → w ≡ pos 0 → x +ℤ w ≡ pos 0 → x ≡ pos 0
          first x w e f = omega (arith, ints, e, f)

  zero_vector : IsZero v
  zero_vector =
      let d = dependent (entries n) (v ∷ xs) (let k = length-entries n in omega (arith, count, k)) in
      from_numbers d.cs d.long d.some (λ e lt. entries_each n (λ f. weigh d.cs (v ∷ xs) f ≡ pos 0) d.kills e lt)

-- ---- columns

pub column_long : (n k m : ℕ) (xs : List ℤ) → length (column n k m xs) ≡ m
column_long n k zero xs = refl
column_long n k (suc m) xs = ap suc (column_long n k m (drop n xs))

pub columns_long : (n k m : ℕ) (xs : List ℤ) → length (columns_from n k m xs) ≡ m
columns_long n k zero xs = refl
columns_long n k (suc m) xs = ap suc (columns_long n (suc k) m xs)

pub columns_wide : (n k m : ℕ) (xs : List ℤ) → Each (columns_from n k m xs) (λ x. length x ≡ n)
columns_wide n k zero xs = tt
columns_wide n k (suc m) xs = (column_long n k n xs, columns_wide n (suc k) m xs)

pub columns_at : (n k m j : ℕ) (xs : List ℤ) → j < m → row_at (columns_from n k m xs) j ≡ column n (k + j) n xs
columns_at n k zero j xs lt = absurd (omega (arith, lt))
columns_at n k (suc m) zero xs lt = ap (λ i. column n i n xs) (omega arith)
columns_at n k (suc m) (suc j) xs lt = columns_at n (suc k) m j xs (omega (arith, lt)) ∙ ap (λ i. column n i n xs) (omega arith)

-- ---- the pairs of a cell
pub difference_at : (supports : List (List Point)) (cell : Cell) (P : List Point → ℕ → ℕ → Type 0) → EachPair supports cell P → (i : ℕ) → i < length supports
    → row_at (edges supports cell) i ≡ sub (point_at (nth_support supports i) (pair_at cell i).1).coordinates (point_at (nth_support supports i) (pair_at cell i).0).coordinates
difference_at [] cell P e i l = absurd (omega (arith, l))
difference_at (s ∷ supports) [] P e i l = absurd e
difference_at (s ∷ supports) (x ∷ cell) P e zero l = refl
difference_at (s ∷ supports) (x ∷ cell) P e (suc i) l = difference_at supports cell P e.1 i (omega (arith, l))

-- ---- the law

pub independent_law : IndependentLaw
independent_law p cell g matrix well of is v long pairs =
    let n = p.dimension in
    let supports : length p.supports ≡ n = well.supports in
    zero_vector n (edges p.supports cell) (columns n matrix) g
    (length-edges p.supports cell _ of ∙ supports) (columns_long n 0 n matrix) (columns_wide n 0 n matrix) is.positive
    (λ i k li lk. ap₂ dot (difference_at p.supports cell _ of i (omega (arith, li, supports))) (columns_at n 0 n k matrix lk ∙ ap (λ j. column n j n matrix) (from_zero k)) ∙ is.product i k li lk)
    v long (kills_of p.supports cell v pairs)
  where
    from_zero : (k : ℕ) → 0 + k ≡ k
    from_zero k = omega arith
