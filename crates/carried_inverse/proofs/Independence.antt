-- rows that have a scaled inverse are independent
use Rattle.std.proofs.Common.{◌≡◌, ◌≢◌, ℕ, suc, ◌<◌, ℤ, pos, ◌+ℤ◌, ◌-ℤ◌, ◌*ℤ◌, List, [], ◌∷◌, length, map, arith, refl, sym, ap, ap₂, subst, ◌∙◌, inl, inr}
use Rattle.std.proofs.Math.IntN.{*ℤ-zero}
use Rattle.std.proofs.lemmas.Int.{ints}
use Rattle.wide_int.proofs.Order.{zero_product, sign_cases}
use Rattle.int_vectors.specs.Vectors.{IsZero, at, comb, dot, weigh, sub, row_at}
use Rattle.int_vectors.proofs.Weighing.{weigh-zero}
use Rattle.int_vectors.proofs.Entries.{entries, length-entries, entries_each, zero_below}
use Rattle.cayley.specs.Cells.{Cell, EachPair, IsOf, IsIndependent}
use Rattle.cayley.specs.Problems.{Point, Problem, IsProblem, HasSamePoints, point_at}
use Rattle.cayley.proofs.Ranking.Unperturbed.{unranked, point_unranked, same_points, same_dimension, same_well, same_of}
use Rattle.inner_normal.specs.declared.moving.MovingNormal.{MovingNormal}
use Rattle.inner_normal.specs.MovingNormals.{IsMovingNormal}
use Rattle.cayley.proofs.Algebra.Dependence.{dependent}
use Rattle.cayley.proofs.Algebra.Kernel as kernel
use Rattle.cayley.proofs.Algebra.Kernel.{Kills, kills_at}
use Rattle.cayley.proofs.Algebra.ScaledInverse.{dot-comb, dot-zero, at-comb, length-comb}
use Rattle.cayley.specs.Rows.{edges}
use Rattle.inner_normal.specs.Inverses.{Inverse}
use Rattle.carried_inverse.specs.Sums.{IsSum, base_falls, speed_falls}
use Rattle.carried_inverse.specs.Systems.{IsScaledInverse, IsInverseOfCell}
use Rattle.carried_inverse.proofs.Normals.{weigh_unit, rows_shape, normal_by_inverse}

module _ (n : ℕ) (rows : List (List ℤ)) (a : Inverse) (many : length rows ≡ n) (h : IsScaledInverse n rows a) (v : List ℤ) (long : length v ≡ n) (kills : Kills rows v) where
  from_numbers : (cs : List ℤ) → length cs ≡ suc (length a.columns) → ¬ (IsZero cs) → ((e : ℕ) → e < n → weigh cs (v ∷ a.columns) (λ x. at x e) ≡ pos 0) → IsZero v
  from_numbers [] l some k = absurd (omega (arith, l))
  from_numbers (c ∷ cs) l some k =
      let count : length cs ≡ length a.columns = omega (arith, l) in
      let z = comb (c ∷ cs) (v ∷ a.columns) in
      let lz = length-comb (c ∷ cs) (v ∷ a.columns) n (long, h.long) in
      let zero_sum = zero_below z (λ e lt. at-comb (c ∷ cs) (v ∷ a.columns) e ∙ k e (omega (arith, lt, lz))) in
      let others : IsZero cs = zero_below cs (λ j lt. number j (let m = h.count in omega (arith, lt, count, m)) zero_sum count) in
      sign_cases c
      (λ s. zero_below v (λ e lt. entry e (omega (arith, lt, long)) others (λ z. omega (arith, ints, s, z))))
      (λ s. absurd (some (s, others)))
      (λ s. zero_below v (λ e lt. entry e (omega (arith, lt, long)) others (λ z. omega (arith, ints, s, z))))
    where
      number : (j : ℕ) → j < n → IsZero (comb (c ∷ cs) (v ∷ a.columns)) → length cs ≡ length a.columns → at cs j ≡ pos 0
      number j lt zero_sum count =
          let r = row_at rows j in
          let d = sym (dot-comb r (c ∷ cs) (v ∷ a.columns)) ∙ dot-zero r (comb (c ∷ cs) (v ∷ a.columns)) zero_sum in
          let own = kills_at rows v j (omega (arith, lt, many)) kills in
          let w = weigh_unit cs a.columns (dot r) a.den j count (λ i b. h.inverts j i lt (let m = h.count in omega (arith, b, m))) in
          let e : a.den *ℤ at cs j ≡ pos 0 = sym w ∙ rest c (dot r v) (weigh cs a.columns (dot r)) own d in
          elim (zero_product a.den (at cs j) e) [ inl z ↦ absurd (let q = h.positive in omega (arith, ints, z, q)) | inr z ↦ z ]
        where
          rest : (c d w : ℤ) → d ≡ pos 0 → c *ℤ d +ℤ w ≡ pos 0 → w ≡ pos 0
          rest c d w e f = let g : c *ℤ d ≡ pos 0 = ap (λ z. c *ℤ z) e ∙ *ℤ-zero c in omega (arith, ints, f, g)

      entry : (e : ℕ) → e < n → IsZero cs → c ≢ pos 0 → at v e ≡ pos 0
      entry e lt others apart =
          let w = weigh-zero cs a.columns (λ x. at x e) others in
          let f : c *ℤ at v e ≡ pos 0 = first (c *ℤ at v e) (weigh cs a.columns (λ x. at x e)) w (k e lt) in
          elim (zero_product c (at v e) f) [ inl z ↦ absurd (apart z) | inr z ↦ z ]
        where
          first : (x w : ℤ) → w ≡ pos 0 → x +ℤ w ≡ pos 0 → x ≡ pos 0
          first x w e f = omega (arith, ints, e, f)

  pub zero_vector : IsZero v
  zero_vector =
      let d = dependent (entries n) (v ∷ a.columns) (let m = h.count in let k = length-entries n in omega (arith, m, k)) in
      from_numbers d.cs d.long d.some (λ e lt. entries_each n (λ f. weigh d.cs (v ∷ a.columns) f ≡ pos 0) d.kills e lt)

pub rows_free : (n : ℕ) (rows : List (List ℤ)) (a : Inverse) → length rows ≡ n → IsScaledInverse n rows a → kernel.Independent n rows
rows_free n rows a many h v long kills = zero_vector n rows a many h v long kills

pub cell_free : (p : Problem) (cell : Cell) (a : Inverse) → IsProblem p → IsOf p cell → IsInverseOfCell p cell a → IsIndependent p cell
cell_free p cell a well of h v long pairs =
    rows_free p.dimension (edges p.supports cell) a (rows_shape p cell well of).0 h v long (kills_pairs p.supports cell v pairs)
  where
    kills_pairs : (supports : List (List Point)) (cell : Cell) (v : List ℤ) → EachPair supports cell (λ s a b. dot (sub (point_at s b).coordinates (point_at s a).coordinates) v ≡ pos 0) → Kills (edges supports cell) v
    kills_pairs [] [] v e = tt
    kills_pairs [] (x ∷ cell) v e = tt
    kills_pairs (s ∷ supports) [] v e = tt
    kills_pairs (s ∷ supports) (x ∷ cell) v e = (e.0, kills_pairs supports cell v e.1)

-- of each problem with the same points
same_differences : (supports : List (List Point)) (cell : Cell) → edges (map unranked supports) cell ≡ edges supports cell
same_differences [] cell = refl
same_differences (s ∷ supports) [] = refl
same_differences (s ∷ supports) (x ∷ cell) =
    ap₂ (λ (r : List ℤ) (rs : List (List ℤ)). r ∷ rs) (ap₂ (λ (a b : Point). sub a.coordinates b.coordinates) (point_unranked s x.1) (point_unranked s x.0)) (same_differences supports cell)

same_base_falls : (supports : List (List Point)) (cell : Cell) → base_falls (map unranked supports) cell ≡ base_falls supports cell
same_base_falls [] cell = refl
same_base_falls (s ∷ supports) [] = refl
same_base_falls (s ∷ supports) (x ∷ cell) =
    ap₂ (λ (r : ℤ) (rs : List ℤ). r ∷ rs) (ap₂ (λ (a b : Point). a.base -ℤ b.base) (point_unranked s x.0) (point_unranked s x.1)) (same_base_falls supports cell)

same_speed_falls : (supports : List (List Point)) (cell : Cell) → speed_falls (map unranked supports) cell ≡ speed_falls supports cell
same_speed_falls [] cell = refl
same_speed_falls (s ∷ supports) [] = refl
same_speed_falls (s ∷ supports) (x ∷ cell) =
    ap₂ (λ (r : ℤ) (rs : List ℤ). r ∷ rs) (ap₂ (λ (a b : Point). a.speed -ℤ b.speed) (point_unranked s x.0) (point_unranked s x.1)) (same_speed_falls supports cell)

module _ (p q : Problem) (cell : Cell) (same : HasSamePoints p q) where
  pub differences_same : edges q.supports cell ≡ edges p.supports cell
  differences_same = sym (same_differences q.supports cell) ∙ ap (λ ss. edges ss cell) (sym (same_points p q same)) ∙ same_differences p.supports cell

  pub inverse_same : (a : Inverse) → IsInverseOfCell q cell a → IsInverseOfCell p cell a
  inverse_same a h = subst (λ n. IsScaledInverse n (edges p.supports cell) a) (sym (same_dimension p q same)) (subst (λ rows. IsScaledInverse q.dimension rows a) differences_same h)

  pub normal_however : IsProblem q → IsOf q cell → (a : Inverse) (m : MovingNormal) → IsInverseOfCell q cell a → m.den ≡ a.den
      → IsSum q.dimension (base_falls q.supports cell) a.columns m.p → IsSum q.dimension (speed_falls q.supports cell) a.columns m.q → IsMovingNormal p cell m
  normal_however well of a m h d sp sq =
      let wp = same_well q p (sym same) well in
      let op = same_of q p cell (sym same) of in
      let hp = inverse_same a h in
      let n = sym (same_dimension p q same) in
      let eb = sym (same_base_falls q.supports cell) ∙ ap (λ ss. base_falls ss cell) (sym (same_points p q same)) ∙ same_base_falls p.supports cell in
      let es = sym (same_speed_falls q.supports cell) ∙ ap (λ ss. speed_falls ss cell) (sym (same_points p q same)) ∙ same_speed_falls p.supports cell in
      normal_by_inverse p cell wp op (cell_free p cell a wp op hp) a m hp d
      (subst (λ bs. IsSum p.dimension bs a.columns m.p) eb (subst (λ k. IsSum k (base_falls q.supports cell) a.columns m.p) n sp))
      (subst (λ bs. IsSum p.dimension bs a.columns m.q) es (subst (λ k. IsSum k (speed_falls q.supports cell) a.columns m.q) n sq))
