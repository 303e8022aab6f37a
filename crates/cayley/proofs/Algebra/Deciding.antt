-- independence is decided: either a kernel vector, or independence
use Rattle.std.proofs.Common.{◌≡◌, ◌≢◌, ◌⊎◌, ℕ, zero, suc, ◌<◌, List, [], ◌∷◌, length, map, arith, refl, sym, ap, ap₂, subst, ◌∙◌, inl, inr}
use Rattle.std.proofs.lemmas.Int.{ints}
use Rattle.std.proofs.Math.IntN.{ℤ, pos, ◌+ℤ◌, ◌*ℤ◌, neg_ℤ, *ℤ_comm, *ℤ-zero, ℤ_discrete}
use Rattle.wide_int.proofs.Order.{zero_product}
use Rattle.int_vectors.proofs.Weighing.{weigh-zero}
use Rattle.cayley.proofs.Algebra.Dependence.{dependent, scale-zero, length-map}
use Rattle.cayley.proofs.Algebra.Kernel.{Kills, Kernel, kernel, Independent, Solves, Solution, extend, length-extend, solves_from, kills_from, places, length-places}
use Rattle.cayley.proofs.Algebra.ScaledInverse.{All_solved, solves_all, solves-scale, solves_all-scale, each_long-scale, product_apart, units, solves-comb, solves-same, at-comb, weigh-units, length-add, length-comb, dot-add, dot-scale, dot-zero}
use Rattle.int_vectors.specs.Vectors.{weigh, IsZero, scale, Each, dot, at, add, comb}
use Rattle.int_vectors.proofs.Entries.{length-scale, at-scale, at-add, zero_below, zero_from, at-zero}
use Rattle.int_vectors.proofs.Each.{map_map}

-- either a solution, or a vector of the kernel
solve_or : (n : ℕ) (rows : List (List ℤ)) (bs : List ℤ) → length rows ≡ n → Kernel n rows ⊎ Solution n rows bs
solve_or n rows bs e =
    let q = kernel (suc n) (extend rows bs) (omega (arith, length-extend rows bs)) in
    from q.v q.long q.some q.kills
  where
    from : (w : List ℤ) → length w ≡ suc n → ¬ (IsZero w) → Kills (extend rows bs) w → Kernel n rows ⊎ Solution n rows bs
    from [] l some kills = absurd (omega arith)
    from (c ∷ v) l some kills =
        let s = solves_from rows bs c v kills in
        let lv : length v ≡ n = omega arith in
        elim (ℤ_discrete c (pos 0)) [
          | yes z ↦ inl (record { v = v; long = lv; some = λ h. some (z, h); kills = kills_from rows bs (neg_ℤ c) v (ap neg_ℤ z) s })
          | no apart ↦ inr (record { k = neg_ℤ c; apart = λ h. apart (omega (arith, ints)); v = v; long = lv; solves = s })
        ]

solve_all_or : (n : ℕ) (rows ts : List (List ℤ)) → length rows ≡ n → Kernel n rows ⊎ All_solved n rows ts
unfolding solves_all
solve_all_or n rows [] e = inr (record { g = pos 1; apart = λ h. one_apart h; xs = []; long = tt; solved = tt })
  where
    one_apart : pos 1 ≢ pos 0
    one_apart h = cc
solve_all_or n rows (t ∷ ts) e = elim (solve_or n rows t e) [
  | inl k ↦ inl k
  | inr one ↦ elim (solve_all_or n rows ts e) [
    | inl k ↦ inl k
    | inr rest ↦ inr (record {
      g = one.k *ℤ rest.g;
      apart = product_apart one.k rest.g one.apart rest.apart;
      xs = scale rest.g one.v ∷ map (scale one.k) rest.xs;
      long = (length-scale rest.g one.v ∙ one.long, each_long-scale n one.k rest.xs rest.long);
      solved = (subst (λ k. Solves rows t k (scale rest.g one.v)) (*ℤ_comm rest.g one.k) (solves-scale rows t one.v one.k rest.g one.solves), solves_all-scale rows ts rest.g one.k rest.xs rest.solved);
    })
  ]
]

left_zero : (c : ℤ) (v ds : List ℤ) (xs : List (List ℤ)) (i : ℕ) → IsZero ds → at (add (scale c v) (comb ds xs)) i ≡ pos 0 → at (scale c v) i ≡ pos 0
left_zero c v ds xs i z e =
    let a = at-add (scale c v) (comb ds xs) i in
    let b = at-comb ds xs i ∙ weigh-zero ds xs (λ x. at x i) z in
    omega (arith, ints, a, b, e)

abbrev col : ℕ → List ℤ → ℤ
col k u = at u k

each_place : {B : Type 0} (P : B → Type 0) (f : ℕ → B) (m k : ℕ) → k < m → Each (map f (places m)) P → P (f k)
each_place P f zero k h e = absurd (omega arith)
each_place P f (suc m) zero h e = e.0
each_place P f (suc m) (suc k) h e = each_place P (λ j. f (suc j)) m k (omega arith) (subst (λ l. Each l P) (map_map f suc (places m)) e.1)

-- E X = g I alone gives independence
module _ (n : ℕ) (rows xs : List (List ℤ)) (g : ℤ) (apart : g ≢ pos 0) (er : length rows ≡ n) (ex : length xs ≡ n) (long : Each xs (λ x. length x ≡ n))
    (right : (y : List ℤ) → length y ≡ n → Solves rows y g (comb y xs)) (v : List ℤ) (lv : length v ≡ n) (kills : Kills rows v) where
  coefs_zero : (c : ℤ) (ds ys : List ℤ) (rs : List (List ℤ)) → length rs ≡ length ys → Kills rs v → Solves rs ys g (comb ds xs) → IsZero (add (scale c v) (comb ds xs)) → IsZero ys
  coefs_zero c ds [] rs l k s z = tt
  coefs_zero c ds (y ∷ ys) [] l k s z = absurd (omega arith)
  coefs_zero c ds (y ∷ ys) (r ∷ rs) l k s z = (
    (let cz : c *ℤ dot r v ≡ pos 0 = rw k.0 (*ℤ-zero c) in
        let e = sym (dot-add r (scale c v) (comb ds xs) ∙ ap₂ ◌+ℤ◌ (dot-scale r c v ∙ cz) s.0) ∙ dot-zero r _ z in
        let f : g *ℤ y ≡ pos 0 = omega (arith, ints, e) in
        elim (zero_product g y f) [ inl h ↦ absurd (apart h) | inr h ↦ h ]),
    coefs_zero c ds ys rs (omega arith) k.1 s.1 z,
  )

  pub kernel_zero : IsZero v
  kernel_zero =
      let d = dependent (map col (places n)) (v ∷ xs) (omega (arith, length-map col (places n), length-places n)) in
      from d.cs d.long d.some d.kills
    where
      from : (cs : List ℤ) → length cs ≡ suc (length xs) → ¬ (IsZero cs) → Each (map col (places n)) (λ f. weigh cs (v ∷ xs) f ≡ pos 0) → IsZero v
      from [] l some k = absurd (omega arith)
      from (c ∷ ds) l some k =
          let w = add (scale c v) (comb ds xs) in
          let lw : length w ≡ n = length-add (scale c v) (comb ds xs) n (length-scale c v ∙ lv) (length-comb ds xs n long) in
          let z = zero_below w (λ i h. at-add (scale c v) (comb ds xs) i ∙ ap₂ ◌+ℤ◌ (at-scale c v i) (at-comb ds xs i) ∙ each_place (λ f. weigh (c ∷ ds) (v ∷ xs) f ≡ pos 0) col n i (omega arith) k) in
          let ld : length ds ≡ n = omega arith in
          let dz = coefs_zero c ds ds rows (er ∙ sym ld) kills (right ds ld) z in
          elim (ℤ_discrete c (pos 0)) [
            | yes e ↦ absurd (some (e, dz))
            | no apart_c ↦ scale-zero c v apart_c (zero_from (scale c v) (λ i. left_zero c v ds xs i dz (at-zero w i z)))
          ]

length-units : (n : ℕ) → length (units n) ≡ n
unfolding units
length-units zero = refl
length-units (suc n) = ap suc (length-map (λ u. pos 0 ∷ u) (units n) ∙ length-units n)

length_solved : (rows ts : List (List ℤ)) (g : ℤ) (xs : List (List ℤ)) → solves_all rows ts g xs → length xs ≡ length ts
unfolding solves_all
length_solved rows [] g [] s = refl
length_solved rows [] g (x ∷ xs) s = absurd s
length_solved rows (t ∷ ts) g [] s = absurd s
length_solved rows (t ∷ ts) g (x ∷ xs) s = ap suc (length_solved rows ts g xs s.1)

pub decide_independent : (n : ℕ) (rows : List (List ℤ)) → length rows ≡ n → Kernel n rows ⊎ Independent n rows
decide_independent n rows e = elim (solve_all_or n rows (units n) e) [
  | inl k ↦ inl k
  | inr s ↦ inr (λ v l k. kernel_zero n rows s.xs s.g s.apart e (length_solved rows (units n) s.g s.xs s.solved ∙ length-units n) s.long
      (λ y ly. solves-same rows (comb y (units n)) y s.g (comb y s.xs) (λ i. at-comb y (units n) i ∙ weigh-units n y i ly) (solves-comb rows (units n) s.g s.xs y s.solved)) v l k)
]
