-- functionals on the positions of a path that vanish on each rank's indicator, and on what vanishes at rank 0
use Rattle.std.proofs.Common.{◌≡◌, ◌≢◌, ◌⊎◌, ℕ, zero, suc, ◌<◌, ◌≤◌, List, [], ◌∷◌, length, arith, refl, sym, ap, ap₂, subst, ◌∙◌, inl, inr}
use Rattle.std.proofs.lemmas.Int.{ints}
use Rattle.std.proofs.Math.IntN.{ℤ, pos, ◌+ℤ◌, ◌*ℤ◌, *ℤ-zero}
use native.Mathlib.Decide.{ℕ_discrete, dec_le}
use Rattle.int_vectors.specs.Vectors.{dot}
use Rattle.cayley.specs.Problems.{Point, point_at}
use Rattle.start_system.proofs.Perturbed.Ranks.{AtPlace}

-- a function of a support's number, the support and a position
abbrev pub Test : Type 0
Test = ℕ → List Point → ℕ → ℤ

-- 1 where two numbers are the same, else 0
abbrev pub same_number : ℕ → ℕ → ℤ
same_number zero zero = pos 1
same_number zero (suc b) = pos 0
same_number (suc a) zero = pos 0
same_number (suc a) (suc b) = same_number a b

pub same_one : (a b : ℕ) → a ≡ b → same_number a b ≡ pos 1
same_one zero zero e = refl
same_one zero (suc b) e = absurd (omega arith)
same_one (suc a) zero e = absurd (omega arith)
same_one (suc a) (suc b) e = same_one a b (omega arith)

pub same_none : (a b : ℕ) → a ≢ b → same_number a b ≡ pos 0
same_none zero zero n = absurd (n refl)
same_none zero (suc b) n = refl
same_none (suc a) zero n = refl
same_none (suc a) (suc b) n = same_none a b (λ e. n (ap suc e))

abbrev pub of_rank : ℕ → Test
of_rank r = λ i s c. same_number (point_at s c).rank r

abbrev pub coordinate : List ℤ → Test
coordinate y = λ i s c. dot (point_at s c).coordinates y

abbrev pub only_at : ℕ → ℕ → Test
only_at j d = λ i s c. same_number i j *ℤ same_number c d

pub record Functional (supports : List (List Point)) (n : ℕ) (T : Test → ℤ) : Type 0 where
  pub lin : (x y : ℤ) (phi psi : Test) → T (λ i s c. x *ℤ phi i s c +ℤ y *ℤ psi i s c) ≡ x *ℤ T phi +ℤ y *ℤ T psi
  pub bound : ℕ
  pub same : (phi psi : Test) → ((i : ℕ) (s : List Point) (c : ℕ) → AtPlace supports i s c → (point_at s c).rank ≤ bound → phi i s c ≡ psi i s c) → T phi ≡ T psi
  pub flat : (y : List ℤ) → length y ≡ n → T (coordinate y) ≡ pos 0
  pub level : (k : ℕ → List Point → ℤ) → T (λ i s c. k i s) ≡ pos 0

-- ---- the position of a rank
search_below : (n : ℕ) (P : ℕ → Type 0) → ((c : ℕ) → Dec (P c)) → ((c : ℕ) × (c < n) × P c) ⊎ ((c : ℕ) → c < n → ¬ (P c))
search_below zero P d = inr (λ c l. absurd (omega arith))
search_below (suc n) P d = elim (search_below n P d) [
  | inl q ↦ inl (q.0, (let l = q.1 in omega (arith, l)), q.2)
  | inr h ↦ elim (d n) [
    | yes p ↦ inl (n, omega arith, p)
    | no m ↦ inr (λ c l p. elim (ℕ_discrete c n) [ yes e ↦ m (subst P e p) | no a ↦ h c (omega arith) p ])
  ]
]

abbrev Found : List (List Point) → ℕ → Type 0
Found supports r = (i : ℕ) × (s : List Point) × (c : ℕ) × AtPlace supports i s c × ((point_at s c).rank ≡ r)

search : (supports : List (List Point)) (r : ℕ) → Found supports r ⊎ ((i : ℕ) (s : List Point) (c : ℕ) → AtPlace supports i s c → (point_at s c).rank ≢ r)
search [] r = inr (λ i s c a e. a.0)
search (u ∷ us) r = elim (search_below (suc (length u)) (λ c. (1 ≤ c) × ((point_at u c).rank ≡ r)) here_decided) [
  | inl q ↦ inl (0, u, q.0, (refl, q.2.0, (let l = q.1 in omega (arith, l))), q.2.1)
  | inr h ↦ elim (search us r) [
    | inl q ↦ inl (suc q.0, q.1, q.2, q.3, q.4)
    | inr g ↦ inr (none h g)
  ]
]
  where
    here_decided : (c : ℕ) → Dec ((1 ≤ c) × ((point_at u c).rank ≡ r))
    here_decided c = elim (dec_le 1 c) [
      | no n ↦ no (λ h. n h.0)
      | yes l ↦ elim (ℕ_discrete (point_at u c).rank r) [ no n ↦ no (λ h. n h.1) | yes e ↦ yes (l, e) ]
    ]

    none : ((c : ℕ) → c < suc (length u) → ¬ ((1 ≤ c) × ((point_at u c).rank ≡ r))) → ((i : ℕ) (s : List Point) (c : ℕ) → AtPlace us i s c → (point_at s c).rank ≢ r)
        → (i : ℕ) (s : List Point) (c : ℕ) → AtPlace (u ∷ us) i s c → (point_at s c).rank ≢ r
    none h g zero s c a e =
        let x = subst (λ t. c ≤ length t) a.0 a.2 in
        h c (omega (arith, x)) (a.1, subst (λ t. (point_at t c).rank ≡ r) a.0 e)
    none h g (suc i) s c a e = g i s c a e

module _ (supports : List (List Point)) (n : ℕ) (T : Test → ℤ) (functional : Functional supports n T) (ranks : (e : ℕ) → T (of_rank (suc e)) ≡ pos 0)
    (apart : (k m : ℕ) (s t : List Point) (c d : ℕ) → AtPlace supports k s c → AtPlace supports m t d → (point_at s c).rank ≢ 0 → (point_at s c).rank ≡ (point_at t d).rank → (k ≡ m) × (s ≡ t) × (c ≡ d)) where
  cut_by : (r rho : ℕ) → ℤ → ℤ
  cut_by r rho z = elim (dec_le rho r) [ yes l ↦ z | no n ↦ pos 0 ]

  kept : (r rho : ℕ) (z : ℤ) → rho ≤ r → cut_by r rho z ≡ z
  unfolding cut_by
  kept r rho z l = by (dec_le rho r)
    where
      by : (d : Dec (rho ≤ r)) → elim d [ yes l ↦ z | no n ↦ pos 0 ] ≡ z
      by (yes l) = refl
      by (no n) = absurd (n l)

  cut_off : (r rho : ℕ) (z : ℤ) → ¬ (rho ≤ r) → cut_by r rho z ≡ pos 0
  unfolding cut_by
  cut_off r rho z m = by (dec_le rho r)
    where
      by : (d : Dec (rho ≤ r)) → elim d [ yes l ↦ z | no n ↦ pos 0 ] ≡ pos 0
      by (yes l) = absurd (m l)
      by (no n) = refl

  nothing_is : T (λ i s c. pos 0) ≡ pos 0
  nothing_is = functional.level (λ i s. pos 0)

  -- what vanishes at the points of rank 0
  module _ (phi : Test) (vanishes : (i : ℕ) (s : List Point) (c : ℕ) → AtPlace supports i s c → (point_at s c).rank ≡ 0 → phi i s c ≡ pos 0) where
    cut : ℕ → Test
    cut r = λ i s c. cut_by r (point_at s c).rank (phi i s c)

    cut_zero : (r : ℕ) → T (cut r) ≡ pos 0
    unfolding cut
    cut_zero zero =
        functional.same (cut 0) (λ i s c. pos 0) (λ i s c a l. elim (dec_le (point_at s c).rank 0) [
          | yes m ↦ kept 0 (point_at s c).rank (phi i s c) m ∙ vanishes i s c a (omega (arith, m))
          | no m ↦ cut_off 0 (point_at s c).rank (phi i s c) m
        ]) ∙ nothing_is
    cut_zero (suc r) = step (search supports (suc r)) (cut_zero r)
      where
        join : (z : ℤ) → ((i : ℕ) (s : List Point) (c : ℕ) → AtPlace supports i s c → (point_at s c).rank ≡ suc r → phi i s c ≡ z) → T (cut r) ≡ pos 0 → T (cut (suc r)) ≡ pos 0
        join z h e =
            functional.same (cut (suc r)) (λ i s c. pos 1 *ℤ cut r i s c +ℤ z *ℤ of_rank (suc r) i s c) (λ i s c a l. elim (ℕ_discrete (point_at s c).rank (suc r)) [
              | yes x ↦
                  let k = kept (suc r) (point_at s c).rank (phi i s c) (omega (arith, x)) in
                  let o = cut_off r (point_at s c).rank (phi i s c) (λ y. omega (arith, x, y)) in
                  let p = ap (λ y. z *ℤ y) (same_one (point_at s c).rank (suc r) x) in
                  let q = h i s c a x in
                  omega (arith, ints, k, o, p, q)
              | no x ↦
                  let p = ap (λ y. z *ℤ y) (same_none (point_at s c).rank (suc r) x) ∙ *ℤ-zero z in
                  elim (dec_le (point_at s c).rank r) [
                    | yes m ↦
                        let k = kept (suc r) (point_at s c).rank (phi i s c) (omega (arith, m)) in
                        let o = kept r (point_at s c).rank (phi i s c) m in
                        omega (arith, ints, k, o, p)
                    | no m ↦
                        let k = cut_off (suc r) (point_at s c).rank (phi i s c) (λ y. omega (arith, x, m, y)) in
                        let o = cut_off r (point_at s c).rank (phi i s c) m in
                        omega (arith, ints, k, o, p)
                  ]
            ])
            ∙ functional.lin (pos 1) z (cut r) (of_rank (suc r))
            ∙ (let p = ap (λ y. z *ℤ y) (ranks r) ∙ *ℤ-zero z in omega (arith, ints, e, p))

        step : Found supports (suc r) ⊎ ((i : ℕ) (s : List Point) (c : ℕ) → AtPlace supports i s c → (point_at s c).rank ≢ suc r) → T (cut r) ≡ pos 0 → T (cut (suc r)) ≡ pos 0
        step (inl q) e = join (phi q.0 q.1 q.2) (λ i s c a x.
            let w = apart i q.0 s q.1 c q.2 a q.3 (λ y. omega (arith, x, y)) (x ∙ sym q.4) in
            ap₂ (λ j u. phi j u c) w.0 w.1 ∙ ap (phi q.0 q.1) w.2) e
        step (inr h) e = join (pos 0) (λ i s c a x. absurd (h i s c a x)) e

    pub vanishing : T phi ≡ pos 0
    unfolding cut
    vanishing = functional.same phi (cut functional.bound) (λ i s c a l. sym (kept functional.bound (point_at s c).rank (phi i s c) l)) ∙ cut_zero functional.bound
