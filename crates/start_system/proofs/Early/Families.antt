-- families of properties of times that are closed under "and": all further points of all pairs together
use Rattle.std.proofs.Common.{◌≡◌, ◌↔◌, ℕ, zero, suc, ◌<◌, List, [], ◌∷◌, length, arith, refl, sym, subst, inl, ◌<ℤ◌}
use Rattle.std.specs.Int.{int_min}
use Rattle.std.proofs.lemmas.Int.{ints, int_min_is}
use Rattle.std.proofs.Math.IntN.{ℤ, pos, ◌+ℤ◌, ◌-ℤ◌, ◌*ℤ◌, neg_ℤ, *ℤ_comm}
use native.Mathlib.Decide.{ℕ_discrete, dec_le}
use Rattle.int_vectors.specs.Vectors.{at, add, scale}
use Rattle.cayley.specs.Times.{Time, IsBefore}
use Rattle.cayley.specs.Problems.{Point}
use Rattle.cayley.specs.Cells.{Cell, EachPair, IsFurther}
use Rattle.wide_int.proofs.Ring.{add_mul_ℤ}
use Rattle.wide_int.proofs.Order.{mul_le_ℤ}
use Rattle.int_vectors.proofs.Entries.{at-scale, at-add}
use Rattle.start_system.proofs.Path.Shape.{first_not_negative}

pub record Family (F : (Time → Type 0) → Type 0) : Type 1 where
  pub always : (P : Time → Type 0) → ((x : Time) → P x) → F P
  pub both : (P Q : Time → Type 0) → F P → F Q → F (λ x. P x × Q x)
  pub same : (P Q : Time → Type 0) → ((x : Time) → P x ↔ Q x) → F P → F Q

module _ (F : (Time → Type 0) → Type 0) (fam : Family F) where
  below : (n : ℕ) (P : ℕ → Time → Type 0) → ((c : ℕ) → c < n → F (P c)) → F (λ x. (c : ℕ) → c < n → P c x)
  below zero P h = fam.always _ (λ x c lt. absurd (omega arith))
  below (suc n) P h =
      fam.same (λ x. ((c : ℕ) → c < n → P c x) × P n x) _ (λ x. (last x, λ q. ((λ c lt. q c (omega arith)), q n (omega arith))))
      (fam.both (λ x. (c : ℕ) → c < n → P c x) (P n) (below n P (λ c lt. h c (omega arith))) (h n (omega arith)))
    where
      last : (x : Time) → ((c : ℕ) → c < n → P c x) × P n x → (c : ℕ) → c < suc n → P c x
      last x q c lt = elim (ℕ_discrete c n) [ yes e ↦ subst (λ k. P k x) (sym e) q.1 | no apart ↦ q.0 c (omega arith) ]

  further : (s : List Point) (a b : ℕ) (P : ℕ → Time → Type 0) → ((c : ℕ) → IsFurther s a b c → F (P c)) → F (λ x. (c : ℕ) → IsFurther s a b c → P c x)
  further s a b P h =
      fam.same _ _ (λ x. ((λ q c f. q c (omega (arith, f.1)) f), (λ q c lt f. q c f)))
      (below (suc (length s)) (λ c x. IsFurther s a b c → P c x) (λ c lt. one c))
    where
      one : (c : ℕ) → F (λ x. IsFurther s a b c → P c x)
      one c =
          let never = λ (n : ¬ (IsFurther s a b c)). fam.always (λ x. IsFurther s a b c → P c x) (λ x f. absurd (n f)) in
          elim (dec_le 1 c) [
            | no n ↦ never (λ f. n f.0)
            | yes p ↦ elim (dec_le c (length s)) [
              | no n ↦ never (λ f. n f.1)
              | yes q ↦ elim (ℕ_discrete c a) [
                | yes e ↦ never (λ f. f.2 e)
                | no m ↦ elim (ℕ_discrete c b) [
                  | yes e ↦ never (λ f. f.3 e)
                  | no k ↦ fam.same (P c) _ (λ x. ((λ r f. r), (λ g. g (p, q, m, k)))) (h c (p, q, m, k))
                ]
              ]
            ]
          ]

  -- all pairs, each further point
  pub all_further : (supports : List (List Point)) (cell : Cell) (P : Time → List Point → ℕ → ℕ → ℕ → Type 0)
      → EachPair supports cell (λ s a b. (c : ℕ) → IsFurther s a b c → F (λ x. P x s a b c)) → F (λ x. EachPair supports cell (λ s a b. (c : ℕ) → IsFurther s a b c → P x s a b c))
  all_further [] [] P e = fam.always _ (λ x. tt)
  all_further [] (pair ∷ cell) P e = absurd e
  all_further (s ∷ supports) [] P e = absurd e
  all_further (s ∷ supports) (pair ∷ cell) P e =
      fam.both _ _ (further s pair.0 pair.1 (λ c x. P x s pair.0 pair.1 c) e.0) (all_further supports cell P e.1)

-- ---- below some time, by entry 0
pub record Low (P : Time → Type 0) : Type 0 where
  pub bound : ℤ
  pub holds : (x : Time) → at x.entries 0 <ℤ (bound *ℤ x.over) → P x

pub low_family : Family Low
low_family = record {
  always = λ P h. record { bound = pos 0; holds = λ x l. h x };
  both = λ P Q p q. record {
    bound = int_min p.bound q.bound;
    holds = λ x l.
        let i = int_min_is p.bound q.bound in
        let a = mul_le_ℤ (int_min p.bound q.bound) p.bound x.over (omega (arith, ints, i)) (let o = x.positive in omega (arith, ints, o)) in
        let b = mul_le_ℤ (int_min p.bound q.bound) q.bound x.over (omega (arith, ints, i)) (let o = x.positive in omega (arith, ints, o)) in
        (p.holds x (omega (arith, ints, a, l)), q.holds x (omega (arith, ints, b, l)));
  };
  same = λ P Q f p. record { bound = p.bound; holds = λ x l. (f x).0 (p.holds x l) };
}

-- ---- above some time, by entry 0
unfoldable whole_time : ℤ → Time
whole_time k = record { entries = k ∷ []; over = pos 1; positive = record { lt = tt } }

pub low_early : (P : Time → Type 0) → Low P → (u : Time) × ((x : Time) → IsBefore x u → P x)
unfolding whole_time
low_early P p = (
  whole_time (p.bound -ℤ pos 1),
  λ x b.
      let o = x.positive in
      let f = first_not_negative _ (inl b) in
      let e : at (add (scale x.over ((p.bound -ℤ pos 1) ∷ [])) (scale (neg_ℤ (pos 1)) x.entries)) 0 ≡ x.over *ℤ (p.bound -ℤ pos 1) +ℤ neg_ℤ (pos 1) *ℤ at x.entries 0 =
      simp (at-add, at-scale) refl in
      let c = *ℤ_comm x.over (p.bound -ℤ pos 1) in
      let d = add_mul_ℤ p.bound (neg_ℤ (pos 1)) x.over in
      p.holds x (omega (arith, ints, o, f, e, c, d)),
)
