-- the ranks of a support's points: 0 at the start corners, then one number after the other
use Rattle.std.proofs.Common.{◌≡◌, ◌≢◌, ◌⊎◌, ℕ, zero, suc, ◌+◌, ◌<◌, ◌≤◌, ◌==◌, Bool, true, false, if◌then◌else◌, List, [], ◌∷◌, length, map, arith, refl, sym, ap, subst, ◌∙◌, inl, inr}
use Rattle.std.proofs.lemmas.Bool.{eq-eqb, eqb-true}
use native.Mathlib.Decide.{ℕ_discrete}
use Rattle.cayley.specs.Problems.{Point, point_at, with_rank, is_start_corner, numbered}
use Rattle.cayley.proofs.Algebra.Dependence.{length-map}
use Rattle.start_system.proofs.Path.Positions.{from_zero, point_suc, point_mapped}

-- two points that differ in rank alone
abbrev pub IsReranked : Point → Point → Type 0
IsReranked x y = (x.coordinates ≡ y.coordinates) × (x.base ≡ y.base) × (x.speed ≡ y.speed)

-- the same points with other ranks, 0 at the first corner and at that of the own direction
pub record Reranked (f i : ℕ) (s u : List Point) : Type 0 where
  pub long : length s ≡ length u
  pub alike : (c : ℕ) → 1 ≤ c → c ≤ length u → IsReranked (point_at s c) (point_at u c)
  pub first : suc f ≤ length u → (point_at s (suc f)).rank ≡ 0
  pub own : f + suc (suc i) ≤ length u → (point_at s (f + suc (suc i))).rank ≡ 0

pub unranked : (f i : ℕ) (u : List Point) → Reranked f i (map (with_rank 0) u) u
unranked f i u = record {
  long = length-map (with_rank 0) u;
  alike = λ c l m. let e = point_mapped (with_rank 0) u c l m in (ap (λ (x : Point). x.coordinates) e, ap (λ (x : Point). x.base) e, ap (λ (x : Point). x.speed) e);
  first = λ m. ap (λ (x : Point). x.rank) (point_mapped (with_rank 0) u (suc f) (omega arith) m);
  own = λ m. ap (λ (x : Point). x.rank) (point_mapped (with_rank 0) u (f + suc (suc i)) (omega arith) m);
}

-- a file point, a corner before the own direction, a corner after it, where the support's ranks begin with r
abbrev pub Ranked : ℕ → ℕ → ℕ → ℕ → ℕ → Type 0
Ranked r f i c rho = ((c ≤ f) × (suc rho ≡ r + c)) ⊎ (((suc f < c) × (c < f + suc (suc i)) × (suc (suc rho) ≡ r + c)) ⊎ ((f + suc (suc i) < c) × (suc (suc (suc rho)) ≡ r + c)))

abbrev pub RankInfo : ℕ → ℕ → ℕ → ℕ → ℕ → Type 0
RankInfo r f i c rho = ((rho ≡ 0) × ((c ≡ suc f) ⊎ (c ≡ f + suc (suc i)))) ⊎ Ranked r f i c rho

-- ---- is it a start corner
pub unequal : (a b : ℕ) → a ≢ b → (a == b) ≡ false
unequal a b n = by (a == b) (λ e. n (eqb-true a b e))
  where
    by : (t : Bool) → (t ≡ true → ⊥) → t ≡ false
    by true h = absurd (h refl)
    by false h = refl

corner_test : (i f c : ℕ)
    → ((is_start_corner (suc i) f c ≡ true) × ((c ≡ suc f) ⊎ (c ≡ f + suc (suc i)))) ⊎ ((is_start_corner (suc i) f c ≡ false) × (c ≢ suc f) × (c ≢ f + suc (suc i)))
corner_test i f c = elim (ℕ_discrete c (suc f)) [
  | yes e ↦ inl (ap (λ t. if t then true else (c == f + 1 + suc i)) (eq-eqb c (f + 1) (omega (arith, e))), inl e)
  | no n ↦
      let first : (c == f + 1) ≡ false = unequal c (f + 1) (λ e. n (omega (arith, e))) in
      let left = ap (λ t. if t then true else (c == f + 1 + suc i)) first in
      elim (ℕ_discrete c (f + suc (suc i))) [
        | yes e ↦ inl (left ∙ eq-eqb c (f + 1 + suc i) (omega (arith, e)), inr e)
        | no m ↦ inr (left ∙ unequal c (f + 1 + suc i) (λ e. m (omega (arith, e))), n, m)
      ]
]

if_true : (P : List Point → Type 0) (t : Bool) (xs ys : List Point) → t ≡ true → P xs → P (if t then xs else ys)
if_true P true xs ys e h = h
if_true P false xs ys e h = cc

if_false : (P : List Point → Type 0) (t : Bool) (xs ys : List Point) → t ≡ false → P ys → P (if t then xs else ys)
if_false P true xs ys e h = cc
if_false P false xs ys e h = h

-- ---- where the numbering stands: the next rank at a position
Stands : ℕ → ℕ → ℕ → ℕ → ℕ → Type 0
Stands r f i c rho = ((c ≤ suc f) × (suc rho ≡ r + c)) ⊎ (((suc f < c) × (c ≤ f + suc (suc i)) × (suc (suc rho) ≡ r + c)) ⊎ ((f + suc (suc i) < c) × (suc (suc (suc rho)) ≡ r + c)))

stays : (r f i c rho : ℕ) → Stands r f i c rho → (c ≡ suc f) ⊎ (c ≡ f + suc (suc i)) → Stands r f i (suc c) rho
unfolding Stands
stays r f i c rho (inl h) (inl e) = let a = h.1 in inr (inl (omega (arith, e), omega (arith, e), omega (arith, a)))
stays r f i c rho (inl h) (inr e) = let a = h.0 in absurd (omega (arith, a, e))
stays r f i c rho (inr (inl h)) (inl e) = let a = h.0 in absurd (omega (arith, a, e))
stays r f i c rho (inr (inl h)) (inr e) = let a = h.2 in inr (inr (omega (arith, e), omega (arith, a)))
stays r f i c rho (inr (inr h)) (inl e) = let a = h.0 in absurd (omega (arith, a, e))
stays r f i c rho (inr (inr h)) (inr e) = let a = h.0 in absurd (omega (arith, a, e))

goes_on : (r f i c rho : ℕ) → Stands r f i c rho → c ≢ suc f → c ≢ f + suc (suc i) → Stands r f i (suc c) (suc rho) × Ranked r f i c rho
unfolding Stands
goes_on r f i c rho (inl h) n m = let a = h.0 in let b = h.1 in (inl (omega (arith, a, n), omega (arith, b)), inl (omega (arith, a, n), b))
goes_on r f i c rho (inr (inl h)) n m =
    let a = h.0 in let b = h.1 in let e = h.2 in
    (inr (inl (omega (arith, a), omega (arith, b, m), omega (arith, e))), inr (inl (a, omega (arith, b, m), e)))
goes_on r f i c rho (inr (inr h)) n m = let a = h.0 in let b = h.1 in (inr (inr (omega (arith, a), omega (arith, b))), inr (inr (a, b)))

-- each point's rank, the first being at position c
InOrder : ℕ → ℕ → ℕ → ℕ → List Point → List Point → Type 0
InOrder r f i c ys xs = (length ys ≡ length xs)
    × ((k : ℕ) → k < length xs → IsReranked (from_zero ys k) (from_zero xs k) × RankInfo r f i (c + k) (from_zero ys k).rank)

in_order_more : (r f i c rho : ℕ) (x : Point) (ys xs : List Point) → RankInfo r f i c rho → InOrder r f i (suc c) ys xs → InOrder r f i c (with_rank rho x ∷ ys) (x ∷ xs)
unfolding InOrder
in_order_more r f i c rho x ys xs info h = (ap suc h.0, at)
  where
    at : (k : ℕ) → k < length (x ∷ xs) → IsReranked (from_zero (with_rank rho x ∷ ys) k) (from_zero (x ∷ xs) k) × RankInfo r f i (c + k) (from_zero (with_rank rho x ∷ ys) k).rank
    at zero l = let e : c ≡ c + 0 = omega arith in ((refl, refl, refl), subst (λ j. RankInfo r f i j rho) e info)
    at (suc k) l =
        let e : suc c + k ≡ c + suc k = omega arith in
        let q = h.1 k (omega arith) in
        (q.0, subst (λ j. RankInfo r f i j (from_zero ys k).rank) e q.1)

in_order : (r f i c rho : ℕ) (xs : List Point) → Stands r f i c rho → InOrder r f i c (numbered (suc i) f c rho xs) xs
unfolding InOrder
in_order r f i c rho [] h = (refl, λ k l. absurd (omega arith))
in_order r f i c rho (x ∷ xs) h =
    let P : List Point → Type 0 = λ ys. InOrder r f i c ys (x ∷ xs) in
    let still = with_rank 0 x ∷ numbered (suc i) f (suc c) rho xs in
    let counted = with_rank rho x ∷ numbered (suc i) f (suc c) (suc rho) xs in
    elim (corner_test i f c) [
      | inl q ↦ if_true P (is_start_corner (suc i) f c) still counted q.0
          (in_order_more r f i c 0 x _ xs (inl (refl, q.1)) (in_order r f i (suc c) rho xs (stays r f i c rho h q.1)))
      | inr q ↦
          let g = goes_on r f i c rho h q.1 q.2 in
          if_false P (is_start_corner (suc i) f c) still counted q.0
          (in_order_more r f i c rho x _ xs (inr g.1) (in_order r f i (suc c) (suc rho) xs g.0))
    ]

-- ---- the whole support, whose ranks begin with r
pub numbered_rank : (f i r : ℕ) (u : List Point) (c : ℕ) → 1 ≤ c → c ≤ length u → RankInfo r f i c (point_at (numbered (suc i) f 1 r u) c).rank
unfolding InOrder Stands
numbered_rank f i r u zero l m = absurd (omega arith)
numbered_rank f i r u (suc c) l m =
    let e : 1 + c ≡ suc c = omega arith in
    let q = (in_order r f i 1 r u (inl (omega arith, omega arith))).1 c (omega arith) in
    subst (λ (x : Point). RankInfo r f i (suc c) x.rank) (sym (point_suc (numbered (suc i) f 1 r u) c)) (subst (λ j. RankInfo r f i j (from_zero (numbered (suc i) f 1 r u) c).rank) e q.1)

pub numbered_reranked : (f i r : ℕ) (u : List Point) → Reranked f i (numbered (suc i) f 1 r u) u
unfolding InOrder Stands
numbered_reranked f i r u = record {
  long = (in_order r f i 1 r u (inl (omega arith, omega arith))).0;
  alike = alike;
  first = λ m. zero_first (numbered_rank f i r u (suc f) (omega arith) m);
  own = λ m. zero_own (numbered_rank f i r u (f + suc (suc i)) (omega arith) m);
}
  where
    alike : (c : ℕ) → 1 ≤ c → c ≤ length u → IsReranked (point_at (numbered (suc i) f 1 r u) c) (point_at u c)
    alike zero l m = absurd (omega arith)
    alike (suc c) l m =
        let q = (in_order r f i 1 r u (inl (omega arith, omega arith))).1 c (omega arith) in
        subst (λ x. IsReranked x (point_at u (suc c))) (sym (point_suc (numbered (suc i) f 1 r u) c))
        (subst (λ x. IsReranked (from_zero (numbered (suc i) f 1 r u) c) x) (sym (point_suc u c)) q.0)

    zero_first : {rho : ℕ} → RankInfo r f i (suc f) rho → rho ≡ 0
    zero_first (inl h) = h.0
    zero_first (inr (inl h)) = absurd (let a = h.0 in omega (arith, a))
    zero_first (inr (inr (inl h))) = absurd (let a = h.0 in omega (arith, a))
    zero_first (inr (inr (inr h))) = absurd (let a = h.0 in omega (arith, a))

    zero_own : {rho : ℕ} → RankInfo r f i (f + suc (suc i)) rho → rho ≡ 0
    zero_own (inl h) = h.0
    zero_own (inr (inl h)) = absurd (let a = h.0 in omega (arith, a))
    zero_own (inr (inr (inl h))) = absurd (let a = h.1 in omega (arith, a))
    zero_own (inr (inr (inr h))) = absurd (let a = h.0 in omega (arith, a))
