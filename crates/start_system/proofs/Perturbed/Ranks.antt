-- in version 2 all points but the start corners have ranks of their own
use Rattle.std.proofs.Common.{◌≡◌, ◌≢◌, ◌⊎◌, ℕ, zero, suc, ◌+◌, ◌-◌, ◌<◌, ◌≤◌, List, [], ◌∷◌, length, arith, refl, sym, ap, subst, ◌∙◌, inl, inr}
use Rattle.cayley.specs.Problems.{Point, point_at, numbered, ranks_in, numbered_supports}
use Rattle.start_system.proofs.Path.Numbering.{Ranked, RankInfo, numbered_rank, numbered_reranked}
use Rattle.start_system.proofs.Path.Forms.{Longs}

-- ---- one support
ranked_apart : (r f i c d rho : ℕ) → Ranked r f i c rho → Ranked r f i d rho → c ≡ d
ranked_apart r f i c d rho (inl h) (inl k) = let a = h.1 in let b = k.1 in omega (arith, a, b)
ranked_apart r f i c d rho (inl h) (inr (inl k)) = let a = h.0 in let b = h.1 in let e = k.0 in let g = k.2 in omega (arith, a, b, e, g)
ranked_apart r f i c d rho (inl h) (inr (inr k)) = let a = h.0 in let b = h.1 in let e = k.0 in let g = k.1 in omega (arith, a, b, e, g)
ranked_apart r f i c d rho (inr (inl h)) (inl k) = let a = h.0 in let b = h.2 in let e = k.0 in let g = k.1 in omega (arith, a, b, e, g)
ranked_apart r f i c d rho (inr (inl h)) (inr (inl k)) = let a = h.2 in let b = k.2 in omega (arith, a, b)
ranked_apart r f i c d rho (inr (inl h)) (inr (inr k)) = let a = h.1 in let b = h.2 in let e = k.0 in let g = k.1 in omega (arith, a, b, e, g)
ranked_apart r f i c d rho (inr (inr h)) (inl k) = let a = h.0 in let b = h.1 in let e = k.0 in let g = k.1 in omega (arith, a, b, e, g)
ranked_apart r f i c d rho (inr (inr h)) (inr (inl k)) = let a = h.0 in let b = h.1 in let e = k.1 in let g = k.2 in omega (arith, a, b, e, g)
ranked_apart r f i c d rho (inr (inr h)) (inr (inr k)) = let a = h.1 in let b = k.1 in omega (arith, a, b)

info_apart : (r f i c d rho : ℕ) → rho ≢ 0 → RankInfo r f i c rho → RankInfo r f i d rho → c ≡ d
info_apart r f i c d rho n (inl h) k = absurd (n h.0)
info_apart r f i c d rho n (inr h) (inl k) = absurd (n k.0)
info_apart r f i c d rho n (inr h) (inr k) = ranked_apart r f i c d rho h k

info_low : (r f i c rho : ℕ) → 1 ≤ c → rho ≢ 0 → RankInfo r f i c rho → r ≤ rho
info_low r f i c rho l n (inl h) = absurd (n h.0)
info_low r f i c rho l n (inr (inl h)) = let a = h.1 in omega (arith, a, l)
info_low r f i c rho l n (inr (inr (inl h))) = let a = h.0 in let b = h.2 in omega (arith, a, b)
info_low r f i c rho l n (inr (inr (inr h))) = let a = h.0 in let b = h.1 in omega (arith, a, b)

info_high : (r f i n c rho : ℕ) → i < n → c ≤ f + suc n → rho ≢ 0 → RankInfo r f i c rho → rho < r + (f + (n - 1))
info_high r f i n c rho li lc z (inl h) = absurd (z h.0)
info_high r f i n c rho li lc z (inr (inl h)) = let a = h.0 in let b = h.1 in omega (arith, a, b)
info_high r f i n c rho li lc z (inr (inr (inl h))) = let a = h.1 in let b = h.2 in omega (arith, a, b)
info_high r f i n c rho li lc z (inr (inr (inr h))) = let a = h.0 in let b = h.1 in omega (arith, a, b)

-- s is support i, counted from 0
abbrev pub InAt : List (List Point) → ℕ → List Point → Type 0
InAt [] i s = ⊥
InAt (u ∷ us) zero s = s ≡ u
InAt (u ∷ us) (suc i) s = InAt us i s

-- and c one of its positions
abbrev pub AtPlace : List (List Point) → ℕ → List Point → ℕ → Type 0
AtPlace supports i s c = InAt supports i s × (1 ≤ c) × (c ≤ length s)

-- the rank of a point of the first support
first_info : (f i r : ℕ) (u s : List Point) (c : ℕ) → s ≡ numbered (suc i) f 1 r u → 1 ≤ c → c ≤ length s → RankInfo r f i c (point_at s c).rank
first_info f i r u s c e l b =
    let k = (numbered_reranked f i r u).long in
    subst (λ y. RankInfo r f i c (point_at y c).rank) (sym e) (numbered_rank f i r u c l (let x = subst (λ y. c ≤ length y) e b in omega (arith, x, k)))

rank_low : (n i r : ℕ) (files : List ℕ) (plain : List (List Point)) → Longs n i files plain → (k : ℕ) (s : List Point) (c : ℕ) → AtPlace (numbered_supports (suc i) r files plain) k s c → (point_at s c).rank ≢ 0 → r ≤ (point_at s c).rank
rank_low n i r files [] w k s c h z = absurd h.0
rank_low n i r [] (u ∷ us) w k s c h z = absurd w
rank_low n i r (f ∷ files) (u ∷ us) w zero s c h z = info_low r f i c (point_at s c).rank h.1 z (first_info f i r u s c h.0 h.1 h.2)
rank_low n i r (f ∷ files) (u ∷ us) w (suc k) s c h z = let l = rank_low n (suc i) (r + ranks_in f u) files us w.1 k s c h z in omega (arith, l)

rank_first : (n i r f : ℕ) (u s : List Point) (c : ℕ) → length u ≡ f + suc n → i < n → s ≡ numbered (suc i) f 1 r u → 1 ≤ c → c ≤ length s → (point_at s c).rank ≢ 0 → (point_at s c).rank < r + ranks_in f u
rank_first n i r f u s c long li e l b z =
    let k = (numbered_reranked f i r u).long in
    let o = ap length e in
    let x = info_high r f i n c (point_at s c).rank li (omega (arith, b, o, k, long)) z (first_info f i r u s c e l b) in
    omega (arith, x, long)

-- two points with one rank other than 0 are the same point
pub ranks_apart : (n i r : ℕ) (files : List ℕ) (plain : List (List Point)) → Longs n i files plain → i + length plain ≡ n → (k m : ℕ) (s t : List Point) (c d : ℕ)
    → AtPlace (numbered_supports (suc i) r files plain) k s c → AtPlace (numbered_supports (suc i) r files plain) m t d → (point_at s c).rank ≢ 0 → (point_at s c).rank ≡ (point_at t d).rank → (k ≡ m) × (s ≡ t) × (c ≡ d)
ranks_apart n i r files [] w o k m s t c d h g z e = absurd h.0
ranks_apart n i r [] (u ∷ us) w o k m s t c d h g z e = absurd w
ranks_apart n i r (f ∷ files) (u ∷ us) w o zero zero s t c d h g z e =
    let x = first_info f i r u s c h.0 h.1 h.2 in
    let y = first_info f i r u t d g.0 g.1 g.2 in
    (refl, h.0 ∙ sym g.0, info_apart r f i c d (point_at s c).rank z x (subst (λ j. RankInfo r f i d j) (sym e) y))
ranks_apart n i r (f ∷ files) (u ∷ us) w o zero (suc m) s t c d h g z e =
    let a = rank_first n i r f u s c w.0.1 (omega arith) h.0 h.1 h.2 z in
    let b = rank_low n (suc i) (r + ranks_in f u) files us w.1 m t d g (λ x. z (e ∙ x)) in
    absurd (omega (arith, a, b, e))
ranks_apart n i r (f ∷ files) (u ∷ us) w o (suc k) zero s t c d h g z e =
    let a = rank_first n i r f u t d w.0.1 (omega arith) g.0 g.1 g.2 (λ x. z (e ∙ x)) in
    let b = rank_low n (suc i) (r + ranks_in f u) files us w.1 k s c h z in
    absurd (omega (arith, a, b, e))
ranks_apart n i r (f ∷ files) (u ∷ us) w o (suc k) (suc m) s t c d h g z e =
    let q = ranks_apart n (suc i) (r + ranks_in f u) files us w.1 (omega arith) k m s t c d h g z e in
    (ap suc q.0, q.1, q.2)

-- a point of rank 0 is a start corner
info_start : (r f i c rho : ℕ) → 1 ≤ r → 1 ≤ f → 1 ≤ c → rho ≡ 0 → RankInfo r f i c rho → (c ≡ suc f) ⊎ (c ≡ f + suc (suc i))
info_start r f i c rho lr lf lc z (inl h) = h.1
info_start r f i c rho lr lf lc z (inr (inl h)) = absurd (let a = h.1 in omega (arith, a, z, lr, lc))
info_start r f i c rho lr lf lc z (inr (inr (inl h))) = absurd (let a = h.0 in let b = h.2 in omega (arith, a, b, z, lr, lf))
info_start r f i c rho lr lf lc z (inr (inr (inr h))) = absurd (let a = h.0 in let b = h.1 in omega (arith, a, b, z, lr, lf))

pub rank_start : (n i r : ℕ) (files : List ℕ) (plain : List (List Point)) → Longs n i files plain → 1 ≤ r → (k : ℕ) (s : List Point) (c : ℕ) → AtPlace (numbered_supports (suc i) r files plain) k s c → (point_at s c).rank ≡ 0
    → (c ≡ length s - n) ⊎ (c ≡ (length s - n) + suc (i + k))
rank_start n i r files [] w lr k s c a z = absurd a.0
rank_start n i r [] (u ∷ us) w lr k s c a z = absurd w
rank_start n i r (f ∷ files) (u ∷ us) w lr zero s c a z = by (info_start r f i c (point_at s c).rank lr w.0.0 a.1 z (first_info f i r u s c a.0 a.1 a.2))
  where
    count : length s ≡ f + suc n
    count = ap length a.0 ∙ (numbered_reranked f i r u).long ∙ w.0.1

    by : (c ≡ suc f) ⊎ (c ≡ f + suc (suc i)) → (c ≡ length s - n) ⊎ (c ≡ (length s - n) + suc (i + 0))
    by (inl e) = inl (omega (arith, e, count))
    by (inr e) = inr (omega (arith, e, count))
rank_start n i r (f ∷ files) (u ∷ us) w lr (suc k) s c a z =
    let o : suc i + k ≡ i + suc k = omega arith in
    subst (λ j. (c ≡ length s - n) ⊎ (c ≡ (length s - n) + suc j)) o (rank_start n (suc i) (r + ranks_in f u) files us w.1 (omega arith) k s c a z)
