-- one normal, and the sign of a dependency, for heights that are lists
use Rattle.std.proofs.Common.{◌≡◌, ◌≢◌, ℕ, zero, suc, List, [], ◌∷◌, length, map, arith, refl, sym, ap, ap₂, ◌∙◌, inl, inr, ◌<ℤ◌}
use Rattle.std.proofs.lemmas.Int.{ints}
use Rattle.std.proofs.Math.IntN.{ℤ, pos, ◌+ℤ◌, ◌*ℤ◌, neg_ℤ, *ℤ_comm, *ℤ-zero}
use Rattle.wide_int.proofs.Ring.{as_D, Ds, same_D, D-pos}
use Rattle.wide_int.proofs.Order.{zero_product, mul_pos_ℤ, mul_neg_neg_ℤ, sign_cases}
use Rattle.int_vectors.proofs.Weighing.{weigh-same, weigh-scale}
use Rattle.cayley.proofs.Algebra.Kernel.{Kills, Independent, Solves, places, weigh_map, weigh-at, length-places, dot_comm}
use Rattle.cayley.proofs.Algebra.ScaledInverse.{inverse, at-comb, dot-add, dot-scale}
use Rattle.cayley.proofs.Algebra.RowDependencies.{IsDependency}
use Rattle.int_vectors.specs.Vectors.{weigh, IsZero, scale, Each, dot, at, add, comb, entries_at}
use Rattle.int_vectors.proofs.Entries.{at-scale, at-add, zero_from, at-zero}
use Rattle.cayley.proofs.Algebra.Dependence.{length-map}

-- q <row, v> + d h = 0 for each row with its difference of heights h
abbrev pub IsNormalFor : List (List ℤ) → List (List ℤ) → ℤ → ℤ → List (List ℤ) → Type 0
IsNormalFor [] hs q d v = Unit {0}
IsNormalFor (r ∷ rows) [] q d v = ⊥
IsNormalFor (r ∷ rows) (h ∷ hs) q d v = IsZero (add (scale q (comb r v)) (scale d h)) × IsNormalFor rows hs q d v

-- entry k of each
pub weigh-swap : {A B : Type 0} (xs : List A) (ys : List B) (f : A → ℤ) (g : B → ℤ) → weigh (map f xs) ys g ≡ weigh (map g ys) xs f
weigh-swap [] [] f g = refl
weigh-swap [] (y ∷ ys) f g = refl
weigh-swap (x ∷ xs) [] f g = refl
weigh-swap (x ∷ xs) (y ∷ ys) f g = ap₂ ◌+ℤ◌ (*ℤ_comm (f x) (g y)) (weigh-swap xs ys f g)

pub dot-map : {A : Type 0} (cs : List ℤ) (xs : List A) (f : A → ℤ) → dot cs (map f xs) ≡ weigh cs xs f
dot-map [] xs f = refl
dot-map (c ∷ cs) [] f = refl
dot-map (c ∷ cs) (x ∷ xs) f = ap (λ s. c *ℤ f x +ℤ s) (dot-map cs xs f)

pub weigh-factor : {A : Type 0} (cs : List ℤ) (xs : List A) (k : ℤ) (f : A → ℤ) → weigh cs xs (λ x. k *ℤ f x) ≡ k *ℤ weigh cs xs f
weigh-factor [] xs k f = sym (*ℤ-zero k)
weigh-factor (c ∷ cs) [] k f = sym (*ℤ-zero k)
weigh-factor (c ∷ cs) (x ∷ xs) k f = rw (weigh-factor cs xs k f) (step c k (f x) (weigh cs xs f))
  where
    step : (c k p s : ℤ) → c *ℤ (k *ℤ p) +ℤ k *ℤ s ≡ k *ℤ (c *ℤ p +ℤ s)
    step c k p s = rw (as_D c, as_D k, as_D p, as_D s) (simp Ds (same_D _ _ _ _ (omega arith)))

-- entry k of q <row, v> + d h
pub gap-at : (r : List ℤ) (v : List (List ℤ)) (h : List ℤ) (q d : ℤ) (k : ℕ) → at (add (scale q (comb r v)) (scale d h)) k ≡ q *ℤ dot r (entries_at k v) +ℤ d *ℤ at h k
gap-at r v h q d k =
    at-add (scale q (comb r v)) (scale d h) k
    ∙ ap₂ ◌+ℤ◌ (at-scale q (comb r v) k ∙ ap (λ x. q *ℤ x) (at-comb r v k ∙ sym (dot-map r v (λ w. at w k)))) (at-scale d h k)

pub record ANormal (n : ℕ) (rows hs : List (List ℤ)) (q : ℤ) : Type 0 where
  pub d : ℤ
  pub positive : pos 0 <ℤ d
  pub v : List (List ℤ)
  pub long : length v ≡ n
  pub is : IsNormalFor rows hs q d v

pub square_pos : (g : ℤ) → g ≢ pos 0 → pos 0 <ℤ (g *ℤ g)
square_pos g n = sign_cases g (λ h. mul_neg_neg_ℤ g g h h) (λ z. absurd (n z)) (λ h. mul_pos_ℤ g g h h)

module _ (n : ℕ) (xs hs : List (List ℤ)) (g q : ℤ) where
  -- the values of the normal: -g times X h
  part : ℕ → List ℤ
  part k = comb (scale (neg_ℤ g) (entries_at k xs)) hs

  vs : List (List ℤ)
  vs = map part (places n)

  at-part : (k e : ℕ) → at (part k) e ≡ neg_ℤ g *ℤ at (comb (entries_at e hs) xs) k
  unfolding part
  at-part k e =
      at-comb (scale (neg_ℤ g) (entries_at k xs)) hs e ∙ weigh-scale (neg_ℤ g) (entries_at k xs) hs (λ h. at h e)
      ∙ ap (λ x. neg_ℤ g *ℤ x) (weigh-swap xs hs (λ x. at x k) (λ h. at h e) ∙ sym (at-comb (entries_at e hs) xs k))

  dot-vs : (r : List ℤ) (e : ℕ) → length r ≡ n → dot r (entries_at e vs) ≡ neg_ℤ g *ℤ dot r (comb (entries_at e hs) xs)
  unfolding vs
  dot-vs r e l =
      dot-map r (map part (places n)) (λ w. at w e) ∙ weigh_map r part (places n) (λ w. at w e)
      ∙ weigh-same r (places n) (λ k. at (part k) e) (λ k. neg_ℤ g *ℤ at (comb (entries_at e hs) xs) k) (λ k. at-part k e)
      ∙ weigh-factor r (places n) (neg_ℤ g) (at (comb (entries_at e hs) xs))
      ∙ ap (λ x. neg_ℤ g *ℤ x) (weigh-at r n (comb (entries_at e hs) xs) l ∙ dot_comm (comb (entries_at e hs) xs) r)

  normal_rows : (rows ks : List (List ℤ)) → Each rows (λ r. length r ≡ n) → length rows ≡ length ks
      → ((e : ℕ) → Solves rows (entries_at e ks) g (comb (entries_at e hs) xs)) → IsNormalFor rows ks q (g *ℤ g *ℤ q) vs
  normal_rows [] ks l m s = tt
  normal_rows (r ∷ rows) [] l m s = absurd (omega arith)
  normal_rows (r ∷ rows) (h ∷ ks) l m s = (
    zero_from (add (scale q (comb r vs)) (scale (g *ℤ g *ℤ q) h))
        (λ e. gap-at r vs h q (g *ℤ g *ℤ q) e ∙ rw (dot-vs r e l.0, (s e).0) (step g q (at h e))),
    normal_rows rows ks l.1 (omega arith) (λ e. (s e).1),
  )
    where
      step : (g q h : ℤ) → q *ℤ (neg_ℤ g *ℤ (g *ℤ h)) +ℤ g *ℤ g *ℤ q *ℤ h ≡ pos 0
      step g q h = rw (as_D g, as_D q, as_D h, D-pos 0) (simp Ds (same_D _ _ _ _ (omega arith)))

  length-vs : length vs ≡ n
  unfolding vs
  length-vs = length-map part (places n) ∙ length-places n

-- existence
pub normal_exists : (n : ℕ) (rows hs : List (List ℤ)) (q : ℤ) → length rows ≡ n → length hs ≡ n → Each rows (λ r. length r ≡ n)
    → pos 0 <ℤ q → Independent n rows → ANormal n rows hs q
normal_exists n rows hs q er eh l pq ind =
    let i = inverse n rows er ind in
    record {
      d = i.g *ℤ i.g *ℤ q;
      positive = mul_pos_ℤ (i.g *ℤ i.g) q (square_pos i.g i.apart) pq;
      v = vs n i.xs hs i.g q;
      long = length-vs n i.xs hs i.g q;
      is = normal_rows n i.xs hs i.g q rows hs l (er ∙ sym eh) (λ e. i.right (entries_at e hs) (length-map (λ h. at h e) hs ∙ eh));
    }

kills_difference : (rows hs : List (List ℤ)) (q d d' : ℤ) (v v' : List (List ℤ)) (e : ℕ) → pos 0 <ℤ q → length rows ≡ length hs → IsNormalFor rows hs q d v → IsNormalFor rows hs q d' v'
    → Kills rows (add (scale d' (entries_at e v)) (scale (neg_ℤ d) (entries_at e v')))
kills_difference [] hs q d d' v v' e pq m s t = tt
kills_difference (r ∷ rows) [] q d d' v v' e pq m s t = absurd s
kills_difference (r ∷ rows) (h ∷ hs) q d d' v v' e pq m s t = (
  (let a = sym (gap-at r v h q d e) ∙ at-zero (add (scale q (comb r v)) (scale d h)) e s.0 in
      let b = sym (gap-at r v' h q d' e) ∙ at-zero (add (scale q (comb r v')) (scale d' h)) e t.0 in
      dot-add r (scale d' (entries_at e v)) (scale (neg_ℤ d) (entries_at e v')) ∙ ap₂ ◌+ℤ◌ (dot-scale r d' (entries_at e v)) (dot-scale r (neg_ℤ d) (entries_at e v'))
      ∙ step q d d' (dot r (entries_at e v)) (dot r (entries_at e v')) (at h e) pq a b),
  kills_difference rows hs q d d' v v' e pq (omega arith) s.1 t.1,
)
  where
    expand : (q d d' x y h : ℤ) → q *ℤ (d' *ℤ x +ℤ neg_ℤ d *ℤ y) ≡ d' *ℤ (q *ℤ x +ℤ d *ℤ h) +ℤ neg_ℤ d *ℤ (q *ℤ y +ℤ d' *ℤ h)
    expand q d d' x y h = rw (as_D q, as_D d, as_D d', as_D x, as_D y, as_D h) (simp Ds (same_D _ _ _ _ (omega arith)))

    step : (q d d' x y h : ℤ) → pos 0 <ℤ q → q *ℤ x +ℤ d *ℤ h ≡ pos 0 → q *ℤ y +ℤ d' *ℤ h ≡ pos 0 → d' *ℤ x +ℤ neg_ℤ d *ℤ y ≡ pos 0
    step q d d' x y h pq a b =
        let z : q *ℤ (d' *ℤ x +ℤ neg_ℤ d *ℤ y) ≡ pos 0 = expand q d d' x y h ∙ rw (a, b) (rw (*ℤ-zero d', *ℤ-zero (neg_ℤ d)) refl) in
        elim (zero_product q (d' *ℤ x +ℤ neg_ℤ d *ℤ y) z) [ inl e ↦ absurd (omega (arith, ints)) | inr e ↦ e ]

-- uniqueness: d' v - d v' is zero in each entry
pub normal_unique : (n : ℕ) (rows hs : List (List ℤ)) (q d d' : ℤ) (v v' : List (List ℤ)) → pos 0 <ℤ q → length rows ≡ length hs → length v ≡ n → length v' ≡ n
    → Independent n rows → IsNormalFor rows hs q d v → IsNormalFor rows hs q d' v'
    → (e : ℕ) → IsZero (add (scale d' (entries_at e v)) (scale (neg_ℤ d) (entries_at e v')))
normal_unique n rows hs q d d' v v' pq m l l' ind s t e =
    ind _ (same_long (scale d' (entries_at e v)) (scale (neg_ℤ d) (entries_at e v')) n (length-scale d' (entries_at e v) ∙ length-map (λ w. at w e) v ∙ l) (length-scale (neg_ℤ d) (entries_at e v') ∙ length-map (λ w. at w e) v' ∙ l'))
    (kills_difference rows hs q d d' v v' e pq m s t)
  where
    length-scale : (k : ℤ) (cs : List ℤ) → length (scale k cs) ≡ length cs
    length-scale k [] = refl
    length-scale k (c ∷ cs) = ap suc (length-scale k cs)

    same_long : (a b : List ℤ) (n : ℕ) → length a ≡ n → length b ≡ n → length (add a b) ≡ n
    same_long [] b n p q = q
    same_long (x ∷ a) [] n p q = p
    same_long (x ∷ a) (y ∷ b) zero p q = absurd (omega arith)
    same_long (x ∷ a) (y ∷ b) (suc n) p q = ap suc (same_long a b n (omega arith) (omega arith))

-- the sign: the sum of the dependency's numbers times the heights, and the gap of the further point
weigh_normal : (bs : List ℤ) (rows hs : List (List ℤ)) (q d : ℤ) (v : List (List ℤ)) (e : ℕ) → length rows ≡ length hs → IsNormalFor rows hs q d v
    → q *ℤ weigh bs rows (λ r. dot r (entries_at e v)) +ℤ d *ℤ weigh bs hs (λ h. at h e) ≡ pos 0
weigh_normal [] rows hs q d v e m s = rw (*ℤ-zero q, *ℤ-zero d) refl
weigh_normal (b ∷ bs) [] [] q d v e m s = rw (*ℤ-zero q, *ℤ-zero d) refl
weigh_normal (b ∷ bs) [] (h ∷ hs) q d v e m s = absurd (omega arith)
weigh_normal (b ∷ bs) (r ∷ rows) [] q d v e m s = absurd s
weigh_normal (b ∷ bs) (r ∷ rows) (h ∷ hs) q d v e m s =
    let a = sym (gap-at r v h q d e) ∙ at-zero (add (scale q (comb r v)) (scale d h)) e s.0 in
    let i = weigh_normal bs rows hs q d v e (omega arith) s.1 in
    step q d b (dot r (entries_at e v)) (at h e) (weigh bs rows (λ r. dot r (entries_at e v))) (weigh bs hs (λ h. at h e)) ∙ rw (a, i) (rw (*ℤ-zero b) refl)
  where
    step : (q d b x h s t : ℤ) → q *ℤ (b *ℤ x +ℤ s) +ℤ d *ℤ (b *ℤ h +ℤ t) ≡ b *ℤ (q *ℤ x +ℤ d *ℤ h) +ℤ (q *ℤ s +ℤ d *ℤ t)
    step q d b x h s t = rw (as_D q, as_D d, as_D b, as_D x, as_D h, as_D s, as_D t) (simp Ds (same_D _ _ _ _ (omega arith)))

-- d times the sum is g times the gap, at each entry
pub sum_is_gap : (n : ℕ) (rows hs : List (List ℤ)) (r h bs : List ℤ) (g q d : ℤ) (v : List (List ℤ)) → length rows ≡ length hs → length v ≡ n → IsDependency n rows r bs g → IsNormalFor rows hs q d v
    → (e : ℕ) → at (scale d (add (comb bs hs) (scale g h))) e ≡ at (scale g (add (scale q (comb r v)) (scale d h))) e
sum_is_gap n rows hs r h bs g q d v m lv dep s e =
    let w = weigh_normal bs rows hs q d v e m s in
    let z = dep (entries_at e v) (length-map (λ w. at w e) v ∙ lv) in
    at-scale d (add (comb bs hs) (scale g h)) e
    ∙ ap (λ x. d *ℤ x) (at-add (comb bs hs) (scale g h) e ∙ ap₂ ◌+ℤ◌ (at-comb bs hs e) (at-scale g h e))
    ∙ step q d g (weigh bs hs (λ h. at h e)) (weigh bs rows (λ r. dot r (entries_at e v))) (dot r (entries_at e v)) (at h e) w z
    ∙ ap (λ x. g *ℤ x) (sym (gap-at r v h q d e)) ∙ sym (at-scale g (add (scale q (comb r v)) (scale d h)) e)
  where
    ring : (q d g s t x h : ℤ) → d *ℤ (s +ℤ g *ℤ h) +ℤ q *ℤ (t +ℤ g *ℤ x) ≡ (q *ℤ t +ℤ d *ℤ s) +ℤ g *ℤ (q *ℤ x +ℤ d *ℤ h)
    ring q d g s t x h = rw (as_D q, as_D d, as_D g, as_D s, as_D t, as_D x, as_D h) (simp Ds (same_D _ _ _ _ (omega arith)))

    step : (q d g s t x h : ℤ) → q *ℤ t +ℤ d *ℤ s ≡ pos 0 → t +ℤ g *ℤ x ≡ pos 0 → d *ℤ (s +ℤ g *ℤ h) ≡ g *ℤ (q *ℤ x +ℤ d *ℤ h)
    step q d g s t x h w z =
        let a = ring q d g s t x h in
        let b : q *ℤ (t +ℤ g *ℤ x) ≡ pos 0 = rw z (*ℤ-zero q) in
        omega (arith, ints, a, b, w)
