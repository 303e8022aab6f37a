-- weighted sums over lists
use Rattle.std.proofs.Common.{◌≡◌, List, [], ◌∷◌, ◌++◌, length, arith, refl, sym, ap₂, ap, ◌∙◌, suc, ℕ, ◌<◌}
use Rattle.std.proofs.lemmas.Int.{ints}
use Rattle.std.proofs.Math.IntN.{ℤ, pos, ◌+ℤ◌, ◌*ℤ◌, +ℤ_idl, +ℤ_assoc, +ℤ_idr}
use Rattle.int_vectors.specs.Vectors.{weigh, IsZero, scale, add, row_at}
use Rattle.wide_int.proofs.Ring.{as_D, Ds, same_D}

pub weigh-lin : {A : Type 0} (cs : List ℤ) (xs : List A) (a b : ℤ) (f g : A → ℤ)
    → weigh cs xs (λ x. a *ℤ f x +ℤ b *ℤ g x) ≡ a *ℤ weigh cs xs f +ℤ b *ℤ weigh cs xs g
weigh-lin [] xs a b f g = omega (arith, ints)
weigh-lin (c ∷ cs) [] a b f g = omega (arith, ints)
weigh-lin (c ∷ cs) (x ∷ xs) a b f g =
    rw (weigh-lin cs xs a b f g) (step c (f x) (g x) a b (weigh cs xs f) (weigh cs xs g))
  where
    step : (c p q a b s t : ℤ) → c *ℤ (a *ℤ p +ℤ b *ℤ q) +ℤ (a *ℤ s +ℤ b *ℤ t) ≡ a *ℤ (c *ℤ p +ℤ s) +ℤ b *ℤ (c *ℤ q +ℤ t)
    step c p q a b s t = rw (as_D c, as_D p, as_D q, as_D a, as_D b, as_D s, as_D t) (simp Ds (same_D _ _ _ _ (omega arith)))

pub weigh-scale : {A : Type 0} (k : ℤ) (cs : List ℤ) (xs : List A) (f : A → ℤ) → weigh (scale k cs) xs f ≡ k *ℤ weigh cs xs f
weigh-scale k [] xs f = omega (arith, ints)
weigh-scale k (c ∷ cs) [] f = omega (arith, ints)
weigh-scale k (c ∷ cs) (x ∷ xs) f = rw (weigh-scale k cs xs f) (step k c (f x) (weigh cs xs f))
  where
    step : (k c p s : ℤ) → k *ℤ c *ℤ p +ℤ k *ℤ s ≡ k *ℤ (c *ℤ p +ℤ s)
    step k c p s = rw (as_D k, as_D c, as_D p, as_D s) (simp Ds (same_D _ _ _ _ (omega arith)))

pub weigh-same : {A : Type 0} (cs : List ℤ) (xs : List A) (f g : A → ℤ) → ((x : A) → f x ≡ g x) → weigh cs xs f ≡ weigh cs xs g
weigh-same [] xs f g e = refl
weigh-same (c ∷ cs) [] f g e = refl
weigh-same (c ∷ cs) (x ∷ xs) f g e = ap₂ (λ p s. c *ℤ p +ℤ s) (e x) (weigh-same cs xs f g e)

pub weigh-append : {A : Type 0} (cs ds : List ℤ) (xs ys : List A) (f : A → ℤ) → length cs ≡ length xs
    → weigh (cs ++ ds) (xs ++ ys) f ≡ weigh cs xs f +ℤ weigh ds ys f
weigh-append [] ds [] ys f e = sym (+ℤ_idl _)
weigh-append [] ds (x ∷ xs) ys f e = absurd (omega arith)
weigh-append (c ∷ cs) ds [] ys f e = absurd (omega arith)
weigh-append (c ∷ cs) ds (x ∷ xs) ys f e =
    rw (weigh-append cs ds xs ys f (omega arith)) (sym (+ℤ_assoc (c *ℤ f x) (weigh cs xs f) (weigh ds ys f)))

pub weigh-zero : {A : Type 0} (cs : List ℤ) (xs : List A) (f : A → ℤ) → IsZero cs → weigh cs xs f ≡ pos 0
weigh-zero [] xs f z = refl
weigh-zero (c ∷ cs) [] f z = refl
weigh-zero (c ∷ cs) (x ∷ xs) f z = rw (z.0, weigh-zero cs xs f z.1) (omega (arith, ints))

pub weigh-add : {A : Type 0} (cs ds : List ℤ) (xs : List A) (f : A → ℤ) → weigh (add cs ds) xs f ≡ weigh cs xs f +ℤ weigh ds xs f
weigh-add [] ds xs f = sym (+ℤ_idl _)
weigh-add (c ∷ cs) [] xs f = sym (ap (λ x. weigh (c ∷ cs) xs f +ℤ x) refl ∙ +ℤ_idr _)
weigh-add (c ∷ cs) (d ∷ ds) [] f = refl
weigh-add (c ∷ cs) (d ∷ ds) (x ∷ xs) f = rw (weigh-add cs ds xs f) (step c d (f x) (weigh cs xs f) (weigh ds xs f))
  where
    step : (c d p s t : ℤ) → (c +ℤ d) *ℤ p +ℤ (s +ℤ t) ≡ c *ℤ p +ℤ s +ℤ (d *ℤ p +ℤ t)
    step c d p s t = rw (as_D c, as_D d, as_D p, as_D s, as_D t) (simp Ds (same_D _ _ _ _ (omega arith)))

pub times_zero : (c s : ℤ) → s ≡ pos 0 → c *ℤ pos 0 +ℤ s ≡ pos 0
times_zero c s e = omega (arith, ints, e)

pub weigh_none : (cs : List ℤ) (xs : List (List ℤ)) (f : List ℤ → ℤ) → ((k : ℕ) → k < length xs → f (row_at xs k) ≡ pos 0) → weigh cs xs f ≡ pos 0
weigh_none [] xs f h = refl
weigh_none (c ∷ cs) [] f h = refl
weigh_none (c ∷ cs) (x ∷ xs) f h =
    ap (λ z. c *ℤ z +ℤ weigh cs xs f) (h 0 (omega arith)) ∙ times_zero c (weigh cs xs f) (weigh_none cs xs f (λ k lt. h (suc k) (omega (arith, lt))))
