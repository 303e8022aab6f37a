-- more unknowns than equations: an integer solution other than zero
use Rattle.std.proofs.Common.{◌≡◌, ◌≢◌, ◌⊎◌, ℕ, zero, suc, ◌<◌, List, [], ◌∷◌, ◌++◌, length, map, arith, refl, sym, ap, ap₂, subst, ◌∙◌, inl, inr, length-append}
use Rattle.std.proofs.lemmas.Int.{ints}
use Rattle.std.proofs.Math.IntN.{ℤ, pos, ◌+ℤ◌, ◌*ℤ◌, neg_ℤ, ℤ_discrete}
use Rattle.wide_int.proofs.Ring.{as_D, Ds, same_D, D-pos}
use Rattle.wide_int.proofs.Order.{zero_product}
use Rattle.int_vectors.proofs.Weighing.{weigh-lin, weigh-scale, weigh-append}
use Rattle.int_vectors.specs.Vectors.{weigh, IsZero, scale, Each}
use Rattle.int_vectors.proofs.Entries.{length-scale}

pub record Pivot {A : Type 0} (f : A → ℤ) (ps : List A) : Type 0 where
  pub before : List A
  pub at : A
  pub after : List A
  pub is : ps ≡ before ++ at ∷ after
  pub apart : f at ≢ pos 0

weigh_none : {A : Type 0} (f : A → ℤ) (a : A) (ps : List A) → f a ≡ pos 0 → ((cs : List ℤ) → weigh cs ps f ≡ pos 0) → (cs : List ℤ) → weigh cs (a ∷ ps) f ≡ pos 0
weigh_none f a ps z h [] = refl
weigh_none f a ps z h (c ∷ cs) = rw (z, h cs) (omega (arith, ints))

weigh_empty : {A : Type 0} (f : A → ℤ) (cs : List ℤ) → weigh cs [] f ≡ pos 0
weigh_empty f [] = refl
weigh_empty f (c ∷ cs) = refl

pub pivot : {A : Type 0} (f : A → ℤ) (ps : List A) → ((cs : List ℤ) → weigh cs ps f ≡ pos 0) ⊎ Pivot f ps
pivot f [] = inl (weigh_empty f)
pivot f (a ∷ ps) = elim (ℤ_discrete (f a) (pos 0)) [
  | no n ↦ inr (record { before = []; at = a; after = ps; is = refl; apart = n })
  | yes z ↦ elim (pivot f ps) [
    | inl h ↦ inl (weigh_none f a ps z h)
    | inr p ↦ inr (record { before = a ∷ p.before; at = p.at; after = p.after; is = ap (λ l. a ∷ l) p.is; apart = p.apart })
  ]
]

pub record Dep {A : Type 0} (fs : List (A → ℤ)) (ps : List A) : Type 0 where
  pub cs : List ℤ
  pub long : length cs ≡ length ps
  pub some : ¬ (IsZero cs)
  pub kills : Each fs (λ f. weigh cs ps f ≡ pos 0)

record Split {A B : Type 0} (cs : List B) (xs ys : List A) : Type 0 where
  left : List B
  right : List B
  is : cs ≡ left ++ right
  long_left : length left ≡ length xs
  long_right : length right ≡ length ys

split : {A B : Type 0} (cs : List B) (xs ys : List A) → length cs ≡ length (xs ++ ys) → Split cs xs ys
split cs [] ys e = record { left = []; right = cs; is = refl; long_left = refl; long_right = e }
split [] (x ∷ xs) ys e = absurd (omega arith)
split (c ∷ cs) (x ∷ xs) ys e =
    let s = split cs xs ys (omega arith) in
    record { left = c ∷ s.left; right = s.right; is = ap (λ l. c ∷ l) s.is; long_left = ap suc s.long_left; long_right = s.long_right }

-- what a functional is after the pivot is gone
abbrev reduce : {A : Type 0} → (A → ℤ) → A → (A → ℤ) → (A → ℤ)
reduce f u g = λ w. f u *ℤ g w +ℤ neg_ℤ (g u) *ℤ f w

pub scale-zero : (k : ℤ) (cs : List ℤ) → k ≢ pos 0 → IsZero (scale k cs) → IsZero cs
scale-zero k [] n z = tt
scale-zero k (c ∷ cs) n z = (elim (zero_product k c z.0) [ inl e ↦ absurd (n e) | inr e ↦ e ], scale-zero k cs n z.1)

zero-append : (xs ys : List ℤ) → IsZero xs → IsZero ys → IsZero (xs ++ ys)
zero-append [] ys p q = q
zero-append (x ∷ xs) ys p q = (p.0, zero-append xs ys p.1 q)

append-zero_left : (xs ys : List ℤ) → IsZero (xs ++ ys) → IsZero xs
append-zero_left [] ys p = tt
append-zero_left (x ∷ xs) ys p = (p.0, append-zero_left xs ys p.1)

append-zero_right : (xs ys : List ℤ) → IsZero (xs ++ ys) → IsZero ys
append-zero_right [] ys p = p
append-zero_right (x ∷ xs) ys p = append-zero_right xs ys p.1

module _ {A : Type 0} (f : A → ℤ) (before after : List A) (u : A) (ca cb : List ℤ) (la : length ca ≡ length before) where
  mid : ℤ
  mid = neg_ℤ (weigh ca before f +ℤ weigh cb after f)

  coefs : List ℤ
  coefs = scale (f u) ca ++ (mid ∷ scale (f u) cb)

  weigh-coefs : (g : A → ℤ) → weigh coefs (before ++ u ∷ after) g ≡ f u *ℤ weigh ca before g +ℤ (mid *ℤ g u +ℤ f u *ℤ weigh cb after g)
  unfolding coefs
  weigh-coefs g =
      rw (weigh-append (scale (f u) ca) (mid ∷ scale (f u) cb) before (u ∷ after) g (length-scale (f u) ca ∙ la), weigh-scale (f u) ca before g, weigh-scale (f u) cb after g)

  first : weigh coefs (before ++ u ∷ after) f ≡ pos 0
  unfolding mid
  first = weigh-coefs f ∙ step (f u) (weigh ca before f) (weigh cb after f)
    where
      step : (h x y : ℤ) → h *ℤ x +ℤ (neg_ℤ (x +ℤ y) *ℤ h +ℤ h *ℤ y) ≡ pos 0
      step h x y = rw (as_D h, as_D x, as_D y) (simp Ds (rw (D-pos 0) (same_D _ _ _ _ (omega arith))))

  other : (g : A → ℤ) → weigh (ca ++ cb) (before ++ after) (reduce f u g) ≡ pos 0 → weigh coefs (before ++ u ∷ after) g ≡ pos 0
  unfolding mid
  other g e =
      weigh-coefs g ∙ step (f u) (g u) (weigh ca before f) (weigh cb after f) (weigh ca before g) (weigh cb after g)
      ∙ sym (weigh-append ca cb before after (reduce f u g) la ∙ ap₂ ◌+ℤ◌ (weigh-lin ca before (f u) (neg_ℤ (g u)) g f) (weigh-lin cb after (f u) (neg_ℤ (g u)) g f))
      ∙ e
    where
      step : (h k x y s t : ℤ) → h *ℤ s +ℤ (neg_ℤ (x +ℤ y) *ℤ k +ℤ h *ℤ t) ≡ (h *ℤ s +ℤ neg_ℤ k *ℤ x) +ℤ (h *ℤ t +ℤ neg_ℤ k *ℤ y)
      step h k x y s t = rw (as_D h, as_D k, as_D x, as_D y, as_D s, as_D t) (simp Ds (same_D _ _ _ _ (omega arith)))

  others : (fs : List (A → ℤ)) → Each (map (reduce f u) fs) (λ g. weigh (ca ++ cb) (before ++ after) g ≡ pos 0) → Each fs (λ g. weigh coefs (before ++ u ∷ after) g ≡ pos 0)
  others [] h = tt
  others (g ∷ fs) h = (other g h.0, others fs h.1)

  nonzero : f u ≢ pos 0 → ¬ (IsZero (ca ++ cb)) → ¬ (IsZero coefs)
  unfolding coefs
  nonzero n some z = some (zero-append ca cb
      (scale-zero (f u) ca n (append-zero_left (scale (f u) ca) (mid ∷ scale (f u) cb) z))
      (scale-zero (f u) cb n (append-zero_right (scale (f u) ca) (mid ∷ scale (f u) cb) z).1))

  long : length cb ≡ length after → length coefs ≡ length (before ++ u ∷ after)
  unfolding coefs
  long lb = omega (arith, length-append (scale (f u) ca) (mid ∷ scale (f u) cb), length-append before (u ∷ after), length-scale (f u) ca, length-scale (f u) cb)

pub length-map : {A B : Type 0} (f : A → B) (xs : List A) → length (map f xs) ≡ length xs
length-map f [] = refl
length-map f (x ∷ xs) = ap suc (length-map f xs)

ones : {A : Type 0} → List A → List ℤ
ones [] = []
ones (x ∷ xs) = pos 1 ∷ ones xs

length-ones : {A : Type 0} (xs : List A) → length (ones xs) ≡ length xs
unfolding ones
length-ones [] = refl
length-ones (x ∷ xs) = ap suc (length-ones xs)

one_apart : pos 1 ≢ pos 0
one_apart e = cc

some_ones : {A : Type 0} (a : A) (ps : List A) → ¬ (IsZero (ones (a ∷ ps)))
unfolding ones
some_ones a ps z = one_apart z.0

dependent_by : {A : Type 0} (n : ℕ) (fs : List (A → ℤ)) (ps : List A) → length fs ≡ n → n < length ps → Dep fs ps
dependent_by n [] [] e lt = absurd (omega arith)
dependent_by n [] (a ∷ ps) e lt = record { cs = ones (a ∷ ps); long = length-ones (a ∷ ps); some = some_ones a ps; kills = tt }
dependent_by zero (f ∷ fs) ps e lt = absurd (omega arith)
dependent_by (suc n) (f ∷ fs) ps e lt = elim (pivot f ps) [
  | inl h ↦ let d = dependent_by n fs ps (omega arith) (omega arith) in record { cs = d.cs; long = d.long; some = d.some; kills = (h d.cs, d.kills) }
  | inr p ↦
      let d = dependent_by n (map (reduce f p.at) fs) (p.before ++ p.after) (omega (arith, length-map (reduce f p.at) fs))
      (omega (arith, ap length p.is, length-append p.before p.after, length-append p.before (p.at ∷ p.after), length-map (reduce f p.at) fs)) in
      let s = split d.cs p.before p.after d.long in
      let some : ¬ (IsZero (s.left ++ s.right)) = subst (λ l. ¬ (IsZero l)) s.is d.some in
      let kills = subst (λ l. Each (map (reduce f p.at) fs) (λ g. weigh l (p.before ++ p.after) g ≡ pos 0)) s.is d.kills in
      subst (Dep (f ∷ fs)) (sym p.is) (record {
        cs = coefs f p.before p.after p.at s.left s.right s.long_left;
        long = long f p.before p.after p.at s.left s.right s.long_left s.long_right;
        some = nonzero f p.before p.after p.at s.left s.right s.long_left p.apart some;
        kills = (first f p.before p.after p.at s.left s.right s.long_left, others f p.before p.after p.at s.left s.right s.long_left fs kills);
      })
]

pub dependent : {A : Type 0} (fs : List (A → ℤ)) (ps : List A) → length fs < length ps → Dep fs ps
dependent fs ps lt = dependent_by (length fs) fs ps refl lt
