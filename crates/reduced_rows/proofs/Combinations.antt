-- spans of rows
use Rattle.std.proofs.Common.{◌≡◌, ◌≢◌, inl, inr, ℕ, suc, ℤ, pos, ◌*ℤ◌, ◌+ℤ◌, List, [], ◌∷◌, refl, sym, ap, ap₂, ◌∙◌, arith}
use Rattle.std.proofs.Math.IntN.{+ℤ_idr}
use Rattle.std.proofs.lemmas.Int.{ints}
use Rattle.int_vectors.specs.Vectors.{Each, dot, weigh, add, scale, at, IsOrthogonal}
use Rattle.wide_int.proofs.Ring.{as_D, Ds, same_D}
use Rattle.wide_int.proofs.Order.{zero_product}
use Rattle.int_vectors.proofs.Weighing.{weigh-scale, weigh-add}
use Rattle.reduced_rows.specs.Spans.{Spans, InSpan, SameSpan}

pub other_product : (a b : ℤ) → a ≢ pos 0 → b ≢ pos 0 → (a *ℤ b) ≢ pos 0
other_product a b n m e = elim (zero_product a b e) [ inl z ↦ n z | inr z ↦ m z ]

-- g w = a u + b v
pub spans_mix : (rows : List (List ℤ)) (u v w : ℕ → ℤ) (g a b : ℤ) → g ≢ pos 0 → Spans rows u → Spans rows v → ((e : ℕ) → g *ℤ w e ≡ a *ℤ u e +ℤ b *ℤ v e) → Spans rows w
spans_mix rows u v w g a b n s t h = record {
  by = (s.by *ℤ t.by) *ℤ g;
  other = other_product (s.by *ℤ t.by) g (other_product s.by t.by s.other t.other) n;
  coefficients = add (scale (a *ℤ t.by) s.coefficients) (scale (b *ℤ s.by) t.coefficients);
  is = λ e.
      step s.by t.by g a b (u e) (v e) (w e) _ _ (h e) (s.is e) (t.is e)
      ∙ sym (weigh-add (scale (a *ℤ t.by) s.coefficients) (scale (b *ℤ s.by) t.coefficients) rows (λ row. at row e)
      ∙ ap₂ (λ x y. x +ℤ y) (weigh-scale (a *ℤ t.by) s.coefficients rows (λ row. at row e)) (weigh-scale (b *ℤ s.by) t.coefficients rows (λ row. at row e)));
}
  where
    left : (p q g w : ℤ) → (p *ℤ q) *ℤ g *ℤ w ≡ (p *ℤ q) *ℤ (g *ℤ w)
    left p q g w = rw (as_D p, as_D q, as_D g, as_D w) (simp Ds (same_D _ _ _ _ (omega arith)))

    right : (p q a b u v : ℤ) → (p *ℤ q) *ℤ (a *ℤ u +ℤ b *ℤ v) ≡ (a *ℤ q) *ℤ (p *ℤ u) +ℤ (b *ℤ p) *ℤ (q *ℤ v)
    right p q a b u v = rw (as_D p, as_D q, as_D a, as_D b, as_D u, as_D v) (simp Ds (same_D _ _ _ _ (omega arith)))

    step : (p q g a b u v w x y : ℤ) → g *ℤ w ≡ a *ℤ u +ℤ b *ℤ v → p *ℤ u ≡ x → q *ℤ v ≡ y → (p *ℤ q) *ℤ g *ℤ w ≡ (a *ℤ q) *ℤ x +ℤ (b *ℤ p) *ℤ y
    step p q g a b u v w x y h k l = left p q g w ∙ ap (λ z. (p *ℤ q) *ℤ z) h ∙ right p q a b u v ∙ ap₂ (λ x' y'. (a *ℤ q) *ℤ x' +ℤ (b *ℤ p) *ℤ y') k l

-- g w = a u
pub spans_scaled : (rows : List (List ℤ)) (u w : ℕ → ℤ) (g a : ℤ) → g ≢ pos 0 → Spans rows u → ((e : ℕ) → g *ℤ w e ≡ a *ℤ u e) → Spans rows w
spans_scaled rows u w g a n s h = spans_mix rows u u w g a (pos 0) n s s (λ e. h e ∙ omega (arith, ints))

pub spans_nothing : (rows : List (List ℤ)) → Spans rows (λ e. pos 0)
spans_nothing rows = record { by = pos 1; other = (λ e. omega (arith, ints, e)); coefficients = []; is = λ e. refl }

span_here : (row : List ℤ) (rows : List (List ℤ)) → InSpan (row ∷ rows) row
span_here row rows = record { by = pos 1; other = (λ e. omega (arith, ints, e)); coefficients = pos 1 ∷ []; is = λ e. sym (+ℤ_idr _) }

span_later : (row : List ℤ) (rows : List (List ℤ)) (f : ℕ → ℤ) → Spans rows f → Spans (row ∷ rows) f
span_later row rows f s = record { by = s.by; other = s.other; coefficients = pos 0 ∷ s.coefficients; is = λ e. s.is e ∙ sym (step (at row e) (weigh s.coefficients rows (λ r. at r e))) }
  where
    step : (x y : ℤ) → pos 0 *ℤ x +ℤ y ≡ y
    step x y = omega (arith, ints)

pub each_weaken : (P Q : List ℤ → Type 0) (rows : List (List ℤ)) → ((row : List ℤ) → P row → Q row) → Each rows P → Each rows Q
each_weaken P Q [] h a = tt
each_weaken P Q (row ∷ rows) h a = (h row a.0, each_weaken P Q rows h a.1)

pub each_self : (rows : List (List ℤ)) → Each rows (InSpan rows)
each_self [] = tt
each_self (row ∷ rows) = (span_here row rows, each_weaken (InSpan rows) (InSpan (row ∷ rows)) rows (λ r s. span_later row rows (at r) s) (each_self rows))

pub combination : (others : List (List ℤ)) (cs : List ℤ) (rows : List (List ℤ)) → Each rows (InSpan others) → Spans others (λ e. weigh cs rows (λ row. at row e))
combination others [] rows h = spans_nothing others
combination others (c ∷ cs) [] h = spans_nothing others
combination others (c ∷ cs) (row ∷ rows) h =
    spans_mix others (at row) (λ e. weigh cs rows (λ r. at r e)) (λ e. c *ℤ at row e +ℤ weigh cs rows (λ r. at r e)) (pos 1) c (pos 1) (λ e. omega (arith, ints, e)) h.0 (combination others cs rows h.1)
    (λ e. step c (at row e) (weigh cs rows (λ r. at r e)))
  where
    step : (c x y : ℤ) → pos 1 *ℤ (c *ℤ x +ℤ y) ≡ c *ℤ x +ℤ pos 1 *ℤ y
    step c x y = omega (arith, ints)

pub span_trans : (rows others : List (List ℤ)) (row : List ℤ) → Each rows (InSpan others) → InSpan rows row → InSpan others row
span_trans rows others row h s =
    spans_scaled others (λ e. weigh s.coefficients rows (λ r. at r e)) (at row) s.by (pos 1) s.other (combination others s.coefficients rows h) (λ e. s.is e ∙ omega (arith, ints))

pub same_trans : (xs ys zs : List (List ℤ)) → SameSpan xs ys → SameSpan ys zs → SameSpan xs zs
same_trans xs ys zs a b = (
  each_weaken (InSpan ys) (InSpan zs) xs (λ row s. span_trans ys zs row b.0 s) a.0,
  each_weaken (InSpan ys) (InSpan xs) zs (λ row s. span_trans ys xs row a.1 s) b.1,
)

pub same_self : (rows : List (List ℤ)) → SameSpan rows rows
same_self rows = (each_self rows, each_self rows)

-- a sum over a vector
abbrev total : (ℕ → ℤ) → List ℤ → ℤ
total f [] = pos 0
total f (x ∷ v) = f 0 *ℤ x +ℤ total (λ e. f (suc e)) v

total_none : (v : List ℤ) → total (λ e. pos 0) v ≡ pos 0
total_none [] = refl
total_none (x ∷ v) = rw (total_none v) (omega (arith, ints))

dot_total : (row v : List ℤ) → dot row v ≡ total (at row) v
dot_total [] v = sym (total_none v)
dot_total (r ∷ row) [] = refl
dot_total (r ∷ row) (x ∷ v) = ap (λ z. r *ℤ x +ℤ z) (dot_total row v)

total_same : (f g : ℕ → ℤ) (v : List ℤ) → ((e : ℕ) → f e ≡ g e) → total f v ≡ total g v
total_same f g [] h = refl
total_same f g (x ∷ v) h = ap₂ (λ y z. y *ℤ x +ℤ z) (h 0) (total_same (λ e. f (suc e)) (λ e. g (suc e)) v (λ e. h (suc e)))

total_mix : (a : ℤ) (f g : ℕ → ℤ) (v : List ℤ) → total (λ e. a *ℤ f e +ℤ g e) v ≡ a *ℤ total f v +ℤ total g v
total_mix a f g [] = omega (arith, ints)
total_mix a f g (x ∷ v) = rw (total_mix a (λ e. f (suc e)) (λ e. g (suc e)) v) (step a (f 0) (g 0) x (total (λ e. f (suc e)) v) (total (λ e. g (suc e)) v))
  where
    step : (a p q x s t : ℤ) → (a *ℤ p +ℤ q) *ℤ x +ℤ (a *ℤ s +ℤ t) ≡ a *ℤ (p *ℤ x +ℤ s) +ℤ (q *ℤ x +ℤ t)
    step a p q x s t = rw (as_D a, as_D p, as_D q, as_D x, as_D s, as_D t) (simp Ds (same_D _ _ _ _ (omega arith)))

total_weigh : (cs : List ℤ) (rows : List (List ℤ)) (v : List ℤ) → IsOrthogonal rows v → total (λ e. weigh cs rows (λ row. at row e)) v ≡ pos 0
total_weigh [] rows v h = total_none v
total_weigh (c ∷ cs) [] v h = total_none v
total_weigh (c ∷ cs) (row ∷ rows) v h =
    total_mix c (at row) (λ e. weigh cs rows (λ r. at r e)) v
    ∙ step c _ _ (sym (dot_total row v) ∙ h.0) (total_weigh cs rows v h.1)
  where
    step : (c x y : ℤ) → x ≡ pos 0 → y ≡ pos 0 → c *ℤ x +ℤ y ≡ pos 0
    step c x y a b = rw (a, b) (omega (arith, ints))

total_scaled : (a : ℤ) (f : ℕ → ℤ) (v : List ℤ) → total (λ e. a *ℤ f e) v ≡ a *ℤ total f v
total_scaled a f v =
    total_same (λ e. a *ℤ f e) (λ e. a *ℤ f e +ℤ pos 0) v (λ e. sym (+ℤ_idr _)) ∙ total_mix a f (λ e. pos 0) v ∙ ap (λ z. a *ℤ total f v +ℤ z) (total_none v) ∙ +ℤ_idr _

-- a row in the span is orthogonal to what the rows are orthogonal to
pub span_orthogonal : (rows : List (List ℤ)) (row v : List ℤ) → InSpan rows row → IsOrthogonal rows v → dot row v ≡ pos 0
span_orthogonal rows row v s h =
    let z : s.by *ℤ total (at row) v ≡ pos 0 = sym (total_scaled s.by (at row) v) ∙ total_same _ _ v s.is ∙ total_weigh s.coefficients rows v h in
    dot_total row v ∙ elim (zero_product s.by (total (at row) v) z) [ inl a ↦ absurd (s.other a) | inr b ↦ b ]
