-- rows that carry how they were made
use Rattle.std.proofs.Common.{◌≡◌, ℕ, zero, suc, ◌+◌, ◌<◌, ℤ, pos, ◌*ℤ◌, ◌+ℤ◌, List, [], ◌∷◌, ◌++◌, length, get_or, drop, refl, sym, ap, ap₂, subst, ◌∙◌, arith, get_or-drop, append_assoc}
use Rattle.std.proofs.Math.Seq.{get_or-append_seam}
use Rattle.std.proofs.Math.IntN.{+ℤ_idr, *ℤ_comm}
use Rattle.std.proofs.lemmas.Int.{ints}
use Rattle.int_vectors.specs.Vectors.{Each, weigh, at}
use Rattle.wide_int.proofs.Ring.{as_D, Ds, same_D}
use Rattle.wide_int.proofs.Order.{mul_cancel}
use Rattle.reduced_rows.specs.Carried.{unit, HaveUnits, SpanCarries}

-- a weighted sum whose weights are a function of the place
abbrev pub weigh_by : (ℕ → ℤ) → List (List ℤ) → (List ℤ → ℤ) → ℤ
weigh_by h [] f = pos 0
weigh_by h (x ∷ xs) f = h 0 *ℤ f x +ℤ weigh_by (λ i. h (suc i)) xs f

pub by_nothing : (xs : List (List ℤ)) (f : List ℤ → ℤ) → weigh_by (λ i. pos 0) xs f ≡ pos 0
by_nothing [] f = refl
by_nothing (x ∷ xs) f = rw (by_nothing xs f) (omega (arith, ints))

pub by_same : (h k : ℕ → ℤ) (xs : List (List ℤ)) (f : List ℤ → ℤ) → ((i : ℕ) → h i ≡ k i) → weigh_by h xs f ≡ weigh_by k xs f
by_same h k [] f e = refl
by_same h k (x ∷ xs) f e = ap₂ (λ a b. a *ℤ f x +ℤ b) (e 0) (by_same (λ i. h (suc i)) (λ i. k (suc i)) xs f (λ i. e (suc i)))

by_entries : (cs : List ℤ) (xs : List (List ℤ)) (f : List ℤ → ℤ) → weigh cs xs f ≡ weigh_by (at cs) xs f
by_entries [] xs f = sym (by_nothing xs f)
by_entries (c ∷ cs) [] f = refl
by_entries (c ∷ cs) (x ∷ xs) f = ap (λ z. c *ℤ f x +ℤ z) (by_entries cs xs f)

pub by_mix : (a : ℤ) (h k : ℕ → ℤ) (xs : List (List ℤ)) (f : List ℤ → ℤ) → weigh_by (λ i. a *ℤ h i +ℤ k i) xs f ≡ a *ℤ weigh_by h xs f +ℤ weigh_by k xs f
by_mix a h k [] f = omega (arith, ints)
by_mix a h k (x ∷ xs) f = rw (by_mix a (λ i. h (suc i)) (λ i. k (suc i)) xs f) (step a (h 0) (k 0) (f x) (weigh_by (λ i. h (suc i)) xs f) (weigh_by (λ i. k (suc i)) xs f))
  where
    step : (a p q x s t : ℤ) → (a *ℤ p +ℤ q) *ℤ x +ℤ (a *ℤ s +ℤ t) ≡ a *ℤ (p *ℤ x +ℤ s) +ℤ (q *ℤ x +ℤ t)
    step a p q x s t = rw (as_D a, as_D p, as_D q, as_D x, as_D s, as_D t) (simp Ds (same_D _ _ _ _ (omega arith)))

by_scaled : (a : ℤ) (h : ℕ → ℤ) (xs : List (List ℤ)) (f : List ℤ → ℤ) → weigh_by (λ i. a *ℤ h i) xs f ≡ a *ℤ weigh_by h xs f
by_scaled a h xs f =
    by_same (λ i. a *ℤ h i) (λ i. a *ℤ h i +ℤ pos 0) xs f (λ i. sym (+ℤ_idr _)) ∙ by_mix a h (λ i. pos 0) xs f ∙ ap (λ z. a *ℤ weigh_by h xs f +ℤ z) (by_nothing xs f) ∙ +ℤ_idr _

by_weigh : (cs : List ℤ) (rows xs : List (List ℤ)) (h : List ℤ → ℕ → ℤ) (f : List ℤ → ℤ) → weigh_by (λ i. weigh cs rows (λ r. h r i)) xs f ≡ weigh cs rows (λ r. weigh_by (h r) xs f)
by_weigh [] rows xs h f = by_nothing xs f
by_weigh (c ∷ cs) [] xs h f = by_nothing xs f
by_weigh (c ∷ cs) (row ∷ rows) xs h f = by_mix c (h row) (λ i. weigh cs rows (λ r. h r i)) xs f ∙ ap (λ z. c *ℤ weigh_by (h row) xs f +ℤ z) (by_weigh cs rows xs h f)

by_unit : (j : ℕ) (xs : List (List ℤ)) (f : List ℤ → ℤ) (d : List ℤ) → j < length xs → weigh_by (unit j) xs f ≡ f (get_or xs j d)
by_unit j [] f d lt = absurd (omega arith)
by_unit zero (x ∷ xs) f d lt = rw (by_nothing xs f) (omega (arith, ints))
by_unit (suc j) (x ∷ xs) f d lt = ap (λ z. pos 0 *ℤ f x +ℤ z) (by_unit j xs f d (omega arith)) ∙ omega (arith, ints)

-- the weights of a row from column off on
pub carried_by : (off : ℕ) (row : List ℤ) (xs : List (List ℤ)) (f : List ℤ → ℤ) → weigh (drop off row) xs f ≡ weigh_by (λ i. at row (off + i)) xs f
carried_by off row xs f = by_entries (drop off row) xs f ∙ by_same (at (drop off row)) (λ i. at row (off + i)) xs f (λ i. get_or-drop off row i (pos 0))

weigh_each : (cs : List ℤ) (rows : List (List ℤ)) (f g : List ℤ → ℤ) → Each rows (λ r. f r ≡ g r) → weigh cs rows f ≡ weigh cs rows g
weigh_each [] rows f g h = refl
weigh_each (c ∷ cs) [] f g h = refl
weigh_each (c ∷ cs) (row ∷ rows) f g h = ap₂ (λ a b. c *ℤ a +ℤ b) h.0 (weigh_each cs rows f g h.1)

units_carry : (off j : ℕ) (front rows : List (List ℤ)) → length front ≡ j → HaveUnits off j rows → (f : List ℤ → ℤ) → Each rows (λ r. weigh_by (λ i. at r (off + i)) (front ++ rows) f ≡ f r)
units_carry off j front [] e h f = tt
units_carry off j front (row ∷ rows) e h f = (
  by_same (λ i. at row (off + i)) (unit j) (front ++ row ∷ rows) f h.0
      ∙ by_unit j (front ++ row ∷ rows) f row (let l = length_seam front row rows in omega (arith, e, l))
      ∙ ap f (subst (λ i. get_or (front ++ row ∷ rows) i row ≡ row) e (get_or-append_seam front row rows row)),
  subst (λ l. Each rows (λ r. weigh_by (λ i. at r (off + i)) l f ≡ f r)) (append_assoc front (row ∷ []) rows) (units_carry off (suc j) (front ++ row ∷ []) rows (length_snoc front row ∙ ap suc e) h.1 f),
)
  where
    length_snoc : (xs : List (List ℤ)) (x : List ℤ) → length (xs ++ x ∷ []) ≡ suc (length xs)
    length_snoc [] x = refl
    length_snoc (y ∷ xs) x = ap suc (length_snoc xs x)

    length_seam : (xs : List (List ℤ)) (x : List ℤ) (ys : List (List ℤ)) → length (xs ++ x ∷ ys) ≡ length xs + suc (length ys)
    length_seam [] x ys = omega arith
    length_seam (y ∷ xs) x ys = let k = length_seam xs x ys in omega (arith, k)

pub span_carries : SpanCarries
span_carries off given row u s e =
    let f : List ℤ → ℤ = λ g. at g e in
    let w = weigh_by (λ i. at row (off + i)) given f in
    let scaled : s.by *ℤ weigh_by (λ i. at row (off + i)) given (λ g. at g e) ≡ s.by *ℤ at row e =
    sym (by_scaled s.by (λ i. at row (off + i)) given f)
    ∙ by_same (λ i. s.by *ℤ at row (off + i)) (λ i. weigh s.coefficients given (λ r. at r (off + i))) given f (λ i. s.is (off + i))
    ∙ by_weigh s.coefficients given given (λ r i. at r (off + i)) f
    ∙ weigh_each s.coefficients given (λ r. weigh_by (λ i. at r (off + i)) given f) f (units_carry off 0 [] given refl u f)
    ∙ sym (s.is e) in
    sym (carried_by off row given f ∙ mul_cancel w (at row e) s.by s.other (*ℤ_comm w s.by ∙ scaled ∙ *ℤ_comm s.by (at row e)))
