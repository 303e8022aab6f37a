-- sums that are collected point by point and support by support
use Rattle.std.proofs.Common.{◌≡◌, ◌⊎◌, ◌↔◌, ℕ, ◌+◌, ◌-◌, ◌<◌, ◌≤◌, List, [], ◌∷◌, ◌++◌, length, map, take, drop, get_or, inl, inr, drop-cons, add-one, drop_of_length-le, take_all, arith, refl, sym, ap, ap₂, subst, ◌∙◌, append-nil}
use Rattle.std.proofs.Math.IntN.{ℤ, pos}
use Rattle.std.proofs.lemmas.List.{length-map, take_more, append_assoc, get_or-map}
use Rattle.cayley.specs.Cells.{Cell}
use Rattle.cayley.specs.Problems.{Point, origin, point_at, with_rank}
use Rattle.cayley.specs.Resting.{rise}
use Rattle.cayley.proofs.Ranking.Unperturbed.{unranked, point_unranked}
use Rattle.homotopy_rows.specs.Flat.{SomePair, IsFlatAt}
use Rattle.homotopy_rows.specs.Points.{IsTieAt}
use Rattle.homotopy_rows.specs.Powers.{sums_over, sums}
use native.Mathlib.Decide.{dec_le}

-- ---- one support
module _ (den : ℤ) (v : List ℤ) (s : List Point) (a b : ℕ) where
  sum_of_place : (k : ℕ) → k < length s → get_or (sums_over den v s a) k (pos 0) ≡ rise den v (point_at s a) (point_at s (k + 1))
  sum_of_place k h =
      let d : k + 1 - 1 ≡ k = omega arith in
      get_or-map (rise den v (point_at s a)) s k origin (pos 0) h ∙ ap (λ j. rise den v (point_at s a) (get_or s j origin)) (sym d)

  pub sums_more : (made : List ℤ) (k : ℕ) (w : ℤ) → k < length s → made ≡ take k (sums_over den v s a) → w ≡ rise den v (point_at s a) (point_at s (k + 1))
      → made ++ w ∷ [] ≡ take (k + 1) (sums_over den v s a)
  sums_more made k w h e i =
      ap₂ (λ m x. m ++ x ∷ []) e (i ∙ sym (sum_of_place k h))
      ∙ sym (take_more (sums_over den v s a) k (pos 0) (omega (arith, h, length-map s (rise den v (point_at s a)))))

  pub sums_whole : (made : List ℤ) (k : ℕ) → length s ≤ k → made ≡ take k (sums_over den v s a) → made ≡ sums_over den v s a
  sums_whole made k h e = e ∙ take_all k (sums_over den v s a) (omega (arith, h, length-map s (rise den v (point_at s a))))

  pub free_more : (k : ℕ) → ((c : ℕ) → c ≤ k → ¬ (IsTieAt den v s a b c)) → ¬ (IsTieAt den v s a b (k + 1)) → (c : ℕ) → c ≤ k + 1 → ¬ (IsTieAt den v s a b c)
  free_more k f n c h = elim (dec_le c k) [
    | yes l ↦ f c l
    | no m ↦ let e : k + 1 ≡ c = omega (arith, h, m) in subst (λ i. ¬ (IsTieAt den v s a b i)) e n
  ]

  pub free_none : ¬ (IsTieAt den v s a b 0)
  free_none t = let h = t.0.0 in omega (arith, h)

  pub free_whole : (k : ℕ) → length s ≤ k → ((c : ℕ) → c ≤ k → ¬ (IsTieAt den v s a b c)) → ¬ (IsFlatAt den v s a b)
  free_whole k h f t = let l = t.1.0.1 in f t.0 (omega (arith, h, l)) t.1

-- ---- support by support
sums_step : (den : ℤ) (v : List ℤ) (supports : List (List Point)) (cell : Cell) (k : ℕ) → k < length supports → k < length cell
    → sums den v (drop k supports) (drop k cell) ≡ sums_over den v (get_or supports k []) (get_or cell k (0, 0)).0 ∷ sums den v (drop (k + 1) supports) (drop (k + 1) cell)
sums_step den v supports cell k h i = rw (add-one, drop-cons supports k [], drop-cons cell k (0, 0)) refl

some_step : (supports : List (List Point)) (cell : Cell) (P : List Point → ℕ → ℕ → Type 0) (k : ℕ) → k < length supports → k < length cell
    → SomePair (drop k supports) (drop k cell) P ≡ (P (get_or supports k []) (get_or cell k (0, 0)).0 (get_or cell k (0, 0)).1 ⊎ SomePair (drop (k + 1) supports) (drop (k + 1) cell) P)
some_step supports cell P k h i = rw (add-one, drop-cons supports k [], drop-cons cell k (0, 0)) refl

module _ (den : ℤ) (v : List ℤ) (supports : List (List Point)) (cell : Cell) (k : ℕ) where
  pub all_more : (made : List (List ℤ)) (ws : List ℤ) → k < length supports → k < length cell → made ++ sums den v (drop k supports) (drop k cell) ≡ sums den v supports cell
      → ws ≡ sums_over den v (get_or supports k []) (get_or cell k (0, 0)).0
      → (made ++ ws ∷ []) ++ sums den v (drop (k + 1) supports) (drop (k + 1) cell) ≡ sums den v supports cell
  all_more made ws h i e is =
      append_assoc made (ws ∷ []) (sums den v (drop (k + 1) supports) (drop (k + 1) cell))
      ∙ ap (λ x. made ++ (x ∷ sums den v (drop (k + 1) supports) (drop (k + 1) cell))) is
      ∙ ap (λ xs. made ++ xs) (sym (sums_step den v supports cell k h i)) ∙ e

  pub all_whole : (made : List (List ℤ)) → length supports ≤ k → made ++ sums den v (drop k supports) (drop k cell) ≡ sums den v supports cell → made ≡ sums den v supports cell
  all_whole made h e = sym (append-nil made) ∙ (rw (drop_of_length-le supports h) at e)

  pub some_here : (P : List Point → ℕ → ℕ → Type 0) → k < length supports → k < length cell → (SomePair (drop k supports) (drop k cell) P → SomePair supports cell P)
      → P (get_or supports k []) (get_or cell k (0, 0)).0 (get_or cell k (0, 0)).1 → SomePair supports cell P
  some_here P h i f p = f (subst (λ T. T) (sym (some_step supports cell P k h i)) (inl p))

  pub some_later : (P : List Point → ℕ → ℕ → Type 0) → k < length supports → k < length cell → (SomePair supports cell P ↔ SomePair (drop k supports) (drop k cell) P)
      → ¬ (P (get_or supports k []) (get_or cell k (0, 0)).0 (get_or cell k (0, 0)).1) → SomePair supports cell P ↔ SomePair (drop (k + 1) supports) (drop (k + 1) cell) P
  some_later P h i f n = (
    (λ s. elim (subst (λ T. T) (some_step supports cell P k h i) (f.0 s)) [ inl p ↦ absurd (n p) | inr q ↦ q ]),
    (λ s. f.1 (subst (λ T. T) (sym (some_step supports cell P k h i)) (inr s))),
  )

  pub some_none : (P : List Point → ℕ → ℕ → Type 0) → length supports ≤ k → (SomePair supports cell P ↔ SomePair (drop k supports) (drop k cell) P) → ¬ (SomePair supports cell P)
  some_none P h f s = let r = f.0 s in (rw (drop_of_length-le supports h) at r)

-- ---- with ranks and without
rises_unranked : (den : ℤ) (v : List ℤ) (x : Point) (s : List Point) → map (rise den v (with_rank 0 x)) (unranked s) ≡ map (rise den v x) s
rises_unranked den v x [] = refl
rises_unranked den v x (y ∷ s) = ap (λ ws. rise den v x y ∷ ws) (rises_unranked den v x s)

over_unranked : (den : ℤ) (v : List ℤ) (s : List Point) (a : ℕ) → sums_over den v (unranked s) a ≡ sums_over den v s a
over_unranked den v s a = ap (λ x. map (rise den v x) (unranked s)) (point_unranked s a) ∙ rises_unranked den v (point_at s a) s

pub sums_unranked : (den : ℤ) (v : List ℤ) (supports : List (List Point)) (cell : Cell) → sums den v (map unranked supports) cell ≡ sums den v supports cell
sums_unranked den v [] cell = refl
sums_unranked den v (s ∷ supports) [] = refl
sums_unranked den v (s ∷ supports) (x ∷ cell) = ap₂ (λ ws rows. ws ∷ rows) (over_unranked den v s x.0) (sums_unranked den v supports cell)

flat_to : (den : ℤ) (v : List ℤ) (s : List Point) (a b : ℕ) → IsFlatAt den v s a b → IsFlatAt den v (unranked s) a b
flat_to den v s a b t = (
  t.0,
  (
    (t.1.0.0, subst (λ m. t.0 ≤ m) (sym (length-map s (with_rank 0))) t.1.0.1, t.1.0.2, t.1.0.3),
    ap₂ (rise den v) (point_unranked s a) (point_unranked s t.0) ∙ t.1.1,
  ),
)

flat_from : (den : ℤ) (v : List ℤ) (s : List Point) (a b : ℕ) → IsFlatAt den v (unranked s) a b → IsFlatAt den v s a b
flat_from den v s a b t = (
  t.0,
  (
    (t.1.0.0, subst (λ m. t.0 ≤ m) (length-map s (with_rank 0)) t.1.0.1, t.1.0.2, t.1.0.3),
    sym (ap₂ (rise den v) (point_unranked s a) (point_unranked s t.0)) ∙ t.1.1,
  ),
)

pub some_unranked : (den : ℤ) (v : List ℤ) (supports : List (List Point)) (cell : Cell) → SomePair supports cell (IsFlatAt den v) ↔ SomePair (map unranked supports) cell (IsFlatAt den v)
some_unranked den v [] cell = ((λ h. h), (λ h. h))
some_unranked den v (s ∷ supports) [] = ((λ h. h), (λ h. h))
some_unranked den v (s ∷ supports) (x ∷ cell) =
    let r = some_unranked den v supports cell in (
      (λ h. elim h [ inl p ↦ inl (flat_to den v s x.0 x.1 p) | inr q ↦ inr (r.0 q) ]),
      (λ h. elim h [ inl p ↦ inl (flat_from den v s x.0 x.1 p) | inr q ↦ inr (r.1 q) ]),
    )
