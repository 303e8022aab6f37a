-- powers are 0 exactly at the pairs, and positive elsewhere
use Rattle.std.proofs.Common.{◌≡◌, ◌≢◌, ◌⊎◌, ℕ, ◌-◌, ◌<◌, ◌≤◌, ◌<ℤ◌, List, [], ◌∷◌, length, map, inl, inr, arith, refl, sym, ap, ap₂, subst, ◌∙◌}
use Rattle.std.proofs.lemmas.Int.{ints}
use Rattle.std.proofs.lemmas.List.{length-map, get_or-map}
use Rattle.std.proofs.Math.IntN.{ℤ, pos, ◌*ℤ◌}
use Rattle.int_vectors.specs.Vectors.{at, scale}
use Rattle.cayley.specs.Cells.{Cell, EachPair, IsFurther}
use Rattle.cayley.specs.Problems.{Point, Problem, origin, point_at}
use Rattle.cayley.specs.Resting.{rise}
use Rattle.listing_text.specs.declared.listing.ListedCell.{ListedCell}
use Rattle.homotopy_rows.specs.Points.{IsLevelPair}
use Rattle.homotopy_rows.specs.Powers.{Row, SideBySide, ArePowers, IsZeroAtPair, IsZeroAtPairs, sums_over, sums}
use Rattle.homotopy_rows.proofs.LeastScale.{divisor_positive}
use Rattle.homotopy_rows.proofs.Summing.{rise_self}
use native.Mathlib.Decide.{ℕ_discrete}
use Rattle.int_vectors.proofs.Entries.{length-scale, at-scale}
use Rattle.reduced_rows.proofs.Entries.{zero_factor, positive_factor}

-- of a support: the pair is level, and each further point rises
abbrev pub IsRising : ℤ → List ℤ → List Point → ℕ → ℕ → Type 0
IsRising den v s a b = ((1 ≤ a) × (a < b) × (b ≤ length s)) × IsLevelPair den v s a b × ((c : ℕ) → IsFurther s a b c → pos 0 <ℤ rise den v (point_at s a) (point_at s c))

module _ (den : ℤ) (v : List ℤ) (g : ℤ) (p : pos 0 <ℤ g) (s : List Point) (a b : ℕ) (ws : List ℤ) (e : scale g ws ≡ sums_over den v s a) (r : IsRising den v s a b) where
  long : length ws ≡ length s
  long = sym (length-scale g ws) ∙ ap length e ∙ length-map s (rise den v (point_at s a))

  power_is : (c : ℕ) → 1 ≤ c → c ≤ length ws → g *ℤ at ws (c - 1) ≡ rise den v (point_at s a) (point_at s c)
  power_is c l h =
      sym (at-scale g ws (c - 1)) ∙ ap (λ us. at us (c - 1)) e
      ∙ get_or-map (rise den v (point_at s a)) s (c - 1) origin (pos 0) (let n = long in omega (arith, l, h, n))

  of_pair : (c : ℕ) → (c ≡ a) ⊎ (c ≡ b) → rise den v (point_at s a) (point_at s c) ≡ pos 0
  of_pair c (inl i) = ap (λ k. rise den v (point_at s a) (point_at s k)) i ∙ rise_self den v (point_at s a)
  of_pair c (inr i) = ap (λ k. rise den v (point_at s a) (point_at s k)) i ∙ r.1

  rising : (c : ℕ) → 1 ≤ c → c ≤ length ws → c ≢ a → c ≢ b → pos 0 <ℤ at ws (c - 1)
  rising c l h na nb =
      positive_factor g (at ws (c - 1)) p
      (subst (λ z. pos 0 <ℤ z) (sym (power_is c l h)) (r.2 c (l, (let n = long in omega (arith, h, n)), na, nb)))

  where_zero : (c : ℕ) → 1 ≤ c → c ≤ length ws → at ws (c - 1) ≡ pos 0 → (c ≡ a) ⊎ (c ≡ b)
  where_zero c l h z = elim (ℕ_discrete c a) [
    | yes i ↦ inl i
    | no na ↦ elim (ℕ_discrete c b) [
      | yes i ↦ inr i
      | no nb ↦ absurd (let q = rising c l h na nb in omega (arith, ints, q, z))
    ]
  ]

  pub zero_at_pair : IsZeroAtPair (a, b) ws
  zero_at_pair c l h = (
    ((λ z. where_zero c l h z), (λ i. zero_factor g (at ws (c - 1)) p (power_is c l h ∙ of_pair c i))),
    rising c l h,
  )

head_of : {A : Type 0} (x y : A) (xs ys : List A) → x ∷ xs ≡ y ∷ ys → x ≡ y
head_of x y xs ys e = ap (head x) e
  where
    head : {A : Type 0} → A → List A → A
    head d [] = d
    head d (z ∷ zs) = z

tail_of : {A : Type 0} (x y : A) (xs ys : List A) → x ∷ xs ≡ y ∷ ys → xs ≡ ys
tail_of x y xs ys e = ap tail e
  where
    tail : {A : Type 0} → List A → List A
    tail [] = []
    tail (z ∷ zs) = zs

no_more : {A : Type 0} (y : A) (ys : List A) → [] ≡ y ∷ ys → ⊥
no_more y ys e = let n = ap length e in omega (arith, n)

all_zero : (den : ℤ) (v : List ℤ) (g : ℤ) → pos 0 <ℤ g → (supports : List (List Point)) (cell : Cell) (rows : List (List ℤ)) → map (scale g) rows ≡ sums den v supports cell
    → EachPair supports cell (IsRising den v) → SideBySide cell rows IsZeroAtPair
all_zero den v g p [] [] [] e r = tt
all_zero den v g p [] [] (ws ∷ rows) e r = no_more _ _ (sym e)
all_zero den v g p [] (x ∷ cell) rows e r = absurd r
all_zero den v g p (s ∷ supports) [] rows e r = absurd r
all_zero den v g p (s ∷ supports) (x ∷ cell) [] e r = no_more _ _ e
all_zero den v g p (s ∷ supports) (x ∷ cell) (ws ∷ rows) e r = (
  zero_at_pair den v g p s x.0 x.1 ws (head_of _ _ _ _ e) r.0,
  all_zero den v g p supports cell rows (tail_of _ _ _ _ e) r.1,
)

-- as many powers as points
lengths_scaled : (g : ℤ) (rows : List (List ℤ)) → map length (map (scale g) rows) ≡ map length rows
lengths_scaled g [] = refl
lengths_scaled g (ws ∷ rows) = ap₂ (λ n ns. n ∷ ns) (length-scale g ws) (lengths_scaled g rows)

lengths_summed : (den : ℤ) (v : List ℤ) (supports : List (List Point)) (cell : Cell) → EachPair supports cell (IsRising den v) → map length (sums den v supports cell) ≡ map length supports
lengths_summed den v [] [] r = refl
lengths_summed den v [] (x ∷ cell) r = absurd r
lengths_summed den v (s ∷ supports) [] r = absurd r
lengths_summed den v (s ∷ supports) (x ∷ cell) r = ap₂ (λ n ns. n ∷ ns) (length-map s (rise den v (point_at s x.0))) (lengths_summed den v supports cell r.1)

pub zero_at_pairs : (p : Problem) (x : ListedCell) (r : Row) → pos 0 <ℤ x.normal.den → ArePowers p x r → EachPair p.supports x.cell (IsRising x.normal.den x.normal.v) → IsZeroAtPairs p r
zero_at_pairs p x r h a e =
    let g = pos a.divisor in
    let q = divisor_positive a.divisor r.scale x.normal.den h a.whole in (
      sym (lengths_scaled g r.powers) ∙ ap (map length) a.each ∙ lengths_summed x.normal.den x.normal.v p.supports x.cell e,
      subst (λ (c : Cell). SideBySide c r.powers IsZeroAtPair) (sym a.same)
          (all_zero x.normal.den x.normal.v g (omega (arith, ints, q)) p.supports x.cell r.powers a.each e),
    )
