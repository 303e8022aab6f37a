-- at time zero, over heights of rank 0, a gap is one number
use Rattle.std.proofs.Common.{◌≡◌, ◌↔◌, ◌⊎◌, inl, inr, ℕ, List, [], ◌∷◌, ◌++◌, length, map, arith, refl, sym, ap, ap₂, subst, ◌∙◌, ◌<ℤ◌}
use Rattle.std.proofs.lemmas.Int.{ints}
use Rattle.std.proofs.Math.IntN.{ℤ, pos, ◌+ℤ◌, ◌-ℤ◌, ◌*ℤ◌, neg_ℤ, *ℤ_comm}
use Rattle.int_vectors.specs.Vectors.{IsZero, IsPositive, add, sub, scale, dot, comb, IsOrthogonal}
use Rattle.cayley.specs.Times.{time_zero}
use Rattle.cayley.specs.Problems.{Point, point_at}
use Rattle.cayley.specs.Cells.{Cell, EachPair}
use Rattle.cayley.specs.Rows.{edge_rows_from}
use Rattle.cayley.specs.Normals.{height, gap}
use Rattle.cayley.specs.Resting.{normal_over, rise}
use Rattle.cayley.proofs.OneCell.CellRows.{HaveLength, InRange, pairs_orthogonal}
use Rattle.cayley.proofs.Lists.Pairs.{pairs_map}

-- a list of numbers as a list of values
abbrev pub values : List ℤ → List (List ℤ)
values ps = map (λ x. x ∷ []) ps

comb-values : (cs ps : List ℤ) → ((comb cs (values ps) ≡ []) × (dot cs ps ≡ pos 0)) ⊎ (comb cs (values ps) ≡ dot cs ps ∷ [])
comb-values [] ps = inl (refl, refl)
comb-values (c ∷ cs) [] = inl (refl, refl)
comb-values (c ∷ cs) (p ∷ ps) = elim (comb-values cs ps) [
  | inl e ↦ inr (ap (λ l. add ((c *ℤ p) ∷ []) l) e.0 ∙ ap (λ z. z ∷ []) (let z = e.1 in omega (arith, ints)))
  | inr e ↦ inr (ap (λ l. add ((c *ℤ p) ∷ []) l) e)
]

sum-values : (cs ps : List ℤ) (h : ℤ) → add (scale (pos 1) (comb cs (values ps))) (h ∷ []) ≡ (dot cs ps +ℤ h) ∷ []
sum-values cs ps h = elim (comb-values cs ps) [
  | inl e ↦ ap (λ l. add (scale (pos 1) l) (h ∷ [])) e.0 ∙ ap (λ z. z ∷ []) (let z = e.1 in omega (arith, ints))
  | inr e ↦ ap (λ l. add (scale (pos 1) l) (h ∷ [])) e ∙ ap (λ z. z ∷ []) (omega (arith, ints))
]

pub height-zero : (x : Point) → x.rank ≡ 0 → height time_zero x ≡ (pos 1 *ℤ x.base) ∷ []
height-zero x r = rw r refl

pub gap_is : (ps : List ℤ) (den : ℤ) (h : pos 0 <ℤ den) (a c : Point) → a.rank ≡ 0 → c.rank ≡ 0
    → gap time_zero (normal_over ps den h) a c ≡ rise den ps a c ∷ []
gap_is ps den h a c ra rc =
    ap₂ (λ x y. add (scale (pos 1) (comb (sub c.coordinates a.coordinates) (values ps))) (scale den (sub x y))) (height-zero c rc) (height-zero a ra)
    ∙ sum-values (sub c.coordinates a.coordinates) ps (den *ℤ (pos 1 *ℤ c.base +ℤ neg_ℤ (pos 1) *ℤ (pos 1 *ℤ a.base)))
    ∙ ap (λ z. z ∷ []) (step den (dot (sub c.coordinates a.coordinates) ps) a.base c.base)
  where
    minus : (a c : ℤ) → pos 1 *ℤ c +ℤ neg_ℤ (pos 1) *ℤ (pos 1 *ℤ a) ≡ c -ℤ a
    minus a c = omega (arith, ints)

    step : (d s a c : ℤ) → s +ℤ d *ℤ (pos 1 *ℤ c +ℤ neg_ℤ (pos 1) *ℤ (pos 1 *ℤ a)) ≡ d *ℤ (c -ℤ a) +ℤ s
    step d s a c = rw (minus a c) (omega (arith, ints))

pub positive_gap : (ps : List ℤ) (den : ℤ) (h : pos 0 <ℤ den) (a c : Point) → a.rank ≡ 0 → c.rank ≡ 0
    → IsPositive (gap time_zero (normal_over ps den h) a c) ↔ (pos 0 <ℤ rise den ps a c)
positive_gap ps den h a c ra rc =
    let e = gap_is ps den h a c ra rc in (
      (λ p. elim (subst IsPositive e p) [ inl q ↦ q | inr q ↦ absurd q.1 ]),
      (λ q. subst IsPositive (sym e) (inl q)),
    )

pub zero_gap : (ps : List ℤ) (den : ℤ) (h : pos 0 <ℤ den) (a c : Point) → a.rank ≡ 0 → c.rank ≡ 0
    → rise den ps a c ≡ pos 0 → IsZero (gap time_zero (normal_over ps den h) a c)
zero_gap ps den h a c ra rc z = subst IsZero (sym (gap_is ps den h a c ra rc)) (z, tt)

-- a solution of a cell's rows makes both points of each pair equal
pub level_from : (n i : ℕ) (supports : List (List Point)) (cell : Cell) (ps : List ℤ) (den : ℤ) → length ps ≡ n → HaveLength n supports → EachPair supports cell InRange
    → IsOrthogonal (edge_rows_from n i supports cell) (ps ++ (den ∷ [])) → EachPair supports cell (λ s a b. rise den ps (point_at s a) (point_at s b) ≡ pos 0)
level_from n i supports cell ps den l well of e =
    pairs_map supports cell _ _ (λ s a b h. turned (dot (sub (point_at s b).coordinates (point_at s a).coordinates) ps) ((point_at s b).base -ℤ (point_at s a).base) den h)
    (pairs_orthogonal n i supports cell ps (den ∷ []) l (omega arith) well of e)
  where
    turned : (s x d : ℤ) → s +ℤ (x *ℤ d +ℤ pos 0) ≡ pos 0 → d *ℤ x +ℤ s ≡ pos 0
    turned s x d z = let c = *ℤ_comm d x in omega (arith, ints, c, z)
