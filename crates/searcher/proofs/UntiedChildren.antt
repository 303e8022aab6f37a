-- a child isn't tied where it begins, if its parent isn't tied where it ends
use Rattle.std.proofs.Common.{◌≡◌, ◌≢◌, ◌⊎◌, inl, inr, ℕ, zero, suc, List, [], ◌∷◌, arith, refl, sym, ap, subst, ◌∙◌}
use Rattle.std.proofs.lemmas.Int.{ints}
use native.Mathlib.Decide.{ℕ_discrete}
use Rattle.cayley.specs.Times.{Time}
use Rattle.cayley.specs.Problems.{Point, Problem, IsProblem, point_at}
use Rattle.cayley.specs.Cells.{Cell, EachPair, IsOf, IsIndependent, IsFurther}
use Rattle.cayley.specs.Dependencies.{pair_at, nth_support}
use Rattle.cayley.specs.Flips.{lesser, greater}
use Rattle.cayley.specs.Normals.{Normal, IsNormal, IsLevel, gap}
use Rattle.cayley.specs.Parents.{ShareOne, DifferInOne, IsParent}
use Rattle.cayley.specs.Ties.{IsLevelAt, TwoLevel}
use Rattle.cayley.proofs.Flipping.FlipNeighbours.{NewPoint, new_point, Flat}
use Rattle.cayley.proofs.OneCell.Neighbours.{level_pair, level_back}
use Rattle.cayley.proofs.Life.Decisions.{alive_after, alive_before}
use Rattle.cayley.proofs.Life.Exits.{precedes_ends}
use Rattle.cayley.proofs.Life.LifeLaws.{once_law}
use Rattle.cayley.proofs.OneCell.Gaps.{gap_two}
use Rattle.cayley.proofs.Order.Proportion.{zero_in_proportion}
use Rattle.cayley.proofs.Searching.Parents.{precedes_same}
use Rattle.cayley.proofs.Lists.Pairs.{pairs_together}
use Rattle.cayley.proofs.OneCell.CellRows.{InRange}
use Rattle.searcher.specs.Ends.{IsTiedAtBegin, IsTiedAtEnd}

-- the point c of support j is further and level
abbrev LevelIn : List (List Point) → Cell → Time → Normal → ℕ → ℕ → Type 0
LevelIn supports cell t v j c = IsFurther (nth_support supports j) (pair_at cell j).0 (pair_at cell j).1 c × IsLevel t v (nth_support supports j) (pair_at cell j).0 c

-- one of two positions is the new one
rising_has : (a f : ℕ) → (f ≡ lesser a f) ⊎ (f ≡ greater a f)
rising_has zero f = inr refl
rising_has (suc a) zero = inl refl
rising_has (suc a) (suc f) = elim (rising_has a f) [ inl e ↦ inl (ap suc e) | inr e ↦ inr (ap suc e) ]

has_new : (t : Time) (v : Normal) (s : List Point) (a b : ℕ) (y : ℕ × ℕ) (q : NewPoint t v s a b y) → (q.f ≡ y.0) ⊎ (q.f ≡ y.1)
has_new t v s a b y q = elim q.pair_is [
  | inl e ↦ subst (λ (z : ℕ × ℕ). (q.f ≡ z.0) ⊎ (q.f ≡ z.1)) (sym e) (rising_has a q.f)
  | inr e ↦ subst (λ (z : ℕ × ℕ). (q.f ≡ z.0) ⊎ (q.f ≡ z.1)) (sym e) (rising_has b q.f)
]

-- the point of x that isn't of y, for a further point of y that is level
record OldPoint (t : Time) (v : Normal) (s : List Point) (x y : ℕ × ℕ) : Type 0 where
  o : ℕ
  kept : (d : ℕ) → IsFurther s y.0 y.1 d → IsLevel t v s y.0 d → (d ≢ o) → IsFurther s x.0 x.1 d × IsLevel t v s x.0 d

module _ (t : Time) (v : Normal) (s : List Point) (x y : ℕ × ℕ) (lx : IsLevel t v s x.0 x.1) (ly : IsLevel t v s y.0 y.1) where
  from_second : (d : ℕ) → IsLevel t v s y.0 d → IsLevel t v s y.1 d
  from_second d l = level_pair t v (point_at s y.0) (point_at s y.1) (point_at s d) ly l

  to_first : (d : ℕ) → IsLevel t v s x.1 d → IsLevel t v s x.0 d
  to_first d l = level_pair t v (point_at s x.1) (point_at s x.0) (point_at s d) (level_back t v (point_at s x.0) (point_at s x.1) lx) l

  old_point : ShareOne x y → OldPoint t v s x y
  old_point (inl h) = record {
    o = x.1;
    kept = λ d f l n. ((f.0, f.1, (λ e. f.2 (e ∙ h.0)), n), subst (λ i. IsLevel t v s i d) (sym h.0) l);
  }
  old_point (inr (inl h)) = record {
    o = x.0;
    kept = λ d f l n. ((f.0, f.1, n, (λ e. f.3 (e ∙ h.0))), to_first d (subst (λ i. IsLevel t v s i d) (sym h.0) (from_second d l)));
  }
  old_point (inr (inr (inl h))) = record {
    o = x.1;
    kept = λ d f l n. ((f.0, f.1, (λ e. f.3 (e ∙ h)), n), subst (λ i. IsLevel t v s i d) (sym h) (from_second d l));
  }
  old_point (inr (inr (inr h))) = record {
    o = x.0;
    kept = λ d f l n. ((f.0, f.1, n, (λ e. f.2 (e ∙ h))), to_first d (subst (λ i. IsLevel t v s i d) (sym h) l));
  }

-- what a level point of tau is for sigma, where one pair of them differs
record Across (supports : List (List Point)) (sigma tau : Cell) (t : Time) (v : Normal) : Type 0 where
  k : ℕ
  f : ℕ
  o : ℕ
  new : LevelIn supports sigma t v k f
  there : (f ≡ (pair_at tau k).0) ⊎ (f ≡ (pair_at tau k).1)
  others : (i d : ℕ) → LevelIn supports tau t v i d → LevelIn supports sigma t v i d ⊎ ((i ≡ k) × (d ≡ o))

across : (t : Time) (v : Normal) (supports : List (List Point)) (sigma tau : Cell) → EachPair supports sigma (Flat t v) → EachPair supports tau (Flat t v) → DifferInOne sigma tau → Across supports sigma tau t v
across t v [] [] tau e g d = absurd d
across t v [] (x ∷ sigma) tau e g d = absurd e
across t v (s ∷ supports) [] tau e g d = absurd e
across t v (s ∷ supports) (x ∷ sigma) [] e g d = absurd d
across t v (s ∷ supports) (x ∷ sigma) (y ∷ tau) e g (inl d) =
    let q = new_point t v s x.0 x.1 y.0 y.1 e.0.0 e.0.1 g.0.0 g.0.1 d.0 in
    let w = old_point t v s x y e.0.1 g.0.1 d.0 in
    record { k = 0; f = q.f; o = w.o; new = (q.further, q.level); there = has_new t v s x.0 x.1 y q; others = by_place w }
  where
    by_place : (w : OldPoint t v s x y) (i c : ℕ) → LevelIn (s ∷ supports) (y ∷ tau) t v i c → LevelIn (s ∷ supports) (x ∷ sigma) t v i c ⊎ ((i ≡ 0) × (c ≡ w.o))
    by_place w zero c h = elim (ℕ_discrete c w.o) [
      | yes m ↦ inr (refl, m)
      | no m ↦ inl (w.kept c h.0 h.1 m)
    ]
    by_place w (suc i) c h = inl (subst (λ z. LevelIn supports z t v i c) (sym d.1) h)
across t v (s ∷ supports) (x ∷ sigma) (y ∷ tau) e g (inr d) =
    let q = across t v supports sigma tau e.1 g.1 d.1 in
    record { k = suc q.k; f = q.f; o = q.o; new = q.new; there = q.there; others = by_place q }
  where
    by_place : (q : Across supports sigma tau t v) (i c : ℕ) → LevelIn (s ∷ supports) (y ∷ tau) t v i c → LevelIn (s ∷ supports) (x ∷ sigma) t v i c ⊎ ((i ≡ suc q.k) × (c ≡ q.o))
    by_place q zero c h = inl (subst (λ (z : ℕ × ℕ). IsFurther s z.0 z.1 c × IsLevel t v s z.0 c) (sym d.0) h)
    by_place q (suc i) c h = elim (q.others i c h) [ inl l ↦ inl l | inr m ↦ inr (ap suc m.0, m.1) ]

-- two level points of the one are two of the other
two_across : (p : Problem) (sigma tau : Cell) (t : Time) (v : Normal) → Across p.supports sigma tau t v → TwoLevel p tau t v → TwoLevel p sigma t v
two_across p sigma tau t v a h = elim (a.others h.0 h.1 h.5) [
  | inl l ↦ with_new h.0 h.1 h.5 l
  | inr m ↦ elim (a.others h.2 h.3 h.6) [
    | inl l ↦ with_new h.2 h.3 h.6 l
    | inr n ↦ absurd (h.4 (m.0 ∙ sym n.0, m.1 ∙ sym n.1))
  ]
]
  where
    apart : (i d : ℕ) → IsLevelAt p tau t v i d → ¬ ((i ≡ a.k) × (d ≡ a.f))
    apart i d l e = elim a.there [
      | inl m ↦ l.0.2 (e.1 ∙ m ∙ ap (λ z. (pair_at tau z).0) (sym e.0))
      | inr m ↦ l.0.3 (e.1 ∙ m ∙ ap (λ z. (pair_at tau z).1) (sym e.0))
    ]

    with_new : (i d : ℕ) → IsLevelAt p tau t v i d → IsLevelAt p sigma t v i d → TwoLevel p sigma t v
    with_new i d l s = (i, d, a.k, a.f, apart i d l, s, a.new)

module _ (p : Problem) (sigma tau : Cell) (well : IsProblem p) where
  -- what is level under one normal of the cell is level under each
  level_by : IsOf p tau → IsIndependent p tau → (t : Time) (v w : Normal) → IsNormal p tau t v → IsNormal p tau t w → (j c : ℕ) → IsLevelAt p tau t v j c → IsLevelAt p tau t w j c
  level_by of ind t v w nv nw j c h =
      let a = point_at (nth_support p.supports j) (pair_at tau j).0 in
      let x = point_at (nth_support p.supports j) c in
      let h0 = v.positive in
      (h.0, zero_in_proportion (gap t v a x) (gap t w a x) w.over v.over (λ z. omega (arith, ints, z, h0)) (gap_two p tau well of ind t v w nv nw a x) h.1)

  pub untied_child : IsParent p sigma tau → ¬ (IsTiedAtEnd p sigma) → ¬ (IsTiedAtBegin p tau)
  untied_child q n h =
      let t = h.0 in
      let same = (once_law p tau well).0 q.0 t q.1 h.1 in
      let m = precedes_same p sigma tau q.0 t same q.2 in
      let a = (alive_before p sigma t m.1).1 in
      let b = (alive_after p tau t m.2).1 in
      let v = h.2.0 in
      let w = m.3.0 in
      let two = h.2.2 in
      let moved : TwoLevel p tau t w = (two.0, two.1, two.2, two.3, two.4, level_by b.0 b.1 t v w h.2.1 m.3.2 two.0 two.1 two.5, level_by b.0 b.1 t v w h.2.1 m.3.2 two.2 two.3 two.6) in
      n (
        t,
        precedes_ends p sigma tau t well m,
        (
          w,
          m.3.1,
          two_across p sigma tau t w
              (across t w p.supports sigma tau (pairs_together p.supports sigma InRange (IsLevel t w) a.0 m.3.1.1) (pairs_together p.supports tau InRange (IsLevel t w) b.0 m.3.2.1) m.0) moved,
        ),
      )
