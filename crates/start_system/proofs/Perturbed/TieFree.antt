-- in version 2 no two further points are level at one time, and none at two times
use Rattle.std.proofs.Common.{◌≡◌, ◌≢◌, ◌⊎◌, ℕ, zero, suc, ◌+◌, ◌-◌, ◌<◌, ◌≤◌, List, [], ◌∷◌, length, arith, refl, sym, ap, ap₂, subst, ◌∙◌, inl, inr, ◌<ℤ◌}
use Rattle.std.proofs.lemmas.Int.{ints}
use Rattle.std.proofs.Math.IntN.{ℤ, pos, ◌+ℤ◌, ◌-ℤ◌, ◌*ℤ◌, neg_ℤ, *ℤ-zero, ℤ_discrete}
use native.Mathlib.Decide.{ℕ_discrete}
use Rattle.int_vectors.specs.Vectors.{IsZero, at, scale}
use Rattle.cayley.specs.Times.{Time, IsBefore}
use Rattle.cayley.specs.Problems.{version2, Point, Problem, IsProblem, point_at, numbered_supports, ranked_supports}
use Rattle.cayley.specs.Cells.{Cell, IsOf, IsIndependent}
use Rattle.cayley.specs.Normals.{Normal, IsNormal}
use Rattle.cayley.specs.Dependencies.{pair_at, nth_support}
use Rattle.cayley.specs.Ties.{IsLevelAt, IsTieFree}
use Rattle.wide_int.proofs.Ring.{as_D, Ds, same_D}
use Rattle.wide_int.proofs.Order.{zero_product}
use Rattle.int_vectors.proofs.Entries.{at-scale, at-add, zero_from, not_zero}
use Rattle.cayley.proofs.Order.Lines.{later}
use Rattle.cayley.proofs.Order.Times.{same_sym}
use Rattle.cayley.proofs.Flipping.Places.{further_bound, place_of}
use Rattle.cayley.proofs.Lists.Pairs.{pairs_long}
use Rattle.start_system.proofs.Path.Shape.{Shapes}
use Rattle.start_system.proofs.Path.Forms.{HasForm, form_well, longs_count}
use Rattle.start_system.proofs.Perturbed.Ranks.{InAt, AtPlace, ranks_apart, rank_start}
use Rattle.start_system.proofs.Perturbed.Functionals.{Test, of_rank, only_at, Functional}
use Rattle.start_system.proofs.Perturbed.Indicators.{only_zero}
use Rattle.start_system.proofs.Perturbed.Sums.{base_entry, speed_of, numbers, T, level_sum, rank_base, T-functional, T-own, T-other}

-- ---- no tie
abbrev Apart : List (List Point) → Type 0
Apart supports = (k m : ℕ) (s t : List Point) (c d : ℕ) → AtPlace supports k s c → AtPlace supports m t d → (point_at s c).rank ≢ 0 → (point_at s c).rank ≡ (point_at t d).rank → (k ≡ m) × (s ≡ t) × (c ≡ d)

abbrev Starts : ℕ → List (List Point) → Type 0
Starts n supports = (k : ℕ) (s : List Point) (c : ℕ) → AtPlace supports k s c → (point_at s c).rank ≡ 0 → (c ≡ length s - n) ⊎ (c ≡ (length s - n) + suc k)

in_at : (supports : List (List Point)) (j : ℕ) → j < length supports → InAt supports j (nth_support supports j)
in_at [] j l = absurd (omega arith)
in_at (s ∷ supports) zero l = refl
in_at (s ∷ supports) (suc j) l = in_at supports j (omega arith)

module _ (p : Problem) (well : IsProblem p) (shapes : Shapes p.dimension 0 p.supports) (apart : Apart p.supports) (starts : Starts p.dimension p.supports) (cell : Cell) (of : IsOf p cell) (ind : IsIndependent p cell) where
  level_bound : (t : Time) (v : Normal) (j c : ℕ) → IsLevelAt p cell t v j c → suc j ≤ length cell
  level_bound t v j c l = further_bound p.supports cell j c (pairs_long p.supports cell _ of) l.0

  level_in : (t : Time) (v : Normal) (j c : ℕ) → IsLevelAt p cell t v j c → InAt p.supports j (nth_support p.supports j)
  level_in t v j c l = in_at p.supports j (let b = level_bound t v j c l in let e = pairs_long p.supports cell _ of in omega (arith, b, e))

  level_c : (t : Time) (v : Normal) (j c : ℕ) → IsLevelAt p cell t v j c → AtPlace p.supports j (nth_support p.supports j) c
  level_c t v j c l = (level_in t v j c l, l.0.0, l.0.1)

  level_first : (t : Time) (v : Normal) (j c : ℕ) → IsLevelAt p cell t v j c → AtPlace p.supports j (nth_support p.supports j) (pair_at cell j).0
  level_first t v j c l =
      let h = place_of (λ s a b. (1 ≤ a) × (a < b) × (b ≤ length s)) p.supports cell of j (level_bound t v j c l) in
      (level_in t v j c l, h.0, (let x = h.1 in let y = h.2 in omega (arith, x, y)))

  S : (j c : ℕ) → Test → ℤ
  S j c = T p well cell of ind j c

  sums : (t : Time) (v : Normal) (j c : ℕ) → IsNormal p cell t v → IsLevelAt p cell t v j c → (e : ℕ) → t.over *ℤ S j c (base_entry e) +ℤ at t.entries e *ℤ S j c speed_of ≡ pos 0
  unfolding S
  sums t v j c is l e = level_sum p well cell of ind j c t v is l.1 e

  S-functional : (t : Time) (v : Normal) (j c : ℕ) → IsLevelAt p cell t v j c → Functional p.supports p.dimension (S j c)
  unfolding S
  S-functional t v j c l = T-functional p well cell of ind j c (level_c t v j c l) (level_first t v j c l)

  S-rank : (j c e : ℕ) → S j c (of_rank (suc e)) ≡ S j c (base_entry (suc e))
  unfolding S
  S-rank j c e = rank_base p well cell of ind j c e

  g_of : (j c : ℕ) → ℤ
  g_of j c = (numbers p well cell of ind j c).g

  g_positive : (j c : ℕ) → pos 0 <ℤ g_of j c
  unfolding g_of
  g_positive j c = (numbers p well cell of ind j c).positive

  S-own : (t : Time) (v : Normal) (j c : ℕ) → IsLevelAt p cell t v j c → S j c (only_at j c) ≡ g_of j c
  unfolding S g_of
  S-own t v j c l = T-own p well cell of ind j c (l.0.2, l.0.3)

  S-other : (t : Time) (v : Normal) (j c i d : ℕ) → IsLevelAt p cell t v i d → (j ≢ i) ⊎ (c ≢ d) → S j c (only_at i d) ≡ pos 0
  unfolding S
  S-other t v j c i d l n = T-other p well cell of ind j c i d (l.0.2, l.0.3) n

  -- a level point whose sum of speeds isn't zero only
  moving : (t : Time) (v : Normal) (j c : ℕ) → IsNormal p cell t v → IsLevelAt p cell t v j c → S j c speed_of ≡ pos 0 → ⊥
  moving t v j c is l z =
      let ranks : (e : ℕ) → S j c (of_rank (suc e)) ≡ pos 0 = λ e.
      (let a = sums t v j c is l (suc e) in
      let b = ap (λ x. at t.entries (suc e) *ℤ x) z ∙ *ℤ-zero (at t.entries (suc e)) in
      let o = t.positive in
      let q : t.over *ℤ S j c (base_entry (suc e)) ≡ pos 0 = omega (arith, ints, a, b) in
      S-rank j c e ∙ elim (zero_product t.over (S j c (base_entry (suc e))) q) [ inl i ↦ absurd (omega (arith, ints, i, o)) | inr i ↦ i ]) in
      let f = only_zero p.supports p.dimension (S j c) (S-functional t v j c l) ranks apart shapes well.supports starts j (nth_support p.supports j) c (level_c t v j c l) in
      let g = S-own t v j c l in
      let h = g_positive j c in
      omega (arith, ints, f, g, h)

  not_twice : (t u : Time) (v w : Normal) (j c : ℕ) → IsNormal p cell t v → IsNormal p cell u w → IsLevelAt p cell t v j c → IsLevelAt p cell u w j c → IsBefore t u ⊎ IsBefore u t → ⊥
  not_twice t u v w j c iv iw l k before = elim (ℤ_discrete (S j c speed_of) (pos 0)) [
    | yes z ↦ moving t v j c iv l z
    | no n ↦ apart_times before (zero_from (later t u) (λ e.
        let a = sums t v j c iv l e in
        let b = sums u w j c iw k e in
        let r = ring t.over u.over (S j c (base_entry e)) (S j c speed_of) (at t.entries e) (at u.entries e) in
        let ra = ap (λ x. t.over *ℤ x) b ∙ *ℤ-zero t.over in
        let rb = ap (λ x. u.over *ℤ x) a ∙ *ℤ-zero u.over in
        let x = at-add (scale t.over u.entries) (scale (neg_ℤ u.over) t.entries) e ∙ ap₂ ◌+ℤ◌ (at-scale t.over u.entries e) (at-scale (neg_ℤ u.over) t.entries e) in
        let q : S j c speed_of *ℤ (t.over *ℤ at u.entries e +ℤ neg_ℤ u.over *ℤ at t.entries e) ≡ pos 0 = omega (arith, ints, r, ra, rb) in
        x ∙ elim (zero_product (S j c speed_of) _ q) [ inl i ↦ absurd (n i) | inr i ↦ i ]))
  ]
    where
      ring : (q r a b x y : ℤ) → b *ℤ (q *ℤ y +ℤ neg_ℤ r *ℤ x) ≡ q *ℤ (r *ℤ a +ℤ y *ℤ b) -ℤ r *ℤ (q *ℤ a +ℤ x *ℤ b)
      ring q r a b x y = rw (as_D q, as_D r, as_D a, as_D b, as_D x, as_D y) (simp Ds (same_D _ _ _ _ (omega arith)))

      apart_times : IsBefore t u ⊎ IsBefore u t → IsZero (later t u) → ⊥
      apart_times (inl h) z = not_zero (later t u) h z
      apart_times (inr h) z = not_zero (later u t) h (same_sym t u z)

  -- two level points: a combination of their sums has no speed
  mix : (j c k d : ℕ) → Test → ℤ
  mix j c k d phi = S k d speed_of *ℤ S j c phi +ℤ neg_ℤ (S j c speed_of) *ℤ S k d phi

  mix_functional : (t : Time) (v : Normal) (j c k d : ℕ) → IsLevelAt p cell t v j c → IsLevelAt p cell t v k d → Functional p.supports p.dimension (mix j c k d)
  unfolding mix
  mix_functional t v j c k d l m =
      let f = S-functional t v j c l in
      let g = S-functional t v k d m in
      let x = S k d speed_of in
      let y = neg_ℤ (S j c speed_of) in
      record {
        lin = λ a b phi psi. ap₂ (λ u w. x *ℤ u +ℤ y *ℤ w) (f.lin a b phi psi) (g.lin a b phi psi) ∙ ring x y a b (S j c phi) (S j c psi) (S k d phi) (S k d psi);
        bound = f.bound + g.bound;
        same = λ phi psi h. ap₂ (λ u w. x *ℤ u +ℤ y *ℤ w) (f.same phi psi (λ i s e a b. h i s e a (omega (arith, b)))) (g.same phi psi (λ i s e a b. h i s e a (omega (arith, b))));
        flat = λ z e. ap₂ (λ u w. x *ℤ u +ℤ y *ℤ w) (f.flat z e) (g.flat z e) ∙ nil x y;
        level = λ z. ap₂ (λ u w. x *ℤ u +ℤ y *ℤ w) (f.level z) (g.level z) ∙ nil x y;
      }
    where
      ring : (x y a b f g h k : ℤ) → x *ℤ (a *ℤ f +ℤ b *ℤ g) +ℤ y *ℤ (a *ℤ h +ℤ b *ℤ k) ≡ a *ℤ (x *ℤ f +ℤ y *ℤ h) +ℤ b *ℤ (x *ℤ g +ℤ y *ℤ k)
      ring x y a b f g h k = rw (as_D x, as_D y, as_D a, as_D b, as_D f, as_D g, as_D h, as_D k) (simp Ds (same_D _ _ _ _ (omega arith)))

      nil : (x y : ℤ) → x *ℤ pos 0 +ℤ y *ℤ pos 0 ≡ pos 0
      nil x y = let a = *ℤ-zero x in let b = *ℤ-zero y in omega (arith, ints, a, b)

  not_two : (t : Time) (v : Normal) (j c k d : ℕ) → IsNormal p cell t v → IsLevelAt p cell t v j c → IsLevelAt p cell t v k d → (j ≢ k) ⊎ (c ≢ d) → ⊥
  unfolding mix
  not_two t v j c k d is l m n =
      let ranks : (e : ℕ) → mix j c k d (of_rank (suc e)) ≡ pos 0 = λ e.
      (let a = sums t v j c is l (suc e) in
      let b = sums t v k d is m (suc e) in
      let o = t.positive in
      let r = ring t.over (at t.entries (suc e)) (S j c (base_entry (suc e))) (S k d (base_entry (suc e))) (S j c speed_of) (S k d speed_of) in
      let ra = ap (λ x. S k d speed_of *ℤ x) a ∙ *ℤ-zero (S k d speed_of) in
      let rb = ap (λ x. S j c speed_of *ℤ x) b ∙ *ℤ-zero (S j c speed_of) in
      let q : t.over *ℤ (S k d speed_of *ℤ S j c (base_entry (suc e)) +ℤ neg_ℤ (S j c speed_of) *ℤ S k d (base_entry (suc e))) ≡ pos 0 = omega (arith, ints, r, ra, rb) in
      ap₂ (λ u w. S k d speed_of *ℤ u +ℤ neg_ℤ (S j c speed_of) *ℤ w) (S-rank j c e) (S-rank k d e)
      ∙ elim (zero_product t.over _ q) [ inl i ↦ absurd (omega (arith, ints, i, o)) | inr i ↦ i ]) in
      let f = only_zero p.supports p.dimension (mix j c k d) (mix_functional t v j c k d l m) ranks apart shapes well.supports starts j (nth_support p.supports j) c (level_c t v j c l) in
      let g = ap (λ x. S k d speed_of *ℤ x) (S-own t v j c l) in
      let h = ap (λ x. neg_ℤ (S j c speed_of) *ℤ x) (S-other t v k d j c l (turned_round n)) ∙ *ℤ-zero (neg_ℤ (S j c speed_of)) in
      let gp = g_positive j c in
      let z : S k d speed_of *ℤ g_of j c ≡ pos 0 = omega (arith, ints, f, g, h) in
      elim (zero_product (S k d speed_of) (g_of j c) z) [ inl i ↦ moving t v k d is m i | inr i ↦ omega (arith, ints, i, gp) ]
    where
      ring : (q x a b s r : ℤ) → q *ℤ (r *ℤ a +ℤ neg_ℤ s *ℤ b) ≡ r *ℤ (q *ℤ a +ℤ x *ℤ s) -ℤ s *ℤ (q *ℤ b +ℤ x *ℤ r)
      ring q x a b s r = rw (as_D q, as_D x, as_D a, as_D b, as_D s, as_D r) (simp Ds (same_D _ _ _ _ (omega arith)))

      turned_round : (j ≢ k) ⊎ (c ≢ d) → (k ≢ j) ⊎ (d ≢ c)
      turned_round (inl h) = inl (λ e. h (sym e))
      turned_round (inr h) = inr (λ e. h (sym e))

-- ---- version 2
no_tie : (p : Problem) → IsProblem p → Shapes p.dimension 0 p.supports → Apart p.supports → Starts p.dimension p.supports → IsTieFree p
no_tie p well shapes apart starts cell t v h = elim h.4 [
  | inl q ↦ not_two p well shapes apart starts cell h.0 h.1 t v q.0 q.1 q.2 q.3 h.2 q.5 q.6 (other q.0 q.1 q.2 q.3 q.4)
  | inr q ↦ not_twice p well shapes apart starts cell h.0 h.1 t q.2 v q.3 q.0 q.1 h.2 q.5 q.6 q.7 q.4
]
  where
    other : (j c k d : ℕ) → ¬ ((j ≡ k) × (c ≡ d)) → (j ≢ k) ⊎ (c ≢ d)
    other j c k d n = elim (ℕ_discrete j k) [ no a ↦ inl a | yes e ↦ inr (λ f. n (e, f)) ]

-- a problem of a path's form and of version 2 is tie free
pub version2_tie_free : (p : Problem) → HasForm p → p.version ≡ version2 → IsTieFree p
version2_tie_free p w e =
    let n = p.dimension in
    let is : p.supports ≡ numbered_supports 1 1 p.files w.plain = w.ranks ∙ ap (λ v. ranked_supports v p.files w.plain) e in
    let count : length w.plain ≡ n = longs_count n 0 p.files w.plain w.longs ∙ sym (longs_count n 0 p.files p.supports w.long) ∙ w.supports in
    no_tie p (form_well p w) w.shapes
    (subst Apart (sym is) (ranks_apart n 0 1 p.files w.plain w.longs (omega (arith, count))))
    (subst (Starts n) (sym is) (λ k s c a z.
    let o : 0 + k ≡ k = omega arith in
    subst (λ i. (c ≡ length s - n) ⊎ (c ≡ (length s - n) + suc i)) o (rank_start n 0 1 p.files w.plain w.longs (omega arith) k s c a z)))
