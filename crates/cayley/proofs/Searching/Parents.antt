-- precedes is decided, the parent of a cell is found, and there is one at most
use Rattle.std.proofs.Common.{◌≡◌, ◌≢◌, ◌⊎◌, ℕ, zero, suc, ◌<◌, List, [], ◌∷◌, length, arith, refl, sym, ap, ap₂, subst, inl, inr}
use Rattle.std.proofs.lemmas.Int.{ints}
use Rattle.std.proofs.Math.IntN.{◌*ℤ◌}
use native.Mathlib.Decide.{ℕ_discrete}
use Rattle.cayley.proofs.Order.Proportion.{either_in_proportion, zero_in_proportion}
use Rattle.cayley.proofs.OneCell.CellNormals.{a_normal}
use Rattle.cayley.proofs.Searching.Listing.{Has, Sorted, Listed, listed, all_cells, has-cell, compare_cells, less_trans}
use Rattle.cayley.proofs.Order.Times.{Same, same_sym}
use Rattle.cayley.proofs.Order.Lined.{further_cases, dec_zero, dec_positive, after_same, ahead_same, begins_earlier}
use Rattle.cayley.proofs.OneCell.Gaps.{gap_two, gap_same}
use Rattle.cayley.proofs.Life.Decisions.{dec_pairs, dec_just_after, dec_just_before, lined_cell, find_begins, begins_at_once, alive_before, alive_after}
use Rattle.int_vectors.specs.Vectors.{at}
use Rattle.cayley.specs.Problems.{Point, Problem, point_at, IsProblem}
use Rattle.cayley.specs.Times.{Time, IsBefore}
use Rattle.cayley.specs.Normals.{Normal, gap, IsNormal, NoneBelow}
use Rattle.cayley.specs.Cells.{Cell, IsOf, IsIndependent, IsFurther, IsLess}
use Rattle.cayley.specs.Mixed.{IsAlive}
use Rattle.cayley.specs.Lives.{BeginsAt}
use Rattle.cayley.specs.Parents.{ShareOne, DifferInOne, Precedes, IsParent}
use Rattle.cayley.proofs.Lists.Pairs.{pairs_map}

-- ---- cells
pub less_irrefl : (x : Cell) → ¬ (IsLess x x)
less_irrefl [] p = p
less_irrefl (a ∷ x) (inl p) = omega arith
less_irrefl (a ∷ x) (inr p) = elim p.1 [ inl q ↦ absurd (omega arith) | inr r ↦ less_irrefl x r.1 ]

pub less_apart : (x y : Cell) → IsLess x y → x ≢ y
less_apart x y p e = less_irrefl y (subst (λ z. IsLess z y) e p)

pub dec_same_cell : (x y : Cell) → Dec (x ≡ y)
dec_same_cell x y = elim (compare_cells x y) [
  | inl p ↦ no (λ e. less_apart x y p e)
  | inr q ↦ elim q [ inl e ↦ yes e | inr r ↦ no (λ e. less_apart y x r (sym e)) ]
]

dec_or : {A B : Type 0} → Dec A → Dec B → Dec (A ⊎ B)
dec_or (yes a) d = yes (inl a)
dec_or (no n) (yes b) = yes (inr b)
dec_or (no n) (no m) = no (λ h. elim h [ inl a ↦ n a | inr b ↦ m b ])

dec_and : {A B : Type 0} → Dec A → Dec B → Dec (A × B)
dec_and (no n) d = no (λ h. n h.0)
dec_and (yes a) (no m) = no (λ h. m h.1)
dec_and (yes a) (yes b) = yes (a, b)

dec_not : {A : Type 0} → Dec A → Dec (¬ A)
dec_not (yes a) = no (λ n. n a)
dec_not (no n) = yes n

dec_share : (x y : ℕ × ℕ) → Dec (ShareOne x y)
dec_share x y =
    dec_or (dec_and (ℕ_discrete x.0 y.0) (dec_not (ℕ_discrete x.1 y.1)))
    (dec_or (dec_and (ℕ_discrete x.1 y.1) (dec_not (ℕ_discrete x.0 y.0)))
    (dec_or (ℕ_discrete x.0 y.1) (ℕ_discrete x.1 y.0)))

dec_same_pair : (x y : ℕ × ℕ) → Dec (x ≡ y)
dec_same_pair x y = elim (ℕ_discrete x.0 y.0) [
  | no n ↦ no (λ e. n (ap (λ (z : ℕ × ℕ). z.0) e))
  | yes e ↦ elim (ℕ_discrete x.1 y.1) [ no n ↦ no (λ e. n (ap (λ (z : ℕ × ℕ). z.1) e)) | yes f ↦ yes (ap₂ (λ (i j : ℕ). (i, j)) e f) ]
]

pub dec_differ : (sigma tau : Cell) → Dec (DifferInOne sigma tau)
dec_differ [] tau = no (λ h. h)
dec_differ (x ∷ sigma) [] = no (λ h. h)
dec_differ (x ∷ sigma) (y ∷ tau) = dec_or (dec_and (dec_share x y) (dec_same_cell sigma tau)) (dec_and (dec_same_pair x y) (dec_differ sigma tau))

-- ---- normals with no point below
dec_below : (n : ℕ) (P : ℕ → Type 0) → ((c : ℕ) → Dec (P c)) → Dec ((c : ℕ) → c < n → P c)
dec_below zero P dec = yes (λ c lt. absurd (omega arith))
dec_below (suc n) P dec = elim (dec n) [
  | no m ↦ no (λ h. m (h n (omega arith)))
  | yes p ↦ elim (dec_below n P dec) [
    | no m ↦ no (λ h. m (λ c lt. h c (omega arith)))
    | yes q ↦ yes (λ c lt. elim (ℕ_discrete c n) [ yes e ↦ subst P (sym e) p | no m ↦ q c (omega arith) ])
  ]
]

dec_further : (s : List Point) (a b : ℕ) (P : ℕ → Type 0) → ((c : ℕ) → Dec (P c)) → Dec ((c : ℕ) → IsFurther s a b c → P c)
dec_further s a b P dec = elim (dec_below (suc (length s)) (λ c. IsFurther s a b c → P c) one) [
  | no m ↦ no (λ h. m (λ c lt f. h c f))
  | yes q ↦ yes (λ c f. q c (omega (arith, f.1)) f)
]
  where
    one : (c : ℕ) → Dec (IsFurther s a b c → P c)
    one c = further_cases s a b c
        (λ f. elim (dec c) [ yes p ↦ yes (λ g. p) | no n ↦ no (λ h. n (h f)) ])
        (λ n. yes (λ g. absurd (n g)))

pub dec_normal : (p : Problem) (cell : Cell) (t : Time) (v : Normal) → Dec (IsNormal p cell t v)
dec_normal p cell t v = dec_and (ℕ_discrete (length v.entries) p.dimension) (dec_pairs p.supports cell _ (λ s a b. dec_zero (gap t v (point_at s a) (point_at s b))))

pub dec_none_below : (p : Problem) (cell : Cell) (t : Time) (v : Normal) → Dec (NoneBelow p cell t v)
dec_none_below p cell t v = dec_pairs p.supports cell _ (λ s a b. dec_further s a b _ (λ c. dec_or (dec_positive (gap t v (point_at s a) (point_at s c))) (dec_zero (gap t v (point_at s a) (point_at s c)))))

abbrev pub Meets : Problem → Cell → Cell → Time → Normal → Type 0
Meets p sigma tau t v = IsNormal p sigma t v × IsNormal p tau t v × NoneBelow p sigma t v × NoneBelow p tau t v

-- from one normal of sigma to another
meets_two : (p : Problem) (sigma tau : Cell) → IsProblem p → IsOf p sigma → IsIndependent p sigma → (t : Time) (w v : Normal) → IsNormal p sigma t v → Meets p sigma tau t w → Meets p sigma tau t v
meets_two p sigma tau well of ind t w v iv h = (
  iv,
  (iv.0, pairs_map p.supports tau _ _ (λ s a b z. zero_in_proportion _ (gap t v (point_at s a) (point_at s b)) v.over w.over (λ i. let k = w.positive in omega (arith, ints, i, k)) (two (point_at s a) (point_at s b)) z) h.1.1),
  pairs_map p.supports sigma _ _ (λ s a b k c f. either_in_proportion _ (gap t v (point_at s a) (point_at s c)) v.over w.over v.positive w.positive (two (point_at s a) (point_at s c)) (k c f)) h.2,
  pairs_map p.supports tau _ _ (λ s a b k c f. either_in_proportion _ (gap t v (point_at s a) (point_at s c)) v.over w.over v.positive w.positive (two (point_at s a) (point_at s c)) (k c f)) h.3,
)
  where
    two : (a c : Point) (e : ℕ) → v.over *ℤ at (gap t w a c) e ≡ w.over *ℤ at (gap t v a c) e
    two a c e = gap_two p sigma well of ind t w v h.0 iv a c e

dec_meets : (p : Problem) (sigma tau : Cell) → IsProblem p → IsOf p sigma → IsIndependent p sigma → (t : Time) → Dec ((v : Normal) × IsNormal p sigma t v × IsNormal p tau t v × NoneBelow p sigma t v × NoneBelow p tau t v)
dec_meets p sigma tau well of ind t =
    let v = a_normal p sigma well of ind t in
    elim (dec_and (dec_normal p tau t v.0) (dec_and (dec_none_below p sigma t v.0) (dec_none_below p tau t v.0))) [
      | yes h ↦ yes (v.0, v.1, h.0, h.1.0, h.1.1)
      | no n ↦ no (λ h. let m = meets_two p sigma tau well of ind t h.0 v.0 v.1 (h.1, h.2, h.3, h.4) in n (m.1, (m.2, m.3)))
    ]

pub dec_precedes : (p : Problem) (sigma tau : Cell) (t : Time) → IsProblem p → Dec (Precedes p sigma tau t)
dec_precedes p sigma tau t well = elim (dec_just_before p sigma well t) [
  | no n ↦ no (λ h. n h.1)
  | yes before ↦
      let x = alive_before p sigma t before in
      elim (dec_and (dec_differ sigma tau) (dec_and (dec_just_after p tau well t) (dec_meets p sigma tau well x.1.0 x.1.1 t))) [
        | yes h ↦ yes (h.0, before, h.1.0, h.1.1)
        | no n ↦ no (λ h. n (h.0, (h.2, h.3)))
      ]
]

-- ---- a time doesn't depend on how it is written
pub precedes_same : (p : Problem) (sigma tau : Cell) (t u : Time) → Same t u → Precedes p sigma tau t → Precedes p sigma tau u
precedes_same p sigma tau t u s h = (
  h.0,
  ahead_same (IsAlive p sigma) t u s h.1,
  after_same (IsAlive p tau) t u s h.2,
  (h.3.0, normal sigma h.3.1, normal tau h.3.2, none sigma h.3.3, none tau h.3.4),
)
  where
    v : Normal
    v = h.3.0

    normal : (cell : Cell) → IsNormal p cell t v → IsNormal p cell u v
    normal cell n = (n.0, pairs_map p.supports cell _ _ (λ s a b z. zero_in_proportion _ (gap u v (point_at s a) (point_at s b)) u.over t.over (λ i. let k = t.positive in omega (arith, ints, i, k)) (gap_same t u same v (point_at s a) (point_at s b)) z) n.1)
      where
        same : Same t u
        same = s

    none : (cell : Cell) → NoneBelow p cell t v → NoneBelow p cell u v
    none cell n = pairs_map p.supports cell _ _ (λ k a b m c f. either_in_proportion _ (gap u v (point_at k a) (point_at k c)) u.over t.over u.positive t.positive (gap_same t u s v (point_at k a) (point_at k c)) (m c f)) n

-- ---- parents
pub one_parent : (p : Problem) (sigma rho tau : Cell) → IsProblem p → IsParent p sigma tau → IsParent p rho tau → sigma ≡ rho
one_parent p sigma rho tau well h k =
    let s = begins_at_once p tau well h.0 k.0 h.1 k.1 in
    elim (compare_cells sigma rho) [
      | inl l ↦ absurd (k.3 sigma (precedes_same p sigma tau h.0 k.0 s h.2) l)
      | inr q ↦ elim q [ inl e ↦ e | inr l ↦ absurd (h.3 rho (precedes_same p rho tau k.0 h.0 (same_sym h.0 k.0 s) k.2) l) ]
    ]

least : (P : Cell → Type 0) (cells : List Cell) → Listed P cells → ((c : Cell) → P c → Has c cells) → ((c : Cell) × P c × ((d : Cell) → P d → ¬ (IsLess d c))) ⊎ ((c : Cell) → ¬ (P c))
least P cells l all = from l.list l.sorted l.to (λ c q. l.from c (all c q) q)
  where
    from : (xs : List Cell) → Sorted xs → ((c : Cell) → Has c xs → P c) → ((c : Cell) → P c → Has c xs) → ((c : Cell) × P c × ((d : Cell) → P d → ¬ (IsLess d c))) ⊎ ((c : Cell) → ¬ (P c))
    from [] s to back = inr (λ c q. back c q)
    from (x ∷ xs) s to back = inl (
      x,
      to x (inl refl),
      λ d q m. elim (back d q) [
        | inl e ↦ less_apart d x m e
        | inr i ↦ less_irrefl x (less_trans x d x (s.0 d i) m)
      ],
    )

pub find_parent : (p : Problem) (tau : Cell) → IsProblem p → ((sigma : Cell) × IsParent p sigma tau) ⊎ ((sigma : Cell) → ¬ (IsParent p sigma tau))
find_parent p tau well = elim (find_begins p tau well) [
  | inr none ↦ inr (λ sigma h. none h.0 h.1)
  | inl b ↦ elim (least (λ c. Precedes p c tau b.0) (all_cells p.supports) (listed (λ c. Precedes p c tau b.0) (λ c. dec_precedes p c tau b.0 well) (all_cells p.supports)) (λ c h. has-cell p.supports c (alive_before p c b.0 h.1).1.0)) [
    | inl m ↦ inl (m.0, (b.0, b.1, m.1, m.2))
    | inr none ↦ inr (λ sigma h. none sigma (precedes_same p sigma tau h.0 b.0 (begins_at_once p tau well h.0 b.0 h.1 b.1) h.2))
  ]
]

-- where there is a predecessor there is a parent
pub parent_exists : (p : Problem) (sigma tau : Cell) → IsProblem p → (t : Time) → BeginsAt p tau t → Precedes p sigma tau t → (rho : Cell) × IsParent p rho tau
parent_exists p sigma tau well t b h =
    elim (least (λ c. Precedes p c tau t) (all_cells p.supports) (listed (λ c. Precedes p c tau t) (λ c. dec_precedes p c tau t well) (all_cells p.supports)) (λ c h. has-cell p.supports c (alive_before p c t h.1).1.0)) [
      | inl m ↦ (m.0, (t, b, m.1, m.2))
      | inr none ↦ absurd (none sigma h)
    ]

-- a parent begins earlier, or is alive at all early times and begins nowhere
pub parent_earlier : (p : Problem) (sigma tau : Cell) (s t : Time) → IsProblem p → IsParent p sigma tau → BeginsAt p tau t → BeginsAt p sigma s → IsBefore s t
parent_earlier p sigma tau s t well h b k =
    begins_earlier (IsAlive p sigma) (lined_cell p sigma well) t s (ahead_same (IsAlive p sigma) h.0 t (begins_at_once p tau well h.0 t h.1 b) h.2.1) k

pub parent_of : (p : Problem) (sigma tau : Cell) → IsParent p sigma tau → IsOf p sigma × IsOf p tau
parent_of p sigma tau h = ((alive_before p sigma h.0 h.2.1).1.0, (alive_after p tau h.0 h.2.2).1.0)
