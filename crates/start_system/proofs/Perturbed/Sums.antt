-- a level point's dependency as a functional on positions
use Rattle.std.proofs.Common.{◌≡◌, ◌≢◌, ◌⊎◌, ℕ, zero, suc, ◌+◌, ◌<◌, ◌≤◌, List, [], ◌∷◌, length, arith, refl, sym, ap, ap₂, ◌∙◌, inl, inr}
use Rattle.std.proofs.lemmas.Int.{ints}
use Rattle.std.proofs.Math.IntN.{ℤ, pos, ◌+ℤ◌, ◌-ℤ◌, ◌*ℤ◌, *ℤ-zero, *ℤ_comm}
use native.Mathlib.Decide.{ℕ_discrete}
use Rattle.int_vectors.specs.Vectors.{weigh, IsZero, dot, at, add, sub, scale, comb, at_place}
use Rattle.cayley.specs.Times.{Time}
use Rattle.cayley.specs.Problems.{Point, Problem, IsProblem, point_at}
use Rattle.cayley.specs.Cells.{Cell, EachPair, IsOf, IsIndependent}
use Rattle.cayley.specs.Normals.{Normal, height, mark, gap, IsNormal}
use Rattle.cayley.specs.Dependencies.{pair_at, nth_support}
use Rattle.wide_int.proofs.Ring.{as_D, Ds, same_D}
use Rattle.wide_int.proofs.Order.{zero_product}
use Rattle.int_vectors.proofs.Entries.{at-scale, at-add, at-zero}
use Rattle.cayley.proofs.Algebra.ScaledInverse.{at-comb}
use Rattle.cayley.proofs.Algebra.RowNormals.{sum_is_gap}
use Rattle.cayley.proofs.OneCell.CellNormals.{rises, length-rises, normal_from, rows_independent, long_rows}
use Rattle.cayley.proofs.OneCell.CellLines.{a_dependency, ADependency, base_of, height-at}
use Rattle.cayley.proofs.OneCell.Neighbours.{dot-sub}
use Rattle.cayley.specs.Rows.{edges}
use Rattle.cayley.proofs.OneCell.OneDependency.{minus-at}
use Rattle.start_system.proofs.Perturbed.Ranks.{AtPlace}
use Rattle.start_system.proofs.Perturbed.Functionals.{Test, same_number, same_one, same_none, of_rank, coordinate, only_at, Functional}

-- ---- sums over a cell's pairs
abbrev sum_steps : List ℤ → ℕ → List (List Point) → Cell → Test → ℤ
sum_steps [] i supports cell phi = pos 0
sum_steps (b ∷ bs) i [] cell phi = pos 0
sum_steps (b ∷ bs) i (s ∷ supports) [] phi = pos 0
sum_steps (b ∷ bs) i (s ∷ supports) (x ∷ cell) phi = b *ℤ (phi i s x.1 -ℤ phi i s x.0) +ℤ sum_steps bs (suc i) supports cell phi

steps-lin : (bs : List ℤ) (i : ℕ) (supports : List (List Point)) (cell : Cell) (x y : ℤ) (phi psi : Test)
    → sum_steps bs i supports cell (λ i s c. x *ℤ phi i s c +ℤ y *ℤ psi i s c) ≡ x *ℤ sum_steps bs i supports cell phi +ℤ y *ℤ sum_steps bs i supports cell psi
steps-lin [] i supports cell x y phi psi = omega (arith, ints)
steps-lin (b ∷ bs) i [] cell x y phi psi = omega (arith, ints)
steps-lin (b ∷ bs) i (s ∷ supports) [] x y phi psi = omega (arith, ints)
steps-lin (b ∷ bs) i (s ∷ supports) (z ∷ cell) x y phi psi =
    rw (steps-lin bs (suc i) supports cell x y phi psi) (step b x y (phi i s z.1) (phi i s z.0) (psi i s z.1) (psi i s z.0) (sum_steps bs (suc i) supports cell phi) (sum_steps bs (suc i) supports cell psi))
  where
    step : (b x y f g h k u v : ℤ) → b *ℤ (x *ℤ f +ℤ y *ℤ h -ℤ (x *ℤ g +ℤ y *ℤ k)) +ℤ (x *ℤ u +ℤ y *ℤ v) ≡ x *ℤ (b *ℤ (f -ℤ g) +ℤ u) +ℤ y *ℤ (b *ℤ (h -ℤ k) +ℤ v)
    step b x y f g h k u v = rw (as_D b, as_D x, as_D y, as_D f, as_D g, as_D h, as_D k, as_D u, as_D v) (simp Ds (same_D _ _ _ _ (omega arith)))

steps-all : (bs : List ℤ) (i : ℕ) (supports : List (List Point)) (cell : Cell) (phi psi : Test) → ((i : ℕ) (s : List Point) (c : ℕ) → phi i s c ≡ psi i s c) → sum_steps bs i supports cell phi ≡ sum_steps bs i supports cell psi
steps-all [] i supports cell phi psi h = refl
steps-all (b ∷ bs) i [] cell phi psi h = refl
steps-all (b ∷ bs) i (s ∷ supports) [] phi psi h = refl
steps-all (b ∷ bs) i (s ∷ supports) (x ∷ cell) phi psi h = ap₂ (λ u v. b *ℤ u +ℤ v) (ap₂ ◌-ℤ◌ (h i s x.1) (h i s x.0)) (steps-all bs (suc i) supports cell phi psi h)

total_rank : List (List Point) → Cell → ℕ
total_rank [] cell = 0
total_rank (s ∷ supports) [] = 0
total_rank (s ∷ supports) (x ∷ cell) = (point_at s x.0).rank + ((point_at s x.1).rank + total_rank supports cell)

steps-same : (bs : List ℤ) (i r : ℕ) (supports : List (List Point)) (cell : Cell) (phi psi : Test) → EachPair supports cell (λ s a b. (1 ≤ a) × (a < b) × (b ≤ length s)) → total_rank supports cell ≤ r
    → ((k : ℕ) (s : List Point) (c : ℕ) → AtPlace supports k s c → (point_at s c).rank ≤ r → phi (i + k) s c ≡ psi (i + k) s c) → sum_steps bs i supports cell phi ≡ sum_steps bs i supports cell psi
unfolding total_rank
steps-same [] i r supports cell phi psi o l h = refl
steps-same (b ∷ bs) i r [] cell phi psi o l h = refl
steps-same (b ∷ bs) i r (s ∷ supports) [] phi psi o l h = refl
steps-same (b ∷ bs) i r (s ∷ supports) (x ∷ cell) phi psi o l h =
    let e : i + 0 ≡ i = omega arith in
    let p = o.0.0 in
    let q = o.0.1 in
    let u = o.0.2 in
    let now = λ (c : ℕ) (lc : 1 ≤ c) (mc : c ≤ length s) (rc : (point_at s c).rank ≤ r). ap (λ j. phi j s c) (sym e) ∙ h 0 s c (refl, lc, mc) rc ∙ ap (λ j. psi j s c) e in
    ap₂ (λ y z. b *ℤ y +ℤ z) (ap₂ ◌-ℤ◌ (now x.1 (omega (arith, p, q)) u (omega (arith, l))) (now x.0 p (omega (arith, q, u)) (omega (arith, l))))
    (steps-same bs (suc i) r supports cell phi psi o.1 (omega (arith, l)) (λ k t c a rc.
    let f : suc i + k ≡ i + suc k = omega arith in
    ap (λ j. phi j t c) f ∙ h (suc k) t c a rc ∙ ap (λ j. psi j t c) (sym f)))

steps-level : (bs : List ℤ) (i : ℕ) (supports : List (List Point)) (cell : Cell) (k : ℕ → List Point → ℤ) → sum_steps bs i supports cell (λ i s c. k i s) ≡ pos 0
steps-level [] i supports cell k = refl
steps-level (b ∷ bs) i [] cell k = refl
steps-level (b ∷ bs) i (s ∷ supports) [] k = refl
steps-level (b ∷ bs) i (s ∷ supports) (x ∷ cell) k =
    let r = steps-level bs (suc i) supports cell k in
    let z : b *ℤ (k i s -ℤ k i s) ≡ pos 0 = ap (λ w. b *ℤ w) (omega (arith, ints)) ∙ *ℤ-zero b in
    omega (arith, ints, r, z)

steps-dot : (bs : List ℤ) (i : ℕ) (supports : List (List Point)) (cell : Cell) (y : List ℤ) → weigh bs (edges supports cell) (λ r. dot r y) ≡ sum_steps bs i supports cell (coordinate y)
steps-dot [] i supports cell y = refl
steps-dot (b ∷ bs) i [] cell y = refl
steps-dot (b ∷ bs) i (s ∷ supports) [] y = refl
steps-dot (b ∷ bs) i (s ∷ supports) (x ∷ cell) y = ap₂ (λ u v. b *ℤ u +ℤ v) (dot-sub (point_at s x.1).coordinates (point_at s x.0).coordinates y) (steps-dot bs (suc i) supports cell y)

steps-rises : (bs : List ℤ) (i : ℕ) (t : Time) (supports : List (List Point)) (cell : Cell) (e : ℕ) → weigh bs (rises t supports cell) (λ h. at h e) ≡ sum_steps bs i supports cell (λ i s c. at (height t (point_at s c)) e)
steps-rises [] i t supports cell e = refl
steps-rises (b ∷ bs) i t [] cell e = refl
steps-rises (b ∷ bs) i t (s ∷ supports) [] e = refl
steps-rises (b ∷ bs) i t (s ∷ supports) (x ∷ cell) e = ap₂ (λ u v. b *ℤ u +ℤ v) (minus-at (height t (point_at s x.1)) (height t (point_at s x.0)) e) (steps-rises bs (suc i) t supports cell e)

-- the indicator of a position that isn't of the cell
steps-past : (bs : List ℤ) (i k d : ℕ) (supports : List (List Point)) (cell : Cell) → k < i → sum_steps bs i supports cell (only_at k d) ≡ pos 0
steps-past [] i k d supports cell l = refl
steps-past (b ∷ bs) i k d [] cell l = refl
steps-past (b ∷ bs) i k d (s ∷ supports) [] l = refl
steps-past (b ∷ bs) i k d (s ∷ supports) (x ∷ cell) l =
    let r = steps-past bs (suc i) k d supports cell (omega (arith, l)) in
    let n = same_none i k (λ e. omega (arith, e, l)) in
    let z : b *ℤ (only_at k d i s x.1 -ℤ only_at k d i s x.0) ≡ pos 0 =
    ap₂ (λ u v. b *ℤ (u *ℤ same_number x.1 d -ℤ v *ℤ same_number x.0 d)) n n ∙ ap (λ w. b *ℤ w) (omega (arith, ints)) ∙ *ℤ-zero b in
    omega (arith, ints, r, z)

steps-only : (bs : List ℤ) (i k d : ℕ) (supports : List (List Point)) (cell : Cell) → (d ≢ (pair_at cell k).0) × (d ≢ (pair_at cell k).1) → sum_steps bs i supports cell (only_at (i + k) d) ≡ pos 0
steps-only [] i k d supports cell h = refl
steps-only (b ∷ bs) i k d [] cell h = refl
steps-only (b ∷ bs) i k d (s ∷ supports) [] h = refl
steps-only (b ∷ bs) i zero d (s ∷ supports) (x ∷ cell) h =
    let r = steps-past bs (suc i) (i + 0) d supports cell (omega arith) in
    let m = same_none x.1 d (λ e. h.1 (sym e)) in
    let n = same_none x.0 d (λ e. h.0 (sym e)) in
    let q = same_number i (i + 0) in
    let zq = *ℤ-zero q in
    let z : b *ℤ (only_at (i + 0) d i s x.1 -ℤ only_at (i + 0) d i s x.0) ≡ pos 0 =
    ap₂ (λ u v. b *ℤ (q *ℤ u -ℤ q *ℤ v)) m n ∙ ap (λ w. b *ℤ w) (omega (arith, ints, zq)) ∙ *ℤ-zero b in
    omega (arith, ints, r, z)
steps-only (b ∷ bs) i (suc k) d (s ∷ supports) (x ∷ cell) h =
    let o : suc i + k ≡ i + suc k = omega arith in
    let r = ap (λ j. sum_steps bs (suc i) supports cell (only_at j d)) (sym o) ∙ steps-only bs (suc i) k d supports cell h in
    let n = same_none i (i + suc k) (λ e. omega (arith, e)) in
    let z : b *ℤ (only_at (i + suc k) d i s x.1 -ℤ only_at (i + suc k) d i s x.0) ≡ pos 0 =
    ap₂ (λ u v. b *ℤ (u *ℤ same_number x.1 d -ℤ v *ℤ same_number x.0 d)) n n ∙ ap (λ w. b *ℤ w) (omega (arith, ints)) ∙ *ℤ-zero b in
    omega (arith, ints, r, z)

-- ---- the sum of a cell and one of its further points
place_indicator : (r e : ℕ) → at (at_place r (pos 1)) e ≡ same_number r e
place_indicator zero zero = refl
place_indicator zero (suc e) = refl
place_indicator (suc r) zero = refl
place_indicator (suc r) (suc e) = place_indicator r e

-- past entry 0 a base is the indicator of the rank
base_indicator : (b : ℤ) (r e : ℕ) → at (add (b ∷ []) (mark (pos 1) r)) (suc e) ≡ same_number r (suc e)
base_indicator b zero e = refl
base_indicator b (suc r) e = place_indicator r e

abbrev pub base_entry : ℕ → Test
base_entry e = λ i s c. at (base_of (point_at s c)) e

abbrev pub speed_of : Test
speed_of = λ i s c. (point_at s c).speed

height_entry : (t : Time) (e : ℕ) (i : ℕ) (s : List Point) (c : ℕ) → at (height t (point_at s c)) e ≡ t.over *ℤ base_entry e i s c +ℤ at t.entries e *ℤ speed_of i s c
height_entry t e i s c = height-at t (point_at s c) e ∙ ap (λ x. t.over *ℤ at (base_of (point_at s c)) e +ℤ x) (*ℤ_comm (point_at s c).speed (at t.entries e))

module _ (p : Problem) (well : IsProblem p) (cell : Cell) (of : IsOf p cell) (ind : IsIndependent p cell) (j c : ℕ) where
  abbrev pub here : List Point
  here = nth_support p.supports j

  abbrev pub first_of : ℕ
  first_of = (pair_at cell j).0

  abbrev pub step_row : List ℤ
  step_row = sub (point_at here c).coordinates (point_at here first_of).coordinates

  unfoldable pub numbers : ADependency p.dimension (edges p.supports cell) step_row
  numbers = a_dependency p.dimension (edges p.supports cell) step_row (long_rows p cell well of ind) (rows_independent p cell well of ind)

  unfoldable pub T : Test → ℤ
  T phi = sum_steps numbers.bs 0 p.supports cell phi +ℤ numbers.g *ℤ (phi j here c -ℤ phi j here first_of)

  T-lin : (x y : ℤ) (phi psi : Test) → T (λ i s c. x *ℤ phi i s c +ℤ y *ℤ psi i s c) ≡ x *ℤ T phi +ℤ y *ℤ T psi
  unfolding T
  T-lin x y phi psi =
      rw (steps-lin numbers.bs 0 p.supports cell x y phi psi)
      (step x y numbers.g (sum_steps numbers.bs 0 p.supports cell phi) (sum_steps numbers.bs 0 p.supports cell psi) (phi j here c) (phi j here first_of) (psi j here c) (psi j here first_of))
    where
      step : (x y g u v f k h l : ℤ) → x *ℤ u +ℤ y *ℤ v +ℤ g *ℤ (x *ℤ f +ℤ y *ℤ h -ℤ (x *ℤ k +ℤ y *ℤ l)) ≡ x *ℤ (u +ℤ g *ℤ (f -ℤ k)) +ℤ y *ℤ (v +ℤ g *ℤ (h -ℤ l))
      step x y g u v f k h l = rw (as_D x, as_D y, as_D g, as_D u, as_D v, as_D f, as_D k, as_D h, as_D l) (simp Ds (same_D _ _ _ _ (omega arith)))

  T-all : (phi psi : Test) → ((i : ℕ) (s : List Point) (c : ℕ) → phi i s c ≡ psi i s c) → T phi ≡ T psi
  unfolding T
  T-all phi psi h = ap₂ (λ u w. u +ℤ numbers.g *ℤ w) (steps-all numbers.bs 0 p.supports cell phi psi h) (ap₂ ◌-ℤ◌ (h j here c) (h j here first_of))

  -- of a level point: each entry of the sum of the numbers times the heights is zero
  pub level_sum : (t : Time) (v : Normal) → IsNormal p cell t v → IsZero (gap t v (point_at here first_of) (point_at here c)) → (e : ℕ) → t.over *ℤ T (base_entry e) +ℤ at t.entries e *ℤ T speed_of ≡ pos 0
  unfolding T
  level_sum t v is z e =
      let a = point_at here first_of in
      let d = point_at here c in
      let H : Test = λ i s c. at (height t (point_at s c)) e in
      let S = add (comb numbers.bs (rises t p.supports cell)) (scale numbers.g (sub (height t d) (height t a))) in
      let q = sum_is_gap p.dimension (edges p.supports cell) (rises t p.supports cell) step_row (sub (height t d) (height t a)) numbers.bs numbers.g t.over v.over v.entries
      (length-rises t p.supports cell) is.0 numbers.is (normal_from t p.supports cell v is.1) e in
      let r : v.over *ℤ at S e ≡ pos 0 = sym (at-scale v.over S e) ∙ q ∙ at-scale numbers.g (gap t v a d) e ∙ ap (λ x. numbers.g *ℤ x) (at-zero (gap t v a d) e z) ∙ *ℤ-zero numbers.g in
      let pv = v.positive in
      let zero_sum : at S e ≡ pos 0 = elim (zero_product v.over (at S e) r) [ inl i ↦ absurd (omega (arith, ints, i, pv)) | inr i ↦ i ] in
      let total : at S e ≡ T H =
      at-add (comb numbers.bs (rises t p.supports cell)) (scale numbers.g (sub (height t d) (height t a))) e
      ∙ ap₂ ◌+ℤ◌ (at-comb numbers.bs (rises t p.supports cell) e ∙ steps-rises numbers.bs 0 t p.supports cell e) (at-scale numbers.g (sub (height t d) (height t a)) e ∙ ap (λ x. numbers.g *ℤ x) (minus-at (height t d) (height t a) e)) in
      sym (T-all H (λ i s c. t.over *ℤ base_entry e i s c +ℤ at t.entries e *ℤ speed_of i s c) (height_entry t e) ∙ T-lin t.over (at t.entries e) (base_entry e) speed_of) ∙ sym total ∙ zero_sum

  pub rank_base : (e : ℕ) → T (of_rank (suc e)) ≡ T (base_entry (suc e))
  unfolding base_of
  rank_base e = T-all (of_rank (suc e)) (base_entry (suc e)) (λ i s c. sym (base_indicator (point_at s c).base (point_at s c).rank e))

  module _ (in_c : AtPlace p.supports j here c) (in_first : AtPlace p.supports j here first_of) where
    pub T-functional : Functional p.supports p.dimension T
    unfolding T
    T-functional = record {
      lin = T-lin;
      bound = total_rank p.supports cell + ((point_at here c).rank + (point_at here first_of).rank);
      same = λ phi psi h. ap₂ (λ u w. u +ℤ numbers.g *ℤ w)
          (steps-same numbers.bs 0 (total_rank p.supports cell + ((point_at here c).rank + (point_at here first_of).rank)) p.supports cell phi psi of (omega arith)
          (λ k s d a l. let o : k ≡ 0 + k = omega arith in ap (λ i. phi i s d) (sym o) ∙ h k s d a l ∙ ap (λ i. psi i s d) o))
          (ap₂ ◌-ℤ◌ (h j here c in_c (omega arith)) (h j here first_of in_first (omega arith)));
      flat = λ y l.
          let e = numbers.is y l in
          let s = steps-dot numbers.bs 0 p.supports cell y in
          let d = ap (λ x. numbers.g *ℤ x) (dot-sub (point_at here c).coordinates (point_at here first_of).coordinates y) in
          omega (arith, ints, e, s, d);
      level = λ k.
          let s = steps-level numbers.bs 0 p.supports cell k in
          let z : numbers.g *ℤ (k j here -ℤ k j here) ≡ pos 0 = ap (λ w. numbers.g *ℤ w) (omega (arith, ints)) ∙ *ℤ-zero numbers.g in
          omega (arith, ints, s, z);
    }

  -- its own indicator, and that of another further point
  pub T-own : (c ≢ (pair_at cell j).0) × (c ≢ (pair_at cell j).1) → T (only_at j c) ≡ numbers.g
  unfolding T
  T-own h =
      let o : 0 + j ≡ j = omega arith in
      let s = ap (λ i. sum_steps numbers.bs 0 p.supports cell (only_at i c)) (sym o) ∙ steps-only numbers.bs 0 j c p.supports cell h in
      let f = ap₂ (λ x y. x *ℤ y) (same_one j j refl) (same_one c c refl) in
      let k = ap (λ y. same_number j j *ℤ y) (same_none first_of c (λ e. h.0 (sym e))) ∙ *ℤ-zero (same_number j j) in
      let z : numbers.g *ℤ (only_at j c j here c -ℤ only_at j c j here first_of) ≡ numbers.g = ap₂ (λ x y. numbers.g *ℤ (x -ℤ y)) f k ∙ omega (arith, ints) in
      omega (arith, ints, s, z)

  pub T-other : (i d : ℕ) → (d ≢ (pair_at cell i).0) × (d ≢ (pair_at cell i).1) → (j ≢ i) ⊎ (c ≢ d) → T (only_at i d) ≡ pos 0
  unfolding T
  T-other i d h apart =
      let o : 0 + i ≡ i = omega arith in
      let s = ap (λ k. sum_steps numbers.bs 0 p.supports cell (only_at k d)) (sym o) ∙ steps-only numbers.bs 0 i d p.supports cell h in
      let z : numbers.g *ℤ (only_at i d j here c -ℤ only_at i d j here first_of) ≡ pos 0 = ap₂ (λ x y. numbers.g *ℤ (x -ℤ y)) (at_c apart) at_first ∙ *ℤ-zero numbers.g in
      omega (arith, ints, s, z)
    where
      at_c : (j ≢ i) ⊎ (c ≢ d) → only_at i d j here c ≡ pos 0
      at_c (inl n) = ap (λ x. x *ℤ same_number c d) (same_none j i n) ∙ omega (arith, ints)
      at_c (inr n) = ap (λ x. same_number j i *ℤ x) (same_none c d n) ∙ *ℤ-zero (same_number j i)

      at_first : only_at i d j here first_of ≡ pos 0
      at_first = elim (ℕ_discrete j i) [
        | no n ↦ ap (λ x. x *ℤ same_number first_of d) (same_none j i n) ∙ omega (arith, ints)
        | yes e ↦ ap (λ x. same_number j i *ℤ x) (same_none first_of d (λ f. h.0 (sym f ∙ ap (λ k. (pair_at cell k).0) e))) ∙ *ℤ-zero (same_number j i)
      ]
