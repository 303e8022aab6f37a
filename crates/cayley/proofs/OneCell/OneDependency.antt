-- one dependency, in the words of its definition
use Rattle.std.specs.Prelude.{slice_index_or}
use Rattle.std.proofs.Common.{◌<ℤ◌, ◌≡◌, ℕ, zero, suc, ◌≤◌, ◌-◌, List, [], ◌∷◌, length, arith, refl, sym, ap, ap₂, ◌∙◌}
use Rattle.std.proofs.lemmas.Int.{ints}
use Rattle.std.proofs.Math.IntN.{ℤ, pos, ◌+ℤ◌, ◌-ℤ◌, ◌*ℤ◌, neg_ℤ, *ℤ-zero}
use Rattle.wide_int.proofs.Ring.{as_D, Ds, same_D}
use Rattle.cayley.proofs.Order.Lexicographic.{minus_one}
use Rattle.cayley.proofs.Order.Proportion.{in_proportion, zero_in_proportion}
use Rattle.cayley.proofs.Algebra.ScaledInverse.{dot-zero}
use Rattle.cayley.proofs.Algebra.RowDependencies.{IsDependency, multiple}
use Rattle.cayley.proofs.OneCell.CellNormals.{long-edges, rows_independent, long_rows}
use Rattle.cayley.proofs.OneCell.CellLines.{a_dependency}
use Rattle.cayley.proofs.OneCell.Neighbours.{potential, gap-potential, dot-sub}
use Rattle.cayley.proofs.Flipping.CellNumbers.{total-lin, total-nothing, total-same, against, pair_row}
use Rattle.cayley.proofs.Flipping.Places.{further_bound}
use Rattle.int_vectors.specs.Vectors.{weigh, IsZero, Each, scale, add, sub, dot, at, zeros, entries_at}
use Rattle.int_vectors.proofs.Entries.{at-scale, at-add, length-zeros, at-zero}
use Rattle.cayley.specs.Problems.{Point, origin, Problem, point_at, IsProblem}
use Rattle.cayley.specs.Times.{Time}
use Rattle.cayley.specs.Normals.{Normal, height, gap, IsNormal}
use Rattle.cayley.specs.Cells.{Cell, EachPair, IsOf, IsIndependent}
use Rattle.cayley.specs.Dependencies.{Numbers, SumsAreZero, total, IsDependencyWith, number_at, pair_at, IsPositiveDependency, sum_of_heights, sum_at, minus, IsMultiple, nth_support}
use Rattle.cayley.specs.Laws.{Sides, OneDependency}
use Rattle.cayley.specs.Rows.{edges}
use Rattle.cayley.proofs.Algebra.Dependence.{length-map}
use Rattle.cayley.proofs.Lists.Pairs.{pairs_map, pairs_long}
use Rattle.cayley.proofs.OneCell.CellRows.{InRange}

-- ---- the sign
total-two : (ms : List (ℤ × ℤ)) (supports : List (List Point)) (cell : Cell) (a b : ℤ) (f g : Point → ℤ) → total ms supports cell (λ q. a *ℤ f q +ℤ b *ℤ g q) ≡ a *ℤ total ms supports cell f +ℤ b *ℤ total ms supports cell g
total-two ms supports cell a b f g =
    total-lin ms supports cell a f (λ q. b *ℤ g q)
    ∙ ap (λ x. a *ℤ total ms supports cell f +ℤ x) (total-same ms supports cell (λ q. b *ℤ g q) (λ q. b *ℤ g q +ℤ pos 0) (λ q. plain (b *ℤ g q)) ∙ total-lin ms supports cell b g (λ q. pos 0)
    ∙ ap (λ x. b *ℤ total ms supports cell g +ℤ x) (total-nothing ms supports cell) ∙ sym (plain (b *ℤ total ms supports cell g)))
  where
    plain : (x : ℤ) → x ≡ x +ℤ pos 0
    plain x = omega (arith, ints)

heights-at : (t : Time) (ms : List (ℤ × ℤ)) (supports : List (List Point)) (cell : Cell) (e : ℕ) → at (sum_of_heights t ms supports cell) e ≡ total ms supports cell (λ q. at (height t q) e)
heights-at t [] supports cell e = refl
heights-at t (m ∷ ms) [] cell e = refl
heights-at t (m ∷ ms) (s ∷ supports) [] e = refl
heights-at t (m ∷ ms) (s ∷ supports) (x ∷ cell) e =
    at-add (add (scale m.0 (height t (point_at s x.0))) (scale m.1 (height t (point_at s x.1)))) (sum_of_heights t ms supports cell) e
    ∙ ap₂ ◌+ℤ◌ (at-add (scale m.0 (height t (point_at s x.0))) (scale m.1 (height t (point_at s x.1))) e ∙ ap₂ ◌+ℤ◌ (at-scale m.0 (height t (point_at s x.0)) e) (at-scale m.1 (height t (point_at s x.1)) e)) (heights-at t ms supports cell e)

-- the same value at both points of each pair
total_even : (ms : List (ℤ × ℤ)) (supports : List (List Point)) (cell : Cell) (j : ℕ) (f : Point → ℤ) → SumsAreZero ms j (pos 0) → EachPair supports cell (λ s a b. f (point_at s b) ≡ f (point_at s a)) → total ms supports cell f ≡ pos 0
total_even [] supports cell j f z e = refl
total_even (m ∷ ms) [] cell j f z e = refl
total_even (m ∷ ms) (s ∷ supports) [] j f z e = refl
total_even (m ∷ ms) (s ∷ supports) (x ∷ cell) zero f z e =
    rw (total_even ms supports cell zero f z.1 e.1, e.0) (step m.0 m.1 (f (point_at s x.0)) (let h = z.0 in omega (arith, ints, h)))
  where
    cancel : (b x : ℤ) → neg_ℤ b *ℤ x ≡ neg_ℤ (b *ℤ x)
    cancel b x = rw (as_D b, as_D x) (simp Ds (same_D _ _ _ _ (omega arith)))

    step : (a b x : ℤ) → a ≡ neg_ℤ b → a *ℤ x +ℤ b *ℤ x +ℤ pos 0 ≡ pos 0
    step a b x h = let r = cancel b x in rw h (omega (arith, ints, r))
total_even (m ∷ ms) (s ∷ supports) (x ∷ cell) (suc j) f z e =
    rw (total_even ms supports cell j f z.1 e.1, e.0) (step m.0 m.1 (f (point_at s x.0)) (let h = z.0 in omega (arith, ints, h)))
  where
    cancel : (b x : ℤ) → neg_ℤ b *ℤ x ≡ neg_ℤ (b *ℤ x)
    cancel b x = rw (as_D b, as_D x) (simp Ds (same_D _ _ _ _ (omega arith)))

    step : (a b x : ℤ) → a ≡ neg_ℤ b → a *ℤ x +ℤ b *ℤ x +ℤ pos 0 ≡ pos 0
    step a b x h = let r = cancel b x in rw h (omega (arith, ints, r))

total_level : (ms : List (ℤ × ℤ)) (supports : List (List Point)) (cell : Cell) (j : ℕ) (g : ℤ) (f : Point → ℤ) → length ms ≡ length cell → length supports ≡ length cell → suc j ≤ length cell → SumsAreZero ms j g
    → EachPair supports cell (λ s a b. f (point_at s b) ≡ f (point_at s a)) → total ms supports cell f ≡ neg_ℤ g *ℤ f (point_at (nth_support supports j) (pair_at cell j).0)
total_level ms supports [] j g f l n i z e = absurd (omega (arith, i))
total_level [] supports (x ∷ cell) j g f l n i z e = absurd (omega (arith, l))
total_level (m ∷ ms) [] (x ∷ cell) j g f l n i z e = absurd (omega (arith, n))
total_level (m ∷ ms) (s ∷ supports) (x ∷ cell) zero g f l n i z e =
    rw (total_even ms supports cell zero f z.1 e.1, e.0) (step m.0 m.1 g (f (point_at s x.0)) (let h = z.0 in omega (arith, ints, h)))
  where
    ring : (b g x : ℤ) → neg_ℤ (b +ℤ g) *ℤ x +ℤ b *ℤ x ≡ neg_ℤ g *ℤ x
    ring b g x = rw (as_D b, as_D g, as_D x) (simp Ds (same_D _ _ _ _ (omega arith)))

    step : (a b g x : ℤ) → a ≡ neg_ℤ (b +ℤ g) → a *ℤ x +ℤ b *ℤ x +ℤ pos 0 ≡ neg_ℤ g *ℤ x
    step a b g x h = let r = ring b g x in rw h (omega (arith, ints, r))
total_level (m ∷ ms) (s ∷ supports) (x ∷ cell) (suc j) g f l n i z e =
    rw (total_level ms supports cell j g f (omega (arith, l)) (omega (arith, n)) (omega (arith, i)) z.1 e.1, e.0) (step m.0 m.1 (f (point_at s x.0)) (neg_ℤ g *ℤ f (point_at (nth_support supports j) (pair_at cell j).0)) (let h = z.0 in omega (arith, ints, h)))
  where
    cancel : (b x : ℤ) → neg_ℤ b *ℤ x ≡ neg_ℤ (b *ℤ x)
    cancel b x = rw (as_D b, as_D x) (simp Ds (same_D _ _ _ _ (omega arith)))

    step : (a b x s : ℤ) → a ≡ neg_ℤ b → a *ℤ x +ℤ b *ℤ x +ℤ s ≡ s
    step a b x s h = let r = cancel b x in rw h (omega (arith, ints, r))

-- the sum is in proportion to the gap
pub sum_gap : (p : Problem) (cell : Cell) (j c : ℕ) (numbers : Numbers) → suc j ≤ length cell → length numbers.pairs ≡ length cell → IsDependencyWith p cell j (point_at (nth_support p.supports j) c) numbers
    → (t : Time) (v : Normal) → IsNormal p cell t v → (e : ℕ)
    → v.over *ℤ at (sum_at t numbers p cell (point_at (nth_support p.supports j) c)) e ≡ numbers.last *ℤ at (gap t v (point_at (nth_support p.supports j) (pair_at cell j).0) (point_at (nth_support p.supports j) c)) e
unfolding potential
sum_gap p cell j c numbers bound long d t v is e =
    let g = numbers.last in
    let ms = numbers.pairs in
    let q = point_at (nth_support p.supports j) c in
    let a = point_at (nth_support p.supports j) (pair_at cell j).0 in
    let w = entries_at e v.entries in
    let even = pairs_map p.supports cell (λ s a b. IsZero (gap t v (point_at s a) (point_at s b))) (λ s a b. potential t v (point_at s b) e ≡ potential t v (point_at s a) e) (λ s a b z. let h = sym (gap-potential t v (point_at s a) (point_at s b) e) ∙ at-zero (gap t v (point_at s a) (point_at s b)) e z in omega (arith, ints, h)) is.1 in
    let one = total_level ms p.supports cell j g (λ r. potential t v r e) long (pairs_long p.supports cell _ is.1) bound d.1 even in
    let two = total-two ms p.supports cell t.over v.over (λ r. dot r.coordinates w) (λ r. at (height t r) e) in
    let three = against ms p.supports cell g q d.2 p.dimension w (length-map (λ u. at u e) v.entries ∙ is.0) in
    ap (λ x. v.over *ℤ x) (at-add (sum_of_heights t ms p.supports cell) (scale g (height t q)) e ∙ ap₂ ◌+ℤ◌ (heights-at t ms p.supports cell e) (at-scale g (height t q) e))
    ∙ step t.over v.over g (total ms p.supports cell (λ r. dot r.coordinates w)) (total ms p.supports cell (λ r. at (height t r) e)) (dot q.coordinates w) (at (height t q) e) (potential t v a e) three (sym two ∙ one)
    ∙ ap (λ x. g *ℤ x) (sym (gap-potential t v a q e))
  where
    ring : (T V l D H d h : ℤ) → V *ℤ (H +ℤ l *ℤ h) +ℤ T *ℤ (D +ℤ l *ℤ d) ≡ (T *ℤ D +ℤ V *ℤ H) +ℤ l *ℤ (T *ℤ d +ℤ V *ℤ h)
    ring T V l D H d h = rw (as_D T, as_D V, as_D l, as_D D, as_D H, as_D d, as_D h) (simp Ds (same_D _ _ _ _ (omega arith)))

    ring2 : (l a b : ℤ) → neg_ℤ l *ℤ a +ℤ l *ℤ b ≡ l *ℤ (b -ℤ a)
    ring2 l a b = rw (as_D l, as_D a, as_D b) (simp Ds (same_D _ _ _ _ (omega arith)))

    step : (T V l D H d h a : ℤ) → D +ℤ l *ℤ d ≡ pos 0 → T *ℤ D +ℤ V *ℤ H ≡ neg_ℤ l *ℤ a → V *ℤ (H +ℤ l *ℤ h) ≡ l *ℤ (T *ℤ d +ℤ V *ℤ h -ℤ a)
    step T V l D H d h a e f =
        let r = ring T V l D H d h in
        let s = ring2 l a (T *ℤ d +ℤ V *ℤ h) in
        let z : T *ℤ (D +ℤ l *ℤ d) ≡ pos 0 = rw e (*ℤ-zero T) in
        omega (arith, ints, r, s, z, f)

pub sides : (p : Problem) (cell : Cell) (j c : ℕ) (numbers : Numbers) → suc j ≤ length cell → IsPositiveDependency p cell j c numbers → (t : Time) (v : Normal) → IsNormal p cell t v → Sides p cell j c numbers t v
sides p cell j c numbers bound d t v is =
    let S = sum_at t numbers p cell (point_at (nth_support p.supports j) c) in
    let G = gap t v (point_at (nth_support p.supports j) (pair_at cell j).0) (point_at (nth_support p.supports j) c) in
    let e = sum_gap p cell j c numbers bound d.1.0 d.1.1 t v is in
    let pv = v.positive in
    let pg = d.0 in
    let m = λ (i : ℕ). turned v.over numbers.last S G i (e i) in
    record {
      above = (in_proportion S G v.over numbers.last pv pg e, in_proportion G S numbers.last v.over pg pv (λ i. sym (e i)));
      level = (zero_in_proportion S G v.over numbers.last (λ z. omega (arith, ints, z, pg)) e, zero_in_proportion G S numbers.last v.over (λ z. omega (arith, ints, z, pv)) (λ i. sym (e i)));
      below = (in_proportion (minus S) (minus G) v.over numbers.last pv pg m, in_proportion (minus G) (minus S) numbers.last v.over pg pv (λ i. sym (m i)));
    }
  where
    ring : (m k x : ℤ) → k *ℤ (m *ℤ x) ≡ m *ℤ (k *ℤ x)
    ring m k x = rw (as_D m, as_D k, as_D x) (simp Ds (same_D _ _ _ _ (omega arith)))

    turned : (k l : ℤ) (S G : List ℤ) (i : ℕ) → k *ℤ at S i ≡ l *ℤ at G i → k *ℤ at (minus S) i ≡ l *ℤ at (minus G) i
    turned k l S G i e =
        ap (λ x. k *ℤ x) (at-scale (neg_ℤ (pos 1)) S i) ∙ ring (neg_ℤ (pos 1)) k (at S i) ∙ ap (λ x. neg_ℤ (pos 1) *ℤ x) e ∙ sym (ring (neg_ℤ (pos 1)) l (at G i)) ∙ ap (λ x. l *ℤ x) (sym (at-scale (neg_ℤ (pos 1)) G i))

-- ---- a dependency from one over the rows
abbrev pub head_of : List ℤ → ℤ
head_of [] = pos 0
head_of (b ∷ bs) = b

abbrev pub tail_of : List ℤ → List ℤ
tail_of [] = []
tail_of (b ∷ bs) = bs

abbrev pub even_pairs : List ℤ → Cell → List (ℤ × ℤ)
even_pairs bs [] = []
even_pairs bs (x ∷ cell) = (neg_ℤ (head_of bs), head_of bs) ∷ even_pairs (tail_of bs) cell

abbrev pub pairs_from : List ℤ → ℕ → ℤ → Cell → List (ℤ × ℤ)
pairs_from bs j g [] = []
pairs_from bs zero g (x ∷ cell) = (neg_ℤ (head_of bs +ℤ g), head_of bs) ∷ even_pairs (tail_of bs) cell
pairs_from bs (suc j) g (x ∷ cell) = (neg_ℤ (head_of bs), head_of bs) ∷ pairs_from (tail_of bs) j g cell

length-even : (bs : List ℤ) (cell : Cell) → length (even_pairs bs cell) ≡ length cell
length-even bs [] = refl
length-even bs (x ∷ cell) = ap suc (length-even (tail_of bs) cell)

length-pairs : (bs : List ℤ) (j : ℕ) (g : ℤ) (cell : Cell) → length (pairs_from bs j g cell) ≡ length cell
length-pairs bs j g [] = refl
length-pairs bs zero g (x ∷ cell) = ap suc (length-even (tail_of bs) cell)
length-pairs bs (suc j) g (x ∷ cell) = ap suc (length-pairs (tail_of bs) j g cell)

sums-even : (bs : List ℤ) (cell : Cell) → SumsAreZero (even_pairs bs cell) zero (pos 0)
sums-even bs [] = tt
sums-even bs (x ∷ cell) = (omega (arith, ints), sums-even (tail_of bs) cell)

sums-from : (bs : List ℤ) (j : ℕ) (g : ℤ) (cell : Cell) → SumsAreZero (pairs_from bs j g cell) j g
sums-from bs j g [] = tt
sums-from bs zero g (x ∷ cell) = (omega (arith, ints), sums-even (tail_of bs) cell)
sums-from bs (suc j) g (x ∷ cell) = (omega (arith, ints), sums-from (tail_of bs) j g cell)

-- a weighed list with its head apart
weigh-head : (bs : List ℤ) (r : List ℤ) (rows : List (List ℤ)) (f : List ℤ → ℤ) → weigh bs (r ∷ rows) f ≡ head_of bs *ℤ f r +ℤ weigh (tail_of bs) rows f
weigh-head [] r rows f = let z : pos 0 *ℤ f r ≡ pos 0 = omega (arith, ints) in omega (arith, ints, z)
weigh-head (b ∷ bs) r rows f = refl

-- ---- and a dependency over the rows from one by its definition
abbrev seconds : List (ℤ × ℤ) → List ℤ
seconds [] = []
seconds (m ∷ ms) = m.1 ∷ seconds ms

length-seconds : (ms : List (ℤ × ℤ)) → length (seconds ms) ≡ length ms
length-seconds [] = refl
length-seconds (m ∷ ms) = ap suc (length-seconds ms)

even_rows : (ms : List (ℤ × ℤ)) (supports : List (List Point)) (cell : Cell) (j : ℕ) (w : List ℤ) → SumsAreZero ms j (pos 0) → total ms supports cell (λ q. dot q.coordinates w) ≡ weigh (seconds ms) (edges supports cell) (λ r. dot r w)
even_rows [] supports cell j w z = refl
even_rows (m ∷ ms) [] cell j w z = refl
even_rows (m ∷ ms) (s ∷ supports) [] j w z = refl
even_rows (m ∷ ms) (s ∷ supports) (x ∷ cell) zero w z = ap₂ ◌+ℤ◌ (pair_row m (point_at s x.0) (point_at s x.1) w (let e = z.0 in omega (arith, ints, e))) (even_rows ms supports cell zero w z.1)
even_rows (m ∷ ms) (s ∷ supports) (x ∷ cell) (suc j) w z = ap₂ ◌+ℤ◌ (pair_row m (point_at s x.0) (point_at s x.1) w z.0) (even_rows ms supports cell j w z.1)

level_rows : (ms : List (ℤ × ℤ)) (supports : List (List Point)) (cell : Cell) (j : ℕ) (g : ℤ) (w : List ℤ) → length ms ≡ length cell → length supports ≡ length cell → suc j ≤ length cell → SumsAreZero ms j g
    → total ms supports cell (λ q. dot q.coordinates w) ≡ weigh (seconds ms) (edges supports cell) (λ r. dot r w) -ℤ g *ℤ dot (point_at (nth_support supports j) (pair_at cell j).0).coordinates w
level_rows ms supports [] j g w l n i z = absurd (omega (arith, i))
level_rows [] supports (x ∷ cell) j g w l n i z = absurd (omega (arith, l))
level_rows (m ∷ ms) [] (x ∷ cell) j g w l n i z = absurd (omega (arith, n))
level_rows (m ∷ ms) (s ∷ supports) (x ∷ cell) zero g w l n i z =
    let p = point_at s x.0 in
    let q = point_at s x.1 in
    let r = even_rows ms supports cell zero w z.1 in
    let d = ap (λ y. m.1 *ℤ y) (dot-sub q.coordinates p.coordinates w) in
    let u = step m.0 m.1 g (dot p.coordinates w) (dot q.coordinates w) (let e = z.0 in omega (arith, ints, e)) in
    omega (arith, ints, r, d, u)
  where
    ring : (b g x y : ℤ) → neg_ℤ (b +ℤ g) *ℤ x +ℤ b *ℤ y ≡ b *ℤ (y -ℤ x) -ℤ g *ℤ x
    ring b g x y = rw (as_D b, as_D g, as_D x, as_D y) (simp Ds (same_D _ _ _ _ (omega arith)))

    step : (a b g x y : ℤ) → a ≡ neg_ℤ (b +ℤ g) → a *ℤ x +ℤ b *ℤ y ≡ b *ℤ (y -ℤ x) -ℤ g *ℤ x
    step a b g x y e = rw e (ring b g x y)
level_rows (m ∷ ms) (s ∷ supports) (x ∷ cell) (suc j) g w l n i z =
    let r = level_rows ms supports cell j g w (omega (arith, l)) (omega (arith, n)) (omega (arith, i)) z.1 in
    let u = pair_row m (point_at s x.0) (point_at s x.1) w z.0 in
    omega (arith, ints, r, u)

row_dependency : (p : Problem) (cell : Cell) (j : ℕ) (c : Point) (numbers : Numbers) → length p.supports ≡ length cell → suc j ≤ length cell → length numbers.pairs ≡ length cell → IsDependencyWith p cell j c numbers
    → IsDependency p.dimension (edges p.supports cell) (sub c.coordinates (point_at (nth_support p.supports j) (pair_at cell j).0).coordinates) (seconds numbers.pairs) numbers.last
row_dependency p cell j c numbers n bound long d w l =
    let a = point_at (nth_support p.supports j) (pair_at cell j).0 in
    let r = level_rows numbers.pairs p.supports cell j numbers.last w long n bound d.1 in
    let e = against numbers.pairs p.supports cell numbers.last c d.2 p.dimension w l in
    let u = ap (λ x. numbers.last *ℤ x) (dot-sub c.coordinates a.coordinates w) in
    let v = split numbers.last (dot c.coordinates w) (dot a.coordinates w) in
    omega (arith, ints, r, e, u, v)
  where
    split : (g x y : ℤ) → g *ℤ (x -ℤ y) ≡ g *ℤ x -ℤ g *ℤ y
    split g x y = rw (as_D g, as_D x, as_D y) (simp Ds (same_D _ _ _ _ (omega arith)))

-- a dependency from their second ones
by_seconds : (ms ns : List (ℤ × ℤ)) (j : ℕ) (g h : ℤ) → length ms ≡ length ns → SumsAreZero ms j g → SumsAreZero ns j h → ((i : ℕ) → h *ℤ at (seconds ms) i ≡ g *ℤ at (seconds ns) i)
    → (i : ℕ) → (h *ℤ (number_at ms i).0 ≡ g *ℤ (number_at ns i).0) × (h *ℤ (number_at ms i).1 ≡ g *ℤ (number_at ns i).1)
by_seconds ms ns j g h l y z e = go ms ns j g h l y z e
  where
    split : (g x y : ℤ) → g *ℤ neg_ℤ (x +ℤ y) ≡ neg_ℤ (g *ℤ x) -ℤ g *ℤ y
    split g x y = rw (as_D g, as_D x, as_D y) (simp Ds (same_D _ _ _ _ (omega arith)))

    same : (g h a b x y u v : ℤ) → x ≡ neg_ℤ (a +ℤ u) → y ≡ neg_ℤ (b +ℤ v) → h *ℤ a ≡ g *ℤ b → h *ℤ u ≡ g *ℤ v → h *ℤ x ≡ g *ℤ y
    same g h a b x y u v e f q r =
        let s = split h a u in
        let t = split g b v in
        ap (λ z. h *ℤ z) e ∙ sym (ap (λ z. g *ℤ z) f ∙ omega (arith, ints, s, t, q, r))

    evens : (g h : ℤ) (ms ns : List (ℤ × ℤ)) → length ms ≡ length ns → SumsAreZero ms zero (pos 0) → SumsAreZero ns zero (pos 0) → ((i : ℕ) → h *ℤ at (seconds ms) i ≡ g *ℤ at (seconds ns) i)
        → (i : ℕ) → (h *ℤ (number_at ms i).0 ≡ g *ℤ (number_at ns i).0) × (h *ℤ (number_at ms i).1 ≡ g *ℤ (number_at ns i).1)
    evens g h [] [] l y z e i = (rw (*ℤ-zero h, *ℤ-zero g) refl, rw (*ℤ-zero h, *ℤ-zero g) refl)
    evens g h [] (n ∷ ns) l y z e i = absurd (omega (arith, l))
    evens g h (m ∷ ms) [] l y z e i = absurd (omega (arith, l))
    evens g h (m ∷ ms) (n ∷ ns) l y z e zero =
        (same g h m.1 n.1 m.0 n.0 (pos 0) (pos 0) (let k = y.0 in omega (arith, ints, k)) (let k = z.0 in omega (arith, ints, k)) (e 0) (rw (*ℤ-zero h, *ℤ-zero g) refl), e 0)
    evens g h (m ∷ ms) (n ∷ ns) l y z e (suc i) = evens g h ms ns (omega (arith, l)) y.1 z.1 (λ k. e (suc k)) i

    go : (ms ns : List (ℤ × ℤ)) (j : ℕ) (g h : ℤ) → length ms ≡ length ns → SumsAreZero ms j g → SumsAreZero ns j h → ((i : ℕ) → h *ℤ at (seconds ms) i ≡ g *ℤ at (seconds ns) i)
        → (i : ℕ) → (h *ℤ (number_at ms i).0 ≡ g *ℤ (number_at ns i).0) × (h *ℤ (number_at ms i).1 ≡ g *ℤ (number_at ns i).1)
    go [] [] j g h l y z e i = (rw (*ℤ-zero h, *ℤ-zero g) refl, rw (*ℤ-zero h, *ℤ-zero g) refl)
    go [] (n ∷ ns) j g h l y z e i = absurd (omega (arith, l))
    go (m ∷ ms) [] j g h l y z e i = absurd (omega (arith, l))
    go (m ∷ ms) (n ∷ ns) zero g h l y z e zero =
        (same g h m.1 n.1 m.0 n.0 g h (let k = y.0 in omega (arith, ints, k)) (let k = z.0 in omega (arith, ints, k)) (e 0) (omega (arith, ints)), e 0)
    go (m ∷ ms) (n ∷ ns) zero g h l y z e (suc i) = evens g h ms ns (omega (arith, l)) y.1 z.1 (λ k. e (suc k)) i
    go (m ∷ ms) (n ∷ ns) (suc j) g h l y z e zero =
        (same g h m.1 n.1 m.0 n.0 (pos 0) (pos 0) (let k = y.0 in omega (arith, ints, k)) (let k = z.0 in omega (arith, ints, k)) (e 0) (rw (*ℤ-zero h, *ℤ-zero g) refl), e 0)
    go (m ∷ ms) (n ∷ ns) (suc j) g h l y z e (suc i) = go ms ns j g h (omega (arith, l)) y.1 z.1 (λ k. e (suc k)) i

pub multiples : (p : Problem) (cell : Cell) (j c : ℕ) → IsProblem p → IsOf p cell → IsIndependent p cell → suc j ≤ length cell → (numbers others : Numbers) → length numbers.pairs ≡ length cell → length others.pairs ≡ length cell
    → IsDependencyWith p cell j (point_at (nth_support p.supports j) c) numbers → IsDependencyWith p cell j (point_at (nth_support p.supports j) c) others → IsMultiple others numbers
multiples p cell j c well of ind bound m n lm ln dm dn =
    let q = point_at (nth_support p.supports j) c in
    let l = pairs_long p.supports cell InRange of in
    let long = λ (ms : List (ℤ × ℤ)) (k : length ms ≡ length cell). length-seconds ms ∙ k ∙ sym l ∙ well.supports in
    let z = multiple p.dimension (edges p.supports cell) _ (seconds n.pairs) (seconds m.pairs) n.last m.last (long_rows p cell well of ind) (long n.pairs ln) (long m.pairs lm) (rows_independent p cell well of ind)
    (row_dependency p cell j q n l bound ln dn) (row_dependency p cell j q m l bound lm dm) in
    by_seconds n.pairs m.pairs j n.last m.last (ln ∙ sym lm) dn.1 dm.1 (λ i.
    let e = sym (at-add (scale m.last (seconds n.pairs)) (scale (neg_ℤ n.last) (seconds m.pairs)) i) ∙ at-zero (add (scale m.last (seconds n.pairs)) (scale (neg_ℤ n.last) (seconds m.pairs))) i z in
    let a = at-scale m.last (seconds n.pairs) i in
    let b = at-scale (neg_ℤ n.last) (seconds m.pairs) i in
    let d = cancel n.last (at (seconds m.pairs) i) in
    omega (arith, ints, e, a, b, d))
  where
    cancel : (b x : ℤ) → neg_ℤ b *ℤ x ≡ neg_ℤ (b *ℤ x)
    cancel b x = rw (as_D b, as_D x) (simp Ds (same_D _ _ _ _ (omega arith)))

-- ---- existence
abbrev spike : ℕ → ℕ → List ℤ
spike zero k = []
spike (suc n) zero = pos 1 ∷ zeros n
spike (suc n) (suc k) = pos 0 ∷ spike n k

zeros-zero : (n : ℕ) → IsZero (zeros n)
unfolding zeros
zeros-zero zero = tt
zeros-zero (suc n) = (refl, zeros-zero n)

length-spike : (n k : ℕ) → length (spike n k) ≡ n
length-spike zero k = refl
length-spike (suc n) zero = ap suc (length-zeros n)
length-spike (suc n) (suc k) = ap suc (length-spike n k)

dot-spike : (r : List ℤ) (n k : ℕ) → length r ≤ n → dot r (spike n k) ≡ at r k
dot-spike [] n k l = refl
dot-spike (x ∷ r) zero k l = absurd (omega (arith, l))
dot-spike (x ∷ r) (suc n) zero l = let z = dot-zero r (zeros n) (zeros-zero n) in omega (arith, ints, z)
dot-spike (x ∷ r) (suc n) (suc k) l = let z = dot-spike r n k (omega (arith, l)) in let y = *ℤ-zero x in omega (arith, ints, z, y)

same_le : (a b : ℕ) → a ≡ b → a ≤ b
same_le a b e = omega (arith, e)

weigh-spike : (bs : List ℤ) (rows : List (List ℤ)) (n k : ℕ) → Each rows (λ r. length r ≡ n) → weigh bs rows (λ r. dot r (spike n k)) ≡ weigh bs rows (λ r. at r k)
weigh-spike [] rows n k e = refl
weigh-spike (b ∷ bs) [] n k e = refl
weigh-spike (b ∷ bs) (r ∷ rows) n k e = ap₂ (λ x y. b *ℤ x +ℤ y) (dot-spike r n k (same_le (length r) n e.0)) (weigh-spike bs rows n k e.1)

pub minus-at : (u v : List ℤ) (k : ℕ) → at (sub u v) k ≡ at u k -ℤ at v k
minus-at u v k = at-add u (scale (neg_ℤ (pos 1)) v) k ∙ ap (λ q. at u k +ℤ q) (at-scale (neg_ℤ (pos 1)) v k ∙ minus_one (at v k))

total-even : (bs : List ℤ) (supports : List (List Point)) (cell : Cell) (k : ℕ) → length supports ≡ length cell → total (even_pairs bs cell) supports cell (λ q. at q.coordinates k) ≡ weigh bs (edges supports cell) (λ r. at r k)
total-even [] [] [] k l = refl
total-even (b ∷ bs) [] [] k l = refl
total-even bs [] (x ∷ cell) k l = absurd (omega (arith, l))
total-even bs (s ∷ supports) [] k l = absurd (omega (arith, l))
total-even bs (s ∷ supports) (x ∷ cell) k l =
    let p = point_at s x.0 in
    let q = point_at s x.1 in
    let e = total-even (tail_of bs) supports cell k (omega (arith, l)) in
    let h = weigh-head bs (sub q.coordinates p.coordinates) (edges supports cell) (λ r. at r k) in
    let d = ap (λ y. head_of bs *ℤ y) (minus-at q.coordinates p.coordinates k) in
    let r = ring (head_of bs) (at p.coordinates k) (at q.coordinates k) in
    omega (arith, ints, e, h, d, r)
  where
    ring : (b x y : ℤ) → neg_ℤ b *ℤ x +ℤ b *ℤ y ≡ b *ℤ (y -ℤ x)
    ring b x y = rw (as_D b, as_D x, as_D y) (simp Ds (same_D _ _ _ _ (omega arith)))

total-from : (bs : List ℤ) (supports : List (List Point)) (cell : Cell) (j : ℕ) (g : ℤ) (k : ℕ) → length supports ≡ length cell → suc j ≤ length cell
    → total (pairs_from bs j g cell) supports cell (λ q. at q.coordinates k) ≡ weigh bs (edges supports cell) (λ r. at r k) -ℤ g *ℤ at (point_at (nth_support supports j) (pair_at cell j).0).coordinates k
total-from bs supports [] j g k l i = absurd (omega (arith, i))
total-from bs [] (x ∷ cell) j g k l i = absurd (omega (arith, l))
total-from bs (s ∷ supports) (x ∷ cell) zero g k l i =
    let p = point_at s x.0 in
    let q = point_at s x.1 in
    let e = total-even (tail_of bs) supports cell k (omega (arith, l)) in
    let h = weigh-head bs (sub q.coordinates p.coordinates) (edges supports cell) (λ r. at r k) in
    let d = ap (λ y. head_of bs *ℤ y) (minus-at q.coordinates p.coordinates k) in
    let r = ring (head_of bs) g (at p.coordinates k) (at q.coordinates k) in
    omega (arith, ints, e, h, d, r)
  where
    ring : (b g x y : ℤ) → neg_ℤ (b +ℤ g) *ℤ x +ℤ b *ℤ y ≡ b *ℤ (y -ℤ x) -ℤ g *ℤ x
    ring b g x y = rw (as_D b, as_D g, as_D x, as_D y) (simp Ds (same_D _ _ _ _ (omega arith)))
total-from bs (s ∷ supports) (x ∷ cell) (suc j) g k l i =
    let p = point_at s x.0 in
    let q = point_at s x.1 in
    let e = total-from (tail_of bs) supports cell j g k (omega (arith, l)) (omega (arith, i)) in
    let h = weigh-head bs (sub q.coordinates p.coordinates) (edges supports cell) (λ r. at r k) in
    let d = ap (λ y. head_of bs *ℤ y) (minus-at q.coordinates p.coordinates k) in
    let r = ring (head_of bs) (at p.coordinates k) (at q.coordinates k) in
    omega (arith, ints, e, h, d, r)
  where
    ring : (b x y : ℤ) → neg_ℤ b *ℤ x +ℤ b *ℤ y ≡ b *ℤ (y -ℤ x)
    ring b x y = rw (as_D b, as_D x, as_D y) (simp Ds (same_D _ _ _ _ (omega arith)))

-- past the end of a support stands the origin, with no coordinates
at_most : (n : ℕ) (s : List Point) (i : ℕ) → Each s (λ (x : Point). length x.coordinates ≡ n) → length (slice_index_or s i origin).coordinates ≤ n
at_most n [] i e = nothing_le n
  where
    nothing_le : (n : ℕ) → 0 ≤ n
    nothing_le n = omega arith
at_most n (x ∷ s) zero e = same_le (length x.coordinates) n e.0
at_most n (x ∷ s) (suc i) e = at_most n s i e.1

each-at : (supports : List (List Point)) (n : ℕ) (j : ℕ) → suc j ≤ length supports → Each supports (λ s. Each s (λ (x : Point). length x.coordinates ≡ n)) → (k : ℕ) → length (point_at (nth_support supports j) k).coordinates ≤ n
each-at [] n j i e k = absurd (omega (arith, i))
each-at (s ∷ supports) n zero i e k = at_most n s (k - 1) e.0
each-at (s ∷ supports) n (suc j) i e k = each-at supports n j (omega (arith, i)) e.1 k

-- a dependency of the rows, with bs at the second points and g at the further one, as one of the cell
pub numbers_of_rows : (p : Problem) (cell : Cell) (j c : ℕ) → IsProblem p → IsOf p cell → suc j ≤ length cell → (bs : List ℤ) (g : ℤ) → pos 0 <ℤ g
    → IsDependency p.dimension (edges p.supports cell) (sub (point_at (nth_support p.supports j) c).coordinates (point_at (nth_support p.supports j) (pair_at cell j).0).coordinates) bs g
    → IsPositiveDependency p cell j c (record { pairs = pairs_from bs j g cell; last = g })
numbers_of_rows p cell j c well of bound bs g positive dep =
    let a = point_at (nth_support p.supports j) (pair_at cell j).0 in
    let q = point_at (nth_support p.supports j) c in
    let l = pairs_long p.supports cell InRange of in
    let at_j = each-at p.supports p.dimension j (omega (arith, bound, l)) well.points in (
      positive,
      (
        length-pairs bs j g cell,
        (
          (λ n. let h = n.1 in omega (arith, ints, h, positive)),
          sums-from bs j g cell,
          (λ k.
              let e = total-from bs p.supports cell j g k l bound in
              let w = dep (spike p.dimension k) (length-spike p.dimension k) in
              let u = weigh-spike bs (edges p.supports cell) p.dimension k (long-edges p.dimension p.supports cell of well.points) in
              let x = dot-sub q.coordinates a.coordinates (spike p.dimension k) in
              let y = dot-spike q.coordinates p.dimension k (at_j c) in
              let z = dot-spike a.coordinates p.dimension k (at_j (pair_at cell j).0) in
              let f = ap (λ i. g *ℤ i) (x ∙ ap₂ (λ i o. i -ℤ o) y z) in
              let r = split g (at q.coordinates k) (at a.coordinates k) in
              omega (arith, ints, e, w, u, f, r)),
        ),
      ),
    )
  where
    split : (g x y : ℤ) → g *ℤ (x -ℤ y) ≡ g *ℤ x -ℤ g *ℤ y
    split g x y = rw (as_D g, as_D x, as_D y) (simp Ds (same_D _ _ _ _ (omega arith)))

pub numbers_exist : (p : Problem) (cell : Cell) (j c : ℕ) → IsProblem p → IsOf p cell → IsIndependent p cell → suc j ≤ length cell → (numbers : Numbers) × IsPositiveDependency p cell j c numbers
numbers_exist p cell j c well of ind bound =
    let a = point_at (nth_support p.supports j) (pair_at cell j).0 in
    let q = point_at (nth_support p.supports j) c in
    let d = a_dependency p.dimension (edges p.supports cell) (sub q.coordinates a.coordinates) (long_rows p cell well of ind) (rows_independent p cell well of ind) in
    (record { pairs = pairs_from d.bs j d.g cell; last = d.g }, numbers_of_rows p cell j c well of bound d.bs d.g d.positive d.is)

-- the law of one dependency
pub dependency_law : OneDependency
dependency_law p cell j c well of ind further =
    let bound = further_bound p.supports cell j c (pairs_long p.supports cell InRange of) further in (
      numbers_exist p cell j c well of ind bound,
      (λ m n d l. multiples p cell j c well of ind bound m n d.1.0 l.0 d.1.1 l.1),
      (λ m d t v is. sides p cell j c m bound d t v is),
    )
