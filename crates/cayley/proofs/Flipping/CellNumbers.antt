-- the numbers of a dependency as a circuit
use Rattle.std.proofs.Common.{◌≡◌, ℕ, zero, suc, List, [], ◌∷◌, ◌++◌, length, arith, refl, sym, ap, ap₂, ◌∙◌}
use Rattle.std.proofs.lemmas.Int.{ints}
use Rattle.std.proofs.Math.IntN.{ℤ, pos, ◌+ℤ◌, ◌-ℤ◌, ◌*ℤ◌, neg_ℤ, *ℤ-zero}
use Rattle.wide_int.proofs.Ring.{as_D, Ds, same_D}
use Rattle.int_vectors.proofs.Weighing.{weigh-append}
use Rattle.cayley.proofs.Algebra.Kernel.{places, weigh-at}
use Rattle.cayley.proofs.OneCell.Neighbours.{edges-append, dot-sub}
use Rattle.cayley.proofs.Flipping.Exchange.{Circuit, circuit_of}
use Rattle.int_vectors.specs.Vectors.{weigh, dot, at, sub}
use Rattle.cayley.specs.Problems.{Point, point_at}
use Rattle.cayley.specs.Cells.{Cell}
use Rattle.cayley.specs.Dependencies.{Numbers, SumsAreZero, total, IsDependencyWith, number_at}
use Rattle.cayley.proofs.Flipping.OneSupport.{OneSupport, problem_of, with_pair}
use Rattle.cayley.specs.Rows.{edges}

-- a sum of numbers is linear in what they weigh
pub total-lin : (ms : List (ℤ × ℤ)) (supports : List (List Point)) (cell : Cell) (a : ℤ) (f g : Point → ℤ) → total ms supports cell (λ q. a *ℤ f q +ℤ g q) ≡ a *ℤ total ms supports cell f +ℤ total ms supports cell g
total-lin [] supports cell a f g = rw (*ℤ-zero a) refl
total-lin (m ∷ ms) [] cell a f g = rw (*ℤ-zero a) refl
total-lin (m ∷ ms) (s ∷ supports) [] a f g = rw (*ℤ-zero a) refl
total-lin (m ∷ ms) (s ∷ supports) (x ∷ cell) a f g =
    rw (total-lin ms supports cell a f g) (step m.0 m.1 a (f (point_at s x.0)) (f (point_at s x.1)) (g (point_at s x.0)) (g (point_at s x.1)) (total ms supports cell f) (total ms supports cell g))
  where
    step : (m n a x y z w s t : ℤ) → m *ℤ (a *ℤ x +ℤ z) +ℤ n *ℤ (a *ℤ y +ℤ w) +ℤ (a *ℤ s +ℤ t) ≡ a *ℤ (m *ℤ x +ℤ n *ℤ y +ℤ s) +ℤ (m *ℤ z +ℤ n *ℤ w +ℤ t)
    step m n a x y z w s t = rw (as_D m, as_D n, as_D a, as_D x, as_D y, as_D z, as_D w, as_D s, as_D t) (simp Ds (same_D _ _ _ _ (omega arith)))

pub total-nothing : (ms : List (ℤ × ℤ)) (supports : List (List Point)) (cell : Cell) → total ms supports cell (λ q. pos 0) ≡ pos 0
total-nothing [] supports cell = refl
total-nothing (m ∷ ms) [] cell = refl
total-nothing (m ∷ ms) (s ∷ supports) [] = refl
total-nothing (m ∷ ms) (s ∷ supports) (x ∷ cell) = rw (*ℤ-zero m.0, *ℤ-zero m.1, total-nothing ms supports cell) refl

pub total-same : (ms : List (ℤ × ℤ)) (supports : List (List Point)) (cell : Cell) (f g : Point → ℤ) → ((q : Point) → f q ≡ g q) → total ms supports cell f ≡ total ms supports cell g
total-same [] supports cell f g e = refl
total-same (m ∷ ms) [] cell f g e = refl
total-same (m ∷ ms) (s ∷ supports) [] f g e = refl
total-same (m ∷ ms) (s ∷ supports) (x ∷ cell) f g e =
    rw (e (point_at s x.0), e (point_at s x.1), total-same ms supports cell f g e) refl

-- zero at each coordinate, so zero against each vector
module _ (ms : List (ℤ × ℤ)) (supports : List (List Point)) (cell : Cell) (last : ℤ) (c : Point)
    (zero_sums : (k : ℕ) → total ms supports cell (λ q. at q.coordinates k) +ℤ last *ℤ at c.coordinates k ≡ pos 0) where
  weighed : (w : List ℤ) (ks : List ℕ) → total ms supports cell (λ q. weigh w ks (at q.coordinates)) +ℤ last *ℤ weigh w ks (at c.coordinates) ≡ pos 0
  weighed [] ks = rw (total-nothing ms supports cell, *ℤ-zero last) refl
  weighed (u ∷ w) [] = rw (total-nothing ms supports cell, *ℤ-zero last) refl
  weighed (u ∷ w) (k ∷ ks) =
      let i = weighed w ks in
      let e = zero_sums k in
      let l = total-lin ms supports cell u (λ q. at q.coordinates k) (λ q. weigh w ks (at q.coordinates)) in
      step u last (total ms supports cell (λ q. at q.coordinates k)) (total ms supports cell (λ q. weigh w ks (at q.coordinates))) (at c.coordinates k) (weigh w ks (at c.coordinates)) _ l e i
    where
      ring : (u l a b x y : ℤ) → u *ℤ a +ℤ b +ℤ l *ℤ (u *ℤ x +ℤ y) ≡ u *ℤ (a +ℤ l *ℤ x) +ℤ (b +ℤ l *ℤ y)
      ring u l a b x y = rw (as_D u, as_D l, as_D a, as_D b, as_D x, as_D y) (simp Ds (same_D _ _ _ _ (omega arith)))

      step : (u l a b x y s : ℤ) → s ≡ u *ℤ a +ℤ b → a +ℤ l *ℤ x ≡ pos 0 → b +ℤ l *ℤ y ≡ pos 0 → s +ℤ l *ℤ (u *ℤ x +ℤ y) ≡ pos 0
      step u l a b x y s h e f = rw h (ring u l a b x y ∙ rw (e, f) (rw (*ℤ-zero u) refl))

  pub against : (n : ℕ) (w : List ℤ) → length w ≡ n → total ms supports cell (λ q. dot q.coordinates w) +ℤ last *ℤ dot c.coordinates w ≡ pos 0
  against n w l =
      ap₂ (λ a b. a +ℤ last *ℤ b) (total-same ms supports cell (λ q. dot q.coordinates w) (λ q. weigh w (places n) (at q.coordinates)) (λ q. sym (weigh-at w n q.coordinates l))) (sym (weigh-at w n c.coordinates l))
      ∙ weighed w (places n)

-- a sum by rows, on each support but one
pub record ByRows (sb : List (List Point)) (s : List Point) (sa : List (List Point)) (cb : Cell) (x : ℕ × ℕ) (ca : Cell) (ms : List (ℤ × ℤ)) (g : ℤ) : Type 0 where
  pub xs : List ℤ
  pub ys : List ℤ
  pub long : length xs ≡ length (edges sb cb)
  pub sum : (number_at ms (length cb)).0 +ℤ (number_at ms (length cb)).1 +ℤ g ≡ pos 0
  pub is : (w : List ℤ) → total ms (sb ++ s ∷ sa) (cb ++ x ∷ ca) (λ q. dot q.coordinates w)
      ≡ weigh xs (edges sb cb) (λ r. dot r w) +ℤ ((number_at ms (length cb)).0 *ℤ dot (point_at s x.0).coordinates w +ℤ (number_at ms (length cb)).1 *ℤ dot (point_at s x.1).coordinates w) +ℤ weigh ys (edges sa ca) (λ r. dot r w)

pub pair_row : (m : ℤ × ℤ) (p q : Point) (w : List ℤ) → m.0 +ℤ m.1 ≡ pos 0 → m.0 *ℤ dot p.coordinates w +ℤ m.1 *ℤ dot q.coordinates w ≡ m.1 *ℤ dot (sub q.coordinates p.coordinates) w
pair_row m p q w e = step m.0 m.1 (dot p.coordinates w) (dot q.coordinates w) (let u = e in omega (arith, ints, u)) ∙ ap (λ x. m.1 *ℤ x) (sym (dot-sub q.coordinates p.coordinates w))
  where
    ring : (b x y : ℤ) → neg_ℤ b *ℤ x +ℤ b *ℤ y ≡ b *ℤ (y -ℤ x)
    ring b x y = rw (as_D b, as_D x, as_D y) (simp Ds (same_D _ _ _ _ (omega arith)))

    step : (a b x y : ℤ) → a ≡ neg_ℤ b → a *ℤ x +ℤ b *ℤ y ≡ b *ℤ (y -ℤ x)
    step a b x y e = rw e (ring b x y)

record Rows (supports : List (List Point)) (cell : Cell) (ms : List (ℤ × ℤ)) : Type 0 where
  ys : List ℤ
  is : (w : List ℤ) → total ms supports cell (λ q. dot q.coordinates w) ≡ weigh ys (edges supports cell) (λ r. dot r w)

all_rows : (supports : List (List Point)) (cell : Cell) (ms : List (ℤ × ℤ)) (j : ℕ) → SumsAreZero ms j (pos 0) → Rows supports cell ms
all_rows supports cell [] j z = record { ys = []; is = λ w. refl }
all_rows [] cell (m ∷ ms) j z = record { ys = []; is = λ w. refl }
all_rows (s ∷ supports) [] (m ∷ ms) j z = record { ys = []; is = λ w. refl }
all_rows (s ∷ supports) (x ∷ cell) (m ∷ ms) zero z =
    let r = all_rows supports cell ms zero z.1 in
    record { ys = m.1 ∷ r.ys; is = λ w. ap₂ ◌+ℤ◌ (pair_row m (point_at s x.0) (point_at s x.1) w (let e = z.0 in omega (arith, ints, e))) (r.is w) }
all_rows (s ∷ supports) (x ∷ cell) (m ∷ ms) (suc j) z =
    let r = all_rows supports cell ms j z.1 in
    record { ys = m.1 ∷ r.ys; is = λ w. ap₂ ◌+ℤ◌ (pair_row m (point_at s x.0) (point_at s x.1) w z.0) (r.is w) }

by_rows : (sb : List (List Point)) (s : List Point) (sa : List (List Point)) (cb : Cell) (x : ℕ × ℕ) (ca : Cell) (ms : List (ℤ × ℤ)) (g : ℤ) → length sb ≡ length cb → length ms ≡ length (cb ++ x ∷ ca) → SumsAreZero ms (length cb) g → ByRows sb s sa cb x ca ms g
by_rows [] s sa [] x ca [] g l n z = absurd (omega arith)
by_rows [] s sa [] x ca (m ∷ ms) g l n z =
    let r = all_rows sa ca ms zero z.1 in
    record { xs = []; ys = r.ys; long = refl; sum = z.0; is = λ w. let e = r.is w in omega (arith, ints, e) }
by_rows [] s sa (y ∷ cb) x ca ms g l n z = absurd (omega arith)
by_rows (r ∷ sb) s sa [] x ca ms g l n z = absurd (omega arith)
by_rows (r ∷ sb) s sa (y ∷ cb) x ca [] g l n z = absurd (omega arith)
by_rows (r ∷ sb) s sa (y ∷ cb) x ca (m ∷ ms) g l n z =
    let q = by_rows sb s sa cb x ca ms g (omega arith) (omega arith) z.1 in
    record {
      xs = m.1 ∷ q.xs;
      ys = q.ys;
      long = ap suc q.long;
      sum = q.sum;
      is = λ w. let e = q.is w in let f = pair_row m (point_at r y.0) (point_at r y.1) w z.0 in omega (arith, ints, e, f);
    }

pub record CircuitOf (o : OneSupport) (x y z : ℕ) (numbers : Numbers) : Type 0 where
  pub circuit : Circuit o x y z
  pub x_is : circuit.lx ≡ (number_at numbers.pairs (length o.cb)).0
  pub y_is : circuit.ly ≡ (number_at numbers.pairs (length o.cb)).1
  pub z_is : circuit.lz ≡ numbers.last

-- a dependency, with two numbers for each pair
pub circuit_of_numbers : (o : OneSupport) (x y z : ℕ) (numbers : Numbers) → length numbers.pairs ≡ length (with_pair o (x, y)) → IsDependencyWith (problem_of o) (with_pair o (x, y)) (length o.cb) (point_at o.s z) numbers → CircuitOf o x y z numbers
unfolding circuit_of
circuit_of_numbers o x y z numbers long h =
    let m = number_at numbers.pairs (length o.cb) in
    let g = numbers.last in
    let q = by_rows o.sb o.s o.sa o.cb (x, y) o.ca numbers.pairs g o.long long h.1 in
    record {
      circuit = circuit_of o x y z q.xs q.ys m.1 g q.long (λ w l.
          let X = dot (point_at o.s x).coordinates w in
          let Y = dot (point_at o.s y).coordinates w in
          let Z = dot (point_at o.s z).coordinates w in
          let a = ap (λ r. weigh (q.xs ++ m.1 ∷ q.ys) r (λ r. dot r w)) (edges-append o.sb (o.s ∷ o.sa) o.cb ((x, y) ∷ o.ca) o.long)
          ∙ weigh-append q.xs (m.1 ∷ q.ys) (edges o.sb o.cb) (edges (o.s ∷ o.sa) ((x, y) ∷ o.ca)) (λ r. dot r w) q.long in
          let c = ap (λ i. g *ℤ i) (dot-sub (point_at o.s z).coordinates (point_at o.s x).coordinates w) in
          let d = ap (λ i. m.1 *ℤ i) (dot-sub (point_at o.s y).coordinates (point_at o.s x).coordinates w) in
          let e = against numbers.pairs (o.sb ++ o.s ∷ o.sa) (o.cb ++ (x, y) ∷ o.ca) g (point_at o.s z) h.2 o.n w l in
          let f = q.is w in
          let r = step m.0 m.1 g X Y Z q.sum in
          omega (arith, ints, a, c, d, e, f, r));
      x_is = let s = q.sum in omega (arith, ints, s);
      y_is = refl;
      z_is = refl;
    }
  where
    ring : (ly lz a b c : ℤ) → neg_ℤ (ly +ℤ lz) *ℤ a +ℤ ly *ℤ b +ℤ lz *ℤ c ≡ ly *ℤ (b -ℤ a) +ℤ lz *ℤ (c -ℤ a)
    ring ly lz a b c = rw (as_D ly, as_D lz, as_D a, as_D b, as_D c) (simp Ds (same_D _ _ _ _ (omega arith)))

    step : (lx ly lz a b c : ℤ) → lx +ℤ ly +ℤ lz ≡ pos 0 → lx *ℤ a +ℤ ly *ℤ b +ℤ lz *ℤ c ≡ ly *ℤ (b -ℤ a) +ℤ lz *ℤ (c -ℤ a)
    step lx ly lz a b c s = let e : lx ≡ neg_ℤ (ly +ℤ lz) = omega (arith, ints) in rw e (ring ly lz a b c)
