-- an exchange gives the inverse of the new rows
use Rattle.std.proofs.Common.{◌≡◌, ◌≢◌, ℕ, zero, suc, ◌*◌, ◌<◌, unsigned_abs, ℤ, pos, ◌+ℤ◌, ◌-ℤ◌, ◌*ℤ◌, ◌<ℤ◌, List, [], ◌∷◌, length, map, set, arith, refl, sym, ap, ap₂, subst, ◌∙◌, inl, inr, length-set}
use Prim.Native.Nat.{◌∣◌}
use Rattle.std.proofs.Math.IntN.{*ℤ-zero}
use Rattle.std.proofs.Math.Nat.{mul-dvd-mul_left}
use Rattle.std.proofs.lemmas.Bool.{cases_eq}
use Rattle.std.proofs.lemmas.Int.{ints, unsigned_abs-mul}
use Rattle.std.proofs.lemmas.List.{get_or-set_same, get_or-set_other, get_or-map, length-map}
use Rattle.wide_int.proofs.Order.{mul_cancel, mul_pos_ℤ}
use Rattle.wide_int.proofs.Ring.{as_D, Ds, same_D}
use Rattle.wide_int.proofs.Signed.{abs_positive}
use Rattle.int_vectors.specs.Contents.{DividesEach}
use Rattle.int_vectors.specs.RowSteps.{eliminated}
use Rattle.int_vectors.specs.Vectors.{Each, IsZero, at, dot, scale, IsOrthogonal, row_at}
use Rattle.int_vectors.proofs.Entries.{length-scale, at-scale}
use Rattle.int_vectors.proofs.TakingOff.{length-eliminated}
use Rattle.reduced_rows.specs.Carried.{unit}
use Rattle.reduced_rows.proofs.Picking.{each_at}
use Rattle.cayley.proofs.Algebra.ScaledInverse.{dot-nil, dot-scale, dot-zero}
use Rattle.inner_normal.specs.Inverses.{Inverse}
use Rattle.inner_normal.proofs.CommonFactors.{one_left, positive_other}
use Rattle.carried_inverse.specs.Exchanges.{combined, IsTurned, IsExchanged, IsDivisorOf}
use Rattle.carried_inverse.specs.Systems.{Inverts, IsLowest, IsScaledInverse}
use Rattle.carried_inverse.proofs.ColumnSteps.{length-combined}

pub unit_same : (i : ℕ) → unit i i ≡ pos 1
unit_same zero = refl
unit_same (suc i) = unit_same i

pub unit_other : (i k : ℕ) → i ≢ k → unit i k ≡ pos 0
unit_other zero zero n = absurd (n refl)
unit_other zero (suc k) n = refl
unit_other (suc i) zero n = refl
unit_other (suc i) (suc k) n = unit_other i k (λ e. n (ap suc e))

dot-eliminated : (r : List ℤ) (p f : ℤ) (xs ys : List ℤ) → length xs ≡ length ys → dot r (eliminated p f xs ys) ≡ p *ℤ dot r xs -ℤ f *ℤ dot r ys
unfolding eliminated
dot-eliminated r p f [] [] e = dot-nil r ∙ sym (ap₂ (λ a b. p *ℤ a -ℤ f *ℤ b) (dot-nil r) (dot-nil r) ∙ nothing p f)
  where
    nothing : (p f : ℤ) → p *ℤ pos 0 -ℤ f *ℤ pos 0 ≡ pos 0
    nothing p f = omega (arith, ints)
dot-eliminated r p f [] (y ∷ ys) e = absurd (omega arith)
dot-eliminated r p f (x ∷ xs) [] e = absurd (omega arith)
dot-eliminated [] p f (x ∷ xs) (y ∷ ys) e = omega (arith, ints)
dot-eliminated (z ∷ r) p f (x ∷ xs) (y ∷ ys) e = rw (dot-eliminated r p f xs ys (omega arith)) (step z p f x y (dot r xs) (dot r ys))
  where
    step : (z p f x y s t : ℤ) → z *ℤ (p *ℤ x -ℤ f *ℤ y) +ℤ (p *ℤ s -ℤ f *ℤ t) ≡ p *ℤ (z *ℤ x +ℤ s) -ℤ f *ℤ (z *ℤ y +ℤ t)
    step z p f x y s t = rw (as_D z, as_D p, as_D f, as_D x, as_D y, as_D s, as_D t) (simp Ds (same_D _ _ _ _ (omega arith)))

combined_line : (p : ℤ) (fs : List ℤ) (xs : List (List ℤ)) (by : List ℤ) (k : ℕ) → k < length fs → k < length xs → row_at (combined p fs xs by) k ≡ eliminated p (at fs k) (row_at xs k) by
unfolding combined
combined_line p [] xs by k a b = absurd (omega (arith, a))
combined_line p (f ∷ fs) [] by k a b = absurd (omega (arith, b))
combined_line p (f ∷ fs) (x ∷ xs) by zero a b = refl
combined_line p (f ∷ fs) (x ∷ xs) by (suc k) a b = combined_line p fs xs by k (omega (arith, a)) (omega (arith, b))

each_combined : (n : ℕ) (p : ℤ) (fs : List ℤ) (xs : List (List ℤ)) (by : List ℤ) → length by ≡ n → Each xs (λ x. length x ≡ n) → Each (combined p fs xs by) (λ x. length x ≡ n)
unfolding combined
each_combined n p [] xs by l e = tt
each_combined n p (f ∷ fs) [] by l e = tt
each_combined n p (f ∷ fs) (x ∷ xs) by l e = (length-eliminated p f x by (e.0 ∙ sym l) ∙ e.0, each_combined n p fs xs by l e.1)

scaled_line : (g : ℤ) (xs : List (List ℤ)) (k : ℕ) → row_at (map (scale g) xs) k ≡ scale g (row_at xs k)
scaled_line g [] k = refl
scaled_line g (x ∷ xs) zero = refl
scaled_line g (x ∷ xs) (suc k) = scaled_line g xs k

each_unscaled : (n : ℕ) (g : ℤ) (xs : List (List ℤ)) → Each (map (scale g) xs) (λ x. length x ≡ n) → Each xs (λ x. length x ≡ n)
each_unscaled n g [] e = tt
each_unscaled n g (x ∷ xs) e = (sym (length-scale g x) ∙ e.0, each_unscaled n g xs e.1)

-- rings
at_own : (s u d : ℤ) → (s *ℤ u) *ℤ u -ℤ (s *ℤ u -ℤ s *ℤ d) *ℤ u ≡ (d *ℤ (s *ℤ u)) *ℤ pos 1
at_own s u d = ring s u d ∙ one (d *ℤ (s *ℤ u))
  where
    ring : (s u d : ℤ) → (s *ℤ u) *ℤ u -ℤ (s *ℤ u -ℤ s *ℤ d) *ℤ u ≡ d *ℤ (s *ℤ u)
    ring s u d = rw (as_D s, as_D u, as_D d) (simp Ds (same_D _ _ _ _ (omega arith)))

    one : (z : ℤ) → z ≡ z *ℤ pos 1
    one z = omega (arith, ints)

at_other : (s u v d : ℤ) → (s *ℤ u) *ℤ v -ℤ (s *ℤ v) *ℤ u ≡ d *ℤ pos 0
at_other s u v d = ring s u v ∙ none d
  where
    ring : (s u v : ℤ) → (s *ℤ u) *ℤ v -ℤ (s *ℤ v) *ℤ u ≡ pos 0
    ring s u v = same (s *ℤ u *ℤ v) (s *ℤ v *ℤ u) (rw (as_D s, as_D u, as_D v) (simp Ds (same_D _ _ _ _ (omega arith))))
      where
        same : (a b : ℤ) → a ≡ b → a -ℤ b ≡ pos 0
        same a b e = omega (arith, ints, e)

    none : (d : ℤ) → pos 0 ≡ d *ℤ pos 0
    none d = omega (arith, ints)

old_row : (p f d e : ℤ) → p *ℤ (d *ℤ e) -ℤ f *ℤ (d *ℤ pos 0) ≡ (d *ℤ p) *ℤ e
old_row p f d e = ap (λ z. p *ℤ (d *ℤ e) -ℤ z) (none f d) ∙ less (p *ℤ (d *ℤ e)) ∙ ring p d e
  where
    none : (f d : ℤ) → f *ℤ (d *ℤ pos 0) ≡ pos 0
    none f d = ap (λ z. f *ℤ z) (*ℤ-zero d) ∙ *ℤ-zero f

    less : (a : ℤ) → a -ℤ pos 0 ≡ a
    less a = omega (arith, ints)

    ring : (p d e : ℤ) → p *ℤ (d *ℤ e) ≡ (d *ℤ p) *ℤ e
    ring p d e = rw (as_D p, as_D d, as_D e) (simp Ds (same_D _ _ _ _ (omega arith)))

module _ (n i : ℕ) (rows columns : List (List ℤ)) (den : ℤ) (row us : List ℤ) (shares : List ℤ) (factor : ℤ)
    (below : i < n) (count : length columns ≡ n) (many : length rows ≡ n) (long : Each columns (λ x. length x ≡ n)) (inv : Inverts n rows den columns)
    (are : us ≡ map (dot row) columns) (t : IsTurned i den us shares factor) where
  abbrev pub p : ℤ
  p = at shares i

  abbrev pub fs : List ℤ
  fs = set shares i (at shares i -ℤ factor)

  abbrev pub by : List ℤ
  by = row_at columns i

  long_at : (k : ℕ) → k < n → length (row_at columns k) ≡ n
  long_at k lt = each_at (λ x. length x ≡ n) columns k [] (omega (arith, lt, count)) long

  share_is : (k : ℕ) → k < n → at shares k ≡ t.sign *ℤ dot row (row_at columns k)
  share_is k lt =
      ap (λ l. at l k) t.all ∙ at-scale t.sign us k
      ∙ ap (λ z. t.sign *ℤ z) (ap (λ l. at l k) are ∙ get_or-map (dot row) columns k [] (pos 0) (omega (arith, lt, count)))

  pub long_shares : length shares ≡ n
  long_shares = ap length t.all ∙ length-scale t.sign us ∙ ap length are ∙ length-map columns (dot row) ∙ count

  long_fs : length fs ≡ n
  long_fs = length-set shares i (at shares i -ℤ factor) ∙ long_shares

  product : (r : List ℤ) (k : ℕ) → k < n → dot r (row_at (combined p fs columns by) k) ≡ p *ℤ dot r (row_at columns k) -ℤ at fs k *ℤ dot r by
  product r k lt =
      ap (dot r) (combined_line p fs columns by k (omega (arith, lt, long_fs)) (omega (arith, lt, count)))
      ∙ dot-eliminated r p (at fs k) (row_at columns k) by (long_at k lt ∙ sym (long_at i below))

  new_row : (k : ℕ) → k < n → dot row (row_at (combined p fs columns by) k) ≡ (den *ℤ p) *ℤ unit i k
  new_row k lt = product row k lt ∙ elim (cases_eq k i) [
    | inl e ↦ own e
    | inr o ↦ other o
  ]
    where
      own : k ≡ i → p *ℤ dot row (row_at columns k) -ℤ at fs k *ℤ dot row by ≡ (den *ℤ p) *ℤ unit i k
      own e =
          ap (λ m. p *ℤ dot row (row_at columns m) -ℤ at fs m *ℤ dot row by) e
          ∙ ap₂ (λ a f. a *ℤ dot row by -ℤ f *ℤ dot row by) (share_is i below)
          (get_or-set_same shares i (at shares i -ℤ factor) (pos 0) (omega (arith, below, long_shares)) ∙ ap₂ (λ a b. a -ℤ b) (share_is i below) t.turned)
          ∙ at_own t.sign (dot row by) den
          ∙ ap₂ (λ a b. (den *ℤ a) *ℤ b) (sym (share_is i below)) (sym (unit_same i) ∙ ap (unit i) (sym e))

      other : k ≢ i → p *ℤ dot row (row_at columns k) -ℤ at fs k *ℤ dot row by ≡ (den *ℤ p) *ℤ unit i k
      other o =
          ap₂ (λ a f. a *ℤ dot row (row_at columns k) -ℤ f *ℤ dot row by) (share_is i below) (get_or-set_other shares i k (at shares i -ℤ factor) (pos 0) o ∙ share_is k lt)
          ∙ at_other t.sign (dot row by) (dot row (row_at columns k)) (den *ℤ p)
          ∙ ap (λ z. (den *ℤ p) *ℤ z) (sym (unit_other i k (λ e. o (sym e))))

  kept_row : (j k : ℕ) → j < n → k < n → j ≢ i → dot (row_at rows j) (row_at (combined p fs columns by) k) ≡ (den *ℤ p) *ℤ unit j k
  kept_row j k lj lk o =
      product (row_at rows j) k lk
      ∙ ap₂ (λ a b. p *ℤ a -ℤ at fs k *ℤ b) (inv j k lj lk) (inv j i lj below ∙ ap (λ z. den *ℤ z) (unit_other j i o))
      ∙ old_row p (at fs k) den (unit j k)

  pub multiples_invert : Inverts n (set rows i row) (den *ℤ p) (combined p fs columns by)
  multiples_invert j k lj lk = elim (cases_eq j i) [
    | inl e ↦
        ap (λ m. dot (row_at (set rows i row) m) (row_at (combined p fs columns by) k)) e
        ∙ ap (λ r. dot r (row_at (combined p fs columns by) k)) (get_or-set_same rows i row [] (omega (arith, below, many)))
        ∙ new_row k lk ∙ ap (λ m. (den *ℤ p) *ℤ unit m k) (sym e)
    | inr o ↦ ap (λ r. dot r (row_at (combined p fs columns by) k)) (get_or-set_other rows i j row [] o) ∙ kept_row j k lj lk o
  ]

  pub multiples_long : Each (combined p fs columns by) (λ x. length x ≡ n)
  multiples_long = each_combined n p fs columns by (long_at i below) long

  pub multiples_count : length (combined p fs columns by) ≡ n
  multiples_count = length-combined p fs columns by (long_fs ∙ sym count) ∙ count

-- division
pub divided_inverts : (n : ℕ) (rows multiples made : List (List ℤ)) (multiple over g : ℤ) → pos 0 <ℤ g → multiples ≡ map (scale g) made → g *ℤ over ≡ multiple → Inverts n rows multiple multiples → Inverts n rows over made
divided_inverts n rows multiples made multiple over g p e f inv j k lj lk =
    mul_cancel (dot (row_at rows j) (row_at made k)) (over *ℤ unit j k) g (λ z. omega (arith, ints, p, z))
    (left g (dot (row_at rows j) (row_at made k))
    ∙ sym (ap (λ l. dot (row_at rows j) (row_at l k)) e ∙ ap (dot (row_at rows j)) (scaled_line g made k) ∙ dot-scale (row_at rows j) g (row_at made k))
    ∙ inv j k lj lk ∙ ap (λ z. z *ℤ unit j k) (sym f) ∙ right g over (unit j k))
  where
    left : (g x : ℤ) → x *ℤ g ≡ g *ℤ x
    left g x = rw (as_D g, as_D x) (simp Ds (same_D _ _ _ _ (omega arith)))

    right : (g o e : ℤ) → (g *ℤ o) *ℤ e ≡ (o *ℤ e) *ℤ g
    right g o e = rw (as_D g, as_D o, as_D e) (simp Ds (same_D _ _ _ _ (omega arith)))

-- lowest terms
divided_each : (d g : ℕ) (k : ℤ) (v : List ℤ) → unsigned_abs k ≡ g → DividesEach d v → DividesEach (g * d) (scale k v)
divided_each d g k [] e h = tt
divided_each d g k (x ∷ v) e h = (
  subst (λ n. g * d ∣ n) (sym (unsigned_abs-mul k x ∙ ap (λ n. n * unsigned_abs x) e)) (mul-dvd-mul_left d g h.0),
  divided_each d g k v e h.1,
)

divided_all : (d g : ℕ) (k : ℤ) (xs : List (List ℤ)) → unsigned_abs k ≡ g → Each xs (DividesEach d) → Each (map (scale k) xs) (DividesEach (g * d))
divided_all d g k [] e h = tt
divided_all d g k (x ∷ xs) e h = (divided_each d g k x e h.0, divided_all d g k xs e h.1)

pub divided_lowest : (multiples made : List (List ℤ)) (multiple over g : ℤ) → pos 0 <ℤ g → IsDivisorOf (unsigned_abs multiple) multiples (unsigned_abs g) → multiples ≡ map (scale g) made → g *ℤ over ≡ multiple → IsLowest over made
divided_lowest multiples made multiple over g p h e f d a b =
    one_left (unsigned_abs g) d (abs_positive g p)
    (h.2 (unsigned_abs g * d)
    (subst (λ z. unsigned_abs g * d ∣ unsigned_abs z) f (subst (λ z. unsigned_abs g * d ∣ z) (sym (unsigned_abs-mul g over)) (mul-dvd-mul_left d (unsigned_abs g) a)))
    (subst (λ xs. Each xs (DividesEach (unsigned_abs g * d))) (sym e) (divided_all d (unsigned_abs g) g made refl b)))

-- what an exchange of columns leaves as it was
pub made_long : (n i : ℕ) (den : ℤ) (us : List ℤ) (columns made : List (List ℤ)) (over : ℤ) → i < n → length columns ≡ n → length us ≡ n → Each columns (λ x. length x ≡ n) → IsExchanged i den us columns over made
    → (length made ≡ n) × Each made (λ x. length x ≡ n)
made_long n i den us columns made over below count many long x =
    let fs = set x.shares i (at x.shares i -ℤ x.factor) in
    let l : length fs ≡ length columns = length-set x.shares i (at x.shares i -ℤ x.factor) ∙ ap length x.turned.all ∙ length-scale x.turned.sign us ∙ many ∙ sym count in
    let e = sym x.combination ∙ x.lowered.columns in
    let lb = each_at (λ x. length x ≡ n) columns i [] (omega (arith, below, count)) long in (
      sym (length-map made (scale x.lowered.divisor)) ∙ ap length (sym e) ∙ length-combined (at x.shares i) fs columns (row_at columns i) l ∙ count,
      each_unscaled n x.lowered.divisor made (subst (λ xs. Each xs (λ x. length x ≡ n)) e (each_combined n (at x.shares i) fs columns (row_at columns i) lb long)),
    )

pub over_above : (i : ℕ) (den : ℤ) (us : List ℤ) (columns made : List (List ℤ)) (over : ℤ) → pos 0 <ℤ den → IsExchanged i den us columns over made → pos 0 <ℤ over
over_above i den us columns made over p x = positive_other (den *ℤ at x.shares i) over x.lowered.divisor (mul_pos_ℤ den (at x.shares i) p x.turned.positive) x.lowered.positive x.lowered.denominator

-- the whole of it
pub exchange_inverts : (n i : ℕ) (rows : List (List ℤ)) (old new : Inverse) (row us : List ℤ) → i < n → length rows ≡ n → us ≡ map (dot row) old.columns → IsExchanged i old.den us old.columns new.den new.columns
    → IsScaledInverse n rows old → IsScaledInverse n (set rows i row) new
exchange_inverts n i rows old new row us below many are x h =
    let inv = subst (λ xs. Inverts n (set rows i row) (old.den *ℤ at x.shares i) xs) (sym x.combination) (multiples_invert n i rows old.columns old.den row us x.shares x.factor below h.count many h.long h.inverts are x.turned) in
    let l = made_long n i old.den us old.columns new.columns new.den below h.count (ap length are ∙ length-map old.columns (dot row) ∙ h.count) h.long x in
    record {
      count = l.0;
      long = l.1;
      positive = over_above i old.den us old.columns new.columns new.den h.positive x;
      inverts = divided_inverts n (set rows i row) x.multiples new.columns (old.den *ℤ at x.shares i) new.den x.lowered.divisor x.lowered.positive x.lowered.columns x.lowered.denominator inv;
      lowest = x.lowered.lowest;
    }

-- a row whose product with its column is zero
orthogonal_from : (rows : List (List ℤ)) (v : List ℤ) → ((j : ℕ) → j < length rows → dot (row_at rows j) v ≡ pos 0) → IsOrthogonal rows v
orthogonal_from [] v f = tt
orthogonal_from (r ∷ rows) v f = (f 0 (omega arith), orthogonal_from rows v (λ j l. f (suc j) (omega (arith, l))))

pub dependent_rows : (n i : ℕ) (rows : List (List ℤ)) (a : Inverse) (row : List ℤ) → i < n → length rows ≡ n → dot row (row_at a.columns i) ≡ pos 0 → IsScaledInverse n rows a
    → IsOrthogonal (set rows i row) (row_at a.columns i) × ¬ (IsZero (row_at a.columns i))
dependent_rows n i rows a row below many zero_product h =
    (orthogonal_from (set rows i row) (row_at a.columns i) each, λ z. (let e = sym (dot-zero (row_at rows i) (row_at a.columns i) z) ∙ h.inverts i i below below ∙ ap (λ u. a.den *ℤ u) (unit_same i) in none a.den h.positive e))
  where
    none : (d : ℤ) → pos 0 <ℤ d → pos 0 ≡ d *ℤ pos 1 → ⊥
    none d p e = omega (arith, ints, p, e)

    each : (j : ℕ) → j < length (set rows i row) → dot (row_at (set rows i row) j) (row_at a.columns i) ≡ pos 0
    each j l = elim (cases_eq j i) [
      | inl e ↦ ap (λ m. dot (row_at (set rows i row) m) (row_at a.columns i)) e ∙ ap (λ r. dot r (row_at a.columns i)) (get_or-set_same rows i row [] (omega (arith, below, many))) ∙ zero_product
      | inr o ↦
          ap (λ r. dot r (row_at a.columns i)) (get_or-set_other rows i j row [] o)
          ∙ h.inverts j i (let m = length-set rows i row in omega (arith, l, m, many)) below ∙ ap (λ u. a.den *ℤ u) (unit_other j i o) ∙ *ℤ-zero a.den
    ]
