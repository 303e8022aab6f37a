-- whole numbers in lowest terms: there is one such list in each proportion
use Rattle.std.proofs.Common.{◌≡◌, ◌≢◌, ◌⊎◌, ℕ, zero, suc, ◌+◌, ◌-◌, ◌*◌, ◌/◌, ◌%◌, ◌<◌, ◌≤◌, List, [], ◌∷◌, length, map, arith, refl, sym, ap, ap₂, subst, ◌∙◌, inl, inr, ◌<ℤ◌, unsigned_abs, div-add-mod'}
use Rattle.std.proofs.lemmas.Int.{ints, unsigned_abs-mul}
use Rattle.std.proofs.lemmas.Nat.Gcd.{mod-eq-zero_of_dvd, dvd_of_mod-eq-zero, le_of_dvd}
use Rattle.std.proofs.Math.Nat.{dvd-mul_right}
use Rattle.std.proofs.Math.IntN.{ℤ, pos, negsuc, ◌+ℤ◌, ◌-ℤ◌, ◌*ℤ◌, neg_ℤ, pos-*ℤ-pos, *ℤ_comm}
use Prim.Native.Nat.{◌∣◌}
use native.Mathlib.Decide.{ℕ_discrete, dec_le, dec_lt}
use Rattle.wide_int.proofs.Ring.{as_D, Ds, same_D, mul_neg_ℤ}
use Rattle.wide_int.proofs.Order.{mul_cancel, mul_pos_ℤ}
use Rattle.int_vectors.specs.Vectors.{Each, scale, add, at}
use Rattle.int_vectors.proofs.Entries.{at-scale, at-add, length-scale}
use Rattle.cayley.proofs.Order.Lexicographic.{minus_one}
use Rattle.cayley.specs.Times.{time_zero}
use Rattle.cayley.specs.Problems.{file_points}
use Rattle.cayley.specs.Normals.{Normal}
use Rattle.cayley.specs.Mixed.{IsCoprime, HasFirstEntries}
use Rattle.cayley.specs.Laws.{OneLowestNormal}
use Rattle.cayley.proofs.OneCell.OneNormal.{same_values}
use Rattle.cayley.proofs.Algebra.Dependence.{length-map}

-- lists of one length with the same entries
same_at : (xs ys : List ℤ) → length xs ≡ length ys → ((e : ℕ) → at xs e ≡ at ys e) → xs ≡ ys
same_at [] [] l f = refl
same_at [] (y ∷ ys) l f = absurd (omega (arith, l))
same_at (x ∷ xs) [] l f = absurd (omega (arith, l))
same_at (x ∷ xs) (y ∷ ys) l f = ap₂ (λ z zs. z ∷ zs) (f 0) (same_at xs ys (omega (arith, l)) (λ e. f (suc e)))

-- what holds of each entry
each_entry : (P : ℤ → Type 0) (xs : List ℤ) → ((e : ℕ) → P (at xs e)) → Each xs P
each_entry P [] f = tt
each_entry P (x ∷ xs) f = (f 0, each_entry P xs (λ e. f (suc e)))

-- a common part of two numbers with their lists
record Common (m n : ℕ) (v w : List ℤ) : Type 0 where
  g : ℕ
  z : List ℤ
  i : ℕ
  j : ℕ
  m_is : m ≡ i * g
  n_is : n ≡ j * g
  v_is : (e : ℕ) → at v e ≡ pos i *ℤ at z e
  w_is : (e : ℕ) → at w e ≡ pos j *ℤ at z e

less_entry : (w v : List ℤ) (e : ℕ) → at (add w (scale (neg_ℤ (pos 1)) v)) e ≡ at w e -ℤ at v e
less_entry w v e = at-add w (scale (neg_ℤ (pos 1)) v) e ∙ ap (λ x. at w e +ℤ x) (at-scale (neg_ℤ (pos 1)) v e ∙ minus_one (at v e))

-- n v = m w gives (n - m) v = m (w - v)
less_step : (a m x y : ℤ) → (m +ℤ a) *ℤ x ≡ m *ℤ y → a *ℤ x ≡ m *ℤ (y -ℤ x)
less_step a m x y e = let r = ring a m x y in omega (arith, ints, r, e)
  where
    ring : (a m x y : ℤ) → a *ℤ x +ℤ m *ℤ y ≡ m *ℤ (y -ℤ x) +ℤ (m +ℤ a) *ℤ x
    ring a m x y = rw (as_D a, as_D m, as_D x, as_D y) (simp Ds (same_D _ _ _ _ (omega arith)))

more_step : (i j : ℕ) (y x z : ℤ) → x ≡ pos i *ℤ z → y -ℤ x ≡ pos j *ℤ z → y ≡ pos (i + j) *ℤ z
more_step i j y x z e f = let r = ring (pos i) (pos j) z in let k : pos (i + j) ≡ pos i +ℤ pos j = omega (arith, ints) in rw k (omega (arith, ints, e, f, r))
  where
    ring : (a b z : ℤ) → (a +ℤ b) *ℤ z ≡ a *ℤ z +ℤ b *ℤ z
    ring a b z = rw (as_D a, as_D b, as_D z) (simp Ds (same_D _ _ _ _ (omega arith)))

-- subtract the less from the greater, as long as they differ
common : (fuel m n : ℕ) (v w : List ℤ) → 1 ≤ m → 1 ≤ n → m + n ≤ fuel → ((e : ℕ) → pos n *ℤ at v e ≡ pos m *ℤ at w e) → Common m n v w
common zero m n v w pm pn l f = absurd (omega arith)
common (suc fuel) m n v w pm pn l f = elim (dec_lt m n) [
  | yes less ↦
      let a = n - m in
      let u = add w (scale (neg_ℤ (pos 1)) v) in
      let k : pos n ≡ pos m +ℤ pos a = omega (arith, ints, less) in
      let r = common fuel m a v u pm (omega (arith, less)) (omega (arith, less)) (λ e. less_step (pos a) (pos m) (at v e) (at w e) (subst (λ x. x *ℤ at v e ≡ pos m *ℤ at w e) k (f e)) ∙ ap (λ x. pos m *ℤ x) (sym (less_entry w v e))) in
      record {
        g = r.g;
        z = r.z;
        i = r.i;
        j = r.i + r.j;
        m_is = r.m_is;
        n_is = add_up m n r.i r.j r.g r.m_is r.n_is less;
        v_is = r.v_is;
        w_is = λ e. more_step r.i r.j (at w e) (at v e) (at r.z e) (r.v_is e) (sym (less_entry w v e) ∙ r.w_is e);
      }
  | no not_less ↦ elim (dec_lt n m) [
    | yes less ↦
        let a = m - n in
        let u = add v (scale (neg_ℤ (pos 1)) w) in
        let k : pos m ≡ pos n +ℤ pos a = omega (arith, ints, less) in
        let r = common fuel a n u w (omega (arith, less)) pn (omega (arith, less)) (λ e. ap (λ x. pos n *ℤ x) (less_entry v w e) ∙ sym (less_step (pos a) (pos n) (at w e) (at v e) (subst (λ x. x *ℤ at w e ≡ pos n *ℤ at v e) k (sym (f e))))) in
        record {
          g = r.g;
          z = r.z;
          i = r.j + r.i;
          j = r.j;
          m_is = add_up n m r.j r.i r.g r.n_is r.m_is less;
          n_is = r.n_is;
          v_is = λ e. more_step r.j r.i (at v e) (at w e) (at r.z e) (r.w_is e) (sym (less_entry v w e) ∙ r.v_is e);
          w_is = r.w_is;
        }
    | no not_more ↦
        let k : n ≡ m = omega (arith, not_less, not_more) in
        record {
          g = m;
          z = v;
          i = 1;
          j = 1;
          m_is = omega arith;
          n_is = omega (arith, k);
          v_is = λ e. omega (arith, ints);
          w_is = λ e. alike m (at v e) (at w e) pm (subst (λ x. pos x *ℤ at v e ≡ pos m *ℤ at w e) k (f e));
        }
  ]
]
  where
    add_up : (m n i j g : ℕ) → m ≡ i * g → n - m ≡ j * g → m < n → n ≡ (i + j) * g
    add_up m n i j g e f l = omega (arith, e, f, l)

    alike : (m : ℕ) (x y : ℤ) → 1 ≤ m → pos m *ℤ x ≡ pos m *ℤ y → y ≡ pos 1 *ℤ x
    alike m x y p e =
        let n : pos m ≢ pos 0 = λ z. omega (arith, ints, p, z) in
        let h = mul_cancel x y (pos m) n (*ℤ_comm x (pos m) ∙ e ∙ *ℤ_comm (pos m) y) in
        omega (arith, ints, h)

-- a number that divides all
divides : (i g : ℕ) (z v : List ℤ) (m : ℕ) → m ≡ i * g → ((e : ℕ) → at v e ≡ pos i *ℤ at z e) → Each (pos m ∷ v) (λ x. i ∣ unsigned_abs x)
divides i g z v m e f = (
  subst (λ x. i ∣ x) (sym e) (dvd-mul_right i g),
  each_entry (λ x. i ∣ unsigned_abs x) v (λ k. subst (λ x. i ∣ unsigned_abs x) (sym (f k)) (subst (λ x. i ∣ x) (sym (unsigned_abs-mul (pos i) (at z k))) (dvd-mul_right i (unsigned_abs (at z k))))),
)

-- in one proportion and both in lowest terms: the same
one_lowest_by : (m n : ℕ) (v w : List ℤ) → 1 ≤ m → 1 ≤ n → length v ≡ length w → IsCoprime (pos m ∷ v) → IsCoprime (pos n ∷ w) → ((e : ℕ) → pos n *ℤ at v e ≡ pos m *ℤ at w e) → (v ≡ w) × (m ≡ n)
one_lowest_by m n v w pm pn l cv cw f =
    let r = common (m + n) m n v w pm pn (omega arith) f in
    let i : r.i ≡ 1 = cv r.i (divides r.i r.g r.z v m r.m_is r.v_is) in
    let j : r.j ≡ 1 = cw r.j (divides r.j r.g r.z w n r.n_is r.w_is) in
    let same : r.i ≡ r.j = i ∙ sym j in (
      same_at v w l (λ e. r.v_is e ∙ ap (λ x. pos x *ℤ at r.z e) same ∙ sym (r.w_is e)),
      r.m_is ∙ ap (λ x. x * r.g) same ∙ sym r.n_is,
    )

one_lowest : (a b : ℤ) (v w : List ℤ) → pos 0 <ℤ a → pos 0 <ℤ b → length v ≡ length w → IsCoprime (a ∷ v) → IsCoprime (b ∷ w) → ((e : ℕ) → b *ℤ at v e ≡ a *ℤ at w e) → (v ≡ w) × (a ≡ b)
one_lowest (pos m) (pos n) v w pa pb l cv cw f = let r = one_lowest_by m n v w (omega (arith, ints, pa)) (omega (arith, ints, pb)) l cv cw f in (r.0, ap pos r.1)
one_lowest (negsuc m) b v w pa pb l cv cw f = absurd (omega (arith, ints, pa))
one_lowest (pos m) (negsuc n) v w pa pb l cv cw f = absurd (omega (arith, ints, pb))

-- ---- and there is one: divide by what is common, as long as there is something
quotient : (d : ℕ) (x : ℤ) → d ∣ unsigned_abs x → (y : ℤ) × (x ≡ pos d *ℤ y)
quotient d (pos n) h = (pos (n / d), sym (pos-*ℤ-pos d (n / d) ∙ ap pos (whole d n h)))
  where
    whole : (d n : ℕ) → d ∣ n → d * (n / d) ≡ n
    whole d n h = let e = div-add-mod' n d in let z = mod-eq-zero_of_dvd d h in omega (arith, e, z)
quotient d (negsuc n) h = (neg_ℤ (pos (suc n / d)), sym (mul_neg_ℤ (pos d) (pos (suc n / d)) ∙ ap neg_ℤ (pos-*ℤ-pos d (suc n / d) ∙ ap pos (whole d (suc n) h))))
  where
    whole : (d n : ℕ) → d ∣ n → d * (n / d) ≡ n
    whole d n h = let e = div-add-mod' n d in let z = mod-eq-zero_of_dvd d h in omega (arith, e, z)

quotients : (d : ℕ) (xs : List ℤ) → Each xs (λ x. d ∣ unsigned_abs x) → (ys : List ℤ) × (length ys ≡ length xs) × ((e : ℕ) → at xs e ≡ pos d *ℤ at ys e)
quotients d [] h = ([], refl, λ e. omega (arith, ints))
quotients d (x ∷ xs) h =
    let y = quotient d x h.0 in
    let r = quotients d xs h.1 in
    (y.0 ∷ r.0, ap suc r.1, λ e. entry y.0 r.0 y.1 r.2 e)
  where
    entry : (y : ℤ) (ys : List ℤ) → x ≡ pos d *ℤ y → ((e : ℕ) → at xs e ≡ pos d *ℤ at ys e) → (e : ℕ) → at (x ∷ xs) e ≡ pos d *ℤ at (y ∷ ys) e
    entry y ys a f zero = a
    entry y ys a f (suc e) = f e

dec_divides : (d : ℕ) (xs : List ℤ) → Dec (Each xs (λ x. d ∣ unsigned_abs x))
dec_divides d [] = yes tt
dec_divides d (x ∷ xs) = elim (ℕ_discrete (unsigned_abs x % d) 0) [
  | no n ↦ no (λ h. n (mod-eq-zero_of_dvd d h.0))
  | yes e ↦ elim (dec_divides d xs) [ no n ↦ no (λ h. n h.1) | yes r ↦ yes (dvd_of_mod-eq-zero d e, r) ]
]

-- a divisor from 2 to n, or none
find_divisor : (n : ℕ) (xs : List ℤ) → ((d : ℕ) × (2 ≤ d) × Each xs (λ x. d ∣ unsigned_abs x)) ⊎ ((d : ℕ) → 2 ≤ d → d ≤ n → ¬ (Each xs (λ x. d ∣ unsigned_abs x)))
find_divisor zero xs = inr (λ d p l h. omega (arith, p, l))
find_divisor (suc n) xs = elim (find_divisor n xs) [
  | inl r ↦ inl r
  | inr none ↦ elim (dec_le 2 (suc n)) [
    | no small ↦ inr (λ d p l h. absurd (omega (arith, p, l, small)))
    | yes large ↦ elim (dec_divides (suc n) xs) [
      | yes h ↦ inl (suc n, large, h)
      | no m ↦ inr (λ d p l h. elim (ℕ_discrete d (suc n)) [ yes e ↦ m (subst (λ k. Each xs (λ x. k ∣ unsigned_abs x)) e h) | no apart ↦ none d p (omega (arith, l, apart)) h ])
    ]
  ]
]

record Lowest (k : ℤ) (xs : List ℤ) : Type 0 where
  v : List ℤ
  den : ℤ
  positive : pos 0 <ℤ den
  coprime : IsCoprime (den ∷ v)
  long : length v ≡ length xs
  is : (e : ℕ) → k *ℤ at v e ≡ den *ℤ at xs e

lowest_by : (fuel m : ℕ) (k : ℤ) (xs v : List ℤ) → 1 ≤ m → m ≤ fuel → length v ≡ length xs → ((e : ℕ) → k *ℤ at v e ≡ pos m *ℤ at xs e) → Lowest k xs
lowest_by zero m k xs v p l long f = absurd (omega (arith, p, l))
lowest_by (suc fuel) m k xs v p l long f = elim (find_divisor m (pos m ∷ v)) [
  | inr none ↦ record {
    v = v;
    den = pos m;
    positive = omega (arith, ints, p);
    coprime = λ d h. one_only m v d p none h;
    long = long;
    is = f;
  }
  | inl r ↦
      let d = r.0 in
      let n = m / d in
      let q = quotients d v r.2.1 in
      let e : n * d + m % d ≡ m = div-add-mod' m d in
      let z : m % d ≡ 0 = mod-eq-zero_of_dvd d r.2.0 in
      lowest_by fuel n k xs q.0 (some m d n (e ∙ refl) z p) (smaller m d n fuel e z r.1 p l) (q.1 ∙ long)
      (λ i. divided d n m k (at v i) (at q.0 i) (at xs i) r.1 e z (q.2 i) (f i))
]
  where
    one_only : (m : ℕ) (v : List ℤ) (d : ℕ) → 1 ≤ m → ((d : ℕ) → 2 ≤ d → d ≤ m → ¬ (Each (pos m ∷ v) (λ x. d ∣ unsigned_abs x))) → Each (pos m ∷ v) (λ x. d ∣ unsigned_abs x) → d ≡ 1
    one_only m v d p none h =
        let l : d ≤ m = le_of_dvd (omega (arith, p)) h.0 in
        elim (dec_le 2 d) [
          | yes two ↦ absurd (none d two l h)
          | no small ↦ elim (ℕ_discrete d 0) [
            | yes e ↦ absurd (let a = mod-eq-zero_of_dvd 0 (subst (λ k. k ∣ m) e h.0) in let b = div-add-mod' m 0 in omega (arith, a, b, p))
            | no apart ↦ omega (arith, small, apart)
          ]
        ]

    some : (m d n : ℕ) → n * d + m % d ≡ m → m % d ≡ 0 → 1 ≤ m → 1 ≤ n
    some m d zero e z p = absurd (omega (arith, e, z, p))
    some m d (suc n) e z p = omega arith

    bound : (m d n fuel c : ℕ) → d ≡ c + 2 → n * d ≡ m → 1 ≤ m → m ≤ suc fuel → n ≤ fuel
    bound m d n fuel c e f p l =
        let g : n * (c + 2) ≡ m = subst (λ x. n * x ≡ m) e f in
        omega (arith, g, p, l)

    smaller : (m d n fuel : ℕ) → n * d + m % d ≡ m → m % d ≡ 0 → 2 ≤ d → 1 ≤ m → m ≤ suc fuel → n ≤ fuel
    smaller m d n fuel e z t p l = bound m d n fuel (d - 2) (omega (arith, t)) (omega (arith, e, z)) p l

    left : (k y d : ℤ) → (k *ℤ y) *ℤ d ≡ k *ℤ (d *ℤ y)
    left k y d = rw (as_D k, as_D y, as_D d) (simp Ds (same_D _ _ _ _ (omega arith)))

    right : (n d a : ℤ) → (n *ℤ d) *ℤ a ≡ (n *ℤ a) *ℤ d
    right n d a = rw (as_D n, as_D d, as_D a) (simp Ds (same_D _ _ _ _ (omega arith)))

    divided : (d n m : ℕ) (k x y a : ℤ) → 2 ≤ d → n * d + m % d ≡ m → m % d ≡ 0 → x ≡ pos d *ℤ y → k *ℤ x ≡ pos m *ℤ a → k *ℤ y ≡ pos n *ℤ a
    divided d n m k x y a t e z f g =
        let s : pos d ≢ pos 0 = λ q. omega (arith, ints, t, q) in
        let h : pos m ≡ pos n *ℤ pos d = ap pos (sym e ∙ (let i = z in omega (arith, i))) ∙ sym (pos-*ℤ-pos n d) in
        let u : k *ℤ (pos d *ℤ y) ≡ (pos n *ℤ pos d) *ℤ a = subst (λ w. k *ℤ w ≡ (pos n *ℤ pos d) *ℤ a) f (subst (λ w. k *ℤ x ≡ w *ℤ a) h g) in
        mul_cancel (k *ℤ y) (pos n *ℤ a) (pos d) s (left k y (pos d) ∙ u ∙ right (pos n) (pos d) a)

a_lowest : (k : ℤ) (xs : List ℤ) → pos 0 <ℤ k → Lowest k xs
a_lowest (pos m) xs p = lowest_by m m (pos m) xs xs (omega (arith, ints, p)) (omega arith) refl (λ e. refl)
a_lowest (negsuc m) xs p = absurd (omega (arith, ints, p))

-- ---- the normal of a mixed cell
first_entries : Normal → List ℤ
first_entries w = map (λ e. at e 0) w.entries

entry_first : (w : Normal) (v : List ℤ) (den : ℤ) → HasFirstEntries w v den → (e : ℕ) → w.over *ℤ at v e ≡ den *ℤ at (first_entries w) e
unfolding first_entries
entry_first w v den h e = sym (at-scale w.over v e) ∙ ap (λ l. at l e) h ∙ at-scale den (map (λ x. at x 0) w.entries) e

pub long_first : (w : Normal) (v : List ℤ) (den : ℤ) → HasFirstEntries w v den → length v ≡ length w.entries
long_first w v den h = sym (length-scale w.over v) ∙ ap length h ∙ length-scale den (map (λ x. at x 0) w.entries) ∙ length-map (λ x. at x 0) w.entries

proportion : (p q a b x y s t : ℤ) → pos 0 <ℤ p → pos 0 <ℤ q → p *ℤ x ≡ a *ℤ s → q *ℤ y ≡ b *ℤ t → q *ℤ s ≡ p *ℤ t → b *ℤ x ≡ a *ℤ y
proportion p q a b x y s t pp pq e f g =
    let n : (p *ℤ q) ≢ pos 0 = λ z. let h = mul_pos_ℤ p q pp pq in omega (arith, ints, h, z) in
    mul_cancel (b *ℤ x) (a *ℤ y) (p *ℤ q) n
    (one b x p q ∙ ap (λ w. (q *ℤ b) *ℤ w) e ∙ two q b a s ∙ ap (λ w. (a *ℤ b) *ℤ w) g ∙ three a b p t ∙ ap (λ w. (a *ℤ p) *ℤ w) (sym f) ∙ four a p q y)
  where
    one : (b x p q : ℤ) → (b *ℤ x) *ℤ (p *ℤ q) ≡ (q *ℤ b) *ℤ (p *ℤ x)
    one b x p q = rw (as_D b, as_D x, as_D p, as_D q) (simp Ds (same_D _ _ _ _ (omega arith)))

    two : (q b a s : ℤ) → (q *ℤ b) *ℤ (a *ℤ s) ≡ (a *ℤ b) *ℤ (q *ℤ s)
    two q b a s = rw (as_D q, as_D b, as_D a, as_D s) (simp Ds (same_D _ _ _ _ (omega arith)))

    three : (a b p t : ℤ) → (a *ℤ b) *ℤ (p *ℤ t) ≡ (a *ℤ p) *ℤ (b *ℤ t)
    three a b p t = rw (as_D a, as_D b, as_D p, as_D t) (simp Ds (same_D _ _ _ _ (omega arith)))

    four : (a p q y : ℤ) → (a *ℤ p) *ℤ (q *ℤ y) ≡ (a *ℤ y) *ℤ (p *ℤ q)
    four a p q y = rw (as_D a, as_D p, as_D q, as_D y) (simp Ds (same_D _ _ _ _ (omega arith)))

pub one_lowest_normal_law : OneLowestNormal
unfolding first_entries
one_lowest_normal_law p cell well mixed = (
  (let w = mixed.2.0 in
      let r = a_lowest w.over (map (λ x. at x 0) w.entries) w.positive in (
        r.v,
        r.den,
        (
          r.positive,
          r.coprime,
          (
            w,
            mixed.2.1,
            same_at (scale w.over r.v) (scale r.den (map (λ x. at x 0) w.entries)) (length-scale w.over r.v ∙ r.long ∙ sym (length-scale r.den (map (λ x. at x 0) w.entries)))
                (λ e. at-scale w.over r.v e ∙ r.is e ∙ sym (at-scale r.den (map (λ x. at x 0) w.entries) e)),
          ),
        ),
      )),
  (λ v w a b h k.
      let x = h.2.0 in
      let y = k.2.0 in
      let s = same_values (file_points p) cell time_zero x y well mixed.0 mixed.1 h.2.1 k.2.1 0 in
      one_lowest a b v w h.0 k.0 (long_first x v a h.2.2 ∙ h.2.1.0 ∙ sym k.2.1.0 ∙ sym (long_first y w b k.2.2)) h.1 k.1 (λ e.
      proportion x.over y.over a b (at v e) (at w e) (at (map (λ x. at x 0) x.entries) e) (at (map (λ x. at x 0) y.entries) e) x.positive y.positive
      (entry_first x v a h.2.2 e) (entry_first y w b k.2.2 e)
      (sym (at-scale y.over (map (λ x. at x 0) x.entries) e) ∙ ap (λ l. at l e) s ∙ at-scale x.over (map (λ x. at x 0) y.entries) e))),
)
