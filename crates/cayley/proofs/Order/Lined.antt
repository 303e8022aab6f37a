-- a property of times that says of finitely many lines that they are positive: decided now, just after, just before, at all early times
use Rattle.std.proofs.Common.{◌≡◌, ◌⊎◌, ℕ, zero, suc, ◌<◌, List, [], ◌∷◌, ◌++◌, length, map, arith, refl, sym, ap, subst, ◌∙◌, inl, inr, ◌<ℤ◌}
use Rattle.std.proofs.lemmas.Int.{ints}
use Rattle.std.proofs.Math.IntN.{ℤ, pos, ◌+ℤ◌, ◌*ℤ◌, neg_ℤ, ℤ_discrete, *ℤ-zero}
use native.Mathlib.Decide.{ℕ_discrete, dec_le}
use Rattle.wide_int.proofs.Ring.{as_D, Ds, same_D}
use Rattle.wide_int.proofs.Order.{sign_cases}
use Rattle.cayley.proofs.Order.Lexicographic.{positive-same, positive-scale, positive-unscale, not_both, three, minus_one}
use Rattle.cayley.proofs.Order.Lines.{Line, line_at, Before, AllPositive, SignAfter, just_after_from, just_after_to, before_trans, zero_of, before_zero, later, earlier, middle}
use Rattle.cayley.proofs.Searching.Listing.{Has}
use Rattle.cayley.proofs.Order.Times.{Same, same_sym, later-self, time_cases, less, turned, turned_one, turned_both, turned_back, sooner, same_before, before_same}
use Rattle.int_vectors.specs.Vectors.{Each, IsZero, IsPositive, scale, at}
use Rattle.int_vectors.proofs.Entries.{at-scale, at-add, zero_from, not_zero, at-zero}
use Rattle.cayley.specs.Times.{Time, time_zero, IsBefore}
use Rattle.cayley.specs.Problems.{Point}
use Rattle.cayley.specs.Cells.{Cell, EachPair, IsFurther}
use Rattle.cayley.proofs.Algebra.RowDependencies.{each-left, each-right}
use Rattle.int_vectors.proofs.Each.{each_append}

pub record Lined (P : Time → Type 0) : Type 0 where
  pub list : List Line
  pub to : (t : Time) → P t → AllPositive list t
  pub from : (t : Time) → AllPositive list t → P t

-- ---- made of smaller ones
pub lined_always : (P : Time → Type 0) → ((t : Time) → P t) → Lined P
lined_always P h = record { list = []; to = λ t q. tt; from = λ t q. h t }

pub lined_both : (P Q : Time → Type 0) → Lined P → Lined Q → Lined (λ t. P t × Q t)
lined_both P Q p q = record {
  list = p.list ++ q.list;
  to = λ t h. each_append (λ l. IsPositive (line_at l t)) p.list q.list (p.to t h.0) (q.to t h.1);
  from = λ t h. (p.from t (each-left (λ l. IsPositive (line_at l t)) p.list q.list h), q.from t (each-right (λ l. IsPositive (line_at l t)) p.list q.list h));
}

pub lined_map : (P Q : Time → Type 0) → ((t : Time) → P t → Q t) → ((t : Time) → Q t → P t) → Lined P → Lined Q
lined_map P Q f g p = record { list = p.list; to = λ t h. p.to t (g t h); from = λ t h. f t (p.from t h) }

pub lined_below : (n : ℕ) (P : ℕ → Time → Type 0) → ((c : ℕ) → c < n → Lined (P c)) → Lined (λ t. (c : ℕ) → c < n → P c t)
lined_below zero P h = lined_always _ (λ t c lt. absurd (omega arith))
lined_below (suc n) P h =
    lined_map (λ t. ((c : ℕ) → c < n → P c t) × P n t) _ (λ t q c lt. last t q c lt) (λ t q. ((λ c lt. q c (omega arith)), q n (omega arith)))
    (lined_both (λ t. (c : ℕ) → c < n → P c t) (P n) (lined_below n P (λ c lt. h c (omega arith))) (h n (omega arith)))
  where
    last : (t : Time) → ((c : ℕ) → c < n → P c t) × P n t → (c : ℕ) → c < suc n → P c t
    last t q c lt = elim (ℕ_discrete c n) [ yes e ↦ subst (λ k. P k t) (sym e) q.1 | no apart ↦ q.0 c (omega arith) ]

pub further_cases : {P : Type 0} (s : List Point) (a b c : ℕ) → (IsFurther s a b c → P) → (¬ (IsFurther s a b c) → P) → P
further_cases s a b c f g =
    elim (dec_le 1 c) [
      | no n ↦ g (λ h. n h.0)
      | yes p ↦ elim (dec_le c (length s)) [
        | no n ↦ g (λ h. n h.1)
        | yes q ↦ elim (ℕ_discrete c a) [
          | yes e ↦ g (λ h. h.2 e)
          | no m ↦ elim (ℕ_discrete c b) [
            | yes e ↦ g (λ h. h.3 e)
            | no k ↦ f (p, q, m, k)
          ]
        ]
      ]
    ]

pub lined_further : (s : List Point) (a b : ℕ) (P : ℕ → Time → Type 0) → ((c : ℕ) → IsFurther s a b c → Lined (P c)) → Lined (λ t. (c : ℕ) → IsFurther s a b c → P c t)
lined_further s a b P h =
    lined_map (λ t. (c : ℕ) → c < suc (length s) → IsFurther s a b c → P c t) _ (λ t q c f. q c (omega (arith, f.1)) f) (λ t q c lt f. q c f)
    (lined_below (suc (length s)) (λ c t. IsFurther s a b c → P c t) (λ c lt. one c))
  where
    one : (c : ℕ) → Lined (λ t. IsFurther s a b c → P c t)
    one c =
        further_cases s a b c
        (λ f. lined_map (P c) _ (λ t r g. r) (λ t r. r f) (h c f))
        (λ n. lined_always (λ t. IsFurther s a b c → P c t) (λ t g. absurd (n g)))

pub lined_pairs : (supports : List (List Point)) (cell : Cell) (P : Time → List Point → ℕ → ℕ → Type 0)
    → EachPair supports cell (λ s a b. Lined (λ t. P t s a b)) → Lined (λ t. EachPair supports cell (P t))
lined_pairs [] [] P e = lined_always _ (λ t. tt)
lined_pairs [] (pair ∷ cell) P e = absurd e
lined_pairs (s ∷ supports) [] P e = absurd e
lined_pairs (s ∷ supports) (pair ∷ cell) P e = lined_both (λ t. P t s pair.0 pair.1) (λ t. EachPair supports cell (P t)) e.0 (lined_pairs supports cell P e.1)

-- ---- decided
pub dec_positive : (u : List ℤ) → Dec (IsPositive u)
dec_positive u = three u (λ n. no (λ p. not_both u p n)) (λ z. no (λ p. not_zero u p z)) (λ p. yes p)

pub dec_zero : (u : List ℤ) → Dec (IsZero u)
dec_zero [] = yes tt
dec_zero (x ∷ u) = elim (ℤ_discrete x (pos 0)) [ no n ↦ no (λ z. n z.0) | yes e ↦ elim (dec_zero u) [ no n ↦ no (λ z. n z.1) | yes z ↦ yes (e, z) ] ]

pub dec_each : {A : Type 0} (P : A → Type 0) → ((x : A) → Dec (P x)) → (xs : List A) → Dec (Each xs P)
dec_each P dec [] = yes tt
dec_each P dec (x ∷ xs) = elim (dec x) [ no n ↦ no (λ z. n z.0) | yes p ↦ elim (dec_each P dec xs) [ no n ↦ no (λ z. n z.1) | yes q ↦ yes (p, q) ] ]

pub dec_now : (P : Time → Type 0) → Lined P → (t : Time) → Dec (P t)
dec_now P p t = elim (dec_each (λ l. IsPositive (line_at l t)) (λ l. dec_positive (line_at l t)) p.list) [ yes h ↦ yes (p.from t h) | no n ↦ no (λ h. n (p.to t h)) ]

-- just after
abbrev pub After : (Time → Type 0) → Time → Type 0
After P t = (u : Time) × IsBefore t u × ((x : Time) → IsBefore t x → IsBefore x u → P x)

abbrev pub Ahead : (Time → Type 0) → Time → Type 0
Ahead P t = (u : Time) × IsBefore u t × ((x : Time) → IsBefore u x → IsBefore x t → P x)

abbrev pub Early : (Time → Type 0) → Type 0
Early P = (u : Time) × ((x : Time) → IsBefore x u → P x)

dec_sign : (t : Time) (l : Line) → Dec (SignAfter t l)
dec_sign t l =
    three (line_at l t)
    (λ n. no (λ s. elim s [ inl p ↦ not_both (line_at l t) p n | inr z ↦ flat (line_at l t) n z.0 ]))
    (λ z. sign_cases l.slope
    (λ n. no (λ s. elim s [ inl p ↦ not_zero (line_at l t) p z | inr h ↦ let e = h.1 in absurd (omega (arith, ints)) ]))
    (λ n. no (λ s. elim s [ inl p ↦ not_zero (line_at l t) p z | inr h ↦ let e = h.1 in absurd (omega (arith, ints)) ]))
    (λ h. yes (inr (z, h))))
    (λ p. yes (inl p))
  where
    flat : (u : List ℤ) → IsPositive (scale (neg_ℤ (pos 1)) u) → ¬ (IsZero u)
    flat [] p z = p
    flat (x ∷ u) (inl p) z = let e = z.0 in omega (arith, ints)
    flat (x ∷ u) (inr p) z = flat u p.1 z.1

pub after_to : (P : Time → Type 0) (p : Lined P) (t : Time) → After P t → Each p.list (SignAfter t)
after_to P p t h = just_after_to p.list t h.0 h.1 (λ u a b. p.to u (h.2 u a b))

pub after_from : (P : Time → Type 0) (p : Lined P) (t : Time) → Each p.list (SignAfter t) → After P t
after_from P p t h = let j = just_after_from p.list t h in (j.until, j.later_is, λ x a b. p.from x (j.holds x a b))

pub dec_after : (P : Time → Type 0) → Lined P → (t : Time) → Dec (After P t)
dec_after P p t = elim (dec_each (SignAfter t) (dec_sign t) p.list) [ yes h ↦ yes (after_from P p t h) | no n ↦ no (λ h. n (after_to P p t h)) ]

-- just before: the same with time turned around
unfoldable pub turned_line : Line → Line
turned_line l = record { start = l.start; slope = neg_ℤ l.slope }

pub turn-at : (l : Line) (t : Time) (e : ℕ) → at (line_at (turned_line l) (turned t)) e ≡ at (line_at l t) e
unfolding turned_line turned
turn-at l t e = simp (at-add, at-scale) (ring t.over (at l.start e) l.slope (at t.entries e) _ (minus_one (at t.entries e)))
  where
    ring1 : (q a b x : ℤ) → q *ℤ a +ℤ neg_ℤ b *ℤ neg_ℤ x ≡ q *ℤ a +ℤ b *ℤ x
    ring1 q a b x = rw (as_D q, as_D a, as_D b, as_D x) (simp Ds (same_D _ _ _ _ (omega arith)))

    ring : (q a b x z : ℤ) → z ≡ neg_ℤ x → q *ℤ a +ℤ neg_ℤ b *ℤ z ≡ q *ℤ a +ℤ b *ℤ x
    ring q a b x z e = rw e (ring1 q a b x)

pub turn-back : (l : Line) (t : Time) (e : ℕ) → at (line_at (turned_line l) t) e ≡ at (line_at l (turned t)) e
unfolding turned_line turned
turn-back l t e = simp (at-add, at-scale) (ring t.over (at l.start e) l.slope (at t.entries e) _ (minus_one (at t.entries e)))
  where
    ring1 : (q a b x : ℤ) → q *ℤ a +ℤ neg_ℤ b *ℤ x ≡ q *ℤ a +ℤ b *ℤ neg_ℤ x
    ring1 q a b x = rw (as_D q, as_D a, as_D b, as_D x) (simp Ds (same_D _ _ _ _ (omega arith)))

    ring : (q a b x z : ℤ) → z ≡ neg_ℤ x → q *ℤ a +ℤ neg_ℤ b *ℤ x ≡ q *ℤ a +ℤ b *ℤ z
    ring q a b x z e = rw e (ring1 q a b x)

turn_each : (ls : List Line) (t : Time) → AllPositive (map turned_line ls) (turned t) → AllPositive ls t
turn_each [] t h = tt
turn_each (l ∷ ls) t h = (positive-same (line_at (turned_line l) (turned t)) (line_at l t) (turn-at l t) h.0, turn_each ls t h.1)

-- positive, or zero and falling
abbrev pub SignBefore : Time → Line → Type 0
SignBefore t l = IsPositive (line_at l t) ⊎ (IsZero (line_at l t) × (l.slope <ℤ pos 0))

pub sign_turned : (t : Time) (l : Line) → SignBefore t l → SignAfter (turned t) (turned_line l)
unfolding turned_line
sign_turned t l (inl h) = inl (positive-same _ _ (λ e. sym (turn-at l t e)) h)
sign_turned t l (inr h) = let s = h.1 in inr (zero_from _ (λ e. turn-at l t e ∙ at-zero _ e h.0), omega (arith, ints, s))

pub turn_far : (ls : List Line) (t : Time) → AllPositive (map turned_line ls) t → AllPositive ls (turned t)
turn_far [] t h = tt
turn_far (l ∷ ls) t h = (positive-same (line_at (turned_line l) t) (line_at l (turned t)) (turn-back l t) h.0, turn_far ls t h.1)

pub turn_near : (ls : List Line) (t : Time) → AllPositive ls (turned t) → AllPositive (map turned_line ls) t
turn_near [] t h = tt
turn_near (l ∷ ls) t h = (positive-same (line_at l (turned t)) (line_at (turned_line l) t) (λ e. sym (turn-back l t e)) h.0, turn_near ls t h.1)

unfoldable pub mirrored : (P : Time → Type 0) → Lined P → Lined (λ t. P (turned t))
mirrored P p = record {
  list = map turned_line p.list;
  to = λ t h. turn_near p.list t (p.to (turned t) h);
  from = λ t h. p.from (turned t) (turn_far p.list t h);
}

-- just before t is just after in the mirror
pub ahead_from : (P : Time → Type 0) → Lined P → (t : Time) → After (λ x. P (turned x)) (turned t) → Ahead P t
unfolding mirrored
ahead_from P p t h = (
  turned h.0,
  turned_one t h.0 h.1,
  λ x a b.
      let k = (mirrored P p).to (turned x) (h.2 (turned x) (turned_both x t b) (turned_one h.0 x a)) in
      p.from x (turn_each p.list x k),
)

pub ahead_to : (P : Time → Type 0) → Lined P → (t : Time) → Ahead P t → After (λ x. P (turned x)) (turned t)
ahead_to P p t h = (
  turned h.0,
  turned_both h.0 t h.1,
  λ x a b. h.2 (turned x) (turned_back x h.0 b) (turned_one t x a),
)

pub dec_ahead : (P : Time → Type 0) → Lined P → (t : Time) → Dec (Ahead P t)
dec_ahead P p t = elim (dec_after (λ x. P (turned x)) (mirrored P p) (turned t)) [ yes h ↦ yes (ahead_from P p t h) | no n ↦ no (λ h. n (ahead_to P p t h)) ]

-- at all early times
abbrev pub SignEarly : Line → Type 0
SignEarly l = (l.slope <ℤ pos 0) ⊎ ((l.slope ≡ pos 0) × IsPositive l.start)

pub flat-at : (l : Line) (t : Time) → l.slope ≡ pos 0 → (e : ℕ) → at (scale t.over l.start) e ≡ at (line_at l t) e
flat-at l t z e = simp (at-add, at-scale) (ring t.over (at l.start e) l.slope (at t.entries e) z)
  where
    ring1 : (q a x : ℤ) → q *ℤ a ≡ q *ℤ a +ℤ pos 0 *ℤ x
    ring1 q a x = omega (arith, ints)

    ring : (q a b x : ℤ) → b ≡ pos 0 → q *ℤ a ≡ q *ℤ a +ℤ b *ℤ x
    ring q a b x z = rw z (ring1 q a x)

record BoundEarly (l : Line) : Type 0 where
  pub until : Time
  pub holds : (x : Time) → Before x until → IsPositive (line_at l x)

bound_early : (l : Line) → SignEarly l → BoundEarly l
bound_early l (inl n) = record { until = zero_of l n; holds = λ x b. (before_zero l n x).0 b }
bound_early l (inr h) = record { until = time_zero; holds = λ x b. positive-same _ _ (flat-at l x h.0) (positive-scale x.over l.start x.positive h.1) }

pub record AllEarly (ls : List Line) : Type 0 where
  pub until : Time
  pub holds : (x : Time) → Before x until → AllPositive ls x

pub all_early : (ls : List Line) → Each ls SignEarly → AllEarly ls
all_early [] h = record { until = time_zero; holds = λ x b. tt }
all_early (l ∷ ls) h =
    let one = bound_early l h.0 in
    let rest = all_early ls h.1 in
    let w = less one.until rest.until in
    record { until = w.w; holds = λ x b. (one.holds x (w.first x b), rest.holds x (w.second x b)) }

-- where a rising line is zero: it is negative exactly before that time
unfoldable pub rise_of : (l : Line) → pos 0 <ℤ l.slope → Time
rise_of l p = record { entries = scale (neg_ℤ (pos 1)) l.start; over = l.slope; positive = p }

rise-at : (l : Line) (p : pos 0 <ℤ l.slope) (t : Time) (e : ℕ) → at (later t (rise_of l p)) e ≡ at (scale (neg_ℤ (pos 1)) (line_at l t)) e
unfolding rise_of
rise-at l p t e = simp (at-add, at-scale) (ring t.over l.slope (at l.start e) (at t.entries e) _ _ (minus_one (at l.start e)) (minus_one _))
  where
    ring1 : (q b a x : ℤ) → q *ℤ neg_ℤ a +ℤ neg_ℤ b *ℤ x ≡ neg_ℤ (q *ℤ a +ℤ b *ℤ x)
    ring1 q b a x = rw (as_D q, as_D b, as_D a, as_D x) (simp Ds (same_D _ _ _ _ (omega arith)))

    ring : (q b a x z w : ℤ) → z ≡ neg_ℤ a → w ≡ neg_ℤ (q *ℤ a +ℤ b *ℤ x) → q *ℤ z +ℤ neg_ℤ b *ℤ x ≡ w
    ring q b a x z w e f = rw (e, f) (ring1 q b a x)

pub before_rise : (l : Line) (p : pos 0 <ℤ l.slope) (t : Time) → Before t (rise_of l p) → IsPositive (scale (neg_ℤ (pos 1)) (line_at l t))
before_rise l p t b = positive-same _ _ (rise-at l p t) b

pub at_rise : (l : Line) (p : pos 0 <ℤ l.slope) (t : Time) → IsZero (line_at l t) → Same t (rise_of l p)
at_rise l p t z = zero_from _ (λ e. rise-at l p t e ∙ at-scale (neg_ℤ (pos 1)) (line_at l t) e ∙ ap (λ x. neg_ℤ (pos 1) *ℤ x) (at-zero (line_at l t) e z) ∙ *ℤ-zero (neg_ℤ (pos 1)))

sign_early : (l : Line) (u : Time) → ((x : Time) → Before x u → IsPositive (line_at l x)) → SignEarly l
sign_early l u h =
    sign_cases l.slope inl
    (λ z. let x = sooner u in inr (z, positive-unscale x.u.over l.start x.u.positive (positive-same _ _ (λ e. sym (flat-at l x.u z e)) (h x.u x.before))))
    (λ r.
    let w = less u (rise_of l r) in
    let x = sooner w.w in
    absurd (not_both (line_at l x.u) (h x.u (w.first x.u x.before)) (before_rise l r x.u (w.second x.u x.before))))

signs_early : (ls : List Line) (u : Time) → ((x : Time) → Before x u → AllPositive ls x) → Each ls SignEarly
signs_early [] u h = tt
signs_early (l ∷ ls) u h = (sign_early l u (λ x b. (h x b).0), signs_early ls u (λ x b. (h x b).1))

dec_sign_early : (l : Line) → Dec (SignEarly l)
dec_sign_early l =
    sign_cases l.slope
    (λ n. yes (inl n))
    (λ z. elim (dec_positive l.start) [ yes p ↦ yes (inr (z, p)) | no n ↦ no (λ h. elim h [ inl m ↦ absurd (omega (arith, ints)) | inr k ↦ n k.1 ]) ])
    (λ r. no (λ h. elim h [ inl m ↦ absurd (omega (arith, ints)) | inr k ↦ let e = k.0 in absurd (omega (arith, ints)) ]))

pub early_from : (P : Time → Type 0) (p : Lined P) → Each p.list SignEarly → Early P
early_from P p h = let a = all_early p.list h in (a.until, λ x b. p.from x (a.holds x b))

pub dec_early : (P : Time → Type 0) → Lined P → Dec (Early P)
dec_early P p = elim (dec_each SignEarly dec_sign_early p.list) [
  | yes h ↦ yes (early_from P p h)
  | no n ↦ no (λ h. n (signs_early p.list h.0 (λ x b. p.to x (h.1 x b))))
]

-- ---- begins
abbrev pub Begins : (Time → Type 0) → Time → Type 0
Begins P t = After P t × ¬ (P t)

-- a time doesn't depend on how it is written
same_ring : (q r a b x y : ℤ) → r *ℤ (q *ℤ a +ℤ b *ℤ x) +ℤ b *ℤ (q *ℤ y +ℤ neg_ℤ r *ℤ x) ≡ q *ℤ (r *ℤ a +ℤ b *ℤ y)
same_ring q r a b x y = rw (as_D q, as_D r, as_D a, as_D b, as_D x, as_D y) (simp Ds (same_D _ _ _ _ (omega arith)))

pub line_same : (l : Line) (t u : Time) → Same t u → IsPositive (line_at l t) → IsPositive (line_at l u)
line_same l t u s p =
    positive-unscale t.over (line_at l u) t.positive (positive-same (scale u.over (line_at l t)) (scale t.over (line_at l u)) same (positive-scale u.over (line_at l t) u.positive p))
  where
    ring : (q r a b x y : ℤ) → q *ℤ y +ℤ neg_ℤ r *ℤ x ≡ pos 0 → r *ℤ (q *ℤ a +ℤ b *ℤ x) ≡ q *ℤ (r *ℤ a +ℤ b *ℤ y)
    ring q r a b x y z =
        let k : b *ℤ (q *ℤ y +ℤ neg_ℤ r *ℤ x) ≡ pos 0 = rw z (*ℤ-zero b) in
        let s = same_ring q r a b x y in
        omega (arith, ints, k, s)

    same : (e : ℕ) → at (scale u.over (line_at l t)) e ≡ at (scale t.over (line_at l u)) e
    same e =
        let z = simp (at-add, at-scale) at (at-zero (later t u) e s) in
        simp (at-add, at-scale) (ring t.over u.over (at l.start e) l.slope (at t.entries e) (at u.entries e) z)

lines_same : (ls : List Line) (t u : Time) → Same t u → AllPositive ls t → AllPositive ls u
lines_same [] t u s h = tt
lines_same (l ∷ ls) t u s h = (line_same l t u s h.0, lines_same ls t u s h.1)

pub now_same : (P : Time → Type 0) → Lined P → (t u : Time) → Same t u → P t → P u
now_same P p t u s h = p.from u (lines_same p.list t u s (p.to t h))

pub after_same : (P : Time → Type 0) (t u : Time) → Same t u → After P t → After P u
after_same P t u s h = (h.0, same_before t u h.0 s h.1, λ x a b. h.2 x (same_before u t x (same_sym t u s) a) b)

pub ahead_same : (P : Time → Type 0) (t u : Time) → Same t u → Ahead P t → Ahead P u
ahead_same P t u s h = (h.0, before_same h.0 t u s h.1, λ x a b. h.2 x a (before_same x u t (same_sym t u s) b))

pub begins_same : (P : Time → Type 0) → Lined P → (t u : Time) → Same t u → Begins P t → Begins P u
begins_same P p t u s h = (after_same P t u s h.0, λ k. h.1 (now_same P p u t (same_sym t u s) k))

-- a line that is zero and rising where P begins
pub record Rising (ls : List Line) (t : Time) : Type 0 where
  pub line : Line
  pub one : Has line ls
  pub rise : pos 0 <ℤ line.slope
  pub zero : IsZero (line_at line t)

rising : (ls : List Line) (t : Time) → Each ls (SignAfter t) → ¬ (AllPositive ls t) → Rising ls t
rising [] t h n = absurd (n tt)
rising (l ∷ ls) t h n = elim h.0 [
  | inl p ↦ let r = rising ls t h.1 (λ k. n (p, k)) in record { line = r.line; one = inr r.one; rise = r.rise; zero = r.zero }
  | inr z ↦ record { line = l; one = inl refl; rise = z.1; zero = z.0 }
]

pub begins_rising : (P : Time → Type 0) (p : Lined P) (t : Time) → Begins P t → Rising p.list t
begins_rising P p t h = rising p.list t (after_to P p t h.0) (λ k. h.1 (p.from t k))

pub each_has : {A : Type 0} (P : A → Type 0) (xs : List A) (x : A) → Each xs P → Has x xs → P x
each_has P [] x e h = absurd h
each_has P (y ∷ xs) x e (inl q) = subst P (sym q) e.0
each_has P (y ∷ xs) x e (inr h) = each_has P xs x e.1 h

-- where P begins, it doesn't hold at any time before
pub none_before : (P : Time → Type 0) → Lined P → (t x : Time) → Begins P t → Before x t → ¬ (P x)
none_before P p t x h b k =
    let r = begins_rising P p t h in
    not_both (line_at r.line x) (each_has (λ l. IsPositive (line_at l x)) p.list r.line (p.to x k) r.one)
    (before_rise r.line r.rise x (before_same x t (rise_of r.line r.rise) (at_rise r.line r.rise t r.zero) b))

pub begins_once : (P : Time → Type 0) → Lined P → (t u : Time) → Begins P t → Begins P u → Same t u
begins_once P p t u h k =
    time_cases t u
    (λ b. absurd (early P p t u h k b))
    (λ s. s)
    (λ b. absurd (early P p u t k h b))
  where
    early : (P : Time → Type 0) → Lined P → (t u : Time) → Begins P t → Begins P u → ¬ (Before t u)
    early P p t u h k b =
        let w = earlier t h.0.0 u h.0.1 b in
        let x = middle t w.w w.after in
        none_before P p u x.m k (w.second x.m x.before) (h.0.2 x.m x.after (w.first x.m x.before))

-- where P holds just before a time, it begins earlier, if anywhere
pub begins_earlier : (P : Time → Type 0) → Lined P → (t s : Time) → Ahead P t → Begins P s → Before s t
begins_earlier P p t s h k =
    let x = middle h.0 t h.1 in
    time_cases s x.m
    (λ b. before_trans s x.m t b (inl x.before))
    (λ e. same_before x.m s t (same_sym s x.m e) x.before)
    (λ b. absurd (none_before P p s x.m k b (h.2 x.m x.after x.before)))

pub early_nowhere : (P : Time → Type 0) → Lined P → (s : Time) → Early P → ¬ (Begins P s)
early_nowhere P p s h k =
    let w = less h.0 s in
    let x = sooner w.w in
    none_before P p s x.u k (w.second x.u x.before) (h.1 x.u (w.first x.u x.before))

pub dec_begins : (P : Time → Type 0) → Lined P → (t : Time) → Dec (Begins P t)
dec_begins P p t = elim (dec_after P p t) [
  | no n ↦ no (λ h. n h.0)
  | yes a ↦ elim (dec_now P p t) [ yes k ↦ no (λ h. h.1 k) | no n ↦ yes (a, n) ]
]

pub own_zero : (l : Line) (r : pos 0 <ℤ l.slope) → IsZero (line_at l (rise_of l r))
own_zero l r =
    zero_from (line_at l (rise_of l r)) (λ e.
    let k = sym (at-scale (neg_ℤ (pos 1)) (line_at l (rise_of l r)) e) ∙ sym (rise-at l r (rise_of l r) e) ∙ later-self (rise_of l r) e in
    turned_zero _ k)
  where
    turned_zero : (x : ℤ) → neg_ℤ (pos 1) *ℤ x ≡ pos 0 → x ≡ pos 0
    turned_zero x e = omega (arith, ints)

alike : (l k : Line) → l ≡ k → (r : pos 0 <ℤ l.slope) (q : pos 0 <ℤ k.slope) → Same (rise_of l r) (rise_of k q)
alike l k e r q = at_rise k q (rise_of l r) (subst (λ (j : Line). IsZero (line_at j (rise_of l r))) e (own_zero l r))

-- P begins at one of the zeros of its rising lines, or nowhere
look : (P : Time → Type 0) (p : Lined P) (ls : List Line) → ((t : Time) × Begins P t) ⊎ ((l : Line) → Has l ls → (r : pos 0 <ℤ l.slope) → ¬ (Begins P (rise_of l r)))
look P p [] = inr (λ l h r. absurd h)
look P p (k ∷ ls) = elim (look P p ls) [
  | inl f ↦ inl f
  | inr none ↦
      sign_cases k.slope
      (λ n. inr (λ l h r. elim h [ inl e ↦ absurd (steep l k e r (λ q. omega (arith, ints))) | inr m ↦ none l m r ]))
      (λ n. inr (λ l h r. elim h [ inl e ↦ absurd (steep l k e r (λ q. omega (arith, ints))) | inr m ↦ none l m r ]))
      (λ q. elim (dec_begins P p (rise_of k q)) [
        | yes b ↦ inl (rise_of k q, b)
        | no m ↦ inr (λ l h r. elim h [
          | inl e ↦ λ b. m (begins_same P p (rise_of l r) (rise_of k q) (alike l k e r q) b)
          | inr i ↦ none l i r
        ])
      ])
]
  where
    steep : {Q : Type 0} (l k : Line) → l ≡ k → pos 0 <ℤ l.slope → (pos 0 <ℤ k.slope → Q) → Q
    steep l k e r f = f (subst (λ (j : Line). pos 0 <ℤ j.slope) e r)

pub find_begin : (P : Time → Type 0) → Lined P → ((t : Time) × Begins P t) ⊎ ((t : Time) → ¬ (Begins P t))
find_begin P p = elim (look P p p.list) [
  | inl f ↦ inl f
  | inr none ↦ inr (λ t h.
      let r = begins_rising P p t h in
      none r.line r.one r.rise (begins_same P p t (rise_of r.line r.rise) (at_rise r.line r.rise t r.zero) h))
]
