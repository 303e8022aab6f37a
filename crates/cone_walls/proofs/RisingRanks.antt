-- the ranks of a problem rise with support and position
use Rattle.std.proofs.Common.{◌≡◌, ◌≢◌, ◌⊎◌, inl, inr, ℕ, zero, suc, ◌+◌, ◌-◌, ◌<◌, ◌≤◌, ◌==◌, min, Bool, true, false, if◌then◌else◌, List, [], ◌∷◌, length, map, arith, refl, sym, ap, subst, ◌∙◌}
use Rattle.std.proofs.lemmas.Bool.{eq-eqb, eqb-true}
use Rattle.std.specs.Prelude.{slice_index_or}
use Rattle.cayley.specs.Problems.{Version, Point, Problem, origin, EachSupport, HasCorners, with_rank, is_start_corner, numbered, numbered_supports, ranks_in, ranked_supports, HasRanks}
use Rattle.cayley.specs.Problems.Version.{version1, version2}
use Rattle.cayley.proofs.Ranking.Unperturbed.{unranked}

-- the rank at an index, which counts from 0
abbrev pub rank_at : List Point → ℕ → ℕ
rank_at s k = (slice_index_or s k origin).rank

-- every rank that isn't 0 is at least n
abbrev pub AreFrom : ℕ → List Point → Type 0
AreFrom n s = (k : ℕ) → rank_at s k ≢ 0 → n ≤ rank_at s k

abbrev pub AllFrom : ℕ → List (List Point) → Type 0
AllFrom n [] = Unit {0}
AllFrom n (s ∷ supports) = AreFrom n s × AllFrom n supports

-- the ranks of one support that aren't 0 rise
abbrev pub Rise : List Point → Type 0
Rise s = (k l : ℕ) → k < l → rank_at s k ≢ 0 → rank_at s l ≢ 0 → rank_at s k < rank_at s l

-- and those of the supports behind it are greater
abbrev pub AllRise : List (List Point) → Type 0
AllRise [] = Unit {0}
AllRise (s ∷ supports) = Rise s × ((k : ℕ) → rank_at s k ≢ 0 → AllFrom (rank_at s k + 1) supports) × AllRise supports

pub from_one : (supports : List (List Point)) → AllFrom 1 supports
from_one [] = tt
from_one (s ∷ supports) = ((λ k n. one (rank_at s k) n), from_one supports)
  where
    one : (n : ℕ) → n ≢ 0 → 1 ≤ n
    one n h = omega (arith, h)

pub all_weaker : (n m : ℕ) (supports : List (List Point)) → m ≤ n → AllFrom n supports → AllFrom m supports
all_weaker n m [] l h = tt
all_weaker n m (s ∷ supports) l h = ((λ k e. let a = h.0 k e in omega (arith, a, l)), all_weaker n m supports l h.1)

-- ---- one support
by_test : (P : List Point → Type 0) (test : Bool) (xs ys : List Point) → (test ≡ true → P xs) → (test ≡ false → P ys) → P (if test then xs else ys)
by_test P true xs ys f g = f refl
by_test P false xs ys f g = g refl

head_tail : (n r : ℕ) (x : Point) (xs : List Point) → (x.rank ≢ 0 → n ≤ x.rank) → AreFrom n xs → AreFrom n (x ∷ xs)
head_tail n r x xs f g zero e = f e
head_tail n r x xs f g (suc k) e = g k e

from_weaker : (n m : ℕ) (s : List Point) → m ≤ n → AreFrom n s → AreFrom m s
from_weaker n m s l h k e = let a = h k e in omega (arith, a, l)

numbered_from : (i f position r : ℕ) (xs : List Point) → AreFrom r (numbered i f position r xs)
numbered_from i f position r [] = λ k e. absurd (e refl)
numbered_from i f position r (x ∷ xs) =
    by_test (AreFrom r) (is_start_corner i f position) (with_rank 0 x ∷ numbered i f (suc position) r xs) (with_rank r x ∷ numbered i f (suc position) (suc r) xs)
    (λ t. head_tail r r (with_rank 0 x) (numbered i f (suc position) r xs) (λ e. absurd (e refl)) (numbered_from i f (suc position) r xs))
    (λ t. head_tail r r (with_rank r x) (numbered i f (suc position) (suc r) xs) (λ e. omega arith) (from_weaker (suc r) r (numbered i f (suc position) (suc r) xs) (omega arith) (numbered_from i f (suc position) (suc r) xs)))

rise_on : (x : Point) (xs : List Point) → (x.rank ≢ 0 → AreFrom (suc x.rank) xs) → Rise xs → Rise (x ∷ xs)
rise_on x xs f g zero zero l e d = absurd (omega arith)
rise_on x xs f g zero (suc m) l e d = let a = f e m d in omega (arith, a)
rise_on x xs f g (suc k) zero l e d = absurd (omega arith)
rise_on x xs f g (suc k) (suc m) l e d = g k m (omega (arith, l)) e d

numbered_rise : (i f position r : ℕ) (xs : List Point) → Rise (numbered i f position r xs)
numbered_rise i f position r [] = λ k l h e d. absurd (e refl)
numbered_rise i f position r (x ∷ xs) =
    by_test Rise (is_start_corner i f position) (with_rank 0 x ∷ numbered i f (suc position) r xs) (with_rank r x ∷ numbered i f (suc position) (suc r) xs)
    (λ t. rise_on (with_rank 0 x) (numbered i f (suc position) r xs) (λ e. absurd (e refl)) (numbered_rise i f (suc position) r xs))
    (λ t. rise_on (with_rank r x) (numbered i f (suc position) (suc r) xs) (λ e. numbered_from i f (suc position) (suc r) xs) (numbered_rise i f (suc position) (suc r) xs))

-- ---- where the ranks of a support end: before n, with m start corners behind
abbrev Below : ℕ → ℕ → List Point → Type 0
Below m n s = (k : ℕ) → rank_at s k ≢ 0 → rank_at s k + m < n

below_on : (m n : ℕ) (x : Point) (xs : List Point) → (x.rank ≢ 0 → x.rank + m < n) → Below m n xs → Below m n (x ∷ xs)
below_on m n x xs f g zero e = f e
below_on m n x xs f g (suc k) e = g k e

below_same : (m n j l : ℕ) (s : List Point) → n + j ≤ l + m → Below m n s → Below j l s
below_same m n j l s e h k d = let a = h k d in omega (arith, a, e)

start_is : (i f position : ℕ) → is_start_corner i f position ≡ true → (position ≡ f + 1) ⊎ (position ≡ f + 1 + i)
start_is i f position e = by (position == f + 1) refl e
  where
    by : (t : Bool) → (position == f + 1) ≡ t → (if t then true else position == f + 1 + i) ≡ true → (position ≡ f + 1) ⊎ (position ≡ f + 1 + i)
    by true q e = inl (eqb-true position (f + 1) q)
    by false q e = inr (eqb-true position (f + 1 + i) e)

abbrev IsOn : Bool → Type 0
IsOn true = Unit {0}
IsOn false = ⊥

not_first : (i f position : ℕ) → is_start_corner i f position ≡ false → position ≢ f + 1
not_first i f position e d = subst IsOn (ap (λ t. if t then true else position == f + 1 + i) (sym (eq-eqb position (f + 1) d)) ∙ e) tt

not_second : (i f position : ℕ) → is_start_corner i f position ≡ false → position ≢ f + 1 + i
not_second i f position e d = by (position == f + 1) e
  where
    by : (t : Bool) → (if t then true else position == f + 1 + i) ≡ false → ⊥
    by true q = subst IsOn q tt
    by false q = subst IsOn (sym (eq-eqb position (f + 1 + i) d) ∙ q) tt

-- however many start corners there are
any_below : (i f position r : ℕ) (xs : List Point) → Below 0 (r + length xs) (numbered i f position r xs)
any_below i f position r [] = λ k e. absurd (e refl)
any_below i f position r (x ∷ xs) =
    by_test (Below 0 (r + suc (length xs))) (is_start_corner i f position) (with_rank 0 x ∷ numbered i f (suc position) r xs) (with_rank r x ∷ numbered i f (suc position) (suc r) xs)
    (λ t. below_on 0 (r + suc (length xs)) (with_rank 0 x) (numbered i f (suc position) r xs) (λ e. absurd (e refl)) (below_same 0 (r + length xs) 0 (r + suc (length xs)) (numbered i f (suc position) r xs) (omega arith) (any_below i f (suc position) r xs)))
    (λ t. below_on 0 (r + suc (length xs)) (with_rank r x) (numbered i f (suc position) (suc r) xs) (λ e. omega arith) (below_same 0 (suc r + length xs) 0 (r + suc (length xs)) (numbered i f (suc position) (suc r) xs) (omega arith) (any_below i f (suc position) (suc r) xs)))

-- with one ahead
one_below : (i f position r : ℕ) (xs : List Point) → position ≤ f + 1 + i → f + 1 + i < position + length xs → Below 1 (r + length xs) (numbered i f position r xs)
one_below i f position r [] l h = absurd (omega (arith, l, h))
one_below i f position r (x ∷ xs) l h =
    by_test (Below 1 (r + suc (length xs))) (is_start_corner i f position) (with_rank 0 x ∷ numbered i f (suc position) r xs) (with_rank r x ∷ numbered i f (suc position) (suc r) xs)
    (λ t. below_on 1 (r + suc (length xs)) (with_rank 0 x) (numbered i f (suc position) r xs) (λ e. absurd (e refl)) (below_same 0 (r + length xs) 1 (r + suc (length xs)) (numbered i f (suc position) r xs) (omega arith) (any_below i f (suc position) r xs)))
    (λ t.
    let n = not_second i f position t in
    below_on 1 (r + suc (length xs)) (with_rank r x) (numbered i f (suc position) (suc r) xs) (λ e. omega (arith, l, h, n)) (below_same 1 (suc r + length xs) 1 (r + suc (length xs)) (numbered i f (suc position) (suc r) xs) (omega arith)
    (one_below i f (suc position) (suc r) xs (omega (arith, l, n)) (omega (arith, h)))))

-- with both ahead
two_below : (i f position r : ℕ) (xs : List Point) → 1 ≤ i → position ≤ f + 1 → f + 1 + i < position + length xs → Below 2 (r + length xs) (numbered i f position r xs)
two_below i f position r [] o l h = absurd (omega (arith, o, l, h))
two_below i f position r (x ∷ xs) o l h =
    by_test (Below 2 (r + suc (length xs))) (is_start_corner i f position) (with_rank 0 x ∷ numbered i f (suc position) r xs) (with_rank r x ∷ numbered i f (suc position) (suc r) xs)
    (λ t.
    let q = first (start_is i f position t) in
    below_on 2 (r + suc (length xs)) (with_rank 0 x) (numbered i f (suc position) r xs) (λ e. absurd (e refl)) (below_same 1 (r + length xs) 2 (r + suc (length xs)) (numbered i f (suc position) r xs) (omega arith)
    (one_below i f (suc position) r xs (omega (arith, q, o)) (omega (arith, h)))))
    (λ t.
    let n = not_first i f position t in
    below_on 2 (r + suc (length xs)) (with_rank r x) (numbered i f (suc position) (suc r) xs) (λ e. omega (arith, l, h, n, o)) (below_same 2 (suc r + length xs) 2 (r + suc (length xs)) (numbered i f (suc position) (suc r) xs) (omega arith)
    (two_below i f (suc position) (suc r) xs o (omega (arith, l, n)) (omega (arith, h)))))
  where
    first : (position ≡ f + 1) ⊎ (position ≡ f + 1 + i) → position ≡ f + 1
    first (inl e) = e
    first (inr e) = absurd (omega (arith, o, l, e))

-- ---- all supports
-- no corner, or more corners than the number of the support
abbrev HasRoom : ℕ → ℕ → List Point → Type 0
HasRoom i f s = (length s ≡ f) ⊎ (f + 1 + i ≤ length s)

abbrev AllHaveRoom : ℕ → List ℕ → List (List Point) → Type 0
AllHaveRoom i files supports = EachSupport i files supports (λ i f s. (1 ≤ i) × HasRoom i f s)

support_below : (i f r : ℕ) (s : List Point) → 1 ≤ i → HasRoom i f s → Below 0 (r + ranks_in f s) (numbered i f 1 r s)
support_below i f r s o (inl e) = below_same 0 (r + length s) 0 (r + ranks_in f s) (numbered i f 1 r s) (least (length s) f e) (any_below i f 1 r s)
  where
    least : (n f : ℕ) → n ≡ f → r + n + 0 ≤ r + (n - min 2 (n - f)) + 0
    least n f e = omega (arith, e)
support_below i f r s o (inr l) = below_same 2 (r + length s) 0 (r + ranks_in f s) (numbered i f 1 r s) (least (length s) f) (two_below i f 1 r s o (omega arith) (omega (arith, l)))
  where
    least : (n f : ℕ) → r + n + 0 ≤ r + (n - min 2 (n - f)) + 2
    least n f = omega arith

supports_from : (i r : ℕ) (files : List ℕ) (supports : List (List Point)) → AllHaveRoom i files supports → AllFrom r (numbered_supports i r files supports)
supports_from i r [] [] h = tt
supports_from i r [] (s ∷ supports) h = absurd h
supports_from i r (f ∷ files) [] h = absurd h
supports_from i r (f ∷ files) (s ∷ supports) h =
    (numbered_from i f 1 r s, all_weaker (r + ranks_in f s) r (numbered_supports (suc i) (r + ranks_in f s) files supports) (omega arith) (supports_from (suc i) (r + ranks_in f s) files supports h.1))

supports_rise : (i r : ℕ) (files : List ℕ) (supports : List (List Point)) → AllHaveRoom i files supports → AllRise (numbered_supports i r files supports)
supports_rise i r [] [] h = tt
supports_rise i r [] (s ∷ supports) h = absurd h
supports_rise i r (f ∷ files) [] h = absurd h
supports_rise i r (f ∷ files) (s ∷ supports) h =
    let rest = numbered_supports (suc i) (r + ranks_in f s) files supports in (
      numbered_rise i f 1 r s,
      (λ k e.
          let l = support_below i f r s h.0.0 h.0.1 k e in
          all_weaker (r + ranks_in f s) (rank_at (numbered i f 1 r s) k + 1) rest (omega (arith, l)) (supports_from (suc i) (r + ranks_in f s) files supports h.1)),
      supports_rise (suc i) (r + ranks_in f s) files supports h.1,
    )

-- ---- every valid problem
room_alone : (i : ℕ) (files : List ℕ) (supports : List (List Point)) → 1 ≤ i → EachSupport i files supports (λ i f s. length s ≡ f) → AllHaveRoom i files supports
room_alone i [] [] o h = tt
room_alone i [] (s ∷ supports) o h = absurd h
room_alone i (f ∷ files) [] o h = absurd h
room_alone i (f ∷ files) (s ∷ supports) o h = ((o, inl h.0), room_alone (suc i) files supports (omega arith) h.1)

room_corners : (n i : ℕ) (files : List ℕ) (supports : List (List Point)) → 1 ≤ i → i + length supports ≡ n + 1 → EachSupport i files supports (λ i f s. length s ≡ f + (n + 1)) → AllHaveRoom i files supports
room_corners n i [] [] o l h = tt
room_corners n i [] (s ∷ supports) o l h = absurd h
room_corners n i (f ∷ files) [] o l h = absurd h
room_corners n i (f ∷ files) (s ∷ supports) o l h = ((o, inr (let e = h.0 in omega (arith, e, l))), room_corners n (suc i) files supports (omega arith) (omega (arith, l)) h.1)

all_room : (p : Problem) → length p.supports ≡ p.dimension → HasCorners p → AllHaveRoom 1 p.files p.supports
all_room p e (inl h) = room_alone 1 p.files p.supports (omega arith) h
all_room p e (inr h) = room_corners p.dimension 1 p.files p.supports (omega arith) (omega (arith, e)) h

unranked_at : (s : List Point) (k : ℕ) → rank_at (unranked s) k ≡ 0
unranked_at [] k = refl
unranked_at (x ∷ s) zero = refl
unranked_at (x ∷ s) (suc k) = unranked_at s k

unranked_rise : (supports : List (List Point)) → AllRise (map unranked supports)
unranked_rise [] = tt
unranked_rise (s ∷ supports) = ((λ k l h e d. absurd (e (unranked_at s k))), (λ k e. absurd (e (unranked_at s k))), unranked_rise supports)

by_version : (version : Version) (files : List ℕ) (supports : List (List Point)) → AllHaveRoom 1 files supports → AllRise (ranked_supports version files supports)
by_version version1 files supports h = unranked_rise supports
by_version version2 files supports h = supports_rise 1 1 files supports h

pub ranks_rise : (p : Problem) → length p.supports ≡ p.dimension → HasCorners p → HasRanks p → AllRise p.supports
ranks_rise p e corners ranks = subst AllRise (sym ranks) (by_version p.version p.files p.supports (all_room p e corners))
