-- the list has one line for each further point, in order
use Rattle.std.proofs.Common.{◌≡◌, ◌≢◌, inl, inr, ℕ, zero, suc, ◌+◌, ◌-◌, ◌<◌, ◌≤◌, Bool, true, false, if◌then◌else◌, ◌==◌, List, [], ◌∷◌, ◌++◌, length, arith, refl, sym, subst, ◌∙◌}
use Rattle.std.proofs.lemmas.Bool.{eqb-true}
use Rattle.std.specs.Prelude.{slice_index_or}
use native.Mathlib.Decide.{ℕ_discrete}
use Rattle.int_vectors.specs.Vectors.{Each}
use Rattle.cayley.specs.Problems.{Point, Problem, origin, point_at}
use Rattle.cayley.specs.Cells.{Cell, EachPair, IsOf, IsFurther}
use Rattle.cayley.specs.Dependencies.{pair_at, IsFurtherAt, nth_support}
use Rattle.int_vectors.proofs.Each.{each_append}
use Rattle.crossing.specs.declared.line.WallLine.{WallLine}
use Rattle.cayley.proofs.OneCell.MovingNormals.{apart}
use Rattle.inner_normal.specs.declared.moving.MovingNormal.{MovingNormal}
use Rattle.cone_walls.specs.Numbers.{alpha, beta}
use Rattle.cone_walls.specs.Listed.{line_of, lines_from, wall_lines}
use Rattle.cone_walls.specs.Parts.{IsFurtherLine}
use Rattle.cone_walls.specs.Places.{IsEarlier, AreInOrder, HasLine, AreOfFurtherPoints, HasNumbers}

-- ---- either way of a test
choose : (P : List WallLine → Type 0) (test : Bool) (xs ys : List WallLine) → (test ≡ true → P xs) → (test ≡ false → P ys) → P (if test then xs else ys)
choose P true xs ys f g = f refl
choose P false xs ys f g = g refl

chosen : {R : Type 0} (P : List WallLine → Type 0) (test : Bool) (xs ys : List WallLine) → P (if test then xs else ys) → (test ≡ true → P xs → R) → (test ≡ false → P ys → R) → R
chosen P true xs ys e f g = f refl e
chosen P false xs ys e f g = g refl e

each_parts : (Q : WallLine → Type 0) (xs ys : List WallLine) → Each (xs ++ ys) Q → Each xs Q × Each ys Q
each_parts Q [] ys h = (tt, h)
each_parts Q (x ∷ xs) ys h = let r = each_parts Q xs ys h.1 in ((h.0, r.0), r.1)

module _ (m : MovingNormal) where
  -- ---- the lines of one support
  -- the points at positions k, .. but for a and b
  abbrev Beyond : (WallLine → Type 0) → ℕ → Point → ℕ → ℕ → ℕ → List Point → Type 0
  Beyond Q i x a b k ys = (c : ℕ) → k ≤ c → c < k + length ys → c ≢ a → c ≢ b → Q (line_of m i x c (slice_index_or ys (c - k) origin))

  beyond_first : (Q : WallLine → Type 0) (i : ℕ) (x : Point) (a b k : ℕ) (y : Point) (ys : List Point) → Beyond Q i x a b k (y ∷ ys) → Beyond Q i x a b (suc k) ys
  beyond_first Q i x a b k y ys f c l h n j =
      let e : c - k ≡ suc (c - suc k) = omega (arith, l) in
      subst (λ z. Q (line_of m i x c (slice_index_or (y ∷ ys) z origin))) e (f c (omega (arith, l)) (omega (arith, h)) n j)

  lines_each : (Q : WallLine → Type 0) (i : ℕ) (x : Point) (a b k : ℕ) (ys : List Point) → Beyond Q i x a b k ys → Each (lines_from m i x a b k ys) Q
  lines_each Q i x a b k [] f = tt
  lines_each Q i x a b k (y ∷ ys) f =
      let rest = lines_each Q i x a b (suc k) ys (beyond_first Q i x a b k y ys f) in
      choose (λ ls. Each ls Q) (k == a) (lines_from m i x a b (suc k) ys) _ (λ e. rest)
      (λ n. choose (λ ls. Each ls Q) (k == b) (lines_from m i x a b (suc k) ys) (line_of m i x k y ∷ lines_from m i x a b (suc k) ys) (λ e. rest)
      (λ j. (subst (λ z. Q (line_of m i x k (slice_index_or (y ∷ ys) z origin))) (same k) (f k (omega arith) (omega arith) (apart k a n) (apart k b j)), rest)))
    where
      same : (k : ℕ) → k - k ≡ 0
      same k = omega arith

  beyond_later : (Q : WallLine → Type 0) (i : ℕ) (x : Point) (a b k : ℕ) (y : Point) (ys : List Point) → Beyond Q i x a b (suc k) ys → (c : ℕ) → k ≤ c → c < k + suc (length ys) → c ≢ a → c ≢ b → c ≢ k
      → Q (line_of m i x c (slice_index_or (y ∷ ys) (c - k) origin))
  beyond_later Q i x a b k y ys f c l h n j s =
      let e : suc (c - suc k) ≡ c - k = omega (arith, l, s) in
      subst (λ z. Q (line_of m i x c (slice_index_or (y ∷ ys) z origin))) e (f c (omega (arith, l, s)) (omega (arith, h)) n j)

  each_beyond : (Q : WallLine → Type 0) (i : ℕ) (x : Point) (a b k : ℕ) (ys : List Point) → Each (lines_from m i x a b k ys) Q → Beyond Q i x a b k ys
  each_beyond Q i x a b k [] e c l h n j = absurd (omega (arith, l, h))
  each_beyond Q i x a b k (y ∷ ys) e c l h n j =
      let later = λ (rest : Each (lines_from m i x a b (suc k) ys) Q) (s : c ≢ k). beyond_later Q i x a b k y ys (each_beyond Q i x a b (suc k) ys rest) c l h n j s in
      chosen (λ ls. Each ls Q) (k == a) (lines_from m i x a b (suc k) ys) (if k == b then lines_from m i x a b (suc k) ys else line_of m i x k y ∷ lines_from m i x a b (suc k) ys) e
      (λ q rest. later rest (λ s. n (s ∙ eqb-true k a q)))
      (λ q more. chosen (λ ls. Each ls Q) (k == b) (lines_from m i x a b (suc k) ys) (line_of m i x k y ∷ lines_from m i x a b (suc k) ys) more
      (λ r rest. later rest (λ s. j (s ∙ eqb-true k b r)))
      (λ r here. elim (ℕ_discrete c k) [
        | yes s ↦ subst (λ z. Q (line_of m i x z (slice_index_or (y ∷ ys) (z - k) origin))) (sym s) (subst (λ z. Q (line_of m i x k (slice_index_or (y ∷ ys) z origin))) (zero_is k) here.0)
        | no s ↦ later here.1 s
      ]))
    where
      zero_is : (k : ℕ) → 0 ≡ k - k
      zero_is k = omega arith

  lines_ordered : (i : ℕ) (x : Point) (a b k : ℕ) (ys : List Point) → AreInOrder (lines_from m i x a b k ys)
  lines_ordered i x a b k [] = tt
  lines_ordered i x a b k (y ∷ ys) =
      let rest = lines_ordered i x a b (suc k) ys in
      choose AreInOrder (k == a) (lines_from m i x a b (suc k) ys) _ (λ e. rest)
      (λ n. choose AreInOrder (k == b) (lines_from m i x a b (suc k) ys) (line_of m i x k y ∷ lines_from m i x a b (suc k) ys) (λ e. rest)
      (λ j. (lines_each (IsEarlier (line_of m i x k y)) i x a b (suc k) ys (λ c l h p q. inr (refl, l)), rest)))

  -- ---- the lines of all supports
  -- of each further point; the supports count from i
  abbrev pub Further : (WallLine → Type 0) → ℕ → List (List Point) → Cell → Type 0
  Further Q i supports cell = (j k c : ℕ) → k ≡ i + j → IsFurther (nth_support supports j) (pair_at cell j).0 (pair_at cell j).1 c
      → Q (line_of m k (point_at (nth_support supports j) (pair_at cell j).0) c (point_at (nth_support supports j) c))

  pub all_lines : (Q : WallLine → Type 0) (i : ℕ) (supports : List (List Point)) (cell : Cell) → Further Q i supports cell → Each (wall_lines m i supports cell) Q
  all_lines Q i [] cell f = tt
  all_lines Q i (s ∷ supports) [] f = tt
  all_lines Q i (s ∷ supports) (x ∷ cell) f =
      each_append Q (lines_from m i (point_at s x.0) x.0 x.1 1 s) (wall_lines m (suc i) supports cell)
      (lines_each Q i (point_at s x.0) x.0 x.1 1 s (λ c l h n j. f 0 i c (omega arith) (l, omega (arith, h), n, j)))
      (all_lines Q (suc i) supports cell (λ j k c e h. f (suc j) k c (omega (arith, e)) h))

  pub lines_all : (Q : WallLine → Type 0) (P : List Point → ℕ → ℕ → Type 0) (i : ℕ) (supports : List (List Point)) (cell : Cell) → EachPair supports cell P → Each (wall_lines m i supports cell) Q → Further Q i supports cell
  lines_all Q P i [] cell o e j k c q h = let a = h.0 in let b = h.1 in absurd (omega (arith, a, b))
  lines_all Q P i (s ∷ supports) [] o e j k c q h = absurd o
  lines_all Q P i (s ∷ supports) (x ∷ cell) o e zero k c q h =
      let r = each_parts Q (lines_from m i (point_at s x.0) x.0 x.1 1 s) (wall_lines m (suc i) supports cell) e in
      let w : i ≡ k = omega (arith, q) in
      subst (λ z. Q (line_of m z (point_at s x.0) c (point_at s c))) w (each_beyond Q i (point_at s x.0) x.0 x.1 1 s r.0 c h.0 (let l = h.1 in omega (arith, l)) h.2 h.3)
  lines_all Q P i (s ∷ supports) (x ∷ cell) o e (suc j) k c q h =
      let r = each_parts Q (lines_from m i (point_at s x.0) x.0 x.1 1 s) (wall_lines m (suc i) supports cell) e in
      lines_all Q P (suc i) supports cell o.1 r.1 j k c (omega (arith, q)) h

order_append : (xs ys : List WallLine) → AreInOrder xs → AreInOrder ys → Each xs (λ l. Each ys (IsEarlier l)) → AreInOrder (xs ++ ys)
order_append [] ys p q h = q
order_append (x ∷ xs) ys p q h = (each_append (IsEarlier x) xs ys p.0 h.0, order_append xs ys p.1 q h.1)

walls_ordered : (m : MovingNormal) (i : ℕ) (supports : List (List Point)) (cell : Cell) → AreInOrder (wall_lines m i supports cell)
walls_ordered m i [] cell = tt
walls_ordered m i (s ∷ supports) [] = tt
walls_ordered m i (s ∷ supports) (x ∷ cell) =
    order_append (lines_from m i (point_at s x.0) x.0 x.1 1 s) (wall_lines m (suc i) supports cell)
    (lines_ordered m i (point_at s x.0) x.0 x.1 1 s) (walls_ordered m (suc i) supports cell)
    (lines_each m (λ l. Each (wall_lines m (suc i) supports cell) (IsEarlier l)) i (point_at s x.0) x.0 x.1 1 s
    (λ c l h n j. all_lines m (IsEarlier (line_of m i (point_at s x.0) c (slice_index_or s (c - 1) origin))) (suc i) supports cell (λ j k d e f. inl (omega (arith, e)))))

-- ---- which points they are of
pub each_has : (Q : ℕ → ℕ → Type 0) (lines : List WallLine) (j c : ℕ) → Each lines (λ l. Q l.support l.position) → HasLine lines j c → Q j c
each_has Q [] j c e h = absurd h
each_has Q (l ∷ lines) j c e (inl h) = subst (λ z. Q z c) h.0 (subst (Q l.support) h.1 e.0)
each_has Q (l ∷ lines) j c e (inr h) = each_has Q lines j c e.1 h

pub has_each : (lines : List WallLine) → Each lines (λ l. HasLine lines l.support l.position)
has_each [] = tt
has_each (l ∷ lines) = (inl (refl, refl), later lines (has_each lines))
  where
    later : (ks : List WallLine) → Each ks (λ k. HasLine lines k.support k.position) → Each ks (λ k. HasLine (l ∷ lines) k.support k.position)
    later [] h = tt
    later (k ∷ ks) h = (inr h.0, later ks h.1)

pub of_further_points : (m : MovingNormal) (p : Problem) (cell : Cell) → IsOf p cell → AreOfFurtherPoints p cell (wall_lines m 1 p.supports cell)
of_further_points m p cell of = (
  walls_ordered m 1 p.supports cell,
  (λ j c. (
    (λ h. each_has (λ j c. (1 ≤ j) × IsFurtherAt p cell (j - 1) c) (wall_lines m 1 p.supports cell) j c
        (all_lines m (λ l. (1 ≤ l.support) × IsFurtherAt p cell (l.support - 1) l.position) 1 p.supports cell
        (λ j k c e f. (omega (arith, e), (let w : j ≡ k - 1 = omega (arith, e) in subst (λ z. IsFurtherAt p cell z c) w f)))) h),
    (λ h.
        let l = h.0 in
        lines_all m (λ l. HasLine (wall_lines m 1 p.supports cell) l.support l.position) _ 1 p.supports cell of (has_each (wall_lines m 1 p.supports cell)) (j - 1) j c (omega (arith, l)) h.1),
  )),
)

-- ---- and their numbers
pub have_numbers : (m : MovingNormal) (p : Problem) (cell : Cell) → Each (wall_lines m 1 p.supports cell) (HasNumbers p cell m)
have_numbers m p cell =
    all_lines m (HasNumbers p cell m) 1 p.supports cell
    (λ j k c e f.
    let w : j ≡ k - 1 = omega (arith, e) in
    subst (λ z.
    (alpha m (point_at (nth_support p.supports j) (pair_at cell j).0) (point_at (nth_support p.supports j) c) ≡ alpha m (point_at (nth_support p.supports z) (pair_at cell z).0) (point_at (nth_support p.supports z) c))
    × (beta m (point_at (nth_support p.supports j) (pair_at cell j).0) (point_at (nth_support p.supports j) c) ≡ beta m (point_at (nth_support p.supports z) (pair_at cell z).0) (point_at (nth_support p.supports z) c)))
    w (refl, refl))

-- each of a further point
pub are_further : (m : MovingNormal) (p : Problem) (cell : Cell) → Each (wall_lines m 1 p.supports cell) (λ l. IsFurtherAt p cell (l.support - 1) l.position)
are_further m p cell =
    all_lines m (λ l. IsFurtherAt p cell (l.support - 1) l.position) 1 p.supports cell
    (λ j k c e f. let w : j ≡ k - 1 = omega (arith, e) in subst (λ z. IsFurtherAt p cell z c) w f)

-- of a support of the problem
inside : (supports : List (List Point)) (cell : Cell) (j c : ℕ) → IsFurther (nth_support supports j) (pair_at cell j).0 (pair_at cell j).1 c → j < length supports
inside [] cell j c h = let a = h.0 in let b = h.1 in absurd (omega (arith, a, b))
inside (s ∷ supports) [] zero c h = omega arith
inside (s ∷ supports) (x ∷ cell) zero c h = omega arith
inside (s ∷ supports) [] (suc j) c h = let r = inside supports [] j c h in omega (arith, r)
inside (s ∷ supports) (x ∷ cell) (suc j) c h = let r = inside supports cell j c h in omega (arith, r)

pub further_lines : (m : MovingNormal) (p : Problem) (cell : Cell) → length p.supports ≡ p.dimension → Each (wall_lines m 1 p.supports cell) (IsFurtherLine p cell)
further_lines m p cell n =
    all_lines m (IsFurtherLine p cell) 1 p.supports cell
    (λ j k c e f.
    let w : j ≡ k - 1 = omega (arith, e) in
    let l = inside p.supports cell j c f in
    (omega (arith, e), omega (arith, e, l, n), subst (λ z. IsFurtherAt p cell z c) w f))

pub no_parts : (m : MovingNormal) (p : Problem) (cell : Cell) → Each (wall_lines m 1 p.supports cell) (λ l. l.fine ≡ [])
no_parts m p cell = all_lines m (λ l. l.fine ≡ []) 1 p.supports cell (λ j k c e f. refl)
