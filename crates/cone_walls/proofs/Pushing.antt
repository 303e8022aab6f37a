-- one more line, and the lines of one more support
use Rattle.std.proofs.Common.{◌≡◌, ◌↔◌, ℕ, zero, suc, ◌+◌, ◌-◌, ◌<◌, ◌≤◌, Bool, true, false, if◌then◌else◌, ◌==◌, List, [], ◌∷◌, ◌++◌, length, drop, get_or, drop-cons, add-one, drop_of_length-le, append_assoc, append-nil, arith, refl, sym, ap, ap₂, subst, ◌∙◌}
use Rattle.std.specs.Prelude.{All}
use Rattle.cayley.specs.Problems.{Point, Problem, origin, point_at}
use Rattle.cayley.specs.Cells.{Cell, EachPair, IsOf}
use Rattle.cayley.specs.Valid.{IsValidProblem, support_at}
use Rattle.cayley.proofs.Lists.Pairs.{pairs_long}
use Rattle.crossing.specs.declared.line.WallLine.{WallLine}
use Rattle.inner_normal.specs.declared.moving.MovingNormal.{MovingNormal}
use Rattle.cone_walls.specs.Listed.{line_of, one_line, lines_from, support_lines, wall_lines}
use Rattle.cone_walls.specs.Workings.{FitsSupport, FitsWalls}

pub all_one : {A : Type 0} (P : A → Type 0) (x : A) → P x → All P (x ∷ [])
all_one P x h zero d l = h
all_one P x h (suc k) d l = absurd (omega arith)

-- ---- one support
split : (t u : Bool) (l : WallLine) (rest : List WallLine) → (if t then rest else if u then rest else l ∷ rest) ≡ (if t then [] else if u then [] else l ∷ []) ++ rest
split true u l rest = refl
split false true l rest = refl
split false false l rest = refl

module _ (m : MovingNormal) (i : ℕ) (s : List Point) (a b : ℕ) where
  point_is : (k : ℕ) → get_or s k origin ≡ point_at s (suc k)
  point_is k = let e : k ≡ suc k - 1 = omega arith in ap (λ z. get_or s z origin) e

  step : (k j n : ℕ) → k < length s → j ≡ suc k → n ≡ suc (suc k) → lines_from m i (point_at s a) a b j (drop k s) ≡ one_line m i s a b j ++ lines_from m i (point_at s a) a b n (drop j s)
  step k j n l e f =
      rw (e, f, drop-cons s k origin)
      (split (suc k == a) (suc k == b) (line_of m i (point_at s a) (suc k) (get_or s k origin)) (lines_from m i (point_at s a) a b (suc (suc k)) (drop (suc k) s))
      ∙ ap (λ (y : Point). (if suc k == a then [] else if suc k == b then [] else line_of m i (point_at s a) (suc k) y ∷ []) ++ lines_from m i (point_at s a) a b (suc (suc k)) (drop (suc k) s)) (point_is k))

  pub more_lines : (k : ℕ) (old new all : List WallLine) → k < length s → old ++ lines_from m i (point_at s a) a b (k + 1) (drop k s) ≡ all → new ≡ old ++ one_line m i s a b (k + 1)
      → new ++ lines_from m i (point_at s a) a b (k + 1 + 1) (drop (k + 1) s) ≡ all
  more_lines k old new all l e f =
      ap (λ z. z ++ lines_from m i (point_at s a) a b (k + 1 + 1) (drop (k + 1) s)) f
      ∙ append_assoc old (one_line m i s a b (k + 1)) (lines_from m i (point_at s a) a b (k + 1 + 1) (drop (k + 1) s))
      ∙ ap (λ z. old ++ z) (sym (step k (k + 1) (k + 1 + 1) l (omega arith) (omega arith))) ∙ e

  pub last_line : (k : ℕ) (old all : List WallLine) → length s ≤ k → old ++ lines_from m i (point_at s a) a b (k + 1) (drop k s) ≡ all → old ≡ all
  last_line k old all l e = sym (append-nil old) ∙ ap (λ (ys : List Point). old ++ lines_from m i (point_at s a) a b (k + 1) ys) (sym (drop_of_length-le s l)) ∙ e

-- ---- all supports
pub pair_of : (P : List Point → ℕ → ℕ → Type 0) (supports : List (List Point)) (cell : Cell) (k : ℕ) → EachPair supports cell P → k < length cell
    → (k < length supports) × P (get_or supports k []) (get_or cell k (0, 0)).0 (get_or cell k (0, 0)).1
pair_of P [] [] k e h = absurd (omega arith)
pair_of P [] (x ∷ cell) k e h = absurd e
pair_of P (s ∷ supports) [] k e h = absurd e
pair_of P (s ∷ supports) (x ∷ cell) zero e h = (omega arith, e.0)
pair_of P (s ∷ supports) (x ∷ cell) (suc k) e h = let r = pair_of P supports cell k e.1 (omega arith) in (omega (arith, r.0), r.1)

pub support_inside : (p : Problem) (cell pairs : Cell) → pairs ≡ cell → IsOf p cell → (k : ℕ) → k < length pairs → IsValidProblem p → k + 1 ≤ p.dimension
support_inside p cell pairs same of k l valid =
    let h : k < length cell = subst (λ (z : Cell). k < length z) same l in
    let e = valid.shape.problem.supports in
    omega (arith, e, (pair_of _ p.supports cell k of h).0)

module _ (m : MovingNormal) (p : Problem) (cell pairs : Cell) (same : pairs ≡ cell) (of : IsOf p cell) (k : ℕ) (l : k < length pairs) where
  inside : k < length cell
  inside = subst (λ (z : Cell). k < length z) same l

  inside_supports : k < length p.supports
  inside_supports = (pair_of _ p.supports cell k of inside).0

  support_is : get_or p.supports k [] ≡ support_at p (k + 1)
  support_is = let e : k ≡ k + 1 - 1 = omega arith in ap (λ z. get_or p.supports z []) e

  pair_is : get_or cell k (0, 0) ≡ get_or pairs k (0, 0)
  pair_is = ap (λ (z : Cell). get_or z k (0, 0)) (sym same)

  pub pair_within : (1 ≤ (get_or pairs k (0, 0)).0) × ((get_or pairs k (0, 0)).0 ≤ length (support_at p (k + 1)))
  pair_within =
      subst (λ (x : ℕ × ℕ). (1 ≤ x.0) × (x.0 ≤ length (support_at p (k + 1)))) pair_is
      (subst (λ (s : List Point). (1 ≤ (get_or cell k (0, 0)).0) × ((get_or cell k (0, 0)).0 ≤ length s)) support_is
      (let h = (pair_of _ p.supports cell k of inside).1 in (h.0, (let a = h.1 in let b = h.2 in omega (arith, a, b)))))

  abbrev Here : Type 0
  Here = FitsSupport m (support_at p (k + 1)) (get_or pairs k (0, 0)).0 (get_or pairs k (0, 0)).1

  here_is : FitsSupport m (support_at p (k + 1)) (get_or pairs k (0, 0)).0 (get_or pairs k (0, 0)).1 ≡ FitsSupport m (get_or p.supports k []) (get_or cell k (0, 0)).0 (get_or cell k (0, 0)).1
  here_is = ap₂ (λ (s : List Point) (x : ℕ × ℕ). FitsSupport m s x.0 x.1) (sym support_is) (sym pair_is)

  rest_is : EachPair (drop k p.supports) (drop k cell) (FitsSupport m)
      ≡ (FitsSupport m (get_or p.supports k []) (get_or cell k (0, 0)).0 (get_or cell k (0, 0)).1 × EachPair (drop (k + 1) p.supports) (drop (k + 1) cell) (FitsSupport m))
  rest_is = let a = inside in let b = inside_supports in rw (add-one, drop-cons p.supports k [], drop-cons cell k (0, 0)) refl

  pub support_not : (FitsWalls p cell m ↔ EachPair (drop k p.supports) (drop k cell) (FitsSupport m)) → FitsWalls p cell m → FitsSupport m (support_at p (k + 1)) (get_or pairs k (0, 0)).0 (get_or pairs k (0, 0)).1
  support_not r e = subst (λ T. T) (sym here_is) (subst (λ T. T) rest_is (r.0 e)).0

  pub support_more : (FitsWalls p cell m ↔ EachPair (drop k p.supports) (drop k cell) (FitsSupport m)) → FitsSupport m (support_at p (k + 1)) (get_or pairs k (0, 0)).0 (get_or pairs k (0, 0)).1
      → FitsWalls p cell m ↔ EachPair (drop (k + 1) p.supports) (drop (k + 1) cell) (FitsSupport m)
  support_more r h = (
    (λ e. (subst (λ T. T) rest_is (r.0 e)).1),
    (λ e. r.1 (subst (λ T. T) (sym rest_is) (subst (λ T. T) here_is h, e))),
  )

  lines_step : (j n : ℕ) → j ≡ suc k → n ≡ suc (suc k) → wall_lines m j (drop k p.supports) (drop k cell)
      ≡ support_lines m j (get_or p.supports k []) (get_or cell k (0, 0)).0 (get_or cell k (0, 0)).1 ++ wall_lines m n (drop j p.supports) (drop j cell)
  lines_step j n e f = let a = inside in let b = inside_supports in rw (e, f, drop-cons p.supports k [], drop-cons cell k (0, 0)) refl

  pub more_supports : (old new all : List WallLine) → old ++ wall_lines m (k + 1) (drop k p.supports) (drop k cell) ≡ all
      → new ≡ old ++ support_lines m (k + 1) (support_at p (k + 1)) (get_or pairs k (0, 0)).0 (get_or pairs k (0, 0)).1
      → new ++ wall_lines m (k + 1 + 1) (drop (k + 1) p.supports) (drop (k + 1) cell) ≡ all
  more_supports old new all e f =
      let rest = wall_lines m (k + 1 + 1) (drop (k + 1) p.supports) (drop (k + 1) cell) in
      let here = support_lines m (k + 1) (support_at p (k + 1)) (get_or pairs k (0, 0)).0 (get_or pairs k (0, 0)).1 in
      ap (λ z. z ++ rest) f ∙ append_assoc old here rest
      ∙ ap (λ z. old ++ z) (ap₂ (λ (s : List Point) (x : ℕ × ℕ). support_lines m (k + 1) s x.0 x.1 ++ rest) (sym support_is) (sym pair_is) ∙ sym (lines_step (k + 1) (k + 1 + 1) (omega arith) (omega arith))) ∙ e

pub no_supports : (m : MovingNormal) (p : Problem) (cell : Cell) (k : ℕ) → IsOf p cell → length cell ≤ k → (FitsWalls p cell m ↔ EachPair (drop k p.supports) (drop k cell) (FitsSupport m)) → FitsWalls p cell m
no_supports m p cell k of l r =
    let e = pairs_long p.supports cell _ of in
    let h : length p.supports ≤ k = omega (arith, e, l) in
    r.1 (rw (drop_of_length-le p.supports h, drop_of_length-le cell l) tt)

pub last_support : (m : MovingNormal) (p : Problem) (cell : Cell) (k : ℕ) (old all : List WallLine) → IsOf p cell → length cell ≤ k → old ++ wall_lines m (k + 1) (drop k p.supports) (drop k cell) ≡ all → old ≡ all
last_support m p cell k old all of l f =
    let e = pairs_long p.supports cell _ of in
    let h : length p.supports ≤ k = omega (arith, e, l) in
    sym (append-nil old) ∙ ap (λ (ss : List (List Point)). old ++ wall_lines m (k + 1) ss (drop k cell)) (sym (drop_of_length-le p.supports h)) ∙ f
