-- Of a point and as many behind it as are taken, one is free.
use Rattle.std.proofs.Common.{◌≡◌, ◌≢◌, ℕ, zero, suc, ◌+◌, ◌^◌, ◌<◌, ◌≤◌, ◌⊎◌, ◌||◌, inl, inr, Bool, true, false, cond, List, [], ◌∷◌, length, refl, ap, sym, subst, ◌∙◌, arith}
use Rattle.std.specs.Prelude.{if◌then◌else◌, ◌==◌}
use Rattle.std.specs.Bool.{Decides}
use Rattle.std.specs.Cmp.Lexicographic.{pointwise}
use Rattle.std.proofs.lemmas.Slice.Eq.{slice_eq-Decides}
use Rattle.std.proofs.lemmas.Bool.Decides.{Decides-eqb}
use Rattle.int_vectors.specs.Vectors.{Each}
use Rattle.family_gen.specs.Scatter.{are_all, next, walk, first_free, next_free, is_among}
use Rattle.family_gen.proofs.GridPoints.{Within, rank, rank_below, rank-next, next-length, next_within}

abbrev same : List ℕ → List ℕ → Bool
same xs ys = pointwise (λ a b. a == b) xs ys

same_is : (xs ys : List ℕ) → Decides (same xs ys) (xs ≡ ys)
same_is xs ys = slice_eq-Decides Decides-eqb xs ys (same xs ys) refl

-- a number that stands d places behind r, counted round n places
abbrev Behind : ℕ → ℕ → ℕ → ℕ → Type 0
Behind n r d v = (v ≡ r + d) ⊎ (v + n ≡ r + d)

behind_next : (n r d v w : ℕ) (b : Bool) → w + cond b n 0 ≡ v + 1 → r < n → d + 1 ≤ n → Behind n r d v → Behind n r (d + 1) w
behind_next n r d v w false e l m (inl h) = inl (omega arith)
behind_next n r d v w false e l m (inr h) = inr (omega arith)
behind_next n r d v w true e l m (inl h) = inr (omega arith)
behind_next n r d v w true e l m (inr h) = absurd (omega arith)

apart : (n r d v : ℕ) → 1 ≤ d → d < n → Behind n r d v → v ≢ r
apart n r d v p q (inl h) e = omega arith
apart n r d v p q (inr h) e = omega arith

-- none of the points is x
abbrev AreOther : List ℕ → List (List ℕ) → Type 0
AreOther x ys = Each ys (λ y. same x y ≡ false)

unlike : (side : ℕ) (x y : List ℕ) → rank side y ≢ rank side x → same x y ≡ false
unlike side x y h = by (same x y) (same_is x y)
  where
    by : (b : Bool) → Decides b (x ≡ y) → b ≡ false
    by true d = absurd (h (ap (rank side) (sym (d.0 refl))))
    by false d = refl

others : (side : ℕ) (x y : List ℕ) (d k : ℕ) → Within side x → Within side y → length y ≡ length x → 1 ≤ d → d + k < (side + 1) ^ length x
    → Behind ((side + 1) ^ length x) (rank side x) d (rank side y) → AreOther x (walk side k y)
unfolding walk
others side x y d zero wx wy l p q b = (unlike side x y (apart ((side + 1) ^ length x) (rank side x) d (rank side y) p (omega arith) b), tt)
others side x y d (suc k) wx wy l p q b =
    let n = (side + 1) ^ length x in
    let e : rank side (next side y) + cond (are_all side y) n 0 ≡ rank side y + 1 = subst (λ (i : ℕ). rank side (next side y) + cond (are_all side y) ((side + 1) ^ i) 0 ≡ rank side y + 1) l (rank-next side y) in
    let low : rank side x < n = rank_below side x wx in (
      unlike side x y (apart n (rank side x) d (rank side y) p (omega arith) b),
      others side x (next side y) (d + 1) k wx (next_within side y wy) (next-length side y ∙ l) (omega arith) (omega arith)
          (behind_next n (rank side x) d (rank side y) (rank side (next side y)) (are_all side y) e low (omega arith) b),
    )

-- the points that aren't x
abbrev without : List ℕ → List (List ℕ) → List (List ℕ)
without x [] = []
without x (p ∷ ps) = if same p x then without x ps else p ∷ without x ps

without_less : (x : List ℕ) (ps : List (List ℕ)) → length (without x ps) ≤ length ps
without_less x [] = omega arith
without_less x (p ∷ ps) = by (same p x) (without_less x ps)
  where
    by : (b : Bool) → length (without x ps) ≤ length ps → length (if b then without x ps else p ∷ without x ps) ≤ suc (length ps)
    by true h = omega arith
    by false h = omega arith

without_one : (x : List ℕ) (ps : List (List ℕ)) → is_among x ps ≡ true → length (without x ps) < length ps
without_one x [] h = absurd cc
without_one x (p ∷ ps) h = by (same p x) h (without_one x ps) (without_less x ps)
  where
    by : (b : Bool) → (b || is_among x ps) ≡ true → (is_among x ps ≡ true → length (without x ps) < length ps) → length (without x ps) ≤ length ps
        → length (if b then without x ps else p ∷ without x ps) < suc (length ps)
    by true h f l = omega arith
    by false h f l = let g = f h in omega arith

-- another point than x that isn't left isn't taken
without_free : (x y : List ℕ) (ps : List (List ℕ)) → same x y ≡ false → is_among y (without x ps) ≡ false → is_among y ps ≡ false
without_free x y [] e h = refl
without_free x y (p ∷ ps) e h = by (same p x) (same_is p x) h (without_free x y ps e)
  where
    neither : (a b : Bool) → (a || b) ≡ false → (a ≡ false) × (b ≡ false)
    neither true b k = absurd cc
    neither false b k = (refl, k)

    both : (a b : Bool) → a ≡ false → b ≡ false → (a || b) ≡ false
    both a b f g = rw (f, g) refl

    by : (b : Bool) → Decides b (p ≡ x) → is_among y (if b then without x ps else p ∷ without x ps) ≡ false → (is_among y (without x ps) ≡ false → is_among y ps ≡ false) → (same p y || is_among y ps) ≡ false
    by true d k f = both (same p y) (is_among y ps) (ap (λ (z : List ℕ). same z y) (d.0 refl) ∙ e) (f k)
    by false d k f = let n = neither (same p y) (is_among y (without x ps)) k in both (same p y) (is_among y ps) n.0 (f n.1)

-- one of the points isn't taken
abbrev HasFree : List (List ℕ) → List (List ℕ) → Type 0
HasFree taken [] = ⊥
HasFree taken (y ∷ ys) = (is_among y taken ≡ false) ⊎ HasFree taken ys

free_too : (x : List ℕ) (taken ys : List (List ℕ)) → AreOther x ys → HasFree (without x taken) ys → HasFree taken ys
free_too x taken [] o h = h
free_too x taken (y ∷ ys) o (inl h) = inl (without_free x y taken o.0 h)
free_too x taken (y ∷ ys) o (inr h) = inr (free_too x taken ys o.1 h)

has_free : (side k : ℕ) (taken : List (List ℕ)) (x : List ℕ) → length taken ≤ k → k < (side + 1) ^ length x → Within side x → HasFree taken (walk side k x)
unfolding walk
has_free side zero [] x l s w = inl refl
has_free side zero (t ∷ ts) x l s w = absurd (omega arith)
has_free side (suc k) taken x l s w = by (is_among x taken) refl (λ fewer t. has_free side k fewer (next side x) t (rw size (omega arith)) (next_within side x w))
  where
    size : (side + 1) ^ length (next side x) ≡ (side + 1) ^ length x
    size = ap (λ (i : ℕ). (side + 1) ^ i) (next-length side x)

    by : (b : Bool) → is_among x taken ≡ b → ((fewer : List (List ℕ)) → length fewer ≤ k → HasFree fewer (walk side k (next side x))) → HasFree taken (x ∷ walk side k (next side x))
    by false e f = inl e
    by true e f =
        let fewer = without_one x taken e in
        let low = rank_below side x w in
        inr (free_too x taken (walk side k (next side x))
        (others side x (next side x) 1 k w (next_within side x w) (next-length side x) (omega arith) (omega arith)
        (behind_next ((side + 1) ^ length x) (rank side x) 0 (rank side x) (rank side (next side x)) (are_all side x) (rank-next side x) low (omega arith) (inl (omega arith))))
        (f (without x taken) (omega arith)))

-- the first of the points that isn't taken has what all points have
found : (P : List ℕ → Type 0) (taken ys : List (List ℕ)) → Each ys P → HasFree taken ys → (is_among (first_free taken ys) taken ≡ false) × P (first_free taken ys)
unfolding first_free
found P taken [] e h = absurd h
found P taken (y ∷ ys) e h = by (is_among y taken) refl h (λ f. found P taken ys e.1 f)
  where
    by : (b : Bool) → is_among y taken ≡ b → (is_among y taken ≡ false) ⊎ HasFree taken ys → (HasFree taken ys → (is_among (first_free taken ys) taken ≡ false) × P (first_free taken ys))
        → (is_among (if b then first_free taken ys else y) taken ≡ false) × P (if b then first_free taken ys else y)
    by false k f g = (k, e.0)
    by true k (inl f) g = absurd (cc)
    by true k (inr f) g = g f

abbrev pub IsOfGrid : ℕ → ℕ → List ℕ → Type 0
IsOfGrid side n x = (length x ≡ n) × Within side x

walk_stays : (side n k : ℕ) (x : List ℕ) → IsOfGrid side n x → Each (walk side k x) (IsOfGrid side n)
unfolding walk
walk_stays side n zero x h = (h, tt)
walk_stays side n (suc k) x h = (h, walk_stays side n k (next side x) (next-length side x ∙ h.0, next_within side x h.1))

pub next_is_free : (side n : ℕ) (taken : List (List ℕ)) (x : List ℕ) → IsOfGrid side n x → length taken < (side + 1) ^ n
    → (is_among (next_free side taken x) taken ≡ false) × IsOfGrid side n (next_free side taken x)
next_is_free side n taken x h l =
    let size : (side + 1) ^ n ≡ (side + 1) ^ length x = ap (λ (i : ℕ). (side + 1) ^ i) (sym h.0) in
    found (IsOfGrid side n) taken (walk side (length taken) x) (walk_stays side n (length taken) x h) (has_free side (length taken) taken x (omega arith) (omega arith) h.1)

-- ---- a search along the walk

pub one_free : (side : ℕ) (taken : List (List ℕ)) (k : ℕ) (x whole : List ℕ) → is_among x taken ≡ false → first_free taken (walk side k x) ≡ whole → x ≡ whole
unfolding first_free walk
one_free side taken zero x whole f h = let one : first_free taken (x ∷ []) ≡ x = rw f refl in sym one ∙ h
one_free side taken (suc k) x whole f h = let one : first_free taken (x ∷ walk side k (next side x)) ≡ x = rw f refl in sym one ∙ h

pub one_taken : (side : ℕ) (taken : List (List ℕ)) (j k : ℕ) (x new whole : List ℕ) → j ≡ suc k → is_among x taken ≡ true → new ≡ next side x → first_free taken (walk side j x) ≡ whole → first_free taken (walk side k new) ≡ whole
unfolding first_free walk
one_taken side taken j k x new whole e f g h =
    let one : first_free taken (walk side j x) ≡ first_free taken (walk side k (next side x)) = rw e (rw f refl) in
    ap (λ (y : List ℕ). first_free taken (walk side k y)) g ∙ sym one ∙ h

-- the last of the points is free, since one of them is
pub last_free : (side n : ℕ) (taken : List (List ℕ)) (k : ℕ) (x start : List ℕ) → k ≡ 0 → 1 ≤ n → IsOfGrid side n start → length taken < (side + 1) ^ n → first_free taken (walk side k x) ≡ next_free side taken start → x ≡ next_free side taken start
unfolding first_free walk
last_free side n taken k x start e s g l h = by (is_among x taken) refl
  where
    only : first_free taken (x ∷ []) ≡ next_free side taken start
    only = ap (λ (i : ℕ). first_free taken (walk side i x)) (sym e) ∙ h

    by : (b : Bool) → is_among x taken ≡ b → x ≡ next_free side taken start
    by false f = one_free side taken 0 x (next_free side taken start) f only
    by true f =
        let none : first_free taken (x ∷ []) ≡ [] = rw f refl in
        let size : 0 ≡ n = ap length (sym none ∙ only) ∙ (next_is_free side n taken start g l).1.0 in
        absurd (omega arith)
