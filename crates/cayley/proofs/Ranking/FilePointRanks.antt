-- the points of a support in a problem and in the problem of the file points alone: their ranks stand in the same order
use Rattle.std.proofs.Common.{◌≡◌, ℕ, zero, suc, ◌+◌, ◌-◌, ◌<◌, ◌≤◌, Bool, true, false, if◌then◌else◌, List, [], ◌∷◌, length, map, take, drop, arith, refl, sym, ap, subst, ◌∙◌}
use Rattle.std.proofs.lemmas.List.{length-take, length-drop}
use Rattle.std.specs.Prelude.{slice_index_or}
use Rattle.std.proofs.Math.IntN.{pos}
use Rattle.int_vectors.specs.Vectors.{Each}
use Rattle.cayley.specs.Problems.{Version, Point, Problem, origin, point_at, EachSupport, IsStill, with_rank, is_start_corner, numbered, numbered_supports, ranks_in, ranked_supports, HasRanks, first_points, file_points}
use Rattle.cayley.specs.Problems.Version.{version1, version2}
use Rattle.cayley.specs.Valid.{IsMoving}
use Rattle.int_vectors.proofs.Each.{all_each, read_take, read_drop}
use Rattle.cayley.proofs.OneCell.RaisedRanks.{place_in, rank_to, IsRankedAs}
use Rattle.cayley.proofs.Ranking.Numbering.{not_start}

-- s begins with the points of u, with other ranks, and goes on with corners
pub record Alike (gs : List ℕ) (s u : List Point) : Type 0 where
  pub long : length u ≤ length s
  pub file : (c : ℕ) → 1 ≤ c → c ≤ length u → IsRankedAs gs (point_at s c) (point_at u c)
  pub corner : (c : ℕ) → length u < c → c ≤ length s → (point_at s c).speed ≡ pos 1

abbrev pub Alikes : List ℕ → List (List Point) → List (List Point) → Type 0
Alikes gs [] [] = Unit {0}
Alikes gs [] (u ∷ us) = ⊥
Alikes gs (s ∷ supports) [] = ⊥
Alikes gs (s ∷ supports) (u ∷ us) = Alike gs s u × Alikes gs supports us

abbrev Resting : List Point → Type 0
Resting s = Each s (λ (x : Point). x.speed ≡ pos 0)

abbrev Rising : List Point → Type 0
Rising s = Each s (λ (x : Point). x.speed ≡ pos 1)

-- ---- one support

-- the file points have the ranks r, r + 1, ..
numbered_point : (i f position r : ℕ) (xs : List Point) (k : ℕ) → position + k ≤ f → k < length xs
    → slice_index_or (numbered i f position r xs) k origin ≡ with_rank (r + k) (slice_index_or xs k origin)
numbered_point i f position r [] k l m = absurd (omega (arith, m))
numbered_point i f position r (x ∷ xs) zero l m =
    let e : r ≡ r + 0 = omega arith in
    rw (not_start i f position (λ e. omega (arith, e, l)) (λ e. omega (arith, e, l))) (ap (λ n. with_rank n x) e)
numbered_point i f position r (x ∷ xs) (suc k) l m =
    let e : suc r + k ≡ r + suc k = omega arith in
    rw (not_start i f position (λ e. omega (arith, e, l)) (λ e. omega (arith, e, l)))
    (numbered_point i f (suc position) (suc r) xs k (omega (arith, l)) (omega (arith, m)) ∙ ap (λ n. with_rank n (slice_index_or xs k origin)) e)

-- no speed changes
either_speed : (b : Bool) (x y z : Point) (xs ys zs : List Point) → y.speed ≡ x.speed → z.speed ≡ x.speed
    → ((k : ℕ) → (slice_index_or ys k origin).speed ≡ (slice_index_or xs k origin).speed) → ((k : ℕ) → (slice_index_or zs k origin).speed ≡ (slice_index_or xs k origin).speed)
    → (k : ℕ) → (slice_index_or (if b then y ∷ ys else z ∷ zs) k origin).speed ≡ (slice_index_or (x ∷ xs) k origin).speed
either_speed true x y z xs ys zs e d h g zero = e
either_speed true x y z xs ys zs e d h g (suc k) = h k
either_speed false x y z xs ys zs e d h g zero = d
either_speed false x y z xs ys zs e d h g (suc k) = g k

numbered_speed : (i f position r : ℕ) (xs : List Point) (k : ℕ) → (slice_index_or (numbered i f position r xs) k origin).speed ≡ (slice_index_or xs k origin).speed
numbered_speed i f position r [] k = refl
numbered_speed i f position r (x ∷ xs) k =
    either_speed (is_start_corner i f position) x (with_rank 0 x) (with_rank r x) xs (numbered i f (suc position) r xs) (numbered i f (suc position) (suc r) xs) refl refl
    (numbered_speed i f (suc position) r xs) (numbered_speed i f (suc position) (suc r) xs) k

either_long : (b : Bool) (y z : Point) (ys zs : List Point) (n : ℕ) → length ys ≡ n → length zs ≡ n → length (if b then y ∷ ys else z ∷ zs) ≡ suc n
either_long true y z ys zs n e d = ap suc e
either_long false y z ys zs n e d = ap suc d

pub length-numbered : (i f position r : ℕ) (xs : List Point) → length (numbered i f position r xs) ≡ length xs
length-numbered i f position r [] = refl
length-numbered i f position r (x ∷ xs) =
    either_long (is_start_corner i f position) (with_rank 0 x) (with_rank r x) (numbered i f (suc position) r xs) (numbered i f (suc position) (suc r) xs) (length xs)
    (length-numbered i f (suc position) r xs) (length-numbered i f (suc position) (suc r) xs)

-- the point behind the first f points of a support
speed_behind : (f k : ℕ) (s : List Point) → Rising (drop f s) → f ≤ k → k < length s → (slice_index_or s k origin).speed ≡ pos 1
speed_behind f k s moving l m =
    let d = length-drop f s in
    ap (λ (x : Point). x.speed) (sym (read_drop s f (k - f) k origin (omega (arith, l)))) ∙ all_each (λ (x : Point). x.speed ≡ pos 1) (drop f s) moving (k - f) origin (omega (arith, d, l, m))

-- the same point with two ranks
ranked_twice : (gs : List ℕ) (m n : ℕ) (x y z : Point) → x ≡ with_rank m z → y ≡ with_rank n z → z.speed ≡ pos 0 → m ≡ rank_to gs n → IsRankedAs gs x y
ranked_twice gs m n x y z e d still r =
    subst (λ k. IsRankedAs gs k y) (sym e) (subst (λ k. IsRankedAs gs (with_rank m z) k) (sym d) (record { coordinates = refl; base = refl; still = still; still_too = still; rank = r }))

support_alike : (i f r q : ℕ) (gs : List ℕ) (s : List Point) → Resting (take f s) → Rising (drop f s)
    → ((k : ℕ) → k < length (take f s) → rank_to gs (q + k) ≡ r + k) → Alike gs (numbered i f 1 r s) (numbered i f 1 q (take f s))
support_alike i f r q gs s still moving h =
    let t = take f s in
    let ls = length-numbered i f 1 r s in
    let lt = length-numbered i f 1 q t in
    let m = length-take f s in
    record {
      long = omega (arith, ls, lt, m);
      file = λ c l b.
          let k : ℕ = c - 1 in
          let e = read_take s f k origin (omega (arith, l, b, lt, m)) in
          ranked_twice gs (r + k) (q + k) _ _ (slice_index_or s k origin)
          (numbered_point i f 1 r s k (omega (arith, l, b, lt, m)) (omega (arith, l, b, lt, m)))
          (numbered_point i f 1 q t k (omega (arith, l, b, lt, m)) (omega (arith, l, b, lt)) ∙ ap (with_rank (q + k)) e)
          (ap (λ (x : Point). x.speed) (sym e) ∙ all_each (λ (x : Point). x.speed ≡ pos 0) t still k origin (omega (arith, l, b, lt)))
          (sym (h k (omega (arith, l, b, lt))));
      corner = λ c l b. numbered_speed i f 1 r s (c - 1) ∙ speed_behind f (c - 1) s moving (omega (arith, l, b, lt, ls, m)) (omega (arith, l, b, ls));
    }

-- ---- where the ranks of the file points go: before each comes a number of corners' ranks
-- k numbers 0 first
abbrev no_gaps : ℕ → List ℕ → List ℕ
no_gaps zero gs = gs
no_gaps (suc k) gs = 0 ∷ no_gaps k gs

abbrev wider : ℕ → List ℕ → List ℕ
wider m [] = []
wider m (g ∷ gs) = (m + g) ∷ gs

abbrev gaps_of : List ℕ → List (List Point) → List ℕ
gaps_of [] ss = []
gaps_of (f ∷ fs) [] = []
gaps_of (f ∷ fs) (s ∷ ss) = no_gaps (length (take f s)) (wider (ranks_in f s - length (take f s)) (gaps_of fs ss))

abbrev ranks_of : List ℕ → List (List Point) → ℕ
ranks_of [] ss = 0
ranks_of (f ∷ fs) [] = 0
ranks_of (f ∷ fs) (s ∷ ss) = length (take f s) + ranks_of fs ss

length-no_gaps : (k : ℕ) (gs : List ℕ) → length (no_gaps k gs) ≡ k + length gs
length-no_gaps zero gs = omega arith
length-no_gaps (suc k) gs = let r = length-no_gaps k gs in omega (arith, r)

length-wider : (m : ℕ) (gs : List ℕ) → length (wider m gs) ≡ length gs
length-wider m [] = refl
length-wider m (g ∷ gs) = refl

length-gaps : (fs : List ℕ) (ss : List (List Point)) → length (gaps_of fs ss) ≡ ranks_of fs ss
length-gaps [] ss = refl
length-gaps (f ∷ fs) [] = refl
length-gaps (f ∷ fs) (s ∷ ss) =
    let m = ranks_in f s - length (take f s) in
    let a = length-no_gaps (length (take f s)) (wider m (gaps_of fs ss)) in
    let b = length-wider m (gaps_of fs ss) in
    let c = length-gaps fs ss in
    omega (arith, a, b, c)

-- without gaps a place stays
place_near : (f k : ℕ) (gs : List ℕ) → k < f → place_in (no_gaps f gs) k ≡ k
place_near zero k gs l = absurd (omega arith)
place_near (suc f) zero gs l = refl
place_near (suc f) (suc k) gs l = let r = place_near f k gs (omega arith) in omega (arith, r)

place_far : (f k : ℕ) (gs : List ℕ) → place_in (no_gaps f gs) (f + k) ≡ f + place_in gs k
place_far zero k gs = let e : 0 + k ≡ k = omega arith in ap (place_in gs) e ∙ omega arith
place_far (suc f) k gs =
    let e : suc f + k ≡ suc (f + k) = omega arith in
    let r = place_far f k gs in
    ap (place_in (0 ∷ no_gaps f gs)) e ∙ omega (arith, r)

place_wider : (m k : ℕ) (gs : List ℕ) → k < length gs → place_in (wider m gs) k ≡ m + place_in gs k
place_wider m k [] l = absurd (omega arith)
place_wider m zero (g ∷ gs) l = refl
place_wider m (suc k) (g ∷ gs) l = omega arith

-- ---- all supports: the ranks q, q + 1, .. go to r, r + 1, .. with the gaps
all_alike : (i r q : ℕ) (gs fs : List ℕ) (ss : List (List Point)) → EachSupport i fs ss (λ i f s. Resting (take f s)) → EachSupport i fs ss (λ i f s. Rising (drop f s))
    → ((k : ℕ) → k < ranks_of fs ss → rank_to gs (q + k) ≡ r + place_in (gaps_of fs ss) k)
    → Alikes gs (numbered_supports i r fs ss) (numbered_supports i q fs (first_points fs ss))
all_alike i r q gs [] [] still moving h = tt
all_alike i r q gs [] (s ∷ ss) still moving h = absurd still
all_alike i r q gs (f ∷ fs) [] still moving h = absurd still
all_alike i r q gs (f ∷ fs) (s ∷ ss) still moving h =
    let t = length (take f s) in
    let m = ranks_in f s - t in
    let rest = wider m (gaps_of fs ss) in (
      support_alike i f r q gs s still.0 moving.0 (λ k l. h k (omega (arith, l)) ∙ ap (λ j. r + j) (place_near t k rest l)),
      all_alike (suc i) (r + ranks_in f s) (q + ranks_in f (take f s)) gs fs ss still.1 moving.1 (λ k l.
          let g = length-gaps fs ss in
          let e = length-take f s in
          let a : (q + ranks_in f (take f s)) + k ≡ q + (t + k) = omega (arith, e) in
          let b = place_far t k rest in
          let c = place_wider m k (gaps_of fs ss) (omega (arith, g, l)) in
          ap (rank_to gs) a ∙ h (t + k) (omega (arith, l)) ∙ omega (arith, b, c, e)),
    )

-- ---- version 1: no ranks
unranked_point : (xs : List Point) (k : ℕ) → slice_index_or (map (with_rank 0) xs) k origin ≡ with_rank 0 (slice_index_or xs k origin)
unranked_point [] k = refl
unranked_point (x ∷ xs) zero = refl
unranked_point (x ∷ xs) (suc k) = unranked_point xs k

length-unranked : (xs : List Point) → length (map (with_rank 0) xs) ≡ length xs
length-unranked [] = refl
length-unranked (x ∷ xs) = ap suc (length-unranked xs)

unranked_alike : (f : ℕ) (s : List Point) → Resting (take f s) → Rising (drop f s) → Alike [] (map (with_rank 0) s) (map (with_rank 0) (take f s))
unranked_alike f s still moving =
    let t = take f s in
    let ls = length-unranked s in
    let lt = length-unranked t in
    let m = length-take f s in
    record {
      long = omega (arith, ls, lt, m);
      file = λ c l b.
          let k : ℕ = c - 1 in
          let e = read_take s f k origin (omega (arith, l, b, lt, m)) in
          ranked_twice [] 0 0 _ _ (slice_index_or s k origin)
          (unranked_point s k)
          (unranked_point t k ∙ ap (with_rank 0) e)
          (ap (λ (x : Point). x.speed) (sym e) ∙ all_each (λ (x : Point). x.speed ≡ pos 0) t still k origin (omega (arith, l, b, lt)))
          refl;
      corner = λ c l b. ap (λ (x : Point). x.speed) (unranked_point s (c - 1)) ∙ speed_behind f (c - 1) s moving (omega (arith, l, b, lt, ls, m)) (omega (arith, l, b, ls));
    }

all_unranked_alike : (i : ℕ) (fs : List ℕ) (ss : List (List Point)) → EachSupport i fs ss (λ i f s. Resting (take f s)) → EachSupport i fs ss (λ i f s. Rising (drop f s))
    → Alikes [] (map (map (with_rank 0)) ss) (map (map (with_rank 0)) (first_points fs ss))
all_unranked_alike i [] [] still moving = tt
all_unranked_alike i [] (s ∷ ss) still moving = absurd still
all_unranked_alike i (f ∷ fs) [] still moving = absurd still
all_unranked_alike i (f ∷ fs) (s ∷ ss) still moving = (unranked_alike f s still.0 moving.0, all_unranked_alike (suc i) fs ss still.1 moving.1)

by_version : (version : Version) (fs : List ℕ) (ss : List (List Point)) → ss ≡ ranked_supports version fs ss
    → EachSupport 1 fs ss (λ i f s. Resting (take f s)) → EachSupport 1 fs ss (λ i f s. Rising (drop f s)) → (gs : List ℕ) × Alikes gs ss (ranked_supports version fs (first_points fs ss))
by_version version1 fs ss e still moving = ([], subst (λ k. Alikes [] k (map (map (with_rank 0)) (first_points fs ss))) (sym e) (all_unranked_alike 1 fs ss still moving))
by_version version2 fs ss e still moving =
    let gs = gaps_of fs ss in
    (gs, subst (λ k. Alikes gs k (numbered_supports 1 1 fs (first_points fs ss))) (sym e) (all_alike 1 1 1 gs fs ss still moving (λ k l. first gs k)))
  where
    first : (gs : List ℕ) (k : ℕ) → rank_to gs (1 + k) ≡ 1 + place_in gs k
    first gs k =
        let a : 1 + k ≡ suc k = omega arith in
        let b : suc (place_in gs k) ≡ 1 + place_in gs k = omega arith in
        ap (rank_to gs) a ∙ b

pub file_points_alike : (p : Problem) → HasRanks p → IsStill p → IsMoving p → (gs : List ℕ) × Alikes gs p.supports (file_points p).supports
file_points_alike p ranks still moving = by_version p.version p.files p.supports ranks still moving
