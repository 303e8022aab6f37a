-- a cell at an end of a segment is one of the points at rest with their heights there
use Rattle.std.proofs.Common.{◌≡◌, ◌↔◌, ℕ, zero, suc, ◌-◌, ◌≤◌, List, [], ◌∷◌, length, map, take, arith, refl, sym, ap, ap₂, subst, ◌∙◌}
use Rattle.std.specs.Prelude.{slice_index_or}
use Rattle.std.proofs.lemmas.List.{length-map}
use Rattle.std.proofs.lemmas.Int.{ints}
use Rattle.std.proofs.Math.IntN.{ℤ, pos, ◌+ℤ◌, ◌*ℤ◌}
use Rattle.int_vectors.specs.Vectors.{Each, IsZero, IsPositive, add, sub, dot, scale, comb, at_place}
use Rattle.cayley.specs.Times.{Time, time_zero}
use Rattle.cayley.specs.Problems.{Point, Problem, EachSupport, HasNoCorners, HasRanks, IsStill, ranked_supports, file_points, origin, point_at}
use Rattle.cayley.specs.Cells.{Cell, EachPair, IsOf, IsFurther}
use Rattle.cayley.specs.Normals.{Normal, mark, height, gap}
use Rattle.cayley.specs.Mixed.{IsAlive, IsMixedCell}
use Rattle.cayley.proofs.Ranking.PlainProblems.{whole_supports}
use Rattle.searcher.specs.Passes.{time_one}
use Rattle.lift_move.specs.Segments.{arrived, end_of, departing, start_of}

-- ---- points that are changed and keep their coordinates, and their gaps at one time are those of the others at another
module _ (f : Point → Point) (blank : f origin ≡ origin) (t u : Time)
    (coords : (x y : Point) → sub (f y).coordinates (f x).coordinates ≡ sub y.coordinates x.coordinates)
    (gaps : (v : Normal) (x y : Point) → gap u v (f x) (f y) ≡ gap t v x y) where
  nth_map : (s : List Point) (k : ℕ) → slice_index_or (map f s) k origin ≡ f (slice_index_or s k origin)
  nth_map [] k = sym blank
  nth_map (x ∷ s) zero = refl
  nth_map (x ∷ s) (suc k) = nth_map s k

  to_pairs : (supports : List (List Point)) (cell : Cell) (P Q : List Point → ℕ → ℕ → Type 0) → ((s : List Point) (a b : ℕ) → P s a b → Q (map f s) a b) → EachPair supports cell P → EachPair (map (map f) supports) cell Q
  to_pairs [] [] P Q g h = tt
  to_pairs [] (x ∷ cell) P Q g h = h
  to_pairs (s ∷ supports) [] P Q g h = h
  to_pairs (s ∷ supports) (x ∷ cell) P Q g h = (g s x.0 x.1 h.0, to_pairs supports cell P Q g h.1)

  from_pairs : (supports : List (List Point)) (cell : Cell) (P Q : List Point → ℕ → ℕ → Type 0) → ((s : List Point) (a b : ℕ) → Q (map f s) a b → P s a b) → EachPair (map (map f) supports) cell Q → EachPair supports cell P
  from_pairs [] [] P Q g h = tt
  from_pairs [] (x ∷ cell) P Q g h = h
  from_pairs (s ∷ supports) [] P Q g h = h
  from_pairs (s ∷ supports) (x ∷ cell) P Q g h = (g s x.0 x.1 h.0, from_pairs supports cell P Q g h.1)

  -- the gap of two positions, and the difference of their coordinates
  gap_at : (v : Normal) (s : List Point) (a c : ℕ) → gap u v (point_at (map f s) a) (point_at (map f s) c) ≡ gap t v (point_at s a) (point_at s c)
  gap_at v s a c = ap₂ (λ x y. gap u v x y) (nth_map s (a - 1)) (nth_map s (c - 1)) ∙ gaps v (point_at s a) (point_at s c)

  edge_at : (s : List Point) (a c : ℕ) → sub (point_at (map f s) c).coordinates (point_at (map f s) a).coordinates ≡ sub (point_at s c).coordinates (point_at s a).coordinates
  edge_at s a c = ap₂ (λ (x y : Point). sub y.coordinates x.coordinates) (nth_map s (a - 1)) (nth_map s (c - 1)) ∙ coords (point_at s a) (point_at s c)

  further_to : (s : List Point) (a b c : ℕ) → IsFurther s a b c → IsFurther (map f s) a b c
  further_to s a b c h = (h.0, subst (λ n. c ≤ n) (sym (length-map s f)) h.1, h.2, h.3)

  further_from : (s : List Point) (a b c : ℕ) → IsFurther (map f s) a b c → IsFurther s a b c
  further_from s a b c h = (h.0, subst (λ n. c ≤ n) (length-map s f) h.1, h.2, h.3)

  module _ (p : Problem) (cell : Cell) where
    abbrev changed : Problem
    changed = record p { supports = map (map f) p.supports }

    of_to : IsOf p cell → IsOf changed cell
    of_to h = to_pairs p.supports cell _ _ (λ s a b w. (w.0, w.1, subst (λ n. b ≤ n) (sym (length-map s f)) w.2)) h

    of_from : IsOf changed cell → IsOf p cell
    of_from h = from_pairs p.supports cell _ (λ s a b. (1 ≤ a) × (suc a ≤ b) × (b ≤ length s)) (λ s a b w. (w.0, w.1, subst (λ n. b ≤ n) (length-map s f) w.2)) h

    pub alive_to : IsAlive p cell t → IsAlive changed cell u
    alive_to h = (
      of_to h.0,
      (λ v l e. h.1 v l (from_pairs p.supports cell
          (λ s a b. dot (sub (point_at s b).coordinates (point_at s a).coordinates) v ≡ pos 0) (λ s a b. dot (sub (point_at s b).coordinates (point_at s a).coordinates) v ≡ pos 0)
          (λ s a b z. ap (λ d. dot d v) (sym (edge_at s a b)) ∙ z) e)),
      (
        h.2.0,
        (
          h.2.1.0,
          to_pairs p.supports cell (λ s a b. IsZero (gap t h.2.0 (point_at s a) (point_at s b))) (λ s a b. IsZero (gap u h.2.0 (point_at s a) (point_at s b)))
              (λ s a b z. subst IsZero (sym (gap_at h.2.0 s a b)) z) h.2.1.1,
        ),
        to_pairs p.supports cell (λ s a b. (c : ℕ) → IsFurther s a b c → IsPositive (gap t h.2.0 (point_at s a) (point_at s c)))
            (λ s a b. (c : ℕ) → IsFurther s a b c → IsPositive (gap u h.2.0 (point_at s a) (point_at s c)))
            (λ s a b z c k. subst IsPositive (sym (gap_at h.2.0 s a c)) (z c (further_from s a b c k))) h.2.2,
      ),
    )

    pub alive_from : IsAlive changed cell u → IsAlive p cell t
    alive_from h = (
      of_from h.0,
      (λ v l e. h.1 v l (to_pairs p.supports cell
          (λ s a b. dot (sub (point_at s b).coordinates (point_at s a).coordinates) v ≡ pos 0) (λ s a b. dot (sub (point_at s b).coordinates (point_at s a).coordinates) v ≡ pos 0)
          (λ s a b z. ap (λ d. dot d v) (edge_at s a b) ∙ z) e)),
      (
        h.2.0,
        (
          h.2.1.0,
          from_pairs p.supports cell (λ s a b. IsZero (gap t h.2.0 (point_at s a) (point_at s b))) (λ s a b. IsZero (gap u h.2.0 (point_at s a) (point_at s b)))
              (λ s a b z. subst IsZero (gap_at h.2.0 s a b) z) h.2.1.1,
        ),
        from_pairs p.supports cell (λ s a b. (c : ℕ) → IsFurther s a b c → IsPositive (gap t h.2.0 (point_at s a) (point_at s c)))
            (λ s a b. (c : ℕ) → IsFurther s a b c → IsPositive (gap u h.2.0 (point_at s a) (point_at s c)))
            (λ s a b z c k. subst IsPositive (gap_at h.2.0 s a c) (z c (further_to s a b c k))) h.2.2,
      ),
    )

-- ---- heights at the two ends
moved_sum : (b s : ℤ) → pos 1 *ℤ (b +ℤ s) ≡ pos 1 *ℤ b +ℤ s *ℤ pos 1
moved_sum b s = omega (arith, ints)

moved_more : (b s : ℤ) → pos 1 *ℤ (b +ℤ s) +ℤ pos 0 ≡ pos 1 *ℤ b +ℤ (s *ℤ pos 1 +ℤ pos 0)
moved_more b s = omega (arith, ints)

by_rank : (b s : ℤ) (r : ℕ) → add ((pos 1 *ℤ (b +ℤ s)) ∷ []) (add [] (mark (pos 1) r)) ≡ add ((pos 1 *ℤ b) ∷ []) (add ((s *ℤ pos 1) ∷ []) (mark (pos 1) r))
by_rank b s zero = ap (λ z. z ∷ []) (moved_sum b s)
by_rank b s (suc r) = ap (λ z. z ∷ at_place r (pos 1)) (moved_more b s)

pub height_arrived : (x : Point) → height time_zero (arrived x) ≡ height time_one x
height_arrived x = by_rank x.base x.speed x.rank

gap_arrived : (v : Normal) (x y : Point) → gap time_zero v (arrived x) (arrived y) ≡ gap time_one v x y
gap_arrived v x y = ap₂ (λ a b. add (scale (pos 1) (comb (sub y.coordinates x.coordinates) v.entries)) (scale v.over (sub b a))) (height_arrived x) (height_arrived y)

-- ---- the laws of the ends
pub alive_at_end : (p : Problem) (cell : Cell) → IsAlive p cell time_one ↔ IsAlive (end_of p) cell time_zero
alive_at_end p cell = (
  alive_to arrived refl time_one time_zero (λ x y. refl) gap_arrived p cell,
  alive_from arrived refl time_one time_zero (λ x y. refl) gap_arrived p cell,
)

pub alive_at_start : (p : Problem) (cell : Cell) → IsAlive p cell time_zero ↔ IsAlive (start_of p) cell time_zero
alive_at_start p cell = (
  alive_to departing refl time_zero time_zero (λ x y. refl) (λ v x y. refl) p cell,
  alive_from departing refl time_zero time_zero (λ x y. refl) (λ v x y. refl) p cell,
)

-- ---- a problem of version 1 without corners has its file points alone
pub own_points : (p : Problem) → HasRanks p → HasNoCorners p → file_points p ≡ p
own_points p ranks alone = ap (λ l. record p { supports = l }) (ap (ranked_supports p.version p.files) (whole_supports 1 p.files p.supports alone) ∙ sym ranks)

-- ---- the problem of the heights at time 1
module _ (f : Point → Point) where
  counts_map : (i : ℕ) (files : List ℕ) (supports : List (List Point)) → EachSupport i files supports (λ j f s. length s ≡ f) → EachSupport i files (map (map f) supports) (λ j f s. length s ≡ f)
  counts_map i [] [] e = tt
  counts_map i [] (s ∷ supports) e = absurd e
  counts_map i (n ∷ files) [] e = absurd e
  counts_map i (n ∷ files) (s ∷ supports) e = (length-map s f ∙ e.0, counts_map (suc i) files supports e.1)

  rest_map : ((x : Point) → (f x).speed ≡ pos 0) → (n : ℕ) (s : List Point) → Each (take n (map f s)) (λ (x : Point). x.speed ≡ pos 0)
  rest_map g zero s = tt
  rest_map g (suc n) [] = tt
  rest_map g (suc n) (x ∷ s) = (g x, rest_map g n s)

  still_map : ((x : Point) → (f x).speed ≡ pos 0) → (i : ℕ) (files : List ℕ) (supports : List (List Point)) → EachSupport i files supports (λ j f s. length s ≡ f)
      → EachSupport i files (map (map f) supports) (λ j f s. Each (take f s) (λ (x : Point). x.speed ≡ pos 0))
  still_map g i [] [] e = tt
  still_map g i [] (s ∷ supports) e = absurd e
  still_map g i (n ∷ files) [] e = absurd e
  still_map g i (n ∷ files) (s ∷ supports) e = (rest_map g n s, still_map g (suc i) files supports e.1)

pub end_alone : (p : Problem) → HasNoCorners p → HasNoCorners (end_of p)
end_alone p alone = counts_map arrived 1 p.files p.supports alone

pub end_still : (p : Problem) → HasNoCorners p → IsStill (end_of p)
end_still p alone = still_map arrived (λ x. refl) 1 p.files p.supports alone

-- a cell that is alive at time 1 is a mixed cell of the second problem, and the other way round
pub mixed_at_end : (p second : Problem) (cell : Cell) → HasNoCorners p → HasRanks second → second ≡ end_of p → IsAlive p cell time_one ↔ IsMixedCell second cell
mixed_at_end p second cell alone ranks e =
    let own : file_points second ≡ end_of p = own_points second ranks (subst HasNoCorners (sym e) (end_alone p alone)) ∙ e in (
      (λ h. subst (λ q. IsAlive q cell time_zero) (sym own) ((alive_at_end p cell).0 h)),
      (λ h. (alive_at_end p cell).1 (subst (λ q. IsAlive q cell time_zero) own h)),
    )

pub start_alone : (p : Problem) → HasNoCorners p → HasNoCorners (start_of p)
start_alone p alone = counts_map departing 1 p.files p.supports alone
