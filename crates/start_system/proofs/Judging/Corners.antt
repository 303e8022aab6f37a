-- the corners of a support are those of a path exactly where each one alone is
use Rattle.std.proofs.Common.{◌≡◌, ◌≢◌, true, false, ℕ, zero, suc, ◌+◌, ◌-◌, ◌<◌, ◌≤◌, List, [], ◌∷◌, length, map, take, drop, arith, refl, sym, ap, subst, ◌∙◌, ◌≤ℤ◌}
use Rattle.std.proofs.Math.IntN.{ℤ, pos}
use Rattle.std.proofs.lemmas.Int.{ints}
use Rattle.std.proofs.lemmas.List.{length-map, length-drop}
use Rattle.int_vectors.specs.Vectors.{Each, add, at_place}
use Rattle.cayley.specs.Problems.{Point, point_at, origin, with_rank}
use Rattle.cayley.specs.Files.{FilePoint}
use Rattle.cayley.specs.Stored.{held}
use Rattle.cayley.specs.Paths.{corner, corners, least_coordinates, later_corners, direction_corners, simplex_edge}
use Rattle.int_vectors.proofs.Each.{read_drop}
use Rattle.start_system.specs.Corners.{IsFirstOf, IsDirectionOf, HasPathCorners}
use Rattle.start_system.proofs.Path.Positions.{from_zero, point_suc}
use Rattle.start_system.proofs.Path.Supports.{direction_from_zero, length-directions}

corner_is : (x : Point) (v : List ℤ) (z : ℤ) → x.coordinates ≡ v → x.base ≡ z → x.speed ≡ pos 1 → with_rank 0 x ≡ corner v z
corner_is x v z e f g = λ i. record { coordinates = e i; base = f i; speed = g i; rank = 0 }

-- ---- from each one alone to the list
Later : List ℤ → ℤ → ℕ → List Point → Type 0
Later m d j xs = (k : ℕ) → k < length xs → ((from_zero xs k).coordinates ≡ add m (at_place (j + k) d)) × (pos 1 ≤ℤ (from_zero xs k).base)

later_from : (m : List ℤ) (d : ℤ) (j : ℕ) (xs : List Point) → Each xs (λ (x : Point). x.speed ≡ pos 1) → Later m d j xs
    → Each (map (λ (x : Point). x.base) xs) (λ z. pos 1 ≤ℤ z) × (map (with_rank 0) xs ≡ later_corners m d j (map (λ (x : Point). x.base) xs))
unfolding Later
later_from m d j [] s h = (tt, refl)
later_from m d j (x ∷ xs) s h =
    let first = h 0 (omega arith) in
    let o : j + 0 ≡ j = omega arith in
    let rest = later_from m d (suc j) xs s.1 (λ k l. let q : j + suc k ≡ suc j + k = omega arith in let r = h (suc k) (omega arith) in (r.0 ∙ ap (λ i. add m (at_place i d)) q, r.1)) in (
      (first.1, rest.0),
      (λ i. corner_is x (add m (at_place j d)) x.base (first.0 ∙ ap (λ i. add m (at_place i d)) o) refl s.0 i ∷ rest.1 i),
    )

Directed : List ℤ → ℤ → ℕ → ℕ → List Point → Type 0
Directed m d own j xs = (k : ℕ) → k < length xs
    → ((from_zero xs k).coordinates ≡ add m (at_place (j + k) d)) × (k ≡ own → (from_zero xs k).base ≡ pos 0) × (k ≢ own → pos 1 ≤ℤ (from_zero xs k).base)

directed_from : (m : List ℤ) (d : ℤ) (own j : ℕ) (xs : List Point) → own < length xs → Each xs (λ (x : Point). x.speed ≡ pos 1) → Directed m d own j xs
    → (starts : List ℤ) × (suc (length starts) ≡ length xs) × Each starts (λ z. pos 1 ≤ℤ z) × (map (with_rank 0) xs ≡ direction_corners m d own j starts)
unfolding Directed Later
directed_from m d own j [] l s h = absurd (omega arith)
directed_from m d zero j (x ∷ xs) l s h =
    let first = h 0 (omega arith) in
    let o : j + 0 ≡ j = omega arith in
    let rest = later_from m d (suc j) xs s.1 (λ k l. let q : j + suc k ≡ suc j + k = omega arith in let r = h (suc k) (omega arith) in (r.0 ∙ ap (λ i. add m (at_place i d)) q, r.2 (λ e. omega (arith, e)))) in (
      map (λ (x : Point). x.base) xs,
      ap suc (length-map xs (λ (x : Point). x.base)),
      rest.0,
      (λ i. corner_is x (add m (at_place j d)) (pos 0) (first.0 ∙ ap (λ i. add m (at_place i d)) o) (first.1 refl) s.0 i ∷ rest.1 i),
    )
directed_from m d (suc own) j (x ∷ xs) l s h =
    let first = h 0 (omega arith) in
    let o : j + 0 ≡ j = omega arith in
    let rest = directed_from m d own (suc j) xs (omega arith) s.1 (λ k l. let q : j + suc k ≡ suc j + k = omega arith in let r = h (suc k) (omega arith) in
    (r.0 ∙ ap (λ i. add m (at_place i d)) q, (λ e. r.1 (ap suc e)), (λ n. r.2 (λ e. n (omega (arith, e)))))) in (
      x.base ∷ rest.0,
      ap suc rest.1,
      (first.2 (λ e. omega (arith, e)), rest.2),
      (λ i. corner_is x (add m (at_place j d)) x.base (first.0 ∙ ap (λ i. add m (at_place i d)) o) refl s.0 i ∷ rest.3 i),
    )

-- the point behind f others
tail_at : (f : ℕ) (s : List Point) (j : ℕ) → from_zero (drop f s) j ≡ point_at s (suc (f + j))
tail_at f s j = read_drop s f j (f + j) origin refl ∙ sym (point_suc s (f + j))

tail_first : (f : ℕ) (s : List Point) → from_zero (drop f s) 0 ≡ point_at s (suc f)
tail_first f s = let o : suc (f + 0) ≡ suc f = omega arith in tail_at f s 0 ∙ ap (point_at s) o

module _ (n own f : ℕ) (s : List Point) (lo : own < n) where
  abbrev points : List FilePoint
  points = map held (take f s)

  abbrev m : List ℤ
  m = least_coordinates points

  abbrev d : ℤ
  d = simplex_edge m points

  abbrev Directions : Type 0
  Directions = (k : ℕ) → k < n → IsDirectionOf m d own k (point_at s (suc (f + suc k)))

  own_place : suc own - 1 ≡ own
  own_place = omega arith

  from_list : (xs : List Point) → length xs ≡ suc n → Each xs (λ (x : Point). x.speed ≡ pos 1) → IsFirstOf points (from_zero xs 0)
      → ((k : ℕ) → k < n → IsDirectionOf m d own k (from_zero xs (suc k)))
      → (starts : List ℤ) × (length starts ≡ n - 1) × Each starts (λ z. pos 1 ≤ℤ z) × (map (with_rank 0) xs ≡ corners (suc own) points starts)
  unfolding Directed
  from_list [] e s h g = absurd (omega arith)
  from_list (x ∷ xs) e s h g =
      let r = directed_from m d own 0 xs (omega (arith, e, lo)) s.1 (λ k l. let q : k ≡ 0 + k = omega arith in let w = g k (omega (arith, l, e)) in (w.0 ∙ ap (λ i. add m (at_place i d)) q, w.1, w.2)) in (
        r.0,
        (let a = r.1 in omega (arith, a, e)),
        r.2,
        (λ i. corner_is x m (pos 0) h.0 h.1 s.0 i ∷ r.3 i) ∙ ap (λ j. corner m (pos 0) ∷ direction_corners m d j 0 r.0) (sym own_place),
      )

  pub corners_from : length s ≡ f + (n + 1) → Each (drop f s) (λ (x : Point). x.speed ≡ pos 1) → IsFirstOf points (point_at s (suc f)) → Directions → HasPathCorners n (suc own) f s
  corners_from e sp h g =
      let t = length-drop f s in
      from_list (drop f s) (omega (arith, t, e)) sp (subst (IsFirstOf points) (sym (tail_first f s)) h)
      (λ k l. subst (IsDirectionOf m d own k) (sym (tail_at f s (suc k))) (g k l))

  -- ---- and back
  bare_at : (xs : List Point) (j : ℕ) → from_zero (map (with_rank 0) xs) j ≡ with_rank 0 (from_zero xs j)
  bare_at [] j = refl
  bare_at (x ∷ xs) zero = refl
  bare_at (x ∷ xs) (suc j) = bare_at xs j

  module _ (h : HasPathCorners n (suc own) f s) where
    is : map (with_rank 0) (drop f s) ≡ corner m (pos 0) ∷ direction_corners m d own 0 h.0
    is = h.3 ∙ ap (λ j. corner m (pos 0) ∷ direction_corners m d j 0 h.0) own_place

    same_at : (j : ℕ) → with_rank 0 (from_zero (drop f s) j) ≡ from_zero (corner m (pos 0) ∷ direction_corners m d own 0 h.0) j
    same_at j = sym (bare_at (drop f s) j) ∙ ap (λ xs. from_zero xs j) is

    pub corners_there : f < length s
    corners_there =
        let e = ap length is in
        let a = length-map (drop f s) (with_rank 0) in
        let t = length-drop f s in
        let k = length-directions m d own 0 h.0 (let l = h.1 in omega (arith, l, lo)) in
        omega (arith, e, a, t, k)

    pub first_there : IsFirstOf points (point_at s (suc f))
    first_there = subst (IsFirstOf points) (tail_first f s) (ap (λ (x : Point). x.coordinates) (same_at 0), ap (λ (x : Point). x.base) (same_at 0))

    pub directions_there : Directions
    directions_there k l =
        let e = h.1 in
        let w = direction_from_zero m d own h.0 h.2 (omega (arith, e, lo)) k (omega (arith, e, l)) in
        let q = same_at (suc k) in
        subst (IsDirectionOf m d own k) (tail_at f s (suc k)) (
          ap (λ (x : Point). x.coordinates) q ∙ w.0,
          (λ z. ap (λ (x : Point). x.base) q ∙ w.2 z),
          (λ z. subst (λ (b : ℤ). pos 1 ≤ℤ b) (sym (ap (λ (x : Point). x.base) q)) (let u = w.3 z in omega (arith, ints, u))),
        )

-- ---- with m and d as they are computed, and the support counted from 1
module _ (n i f : ℕ) (s : List Point) (m : List ℤ) (d : ℤ) (li : 1 ≤ i) (lo : i ≤ n) (mi : m ≡ least_coordinates (map held (take f s))) (di : d ≡ simplex_edge m (map held (take f s))) where
  same_reach : d ≡ simplex_edge (least_coordinates (map held (take f s))) (map held (take f s))
  same_reach = di ∙ ap (λ v. simplex_edge v (map held (take f s))) mi

  own_back : suc (i - 1) ≡ i
  own_back = omega (arith, li)

  as_computed : (k : ℕ) (x : Point) → IsDirectionOf (least_coordinates (map held (take f s))) (simplex_edge (least_coordinates (map held (take f s))) (map held (take f s))) (i - 1) k x → IsDirectionOf m d (i - 1) k x
  as_computed k x h = subst (λ v. IsDirectionOf v d (i - 1) k x) (sym mi) (subst (λ e. IsDirectionOf (least_coordinates (map held (take f s))) e (i - 1) k x) (sym same_reach) h)

  as_defined : (k : ℕ) (x : Point) → IsDirectionOf m d (i - 1) k x → IsDirectionOf (least_coordinates (map held (take f s))) (simplex_edge (least_coordinates (map held (take f s))) (map held (take f s))) (i - 1) k x
  as_defined k x h = subst (λ e. IsDirectionOf (least_coordinates (map held (take f s))) e (i - 1) k x) same_reach (subst (λ v. IsDirectionOf v d (i - 1) k x) mi h)

  pub to_direction : HasPathCorners n i f s → (k : ℕ) → k < n → IsDirectionOf m d (i - 1) k (point_at s (suc (f + suc k)))
  to_direction h k l = as_computed k (point_at s (suc (f + suc k))) (directions_there n (i - 1) f s (omega (arith, li, lo)) (subst (λ j. HasPathCorners n j f s) (sym own_back) h) k l)

  pub from_directions : length s ≡ f + (n + 1) → Each (drop f s) (λ (x : Point). x.speed ≡ pos 1) → IsFirstOf (map held (take f s)) (point_at s (suc f))
      → ((k : ℕ) → k < n → IsDirectionOf m d (i - 1) k (point_at s (suc (f + suc k)))) → HasPathCorners n i f s
  from_directions e sp h g = subst (λ j. HasPathCorners n j f s) own_back (corners_from n (i - 1) f s (omega (arith, li, lo)) e sp h (λ k l. as_defined k (point_at s (suc (f + suc k))) (g k l)))

pub first_of : (n i f : ℕ) (s : List Point) → 1 ≤ i → i ≤ n → HasPathCorners n i f s → (f < length s) × IsFirstOf (map held (take f s)) (point_at s (suc f))
first_of n i f s li lo h =
    let o : i ≡ suc (i - 1) = omega (arith, li) in
    let w = subst (λ j. HasPathCorners n j f s) o h in
    (corners_there n (i - 1) f s (omega (arith, li, lo)) w, first_there n (i - 1) f s (omega (arith, li, lo)) w)

-- ---- a loop over the directions
pub no_true : false ≡ true → ⊥
no_true e = cc
