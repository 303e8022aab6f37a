-- the wheels of a choice, one by one
use Rattle.std.proofs.Common.{◌≡◌, ℕ, zero, suc, ◌+◌, ◌<◌, ◌≤◌, List, [], ◌∷◌, ◌++◌, length, take, drop, get_or, set, arith, refl, sym, ap, subst, subst₂, ◌∙◌}
use Rattle.int_vectors.specs.Vectors.{Each}
use Rattle.cayley.specs.Cells.{Cell}
use Rattle.plain_lister.specs.declared.wheels.Wheel.{Wheel}
use Rattle.plain_lister.specs.Choices.{most_points, HavePairs}
use Rattle.plain_lister.specs.Order.{Pair, IsNextPair, IsLastPair, pair_left, IsChoice, IsNext, IsLast, left_after, firsts, all_pairs}
use Rattle.plain_lister.specs.Wheels.{shown, IsWheel, Show}
use Rattle.plain_lister.proofs.Odometer.{length-choice}
use Rattle.plain_lister.proofs.Turning.{read_pair, stop_here, go_on}
use Rattle.plain_lister.proofs.Listed.{next_listed, last_listed, first_listed}

pub show_at : (i : ℕ) (counts : List ℕ) (wheels : List Wheel) (cell : Cell) (w : Wheel) (x : Pair) → Show counts wheels cell → i < length wheels → IsWheel (get_or counts i 0) (get_or wheels i w) (get_or cell i x)
show_at i [] [] [] w x s l = absurd (omega arith)
show_at i [] [] (y ∷ cell) w x s l = absurd s
show_at i [] (v ∷ wheels) cell w x s l = absurd s
show_at i (m ∷ counts) [] cell w x s l = absurd s
show_at i (m ∷ counts) (v ∷ wheels) [] w x s l = absurd s
show_at zero (m ∷ counts) (v ∷ wheels) (y ∷ cell) w x s l = s.0
show_at (suc i) (m ∷ counts) (v ∷ wheels) (y ∷ cell) w x s l = show_at i counts wheels cell w x s.1 (omega arith)

pub show_set : (i : ℕ) (counts : List ℕ) (wheels : List Wheel) (cell : Cell) (w : Wheel) (x : Pair) → Show counts wheels cell → i < length wheels → IsWheel (get_or counts i 0) w x → Show counts (set wheels i w) (set cell i x)
show_set i [] [] [] w x s l h = absurd (omega arith)
show_set i [] [] (y ∷ cell) w x s l h = absurd s
show_set i [] (v ∷ wheels) cell w x s l h = absurd s
show_set i (m ∷ counts) [] cell w x s l h = absurd s
show_set i (m ∷ counts) (v ∷ wheels) [] w x s l h = absurd s
show_set zero (m ∷ counts) (v ∷ wheels) (y ∷ cell) w x s l h = (h, s.1)
show_set (suc i) (m ∷ counts) (v ∷ wheels) (y ∷ cell) w x s l h = (s.0, show_set i counts wheels cell w x s.1 (omega arith) h)

pub show_next : (i : ℕ) (counts : List ℕ) (wheels : List Wheel) (w : Wheel) → i < length counts → Show (take i counts) wheels (firsts (take i counts)) → IsWheel (get_or counts i 0) w (1, 2)
    → Show (take (i + 1) counts) (wheels ++ w ∷ []) (firsts (take (i + 1) counts))
show_next i [] wheels w l s h = absurd (omega arith)
show_next zero (m ∷ counts) [] w l s h = (h, tt)
show_next zero (m ∷ counts) (v ∷ wheels) w l s h = absurd s
show_next (suc i) (m ∷ counts) [] w l s h = absurd s
show_next (suc i) (m ∷ counts) (v ∷ wheels) w l s h = let e : suc i + 1 ≡ suc (i + 1) = omega arith in rw e (s.0, show_next i counts wheels w (omega arith) s.1 h)

pub pairs_at : (i : ℕ) (counts : List ℕ) → i < length counts → HavePairs counts → 2 ≤ get_or counts i 0
pairs_at i [] l h = absurd (omega arith)
pairs_at zero (m ∷ counts) l h = h.0
pairs_at (suc i) (m ∷ counts) l h = pairs_at i counts (omega arith) h.1

pub small_at : (i : ℕ) (counts : List ℕ) → i < length counts → Each counts (λ n. n ≤ most_points) → get_or counts i 0 ≤ most_points
small_at i [] l h = absurd (omega arith)
small_at zero (m ∷ counts) l h = h.0
small_at (suc i) (m ∷ counts) l h = small_at i counts (omega arith) h.1

pub length-show : (counts : List ℕ) (wheels : List Wheel) (cell : Cell) → Show counts wheels cell → (length wheels ≡ length counts) × (length cell ≡ length counts)
length-show [] [] [] s = (refl, refl)
length-show [] [] (y ∷ cell) s = absurd s
length-show [] (v ∷ wheels) cell s = absurd s
length-show (m ∷ counts) [] cell s = absurd s
length-show (m ∷ counts) (v ∷ wheels) [] s = absurd s
length-show (m ∷ counts) (v ∷ wheels) (y ∷ cell) s = let r = length-show counts wheels cell s.1 in (ap suc r.0, ap suc r.1)

at_place : (w v : Wheel) (k : ℕ) → v.at ≡ k → v.pairs ≡ w.pairs → shown v ≡ get_or w.pairs.items k (0, 0)
at_place w v k e f = ap (λ j. get_or v.pairs.items j (0, 0)) e ∙ ap (λ l. get_or l.items k (0, 0)) f

-- a turn of one wheel
module _ (m : ℕ) (w v : Wheel) (x : Pair) (is : IsWheel m w x) (least : 2 ≤ m) (same : v.pairs ≡ w.pairs) where
  listed : v.pairs.items ≡ all_pairs m
  listed = ap (λ l. l.items) same ∙ is.0

  now_is : get_or (all_pairs m) w.at (0, 0) ≡ x
  now_is = ap (λ l. get_or l w.at (0, 0)) (sym is.0) ∙ is.2

  pub turned_on : (y : Pair) → v.at ≡ w.at + 1 → v.at < length w.pairs.items → y ≡ shown v → IsWheel m v y × IsNextPair m x y × (pair_left m y < pair_left m x)
  turned_on y e l f =
      let long = ap length is.0 in
      let then_is : get_or (all_pairs m) (w.at + 1) (0, 0) ≡ y = ap (λ l. get_or l (w.at + 1) (0, 0)) (sym is.0) ∙ sym (at_place w v (w.at + 1) e same) ∙ sym f in
      let n = next_listed m w.at least (0, 0) (omega arith) in
      let long_v = ap length listed in (
        (listed, omega arith, sym f),
        subst₂ (IsNextPair m) now_is then_is n.0,
        subst₂ (λ a b. pair_left m b < pair_left m a) now_is then_is n.1,
      )

  pub turned_off : w.at + 1 ≡ length w.pairs.items → v.at ≡ 0 → IsWheel m v (1, 2) × IsLastPair m x
  turned_off l e =
      let long = ap length is.0 in
      let long_v = ap length listed in
      let inside = is.1 in (
        (listed, omega arith, at_place w v 0 e same ∙ ap (λ l. get_or l 0 (0, 0)) is.0 ∙ first_listed m 0 least (0, 0)),
        subst (IsLastPair m) now_is (last_listed m w.at least (0, 0) (omega arith)),
      )

-- a turn of the wheel at a place
module _ (place i : ℕ) (counts : List ℕ) (old now : Cell) (wheels : List Wheel) (d : Pair) (e v : Wheel) (is : place ≡ suc i) (within : place ≤ length wheels) (choice : IsChoice counts old)
    (show : Show counts wheels now) (turned : now ≡ take place old ++ firsts (drop place counts)) (last : IsLast (drop place counts) (drop place old)) (same : v.pairs ≡ (get_or wheels i e).pairs) where
  wheel_inside : i < length wheels
  wheel_inside = omega (arith, is, within)

  old_long : place ≤ length old
  old_long = let l = (length-show counts wheels now show).0 in omega (arith, within, length-choice counts old choice, l)

  own : IsWheel (get_or counts i 0) (get_or wheels i e) (get_or now i d)
  own = show_at i counts wheels now e d show wheel_inside

  least : 2 ≤ get_or counts i 0
  least = let p = read_pair place i counts old now d is old_long choice turned last in let a = p.0 in let b = p.1 in let c = p.2 in omega arith

  pub turn_to : (y : Pair) → v.at ≡ (get_or wheels i e).at + 1 → v.at < length (get_or wheels i e).pairs.items → y ≡ shown v
      → Show counts (set wheels i v) (set now i y)
      × (IsNext counts old (set now i y) × IsChoice counts (set now i y) × (left_after counts (set now i y) < left_after counts old))
  turn_to y a l f =
      let t = turned_on (get_or counts i 0) (get_or wheels i e) v (get_or now i d) own least same y a l f in
      (show_set i counts wheels now v y show wheel_inside t.0, stop_here place i counts old now d is old_long choice turned last y t.1 t.2)

  pub turn_over : (get_or wheels i e).at + 1 ≡ length (get_or wheels i e).pairs.items → v.at ≡ 0
      → Show counts (set wheels i v) (set now i (1, 2)) × ((set now i (1, 2) ≡ take i old ++ firsts (drop i counts)) × IsLast (drop i counts) (drop i old))
  turn_over l a =
      let t = turned_off (get_or counts i 0) (get_or wheels i e) v (get_or now i d) own least same l a in
      (show_set i counts wheels now v (1, 2) show wheel_inside t.0, go_on place i counts old now d is old_long choice turned last t.1)
