-- the falls of base and speed of a cell's pairs, one by one
use Rattle.std.proofs.Common.{◌≡◌, ℕ, zero, suc, ◌+◌, ◌-◌, ◌<◌, ◌≤◌, ℤ, pos, ◌-ℤ◌, List, [], ◌∷◌, ◌++◌, length, get_or, take, arith, refl, sym, ap, ap₂, subst, ◌∙◌, take_all}
use Rattle.std.proofs.lemmas.List.{take_more}
use Rattle.cayley.specs.Cells.{Cell, EachPair, IsOf}
use Rattle.cayley.specs.Problems.{Point, Problem, point_at}
use Rattle.cayley.specs.Valid.{IsValidProblem, support_at}
use Rattle.cayley.proofs.OneCell.CellRows.{InRange}
use Rattle.carried_inverse.specs.Sums.{base_falls, speed_falls}

-- what stands at a place
pub record FallsAt (supports : List (List Point)) (cell : Cell) (k : ℕ) : Type 0 where
  pub inside : k < length supports
  pub range : InRange (get_or supports k []) (get_or cell k (0, 0)).0 (get_or cell k (0, 0)).1
  pub base : get_or (base_falls supports cell) k (pos 0) ≡ (point_at (get_or supports k []) (get_or cell k (0, 0)).0).base -ℤ (point_at (get_or supports k []) (get_or cell k (0, 0)).1).base
  pub speed : get_or (speed_falls supports cell) k (pos 0) ≡ (point_at (get_or supports k []) (get_or cell k (0, 0)).0).speed -ℤ (point_at (get_or supports k []) (get_or cell k (0, 0)).1).speed

pub falls_at : (supports : List (List Point)) (cell : Cell) (k : ℕ) → k < length cell → EachPair supports cell InRange → FallsAt supports cell k
falls_at [] [] k lt of = absurd (omega (arith, lt))
falls_at [] (x ∷ cell) k lt of = absurd of
falls_at (s ∷ supports) [] k lt of = absurd of
falls_at (s ∷ supports) (x ∷ cell) zero lt of = record { inside = omega arith; range = of.0; base = refl; speed = refl }
falls_at (s ∷ supports) (x ∷ cell) (suc k) lt of = let r = falls_at supports cell k (omega (arith, lt)) of.1 in record { inside = let i = r.inside in omega (arith, i); range = r.range; base = r.base; speed = r.speed }

pub falls_long : (supports : List (List Point)) (cell : Cell) → EachPair supports cell InRange → (length (base_falls supports cell) ≡ length cell) × (length (speed_falls supports cell) ≡ length cell)
falls_long [] [] e = (refl, refl)
falls_long [] (x ∷ cell) e = absurd e
falls_long (s ∷ supports) [] e = absurd e
falls_long (s ∷ supports) (x ∷ cell) e = let r = falls_long supports cell e.1 in (ap suc r.0, ap suc r.1)

module _ (p : Problem) (cell pairs : Cell) (same : pairs ≡ cell) (of : IsOf p cell) (k : ℕ) (l : k < length pairs) (valid : IsValidProblem p) where
  inside : k < length cell
  inside = subst (λ (z : Cell). k < length z) same l

  here : FallsAt p.supports cell k
  here = falls_at p.supports cell k inside of

  pub support_inside : k + 1 ≤ p.dimension
  support_inside = let e = valid.shape.problem.supports in let i = here.inside in omega (arith, e, i)

  support_is : get_or p.supports k [] ≡ support_at p (k + 1)
  support_is = let e : k ≡ k + 1 - 1 = omega arith in ap (λ z. get_or p.supports z []) e

  pair_is : get_or cell k (0, 0) ≡ get_or pairs k (0, 0)
  pair_is = ap (λ (z : Cell). get_or z k (0, 0)) (sym same)

  pub pair_inside : (1 ≤ (get_or pairs k (0, 0)).0) × ((get_or pairs k (0, 0)).0 < (get_or pairs k (0, 0)).1) × ((get_or pairs k (0, 0)).1 ≤ length (support_at p (k + 1)))
  pair_inside = subst (λ (s : List Point). InRange s (get_or pairs k (0, 0)).0 (get_or pairs k (0, 0)).1) support_is (subst (λ (x : ℕ × ℕ). InRange (get_or p.supports k []) x.0 x.1) pair_is here.range)

  pub bases_more : (bs : List ℤ) (y : ℤ) → bs ≡ take k (base_falls p.supports cell)
      → y ≡ (point_at (support_at p (k + 1)) (get_or pairs k (0, 0)).0).base -ℤ (point_at (support_at p (k + 1)) (get_or pairs k (0, 0)).1).base
      → bs ++ y ∷ [] ≡ take (k + 1) (base_falls p.supports cell)
  bases_more bs y e f =
      ap₂ (λ a b. a ++ b ∷ []) e (f ∙ sym (here.base ∙ ap₂ (λ (s : List Point) (x : ℕ × ℕ). (point_at s x.0).base -ℤ (point_at s x.1).base) support_is pair_is))
      ∙ sym (take_more (base_falls p.supports cell) k (pos 0) (let r = (falls_long p.supports cell of).0 in let i = inside in omega (arith, r, i)))

  pub speeds_more : (bs : List ℤ) (y : ℤ) → bs ≡ take k (speed_falls p.supports cell)
      → y ≡ (point_at (support_at p (k + 1)) (get_or pairs k (0, 0)).0).speed -ℤ (point_at (support_at p (k + 1)) (get_or pairs k (0, 0)).1).speed
      → bs ++ y ∷ [] ≡ take (k + 1) (speed_falls p.supports cell)
  speeds_more bs y e f =
      ap₂ (λ a b. a ++ b ∷ []) e (f ∙ sym (here.speed ∙ ap₂ (λ (s : List Point) (x : ℕ × ℕ). (point_at s x.0).speed -ℤ (point_at s x.1).speed) support_is pair_is))
      ∙ sym (take_more (speed_falls p.supports cell) k (pos 0) (let r = (falls_long p.supports cell of).1 in let i = inside in omega (arith, r, i)))

pub falls_all : (p : Problem) (cell pairs : Cell) → pairs ≡ cell → IsOf p cell → (k : ℕ) → length pairs ≤ k → (take k (base_falls p.supports cell) ≡ base_falls p.supports cell) × (take k (speed_falls p.supports cell) ≡ speed_falls p.supports cell)
falls_all p cell pairs same of k le =
    let r = falls_long p.supports cell of in
    let e = ap (λ (z : Cell). length z) same in
    (take_all k (base_falls p.supports cell) (let a = r.0 in omega (arith, a, e, le)), take_all k (speed_falls p.supports cell) (let a = r.1 in omega (arith, a, e, le)))
