-- the lists of successors and predecessors by signs, from the rules of any problem that has the cell
use Rattle.std.proofs.Common.{◌≡◌, ◌≢◌, ◌↔◌, ℕ, zero, suc, ◌+◌, ◌<◌, ◌≤◌, List, [], ◌∷◌, length, map, arith, refl, sym, ap, ap₂, subst, ◌∙◌, inl, inr}
use Rattle.std.specs.Prelude.{replicate}
use Rattle.std.proofs.lemmas.List.{length-replicate}
use Rattle.std.proofs.Math.IntN.{ℤ}
use Rattle.cayley.specs.declared.found.Sign.{Sign}
use Rattle.cayley.specs.declared.found.Sign.TheVariants.{Minus, Zero, Plus}
use Rattle.cayley.specs.Problems.{version1, Point, Problem, origin}
use Rattle.cayley.specs.Cells.{Cell, IsCell, EachPair, IsListOf}
use Rattle.cayley.specs.Dependencies.{pair_at, IsFurtherAt, nth_support}
use Rattle.cayley.specs.Flips.{for_first, for_second, IsSuccessorAt, IsPredecessorAt, IsLeastPredecessor}
use Rattle.cayley.specs.FlipRules.{taken, successors_by, KeepsBy, in_order, predecessors_by}
use Rattle.cayley.proofs.Flipping.FlipSigns.{flip_rule, predecessor_rule}
use Rattle.cayley.specs.Signs.{HaveSigns}
use Rattle.flip_rule.specs.Signs.{HasMinus}
use Rattle.flip_rule.specs.Rules.{IsNewPoint, IsSuccessor, IsPredecessor}
use Rattle.flip_rule.proofs.NumberSigns.{number_of, has_number, below_is, above_is, not_both, minus_not_plus}

pub list_by : (P Q : Cell → Type 0) (cells : List Cell) → ((x : Cell) → P x ↔ Q x) → IsListOf P cells → IsListOf Q cells
list_by P Q cells e h = (h.0, λ x. ((λ q. (e x).0 ((h.1 x).0 q)), (λ q. (h.1 x).1 ((e x).1 q))))

-- the rules by the numbers' signs
module _ (cell : Cell) (j c : ℕ) (signs : Sign × Sign) (m : ℤ × ℤ) (h : HaveSigns signs m) where
  pub successor_is : (tau : Cell) → IsSuccessorAt cell j c m tau ↔ IsSuccessor cell j c signs tau
  successor_is tau = (
    (λ k. elim k [ inl e ↦ inr (e.0, (below_is signs.1 m.1 h.1).0 e.1) | inr e ↦ inl (e.0, (below_is signs.0 m.0 h.0).0 e.1) ]),
    (λ k. elim k [ inl e ↦ inr (e.0, (below_is signs.0 m.0 h.0).1 e.1) | inr e ↦ inl (e.0, (below_is signs.1 m.1 h.1).1 e.1) ]),
  )

  pub predecessor_is : (rho : Cell) → IsPredecessorAt cell j c m rho ↔ IsPredecessor cell j c signs rho
  predecessor_is rho = (
    (λ k. elim k [ inl e ↦ inl e | inr l ↦ elim l [ inl e ↦ inr (inr (e.0, (above_is signs.1 m.1 h.1).0 e.1)) | inr e ↦ inr (inl (e.0, (above_is signs.0 m.0 h.0).0 e.1)) ] ]),
    (λ k. elim k [ inl e ↦ inl e | inr l ↦ elim l [ inl e ↦ inr (inr (e.0, (above_is signs.0 m.0 h.0).1 e.1)) | inr e ↦ inr (inl (e.0, (above_is signs.1 m.1 h.1).1 e.1)) ] ]),
  )

-- a problem that has the cell and, in each support, the position c
abbrev wide : ℕ → ℕ × ℕ → List Point
wide c x = replicate (x.1 + c) origin

abbrev problem_for : Cell → ℕ → Problem
problem_for cell c = record { version = version1; dimension = length cell; files = []; supports = map (wide c) cell }

is_of : (cell : Cell) (c : ℕ) → IsCell cell → EachPair (map (wide c) cell) cell (λ s a b. (1 ≤ a) × (a < b) × (b ≤ length s))
is_of [] c h = tt
is_of (x ∷ cell) c h = ((h.0.0, h.0.1, let l = length-replicate (x.1 + c) origin in omega (arith, l)), is_of cell c h.1)

has_position : (cell : Cell) (j c : ℕ) → j < length cell → c ≤ length (nth_support (map (wide c) cell) j)
has_position [] j c l = absurd (omega (arith, l))
has_position (x ∷ cell) zero c l = let l = length-replicate (x.1 + c) origin in omega (arith, l)
has_position (x ∷ cell) (suc j) c l = has_position cell j c (omega (arith, l))

-- the numbers -1, 0 and 1 with these signs
abbrev pub numbers_of : Sign × Sign → ℤ × ℤ
numbers_of signs = (number_of signs.0, number_of signs.1)

pub have_signs : (signs : Sign × Sign) → HaveSigns signs (numbers_of signs)
have_signs signs = (has_number signs.0, has_number signs.1)

-- with the cell in front exactly where the sign is Minus
taken_so : (s : Sign) (x : Cell) (cells : List Cell) → s ≡ Minus → taken s x cells ≡ x ∷ cells
taken_so s x cells e = ap (λ i. taken i x cells) e

not_taken : (s : Sign) (x : Cell) (cells : List Cell) → s ≢ Minus → taken s x cells ≡ cells
not_taken Minus x cells n = absurd (n refl)
not_taken Zero x cells n = refl
not_taken Plus x cells n = refl

minus_first : (a b : Sign) → b ≢ Minus → HasMinus (a, b) → a ≡ Minus
minus_first a b n h = elim h [ inl e ↦ e | inr e ↦ absurd (n e) ]

minus_second : (a b : Sign) → a ≢ Minus → HasMinus (a, b) → b ≡ Minus
minus_second a b n h = elim h [ inl e ↦ absurd (n e) | inr e ↦ e ]

-- the predecessors by the code's signs
first_goes : (cell : Cell) (j c : ℕ) (a b : Sign) → a ≡ Plus → HasMinus (a, b) → predecessors_by cell j c a b ≡ in_order (pair_at cell j).0 c cell (for_first cell j c)
first_goes cell j c a b e h =
    let n : a ≢ Minus = λ f. minus_not_plus (sym f ∙ e) in
    ap₂ (predecessors_by cell j c) e (minus_second a b n h)

second_goes : (cell : Cell) (j c : ℕ) (a b : Sign) → b ≡ Plus → HasMinus (a, b) → predecessors_by cell j c a b ≡ in_order (pair_at cell j).1 c cell (for_second cell j c)
second_goes cell j c a b e h =
    let n : b ≢ Minus = λ f. minus_not_plus (sym f ∙ e) in
    ap₂ (predecessors_by cell j c) (minus_first a b n h) e

none_goes : (cell : Cell) (j c : ℕ) (a b : Sign) → a ≢ Plus → b ≢ Plus → predecessors_by cell j c a b ≡ cell ∷ []
none_goes cell j c Minus Minus n m = refl
none_goes cell j c Minus Zero n m = refl
none_goes cell j c Minus Plus n m = absurd (m refl)
none_goes cell j c Zero Minus n m = refl
none_goes cell j c Zero Zero n m = refl
none_goes cell j c Zero Plus n m = absurd (m refl)
none_goes cell j c Plus b n m = absurd (n refl)

module _ (cell : Cell) (j c : ℕ) (signs : Sign × Sign) (rises : IsCell cell) (inside : j < length cell) (new : IsNewPoint cell j c) where
  further : IsFurtherAt (problem_for cell c) cell j c
  further = (new.0, has_position cell j c inside, new.1, new.2)

  successors_list : IsListOf (IsSuccessor cell j c signs) (successors_by cell j c signs.0 signs.1)
  successors_list =
      let m = numbers_of signs in
      let have = have_signs signs in
      list_by (IsSuccessorAt cell j c m) (IsSuccessor cell j c signs) (successors_by cell j c signs.0 signs.1) (successor_is cell j c signs m have)
      (flip_rule (problem_for cell c) cell j c m signs.0 signs.1 (is_of cell c rises) further have.0 have.1).0

  predecessors_list : HasMinus signs → IsListOf (IsPredecessor cell j c signs) (predecessors_by cell j c signs.0 signs.1)
  predecessors_list minus =
      let m = numbers_of signs in
      let have = have_signs signs in
      list_by (IsPredecessorAt cell j c m) (IsPredecessor cell j c signs) (predecessors_by cell j c signs.0 signs.1) (predecessor_is cell j c signs m have)
      (predecessor_rule (problem_for cell c) cell j c m signs.0 signs.1 (is_of cell c rises) further have.0 have.1 (not_both signs m have minus))

  -- whether the cell is the least of its predecessors
  pub least_by : IsLeastPredecessor cell j c (numbers_of signs) ↔ KeepsBy cell j c signs.0 signs.1
  least_by =
      let m = numbers_of signs in
      let have = have_signs signs in
      (flip_rule (problem_for cell c) cell j c m signs.0 signs.1 (is_of cell c rises) further have.0 have.1).1

  pub both : (x y : Cell) → x ≡ for_second cell j c → y ≡ for_first cell j c → signs.0 ≡ Minus → signs.1 ≡ Minus → IsListOf (IsSuccessor cell j c signs) (x ∷ y ∷ [])
  both x y ex ey a b =
      subst (IsListOf (IsSuccessor cell j c signs))
      (taken_so signs.1 (for_second cell j c) (taken signs.0 (for_first cell j c) []) b ∙ ap (λ l. for_second cell j c ∷ l) (taken_so signs.0 (for_first cell j c) [] a) ∙ ap₂ (λ u v. u ∷ v ∷ []) (sym ex) (sym ey))
      successors_list

  pub first_alone : (y : Cell) → y ≡ for_first cell j c → signs.0 ≡ Minus → signs.1 ≢ Minus → IsListOf (IsSuccessor cell j c signs) (y ∷ [])
  first_alone y ey a b =
      subst (IsListOf (IsSuccessor cell j c signs))
      (not_taken signs.1 (for_second cell j c) (taken signs.0 (for_first cell j c) []) b ∙ taken_so signs.0 (for_first cell j c) [] a ∙ ap (λ u. u ∷ []) (sym ey))
      successors_list

  pub second_alone : (x : Cell) → x ≡ for_second cell j c → signs.0 ≢ Minus → HasMinus signs → IsListOf (IsSuccessor cell j c signs) (x ∷ [])
  second_alone x ex a h =
      subst (IsListOf (IsSuccessor cell j c signs))
      (taken_so signs.1 (for_second cell j c) (taken signs.0 (for_first cell j c) []) (minus_second signs.0 signs.1 a h) ∙ ap (λ l. for_second cell j c ∷ l) (not_taken signs.0 (for_first cell j c) [] a) ∙ ap (λ u. u ∷ []) (sym ex))
      successors_list

  pub with_first : (cells : List Cell) (x : ℕ) (flip : Cell) → cells ≡ in_order x c cell flip → x ≡ (pair_at cell j).0 → flip ≡ for_first cell j c → signs.0 ≡ Plus → HasMinus signs → IsListOf (IsPredecessor cell j c signs) cells
  with_first cells x flip e ex ef a h =
      subst (IsListOf (IsPredecessor cell j c signs)) (first_goes cell j c signs.0 signs.1 a h ∙ ap₂ (λ i f. in_order i c cell f) (sym ex) (sym ef) ∙ sym e) (predecessors_list h)

  pub with_second : (cells : List Cell) (x : ℕ) (flip : Cell) → cells ≡ in_order x c cell flip → x ≡ (pair_at cell j).1 → flip ≡ for_second cell j c → signs.1 ≡ Plus → HasMinus signs → IsListOf (IsPredecessor cell j c signs) cells
  with_second cells x flip e ex ef b h =
      subst (IsListOf (IsPredecessor cell j c signs)) (second_goes cell j c signs.0 signs.1 b h ∙ ap₂ (λ i f. in_order i c cell f) (sym ex) (sym ef) ∙ sym e) (predecessors_list h)

  pub cell_alone : (x : Cell) → x ≡ cell → signs.0 ≢ Plus → signs.1 ≢ Plus → HasMinus signs → IsListOf (IsPredecessor cell j c signs) (x ∷ [])
  cell_alone x e a b h = subst (IsListOf (IsPredecessor cell j c signs)) (none_goes cell j c signs.0 signs.1 a b ∙ ap (λ u. u ∷ []) (sym e)) (predecessors_list h)
