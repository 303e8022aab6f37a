-- the kept children by signs, and the parent where one point is level
use Rattle.std.proofs.Common.{◌≡◌, ◌∙◌, ◌↔◌, ℕ, ◌<◌, length, refl, sym, ap, subst, slice_index_or}
use Rattle.std.proofs.Math.IntN.{ℤ}
use Rattle.cayley.specs.declared.found.Sign.{Sign}
use Rattle.cayley.specs.declared.found.Sign.TheVariants.{Minus, Zero, Plus}
use Rattle.cayley.specs.Times.{Time}
use Rattle.cayley.specs.Problems.{Problem}
use Rattle.cayley.specs.Cells.{Cell, IsCell}
use Rattle.cayley.specs.Parents.{IsParent}
use Rattle.cayley.specs.Dependencies.{pair_at, number_at}
use Rattle.cayley.specs.Flips.{IsLeastPredecessor}
use Rattle.cayley.specs.FlipRules.{PastWhere}
use Rattle.cayley.proofs.Flipping.FlipChildren.{children_law}
use Rattle.cayley.specs.Signs.{HaveSigns}
use Rattle.flip_rule.specs.Rules.{IsNewPoint, IsSuccessor}
use Rattle.flip_rule.specs.Walls.{IsWall}
use Rattle.flip_rule.proofs.NumberSigns.{minus_not_plus, zero_not_plus}
use Rattle.flip_rule.proofs.Pairs.{pair_is}
use Rattle.flip_rule.proofs.Rules.{numbers_of, have_signs, successor_is, predecessor_is, least_by}
use Rattle.canonical_parent.specs.Least.{IsLeast}

past_is : (s : Sign) (x c : ℕ) → PastWhere s x c ↔ (s ≡ Plus → x < c)
past_is Minus x c = ((λ h e. absurd (minus_not_plus e)), (λ h. tt))
past_is Zero x c = ((λ h e. absurd (zero_not_plus e)), (λ h. tt))
past_is Plus x c = ((λ h e. h), (λ h. h refl))

least_is : (cell : Cell) (j c : ℕ) (signs : Sign × Sign) (m : ℤ × ℤ) → HaveSigns signs m → IsLeastPredecessor cell j c m ↔ IsLeast cell j c signs
least_is cell j c signs m h = (
  (λ l rho k. l rho ((predecessor_is cell j c signs m h rho).1 k)),
  (λ l rho k. l rho ((predecessor_is cell j c signs m h rho).0 k)),
)

least_where : (cell : Cell) (j c : ℕ) (signs : Sign × Sign) → IsCell cell → j < length cell → IsNewPoint cell j c
    → ((signs.0 ≡ Plus → (pair_at cell j).0 < c) × (signs.1 ≡ Plus → (pair_at cell j).1 < c)) ↔ IsLeast cell j c signs
least_where cell j c signs rises inside new =
    let l = least_is cell j c signs (numbers_of signs) (have_signs signs) in
    let k = least_by cell j c signs rises inside new in
    let a = past_is signs.0 (pair_at cell j).0 c in
    let b = past_is signs.1 (pair_at cell j).1 c in (
      (λ h. l.0 (k.1 (a.1 h.0, b.1 h.1))),
      (λ h. let q = k.0 (l.1 h) in (a.0 q.0, b.0 q.1)),
    )

pub parent_where : (p : Problem) (cell tau : Cell) (j c : ℕ) (signs : Sign × Sign) (t : Time) → IsWall p cell j c signs t
    → (IsSuccessor cell j c signs tau × IsLeast cell j c signs) ↔ IsParent p cell tau
parent_where p cell tau j c signs t w =
    let m = number_at w.numbers.pairs j in
    let law = children_law p cell j c w.numbers t w.v w.problem w.before w.normal w.only w.dependency tau in
    let s = successor_is cell j c signs m w.signs_are tau in
    let l = least_is cell j c signs m w.signs_are in (
      (λ h. law.1 (s.1 h.0, l.1 h.1)),
      (λ h. let q = law.0 h in (s.0 q.0, l.0 q.1)),
    )

-- the same as it is read from the pairs and the signs
pub least_by_points : (cell pairs : Cell) (j c : ℕ) (signs : Sign × Sign) (a b : Sign) → pairs ≡ cell → a ≡ signs.0 → b ≡ signs.1 → IsCell cell → j < length cell → IsNewPoint cell j c
    → ((a ≡ Plus → (slice_index_or pairs j (0, 0)).0 < c) × (b ≡ Plus → (slice_index_or pairs j (0, 0)).1 < c)) ↔ IsLeast cell j c signs
least_by_points cell pairs j c signs a b e ea eb rises inside new =
    let S : ℕ × ℕ → Sign → Sign → Type 0 = λ x a b. ((a ≡ Plus → x.0 < c) × (b ≡ Plus → x.1 < c)) ↔ IsLeast cell j c signs in
    let x : slice_index_or pairs j (0, 0) ≡ pair_at cell j = ap (λ (l : Cell). slice_index_or l j (0, 0)) e ∙ pair_is cell j in
    subst (λ y. S y a b) (sym x) (subst (λ i. S (pair_at cell j) i b) (sym ea) (subst (λ i. S (pair_at cell j) signs.0 i) (sym eb) (least_where cell j c signs rises inside new)))

-- whether the cell is the least decides for all successors at once
pub parent_by_least : (p : Problem) (cell tau : Cell) (j c : ℕ) (signs : Sign × Sign) (t : Time) (T : Type 0) → IsWall p cell j c signs t → T ↔ IsLeast cell j c signs
    → (IsSuccessor cell j c signs tau × T) ↔ IsParent p cell tau
parent_by_least p cell tau j c signs t T w e =
    let k = parent_where p cell tau j c signs t w in (
      (λ h. k.0 (h.0, e.0 h.1)),
      (λ h. let q = k.1 h in (q.0, e.1 q.1)),
    )
