-- the kept ones of the successors at a wall are the children
use Rattle.std.proofs.Common.{◌≡◌, ◌≢◌, ◌∙◌, ℕ, zero, suc, ◌-◌, ◌<◌, List, [], ◌∷◌, length, arith, refl, sym, ap, subst, inl, inr}
use Rattle.std.proofs.lemmas.Int.{ints}
use Rattle.std.proofs.Math.IntN.{ℤ, pos, negsuc, ◌+ℤ◌}
use Rattle.std.specs.Prelude.{◌≤ℤ◌, slice_index_or}
use Rattle.lex_height.specs.Entries.{entries}
use Rattle.lex_height.specs.Values as lex
use Rattle.cayley.specs.declared.found.Sign.{Sign}
use Rattle.cayley.specs.declared.found.Sign.TheVariants.{Minus, Zero, Plus}
use Rattle.cayley.specs.Times.{Time}
use Rattle.cayley.specs.Problems.{Problem, IsProblem}
use Rattle.cayley.specs.Cells.{Cell, IsSorted, IsListOf}
use Rattle.cayley.specs.Normals.{Normal, IsNormal}
use Rattle.cayley.specs.Lives.{EndsAt}
use Rattle.cayley.specs.Flips.{IsOnlyLevel}
use Rattle.cayley.specs.Parents.{Precedes, IsParent}
use Rattle.cayley.specs.Dependencies.{Numbers, number_at, SumsAreZero, IsPositiveDependency}
use Rattle.cayley.specs.Shares.{IsTrueBranch, IsChildren}
use Rattle.cayley.proofs.Life.Exits.{precedes_begins, child_at}
use Rattle.cayley.proofs.Searching.Listing.{Has}
use Rattle.cayley.proofs.Searching.Members.{has_contains, contains_has}
use Rattle.cayley.proofs.Searching.Shares.{has_list}
use Rattle.circuit.specs.declared.circuits.Circuit.{Circuit}
use Rattle.cayley.specs.Signs.{sign_of, HasSign}
use Rattle.circuit.specs.Circuits.{IsCircuit}
use Rattle.inner_normal.specs.Coefficients.{pairs_of, numbers_of}
use Rattle.searcher.specs.declared.branches.Branch.{Branch}
use Rattle.searcher.specs.Branches.{branch_of, branches_of}
use Rattle.searcher.specs.Kept.{EndsAtWall, IsKept}
use Rattle.carried_inverse.specs.Answers.{HasPairSigns}

-- ---- the signs of a circuit
pub has_sign : (k : ℤ) → HasSign (sign_of k) k
has_sign (pos zero) = refl
has_sign (pos (suc n)) = omega (arith, ints)
has_sign (negsuc n) = omega (arith, ints)

not_minus : (k : ℤ) → sign_of k ≢ Minus → pos 0 ≤ℤ k
not_minus (pos n) h = omega (arith, ints)
not_minus (negsuc n) h = absurd (h refl)

sum_at : (pairs : List (ℤ × ℤ)) (j : ℕ) (g : ℤ) → j < length pairs → SumsAreZero pairs j g → (number_at pairs j).0 +ℤ (number_at pairs j).1 +ℤ g ≡ pos 0
sum_at [] j g l h = absurd (omega (arith, l))
sum_at (m ∷ pairs) zero g l h = h.0
sum_at (m ∷ pairs) (suc j) g l h = sum_at pairs j g (omega (arith, l)) h.1

-- the three numbers add up to zero and the last is positive, so one of the two is negative
pub one_minus : (p : Problem) (cell : Cell) (j c : ℕ) (numbers : Numbers) → j < length cell → IsPositiveDependency p cell j c numbers
    → ¬ ((sign_of (number_at numbers.pairs j).0 ≢ Minus) × (sign_of (number_at numbers.pairs j).1 ≢ Minus))
one_minus p cell j c numbers l d h =
    let count = d.1.0 in
    let s = sum_at numbers.pairs j numbers.last (omega (arith, l, count)) d.1.1.1 in
    let a = not_minus (number_at numbers.pairs j).0 h.0 in
    let b = not_minus (number_at numbers.pairs j).1 h.1 in
    let g = d.0 in
    absurd (omega (arith, ints, s, a, b, g))

-- the same of the signs alone
not_negative : (s : Sign) (k : ℤ) → HasSign s k → s ≢ Minus → pos 0 ≤ℤ k
not_negative Minus k h n = absurd (n refl)
not_negative Zero k h n = omega (arith, ints, h)
not_negative Plus k h n = omega (arith, ints, h)

pub some_minus : (p : Problem) (cell : Cell) (j c : ℕ) (signs : Sign × Sign) → j < length cell → HasPairSigns p cell j c signs → ¬ ((signs.0 ≢ Minus) × (signs.1 ≢ Minus))
some_minus p cell j c signs l h n =
    let d = h.1 in
    let count = d.1.0 in
    let s = sum_at h.0.pairs j h.0.last (omega (arith, l, count)) d.1.1.1 in
    let a = not_negative signs.0 (number_at h.0.pairs j).0 h.2.0 n.0 in
    let b = not_negative signs.1 (number_at h.0.pairs j).1 h.2.1 n.1 in
    let g = d.0 in
    absurd (omega (arith, ints, s, a, b, g))

-- ---- the cells of a list that have a further property
picked : (P Q : Cell → Type 0) → ((c : Cell) → Q c → P c) → (xs ys : List Cell) → IsListOf P xs → IsSorted ys → ((c : Cell) → Has c ys → Q c) → ((c : Cell) → Has c xs → Q c → Has c ys) → IsListOf Q ys
picked P Q to xs ys l s f g = (s, (λ c. ((λ k. f c (contains_has ys c k)), (λ q. has_contains ys c (g c (has_list P xs l c (to c q)) q)))))

-- ---- at a wall where the cell ends
module _ (p : Problem) (cell : Cell) (j c : ℕ) (signs : Sign × Sign) (u : lex.Value) (w : EndsAtWall p cell j c signs u) where
  before : (tau : Cell) → IsParent p cell tau → Precedes p cell tau w.t
  before tau h = ((child_at p cell tau w.t w.wall.problem w.ends).0 h).0

  truly : (tau : Cell) (b : Branch) → IsKept p cell u tau b → IsTrueBranch p (branch_of b)
  truly tau b k = subst (λ (b : Branch). IsTrueBranch p (branch_of b)) (sym k.1) (w.t, w.same_entries, w.same_over, precedes_begins p cell tau w.t w.wall.problem (before tau k.0))

  is_parent : (tau x : Cell) → IsParent p cell x → tau ≡ x → IsParent p cell tau
  is_parent tau x h e = subst (λ (y : Cell). IsParent p cell y) (sym e) h

  its : (tau : Cell) (b : Branch) → IsKept p cell u tau b → b.cell ≡ tau
  its tau b k = ap (λ (b : Branch). b.cell) k.1

  pub one_kept : (x : Cell) (b : Branch) → IsListOf (λ tau. Precedes p cell tau w.t) (x ∷ []) → IsKept p cell u x b → IsChildren p cell (branches_of (b ∷ []))
  one_kept x b l k = (
    (truly x b k, tt),
    subst (λ (y : Cell). IsListOf (λ tau. IsParent p cell tau) (y ∷ [])) (sym (its x b k))
        (picked (λ tau. Precedes p cell tau w.t) (λ tau. IsParent p cell tau) before (x ∷ []) (x ∷ []) l tt
        (λ z h. elim h [ inl e ↦ is_parent z x k.0 e | inr n ↦ absurd n ]) (λ z h q. h)),
  )

  pub none_kept : (x : Cell) → IsListOf (λ tau. Precedes p cell tau w.t) (x ∷ []) → ¬ (IsParent p cell x) → IsChildren p cell (branches_of [])
  none_kept x l n = (
    tt,
    picked (λ tau. Precedes p cell tau w.t) (λ tau. IsParent p cell tau) before (x ∷ []) [] l tt
        (λ z h. absurd h) (λ z h q. elim h [ inl e ↦ absurd (n (is_parent x z q (sym e))) | inr n ↦ absurd n ]),
  )

  module _ (x y : Cell) (l : IsListOf (λ tau. Precedes p cell tau w.t) (x ∷ y ∷ [])) where
    pub both_kept : (a b : Branch) → IsKept p cell u x a → IsKept p cell u y b → IsChildren p cell (branches_of (a ∷ b ∷ []))
    both_kept a b k m = (
      (truly x a k, (truly y b m, tt)),
      subst (λ (v : Cell). IsListOf (λ tau. IsParent p cell tau) (v ∷ b.cell ∷ [])) (sym (its x a k))
          (subst (λ (v : Cell). IsListOf (λ tau. IsParent p cell tau) (x ∷ v ∷ [])) (sym (its y b m))
          (picked (λ tau. Precedes p cell tau w.t) (λ tau. IsParent p cell tau) before (x ∷ y ∷ []) (x ∷ y ∷ []) l l.0
          (λ z h. elim h [ inl e ↦ is_parent z x k.0 e | inr i ↦ elim i [ inl e ↦ is_parent z y m.0 e | inr n ↦ absurd n ] ]) (λ z h q. h))),
    )

    pub first_kept : (a : Branch) → IsKept p cell u x a → ¬ (IsParent p cell y) → IsChildren p cell (branches_of (a ∷ []))
    first_kept a k n = (
      (truly x a k, tt),
      subst (λ (v : Cell). IsListOf (λ tau. IsParent p cell tau) (v ∷ [])) (sym (its x a k))
          (picked (λ tau. Precedes p cell tau w.t) (λ tau. IsParent p cell tau) before (x ∷ y ∷ []) (x ∷ []) l tt
          (λ z h. elim h [ inl e ↦ is_parent z x k.0 e | inr i ↦ absurd i ])
          (λ z h q. elim h [ inl e ↦ inl e | inr i ↦ elim i [ inl e ↦ absurd (n (is_parent y z q (sym e))) | inr o ↦ absurd o ] ])),
    )

    pub second_kept : (b : Branch) → ¬ (IsParent p cell x) → IsKept p cell u y b → IsChildren p cell (branches_of (b ∷ []))
    second_kept b n m = (
      (truly y b m, tt),
      subst (λ (v : Cell). IsListOf (λ tau. IsParent p cell tau) (v ∷ [])) (sym (its y b m))
          (picked (λ tau. Precedes p cell tau w.t) (λ tau. IsParent p cell tau) before (x ∷ y ∷ []) (y ∷ []) l tt
          (λ z h. elim h [ inl e ↦ is_parent z y m.0 e | inr i ↦ absurd i ])
          (λ z h q. elim h [ inl e ↦ absurd (n (is_parent x z q (sym e))) | inr i ↦ i ])),
    )

    pub neither_kept : ¬ (IsParent p cell x) → ¬ (IsParent p cell y) → IsChildren p cell (branches_of [])
    neither_kept n m = (
      tt,
      picked (λ tau. Precedes p cell tau w.t) (λ tau. IsParent p cell tau) before (x ∷ y ∷ []) [] l tt
          (λ z h. absurd h)
          (λ z h q. elim h [ inl e ↦ absurd (n (is_parent x z q (sym e))) | inr i ↦ elim i [ inl e ↦ absurd (m (is_parent y z q (sym e))) | inr o ↦ absurd o ] ]),
    )

-- ---- the wall
pub at_wall : (p : Problem) (cell : Cell) (j c : ℕ) (signs : Sign × Sign) (u : lex.Value) → IsProblem p
    → ((t : Time) × (t.entries ≡ entries u.parts) × (t.over ≡ u.den) × EndsAt p cell t × ((v : Normal) × IsNormal p cell t v × IsOnlyLevel p cell t v j c))
    → HasPairSigns p cell j c signs → EndsAtWall p cell j c signs u
at_wall p cell j c signs u well h s = record {
  t = h.0;
  same_entries = h.1;
  same_over = h.2;
  ends = h.3;
  wall = record {
    problem = well;
    before = h.3.0;
    v = h.4.0;
    normal = h.4.1;
    only = h.4.2;
    numbers = s.0;
    dependency = s.1;
    signs_are = s.2;
  };
}

-- the signs of a circuit's numbers
pub signs_of : (p : Problem) (cell : Cell) (j c : ℕ) (numbers : Numbers) (a b : Sign) → IsPositiveDependency p cell j c numbers
    → a ≡ sign_of (number_at numbers.pairs j).0 → b ≡ sign_of (number_at numbers.pairs j).1 → HasPairSigns p cell j c (a, b)
signs_of p cell j c numbers a b d e f = (
  numbers,
  d,
  (
    subst (λ (s : Sign). HasSign s (number_at numbers.pairs j).0) (sym e) (has_sign (number_at numbers.pairs j).0),
    subst (λ (s : Sign). HasSign s (number_at numbers.pairs j).1) (sym f) (has_sign (number_at numbers.pairs j).1),
  ),
)

module _ (p : Problem) (cell : Cell) (j c : ℕ) (circuit : Circuit) (is : IsCircuit p cell j c circuit) (signs : List Sign)
    (read : signs ≡ sign_of (number_at (pairs_of circuit.coefficients) (circuit.support - 1)).0 ∷ sign_of (number_at (pairs_of circuit.coefficients) (circuit.support - 1)).1 ∷ Plus ∷ []) where
  place : circuit.support - 1 ≡ j
  place = let e = is.support in omega (arith, e)

  inside : j < length cell
  inside = let e = is.support in let b = is.form.support.1 in omega (arith, e, b)

  first : (d : Sign) → slice_index_or signs 0 d ≡ sign_of (number_at (pairs_of circuit.coefficients) j).0
  first d = ap (λ (l : List Sign). slice_index_or l 0 d) read ∙ ap (λ (i : ℕ). sign_of (number_at (pairs_of circuit.coefficients) i).0) place

  second : (d : Sign) → slice_index_or signs 1 d ≡ sign_of (number_at (pairs_of circuit.coefficients) j).1
  second d = ap (λ (l : List Sign). slice_index_or l 1 d) read ∙ ap (λ (i : ℕ). sign_of (number_at (pairs_of circuit.coefficients) i).1) place

  pub not_neither : (d : Sign) → slice_index_or signs 0 d ≢ Minus → slice_index_or signs 1 d ≢ Minus → ⊥
  not_neither d f g =
      one_minus p cell j c (numbers_of circuit.coefficients) inside is.dependency
      ((λ e. f (first d ∙ e)), (λ e. g (second d ∙ e)))

  pub their_signs : (d : Sign) (s : Sign × Sign) → s ≡ (slice_index_or signs 0 d, slice_index_or signs 1 d) → HasPairSigns p cell j c s
  their_signs d s e =
      subst (HasPairSigns p cell j c) (sym e)
      (signs_of p cell j c (numbers_of circuit.coefficients) (slice_index_or signs 0 d) (slice_index_or signs 1 d) is.dependency (first d) (second d))
