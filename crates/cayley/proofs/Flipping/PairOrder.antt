-- the order of the two positions of a pair isn't seen
use Rattle.std.proofs.Common.{◌≡◌, ◌⊎◌, ℕ, List, [], ◌∷◌, sym, ap, subst, ◌∙◌, inl, inr}
use Rattle.std.proofs.lemmas.Int.{ints}
use Rattle.std.proofs.Common.{arith}
use Rattle.std.proofs.Math.IntN.{pos}
use Rattle.cayley.proofs.Order.Lexicographic.{positive-same}
use Rattle.cayley.proofs.OneCell.Neighbours.{gap-potential, dot-sub}
use Rattle.int_vectors.specs.Vectors.{IsZero, IsPositive, dot, sub}
use Rattle.int_vectors.proofs.Entries.{at-zero}
use Rattle.cayley.specs.Times.{Time}
use Rattle.cayley.specs.Problems.{Point, Problem, point_at}
use Rattle.cayley.specs.Normals.{Normal, gap}
use Rattle.cayley.specs.Cells.{Cell, EachPair, IsIndependent}

-- a point seen from the one or the other of two level points
pub above_other : (t : Time) (v : Normal) (p q r : Point) → IsZero (gap t v p q) → IsPositive (gap t v p r) → IsPositive (gap t v q r)
above_other t v p q r z = positive-same (gap t v p r) (gap t v q r) (λ e.
    let a = sym (gap-potential t v p q e) ∙ at-zero (gap t v p q) e z in
    gap-potential t v p r e ∙ (let b = sym (gap-potential t v q r e) in omega (arith, ints, a, b)))

-- each pair is the same or turned round
abbrev pub IsTurned : Cell → Cell → Type 0
IsTurned [] [] = Unit {0}
IsTurned [] (y ∷ tau) = ⊥
IsTurned (x ∷ sigma) [] = ⊥
IsTurned (x ∷ sigma) (y ∷ tau) = ((x ≡ y) ⊎ ((y.1, y.0) ≡ x)) × IsTurned sigma tau

pub each_pair-turned : (P : List Point → ℕ → ℕ → Type 0) → ((s : List Point) (a b : ℕ) → P s a b → P s b a) → (supports : List (List Point)) (sigma tau : Cell) → IsTurned sigma tau → EachPair supports sigma P → EachPair supports tau P
each_pair-turned P f [] [] [] r e = e
each_pair-turned P f [] [] (y ∷ tau) r e = absurd r
each_pair-turned P f [] (x ∷ sigma) tau r e = absurd e
each_pair-turned P f (s ∷ supports) [] tau r e = absurd e
each_pair-turned P f (s ∷ supports) (x ∷ sigma) [] r e = absurd r
each_pair-turned P f (s ∷ supports) (x ∷ sigma) (y ∷ tau) r e = (head r.0, each_pair-turned P f supports sigma tau r.1 e.1)
  where
    head : ((x ≡ y) ⊎ ((y.1, y.0) ≡ x)) → P s y.0 y.1
    head (inl q) = subst (λ z. P s z.0 z.1) q e.0
    head (inr q) = f s y.1 y.0 (subst (λ z. P s z.0 z.1) (sym q) e.0)

pub turned_back : (sigma tau : Cell) → IsTurned sigma tau → IsTurned tau sigma
turned_back [] [] r = r
turned_back [] (y ∷ tau) r = r
turned_back (x ∷ sigma) [] r = r
turned_back (x ∷ sigma) (y ∷ tau) r = (elim r.0 [ inl q ↦ inl (sym q) | inr q ↦ inr (ap (λ z. (z.1, z.0)) (sym q)) ], turned_back sigma tau r.1)

pub independent_turned : (p : Problem) (sigma tau : Cell) → IsTurned sigma tau → IsIndependent p sigma → IsIndependent p tau
independent_turned p sigma tau r ind v l e =
    ind v l (each_pair-turned (λ s a b. dot (sub (point_at s b).coordinates (point_at s a).coordinates) v ≡ pos 0) turn p.supports tau sigma (turned_back sigma tau r) e)
  where
    turn : (s : List Point) (a b : ℕ) → dot (sub (point_at s b).coordinates (point_at s a).coordinates) v ≡ pos 0 → dot (sub (point_at s a).coordinates (point_at s b).coordinates) v ≡ pos 0
    turn s a b z =
        let x = dot-sub (point_at s b).coordinates (point_at s a).coordinates v in
        let y = dot-sub (point_at s a).coordinates (point_at s b).coordinates v in
        omega (arith, ints, x, y, z)
