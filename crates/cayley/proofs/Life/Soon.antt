-- what holds at all times just after a time, and cells that are alive then
use Rattle.std.proofs.Common.{ℕ, zero, suc, ◌<◌, List, [], ◌∷◌, length, arith, sym, subst, inl}
use native.Mathlib.Decide.{ℕ_discrete, dec_le}
use Rattle.cayley.proofs.Order.Lines.{Line, line_at, Before, SignAfter, next, before_next, bound, earlier}
use Rattle.cayley.proofs.OneCell.CellNormals.{a_normal}
use Rattle.cayley.proofs.OneCell.CellLines.{point_line}
use Rattle.int_vectors.specs.Vectors.{IsPositive}
use Rattle.cayley.specs.Times.{Time}
use Rattle.cayley.specs.Problems.{Point, Problem, point_at, IsProblem}
use Rattle.cayley.specs.Normals.{Normal, gap, IsNormal}
use Rattle.cayley.specs.Cells.{Cell, EachPair, IsOf, IsIndependent, IsFurther}
use Rattle.cayley.specs.Lives.{AliveJustAfter}
use Rattle.cayley.proofs.Lists.Pairs.{pairs_map}

pub record Soon (t : Time) (P : Time → Type 0) : Type 0 where
  pub until : Time
  pub after : Before t until
  pub holds : (x : Time) → Before t x → Before x until → P x

pub soon_always : (t : Time) (P : Time → Type 0) → ((x : Time) → P x) → Soon t P
soon_always t P h = record { until = next t; after = before_next t; holds = λ x a b. h x }

pub soon_both : (t : Time) (P Q : Time → Type 0) → Soon t P → Soon t Q → Soon t (λ x. P x × Q x)
soon_both t P Q p q =
    let w = earlier t p.until q.until p.after q.after in
    record { until = w.w; after = w.after; holds = λ x a b. (p.holds x a (w.first x b), q.holds x a (w.second x b)) }

pub soon_map : (t : Time) (P Q : Time → Type 0) → ((x : Time) → P x → Q x) → Soon t P → Soon t Q
soon_map t P Q f p = record { until = p.until; after = p.after; holds = λ x a b. f x (p.holds x a b) }

-- below a bound, each by itself gives all together
pub soon_below : (t : Time) (n : ℕ) (P : ℕ → Time → Type 0) → ((c : ℕ) → c < n → Soon t (P c)) → Soon t (λ x. (c : ℕ) → c < n → P c x)
soon_below t zero P h = soon_always t _ (λ x c lt. absurd (omega arith))
soon_below t (suc n) P h =
    soon_map t _ _ (λ x q c lt. last x q c lt) (soon_both t (λ x. (c : ℕ) → c < n → P c x) (P n) (soon_below t n P (λ c lt. h c (omega arith))) (h n (omega arith)))
  where
    last : (x : Time) → ((c : ℕ) → c < n → P c x) × P n x → (c : ℕ) → c < suc n → P c x
    last x q c lt = elim (ℕ_discrete c n) [ yes e ↦ subst (λ k. P k x) (sym e) q.1 | no apart ↦ q.0 c (omega arith) ]

-- the further points of a pair
pub soon_further : (t : Time) (s : List Point) (a b : ℕ) (P : ℕ → Time → Type 0) → ((c : ℕ) → IsFurther s a b c → Soon t (P c)) → Soon t (λ x. (c : ℕ) → IsFurther s a b c → P c x)
soon_further t s a b P h =
    soon_map t _ _ (λ x q c f. q c (omega (arith, f.1)) f)
    (soon_below t (suc (length s)) (λ c x. IsFurther s a b c → P c x) (λ c lt. one c))
  where
    one : (c : ℕ) → Soon t (λ x. IsFurther s a b c → P c x)
    one c =
        let never = λ (n : ¬ (IsFurther s a b c)). soon_always t (λ x. IsFurther s a b c → P c x) (λ x f. absurd (n f)) in
        elim (dec_le 1 c) [
          | no n ↦ never (λ f. n f.0)
          | yes p ↦ elim (dec_le c (length s)) [
            | no n ↦ never (λ f. n f.1)
            | yes q ↦ elim (ℕ_discrete c a) [
              | yes e ↦ never (λ f. f.2 e)
              | no m ↦ elim (ℕ_discrete c b) [
                | yes e ↦ never (λ f. f.3 e)
                | no k ↦ soon_map t (P c) _ (λ x r f. r) (h c (p, q, m, k))
              ]
            ]
          ]
        ]

pub soon_pairs : (t : Time) (supports : List (List Point)) (cell : Cell) (P : Time → List Point → ℕ → ℕ → Type 0)
    → EachPair supports cell (λ s a b. Soon t (λ x. P x s a b)) → Soon t (λ x. EachPair supports cell (P x))
soon_pairs t [] [] P e = soon_always t _ (λ x. tt)
soon_pairs t [] (pair ∷ cell) P e = absurd e
soon_pairs t (s ∷ supports) [] P e = absurd e
soon_pairs t (s ∷ supports) (pair ∷ cell) P e = soon_both t (λ x. P x s pair.0 pair.1) (λ x. EachPair supports cell (P x)) e.0 (soon_pairs t supports cell P e.1)

-- a line of a further point, with its sign just after t
pub record SoonAbove (p : Problem) (cell : Cell) (t : Time) (a c : Point) : Type 0 where
  pub line : Line
  pub above : (x : Time) (v : Normal) → IsNormal p cell x v → IsPositive (line_at line x) → IsPositive (gap x v a c)
  pub sign : SignAfter t line

pub soon_above_now : (p : Problem) (cell : Cell) (t : Time) (a c : Point) → IsProblem p → IsOf p cell → IsIndependent p cell → (v : Normal) → IsNormal p cell t v → IsPositive (gap t v a c) → SoonAbove p cell t a c
soon_above_now p cell t a c well of ind v is g =
    let l = point_line p cell a c well of ind in
    record { line = l.line; above = λ x w iw. (l.above x w iw).0; sign = inl ((l.above t v is).1 g) }

abbrev AboveAt : Problem → Cell → Time → Point → Point → Type 0
AboveAt p cell x a c = (v : Normal) → IsNormal p cell x v → IsPositive (gap x v a c)

-- an independent cell is alive just after t if each further point has a line that is positive there, or zero and rising
pub alive_soon : (p : Problem) (cell : Cell) (t : Time) → IsProblem p → IsOf p cell → IsIndependent p cell
    → EachPair p.supports cell (λ s a b. (c : ℕ) → IsFurther s a b c → SoonAbove p cell t (point_at s a) (point_at s c)) → AliveJustAfter p cell t
alive_soon p cell t well of ind signs =
    let s = soon_pairs t p.supports cell (λ x s a b. (c : ℕ) → IsFurther s a b c → AboveAt p cell x (point_at s a) (point_at s c))
    (pairs_map p.supports cell _ _ (λ s a b h. soon_further t s a b (λ c x. AboveAt p cell x (point_at s a) (point_at s c))
    (λ c f. let k = h c f in let d = bound t k.line k.sign in record { until = d.until; after = d.after; holds = λ x u w v is. k.above x v is (d.holds x u w) }))
    signs) in (
      s.until,
      s.after,
      λ x before_x until_x.
          let v = a_normal p cell well of ind x in
          (of, ind, (v.0, v.1, pairs_map p.supports cell _ _ (λ s a b h c f. h c f v.0 v.1) (s.holds x before_x until_x))),
    )
