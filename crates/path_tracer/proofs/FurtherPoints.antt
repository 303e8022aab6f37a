-- a true branch of a started problem has a further point, so that its inverse fits where its working does
use Rattle.std.proofs.Common.{◌≡◌, ◌≢◌, ℕ, suc, ◌+◌, ◌≤◌, List, [], ◌∷◌, length, arith, inl, inr}
use native.Mathlib.Decide.{ℕ_discrete}
use Rattle.reduced_rows.specs.CellRefusals.{FitsBeyond}
use Rattle.cayley.specs.Problems.{Point, Problem, EachSupport}
use Rattle.cayley.specs.Cells.{Cell, IsIndependent}
use Rattle.cayley.specs.Dependencies.{pair_at, nth_support}
use Rattle.cayley.specs.Lives.{Begin, BeginsAs}
use Rattle.cayley.specs.Lives.Begin.{at_start, at_time}
use Rattle.cayley.specs.Rows.{edge_rows}
use Rattle.cayley.specs.Shares.{IsTrueBranch}
use Rattle.cayley.proofs.Life.Decisions.{alive_early, alive_after}
use Rattle.cayley.proofs.Searching.Shares.{true_of}
use Rattle.inner_normal.specs.Inverses.{FitsInverse}
use Rattle.start_system.proofs.Path.Forms.{HasForm}
use Rattle.searcher.specs.declared.branches.Branch.{Branch}
use Rattle.searcher.specs.declared.expansions.Expansion.{Expansion}
use Rattle.searcher.specs.declared.expansions.Expansion.TheVariants.{Inner, Target, Endless, Stranger}
use Rattle.searcher.specs.Branches.{branch_of}
use Rattle.searcher.specs.Ends.{IsTiedAtEnd}
use Rattle.searcher.specs.Expansions.{IsExpansion}
use Rattle.searcher.specs.Workings.{FitsWorking}
use Rattle.path_tracer.specs.Nodes.{HasFurther}

-- one of three positions is neither of two
third : (a b : ℕ) → (c : ℕ) × (1 ≤ c) × (c ≤ 3) × (c ≢ a) × (c ≢ b)
third a b = elim (ℕ_discrete 1 a) [
  | yes e ↦ elim (ℕ_discrete 2 b) [
    | yes f ↦ (3, omega arith, omega arith, (λ q. omega (arith, e, q)), (λ q. omega (arith, f, q)))
    | no m ↦ (2, omega arith, omega arith, (λ q. omega (arith, e, q)), m)
  ]
  | no m ↦ elim (ℕ_discrete 1 b) [
    | yes f ↦ elim (ℕ_discrete 2 a) [
      | yes g ↦ (3, omega arith, omega arith, (λ q. omega (arith, g, q)), (λ q. omega (arith, f, q)))
      | no k ↦ (2, omega arith, omega arith, k, (λ q. omega (arith, f, q)))
    ]
    | no k ↦ (1, omega arith, omega arith, m, k)
  ]
]

first_long : (n i : ℕ) (files : List ℕ) (supports : List (List Point)) → EachSupport i files supports (λ i f s. (1 ≤ f) × (length s ≡ f + suc n)) → 1 ≤ n → 1 ≤ length supports → 3 ≤ length (nth_support supports 0)
first_long n i [] [] h l k = absurd (omega (arith, k))
first_long n i [] (s ∷ supports) h l k = absurd h
first_long n i (f ∷ files) [] h l k = absurd h
first_long n i (f ∷ files) (s ∷ supports) h l k = let a = h.0.0 in let e = h.0.1 in omega (arith, a, e, l)

pub has_further : (p : Problem) (cell : Cell) → HasForm p → HasFurther p cell
has_further p cell form =
    let t = third (pair_at cell 0).0 (pair_at cell 0).1 in
    let l = first_long p.dimension 0 p.files p.supports form.long form.some (let e = form.supports in let s = form.some in omega (arith, e, s)) in
    (0, t.0, (t.1, (let u = t.2 in omega (arith, u, l)), t.3, t.4))

begun_independent : (p : Problem) (cell : Cell) (begin : Begin) → BeginsAs p cell begin → IsIndependent p cell
begun_independent p cell at_start h = (alive_early p cell h).1.1
begun_independent p cell (at_time entries over) h = (alive_after p cell h.0 h.3.0).1.1

pub branch_independent : (p : Problem) (b : Branch) → IsTrueBranch p (branch_of b) → IsIndependent p b.cell
branch_independent p b h = begun_independent p b.cell (branch_of b).begin h

pub branch_fits : (p : Problem) (b : Branch) (e : Expansion) → IsExpansion p b e → IsTrueBranch p (branch_of b) → FitsWorking p b.cell
branch_fits p b (Inner children) h t = h.0.0.1
branch_fits p b (Target found) h t = h.0.0.1
branch_fits p b Endless h t = h.0.1
branch_fits p b (Stranger branch) (inl n, e) t = absurd (n (true_of p (branch_of b) t))
branch_fits p b (Stranger branch) (inr n, e) t = absurd (n.1 t)

pub branch_untied : (p : Problem) (b : Branch) (e : Expansion) → IsExpansion p b e → IsTrueBranch p (branch_of b) → ¬ (IsTiedAtEnd p b.cell)
branch_untied p b (Inner children) h t = λ tied. h.0.1 (inr tied)
branch_untied p b (Target found) h t = λ tied. h.0.1 (inr tied)
branch_untied p b Endless h t = λ tied. h.1 (inr tied)
branch_untied p b (Stranger branch) (inl n, e) t = absurd (n (true_of p (branch_of b) t))
branch_untied p b (Stranger branch) (inr n, e) t = absurd (n.1 t)

pub inverse_fits : (p : Problem) (cell : Cell) → FitsWorking p cell → HasFurther p cell → FitsBeyond p.dimension (edge_rows p cell) FitsInverse
inverse_fits p cell w f = (w.0, λ made e. ((w.1 made e).1 f.0 f.1 f.2).0)
