-- what doesn't look at ranks holds of the supports with their ranks and without them
use Rattle.std.proofs.Common.{ℕ, ◌≤◌, ◌↔◌, List, [], map, sym, subst, subst₂}
use Rattle.std.proofs.lemmas.List.{length-map}
use Rattle.cayley.specs.Problems.{Point, point_at, with_rank}
use Rattle.cayley.specs.Cells.{Cell, EachPair, IsFurther}
use Rattle.cayley.proofs.Ranking.Unperturbed.{unranked, point_unranked, each_pair_unranked, unranked_each_pair}

-- Q is the same of two points without their ranks
module _ (Q : Point → Point → Type 0) (to : (x y : Point) → Q x y → Q (with_rank 0 x) (with_rank 0 y)) (from : (x y : Point) → Q (with_rank 0 x) (with_rank 0 y) → Q x y) where
  abbrev pub Own : List Point → ℕ → ℕ → Type 0
  Own s a b = Q (point_at s a) (point_at s b)

  abbrev pub Further : List Point → ℕ → ℕ → Type 0
  Further s a b = (c : ℕ) → IsFurther s a b c → Q (point_at s a) (point_at s c)

  own_to : (s : List Point) (a b : ℕ) → Own s a b → Own (unranked s) a b
  own_to s a b h = subst₂ Q (sym (point_unranked s a)) (sym (point_unranked s b)) (to (point_at s a) (point_at s b) h)

  own_from : (s : List Point) (a b : ℕ) → Own (unranked s) a b → Own s a b
  own_from s a b h = from (point_at s a) (point_at s b) (subst₂ Q (point_unranked s a) (point_unranked s b) h)

  further_to : (s : List Point) (a b : ℕ) → Further s a b → Further (unranked s) a b
  further_to s a b h c f = own_to s a c (h c (f.0, subst (λ m. c ≤ m) (length-map s (with_rank 0)) f.1, f.2, f.3))

  further_from : (s : List Point) (a b : ℕ) → Further (unranked s) a b → Further s a b
  further_from s a b h c f = own_from s a c (h c (f.0, subst (λ m. c ≤ m) (sym (length-map s (with_rank 0))) f.1, f.2, f.3))

  pub each_own : (supports : List (List Point)) (cell : Cell) → EachPair supports cell Own ↔ EachPair (map unranked supports) cell Own
  each_own supports cell = (each_pair_unranked Own Own own_to supports cell, unranked_each_pair Own Own own_from supports cell)

  pub each_further : (supports : List (List Point)) (cell : Cell) → EachPair supports cell Further ↔ EachPair (map unranked supports) cell Further
  each_further supports cell = (each_pair_unranked Further Further further_to supports cell, unranked_each_pair Further Further further_from supports cell)
