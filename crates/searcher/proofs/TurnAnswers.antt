-- what a turn does, as an expansion
use Rattle.std.proofs.Common.{List, Option, None, Some, refl, sym, append-nil}
use Rattle.std.specs.Prelude.{Result, Ok, Err, MatchOption, MatchResult, IfErr}
use Rattle.cayley.specs.declared.found.FoundCell.{FoundCell}
use Rattle.cayley.specs.Problems.{Problem, IsProblem}
use Rattle.cayley.specs.Ties.{IsTieFree}
use Rattle.searcher.specs.declared.branches.Branch.{Branch}
use Rattle.searcher.specs.declared.expansions.Expansion.TheVariants.{Endless, Target}
use Rattle.searcher.specs.declared.expansions.HaltCause.{HaltCause}
use Rattle.searcher.specs.Expansions.{IsExpansion, IsCause, ShowsTieAtEnd, HasNoTie}
use Rattle.searcher.specs.Turns.{IsTurned}
use Rattle.searcher.proofs.ShownEnds.{cause_shown, none_free}

module _ (p : Problem) (b : Branch) where
  pub mixed_turned : (old : List Branch) (r : Option FoundCell) → MatchOption r (IsExpansion p b Endless) (λ found. IsExpansion p b (Target found)) → IsTurned p b old old r
  mixed_turned old None h = (Endless, h, sym (append-nil old), refl)
  mixed_turned old (Some found) h = (Target found, h, sym (append-nil old), refl)

  module _ (well : IsProblem p) where
    pub tie_told : (Q : Option FoundCell → Type 0) (r : Result (Option FoundCell) HaltCause) → MatchResult r Q (IsCause p b) → IfErr r (ShowsTieAtEnd p)
    tie_told Q (Ok found) h = tt
    tie_told Q (Err cause) h = cause_shown p b well cause h

    pub untied_told : (Q : Option FoundCell → Type 0) (r : Result (Option FoundCell) HaltCause) → MatchResult r Q (IsCause p b) → IsTieFree p → IfErr r HasNoTie
    untied_told Q (Ok found) h free = tt
    untied_told Q (Err cause) h free = none_free p b well free cause (cause_shown p b well cause h)
