-- the tie that is named at an end is one that is shown there
use Rattle.std.proofs.Common.{inl, inr, sym, subst}
use Rattle.std.specs.Prelude.{Result, Ok, Err, MatchResult, IfErr, Some}
use Rattle.std.specs.Option.{option_map}
use Rattle.cayley.specs.declared.found.TieProof.{TieProof}
use Rattle.cayley.specs.Times.{Time}
use Rattle.cayley.specs.Problems.{Problem, IsProblem}
use Rattle.cayley.specs.Cells.{Cell, IsOf, IsIndependent}
use Rattle.cayley.specs.Normals.{Normal, IsNormal, NoneBelow}
use Rattle.cayley.specs.Lives.{BeginsAt, EndsAt}
use Rattle.cayley.specs.Ties.{IsTieFree}
use Rattle.cayley.specs.StoredTies.{AreLevel, ShowsTie}
use Rattle.cayley.specs.TieProofs.{spot_of, IsTieProofAtEnd}
use Rattle.cayley.proofs.OneCell.CellNormals.{a_normal}
use Rattle.cayley.proofs.Life.Decisions.{alive_after, alive_before}
use Rattle.cayley.proofs.Life.Levels.{after_none_below, before_none_below}
use Rattle.cayley.proofs.Life.ShownTies.{shown_tie_law}
use Rattle.searcher.specs.declared.branches.Branch.{Branch}
use Rattle.searcher.specs.declared.expansions.Expansion.{Expansion}
use Rattle.searcher.specs.declared.expansions.Halt.{Halt}
use Rattle.searcher.specs.declared.expansions.HaltCause.{HaltCause}
use Rattle.searcher.specs.declared.expansions.HaltCause.TheVariants.{Tie, Overflow, OutOfMemory}
use Rattle.searcher.specs.Ends.{NamesLevel, NamesEnd}
use Rattle.searcher.specs.Expansions.{IsExpansion, IsHalt, IsCause, ShowsTieAtEnd, HasNoTie}

module _ (p : Problem) (well : IsProblem p) (cell : Cell) (proof : TieProof) where
  -- two level points at a time at which no point is below
  pub shown : (t : Time) (v : Normal) → IsOf p cell → IsIndependent p cell → IsNormal p cell t v → NoneBelow p cell t v → NamesLevel p cell t proof
      → ShowsTie p proof.cell t (spot_of proof.first) (option_map spot_of proof.second)
  shown t v of ind n none h =
      let two = h.2.2 in
      let a : AreLevel p cell t v (spot_of proof.first) (Some h.2.0) =
      ((two.0.0.0.0, (two.0.0.0.1, two.0.0.1 v n)), (two.1.0.0.0.0, (two.1.0.0.0.1, two.1.0.0.1 v n)), two.1.0.1) in
      subst (λ c. ShowsTie p c t (spot_of proof.first) (option_map spot_of proof.second)) (sym h.0)
      (of, ind, (v, n, none, subst (AreLevel p cell t v (spot_of proof.first)) (sym h.2.1) a))

  pub shown_end : NamesEnd p cell proof → IsTieProofAtEnd p proof
  shown_end (inl h) =
      let t = h.0 in
      let a = (alive_after p cell t h.1.0).1 in
      let v = a_normal p cell well a.0 a.1 t in
      (t, h.2.1, (shown t v.0 a.0 a.1 v.1 (after_none_below p cell well t v.0 h.1.0 v.1) h.2, inl (subst (λ c. BeginsAt p c t) (sym h.2.0) h.1)))
  shown_end (inr h) =
      let k = h.1 in
      let t = k.0 in
      let a = (alive_before p cell t k.1.0).1 in
      let v = a_normal p cell well a.0 a.1 t in
      (t, k.2.1, (shown t v.0 a.0 a.1 v.1 (before_none_below p cell well t v.0 k.1.0 v.1) k.2, inr (subst (λ c. EndsAt p c t) (sym k.2.0) k.1)))

module _ (p : Problem) (b : Branch) (well : IsProblem p) where
  pub cause_shown : (cause : HaltCause) → IsCause p b cause → ShowsTieAtEnd p cause
  cause_shown (Tie proof) h = shown_end p well b.cell proof h.1
  cause_shown (Overflow cell) h = tt
  cause_shown OutOfMemory h = tt

  -- so there is none where no cell has a tie
  pub none_free : IsTieFree p → (cause : HaltCause) → ShowsTieAtEnd p cause → HasNoTie cause
  none_free free (Tie proof) h = let s = shown_tie_law p proof.cell h.0 (spot_of proof.first) (option_map spot_of proof.second) well h.2.0 in free proof.cell h.0 s.0 s.1
  none_free free (Overflow cell) h = tt
  none_free free OutOfMemory h = tt

  pub tie_is : (r : Result Expansion Halt) → MatchResult r (IsExpansion p b) (IsHalt p b) → IfErr r (λ halt. ShowsTieAtEnd p halt.cause)
  tie_is (Ok e) h = tt
  tie_is (Err halt) h = cause_shown halt.cause h.1

  pub untied_is : (r : Result Expansion Halt) → MatchResult r (IsExpansion p b) (IsHalt p b) → IsTieFree p → IfErr r (λ halt. HasNoTie halt.cause)
  untied_is (Ok e) h free = tt
  untied_is (Err halt) h free = none_free free halt.cause (cause_shown halt.cause h.1)
