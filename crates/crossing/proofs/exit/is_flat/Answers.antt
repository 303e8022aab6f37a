use Rattle.std.proofs.Common.{◌≡◌, [], length, true≢false, sym, ap, ◌∙◌, arith, FitsSigned, of_z, eq-eqb, eqb-true}
use Rattle.std.specs.Int.{w128}
use Rattle.std.proofs.lemmas.Int.{fits_signed_from_abs}
use Rattle.wide_int.proofs.Signed.{is_zero}
use Rattle.crossing.proofs.Parts.{flat_from, flat_parts, no_length}
use Rattle.crossing.proofs.exit.is_flat.Goals as goal

pub returns-then-line-eq0 : goal.returns-then-line-eq0
returns-then-line-eq0 c =
    let fa : FitsSigned w128 c.args.line.now.alpha = fits_signed_from_abs w128 _ c.requires.0 in
    let fb : FitsSigned w128 c.args.line.now.beta = fits_signed_from_abs w128 _ c.requires.1 in
    let lb = c.in-empty.len_below in
    let g : c.args.line.now.fine ≡ [] = sym c.as_slice.ensures ∙ no_length c.as_slice.result.now (omega (arith, lb)) in (
      λ h. flat_from c.args.line.now (is_zero c.args.line.now.alpha fa c.if-line-eq0.true) (is_zero c.args.line.now.beta fb (eqb-true (of_z w128 c.args.line.now.beta) 0 h)) g,
      λ f. eq-eqb (of_z w128 c.args.line.now.beta) 0 (ap (of_z w128) (flat_parts c.args.line.now c.requires.3 f).1),
    )

pub returns-else-line-eq0 : goal.returns-else-line-eq0
returns-else-line-eq0 c = (
  λ h. absurd (c.if-line-eq0.false (eqb-true (of_z w128 c.args.line.now.alpha) 0 h)),
  λ f. absurd (c.if-line-eq0.false (ap (of_z w128) (flat_parts c.args.line.now c.requires.3 f).0)),
)

pub returns-in-len1-up : goal.returns-in-len1-up
returns-in-len1-up c = (
  λ h. absurd (true≢false (sym h)),
  λ f.
      let e = ap length (c.as_slice.ensures ∙ (flat_parts c.args.line.now c.requires.3 f).2) in
      let l = c.in-len1-up.len_at_least in
      absurd (omega (arith, e, l)),
)
