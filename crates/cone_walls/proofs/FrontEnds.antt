-- the end that a front gives
use Rattle.std.proofs.Common.{◌≡◌, ℕ, zero, suc, pos, neg_ℤ, ◌+◌, ◌-◌, List, arith, sym, ap, subst, ◌∙◌}
use Rattle.std.proofs.lemmas.Int.{ints}
use Rattle.std.specs.Prelude.{slice_index_or}
use Rattle.wide_int.specs.Fractions.{Fraction, IsFraction}
use Rattle.lex_height.specs.Entries.{entry}
use Rattle.lex_height.specs.Values as lex
use Rattle.cayley.specs.declared.found.Place.{Place}
use Rattle.crossing.specs.declared.line.WallLine.{WallLine}
use Rattle.crossing.specs.declared.leaders.Way.TheVariants.{Falling}
use Rattle.crossing.specs.Lines.{FitsLine, IsFlat, IsZeroAt}
use Rattle.crossing.specs.Zeros.{zero_numbers}
use Rattle.crossing.specs.Places.{origin, IsNowhere}
use Rattle.crossing.specs.Leading.{nth}
use Rattle.crossing.proofs.Parts.{zero_entry, zero_value}
use Rattle.crossing.proofs.ExitRule.{is_never, is_at, is_tied}
use Rattle.cone_walls.specs.declared.fronts.Fall.{Fall}
use Rattle.cone_walls.specs.declared.fronts.Front.TheVariants.{Empty, One, Two}
use Rattle.cone_walls.specs.declared.endings.End.TheVariants.{Never, At, Tied}
use Rattle.cone_walls.specs.declared.fronts.Front.{Front}
use Rattle.cone_walls.specs.Fronts.{line_by, place_by, IsFall, IsTimeOf, IsFront}
use Rattle.cone_walls.specs.declared.endings.End.{End}
use Rattle.cone_walls.specs.Ends.{place_at, IsEnd, TellsEnd}
use Rattle.cone_walls.proofs.NarrowPoints.{whole}

-- ---- the time at which a line that falls is zero
pub time_is : (f : Fall) → IsFall f → (u : lex.Value) (z : Fraction) → lex.IsLowest u → lex.IsOfFraction u z → IsFraction z f.alpha (neg_ℤ f.beta) → IsTimeOf f u
time_is f h u z low of same = (zero_value Falling (line_by f) u fits low value, low)
  where
    fits : FitsLine (line_by f)
    fits = (whole _ h.1, whole _ h.2, omega arith, tt)

    value : lex.HasValue u (zero_numbers Falling (line_by f)) (neg_ℤ f.beta)
    value zero = let a : entry (zero_numbers Falling (line_by f)) 0 ≡ f.alpha = zero_entry Falling (line_by f) fits 0 in rw (of.1, of.0, a) same
    value (suc k) =
        let e = of.2 k in
        let a : entry (zero_numbers Falling (line_by f)) (suc k) ≡ pos 0 = zero_entry Falling (line_by f) fits (suc k) in
        rw (e, a) (omega (arith, ints))

-- ---- the places of lines
abbrev place_of : WallLine → Place
place_of l = record { support = l.support; position = l.position }

place_is : (lines : List WallLine) (f : Fall) (a : ℕ) → nth lines a ≡ line_by f → place_by f ≡ place_at lines (a + 1)
place_is lines f a e = let k : a ≡ a + 1 - 1 = omega arith in ap place_of (sym e ∙ ap (λ z. slice_index_or lines z origin) k)

module _ (lines : List WallLine) (none : IsNowhere IsFlat lines) where
  front_never : IsFront lines Empty → IsEnd lines Never
  front_never h = is_never lines none h

  module _ (f : Fall) (u : lex.Value) (low : lex.IsLowest u) (zero : IsZeroAt (line_by f) u) where
    front_at : IsFront lines (One f) → IsEnd lines (At u (place_by f))
    front_at h = (h.0 + 1, is_at lines none u low h.0 h.1 (subst (λ (l : WallLine). IsZeroAt l u) (sym h.2) zero), place_is lines f h.0 h.2)

    front_tied : (g : Fall) → IsFront lines (Two f g) → IsEnd lines (Tied u (place_by f) (place_by g))
    front_tied g h = (
      h.0 + 1,
      h.1 + 1,
      is_tied lines none u low h.0 h.1 h.2 (subst (λ (l : WallLine). IsZeroAt l u) (sym h.3) zero),
      place_is lines f h.0 h.3,
      place_is lines g h.1 h.4,
    )

  -- the end that a front tells is the end of the lines
  pub front_end : (front : Front) → IsFront lines front → (end : End) → TellsEnd front end → IsEnd lines end
  front_end Empty h end e = subst (IsEnd lines) (sym e) (front_never h)
  front_end (One f) h end (u, t, e) = subst (IsEnd lines) (sym e) (front_at f u t.1 t.0 h)
  front_end (Two f g) h end (u, t, e) = subst (IsEnd lines) (sym e) (front_tied f u t.1 t.0 g h)
