-- a cell whose points rest is alive at all times or at none
use Rattle.std.proofs.Common.{◌≡◌, ◌∙◌, ℤ, List, Ok, Err, refl, sym, subst}
use Rattle.std.proofs.Math.IntN.{pos}
use Rattle.std.specs.Prelude.{◌<ℤ◌}
use Rattle.cayley.specs.Times.{Time, time_zero}
use Rattle.cayley.specs.Problems.{Problem, IsStill, HasNoCorners}
use Rattle.cayley.specs.Cells.{Cell, IsOf, IsIndependent}
use Rattle.cayley.specs.Rows.{edge_rows}
use Rattle.cayley.specs.Mixed.{IsAlive, IsMixedCell}
use Rattle.cayley.specs.Valid.{IsValidProblem}
use Rattle.cayley.proofs.Life.Still.{mixed_law}
use Rattle.cayley.proofs.Order.Times.{never_before}
use Rattle.lex_height.specs.Entries.{entries}
use Rattle.lex_height.specs.Values.{Value}
use Rattle.crossing.specs.declared.line.WallLine.{WallLine}
use Rattle.crossing.specs.declared.entry.Entry.{Entry}
use Rattle.crossing.specs.declared.entry.Entry.TheVariants as entry
use Rattle.crossing.specs.declared.exit.Exit.{Exit}
use Rattle.crossing.specs.declared.exit.Exit.TheVariants as exit
use Rattle.crossing.specs.Entries.{IsEntry}
use Rattle.crossing.specs.Exits.{IsExit}
use Rattle.cone_walls.specs.Lives.{LivesBetween}
use Rattle.cone_walls.specs.Workings.{FitsWallWorking}
use Rattle.reduced_rows.specs.Steps.{elimination, FitsElimination}
use Rattle.plain_lister.proofs.Plain.{own_points}

-- the time of a value
abbrev time_of : (u : Value) → pos 0 <ℤ u.den → Time
time_of u h = record { entries = entries u.parts; over = u.den; positive = h }

module _ (p : Problem) (valid : IsValidProblem p) (still : IsStill p) (alone : HasNoCorners p) (cell : Cell) (lines : List WallLine) (lives : LivesBetween p cell lines) where
  -- alive without an end is alive at time 0
  pub lasting : IsEntry lines entry.Always → IsExit lines exit.Never → IsMixedCell p cell
  lasting e x = subst (λ q. IsAlive q cell time_zero) (sym (own_points p valid alone)) ((lives entry.Always exit.Never e x time_zero).1 (tt, tt))

  alive_at : IsMixedCell p cell → (t : Time) → IsAlive p cell t
  alive_at m t = subst (λ q. IsAlive q cell t) (own_points p valid alone) ((mixed_law p cell t still).0 m)

  -- a mixed cell's lines have no end
  pub no_entry : (e : Entry) (x : Exit) → IsEntry lines e → IsExit lines x → IsMixedCell p cell → e ≡ entry.Always
  no_entry entry.Always x i j m = refl
  no_entry entry.Dead x i j m = absurd ((lives entry.Dead x i j time_zero).0 (alive_at m time_zero)).0
  no_entry (entry.At u which) x i j m =
      let t = time_of u i.1.0.2 in
      absurd (never_before t ((lives (entry.At u which) x i j t).0 (alive_at m t)).0)
  no_entry (entry.Tied u first second) x i j m =
      let t = time_of u i.1.0.2 in
      absurd (never_before t ((lives (entry.Tied u first second) x i j t).0 (alive_at m t)).0)

  pub no_exit : (e : Entry) (x : Exit) → IsEntry lines e → IsExit lines x → IsMixedCell p cell → x ≡ exit.Never
  no_exit e exit.Never i j m = refl
  no_exit e (exit.Flat which) i j m = absurd ((lives e (exit.Flat which) i j time_zero).0 (alive_at m time_zero)).1
  no_exit e (exit.At u which) i j m =
      let t = time_of u j.1.0.2 in
      absurd (never_before t ((lives e (exit.At u which) i j t).0 (alive_at m t)).1)
  no_exit e (exit.Tied u first second) i j m =
      let t = time_of u j.1.0.2 in
      absurd (never_before t ((lives e (exit.Tied u first second) i j t).0 (alive_at m t)).1)

-- a dependent cell's working ends with its kernel, and it isn't mixed
pub dependent_cell : (p : Problem) (cell : Cell) (kernel : List ℤ) → IsValidProblem p → HasNoCorners p → FitsElimination p.dimension (edge_rows p cell) → elimination p.dimension (edge_rows p cell) ≡ Err kernel
    → ¬ (IsIndependent p cell) → FitsWallWorking p cell × ¬ (IsMixedCell p cell)
dependent_cell p cell kernel valid alone fits ended not = (
  (fits, λ made e. absurd (apart made (sym e ∙ ended))),
  λ m. not (subst (λ q. IsAlive q cell time_zero) (own_points p valid alone) m).1,
)
  where
    apart : (made : List (List ℤ)) → Ok made ≡ Err kernel → ⊥
    apart made e = cc
