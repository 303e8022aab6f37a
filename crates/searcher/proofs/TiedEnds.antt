-- ties where a cell begins and ends, by the lines that are zero there
use Rattle.std.proofs.Common.{◌≡◌, ℕ, ◌-◌, ◌<◌, List, length, arith, refl, subst, pos, ◌<ℤ◌}
use Rattle.std.proofs.lemmas.Int.{ints}
use Rattle.std.proofs.lemmas.List.{get_or_default}
use Rattle.int_vectors.specs.Vectors.{IsZero}
use Rattle.int_vectors.proofs.Entries.{not_zero}
use Rattle.lex_height.specs.Entries.{entries}
use Rattle.lex_height.specs.Values as lex
use Rattle.cayley.specs.Times.{Time, IsBefore, IsSameTime}
use Rattle.cayley.specs.Problems.{Problem, IsProblem}
use Rattle.cayley.specs.Cells.{Cell, IsOf, IsIndependent}
use Rattle.cayley.specs.Mixed.{IsAlive}
use Rattle.cayley.specs.Normals.{Normal, IsNormal}
use Rattle.cayley.specs.Dependencies.{IsFurtherAt}
use Rattle.cayley.specs.Lives.{AliveLate, BeginsAt, EndsAt}
use Rattle.cayley.specs.Flips.{IsOnlyLevel}
use Rattle.cayley.specs.StoredTies.{Spot}
use Rattle.cayley.specs.NamedTies.{IsLevelThen, AreFirstTwo}
use Rattle.cayley.proofs.Order.Times.{same_before, before_same, same_sym, same_self}
use Rattle.int_vectors.proofs.Each.{each_all}
use Rattle.cayley.proofs.OneCell.CellNormals.{a_normal}
use Rattle.cayley.proofs.Life.LifeLaws.{once_law}
use Rattle.cayley.proofs.Life.ShownTies.{spots_apart}
use Rattle.crossing.specs.declared.line.WallLine.{WallLine}
use Rattle.crossing.specs.declared.entry.Entry.TheVariants as entry
use Rattle.crossing.specs.declared.exit.Exit.{Exit}
use Rattle.crossing.specs.declared.exit.Exit.TheVariants as exit
use Rattle.crossing.specs.declared.leaders.Way.TheVariants.{Falling, Rising}
use Rattle.crossing.specs.Leading.{nth}
use Rattle.crossing.specs.Lines.{value, ArePositive}
use Rattle.crossing.specs.Entries.{RisesAt, IsEntry}
use Rattle.crossing.specs.Exits.{FallsAt, IsExit}
use Rattle.crossing.specs.Places.{HasAt, origin}
use Rattle.cone_walls.proofs.Living.{AreFurther, alive_positive, positive_alive}
use Rattle.cone_walls.specs.Lives.{LivesBetween}
use Rattle.cone_walls.specs.Places.{AreOfFurtherPoints}
use Rattle.cone_walls.specs.Sides.{TellSides}
use Rattle.searcher.specs.CellWalls.{tie_between}
use Rattle.searcher.specs.Ends.{IsTiedAt, IsTiedAtBegin, IsTiedAtEnd, NamesLevel}
use Rattle.searcher.proofs.ZeroLines.{zero_moved, zero_rises, zero_falls}
use Rattle.searcher.proofs.LinePoints.{spot, further_of, only_not_two, only_level, two_level}
use Rattle.searcher.proofs.LaterLines.{fall_later, flat_never, positive_until}
use Rattle.searcher.proofs.TwoEnds.{Until, time_of, live_alive, begins_at_one, begins_at_tied, always_early}

-- two points that are level at a time are a tie then
two_tied : (p : Problem) (cell : Cell) → IsProblem p → IsOf p cell → IsIndependent p cell → (t : Time) (x y : Spot) → AreFirstTwo (IsLevelThen p cell t) x y → IsTiedAt p cell t
two_tied p cell well of ind t x y h =
    let v = a_normal p cell well of ind t in
    let a = h.0.0 in
    let b = h.1.0.0 in
    (v.0, v.1, (x.0 - 1, x.1, y.0 - 1, y.1, spots_apart x y a.0.0 b.0.0 h.1.0.1, (a.0.1, a.1 v.0 v.1), (b.0.1, b.1 v.0 v.1)))

module _ (p : Problem) (cell : Cell) (well : IsProblem p) (lines : List WallLine) (places : AreOfFurtherPoints p cell lines) (sides : TellSides p cell lines) where
  -- ---- at a time at which all lines are positive
  module _ (r : Time) (live : ArePositive lines r.entries r.over) (alive : IsAlive p cell r) where
    to_rise : (u : lex.Value) (h : pos 0 <ℤ u.den) (t : Time) → IsSameTime t (time_of u h) → IsBefore (time_of u h) r → (k : ℕ) → k < length lines → IsZero (value (nth lines k) t.entries t.over) → RisesAt u (nth lines k)
    to_rise u h t s b k l z =
        let g = zero_rises lines r live t k l z (same_before (time_of u h) t r (same_sym t (time_of u h) s) b) in
        (g, zero_moved Rising (nth lines k) t (time_of u h) g s z)

    to_fall : (u : lex.Value) (h : pos 0 <ℤ u.den) (t : Time) → IsSameTime t (time_of u h) → IsBefore r (time_of u h) → (k : ℕ) → k < length lines → IsZero (value (nth lines k) t.entries t.over) → FallsAt u (nth lines k)
    to_fall u h t s b k l z =
        let g = zero_falls lines r live t k l z (before_same r (time_of u h) t (same_sym t (time_of u h) s) b) in
        (g, zero_moved Falling (nth lines k) t (time_of u h) (omega (arith, ints, g)) s z)

  module _ (life : LivesBetween p cell lines) (x : Exit) (ix : IsExit lines x) where
    -- ---- where it begins
    pub begin_tied : (u : lex.Value) (first second : ℕ) → IsEntry lines (entry.Tied u first second)
        → IsTiedAtBegin p cell × ((t : Time) × BeginsAt p cell t × NamesLevel p cell t (tie_between cell lines u first second))
    begin_tied u first second ie =
        let a = live_alive p cell well lines life (entry.Tied u first second) x ie ix ie.0 in
        let t = time_of u ie.1.0.2 in
        let c = ((life (entry.Tied u first second) x ie ix a.0).0 a.2).0 in
        let d = begins_at_tied p cell well lines life x ix u first second ie in
        let two = two_level p cell well a.2.0 a.2.1 lines places sides t (RisesAt u) (to_rise a.0 a.1 a.2 u ie.1.0.2 t (same_self t) c) (λ k l h. h.1) first second ie.3 in
        ((t, d, two_tied p cell well a.2.0 a.2.1 t (spot lines (first - 1)) (spot lines (second - 1)) two), (t, d, (refl, (refl, refl), (spot lines (second - 1), refl, two))))

    pub begin_alone : (u : lex.Value) (which : ℕ) → IsEntry lines (entry.At u which) → ¬ (IsTiedAtBegin p cell)
    begin_alone u which ie h =
        let a = live_alive p cell well lines life (entry.At u which) x ie ix ie.0 in
        let v = time_of u ie.1.0.2 in
        let b = ((life (entry.At u which) x ie ix a.0).0 a.2).0 in
        let s = (once_law p cell well).0 h.0 v h.1 (begins_at_one p cell well lines life x ix u which ie) in
        only_not_two p cell well a.2.0 a.2.1 lines places sides h.0 (RisesAt u) (to_rise a.0 a.1 a.2 u ie.1.0.2 h.0 s b) which ie.3 h.2.0 h.2.1 h.2.2

    pub begin_never : IsEntry lines entry.Always → ¬ (IsTiedAtBegin p cell)
    begin_never ie h = (once_law p cell well).2 h.0 (always_early p cell well lines life x ix ie) h.1

  -- ---- where it ends, of a cell that is alive at r
  module _ (r : Time) (alive : IsAlive p cell r) where
    further : AreFurther p cell lines
    further =
        each_all (λ l. IsFurtherAt p cell (l.support - 1) l.position) lines
        (λ k d lt. subst (λ (l : WallLine). IsFurtherAt p cell (l.support - 1) l.position) (get_or_default lines k origin d lt) (further_of p cell well alive.0 alive.1 lines places sides k lt).1)

    live : ArePositive lines r.entries r.over
    live = alive_positive p cell well alive.0 alive.1 lines further places sides r alive

    alive_until : (x : Exit) → IsExit lines x → (t : Time) → IsBefore r t → Until x t → IsAlive p cell t
    alive_until x ix t b e = positive_alive p cell well alive.0 alive.1 lines further places sides t (positive_until lines r live t b x ix e)

    -- a falling line that is zero then
    ends_when : (u : lex.Value) (low : lex.IsLowest u) (x : Exit) → IsExit lines x → ((t : Time) → IsBefore t (time_of u low.0.2) → Until x t) → (place : ℕ) → HasAt (FallsAt u) lines place
        → EndsAt p cell (time_of u low.0.2)
    ends_when u low x ix until place h =
        let t = time_of u low.0.2 in
        let lt : place - 1 < length lines = (let a = h.0 in let b = h.1 in omega (arith, a, b)) in (
          (r, fall_later lines r live u low place h, λ z a b. alive_until x ix z a (until z b)),
          λ dead. not_zero (value (nth lines (place - 1)) t.entries t.over)
              (alive_positive p cell well alive.0 alive.1 lines further places sides t dead (place - 1) origin lt) h.2.1,
        )

    pub end_tied : (u : lex.Value) (first second : ℕ) → IsExit lines (exit.Tied u first second)
        → IsTiedAtEnd p cell × ((t : Time) × EndsAt p cell t × NamesLevel p cell t (tie_between cell lines u first second))
    end_tied u first second ix =
        let t = time_of u ix.1.0.2 in
        let c = fall_later lines r live u ix.1 first ix.3.0.0 in
        let d = ends_when u ix.1 (exit.Tied u first second) ix (λ t h. h) first ix.3.0.0 in
        let two = two_level p cell well alive.0 alive.1 lines places sides t (FallsAt u) (to_fall r live alive u ix.1.0.2 t (same_self t) c) (λ k l h. h.1) first second ix.3 in
        ((t, d, two_tied p cell well alive.0 alive.1 t (spot lines (first - 1)) (spot lines (second - 1)) two), (t, d, (refl, (refl, refl), (spot lines (second - 1), refl, two))))

    pub end_alone : (u : lex.Value) (which : ℕ) → IsExit lines (exit.At u which) → ¬ (IsTiedAtEnd p cell) × ¬ (AliveLate p cell)
    end_alone u which ix =
        let v = time_of u ix.1.0.2 in
        let c = fall_later lines r live u ix.1 which ix.3.0 in
        let d = ends_when u ix.1 (exit.At u which) ix (λ t h. h) which ix.3.0 in (
          (λ h.
              let s = (once_law p cell well).1 h.0 v h.1 d in
              only_not_two p cell well alive.0 alive.1 lines places sides h.0 (FallsAt u) (to_fall r live alive u ix.1.0.2 h.0 s c) which ix.3 h.2.0 h.2.1 h.2.2),
          (λ late. (once_law p cell well).3 v late d),
        )

    -- the wall at the end
    pub end_wall : (u : lex.Value) (which : ℕ) → IsExit lines (exit.At u which)
        → (t : Time) × (t.entries ≡ entries u.parts) × (t.over ≡ u.den) × EndsAt p cell t
        × ((v : Normal) × IsNormal p cell t v × IsOnlyLevel p cell t v ((nth lines (which - 1)).support - 1) (nth lines (which - 1)).position)
    end_wall u which ix =
        let t = time_of u ix.1.0.2 in
        let c = fall_later lines r live u ix.1 which ix.3.0 in
        let v = a_normal p cell well alive.0 alive.1 t in (
          t,
          refl,
          refl,
          ends_when u ix.1 (exit.At u which) ix (λ t h. h) which ix.3.0,
          (v.0, v.1, only_level p cell well alive.0 alive.1 lines places sides t (FallsAt u) (to_fall r live alive u ix.1.0.2 t (same_self t) c) (λ k l h. h.1) which ix.3 v.0 v.1),
        )

    pub end_never : IsExit lines exit.Never → ¬ (IsTiedAtEnd p cell) × AliveLate p cell
    end_never ix =
        let late : AliveLate p cell = (r, λ t b. alive_until exit.Never ix t b tt) in
        ((λ h. (once_law p cell well).3 h.0 late h.1), late)

    pub end_flat : (which : ℕ) → IsExit lines (exit.Flat which) → ⊥
    end_flat which ix = flat_never lines r live which ix
