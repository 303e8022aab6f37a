-- where a cell begins and ends, by the entry and the exit of its lines
use Rattle.std.proofs.Common.{◌≡◌, ◌↔◌, inl, ℕ, List, refl, sym, subst, pos, neg_ℤ, ◌<ℤ◌}
use Rattle.int_vectors.specs.Vectors.{IsZero, add, scale}
use Rattle.lex_height.specs.Entries.{entries}
use Rattle.lex_height.specs.Values as lex
use Rattle.cayley.specs.declared.found.Begin.{Begin}
use Rattle.cayley.specs.declared.found.Begin.TheVariants as begin
use Rattle.cayley.specs.Begins.{begin_of}
use Rattle.cayley.specs.Times.{Time, IsBefore, IsSameTime}
use Rattle.cayley.specs.Problems.{Problem, IsProblem}
use Rattle.cayley.specs.Cells.{Cell}
use Rattle.cayley.specs.Mixed.{IsAlive}
use Rattle.cayley.specs.Lives.{AliveEarly, AliveLate, BeginsAt, EndsAt, BeginsAs}
use Rattle.cayley.proofs.Order.Lines.{before_trans}
use Rattle.cayley.proofs.Order.Times.{sooner, never_before, same_before, before_same}
use Rattle.cayley.proofs.Life.Decisions.{alive_after}
use Rattle.cayley.proofs.Life.LifeLaws.{once_law}
use Rattle.crossing.specs.declared.line.WallLine.{WallLine}
use Rattle.crossing.specs.declared.entry.Entry.{Entry}
use Rattle.crossing.specs.declared.entry.Entry.TheVariants as entry
use Rattle.crossing.specs.declared.exit.Exit.{Exit}
use Rattle.crossing.specs.declared.exit.Exit.TheVariants as exit
use Rattle.crossing.specs.Lines.{ArePositive}
use Rattle.crossing.specs.Entries.{LiveSometime, IsEntry}
use Rattle.crossing.specs.Exits.{IsExit}
use Rattle.crossing.specs.Between.{IsAfterEntry, IsBeforeExit}
use Rattle.crossing.proofs.Between.{positive_between_is}
use Rattle.crossing.proofs.Once.{time_once}
use Rattle.cone_walls.specs.Lives.{LivesBetween}
use Rattle.searcher.specs.CellWalls.{IsLowestBegin, IsSaid}

-- the time of a value
abbrev pub time_of : (u : lex.Value) → pos 0 <ℤ u.den → Time
time_of u h = record { entries = entries u.parts; over = u.den; positive = h }

-- a branch of a cell that begins at a time, or early, is alive at some time
pub some_alive : (p : Problem) (cell : Cell) (b : Begin) → BeginsAs p cell (begin_of b) → (t : Time) × IsAlive p cell t
some_alive p cell begin.Start h = let s = sooner h.0 in (s.u, h.1 s.u s.before)
some_alive p cell (begin.At w) h = alive_after p cell h.0 h.3.0

module _ (p : Problem) (cell : Cell) (After Until : Time → Type 0) (life : (t : Time) → IsAlive p cell t ↔ (After t × Until t))
    (later : (t u : Time) → After t → IsBefore t u → After u) (sooner_too : (t u : Time) → Until u → IsBefore t u → Until t) (r : Time) (alive : IsAlive p cell r) where
  begins_from : (u : Time) → ((t : Time) → IsBefore u t → After t) → ((t : Time) → After t → IsBefore u t) → BeginsAt p cell u
  begins_from u to from = (
    (r, from r ((life r).0 alive).0, λ x a b. (life x).1 (to x a, sooner_too x r ((life r).0 alive).1 b)),
    λ h. never_before u (from u ((life u).0 h).0),
  )

  early_from : ((t : Time) → After t) → AliveEarly p cell
  early_from all = (r, λ x b. (life x).1 (all x, sooner_too x r ((life r).0 alive).1 b))

  ends_from : (u : Time) → ((t : Time) → IsBefore t u → Until t) → ((t : Time) → Until t → IsBefore t u) → EndsAt p cell u
  ends_from u to from = (
    (r, from r ((life r).0 alive).1, λ x a b. (life x).1 (later r x ((life r).0 alive).0 a, to x b)),
    λ h. never_before u (from u ((life u).0 h).1),
  )

  late_from : ((t : Time) → Until t) → AliveLate p cell
  late_from all = (r, λ x b. (life x).1 (later r x ((life r).0 alive).0 b, all x))

-- ---- the two ends of the lines
abbrev pub After : Entry → Time → Type 0
After e t = IsAfterEntry e t.entries t.over

abbrev pub Until : Exit → Time → Type 0
Until x t = IsBeforeExit x t.entries t.over

module _ (lines : List WallLine) where
  pub after_later : (e : Entry) → IsEntry lines e → (t u : Time) → After e t → IsBefore t u → After e u
  after_later entry.Always i t u a b = tt
  after_later entry.Dead i t u a b = a
  after_later (entry.At w which) i t u a b = before_trans (time_of w i.1.0.2) t u a (inl b)
  after_later (entry.Tied w first second) i t u a b = before_trans (time_of w i.1.0.2) t u a (inl b)

  until_sooner : (x : Exit) → IsExit lines x → (t u : Time) → Until x u → IsBefore t u → Until x t
  until_sooner exit.Never i t u a b = tt
  until_sooner (exit.Flat which) i t u a b = a
  until_sooner (exit.At w which) i t u a b = before_trans t u (time_of w i.1.0.2) b (inl a)
  until_sooner (exit.Tied w first second) i t u a b = before_trans t u (time_of w i.1.0.2) b (inl a)

module _ (p : Problem) (cell : Cell) (well : IsProblem p) (lines : List WallLine) (life : LivesBetween p cell lines) (e : Entry) (x : Exit) (ie : IsEntry lines e) (ix : IsExit lines x) where
  lives : (t : Time) → IsAlive p cell t ↔ (After e t × Until x t)
  lives t = life e x ie ix t

  -- some time makes all lines positive, and the cell is alive then
  pub live_alive : LiveSometime lines → (r : Time) × ArePositive lines r.entries r.over × IsAlive p cell r
  live_alive h =
      let r : Time = record { entries = h.0; over = h.1; positive = h.2 } in
      (r, h.3, (lives r).1 ((positive_between_is lines e x ie ix h.0 h.1 h.2).0 h.3))

  module _ (r : Time) (alive : IsAlive p cell r) where
    pub begins_at : (u : Time) → ((t : Time) → IsBefore u t → After e t) → ((t : Time) → After e t → IsBefore u t) → BeginsAt p cell u
    begins_at u to from = begins_from p cell (After e) (Until x) lives (after_later lines e ie) (until_sooner lines x ix) r alive u to from

    pub alive_early : ((t : Time) → After e t) → AliveEarly p cell
    alive_early all = early_from p cell (After e) (Until x) lives (after_later lines e ie) (until_sooner lines x ix) r alive all

    pub ends_at : (u : Time) → ((t : Time) → IsBefore t u → Until x t) → ((t : Time) → Until x t → IsBefore t u) → EndsAt p cell u
    ends_at u to from = ends_from p cell (After e) (Until x) lives (after_later lines e ie) (until_sooner lines x ix) r alive u to from

    pub alive_late : ((t : Time) → Until x t) → AliveLate p cell
    alive_late all = late_from p cell (After e) (Until x) lives (after_later lines e ie) (until_sooner lines x ix) r alive all

-- two values in lowest terms at which the cell begins are one
one_time : (p : Problem) (cell : Cell) → IsProblem p → (w u : lex.Value) → lex.IsLowest w → (low : lex.IsLowest u) → BeginsAs p cell (begin_of (begin.At w)) → BeginsAt p cell (time_of u low.0.2) → w ≡ u
one_time p cell well w u lw lu h b =
    let t = time_of w lw.0.2 in
    let v = time_of u lu.0.2 in
    let s : IsSameTime t v =
    subst (λ q. IsZero (add (scale q (entries u.parts)) (scale (neg_ℤ u.den) (entries w.parts)))) h.2
    (subst (λ z. IsZero (add (scale h.0.over (entries u.parts)) (scale (neg_ℤ u.den) z))) h.1 ((once_law p cell well).0 h.0 v h.3 b)) in
    time_once w u lw lu (λ l. never_before v (same_before t v v s l)) (λ l. never_before v (before_same v t v s l))

-- ---- what the branch says
module _ (p : Problem) (cell : Cell) (well : IsProblem p) (lines : List WallLine) (life : LivesBetween p cell lines) (x : Exit) (ix : IsExit lines x) where
  pub entry_begins : (u : lex.Value) (low : lex.IsLowest u) (e : Entry) → IsEntry lines e → LiveSometime lines → ((t : Time) → IsBefore (time_of u low.0.2) t ↔ After e t) → BeginsAt p cell (time_of u low.0.2)
  entry_begins u low e ie live same =
      let a = live_alive p cell well lines life e x ie ix live in
      begins_at p cell well lines life e x ie ix a.0 a.2 (time_of u low.0.2) (λ t. (same t).0) (λ t. (same t).1)

  pub always_early : IsEntry lines entry.Always → AliveEarly p cell
  always_early ie =
      let a = live_alive p cell well lines life entry.Always x ie ix ie.0 in
      alive_early p cell well lines life entry.Always x ie ix a.0 a.2 (λ t. tt)

  pub begins_at_one : (u : lex.Value) (which : ℕ) (ie : IsEntry lines (entry.At u which)) → BeginsAt p cell (time_of u ie.1.0.2)
  begins_at_one u which ie = entry_begins u ie.1 (entry.At u which) ie ie.0 (λ t. ((λ h. h), (λ h. h)))

  pub begins_at_tied : (u : lex.Value) (first second : ℕ) (ie : IsEntry lines (entry.Tied u first second)) → BeginsAt p cell (time_of u ie.1.0.2)
  begins_at_tied u first second ie = entry_begins u ie.1 (entry.Tied u first second) ie ie.0 (λ t. ((λ h. h), (λ h. h)))

  pub said_true : (b : Begin) (e : Entry) → IsEntry lines e → IsSaid b e → BeginsAs p cell (begin_of b)
  said_true begin.Start entry.Always ie s = always_early ie
  said_true begin.Start (entry.At u which) ie s = absurd s
  said_true begin.Start (entry.Tied u first second) ie s = absurd s
  said_true begin.Start entry.Dead ie s = absurd s
  said_true (begin.At w) entry.Always ie s = absurd s
  said_true (begin.At w) entry.Dead ie s = absurd s
  said_true (begin.At w) (entry.At u which) ie s = subst (λ z. BeginsAs p cell (begin_of (begin.At z))) (sym s) (time_of u ie.1.0.2, refl, refl, begins_at_one u which ie)
  said_true (begin.At w) (entry.Tied u first second) ie s = subst (λ z. BeginsAs p cell (begin_of (begin.At z))) (sym s) (time_of u ie.1.0.2, refl, refl, begins_at_tied u first second ie)

  pub true_said : (b : Begin) (e : Entry) → IsLowestBegin b → IsEntry lines e → BeginsAs p cell (begin_of b) → IsSaid b e
  true_said b entry.Dead low ie h = let a = some_alive p cell b h in absurd ((life entry.Dead x ie ix a.0).0 a.1).0
  true_said begin.Start entry.Always low ie h = tt
  true_said begin.Start (entry.At u which) low ie h = absurd ((once_law p cell well).2 (time_of u ie.1.0.2) h (begins_at_one u which ie))
  true_said begin.Start (entry.Tied u first second) low ie h = absurd ((once_law p cell well).2 (time_of u ie.1.0.2) h (begins_at_tied u first second ie))
  true_said (begin.At w) entry.Always low ie h = absurd ((once_law p cell well).2 h.0 (always_early ie) h.3)
  true_said (begin.At w) (entry.At u which) low ie h = one_time p cell well w u low ie.1 h (begins_at_one u which ie)
  true_said (begin.At w) (entry.Tied u first second) low ie h = one_time p cell well w u low ie.1 h (begins_at_tied u first second ie)
