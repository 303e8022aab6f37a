-- along a generic segment every cell that is alive at time 1 comes of one that is alive at time 0
use Rattle.std.proofs.Common.{inl, inr, List, [], ◌∷◌}
use Rattle.cayley.specs.Times.{Time, IsBefore, time_zero}
use Rattle.cayley.specs.Problems.{Problem, IsProblem}
use Rattle.cayley.specs.Cells.{Cell}
use Rattle.cayley.specs.Mixed.{IsAlive}
use Rattle.cayley.specs.Lives.{BeginsAt}
use Rattle.cayley.specs.Parents.{IsParent, IsChain, InChain}
use Rattle.cayley.specs.Parents.InChain.{here, up}
use Rattle.cayley.proofs.Order.Lines.{before_trans, earlier, middle}
use Rattle.cayley.proofs.Order.Times.{time_cases, never_before, before_same, same_sym, sooner, less}
use Rattle.cayley.proofs.Life.Decisions.{dec_alive}
use Rattle.cayley.proofs.Life.LifeLaws.{life_law, parent_law, same_times_law, tie_free_law}
use Rattle.cayley.proofs.Searching.ComputedLaw.{a_chain}
use Rattle.searcher.specs.Passes.{time_one, IsReached}
use Rattle.lift_move.specs.Segments.{IsGeneric}
use Rattle.lift_move.specs.Moves.{AreAll}

zero_before_one : IsBefore time_zero time_one
zero_before_one = inl (record { lt = tt })

-- a time of an interval that isn't before 0
pub record Later (w u : Time) : Type 0 where
  pub s : Time
  pub after : IsBefore w s
  pub before : IsBefore s u
  pub from : ¬ (IsBefore s time_zero)

later_than : (w u : Time) → IsBefore w u → IsBefore time_zero u → Later w u
later_than w u b z =
    time_cases w time_zero
    (λ l.
    let m = middle time_zero u z in
    record { s = m.m; after = before_trans w time_zero m.m l (inl m.after); before = m.before; from = λ k. never_before m.m (before_trans m.m time_zero m.m k (inl m.after)) })
    (λ q.
    let m = middle w u b in
    record { s = m.m; after = m.after; before = m.before; from = λ k. never_before m.m (before_trans m.m w m.m (before_same m.m time_zero w (same_sym w time_zero q) k) (inl m.after)) })
    (λ l.
    let m = middle w u b in
    record { s = m.m; after = m.after; before = m.before; from = λ k. never_before m.m (before_trans m.m time_zero m.m k (inl (before_trans time_zero w m.m l (inl m.after)))) })

module _ (p : Problem) (well : IsProblem p) (generic : IsGeneric p) where
  module _ (tau : Cell) (t : Time) (from : ¬ (IsBefore t time_zero)) (a : IsAlive p tau t) (not : ¬ (IsAlive p tau time_zero)) where
    -- it isn't alive before 0
    not_before : (s : Time) → IsAlive p tau s → ¬ (IsBefore s time_zero)
    not_before s h b =
        not (time_cases time_zero t
        (λ l. (life_law p tau s well h).between time_zero t b l a)
        (λ q. (same_times_law p t time_zero well (same_sym time_zero t q)).alive tau a)
        (λ l. absurd (from l)))

    -- so it begins, at a time from 0 on
    begun : (u : Time) × BeginsAt p tau u × IsBefore u t × ¬ (IsBefore u time_zero)
    begun = elim (life_law p tau t well a).early [
      | inl e ↦
          let w = less e.0 time_zero in
          let s = sooner w.w in
          absurd (not_before s.u (e.1 s.u (w.first s.u s.before)) (w.second s.u s.before))
      | inr r ↦ (
        r.0,
        r.2,
        r.1,
        λ l.
            let w = earlier r.0 r.2.0.0 time_zero r.2.0.1 l in
            let m = middle r.0 w.w w.after in
            not_before m.m (r.2.0.2 m.m m.after (w.first m.m m.before)) (w.second m.m m.before),
      )
    ]

  -- a cell that is alive at a time from 0 to 1 has one that is alive at 0 in its chain
  led : (cells : List Cell) (tau : Cell) → IsChain p tau cells → (t : Time) → ¬ (IsBefore t time_zero) → ¬ (IsBefore time_one t) → IsAlive p tau t
      → (a : Cell) × IsAlive p a time_zero × InChain p a tau
  led [] tau c t from until a = absurd c
  led (x ∷ cells) tau c t from until a = elim (dec_alive p tau well time_zero) [
    | yes z ↦ (tau, z, here)
    | no n ↦
        let b = begun tau t from a n in
        let u = b.0 in
        let soon : ¬ (IsBefore time_one u) = (λ l. until (before_trans time_one u t l (inl b.2))) in
        let one = (tie_free_law p tau u well (generic.0 tau u b.3 soon)).0 b.1 in
        time_cases time_zero u
        (λ l. upward cells c (λ y k s f m h. led cells y k s f m h) u b.1 l soon one.1)
        (λ q.
        let begins = (same_times_law p u time_zero well (same_sym time_zero u q)).begins tau b.1 in
        let o = (tie_free_law p tau time_zero well (generic.0 tau time_zero (never_before time_zero) (λ k. never_before time_zero (before_trans time_zero time_one time_zero zero_before_one (inl k))))).0 begins in
        absurd (generic.1 tau o.0.v o.0.j o.0.c a.0 a.1 o.0.normal o.0.none_below o.0.only.0))
        (λ l. absurd (b.3 l))
  ]
    where
      upward : (rest : List Cell) → IsChain p tau (x ∷ rest)
          → ((y : Cell) → IsChain p y rest → (s : Time) → ¬ (IsBefore s time_zero) → ¬ (IsBefore time_one s) → IsAlive p y s → (a : Cell) × IsAlive p a time_zero × InChain p a y)
          → (u : Time) → BeginsAt p tau u → IsBefore time_zero u → ¬ (IsBefore time_one u) → ((rho : Cell) × IsParent p rho tau)
          → (a : Cell) × IsAlive p a time_zero × InChain p a tau
      upward [] c again u begins later soon parent = absurd (c.1 parent.0 parent.1)
      upward (y ∷ rest) c again u begins later soon parent =
          let ends = (parent_law p y tau u well begins c.1).0 in
          let s = later_than ends.0.0 u ends.0.1 later in
          let r = again y c.2 s.s s.from (λ k. soon (before_trans time_one s.s u k (inl s.before))) (ends.0.2 s.s s.after s.before) in
          (r.0, r.1, up c.1 r.2)

  pub all_reached : (given : List Cell) → AreAll p given → (tau : Cell) → IsAlive p tau time_one → IsReached p given tau
  all_reached given all tau a =
      let c = a_chain p well tau in
      let r = led c.0 tau c.1 time_one (λ k. never_before time_zero (before_trans time_zero time_one time_zero zero_before_one (inl k))) (never_before time_one) a in
      (a, (r.0, (all.1 r.0).1 r.1, r.2))
