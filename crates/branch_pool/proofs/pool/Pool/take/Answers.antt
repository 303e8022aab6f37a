use Rattle.std.proofs.Common.{◌≡◌, ◌<◌, ◌-◌, ◌++◌, ◌∷◌, length, arith, ap, map, sym, ◌∙◌, subst, refl, Global, List, IsPermutation, rules}
use Rattle.std.proofs.lemmas.List.{length-map, length-set}
use Rattle.crossbeam_deque.specs.Handles.{Pass, worker_port, worker_view}
use Rattle.branch_pool.specs.declared.rule.SeatView.{SeatView}
use Rattle.branch_pool.specs.Rule.{HoldsAtMost}
use Rattle.branch_pool.specs.Seats.{DequeId, SeatData, all_taken, taken_from, own_view, with_taken}
use Rattle.branch_pool.proofs.Balance.{takes, finds, part_of}
use Rattle.branch_pool.proofs.Stolen.{told, took_view, own_seen, more_taken, count_taken, taken_length, all_taken_alone, some_left_alone}
use Rattle.branch_pool.proofs.pool.Pool.take.Goals as goal

pub pop_as-requires-clause-lifo : goal.pop_as-requires-clause-lifo
pop_as-requires-clause-lifo g c = λ lifo. takes (worker_port c.seat.inside.own) (worker_view c.seat.inside.own) c.seat.invariant.3.1 (omega (arith, c.seat.invariant.4, c.seat.invariant.2))

pub pop_as-requires-clause-empty : goal.pop_as-requires-clause-empty
pop_as-requires-clause-empty g c = finds (worker_port c.seat.inside.own) (worker_view c.seat.inside.own) c.seat.invariant.3.1

pub returns-in_err-newest-clause-empty : goal.returns-in_err-newest-clause-empty
returns-in_err-newest-clause-empty g c =
    let w = worker_view c.seat.inside.own in
    let i = c.seat.invariant in
    let own : w ≡ own_view c.args.seat.now = own_seen c.seat.inside.number w c.seat.inside.passes.items i.0 i.1 i.4 i.11 ∙ ap (λ (s : SeatData g.row.B.Denot). own_view s) c.seat.view_is in
    λ none. subst (λ (v : SeatView g.row.B.Denot). HoldsAtMost 0 0 v) own c.in_err-newest.ensures.rule.1

pub returns-in_err-newest-clause-part : goal.returns-in_err-newest-clause-part
returns-in_err-newest-clause-part g c =
    let w = worker_view c.seat.inside.own in
    let i = c.seat.invariant in
    let own : w ≡ own_view c.args.seat.now = own_seen c.seat.inside.number w c.seat.inside.passes.items i.0 i.1 i.4 i.11 ∙ ap (λ (s : SeatData g.row.B.Denot). own_view s) c.seat.view_is in
    let p = part_of (own_view c.args.seat.now) (subst (λ (v : SeatView g.row.B.Denot). HoldsAtMost 0 0 v) own c.in_err-newest.ensures.rule.1) in
    λ none. (p.0, p.1)

pub returns-in_err-newest-clause-alone : goal.returns-in_err-newest-clause-alone
returns-in_err-newest-clause-alone g c =
    let w = worker_view c.seat.inside.own in
    let ps = c.seat.inside.passes.items in
    let i = c.seat.invariant in
    let s = told c.seat.inside.number w.offered w.taken ps in
    let own : w ≡ own_view s = own_seen c.seat.inside.number w ps i.0 i.1 i.4 i.11 in
    let empty : HoldsAtMost 0 0 (own_view s) = subst (λ (v : SeatView g.row.B.Denot). HoldsAtMost 0 0 v) own c.in_err-newest.ensures.rule.1 in
    rw (← c.seat.view_is) (λ one.
    let n = length-map {B = DequeId} ps (λ (p : Pass g.row.B.Denot (SeatView g.row.B.Denot) Global). (p.rows, p.heap)) in
    ((λ none. all_taken_alone s one (omega (arith, n, one, taken_length c.seat.inside.number w.taken ps)) (omega (arith, n, one, i.0, i.1)) empty), λ all. search rules))

pub invariant_of-seat-2 : goal.invariant_of-seat-2
invariant_of-seat-2 g c =
    let w = worker_view c.seat.inside.own in
    let w' = worker_view c.pop_as.new.self in
    let ps = c.seat.inside.passes.items in
    let i = c.seat.invariant in
    let n = c.seat.inside.number in
    let rule = c.in_ok-newest.ensures.rule.0 in
    let same = c.in_ok-newest.ensures.same in
    let lt : n - 1 < length ps = omega (arith, i.0, i.1) in
    let tl : length (map (λ (p : Pass g.row.B.Denot (SeatView g.row.B.Denot) Global). p.me.view.client.taken) ps) ≡ length ps = length-map ps (λ (p : Pass g.row.B.Denot (SeatView g.row.B.Denot) Global). p.me.view.client.taken) in
    let offered = ap (λ (v : SeatView g.row.B.Denot). v.offered) rule in
    let after = took_view n (map (λ (p : Pass g.row.B.Denot (SeatView g.row.B.Denot) Global). (p.rows, p.heap)) ps) w.offered w'.offered w.taken w'.taken (map (λ (p : Pass g.row.B.Denot (SeatView g.row.B.Denot) Global). p.me.view.client.taken) ps) c.in_ok-newest.newest
    (omega (arith, tl, lt)) offered (ap (λ (v : SeatView g.row.B.Denot). v.taken) rule) in (
      i.0,
      i.1,
      i.2,
      (same.0.1 ∙ i.3.0, same.0.2 ∙ i.3.1),
      ap (λ (v : SeatView g.row.B.Denot). v.parts) rule ∙ i.4,
      i.5 ∙ sym (ap (λ (l : List g.row.B.Denot). length l) offered),
      i.6,
      i.7,
      count_taken (told n w.offered w.taken ps) (told n w'.offered w'.taken ps) n c.in_ok-newest.newest c.seat.inside.taken c.saturating_add-seat-inside.result (omega (arith, lt, taken_length n w.taken ps)) after i.8 c.saturating_add-seat-inside.ensures,
      rw same.0.0 i.9,
      i.10,
      ap (λ (v : SeatView g.row.B.Denot). v.seats) rule ∙ i.11,
      i.12,
    )

pub returns-clause-some : goal.returns-clause-some
returns-clause-some g c =
    let w = worker_view c.seat.inside.own in
    let w' = worker_view c.pop_as.new.self in
    let ps = c.seat.inside.passes.items in
    let i = c.seat.invariant in
    let n = c.seat.inside.number in
    let rule = c.in_ok-newest.ensures.rule.0 in
    let tl : length (map (λ (p : Pass g.row.B.Denot (SeatView g.row.B.Denot) Global). p.me.view.client.taken) ps) ≡ length ps = length-map ps (λ (p : Pass g.row.B.Denot (SeatView g.row.B.Denot) Global). p.me.view.client.taken) in
    rw (← c.seat.view_is)
    (took_view n (map (λ (p : Pass g.row.B.Denot (SeatView g.row.B.Denot) Global). (p.rows, p.heap)) ps) w.offered w'.offered w.taken w'.taken (map (λ (p : Pass g.row.B.Denot (SeatView g.row.B.Denot) Global). p.me.view.client.taken) ps) c.in_ok-newest.newest
    (omega (arith, tl, i.0, i.1)) (ap (λ (v : SeatView g.row.B.Denot). v.offered) rule) (ap (λ (v : SeatView g.row.B.Denot). v.taken) rule))

pub returns-clause-taken : goal.returns-clause-taken
returns-clause-taken g c =
    let w = worker_view c.seat.inside.own in
    let w' = worker_view c.pop_as.new.self in
    let ps = c.seat.inside.passes.items in
    let i = c.seat.invariant in
    let n = c.seat.inside.number in
    let rule = c.in_ok-newest.ensures.rule.0 in
    let tl : length (map (λ (p : Pass g.row.B.Denot (SeatView g.row.B.Denot) Global). p.me.view.client.taken) ps) ≡ length ps = length-map ps (λ (p : Pass g.row.B.Denot (SeatView g.row.B.Denot) Global). p.me.view.client.taken) in
    let after = took_view n (map (λ (p : Pass g.row.B.Denot (SeatView g.row.B.Denot) Global). (p.rows, p.heap)) ps) w.offered w'.offered w.taken w'.taken (map (λ (p : Pass g.row.B.Denot (SeatView g.row.B.Denot) Global). p.me.view.client.taken) ps) c.in_ok-newest.newest
    (omega (arith, tl, i.0, i.1)) (ap (λ (v : SeatView g.row.B.Denot). v.offered) rule) (ap (λ (v : SeatView g.row.B.Denot). v.taken) rule) in
    rw (← c.seat.view_is) (more_taken (told n w.offered w.taken ps) (told n w'.offered w'.taken ps) n c.in_ok-newest.newest (omega (arith, i.0, i.1, taken_length n w.taken ps)) after)

pub returns-clause-held : goal.returns-clause-held
returns-clause-held g c =
    let w = worker_view c.seat.inside.own in
    let i = c.seat.invariant in
    let own : w ≡ own_view c.args.seat.now = own_seen c.seat.inside.number w c.seat.inside.passes.items i.0 i.1 i.4 i.11 ∙ ap (λ (s : SeatData g.row.B.Denot). own_view s) c.seat.view_is in
    let r = c.in_ok-newest.ensures.rule.1 in
    (r.0, subst (λ (v : SeatView g.row.B.Denot). IsPermutation v.offered (v.taken ++ c.in_ok-newest.newest ∷ r.0)) own r.1)

pub returns-clause-alone : goal.returns-clause-alone
returns-clause-alone g c =
    let w = worker_view c.seat.inside.own in
    let ps = c.seat.inside.passes.items in
    let i = c.seat.invariant in
    let s = told c.seat.inside.number w.offered w.taken ps in
    let own : w ≡ own_view s = own_seen c.seat.inside.number w ps i.0 i.1 i.4 i.11 in
    let r = c.in_ok-newest.ensures.rule.1 in
    let held = subst (λ (v : SeatView g.row.B.Denot). IsPermutation v.offered (v.taken ++ c.in_ok-newest.newest ∷ r.0)) own r.1 in
    rw (← c.seat.view_is) (λ one.
    let n = length-map {B = DequeId} ps (λ (p : Pass g.row.B.Denot (SeatView g.row.B.Denot) Global). (p.rows, p.heap)) in
    ((λ e. absurd (search (rules, e))), λ all. absurd (some_left_alone s c.in_ok-newest.newest r.0 (omega (arith, n, one, taken_length c.seat.inside.number w.taken ps)) (omega (arith, n, one, i.0, i.1)) held all)))
