use Rattle.std.proofs.Common.{◌≡◌, ◌<◌, ◌-◌, length, min, ◌^◌, sym, ap, ◌∙◌, subst, arith, None, Global, refl, ℕ, []}
use Rattle.std.proofs.lemmas.List.{length-map}
use Rattle.std.proofs.lemmas.List.Elements.{All-get_or}
use Rattle.crossbeam_deque.specs.Handles.{Pass, stealer_deque, stealer_flavor, view, worker_view, worker_deque}
use Rattle.branch_pool.specs.declared.rule.SeatView.{SeatView}
use Rattle.branch_pool.specs.Rule.{HoldsAtMost}
use Rattle.branch_pool.specs.Seats.{SeatData, PoolData, all_taken, other_view}
use Rattle.branch_pool.proofs.Stolen.{told, same_place, has_part, its_seats, its_place, stolen_view, same_view, seat_kept, count_taken, more_taken, other_seen, same_deques}
use Rattle.branch_pool.proofs.pool.Pool.steal.Goals as goal

pub stolen-requires : goal.stolen-requires
stolen-requires g c =
    let ps = c.seat.inside.passes.items in
    let ss = c.self.inside.stealers.items in
    let w = worker_view c.seat.inside.own in
    let i = c.seat.invariant in
    let p = c.requires.place in
    let at = its_place c.args.self.now c.args.seat.now c.seat.inside.number c.args.from w.offered w.taken ps c.seat.view_is c.requires.own p.0 p.1 p.2 i.0 in
    let eq = ap (λ (s : SeatData g.row.B.Denot). s.deques) c.seat.view_is ∙ c.requires.own ∙ sym (ap (λ (p : PoolData). p.deques) c.self.view_is) in
    let sl : length ss ≡ length ps = sym (length-map ss (λ s. stealer_deque s)) ∙ ap length (sym eq) ∙ length-map ps (λ (p : Pass g.row.B.Denot (SeatView g.row.B.Denot) Global). (p.rows, p.heap)) in
    let same = same_place (λ (p : Pass g.row.B.Denot (SeatView g.row.B.Denot) Global). (p.rows, p.heap)) (λ s. stealer_deque s) ps ss (c.args.from - 1) _ _ eq at.0 in
    let rest = All-get_or (λ (p : Pass g.row.B.Denot (SeatView g.row.B.Denot) Global). (p.me.hand ≡ None) × (p.me.spare ≡ None) × (p.me.view.client.offered ≡ [])) ps (c.args.from - 1) _ at.0 i.6 in
    rw (c.index_mut.ensures.value, c.index-stealer.ensures) (
      (ap (λ x. x.0) same, ap (λ x. x.1) same, rest.0, rest.1),
      has_part ps c.seat.inside.number (c.args.from - 1) _ i.7 at.0 at.1,
      (λ e. at.2 (omega (arith, e, its_seats ps c.seat.inside.number (c.args.from - 1) c.index_mut.result.now i.7 at.0 at.1 i.12, at.0, i.0, i.1))),
      All-get_or (λ s. stealer_flavor s ≡ 1) ss (c.args.from - 1) _ (omega (arith, sl, at.0)) c.self.invariant.0,
    )

pub invariant_of-seat : goal.invariant_of-seat
invariant_of-seat g c =
    let ps = c.seat.inside.passes.items in
    let q = c.stolen.new.pass in
    let d = c.index_mut.result.now in
    let v = c.index_mut.ensures.value in
    let w = worker_view c.seat.inside.own in
    let n = c.seat.inside.number in
    let i = c.seat.invariant in
    let p = c.requires.place in
    let same = c.stolen.ensures.same in
    let at = its_place c.args.self.now c.args.seat.now n c.args.from w.offered w.taken ps c.seat.view_is c.requires.own p.0 p.1 p.2 i.0 in
    let kept = seat_kept n w.parts w.seats (worker_deque c.seat.inside.own) ps (c.args.from - 1) q d at.0 at.2 v i.1 i.2 i.4 i.6 i.7 i.9 i.10 i.11 i.12 same.0 same.1 same.3 same.4 c.stolen.ensures.rest.1 c.stolen.ensures.rest.2 c.stolen.ensures.rest.0 in
    let stays = same_view n w.offered w.taken ps (c.args.from - 1) q d v same.0 same.1 (ap (λ (h : SeatView g.row.B.Denot). h.taken) (c.in_err-oldest.ensures.none refl)) in (
      i.0,
      kept.0,
      kept.1,
      i.3,
      kept.2,
      i.5,
      kept.3,
      kept.4,
      i.8 ∙ ap (λ (s : SeatData g.row.B.Denot). min (length (all_taken s)) (2 ^ 64 - 1)) (sym stays),
      kept.5,
      kept.6,
      kept.7,
      kept.8,
    )

pub invariant_of-seat-2 : goal.invariant_of-seat-2
invariant_of-seat-2 g c =
    let ps = c.seat.inside.passes.items in
    let q = c.stolen.new.pass in
    let d = c.index_mut.result.now in
    let v = c.index_mut.ensures.value in
    let w = worker_view c.seat.inside.own in
    let n = c.seat.inside.number in
    let i = c.seat.invariant in
    let p = c.requires.place in
    let same = c.stolen.ensures.same in
    let at = its_place c.args.self.now c.args.seat.now n c.args.from w.offered w.taken ps c.seat.view_is c.requires.own p.0 p.1 p.2 i.0 in
    let kept = seat_kept n w.parts w.seats (worker_deque c.seat.inside.own) ps (c.args.from - 1) q d at.0 at.2 v i.1 i.2 i.4 i.6 i.7 i.9 i.10 i.11 i.12 same.0 same.1 same.3 same.4 c.stolen.ensures.rest.1 c.stolen.ensures.rest.2 c.stolen.ensures.rest.0 in
    let after = stolen_view n c.args.from w.offered w.taken ps q d c.in_ok-oldest.oldest at.0 at.2 v same.0 same.1 (ap (λ (h : SeatView g.row.B.Denot). h.taken) c.in_ok-oldest.ensures.some) in (
      i.0,
      kept.0,
      kept.1,
      i.3,
      kept.2,
      i.5,
      kept.3,
      kept.4,
      count_taken (told n w.offered w.taken ps) _ c.args.from c.in_ok-oldest.oldest c.seat.inside.taken c.saturating_add-seat-inside.result at.3 after i.8 c.saturating_add-seat-inside.ensures,
      kept.5,
      kept.6,
      kept.7,
      kept.8,
    )

pub returns-in_err-oldest-clause-none : goal.returns-in_err-oldest-clause-none
returns-in_err-oldest-clause-none g c =
    let w = worker_view c.seat.inside.own in
    let same = c.stolen.ensures.same in
    λ none. rw (← c.seat.view_is)
    (same_view c.seat.inside.number w.offered w.taken c.seat.inside.passes.items (c.args.from - 1) c.stolen.new.pass c.index_mut.result.now c.index_mut.ensures.value same.0 same.1 (ap (λ (h : SeatView g.row.B.Denot). h.taken) (c.in_err-oldest.ensures.none refl)))

pub returns-in_err-oldest-clause-few : goal.returns-in_err-oldest-clause-few
returns-in_err-oldest-clause-few g c =
    let ps = c.seat.inside.passes.items in
    let w = worker_view c.seat.inside.own in
    let n = c.seat.inside.number in
    let i = c.seat.invariant in
    let p = c.requires.place in
    let at = its_place c.args.self.now c.args.seat.now n c.args.from w.offered w.taken ps c.seat.view_is c.requires.own p.0 p.1 p.2 i.0 in
    let seen = other_seen n c.args.from w.offered w.taken ps c.index_mut.result.now at.0 at.2 at.1 c.index_mut.ensures.value i.7 i.6 i.12 ∙ ap (λ (s : SeatData g.row.B.Denot). other_view s c.args.from) c.seat.view_is in
    λ none. subst (λ (v : SeatView g.row.B.Denot). (place : ℕ) × HoldsAtMost 1 place v) seen (c.in_err-oldest.ensures.few refl)

pub returns-clause-some : goal.returns-clause-some
returns-clause-some g c =
    let ps = c.seat.inside.passes.items in
    let w = worker_view c.seat.inside.own in
    let n = c.seat.inside.number in
    let i = c.seat.invariant in
    let p = c.requires.place in
    let same = c.stolen.ensures.same in
    let at = its_place c.args.self.now c.args.seat.now n c.args.from w.offered w.taken ps c.seat.view_is c.requires.own p.0 p.1 p.2 i.0 in
    rw (← c.seat.view_is)
    (stolen_view n c.args.from w.offered w.taken ps c.stolen.new.pass c.index_mut.result.now c.in_ok-oldest.oldest at.0 at.2 c.index_mut.ensures.value same.0 same.1 (ap (λ (h : SeatView g.row.B.Denot). h.taken) c.in_ok-oldest.ensures.some))

pub returns-clause-taken : goal.returns-clause-taken
returns-clause-taken g c =
    let ps = c.seat.inside.passes.items in
    let w = worker_view c.seat.inside.own in
    let n = c.seat.inside.number in
    let i = c.seat.invariant in
    let p = c.requires.place in
    let same = c.stolen.ensures.same in
    let at = its_place c.args.self.now c.args.seat.now n c.args.from w.offered w.taken ps c.seat.view_is c.requires.own p.0 p.1 p.2 i.0 in
    let after = stolen_view n c.args.from w.offered w.taken ps c.stolen.new.pass c.index_mut.result.now c.in_ok-oldest.oldest at.0 at.2 c.index_mut.ensures.value same.0 same.1 (ap (λ (h : SeatView g.row.B.Denot). h.taken) c.in_ok-oldest.ensures.some) in
    rw (← c.seat.view_is) (more_taken (told n w.offered w.taken ps) _ c.args.from c.in_ok-oldest.oldest at.3 after)

pub returns-in_err-oldest-clause-same : goal.returns-in_err-oldest-clause-same
returns-in_err-oldest-clause-same g c = (
  ap (λ (s : SeatData g.row.B.Denot). s.number) c.seat.view_is,
  same_deques c.seat.inside.passes.items (c.args.from - 1) c.stolen.new.pass c.index_mut.result.now c.index_mut.ensures.value c.stolen.ensures.same.0 c.stolen.ensures.same.1 ∙ ap (λ (s : SeatData g.row.B.Denot). s.deques) c.seat.view_is,
)

pub returns-clause-same : goal.returns-clause-same
returns-clause-same g c = (
  ap (λ (s : SeatData g.row.B.Denot). s.number) c.seat.view_is,
  same_deques c.seat.inside.passes.items (c.args.from - 1) c.stolen.new.pass c.index_mut.result.now c.index_mut.ensures.value c.stolen.ensures.same.0 c.stolen.ensures.same.1 ∙ ap (λ (s : SeatData g.row.B.Denot). s.deques) c.seat.view_is,
)
