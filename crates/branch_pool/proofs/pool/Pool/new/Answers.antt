use Rattle.std.proofs.Common.{◌≡◌, [], sym, subst, List}
use Rattle.std.specs.List.{All}
use Rattle.branch_pool.specs.Seats.{SeatData, AreAllSeats, all_taken}
use Rattle.branch_pool.proofs.Fresh.{fresh_all, fresh_empty}
use Rattle.branch_pool.proofs.pool.Pool.new.Goals as goal

pub returns-in-Ok-clause-all : goal.returns-in-Ok-clause-all
returns-in-Ok-clause-all g c =
    let p = c.in-Ok.both.0 in
    subst (λ (l : List (SeatData g.row.B.Denot)). AreAllSeats p l) (sym c.in-Ok.ensures.fresh) (fresh_all p.deques c.args.seats c.in-Ok.ensures.pool)

pub returns-in-Ok-clause-empty : goal.returns-in-Ok-clause-empty
returns-in-Ok-clause-empty g c =
    subst (λ (l : List (SeatData g.row.B.Denot)). All (λ (s : SeatData g.row.B.Denot). (s.offered ≡ []) × (all_taken s ≡ [])) l) (sym c.in-Ok.ensures.fresh)
    (fresh_empty c.in-Ok.both.0.deques 1 c.args.seats)
