-- a branch whose cell isn't of the problem or doesn't begin where it says has nothing
use Rattle.std.proofs.Common.{inl, inr}
use Rattle.cayley.specs.Problems.{Problem}
use Rattle.cayley.specs.Shares.{Branch, IsTrueBranch}
use Rattle.cayley.specs.Strangers.{IsStranger, StrangerLaw}
use Rattle.cayley.proofs.Life.LifeLaws.{one_share_law}
use Rattle.cayley.proofs.Searching.Shares.{begins_of}

-- what begins is of the problem
pub not_true : (p : Problem) (b : Branch) → IsStranger p b → ¬ (IsTrueBranch p b)
not_true p b (inl n) h = n (begins_of p b.cell b.begin h)
not_true p b (inr n) h = n h

pub stranger_law : StrangerLaw
stranger_law p b stranger =
    let one = one_share_law p b in
    let none = one.2 (not_true p b stranger) in
    record {
      share = none.0;
      no_other_share = λ cells h. one.0 cells _ h none.0;
      size = none.1;
      no_other_size = λ n h. one.1 n _ h none.1;
      given_share = λ share gives. one.0 (share b) _ (gives b) none.0;
      given_size = λ size gives. one.1 (size b) _ (gives b) none.1;
    }
