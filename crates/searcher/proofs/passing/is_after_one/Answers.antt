use Rattle.std.proofs.Common.{true≢false, refl, sym, inl}
use Rattle.cayley.specs.Times.{IsBefore}
use Rattle.cayley.proofs.Order.Lines.{before_trans}
use Rattle.cayley.proofs.Order.Times.{never_before, before_same}
use Rattle.searcher.specs.Passes.{time_one}
use Rattle.searcher.proofs.BesideOne.{is_less, is_equal, is_greater}
use Rattle.searcher.proofs.passing.is_after_one.Goals as goal

pub returns-in-Less : goal.returns-in-Less
returns-in-Less c = λ t e o.
    let h : IsBefore t time_one = is_less _ _ _ c.beside_one.result c.in-Less.is (c.beside_one.ensures.order t e o) in
    ((λ q. absurd (true≢false (sym q))), (λ b. absurd (never_before t (before_trans t time_one t h (inl b)))))

pub returns-in-Equal : goal.returns-in-Equal
returns-in-Equal c = λ t e o.
    let h = is_equal _ _ _ c.beside_one.result c.in-Equal.is (c.beside_one.ensures.order t e o) in
    ((λ q. absurd (true≢false (sym q))), (λ b. absurd (never_before time_one (before_same time_one t time_one h b))))

pub returns-in-Greater : goal.returns-in-Greater
returns-in-Greater c = λ t e o.
    let h = is_greater _ _ _ c.beside_one.result c.in-Greater.is (c.beside_one.ensures.order t e o) in
    ((λ q. h), (λ b. refl))
