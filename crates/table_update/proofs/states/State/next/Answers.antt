use Rattle.std.proofs.Common.{◌≡◌, ◌∙◌, ◌++◌, ◌∷◌, [], ◌<◌, length, refl, sym, ap, subst, arith, Some}
use Rattle.reduced_rows.specs.Steps.{OfLength, FitsCleanedAll, pick}
use Rattle.int_vectors.specs.Vectors.{Each}
use Rattle.int_vectors.specs.RowSteps.{cleaned}
use Rattle.std.proofs.Common.{map}
use Rattle.reduced_rows.proofs.Run.{each_longer, picked_length}
use Rattle.table_update.proofs.OneStep.{no_row, stop_done, stop_rest, made_step}
use Rattle.table_update.proofs.states.State.next.Goals as goal

pub dependent-requires-clause-lengths : goal.dependent-requires-clause-lengths
dependent-requires-clause-lengths c =
    let d : c.in_ok-done.done.items ≡ c.args.self.now.done = c.in_ok-done.ensures ∙ c.deref.ensures.value ∙ ap (λ s. s.done) c.self.view_is in
    let r : c.in_ok-rest.rest.items ≡ c.args.self.now.rest = c.in_ok-rest.ensures ∙ c.deref-2.ensures.value ∙ ap (λ s. s.rest) c.self.view_is in
    let q = c.requires.done in
    subst (λ l. Each l (λ row. c.args.k < length row)) (sym (c.deref-in_default.ensures.value ∙ d)) (each_longer q.0 c.args.k c.args.self.now.done q.1 q.2)

pub returns-in_default : goal.returns-in_default
returns-in_default c =
    let d : c.in_ok-done.done.items ≡ c.args.self.now.done = c.in_ok-done.ensures ∙ c.deref.ensures.value ∙ ap (λ s. s.done) c.self.view_is in
    let r : c.in_ok-rest.rest.items ≡ c.args.self.now.rest = c.in_ok-rest.ensures ∙ c.deref-2.ensures.value ∙ ap (λ s. s.rest) c.self.view_is in
    no_row c.args.more c.args.k c.args.self.now (ap (pick c.args.k) (sym r) ∙ c.in_default.ensures) c.dependent.result
    (rw (sym d) (rw c.deref-in_default.ensures.value at c.dependent.ensures))

pub clean_all-requires-clause-place : goal.clean_all-requires-clause-place
clean_all-requires-clause-place c =
    let d : c.in_ok-done.done.items ≡ c.args.self.now.done = c.in_ok-done.ensures ∙ c.deref.ensures.value ∙ ap (λ s. s.done) c.self.view_is in
    let r : c.in_ok-rest.rest.items ≡ c.args.self.now.rest = c.in_ok-rest.ensures ∙ c.deref-2.ensures.value ∙ ap (λ s. s.rest) c.self.view_is in
    let p = c.in-Some.ensures in
    let e = subst (λ l. pick c.args.k l ≡ Some (p.0, c.pivot.new.rest.items)) r p.1 in
    let q = c.requires.done in
    let l = picked_length q.0 c.args.k c.args.self.now.rest p.0 c.in-Some.by c.pivot.new.rest.items q.3 e p.2 in
    omega (arith, l.0, q.1)

pub clean_all-requires-clause-lengths : goal.clean_all-requires-clause-lengths
clean_all-requires-clause-lengths c =
    let d : c.in_ok-done.done.items ≡ c.args.self.now.done = c.in_ok-done.ensures ∙ c.deref.ensures.value ∙ ap (λ s. s.done) c.self.view_is in
    let r : c.in_ok-rest.rest.items ≡ c.args.self.now.rest = c.in_ok-rest.ensures ∙ c.deref-2.ensures.value ∙ ap (λ s. s.rest) c.self.view_is in
    let p = c.in-Some.ensures in
    let e = subst (λ l. pick c.args.k l ≡ Some (p.0, c.pivot.new.rest.items)) r p.1 in
    let q = c.requires.done in
    let l = picked_length q.0 c.args.k c.args.self.now.rest p.0 c.in-Some.by c.pivot.new.rest.items q.3 e p.2 in
    subst (λ n. OfLength n c.in_ok-done.done.items) (sym l.0) (subst (OfLength q.0) (sym d) q.2)

pub returns-then-not-clean_all : goal.returns-then-not-clean_all
returns-then-not-clean_all c =
    let d : c.in_ok-done.done.items ≡ c.args.self.now.done = c.in_ok-done.ensures ∙ c.deref.ensures.value ∙ ap (λ s. s.done) c.self.view_is in
    let r : c.in_ok-rest.rest.items ≡ c.args.self.now.rest = c.in_ok-rest.ensures ∙ c.deref-2.ensures.value ∙ ap (λ s. s.rest) c.self.view_is in
    let p = c.in-Some.ensures in
    let e = subst (λ l. pick c.args.k l ≡ Some (p.0, c.pivot.new.rest.items)) r p.1 in
    stop_done c.args.more c.args.k c.args.self.now p.0 c.in-Some.by c.pivot.new.rest.items e p.2
    (rw d at c.if-not-clean_all.ensures)

pub clean_all-requires-2-clause-place : goal.clean_all-requires-2-clause-place
clean_all-requires-2-clause-place c =
    let d : c.in_ok-done.done.items ≡ c.args.self.now.done = c.in_ok-done.ensures ∙ c.deref.ensures.value ∙ ap (λ s. s.done) c.self.view_is in
    let r : c.in_ok-rest.rest.items ≡ c.args.self.now.rest = c.in_ok-rest.ensures ∙ c.deref-2.ensures.value ∙ ap (λ s. s.rest) c.self.view_is in
    let p = c.in-Some.ensures in
    let e = subst (λ l. pick c.args.k l ≡ Some (p.0, c.pivot.new.rest.items)) r p.1 in
    let q = c.requires.done in
    let l = picked_length q.0 c.args.k c.args.self.now.rest p.0 c.in-Some.by c.pivot.new.rest.items q.3 e p.2 in
    omega (arith, l.0, q.1)

pub clean_all-requires-2-clause-lengths : goal.clean_all-requires-2-clause-lengths
clean_all-requires-2-clause-lengths c =
    let d : c.in_ok-done.done.items ≡ c.args.self.now.done = c.in_ok-done.ensures ∙ c.deref.ensures.value ∙ ap (λ s. s.done) c.self.view_is in
    let r : c.in_ok-rest.rest.items ≡ c.args.self.now.rest = c.in_ok-rest.ensures ∙ c.deref-2.ensures.value ∙ ap (λ s. s.rest) c.self.view_is in
    let p = c.in-Some.ensures in
    let e = subst (λ l. pick c.args.k l ≡ Some (p.0, c.pivot.new.rest.items)) r p.1 in
    let q = c.requires.done in
    let l = picked_length q.0 c.args.k c.args.self.now.rest p.0 c.in-Some.by c.pivot.new.rest.items q.3 e p.2 in
    subst (λ n. OfLength n c.pivot.new.rest.items) (sym l.0) l.1

pub returns-then-not-clean_all-2 : goal.returns-then-not-clean_all-2
returns-then-not-clean_all-2 c =
    let d : c.in_ok-done.done.items ≡ c.args.self.now.done = c.in_ok-done.ensures ∙ c.deref.ensures.value ∙ ap (λ s. s.done) c.self.view_is in
    let r : c.in_ok-rest.rest.items ≡ c.args.self.now.rest = c.in_ok-rest.ensures ∙ c.deref-2.ensures.value ∙ ap (λ s. s.rest) c.self.view_is in
    let p = c.in-Some.ensures in
    let e = subst (λ l. pick c.args.k l ≡ Some (p.0, c.pivot.new.rest.items)) r p.1 in
    stop_rest c.args.more c.args.k c.args.self.now p.0 c.in-Some.by c.pivot.new.rest.items e p.2 c.if-not-clean_all-2.ensures

pub returns : goal.returns
returns c =
    let d : c.in_ok-done.done.items ≡ c.args.self.now.done = c.in_ok-done.ensures ∙ c.deref.ensures.value ∙ ap (λ s. s.done) c.self.view_is in
    let r : c.in_ok-rest.rest.items ≡ c.args.self.now.rest = c.in_ok-rest.ensures ∙ c.deref-2.ensures.value ∙ ap (λ s. s.rest) c.self.view_is in
    let p = c.in-Some.ensures in
    let e = subst (λ l. pick c.args.k l ≡ Some (p.0, c.pivot.new.rest.items)) r p.1 in
    let a = rw d at c.if-not-clean_all.ensures in
    let b = c.if-not-clean_all-2.ensures in
    made_step c.args.more c.args.k c.args.self.now p.0 c.in-Some.by c.pivot.new.rest.items e p.2 a.0 b.0 _ _
    (c.in_ok-push.ensures.items ∙ ap (λ l. l ++ c.in-Some.by ∷ []) a.1) b.1
