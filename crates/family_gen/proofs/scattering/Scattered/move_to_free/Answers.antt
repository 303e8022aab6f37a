use Rattle.std.proofs.Common.{◌≡◌, ◌∙◌, ◌+◌, ◌-◌, ◌<◌, ◌≤◌, ◌^◌, ℕ, suc, ap, sym, subst, refl, arith, length, map, true, false}
use Rattle.std.proofs.lemmas.List.{length-map}
use Rattle.family_gen.specs.Seen.{coordinates_of}
use Rattle.family_gen.specs.Scatter.{next, is_among}
use Rattle.family_gen.proofs.GridPoints.{Within, next_within, next-length, written_whole}
use Rattle.family_gen.proofs.FreePoints.{one_taken, one_free, last_free}
use Rattle.family_gen.proofs.scattering.Scattered.move_to_free.Goals as goal

pub returns-then-not-has : goal.returns-then-not-has
returns-then-not-has c =
    let taken = map coordinates_of c.args.self.now in
    let free : is_among c.loop-turn.coords.items taken ≡ false = sym c.has.ensures ∙ c.if-not-has.true in
    one_free c.args.side taken (length c.args.self.now - c.loop-turn._turn) c.loop-turn.coords.items _ free c.loop-turn.invariant.free

pub loop-turn-preserved : goal.loop-turn-preserved
loop-turn-preserved c =
    let taken = map coordinates_of c.args.self.now in
    let has : is_among c.loop-turn.coords.items taken ≡ true = sym c.has.ensures ∙ c.if-not-has.false in
    let lt : c.loop-turn._turn < length c.args.self.now = subst (λ (n : ℕ). c.loop-turn._turn < n) c.len-turn-end.ensures c.loop-turn-test.true in
    let e : length c.args.self.now - c.loop-turn._turn ≡ suc (length c.args.self.now - (c.loop-turn._turn + 1)) = omega arith in
    let size : c.loop-turn.coords.len ≡ length c.loop-turn.coords.items = sym c.deref_mut.ensures.len ∙ ap length c.deref_mut.ensures.value in
    let moved : c.move_on.new.coords ≡ next c.args.side c.loop-turn.coords.items = c.move_on.ensures ∙ ap (next c.args.side) c.deref_mut.ensures.value in
    let whole = written_whole c.loop-turn.coords.len c.move_on.new.coords c.loop-turn.coords.items size (ap length moved ∙ next-length c.args.side c.loop-turn.coords.items) in
    let new = whole ∙ moved in
    record {
      free = one_taken c.args.side taken (length c.args.self.now - c.loop-turn._turn) (length c.args.self.now - (c.loop-turn._turn + 1)) c.loop-turn.coords.items _ _ e has new c.loop-turn.invariant.free;
      within = subst (Within c.args.side) (sym new) (next_within c.args.side c.loop-turn.coords.items c.loop-turn.invariant.within);
      length = ap length new ∙ next-length c.args.side c.loop-turn.coords.items ∙ c.loop-turn.invariant.length;
    }

pub returns : goal.returns
returns c =
    let taken = map coordinates_of c.args.self.now in
    let count : length c.args.self.now ≤ c.loop-turn._turn = subst (λ (n : ℕ). n ≤ c.loop-turn._turn) c.len-turn-end.ensures c.loop-turn-test.false in
    let e : length c.args.self.now - c.loop-turn._turn ≡ 0 = omega arith in
    let few : length taken < (c.args.side + 1) ^ length c.args.coords.now.items = rw (length-map c.args.self.now coordinates_of) c.requires.room in
    last_free c.args.side (length c.args.coords.now.items) taken (length c.args.self.now - c.loop-turn._turn) c.loop-turn.coords.items c.args.coords.now.items e c.requires.some (refl, c.requires.within) few c.loop-turn.invariant.free
