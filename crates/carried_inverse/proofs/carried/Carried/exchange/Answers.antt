use Rattle.std.proofs.Common.{rules, ◌≡◌, ◌∙◌, ◌<◌, List, ℤ, length, map, sym, ap, subst, refl, set, FitsSigned, to_z-of_z, arith}
use Rattle.std.specs.Int.{w64}
use Rattle.std.proofs.lemmas.List.{length-map}
use Rattle.int_vectors.specs.Bounds.{Within}
use Rattle.int_vectors.specs.Vectors.{Each, dot, IsZero, IsOrthogonal, row_at}
use Rattle.inner_normal.specs.Inverses.{Inverse}
use Rattle.carried_inverse.specs.Systems.{IsScaledInverse}
use Rattle.carried_inverse.proofs.Exchanging.{exchange_inverts, made_long, over_above, dependent_rows}
use Rattle.carried_inverse.proofs.Rooms.{written_long}
use Rattle.carried_inverse.proofs.carried.Carried.exchange.Goals as goal

pub invariant_of-self : goal.invariant_of-self
invariant_of-self c =
    let fd : FitsSigned w64 c.in-Made.den = search rules in
    let fs : FitsSigned w64 c.self.inside.den = search rules in
    let i = c.self.invariant in
    let v = ap (λ (a : Inverse). length a.columns) c.self.view_is in
    let h = (simp to_z-of_z at c.in-Made.ensures.step).0 in
    let below : c.args.place < length c.self.inside.columns.items = let p = c.requires.place in omega (arith, p, v) in
    let l = made_long (length c.self.inside.columns.items) c.args.place c.self.inside.den (map (dot c.args.row.now) c.self.inside.columns.items) c.self.inside.columns.items c.exchange_step.new.columns.items c.in-Made.den
    below refl (length-map c.self.inside.columns.items (dot c.args.row.now)) i.1 h in
    let o = over_above c.args.place c.self.inside.den (map (dot c.args.row.now) c.self.inside.columns.items) c.self.inside.columns.items c.exchange_step.new.columns.items c.in-Made.den i.0 h in
    let s = written_long c.self.inside.shares.len c.exchange_step.new.shares c.self.inside.shares.items (sym c.deref_mut.ensures.len ∙ ap length c.deref_mut.ensures.value) (c.exchange_step.auto.shares ∙ ap length c.deref_mut.ensures.value) in
    let k = written_long c.self.inside.kept.len c.exchange_step.new.kept c.self.inside.kept.items (sym c.deref_mut-2.ensures.len ∙ ap length c.deref_mut-2.ensures.value) (c.exchange_step.auto.kept ∙ ap length c.deref_mut-2.ensures.value) in
    simp to_z-of_z (
      o,
      subst (λ n. Each c.exchange_step.new.columns.items (λ column. length column ≡ n)) (sym l.0) l.1,
      s ∙ i.2 ∙ sym l.0,
      k ∙ i.3 ∙ sym l.0,
      (simp to_z-of_z at c.settled-self-inside.ensures.den),
      subst (λ (xs : List (List ℤ)). Each xs (Within c.settled-self-inside.result)) c.deref.ensures.value c.settled-self-inside.ensures.columns,
      c.in-Made.ensures.spare_count ∙ sym l.0,
      subst (λ n. Each c.exchange_step.new.spare.items (λ column. length column ≡ n)) (sym l.0) c.in-Made.ensures.spare_long,
    )

pub invariant_of-self-in-Dependent : goal.invariant_of-self-in-Dependent
invariant_of-self-in-Dependent c =
    let i = c.self.invariant in
    let h = c.in-Dependent.ensures.step in
    let s = written_long c.self.inside.shares.len c.exchange_step.new.shares c.self.inside.shares.items (sym c.deref_mut.ensures.len ∙ ap length c.deref_mut.ensures.value) (c.exchange_step.auto.shares ∙ ap length c.deref_mut.ensures.value) in
    let k = written_long c.self.inside.kept.len c.exchange_step.new.kept c.self.inside.kept.items (sym c.deref_mut-2.ensures.len ∙ ap length c.deref_mut-2.ensures.value) (c.exchange_step.auto.kept ∙ ap length c.deref_mut-2.ensures.value) in
    rw h.0 (i.0, i.1, s ∙ i.2, k ∙ i.3, i.4, i.5, c.in-Dependent.ensures.spare_count, c.in-Dependent.ensures.spare_long)

pub returns-in-Made : goal.returns-in-Made
returns-in-Made c =
    let fd : FitsSigned w64 c.in-Made.den = search rules in
    let fs : FitsSigned w64 c.self.inside.den = search rules in
    let h = (simp to_z-of_z at c.in-Made.ensures.step).0 in
    let v = ap (λ (a : Inverse). length a.columns) c.self.view_is in
    let below : c.args.place < length c.self.inside.columns.items = let p = c.requires.place in omega (arith, p, v) in
    let old : Inverse = record { den = c.self.inside.den; columns = c.self.inside.columns.items } in
    let new : Inverse = record { den = c.in-Made.den; columns = c.exchange_step.new.columns.items } in
    simp to_z-of_z (subst
    (λ (a : Inverse). (rows : List (List ℤ)) → length rows ≡ length a.columns → IsScaledInverse (length a.columns) rows a → IsScaledInverse (length a.columns) (set rows c.args.place c.args.row.now) new)
    c.self.view_is
    (λ rows many g. exchange_inverts (length c.self.inside.columns.items) c.args.place rows old new c.args.row.now (map (dot c.args.row.now) c.self.inside.columns.items) below many refl h g))

pub returns-in-Dependent : goal.returns-in-Dependent
returns-in-Dependent c =
    let h = c.in-Dependent.ensures.step in
    let v = ap (λ (a : Inverse). length a.columns) c.self.view_is in
    let below : c.args.place < length c.self.inside.columns.items = let p = c.requires.place in omega (arith, p, v) in
    let old : Inverse = record { den = c.self.inside.den; columns = c.self.inside.columns.items } in (
      ap (λ (xs : List (List ℤ)). mk c.self.inside.den xs) h.0 ∙ c.self.view_is,
      subst
          (λ (a : Inverse). (rows : List (List ℤ)) → length rows ≡ length a.columns → IsScaledInverse (length a.columns) rows a
          → IsOrthogonal (set rows c.args.place c.args.row.now) (row_at a.columns c.args.place) × ¬ (IsZero (row_at a.columns c.args.place)))
          c.self.view_is
          (λ rows many g. dependent_rows (length c.self.inside.columns.items) c.args.place rows old c.args.row.now below many h.1 g),
    )
  where
    mk : ℤ → List (List ℤ) → Inverse
    mk den columns = record { den = den; columns = columns }
