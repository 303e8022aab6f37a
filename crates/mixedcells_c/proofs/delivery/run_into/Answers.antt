use Rattle.std.proofs.Common.{inl, inr, ⊎_elim, refl}
use Rattle.mixedcells_c.proofs.delivery.run_into.Goals as goal

pub returns-in-Ok : goal.returns-in-Ok
returns-in-Ok c = record {
  way = ⊎_elim (λ h. inl (c.in-Ok.field-0.outcome, c.in-Ok.field-0.text.items, c.in-Ok.ensures, h))
      (λ h. inr (inl (c.in-Ok.field-0.outcome, c.in-Ok.field-0.text.items, c.in-Ok.ensures, h))) (rw c.deref.ensures.value at c.put.ensures);
}

pub returns-in-Err : goal.returns-in-Err
returns-in-Err c = record { way = inr (inr (refl, refl, refl)) }
