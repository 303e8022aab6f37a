use Rattle.std.proofs.Common.{◌≡◌, inl}
use Rattle.start_system.proofs.Making.Parts.{if_ok_weaker}
use Rattle.mixedcells.specs.declared.outcome.Outcome.TheVariants as variant
use Rattle.mixedcells.specs.Families.{lifted_text}
use Rattle.mixedcells.specs.Answers.{IsSystemReply}
use Rattle.mixedcells.proofs.systems.poly.Goals as goal

pub lifted-requires : goal.lifted-requires
lifted-requires c = c.in-Ok.ensures.supports

pub returns-in-Ok : goal.returns-in-Ok
returns-in-Ok c =
    if_ok_weaker c.lifted.result (λ r. (r.outcome ≡ variant.Ok) × (r.text.items ≡ lifted_text c.args.seed c.in-Ok.system)) (λ r. IsSystemReply c.args.seed c.args.bytes.now r.outcome r.text.items)
    (λ r h. inl (c.in-Ok.system, c.in-Ok.ensures.reading, h.0, h.1)) c.lifted.ensures
