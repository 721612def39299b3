use Rattle.std.proofs.Common.{ap₂, subst, sym, ◌∙◌}
use Rattle.std.specs.Prelude.{◌||◌}
use Rattle.xs_model.specs.Record.{SlotsRec}
use Rattle.core_waits.specs.Parts.{AreAlike}
use Rattle.core_waits.proofs.Bits.{in_either}
use Rattle.core_waits.proofs.Alike.{able_alike}
use Rattle.core_waits.proofs.able.Able.find.Goals as goal

pub returns-clause-value : goal.returns-clause-value
returns-clause-value c = λ core parts. record {
  at =
      λ slot k is below.
      in_either c.going-going.result c.choosing-choosing.result k
      ∙ ap₂ (λ goes chooses. goes || chooses) (c.going-going.ensures core c.args.events.now parts k below) (c.choosing-choosing.ensures core c.args.slots.now c.args.syncs.now parts k below)
      ∙ able_alike core c.args.slot slot
      (subst (λ timers. AreAlike timers core.slots.division c.args.slot slot) (sym parts.timers)
      (subst (λ (slots : SlotsRec). AreAlike c.args.timers.now slots.division c.args.slot slot) (sym parts.slots) (c.known_until.ensures.alike slot is.0 is.1))) k;
  now = c.known_until.ensures.now;
}
