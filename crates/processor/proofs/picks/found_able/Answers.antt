use Rattle.std.proofs.Common.{refl, sym, subst}
use Rattle.xs_model.specs.Record.{CoreRec}
use Rattle.core_waits.specs.Parts.{AreAble}
use Rattle.core_units.specs.Units.{units_of}
use Rattle.processor.proofs.picks.found_able.Goals as goal

pub returns-clause-value : goal.returns-clause-value
returns-clause-value c =
    subst (λ (core : CoreRec). AreAble core c.find.result) c.units.view_is
    (c.find.ensures.value (units_of c.units.inside) (record {
      threads = refl;
      slots = refl;
      chans = refl;
      timers = refl;
      syncs = refl;
      locks = refl;
      events = refl;
      ports = refl;
    }))
