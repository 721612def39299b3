use Rattle.std.proofs.Common.{ap, sym, ◌∙◌}
use Rattle.xs_model.specs.Choices.{ready_in}
use Rattle.event_unit.specs.Ready.{choice_of}
use Rattle.core_waits.proofs.Bits.{no_choice}
use Rattle.core_waits.proofs.able.taken.Goals as goal

pub returns-then-not-intersects : goal.returns-then-not-intersects
returns-then-not-intersects c = record {
  value =
      λ core chans timers ports.
      sym (ap choice_of (no_choice c.args.k c.args.sr (ready_in core c.args.slot) c.args.events.now (sym (c.intersects.ensures tt) ∙ c.if-not-intersects.true)));
}

pub returns : goal.returns
returns c = record {
  value = λ core chans timers ports. c.choose.ensures.value (ready_in core c.args.slot) (c.ready.ensures.value core chans timers ports);
}
