use Rattle.std.proofs.Common.{ℕ, ◌<◌, ◌^◌, refl, sym, ◌∙◌, subst}
use Rattle.std.specs.Prelude.{slice_get}
use Rattle.xs_base.specs.Ids.{port_width}
use Rattle.pin_wires.specs.Wires.{driven_or_low}
use Rattle.crossings.specs.Crossings.{due_of}
use Rattle.snap_parts.specs.InFlight.{AreWireEntries}
use Rattle.snap_parts.specs.Parts.{seen}
use Rattle.run_plan.specs.declared.wire.Wire.{Wire}
use Rattle.run_plan.specs.Wires.{IsWire, with_coming}
use Rattle.run_plan.specs.Begins.{WireBegins}
use Rattle.run_plan.proofs.InFlight.{wire-begins, coming-same}
use Rattle.run_plan.proofs.begun.wire_by.Goals as goal

pub returns : goal.returns
returns c =
    let wire = c.args.wire.now in
    let log = c.args.log.now in
    let slot = c.args.slot in
    let driven = driven_or_low c.args.driven in
    let history = c.in_ok-history.history in
    let same = c.in_ok-history.ensures.entries ∙ c.entries.ensures.value in
    let w : Wire = record {
      from = wire.a;
      from_port = wire.a_port;
      to = wire.b;
      to_port = wire.b_port;
      delay = wire.delay;
      history = history;
      first = 0;
      sent = c.driven_or_low.result;
      level = log.level;
      shown = c.of.result;
    } in
    let facts = subst (AreWireEntries slot wire.delay (port_width wire.b_port)) (sym same) c.requires.log.entries in
    let narrow = subst (λ (level : ℕ). level < 2 ^ port_width wire.b_port) (sym c.of.ensures) c.requires.log.level in
    let told = due_of slot wire.delay (slice_get history.entries 0) in
    let is =
    subst (λ (level : ℕ). IsWire slot (with_coming told (record w { level = level }))) c.of.ensures
    (wire-begins slot w c.requires.a_port c.requires.b_port c.requires.widths c.requires.delayed facts narrow) in
    record {
      begins =
          subst (WireBegins slot driven wire (seen log)) (sym c.take.ensures.taken)
          (coming-same told w slot driven wire (seen log) refl refl refl refl refl same c.driven_or_low.ensures c.of.ensures is);
    }
