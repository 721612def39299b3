use Rattle.std.proofs.Common.{◌∙◌, refl, arith}
use Rattle.std.proofs.lemmas.List.{length-map}
use Rattle.buffered_ports.specs.States.{port_of}
use Rattle.run_plan.proofs.Resumes.{hold-inputs}
use Rattle.run_plan.proofs.begun.station_by.Goals as goal

pub returns : goal.returns
returns c =
    let state = c.args.node.now.state in
    record {
      begins = λ node here. record {
        serves = record { plays = c.in_ok-seat.ensures.plays node c.args.slot here c.requires.snap.before; pins = c.in_ok-pins.ensures.pins; incoming = c.of.ensures.links };
        ready = record {
          here = c.in_ok-seat.ensures.ready c.args.slot c.requires.snap.before;
          shown = c.in_ok-pins.ensures.pins.shown;
          noted = λ less. absurd (omega (arith, less, c.in_ok-pins.ensures.due));
          incoming = c.of.ensures.below;
        };
        shape = record {
          ports = length-map state.ports port_of ∙ c.sizes.ensures.ports;
          threads = c.sizes.ensures.last;
          held = hold-inputs state.inputs c.requires.snap.state.inputs.each;
        };
        due = refl;
      };
    }
