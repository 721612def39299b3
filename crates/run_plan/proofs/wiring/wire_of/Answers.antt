use Rattle.run_plan.proofs.wiring.wire_of.Goals as goal

pub returns : goal.returns
returns c =
    let wire = c.args.wire.now in
    λ i. record {
      from = wire.a;
      from_port = wire.a_port;
      to = wire.b;
      to_port = wire.b_port;
      delay = wire.delay;
      history = c.new.ensures i;
      first = 0;
      sent = 0;
      level = 0;
      shown = record { of = record {}; value = c.of.ensures i };
    }
