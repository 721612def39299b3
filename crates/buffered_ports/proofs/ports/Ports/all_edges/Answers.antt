use Rattle.std.proofs.Common.{ℕ, ◌+◌, ◌≤◌, ap, sym, ◌∙◌, refl, List, arith}
use Rattle.xs_model.specs.declared.event.Event.{Event}
use Rattle.xs_model.specs.Outside.{Emitted}
use Rattle.xs_model.specs.Time.{edge_at}
use Rattle.xs_model.specs.Record.{PortRec}
use Rattle.buffered_ports.specs.Asks.{port_at}
use Rattle.buffered_ports.specs.Keeps.{HighIs}
use Rattle.buffered_ports.proofs.InTurn.{none_edged, Reached, reached_none, all_ports, all_events, one_edge, IsNextOn, next_on, not_passed, mask_left, none_below, all_reached, level_fits, serves_as_itself, still_serve}
use Rattle.buffered_ports.proofs.ports.Ports.all_edges.Goals as goal

pub returns-then-has_no_edge-clause-ports : goal.returns-then-has_no_edge-clause-ports
returns-then-has_no_edge-clause-ports c before high =
    (none_edged c.args.slot c.args.clocks.now before c.args.levels.now c.args.self.now c.args.out.now.events c.ports_on-rest.ensures.count (omega (arith, c.told-levels)) (λ p outside within. c.has_no_edge.ensures c.if-has_no_edge.true c.args.clocks.now before p (port_at c.args.self.now p) outside)).ports_stay

pub returns-then-has_no_edge-clause-events : goal.returns-then-has_no_edge-clause-events
returns-then-has_no_edge-clause-events c before high =
    ap (λ (events : List Event). let out : Emitted = record c.args.out.now { events = events } in out)
    (none_edged c.args.slot c.args.clocks.now before c.args.levels.now c.args.self.now c.args.out.now.events c.ports_on-rest.ensures.count (omega (arith, c.told-levels)) (λ p outside within. c.has_no_edge.ensures c.if-has_no_edge.true c.args.clocks.now before p (port_at c.args.self.now p) outside)).nothing

pub loop-rest-init : goal.loop-rest-init
loop-rest-init c = record {
  done = 0;
  most = omega arith;
  count = c.ports_on-rest.ensures.count;
  on = λ k below above. c.ports_on-rest.ensures.on k below;
  passed = λ k below. absurd (omega (arith, below));
  others = λ k above. refl;
  reached = λ before high. reached_none c.args.slot c.args.clocks.now before c.args.levels.now c.args.self.now c.args.out.now.events;
  kept = refl;
  room = omega arith;
  serve = λ same k. serves_as_itself (port_at c.args.self.now k);
}

pub edge_in_slot-changed-requires-clause-port : goal.edge_in_slot-changed-requires-clause-port
edge_in_slot-changed-requires-clause-port c =
    (next_on c.args.slot c.args.clocks.now c.args.levels.now c.args.high c.args.self.now c.loop-rest.self c.args.out.now c.loop-rest.out c.loop-rest.rest c.loop-rest.differs c.lowest-p.result (omega (arith, c.told-levels)) c.lowest-p.ensures.within c.lowest-p.ensures.is c.lowest-p.ensures.least c.loop-rest.invariant).port

pub edge_in_slot-changed-requires-clause-pin : goal.edge_in_slot-changed-requires-clause-pin
edge_in_slot-changed-requires-clause-pin c =
    let next : IsNextOn c.args.slot c.args.clocks.now c.args.levels.now c.args.high c.args.self.now c.loop-rest.self c.args.out.now c.loop-rest.out c.lowest-p.result =
    next_on c.args.slot c.args.clocks.now c.args.levels.now c.args.high c.args.self.now c.loop-rest.self c.args.out.now c.loop-rest.out c.loop-rest.rest c.loop-rest.differs c.lowest-p.result (omega (arith, c.told-levels)) c.lowest-p.ensures.within c.lowest-p.ensures.is c.lowest-p.ensures.least c.loop-rest.invariant
    in
    level_fits c.args.levels.now c.lowest-p.result (omega (arith, c.told-levels, next.port)) c.requires.pins

pub loop-rest-preserved : goal.loop-rest-preserved
loop-rest-preserved c =
    let p : ℕ = c.lowest-p.result in
    let next : IsNextOn c.args.slot c.args.clocks.now c.args.levels.now c.args.high c.args.self.now c.loop-rest.self c.args.out.now c.loop-rest.out p =
    next_on c.args.slot c.args.clocks.now c.args.levels.now c.args.high c.args.self.now c.loop-rest.self c.args.out.now c.loop-rest.out c.loop-rest.rest c.loop-rest.differs p (omega (arith, c.told-levels)) c.lowest-p.ensures.within c.lowest-p.ensures.is c.lowest-p.ensures.least c.loop-rest.invariant
    in
    let above : c.loop-rest.invariant.done ≤ p = not_passed c.loop-rest.rest c.loop-rest.invariant.done p c.lowest-p.ensures.is c.loop-rest.invariant.passed in
    record {
      done = p + 1;
      most = omega (arith, next.port);
      count = c.edge_in_slot-changed.ensures.edged.count c.loop-rest.invariant.count;
      on = mask_left c.loop-rest.rest c.without-rest.result p c.loop-rest.self c.edge_in_slot-changed.new.self c.without-rest.ensures.bits c.edge_in_slot-changed.ensures.edged.others (λ k below from. c.loop-rest.invariant.on k below (omega (arith, above, from)));
      passed = none_below c.loop-rest.rest c.without-rest.result p c.lowest-p.ensures.within c.without-rest.ensures.bits c.lowest-p.ensures.least;
      others = λ k from. c.edge_in_slot-changed.ensures.edged.others k (λ e. omega (arith, e, from)) ∙ c.loop-rest.invariant.others k (omega (arith, above, from));
      reached = λ before high.
          let its : HighIs c.args.high (port_at c.loop-rest.self p).strobe before =
          λ q is. high p q (ap (λ (port : PortRec). port.strobe) (sym (c.loop-rest.invariant.others p above)) ∙ is)
          in
          one_edge c.args.slot c.args.clocks.now before c.args.levels.now c.args.self.now c.loop-rest.self c.edge_in_slot-changed.new.self c.args.out.now.events c.loop-rest.out.events c.edge_in_slot-changed.new.out.events p (edge_at c.args.clocks.now (port_at c.loop-rest.self p).clock c.args.slot) (omega (arith, next.port, c.loop-rest.invariant.count)) (omega (arith, next.port, c.told-levels)) next.on refl (c.edge_in_slot-changed.ensures.ports before its) (c.edge_in_slot-changed.ensures.events before its) (next.reached before high);
      kept = c.edge_in_slot-changed.ensures.told.rest ∙ ap (λ (o : Emitted). let out : Emitted = record o { events = c.edge_in_slot-changed.new.out.events } in out) c.loop-rest.invariant.kept;
      room = omega (arith, c.edge_in_slot-changed.ensures.told.room, c.loop-rest.invariant.room, above);
      serve = λ same. still_serve c.args.self.now c.loop-rest.self c.edge_in_slot-changed.new.self p (c.loop-rest.invariant.others p above) (c.edge_in_slot-changed.ensures.edged.same (c.either-differs.ensures.other same)) c.edge_in_slot-changed.ensures.edged.others (c.loop-rest.invariant.serve (c.either-differs.ensures.one same));
    }

pub returns-clause-ports : goal.returns-clause-ports
returns-clause-ports c before high =
    let left : Reached c.args.slot c.args.clocks.now before c.args.levels.now c.args.self.now c.loop-rest.self c.args.out.now.events c.loop-rest.out.events 29 =
    all_reached c.args.slot c.args.clocks.now before c.args.levels.now c.args.high c.args.self.now c.loop-rest.self c.args.out.now c.loop-rest.out c.loop-rest.rest c.loop-rest.differs (omega (arith, c.told-levels)) high c.loop-rest-test.false c.loop-rest.invariant
    in
    all_ports c.args.slot c.args.clocks.now before c.args.levels.now c.args.self.now c.args.out.now.events c.loop-rest.self c.loop-rest.out.events 29 (omega (arith, c.loop-rest.invariant.count)) left

pub returns-clause-events : goal.returns-clause-events
returns-clause-events c before high =
    let left : Reached c.args.slot c.args.clocks.now before c.args.levels.now c.args.self.now c.loop-rest.self c.args.out.now.events c.loop-rest.out.events 29 =
    all_reached c.args.slot c.args.clocks.now before c.args.levels.now c.args.high c.args.self.now c.loop-rest.self c.args.out.now c.loop-rest.out c.loop-rest.rest c.loop-rest.differs (omega (arith, c.told-levels)) high c.loop-rest-test.false c.loop-rest.invariant
    in
    c.loop-rest.invariant.kept ∙ ap (λ (events : List Event). let out : Emitted = record c.args.out.now { events = events } in out) (all_events c.args.slot c.args.clocks.now before c.args.levels.now c.args.self.now c.args.out.now.events c.loop-rest.self c.loop-rest.out.events 29 (omega (arith, c.loop-rest.invariant.count)) left)
