use Rattle.std.proofs.Common.{◌≡◌, List, false, refl, ap, sym, ◌∙◌, subst}
use Rattle.xs_model.specs.declared.thread.Outcome.{Outcome}
use Rattle.xs_model.specs.declared.traps.TheConstants.{ILLEGAL_RESOURCE}
use Rattle.xs_model.specs.Record.{CoreRec, PortRec, port_of}
use Rattle.step_model.specs.Effect.{Effect, Trap}
use Rattle.step_model.specs.PortRows.{at_port, goes_on_taking}
use Rattle.buffered_ports.specs.Asks.{wait_of}
use Rattle.core_units.specs.declared.ending.Ending.{Ending}
use Rattle.core_units.specs.Units.{Ends, EndsWith, units_of}
use Rattle.resource_rows.specs.Ports.{taking, acts, would_wait}
use Rattle.resource_rows.proofs.PortEnds.{left, done_end, pause_end, bad_end}
use Rattle.resource_rows.proofs.ports.at_port.Goals as goal
use Rattle.resource_rows.proofs.ports.at_port.Goals.{After-pause}

-- nobody else is paused where the row would pause
free_now : (c : After-pause) → would_wait (units_of c.units.inside) (wait_of (acts (units_of c.units.inside) c.args.pins.now.level c.args.ask c.args.port (port_of (units_of c.units.inside) c.args.port))) ≡ false
free_now c =
    sym (c.is_waited_for.ensures _ ∙ ap (λ (core : CoreRec). would_wait core (wait_of (acts core c.args.pins.now.level c.args.ask c.args.port (port_of core c.args.port)))) (sym c.units.view_is))
    ∙ c.if-is_waited_for.false

pub returns-in-Done-clause-row : goal.returns-in-Done-clause-row
returns-in-Done-clause-row c =
    let a = c.args in
    let core = units_of c.units.inside in
    let acted = acts core a.pins.now.level a.ask a.port (port_of core a.port) in
    let takes = taking a.takes (port_of core a.port) in
    let new : c.take_word.new.units ≡ goes_on_taking (left core a.k a.name a.port takes acted) a.k takes 0 =
    c.take_word.ensures (port_of core a.port) (sym c.tw-bits.ensures.value)
    ∙ ap (λ (ports : List PortRec). goes_on_taking (record core { ports = ports }) a.k takes 0) c.act-answer.ensures.port
    in
    subst (λ (old : CoreRec). EndsWith c.done.result old c.take_word.new.units (at_port old a.k a.name a.port (taking a.takes) (acts old a.pins.now.level a.ask a.port))) c.units.view_is
    (subst (λ (after : CoreRec). EndsWith c.done.result core after (at_port core a.k a.name a.port (taking a.takes) (acts core a.pins.now.level a.ask a.port))) (sym new)
    (subst (λ (e : Ending). EndsWith e core (goes_on_taking (left core a.k a.name a.port takes acted) a.k takes 0) (at_port core a.k a.name a.port (taking a.takes) (acts core a.pins.now.level a.ask a.port))) (sym c.done.ensures.value)
    (done_end core a.k a.name a.port takes acted c.act-answer.result c.act-answer.ensures.answer c.in-Done.is)))

pub returns-in-Pause-clause-row : goal.returns-in-Pause-clause-row
returns-in-Pause-clause-row c =
    let a = c.args in
    let core = units_of c.units.inside in
    let acted = acts core a.pins.now.level a.ask a.port (port_of core a.port) in
    let takes = taking a.takes (port_of core a.port) in
    let new : record core { ports = c.act-answer.new.self } ≡ left core a.k a.name a.port takes acted =
    ap (λ (ports : List PortRec). record core { ports = ports }) c.act-answer.ensures.port
    in
    subst (λ (old : CoreRec). EndsWith c.pause.result old (record core { ports = c.act-answer.new.self }) (at_port old a.k a.name a.port (taking a.takes) (acts old a.pins.now.level a.ask a.port))) c.units.view_is
    (subst (λ (after : CoreRec). EndsWith c.pause.result core after (at_port core a.k a.name a.port (taking a.takes) (acts core a.pins.now.level a.ask a.port))) (sym new)
    (subst (λ (e : Ending). EndsWith e core (left core a.k a.name a.port takes acted) (at_port core a.k a.name a.port (taking a.takes) (acts core a.pins.now.level a.ask a.port))) (sym c.pause.ensures.value)
    (pause_end core a.k a.name a.port takes acted c.act-answer.result c.in-Pause.wait c.act-answer.ensures.answer c.in-Pause.is (free_now c))))

pub returns-in-Bad-clause-row : goal.returns-in-Bad-clause-row
returns-in-Bad-clause-row c =
    let a = c.args in
    let core = units_of c.units.inside in
    let acted = acts core a.pins.now.level a.ask a.port (port_of core a.port) in
    let takes = taking a.takes (port_of core a.port) in
    let both = bad_end core a.k a.name a.port takes acted c.act-answer.result c.act-answer.ensures.answer c.in-Bad.is in
    let new : record core { ports = c.act-answer.new.self } ≡ core =
    ap (λ (ports : List PortRec). record core { ports = ports }) c.act-answer.ensures.port ∙ both.0
    in
    subst (λ (old : CoreRec). Ends c.illegal.result old (record core { ports = c.act-answer.new.self }) (at_port old a.k a.name a.port (taking a.takes) (acts old a.pins.now.level a.ask a.port))) c.units.view_is
    (subst (λ (effect : Effect). Ends c.illegal.result core (record core { ports = c.act-answer.new.self }) effect) (sym both.1)
    (subst (λ (o : Outcome). Ends o core (record core { ports = c.act-answer.new.self }) (Trap ILLEGAL_RESOURCE a.name)) (sym c.illegal.ensures)
    (refl, refl, new)))
