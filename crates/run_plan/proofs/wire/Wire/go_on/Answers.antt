use Rattle.std.proofs.Common.{◌∙◌, ◌++◌, ℕ, ap}
use Rattle.pin_wires.specs.Wires.{driven_or_low}
use Rattle.serial_model.specs.Serial.{level_entries}
use Rattle.run_plan.proofs.Wires.{goes-on, low-fits}
use Rattle.run_plan.proofs.wire.Wire.go_on.Goals as goal

pub returns-clause-next : goal.returns-clause-next
returns-clause-next c =
    let before = c.args.self.now in
    let was = c.tell.new.self in
    let same = c.driven_or_low.ensures in
    goes-on c.args.slot before c.requires.wire (driven_or_low c.args.driven) (low-fits before.from_port c.args.driven c.requires.fits) was c.take.new.self
    (c.tell.ensures.entries ∙ ap (λ (now : ℕ). before.history.entries ++ level_entries c.args.slot before.sent now) same)
    (c.tell.ensures.rest ∙ ap (λ (now : ℕ). record before { history = was.history; sent = now }) same)
    c.take.ensures.taken
