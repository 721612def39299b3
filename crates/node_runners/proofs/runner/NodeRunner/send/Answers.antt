use Rattle.std.proofs.Common.{rules, ◌≡◌, sym, ap, ◌∙◌, arith}
use Rattle.serial_model.specs.Serial.{history}
use Rattle.locality_laws.proofs.Links.{none_carried}
use Rattle.node_runners.proofs.Sends.{leaves_by, has_batch, is_end, no_entries, publishes_nothing}
use Rattle.node_runners.proofs.runner.NodeRunner.send.Goals as goal

pub sent-requires : goal.sent-requires
sent-requires c = record { there = has_batch _ _ _ _ _ _ _ _ _ c.self.invariant.1 c.args.end (leaves_by c.args.end c.self.view_is c.requires.there) }

pub bounds-self-inside-end : goal.bounds-self-inside-end
bounds-self-inside-end c = is_end _ _ _ _ _ _ _ _ _ c.self.invariant.1 c.args.end (leaves_by c.args.end c.self.view_is c.requires.there)

pub invariant_of-self : goal.invariant_of-self
invariant_of-self c =
    let i = c.self.inside in
    let end = c.args.end in
    let there = leaves_by end c.self.view_is c.requires.there in
    let none = sym c.sent.ensures.value ∙ no_entries c.sent.result.now c.is_empty.result c.is_empty.ensures c.if-is_empty.true in
    (c.self.invariant.0, publishes_nothing i.plan.value i.node i.clock i.horizon i.seat i.pins i.inlets i.outlets i.published c.self.invariant.1 end there none)

pub exchange-requires-clause-own : goal.exchange-requires-clause-own
exchange-requires-clause-own c = λ link at.
    let plan = c.buffer-none.new.self.plan in
    let now = c.buffer-none.new.self.clock in
    let same : c.self.inside.clock ≡ now = first_of (cc, search rules, grind (arith)) in
    c.buffer-none.ensures.empty ∙ sym (none_carried plan link now) ∙ ap (λ t. history plan link t now) (sym same)
