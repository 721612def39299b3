use Rattle.std.proofs.Common.{◌≡◌, false}
use Rattle.core_step.proofs.Quiet.{passes_nothing}
use Rattle.core_step.proofs.node_core.Core.slot_where.Goals as goal

pub returns-then-rests : goal.returns-then-rests
returns-then-rests c =
    let a = c.args in
    let nothing : a.arrives ≡ false = cc in
    record { passes = passes_nothing a.slot a.arrivals.now a.pins.now a.self.now c.rests.new.self c.clear.new.self (c.requires.arrives nothing) c.clear.ensures (c.rests.ensures.passes c.if-rests.true) }
