use Rattle.std.proofs.Common.{refl, ap, ◌∙◌, map, arith}
use Rattle.buffered_ports.specs.Row.{row}
use Rattle.buffered_ports.specs.States.{port_state}
use Rattle.buffered_ports.proofs.Row.{row_length}
use Rattle.buffered_ports.proofs.States.{all_kept, all_again}
use Rattle.buffered_ports.proofs.ports.Ports.state.Goals as goal

pub returns-clause-value : goal.returns-clause-value
returns-clause-value c =
    all_kept c.loop-p.p (row c.self.inside) c.loop-p.states (omega (arith, c.loop-p-test.false)) (row_length c.self.inside (row c.self.inside) refl c.self.invariant) c.loop-p.invariant
    ∙ ap (map port_state) c.self.view_is

pub returns-clause-again : goal.returns-clause-again
returns-clause-again c =
    all_again c.loop-p.p (row c.self.inside) c.loop-p.states (omega (arith, c.loop-p-test.false)) (row_length c.self.inside (row c.self.inside) refl c.self.invariant) c.loop-p.invariant
    ∙ c.self.view_is
