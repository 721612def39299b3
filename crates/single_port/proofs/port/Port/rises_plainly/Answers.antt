use Rattle.std.proofs.Common.{ap, sym, ◌∙◌}
use Rattle.xs_model.specs.Record.{PortRec}
use Rattle.single_port.specs.Keeps.{PortOf}
use Rattle.single_port.proofs.Plain.{plain_level}
use Rattle.single_port.proofs.port.Port.rises_plainly.Goals as goal

pub returns-clause-port : goal.returns-clause-port
returns-clause-port c high =
    c.takes_level.ensures.port
    ∙ ap (λ (port : PortRec). let that : PortOf = record { width = c.args.self.now.width; port = port } in that)
    (sym (plain_level c.args.self.now.width c.args.outside high c.args.self.now.port c.requires.plain))
