use Rattle.std.proofs.Common.{◌≡◌, ◌++◌, [], take, drop}
use Rattle.byte_forms.specs.Forms.{write_chain}
use Rattle.port_forms.specs.Ports.{next_port}
use Rattle.port_forms.proofs.port.write_ports.Given as goal

abbrev pub invariant-loop-p : goal.invariant-loop-p
invariant-loop-p l =
    l.out ++ write_chain next_port (take l.p l.states) (drop l.p l.states) ≡ l.fn.out ++ write_chain next_port [] l.states
