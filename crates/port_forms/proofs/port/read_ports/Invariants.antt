use Rattle.std.proofs.Common.{◌≡◌, ◌-◌, [], length, take}
use Rattle.byte_forms.specs.Forms.{read_chain}
use Rattle.port_forms.specs.Ports.{next_port}
use Rattle.port_forms.proofs.port.read_ports.Given as goal

abbrev pub invariant-loop-p : goal.invariant-loop-p
invariant-loop-p l =
    record {
      len : length l.states ≡ 29;
      so_far : read_chain next_port (29 - l.p) (take l.p l.states) l.from ≡ read_chain next_port 29 [] l.fn.from;
    }
