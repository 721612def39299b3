use Rattle.std.proofs.Common.{◌≡◌, ◌+◌, [], ◌++◌, get_or, length, take, drop, arith}
use Rattle.std.proofs.lemmas.List.{take_more, drop_more, drop_all}
use Rattle.single_port.specs.States.{off_state}
use Rattle.byte_forms.specs.Forms.{write_chain}
use Rattle.byte_forms.proofs.Lists.{writes_on, writes_all}
use Rattle.port_forms.specs.Ports.{next_port, ports}
use Rattle.port_forms.proofs.port.write_ports.Goals as goal

pub loop-p-preserved : goal.loop-p-preserved
loop-p-preserved c =
    let xs = c.args.states.now in
    let p = c.loop-p.p in
    let x = get_or xs p off_state in
    let front = take_more xs p off_state (omega (arith, c.told-states)) in
    let rest = drop_more xs p off_state (omega (arith, c.told-states)) in
    let so_far = rw rest at c.loop-p.invariant in
    let written : c.write_port.new.out ≡ c.loop-p.out ++ (next_port (take p xs)).write x = c.in_ok-write_port.ensures.value (length (take p xs)) in
    rw (written, front) (writes_on next_port c.loop-p.out (take p xs) x (drop (p + 1) xs) (c.args.out.now ++ write_chain next_port [] xs) so_far)

pub returns : goal.returns
unfolding ports
returns c =
    let xs = c.args.states.now in
    let p = c.loop-p.p in
    let so_far = rw (drop_all p xs (omega (arith, c.told-states))) at c.loop-p.invariant in
    record { value = writes_all next_port c.loop-p.out (take p xs) (c.args.out.now ++ write_chain next_port [] xs) so_far }
