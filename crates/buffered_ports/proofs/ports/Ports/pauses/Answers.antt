use Rattle.std.proofs.Common.{ℕ, List, ◌≡◌, ◌<◌, Bool, true, false, cond, Some, length, get_or, refl, ap, ◌∙◌, arith}
use Rattle.xs_model.specs.PortActions.{Refused, done, may_strobe}
use Rattle.xs_model.specs.Record.{PortRec}
use Rattle.single_port.specs.Asks.{acted, wait_of}
use Rattle.single_port.specs.declared.answers.Ask.{Ask}
use Rattle.single_port.specs.declared.answers.Ask.TheVariants as ask
use Rattle.buffered_ports.specs.Asks.{port_at, asked}
use Rattle.buffered_ports.proofs.Row.{read}
use Rattle.buffered_ports.proofs.ports.Ports.pauses.Goals as goal

-- where a strobe is asked for, no thread waits, whether it is allowed or not
no_wait : (allowed on : Bool) (after : PortRec) → wait_of (cond on (done after) Refused) ≡ wait_of (cond allowed (cond on (done after) Refused) Refused)
no_wait true on after = refl
no_wait false true after = refl
no_wait false false after = refl

waits_alike : (ask : Ask) (ports : List PortRec) (p pin : ℕ) (port : PortRec) → wait_of (acted ask p pin port) ≡ wait_of (asked ask ports p pin port)
waits_alike (ask.Strobe (Some strobe)) ports p pin port = no_wait (may_strobe p strobe (port_at ports strobe)) port.on (record port { strobe = Some strobe })
waits_alike _ ports p pin port = refl

pub returns : goal.returns
returns c =
    let inside : c.args.port < length c.self.inside.ports = omega (arith, c.requires.port, c.self.invariant.count) in
    let here : (get_or c.self.inside.ports c.args.port c.index-self-port.result).port ≡ port_at c.args.self.now c.args.port =
    read c.self.inside.ports c.args.self.now c.args.port c.index-self-port.result c.self.view_is inside
    in
    record {
      value = λ pin. c.pauses.ensures pin
          ∙ ap (λ port. wait_of (acted c.args.ask c.args.port pin port)) here
          ∙ waits_alike c.args.ask c.args.self.now c.args.port pin (port_at c.args.self.now c.args.port);
    }
