use Rattle.std.proofs.Common.{ℕ, ◌≡◌, ◌<◌, ap, sym, ◌∙◌, arith}
use Rattle.xs_base.specs.Ids.{port_id, port_with, port_by}
use Rattle.xs_base.proofs.Ports.{its, found, none_with}
use Rattle.xs_base.proofs.ids.port_of.Goals as goal
use Rattle.xs_base.proofs.ids.port_of.Goals.{else-port-lt-PORTS-via-then-port-lt-PORTS+else-port_id-id, else-port-lt-PORTS-via-else-port-lt-PORTS}

pub returns-then-port_id-id-clause-value : goal.returns-then-port_id-id-clause-value
returns-then-port_id-id-clause-value c =
    sym (ap port_with (sym (sym c.port_id.ensures.value ∙ c.if-port_id-id.true)) ∙ found c.port_by-port.result c.if-port-lt-PORTS.true)

-- the port that has the identifier would be the one that was looked at
same : (id p q : ℕ) → p ≡ port_by id → q < 29 → port_id q ≡ id → p ≡ q
same id p q is below has = is ∙ ap port_by (sym has) ∙ its q below

pub returns-else-port-lt-PORTS-clause-value : goal.returns-else-port-lt-PORTS-clause-value
returns-else-port-lt-PORTS-clause-value c =
    elim c.else-port-lt-PORTS.branch [
      | else-port-lt-PORTS-via-then-port-lt-PORTS+else-port_id-id w ↦
          sym (none_with c.args.id (λ q below has. w.if-port_id-id.false (w.port_id.ensures.value ∙ ap port_id (same c.args.id c.port_by-port.result q c.port_by-port.ensures below has) ∙ has)))
      | else-port-lt-PORTS-via-else-port-lt-PORTS w ↦
          sym (none_with c.args.id (λ q below has. let it = same c.args.id c.port_by-port.result q c.port_by-port.ensures below has in omega (arith, it, below, w.if-port-lt-PORTS.false)))
    ]
