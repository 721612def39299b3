use Rattle.std.proofs.Common.{◌<◌, ◌∙◌, refl, sym, ap, length, get_or, List, arith}
use Rattle.std.specs.Prelude.{◌==◌}
use Rattle.xs_model.specs.Ports.{level_of, levels_of}
use Rattle.xs_model.specs.Record.{PortRec}
use Rattle.buffered_ports.specs.Row.{row}
use Rattle.buffered_ports.proofs.Row.{row_length, read}
use Rattle.buffered_ports.proofs.High.{one_more, all_high, level_at}
use Rattle.buffered_ports.proofs.ports.Ports.all_high.Goals as goal

pub loop-p-preserved : goal.loop-p-preserved
loop-p-preserved c =
    let inside : c.loop-p.p < length c.self.inside.ports = omega (arith, c.loop-p-test.true, c.self.invariant.count) in
    one_more c.loop-p.p c.loop-p.mask c.with_bit-mask.result _ _ (omega (arith, c.loop-p-test.true)) c.with_bit-mask.type_inv c.loop-p.invariant
    (ap (λ level. level == 1)
    (c.level-level.ensures.value
    ∙ ap (λ (port : PortRec). level_of port.driven (get_or c.args.levels.now c.loop-p.p 0)) (read c.self.inside.ports (row c.self.inside) c.loop-p.p c.index-self-p.result refl inside)
    ∙ sym (level_at (row c.self.inside) c.args.levels.now c.loop-p.p (omega (arith, c.loop-p-test.true, row_length c.self.inside (row c.self.inside) refl c.self.invariant)) (omega (arith, c.loop-p-test.true, c.told-levels)))))
    c.with_bit-mask.ensures

pub returns : goal.returns
returns c p strobe is =
    all_high c.loop-p.p c.loop-p.mask (row c.self.inside) c.args.levels.now (omega (arith, c.loop-p-test.false, row_length c.self.inside (row c.self.inside) refl c.self.invariant)) c.loop-p.invariant strobe
    ∙ ap (λ (ports : List PortRec). get_or (levels_of ports c.args.levels.now) strobe 0 == 1) c.self.view_is
