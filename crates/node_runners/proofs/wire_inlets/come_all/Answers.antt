use Rattle.std.proofs.Common.{◌≡◌, ◌≢◌, ◌<◌, List, length, get_or, ap, ◌∙◌, subst, arith}
use Rattle.std.specs.Prelude.{slice_set}
use Rattle.std.proofs.lemmas.List.{get_or_default}
use Rattle.std.proofs.lemmas.List.Edits.{map_over_more}
use Rattle.xs_base.specs.Numbers.{PortNumber}
use Rattle.node_runners.specs.declared.wire_inlets.WireInlet.{WireInlet}
use Rattle.node_runners.specs.Wires.{no_wire_in, wire_in, wire_after, level_by}
use Rattle.node_runners.proofs.Levels.{rest-there, all-come-more}
use Rattle.node_runners.proofs.wire_inlets.come_all.Goals as goal

pub loop-wire-preserved : goal.loop-wire-preserved
loop-wire-preserved c =
    let slot = c.args.slot in
    let i = c.loop-wire.wire-index in
    let old = c.args.wires.now in
    let now = c.loop-wire.wires in
    let item = c.wire-item.result in
    let within : i < length old = omega arith in
    let within_now : i < length now = omega arith in
    let here : WireInlet = get_or now i item in
    let own : here ≡ get_or now i here = get_or_default now i item here within_now in
    let is : here ≡ wire_in old i =
    get_or_default now i item no_wire_in within_now ∙ ap (λ (xs : List WireInlet). get_or xs i no_wire_in) c.loop-wire.invariant.left ∙ rest-there (wire_after slot) old i no_wire_in within in
    let before = c.loop-wire.pins.levels in
    let after = c.come.new.pins.levels in
    record {
      left = ap (slice_set now i) c.come.ensures.left ∙ map_over_more (wire_after slot) old now i here within c.loop-wire.invariant.left own;
      below =
          all-come-more slot old c.args.pins.now c.requires.apart i within c.loop-wire.pins c.loop-wire.invariant.below c.come.new.pins c.come.ensures.pins
          (subst (λ (w : WireInlet). get_or after w.port 0 ≡ level_by slot w (get_or before w.port 0)) is c.come.ensures.level)
          (subst (λ (w : WireInlet). (port : PortNumber) → port ≢ w.port → get_or after port 0 ≡ get_or before port 0) is c.come.ensures.others);
    }
