use Rattle.std.proofs.Common.{◌≡◌, ◌<◌, List, [], ◌∷◌, ◌++◌, length, get_or, sym, ap, ◌∙◌, arith}
use Rattle.std.proofs.lemmas.Grind.{common_steps}
use Rattle.sys_plan.specs.declared.WirePlan.{WirePlan}
use Rattle.run_plan.proofs.Starts.{wires-more}
use Rattle.run_plan.proofs.wiring.wires_of.Goals as goal

pub loop-wire-preserved : goal.loop-wire-preserved
loop-wire-preserved c =
    let wires = c.args.plan.now.wires in
    let lent = c.wires-wire-items.result.now in
    let i = c.loop-wire.wire-index in
    let d : WirePlan = record { a = 0; a_port = 0; b = 0; b_port = 0; delay = 0 } in
    let pushed : c.push.new.self.items ≡ c.loop-wire.wires.items ++ c.wire_of.result ∷ [] = grind (arith, common_steps) in
    let inside : i < length wires = omega (arith, ap (λ (xs : List WirePlan). length xs) c.wires-wire-items.ensures.value) in
    let more = wires-more wires i d (get_or lent i d) inside (ap (λ (xs : List WirePlan). get_or xs i d) (sym c.wires-wire-items.ensures.value)) in
    let start = c.loop-wire.invariant.start in
    let made = c.wire_of.ensures in
    record { start = pushed ∙ ((λ k. start k ++ made k ∷ []) ∙ sym more) }
