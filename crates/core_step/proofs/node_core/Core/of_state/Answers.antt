use Rattle.std.proofs.Common.{◌≡◌, List, ℕ, length, ap, sym, ◌∙◌, subst, arith}
use Rattle.std.proofs.lemmas.Grind.{common_steps}
use Rattle.net_model.specs.Switch.{Routes}
use Rattle.core_step.specs.Core.{SentBefore}
use Rattle.core_step.specs.Network.{NetworkRec, routes_of}
use Rattle.core_step.proofs.Said.{row_gaps, row_before}
use Rattle.core_step.proofs.States.{stands_by}
use Rattle.core_step.proofs.node_core.Core.of_state.Goals as goal

pub returns-clause-fixed : goal.returns-clause-fixed
returns-clause-fixed c =
    let plan = c.args.plan.now in
    let gaps = c.args.gaps.now in
    let ends = c.args.state.now.ends in
    let same : length gaps ≡ length ends = omega (arith, c.told-gaps, c.of_state.ensures.count) in
    let routes : routes_of c.of_state.result ≡ record { id = plan.id; ways = plan.ways; nets = plan.nets; gaps = gaps } =
    ap routes_of c.of_state.ensures.value
    ∙ ap (λ (g : List ℕ). let r : Routes = record { id = plan.id; ways = plan.ways; nets = plan.nets; gaps = g } in r)
    (row_gaps gaps ends same (λ k h. c.requires.facts.there k (omega (arith, h, c.told-gaps))))
    in
    grind (arith, common_steps, routes)

pub returns-clause-stands : goal.returns-clause-stands
returns-clause-stands c = λ slot before.
    stands_by _ c.args.gaps.now c.args.state.now slot (omega (arith, c.told-gaps, c.of_state.ensures.count)) c.requires.facts (grind (arith, common_steps)) c.of_state-2.ensures
    (ap (λ (n : NetworkRec). n.switch.inputs) c.of_state.ensures.value) (ap (λ (n : NetworkRec). n.links) c.of_state.ensures.value) before

pub returns-clause-before : goal.returns-clause-before
returns-clause-before c = λ slot before.
    subst (SentBefore slot) (sym (ap (λ (n : NetworkRec). n.links) c.of_state.ensures.value)) (row_before slot c.args.gaps.now c.args.state.now.ends before.ends)
