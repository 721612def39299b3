use Rattle.std.proofs.Common.{◌≡◌, ◌-◌, true, false, sym, ◌∙◌, subst}
use Rattle.quiet_model.specs.Clocks.{ports_counted}
use Rattle.quiet_model.specs.Stirs.{some_eligible, ports_stir}
use Rattle.quiet_laws.specs.Quiet.{StirsFirst}
use Rattle.core_step.specs.Core.{CoreValue, StandsAt}
use Rattle.core_step.specs.Inside.{value_of}
use Rattle.core_step.proofs.Quiet.{stirs_now, stirs_of}
use Rattle.core_step.proofs.node_core.Core.quiet_to.Goals as goal

pub returns-then-not-is_still-clause-first : goal.returns-then-not-is_still-clause-first
returns-then-not-is_still-clause-first c = λ rec pins at all.
    let a = c.args in
    let moves : c.is_still.result ≡ false = cc in
    stirs_now c.first_stirring_slot.ensures.other a.self.now.fixed rec a.from pins a.bound c.min.result (sym (c.is_still.ensures.value rec at.stands) ∙ moves) c.min.ensures

pub returns-clause-first : goal.returns-clause-first
returns-clause-first c = λ rec pins at all.
    let a = c.args in
    let v = value_of c.self.inside in
    let calm : c.is_still.result ≡ true = cc in
    let here = subst (λ (w : CoreValue). StandsAt w rec a.from) (sym c.self.view_is) at in
    let first =
    c.first_slots.ensures.either (λ t. ports_stir v.core.clocks t (ports_counted v.core.clocks a.from (t - a.from) v.core.ports)) (λ t. some_eligible v.core t) a.from a.bound
    c.next_fall-fall.result c.eligible_from.result c.next_fall-fall.ensures.first c.eligible_from.ensures.first
    in
    subst (λ (w : CoreValue). StirsFirst w.fixed rec a.from pins a.bound c.eligible_from.result) c.self.view_is
    (stirs_of c.first_stirring_slot.ensures.still v rec a.from a.bound c.eligible_from.result pins c.keeps.ensures.whole here.stands all
    (sym (c.is_still.ensures.value rec at.stands) ∙ calm) first)
