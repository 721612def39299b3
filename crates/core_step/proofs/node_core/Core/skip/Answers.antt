use Rattle.std.proofs.Common.{◌≡◌, ◌+◌, ◌-◌, sym, subst, arith}
use Rattle.xs_base.specs.Numbers.{Slot}
use Rattle.xs_model.specs.Record.{CoreRec}
use Rattle.quiet_laws.specs.Undisturbed.{undisturbed_until}
use Rattle.core_step.specs.declared.pin_levels.PinLevels.{PinLevels}
use Rattle.core_step.specs.PinLevels.{from_outside}
use Rattle.core_step.specs.Core.{CoreValue, StandsAt, SentBefore}
use Rattle.core_step.specs.Quiet.{IsQuietTo}
use Rattle.core_step.specs.Inside.{value_of}
use Rattle.core_step.proofs.Quiet.{skipped, sent_before_later, quiet_after}
use Rattle.core_step.proofs.node_core.Core.skip.Goals as goal

pub returns-clause-step : goal.returns-clause-step
returns-clause-step c = λ rec pins at all its.
    let a = c.args in
    let v = value_of c.self.inside in
    let here = subst (λ (w : CoreValue). StandsAt w rec a.from) (sym c.self.view_is) at in
    let quiet = subst (λ (w : CoreValue). IsQuietTo w a.from a.to) (sym c.self.view_is) c.requires.quiet in
    let there = skipped c.first_stirring_slot.ensures.still c.quiet_slots_only_count.ensures.slots v rec a.from a.to pins a.last.now c.keeps.ensures.whole here c.requires.some quiet all its in
    subst (λ (w : CoreValue). StandsAt (record v { core = c.pass.new.self; levels = c.note.new.self }) (undisturbed_until w.fixed rec a.from pins a.to) a.to) c.self.view_is
    (subst (λ (levels : PinLevels). StandsAt (record v { core = c.pass.new.self; levels = levels }) (undisturbed_until v.fixed rec a.from pins a.to) a.to) (sym c.note.ensures.levels)
    (subst (λ (core : CoreRec). StandsAt (record v { core = core; levels = from_outside a.last.now }) (undisturbed_until v.fixed rec a.from pins a.to) a.to) (sym c.pass.ensures.counted) there))

pub returns-clause-after : goal.returns-clause-after
returns-clause-after c =
    sent_before_later c.args.from c.args.to (omega (arith, c.requires.some)) c.self.inside.network.links
    (subst (λ (v : CoreValue). SentBefore c.args.from v.links) (sym c.self.view_is) c.requires.before)

-- what was known of the slots behind these is known still
pub invariant_of-self : goal.invariant_of-self
invariant_of-self c = record {
  node = c.self.invariant.node;
  rest =
      λ less.
      let a = c.args in
      let v = value_of c.self.inside in
      let known = c.self.inside.rest in
      let left = c.after-self-inside.result in
      let its = c.after-self-inside.ensures less in
      let there : a.from + (a.to - a.from) ≡ left.from = omega (arith, its.1.0, c.requires.some) in
      let quiet = subst (λ (from : Slot). IsQuietTo v from known.until) its.0 (c.self.invariant.rest (omega (arith, less, its.0, its.1.0, its.1.1, c.requires.some))) in
      let after = quiet_after v a.from (a.to - a.from) known.until a.last.now quiet in
      let noted =
      subst (λ (levels : PinLevels). IsQuietTo (record v { core = c.pass.new.self; levels = levels }) (a.from + (a.to - a.from)) known.until) (sym c.note.ensures.levels)
      (subst (λ (core : CoreRec). IsQuietTo (record v { core = core; levels = from_outside a.last.now }) (a.from + (a.to - a.from)) known.until) (sym c.pass.ensures.counted) after) in
      let value = value_of (record c.self.inside { units = c.pass.new.self; levels = c.note.new.self; rest = left }) in
      subst (λ (from : Slot). IsQuietTo value from left.until) there (subst (λ (until : Slot). IsQuietTo value (a.from + (a.to - a.from)) until) (sym its.1.1) noted);
}
