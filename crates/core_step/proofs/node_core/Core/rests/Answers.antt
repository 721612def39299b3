use Rattle.std.proofs.Common.{◌≡◌, ◌<◌, ◌+◌, ◌-◌, true, refl, sym, ap, ◌∙◌, subst, arith}
use Rattle.xs_base.specs.Numbers.{Slot}
use Rattle.xs_model.specs.Record.{CoreRec, NodeRec}
use Rattle.step_model.specs.Step.{node_step}
use Rattle.quiet_laws.specs.Quiet.{core_counted}
use Rattle.quiet_laws.specs.Undisturbed.{no_arrivals}
use Rattle.core_step.specs.declared.pin_levels.PinLevels.{PinLevels}
use Rattle.core_step.specs.PinLevels.{from_outside}
use Rattle.core_step.specs.Core.{CoreValue, StandsAt, SentBefore}
use Rattle.core_step.specs.Quiet.{IsQuietTo}
use Rattle.core_step.specs.Inside.{value_of}
use Rattle.core_step.proofs.Quiet.{skipped, sooner, after_one, gives_nothing, quiet_after, sent_before_later}
use Rattle.core_step.proofs.node_core.Core.rests.Goals as goal
use Rattle.core_step.proofs.node_core.Core.rests.Goals.{After-note}

-- it begins to be quiet in this slot
begins : (c : After-note) → (c.self.inside.rest.from ≡ c.args.slot) × (c.args.slot < c.self.inside.rest.until)
begins c = let yes : c.begins.result ≡ true = cc in c.begins.ensures yes

quiet : (c : After-note) → IsQuietTo (value_of c.self.inside) c.args.slot c.self.inside.rest.until
quiet c =
    let its = begins c in
    subst (λ (from : Slot). IsQuietTo (value_of c.self.inside) from c.self.inside.rest.until) its.0 (c.self.invariant.rest (omega (arith, its.0, its.1)))

quiet_here : (c : After-note) → IsQuietTo (value_of c.self.inside) c.args.slot (c.args.slot + 1)
quiet_here c = sooner (value_of c.self.inside) c.args.slot (c.args.slot + 1) c.self.inside.rest.until (omega (arith, (begins c).1)) (quiet c)

counted : (c : After-note) → core_counted c.args.slot 1 c.self.inside.units ≡ c.pass.new.self
counted c =
    let one : 1 ≡ (c.args.slot + 1) - c.args.slot = omega arith in
    ap (λ n. core_counted c.args.slot n c.self.inside.units) one ∙ sym c.pass.ensures.counted

pub invariant_of-self : goal.invariant_of-self
invariant_of-self c = record {
  node = c.self.invariant.node;
  rest =
      λ less.
      let d = (goal.at.invariant_of-self c).After-note in
      let v = value_of d.self.inside in
      let there = quiet_after v d.args.slot 1 d.self.inside.rest.until d.args.pins.now (quiet d) in
      subst (λ (levels : PinLevels). IsQuietTo (record v { core = d.pass.new.self; levels = levels }) (d.args.slot + 1) d.self.inside.rest.until) (sym d.note.ensures.levels)
      (subst (λ (core : CoreRec). IsQuietTo (record v { core = core; levels = from_outside d.args.pins.now }) (d.args.slot + 1) d.self.inside.rest.until) (counted d) there);
}

pub returns-clause-passes : goal.returns-clause-passes
returns-clause-passes c = λ yes.
    let d = (goal.at.returns-clause-passes c).After-note in
    let a = d.args in
    let v = value_of d.self.inside in
    let n : Slot = a.slot + 1 in
    record {
      fixed = ap (λ (w : CoreValue). w.fixed) d.self.view_is;
      step =
          λ rec at.
          let here = subst (λ (w : CoreValue). StandsAt w rec a.slot) (sym d.self.view_is) at in
          let there =
          skipped d.first_stirring_slot.ensures.still d.quiet_slots_only_count.ensures.slots v rec a.slot n (λ t. a.pins.now) a.pins.now d.keeps.ensures.whole here (omega arith) (quiet_here d) (λ t. d.note.ensures.all) refl
          in
          subst (λ (w : CoreValue). StandsAt (record v { core = d.pass.new.self; levels = d.note.new.self }) (node_step w.fixed rec a.slot no_arrivals a.pins.now).rec n) d.self.view_is
          (subst (λ (levels : PinLevels). StandsAt (record v { core = d.pass.new.self; levels = levels }) (node_step v.fixed rec a.slot no_arrivals a.pins.now).rec n) (sym d.note.ensures.levels)
          (subst (λ (core : CoreRec). StandsAt (record v { core = core; levels = from_outside a.pins.now }) (node_step v.fixed rec a.slot no_arrivals a.pins.now).rec n) (sym d.pass.ensures.counted)
          (subst (λ (r : NodeRec). StandsAt (record v { core = core_counted a.slot (n - a.slot) v.core; levels = from_outside a.pins.now }) r n) (after_one v.fixed rec a.slot a.pins.now) there)));
      emissions =
          λ rec at.
          let here = subst (λ (w : CoreValue). StandsAt w rec a.slot) (sym d.self.view_is) at in
          sym (gives_nothing d.first_stirring_slot.ensures.still d.quiet_slots_only_count.ensures.slot v rec a.slot a.pins.now d.keeps.ensures.whole d.note.ensures.all here.stands (quiet_here d))
          ∙ ap (λ (w : CoreValue). (node_step w.fixed rec a.slot no_arrivals a.pins.now).emitted) d.self.view_is;
      levels = d.note.ensures.levels;
      next =
          sent_before_later a.slot n (omega arith) d.self.inside.network.links
          (subst (λ (v : CoreValue). SentBefore a.slot v.links) (sym d.self.view_is) d.requires.before);
    }
