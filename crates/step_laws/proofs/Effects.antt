-- How an issue ends, with known bits in every thread of its core.
use Rattle.std.proofs.Common.{Bool, true, false, if◌then◌else◌, []}
use Rattle.xs_base.specs.Numbers.{Slot, ThreadNumber, Identifier}
use Rattle.xs_model.specs.declared.thread.Thread.{Thread}
use Rattle.xs_model.specs.declared.thread.Wait.TheVariants.{Divider}
use Rattle.xs_model.specs.declared.traps.TheConstants.{ILLEGAL_RESOURCE}
use Rattle.xs_model.specs.Record.{CoreRec, thread_of, with_thread}
use Rattle.xs_model.specs.Waits.{division_is_over}
use Rattle.xs_instructions.specs.declared.instr.WordIns.{WordIns}
use Rattle.step_model.specs.Effect.{Setting, Effect, Done, Pause, Trap, Gone, allowed_where, Leaving, Leaves, Traps, Own, after_it, on_own, on_registers}
use Rattle.step_model.specs.WordRows.{words_row}
use Rattle.step_model.specs.DividerRows.{shares_divider, with_division, on_divider, words_effect}
use Rattle.step_laws.specs.StatusBits.{AllKnown}
use Rattle.step_laws.proofs.Threads.{on_known, with_thread_known}
use Rattle.step_laws.proofs.Rows.{LeftKnown, OwnKnown}

-- where an effect has a core
abbrev pub EffectKnown : Effect → Type 0
EffectKnown (Done core happened) = AllKnown core.threads
EffectKnown (Pause core wait happened) = AllKnown core.threads
EffectKnown (Trap number value) = Unit {0}
EffectKnown (Gone core happened) = AllKnown core.threads

-- one effect or another
pub branch_known : (holds : Bool) (x y : Effect) → EffectKnown x → EffectKnown y → EffectKnown (if holds then x else y)
branch_known true x y one other = one
branch_known false x y one other = other

pub allowed_known : (holds : Bool) (name : Identifier) (after : CoreRec) → AllKnown after.threads → EffectKnown (allowed_where holds name after)
allowed_known holds name after all = branch_known holds _ (Trap ILLEGAL_RESOURCE name) all tt

module _ (core : CoreRec) (k : ThreadNumber) (all : AllKnown core.threads) where
  on_registers_known : (left : Leaving Thread) → LeftKnown left → EffectKnown (on_registers core k left)
  on_registers_known (Leaves th) h = with_thread_known core k _ all (on_known th h)
  on_registers_known (Traps number value) h = tt

  on_divider_known : (slot : Slot) (left : Leaving Thread) → LeftKnown left → EffectKnown (on_divider slot core k left)
  on_divider_known slot (Leaves th) h =
      branch_known (division_is_over core.slots.division slot) (Done (with_division (with_thread core k (after_it th)) slot) []) (Pause core Divider [])
      (with_thread_known core k _ all (on_known th h)) all
  on_divider_known slot (Traps number value) h = tt

  pub words_effect_known : (here : Setting) (ins : WordIns) → LeftKnown (words_row (thread_of core k) ins) → EffectKnown (words_effect here core k ins)
  words_effect_known here ins h =
      let row = words_row (thread_of core k) ins in
      branch_known (shares_divider here.edition ins) (on_divider here.slot core k row) (on_registers core k row) (on_divider_known here.slot row h) (on_registers_known row h)

  pub on_own_known : (left : Leaving Own) → OwnKnown left → EffectKnown (on_own core k left)
  on_own_known (Leaves l) h = with_thread_known core k _ all h
  on_own_known (Traps number value) h = tt
