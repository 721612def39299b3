-- At most one issue leaves every thread with known bits.
use Rattle.std.proofs.Common.{ℕ, Bool, true, false, Option, Some, None, List}
use Rattle.xs_base.specs.Numbers.{Word, ThreadNumber}
use Rattle.xs_model.specs.declared.event.Happen.{Happen}
use Rattle.xs_model.specs.declared.thread.Thread.{Thread}
use Rattle.xs_model.specs.declared.thread.Run.TheVariants.{Going, Paused}
use Rattle.xs_model.specs.declared.traps.TheConstants.{ILLEGAL_PC}
use Rattle.xs_model.specs.Threads.{HasKnownBits}
use Rattle.xs_model.specs.Record.{CoreRec, EnablingRec, thread_of, with_last}
use Rattle.xs_model.specs.Entry.{return_address}
use Rattle.xs_model.specs.Choices.{choice}
use Rattle.xs_model.specs.Picks.{picked}
use Rattle.xs_instructions.specs.declared.instr.Instr.{Instr}
use Rattle.xs_instructions.specs.declared.instr.Instr.TheVariants.{Words, Memory, Flow, Kernel, Threads, Resources}
use Rattle.xs_instructions.specs.Code.{code_at}
use Rattle.step_model.specs.Effect.{Setting, Effect, Done, Pause, Trap, Gone, own_of}
use Rattle.step_model.specs.Rows.{effect}
use Rattle.step_model.specs.Step.{halt_unless, trap, settled, executed, issue_begins, issued_with, issued_by, issued}
use Rattle.step_laws.specs.StatusBits.{AllKnown}
use Rattle.step_laws.proofs.Threads.{known, trapped_known, entered_known, with_thread_known, with_run_known}
use Rattle.step_laws.proofs.Rows.{words_known, memory_known, flow_known, kernel_known}
use Rattle.step_laws.proofs.Effects.{EffectKnown, words_effect_known, on_own_known}
use Rattle.step_laws.proofs.ThreadRows.{threads_known}
use Rattle.step_laws.proofs.ResourceRows.{resources_known}

module _ (core : CoreRec) (k : ThreadNumber) (all : AllKnown core.threads) where
  effect_known : (here : Setting) (ins : Instr) → EffectKnown (effect here core k ins)
  effect_known here (Words ins) = words_effect_known core k all here ins (words_known (thread_of core k) ins (all k))
  effect_known here (Memory ins) = on_own_known core k all _ (memory_known (own_of core k) ins (all k))
  effect_known here (Flow ins) = on_own_known core k all _ (flow_known (own_of core k) ins (all k))
  effect_known here (Kernel ins) = on_own_known core k all _ (kernel_known k (own_of core k) ins (all k))
  effect_known here (Threads ins) = threads_known here core k all ins
  effect_known here (Resources ins) = resources_known here core k all ins

  halt_known : (stands : Bool) (th : Thread) (happened : List Happen) → HasKnownBits th → AllKnown (halt_unless stands k th happened core).core.threads
  halt_known true th happened h = with_thread_known core k _ all h
  halt_known false th happened h = with_thread_known core k _ all (known _ h.sr h.ssr)

  trap_known : (code : List Instr) (number : ℕ) (value : Word) → AllKnown (trap code core k number value).core.threads
  trap_known code number value =
      halt_known _ _ _ (trapped_known (thread_of core k) number value (return_address number (thread_of core k)) (all k))

  settled_known : (code : List Instr) (ends : Effect) → EffectKnown ends → AllKnown (settled code core k ends).core.threads
  settled_known code (Done after happened) h = h
  settled_known code (Pause after wait happened) h = with_run_known after k (Paused wait) h
  settled_known code (Trap number value) h = trap_known code number value
  settled_known code (Gone after happened) h = h

  executed_known : (code : List Instr) (here : Setting) (found : Option Instr) → AllKnown (executed code here core k found).core.threads
  executed_known code here None = trap_known code ILLEGAL_PC _
  executed_known code here (Some ins) = settled_known code _ (effect_known here ins)

taken_known : (code : List Instr) (here : Setting) (core : CoreRec) (k : ThreadNumber) (taken : Option EnablingRec) → AllKnown core.threads → AllKnown (issued_with code here core k taken).core.threads
taken_known code here core k (Some taken) all = with_thread_known core k _ all (entered_known taken (thread_of core k) (all k))
taken_known code here core k None all = executed_known core k all code here (code_at code (thread_of core k).pc)

by_known : (code : List Instr) (here : Setting) (core : CoreRec) (who : Option ThreadNumber) → AllKnown core.threads → AllKnown (issued_by code here core who).core.threads
by_known code here core None all = all
by_known code here core (Some k) all =
    let begun = issue_begins core here.slot k in
    taken_known code here begun k (choice begun here.slot k) (with_run_known (with_last core k here.slot) k Going all)

pub issue_known : (code : List Instr) (here : Setting) (core : CoreRec) → AllKnown core.threads → AllKnown (issued code here core).core.threads
issue_known code here core all = by_known code here core (picked core here.slot) all
