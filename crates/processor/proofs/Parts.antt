-- What an outcome says of a row on a part of the core is what it says of the core.
use Rattle.std.proofs.Common.{◌≡◌, ℕ, ◌<◌, List, length, get_or, ap, ◌∙◌, subst}
use Rattle.std.specs.Prelude.{IsTrue}
use Rattle.std.proofs.lemmas.List.{set-get_or, get_or_default}
use Rattle.xs_model.specs.declared.thread.Thread.{Thread}
use Rattle.xs_model.specs.declared.thread.Outcome.{Outcome}
use Rattle.xs_model.specs.declared.thread.Outcome.TheVariants as outcome
use Rattle.xs_model.specs.Threads.{fresh_thread}
use Rattle.xs_model.specs.Record.{CoreRec, thread_of, with_thread}
use Rattle.xs_instructions.specs.declared.instr.Instr.{Instr}
use Rattle.xs_instructions.specs.declared.instr.Instr.TheVariants.{Words, Memory, Flow, Kernel, Threads, Resources}
use Rattle.step_model.specs.Effect.{Setting, Leaving, Leaves, Traps, Own, own_of, with_own, on_registers, on_own, after_it}
use Rattle.step_model.specs.Rows.{effect, own_row}
use Rattle.step_model.specs.Outcomes.{EndsAs}
use Rattle.flow_unit.specs.Own.{is_own, own}
use Rattle.core_units.specs.Units.{Ends}
use Rattle.processor.specs.Issue.{gone_on}

-- a thread that is put back changes nothing
same_thread : (core : CoreRec) (k : ℕ) → with_thread core k (thread_of core k) ≡ core
same_thread core k = ap (λ (threads : List Thread). record core { threads = threads }) (set-get_or core.threads k fresh_thread)

module _ (core : CoreRec) (k : ℕ) where
  pub registers_end : (o : Outcome) (after : Thread) (row : Leaving Thread) → EndsAs o (thread_of core k) after row → Ends o core (with_thread core k (gone_on o after)) (on_registers core k row)
  registers_end outcome.Done after (Leaves th) is = ap (λ (t : Thread). with_thread core k (after_it t)) is
  registers_end outcome.Done after (Traps number value) is = absurd is
  registers_end (outcome.Trap et ed) after (Traps number value) is = (is.0, is.1, ap (with_thread core k) is.2 ∙ same_thread core k)
  registers_end (outcome.Trap et ed) after (Leaves th) is = absurd is
  registers_end (outcome.Pause wait) after row is = absurd is
  registers_end outcome.Gone after row is = absurd is

  part_end : (o : Outcome) (after : Own) (row : Leaving Own) → EndsAs o (own_of core k) after row → Ends o core (with_own core k after) (on_own core k row)
  part_end outcome.Done after (Leaves l) is = ap (with_own core k) is
  part_end outcome.Done after (Traps number value) is = absurd is
  part_end (outcome.Trap et ed) after (Traps number value) is = (is.0, is.1, ap (with_own core k) is.2 ∙ same_thread core k)
  part_end (outcome.Trap et ed) after (Leaves l) is = absurd is
  part_end (outcome.Pause wait) after row is = absurd is
  part_end outcome.Gone after row is = absurd is

  pub own_end : (here : Setting) (ins : Instr) (o : Outcome) (after : Own) → IsTrue (is_own ins) → EndsAs o (own_of core k) after (own_row k (own_of core k) ins) → Ends o core (with_own core k after) (effect here core k ins)
  own_end here (Memory ins) o after part is = part_end o after (own_row k (own_of core k) (Memory ins)) is
  own_end here (Flow ins) o after part is = part_end o after (own_row k (own_of core k) (Flow ins)) is
  own_end here (Kernel ins) o after part is = part_end o after (own_row k (own_of core k) (Kernel ins)) is
  own_end here (Words ins) o after part is = cc
  own_end here (Threads ins) o after part is = cc
  own_end here (Resources ins) o after part is = cc

  -- the same of a thread that was read with another default
  pub own_end_of : (here : Setting) (ins : Instr) (o : Outcome) (default : Thread) (after : Own) → k < length core.threads → IsTrue (is_own ins) → EndsAs o (own (get_or core.threads k default) core.memory) after (own_row k (own (get_or core.threads k default) core.memory) ins) → Ends o core (with_own core k after) (effect here core k ins)
  own_end_of here ins o default after within part is = own_end here ins o after part
      (subst (λ (th : Thread). EndsAs o (own th core.memory) after (own_row k (own th core.memory) ins)) (get_or_default core.threads k default fresh_thread within) is)
