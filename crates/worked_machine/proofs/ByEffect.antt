-- Rows by what they do: the facts that several rows share are proved here once.
use Rattle.std.proofs.Common.{◌≡◌, ℕ, [], ◌∷◌, refl, ap, ◌∙◌}
use Rattle.xs_base.specs.Numbers.{Word}
use Rattle.xs_model.specs.declared.thread.Thread.{Thread}
use Rattle.xs_model.specs.declared.thread.Run.TheVariants.{Free, Unstarted, AtSync, Going, Paused, Halted}
use Rattle.xs_model.specs.declared.thread.Wait.TheVariants.{Choice}
use Rattle.xs_model.specs.Record.{CoreRec, NodeRec}
use Rattle.xs_model.specs.AtWork.{AtWork, emitted_in}
use Rattle.xs_model.specs.Outside.{low_pins}
use Rattle.xs_instructions.specs.declared.instr.Instr.{Instr}
use Rattle.step_model.specs.Effect.{Setting, Effect, reg}
use Rattle.step_model.specs.Rows.{effect}
use Rattle.step_model.specs.ThreadRows.{as_master, sets_other}
use Rattle.step_model.specs.Step.{Stepped, before_issue, setting_of, issue_begins, settled, and_issued, note_levels}
use Rattle.worked_machine.specs.Slots.{node_of_code, no_arrivals, with_three}
use Rattle.worked_machine.specs.Threads.{other, next, crowd, crowd_named, in_10, leaves, by_0, RefusesNoSync, RefusesNoThread, to_set, Sets}
use Rattle.worked_machine.proofs.Computes.{computes}

-- ---- Slot 10 of a node, by what the issue of thread 0 does

abbrev moved_of : NodeRec → AtWork
moved_of rec = before_issue (node_of_code []) rec 10 no_arrivals low_pins

abbrev here_of : NodeRec → Setting
here_of rec = setting_of (node_of_code []) 10 low_pins (moved_of rec).rec

abbrev core_of : NodeRec → CoreRec
core_of rec = issue_begins (moved_of rec).rec.core 10 0

abbrev slot_with : Instr → NodeRec → Effect → Stepped
slot_with ins rec does =
    let m = note_levels low_pins (and_issued (moved_of rec) (settled (ins ∷ []) (core_of rec) 0 does)) in
    record { rec = m.rec; emitted = emitted_in 10 m }

-- a row that does this
module _ (ins : Instr) (does : Setting → CoreRec → Effect) (is : (here : Setting) (core : CoreRec) → effect here core 0 ins ≡ does here core) where
  ends : (rec : NodeRec) (after : Stepped) →
      in_10 ins rec ≡ slot_with ins rec (effect (here_of rec) (core_of rec) 0 ins) →
      slot_with ins rec (does (here_of rec) (core_of rec)) ≡ after →
      in_10 ins rec ≡ after
  ends rec after issue ended = issue ∙ ap (slot_with ins rec) (is (here_of rec) (core_of rec)) ∙ ended

-- ---- Rows of a master, on the synchroniser that r0 names

module _ (ins : Instr) (does : Setting → CoreRec → ℕ → Effect)
    (is : (here : Setting) (core : CoreRec) → effect here core 0 ins ≡ as_master here core 0 0 (does here core)) where
  by_sync : (rec : NodeRec) (after : Stepped) →
      in_10 ins rec ≡ slot_with ins rec (effect (here_of rec) (core_of rec) 0 ins) →
      slot_with ins rec (as_master (here_of rec) (core_of rec) 0 0 (does (here_of rec) (core_of rec))) ≡ after →
      in_10 ins rec ≡ after
  by_sync = ends ins (λ here core. as_master here core 0 0 (does here core)) is

  pub refuses_no_sync : RefusesNoSync ins
  unfolding computes
  refuses_no_sync = record {
    unused = by_sync (crowd_named 0x003) _ refl refl;
    not_its_master = by_sync (crowd_named 0x203) _ refl refl;
    number_7 = by_sync (crowd_named 0x703) _ refl refl;
    upper_half = by_sync (crowd_named 0x00010103) _ refl refl;
    nothing = by_sync (crowd_named 0) _ refl refl;
    port = by_sync (crowd_named 0x00010000) _ refl refl;
    timer = by_sync (crowd_named 0x101) _ refl refl;
    chan_end = by_sync (crowd_named 0x002) _ refl refl;
    thread = by_sync (crowd_named 0x504) _ refl refl;
    lock = by_sync (crowd_named 0x105) _ refl refl;
    clock = by_sync (crowd_named 0x106) _ refl refl;
  }

-- ---- Rows that set a register of the thread that r0 names, to the word in r1

module _ (ins : Instr) (set : Word → Thread → Thread)
    (is : (here : Setting) (core : CoreRec) → effect here core 0 ins ≡ sets_other here core 0 0 (set (reg core 0 1))) where
  by_thread : (rec : NodeRec) (after : Stepped) →
      in_10 ins rec ≡ slot_with ins rec (effect (here_of rec) (core_of rec) 0 ins) →
      slot_with ins rec (sets_other (here_of rec) (core_of rec) 0 0 (set (reg (core_of rec) 0 1))) ≡ after →
      in_10 ins rec ≡ after
  by_thread = ends ins (λ here core. sets_other here core 0 0 (set (reg core 0 1))) is

  refuses_no_thread : RefusesNoThread ins
  unfolding computes
  refuses_no_thread = record {
    itself = by_thread (crowd_named 0x004) _ refl refl;
    going = by_thread (crowd_named 0x104) _ refl refl;
    is_halted = by_thread (crowd_named 0x204) _ refl refl;
    free = by_thread (crowd_named 0x604) _ refl refl;
    paused = by_thread (crowd_named 0x704) _ refl refl;
    number_8 = by_thread (crowd_named 0x804) _ refl refl;
    upper_half = by_thread (crowd_named 0x00010504) _ refl refl;
    nothing = by_thread (crowd_named 0) _ refl refl;
    port = by_thread (crowd_named 0x00010000) _ refl refl;
    timer = by_thread (crowd_named 0x501) _ refl refl;
    chan_end = by_thread (crowd_named 0x002) _ refl refl;
    sync = by_thread (crowd_named 0x103) _ refl refl;
    lock = by_thread (crowd_named 0x105) _ refl refl;
    clock = by_thread (crowd_named 0x106) _ refl refl;
  }

  abbrev left : Thread → Stepped
  left three = leaves by_0 (crowd (next (with_three 0x304 0xabcd 0)) three)

  pub sets : (register_set : Thread → Thread) →
      set 0xabcd (other Unstarted) ≡ register_set (other Unstarted) → set 0xabcd (other AtSync) ≡ register_set (other AtSync) →
      Sets ins register_set
  unfolding computes
  sets register_set unstarted at_sync = record {
    unstarted = by_thread (to_set Unstarted) _ refl (ap left unstarted);
    at_sync = by_thread (to_set AtSync) _ refl (ap left at_sync);
    going = by_thread (to_set Going) _ refl refl;
    paused = by_thread (to_set (Paused Choice)) _ refl refl;
    free = by_thread (to_set Free) _ refl refl;
    is_halted = by_thread (to_set Halted) _ refl refl;
    refused = refuses_no_thread;
  }
