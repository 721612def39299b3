-- That what a run saves is read again, and goes on as the run, whatever the system text and the slot.
use Rattle.std.specs.Prelude.{ℕ, ◌≡◌, ◌≤◌, ◌<◌, ◌^◌, List}
use Rattle.xs_base.specs.Numbers.{Slot}
use Rattle.sys_plan.specs.Plan.{PlanRec}
use Rattle.system_model.specs.System.{Plan, system_of}
use Rattle.byte_forms.specs.Forms.{AreBytes}
use Rattle.snap_codec.specs.Snaps.{SnapRec, Snap, snap_bytes, snap_of}
use Rattle.snap_model.specs.Saved.{saved_at}
use Rattle.snap_model.specs.Rest.{rest_text, trace_from}

-- what is saved before a slot of a run of a plan that a text stands for
abbrev pub saved_snap : PlanRec → List ℕ → Slot → SnapRec
saved_snap plan text slot = record { text = text; body = saved_at plan slot }

-- its bytes stand for it
abbrev pub SavedIsRead : PlanRec → Type 0
SavedIsRead plan = (text : List ℕ) (slot : Slot) → AreBytes text → system_of text ≡ Plan plan → slot < 2 ^ 32 →
    snap_of (snap_bytes plan (saved_snap plan text slot)) ≡ Snap (saved_snap plan text slot)

-- what is written of a run that goes on from it is the trace of the whole run, but for the lines of the events before it
abbrev pub SavedGoesOn : PlanRec → Type 0
SavedGoesOn plan = (slot : Slot) (slots : ℕ) → slot ≤ slots → rest_text plan (saved_at plan slot) slots ≡ trace_from plan slot slots
