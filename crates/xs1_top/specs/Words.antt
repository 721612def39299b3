-- What is known of what words say that are of a form.
use Rattle.std.specs.Prelude.{◌≤◌}
use Rattle.wave_model.specs.Reads.{most_wave_slots}
use Rattle.answer_model.specs.declared.Form.{Form}
use Rattle.answer_model.specs.declared.Form.TheVariants.{Free, Serial, Rounds, Play, Make, Check, Save, Resume, Routes, Wave, PinsOf}
use Rattle.answer_model.specs.Forms.{most_slots}

-- a run of the form, that in which it plays, and that which it saves or resumes, has no more slots than a run may have, and a wave no more
-- than a wave may have; and a node's number is within its range
abbrev pub HasFewSlots : Form → Type 0
HasFewSlots (Free slots) = slots ≤ most_slots
HasFewSlots (Serial slots) = slots ≤ most_slots
HasFewSlots (Rounds slots) = slots ≤ most_slots
HasFewSlots (Play slots) = slots ≤ most_slots
HasFewSlots (Make number) = Unit {0}
HasFewSlots Check = Unit {0}
HasFewSlots (Save slots) = slots ≤ most_slots
HasFewSlots (Resume slots) = slots ≤ most_slots
HasFewSlots Routes = Unit {0}
HasFewSlots (Wave slots) = slots ≤ most_wave_slots
HasFewSlots (PinsOf node) = node ≤ 99
