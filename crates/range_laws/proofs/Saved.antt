-- What a snapshot keeps of a run is whole, and what is written of a run that goes on from it is the rest of the trace.
use Rattle.std.proofs.Common.{List, [], ◌∷◌}
use Rattle.std.specs.List.{AllByRecursion}
use Rattle.xs_base.specs.Numbers.{Slot}
use Rattle.xs_base.specs.declared.entry.Entry.{Entry}
use Rattle.sys_plan.specs.Plan.{Arc, arcs}
use Rattle.serial_model.specs.Serial.{serial}
use Rattle.snap_parts.specs.Parts.{LogRec}
use Rattle.snap_model.specs.Saved.{saved_logs}
use Rattle.saved_laws.specs.Bytes.{CarryBytes}
use Rattle.saved_laws.specs.Laws.{SystemsMayGoOn}
use Rattle.rest_laws.specs.Rest.{RestIsTrace}
use Rattle.range_laws.specs.Ranges.{RunsCarryBytes, RunsHaveByteDests, SavedRunsMayGoOn, SavedRunsGoOn}
use Rattle.range_laws.proofs.Runs.{AllCarry, kept, run_in_range}

pub logs_carry : (slot : Slot) (ds : List Arc) (histories : List (List Entry)) → AllCarry histories → AllByRecursion (λ (log : LogRec). CarryBytes log.entries) (saved_logs slot ds histories)
logs_carry slot [] histories all = tt
logs_carry slot (d ∷ ds) [] all = tt
logs_carry slot (d ∷ ds) (history ∷ histories) all = (kept _ history all.0, logs_carry slot ds histories all.1)

pub saved_may_go_on : RunsCarryBytes → SystemsMayGoOn → SavedRunsMayGoOn
saved_may_go_on carry goes plan slot is runs =
    goes plan slot is (run_in_range plan.nodes runs) (logs_carry slot (arcs plan) (serial plan slot).histories (carry plan slot is runs))

pub saved_go_on : RunsHaveByteDests → RestIsTrace → SavedRunsGoOn
saved_go_on dests rest plan slot slots is runs later = rest plan slot slots is (run_in_range plan.nodes runs) (dests plan slot is runs) later
