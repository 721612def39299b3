-- What holds of the entries of logs holds of what contracts see of them.
use Rattle.std.proofs.Common.{List, [], ◌∷◌, map}
use Rattle.std.specs.List.{AllByRecursion}
use Rattle.snap_parts.specs.declared.log.SnapLog.{SnapLog}
use Rattle.snap_parts.specs.Parts.{LogRec, seen}
use Rattle.saved_laws.specs.Bytes.{CarryBytes}

pub all_seen : (logs : List SnapLog) → AllByRecursion (λ (log : SnapLog). CarryBytes log.entries.entries) logs
    → AllByRecursion (λ (log : LogRec). CarryBytes log.entries) (map seen logs)
all_seen [] h = tt
all_seen (log ∷ logs) h = (h.0, all_seen logs h.1)
