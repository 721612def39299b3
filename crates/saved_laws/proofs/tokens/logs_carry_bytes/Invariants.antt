use Rattle.std.specs.List.{AllWithin}
use Rattle.snap_parts.specs.declared.log.SnapLog.{SnapLog}
use Rattle.saved_laws.specs.Bytes.{CarryBytes}
use Rattle.saved_laws.proofs.tokens.logs_carry_bytes.Given as goal

-- the entries of those before this one carry bytes
abbrev pub invariant-loop-log : goal.invariant-loop-log
invariant-loop-log l = AllWithin (λ (log : SnapLog). CarryBytes log.entries.entries) l.logs 0 l.log-index
