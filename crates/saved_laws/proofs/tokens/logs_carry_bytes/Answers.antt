use Rattle.std.proofs.Common.{arith}
use Rattle.std.proofs.lemmas.List.Elements.{recursion_from_All}
use Rattle.snap_parts.specs.declared.log.SnapLog.{SnapLog}
use Rattle.saved_laws.specs.Bytes.{CarryBytes}
use Rattle.saved_laws.proofs.Seen.{all_seen}
use Rattle.saved_laws.proofs.tokens.logs_carry_bytes.Goals as goal

pub returns : goal.returns
returns c = record {
  bytes = all_seen c.args.logs.now (recursion_from_All (λ (log : SnapLog). CarryBytes log.entries.entries) c.args.logs.now
      (λ k d lt. c.loop-log.invariant k d (omega arith) (omega (arith, lt))));
}
