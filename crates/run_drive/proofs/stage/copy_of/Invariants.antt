use Rattle.std.proofs.Common.{◌≡◌, ◌+◌, ◌≤◌, length, take}
use Rattle.run_drive.proofs.stage.copy_of.Given as goal

-- the entries so far are copied, and there is room for the others
abbrev pub invariant-loop-e : goal.invariant-loop-e
invariant-loop-e l = record {
  copied : l.batch.entries ≡ take l.e-index l.entries;
  room : length l.entries ≤ l.e-index + l.batch.spare;
}
