use Rattle.std.proofs.Common.{◌≡◌, ◌+◌, ◌≤◌, ◌++◌, length, take}
use Rattle.link_logs.proofs.log.put_after.Given as goal

-- the entries so far are copied, and there is room for the others
abbrev pub invariant-loop-e : goal.invariant-loop-e
invariant-loop-e l = record {
  copied : l.held.entries ≡ l.initial.held.entries ++ take l.e-index l.e-items;
  room : length l.e-items ≤ l.e-index + l.held.spare;
}
