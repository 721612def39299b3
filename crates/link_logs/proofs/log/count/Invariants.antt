use Rattle.std.proofs.Common.{◌≡◌, ◌+◌, ◌≤◌, take}
use Rattle.link_logs.specs.Entries.{tokens_in, credits_in}
use Rattle.link_logs.proofs.log.count.Given as goal

-- the entries so far are counted
abbrev pub invariant-loop-e : goal.invariant-loop-e
invariant-loop-e l = record {
  tokens : l.tokens ≡ tokens_in (take l.e-index l.entries);
  credits : l.credits ≡ credits_in (take l.e-index l.entries);
  bound : l.tokens + l.credits ≤ l.e-index;
}
