use Rattle.std.proofs.Common.{◌≡◌, drop}
use Rattle.std.specs.List.{list_any}
use Rattle.xs_model.specs.Waits.{is_control}
use Rattle.chan_ends.proofs.chan_end.any_control.Given as goal

-- none of those before is a control token
abbrev pub invariant-loop-token : goal.invariant-loop-token
invariant-loop-token l = list_any is_control l.tokens ≡ list_any is_control (drop l.token-index l.tokens)
