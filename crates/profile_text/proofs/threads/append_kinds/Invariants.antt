use Rattle.std.proofs.Common.{◌≡◌, ◌++◌}
use Rattle.profile_model.specs.Profile.{kinds_text}
use Rattle.run_counts.specs.Tallies.{at}
use Rattle.profile_text.proofs.threads.append_kinds.Given as goal

abbrev pub invariant-loop-i : goal.invariant-loop-i
invariant-loop-i l = l.out ≡ l.initial.out ++ kinds_text (at l.counts) l.i
