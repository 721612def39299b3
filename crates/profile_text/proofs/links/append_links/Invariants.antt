use Rattle.std.proofs.Common.{◌≡◌, ◌++◌}
use Rattle.profile_text.specs.Counted.{links_by}
use Rattle.profile_text.proofs.links.append_links.Given as goal

abbrev pub invariant-loop-e : goal.invariant-loop-e
invariant-loop-e l = l.out ≡ l.initial.out ++ links_by l.node l.counts l.e
