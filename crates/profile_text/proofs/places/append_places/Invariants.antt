use Rattle.std.proofs.Common.{◌≡◌, ◌++◌}
use Rattle.profile_text.specs.Counted.{places_by}
use Rattle.profile_text.proofs.places.append_places.Given as goal

abbrev pub invariant-loop-place : goal.invariant-loop-place
invariant-loop-place l = l.out ≡ l.initial.out ++ places_by l.node l.lines l.counts l.place
