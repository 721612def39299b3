use Rattle.std.proofs.Common.{◌≡◌}
use Rattle.warning_model.specs.Ways.{with_links_often}
use Rattle.warning_text.proofs.places.add_links_often.Given as goal

abbrev pub invariant-loop-left : goal.invariant-loop-left
invariant-loop-left l = with_links_often l.left l.places.items l.links ≡ with_links_often l.times l.initial.places.items l.links

abbrev pub decreases-loop-left : goal.decreases-loop-left
decreases-loop-left l = l.left
