use Rattle.std.proofs.Common.{◌≡◌, drop}
use Rattle.warning_model.specs.Ways.{with_links}
use Rattle.warning_text.proofs.places.add_links.Given as goal

abbrev pub invariant-loop-link : goal.invariant-loop-link
invariant-loop-link l = with_links l.places.items (drop l.link-index l.links) ≡ with_links l.initial.places.items l.links
