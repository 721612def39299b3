use Rattle.std.proofs.Common.{ℕ, ◌≡◌, ◌<◌, None, length, get_or, take}
use Rattle.std.specs.Prelude.{map}
use Rattle.link_ends.specs.States.{IsEndState}
use Rattle.switch_routes.specs.States.{place_state}
use Rattle.switch_routes.proofs.links.Links.state.Given as goal

-- those of the link ends below this one stand in their places
abbrev pub invariant-loop-end : goal.invariant-loop-end
invariant-loop-end l = record {
  count : 0 < l.end → length l.self ≡ 8;
  long : length l.states ≡ 8;
  done : take l.end l.states ≡ map place_state (take l.end l.self);
  facts : (k : ℕ) → k < l.end → IsEndState (place_state (get_or l.self k None));
}
