-- What is kept of the nodes' events are the first of each.
use Rattle.std.proofs.Common.{◌≡◌, List, [], ◌∷◌, map, refl}
use Rattle.std.specs.List.{AllZip}
use Rattle.xs_model.specs.declared.event.Event.{Event}
use Rattle.xs_model.specs.FirstEvents.{first_events}
use Rattle.trace_lines.specs.Kept.{KeptEvents, Keeps}
use Rattle.trace_merge.specs.Nodes.{events_of}

pub kept-first : (kept : List KeptEvents) (all : List (List Event)) → AllZip Keeps kept all → events_of kept ≡ map first_events all
kept-first [] [] h = refl
kept-first [] (events ∷ all) h = absurd h
kept-first (k ∷ kept) [] h = absurd h
kept-first (k ∷ kept) (events ∷ all) h =
    let first = h.0.first in
    let rest = kept-first kept all h.1 in
    λ i. first i ∷ rest i
