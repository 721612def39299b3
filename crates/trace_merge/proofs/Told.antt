-- The events of the nodes node after node, those of one node more each time.
use Rattle.std.proofs.Common.{ℕ, ◌≡◌, ◌+◌, ◌<◌, ◌≤◌, List, ◌++◌, length, get_or, drop, ap, sym, ◌∙◌, append_assoc}
use Rattle.std.specs.Prelude.{All}
use Rattle.std.proofs.lemmas.List.{at_drop_more, drop_all, append-nil}
use Rattle.std.proofs.lemmas.List.Elements.{All-append, All-map, All-same}
use Rattle.xs_model.specs.declared.event.Event.{Event}
use Rattle.xs_model.specs.Events.{IsWithinCounts}
use Rattle.trace_lines.specs.Kept.{KeptEvents}
use Rattle.trace_model.specs.EventOrder.{Placed, told_at, node_after_node}
use Rattle.trace_merge.specs.Nodes.{events_of, AreWithinCounts, AreOfNodes}

-- the events of the nodes from position k on
abbrev pub told_from : ℕ → List KeptEvents → List Placed
told_from k nodes = node_after_node k (events_of (drop k nodes))

told-next : (k : ℕ) (nodes : List KeptEvents) (d node : KeptEvents) → k < length nodes → node ≡ get_or nodes k d → told_from k nodes ≡ told_at k node.events ++ told_from (k + 1) nodes
told-next k nodes d node below is =
    at_drop_more (λ (ns : List KeptEvents). node_after_node k (events_of ns)) nodes k d below
    ∙ ap (λ (n : KeptEvents). told_at k n.events ++ told_from (k + 1) nodes) (sym is)

pub told-more : (k : ℕ) (nodes : List KeptEvents) (d node : KeptEvents) (events : List Event) (so_far after all : List Placed) → k < length nodes → node ≡ get_or nodes k d → events ≡ node.events → after ≡ so_far ++ told_at k events → so_far ++ told_from k nodes ≡ all → after ++ told_from (k + 1) nodes ≡ all
told-more k nodes d node events so_far after all below is kept added h =
    ap (λ (t : List Placed). t ++ told_from (k + 1) nodes) (added ∙ ap (λ (es : List Event). so_far ++ told_at k es) kept)
    ∙ (append_assoc so_far (told_at k node.events) (told_from (k + 1) nodes)
    ∙ (ap (λ (t : List Placed). so_far ++ t) (sym (told-next k nodes d node below is)) ∙ h))

pub told-all : (k : ℕ) (nodes : List KeptEvents) (so_far all : List Placed) → length nodes ≤ k → so_far ++ told_from k nodes ≡ all → so_far ≡ all
told-all k nodes so_far all end h =
    sym (append-nil so_far)
    ∙ (ap (λ (ns : List KeptEvents). so_far ++ node_after_node k (events_of ns)) (sym (drop_all k nodes end)) ∙ h)

-- each of them is within its counts, and of one of the nodes
pub within-more : (k : ℕ) (events : List Event) (so_far after : List Placed) → after ≡ so_far ++ told_at k events → AreWithinCounts so_far → All IsWithinCounts events → AreWithinCounts after
within-more k events so_far after added h new =
    let within : Placed → Type 0 = λ e. IsWithinCounts e.1 in
    All-same within after (so_far ++ told_at k events) added
    (All-append within so_far (told_at k events) h (All-map within (λ (e : Event). (k, e)) events new))

pub of_nodes-more : (count k : ℕ) (events : List Event) (so_far after : List Placed) → after ≡ so_far ++ told_at k events → k < count → AreOfNodes count so_far → AreOfNodes count after
of_nodes-more count k events so_far after added below h =
    let of_nodes : Placed → Type 0 = λ e. e.0 < count in
    All-same of_nodes after (so_far ++ told_at k events) added
    (All-append of_nodes so_far (told_at k events) h (All-map of_nodes (λ (e : Event). (k, e)) events (λ i d inside. below)))
