-- What is written of counters.
use Rattle.std.specs.Prelude.{ℕ, ◌+◌, List, [], ◌++◌, length, slice_index_or}
use Rattle.xs_base.specs.declared.numbers.TheConstants.{THREADS, LINK_ENDS}
use Rattle.sys_plan.specs.declared.NodePlan.{NodePlan}
use Rattle.profile_model.specs.Profile.{places_text, threads_text, links_text}
use Rattle.run_counts.specs.declared.links.LinkCounts.{LinkCounts}
use Rattle.run_counts.specs.declared.nodes.NodeCounts.{NodeCounts}
use Rattle.run_counts.specs.declared.places.PlaceCounts.{PlaceCounts}
use Rattle.run_counts.specs.Tallies.{at}

abbrev pub places_by : NodePlan → List ℕ → PlaceCounts → ℕ → List ℕ
places_by node lines counts count = places_text node lines (at counts.issues.items) (at counts.pauses.items) (at counts.waits.items) count

abbrev pub threads_by : NodePlan → ℕ → List (List ℕ) → ℕ → List ℕ
threads_by node slots counts count = threads_text node slots (λ k. at (slice_index_or counts k [])) count

abbrev pub links_by : NodePlan → LinkCounts → ℕ → List ℕ
links_by node counts count = links_text node (at counts.tokens) (at counts.full) count

-- of a node, where its instructions are of these lines
abbrev pub node_by : NodePlan → List ℕ → ℕ → NodeCounts → List ℕ
node_by node lines slots counts =
    places_by node lines counts.places (length node.image.code + 1) ++ (threads_by node slots counts.threads THREADS ++ links_by node counts.links LINK_ENDS)
