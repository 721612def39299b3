use Rattle.std.proofs.Common.{◌≡◌, ◌++◌, [], map, drop}
use Rattle.std.specs.Prelude.{slice_index_or}
use Rattle.trace_model.specs.Trace.{by_position}
use Rattle.profile_model.specs.Profile.{node_text}
use Rattle.profile_text.proofs.nodes.append_nodes.Given as goal

abbrev pub invariant-loop-n : goal.invariant-loop-n
invariant-loop-n l =
    l.out ++ by_position (λ n node. node_text l.plan (slice_index_or (map (λ numbers. numbers.items) l.lines) n []) l.slots n node) l.n (drop l.n l.nodes)
    ≡ l.initial.out ++ by_position (λ n node. node_text l.plan (slice_index_or (map (λ numbers. numbers.items) l.lines) n []) l.slots n node) 0 l.nodes
