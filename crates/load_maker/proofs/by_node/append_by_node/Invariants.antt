use Rattle.std.proofs.Common.{◌≡◌, ◌++◌, ◌-◌}
use Rattle.std.specs.List.{flat_map, range_with_len}
use Rattle.load_maker.proofs.by_node.append_by_node.Given as goal

abbrev pub invariant-loop-i : goal.invariant-loop-i
invariant-loop-i g l =
    l.out ++ flat_map (g.P.NodeLines.text l.number) (range_with_len l.i (l.nodes - l.i))
    ≡ l.initial.out ++ flat_map (g.P.NodeLines.text l.number) (range_with_len 0 l.nodes)
