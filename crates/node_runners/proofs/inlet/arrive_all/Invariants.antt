use Rattle.std.proofs.Common.{◌≡◌, ◌++◌, map, take, drop}
use Rattle.node_runners.specs.Queue.{after_slot, arrivals_by}
use Rattle.node_runners.proofs.inlet.arrive_all.Given as goal

abbrev pub invariant-loop-end : goal.invariant-loop-end
invariant-loop-end l = record {
  left : l.inlets ≡ map (after_slot l.slot) (take l.end l.initial.inlets) ++ drop l.end l.initial.inlets;
  arrivals : l.arrivals ≡ arrivals_by l.slot (take l.end l.initial.inlets);
}
