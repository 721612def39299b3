use Rattle.std.proofs.Common.{◌≡◌, List, map, take, length}
use Rattle.pin_scripts.specs.declared.line.Change.{Change}
use Rattle.pin_scripts.specs.Script.{shown}
use Rattle.pin_scripts.proofs.node_changes.NodeChanges.show.Given as goal

abbrev pub invariant-loop-port : goal.invariant-loop-port
invariant-loop-port l = record {
  shown_so_far : take l.port l.out.level ≡ map (λ (changes : List Change). shown changes l.slot) (take l.port l.self.pins);
  all : length l.out.level ≡ 29;
}
