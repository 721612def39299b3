use Rattle.pin_wires.proofs.Over.{AreOverBelow}
use Rattle.pin_wires.proofs.levels.Levels.over.Given as goal

-- the ports below this one show what they have to, and the others what they showed
abbrev pub invariant-loop-port : goal.invariant-loop-port
invariant-loop-port l = AreOverBelow l.wired l.self-inside.last l.initial.view.level l.port l.view.level
