use Rattle.std.proofs.Common.{◌≡◌, ◌++◌, take}
use Rattle.issue_model.specs.Issues.{registers_text}
use Rattle.issue_text.proofs.registers.append_registers.Given as goal

abbrev pub invariant-loop-i : goal.invariant-loop-i
invariant-loop-i l = l.out ≡ l.initial.out ++ registers_text l.pair.k l.done l.pair.j l.pair.before.now l.pair.after.now (take l.i-index l.numbers)
