use Rattle.std.proofs.Common.{◌≡◌, take, drop}
use Rattle.std.specs.List.{AllZip}
use Rattle.core_workers.specs.Worker.{Closes}
use Rattle.core_workers.proofs.tell.close_all.Given as goal

abbrev pub invariant-loop-writer : goal.invariant-loop-writer
invariant-loop-writer g l = record {
  closes : AllZip (Closes l.cause) (take l.writer-index l.initial.writer-items) (take l.writer-index l.writer-items);
  left : drop l.writer-index l.writer-items ≡ drop l.writer-index l.initial.writer-items;
}
