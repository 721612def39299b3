use Rattle.std.proofs.Common.{◌≡◌, take, drop}
use Rattle.std.specs.List.{AllZip}
use Rattle.core_workers.specs.Worker.{Tells, StaysOutgoing, Told}
use Rattle.core_workers.proofs.tell.tell_all.Given as goal

abbrev pub invariant-loop-writer : goal.invariant-loop-writer
invariant-loop-writer l = record {
  tells : Tells l.cells l.runner l.writer-items;
  rest : l.runner ≡ record l.fn.runner { published = l.runner.published };
  stays : AllZip StaysOutgoing l.initial.writer-items l.writer-items;
  told : AllZip (Told l.fn.runner.clock) (take l.writer-index l.initial.writer-items) (take l.writer-index l.writer-items);
  left : drop l.writer-index l.writer-items ≡ drop l.writer-index l.initial.writer-items;
}
