use Rattle.std.proofs.Common.{◌≡◌, take, drop}
use Rattle.std.specs.List.{AllZip}
use Rattle.core_workers.specs.Worker.{Listens, StaysIncoming, Tried}
use Rattle.core_workers.proofs.hear.hear_all.Given as goal

abbrev pub invariant-loop-reader : goal.invariant-loop-reader
invariant-loop-reader l = record {
  listens : Listens l.cells l.runner l.reader-items;
  rest : l.runner ≡ record l.fn.runner { horizon = record l.fn.runner.horizon { ends = l.runner.horizon.ends } };
  stays : AllZip StaysIncoming l.initial.reader-items l.reader-items;
  tried : AllZip Tried (take l.reader-index l.initial.reader-items) (take l.reader-index l.reader-items);
  left : drop l.reader-index l.reader-items ≡ drop l.reader-index l.initial.reader-items;
}
