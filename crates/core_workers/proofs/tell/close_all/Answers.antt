use Rattle.std.proofs.Common.{◌<◌, length, get_or, arith}
use Rattle.core_workers.specs.Worker.{Closes}
use Rattle.core_workers.proofs.Passes.{all_zip_front, left_after, at_both}
use Rattle.core_workers.proofs.tell.close_all.Goals as goal

pub loop-writer-preserved : goal.loop-writer-preserved
loop-writer-preserved g c =
    let old = c.deref_mut-writer-items.result.now in
    let writers = c.loop-writer.writer-items in
    let k = c.loop-writer.writer-index in
    let y = c.close.new.writer in
    let within : k < length writers = omega arith in
    let within_old : k < length old = omega arith in
    let at_old = at_both old writers k c.loop-writer.invariant.left c.writer-item.result within in
    record {
      closes = all_zip_front (Closes c.args.cause) old writers k (get_or writers k c.writer-item.result) y within_old within at_old c.loop-writer.invariant.closes c.close.ensures.closes;
      left = left_after old writers k c.loop-writer.invariant.left y;
    }
