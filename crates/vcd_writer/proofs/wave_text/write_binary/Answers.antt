use Rattle.std.proofs.Common.{◌+◌, ◌-◌, ◌%◌, ◌∙◌, drop, arith}
use Rattle.std.proofs.lemmas.List.{length-set}
use Rattle.vcd_writer.proofs.Binary.{none_written, one_written, all_written, none_left}
use Rattle.vcd_writer.proofs.wave_text.write_binary.Goals as goal

pub loop-at-init : goal.loop-at-init
loop-at-init c = record {
  within = omega arith;
  size = c.told-buffer;
  written = none_written c.args.value c.args.buffer.now c.told-buffer;
}

pub loop-at-preserved : goal.loop-at-preserved
loop-at-preserved c =
    let l = c.loop-at in
    let known = l.invariant in
    record {
      within = omega (arith, known.within);
      size = length-set l.buffer (l.at - 1) (48 + l.left % 2) ∙ known.size;
      written = one_written l.left l.at l.buffer c.loop-at-test.true (omega (arith, known.within, known.size)) c.if-left-eq0.false ∙ known.written;
    }

pub returns-after-loop-at-clause-written : goal.returns-after-loop-at-clause-written
returns-after-loop-at-clause-written c =
    let l = c.loop-at in
    none_left l.left l.at (drop l.at l.buffer) c.loop-at-test.false ∙ l.invariant.written

pub returns-then-left-eq0-clause-written : goal.returns-then-left-eq0-clause-written
returns-then-left-eq0-clause-written c =
    let l = c.loop-at in
    let known = l.invariant in
    all_written l.left l.at l.buffer c.loop-at-test.true (omega (arith, known.within, known.size)) c.if-left-eq0.true ∙ known.written
