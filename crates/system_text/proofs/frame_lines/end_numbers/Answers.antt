use Rattle.std.proofs.Common.{arith}
use Rattle.system_text.proofs.BitForms.{ends_next, ends_refused, ends_done}
use Rattle.system_text.proofs.frame_lines.end_numbers.Goals as goal

pub returns-in-None : goal.returns-in-None
returns-in-None c = ends_refused c.args.words.now c.loop-word.word-index _ _ _ c.loop-word.invariant.so_far c.loop-word-test.true c.in-None.ensures.value

pub loop-word-preserved : goal.loop-word-preserved
loop-word-preserved c = record {
  so_far = rw c.push.ensures.items (ends_next c.args.words.now c.loop-word.word-index _ _ _ _ c.loop-word.invariant.so_far c.loop-word-test.true c.in-Some.ensures.value);
  count = omega (arith, c.push.ensures.len, c.loop-word.invariant.count);
}

pub returns : goal.returns
returns c = ends_done c.args.words.now c.loop-word.word-index _ _ c.loop-word.invariant.so_far c.loop-word-test.false
