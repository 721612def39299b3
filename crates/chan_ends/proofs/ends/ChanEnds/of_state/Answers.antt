use Rattle.std.proofs.Common.{◌∙◌, ap, length, arith}
use Rattle.std.proofs.lemmas.List.{length-set}
use Rattle.std.proofs.lemmas.List.Elements.{All-from_recursion}
use Rattle.chan_ends.specs.States.{chan_of, IsChanState}
use Rattle.made_lists.proofs.Filled.{filled_more, filled_all}
use Rattle.chan_ends.proofs.ends.ChanEnds.of_state.Goals as goal

pub of_state-requires : goal.of_state-requires
of_state-requires c = record {
  facts = All-from_recursion IsChanState c.args.chans.now c.requires.facts c.loop-c.c c.index-chans-c.result (omega arith);
}

pub loop-c-preserved : goal.loop-c-preserved
loop-c-preserved c = record {
  long = ap length c.set.ensures ∙ length-set c.loop-c.ends c.loop-c.c c.of_state.result ∙ c.loop-c.invariant.long;
  done =
      rw (c.set.ensures, c.of_state.ensures.value, ← c.index-chans-c.is) (filled_more chan_of c.args.chans.now c.loop-c.ends c.loop-c.c c.index-chans-c.result (omega arith) (omega arith) c.index-chans-c.is c.loop-c.invariant.done);
}

pub returns : goal.returns
returns c = record {
  value = filled_all chan_of c.args.chans.now c.loop-c.ends c.loop-c.c (omega arith) (omega arith) c.loop-c.invariant.done;
}
