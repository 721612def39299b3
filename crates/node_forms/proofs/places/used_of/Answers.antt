use Rattle.std.proofs.Common.{◌≡◌, ◌<◌, ◌∙◌, length, refl, arith}
use Rattle.std.proofs.lemmas.List.{length-set}
use Rattle.chan_ends.specs.declared.state.ChanState.{ChanState}
use Rattle.made_lists.proofs.Filled.{filled_more, filled_all}
use Rattle.node_forms.proofs.places.used_of.Goals as goal

pub loop-c-init : goal.loop-c-init
loop-c-init c = record { long = refl; done = refl }

pub loop-c-preserved : goal.loop-c-preserved
loop-c-preserved c =
    record {
      long = length-set c.loop-c.used c.loop-c.c _ ∙ c.loop-c.invariant.long;
      done = rw (← c.index-chans-c.is) (filled_more (λ (chan : ChanState). chan.used) c.args.chans.now c.loop-c.used c.loop-c.c c.index-chans-c.result (omega arith) (omega arith) c.index-chans-c.is
          c.loop-c.invariant.done);
    }

pub returns : goal.returns
returns c = filled_all (λ (chan : ChanState). chan.used) c.args.chans.now c.loop-c.used c.loop-c.c (omega arith) (omega arith) c.loop-c.invariant.done
