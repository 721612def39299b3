use Rattle.std.proofs.Common.{◌≡◌, ◌<◌, ◌≤◌, ◌∙◌, length, get_or, refl, sym, subst, arith}
use Rattle.std.specs.Prelude.{map}
use Rattle.std.specs.List.{AllByRecursion}
use Rattle.std.proofs.lemmas.List.{length-set, get_or_default}
use borrow.Author.Count.{below_more}
use Rattle.xs_model.specs.Record.{unused_chan}
use Rattle.chan_ends.specs.States.{chan_state, IsChan, IsChanState}
use Rattle.made_lists.proofs.Filled.{filled_more, filled_all}
use Rattle.chan_ends.proofs.States.{states-of-each}
use Rattle.chan_ends.proofs.ends.ChanEnds.state.Goals as goal

pub loop-c-init : goal.loop-c-init
loop-c-init c = record { long = c.default-states.ensures.long; done = refl; facts = λ k h. absurd (omega (arith, h)) }

pub loop-c-preserved : goal.loop-c-preserved
loop-c-preserved c =
    let ends = c.self.inside.ends in
    let place : c.loop-c.c < length ends = omega (arith, c.self.invariant.0) in
    let here : IsChan (get_or ends c.loop-c.c unused_chan) = subst IsChan (get_or_default ends c.loop-c.c c.index-self-c.result unused_chan place) c.state.ensures.facts in
    record {
      long = length-set c.loop-c.states c.loop-c.c c.state.result ∙ c.loop-c.invariant.long;
      done =
          rw (c.state.ensures.value, ← c.index-self-c.is, ← c.self.view_is) (filled_more chan_state ends c.loop-c.states c.loop-c.c c.index-self-c.result place (omega arith) c.index-self-c.is (rw (← c.self.view_is) at c.loop-c.invariant.done));
      facts =
          below_more (λ k. IsChan (get_or c.args.self.now k unused_chan)) c.loop-c.c c.loop-c.invariant.facts (rw (← c.self.view_is) here);
    }

pub returns : goal.returns
returns c =
    let long : length c.args.self.now ≤ 32 = rw (← c.self.view_is) (omega (arith, c.self.invariant.0)) in
    let value : c.loop-c.states ≡ map chan_state c.args.self.now = filled_all chan_state c.args.self.now c.loop-c.states c.loop-c.c (omega arith) (omega arith) c.loop-c.invariant.done in
    record {
      value = value;
      facts = subst (AllByRecursion IsChanState) (sym value) (states-of-each c.args.self.now 32 long (λ k h. c.loop-c.invariant.facts k (omega (arith, h))));
    }
