use Rattle.std.proofs.Common.{ap, sym, ◌∙◌, arith}
use Rattle.std.specs.Prelude.{slice_index_or}
use Rattle.xs_model.specs.Record.{unused_chan, unused_timer, off_port}
use Rattle.xs_model.specs.Time.{timer_holds}
use Rattle.xs_model.specs.Choices.{chan_is_ready, port_is_ready}
use Rattle.core_waits.proofs.able.ready.Goals as goal

pub returns : goal.returns
returns c = record {
  value =
      λ core chans timers ports.
      record {
        chans =
            λ n below.
            c.ready.ensures.value n below ∙ ap (λ chans. chan_is_ready (slice_index_or chans n unused_chan)) (sym chans);
        timers =
            λ n below.
            c.ready-2.ensures.value n below ∙ ap (λ timers. timer_holds c.args.slot (slice_index_or timers n unused_timer)) (sym timers);
        ports =
            λ n below.
            c.ready-3.ensures.value n (omega (arith, below)) ∙ ap (λ ports. port_is_ready (slice_index_or ports n off_port)) (sym ports);
      };
}
