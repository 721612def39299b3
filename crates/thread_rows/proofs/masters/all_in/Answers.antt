use Rattle.std.proofs.Common.{ap, ◌∙◌}
use Rattle.std.specs.Prelude.{slice_index_or}
use Rattle.std.specs.List.{list_all}
use Rattle.xs_model.specs.Threads.{fresh_thread}
use Rattle.xs_model.specs.Record.{CoreRec}
use Rattle.xs_model.specs.Waits.{is_in, all_in}
use Rattle.thread_rows.proofs.masters.all_in.Goals as goal

pub returns : goal.returns
returns c =
    c.all_in.ensures.value
    ∙ ap (list_all (λ k. is_in (slice_index_or c.units.inside.threads k fresh_thread).run)) c.slaves.ensures.value
    ∙ ap (λ (core : CoreRec). all_in core c.args.sync) c.units.view_is
