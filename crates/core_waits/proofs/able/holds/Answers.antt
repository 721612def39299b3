use Rattle.std.proofs.Common.{List, ap, sym, ◌∙◌}
use Rattle.std.specs.Prelude.{slice_index_or}
use Rattle.std.specs.List.{list_all}
use Rattle.xs_model.specs.declared.thread.Thread.{Thread}
use Rattle.xs_model.specs.Threads.{fresh_thread}
use Rattle.xs_model.specs.Record.{SyncRec, unused_sync}
use Rattle.xs_model.specs.Waits.{holds, is_in}
use Rattle.core_waits.proofs.able.holds.Goals as goal

pub returns-in-Slaves : goal.returns-in-Slaves
returns-in-Slaves c = λ core events parts.
    c.all_in.ensures.value
    ∙ ap (list_all (λ k. is_in (slice_index_or c.args.threads.now k fresh_thread).run)) c.slaves.ensures.value
    ∙ ap (λ (syncs : List SyncRec). list_all (λ k. is_in (slice_index_or c.args.threads.now k fresh_thread).run) (slice_index_or syncs c.in-Slaves.sync unused_sync).slaves) (sym parts.syncs)
    ∙ ap (λ (threads : List Thread). list_all (λ k. is_in (slice_index_or threads k fresh_thread).run) (slice_index_or core.syncs c.in-Slaves.sync unused_sync).slaves) (sym parts.threads)
    ∙ sym (ap (holds core c.args.slot) c.in-Slaves.is)
