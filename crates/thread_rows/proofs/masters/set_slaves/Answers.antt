use Rattle.std.proofs.Common.{ℕ, ◌≡◌, List, [], ◌∷◌, length, refl, ap, ◌∙◌}
use Rattle.std.proofs.lemmas.List.{length-set}
use Rattle.xs_model.specs.declared.thread.Thread.{Thread}
use Rattle.xs_model.specs.declared.thread.Run.{Run}
use Rattle.step_model.specs.ThreadRows.{with_runs}
use Rattle.thread_rows.proofs.masters.set_slaves.Goals as goal

as_many : (run : Run) (ks : List ℕ) (threads : List Thread) → length (with_runs run ks threads) ≡ length threads
unfolding with_runs
as_many run [] threads = refl
as_many run (k ∷ ks) threads = as_many run ks _ ∙ length-set threads k _

pub invariant_of-units : goal.invariant_of-units
invariant_of-units c = record {
  eight = ap length c.set_runs.ensures.set ∙ as_many c.args.run _ c.units.inside.threads ∙ c.units.invariant.eight;
}
