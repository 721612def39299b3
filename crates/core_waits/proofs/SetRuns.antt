-- What some threads do from now on, one by one.
use Rattle.std.proofs.Common.{ℕ, ◌≡◌, ◌<◌, List, ◌∷◌, length, get_or, ap}
use Rattle.std.specs.Prelude.{slice_set}
use Rattle.std.proofs.lemmas.List.{get_or_default}
use Rattle.xs_model.specs.declared.thread.Thread.{Thread}
use Rattle.xs_model.specs.declared.thread.Run.{Run}
use Rattle.xs_model.specs.Threads.{fresh_thread}
use Rattle.step_model.specs.ThreadRows.{with_runs}

pub with_first : (run : Run) (k : ℕ) (rest : List ℕ) (threads : List Thread) (default : Thread) → k < length threads → with_runs run (k ∷ rest) threads ≡ with_runs run rest (slice_set threads k (record (get_or threads k default) { run = run }))
unfolding with_runs
with_first run k rest threads default within =
    ap (λ (th : Thread). with_runs run rest (slice_set threads k (record th { run = run }))) (get_or_default threads k fresh_thread default within)
