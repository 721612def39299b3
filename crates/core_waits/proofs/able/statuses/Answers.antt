use Rattle.std.proofs.Common.{◌≡◌, ℕ, zero, suc, ◌<◌, List, [], ◌∷◌, length, get_or, ap, arith}
use Rattle.std.proofs.lemmas.List.{get_or_default}
use Rattle.xs_model.specs.declared.thread.Thread.{Thread}
use Rattle.xs_model.specs.Status.{no_status}
use Rattle.xs_model.specs.Threads.{fresh_thread}
use Rattle.core_waits.proofs.able.statuses.Goals as goal

module _ (threads : List Thread) (default : Thread) (eight : length threads ≡ 8) where
  its : (k : ℕ) → k < 8 → (get_or threads k default).sr ≡ (get_or threads k fresh_thread).sr
  its k below = ap (λ (th : Thread). th.sr) (get_or_default threads k default fresh_thread (omega (arith, below, eight)))

  each : (k : ℕ) → k < 8
      → get_or ((get_or threads 0 default).sr ∷ (get_or threads 1 default).sr ∷ (get_or threads 2 default).sr ∷ (get_or threads 3 default).sr ∷ (get_or threads 4 default).sr ∷ (get_or threads 5 default).sr ∷ (get_or threads 6 default).sr ∷ (get_or threads 7 default).sr ∷ []) k no_status
      ≡ (get_or threads k fresh_thread).sr
  each zero below = its 0 below
  each (suc zero) below = its 1 below
  each (suc (suc zero)) below = its 2 below
  each (suc (suc (suc zero))) below = its 3 below
  each (suc (suc (suc (suc zero)))) below = its 4 below
  each (suc (suc (suc (suc (suc zero))))) below = its 5 below
  each (suc (suc (suc (suc (suc (suc zero)))))) below = its 6 below
  each (suc (suc (suc (suc (suc (suc (suc zero))))))) below = its 7 below
  each (suc (suc (suc (suc (suc (suc (suc (suc k)))))))) below = absurd (omega arith)

pub returns : goal.returns
returns c = each c.args.threads.now _ c.told-threads
