use Rattle.std.proofs.Common.{◌≡◌, ◌+◌, ℕ, Bool, List, ap, sym, ◌∙◌, subst, arith}
use Rattle.std.specs.Prelude.{slice_index_or}
use Rattle.std.proofs.lemmas.List.{get_or_default}
use Rattle.xs_model.specs.declared.thread.Thread.{Thread}
use Rattle.xs_model.specs.Masks.{in_mask}
use Rattle.xs_model.specs.Threads.{fresh_thread}
use Rattle.xs_model.specs.Record.{CoreRec, EnabledRec, thread_of}
use Rattle.xs_model.specs.Picks.{goes_or_holds}
use Rattle.core_waits.specs.Parts.{HasParts}
use Rattle.core_waits.proofs.Told.{IsTold, with_one, without_one}
use Rattle.core_waits.proofs.able.going.Goals as goal
use Rattle.core_waits.proofs.able.going.Goals.{Joined-goes, then-goes, else-goes}

-- what is told of this thread is what is told of the one with its number
told_here : (c : Joined-goes) (core : CoreRec) (events : EnabledRec) → HasParts core c.args.threads.now c.args.slots.now c.args.chans.now c.args.timers.now c.args.syncs.now c.args.ports.now events → c.goes.result ≡ goes_or_holds core c.args.slot (thread_of core c.loop-k.k).run
told_here c core events parts =
    c.goes.ensures core events parts
    ∙ ap (λ (th : Thread). goes_or_holds core c.args.slot th.run) (get_or_default c.args.threads.now c.loop-k.k _ fresh_thread (omega (arith, c.loop-k-test.true, c.told-threads)))
    ∙ ap (λ (threads : List Thread). goes_or_holds core c.args.slot (slice_index_or threads c.loop-k.k fresh_thread).run) (sym parts.threads)

pub loop-k-preserved : goal.loop-k-preserved
loop-k-preserved c = λ core events parts.
    let test : ℕ → Bool = λ j. goes_or_holds core c.args.slot (thread_of core j).run in
    let here = told_here c core events parts in
    let before = c.loop-k.invariant core events parts in
    elim c.if-goes.branch [
      | then-goes w ↦
          with_one test c.loop-k.going c.loop-k.k before c.if-goes.going (sym here ∙ w.if-goes.true)
          (ap (λ mask. in_mask mask c.loop-k.k) w.going-is ∙ w.with_able-going.ensures.added)
          (λ j other. ap (λ mask. in_mask mask j) w.going-is ∙ w.with_able-going.ensures.others j other)
      | else-goes w ↦
          subst (λ mask. IsTold test mask (c.loop-k.k + 1)) (sym w.going-is) (without_one test c.loop-k.going c.loop-k.k before (sym here ∙ w.if-goes.false))
    ]

pub returns : goal.returns
returns c = λ core events parts k below. (c.loop-k.invariant core events parts).told k (omega (arith, below, c.loop-k-test.false))
