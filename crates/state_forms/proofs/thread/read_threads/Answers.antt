use Rattle.std.proofs.Common.{◌≡◌, ℕ, ◌+◌, List, [], ◌∷◌, ◌++◌, Option, length, take, set, sym, ◌∙◌, arith}
use Rattle.std.proofs.lemmas.Result.{err_from_is_err_and}
use Rattle.std.proofs.lemmas.List.{length-set, length-take, take_all, take_more_set}
use Rattle.std.specs.List.{zip}
use Rattle.xs_model.specs.declared.thread.Thread.{Thread}
use Rattle.byte_forms.specs.Forms.{Form}
use Rattle.byte_forms.proofs.Lists.{reads_on, refuses_all, reads_all}
use Rattle.state_forms.specs.Threads.{thread}
use Rattle.state_forms.proofs.Zips.{zip_push}
use Rattle.state_forms.proofs.thread.read_threads.Goals as goal

pub returns-in_err-th : goal.returns-in_err-th
returns-in_err-th c =
    let p = err_from_is_err_and c.from_residual.result c.from_residual.ensures.1 in
    let form : List (Thread × Option ℕ) → Form (Thread × Option ℕ) = λ before. thread c.args.slot in
    let refused = refuses_all form 8 c.loop-k.k (zip (take c.loop-k.k c.loop-k.threads) (take c.loop-k.k c.loop-k.last)) c.loop-k.from c.args.from.now
    c.loop-k.invariant.so_far c.in_err-th.field-0.0 (omega arith) c.in_err-th.ensures.value in
    rw (p.1, p.2) (record { value = refused; long = c.loop-k.invariant.threads ∙ sym c.loop-k.invariant.last })

pub loop-k-preserved : goal.loop-k-preserved
loop-k-preserved c =
    let form : List (Thread × Option ℕ) → Form (Thread × Option ℕ) = λ before. thread c.args.slot in
    let k = c.loop-k.k in
    let threads = c.loop-k.threads in
    let last = c.loop-k.last in
    let th = c.in_ok-th.th in
    let its_last = c.in_ok-th.its_last in
    let same : length (take k threads) ≡ length (take k last) = omega (arith, length-take k threads, length-take k last) in
    let e : zip (take (k + 1) (set threads k th)) (take (k + 1) (set last k its_last)) ≡ zip (take k threads) (take k last) ++ (th, its_last) ∷ [] =
    rw (take_more_set threads k th (omega arith), take_more_set last k its_last (omega arith)) (zip_push (take k threads) (take k last) th its_last same) in
    record {
      threads = length-set threads k th ∙ c.loop-k.invariant.threads;
      last = length-set last k its_last ∙ c.loop-k.invariant.last;
      so_far = rw e (reads_on form 8 k (zip (take k threads) (take k last)) c.loop-k.from c.args.from.now c.loop-k.invariant.so_far (th, its_last) c.read_thread.new.from (omega arith)
          c.in_ok-th.ensures.value);
    }

pub returns : goal.returns
returns c =
    let form : List (Thread × Option ℕ) → Form (Thread × Option ℕ) = λ before. thread c.args.slot in
    let k = c.loop-k.k in
    let all = reads_all form 8 k (zip (take k c.loop-k.threads) (take k c.loop-k.last)) c.loop-k.from c.args.from.now c.loop-k.invariant.so_far (omega arith) in
    record {
      value = rw (take_all k c.loop-k.threads (omega arith), take_all k c.loop-k.last (omega arith)) at all;
      long = c.loop-k.invariant.threads ∙ sym c.loop-k.invariant.last;
    }
