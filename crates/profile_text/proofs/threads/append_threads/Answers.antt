use Rattle.std.proofs.Common.{ℕ, suc, ◌≡◌, ◌+◌, List, [], ◌++◌, ap, ◌∙◌, arith, append_assoc}
use Rattle.std.specs.Prelude.{slice_index_or}
use Rattle.xs_base.specs.declared.numbers.TheConstants.{THREADS}
use Rattle.profile_model.specs.Profile.{thread_line}
use Rattle.run_counts.specs.Tallies.{at}
use Rattle.profile_text.specs.Counted.{threads_by}
use Rattle.profile_text.proofs.threads.append_threads.Goals as goal

pub loop-k-preserved : goal.loop-k-preserved
loop-k-preserved c =
    let a = c.args in
    let k = c.loop-k.k in
    let text = threads_by a.node.now a.slots a.counts.now in
    let line = thread_line a.node.now a.slots k (at (slice_index_or a.counts.now k [])) in
    let next : suc k ≡ k + 1 = omega arith in
    c.in_ok-append_thread.ensures ∙ ap (λ (t : List ℕ). t ++ line) c.loop-k.invariant ∙ append_assoc a.out.now (text k) line
    ∙ ap (λ (m : ℕ). a.out.now ++ text m) next

pub returns : goal.returns
returns c =
    let a = c.args in
    let all : c.loop-k.k ≡ THREADS = omega (arith, c.loop-k-test.false, c.loop-k.auto.k-end) in
    c.loop-k.invariant ∙ ap (λ (m : ℕ). a.out.now ++ threads_by a.node.now a.slots a.counts.now m) all
