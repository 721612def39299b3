use Rattle.std.proofs.Common.{ℕ, suc, ◌≡◌, ◌+◌, ◌-◌, ◌*◌, ◌<◌, List, ◌++◌, min, ap, ◌∙◌, arith, append_assoc}
use Rattle.std.proofs.Math.Nat.{min-eq_left}
use Rattle.chart_model.specs.declared.TheConstants.{BLOCK_SLOTS}
use Rattle.chart_model.specs.Chart.{block_text, blocks_text}
use Rattle.chart_text.proofs.blocks.append_blocks.Goals as goal

pub loop-k-preserved : goal.loop-k-preserved
loop-k-preserved c =
    let a = c.args in
    let k = c.loop-k.k in
    let kept = c.loop-k.invariant in
    let done = c.in_ok-append_block.ensures in
    let more : BLOCK_SLOTS * k < a.count = omega (arith, c.loop-k-test.true) in
    let so_far : c.loop-k.run.now ≡ a.run.now.now + BLOCK_SLOTS * k =
    kept.passed ∙ ap (λ (n : ℕ). a.run.now.now + n) (min-eq_left (omega (arith, more))) in
    let here : c.min-here.result ≡ min BLOCK_SLOTS (a.count - BLOCK_SLOTS * k) = c.min-here.ensures in
    let next : suc k ≡ k + 1 = omega arith in
    let before = blocks_text a.plan.now a.run.now.now a.count k in
    record {
      plan = done.plan;
      passed = omega (arith, done.passed, so_far, here, more);
      text =
          done.text ∙ ap (λ (text : List ℕ). text ++ block_text a.plan.now c.loop-k.run.now c.min-here.result) kept.text
          ∙ append_assoc a.out.now before (block_text a.plan.now c.loop-k.run.now c.min-here.result)
          ∙ (λ i. a.out.now ++ (before ++ block_text a.plan.now (so_far i) (here i)))
          ∙ ap (λ (n : ℕ). a.out.now ++ blocks_text a.plan.now a.run.now.now a.count n) next;
    }
