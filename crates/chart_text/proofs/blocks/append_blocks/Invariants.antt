use Rattle.std.proofs.Common.{◌≡◌, ◌+◌, ◌*◌, ◌++◌, min}
use Rattle.chart_model.specs.declared.TheConstants.{BLOCK_SLOTS}
use Rattle.chart_model.specs.Chart.{blocks_text}
use Rattle.chart_text.proofs.blocks.append_blocks.Given as goal

abbrev pub invariant-loop-k : goal.invariant-loop-k
invariant-loop-k l = record {
  plan : l.run.plan ≡ l.plan;
  passed : l.run.now ≡ l.initial.run.now + min (BLOCK_SLOTS * l.k) l.count;
  text : l.out ≡ l.initial.out ++ blocks_text l.plan l.initial.run.now l.count l.k;
}
