use Rattle.std.proofs.Common.{sym, ◌∙◌, subst}
use Rattle.core_workers.specs.Worker.{WorkerRec}
use Rattle.worker_threads.specs.Team.{HasEnded}
use Rattle.worker_threads.proofs.Nodes.{new_worker, run_over}
use Rattle.worker_threads.proofs.node.run_node.Goals as goal

pub returns : goal.returns
returns g c =
    let cells = c.args.lanes.now in
    let runner = c.args.node.runner in
    record {
      returned = subst (λ (w : WorkerRec). HasEnded cells runner.horizon.limit runner.node w c.run-ended.result) (sym c.parts-part.ensures.same)
          (run_over cells runner.horizon.limit runner.node c.look_eagerly.new.self c.run-ended.new.self c.run-ended.result
          (new_worker cells c.look_eagerly.new.self runner c.args.node.ends (c.look_eagerly.ensures.same ∙ c.new-worker.ensures.made)) c.run-ended.ensures.keeps c.run-ended.ensures.ended);
    }
