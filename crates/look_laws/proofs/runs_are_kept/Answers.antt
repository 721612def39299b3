use Rattle.std.proofs.Common.{ℕ, zero, suc, ◌<◌, List, [], ◌∷◌, length, get_or, arith}
use Rattle.std.specs.List.{AllByRecursion}
use Rattle.xs_model.specs.declared.event.Event.{Event}
use Rattle.xs_model.specs.Record.{NodeRec}
use Rattle.serial_model.specs.Serial.{serial}
use Rattle.core_step.specs.States.{node_state}
use Rattle.state_bridge.specs.Fits.{NumbersFit}
use Rattle.snap_parts.specs.declared.node.SnapNode.{SnapNode}
use Rattle.snap_model.specs.Saved.{saved_nodes}
use Rattle.look_laws.proofs.runs_are_kept.Goals as goal

each_saved : (recs : List NodeRec) (all : List (List Event)) → AllByRecursion (λ (rec : NodeRec). NumbersFit (node_state rec)) recs
    → (k : ℕ) (d : SnapNode) → k < length (saved_nodes recs all) → NumbersFit (get_or (saved_nodes recs all) k d).state
each_saved [] all fit k d low = absurd (omega (arith, low))
each_saved (rec ∷ recs) [] fit k d low = absurd (omega (arith, low))
each_saved (rec ∷ recs) (events ∷ all) fit zero d low = fit.0
each_saved (rec ∷ recs) (events ∷ all) fit (suc k) d low = each_saved recs all fit.1 k d (omega (arith, low))

pub returns : goal.returns
returns c = record {
  kept = λ plan slot is runnable.
      let system = serial plan slot in
      let fit = each_saved system.nodes system.events (c.numbers_of_runs_fit.ensures.numbers plan slot is runnable) in
      record {
        nodes = (c.saved_parts_are_those_of_the_run.ensures.whole plan slot).nodes;
        threads = λ k d low. (fit k d low).threads.count;
        inputs = λ k d low. (fit k d low).inputs.count;
      };
}
