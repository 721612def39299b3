use Rattle.std.proofs.Common.{◌≡◌, ◌∷◌, ◌∙◌, length, ap, sym, subst, arith}
use Rattle.std.proofs.lemmas.List.{length_push}
use Rattle.std.specs.Vec.Iter.{into_iter_items}
use Rattle.core_workers.specs.declared.ended.Ended.{Ended}
use Rattle.core_workers.specs.Worker.{WorkerRec}
use Rattle.worker_threads.specs.Team.{IsLeft, HasEnded, HasFinished}
use Rattle.worker_threads.proofs.Teams.{none_done, all_left, first_left, one_done, fewer_left}
use Rattle.worker_threads.proofs.team.parts_of.Goals as goal

pub loop-left-init : goal.loop-left-init
loop-left-init c =
    let gives = c.into_iter-left-iterator.ensures.into_iter_gives in
    let none = c.in_ok-parts.ensures.items in
    record {
      count = omega (arith, gives.1, c.args.all.ok.0, ap (length {A = WorkerRec}) none);
      rest = λ cells limit are. all_left (IsLeft cells limit) c.in_ok-parts.parts.items (into_iter_items c.into_iter-left-iterator.result) c.args.all.items none gives.0 are.each;
      parts = λ cells limit are. none_done (HasFinished cells limit) c.in_ok-parts.parts.items none;
    }

pub loop-left-preserved : goal.loop-left-preserved
loop-left-preserved c =
    let was = c.loop-left.invariant in
    let step = c.in-Some.ensures.steps in
    let done = c.loop-left.parts.items in
    let left = c.in-Some.left in
    let pushed = c.in_ok-push-in-Finished.ensures.items in
    record {
      count = omega (arith, was.count, step.1, ap (length {A = WorkerRec}) pushed, length_push done left.part);
      rest = λ cells limit are.
          fewer_left (IsLeft cells limit) done c.push.new.self.items left.part (into_iter_items c.next.new.self) pushed
          (first_left (IsLeft cells limit) (length done) (into_iter_items c.loop-left.left-iterator) (into_iter_items c.next.new.self) left step.0 (was.rest cells limit are)).1;
      parts = λ cells limit are.
          one_done (HasFinished cells limit) done c.push.new.self.items left.part pushed (was.parts cells limit are)
          (subst (λ (e : Ended). HasEnded cells limit (length done) left.part e) c.in-Finished.is
          (first_left (IsLeft cells limit) (length done) (into_iter_items c.loop-left.left-iterator) (into_iter_items c.next.new.self) left step.0 (was.rest cells limit are)).0);
    }

pub returns : goal.returns
returns c = record {
  parts = λ cells limit are. record {
    count = omega (arith, c.loop-left.invariant.count, c.in-None.ensures.steps.0, are.count);
    each = c.loop-left.invariant.parts cells limit are;
  };
}
