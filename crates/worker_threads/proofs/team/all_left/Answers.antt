use Rattle.std.proofs.Common.{◌≡◌, length, ap, sym, subst, arith}
use Rattle.std.specs.List.{AllByRecursion}
use Rattle.std.proofs.lemmas.List.{length_push}
use Rattle.std.specs.Vec.Iter.{into_iter_items}
use Rattle.worker_threads.specs.declared.node.Left.{Left}
use Rattle.worker_threads.specs.declared.place.Place.{Place}
use Rattle.worker_threads.specs.Team.{IsLeft, HasNoTurns, IsPlace}
use Rattle.worker_threads.proofs.Teams.{none_done, all_left, first_left, one_done, fewer_left}
use Rattle.worker_threads.proofs.team.all_left.Goals as goal

pub loop-place-init : goal.loop-place-init
loop-place-init g c =
    let gives = c.into_iter-place-iterator.ensures.into_iter_gives in
    let none = c.in_ok-all.ensures.items in
    record {
      count = omega (arith, gives.1, c.args.places.ok.0, ap (length {A = Left}) none);
      over = subst (λ (xs : _). AllByRecursion HasNoTurns xs) (sym gives.0) c.requires.over;
      rest = λ limit are. all_left (IsPlace c.args.lanes.now limit) c.in_ok-all.all.items (into_iter_items c.into_iter-place-iterator.result) c.args.places.items none gives.0 are.each;
      all = λ limit are. none_done (IsLeft c.args.lanes.now limit) c.in_ok-all.all.items none;
    }

pub loop-place-preserved : goal.loop-place-preserved
loop-place-preserved g c =
    let was = c.loop-place.invariant in
    let step = c.in-Some.ensures.steps in
    let done = c.loop-place.all.items in
    let place = c.in-Some.place in
    let pushed = c.in_ok-push.ensures.items in
    let none = subst (λ (xs : _). AllByRecursion HasNoTurns xs) step.0 was.over in
    record {
      count = omega (arith, was.count, step.1, ap (length {A = Left}) pushed, length_push done c.left.result);
      over = none.1;
      rest = λ limit are.
          fewer_left (IsPlace c.args.lanes.now limit) done c.push.new.self.items c.left.result (into_iter_items c.next.new.self) pushed
          (first_left (IsPlace c.args.lanes.now limit) (length done) (into_iter_items c.loop-place.place-iterator) (into_iter_items c.next.new.self) place step.0 (was.rest limit are)).1;
      all = λ limit are.
          one_done (IsLeft c.args.lanes.now limit) done c.push.new.self.items c.left.result pushed (was.all limit are)
          (c.left.ensures.left limit (length done)
          (first_left (IsPlace c.args.lanes.now limit) (length done) (into_iter_items c.loop-place.place-iterator) (into_iter_items c.next.new.self) place step.0 (was.rest limit are)).0);
    }

pub left-requires-clause-over : goal.left-requires-clause-over
left-requires-clause-over g c κs within = (subst (λ (xs : _). AllByRecursion HasNoTurns xs) c.in-Some.ensures.steps.0 c.loop-place.invariant.over).0

pub left-requires-clause-place : goal.left-requires-clause-place
left-requires-clause-place g c κs within =
    let own = c.requires.places in
    let done = c.loop-place.all.items in (
      own.0,
      length done,
      (first_left (IsPlace c.args.lanes.now own.0) (length done) (into_iter_items c.loop-place.place-iterator) (into_iter_items c.next.new.self) c.in-Some.place c.in-Some.ensures.steps.0 (c.loop-place.invariant.rest own.0 own.1)).0,
    )

pub returns : goal.returns
returns g c = record {
  all = λ limit are. record {
    count = omega (arith, c.loop-place.invariant.count, c.in-None.ensures.steps.0, are.count);
    each = c.loop-place.invariant.all limit are;
  };
}
