use Rattle.std.proofs.Common.{◌≡◌, ◌<◌, List, length, drop, get_or, set, refl, sym, ap, ◌∙◌, subst, arith}
use Rattle.std.specs.List.{AllZip}
use Rattle.std.proofs.lemmas.List.{length-set}
use Rattle.std.proofs.lemmas.Option.{slice_get-get_or}
use Rattle.sys_plan.specs.Plan.{PlanRec, incoming}
use Rattle.node_runners.specs.Runner.{RunnerRec}
use Rattle.plan_cells.specs.declared.ends.Incoming.{Incoming}
use Rattle.core_workers.specs.Worker.{IsHeard, Listens, StaysIncoming, Tried}
use Rattle.core_workers.proofs.Handing.{stays_unread}
use Rattle.core_workers.proofs.Hearing.{listens_on}
use Rattle.core_workers.proofs.Passes.{all_zip_refl, all_zip_set, all_zip_front, left_after, at_both, given_back}
use Rattle.core_workers.proofs.Routes.{comes_by}
use Rattle.core_workers.proofs.hear.hear_all.Goals as goal

pub loop-reader-init : goal.loop-reader-init
loop-reader-init c = record {
  listens = subst (λ (xs : List Incoming). Listens c.args.cells.now c.args.runner.now xs) (sym c.deref_mut-reader-items.ensures.value) c.requires.listens;
  rest = refl;
  stays = all_zip_refl StaysIncoming (λ i. stays_unread i i refl refl refl refl) c.deref_mut-reader-items.result.now;
  tried = tt;
  left = refl;
}

pub hear-requires-clause-route : goal.hear-requires-clause-route
hear-requires-clause-route c =
    let cells = c.args.cells.now in
    let runner = c.loop-reader.runner in
    let readers = c.loop-reader.reader-items in
    let k = c.loop-reader.reader-index in
    let x = get_or readers k c.reader-item.result in
    let within : k < length readers = omega arith in
    let plan_is : runner.plan ≡ cells.plan = ap (λ (r : RunnerRec). r.plan) c.loop-reader.invariant.rest ∙ c.requires.of_plan in
    (λ i. incoming (plan_is i) runner.node x.end)
    ∙ comes_by cells.plan c.requires.plan runner.node readers c.loop-reader.invariant.listens.places k x (slice_get-get_or readers k c.reader-item.result within)

pub returns-in_err-hear-clause-listens : goal.returns-in_err-hear-clause-listens
returns-in_err-hear-clause-listens c =
    let cells = c.args.cells.now in
    let runner = c.loop-reader.runner in
    let readers = c.loop-reader.reader-items in
    let k = c.loop-reader.reader-index in
    let x = get_or readers k c.reader-item.result in
    let y = c.hear.new.reader in
    let after = c.hear.new.runner in
    let within : k < length readers = omega arith in
    let plan_is : runner.plan ≡ cells.plan = ap (λ (r : RunnerRec). r.plan) c.loop-reader.invariant.rest ∙ c.requires.of_plan in
    let heard = subst (λ (p : PlanRec). IsHeard p after.horizon y) plan_is c.hear.ensures.heard in
    let next = listens_on cells c.requires.plan runner after readers c.loop-reader.invariant.listens k x y (slice_get-get_or readers k c.reader-item.result within) c.hear.ensures.hears c.hear.ensures.stays heard in
    let lent = c.deref_mut-reader-items.ensures.value in
    let count : length (set readers k y) ≡ c.args.ends.now.incoming.len = omega (arith, ap length lent, length-set readers k y) in
    subst (λ (xs : List Incoming). Listens cells after xs) (sym (given_back c.args.ends.now.incoming.len (set readers k y) (drop (length (set readers k y)) c.args.ends.now.incoming.items) count)) next

pub returns-in_err-hear-clause-stays : goal.returns-in_err-hear-clause-stays
returns-in_err-hear-clause-stays c =
    let old = c.deref_mut-reader-items.result.now in
    let readers = c.loop-reader.reader-items in
    let k = c.loop-reader.reader-index in
    let x = get_or readers k c.reader-item.result in
    let y = c.hear.new.reader in
    let within : k < length readers = omega arith in
    let lent = c.deref_mut-reader-items.ensures.value in
    let count : length (set readers k y) ≡ c.args.ends.now.incoming.len = omega (arith, ap length lent, length-set readers k y) in
    let stays = all_zip_set StaysIncoming old readers k x y c.loop-reader.invariant.stays (at_both old readers k c.loop-reader.invariant.left c.reader-item.result within) c.hear.ensures.stays in
    subst (λ (xs : List Incoming). AllZip StaysIncoming c.args.ends.now.incoming.items xs)
    (sym (given_back c.args.ends.now.incoming.len (set readers k y) (drop (length (set readers k y)) c.args.ends.now.incoming.items) count))
    (subst (λ (xs : List Incoming). AllZip StaysIncoming xs (set readers k y)) lent stays)

pub loop-reader-preserved : goal.loop-reader-preserved
loop-reader-preserved c =
    let cells = c.args.cells.now in
    let old = c.deref_mut-reader-items.result.now in
    let runner = c.loop-reader.runner in
    let readers = c.loop-reader.reader-items in
    let k = c.loop-reader.reader-index in
    let x = get_or readers k c.reader-item.result in
    let y = c.hear.new.reader in
    let after = c.hear.new.runner in
    let within : k < length readers = omega arith in
    let within_old : k < length old = omega arith in
    let plan_is : runner.plan ≡ cells.plan = ap (λ (r : RunnerRec). r.plan) c.loop-reader.invariant.rest ∙ c.requires.of_plan in
    let heard = subst (λ (p : PlanRec). IsHeard p after.horizon y) plan_is c.hear.ensures.heard in
    let at_old = at_both old readers k c.loop-reader.invariant.left c.reader-item.result within in
    let onto : RunnerRec → RunnerRec = λ r. record r { horizon = record r.horizon { ends = after.horizon.ends } } in
    record {
      listens = listens_on cells c.requires.plan runner after readers c.loop-reader.invariant.listens k x y (slice_get-get_or readers k c.reader-item.result within) c.hear.ensures.hears c.hear.ensures.stays heard;
      rest = c.hear.ensures.hears.rest ∙ ap onto c.loop-reader.invariant.rest;
      stays = all_zip_set StaysIncoming old readers k x y c.loop-reader.invariant.stays at_old c.hear.ensures.stays;
      tried = all_zip_front Tried old readers k x y within_old within at_old c.loop-reader.invariant.tried c.in_ok-hear.ensures.tried;
      left = left_after old readers k c.loop-reader.invariant.left y;
    }
