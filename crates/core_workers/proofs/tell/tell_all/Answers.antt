use Rattle.std.proofs.Common.{◌≡◌, ◌<◌, List, length, drop, get_or, set, slice_get, refl, sym, ap, ◌∙◌, subst, arith}
use Rattle.std.specs.List.{AllZip}
use Rattle.std.proofs.lemmas.List.{length-set}
use Rattle.std.proofs.lemmas.Option.{slice_get-get_or}
use Rattle.xs_base.specs.Numbers.{Slot}
use Rattle.sys_plan.specs.Plan.{outgoing}
use Rattle.node_runners.specs.Runner.{RunnerRec}
use Rattle.plan_cells.specs.declared.ends.Outgoing.{Outgoing}
use Rattle.core_workers.specs.Worker.{IsOpen, Tells, StaysOutgoing, Told}
use Rattle.core_workers.proofs.Hearing.{fits_at}
use Rattle.core_workers.proofs.Telling.{stays_unpublished, tells_on}
use Rattle.core_workers.proofs.Passes.{all_zip_refl, all_zip_set, all_zip_front, left_after, at_both, given_back}
use Rattle.core_workers.proofs.Routes.{leaves_by, leaves_end}
use Rattle.core_workers.proofs.tell.tell_all.Goals as goal

pub loop-writer-init : goal.loop-writer-init
loop-writer-init c = record {
  tells = subst (λ (xs : List Outgoing). Tells c.args.cells.now c.args.runner.now xs) (sym c.deref_mut-writer-items.ensures.value) c.requires.tells;
  rest = refl;
  stays = all_zip_refl StaysOutgoing (λ o. stays_unpublished o o refl refl refl refl) c.deref_mut-writer-items.result.now;
  told = tt;
  left = refl;
}

pub tell-requires-clause-route : goal.tell-requires-clause-route
tell-requires-clause-route c =
    let cells = c.args.cells.now in
    let runner = c.loop-writer.runner in
    let writers = c.loop-writer.writer-items in
    let k = c.loop-writer.writer-index in
    let x = get_or writers k c.writer-item.result in
    let within : k < length writers = omega arith in
    let plan_is : runner.plan ≡ cells.plan = ap (λ (r : RunnerRec). r.plan) c.loop-writer.invariant.rest ∙ c.requires.of_plan in
    (λ i. outgoing (plan_is i) runner.node x.end)
    ∙ leaves_by cells.plan c.requires.plan runner.node writers c.loop-writer.invariant.tells.places k x (slice_get-get_or writers k c.writer-item.result within)

pub tell-requires-clause-end : goal.tell-requires-clause-end
tell-requires-clause-end c =
    let runner = c.loop-writer.runner in
    let writers = c.loop-writer.writer-items in
    let k = c.loop-writer.writer-index in
    let x = get_or writers k c.writer-item.result in
    let within : k < length writers = omega arith in
    let below = leaves_end c.args.cells.now.plan c.requires.plan runner.node writers c.loop-writer.invariant.tells.places k x (slice_get-get_or writers k c.writer-item.result within) in
    omega (arith, below, c.loop-writer.invariant.tells.all_ends)

pub tell-requires-clause-open : goal.tell-requires-clause-open
tell-requires-clause-open c =
    let old = c.deref_mut-writer-items.result.now in
    let writers = c.loop-writer.writer-items in
    let k = c.loop-writer.writer-index in
    let within : k < length writers = omega arith in
    let at = ap (λ (xs : List Outgoing). slice_get xs k) (sym c.deref_mut-writer-items.ensures.value) ∙ at_both old writers k c.loop-writer.invariant.left c.writer-item.result within in
    fits_at IsOpen c.args.ends.now.outgoing.items k (get_or writers k c.writer-item.result) at c.requires.open

pub returns-in_err-tell-clause-tells : goal.returns-in_err-tell-clause-tells
returns-in_err-tell-clause-tells c =
    let cells = c.args.cells.now in
    let runner = c.loop-writer.runner in
    let writers = c.loop-writer.writer-items in
    let k = c.loop-writer.writer-index in
    let x = get_or writers k c.writer-item.result in
    let y = c.tell.new.writer in
    let after = c.tell.new.runner in
    let within : k < length writers = omega arith in
    let next = tells_on cells c.requires.plan runner after writers c.loop-writer.invariant.tells k x y (slice_get-get_or writers k c.writer-item.result within) c.tell.ensures.publishes c.tell.ensures.stays c.tell.ensures.is_told in
    let lent = c.deref_mut-writer-items.ensures.value in
    let count : length (set writers k y) ≡ c.args.ends.now.outgoing.len = omega (arith, ap length lent, length-set writers k y) in
    subst (λ (xs : List Outgoing). Tells cells after xs) (sym (given_back c.args.ends.now.outgoing.len (set writers k y) (drop (length (set writers k y)) c.args.ends.now.outgoing.items) count)) next

pub returns-in_err-tell-clause-stays : goal.returns-in_err-tell-clause-stays
returns-in_err-tell-clause-stays c =
    let old = c.deref_mut-writer-items.result.now in
    let writers = c.loop-writer.writer-items in
    let k = c.loop-writer.writer-index in
    let x = get_or writers k c.writer-item.result in
    let y = c.tell.new.writer in
    let within : k < length writers = omega arith in
    let lent = c.deref_mut-writer-items.ensures.value in
    let count : length (set writers k y) ≡ c.args.ends.now.outgoing.len = omega (arith, ap length lent, length-set writers k y) in
    let stays = all_zip_set StaysOutgoing old writers k x y c.loop-writer.invariant.stays (at_both old writers k c.loop-writer.invariant.left c.writer-item.result within) c.tell.ensures.stays in
    subst (λ (xs : List Outgoing). AllZip StaysOutgoing c.args.ends.now.outgoing.items xs)
    (sym (given_back c.args.ends.now.outgoing.len (set writers k y) (drop (length (set writers k y)) c.args.ends.now.outgoing.items) count))
    (subst (λ (xs : List Outgoing). AllZip StaysOutgoing xs (set writers k y)) lent stays)

pub loop-writer-preserved : goal.loop-writer-preserved
loop-writer-preserved c =
    let cells = c.args.cells.now in
    let old = c.deref_mut-writer-items.result.now in
    let runner = c.loop-writer.runner in
    let writers = c.loop-writer.writer-items in
    let k = c.loop-writer.writer-index in
    let x = get_or writers k c.writer-item.result in
    let y = c.tell.new.writer in
    let after = c.tell.new.runner in
    let within : k < length writers = omega arith in
    let within_old : k < length old = omega arith in
    let at_old = at_both old writers k c.loop-writer.invariant.left c.writer-item.result within in
    let onto : RunnerRec → RunnerRec = λ r. record r { published = after.published } in
    let clock : runner.clock ≡ c.args.runner.now.clock = ap (λ (r : RunnerRec). r.clock) c.loop-writer.invariant.rest in
    let told = subst (λ (t : Slot). Told t x y) clock c.in_ok-tell.ensures.told in
    record {
      tells = tells_on cells c.requires.plan runner after writers c.loop-writer.invariant.tells k x y (slice_get-get_or writers k c.writer-item.result within) c.tell.ensures.publishes c.tell.ensures.stays c.tell.ensures.is_told;
      rest = c.tell.ensures.publishes.rest ∙ ap onto c.loop-writer.invariant.rest;
      stays = all_zip_set StaysOutgoing old writers k x y c.loop-writer.invariant.stays at_old c.tell.ensures.stays;
      told = all_zip_front (Told c.args.runner.now.clock) old writers k x y within_old within at_old c.loop-writer.invariant.told told;
      left = left_after old writers k c.loop-writer.invariant.left y;
    }
