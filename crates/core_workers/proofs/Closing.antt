-- The logs of the arcs that leave a node are closed: what holds of its ends goes on to hold.
use Rattle.std.proofs.Common.{◌≡◌, List, [], ◌∷◌, map, slice_index, refl, sym, ap, ◌∙◌, subst}
use Rattle.std.specs.List.{All, AllByRecursion, AllZip}
use Rattle.std.proofs.lemmas.List.Elements.{All-from_recursion, recursion_from_All}
use Rattle.xs_base.specs.Numbers.{Slot}
use Rattle.sys_plan.specs.Plan.{PlanRec}
use Rattle.link_logs.specs.declared.answers.Cause.{Cause}
use Rattle.link_logs.specs.Logs.{WriteRec}
use Rattle.node_runners.specs.Runner.{RunnerRec}
use Rattle.plan_cells.specs.declared.ends.Outgoing.{Outgoing}
use Rattle.plan_cells.specs.declared.ends.Ends.{Ends}
use Rattle.plan_cells.specs.Ends.{CellsRec, leaves_at, IsOutgoing}
use Rattle.core_workers.specs.Worker.{IsTold, IsOpen, Tells, StaysOutgoing, Closes, IsWorker, Listens}
use Rattle.core_workers.proofs.Telling.{outgoing_fits}
use Rattle.plan_cells.specs.declared.ends.Incoming.{Incoming}

module _ (cause : Cause) where
  closed_places : (old new : List Outgoing) → AllZip (Closes cause) old new → map leaves_at new ≡ map leaves_at old
  closed_places [] [] all = refl
  closed_places [] (y ∷ new) all = absurd all
  closed_places (x ∷ old) [] all = absurd all
  closed_places (x ∷ old) (y ∷ new) all =
      let here : leaves_at y ≡ leaves_at x = λ i. (all.0.end i, all.0.link i) in
      λ i. here i ∷ closed_places old new all.1 i

  closed_fit : (cells : CellsRec) (old new : List Outgoing) → AllZip (Closes cause) old new → AllByRecursion (IsOutgoing cells) old → AllByRecursion (IsOutgoing cells) new
  closed_fit cells [] [] all fit = tt
  closed_fit cells [] (y ∷ new) all fit = absurd all
  closed_fit cells (x ∷ old) [] all fit = tt
  closed_fit cells (x ∷ old) (y ∷ new) all fit = (
    outgoing_fits cells x y all.0.link all.0.table (ap (λ (w : WriteRec PlanRec). w.run) all.0.closed) (ap (λ (w : WriteRec PlanRec). w.number) all.0.closed) fit.0,
    closed_fit cells old new all.1 fit.1,
  )

  closed_told : (published : List Slot) (old new : List Outgoing) → AllZip (Closes cause) old new → AllByRecursion (IsTold published) old → AllByRecursion (IsTold published) new
  closed_told published [] [] all told = tt
  closed_told published [] (y ∷ new) all told = absurd all
  closed_told published (x ∷ old) [] all told = tt
  closed_told published (x ∷ old) (y ∷ new) all told =
      (ap (λ end. slice_index published end) all.0.end ∙ told.0 ∙ sym (ap (λ (w : WriteRec PlanRec). w.published) all.0.closed), closed_told published old new all.1 told.1)

  closed_tells : (cells : CellsRec) (runner : RunnerRec) (old new : List Outgoing) → AllZip (Closes cause) old new → Tells cells runner old → Tells cells runner new
  closed_tells cells runner old new all tells = record {
    places = closed_places old new all ∙ tells.places;
    fit = closed_fit cells old new all tells.fit;
    told = All-from_recursion (IsTold runner.published) new (closed_told runner.published old new all (recursion_from_All (IsTold runner.published) old tells.told));
    all_ends = tells.all_ends;
  }

  pub closed_worker : (cells : CellsRec) (runner : RunnerRec) (before after : Ends) → after.incoming ≡ before.incoming → AllZip (Closes cause) before.outgoing.items after.outgoing.items
      → IsWorker (record { cells = cells; runner = runner; ends = before }) → IsWorker (record { cells = cells; runner = runner; ends = after })
  closed_worker cells runner before after same all is =
      let incoming_items : after.incoming.items ≡ before.incoming.items = λ i. (same i).items in
      record {
        plan_is = is.plan_is;
        of_plan = is.of_plan;
        listens = subst (λ (xs : List Incoming). Listens cells runner xs) (sym incoming_items) is.listens;
        tells = closed_tells cells runner before.outgoing.items after.outgoing.items all is.tells;
        busy = is.busy;
      }

-- a turn leaves the logs open
pub still_open : (old new : List Outgoing) → AllZip StaysOutgoing old new → AllByRecursion IsOpen old → AllByRecursion IsOpen new
still_open [] [] all is = tt
still_open [] (y ∷ new) all is = absurd all
still_open (x ∷ old) [] all is = tt
still_open (x ∷ old) (y ∷ new) all is = (ap (λ (w : WriteRec PlanRec). w.cause) all.0.rest ∙ is.0, still_open old new all.1 is.1)

pub all_open : (old new : List Outgoing) → AllZip StaysOutgoing old new → All IsOpen old → All IsOpen new
all_open old new all is = All-from_recursion IsOpen new (still_open old new all (recursion_from_All IsOpen old is))
