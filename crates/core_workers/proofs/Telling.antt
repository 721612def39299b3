-- A node publishes by one end: what holds of all its ends goes on to hold.
use Rattle.std.proofs.Common.{◌≡◌, ℕ, ◌≤◌, Some, List, set, slice_get, sym, ap, ◌∙◌, arith}
use Rattle.std.proofs.lemmas.List.Elements.{All-from_recursion, recursion_from_All, All-set}
use Rattle.std.proofs.lemmas.Option.{slice_get_within}
use Rattle.xs_base.specs.Numbers.{Slot, LinkNumber}
use Rattle.xs_base.specs.declared.entry.Entry.{Entry}
use Rattle.sys_plan.specs.Plan.{PlanRec, IsPlan}
use Rattle.serial_model.specs.Serial.{history}
use Rattle.plan_stories.specs.Stories.{carried_at}
use Rattle.plan_stories.proofs.Stories.{between_is_history}
use Rattle.link_logs.specs.Entries.{between}
use Rattle.link_logs.specs.Logs.{WriteRec}
use Rattle.node_runners.specs.Runner.{RunnerRec}
use Rattle.plan_cells.specs.declared.ends.Outgoing.{Outgoing}
use Rattle.plan_cells.specs.Ends.{CellsRec, leaving, leaves_at, IsOutgoing}
use Rattle.core_workers.specs.Worker.{IsTold, Tells, StaysOutgoing}
use Rattle.core_workers.specs.Steps.{PublishesAt}
use Rattle.core_workers.proofs.Passes.{all_at_set}
use Rattle.core_workers.proofs.Routes.{leaves_apart}
use Rattle.core_workers.proofs.Hearing.{fits_at, same_told}

-- an end stays that of its cell
pub outgoing_fits : (cells : CellsRec) (old new : Outgoing) → new.link ≡ old.link → new.w.table ≡ old.w.table → new.w.end.run ≡ old.w.end.run → new.w.end.number ≡ old.w.end.number
    → IsOutgoing cells old → IsOutgoing cells new
outgoing_fits cells old new link table run number is = record {
  table = ap (λ k. slice_get cells.tables k) link ∙ is.table ∙ ap (λ t. Some t) (sym table);
  run = run ∙ is.run;
  number = number ∙ is.number ∙ sym link;
}

module _ (cells : CellsRec) (is : IsPlan cells.plan) (before after : RunnerRec) (ends : List Outgoing) (tells : Tells cells before ends)
    (k : ℕ) (old new : Outgoing) (at : slice_get ends k ≡ Some old) (publishes : PublishesAt old.end before after) (stays : StaysOutgoing old new)
    (told : IsTold after.published new) where
  same_node : after.node ≡ before.node
  same_node = ap (λ (r : RunnerRec). r.node) publishes.rest

  pub tells_on : Tells cells after (set ends k new)
  tells_on = record {
    places = same_told leaves_at ends k old new at (λ i. (stays.end i, stays.link i)) ∙ tells.places ∙ ap (λ n. leaving cells.plan n) (sym same_node);
    fit =
        let all = All-from_recursion (IsOutgoing cells) ends tells.fit in
        let run : new.w.end.run ≡ old.w.end.run = ap (λ (w : WriteRec PlanRec). w.run) stays.rest in
        let number : new.w.end.number ≡ old.w.end.number = ap (λ (w : WriteRec PlanRec). w.number) stays.rest in
        recursion_from_All (IsOutgoing cells) (set ends k new)
        (All-set (IsOutgoing cells) ends k new (outgoing_fits cells old new stays.link stays.table run number (fits_at (IsOutgoing cells) ends k old at all)) all);
    told = all_at_set (IsTold before.published) (IsTold after.published) ends k new (slice_get_within ends k old at) tells.told told
        (λ j o apart there is_told. publishes.others o.end (leaves_apart cells.plan is before.node ends tells.places j k o old there at apart) ∙ is_told);
    all_ends = publishes.all_ends ∙ tells.all_ends;
  }

-- ---- A node publishes by one end

pub stays_published : (old new : Outgoing) (slot : Slot) → new.end ≡ old.end → new.link ≡ old.link → new.w.table ≡ old.w.table → new.w.end ≡ record old.w.end { published = slot }
    → old.w.end.published ≤ slot → StaysOutgoing old new
stays_published old new slot end link table is on =
    let published : new.w.end.published ≡ slot = ap (λ (w : WriteRec PlanRec). w.published) is in
    let with_published : Slot → WriteRec PlanRec = λ t. record old.w.end { published = t } in
    record {
      end = end;
      link = link;
      table = table;
      rest = is ∙ ap with_published (sym published);
      published = omega (arith, on, published);
    }

pub stays_unpublished : (old new : Outgoing) → new.end ≡ old.end → new.link ≡ old.link → new.w.table ≡ old.w.table → new.w.end ≡ old.w.end → StaysOutgoing old new
stays_unpublished old new end link table same = stays_published old new old.w.end.published end link table same (omega arith)

-- what a node sent is what the arc carried from what was published on
pub sent_is : (plan run : PlanRec) (link number : LinkNumber) (from since upto clock : Slot) (entries : List Entry) → plan ≡ run → link ≡ number → from ≡ since → clock ≡ upto → since ≤ upto
    → entries ≡ history plan link from clock → entries ≡ between (carried_at run number) since upto
sent_is plan run link number from since upto clock entries p l f c on is = is ∙ (λ i. history (p i) (l i) (f i) (c i)) ∙ sym (between_is_history run number since upto on)
