use Rattle.std.proofs.Common.{◌≡◌, ◌+◌, ◌*◌, ℕ, List, Option, Some, map, ap, ap₂, set, ◌∙◌}
use Rattle.std.proofs.lemmas.List.{map-set}
use Rattle.xs_model.specs.Record.{SlotsRec}
use Rattle.thread_slots.specs.Turns.{last_in}
use Rattle.thread_slots.proofs.Turns.{last_in_of}
use Rattle.thread_slots.proofs.Slots.mark_issue.Goals as goal

pub returns : goal.returns
returns c =
    let marked : map last_in (set c.self.inside.turns c.args.th (8 * (c.args.slot + 4) + c.args.th)) ≡ set c.args.self.now.last c.args.th (Some c.args.slot) =
    map-set last_in c.self.inside.turns c.args.th (8 * (c.args.slot + 4) + c.args.th)
    ∙ ap₂ (λ issues last. set issues c.args.th last) (ap (λ (slots : SlotsRec). slots.last) c.self.view_is) (last_in_of c.args.th (Some c.args.slot) c.requires)
    in
    record {
      marked = rw (c.from.ensures, c.from-2.ensures)
          (ap₂ (λ (last : List (Option ℕ)) (division : Option ℕ). let slots : SlotsRec = record { last = last; division = division } in slots) marked (ap (λ (slots : SlotsRec). slots.division) c.self.view_is));
    }
