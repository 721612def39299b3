-- What a node makes of what it is handed, and what a look at a log leaves.
use Rattle.std.proofs.Common.{◌≡◌, ◌≤◌, Option, Some, None, List, get_or, set, slice_get, sym, ap, ◌∙◌, subst, arith}
use Rattle.std.proofs.lemmas.Option.{slice_get_within, get_or_from_slice_get}
use Rattle.xs_base.specs.Numbers.{Slot, LinkNumber}
use Rattle.xs_base.specs.declared.entry.Entry.{Entry}
use Rattle.sys_plan.specs.Plan.{PlanRec, delay_of}
use Rattle.serial_model.specs.Serial.{history}
use Rattle.plan_stories.specs.Stories.{carried_at}
use Rattle.plan_stories.proofs.Stories.{between_is_history}
use Rattle.link_logs.specs.Entries.{between}
use Rattle.link_logs.specs.Logs.{ReadRec}
use Rattle.ahead_limits.specs.declared.horizon.Seen.{Seen}
use Rattle.ahead_limits.specs.Horizon.{HorizonRec, seen_to}
use Rattle.node_runners.specs.Runner.{RunnerRec}
use Rattle.plan_cells.specs.declared.ends.Hand.{Hand}
use Rattle.plan_cells.specs.declared.ends.Incoming.{Incoming}
use Rattle.core_workers.specs.Worker.{IsInHand, IsHeard, StaysIncoming}
use Rattle.core_workers.specs.Steps.{HearsAt}
use Rattle.core_workers.proofs.Passes.{slice_get-set_same, slice_get-set_other}

-- ---- The node hears at one end

pub at_hand : (plan : PlanRec) (link : LinkNumber) (seen got : Slot) (o : Option Hand) (hand : Hand) → o ≡ Some hand → IsInHand plan link seen got o → IsInHand plan link seen got (Some hand)
at_hand plan link seen got o hand is h = subst (λ (x : Option Hand). IsInHand plan link seen got x) is h

pub at_none : (plan : PlanRec) (link : LinkNumber) (seen got : Slot) (o : Option Hand) → o ≡ None → IsInHand plan link seen got o → seen ≡ got
at_none plan link seen got o is h = subst (λ (x : Option Hand). IsInHand plan link seen got x) is h

pub of_none : (plan : PlanRec) (link : LinkNumber) (seen got : Slot) (o : Option Hand) → o ≡ None → seen ≡ got → IsInHand plan link seen got o
of_none plan link seen got o is h = subst (λ (x : Option Hand). IsInHand plan link seen got x) (sym is) h

-- the same is heard where nothing changed but what is in hand
pub heard_by : (plan : PlanRec) (before after : HorizonRec) (old new : Incoming) → after ≡ before → (heard : IsHeard plan before old) → new.end ≡ old.end → new.link ≡ old.link
    → IsInHand plan old.link heard.seen.seen new.r.end.got new.hand → IsHeard plan after new
heard_by plan before after old new same heard end link in_hand = record {
  seen = heard.seen;
  there = (λ i. slice_get (same i).ends (end i)) ∙ heard.there;
  delay = heard.delay ∙ ap (λ (k : LinkNumber). delay_of plan k) (sym link);
  in_hand = subst (λ (k : LinkNumber). IsInHand plan k heard.seen.seen new.r.end.got new.hand) (sym link) in_hand;
}

module _ (plan : PlanRec) (before after : RunnerRec) (old : Incoming) (heard : IsHeard plan before.horizon old) (to : Slot)
    (taken : after ≡ record before { horizon = record before.horizon { ends = set before.horizon.ends old.end (seen_to to (get_or before.horizon.ends old.end None)) } }) where
  ends_taken : after.horizon.ends ≡ set before.horizon.ends old.end (seen_to to (get_or before.horizon.ends old.end None))
  ends_taken = ap (λ (r : RunnerRec). r.horizon.ends) taken

  pub hears_taken : HearsAt old.end before after
  hears_taken =
      let with_ends : List (Option Seen) → RunnerRec = λ es. record before { horizon = record before.horizon { ends = es } } in
      record {
        rest = taken ∙ ap with_ends (sym ends_taken);
        others = λ k apart. ap (λ (es : List (Option Seen)). slice_get es k) ends_taken ∙ slice_get-set_other before.horizon.ends old.end k _ apart;
      }

  pub heard_taken : (new : Incoming) → new.end ≡ old.end → new.link ≡ old.link → new.r.end.got ≡ to → new.hand ≡ None → IsHeard plan after.horizon new
  heard_taken new end link got none =
      let then : Seen = record heard.seen { seen = to } in
      let value : seen_to to (get_or before.horizon.ends old.end None) ≡ Some then = ap (seen_to to) (get_or_from_slice_get before.horizon.ends old.end (Some heard.seen) None heard.there) in
      record {
        seen = then;
        there =
            (λ i. slice_get (ends_taken i) (end i))
            ∙ slice_get-set_same before.horizon.ends old.end (seen_to to (get_or before.horizon.ends old.end None)) (slice_get_within before.horizon.ends old.end (Some heard.seen) heard.there)
            ∙ ap (λ (s : Option Seen). Some s) value;
        delay = heard.delay ∙ ap (λ (k : LinkNumber). delay_of plan k) (sym link);
        in_hand = of_none plan new.link to new.r.end.got new.hand none (sym got);
      }

-- ---- A look at a log

-- nothing was read
pub stays_unread : (old new : Incoming) → new.end ≡ old.end → new.link ≡ old.link → new.r.table ≡ old.r.table → new.r.end ≡ old.r.end → StaysIncoming old new
stays_unread old new end link table same = record {
  end = end;
  link = link;
  table = table;
  run = ap (λ (r : ReadRec PlanRec). r.run) same;
  number = ap (λ (r : ReadRec PlanRec). r.number) same;
  got = omega (arith, ap (λ (r : ReadRec PlanRec). r.got) same);
  looks = omega (arith, ap (λ (r : ReadRec PlanRec). r.looks) same);
  shut = λ was. ap (λ (r : ReadRec PlanRec). r.shut) same ∙ was;
}

-- what was found is what the arc carried from what was seen on
pub found_is : (plan run : PlanRec) (link number : LinkNumber) (seen from to : Slot) (entries : List Entry) → run ≡ plan → number ≡ link → from ≡ seen → from ≤ to
    → entries ≡ between (carried_at run number) from to → entries ≡ history plan link seen to
found_is plan run link number seen from to entries p l s on is = is ∙ between_is_history run number from to on ∙ (λ i. history (p i) (l i) (s i) to)
