-- What a node has seen of an arc, and which has not arrived yet.
use Rattle.std.proofs.Common.{◌≡◌, ◌+◌, ◌-◌, ◌<◌, ◌≤◌, Bool, true, false, leb, ltb, Some, List, [], ◌∷◌, filter, refl, ◌∙◌, arith, inl, inr}
use mathlib.Core.Logic.{◌⊎◌}
use Rattle.std.specs.List.{AllByRecursion}
use Rattle.std.proofs.lemmas.Bool.{cases_Bool, cases_lt, and_parts, leb-true, ltb-true, le-leb, lt-leb, lt-ltb, le-ltb}
use Rattle.xs_base.specs.Numbers.{Slot, Position, LinkNumber, EndNumber}
use Rattle.xs_base.specs.declared.numbers.TheConstants.{LINK_ENDS}
use Rattle.xs_base.specs.declared.entry.Entry.{Entry}
use Rattle.sys_plan.specs.Plan.{PlanRec, incoming, delay_of}
use Rattle.sys_plan.proofs.Routes.{link-comes}
use Rattle.serial_model.specs.Serial.{is_sent_within, history}
use Rattle.locality_laws.proofs.Entries.{all_weaker, filter_same, filter_through}
use Rattle.locality_laws.proofs.Serial.{upto}
use Rattle.crossings.proofs.Histories.{history_in_order, history_has_no_level, links-join-nothing}
use Rattle.node_runners.specs.Queue.{arriving_after, AreWaiting}

-- what a test lets through passes it
filter-passes : (p : Entry → Bool) (xs : List Entry) → AllByRecursion (λ (e : Entry). p e ≡ true) (filter p xs)
filter-passes p [] = tt
filter-passes p (x ∷ xs) = by_test (filter-passes p xs) (cases_Bool (p x))
  where
    by_test : AllByRecursion (λ (e : Entry). p e ≡ true) (filter p xs) → (p x ≡ true) ⊎ (p x ≡ false) → AllByRecursion (λ (e : Entry). p e ≡ true) (filter p (x ∷ xs))
    by_test rest (inl passes) = rw passes (passes, rest)
    by_test rest (inr fails) = rw fails rest

pub record Within (from to : Slot) (e : Entry) : Type 0 where
  pub first : from ≤ e.slot
  pub last : e.slot < to

within : (from to : Slot) (e : Entry) → is_sent_within from to e ≡ true → Within from to e
within from to e h =
    let both = and_parts (leb from e.slot) (ltb e.slot to) h in
    record { first = leb-true from e.slot both.0; last = ltb-true e.slot to both.1 }

all-within : (plan : PlanRec) (link : LinkNumber) (from to : Slot) → AllByRecursion (Within from to) (history plan link from to)
all-within plan link from to =
    all_weaker (λ (e : Entry). is_sent_within from to e ≡ true) (Within from to) (within from to) (history plan link from to) (filter-passes (is_sent_within from to) (upto plan link to))

-- of a link that comes to a node
pub history-waits : (plan : PlanRec) (n : Position) (end : EndNumber) (link : LinkNumber) (clock seen : Slot) → end < LINK_ENDS → incoming plan n end ≡ Some link
    → AreWaiting clock (delay_of plan link) (history plan link (clock - delay_of plan link) seen)
history-waits plan n end link clock seen below comes =
    let delay = delay_of plan link in
    let arc = link-comes plan n end below link comes in
    record {
      in_order = history_in_order plan link (clock - delay) seen;
      due = all_weaker (Within (clock - delay) seen) (λ (e : Entry). clock ≤ e.slot + delay) (λ e w. omega (arith, w.first)) (history plan link (clock - delay) seen) (all-within plan link (clock - delay) seen);
      no_level = history_has_no_level plan link (clock - delay) seen (links-join-nothing plan link arc.0 arc.1);
    }

-- what arrives after a slot, from this one on, is what a node that has run it waits for
module _ (delay clock slot seen : Slot) (on : clock ≤ slot) where
  abbrev After : Entry → Bool
  After e = ltb slot (e.slot + delay)

  same_test : (e : Entry) → Within (clock - delay) seen e → (slot < e.slot + delay) ⊎ (e.slot + delay ≤ slot) → After e ≡ is_sent_within (slot + 1 - delay) seen e
  same_test e w (inl later) = rw (lt-ltb slot (e.slot + delay) later, le-leb (slot + 1 - delay) e.slot (omega (arith, later)), lt-ltb e.slot seen w.last) refl
  same_test e w (inr not) = rw (le-ltb slot (e.slot + delay) not, lt-leb (slot + 1 - delay) e.slot (omega (arith, not))) refl

  still : (e : Entry) → Within (slot + 1 - delay) seen e → is_sent_within (clock - delay) seen e ≡ true
  still e w = rw (le-leb (clock - delay) e.slot (omega (arith, w.first, on)), lt-ltb e.slot seen w.last) refl

pub history-left : (plan : PlanRec) (link : LinkNumber) (clock slot seen : Slot) → clock ≤ slot
    → arriving_after slot (delay_of plan link) (history plan link (clock - delay_of plan link) seen) ≡ history plan link (slot + 1 - delay_of plan link) seen
history-left plan link clock slot seen on =
    let delay = delay_of plan link in
    let old = is_sent_within (clock - delay) seen in
    let new = is_sent_within (slot + 1 - delay) seen in
    let queue = history plan link (clock - delay) seen in
    filter_same (After delay clock slot seen on) new queue
    (all_weaker (Within (clock - delay) seen) (λ (e : Entry). After delay clock slot seen on e ≡ new e) (λ e w. same_test delay clock slot seen on e w (cases_lt slot (e.slot + delay))) queue (all-within plan link (clock - delay) seen))
    ∙ filter_through new old (λ e h. still delay clock slot seen on e (within (slot + 1 - delay) seen e h)) (upto plan link seen)
