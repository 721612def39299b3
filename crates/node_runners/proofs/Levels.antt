-- What comes by a wire: the levels of its queue that have come by a slot.
use Rattle.std.proofs.Common.{◌≡◌, ◌≢◌, ℕ, zero, suc, ◌+◌, ◌<◌, ◌≤◌, Some, None, List, [], ◌∷◌, ◌++◌, length, take, drop, map, fold, get_or, slice_get, refl, sym, ap, ◌∙◌, subst, arith, inl, inr}
use Rattle.std.specs.Prelude.{slice_set}
use Rattle.std.specs.List.{AllByRecursion}
use Rattle.std.proofs.lemmas.Bool.{cases_eq, le-leb, lt-leb, le-ltb}
use Rattle.std.proofs.lemmas.List.{length-set, get_or-set_same, get_or-set_other}
use Rattle.std.proofs.lemmas.Option.{none-some}
use Rattle.xs_base.specs.Numbers.{Slot, Word, PortNumber}
use Rattle.xs_base.specs.declared.numbers.TheConstants.{PORTS}
use Rattle.xs_base.specs.declared.entry.Entry.{Entry}
use Rattle.xs_base.specs.declared.entry.What.TheVariants as what
use Rattle.serial_model.specs.Serial.{level_after, level_or, arrived_by}
use Rattle.locality_laws.specs.Levels.{IsLevelOf}
use Rattle.crossings.specs.Crossings.{AreInSendingOrder, MayFollow, Later, Beside}
use Rattle.node_seats.specs.declared.pins.Pins.{Pins}
use Rattle.node_seats.specs.Shown.{IsSteady, IsShown}
use Rattle.node_runners.specs.declared.wire_inlets.WireInlet.{WireInlet}
use Rattle.node_runners.specs.Queue.{InletRec, TakesNext, arriving_after}
use Rattle.node_runners.specs.Wires.{wire_in, wire_after, level_by, AreLevels, HasLevels, ArePortsApart, AwaitUntil, TakesLevels, nearer_level}
use Rattle.node_runners.proofs.Nearest.{all_stay, first_of_all, nearer_within, nearer_least}

-- ---- The queue of one wire

module _ (slot delay : ℕ) where
  abbrev later : Entry → Type 0
  later e = slot < e.slot + delay

  follows-later : (e f : Entry) → later e → MayFollow e f → later f
  follows-later e f h (Later after) = omega (arith, h, after)
  follows-later e f h (Beside same token credit) = omega (arith, h, same)

  -- where the first entry comes later, none has come
  pub none-come : (queue : List Entry) → AreInSendingOrder queue → ((e : Entry) → slice_get queue 0 ≡ Some e → later e) → arrived_by slot delay queue ≡ []
  none-come [] order first = refl
  none-come (e ∷ queue) order first =
      let here : later e = first e refl in
      let rest : arrived_by slot delay queue ≡ [] = none-come queue order.1 (λ f is. follows-later e f here (first_of_all (MayFollow e) queue f order.0 is)) in
      rw (lt-leb (e.slot + delay) slot here) rest

  pub none-leave : (queue : List Entry) → AreInSendingOrder queue → ((e : Entry) → slice_get queue 0 ≡ Some e → later e) → arriving_after slot delay queue ≡ queue
  none-leave queue order first = all_stay slot slot (slot + 1) (omega arith) delay queue order (λ e is. omega (arith, first e is))

  -- the first entry has come
  pub one-comes : (e : Entry) (queue : List Entry) → e.slot + delay ≤ slot → arrived_by slot delay (e ∷ queue) ≡ e ∷ arrived_by slot delay queue
  one-comes e queue h = rw (le-leb (e.slot + delay) slot h) refl

  pub one-leaves : (e : Entry) (queue : List Entry) → e.slot + delay ≤ slot → arriving_after slot delay (e ∷ queue) ≡ arriving_after slot delay queue
  one-leaves e queue h = rw (le-ltb slot (e.slot + delay) h) refl

-- ---- A wire whose levels come one by one

pub takes-same : (slot : Slot) (pins : Pins) → IsSteady slot pins → TakesLevels slot pins pins
takes-same slot pins steady = record { script = refl; number = refl; wired = refl; steady = steady; noted = λ seat h. h }

pub takes-on : (slot : Slot) (a b c : Pins) → TakesLevels slot a b → TakesLevels slot b c → TakesLevels slot a c
takes-on slot a b c h k = record {
  script = k.script ∙ h.script;
  number = k.number ∙ h.number;
  wired = k.wired ∙ h.wired;
  steady = k.steady;
  noted = λ seat n. k.noted seat (h.noted seat n);
}

-- what has come of what waited at first, and what is still to come, lead to the same
pub record ComesOn (slot : Slot) (first : WireInlet) (pins : Pins) (wire : WireInlet) (now : Pins) : Type 0 where
  pub port : wire.port ≡ first.port
  pub delay : wire.inlet.delay ≡ first.inlet.delay
  pub levels : AreLevels wire
  pub takes : TakesLevels slot pins now
  pub level : level_by slot wire (get_or now.levels first.port 0) ≡ level_by slot first (get_or pins.levels first.port 0)
  pub others : (port : PortNumber) → port ≢ first.port → get_or now.levels port 0 ≡ get_or pins.levels port 0
  pub left : arriving_after slot wire.inlet.delay wire.inlet.queue ≡ arriving_after slot first.inlet.delay first.inlet.queue

pub comes-first : (slot : Slot) (wire : WireInlet) (pins : Pins) → AreLevels wire → IsSteady slot pins → ComesOn slot wire pins wire pins
comes-first slot wire pins levels steady = record {
  port = refl;
  delay = refl;
  levels = levels;
  takes = takes-same slot pins steady;
  level = refl;
  others = λ port other. refl;
  left = refl;
}

-- what comes to pins, as they take it
pub record TakesLevel (slot : Slot) (port : PortNumber) (level : Word) (before after : Pins) : Type 0 where
  pub script : after.script ≡ before.script
  pub number : after.number ≡ before.number
  pub wired : after.wired ≡ before.wired
  pub levels : after.levels ≡ slice_set before.levels port level
  pub ports : length after.levels ≡ PORTS
  pub shown : IsShown slot after
  pub due : after.next ≡ slot

module _ (slot : Slot) (first : WireInlet) (pins : Pins) (wire : WireInlet) (now : Pins) (so_far : ComesOn slot first pins wire now) (after : InletRec) where
  -- one more level comes
  module _ (e : Entry) (takes : TakesNext slot wire.inlet (Some e) after) where
    abbrev rest : WireInlet
    rest = record wire { inlet = after }

    queue-is : wire.inlet.queue ≡ e ∷ after.queue
    queue-is = ap (λ (i : InletRec). i.queue) takes.0

    delay-is : wire.inlet.delay ≡ after.delay
    delay-is = ap (λ (i : InletRec). i.delay) takes.0

    come : e.slot + after.delay ≤ slot
    come = omega (arith, takes.1, delay-is)

    order : AreInSendingOrder (e ∷ after.queue)
    order = subst AreInSendingOrder queue-is so_far.levels.in_order

    pub fits : IsLevelOf wire.port e.what × AllByRecursion (λ (f : Entry). IsLevelOf wire.port f.what) after.queue
    fits = subst (AllByRecursion (λ (f : Entry). IsLevelOf wire.port f.what)) queue-is so_far.levels.fit

    module _ (level : Word) (is : e.what ≡ what.Level level) (later_pins : Pins) (t : TakesLevel slot wire.port level now later_pins) where
      same-port : wire.port ≡ first.port
      same-port = so_far.port

      there : first.port < length now.levels
      there = omega (arith, so_far.levels.port, same-port, t.ports, ap length t.levels, length-set now.levels wire.port level)

      shows : get_or later_pins.levels first.port 0 ≡ level
      shows = (λ i. get_or (t.levels i) first.port 0) ∙ (λ i. get_or (slice_set now.levels (same-port i) level) first.port 0) ∙ get_or-set_same now.levels first.port level 0 there

      others-same : (port : PortNumber) → port ≢ first.port → get_or later_pins.levels port 0 ≡ get_or now.levels port 0
      others-same port other =
          (λ i. get_or (t.levels i) port 0) ∙ (λ i. get_or (slice_set now.levels (same-port i) level) port 0) ∙ get_or-set_other now.levels first.port port level 0 other

      takes-it : TakesLevels slot now later_pins
      takes-it = record {
        script = t.script;
        number = t.number;
        wired = t.wired;
        steady = t.shown.steady;
        noted = λ seat h less. absurd (omega (arith, less, t.due));
      }

      same-level : level_by slot rest (get_or later_pins.levels first.port 0) ≡ level_by slot wire (get_or now.levels first.port 0)
      same-level =
          ap (λ b. level_by slot rest b) shows
          ∙ sym (ap (λ w. level_after (level_or w (get_or now.levels first.port 0)) (arrived_by slot after.delay after.queue)) is)
          ∙ sym (ap (level_after (get_or now.levels first.port 0)) (one-comes slot after.delay e after.queue come))
          ∙ sym (λ i. level_after (get_or now.levels first.port 0) (arrived_by slot (delay-is i) (queue-is i)))

      pub comes-more : ComesOn slot first pins rest later_pins
      comes-more = record {
        port = same-port;
        delay = sym delay-is ∙ so_far.delay;
        levels = record { port = so_far.levels.port; in_order = order.1; fit = fits.1 };
        takes = takes-on slot pins now later_pins so_far.takes takes-it;
        level = same-level ∙ so_far.level;
        others = λ port other. others-same port other ∙ so_far.others port other;
        left = sym (one-leaves slot after.delay e after.queue come) ∙ sym (λ i. arriving_after slot (delay-is i) (queue-is i)) ∙ so_far.left;
      }

  -- none comes any more
  module _ (takes : TakesNext slot wire.inlet None after) where
    pub all-left : record wire { inlet = after } ≡ wire_after slot first
    all-left =
        (λ i. record wire { inlet = takes.0 i })
        ∙ (λ i. record { port = so_far.port i; inlet = record { delay = so_far.delay i; queue = (sym (none-leave slot wire.inlet.delay wire.inlet.queue so_far.levels.in_order takes.1) ∙ so_far.left) i } })

    pub all-came : get_or now.levels first.port 0 ≡ level_by slot first (get_or pins.levels first.port 0)
    all-came =
        sym (ap (level_after (get_or now.levels first.port 0)) (none-come slot wire.inlet.delay wire.inlet.queue so_far.levels.in_order takes.1)) ∙ so_far.level

-- ---- All wires of a node

module _ {X : Type 0} (f : X → X) where
  -- the first ones were changed, and this one was not
  pub rest-there : (xs : List X) (k : ℕ) (d : X) → k < length xs → get_or (map f (take k xs) ++ drop k xs) k d ≡ get_or xs k d
  rest-there [] k d h = absurd (omega (arith, h))
  rest-there (x ∷ xs) zero d h = refl
  rest-there (x ∷ xs) (suc k) d h = rest-there xs k d (omega (arith, h))

-- so many wires were looked at
pub record AllComeBelow (slot : Slot) (wires : List WireInlet) (pins : Pins) (count : ℕ) (now : Pins) : Type 0 where
  pub takes : TakesLevels slot pins now
  pub came : (k : ℕ) → k < count → k < length wires → get_or now.levels (wire_in wires k).port 0 ≡ level_by slot (wire_in wires k) (get_or pins.levels (wire_in wires k).port 0)
  pub rest : (k : ℕ) → count ≤ k → k < length wires → get_or now.levels (wire_in wires k).port 0 ≡ get_or pins.levels (wire_in wires k).port 0

module _ (slot : Slot) (wires : List WireInlet) (pins : Pins) (apart : ArePortsApart wires) (i : ℕ) (within : i < length wires) (now : Pins) (below : AllComeBelow slot wires pins i now)
    (later_pins : Pins) (takes : TakesLevels slot now later_pins)
    (level : get_or later_pins.levels (wire_in wires i).port 0 ≡ level_by slot (wire_in wires i) (get_or now.levels (wire_in wires i).port 0))
    (others : (port : PortNumber) → port ≢ (wire_in wires i).port → get_or later_pins.levels port 0 ≡ get_or now.levels port 0) where
  port-other : (k : ℕ) → k < length wires → k ≢ i → (wire_in wires k).port ≢ (wire_in wires i).port
  port-other k there other same = other (apart k i there within same)

  one-more : (k : ℕ) → k < i + 1 → k < length wires → get_or later_pins.levels (wire_in wires k).port 0 ≡ level_by slot (wire_in wires k) (get_or pins.levels (wire_in wires k).port 0)
  one-more k less there = elim (cases_eq k i) [
    | inl at ↦ subst (λ j. get_or later_pins.levels (wire_in wires j).port 0 ≡ level_by slot (wire_in wires j) (get_or pins.levels (wire_in wires j).port 0)) (sym at)
        (level ∙ ap (level_by slot (wire_in wires i)) (below.rest i (omega arith) within))
    | inr ne ↦ others (wire_in wires k).port (port-other k there ne) ∙ below.came k (omega (arith, less, ne)) there
  ]

  pub all-come-more : AllComeBelow slot wires pins (i + 1) later_pins
  all-come-more = record {
    takes = takes-on slot pins now later_pins below.takes takes;
    came = one-more;
    rest = λ k on there. others (wire_in wires k).port (port-other k there (λ same. omega (arith, same, on))) ∙ below.rest k (omega (arith, on)) there;
  }

-- where each of them comes later, nothing changes
module _ (slot next : Slot) (before : slot < next) (wires : List WireInlet) (levels : HasLevels wires) (until : AwaitUntil next wires) where
  later-first : (k : ℕ) (e : Entry) → slice_get (wire_in wires k).inlet.queue 0 ≡ Some e → slot < e.slot + (wire_in wires k).inlet.delay
  later-first k e is = omega (arith, before, until k e is)

  pub none-shows : (k : ℕ) → k < length wires → (level : Word) → level ≡ level_by slot (wire_in wires k) level
  none-shows k there level =
      let w = wire_in wires k in
      sym (ap (level_after level) (none-come slot w.inlet.delay w.inlet.queue (levels k there).in_order (later-first k)))

pub none-leaves : (slot next : Slot) → slot < next → (wires : List WireInlet) → HasLevels wires → AwaitUntil next wires → map (wire_after slot) wires ≡ wires
none-leaves slot next before [] levels until = refl
none-leaves slot next before (w ∷ wires) levels until =
    let here : arriving_after slot w.inlet.delay w.inlet.queue ≡ w.inlet.queue = none-leave slot w.inlet.delay w.inlet.queue (levels 0 (omega arith)).in_order (λ e is. omega (arith, before, until 0 e is)) in
    let rest : map (wire_after slot) wires ≡ wires = none-leaves slot next before wires (λ k there. levels (suc k) (omega (arith, there))) (λ k. until (suc k)) in
    λ i. record w { inlet = record w.inlet { queue = here i } } ∷ rest i

-- ---- The first level that comes

nearest-within : (bound : Slot) (wires : List WireInlet) → fold nearer_level bound wires ≤ bound
nearest-within bound [] = omega arith
nearest-within bound (w ∷ wires) = omega (arith, nearest-within (nearer_level bound w) wires, nearer_within bound w.inlet.delay (slice_get w.inlet.queue 0))

pub nearest-level-awaits : (bound : Slot) (wires : List WireInlet) → AwaitUntil (fold nearer_level bound wires) wires
nearest-level-awaits bound [] k e is = absurd (none-some e is)
nearest-level-awaits bound (w ∷ wires) zero e is =
    omega (arith, nearest-within (nearer_level bound w) wires, nearer_least bound w.inlet.delay (slice_get w.inlet.queue 0) e is)
nearest-level-awaits bound (w ∷ wires) (suc k) e is = nearest-level-awaits (nearer_level bound w) wires k e is

-- it is looked for in these wires
pub awaits-level : (bound next : Slot) (wires lent : List WireInlet) → lent ≡ wires → next ≡ fold nearer_level bound lent → AwaitUntil next wires
awaits-level bound next wires lent same is =
    subst (λ (ws : List WireInlet). AwaitUntil next ws) same (subst (λ t. AwaitUntil t lent) (sym is) (nearest-level-awaits bound lent))
