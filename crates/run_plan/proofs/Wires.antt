-- A wire from slot to slot.
use Rattle.std.proofs.Common.{◌≡◌, ℕ, zero, suc, ◌+◌, ◌<◌, ◌≤◌, ◌^◌, true, false, eqb, cond, Option, Some, None, List, [], ◌∷◌, ◌++◌, length, take, get_or, refl, sym, ap, ◌∙◌, subst, arith, inl, inr}
use mathlib.Core.Logic.{◌⊎◌}
use Rattle.std.specs.Prelude.{IfSome, nat_le, slice_get}
use Rattle.std.specs.List.{AllByRecursion}
use Rattle.std.proofs.lemmas.Bool.{cases_Bool, eqb-true, eqb-false}
use Rattle.std.proofs.lemmas.Bool.Decides.{nat_tests}
use Rattle.std.proofs.lemmas.List.{take_more, take-append-le}
use Rattle.std.proofs.lemmas.Nat.{pow_pos}
use Rattle.std.proofs.lemmas.Option.{none-some, same_Some}
use Rattle.xs_base.specs.Ids.{port_width}
use Rattle.xs_base.specs.Batch.{BatchRec}
use Rattle.xs_base.specs.declared.entry.Entry.{Entry}
use Rattle.xs_base.specs.declared.entry.What.{What}
use Rattle.xs_base.specs.declared.entry.What.TheVariants as what
use Rattle.pin_wires.specs.Wires.{driven_or_low}
use Rattle.serial_model.specs.Serial.{arrived_by, level_on, level_after, level_or, level_entries}
use Rattle.crossings.specs.Crossings.{AreInSendingOrder, MayFollow, Later, IsDueFrom, due_of}
use Rattle.crossings.proofs.Arriving.{all-map, all-append, due-append}
use Rattle.snap_parts.specs.InFlight.{IsOfWire, IsEarlier, StandSo}
use Rattle.run_plan.specs.declared.wire.Wire.{Wire}
use Rattle.run_plan.specs.Wires.{IsWire, WireGoesOn, with_coming}
use Rattle.run_plan.specs.Quiet.{ComesAfter}
use Rattle.run_plan.proofs.Waiting.{none_to_come, first_to_come, due_between}

-- ---- What has come

come-now : (m slot : ℕ) → m < slot + 1 → nat_le m slot ≡ true
come-now m slot h = grind (arith, nat_tests)

not-yet : (m slot : ℕ) → slot + 1 ≤ m → nat_le m slot ≡ false
not-yet m slot h = grind (arith, nat_tests)

none-yet : (slot delay : ℕ) (es : List Entry) → AllByRecursion (λ (e : Entry). slot + 1 ≤ e.slot + delay) es → arrived_by slot delay es ≡ []
none-yet slot delay [] later = refl
none-yet slot delay (e ∷ es) later =
    let here = not-yet (e.slot + delay) slot later.0 in
    rw here (none-yet slot delay es later.1)

-- what has come by a slot are the first entries
came-first : (slot delay first : ℕ) (es : List Entry) → IsDueFrom (slot + 1) delay first es → arrived_by slot delay es ≡ take first es
came-first slot delay zero es due = none-yet slot delay es due
came-first slot delay (suc first) [] due = absurd due
came-first slot delay (suc first) (e ∷ es) due =
    let here = come-now (e.slot + delay) slot due.0 in
    rw here (ap (λ rest. e ∷ rest) (came-first slot delay first es due.1))

pub level-is : (before slot delay first : ℕ) (es : List Entry) → IsDueFrom (slot + 1) delay first es → level_on before slot delay es ≡ level_after before (take first es)
level-is before slot delay first es due = ap (level_after before) (came-first slot delay first es due)

-- where nothing comes, the level stays
pub level-stays : (before from slot delay first : ℕ) (es : List Entry) → IsDueFrom (from + 1) delay first es → IsDueFrom (slot + 1) delay first es → level_on before slot delay es ≡ level_on before from delay es
level-stays before from slot delay first es early late = level-is before slot delay first es late ∙ sym (level-is before from delay first es early)

-- the level after one more entry
pub level-more : (level : ℕ) (es : List Entry) (e : Entry) → level_after level (es ++ e ∷ []) ≡ level_or e.what (level_after level es)
level-more level [] e = refl
level-more level (x ∷ es) e = level-more (level_or x.what level) es e

pub sending : (es : List Entry) → StandSo IsEarlier es → AreInSendingOrder es
sending [] order = tt
sending (e ∷ es) order = (all-map (λ (f : Entry). e.slot < f.slot) (MayFollow e) (λ f l. Later l) es order.0, sending es order.1)

-- ---- The next entry

due-within : (slot delay first : ℕ) (es : List Entry) → IsDueFrom slot delay first es → first ≤ length es
due-within slot delay zero es due = omega arith
due-within slot delay (suc first) [] due = absurd due
due-within slot delay (suc first) (e ∷ es) due = omega (arith, due-within slot delay first es due.1)

pub get-within : (es : List Entry) (k : ℕ) (e : Entry) → slice_get es k ≡ Some e → k < length es
get-within [] k e here = absurd (none-some e here)
get-within (x ∷ es) zero e here = omega arith
get-within (x ∷ es) (suc k) e here = omega (arith, get-within es k e here)

pub get-is : (es : List Entry) (k : ℕ) (e : Entry) → slice_get es k ≡ Some e → get_or es k e ≡ e
get-is [] k e here = refl
get-is (x ∷ es) zero e here = same_Some x e here
get-is (x ∷ es) (suc k) e here = get-is es k e here

pub due-at : (slot delay first : ℕ) (es : List Entry) (e : Entry) → IsDueFrom slot delay first es → slice_get es first ≡ Some e → slot ≤ e.slot + delay
due-at slot delay zero [] e due here = absurd (none-some e here)
due-at slot delay zero (x ∷ es) e due here = omega (arith, due.0, ap (λ (y : Entry). y.slot) (same_Some x e here))
due-at slot delay (suc first) [] e due here = absurd due
due-at slot delay (suc first) (x ∷ es) e due here = due-at slot delay first es e due.1 here

-- it comes in this slot
pub due-next : (slot delay first : ℕ) (es : List Entry) (e : Entry) → IsDueFrom slot delay first es → StandSo IsEarlier es → slice_get es first ≡ Some e → e.slot + delay ≡ slot → IsDueFrom (slot + 1) delay (suc first) es
due-next slot delay zero [] e due order here now = absurd (none-some e here)
due-next slot delay zero (x ∷ es) e due order here now =
    let same = ap (λ (y : Entry). y.slot) (same_Some x e here) in (
      omega (arith, same, now),
      all-map (λ (f : Entry). x.slot < f.slot) (λ (f : Entry). slot + 1 ≤ f.slot + delay) (λ f l. omega (arith, l, same, now)) es order.0,
    )
due-next slot delay (suc first) [] e due order here now = absurd due
due-next slot delay (suc first) (x ∷ es) e due order here now = (omega (arith, due.0), due-next slot delay first es e due.1 order.1 here now)

pub level-at : (width first : ℕ) (es : List Entry) (e : Entry) → AllByRecursion (λ (e : Entry). IsOfWire width e.what) es → slice_get es first ≡ Some e → IsOfWire width e.what
level-at width first [] e all here = absurd (none-some e here)
level-at width zero (x ∷ es) e all here = subst (λ (y : Entry). IsOfWire width y.what) (same_Some x e here) all.0
level-at width (suc first) (x ∷ es) e all here = level-at width first es e all.1 here

pub level-fits : (width : ℕ) (told : What) (before : ℕ) → IsOfWire width told → level_or told before < 2 ^ width
level-fits width (what.Level level) before is = is
level-fits width (what.Token t) before is = absurd is
level-fits width what.Credit before is = absurd is

-- ---- What a slot tells

pub low-fits : (port : ℕ) (driven : Option ℕ) → IfSome driven (λ value. value < 2 ^ port_width port) → driven_or_low driven < 2 ^ port_width port
low-fits port None fits = pow_pos (port_width port)
low-fits port (Some value) fits = fits

record IsNew (slot width : ℕ) (new : List Entry) : Type 0 where
  at : AllByRecursion (λ (e : Entry). e.slot ≡ slot) new
  order : StandSo IsEarlier new
  levels : AllByRecursion (λ (e : Entry). IsOfWire width e.what) new

new-is : (slot width before now : ℕ) → now < 2 ^ width → IsNew slot width (level_entries slot before now)
new-is slot width before now fits = by_test (cases_Bool (eqb now before))
  where
    by_test : (eqb now before ≡ true) ⊎ (eqb now before ≡ false) → IsNew slot width (level_entries slot before now)
    by_test (inl same) = rw same (record { at = tt; order = tt; levels = tt })
    by_test (inr other) = rw other (record { at = (refl, tt); order = (tt, tt); levels = (fits, tt) })

order-more : (slot : ℕ) (es new : List Entry) → StandSo IsEarlier es → AllByRecursion (λ (e : Entry). e.slot < slot) es → AllByRecursion (λ (e : Entry). e.slot ≡ slot) new → StandSo IsEarlier new → StandSo IsEarlier (es ++ new)
order-more slot [] new order before at order_new = order_new
order-more slot (e ∷ es) new order before at order_new = (
  all-append (λ (f : Entry). e.slot < f.slot) es new order.0 (all-map (λ (f : Entry). f.slot ≡ slot) (λ (f : Entry). e.slot < f.slot) (λ f same. omega (arith, before.0, same)) new at),
  order-more slot es new order.1 before.1 at order_new,
)

-- ---- The next slot

-- what comes changes only this
record SameParts (before after : Wire) : Type 0 where
  from : after.from ≡ before.from
  from_port : after.from_port ≡ before.from_port
  to : after.to ≡ before.to
  to_port : after.to_port ≡ before.to_port
  delay : after.delay ≡ before.delay
  history : after.history ≡ before.history
  sent : after.sent ≡ before.sent
  shown : after.shown.value ≡ before.shown.value

coming-keeps : (told : Option What) (wire : Wire) → SameParts wire (with_coming told wire)
coming-keeps None wire = record { from = refl; from_port = refl; to = refl; to_port = refl; delay = refl; history = refl; sent = refl; shown = refl }
coming-keeps (Some told) wire = record { from = refl; from_port = refl; to = refl; to_port = refl; delay = refl; history = refl; sent = refl; shown = refl }

-- entries that a wire may have before a slot
pub record IsHistory (width slot : ℕ) (es : List Entry) : Type 0 where
  pub in_order : StandSo IsEarlier es
  pub levels : AllByRecursion (λ (e : Entry). IsOfWire width e.what) es
  pub before : AllByRecursion (λ (e : Entry). e.slot < slot) es

-- a wire of one slot, of which so much has come by another
pub with-come : (slot to : ℕ) (wire : Wire) → IsWire slot wire → (history : BatchRec) (sent first level : ℕ) → IsHistory (port_width wire.to_port) to history.entries → first ≤ to
    → IsDueFrom (to + 1) wire.delay first history.entries → level ≡ level_on wire.shown.value to wire.delay history.entries → level < 2 ^ port_width wire.to_port
    → IsWire to (record wire { history = history; sent = sent; first = first; level = level })
with-come slot to wire is history sent first level entries few due same narrow = record {
  from_port = is.from_port;
  to_port = is.to_port;
  widths = is.widths;
  delayed = is.delayed;
  in_order = entries.in_order;
  levels = entries.levels;
  before = entries.before;
  few = few;
  due = due;
  level = same;
  narrow = narrow;
}

-- a wire that was told of a slot
module _ (slot : ℕ) (wire : Wire) (is : IsWire slot wire) (now : ℕ) (fits : now < 2 ^ port_width wire.from_port) (history : BatchRec)
    (entries : history.entries ≡ wire.history.entries ++ level_entries slot wire.sent now) where
  abbrev pub told : Wire
  told = record wire { history = history; sent = now }

  new-told : IsNew slot (port_width wire.to_port) (level_entries slot wire.sent now)
  new-told = new-is slot (port_width wire.to_port) wire.sent now (subst (λ w. now < 2 ^ w) is.widths fits)

  history-told : IsHistory (port_width wire.to_port) (slot + 1) history.entries
  history-told =
      let new = level_entries slot wire.sent now in
      let width = port_width wire.to_port in
      let es = wire.history.entries in
      subst (IsHistory width (slot + 1)) (sym entries) (record {
        in_order = order-more slot es new is.in_order is.before new-told.at new-told.order;
        levels = all-append (λ (e : Entry). IsOfWire width e.what) es new is.levels new-told.levels;
        before =
            all-append (λ (e : Entry). e.slot < slot + 1) es new
            (all-map (λ (e : Entry). e.slot < slot) (λ (e : Entry). e.slot < slot + 1) (λ e l. omega (arith, l)) es is.before)
            (all-map (λ (e : Entry). e.slot ≡ slot) (λ (e : Entry). e.slot < slot + 1) (λ e same. omega (arith, same)) new new-told.at);
      })

  due-told : IsDueFrom (slot + 1) wire.delay wire.first history.entries
  due-told =
      let new = level_entries slot wire.sent now in
      let later = all-map (λ (e : Entry). e.slot ≡ slot) (λ (e : Entry). slot + 1 ≤ e.slot + wire.delay) (λ e same. omega (arith, same, is.delayed)) new new-told.at in
      subst (IsDueFrom (slot + 1) wire.delay wire.first) (sym entries) (due-append (slot + 1) wire.delay wire.first wire.history.entries new is.due later)

  level-told : wire.level ≡ level_after wire.shown.value (take wire.first history.entries)
  level-told =
      let es = wire.history.entries in
      let same = take-append-le wire.first es (level_entries slot wire.sent now) (due-within (slot + 1) wire.delay wire.first es is.due) in
      is.level ∙ level-is wire.shown.value slot wire.delay wire.first es is.due
      ∙ ap (level_after wire.shown.value) (sym same)
      ∙ ap (λ (all : List Entry). level_after wire.shown.value (take wire.first all)) (sym entries)

  -- it takes what comes: nothing does
  stays : IsDueFrom (slot + 1 + 1) wire.delay wire.first history.entries → IsWire (slot + 1) told
  stays due =
      with-come slot (slot + 1) wire is history now wire.first wire.level history-told (omega (arith, is.few)) due
      (level-told ∙ sym (level-is wire.shown.value (slot + 1) wire.delay wire.first history.entries due)) is.narrow

  -- the next entry does
  comes : (e : Entry) → slice_get history.entries wire.first ≡ Some e → e.slot + wire.delay ≡ slot + 1 → IsWire (slot + 1) (record told { first = wire.first + 1; level = level_or e.what wire.level })
  comes e here now_due =
      let es = history.entries in
      let one : suc wire.first ≡ wire.first + 1 = omega arith in
      let due : IsDueFrom (slot + 1 + 1) wire.delay (wire.first + 1) es =
      subst (λ n. IsDueFrom (slot + 1 + 1) wire.delay n es) one (due-next (slot + 1) wire.delay wire.first es e due-told history-told.in_order here now_due) in
      let more : take (wire.first + 1) es ≡ take wire.first es ++ e ∷ [] =
      take_more es wire.first e (get-within es wire.first e here) ∙ ap (λ x. take wire.first es ++ x ∷ []) (get-is es wire.first e here) in
      let level =
      ap (level_or e.what) level-told
      ∙ sym (level-more wire.shown.value (take wire.first es) e)
      ∙ ap (level_after wire.shown.value) (sym more)
      ∙ sym (level-is wire.shown.value (slot + 1) wire.delay (wire.first + 1) es due) in
      let narrow = level-fits (port_width wire.to_port) e.what wire.level (level-at (port_width wire.to_port) wire.first es e history-told.levels here) in
      with-come slot (slot + 1) wire is history now (wire.first + 1) (level_or e.what wire.level) history-told (omega (arith, is.few)) due level narrow

  by-next : (next : Option Entry) → slice_get history.entries wire.first ≡ next → IsWire (slot + 1) (with_coming (due_of (slot + 1) wire.delay next) told)
  by-next None none = stays (none_to_come (slot + 1) (slot + 1) wire.delay wire.first history.entries (omega arith) due-told none)
  by-next (Some e) here = by_test (cases_Bool (eqb (e.slot + wire.delay) (slot + 1)))
    where
      by_test : (eqb (e.slot + wire.delay) (slot + 1) ≡ true) ⊎ (eqb (e.slot + wire.delay) (slot + 1) ≡ false) → IsWire (slot + 1) (with_coming (due_of (slot + 1) wire.delay (Some e)) told)
      by_test (inl now_due) =
          subst (λ b. IsWire (slot + 1) (with_coming (cond b (Some e.what) None) told)) (sym now_due)
          (comes e here (eqb-true (e.slot + wire.delay) (slot + 1) now_due))
      by_test (inr later) =
          subst (λ b. IsWire (slot + 1) (with_coming (cond b (Some e.what) None) told)) (sym later)
          (stays (first_to_come (slot + 1) (slot + 1) wire.delay wire.first history.entries e (omega arith) due-told (sending history.entries history-told.in_order) here (not-now later)))
        where
          not-now : eqb (e.slot + wire.delay) (slot + 1) ≡ false → slot + 1 < e.slot + wire.delay
          not-now apart = omega (arith, due-at (slot + 1) wire.delay wire.first history.entries e due-told here, eqb-false (e.slot + wire.delay) (slot + 1) apart)

  takes : IsWire (slot + 1) (with_coming (due_of (slot + 1) wire.delay (slice_get history.entries wire.first)) told)
  takes = by-next (slice_get history.entries wire.first) refl

-- a wire that goes on to the next slot
module _ (slot : ℕ) (wire : Wire) (is : IsWire slot wire) (now : ℕ) (fits : now < 2 ^ port_width wire.from_port) (was after : Wire)
    (entries : was.history.entries ≡ wire.history.entries ++ level_entries slot wire.sent now)
    (rest : was ≡ record wire { history = was.history; sent = now })
    (taken : after ≡ with_coming (due_of (slot + 1) was.delay (slice_get was.history.entries was.first)) was) where
  pub goes-on : WireGoesOn slot now wire after
  goes-on =
      let w = told slot wire is now fits was.history entries in
      let from_w : after ≡ with_coming (due_of (slot + 1) w.delay (slice_get w.history.entries w.first)) w =
      taken ∙ ap (λ (x : Wire). with_coming (due_of (slot + 1) x.delay (slice_get x.history.entries x.first)) x) rest in
      let parts = subst (SameParts w) (sym from_w) (coming-keeps (due_of (slot + 1) w.delay (slice_get w.history.entries w.first)) w) in
      record {
        from = parts.from;
        from_port = parts.from_port;
        to = parts.to;
        to_port = parts.to_port;
        delay = parts.delay;
        entries = ap (λ (h : BatchRec). h.entries) parts.history ∙ entries;
        sent = parts.sent;
        shown = parts.shown;
        next = subst (IsWire (slot + 1)) (sym from_w) (takes slot wire is now fits was.history entries);
      }

-- it goes over slots in which nothing comes by it
pub wire-later : (from to : ℕ) → from ≤ to → (wire : Wire) → IsWire from wire → IsDueFrom (to + 1) wire.delay wire.first wire.history.entries → IsWire to wire
wire-later from to on wire is late =
    let es = wire.history.entries in
    let before = all-map (λ (e : Entry). e.slot < from) (λ (e : Entry). e.slot < to) (λ e l. omega (arith, l, on)) es is.before in
    with-come from to wire is wire.history wire.sent wire.first wire.level (record { in_order = is.in_order; levels = is.levels; before = before }) (omega (arith, is.few, on)) late
    (is.level ∙ sym (level-stays wire.shown.value from to wire.delay wire.first es is.due late)) is.narrow

-- and shows the same in each of them
pub shows-still : (from slot to : ℕ) → from ≤ slot → slot ≤ to → (wire : Wire) → IsWire from wire → IsDueFrom (to + 1) wire.delay wire.first wire.history.entries
    → wire.level ≡ level_on wire.shown.value slot wire.delay wire.history.entries
shows-still from slot to on within wire is late =
    let here = due_between (from + 1) (slot + 1) (to + 1) wire.delay wire.first wire.history.entries (omega (arith, on)) (omega (arith, within)) is.due late in
    is.level ∙ sym (level-stays wire.shown.value from slot wire.delay wire.first wire.history.entries is.due here)

-- what comes after a slot comes after an earlier one
pub comes_sooner : (from slot to : ℕ) (wire : Wire) → from ≤ slot → slot ≤ to → IsWire from wire → ComesAfter to wire → ComesAfter slot wire
comes_sooner from slot to wire on within is after =
    due_between (from + 1) (slot + 1) (to + 1) wire.delay wire.first wire.history.entries (omega (arith, on)) (omega (arith, within)) is.due after
