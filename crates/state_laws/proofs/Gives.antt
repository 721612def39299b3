-- What a snapshot keeps of a node of which all of it is true says what may be so of a node.
use Rattle.std.proofs.Common.{◌≡◌, ℕ, zero, suc, ◌+◌, ◌-◌, ◌*◌, ◌%◌, ◌<◌, ◌≤◌, ◌==◌, Bool, true, false, is_some, Option, Some, None, List, [], ◌∷◌, length, map, drop, get_or, refl, sym, ap, subst, ◌∙◌, arith, inl, inr}
use Rattle.std.specs.Prelude.{IfSome, option_map}
use Rattle.std.specs.List.{All, AllByRecursion, list_any}
use Rattle.std.proofs.lemmas.Bool.{false≢true, true≢false, eqb-true, cases_lt, both_ways}
use Rattle.std.proofs.lemmas.List.{drop-map, get_or-drop}
use Rattle.std.proofs.lemmas.List.Elements.{All-from_recursion}
use Rattle.std.proofs.lemmas.Nat.{mod-mul-add}
use Rattle.std.proofs.lemmas.Nat.Bits.{bit_at_above}
use Rattle.std.proofs.lemmas.Option.{none-some}
use Rattle.xs_base.specs.Numbers.{Slot, ThreadNumber, ChanNumber, EndNumber, InputNumber, PortNumber}
use Rattle.xs_base.specs.Ids.{port_width}
use Rattle.xs_base.specs.declared.numbers.TheConstants.{LINK_ENDS}
use Rattle.xs_model.specs.Threads.{fresh_thread}
use Rattle.xs_model.specs.Masks.{in_mask}
use Rattle.xs_model.specs.Bits.{value_of}
use Rattle.xs_model.specs.Syncs.{is_bound}
use Rattle.xs_model.specs.Record.{CoreRec, NodeRec, ChanRec, EnablingRec, PortRec, TransferRec, LinkRec, InputRec, Idle, Head1, Head2, Want, Local, Out, Lost, unused_chan, unused_sync, unused_lock, not_enabled, off_port, thread_of, sync_of, lock_of, port_of}
use Rattle.net_model.specs.Links.{latest, IsLinkBefore}
use Rattle.net_model.specs.Switch.{is_local_to, is_out_by, link_at}
use Rattle.step_model.specs.ThreadRows.{is_taken}
use Rattle.port_laws.specs.Facts.{Multiple, HasFacts, is_off, is_on, IsOn, IsTransfer}
use Rattle.port_laws.proofs.Bits.{value_fits}
use Rattle.chan_ends.specs.States.{chan_state, chan_of, IsChanState}
use Rattle.sync_locks.specs.States.{mask_of, sync_state, IsSyncState, unused_state, AreSyncStates, lock_state, IsLockState}
use Rattle.sync_locks.proofs.Masks.{mask-again}
use Rattle.sync_locks.proofs.Slaves.{is_member}
use Rattle.sync_locks.proofs.States.{is_sync_state}
use Rattle.event_unit.specs.States.{enable_state, IsEnableState}
use Rattle.single_port.specs.States.{port_state, off_state, transfer_state, IsTransferState, IsOnState, IsPortState}
use Rattle.single_port.proofs.States.{width_some, shift_is}
use Rattle.buffered_ports.specs.States.{ArePortStates}
use Rattle.link_ends.specs.States.{absent_end, IsEndState}
use Rattle.link_ends.specs.declared.state.EndState.{EndState}
use Rattle.switch_routes.specs.States.{input_state, input_of, in_header, IsInputState, AreInputStates}
use Rattle.switch_routes.proofs.States.{id-is, absent-fits}
use Rattle.core_step.specs.Network.{EndsHaveGaps}
use Rattle.core_step.specs.ThreadStates.{IsThreadState}
use Rattle.core_step.specs.States.{link_state, node_state, AreHeldOnce}
use Rattle.step_laws.specs.StatusBits.{AllKnown}
use Rattle.state_laws.specs.Facts.{IsThread, WaitAtWhatIsThere, SlavesFit, AreOfMask, InputFits, InputsFit, HaveGaps, IsSet, PortsFit, chan_is_used, end_is_there}
use Rattle.state_laws.specs.Laws.{KeptMayBeRead}
use Rattle.state_laws.proofs.Chans.{held_used}
use Rattle.state_laws.proofs.Inputs.{at}
use Rattle.state_laws.proofs.Lists.{all_of_each}

-- ---- Lists of what is kept

at_map : {A B : Type 0} (f : A → B) (xs : List A) (i : ℕ) (d : A) → get_or (map f xs) i (f d) ≡ f (get_or xs i d)
at_map f [] i d = refl
at_map f (x ∷ xs) zero d = refl
at_map f (x ∷ xs) (suc i) d = at_map f xs i d

all_mapped : {A B : Type 0} (f : A → B) (Q : B → Type 0) (d : A) (xs : List A) → ((i : ℕ) → Q (f (get_or xs i d))) → AllByRecursion Q (map f xs)
all_mapped f Q d [] each = tt
all_mapped f Q d (x ∷ xs) each = (each 0, all_mapped f Q d xs (λ i. each (suc i)))

every_mapped : {A B : Type 0} (f : A → B) (Q : B → Type 0) (d : A) (xs : List A) → ((i : ℕ) → Q (f (get_or xs i d))) → All Q (map f xs)
every_mapped f Q d xs each = All-from_recursion Q (map f xs) (all_mapped f Q d xs each)

-- ---- Threads, and the units that name them

threads_say : (core : CoreRec) → AllKnown core.threads → WaitAtWhatIsThere core → AllByRecursion IsThreadState core.threads
threads_say core known waits =
    all_of_each IsThreadState fresh_thread core.threads (λ k. record { sr = (known k).sr; ssr = (known k).ssr; run = waits k })

enables_say : (enables : List EnablingRec) → ((i : ℕ) → IsThread (get_or enables i not_enabled).thread) → All IsEnableState (map enable_state enables)
enables_say enables all = every_mapped enable_state IsEnableState not_enabled enables all

locks_say : (core : CoreRec) → ((n : ℕ) → IsThread (lock_of core n).owner) → All IsLockState (map lock_state core.locks)
locks_say core owners = every_mapped lock_state IsLockState unused_lock core.locks owners

-- ---- Synchronisers

-- a mask of some threads has the bits of these threads
mask_bits : (slaves : List ThreadNumber) → AreOfMask slaves → (k : ThreadNumber) → in_mask (mask_of slaves) k ≡ true → list_any (λ slave. slave == k) slaves ≡ true
mask_bits slaves (mask, fits, is) k mine =
    let same : mask_of slaves ≡ mask = ap mask_of is ∙ mask-again mask fits in
    let its : in_mask mask k ≡ true = sym (ap (λ m. in_mask m k) same) ∙ mine in
    elim (cases_lt k 8) [
      | inl low ↦ ap (list_any (λ slave. slave == k)) is ∙ sym (is_member mask k low) ∙ its
      | inr high ↦ absurd (false≢true (sym (ap (λ b. b == 1) (bit_at_above mask 8 k fits high)) ∙ its))
    ]

module _ (core : CoreRec) (h : SlavesFit core) where
  slave_of : (k : ThreadNumber) (n : ℕ) → in_mask (get_or (map sync_state core.syncs) n unused_state).slaves k ≡ true → is_bound k (sync_of core n) ≡ true
  slave_of k n mine =
      let kept : get_or (map sync_state core.syncs) n unused_state ≡ sync_state (sync_of core n) = at_map sync_state core.syncs n unused_sync in
      mask_bits (sync_of core n).slaves (h.masks n) k (sym (ap (λ s. in_mask s.slaves k) kept) ∙ mine)

  syncs_say : AreSyncStates (map sync_state core.syncs)
  syncs_say = record {
    each = every_mapped sync_state IsSyncState unused_sync core.syncs (λ n. is_sync_state (sync_of core n).master (sync_of core n).slaves (h.masters n) (h.unused n));
    slaves = λ k m n mine its. h.one k m n (slave_of k m mine) (slave_of k n its);
  }

  slaves_are_taken : (k : ThreadNumber) (n : ℕ) → in_mask (get_or (map sync_state core.syncs) n unused_state).slaves k ≡ true → is_taken (thread_of core k).run ≡ true
  slaves_are_taken k n mine = h.taken k n (slave_of k n mine)

-- ---- Ports

multiple_none : (width bits : ℕ) → 0 < width → Multiple width bits → bits % width ≡ 0
multiple_none width bits some (beats, is) =
    let plain : bits ≡ beats * width + 0 = omega (arith, is) in
    ap (λ n. n % width) plain ∙ mod-mul-add beats width 0 some

transfer_says : (w tw : ℕ) → 0 < w → (t : TransferRec) → IsTransfer w tw t → IsTransferState w tw (transfer_state t)
transfer_says w tw some t is = record {
  beats = record { whole = multiple_none w t.bits some is.bits.whole; most = is.bits.most };
  some = omega (arith, some, is.bits.least);
  value = is.value;
}

transfers_say : (w tw : ℕ) → 0 < w → (transfer : Option TransferRec) → IfSome transfer (IsTransfer w tw) → IfSome (option_map transfer_state transfer) (IsTransferState w tw)
transfers_say w tw some None h = tt
transfers_say w tw some (Some t) h = transfer_says w tw some t h

on_says : (p : PortNumber) (port : PortRec) → IsOn (port_width p) port → IsSet p port → IsOnState p (port_state port)
on_says p port is set =
    let some = width_some p in
    record {
      clock = set.goes_by;
      transfer_width = set.width is.on;
      unbuffered = set.one_beat is.on;
      want = record { whole = multiple_none (port_width p) port.wanted some is.wanted.whole; most = is.wanted.most };
      value = is.value;
      count = record { whole = multiple_none (port_width p) (length port.shift) some is.shift.whole; most = is.shift.most };
      shift = shift_is port.output port.transfer_width (length port.shift) (value_of port.shift) is.shift.most (value_fits port.shift is.shift.bits);
      transfer = transfers_say (port_width p) port.transfer_width some port.transfer is.transfer;
      strobe = set.let_by;
      driven = is.driven;
    }

off_says : port_state off_port ≡ off_state
unfolding value_of
off_says = refl

port_says : (p : PortNumber) (port : PortRec) → HasFacts (port_width p) port → IsSet p port → IsPortState p (port_state port)
port_says p _ is_off set = record { off = λ off. off_says; on = λ on. absurd (false≢true on) }
port_says p _ (is_on port is) set = record { off = λ off. absurd (both_ways _ off is.on); on = λ on. on_says p port is set }

ports_say : (core : CoreRec) → PortsFit core → ArePortStates (map port_state core.ports)
ports_say core fit p there =
    let kept : get_or (map port_state core.ports) p off_state ≡ port_state (port_of core p) =
    ap (λ d. get_or (map port_state core.ports) p d) (sym off_says) ∙ at_map port_state core.ports p off_port in
    subst (IsPortState p) (sym kept) (port_says p (port_of core p) (fit p).0 (fit p).1)

-- ---- The switch

input_says : (used : ChanNumber → Bool) (there : EndNumber → Bool) (i : InputNumber) (state : InputRec) → InputFits used there i state → IsInputState (input_state state)
input_says used there i Idle h = tt
input_says used there i (Head1 high) h = tt
input_says used there i (Head2 high low) h = tt
input_says used there i (Want dest net) h = (id-is dest, h)
input_says used there i (Local chan) h = h.0
input_says used there i (Out end headers dest) h = (h.0, h.1, id-is dest)
input_says used there i Lost h = tt

no_header : (used : ChanNumber → Bool) (there : EndNumber → Bool) (i : InputNumber) (state : InputRec) → LINK_ENDS ≤ i → InputFits used there i state → in_header (input_of (input_state state)) ≡ false
no_header used there i Idle high h = refl
no_header used there i (Head1 first) high h = absurd (omega (arith, high, h))
no_header used there i (Head2 first second) high h = absurd (omega (arith, high, h))
no_header used there i (Want dest net) high h = refl
no_header used there i (Local chan) high h = refl
no_header used there i (Out end headers dest) high h = refl
no_header used there i Lost high h = refl

same_local : (c : ChanNumber) (state : InputRec) → is_local_to c (input_of (input_state state)) ≡ is_local_to c state
same_local c Idle = refl
same_local c (Head1 high) = refl
same_local c (Head2 high low) = refl
same_local c (Want dest net) = refl
same_local c (Local chan) = refl
same_local c (Out end headers dest) = refl
same_local c Lost = refl

same_out : (e : EndNumber) (state : InputRec) → is_out_by e (input_of (input_state state)) ≡ is_out_by e state
same_out e Idle = refl
same_out e (Head1 high) = refl
same_out e (Head2 high low) = refl
same_out e (Want dest net) = refl
same_out e (Local chan) = refl
same_out e (Out end headers dest) = refl
same_out e Lost = refl

-- a link end that is held is there
out_there : (used : ChanNumber → Bool) (there : EndNumber → Bool) (i : InputNumber) (e : EndNumber) (state : InputRec) → InputFits used there i state → is_out_by e state ≡ true → there e ≡ true
out_there used there i e Idle h mine = absurd (false≢true mine)
out_there used there i e (Head1 high) h mine = absurd (false≢true mine)
out_there used there i e (Head2 high low) h mine = absurd (false≢true mine)
out_there used there i e (Want dest net) h mine = absurd (false≢true mine)
out_there used there i e (Local chan) h mine = absurd (false≢true mine)
out_there used there i e (Out end headers dest) h mine = let same : end ≡ e = eqb-true end e mine in subst (λ n. there n ≡ true) same h.2
out_there used there i e Lost h mine = absurd (false≢true mine)

end_present : (link : Option LinkRec) → (link_state link).present ≡ is_some link
end_present None = refl
end_present (Some link) = refl

module _ (rec : NodeRec) (inputs : InputsFit (chan_is_used rec.core) (end_is_there rec) rec.inputs) where
  inputs_say : AreInputStates (map input_state rec.inputs)
  inputs_say = record {
    each = all_mapped input_state IsInputState Idle rec.inputs (λ i. input_says (chan_is_used rec.core) (end_is_there rec) i (at rec.inputs i) (inputs.each i));
    headers = subst (AllByRecursion (λ s. in_header (input_of s) ≡ false)) (sym (drop-map input_state LINK_ENDS rec.inputs))
        (all_mapped input_state (λ s. in_header (input_of s) ≡ false) Idle (drop LINK_ENDS rec.inputs) none);
  }
    where
      none : (i : ℕ) → in_header (input_of (input_state (get_or (drop LINK_ENDS rec.inputs) i Idle))) ≡ false
      none i =
          subst (λ (state : InputRec). in_header (input_of (input_state state)) ≡ false) (sym (get_or-drop LINK_ENDS rec.inputs i Idle))
          (no_header (chan_is_used rec.core) (end_is_there rec) (LINK_ENDS + i) (at rec.inputs (LINK_ENDS + i)) (omega arith) (inputs.each (LINK_ENDS + i)))

  kept_input : (i : InputNumber) → get_or (map input_of (map input_state rec.inputs)) i Idle ≡ input_of (input_state (at rec.inputs i))
  kept_input i = at_map input_of (map input_state rec.inputs) i (input_state Idle) ∙ ap input_of (at_map input_state rec.inputs i Idle)

  was_local : (c : ChanNumber) (i : InputNumber) → is_local_to c (get_or (map input_of (map input_state rec.inputs)) i Idle) ≡ true → is_local_to c (at rec.inputs i) ≡ true
  was_local c i mine = sym (ap (is_local_to c) (kept_input i) ∙ same_local c (at rec.inputs i)) ∙ mine

  was_out : (e : EndNumber) (i : InputNumber) → is_out_by e (get_or (map input_of (map input_state rec.inputs)) i Idle) ≡ true → is_out_by e (at rec.inputs i) ≡ true
  was_out e i mine = sym (ap (is_out_by e) (kept_input i) ∙ same_out e (at rec.inputs i)) ∙ mine

  kept_chan : (c : ChanNumber) → get_or (map chan_of (map chan_state rec.core.chans)) c unused_chan ≡ get_or rec.core.chans c unused_chan
  kept_chan c = at_map chan_of (map chan_state rec.core.chans) c (chan_state unused_chan) ∙ ap chan_of (at_map chan_state rec.core.chans c unused_chan)

  kept_end : (e : EndNumber) → (get_or (map link_state rec.links) e absent_end).present ≡ end_is_there rec e
  kept_end e = ap (λ (s : EndState). s.present) (at_map link_state rec.links e None) ∙ end_present (link_at rec e)

  held_once : AreHeldOnce (node_state rec)
  held_once = record {
    chans = λ c i j mine its. inputs.chans c i j (was_local c i mine) (was_local c j its);
    ends = λ e i j mine its. inputs.ends e i j (was_out e i mine) (was_out e j its);
    used = λ c i mine.
        ap (λ (x : ChanRec). x.used) (kept_chan c)
        ∙ held_used (chan_is_used rec.core) (end_is_there rec) rec.inputs c inputs (record { by = i; holds = was_local c i mine });
    present = λ e i mine.
        kept_end e ∙ out_there (chan_is_used rec.core) (end_is_there rec) i e (at rec.inputs i) (inputs.each i) (was_out e i mine);
  }

  gaps_say : (gaps : List ℕ) → HaveGaps gaps rec → EndsHaveGaps gaps (map link_state rec.links)
  gaps_say gaps h e low = (λ is. (h e).0 (sym (kept_end e) ∙ is), λ some. kept_end e ∙ (h e).1 some)

-- ---- Link ends

latest_there : (s : Slot) (rest : List Slot) → latest (s ∷ rest) ≡ None → ⊥
latest_there s [] none = none-some s (sym none)
latest_there s (r ∷ rest) none = latest_there r rest none

none_sent : (sent : List Slot) (credits : ℕ) → latest sent ≡ None → length sent - credits ≡ 0
none_sent [] credits none = omega arith
none_sent (s ∷ rest) credits none = absurd (latest_there s rest none)

end_says : (link : Option LinkRec) → IfSome link (λ link. length link.sent ≤ length link.credited + 8) → IsEndState (link_state link)
end_says None h = absent-fits
end_says (Some link) h = record {
  window = omega (arith, h);
  never = none_sent link.sent (length link.credited);
  absent = λ absent. absurd (true≢false absent);
}

latest_before : (slot : Slot) (sent : List Slot) → AllByRecursion (λ s. s < slot) sent → IfSome (latest sent) (λ s. s < slot)
latest_before slot [] all = tt
latest_before slot (s ∷ []) all = all.0
latest_before slot (s ∷ r ∷ rest) all = latest_before slot (r ∷ rest) all.1

end_before : (slot : Slot) (link : Option LinkRec) → IfSome link (IsLinkBefore slot) → IfSome (link_state link).last (λ s. s < slot)
end_before slot None h = tt
end_before slot (Some link) h = latest_before slot link.sent h.sent

ends_before : (slot : Slot) (links : List (Option LinkRec)) → AllByRecursion (λ link. IfSome link (IsLinkBefore slot)) links → AllByRecursion (λ (end : EndState). IfSome end.last (λ s. s < slot)) (map link_state links)
ends_before slot [] all = tt
ends_before slot (link ∷ links) all = (end_before slot link all.0, ends_before slot links all.1)

-- ---- All of it

pub kept_may_be_read : KeptMayBeRead
kept_may_be_read gaps slot rec h = record {
  state = record {
    units = record {
      threads = threads_say rec.core h.known h.waits;
      chans = all_mapped chan_state IsChanState unused_chan rec.core.chans h.switch.chans;
      syncs = syncs_say rec.core h.slaves;
      locks = locks_say rec.core h.names.owners;
      ports = ports_say rec.core h.pins.ports;
      chan_enables = enables_say rec.core.enabled.chans h.names.enabled.chans;
      timer_enables = enables_say rec.core.enabled.timers h.names.enabled.timers;
      port_enables = enables_say rec.core.enabled.ports h.names.enabled.ports;
    };
    inputs = inputs_say rec h.switch.inputs;
    ends = all_mapped link_state IsEndState None rec.links (λ e. end_says (link_at rec e) (h.links.windows e));
    levels = h.pins.levels;
    held = held_once rec h.switch.inputs;
    slaves = slaves_are_taken rec.core h.slaves;
    there = gaps_say rec h.switch.inputs gaps h.switch.ends;
  };
  before = record {
    last = all_of_each (λ last. IfSome last (λ s. s < slot)) None rec.core.slots.last h.before.last;
    division = h.before.division;
    ends = ends_before slot rec.links h.links.before;
  };
}
