-- What comes to a node in a slot before its issue changes no thread and no last issue; its ports change by their edges alone;
-- and at each input of the switch at most one thing happens, which is at no port.
use Rattle.std.proofs.Common.{◌≡◌, ℕ, zero, suc, ◌+◌, ◌<◌, ◌≤◌, ◌==◌, Bool, true, false, not, ◌||◌, nat_lt, if◌then◌else◌, Option, Some, None, List, [], ◌∷◌, ◌++◌, length, slice_index_or, slice_set, refl, sym, subst, ◌∙◌, arith, append-nil, append_assoc}
use Rattle.std.proofs.lemmas.Bool.{ltb-true}
use Rattle.std.specs.List.{AllByRecursion}
use Rattle.xs_base.specs.Numbers.{Slot, ChanNumber, EndNumber, InputNumber, Identifier}
use Rattle.xs_base.specs.declared.numbers.TheConstants.{LINK_ENDS, CHAN_ENDS, INPUTS, HEADER_BYTES}
use Rattle.xs_base.specs.declared.token.Token.{Token}
use Rattle.xs_base.specs.declared.token.Token.TheVariants.{Byte, Ctrl}
use Rattle.xs_model.specs.declared.event.Happen.{Happen}
use Rattle.xs_model.specs.declared.event.Happen.TheVariants as happen
use Rattle.xs_model.specs.declared.outside.Arrivals.{Arrivals}
use Rattle.xs_model.specs.declared.outside.PinView.{PinView}
use Rattle.xs_model.specs.declared.dest.Dest.{Dest}
use Rattle.xs_model.specs.Dests.{dest_of, id_of}
use Rattle.xs_model.specs.Record.{CoreRec, NodeRec, InputRec, Idle, Head1, Head2, Want, Local, Out, Lost, chan_of}
use Rattle.xs_model.specs.Waits.{has_room}
use Rattle.xs_model.specs.Ports.{edges_from}
use Rattle.xs_model.specs.AtWork.{AtWork, slot_begins, it_happens}
use Rattle.net_model.specs.Ways.{Way, Here, Behind, way_to}
use Rattle.net_model.specs.Links.{arrive}
use Rattle.net_model.specs.Switch.{Routes, is_link_input, chan_of_input, to_state, waiting_at, state_at, chan_is_held, link_at, free_end, take_first, end_may_send, ends_packet, after_token, loses, put_into, send, start_packet, packet_step, after_header, net_of_end, head_step, hold_end, is_pause, local_step, out_token, out_step, lost_step, want_way, want_step, step_at, moves_from}
use Rattle.step_model.specs.Fixed.{Fixed}
use Rattle.step_model.specs.Step.{ports_step, before_issue}
use Rattle.step_laws.specs.Shape.{HoldsWhatIsThere}

-- a core with the threads of another, their last issues and its ports
abbrev pub KeepsCore : CoreRec → CoreRec → Type 0
KeepsCore core after = (after.threads ≡ core.threads) × (after.slots.last ≡ core.slots.last) × (after.ports ≡ core.ports)

abbrev pub Held : List InputRec → Type 0
Held inputs = AllByRecursion HoldsWhatIsThere inputs

held_at : (inputs : List InputRec) (i : InputNumber) → Held inputs → HoldsWhatIsThere (slice_index_or inputs i Idle)
held_at [] i h = tt
held_at (state ∷ inputs) zero h = h.0
held_at (state ∷ inputs) (suc i) h = held_at inputs i h.1

held_set : (inputs : List InputRec) (i : InputNumber) (state : InputRec) → Held inputs → HoldsWhatIsThere state → Held (slice_set inputs i state)
held_set [] i state h new = tt
held_set (old ∷ inputs) zero state h new = (new, h.1)
held_set (old ∷ inputs) (suc i) state h new = (h.0, held_set inputs i state h.1 new)

-- a packet that ends leaves its input idle
left_holds : (ends : Bool) (state : InputRec) → HoldsWhatIsThere state → HoldsWhatIsThere (if ends then Idle else state)
left_holds true state h = tt
left_holds false state h = h

header_holds : (net : ℕ) (state : InputRec) (b : ℕ) → HoldsWhatIsThere state → HoldsWhatIsThere (after_header net state b)
header_holds net Idle b h = tt
header_holds net (Head1 high) b h = tt
header_holds net (Head2 high low) b h = tt
header_holds net (Want dest its) b h = tt
header_holds net (Local chan) b h = h
header_holds net (Out end headers dest) b h = tt
header_holds net Lost b h = tt

-- What happens at the switch: a token comes to a channel end, which is there where S holds; or a packet is lost.
module _ (S : Type 0) where
  abbrev pub IsOfSwitch : Happen → Type 0
  IsOfSwitch (happen.Chan chan token) = S → chan < CHAN_ENDS
  IsOfSwitch (happen.Lost id) = Unit {0}
  IsOfSwitch _ = ⊥

  -- after this happened, perhaps one thing more
  pub data MoreBy (before : List Happen) : List Happen → Type 0 where
    no_more : MoreBy before before
    one_more : (what : Happen) → IsOfSwitch what → MoreBy before (before ++ what ∷ [])

  -- so many things more, at most
  abbrev pub Grows : List Happen → ℕ → List Happen → Type 0
  Grows before count after =
      (more : List Happen) × (after ≡ before ++ more) × (length more ≤ count) × AllByRecursion IsOfSwitch more

  grows_more : (before mid after : List Happen) (count : ℕ) → MoreBy before mid → Grows mid count after → Grows before (suc count) after
  grows_more before mid after count no_more (more, is, few, all) = (more, is, omega (arith, few), all)
  grows_more before mid after count (one_more what of) (more, is, few, all) =
      (what ∷ more, is ∙ append_assoc before (what ∷ []) more, omega (arith, few), (of, all))

  module _ (core : CoreRec) (before : List Happen) where
    -- a node at work in which nothing has happened since, or perhaps one thing
    abbrev Still : AtWork → Type 0
    Still m = KeepsCore core m.rec.core × (m.happened ≡ before) × (S → Held m.rec.inputs)

    abbrev pub Moved : AtWork → Type 0
    Moved m = KeepsCore core m.rec.core × MoreBy before m.happened × (S → Held m.rec.inputs)

    either : (holds : Bool) (x y : AtWork) → Moved x → Moved y → Moved (if holds then x else y)
    either true x y one other = one
    either false x y one other = other

    or_still : (holds : Bool) (x y : AtWork) → Still x → Still y → Still (if holds then x else y)
    or_still true x y one other = one
    or_still false x y one other = other

    moved : (m : AtWork) → Still m → Moved m
    moved m (keeps, same, held) = (keeps, subst (MoreBy before) (sym same) no_more, held)

    happens : (what : Happen) (m : AtWork) → IsOfSwitch what → Still m → Moved (it_happens what m)
    happens what m of (keeps, same, held) = (keeps, subst (λ happened. MoreBy before (happened ++ what ∷ [])) (sym same) (one_more what of), held)

    state_still : (i : InputNumber) (state : InputRec) (m : AtWork) → (S → HoldsWhatIsThere state) → Still m → Still (to_state i state m)
    state_still i state m new (keeps, same, held) = (keeps, same, λ s. held_set m.rec.inputs i state (held s) (new s))

    state_moved : (i : InputNumber) (state : InputRec) (m : AtWork) → (S → HoldsWhatIsThere state) → Moved m → Moved (to_state i state m)
    state_moved i state m new (keeps, more, held) = (keeps, more, λ s. held_set m.rec.inputs i state (held s) (new s))

    take_still : (i : InputNumber) (m : AtWork) → Still m → Still (take_first i m)
    take_still i m h = or_still (is_link_input i) _ _ h h

    token_still : (i : InputNumber) (state : InputRec) (t : Token) (m : AtWork) → (S → HoldsWhatIsThere state) → Still m → Still (after_token i state t m)
    token_still i state t m new h = state_still i _ m (λ s. left_holds (ends_packet t) state (new s)) h

    head_still : (routes : Routes) (i : InputNumber) (state : InputRec) (waiting : List Token) (m : AtWork) → HoldsWhatIsThere state → Still m → Still (head_step routes i state waiting m)
    head_still routes i state [] m is h = h
    head_still routes i state (Byte b ∷ rest) m is h =
        let net = net_of_end routes i in
        state_still i (after_header net state b) (take_first i m) (λ s. header_holds net state b is) (take_still i m h)
    head_still routes i state (Ctrl c ∷ rest) m is h = take_still i m h

    local_moved : (i : InputNumber) (n : ChanNumber) (waiting : List Token) (m : AtWork) → (S → n < CHAN_ENDS) → Still m → Moved (local_step i n waiting m)
    local_moved i n [] m is h = moved m h
    local_moved i n (t ∷ rest) m is h =
        let first = take_first i m in
        let taken : Still first = take_still i m h in
        let put : Moved (it_happens (happen.Chan n t) (put_into n t first)) = happens (happen.Chan n t) (put_into n t first) is taken in
        either (is_pause t) _ _ (moved (after_token i (Local n) t first) (token_still i (Local n) t first is taken))
        (either (has_room 1 (chan_of m.rec.core n).input) _ m (state_moved i (if ends_packet t then Idle else Local n) (it_happens (happen.Chan n t) (put_into n t first)) (λ s. left_holds (ends_packet t) (Local n) (is s)) put) (moved m h))

    lost_still : (i : InputNumber) (waiting : List Token) (m : AtWork) → Still m → Still (lost_step i waiting m)
    lost_still i [] m h = h
    lost_still i (t ∷ rest) m h = token_still i Lost t (take_first i m) (λ s. tt) (take_still i m h)

    loses_moved : (i : InputNumber) (dest : Dest) (m : AtWork) → Still m → Moved (loses i dest m)
    loses_moved i dest m h = happens (happen.Lost (id_of dest)) (to_state i Lost m) tt (state_still i Lost m (λ s. tt) h)

    module _ (routes : Routes) (slot : Slot) (i : InputNumber) where
      out_token_still : (e : EndNumber) (headers : ℕ) (dest : Dest) (waiting : List Token) (m : AtWork) → Still m → Still (out_token slot i e headers dest waiting m)
      out_token_still e headers dest [] m h = h
      out_token_still e headers dest (t ∷ rest) m h =
          token_still i (Out e headers dest) t (send slot e t (take_first i m)) (λ s. tt) (take_still i m h)

      out_still : (e : EndNumber) (headers : ℕ) (dest : Dest) (m : AtWork) → Still m → Still (out_step routes slot i e headers dest m)
      out_still e headers dest m h =
          or_still (end_may_send routes slot e (link_at m.rec e)) _ m
          (or_still (nat_lt headers HEADER_BYTES) _ _ (state_still i (Out e (headers + 1) dest) m (λ s. tt) h) (out_token_still e headers dest (waiting_at m.rec i) m h)) h

      hold_still : (dest : Dest) (end : Option EndNumber) (m : AtWork) → Still m → Still (hold_end (λ e m. out_step routes slot i e 0 dest m) i dest end m)
      hold_still dest None m h = h
      hold_still dest (Some e) m h = out_still e 0 dest (to_state i (Out e 0 dest) m) (state_still i (Out e 0 dest) m (λ s. tt) h)

      -- only a channel end that is there is held
      chan_moved : (dest : Dest) (m : AtWork) (there used held : Bool) → nat_lt dest.chan CHAN_ENDS ≡ there → Still m → let at = to_state i (Local dest.chan) m in Moved (if not there || not used then loses i dest m else (if held then m else local_step i dest.chan (waiting_at at.rec i) at))
      chan_moved dest m false used held is h = loses_moved i dest m h
      chan_moved dest m true false held is h = loses_moved i dest m h
      chan_moved dest m true true held is h =
          let there : dest.chan < CHAN_ENDS = ltb-true dest.chan CHAN_ENDS is in
          let at = to_state i (Local dest.chan) m in
          either held m _ (moved m h) (local_moved i dest.chan (waiting_at at.rec i) at (λ s. there) (state_still i (Local dest.chan) m (λ s. there) h))

      way_moved : (dest : Dest) (way : Way) (m : AtWork) → Still m → Moved (want_way routes slot i dest way m)
      way_moved dest Here m h =
          chan_moved dest m (nat_lt dest.chan CHAN_ENDS) (chan_of m.rec.core dest.chan).used (chan_is_held m.rec dest.chan) refl h
      way_moved dest (Behind mask) m h =
          let free = free_end m.rec mask 0 LINK_ENDS in
          either (mask == 0) _ _ (loses_moved i dest m h) (moved (hold_end (λ e m. out_step routes slot i e 0 dest m) i dest free m) (hold_still dest free m h))

      want_moved : (dest : Dest) (net : ℕ) (m : AtWork) → Still m → Moved (want_step routes slot i dest net m)
      want_moved dest net m h = way_moved dest (way_to routes.id routes.ways routes.nets net dest.node) m h

      start_moved : (net : ℕ) (dest : Option Identifier) (m : AtWork) → Still m → Moved (start_packet (want_step routes slot i) i net dest m)
      start_moved net None m h = moved m h
      start_moved net (Some id) m h =
          want_moved (dest_of id) net (to_state i (Want (dest_of id) net) m) (state_still i (Want (dest_of id) net) m (λ s. tt) h)

      packet_moved : (waiting : List Token) (m : AtWork) → Still m → Moved (packet_step (want_step routes slot i) i waiting m)
      packet_moved [] m h = moved m h
      packet_moved (t ∷ rest) m h =
          let chan = chan_of m.rec.core (chan_of_input i) in start_moved chan.net chan.dest m h

      step_moved : (state : InputRec) (m : AtWork) → (S → HoldsWhatIsThere state) → Still m → Moved (step_at routes slot i state m)
      step_moved Idle m is h =
          either (is_link_input i) _ _ (moved (head_step routes i Idle (waiting_at m.rec i) m) (head_still routes i Idle (waiting_at m.rec i) m tt h)) (packet_moved (waiting_at m.rec i) m h)
      step_moved (Head1 high) m is h =
          either (is_link_input i) _ m (moved (head_step routes i (Head1 high) (waiting_at m.rec i) m) (head_still routes i (Head1 high) (waiting_at m.rec i) m tt h)) (moved m h)
      step_moved (Head2 high low) m is h =
          either (is_link_input i) _ m (moved (head_step routes i (Head2 high low) (waiting_at m.rec i) m) (head_still routes i (Head2 high low) (waiting_at m.rec i) m tt h)) (moved m h)
      step_moved (Want dest net) m is h = want_moved dest net m h
      step_moved (Local n) m is h = local_moved i n (waiting_at m.rec i) m is h
      step_moved (Out e headers dest) m is h = moved (out_step routes slot i e headers dest m) (out_still e headers dest m h)
      step_moved Lost m is h = moved (lost_step i (waiting_at m.rec i) m) (lost_still i (waiting_at m.rec i) m h)

  -- a node at work after so many steps of inputs
  abbrev pub Went : CoreRec → List Happen → ℕ → AtWork → Type 0
  Went core before count m = KeepsCore core m.rec.core × Grows before count m.happened × (S → Held m.rec.inputs)

  moves_went : (core : CoreRec) (routes : Routes) (slot : Slot) (i count : ℕ) (m : AtWork) → KeepsCore core m.rec.core → (S → Held m.rec.inputs) → Went core m.happened count (moves_from routes slot i count m)
  unfolding moves_from
  moves_went core routes slot i zero m keeps held = (keeps, ([], sym (append-nil m.happened), omega arith, tt), held)
  moves_went core routes slot i (suc count) m keeps held =
      let next = step_at routes slot i (state_at m.rec i) m in
      let (keeps', more, held') : Moved core m.happened next = step_moved core m.happened routes slot i (state_at m.rec i) m (λ s. held_at m.rec.inputs i (held s)) (keeps, refl, held) in
      let (kept, grows, hold) : Went core next.happened count (moves_from routes slot (i + 1) count next) = moves_went core routes slot (i + 1) count next keeps' held' in
      (kept, grows_more m.happened next.happened _ count more grows, hold)

-- the node in a slot before its issue: at most 40 things happened after the edges of its ports
pub before_issue_went : (fixed : Fixed) (rec : NodeRec) (slot : Slot) (arrivals : Arrivals) (pins : PinView) → let edged = edges_from slot rec.core.clocks rec.levels 0 rec.core.ports pins.level in Went (Held rec.inputs) (record rec.core { ports = edged.ports }) edged.happened INPUTS (before_issue fixed rec slot arrivals pins)
before_issue_went fixed rec slot arrivals pins =
    let edged = edges_from slot rec.core.clocks rec.levels 0 rec.core.ports pins.level in
    moves_went (Held rec.inputs) (record rec.core { ports = edged.ports }) fixed.routes slot 0 INPUTS (ports_step slot pins (arrive slot arrivals (slot_begins rec))) (refl, refl, refl) (λ held. held)

-- a node at work that has the threads of a core, and their last issues
abbrev pub Keeps : CoreRec → AtWork → Type 0
Keeps core m = (m.rec.core.threads ≡ core.threads) × (m.rec.core.slots.last ≡ core.slots.last)

pub before_issue_keeps : (fixed : Fixed) (rec : NodeRec) (slot : Slot) (arrivals : Arrivals) (pins : PinView) → Keeps rec.core (before_issue fixed rec slot arrivals pins)
before_issue_keeps fixed rec slot arrivals pins =
    let went = before_issue_went fixed rec slot arrivals pins in (went.0.0, went.0.1)
