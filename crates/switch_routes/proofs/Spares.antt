-- The step of an input leaves every other input's state, and the tokens that wait there, as they were.
use Rattle.std.proofs.Common.{ℕ, zero, suc, ◌≡◌, ◌≢◌, ◌-◌, ◌++◌, Bool, true, false, cond, ltb, eqb, Option, Some, None, List, [], ◌∷◌, set, get_or, refl, ap, ◌∙◌, arith}
use Rattle.std.proofs.lemmas.Bool.{ltb-false}
use Rattle.std.proofs.lemmas.List.{get_or-set_other}
use Rattle.xs_base.specs.declared.token.Token.{Token}
use Rattle.xs_base.specs.declared.token.Token.TheVariants.{Byte, Ctrl}
use Rattle.xs_model.specs.declared.event.Happen.{Happen}
use Rattle.xs_model.specs.declared.event.Happen.TheVariants as happen
use Rattle.xs_model.specs.declared.dest.Dest.{Dest}
use Rattle.xs_model.specs.Dests.{dest_of, id_of}
use Rattle.xs_model.specs.Record.{LinkRec, ChanRec, InputRec, Idle, Head1, Head2, Want, Local, Out, Lost, unused_chan, chan_of}
use Rattle.xs_model.specs.Waits.{has_room}
use Rattle.xs_model.specs.AtWork.{AtWork, it_happens}
use Rattle.net_model.specs.Ways.{Way, Here, Behind, way_to}
use Rattle.net_model.specs.Switch.{Routes, state_at, waiting_at, to_state, take_first, put_into, send, sent_in, link_at, link_without_first, chan_without_first, buffer_of_link, header_byte, is_pause, loses, deliver, local_step, lost_step, head_step, out_token, out_step, end_may_send, hold_end, want_way, want_step, free_end, chan_is_held, start_packet, packet_step, step_at, input_step}
use Rattle.switch_routes.proofs.Rules.{taken_by}

-- an input's state and the tokens that wait there are the same in both
pub record SameAt (j : ℕ) (m n : AtWork) : Type 0 where
  pub state : state_at n.rec j ≡ state_at m.rec j
  pub waiting : waiting_at n.rec j ≡ waiting_at m.rec j

same-itself : (j : ℕ) (m : AtWork) → SameAt j m m
same-itself j m = record { state = refl; waiting = refl }

same-then : (j : ℕ) (m n r : AtWork) → SameAt j m n → SameAt j n r → SameAt j m r
same-then j m n r p q = record { state = q.state ∙ p.state; waiting = q.waiting ∙ p.waiting }

same-cond : (j : ℕ) (m x y : AtWork) (b : Bool) → SameAt j m x → SameAt j m y → SameAt j m (cond b x y)
same-cond j m x y true p q = p
same-cond j m x y false p q = q

same-happens : (j : ℕ) (m n : AtWork) (what : Happen) → SameAt j m n → SameAt j m (it_happens what n)
same-happens j m n what p = record { state = p.state; waiting = p.waiting }

-- what is put into a channel end's input leaves every output
same-output : (cs : List ChanRec) (n k : ℕ) (t : Token) → (get_or (set cs n (record (get_or cs n unused_chan) { input = (get_or cs n unused_chan).input ++ t ∷ [] })) k unused_chan).output ≡ (get_or cs k unused_chan).output
same-output [] n k t = refl
same-output (c ∷ cs) zero zero t = refl
same-output (c ∷ cs) zero (suc k) t = refl
same-output (c ∷ cs) (suc n) zero t = refl
same-output (c ∷ cs) (suc n) (suc k) t = same-output cs n k t

-- what is sent leaves every buffer
same-of-sent : (slot : ℕ) (l : Option LinkRec) → buffer_of_link (sent_in slot l) ≡ buffer_of_link l
same-of-sent slot None = refl
same-of-sent slot (Some link) = refl

same-buffer : (links : List (Option LinkRec)) (e k slot : ℕ) → buffer_of_link (get_or (set links e (sent_in slot (get_or links e None))) k None) ≡ buffer_of_link (get_or links k None)
same-buffer [] e k slot = refl
same-buffer (l ∷ links) zero zero slot = same-of-sent slot l
same-buffer (l ∷ links) zero (suc k) slot = refl
same-buffer (l ∷ links) (suc e) zero slot = refl
same-buffer (l ∷ links) (suc e) (suc k) slot = same-buffer links e k slot

module _ (i j : ℕ) (other : j ≢ i) where
  spares-state : (state : InputRec) (m : AtWork) → SameAt j m (to_state i state m)
  spares-state state m = record { state = get_or-set_other m.rec.inputs i j state Idle other; waiting = refl }

  -- another channel end's output, where input i is a channel end's
  other-output : (cs : List ChanRec) (x : ChanRec) (ts : List Token) → ltb i 8 ≡ false → (b : Bool) → ltb j 8 ≡ b → cond b ts (get_or (set cs (i - 8) x) (j - 8) unused_chan).output ≡ cond b ts (get_or cs (j - 8) unused_chan).output
  other-output cs x ts chan true is = refl
  other-output cs x ts chan false is =
      ap (λ (c : ChanRec). c.output) (get_or-set_other cs (i - 8) (j - 8) x unused_chan (λ same. other (omega (arith, same, ltb-false i 8 chan, ltb-false j 8 is))))

  spares-taken : (m : AtWork) (b : Bool) → ltb i 8 ≡ b → SameAt j m (taken_by b i m)
  spares-taken m true is = record {
    state = refl;
    waiting =
        ap (λ (l : Option LinkRec). cond (ltb j 8) (buffer_of_link l) (chan_of m.rec.core (j - 8)).output) (get_or-set_other m.rec.links i j (link_without_first (link_at m.rec i)) None other);
  }
  spares-taken m false is = record {
    state = refl;
    waiting = other-output m.rec.core.chans (chan_without_first (chan_of m.rec.core (i - 8))) (buffer_of_link (link_at m.rec j)) is (ltb j 8) refl;
  }

  spares-take : (m : AtWork) → SameAt j m (take_first i m)
  spares-take m = spares-taken m (ltb i 8) refl

  spares-put : (n : ℕ) (t : Token) (m : AtWork) → SameAt j m (put_into n t m)
  spares-put n t m = record {
    state = refl;
    waiting = ap (λ (ts : List Token). cond (ltb j 8) (buffer_of_link (link_at m.rec j)) ts) (same-output m.rec.core.chans n (j - 8) t);
  }

  spares-send : (slot e : ℕ) (t : Token) (m : AtWork) → SameAt j m (send slot e t m)
  spares-send slot e t m = record {
    state = refl;
    waiting = ap (λ (ts : List Token). cond (ltb j 8) ts (chan_of m.rec.core (j - 8)).output) (same-buffer m.rec.links e j slot);
  }

  spares-then_state : (state : InputRec) (m n : AtWork) → SameAt j m n → SameAt j m (to_state i state n)
  spares-then_state state m n p = same-then j m n (to_state i state n) p (spares-state state n)

  spares-deliver : (n : ℕ) (t : Token) (m : AtWork) → SameAt j m (deliver i n t m)
  spares-deliver n t m =
      same-cond j m _ _ (is_pause t) (spares-then_state _ m (take_first i m) (spares-take m))
      (same-cond j m _ m (has_room 1 (chan_of m.rec.core n).input)
      (spares-then_state _ m (it_happens (happen.Chan n t) (put_into n t (take_first i m)))
      (same-happens j m (put_into n t (take_first i m)) (happen.Chan n t) (same-then j m (take_first i m) (put_into n t (take_first i m)) (spares-take m) (spares-put n t (take_first i m)))))
      (same-itself j m))

  spares-local : (n : ℕ) (ts : List Token) (m : AtWork) → SameAt j m (local_step i n ts m)
  spares-local n [] m = same-itself j m
  spares-local n (t ∷ ts) m = spares-deliver n t m

  spares-lost : (ts : List Token) (m : AtWork) → SameAt j m (lost_step i ts m)
  spares-lost [] m = same-itself j m
  spares-lost (t ∷ ts) m = spares-then_state _ m (take_first i m) (spares-take m)

  spares-head : (routes : Routes) (state : InputRec) (ts : List Token) (m : AtWork) → SameAt j m (head_step routes i state ts m)
  spares-head routes state [] m = same-itself j m
  spares-head routes state (Byte b ∷ ts) m = spares-then_state _ m (take_first i m) (spares-take m)
  spares-head routes state (Ctrl c ∷ ts) m = spares-take m

  spares-token : (slot e headers : ℕ) (dest : Dest) (ts : List Token) (m : AtWork) → SameAt j m (out_token slot i e headers dest ts m)
  spares-token slot e headers dest [] m = same-itself j m
  spares-token slot e headers dest (t ∷ ts) m =
      spares-then_state _ m (send slot e t (take_first i m)) (same-then j m (take_first i m) (send slot e t (take_first i m)) (spares-take m) (spares-send slot e t (take_first i m)))

  spares-out : (routes : Routes) (slot e headers : ℕ) (dest : Dest) (m : AtWork) → SameAt j m (out_step routes slot i e headers dest m)
  spares-out routes slot e headers dest m =
      same-cond j m _ m (end_may_send routes slot e (link_at m.rec e))
      (same-cond j m _ _ (ltb headers 3) (spares-then_state _ m (send slot e (Byte (header_byte dest headers)) m) (spares-send slot e (Byte (header_byte dest headers)) m)) (spares-token slot e headers dest (waiting_at m.rec i) m))
      (same-itself j m)

  spares-lose : (dest : Dest) (m : AtWork) → SameAt j m (loses i dest m)
  spares-lose dest m = same-happens j m (to_state i Lost m) (happen.Lost (id_of dest)) (spares-state Lost m)

  spares-hold : (routes : Routes) (slot : ℕ) (dest : Dest) (free : Option ℕ) (m : AtWork) → SameAt j m (hold_end (λ e m. out_step routes slot i e 0 dest m) i dest free m)
  spares-hold routes slot dest None m = same-itself j m
  spares-hold routes slot dest (Some e) m =
      same-then j m (to_state i (Out e 0 dest) m) (out_step routes slot i e 0 dest (to_state i (Out e 0 dest) m)) (spares-state (Out e 0 dest) m) (spares-out routes slot e 0 dest (to_state i (Out e 0 dest) m))

  spares-way : (routes : Routes) (slot : ℕ) (dest : Dest) (way : Way) (m : AtWork) → SameAt j m (want_way routes slot i dest way m)
  spares-way routes slot dest Here m =
      same-cond j m _ _ _ (spares-lose dest m)
      (same-cond j m m _ (chan_is_held m.rec dest.chan) (same-itself j m)
      (same-then j m (to_state i (Local dest.chan) m) _ (spares-state (Local dest.chan) m) (spares-local dest.chan (waiting_at m.rec i) (to_state i (Local dest.chan) m))))
  spares-way routes slot dest (Behind mask) m =
      same-cond j m _ _ (eqb mask 0) (spares-lose dest m) (spares-hold routes slot dest (free_end m.rec mask 0 8) m)

  spares-want : (routes : Routes) (slot : ℕ) (dest : Dest) (net : ℕ) (m : AtWork) → SameAt j m (want_step routes slot i dest net m)
  spares-want routes slot dest net m = spares-way routes slot dest (way_to routes.id routes.ways routes.nets net dest.node) m

  spares-start : (routes : Routes) (slot net : ℕ) (dest : Option ℕ) (m : AtWork) → SameAt j m (start_packet (want_step routes slot i) i net dest m)
  spares-start routes slot net None m = same-itself j m
  spares-start routes slot net (Some id) m =
      same-then j m (to_state i (Want (dest_of id) net) m) _ (spares-state (Want (dest_of id) net) m) (spares-want routes slot (dest_of id) net (to_state i (Want (dest_of id) net) m))

  spares-packet : (routes : Routes) (slot : ℕ) (ts : List Token) (m : AtWork) → SameAt j m (packet_step (want_step routes slot i) i ts m)
  spares-packet routes slot [] m = same-itself j m
  spares-packet routes slot (t ∷ ts) m =
      spares-start routes slot (chan_of m.rec.core (i - 8)).net (chan_of m.rec.core (i - 8)).dest m

  spares-at : (routes : Routes) (slot : ℕ) (state : InputRec) (m : AtWork) → SameAt j m (step_at routes slot i state m)
  spares-at routes slot Idle m =
      same-cond j m _ _ (ltb i 8) (spares-head routes Idle (waiting_at m.rec i) m) (spares-packet routes slot (waiting_at m.rec i) m)
  spares-at routes slot (Head1 high) m = same-cond j m _ m (ltb i 8) (spares-head routes (Head1 high) (waiting_at m.rec i) m) (same-itself j m)
  spares-at routes slot (Head2 high low) m = same-cond j m _ m (ltb i 8) (spares-head routes (Head2 high low) (waiting_at m.rec i) m) (same-itself j m)
  spares-at routes slot (Want dest net) m = spares-want routes slot dest net m
  spares-at routes slot (Local n) m = spares-local n (waiting_at m.rec i) m
  spares-at routes slot (Out e headers dest) m = spares-out routes slot e headers dest m
  spares-at routes slot Lost m = spares-lost (waiting_at m.rec i) m

  pub input-spares : (routes : Routes) (slot : ℕ) (m : AtWork) → SameAt j m (input_step routes slot i m)
  input-spares routes slot m = spares-at routes slot (state_at m.rec i) m
