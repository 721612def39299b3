-- The cases of the switch's rules, over plain values.
use Rattle.std.proofs.Common.{ℕ, zero, suc, ◌≡◌, ◌+◌, ◌-◌, ◌++◌, ◌||◌, Bool, true, false, cond, ltb, Option, Some, None, List, [], ◌∷◌, get_or, drop, refl, sym, ap, ◌∙◌}
use Rattle.std.specs.Prelude.{slice_set, not}
use Rattle.xs_base.specs.declared.token.Token.{Token}
use Rattle.xs_model.specs.declared.event.Happen.TheVariants as happen
use Rattle.xs_model.specs.Record.{ChanRec, Local, Out, unused_chan, chan_of}
use Rattle.xs_model.specs.Waits.{has_room}
use Rattle.xs_model.specs.AtWork.{AtWork, it_happens}
use Rattle.net_model.specs.Switch.{Routes, node_with_chan, take_first, after_token, put_into, link_without_first, link_at, is_pause, deliver, end_may_send, out_step, out_token, to_state, send, header_byte, waiting_at, loses, local_step, want_way, hold_end, free_end, chan_is_held}
use Rattle.xs_model.specs.declared.dest.Dest.{Dest}
use Rattle.net_model.specs.Ways.{Here, Behind}
use Rattle.std.proofs.lemmas.Bool.{eq-eqb, ne_eqb}
use Rattle.xs_base.specs.declared.token.Token.TheVariants.{Byte}

abbrev without_output : ChanRec → ChanRec
without_output c = record c { output = drop 1 c.output }

abbrev with_input : Token → ChanRec → ChanRec
with_input t c = record c { input = c.input ++ t ∷ [] }

-- a token is taken from one channel end's output and put into another's input, or the same one's, in either order
chans-commute : (cs : List ChanRec) (j n : ℕ) (t : Token) →
    slice_set (slice_set cs n (with_input t (get_or cs n unused_chan))) j (without_output (get_or (slice_set cs n (with_input t (get_or cs n unused_chan))) j unused_chan))
    ≡ slice_set (slice_set cs j (without_output (get_or cs j unused_chan))) n (with_input t (get_or (slice_set cs j (without_output (get_or cs j unused_chan))) n unused_chan))
chans-commute [] j n t = refl
chans-commute (c ∷ cs) zero zero t = refl
chans-commute (c ∷ cs) zero (suc n) t = refl
chans-commute (c ∷ cs) (suc j) zero t = refl
chans-commute (c ∷ cs) (suc j) (suc n) t = ap (λ (rest : List ChanRec). c ∷ rest) (chans-commute cs j n t)

abbrev pub taken_by : Bool → ℕ → AtWork → AtWork
taken_by b i m =
    cond b
    (record m {
      rec = record m.rec { links = slice_set m.rec.links i (link_without_first (link_at m.rec i)) };
      credits = slice_set m.credits i true;
    })
    (record m {
      rec = node_with_chan m.rec (i - 8) (record (chan_of m.rec.core (i - 8)) { output = drop 1 (chan_of m.rec.core (i - 8)).output });
    })

commute-by : (b : Bool) (i n : ℕ) (t : Token) (m : AtWork) → taken_by b i (put_into n t m) ≡ put_into n t (taken_by b i m)
commute-by true i n t m = refl
commute-by false i n t m =
    ap (λ (cs : List ChanRec). record m { rec = record m.rec { core = record m.rec.core { chans = cs } } }) (chans-commute m.rec.core.chans (i - 8) n t)

pub take-put : (i n : ℕ) (t : Token) (m : AtWork) → take_first i (put_into n t m) ≡ put_into n t (take_first i m)
take-put i n t m = commute-by (ltb i 8) i n t m

module _ (i n : ℕ) (t : Token) (m : AtWork) where
  pub deliver-pause : is_pause t ≡ true → after_token i (Local n) t (take_first i m) ≡ deliver i n t m
  deliver-pause is =
      sym (ap (λ (b : Bool). cond b (after_token i (Local n) t (take_first i m)) (cond (has_room 1 (chan_of m.rec.core n).input) (after_token i (Local n) t (it_happens (happen.Chan n t) (put_into n t (take_first i m)))) m)) is)

  pub deliver-room : is_pause t ≡ false → has_room 1 (chan_of m.rec.core n).input ≡ true → after_token i (Local n) t (it_happens (happen.Chan n t) (take_first i (put_into n t m))) ≡ deliver i n t m
  deliver-room other room =
      ap (λ (x : AtWork). after_token i (Local n) t (it_happens (happen.Chan n t) x)) (take-put i n t m)
      ∙ sym (ap (λ (b : Bool). cond b (after_token i (Local n) t (it_happens (happen.Chan n t) (put_into n t (take_first i m)))) m) room)
      ∙ sym (ap (λ (b : Bool). cond b (after_token i (Local n) t (take_first i m)) (cond (has_room 1 (chan_of m.rec.core n).input) (after_token i (Local n) t (it_happens (happen.Chan n t) (put_into n t (take_first i m)))) m)) other)

module _ (routes : Routes) (slot i e headers : ℕ) (dest : Dest) (m : AtWork) where
  abbrev out_by : Bool → Bool → AtWork
  out_by may header =
      cond may (cond header (to_state i (Out e (headers + 1) dest) (send slot e (Byte (header_byte dest headers)) m)) (out_token slot i e headers dest (waiting_at m.rec i) m)) m

  pub out-none : false ≡ end_may_send routes slot e (link_at m.rec e) → m ≡ out_step routes slot i e headers dest m
  out-none may = ap (λ (b : Bool). out_by b (ltb headers 3)) may

  pub out-some : (header : Bool) → true ≡ end_may_send routes slot e (link_at m.rec e) → ltb headers 3 ≡ header → out_by true header ≡ out_step routes slot i e headers dest m
  out-some header may is = ap (λ (b : Bool). out_by true b) (sym is) ∙ ap (λ (b : Bool). out_by b (ltb headers 3)) may

-- the rules that a packet goes on by, where it holds a channel end and where it holds a link end
abbrev onward_here : ℕ → ℕ → AtWork → AtWork
onward_here i n m = local_step i n (waiting_at m.rec i) m

abbrev onward_out : Routes → ℕ → ℕ → Dest → ℕ → AtWork → AtWork
onward_out routes slot i dest e m = out_step routes slot i e 0 dest m

-- to a channel end of this node
module _ (routes : Routes) (slot i : ℕ) (dest : Dest) (m : AtWork) where
  abbrev want_by : ℕ → Bool → Bool → AtWork
  want_by n lost held = cond lost (loses i dest m) (cond held m (onward_here i n (to_state i (Local n) m)))

  abbrev is_lost : ℕ → Bool
  is_lost n = not (ltb n 32) || not (chan_of m.rec.core n).used

  pub want-lost : (n : ℕ) → n ≡ dest.chan → is_lost n ≡ true → loses i dest m ≡ want_way routes slot i dest Here m
  want-lost n its lost =
      sym (ap (λ (b : Bool). want_by n b (chan_is_held m.rec n)) lost) ∙ ap (λ (k : ℕ). want_by k (is_lost k) (chan_is_held m.rec k)) its

  pub want-local : (n : ℕ) → n ≡ dest.chan → is_lost n ≡ false → chan_is_held m.rec n ≡ false → onward_here i n (to_state i (Local n) m) ≡ want_way routes slot i dest Here m
  want-local n its lost held =
      sym (ap (λ (b : Bool). want_by n b (chan_is_held m.rec n)) lost ∙ ap (λ (b : Bool). want_by n false b) held)
      ∙ ap (λ (k : ℕ). want_by k (is_lost k) (chan_is_held m.rec k)) its

  pub want-held : (n : ℕ) → n ≡ dest.chan → is_lost n ≡ false → chan_is_held m.rec n ≡ true → m ≡ want_way routes slot i dest Here m
  want-held n its lost held =
      sym (ap (λ (b : Bool). want_by n b (chan_is_held m.rec n)) lost ∙ ap (λ (b : Bool). want_by n false b) held)
      ∙ ap (λ (k : ℕ). want_by k (is_lost k) (chan_is_held m.rec k)) its

-- behind some link ends
module _ (routes : Routes) (slot i : ℕ) (dest : Dest) (mask : ℕ) (m : AtWork) where
  abbrev behind_by : Bool → Option ℕ → AtWork
  behind_by none free = cond none (loses i dest m) (hold_end (λ e m. onward_out routes slot i dest e m) i dest free m)

  pub behind-none : mask ≡ 0 → loses i dest m ≡ want_way routes slot i dest (Behind mask) m
  behind-none is = sym (ap (λ (b : Bool). behind_by b (free_end m.rec mask 0 8)) (eq-eqb mask 0 is))

  pub behind-some : (e : ℕ) → (mask ≡ 0 → ⊥) → Some e ≡ free_end m.rec mask 0 8 → out_step routes slot i e 0 dest (to_state i (Out e 0 dest) m) ≡ want_way routes slot i dest (Behind mask) m
  behind-some e is free =
      ap (λ (o : Option ℕ). behind_by false o) free ∙ sym (ap (λ (b : Bool). behind_by b (free_end m.rec mask 0 8)) (ne_eqb mask 0 is))

  pub behind-wait : (mask ≡ 0 → ⊥) → None ≡ free_end m.rec mask 0 8 → m ≡ want_way routes slot i dest (Behind mask) m
  behind-wait is free =
      ap (λ (o : Option ℕ). behind_by false o) free ∙ sym (ap (λ (b : Bool). behind_by b (free_end m.rec mask 0 8)) (ne_eqb mask 0 is))
