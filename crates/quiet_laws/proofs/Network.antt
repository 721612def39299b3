-- A network that is still, in a slot in which nothing arrives: link ends stay as they are, and no input of the switch does anything.
use Rattle.std.proofs.Common.{◌≡◌, ℕ, zero, suc, ◌+◌, ◌-◌, Bool, true, false, not, ◌&&◌, cond, ltb, Option, Some, None, List, [], ◌∷◌, get_or, replicate, refl, ap, ap₂, ◌∙◌}
use Rattle.std.specs.List.{list_any}
use Rattle.std.proofs.lemmas.Bool.{true≢false, not-true, and_parts, or_parts}
use Rattle.xs_base.specs.declared.token.Token.{Token}
use Rattle.xs_base.specs.declared.token.Token.TheVariants.{Byte}
use Rattle.xs_model.specs.Record.{ChanRec, LinkRec, InputRec, Idle, Head1, Head2, Want, Local, Out, Lost, unused_chan}
use Rattle.xs_model.specs.AtWork.{AtWork}
use Rattle.xs_model.specs.Choices.{waits_in}
use Rattle.net_model.specs.Links.{links_after_arrivals, link_after_arrivals}
use Rattle.net_model.specs.Switch.{Routes, state_at, waiting_at, link_at, buffer_of_link, to_state, send, header_byte, end_may_send, step_at, moves_from, moves}
use Rattle.net_model.specs.Switch.{head_step, packet_step, want_step, local_step, out_token, lost_step}
use Rattle.quiet_model.specs.Still.{acts_alone, link_waits, network_is_still}

-- ---- Link ends

all_default : {A : Type 0} (n : ℕ) (d : A) (k : ℕ) → get_or (replicate n d) k d ≡ d
all_default zero d k = refl
all_default (suc n) d zero = refl
all_default (suc n) d (suc k) = all_default n d k

link_stays : (slot : ℕ) (link : Option LinkRec) → link_after_arrivals slot None false link ≡ link
link_stays slot None = refl
link_stays slot (Some link) = refl

pub links_stay : (slot end : ℕ) (links : List (Option LinkRec)) → links_after_arrivals slot (replicate 8 None) (replicate 8 false) end links ≡ links
unfolding links_after_arrivals
links_stay slot end [] = refl
links_stay slot end (link ∷ links) =
    rw (all_default {A = Option Token} 8 None end, all_default 8 false end, links_stay slot (end + 1) links) (ap (λ l. l ∷ links) (link_stays slot link))

-- ---- An input at which no token waits, and which does not act alone, does nothing

same_both : {A : Type 0} (b : Bool) (m : A) → cond b m m ≡ m
same_both true m = refl
same_both false m = refl

record IsStill (i : ℕ) (m : AtWork) : Type 0 where
  alone : acts_alone (state_at m.rec i) ≡ false
  waiting : waiting_at m.rec i ≡ []

module _ (routes : Routes) (slot i : ℕ) (m : AtWork) (none : waiting_at m.rec i ≡ []) where
  still_at : (state : InputRec) → acts_alone state ≡ false → step_at routes slot i state m ≡ m
  still_at Idle is =
      ap (λ (ts : List Token). cond (ltb i 8) (head_step routes i Idle ts m) (packet_step (want_step routes slot i) i ts m)) none ∙ same_both (ltb i 8) m
  still_at (Head1 high) is = ap (λ (ts : List Token). cond (ltb i 8) (head_step routes i (Head1 high) ts m) m) none ∙ same_both (ltb i 8) m
  still_at (Head2 high low) is = ap (λ (ts : List Token). cond (ltb i 8) (head_step routes i (Head2 high low) ts m) m) none ∙ same_both (ltb i 8) m
  still_at (Want dest net) is = absurd (true≢false is)
  still_at (Local n) is = ap (λ (ts : List Token). local_step i n ts m) none
  still_at (Out e headers dest) is =
      let may = end_may_send routes slot e (link_at m.rec e) in
      let header = to_state i (Out e (headers + 1) dest) (send slot e (Byte (header_byte dest headers)) m) in
      ap (λ (b : Bool). cond may (cond b header (out_token slot i e headers dest (waiting_at m.rec i) m)) m) is
      ∙ ap (λ (ts : List Token). cond may (out_token slot i e headers dest ts m) m) none
      ∙ same_both may m
  still_at Lost is = ap (λ (ts : List Token). lost_step i ts m) none

still_inputs : (routes : Routes) (slot : ℕ) (m : AtWork) → ((i : ℕ) → IsStill i m) → (i count : ℕ) → moves_from routes slot i count m ≡ m
unfolding moves_from
still_inputs routes slot m still i zero = refl
still_inputs routes slot m still i (suc count) =
    ap (λ n. moves_from routes slot (i + 1) count n) (still_at routes slot i m (still i).waiting (state_at m.rec i) (still i).alone) ∙ still_inputs routes slot m still (i + 1) count

-- ---- Every input is such a one

none_at : {A : Type 0} (p : A → Bool) (xs : List A) (d : A) (k : ℕ) → list_any p xs ≡ false → p d ≡ false → p (get_or xs k d) ≡ false
none_at p [] d k none past = past
none_at p (x ∷ xs) d zero none past = (or_parts (p x) (list_any p xs) none).0
none_at p (x ∷ xs) d (suc k) none past = none_at p xs d k (or_parts (p x) (list_any p xs) none).1 past

none_waits : (tokens : List Token) → waits_in tokens ≡ false → tokens ≡ []
none_waits [] none = refl
none_waits (t ∷ tokens) none = absurd (true≢false none)

none_wait_at : (link : Option LinkRec) → link_waits link ≡ false → buffer_of_link link ≡ []
none_wait_at None none = refl
none_wait_at (Some link) none = none_waits link.buffer none

module _ (m : AtWork) (still : network_is_still m.rec.core.chans m.rec.links m.rec.inputs ≡ true) where
  abbrev chan_waits : ChanRec → Bool
  chan_waits chan = waits_in chan.output

  chans_and_rest : (not (list_any chan_waits m.rec.core.chans) ≡ true) × ((not (list_any link_waits m.rec.links) && not (list_any acts_alone m.rec.inputs)) ≡ true)
  chans_and_rest = and_parts _ _ still

  links_and_inputs : (not (list_any link_waits m.rec.links) ≡ true) × (not (list_any acts_alone m.rec.inputs) ≡ true)
  links_and_inputs = and_parts _ _ chans_and_rest.1

  input_is_still : (i : ℕ) → IsStill i m
  input_is_still i = record {
    alone = none_at acts_alone m.rec.inputs Idle i (not-true _ links_and_inputs.1) refl;
    waiting =
        ap₂ (λ (link chan : List Token). cond (ltb i 8) link chan)
        (none_wait_at _ (none_at link_waits m.rec.links None i (not-true _ links_and_inputs.0) refl))
        (none_waits _ (none_at chan_waits m.rec.core.chans unused_chan (i - 8) (not-true _ chans_and_rest.0) refl))
        ∙ same_both (ltb i 8) [];
  }

  pub moves_nothing : (routes : Routes) (slot : ℕ) → moves routes slot m ≡ m
  moves_nothing routes slot = still_inputs routes slot m input_is_still 0 40
