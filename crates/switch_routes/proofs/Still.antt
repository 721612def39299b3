-- An input at which no token waits, and which does not act alone, does nothing.
use Rattle.std.proofs.Common.{ℕ, ◌≡◌, ◌≢◌, ◌+◌, Bool, true, false, cond, ltb, List, [], refl, ap, ◌∙◌}
use Rattle.std.proofs.lemmas.Bool.{true≢false}
use Rattle.xs_base.specs.declared.token.Token.{Token}
use Rattle.xs_base.specs.declared.token.Token.TheVariants.{Byte}
use Rattle.xs_model.specs.Record.{InputRec, Idle, Head1, Head2, Want, Local, Out, Lost}
use Rattle.xs_model.specs.AtWork.{AtWork}
use Rattle.net_model.specs.Switch.{Routes, state_at, waiting_at, want_step, input_step, step_at, head_step, packet_step, local_step, lost_step, out_token, end_may_send, link_at, to_state, send, header_byte}
use Rattle.quiet_model.specs.Still.{acts_alone}
use Rattle.switch_routes.proofs.Spares.{input-spares}

pub record Still (i : ℕ) (m : AtWork) : Type 0 where
  pub alone : acts_alone (state_at m.rec i) ≡ false
  pub waiting : waiting_at m.rec i ≡ []

same-both : (b : Bool) (m : AtWork) → cond b m m ≡ m
same-both true m = refl
same-both false m = refl

module _ (routes : Routes) (slot i : ℕ) (m : AtWork) (none : waiting_at m.rec i ≡ []) where
  still-at : (state : InputRec) → acts_alone state ≡ false → step_at routes slot i state m ≡ m
  still-at Idle is =
      ap (λ (ts : List Token). cond (ltb i 8) (head_step routes i Idle ts m) (packet_step (want_step routes slot i) i ts m)) none ∙ same-both (ltb i 8) m
  still-at (Head1 high) is = ap (λ (ts : List Token). cond (ltb i 8) (head_step routes i (Head1 high) ts m) m) none ∙ same-both (ltb i 8) m
  still-at (Head2 high low) is = ap (λ (ts : List Token). cond (ltb i 8) (head_step routes i (Head2 high low) ts m) m) none ∙ same-both (ltb i 8) m
  still-at (Want dest net) is = absurd (true≢false is)
  still-at (Local n) is = ap (λ (ts : List Token). local_step i n ts m) none
  still-at (Out e headers dest) is =
      ap (λ (b : Bool). cond (end_may_send routes slot e (link_at m.rec e)) (cond b (to_state i (Out e (headers + 1) dest) (send slot e (Byte (header_byte dest headers)) m)) (out_token slot i e headers dest (waiting_at m.rec i) m)) m) is
      ∙ ap (λ (ts : List Token). cond (end_may_send routes slot e (link_at m.rec e)) (out_token slot i e headers dest ts m) m) none
      ∙ same-both (end_may_send routes slot e (link_at m.rec e)) m
  still-at Lost is = ap (λ (ts : List Token). lost_step i ts m) none

pub still-step : (routes : Routes) (slot i : ℕ) (m : AtWork) → Still i m → input_step routes slot i m ≡ m
still-step routes slot i m still = still-at routes slot i m still.waiting (state_at m.rec i) still.alone

-- it stays so while others make their steps
pub still-on : (routes : Routes) (slot i j : ℕ) (m : AtWork) → j ≢ i → Still j m → Still j (input_step routes slot i m)
still-on routes slot i j m other still =
    let same = input-spares i j other routes slot m in record { alone = ap acts_alone same.state ∙ still.alone; waiting = same.waiting ∙ still.waiting }
