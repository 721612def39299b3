-- What holds of a directed link before each slot, and that a slot keeps it.
use Rattle.std.proofs.Common.{◌≡◌, ℕ, suc, ◌+◌, ◌<◌, ◌≤◌, Bool, true, Option, Some, None, List, [], ◌++◌, length, refl, sym, ap, ◌∙◌, subst, arith, append_assoc, length-append}
use Rattle.std.specs.Prelude.{is_some, option_to_list}
use Rattle.std.specs.List.{AllByRecursion}
use Rattle.xs_base.specs.declared.numbers.TheConstants.{BUFFER_TOKENS, WINDOW_TOKENS}
use Rattle.xs_base.specs.declared.token.Token.{Token}
use Rattle.xs_base.specs.declared.entry.Entry.{Entry}
use Rattle.xs_model.specs.Record.{LinkRec}
use Rattle.net_model.specs.Links.{fresh_link, may_send}
use Rattle.serial_model.specs.Serial.{arriving, token_among, credit_among}
use Rattle.link_laws.specs.LinkSlot.{LinkSlot, slots_of}
use Rattle.link_laws.specs.Travel.{tokens_of, credits_of, in_flight}
use Rattle.link_laws.proofs.TravelLists.{all-map, all-append, one_if, sent_in, History, empty-history, next-history, tokens-next}
use Rattle.link_laws.proofs.TravelLists.{credits-next, tokens-flight-next, credits-flight-next, tokens-split, credits-split}
use Rattle.link_laws.proofs.TravelEnds.{arrived, arrived-buffer, arrived-sent, arrived-credited, counted, counted-length, counted-by}
use Rattle.link_laws.proofs.TravelEnds.{few-where-allowed, slots-length, slots-before, taken_by, taken-and-rest, taken-length}

-- the tokens that were sent are those that were taken from the receiver's buffer, those in it, and those in flight;
-- a credit went back for each that was taken, and was counted or is in flight
pub record Kept (slot delay : ℕ) (sender receiver : LinkRec) (forth back : List Entry) (taken : List Token) : Type 0 where
  pub forth_history : History slot delay forth
  pub back_history : History slot delay back
  pub sent_before : AllByRecursion (λ (s : ℕ). s < slot) sender.sent
  pub credited_before : AllByRecursion (λ (s : ℕ). s < slot) sender.credited
  pub sent : length sender.sent ≡ length (tokens_of forth)
  pub credited : credits_of back ≡ length sender.credited + credits_of (in_flight slot delay back)
  pub order : tokens_of forth ≡ taken ++ (receiver.buffer ++ tokens_of (in_flight slot delay forth))
  pub taken_credits : length taken ≡ credits_of back
  pub few : length sender.sent ≤ length sender.credited + WINDOW_TOKENS

pub kept-at-start : (delay : ℕ) → Kept 0 delay fresh_link fresh_link [] [] []
kept-at-start delay = record {
  forth_history = empty-history delay;
  back_history = empty-history delay;
  sent_before = tt;
  credited_before = tt;
  sent = refl;
  credited = omega arith;
  order = refl;
  taken_credits = refl;
  few = omega arith;
}

-- the same in a slot, when what arrives has arrived
pub record Arrived (slot delay : ℕ) (sender receiver : LinkRec) (forth back : List Entry) (taken : List Token) : Type 0 where
  pub forth_history : History slot delay forth
  pub back_history : History slot delay back
  pub sent_before : AllByRecursion (λ (s : ℕ). s < slot) sender.sent
  pub credited_by : AllByRecursion (λ (s : ℕ). s ≤ slot) sender.credited
  pub sent : length sender.sent ≡ length (tokens_of forth)
  pub credited : credits_of back ≡ length sender.credited + credits_of (in_flight (suc slot) delay back)
  pub order : tokens_of forth ≡ taken ++ (receiver.buffer ++ tokens_of (in_flight (suc slot) delay forth))
  pub taken_credits : length taken ≡ credits_of back
  pub few : length sender.sent ≤ length sender.credited + WINDOW_TOKENS

module _ (slot delay : ℕ) (sender receiver : LinkRec) (forth back : List Entry) (taken : List Token) (k : Kept slot delay sender receiver forth back taken) where
  abbrev token : Option Token
  token = token_among (arriving slot delay forth)

  abbrev credit : Bool
  credit = credit_among (arriving slot delay back)

  -- the tokens that were sent, by where they are
  pub sent-parts : length sender.sent ≡ credits_of back + (length receiver.buffer + length (tokens_of (in_flight slot delay forth)))
  sent-parts =
      omega (
        arith,
        k.sent,
        ap length k.order,
        length-append taken (receiver.buffer ++ tokens_of (in_flight slot delay forth)),
        length-append receiver.buffer (tokens_of (in_flight slot delay forth)),
        k.taken_credits,
      )

  flight-parts : length (tokens_of (in_flight slot delay forth)) ≡ length (option_to_list token) + length (tokens_of (in_flight (suc slot) delay forth))
  flight-parts =
      ap length (tokens-split slot delay forth k.forth_history) ∙ length-append (option_to_list token) (tokens_of (in_flight (suc slot) delay forth))

  -- a token that arrives has room
  pub token-fits : length receiver.buffer + length (option_to_list token) ≤ BUFFER_TOKENS
  token-fits = omega (arith, sent-parts, flight-parts, k.credited, k.few)

  -- a credit that arrives is for a token that has none yet
  pub credit-is-due : length sender.credited + one_if credit ≤ length sender.sent
  credit-is-due = omega (arith, sent-parts, k.credited, credits-split slot delay back k.back_history)

  module _ (other_token : Option Token) (other_credit : Bool) where
    abbrev sender_then : LinkRec
    sender_then = arrived slot other_token credit sender

    abbrev receiver_then : LinkRec
    receiver_then = arrived slot token other_credit receiver

    is_sent : sender_then.sent ≡ sender.sent
    is_sent = arrived-sent slot other_token credit sender

    is_credited : sender_then.credited ≡ sender.credited ++ counted slot credit
    is_credited = arrived-credited slot other_token credit sender credit-is-due

    credited-length : length sender_then.credited ≡ length sender.credited + one_if credit
    credited-length = omega (arith, ap length is_credited, length-append sender.credited (counted slot credit), counted-length slot credit)

    order-then : tokens_of forth ≡ taken ++ (receiver_then.buffer ++ tokens_of (in_flight (suc slot) delay forth))
    order-then =
        let rest = tokens_of (in_flight (suc slot) delay forth) in
        let split = ap (λ l. receiver.buffer ++ l) (tokens-split slot delay forth k.forth_history) in
        let joined = sym (append_assoc receiver.buffer (option_to_list token) rest) in
        let buffer = ap (λ l. l ++ rest) (sym (arrived-buffer slot token other_credit receiver token-fits)) in
        k.order ∙ ap (λ l. taken ++ l) (split ∙ joined ∙ buffer)

    pub arrive-keeps : Arrived slot delay sender_then receiver_then forth back taken
    arrive-keeps = record {
      forth_history = k.forth_history;
      back_history = k.back_history;
      sent_before = subst (AllByRecursion (λ (s : ℕ). s < slot)) (sym is_sent) k.sent_before;
      credited_by =
          subst (AllByRecursion (λ (s : ℕ). s ≤ slot)) (sym is_credited)
          (all-append (λ (s : ℕ). s ≤ slot) sender.credited (counted slot credit)
          (all-map (λ (s : ℕ). s < slot) (λ (s : ℕ). s ≤ slot) (λ s l. omega (arith, l)) sender.credited k.credited_before)
          (counted-by slot credit));
      sent = ap length is_sent ∙ k.sent;
      credited = omega (arith, k.credited, credited-length, credits-split slot delay back k.back_history);
      order = order-then;
      taken_credits = k.taken_credits;
      few = omega (arith, ap length is_sent, credited-length, k.few);
    }

-- the tokens that were taken, those in the buffer, and those in flight, where the buffer gives its first one on and one more is sent
regroup : (taken first rest flight more : List Token) → (taken ++ ((first ++ rest) ++ flight)) ++ more ≡ (taken ++ first) ++ (rest ++ (flight ++ more))
regroup taken first rest flight more = simp append_assoc

module _ (slot delay : ℕ) (sender receiver : LinkRec) (forth back : List Entry) (taken : List Token) (a : Arrived slot delay sender receiver forth back taken) where
  module _ (gap other_gap : ℕ) (after receiver_after : LinkRec) (token other_token : Option Token) (credit other_credit : Bool) where
    module _ (s : LinkSlot gap slot sender after token other_credit) (r : LinkSlot other_gap slot receiver receiver_after other_token credit) (d : 1 ≤ delay) where
      abbrev forth_after : List Entry
      forth_after = forth ++ sent_in slot token other_credit

      abbrev back_after : List Entry
      back_after = back ++ sent_in slot other_token credit

      abbrev first : List Token
      first = taken_by credit receiver.buffer

      sent-length : length after.sent ≡ length sender.sent + length (option_to_list token)
      sent-length = omega (arith, ap length s.sent, length-append sender.sent (slots_of slot token), slots-length slot token)

      few-after : (t : Option Token) → t ≡ token → length sender.sent + length (option_to_list t) ≤ length sender.credited + WINDOW_TOKENS
      few-after None e = omega (arith, a.few)
      few-after (Some t) e =
          let may : may_send gap slot sender ≡ true = s.allowed (ap is_some (sym e)) in
          omega (arith, few-where-allowed gap slot sender a.sent_before a.credited_by may)

      buffer-parts : receiver.buffer ≡ first ++ receiver_after.buffer
      buffer-parts = taken-and-rest credit receiver.buffer ∙ ap (λ l. first ++ l) (sym r.buffer)

      order-after : tokens_of forth_after ≡ (taken ++ first) ++ (receiver_after.buffer ++ tokens_of (in_flight (suc slot) delay forth_after))
      order-after =
          let flight = tokens_of (in_flight (suc slot) delay forth) in
          let more = option_to_list token in
          let sent = tokens-next slot delay forth a.forth_history token other_credit in
          let were = ap (λ l. l ++ more) (a.order ∙ ap (λ l. taken ++ (l ++ flight)) buffer-parts) in
          let in_flight_then = ap (λ l. (taken ++ first) ++ (receiver_after.buffer ++ l)) (sym (tokens-flight-next slot delay forth a.forth_history token other_credit d)) in
          sent ∙ were ∙ regroup taken first receiver_after.buffer flight more ∙ in_flight_then

      credited-after : credits_of back_after ≡ length after.credited + credits_of (in_flight (suc slot) delay back_after)
      credited-after =
          let gone = credits-next slot delay back a.back_history other_token credit in
          let flight = credits-flight-next slot delay back a.back_history other_token credit d in
          omega (arith, a.credited, ap length s.credited, gone, flight)

      pub leave-keeps : Kept (suc slot) delay after receiver_after forth_after back_after (taken ++ first)
      leave-keeps = record {
        forth_history = next-history slot delay forth a.forth_history token other_credit;
        back_history = next-history slot delay back a.back_history other_token credit;
        sent_before =
            subst (AllByRecursion (λ (n : ℕ). n < suc slot)) (sym s.sent)
            (all-append (λ (n : ℕ). n < suc slot) sender.sent (slots_of slot token)
            (all-map (λ (n : ℕ). n < slot) (λ (n : ℕ). n < suc slot) (λ n l. omega (arith, l)) sender.sent a.sent_before)
            (slots-before slot token));
        credited_before =
            subst (AllByRecursion (λ (n : ℕ). n < suc slot)) (sym s.credited)
            (all-map (λ (n : ℕ). n ≤ slot) (λ (n : ℕ). n < suc slot) (λ n l. omega (arith, l)) sender.credited a.credited_by);
        sent = omega (arith, sent-length, a.sent, ap length (tokens-next slot delay forth a.forth_history token other_credit), length-append (tokens_of forth) (option_to_list token));
        credited = credited-after;
        order = order-after;
        taken_credits = omega (arith, a.taken_credits, length-append taken first, taken-length credit receiver.buffer r.waited, credits-next slot delay back a.back_history other_token credit);
        few = omega (arith, sent-length, ap length s.credited, few-after token refl);
      }
