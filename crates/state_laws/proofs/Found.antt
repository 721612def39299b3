-- What a program finds at a channel end leaves what is true of it, and leaves it in use.
use Rattle.std.proofs.Common.{◌≡◌, ◌&&◌, ◌==◌, nat_lt, Bool, true, false, if◌then◌else◌, Option, Some, None, List, [], ◌∷◌, ◌++◌, length, take, refl, sym, inl, inr, ◌∙◌, arith}
use Rattle.std.proofs.lemmas.Bool.{cond_both, ltb-true, false≢true}
use Rattle.std.proofs.lemmas.Option.{none-some}
use Rattle.std.specs.Prelude.{IfSome}
use Rattle.std.specs.List.{list_any}
use Rattle.xs_base.specs.Numbers.{Word, Identifier}
use Rattle.xs_base.specs.declared.token.Token.{Token}
use Rattle.xs_model.specs.Record.{ChanRec}
use Rattle.xs_model.specs.Waits.{has_room, has_tokens, is_control}
use Rattle.net_model.specs.Chans.{Found, Got, Waits, Refused, put_in_use, put_away, freed_chan, found_at, put_towards, put_token, put_word, take_word, take_where, take_byte, take_ctrl, check_token, look_at, look, look_word, is_chan_id, take_dest, tell_dest, is_network, take_net, tell_net}
use Rattle.chan_ends.specs.States.{IsChan}
use Rattle.state_laws.proofs.Changes.{ChanStays}

-- the channel end that is left
abbrev pub FoundStays : ChanRec → Found → Type 0
FoundStays old (Got chan word) = (IsChan old → IsChan chan) × (chan.used ≡ old.used)
FoundStays old Waits = Unit {0}
FoundStays old Refused = Unit {0}

module _ (old : ChanRec) where
  either : (holds : Bool) (x y : Found) → FoundStays old x → FoundStays old y → FoundStays old (if holds then x else y)
  either true x y one other = one
  either false x y one other = other

  -- its input changes
  with_input : (input : List Token) → IsChan old → IsChan (record old { input = input })
  with_input input is = record { net = is.net; dest = is.dest; output = is.output }

  towards : (dest : Option Identifier) (tokens : List Token) → old.dest ≡ dest → FoundStays old (put_towards dest tokens old)
  towards None tokens its = tt
  towards (Some id) tokens its =
      let fits : IsChan old → IsChan (record old { output = old.output ++ tokens }) =
      λ is. record { net = is.net; dest = is.dest; output = λ none. absurd (none-some id (sym none ∙ its)) } in
      either (has_room (length tokens) old.output) _ Waits (fits, refl) tt

  pub put_token_stays : (t : Token) → FoundStays old (put_token t old)
  put_token_stays t = towards old.dest (t ∷ []) refl

  pub put_word_stays : (word : Word) → FoundStays old (put_word word old)
  put_word_stays word = towards old.dest _ refl

  pub take_word_stays : FoundStays old (take_word old)
  take_word_stays =
      either (list_any is_control (take 4 old.input)) Refused _ tt (either (nat_lt (length old.input) 4) Waits _ tt (with_input _, refl))

  where_stays : (test : Token → Bool) (input : List Token) → FoundStays old (take_where test input old)
  where_stays test [] = tt
  where_stays test (t ∷ rest) = either (test t) _ Refused (with_input rest, refl) tt

  pub take_byte_stays : FoundStays old (take_byte old)
  take_byte_stays = where_stays _ old.input

  pub take_ctrl_stays : FoundStays old (take_ctrl old)
  take_ctrl_stays = where_stays _ old.input

  pub check_stays : (value : Word) → FoundStays old (check_token value old)
  check_stays value = where_stays _ old.input

  look_at_stays : (input : List Token) → FoundStays old (look_at input old)
  look_at_stays [] = tt
  look_at_stays (t ∷ rest) = (λ is. is, refl)

  pub look_stays : FoundStays old (look old)
  look_stays = look_at_stays old.input

  pub look_word_stays : FoundStays old (look_word old)
  look_word_stays = either (has_tokens 4 old.input) _ Waits (λ is. is, refl) tt

  pub take_dest_stays : (dest : Identifier) → FoundStays old (take_dest dest old)
  take_dest_stays dest =
      cond_both (is_chan_id dest) (Got (record old { dest = Some dest }) 0) Refused (FoundStays old)
      (λ its. (λ is. record { net = is.net; dest = its; output = λ none. absurd (none-some dest (sym none)) }, refl)) (λ no. tt)

  pub tell_dest_stays : FoundStays old (tell_dest old)
  tell_dest_stays = (λ is. is, refl)

  pub take_net_stays : (n : Word) → FoundStays old (take_net n old)
  take_net_stays n =
      cond_both (is_network n) (Got (record old { net = n }) 0) Refused (FoundStays old)
      (λ its. (λ is. record { net = ltb-true n 4 its; dest = is.dest; output = is.output }, refl)) (λ no. tt)

  pub tell_net_stays : FoundStays old (tell_net old)
  tell_net_stays = (λ is. is, refl)

  -- one that is not in use refuses all
  pub at_stays : (does : ChanRec → Found) → FoundStays old (does old) → FoundStays old (found_at does old)
  at_stays does h = either old.used _ Refused h tt

  pub chan_stays : (is_busy : Bool) (chan : ChanRec) → (IsChan old → IsChan chan) × (chan.used ≡ old.used) → ChanStays is_busy old chan
  chan_stays is_busy chan h = record { fits = h.0; used = λ used. inl (h.1 ∙ used) }

  pub got_stays : (is_busy : Bool) → ChanStays is_busy old (put_in_use old)
  got_stays is_busy = record { fits = λ is. record { net = omega arith; dest = is.dest; output = is.output }; used = λ used. inl refl }

  -- a channel end is freed while the switch is not at work with it
  abbrev pub FreedStays : Bool → Option ChanRec → Type 0
  FreedStays is_busy left = IfSome left (ChanStays is_busy old)

  never : (a b c : Bool) → (a && b && c && false) ≡ true → ⊥
  never false b c is = false≢true is
  never true false c is = false≢true is
  never true true false is = false≢true is
  never true true true is = false≢true is

  away_stays : (is_busy : Bool) → is_busy ≡ false → ChanStays is_busy old (put_away old)
  away_stays is_busy free = record { fits = λ is. record { net = is.net; dest = tt; output = λ none. refl }; used = λ used. inr free }

  pub freed_stays : (is_busy : Bool) → FreedStays is_busy (freed_chan is_busy old)
  freed_stays true = if_busy (old.used && (length old.output == 0) && (length old.input == 0) && false) refl
    where
      if_busy : (test : Bool) → (old.used && (length old.output == 0) && (length old.input == 0) && false) ≡ test → FreedStays true (if test then Some (put_away old) else None)
      if_busy false is = tt
      if_busy true is = absurd (never old.used (length old.output == 0) (length old.input == 0) is)
  freed_stays false = if_free (old.used && (length old.output == 0) && (length old.input == 0) && true)
    where
      if_free : (test : Bool) → FreedStays false (if test then Some (put_away old) else None)
      if_free false = tt
      if_free true = away_stays false refl
