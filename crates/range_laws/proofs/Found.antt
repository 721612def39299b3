-- What programs find at channel ends and at ports are words, and what they leave there fits.
use Rattle.std.proofs.Common.{ℕ, suc, ◌+◌, ◌/◌, ◌%◌, ◌^◌, ◌<◌, ◌≤◌, ◌==◌, ◌&&◌, ◌||◌, Bool, true, false, not, nat_lt, if◌then◌else◌, Option, Some, None, List, [], ◌∷◌, ◌++◌, length, take, drop, arith}
use Rattle.std.specs.Prelude.{IfSome}
use Rattle.std.specs.List.{AllByRecursion, list_any}
use Rattle.std.proofs.lemmas.Bool.{cond_both, leb-true, ltb-true}
use Rattle.std.proofs.lemmas.List.{length-append, length-take, length-drop}
use Rattle.std.proofs.lemmas.Nat.{mod_below}
use Rattle.xs_base.specs.Numbers.{Word, Identifier, PortNumber}
use Rattle.xs_base.specs.Ids.{port_width}
use Rattle.xs_base.specs.declared.token.Token.{Token}
use Rattle.xs_base.specs.declared.token.Token.TheVariants.{Byte, Ctrl}
use Rattle.xs_model.specs.declared.thread.Wait.TheVariants.{PortFull, PortIdle}
use Rattle.xs_model.specs.Record.{ChanRec, PortRec, TransferRec}
use Rattle.xs_model.specs.Ports.{level_of}
use Rattle.xs_model.specs.PortActions.{Acted, Did, Got as Gives, Waits as PausesAt, Refused as Refuses, has_left, wanting, turned_in, let_go, tell_value, tell_stamp, peek, turn_in, take_transfer, take_in, is_part, take_part, end_transfer, end_in}
use Rattle.xs_model.specs.Waits.{has_room, is_control, has_tokens}
use Rattle.net_model.specs.Chans.{Found, Got, Waits, Refused, put_away, put_in_use, freed_chan, found_at, put_towards, put_token, bytes_of_word, put_word, value_of, joined, take_word, take_where, take_byte, take_ctrl, check_token, truth, look_at, look, control_place, look_word, is_chan_id, take_dest, dest_or_0, tell_dest, is_network, take_net, tell_net}
use Rattle.port_laws.specs.Facts.{HasFacts, is_off, is_on, IsTransfer}
use Rattle.state_forms.specs.Buffers.{TokenFits, buffer_of, BufferFits}
use Rattle.range_laws.proofs.Lists.{all_joined, all_dropped}
use Rattle.range_laws.proofs.Words.{IsWord, below_word}
use Rattle.range_laws.proofs.Core.{ChanWords, unused_fits}

-- ---- Tokens

abbrev pub TokensFit : List Token → Type 0
TokensFit tokens = BufferFits (buffer_of tokens)

pub value_byte : (t : Token) → TokenFits t → value_of t < 256
value_byte (Byte b) h = h
value_byte (Ctrl c) h = h

joined_word : (tokens : List Token) → AllByRecursion TokenFits tokens → IsWord (joined 0 (take 4 tokens))
joined_word [] all = omega arith
joined_word (a ∷ []) all = let fa = value_byte a all.0 in omega (arith, fa)
joined_word (a ∷ b ∷ []) all =
    let fa = value_byte a all.0 in
    let fb = value_byte b all.1.0 in
    omega (arith, fa, fb)
joined_word (a ∷ b ∷ c ∷ []) all =
    let fa = value_byte a all.0 in
    let fb = value_byte b all.1.0 in
    let fc = value_byte c all.1.1.0 in
    omega (arith, fa, fb, fc)
joined_word (a ∷ b ∷ c ∷ d ∷ rest) all =
    let fa = value_byte a all.0 in
    let fb = value_byte b all.1.0 in
    let fc = value_byte c all.1.1.0 in
    let fd = value_byte d all.1.1.1.0 in
    omega (arith, fa, fb, fc, fd)

place_most : (n : ℕ) (tokens : List Token) → control_place n tokens ≤ n + length tokens
place_most n [] = omega arith
place_most n (t ∷ tokens) = by (is_control t) (place_most (n + 1) tokens)
  where
    by : (control : Bool) → control_place (n + 1) tokens ≤ n + 1 + length tokens → (if control then n else control_place (n + 1) tokens) ≤ n + suc (length tokens)
    by true rest = omega arith
    by false rest = omega (arith, rest)

place_word : (tokens : List Token) → IsWord (control_place 1 (take 4 tokens))
place_word tokens =
    let most = place_most 1 (take 4 tokens) in
    let few = length-take 4 tokens in
    omega (arith, most, few)

pub low_byte : (n : ℕ) → n % 256 < 256
low_byte n = mod_below n 256 (omega arith)

dropped_fit : (n : ℕ) (tokens : List Token) → TokensFit tokens → TokensFit (drop n tokens)
dropped_fit n tokens h = record {
  count = let left = length-drop n tokens in let count = h.count in omega (arith, left, count);
  tokens = all_dropped TokenFits n tokens h.tokens;
}

pub first_gone : (tokens : List Token) → TokensFit tokens → TokensFit (drop 1 tokens)
first_gone tokens h = dropped_fit 1 tokens h

pub more_fit : (tokens new : List Token) → length tokens + length new ≤ 8 → AllByRecursion TokenFits new → TokensFit tokens → TokensFit (tokens ++ new)
more_fit tokens new room all h = record {
  count = let whole = length-append tokens new in omega (arith, whole, room);
  tokens = all_joined TokenFits tokens new h.tokens all;
}

-- ---- Channel ends

abbrev pub FoundFits : Found → Type 0
FoundFits (Got chan word) = ChanWords chan × IsWord word
FoundFits Waits = Unit {0}
FoundFits Refused = Unit {0}

either : (holds : Bool) (x y : Found) → FoundFits x → FoundFits y → FoundFits (if holds then x else y)
either true x y this that = this
either false x y this that = that

none : IsWord 0
none = omega arith

module _ (chan : ChanRec) (h : ChanWords chan) where
  with_input : (input : List Token) → TokensFit input → ChanWords (record chan { input = input })
  with_input input fits = record { net = h.net; dest = h.dest; output = h.output; input = fits }

  with_output : (output : List Token) → TokensFit output → ChanWords (record chan { output = output })
  with_output output fits = record { net = h.net; dest = h.dest; output = fits; input = h.input }

  towards_fit : (dest : Option Identifier) (tokens : List Token) → AllByRecursion TokenFits tokens → FoundFits (put_towards dest tokens chan)
  towards_fit None tokens all = tt
  towards_fit (Some id) tokens all =
      cond_both (has_room (length tokens) chan.output) (Got (record chan { output = chan.output ++ tokens }) 0) Waits FoundFits
      (λ room. (with_output (chan.output ++ tokens) (more_fit chan.output tokens (leb-true (length chan.output + length tokens) 8 room) all h.output), none))
      (λ no. tt)

  pub put_token_fits : (t : Token) → TokenFits t → FoundFits (put_token t chan)
  put_token_fits t fits = towards_fit chan.dest (t ∷ []) (fits, tt)

  pub put_word_fits : (w : Word) → FoundFits (put_word w chan)
  put_word_fits w =
      towards_fit chan.dest (bytes_of_word w) (low_byte (w / 16777216), (low_byte (w / 65536), (low_byte (w / 256), (low_byte w, tt))))

  pub take_word_fits : FoundFits (take_word chan)
  take_word_fits =
      either (list_any is_control (take 4 chan.input)) Refused _ tt
      (either (nat_lt (length chan.input) 4) Waits (Got (record chan { input = drop 4 chan.input }) (joined 0 (take 4 chan.input))) tt
      (with_input (drop 4 chan.input) (dropped_fit 4 chan.input h.input), joined_word chan.input h.input.tokens))

  where_fits : (test : Token → Bool) (input : List Token) → TokensFit input → FoundFits (take_where test input chan)
  where_fits test [] fits = tt
  where_fits test (t ∷ rest) fits =
      let byte = value_byte t fits.tokens.0 in
      either (test t) (Got (record chan { input = rest }) (value_of t)) Refused (with_input rest (first_gone (t ∷ rest) fits), omega (arith, byte)) tt

  pub take_byte_fits : FoundFits (take_byte chan)
  take_byte_fits = where_fits (λ t. not (is_control t)) chan.input h.input

  pub take_ctrl_fits : FoundFits (take_ctrl chan)
  take_ctrl_fits = where_fits is_control chan.input h.input

  pub check_fits : (value : ℕ) → FoundFits (check_token value chan)
  check_fits value = where_fits _ chan.input h.input

  truth_word : (b : Bool) → IsWord (truth b)
  truth_word true = omega arith
  truth_word false = omega arith

  look_at_fits : (input : List Token) → FoundFits (look_at input chan)
  look_at_fits [] = tt
  look_at_fits (t ∷ rest) = (h, truth_word (is_control t))

  pub look_fits : FoundFits (look chan)
  look_fits = look_at_fits chan.input

  pub look_word_fits : FoundFits (look_word chan)
  look_word_fits = either (has_tokens 4 chan.input) (Got chan (control_place 1 (take 4 chan.input))) Waits (h, place_word chan.input) tt

  pub take_dest_fits : (dest : Identifier) → IsWord dest → FoundFits (take_dest dest chan)
  take_dest_fits dest is =
      either (is_chan_id dest) (Got (record chan { dest = Some dest }) 0) Refused (record { net = h.net; dest = is; output = h.output; input = h.input }, none) tt

  dest_word : (dest : Option Identifier) → IfSome dest IsWord → IsWord (dest_or_0 dest)
  dest_word None is = none
  dest_word (Some id) is = is

  pub tell_dest_fits : FoundFits (tell_dest chan)
  tell_dest_fits = (h, dest_word chan.dest h.dest)

  pub take_net_fits : (n : Word) → FoundFits (take_net n chan)
  take_net_fits n =
      cond_both (is_network n) (Got (record chan { net = n }) 0) Refused FoundFits
      (λ few. (record { net = ltb-true n 4 few; dest = h.dest; output = h.output; input = h.input }, none)) (λ no. tt)

  pub tell_net_fits : FoundFits (tell_net chan)
  tell_net_fits = let few = h.net in (h, omega (arith, few))

  pub at_fits : (does : ChanRec → Found) → FoundFits (does chan) → FoundFits (found_at does chan)
  at_fits does fits = either chan.used (does chan) Refused fits tt

pub got_fits : (chan : ChanRec) → ChanWords chan → ChanWords (put_in_use chan)
got_fits chan h = record { net = omega arith; dest = h.dest; output = h.output; input = h.input }

pub freed_fits : (is_busy : Bool) (chan : ChanRec) → ChanWords chan → IfSome (freed_chan is_busy chan) ChanWords
freed_fits is_busy chan h = by (chan.used && (length chan.output == 0) && (length chan.input == 0) && not is_busy)
  where
    by : (test : Bool) → IfSome (if test then Some (put_away chan) else None) ChanWords
    by true = record { net = h.net; dest = tt; output = unused_fits.output; input = unused_fits.input }
    by false = tt

-- ---- Ports

-- a word that a row gives
abbrev pub GivesGood : (Word → Type 0) → Acted → Type 0
GivesGood Good (Did port change) = Good 0
GivesGood Good (Gives port word) = Good word
GivesGood Good (PausesAt port wait change) = Unit {0}
GivesGood Good Refuses = Unit {0}

abbrev pub AnyWord : Word → Type 0
AnyWord word = Unit {0}

pub any_given : (acted : Acted) → GivesGood AnyWord acted
any_given (Did port change) = tt
any_given (Gives port word) = tt
any_given (PausesAt port wait change) = tt
any_given Refuses = tt

abbrev pub GivesWord : Acted → Type 0
GivesWord acted = GivesGood IsWord acted

act_either : (holds : Bool) (x y : Acted) → GivesWord x → GivesWord y → GivesWord (if holds then x else y)
act_either true x y this that = this
act_either false x y this that = that

-- what of a port its rows tell
record TellsWords (port : PortRec) : Type 0 where
  value : IsWord port.value
  stamp : IsWord port.stamp
  driven : IfSome port.driven IsWord
  transfer : IfSome port.transfer (λ t. IsWord t.value)
  transfer_width : IsWord port.transfer_width
  bits : IsWord (length port.shift)

width_few : (p : PortNumber) → port_width p ≤ 32
width_few p = grind arith

driven_word : (w : ℕ) → w ≤ 32 → (driven : Option Word) → IfSome driven (λ v. v < 2 ^ w) → IfSome driven IsWord
driven_word w few None h = tt
driven_word w few (Some v) h = below_word v w h few

transfer_word : (w tw : ℕ) → tw ≤ 32 → (transfer : Option TransferRec) → IfSome transfer (IsTransfer w tw) → IfSome transfer (λ t. IsWord t.value)
transfer_word w tw few None h = tt
transfer_word w tw few (Some t) h = let most = h.bits.most in below_word t.value t.bits h.value (omega (arith, most, few))

tells : (w : ℕ) (port : PortRec) → w ≤ 32 → HasFacts w port → TellsWords port
tells w _ few is_off = record { value = none; stamp = none; driven = tt; transfer = tt; transfer_width = none; bits = none }
tells w _ few (is_on port is) =
    let most = is.transfer_width.most in
    let stamp = is.stamp in
    let bits = is.shift.most in
    record {
      value = below_word port.value w is.value few;
      stamp = omega (arith, stamp);
      driven = driven_word w few port.driven is.driven;
      transfer = transfer_word w port.transfer_width most port.transfer is.transfer;
      transfer_width = omega (arith, most);
      bits = omega (arith, most, bits);
    }

module _ (p : PortNumber) (port : PortRec) (facts : HasFacts (port_width p) port) where
  its : TellsWords port
  its = tells (port_width p) port (width_few p) facts

  where_on_word : (acted : Acted) → GivesWord acted → GivesWord (if port.on then acted else Refuses)
  where_on_word acted gives = act_either port.on acted Refuses gives tt

  pub value_given : GivesWord (tell_value port)
  value_given = where_on_word (Gives port port.value) its.value

  pub stamp_given : GivesWord (tell_stamp port)
  stamp_given = where_on_word (Gives port port.stamp) its.stamp

  level_word : (driven : Option Word) (outside : Word) → IfSome driven IsWord → IsWord outside → IsWord (level_of driven outside)
  level_word None outside is shown = shown
  level_word (Some v) outside is shown = is

  pub level_given : (outside : Word) → IsWord outside → GivesWord (peek outside port)
  level_given outside shown = where_on_word (Gives port (level_of port.driven outside)) (level_word port.driven outside its.driven shown)

  turn_given : (wanted : Option ℕ) → GivesWord (turn_in p wanted port)
  turn_given wanted = by (has_left port)
    where
      by : (left : Bool) → GivesWord (if not left then PausesAt (wanting wanted (turned_in port)) (PortFull p) (let_go port) else PausesAt (wanting wanted port) (PortIdle p) None)
      by true = tt
      by false = tt

  transfer_given : (wanted : Option ℕ) (transfer : Option TransferRec) → IfSome transfer (λ t. IsWord t.value) → GivesWord (take_transfer p wanted port transfer)
  transfer_given wanted None is = tt
  transfer_given wanted (Some t) is = is

  pub taken_given : (wanted : Option ℕ) → GivesWord (take_in p wanted port)
  taken_given wanted =
      where_on_word _ (act_either port.output (turn_in p wanted port) (take_transfer p wanted port port.transfer) (turn_given wanted) (transfer_given wanted port.transfer its.transfer))

  pub part_given : (bits : ℕ) → GivesWord (take_part p bits port)
  part_given bits = act_either (is_part (port_width p) bits port) (take_in p (Some bits) port) Refuses (taken_given (Some bits)) tt

  ended : (transfer : Option TransferRec) → GivesWord (end_transfer port transfer)
  ended (Some t) = its.transfer_width
  ended None = its.bits

  pub end_given : GivesWord (end_in port)
  end_given = where_on_word _ (act_either (port.output || not port.buffered) Refuses (end_transfer port port.transfer) tt (ended port.transfer))
