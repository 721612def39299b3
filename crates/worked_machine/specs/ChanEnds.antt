-- What programs find at a channel end, worked out by hand.
use Rattle.std.specs.Prelude.{ℕ, ◌≡◌, Some, List, [], ◌∷◌, ◌++◌, replicate}
use Rattle.xs_base.specs.declared.token.Token.{Token}
use Rattle.xs_base.specs.declared.token.Token.TheVariants.{Byte, Ctrl}
use Rattle.xs_model.specs.Record.{ChanRec, unused_chan}
use Rattle.net_model.specs.Chans.{Got, Waits, Refused, got_chan, found_at, put_token, put_word, take_word, take_byte, take_ctrl, check_token, look, look_word, take_dest, tell_dest, take_net, tell_net, chan_after}

-- a channel end to which these tokens came
abbrev pub came : List Token → ChanRec
came tokens = record got_chan { input = tokens }

-- one with a destination, at which these tokens wait to go out
abbrev pub waits_with : List Token → ChanRec
waits_with tokens = record got_chan { dest = Some 0x00050002; output = tokens }

abbrev pub bytes : ℕ → List Token
bytes count = replicate count (Byte 9)

-- two bytes and END
abbrev pub two_and_end : List Token
two_and_end = Byte 5 ∷ Byte 6 ∷ Ctrl 1 ∷ []

abbrev pub three_bytes : List Token
three_bytes = Byte 1 ∷ Byte 2 ∷ Byte 3 ∷ []

abbrev pub four_bytes : List Token
four_bytes = Byte 1 ∷ Byte 2 ∷ Byte 3 ∷ Byte 4 ∷ []

pub record WorkedChans : Type 0 where
  -- two bytes and END are no word, and END is the third; the first byte can be taken
  pub no_word : take_word (came two_and_end) ≡ Refused
  pub third_place : look_word (came two_and_end) ≡ Got (came two_and_end) 3
  pub first_byte : take_byte (came two_and_end) ≡ Got (came (Byte 6 ∷ Ctrl 1 ∷ [])) 5
  -- three bytes: a word waits for the fourth, and none is a control token
  pub three : take_word (came three_bytes) ≡ Waits
  pub no_control : take_ctrl (came three_bytes) ≡ Refused
  pub three_looked : look_word (came three_bytes) ≡ Waits
  -- four bytes are a word, and then nothing is there
  pub word : take_word (came four_bytes) ≡ Got (came []) 0x01020304
  pub nothing : look (chan_after (came four_bytes) (take_word (came four_bytes))) ≡ Waits
  pub no_place : look_word (came four_bytes) ≡ Got (came four_bytes) 0
  -- of five tokens the fifth stays, whatever it is
  pub fifth : take_word (came (four_bytes ++ Ctrl 1 ∷ [])) ≡ Got (came (Ctrl 1 ∷ [])) 0x01020304
  pub fifth_place : look_word (came (four_bytes ++ Ctrl 1 ∷ [])) ≡ Got (came (four_bytes ++ Ctrl 1 ∷ [])) 0
  -- one token: by its sort, and by its value
  pub control : take_ctrl (came (Ctrl 200 ∷ Byte 1 ∷ [])) ≡ Got (came (Byte 1 ∷ [])) 200
  pub no_byte : take_byte (came (Ctrl 1 ∷ [])) ≡ Refused
  pub is_control : look (came (Ctrl 5 ∷ [])) ≡ Got (came (Ctrl 5 ∷ [])) 1
  pub is_byte : look (came (Byte 5 ∷ Ctrl 1 ∷ [])) ≡ Got (came (Byte 5 ∷ Ctrl 1 ∷ [])) 0
  pub checked : check_token 1 (came (Ctrl 1 ∷ [])) ≡ Got (came []) 1
  pub other_value : check_token 0x101 (came (Ctrl 1 ∷ [])) ≡ Refused
  pub byte_of_the_value : check_token 1 (came (Byte 1 ∷ [])) ≡ Refused
  pub none_to_check : check_token 1 (came []) ≡ Waits
  -- four places are free for a word, one for a token
  pub fourth_free : put_word 0xfffefdfc (waits_with (bytes 4)) ≡ Got (waits_with (bytes 4 ++ Byte 255 ∷ Byte 254 ∷ Byte 253 ∷ Byte 252 ∷ [])) 0
  pub three_free : put_word 0xfffefdfc (waits_with (bytes 5)) ≡ Waits
  pub eighth : put_token (Ctrl 1) (waits_with (bytes 7)) ≡ Got (waits_with (bytes 7 ++ Ctrl 1 ∷ [])) 0
  pub ninth : put_token (Ctrl 1) (waits_with (bytes 8)) ≡ Waits
  -- without a destination all is refused, though there is no room
  pub no_dest : put_word 7 (record got_chan { output = bytes 8 }) ≡ Refused
  pub token_no_dest : put_token (Byte 7) got_chan ≡ Refused
  -- a destination may be channel end 255 of a node; its low byte must be 2
  pub dest_set : take_dest 0x0005ff02 got_chan ≡ Got (record got_chan { dest = Some 0x0005ff02 }) 0
  pub no_chan_end : take_dest 0x00050003 (waits_with []) ≡ Refused
  pub dest_told : tell_dest (waits_with []) ≡ Got (waits_with []) 0x00050002
  pub none_told : tell_dest got_chan ≡ Got got_chan 0
  -- the networks are 0 to 3
  pub net_set : take_net 3 (waits_with (bytes 2)) ≡ Got (record (waits_with (bytes 2)) { net = 3 }) 0
  pub net_0_set : take_net 0 (record got_chan { net = 2 }) ≡ Got got_chan 0
  pub no_net_4 : take_net 4 got_chan ≡ Refused
  pub no_net_256 : take_net 256 got_chan ≡ Refused
  pub net_told : tell_net (record got_chan { net = 2 }) ≡ Got (record got_chan { net = 2 }) 2
  -- a channel end that is not in use refuses
  pub unused : found_at look unused_chan ≡ Refused
  pub unused_no_dest : found_at tell_dest unused_chan ≡ Refused
  pub unused_no_net : found_at tell_net (record unused_chan { net = 3 }) ≡ Refused
  pub unused_takes_no_net : found_at (take_net 3) unused_chan ≡ Refused
