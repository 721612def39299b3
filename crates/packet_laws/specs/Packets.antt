-- Packets in a row of tokens: each is the three header bytes of a destination, then tokens other than END and PAUSE, then END or PAUSE. The
-- last one may be cut.
use Rattle.std.specs.Prelude.{ℕ, zero, suc, ◌+◌, ◌*◌, ◌/◌, ◌%◌, Bool, if◌then◌else◌, Option, Some, None, option_and_then, List, [], ◌∷◌}
use Rattle.xs_base.specs.Numbers.{NodeId}
use Rattle.xs_base.specs.declared.token.Token.{Token}
use Rattle.xs_base.specs.declared.token.Token.TheVariants.{Byte, Ctrl}
use Rattle.xs_model.specs.declared.dest.Dest.{Dest}
use Rattle.net_model.specs.Switch.{ends_packet}

-- where a row of tokens ends: between packets, after one header byte or two, or within the packet for a destination
pub data Place : Type 0 where
  Between : Place
  AfterOne : (high : ℕ) → Place
  AfterTwo : (high low : ℕ) → Place
  Within : (dest : Dest) → Place

-- the header is whole: its destination must be on a node whose id passes
abbrev pub begun : (NodeId → Bool) → Dest → Option Place
begun passes dest = if passes dest.node then Some (Within dest) else None

-- after one more token. None where it is no token of a packet: a control token in the place of a header byte, or an id that does not pass
abbrev pub place_after : (NodeId → Bool) → Place → Token → Option Place
place_after passes Between (Byte b) = Some (AfterOne b)
place_after passes (AfterOne high) (Byte b) = Some (AfterTwo high b)
place_after passes (AfterTwo high low) (Byte b) = begun passes (record { node = high * 256 + low; chan = b })
place_after passes (Within dest) t = Some (if ends_packet t then Between else Within dest)
place_after passes _ (Ctrl c) = None

-- after more tokens: where these are packets, each for a node whose id passes, the place in which they end
unfoldable pub place_from : (NodeId → Bool) → Place → List Token → Option Place
place_from passes place [] = Some place
place_from passes place (t ∷ ts) = option_and_then (λ next. place_from passes next ts) (place_after passes place t)

abbrev pub place_of : (NodeId → Bool) → List Token → Option Place
place_of passes tokens = place_from passes Between tokens

-- where a row of tokens ends of which so many header bytes of a packet for a destination have gone out as the last
abbrev pub place_sent : ℕ → Dest → Place
place_sent zero dest = Between
place_sent (suc zero) dest = AfterOne (dest.node / 256)
place_sent (suc (suc zero)) dest = AfterTwo (dest.node / 256) (dest.node % 256)
place_sent (suc (suc (suc n))) dest = Within dest
