-- The names of pins as the reader takes them.
use Rattle.system_model.specs.declared.frame_line.PinName.{PinName}
use Rattle.system_text.specs.declared.wire_lines.NamedPin.{NamedPin}
use Rattle.system_text.specs.Forms.{capped}

-- a pin as it is read
abbrev pub capped_pin : PinName → NamedPin
capped_pin name = record { node = capped name.node; port = name.port }

abbrev pub pin_of : NamedPin → PinName
pin_of name = record { node = name.node; port = name.port }
