-- How a node's last division, the levels of its pins and its memory stand in bytes.
use Rattle.std.specs.Prelude.{ℕ, ◌^◌, List, length, Option}
use Rattle.xs_base.specs.Numbers.{Slot}
use Rattle.xs_base.specs.Ids.{port_width}
use Rattle.xs_base.specs.declared.numbers.TheConstants.{PORTS, MEMORY_BYTES}
use Rattle.byte_forms.specs.Forms.{Form, word, bytes, below, option_below, chain}

-- the last division, which was before this slot
abbrev pub division : Slot → Form (Option ℕ)
division slot = option_below word slot

-- the level of the pins of the port that has as many before it: of so many bits
abbrev pub level_after : List ℕ → Form ℕ
level_after before = below word (2 ^ port_width (length before))

-- the level of the pins of each port, in order
unfoldable pub levels : Form (List ℕ)
levels = chain PORTS level_after

-- the bytes of the memory, as one field
unfoldable pub memory : Form (List ℕ)
memory = bytes MEMORY_BYTES
