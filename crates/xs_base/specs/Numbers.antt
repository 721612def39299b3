-- What the numbers of the definitions count or name.
use Rattle.std.specs.Prelude.{ℕ}

-- slots from the start of a run
abbrev pub Slot : Type 0
Slot = ℕ

-- a word, below 2 ^ 32
abbrev pub Word : Type 0
Word = ℕ

-- a register of a thread: 0 to 11 are r0 to r11, then come cp, dp, sp and lr
abbrev pub Register : Type 0
Register = ℕ

-- a thread of a core, 0 to 7
abbrev pub ThreadNumber : Type 0
ThreadNumber = ℕ

-- a channel end of a core, 0 to 31
abbrev pub ChanNumber : Type 0
ChanNumber = ℕ

-- an end of a node: 0 to 7 are its link ends, and from 8 on those of wires that come to it, or, counted apart, that leave it
abbrev pub EndNumber : Type 0
EndNumber = ℕ

-- an input of a node's switch, 0 to 39: those of the link ends, then those of the channel ends
abbrev pub InputNumber : Type 0
InputNumber = ℕ

-- a port of a core, 0 to 28
abbrev pub PortNumber : Type 0
PortNumber = ℕ

-- a kind of resource, as `getr` and identifiers name it
abbrev pub Kind : Type 0
Kind = ℕ

-- the word by which programs name a resource, and packets their destination
abbrev pub Identifier : Type 0
Identifier = ℕ

-- the id of a node, 0 to 65,535
abbrev pub NodeId : Type 0
NodeId = ℕ

-- the position of a node in the list of a plan's nodes
abbrev pub Position : Type 0
Position = ℕ

-- a directed link of a plan, or, after all of these, a wire
abbrev pub LinkNumber : Type 0
LinkNumber = ℕ
