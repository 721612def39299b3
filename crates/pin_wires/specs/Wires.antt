-- What wires are told of the pins that a node drives, and what its pins show by those that end there.
use Rattle.std.specs.Prelude.{ℕ, ◌==◌, if◌then◌else◌, Option, Some, None, List, map, slice_index_or}
use Rattle.std.specs.List.{range_with_len}
use Rattle.xs_base.specs.Numbers.{Word, PortNumber}
use Rattle.xs_model.specs.Masks.{in_mask}
use Rattle.xs_model.specs.Ports.{level_of}

-- the level that a wire takes from a port: what it drives, 0 where it drives nothing
abbrev pub driven_or_low : Option Word → Word
driven_or_low driven = level_of driven 0

-- what a wire is told where its first pin had one level before and has another now: the new one, if they differ
abbrev pub new_level : Word → Word → Option Word
new_level before now = if now == before then None else Some now

-- what the pins of a port show from outside: the level that came last by a wire where one ends there, by a mask of
-- ports, and else that of the script
abbrev pub level_over : ℕ → List Word → List Word → PortNumber → Word
level_over wired came script port = if in_mask wired port then slice_index_or came port 0 else slice_index_or script port 0

-- what those of all ports show
abbrev pub levels_over : ℕ → List Word → List Word → List Word
levels_over wired came script = map (level_over wired came script) (range_with_len 0 29)
