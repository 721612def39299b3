-- The least of some ids for which a packet may go on.
use Rattle.std.specs.Prelude.{ℕ, ◌*◌, ◌/◌, ◌%◌, ◌^◌, Bool, if◌then◌else◌, Option, Some, None, min, bit_xor}
use Rattle.xs_base.specs.Numbers.{NodeId}

-- the least id that first differs from an id at a bit: the bits above are those of the id, and those below are 0
abbrev pub nearest : NodeId → ℕ → NodeId
nearest id bit = bit_xor (id / 2 ^ bit) 1 * 2 ^ bit % 65536

abbrev pub lesser : Option NodeId → NodeId → NodeId
lesser None dest = dest
lesser (Some found) dest = min found dest

-- the lesser of the id that is found and a further one, if that passes
abbrev pub or_lesser : (NodeId → Bool) → Option NodeId → NodeId → Option NodeId
or_lesser test found dest = if test dest then Some (lesser found dest) else found
