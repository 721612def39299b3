-- Destinations, and the identifiers by which programs name them.
use Rattle.std.specs.Prelude.{◌/◌, ◌%◌}
use Rattle.xs_base.specs.Numbers.{Identifier}
use Rattle.xs_base.specs.Ids.{chan_id}
use Rattle.xs_model.specs.declared.dest.Dest.{Dest}

-- the destination that an identifier names: its low byte says only that it is a channel end's
abbrev pub dest_of : Identifier → Dest
dest_of id = record { node = id / 65536; chan = id / 256 % 256 }

abbrev pub id_of : Dest → Identifier
id_of dest = chan_id dest.node dest.chan
