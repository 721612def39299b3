-- What getting a resource gives.
use Rattle.std.specs.Prelude.{ℕ, Option, Some, None}
use Rattle.xs_base.specs.Numbers.{NodeId, ChanNumber, Kind, Word}
use Rattle.xs_base.specs.Ids.{chan_id, res_id}

-- the identifier of the channel end that was got, or 0 where none was
abbrev pub name_of_got : NodeId → Option ChanNumber → Word
name_of_got id None = 0
name_of_got id (Some c) = chan_id id c

-- the identifier of another resource that was got, or 0 where none was
abbrev pub name_of : Kind → Option ℕ → Word
name_of kind None = 0
name_of kind (Some n) = res_id n kind
