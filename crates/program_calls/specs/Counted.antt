-- How often a source that counts its reads is read.
use Rattle.std.specs.Prelude.{ℕ, ◌+◌, ◌≤◌, Result}
use Rattle.xs_edge.specs.declared.Failed.{Failed}
use Rattle.xs_edge.specs.Edge.{HasRisen}
use Rattle.xs_edge.specs.Stores.{Counting}
use Rattle.program_calls.specs.Reads.{ReadsAtMost}

-- one read is counted
abbrev pub CountsRead : Counting → ℕ → Result ℕ Failed → Counting → Type 0
CountsRead old room answered new = HasRisen old.reads new.reads

-- its count rises by at most as many as there are reads at most
abbrev pub ReadsAreCounted : Type 0
ReadsAreCounted = (most : ℕ) (from to : Counting) → ReadsAtMost CountsRead most from to → to.reads ≤ from.reads + most
