-- What of a core a word names, as rows take it.
use Rattle.std.specs.Prelude.{◌<◌}
use Rattle.xs_base.specs.declared.numbers.TheConstants.{THREADS, TIMERS, CHAN_ENDS, SYNCHRONISERS, LOCKS, CLOCK_BLOCKS, PORTS}
use Rattle.xs_model.specs.declared.resource.Resource.{Resource}
use Rattle.xs_model.specs.declared.resource.Resource.TheVariants as resource

-- a core has a resource with this number
abbrev pub IsWithin : Resource → Type 0
IsWithin (resource.Timer n) = n < TIMERS
IsWithin (resource.Chan c) = c < CHAN_ENDS
IsWithin (resource.Sync n) = n < SYNCHRONISERS
IsWithin (resource.Thread j) = j < THREADS
IsWithin (resource.Lock n) = n < LOCKS
IsWithin (resource.Clock n) = n < CLOCK_BLOCKS
IsWithin (resource.Port p) = p < PORTS
