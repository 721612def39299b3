-- What of a core a word names, by its kind and its number.
use Rattle.std.specs.Prelude.{ℕ, ◌/◌, ◌%◌, ◌==◌, nat_lt, if◌then◌else◌, Option, Some, None}
use Rattle.xs_base.specs.Numbers.{ChanNumber, PortNumber, NodeId, Kind, Identifier}
use Rattle.xs_base.specs.Ids.{port_with}
use Rattle.xs_base.specs.declared.numbers.TheConstants.{THREADS, TIMERS, CLOCK_BLOCKS, SYNCHRONISERS, LOCKS, TIMER_KIND, CHAN_END_KIND, SYNCHRONISER_KIND, THREAD_KIND, LOCK_KIND, CLOCK_BLOCK_KIND}
use Rattle.xs_model.specs.declared.resource.Resource.{Resource}
use Rattle.xs_model.specs.declared.resource.Resource.TheVariants as resource
use Rattle.net_model.specs.Chans.{chan_named}

-- the resource with a number, where its kind has so many
abbrev pub numbered : (ℕ → Resource) → ℕ → ℕ → Option Resource
numbered of_number count number = if nat_lt number count then Some (of_number number) else None

abbrev pub chan_resource : Option ChanNumber → Option Resource
chan_resource None = None
chan_resource (Some c) = Some (resource.Chan c)

abbrev pub port_resource : Option PortNumber → Option Resource
port_resource None = None
port_resource (Some p) = Some (resource.Port p)

-- the identifiers of all but channel ends and ports are a number above the kind, which is the low byte
abbrev pub of_kind : NodeId → Identifier → Kind → ℕ → Option Resource
of_kind id name kind number =
    if kind == TIMER_KIND then numbered resource.Timer TIMERS number
    else (if kind == CHAN_END_KIND then chan_resource (chan_named id name)
    else (if kind == SYNCHRONISER_KIND then numbered resource.Sync SYNCHRONISERS number
    else (if kind == THREAD_KIND then numbered resource.Thread THREADS number
    else (if kind == LOCK_KIND then numbered resource.Lock LOCKS number
    else (if kind == CLOCK_BLOCK_KIND then numbered resource.Clock CLOCK_BLOCKS number
    else port_resource (port_with name))))))

-- what a word names on the node with this id, whether it is in use or not
abbrev pub resource_named : NodeId → Identifier → Option Resource
resource_named id name = of_kind id name (name % 256) (name / 256)
