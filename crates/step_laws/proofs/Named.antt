-- A port that a word names is one that every core has.
use Rattle.std.proofs.Common.{◌≡◌, ℕ, zero, suc, ◌+◌, ◌<◌, ◌/◌, ◌%◌, ◌==◌, Bool, true, false, nat_lt, if◌then◌else◌, Option, Some, None, refl, arith}
use Rattle.xs_base.specs.Numbers.{ChanNumber, PortNumber, NodeId, Kind, Identifier}
use Rattle.xs_base.specs.Ids.{port_id, port_among, port_with}
use Rattle.xs_base.specs.declared.numbers.TheConstants.{PORTS, THREADS, TIMERS, CLOCK_BLOCKS, SYNCHRONISERS, LOCKS, TIMER_KIND, CHAN_END_KIND, SYNCHRONISER_KIND, THREAD_KIND, LOCK_KIND, CLOCK_BLOCK_KIND}
use Rattle.xs_model.specs.declared.resource.Resource.{Resource}
use Rattle.xs_model.specs.declared.resource.Resource.TheVariants as resource
use Rattle.net_model.specs.Chans.{chan_named}
use Rattle.step_model.specs.Named.{chan_resource, port_resource, of_kind, resource_named}

abbrev pub IsPort : Option PortNumber → Type 0
IsPort None = Unit {0}
IsPort (Some p) = p < PORTS

abbrev pub NamesPort : Option Resource → Type 0
NamesPort (Some (resource.Port p)) = p < PORTS
NamesPort _ = Unit {0}

first_is_port : (p : PortNumber) (is : Bool) (rest : Option PortNumber) → p < PORTS → IsPort rest → IsPort (if is then Some p else rest)
first_is_port p true rest h k = h
first_is_port p false rest h k = k

among_is_port : (n p : ℕ) (name : Identifier) → p + n ≡ PORTS → IsPort (port_among n p name)
unfolding port_among
among_is_port zero p name e = tt
among_is_port (suc n) p name e =
    first_is_port p (port_id p == name) (port_among n (p + 1) name) (omega arith) (among_is_port n (p + 1) name (omega arith))

pub port_is_there : (name : Identifier) → IsPort (port_with name)
port_is_there name = among_is_port PORTS 0 name refl

port_names : (found : Option PortNumber) → IsPort found → NamesPort (port_resource found)
port_names None h = tt
port_names (Some p) h = h

chan_names : (found : Option ChanNumber) → NamesPort (chan_resource found)
chan_names None = tt
chan_names (Some c) = tt

either : (holds : Bool) (x y : Option Resource) → NamesPort x → NamesPort y → NamesPort (if holds then x else y)
either true x y one other = one
either false x y one other = other

pub named_is_there : (id : NodeId) (name : Identifier) → NamesPort (resource_named id name)
named_is_there id name = kind_names (name % 256) (name / 256)
  where
    kind_names : (kind : Kind) (number : ℕ) → NamesPort (of_kind id name kind number)
    kind_names kind number =
        either (kind == TIMER_KIND) _ _ (either (nat_lt number TIMERS) (Some (resource.Timer number)) None tt tt)
        (either (kind == CHAN_END_KIND) _ _ (chan_names (chan_named id name))
        (either (kind == SYNCHRONISER_KIND) _ _ (either (nat_lt number SYNCHRONISERS) (Some (resource.Sync number)) None tt tt)
        (either (kind == THREAD_KIND) _ _ (either (nat_lt number THREADS) (Some (resource.Thread number)) None tt tt)
        (either (kind == LOCK_KIND) _ _ (either (nat_lt number LOCKS) (Some (resource.Lock number)) None tt tt)
        (either (kind == CLOCK_BLOCK_KIND) _ _ (either (nat_lt number CLOCK_BLOCKS) (Some (resource.Clock number)) None tt tt) (port_names (port_with name) (port_is_there name)))))))
