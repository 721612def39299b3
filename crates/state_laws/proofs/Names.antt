-- What a word names is there: its number is below the count of its kind.
use Rattle.std.proofs.Common.{ℕ, ◌<◌, ◌/◌, ◌%◌, ◌==◌, ◌&&◌, true, false, nat_lt, if◌then◌else◌, Bool, Option, Some, None}
use Rattle.std.proofs.lemmas.Bool.{cond_both, and_parts, ltb-true}
use Rattle.std.specs.Prelude.{IfSome}
use Rattle.xs_base.specs.Numbers.{ChanNumber, PortNumber, NodeId, Kind, Identifier}
use Rattle.xs_base.specs.Ids.{chan_id, port_with}
use Rattle.xs_base.specs.declared.numbers.TheConstants.{PORTS, THREADS, TIMERS, CHAN_ENDS, CLOCK_BLOCKS, SYNCHRONISERS, LOCKS, TIMER_KIND, CHAN_END_KIND, SYNCHRONISER_KIND, THREAD_KIND, LOCK_KIND, CLOCK_BLOCK_KIND}
use Rattle.xs_model.specs.Dests.{dest_of}
use Rattle.xs_model.specs.declared.resource.Resource.{Resource}
use Rattle.xs_model.specs.declared.resource.Resource.TheVariants as resource
use Rattle.net_model.specs.Chans.{chan_named}
use Rattle.step_model.specs.Named.{numbered, chan_resource, port_resource, of_kind, resource_named}
use Rattle.step_laws.proofs.Named.{IsPort, port_is_there}

abbrev pub IsThere : Resource → Type 0
IsThere (resource.Chan c) = c < CHAN_ENDS
IsThere (resource.Timer n) = n < TIMERS
IsThere (resource.Sync n) = n < SYNCHRONISERS
IsThere (resource.Thread j) = j < THREADS
IsThere (resource.Lock n) = n < LOCKS
IsThere (resource.Clock n) = n < CLOCK_BLOCKS
IsThere (resource.Port p) = p < PORTS

abbrev pub NamesThere : Option Resource → Type 0
NamesThere named = IfSome named IsThere

abbrev pub NamesChan : Option ChanNumber → Type 0
NamesChan named = IfSome named (λ c. c < CHAN_ENDS)

pub chan_there : (id : NodeId) (name : Identifier) → NamesChan (chan_named id name)
chan_there id name =
    let n = (dest_of name).chan in
    cond_both ((name == chan_id id n) && nat_lt n CHAN_ENDS) (Some n) None NamesChan (λ yes. ltb-true n CHAN_ENDS (and_parts _ _ yes).1) (λ no. tt)

numbered_there : (of_number : ℕ → Resource) (count number : ℕ) → (number < count → IsThere (of_number number)) → NamesThere (numbered of_number count number)
numbered_there of_number count number so =
    cond_both (nat_lt number count) (Some (of_number number)) None NamesThere (λ yes. so (ltb-true number count yes)) (λ no. tt)

chan_resource_there : (found : Option ChanNumber) → NamesChan found → NamesThere (chan_resource found)
chan_resource_there None h = tt
chan_resource_there (Some c) h = h

port_resource_there : (found : Option PortNumber) → IsPort found → NamesThere (port_resource found)
port_resource_there None h = tt
port_resource_there (Some p) h = h

either : (holds : Bool) (x y : Option Resource) → NamesThere x → NamesThere y → NamesThere (if holds then x else y)
either true x y one other = one
either false x y one other = other

kind_there : (id : NodeId) (name : Identifier) (kind : Kind) (number : ℕ) → NamesThere (of_kind id name kind number)
kind_there id name kind number =
    either (kind == TIMER_KIND) _ _ (numbered_there resource.Timer TIMERS number (λ h. h))
    (either (kind == CHAN_END_KIND) _ _ (chan_resource_there (chan_named id name) (chan_there id name))
    (either (kind == SYNCHRONISER_KIND) _ _ (numbered_there resource.Sync SYNCHRONISERS number (λ h. h))
    (either (kind == THREAD_KIND) _ _ (numbered_there resource.Thread THREADS number (λ h. h))
    (either (kind == LOCK_KIND) _ _ (numbered_there resource.Lock LOCKS number (λ h. h))
    (either (kind == CLOCK_BLOCK_KIND) _ _ (numbered_there resource.Clock CLOCK_BLOCKS number (λ h. h))
    (port_resource_there (port_with name) (port_is_there name)))))))

pub named_there : (id : NodeId) (name : Identifier) → NamesThere (resource_named id name)
named_there id name = kind_there id name (name % 256) (name / 256)
