-- The busy slots of a node in the serial machine: those in which something arrives at it, or it stirs.
use Rattle.std.specs.Prelude.{ℕ, zero, suc, ◌+◌, Bool, ◌||◌, is_some, if◌then◌else◌}
use Rattle.std.specs.List.{list_any}
use Rattle.xs_base.specs.Numbers.{Slot, Position}
use Rattle.xs_model.specs.declared.outside.Arrivals.{Arrivals}
use Rattle.sys_plan.specs.Plan.{PlanRec}
use Rattle.serial_model.specs.Serial.{serial, arrivals_at}
use Rattle.locality_laws.specs.Locality.{node_in}
use Rattle.quiet_model.specs.Stirs.{stirs}

-- a token or a credit comes by some link end, whether there is room for it or not; a level, which comes by a wire, is neither
abbrev pub brings_something : Arrivals → Bool
brings_something arrivals = list_any (λ token. is_some token) arrivals.tokens || list_any (λ (credit : Bool). credit) arrivals.credits

-- something arrives at the node at a position in a slot of the serial machine
abbrev pub something_arrives : PlanRec → Position → Slot → Bool
something_arrives plan n slot = brings_something (arrivals_at plan (serial plan slot).histories slot n)

abbrev pub is_busy : PlanRec → Position → Slot → Bool
is_busy plan n slot = something_arrives plan n slot || stirs (node_in (serial plan slot) n) slot

-- how many of the slots before this one are busy
unfoldable pub busy_count : PlanRec → Position → Slot → ℕ
busy_count plan n zero = 0
busy_count plan n (suc slot) = busy_count plan n slot + (if is_busy plan n slot then 1 else 0)
