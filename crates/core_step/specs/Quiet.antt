-- A core that is quiet for some slots.
use Rattle.std.specs.Prelude.{◌≡◌, ◌-◌, ◌<◌, ◌||◌, true, List, Option}
use Rattle.xs_base.specs.Numbers.{Slot}
use Rattle.xs_model.specs.Record.{LinkRec}
use Rattle.switch_routes.specs.Rows.{AllCountsOf}
use Rattle.quiet_model.specs.Slots.{NoneBefore}
use Rattle.quiet_model.specs.Clocks.{ports_counted}
use Rattle.quiet_model.specs.Still.{network_is_still, ports_are_still}
use Rattle.quiet_model.specs.Stirs.{some_eligible, ports_stir}
use Rattle.core_step.specs.Core.{CoreValue}
use Rattle.core_step.specs.declared.rest.Rest.{Rest}

-- the core is still, and in none of the slots from one on and before another a thread may issue or a port's next transfer begins,
-- when until then its ports only count
pub record IsQuietTo (value : CoreValue) (from slot : Slot) : Type 0 where
  pub network : (links : List (Option LinkRec)) → AllCountsOf value.links links → network_is_still value.core.chans links value.inputs ≡ true
  pub ports : ports_are_still value.core.ports ≡ true
  pub none : NoneBefore (λ t. ports_stir value.core.clocks t (ports_counted value.core.clocks from (t - from) value.core.ports) || some_eligible value.core t) from slot

-- what is known of the slots in which it is quiet is so
abbrev pub IsRest : CoreValue → Rest → Type 0
IsRest value rest = rest.from < rest.until → IsQuietTo value rest.from rest.until
