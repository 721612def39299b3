-- How a row on words ends, whichever it is.
use Rattle.std.specs.Prelude.{◌≡◌}
use Rattle.xs_model.specs.declared.thread.Outcome.{Outcome}
use Rattle.xs_model.specs.declared.thread.Thread.{Thread}
use Rattle.xs_model.specs.declared.thread.Outcome.TheVariants as outcome
use Rattle.xs_model.specs.declared.traps.TheConstants.{ARITHMETIC}
use Rattle.step_model.specs.Effect.{Leaving}
use Rattle.step_model.specs.Outcomes.{EndsAs, IsDoneOrTraps}

-- where it traps, with this number and no data
abbrev pub TrapsAsArithmetic : Outcome → Type 0
TrapsAsArithmetic (outcome.Trap et ed) = (et ≡ ARITHMETIC) × (ed ≡ 0)
TrapsAsArithmetic _ = Unit {0}

-- it leaves this, is done or traps so, and no more of the thread changes than its registers
pub record IsRow (result : Outcome) (before after : Thread) (leaving : Leaving Thread) : Type 0 where
  pub row : EndsAs result before after leaving
  pub ends : IsDoneOrTraps result before after
  pub trap : TrapsAsArithmetic result
  pub stays : after ≡ record before { r = after.r }
