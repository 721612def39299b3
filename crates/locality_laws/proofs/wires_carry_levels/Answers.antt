use Rattle.locality_laws.proofs.Levels.{links_carry_no_level, driven_levels_fit, wires_carry_levels}
use Rattle.locality_laws.proofs.Shown.{shown_levels_fit}
use Rattle.locality_laws.proofs.wires_carry_levels.Goals as goal

pub returns-clause-none : goal.returns-clause-none
returns-clause-none c = links_carry_no_level

pub returns-clause-driven : goal.returns-clause-driven
returns-clause-driven c = driven_levels_fit

pub returns-clause-levels : goal.returns-clause-levels
returns-clause-levels c = wires_carry_levels

pub returns-clause-shown : goal.returns-clause-shown
returns-clause-shown c = shown_levels_fit
