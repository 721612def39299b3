-- What stays known of a core.
use Rattle.std.specs.Prelude.{Option, IfSome}
use Rattle.xs_model.specs.Record.{CoreRec}
use Rattle.core_waits.specs.declared.able.Able.{Able}
use Rattle.core_waits.specs.Parts.{AreAble}

-- what is known of the threads that are able
abbrev pub IsKnown : CoreRec → Option Able → Type 0
IsKnown core able = IfSome able (AreAble core)

-- it stays true by a change of the core
abbrev pub StaysKnown : CoreRec → CoreRec → Type 0
StaysKnown old new = (able : Option Able) → IsKnown old able → IsKnown new able
