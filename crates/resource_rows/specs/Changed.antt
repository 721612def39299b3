-- What a change that may be refused leaves.
use Rattle.std.specs.Prelude.{◌≡◌, Bool, true, false, Option, Some, None}
use Rattle.xs_model.specs.Record.{CoreRec}

-- whether it was made, and the core after it, which is as before where it may not be
abbrev pub IsChanged : Bool → CoreRec → CoreRec → Option CoreRec → Type 0
IsChanged made old new None = (made ≡ false) × (new ≡ old)
IsChanged made old new (Some after) = (made ≡ true) × (new ≡ after)
