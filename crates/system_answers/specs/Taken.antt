-- How much of a system text is enough.
use Rattle.std.specs.Prelude.{ℕ, ◌≡◌, ◌+◌, min, List, length, take}
use Rattle.system_model.specs.System.{longest_input, system_of}

-- the bytes that are taken stand for what the whole text stands for, since one that is too long is seen by one byte more than it may have
abbrev pub TakenStandsForAll : Type 0
TakenStandsForAll = (input : List ℕ) → system_of (take (min (length input) (longest_input + 1)) input) ≡ system_of input
