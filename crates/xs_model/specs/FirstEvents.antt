-- Which of a node's events a run keeps: the first 262,144.
use Rattle.std.specs.Prelude.{ℕ, ◌-◌, List, length, take}
use Rattle.xs_model.specs.declared.event.Event.{Event}

abbrev pub kept_at_most : ℕ
kept_at_most = 262144

abbrev pub first_events : List Event → List Event
first_events all = take kept_at_most all

-- how many come after those
abbrev pub left_out : List Event → ℕ
left_out all = length all - kept_at_most
