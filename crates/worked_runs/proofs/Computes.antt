-- The definitions by which a run computes, and what is written of it. A proof that runs them names `computes` alone.
use Rattle.std.specs.Fmt.{digits}
use Rattle.xs_base.specs.Ids.{port_among}
use Rattle.xs_model.specs.Bits.{bits_of, value_of}
use Rattle.xs_model.specs.Memory.{words_of}
use Rattle.xs_model.specs.Picks.{best_from}
use Rattle.xs_model.specs.Ports.{edges_from}
use Rattle.xs_model.specs.Free.{lowest_free}
use Rattle.net_model.specs.Ways.{first_difference}
use Rattle.net_model.specs.Links.{links_after_arrivals}
use Rattle.net_model.specs.Switch.{moves_from, free_end}
use Rattle.step_model.specs.Step.{node_step}
use Rattle.serial_model.specs.Serial.{serial}
use Rattle.locality_laws.specs.Alone.{alone}
use Rattle.ahead_limits.specs.Schedule.{clock_after, after_steps}
use Rattle.round_laws.specs.Rounds.{round_clocks, rounds_from}
use Rattle.trace_model.specs.EventLines.{hex_word}
use Rattle.trace_model.specs.EventOrder.{by_slot}
use Rattle.trace_model.specs.Trace.{halted_lines, memory_lines, by_position, end_text, trace_text}
use Rattle.play_model.specs.Play.{played_from}
use Rattle.play_model.specs.PlayText.{play_text}
use Rattle.load_model.specs.Load.{load_text}
use Rattle.busy_slots.specs.Busy.{busy_count}
use Rattle.rank_model.specs.Next.{first_from}
use Rattle.rank_model.specs.Checks.{lines_checked}

-- names them all on its own line, so that they unfold where it does
unfoldable pub computes : Type 0
unfolding digits port_among bits_of value_of words_of best_from edges_from lowest_free first_difference links_after_arrivals moves_from free_end node_step serial alone clock_after after_steps round_clocks rounds_from hex_word by_slot halted_lines memory_lines by_position end_text trace_text played_from play_text load_text busy_count first_from lines_checked
computes = Unit {0}
