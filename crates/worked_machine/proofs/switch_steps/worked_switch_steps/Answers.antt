use Rattle.std.proofs.Common.{refl}
use Rattle.worked_machine.proofs.Computes.{computes}
use Rattle.worked_machine.proofs.switch_steps.worked_switch_steps.Goals as goal

pub returns-clause-link_ends : goal.returns-clause-link_ends
unfolding computes
returns-clause-link_ends c = record { eight_out = refl; credit_now = refl; credit_later = refl; in_gap = refl; gap_over = refl; never_sent = refl; taken = refl; eighth_kept = refl; dropped = refl; no_credit = refl; lowest = refl; none_free = refl; last_end = refl }

pub returns-clause-inputs : goal.returns-clause-inputs
unfolding computes
returns-clause-inputs c = record { pause_at_full = refl; pause_not_put = refl; end_at_full = refl; end_stays = refl; ctrl_in_header = refl; ctrl_dropped = refl; third_byte = refl; no_header = refl; no_dest = refl; no_dest_none = refl; chan_32 = refl; chan_32_waits = refl; at_once = refl; no_way = refl; way_back = refl; end_leaves = refl; next_holds = refl; next_waits = refl; first_out = refl; second_waits = refl; first_near = refl; second_near = refl; both_near = refl; first_ended = refl; second_holds = refl; after_pause = refl; lost_near = refl; lost_far = refl; lost_waits = refl; lost_byte = refl; lost_credit = refl; lost_pause = refl; holds_on = refl; holds_after = refl; gives_up = refl; pause_out = refl; pause_credit = refl; high_byte = refl; low_byte = refl; chan_byte = refl }

pub returns-clause-last_chan : goal.returns-clause-last_chan
unfolding computes
returns-clause-last_chan c = record { identifier = refl; named = refl; none_after = refl; got = refl; all_used = refl; delivered = refl; in_its_buffer = refl; lost = refl; lost_after = refl; lost_unused = refl; goes_out = refl; header_out = refl; to_itself = refl }
