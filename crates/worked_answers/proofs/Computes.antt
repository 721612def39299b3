-- The definitions by which an answer comes from words and input. A proof that runs them names `computes` alone.
use Rattle.std.specs.Fmt.{digits}
use Rattle.xs_text.specs.Words.{without_comment, parted}
use Rattle.xs_text.specs.Lines.{lines_of, line_length}
use Rattle.xs_text.specs.Tokens.{tokens_after}
use Rattle.system_model.specs.FrameLines.{node_line, end_name, link_line, pin_name, wire_line, numbers_of, bit_line, section_line, frame_line, play_line}
use Rattle.system_model.specs.Frame.{frame_from, framed}
use Rattle.system_model.specs.System.{mask_where, node_plans, system_of}
use Rattle.pin_scripts.specs.Pins.{port_of, pin_form, pins_from, pins_of}
use Rattle.answer_model.specs.Forms.{form_of_words}
use Rattle.answer_model.specs.Top.{answer}
use Rattle.xs_instructions.specs.Words.{register_number, fixed}
use Rattle.xs_instructions.specs.Find.{find, known}
use Rattle.source_model.specs.Canonical.{behind_labels, first_name_at}
use Rattle.source_model.specs.Each.{all_some}
use Rattle.source_model.specs.Operands.{operands_after}
use Rattle.source_model.specs.Values.{values_from}
use Rattle.source_model.specs.Statement.{labels_first, after_labels}
use Rattle.source_model.specs.Layout.{place_of, define_all, after_lines}
use Rattle.source_model.specs.Source.{defines_twice, first_fault, code_of_lines, bytes_of_lines}
use Rattle.xs_base.specs.Ids.{port_among}
use Rattle.xs_model.specs.Bits as bits
use Rattle.xs_model.specs.Choices.{first_ready}
use Rattle.xs_model.specs.Picks.{best_from}
use Rattle.xs_model.specs.Ports.{edges_from}
use Rattle.xs_model.specs.Memory.{words_of}
use Rattle.net_model.specs.Ways.{first_difference}
use Rattle.net_model.specs.Links.{links_after_arrivals}
use Rattle.xs_model.specs.Free.{lowest_free}
use Rattle.net_model.specs.Switch.{free_end, moves_from}
use Rattle.step_model.specs.Step.{node_step}
use Rattle.serial_model.specs.Serial.{serial, since}
use Rattle.trace_model.specs.EventLines.{hex_word}
use Rattle.trace_model.specs.EventOrder.{by_slot}
use Rattle.trace_model.specs.Trace.{halted_lines, memory_lines, by_position, end_text, trace_text}
use Rattle.byte_forms.specs.Forms.{read_bytes, read_number, read_chain, write_chain}
use Rattle.snap_codec.specs.Body.{body}
use Rattle.snap_codec.specs.Snaps.{line, text_field, head, snap_of, snap_bytes}
use Rattle.snap_model.specs.Rest.{rest_text}
use Rattle.ahead_limits.specs.Schedule.{clock_after}
use Rattle.play_model.specs.Play.{played_from}
use Rattle.play_model.specs.PlayText.{play_text}
use Rattle.rank_model.specs.Lines.{rank_line, head_from}
use Rattle.wave_model.specs.Reads.{after_line, wave_from}
use Rattle.wave_model.specs.Runs.{changes_before}
use Rattle.rank_model.specs.Lines as ranks
use Rattle.rank_model.specs.Next.{first_from}
use Rattle.rank_model.specs.Checks.{lines_checked}

-- names them all on its own line, so that they unfold where it does
unfoldable pub computes : Type 0
unfolding digits without_comment parted lines_of line_length tokens_after node_line end_name link_line pin_name wire_line numbers_of bit_line section_line frame_line play_line frame_from framed mask_where node_plans system_of port_of pin_form pins_from pins_of form_of_words answer register_number fixed find known behind_labels first_name_at all_some operands_after values_from labels_first after_labels place_of define_all after_lines defines_twice first_fault code_of_lines bytes_of_lines port_among bits.bits_of bits.value_of first_ready best_from edges_from words_of first_difference links_after_arrivals lowest_free free_end moves_from node_step serial since hex_word by_slot halted_lines memory_lines by_position end_text trace_text read_bytes read_number read_chain write_chain body line text_field head snap_of snap_bytes rest_text clock_after played_from play_text rank_line head_from after_line wave_from changes_before ranks.bytes_of_lines first_from lines_checked
computes = Unit {0}
