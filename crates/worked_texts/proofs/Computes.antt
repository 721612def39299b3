-- The definitions by which a text is read, and the canonical text comes from an image. A proof that runs them names `computes` alone.
use Rattle.std.specs.Fmt.{digits}
use Rattle.xs_text.specs.Words.{without_comment, parted}
use Rattle.xs_text.specs.Lines.{lines_of, line_length}
use Rattle.xs_text.specs.Tokens.{tokens_after}
use Rattle.xs_instructions.specs.Words.{register_number, fixed}
use Rattle.xs_instructions.specs.Find.{find, known}
use Rattle.source_model.specs.Each.{all_some}
use Rattle.source_model.specs.Operands.{operands_after}
use Rattle.source_model.specs.Values.{values_from}
use Rattle.source_model.specs.Statement.{labels_first, after_labels}
use Rattle.source_model.specs.Layout.{place_of, define_all, after_lines}
use Rattle.source_model.specs.Source.{defines_twice, first_fault, code_of_lines, bytes_of_lines}
use Rattle.source_model.specs.Canonical.{behind_labels, first_name_at}
use Rattle.pin_scripts.specs.Pins.{port_of, pin_form, pins_from, pins_of}
use Rattle.system_model.specs.FrameLines.{node_line, end_name, link_line, pin_name, wire_line, numbers_of, bit_line, section_line, frame_line, play_line}
use Rattle.system_model.specs.Frame.{frame_from, framed}
use Rattle.system_model.specs.System.{mask_where, node_plans, system_of}
use Rattle.rank_model.specs.Lines.{rank_line, head_from}
use Rattle.rank_model.specs.Lines as ranks

-- names them all on its own line, so that they unfold where it does
unfoldable pub computes : Type 0
unfolding digits without_comment parted lines_of line_length tokens_after register_number fixed find known all_some operands_after values_from labels_first after_labels place_of define_all after_lines defines_twice first_fault code_of_lines bytes_of_lines behind_labels first_name_at port_of pin_form pins_from pins_of node_line end_name link_line pin_name wire_line numbers_of bit_line section_line frame_line play_line frame_from framed mask_where node_plans system_of rank_line head_from ranks.bytes_of_lines
computes = Unit {0}
