-- The recursions by which facts are worked out.
use Rattle.std.specs.Fmt.{digits}
use Rattle.xs_text.specs.Tokens.{tokens_after}
use Rattle.xs_text.specs.Words.{word_length, without_comment, parted}
use Rattle.pin_scripts.specs.Pins.{port_of}
use Rattle.system_model.specs.FrameLines.{section_line, end_name}
use Rattle.explain_model.specs.Near.{is_one_edit, near_from}
use Rattle.explain_model.specs.Placed.{placed_after, placed_labels, placed_statement}
use Rattle.explain_model.specs.Words.{words_after}
use Rattle.explain_frame_model.specs.FrameBefore.{inside_after_lines, lines_from}
use Rattle.explain_frame_model.specs.FrameGifts.{numbers_below}
use Rattle.explain_frame_model.specs.FrameTold.{line_told, frame_told}
use Rattle.explain_frame_model.specs.FrameWords.{first_repeated}
use Rattle.explain_frame_model.specs.Script.{last_slot, first_giving, script_told}
use Rattle.explain_frame_model.specs.WordForms.{stop_of_words, with_forms}
use Rattle.warning_model.specs.Named.{note_names, note_named, last_from, has_setd}
use Rattle.warning_model.specs.Source.{warnings_of_labels, warnings_of_values, warnings_of_lines}
use Rattle.warning_model.specs.Texts.{four_digits, warning_text, told_text, warnings_text}

unfoldable pub computes : Type 0
unfolding digits tokens_after word_length without_comment parted port_of section_line end_name is_one_edit near_from placed_after placed_labels placed_statement words_after
    inside_after_lines lines_from numbers_below line_told frame_told first_repeated last_slot first_giving script_told stop_of_words with_forms
    note_names note_named last_from has_setd warnings_of_labels warnings_of_values warnings_of_lines four_digits warning_text told_text warnings_text
computes = Unit {0}
