-- A line of a script, as it is kept.
use Rattle.xs_text.specs.Lines.{lines_of}
use Rattle.explain_frame_model.specs.Script.{ScriptLine}
use Rattle.explain_script_text.specs.declared.script_line.ScriptLine as kept

abbrev pub line_of_kept : kept.ScriptLine → ScriptLine
line_of_kept at = record { first = at.first; lines = lines_of at.script.now; line = at.line }
